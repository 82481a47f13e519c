use Rattle.std.proofs.Common.{◌≡◌, eq-eqb, arith}
use Rattle.std.proofs.lemmas.List.{take_more}
use Rattle.hys_ast.proofs.PlaceSteps.{breaks, goes_on, starts, ends, differs}
use Rattle.hys_ast.proofs.place.advance.Goals as goal
use Rattle.hys_ast.proofs.place.advance.Goals.{then-text-at-eq10, else-text-at-eq10}

pub loop-at-init : goal.loop-at-init
loop-at-init c = starts c.args.text.now c.args.place c.requires.known

pub loop-at-preserved : goal.loop-at-preserved
loop-at-preserved c =
    let t = take_more c.args.text.now c.loop-at.at 0 (omega (arith, c.requires.within)) in
    elim c.if-text-at-eq10.branch [
      | then-text-at-eq10 w ↦ rw (w.line-is, w.col-is) (breaks c.args.text.now c.loop-at.at c.loop-at.line c.loop-at.col _ t (eq-eqb _ 10 w.if-text-at-eq10.true) c.loop-at.invariant)
      | else-text-at-eq10 w ↦ rw (w.line-is, w.col-is) (goes_on c.args.text.now c.loop-at.at c.loop-at.line c.loop-at.col _ t (differs _ w.if-text-at-eq10.false) c.loop-at.invariant)
    ]

pub returns : goal.returns
returns c = let at : c.loop-at.at ≡ c.args.byte = omega (arith, c.loop-at.auto.at-end c.requires.ahead) in rw (← at) (ends c.args.text.now c.loop-at.at c.loop-at.line c.loop-at.col c.loop-at.invariant)
