use Rattle.std.proofs.Common.{◌≡◌, ◌-◌, suc, length, arith, sym, ◌∙◌, ap, subst, take}
use Rattle.hys_lagrange.specs.Fixed.{AreWithin}
use Rattle.hys_check.specs.Walk.{pending}
use Rattle.hys_check.proofs.Walks.{turned, turned_within, shortened, within_take}
use Rattle.hys_check.proofs.walk.turn.Goals as goal

pub returns-then-not-fixing-clause-paths : goal.returns-then-not-fixing-clause-paths
returns-then-not-fixing-clause-paths c =
    let m : length c.loop-path.path.items ≡ suc (c.len-last.result - 1) = grind (arith, c.is_empty.ensures, c.loop-path-test.true, c.len-last.ensures) in
    turned c.args.path.now.items c.loop-path.path.items (c.len-last.result - 1) c.index-fixing.result.now c.index-fixing.result.now m c.index-fixing.ensures c.if-not-fixing.true c.loop-path.invariant.same

pub returns-then-not-fixing-clause-within : goal.returns-then-not-fixing-clause-within
returns-then-not-fixing-clause-within c =
    let m : length c.loop-path.path.items ≡ suc (c.len-last.result - 1) = grind (arith, c.is_empty.ensures, c.loop-path-test.true, c.len-last.ensures) in
    λ n h. turned_within n (c.len-last.result - 1) c.loop-path.path.items c.index-fixing.result.now c.index-fixing.result.now m c.index-fixing.ensures (c.loop-path.invariant.within n h)

pub loop-path-preserved : goal.loop-path-preserved
loop-path-preserved c =
    let m : length c.loop-path.path.items ≡ suc (c.len-last.result - 1) = grind (arith, c.is_empty.ensures, c.loop-path-test.true, c.len-last.ensures) in
    record {
      same = ap pending c.truncate.ensures.items ∙ shortened c.loop-path.path.items (c.len-last.result - 1) c.index-fixing.result.now c.index-fixing.result.now m c.index-fixing.ensures c.if-not-fixing.false ∙ c.loop-path.invariant.same;
      within = λ n h. subst (AreWithin n) (sym c.truncate.ensures.items) (within_take n (c.len-last.result - 1) c.loop-path.path.items (c.loop-path.invariant.within n h));
    }
