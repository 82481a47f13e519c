use Rattle.std.proofs.Common.{◌+◌, arith, inl, drop, ap, sym, ◌∙◌, subst, Err}
use Rattle.std.proofs.lemmas.List.{take_rest}
use Rattle.hys_lex.specs.Cut.{IsFirstFault}
use Rattle.hys_lex.specs.Pieces.{Lexeme}
use Rattle.hys_lex.specs.Reading.{IsFound, Stands}
use Rattle.hys_lex.specs.declared.piece.Found.TheVariants.{Gap, Token}
use Rattle.hys_lex.proofs.Fronts.{Upto, goes_on, goes_past, found_some, found_within, ends, same_tokens, first_fault, fault_no_cut, one_fault, cut_each, cut_rising}
use Rattle.hys_lex.proofs.cut.tokens.Goals as goal

pub returns-in-Err-clause-err : goal.returns-in-Err-clause-err
returns-in-Err-clause-err c = λ other.
    let stands : Stands (drop c.loop-at.at c.args.text.now) c.in-Err.cause = rw take_rest at c.in-Err.ensures in
    subst (IsFirstFault c.args.text.now) (sym c.fault.ensures) (first_fault c.args.text.now _ c.loop-at.at c.in-Err.cause c.loop-at.invariant.within c.loop-at.invariant.upto stands)

pub returns-in-Err-clause-no_cut : goal.returns-in-Err-clause-no_cut
returns-in-Err-clause-no_cut c = λ other.
    let stands : Stands (drop c.loop-at.at c.args.text.now) c.in-Err.cause = rw take_rest at c.in-Err.ensures in
    fault_no_cut c.args.text.now _ (first_fault c.args.text.now _ c.loop-at.at c.in-Err.cause c.loop-at.invariant.within c.loop-at.invariant.upto stands)

pub returns-in-Err-clause-exact : goal.returns-in-Err-clause-exact
returns-in-Err-clause-exact c = λ fault is.
    let stands : Stands (drop c.loop-at.at c.args.text.now) c.in-Err.cause = rw take_rest at c.in-Err.ensures in
    inl (ap Err (c.fault.ensures ∙ one_fault c.args.text.now _ fault (first_fault c.args.text.now _ c.loop-at.at c.in-Err.cause c.loop-at.invariant.within c.loop-at.invariant.upto stands) is))

pub loop-at-preserved-in-Ok-Gap : goal.loop-at-preserved-in-Ok-Gap
loop-at-preserved-in-Ok-Gap c =
    let text = c.args.text.now in
    let found : IsFound (drop c.loop-at.at text) (Gap c.in-Ok-Gap.len) = rw (c.in-Ok-Gap.field-0-is, take_rest) at c.in-Ok-Gap.ensures in
    record { within = found_within text c.loop-at.at found.0 _ c.loop-at.invariant.within found.2; upto = goes_past text _ c.loop-at.at _ c.loop-at.invariant.upto found.0 found.1 found.2 }

pub loop-at-smaller-in-Ok-Gap : goal.loop-at-smaller-in-Ok-Gap
loop-at-smaller-in-Ok-Gap c =
    let rest = drop c.loop-at.at c.args.text.now in
    let found : IsFound rest (Gap c.in-Ok-Gap.len) = rw (c.in-Ok-Gap.field-0-is, take_rest) at c.in-Ok-Gap.ensures in
    omega (arith, found_some rest found.0 _ found.2)

pub loop-at-preserved : goal.loop-at-preserved
loop-at-preserved c =
    let text = c.args.text.now in
    let kind = c.in-Ok-Token.kind in
    let found : IsFound (drop c.loop-at.at text) (Token kind c.in-Ok-Token.len) = rw (c.in-Ok-Token.field-0-is, take_rest) at c.in-Ok-Token.ensures in
    record {
      within = found_within text c.loop-at.at (Lexeme kind) _ c.loop-at.invariant.within found.0;
      upto = subst (λ x. Upto text x (c.loop-at.at + c.in-Ok-Token.len)) (sym c.in_ok-push-in-Ok-Token.ensures.items) (goes_on text _ c.loop-at.at _ (Lexeme kind) c.loop-at.invariant.upto found.0 found.1);
    }

pub loop-at-smaller : goal.loop-at-smaller
loop-at-smaller c =
    let rest = drop c.loop-at.at c.args.text.now in
    let found : IsFound rest (Token c.in-Ok-Token.kind c.in-Ok-Token.len) = rw (c.in-Ok-Token.field-0-is, take_rest) at c.in-Ok-Token.ensures in
    omega (arith, found_some rest (Lexeme c.in-Ok-Token.kind) _ found.0)

pub returns-clause-ok : goal.returns-clause-ok
returns-clause-ok c = ends c.args.text.now _ c.loop-at.at (omega arith) c.loop-at.invariant.upto

pub returns-clause-only : goal.returns-clause-only
returns-clause-only c = λ tokens cut. same_tokens c.args.text.now _ _ cut (ends c.args.text.now _ c.loop-at.at (omega arith) c.loop-at.invariant.upto)

pub returns-clause-spans : goal.returns-clause-spans
returns-clause-spans c = cut_each c.args.text.now _ (ends c.args.text.now _ c.loop-at.at (omega arith) c.loop-at.invariant.upto)

pub returns-clause-rising : goal.returns-clause-rising
returns-clause-rising c = cut_rising c.args.text.now _ (ends c.args.text.now _ c.loop-at.at (omega arith) c.loop-at.invariant.upto)

pub returns-clause-exact : goal.returns-clause-exact
returns-clause-exact c = λ fault is. absurd (fault_no_cut c.args.text.now fault is _ (ends c.args.text.now _ c.loop-at.at (omega arith) c.loop-at.invariant.upto))
