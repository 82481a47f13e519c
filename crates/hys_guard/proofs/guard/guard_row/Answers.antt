use Rattle.std.proofs.Common.{◌∙◌, ap}
use Rattle.hys_guard.specs.Set.{signed}
use Rattle.hys_guard.proofs.Lists.{guarded_row, signed_below, signed_terms}
use Rattle.hys_guard.proofs.guard.guard_row.Goals as goal

pub row_with-requires : goal.row_with-requires
row_with-requires c = rw (c.in_ok-terms.ensures, c.items.ensures) (signed_terms c.args.side c.args.number.now.terms c.requires.terms)

pub returns-clause-stated : goal.returns-clause-stated
returns-clause-stated c = guarded_row c.args.side c.args.number.now c.args.factor c.args.bound c.args.column c.in_ok-terms.terms.items c.in_ok-row_with.field-0 c.requires.terms c.requires.apart
    (c.in_ok-terms.ensures ∙ ap (signed c.args.side) c.items.ensures) c.in_ok-row_with.ensures.0 c.in_ok-row_with.ensures.1 c.in_ok-row_with.ensures.2

pub returns-clause-below : goal.returns-clause-below
returns-clause-below c = λ n l h. signed_below n c.args.side c.args.number.now.terms _ _ c.args.column c.in_ok-terms.terms.items c.in_ok-row_with.field-0.terms
    (c.in_ok-terms.ensures ∙ ap (signed c.args.side) c.items.ensures) c.in_ok-row_with.ensures.0 l h
