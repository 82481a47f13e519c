use Rattle.std.proofs.Common.{refl}
use Rattle.hys_logic.proofs.Terms.{no_literals, left_literal, right_literal, both_literals}
use Rattle.hys_logic.proofs.row.literal_terms.Goals as goal

pub returns-in-Fixed-Fixed : goal.returns-in-Fixed-Fixed
returns-in-Fixed-Fixed c = rw (c.in-Fixed-Fixed.is-0, c.in-Fixed-Fixed.is-1) (no_literals c.args.left.sign c.in-Fixed-Fixed.field-0-0 c.args.right.sign c.in-Fixed-Fixed.field-0-1 c.new.result.items c.new.ensures.items)

pub returns-in_ok-single-in-Fixed-Column : goal.returns-in_ok-single-in-Fixed-Column
returns-in_ok-single-in-Fixed-Column c = rw (c.in-Fixed-Column.is-0, c.in-Fixed-Column.is-1) (right_literal c.args.left.sign c.in-Fixed-Column.field-0-0 c.args.right.sign c.in-Fixed-Column.column c.in-Fixed-Column.negated c.in_ok-single-in-Fixed-Column.field-0.items
    (rw (c.in_ok-single-in-Fixed-Column.ensures, c.term.ensures, c.turned.ensures) refl))

pub returns-in_ok-single-in-Column-Fixed : goal.returns-in_ok-single-in-Column-Fixed
returns-in_ok-single-in-Column-Fixed c = rw (c.in-Column-Fixed.is-0, c.in-Column-Fixed.is-1) (left_literal c.args.left.sign c.in-Column-Fixed.column c.in-Column-Fixed.negated c.args.right.sign c.in-Column-Fixed.field-0-1 c.in_ok-single-in-Column-Fixed.field-0.items
    (rw (c.in_ok-single-in-Column-Fixed.ensures, c.term-in-Column-Fixed.ensures, c.turned-in-Column-Fixed.ensures) refl))

pub returns-in_ok-two_terms-in-Column-Column : goal.returns-in_ok-two_terms-in-Column-Column
returns-in_ok-two_terms-in-Column-Column c = rw (c.in-Column-Column.is-0, c.in-Column-Column.is-1)
    (both_literals c.args.left.sign c.in-Column-Column.column c.in-Column-Column.negated c.args.right.sign c.in-Column-Column.other c.in-Column-Column.turned c.in_ok-two_terms-in-Column-Column.field-0.items
    (rw (c.turned-in-Column-Column.ensures, c.turned-in-Column-Column-2.ensures) at c.in_ok-two_terms-in-Column-Column.ensures))
