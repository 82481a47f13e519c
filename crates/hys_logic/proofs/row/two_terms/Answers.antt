use Rattle.std.proofs.Common.{◌≡◌, arith, refl}
use Rattle.hys_logic.proofs.Terms.{rising_sum, swapped_sum, same_sum}
use Rattle.hys_logic.proofs.row.two_terms.Goals as goal

pub returns-in_ok-pair : goal.returns-in_ok-pair
returns-in_ok-pair c = rising_sum c.args.left c.args.left_sign c.args.right c.args.right_sign c.in_ok-pair.field-0.items c.if-left-right.true
    (rw (c.in_ok-pair.ensures, c.term.ensures, c.term-then-left-right.ensures) refl)

pub returns-in_ok-pair-2 : goal.returns-in_ok-pair-2
returns-in_ok-pair-2 c = swapped_sum c.args.left c.args.left_sign c.args.right c.args.right_sign c.in_ok-pair-2.field-0.items
    (rising_sum c.args.right c.args.right_sign c.args.left c.args.left_sign c.in_ok-pair-2.field-0.items c.if-right-left.true
    (rw (c.in_ok-pair-2.ensures, c.term-then-right-left.ensures, c.term-then-right-left-2.ensures) refl))

pub returns-in_ok-doubled : goal.returns-in_ok-doubled
returns-in_ok-doubled c = let e : c.args.left ≡ c.args.right = omega arith in same_sum c.args.left c.args.right c.args.left_sign c.args.right_sign c.in_ok-doubled.field-0.items e c.in_ok-doubled.ensures
