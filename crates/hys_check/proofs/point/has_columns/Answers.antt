use Rattle.std.proofs.Common.{◌≡◌, subst, List, ℕ}
use Rattle.hys_lin.specs.declared.form.Interval.{Interval}
use Rattle.hys_check.specs.Testing.{first_failing}
use Rattle.hys_check.specs.ClaimTests.{box_tests, bit_tests, point_by}
use Rattle.hys_check.proofs.Loops.{columns_both, columns_first}
use Rattle.hys_check.proofs.point.has_columns.Goals as goal

pub returns-then-are_inside : goal.returns-then-are_inside
returns-then-are_inside c = columns_both (box_tests c.args.problem.now.boxes c.args.values.now) (bit_tests c.args.values.now c.args.problem.now.branch) c.are_inside.result c.are_bits.result
    (subst (λ (bs : List Interval). first_failing (box_tests bs c.args.values.now) ≡ point_by c.are_inside.result) c.items.ensures c.are_inside.ensures)
    (subst (λ (cs : List ℕ). first_failing (bit_tests c.args.values.now cs) ≡ point_by c.are_bits.result) c.items-then-are_inside.ensures c.are_bits.ensures) c.if-are_inside.true

pub returns-else-are_inside : goal.returns-else-are_inside
returns-else-are_inside c = columns_first (box_tests c.args.problem.now.boxes c.args.values.now) (bit_tests c.args.values.now c.args.problem.now.branch) c.are_inside.result
    (subst (λ (bs : List Interval). first_failing (box_tests bs c.args.values.now) ≡ point_by c.are_inside.result) c.items.ensures c.are_inside.ensures) c.if-are_inside.false
