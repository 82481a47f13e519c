use Rattle.std.proofs.Common.{◌≡◌, ◌∙◌, ap, ap₂, arith, ℤ, ◌≤◌, ◌-ℤ◌, unsigned_abs, to_z, of_z, w8}
use Rattle.hys_number.specs.Ops.{◌-ₙ◌, int}
use Rattle.hys_logic.specs.Rows.{signed}
use Rattle.hys_logic.proofs.Smalls.{int-sub, back}
use Rattle.hys_logic.proofs.row.moved.Goals as goal

left_of : (a b d z : ℤ) → unsigned_abs a ≤ 1 → unsigned_abs b ≤ 1 → unsigned_abs d ≤ 1 → z ≡ to_z w8 (of_z w8 a) -ℤ to_z w8 (of_z w8 b) -ℤ to_z w8 (of_z w8 d) → z ≡ a -ℤ b -ℤ d
left_of a b d z h i j e = rw (back a (omega arith), back b (omega arith), back d (omega arith)) at e

pub returns : goal.returns
returns c =
    c.small.ensures ∙ ap int (back c.remaining.result (let h : unsigned_abs c.remaining.result ≤ 3 = c.remaining.ensures.small in omega arith))
    ∙ int-sub c.args.base c.constant-moved.result c.constant-other.result c.remaining.result (left_of c.args.base c.constant-moved.result c.constant-other.result c.remaining.result c.requires c.constant-moved.ensures.small c.constant-other.ensures.small c.remaining.ensures.value)
    ∙ ap₂ (λ x y. int c.args.base -ₙ x -ₙ y) (c.constant-moved.ensures.value ∙ ap (signed c.args.left.sign) c.constant.ensures) (c.constant-other.ensures.value ∙ ap (signed c.args.right.sign) c.constant-2.ensures)
