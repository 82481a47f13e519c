use Rattle.std.proofs.Common.{◌≡◌, ℤ, pos, ◌∙◌, ap, sym, arith, unsigned_abs, to_z, of_z, to_z-of_z, w8, FitsSigned, ◌≤◌}
use borrow.Author.Differences.{ints}
use Rattle.hys_number.specs.Ops.{neg, whole, int}
use Rattle.hys_number.proofs.Ring.{int-whole}
use Rattle.hys_logic.proofs.Smalls.{int-neg}
use Rattle.hys_logic.proofs.small.small.Goals as goal

signed_fits : (z : ℤ) → unsigned_abs z ≤ 5 → FitsSigned w8 z
signed_fits z h = omega (arith, ints)

pub returns-then-number-lt0 : goal.returns-then-number-lt0
returns-then-number-lt0 c =
    let t : to_z w8 (of_z w8 c.args.number) ≡ c.args.number = to_z-of_z (signed_fits c.args.number c.requires) in
    c.neg.ensures ∙ ap neg (c.whole-magnitude.ensures ∙ ap whole (c.from.ensures ∙ c.unsigned_abs.ensures.value ∙ ap unsigned_abs t)) ∙ int-neg (unsigned_abs c.args.number) c.args.number (omega (arith, ints))

pub returns-else-number-lt0 : goal.returns-else-number-lt0
returns-else-number-lt0 c =
    let t : to_z w8 (of_z w8 c.args.number) ≡ c.args.number = to_z-of_z (signed_fits c.args.number c.requires) in
    let e : pos (unsigned_abs c.args.number) ≡ c.args.number = omega (arith, ints) in
    c.whole-magnitude.ensures ∙ ap whole (c.from.ensures ∙ c.unsigned_abs.ensures.value ∙ ap unsigned_abs t) ∙ sym (int-whole (unsigned_abs c.args.number)) ∙ ap int e
