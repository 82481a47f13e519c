-- The sign of a fraction, as the code asks for it.
use Rattle.std.proofs.Common.{◌≡◌, ℤ, pos, ◌<ℤ◌, ◌↔◌, IsTrue, nat_eq, arith, tests, sym, ◌∙◌, FitsSigned, w64, to_z, of_z, int_lt, to_z-of_z}
use borrow.Author.Differences.{ints}
use Rattle.hys_number.specs.Number.{Number}
use Rattle.hys_number.specs.Ops.{◌<ₙ◌, whole}
use Rattle.hys_number.proofs.Inverse.{zero_num}
use Rattle.hys_number.proofs.Signs.{negative_num, positive_num}

negative_tested : (z : ℤ) → IsTrue (int_lt z (pos 0)) ↔ (z <ℤ pos 0)
negative_tested z = grind (arith, ints, tests)

positive_tested : (z : ℤ) → IsTrue (int_lt (pos 0) z) ↔ (pos 0 <ℤ z)
positive_tested z = grind (arith, ints, tests)

zero_tested : (z : ℤ) → FitsSigned w64 z → IsTrue (nat_eq (of_z w64 z) 0) ↔ (z ≡ pos 0)
zero_tested z f = grind (arith, ints, tests)

pub zero_is : (a : Number) (z : ℤ) → FitsSigned w64 z → z ≡ a.num → IsTrue (nat_eq (of_z w64 z) 0) ↔ (a ≡ whole 0)
zero_is a z f e = (λ t. (zero_num a).0 (sym e ∙ (zero_tested z f).0 t), λ i. (zero_tested z f).1 (e ∙ (zero_num a).1 i))

pub negative_is : (a : Number) (z : ℤ) → FitsSigned w64 z → z ≡ a.num → IsTrue (int_lt (to_z w64 (of_z w64 z)) (pos 0)) ↔ (a <ₙ whole 0)
negative_is a z f e = let h : to_z w64 (of_z w64 z) ≡ a.num = to_z-of_z f ∙ e in rw h (λ t. (negative_num a).0 ((negative_tested a.num).0 t), λ l. (negative_tested a.num).1 ((negative_num a).1 l))

pub positive_is : (a : Number) (z : ℤ) → FitsSigned w64 z → z ≡ a.num → IsTrue (int_lt (pos 0) (to_z w64 (of_z w64 z))) ↔ (whole 0 <ₙ a)
positive_is a z f e = let h : to_z w64 (of_z w64 z) ≡ a.num = to_z-of_z f ∙ e in rw h (λ t. (positive_num a).0 ((positive_tested a.num).0 t), λ l. (positive_tested a.num).1 ((positive_num a).1 l))
