use Rattle.std.specs.Prelude.{◌≡◌, ℕ, ◌^◌, ◌<◌, ℤ, pos, unsigned_abs, ◌<ℤ◌}
use Rattle.std.specs.Coded.{Coded, code_by, coded×, coded_ℕ, coded_ℤ}
use Rattle.std.proofs.Common.{◌∙◌, ap, arith}
use borrow.Author.Differences.{ints}
use Rattle.hys_number.specs.Gcd.{gcd}
use Rattle.hys_number.specs.Number.{Number, make, make-parts, make_reduced}

-- two machine numbers that are the parts of a number
pub record IsReduced (num den : ℤ) : Type 0 where
  pub positive : pos 0 <ℤ den
  pub below : unsigned_abs num < 2 ^ 63
  pub reduced : gcd (unsigned_abs num) (unsigned_abs den) ≡ 1

-- a number is stored as its two parts
abbrev pub number_code : Coded Number
number_code = code_by (ℤ × ℕ) (coded× coded_ℤ coded_ℕ) (λ a. (a.num, a.den)) (λ p. make p.0 p.1) (λ a. make-parts a)

abs_positive : (z : ℤ) → pos 0 <ℤ z → 0 < unsigned_abs z
abs_positive z h = omega (arith, ints)

abs_back : (z : ℤ) → pos 0 <ℤ z → pos (unsigned_abs z) ≡ z
abs_back z h = omega (arith, ints)

pub parts_back : (num den : ℤ) → IsReduced num den → ((make num (unsigned_abs den)).num ≡ num) × (pos (make num (unsigned_abs den)).den ≡ den)
parts_back num den h = let e : ((make num (unsigned_abs den)).num ≡ num) × ((make num (unsigned_abs den)).den ≡ unsigned_abs den) = make_reduced num (unsigned_abs den) (abs_positive den h.positive) h.reduced in
    (e.0, ap pos e.1 ∙ abs_back den h.positive)
