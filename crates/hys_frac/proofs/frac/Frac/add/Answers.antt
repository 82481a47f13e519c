use Rattle.std.proofs.Common.{rules, ◌≡◌, unsigned_abs, pos, ap, ◌∙◌, sym, ℕ, ℤ, ◌+ℤ◌, FitsSigned, to_z, of_z, w64, to_z-of_z}
use mir.Syntax.{w128}
use Rattle.hys_number.specs.Number.{make}
use Rattle.hys_number.specs.Ops.{◌+ₙ◌}
use Rattle.hys_frac.proofs.Fracs.{value_along, fits_along, add_same, add_back, product_back}
use Rattle.hys_frac.proofs.frac.Frac.add.Goals as goal
use Rattle.std.proofs.Common.{arith}
use Rattle.std.proofs.lemmas.Int.{ints}

dens : (x y : ℤ) (m n : ℕ) → of_z w64 x ≡ of_z w64 y → x ≡ pos m → y ≡ pos n → FitsSigned w64 x → FitsSigned w64 y → m ≡ n
dens x y m n e i j f g = let h : x ≡ y = sym (to_z-of_z f) ∙ ap (to_z w64) e ∙ to_z-of_z g in let k : pos m ≡ pos n = sym i ∙ h ∙ j in omega (arith, ints)

pub returns-then-den : goal.returns-then-den
returns-then-den c =
    let k : c.args.self.den ≡ c.args.other.den = dens c.den.result c.den-2.result _ _ c.if-den.true c.den.ensures.value c.den-2.ensures.value (search rules) (search rules) in
    let e : make (to_z w128 (of_z w128 (to_z w128 (of_z w128 (to_z w64 (of_z w64 c.num.result))) +ℤ to_z w128 (of_z w128 (to_z w64 (of_z w64 c.num-then-den.result)))))) (unsigned_abs (to_z w128 (of_z w128 (to_z w64 (of_z w64 c.den-then-den.result))))) ≡ c.args.self +ₙ c.args.other =
    add_same c.args.self c.args.other c.num.result c.num-then-den.result c.den-then-den.result (search rules) (search rules) (search rules) c.num.ensures.value c.num-then-den.ensures.value c.den-then-den.ensures.value k in
    record { value = value_along _ _ c.reduce.result e c.reduce.ensures.value; fits = fits_along _ _ c.reduce.result e c.reduce.ensures.fits }

pub returns : goal.returns
returns c =
    let h : FitsSigned w128 (c.product-left.result +ℤ c.product-right.result) = omega (arith, ints, c.product-left.ensures.below, c.product-right.ensures.below) in
    let e : make (to_z w128 (of_z w128 (to_z w128 (of_z w128 c.product-left.result) +ℤ to_z w128 (of_z w128 c.product-right.result)))) (unsigned_abs (to_z w128 (of_z w128 c.product-below.result))) ≡ c.args.self +ₙ c.args.other =
    add_back c.args.self c.args.other c.product-left.result c.product-right.result c.product-below.result h (search rules) (search rules) (search rules)
    (product_back _ _ _ _ _ c.product-left.ensures.value (search rules) (search rules) c.num-2.ensures.value c.den-3.ensures.value)
    (product_back _ _ _ _ _ c.product-right.ensures.value (search rules) (search rules) c.num-3.ensures.value c.den-4.ensures.value)
    (product_back _ _ _ _ _ c.product-below.ensures.value (search rules) (search rules) c.den-5.ensures.value c.den-6.ensures.value) in
    record { value = value_along _ _ c.reduce-2.result e c.reduce-2.ensures.value; fits = fits_along _ _ c.reduce-2.result e c.reduce-2.ensures.fits }
