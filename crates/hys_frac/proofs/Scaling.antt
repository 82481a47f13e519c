-- A product over a divisor, by the size of its parts and then by its sign.
use Rattle.std.proofs.Common.{◌≡◌, ◌≢◌, ◌↔◌, ℕ, zero, suc, ◌+◌, ◌*◌, ◌<◌, ℤ, pos, negsuc, ◌*ℤ◌, neg_ℤ, int_lt, unsigned_abs, refl, sym, ◌∙◌, ap, ap₂, subst, Bool, true, false, arith, mul-pos, FitsSigned, w64, to_z, of_z, to_z-of_z, IsTrue, IsSome, None, Option}
use Rattle.std.specs.Bool.{beq}
use mir.Syntax.{w128}
use borrow.Author.Differences.{ints, up, down, neg_is}
use Rattle.hys_number.specs.Gcd.{gcd, gcd_comm}
use Rattle.hys_number.specs.Number.{Number, make}
use Rattle.hys_number.specs.Ops.{◌*ₙ◌, ◌/ₙ◌, neg, whole, fits}
use Rattle.hys_number.proofs.Laws.{ratio, mul-ratio, neg-ratio}
use Rattle.hys_number.proofs.Scale.{same-over}
use Rattle.hys_number.proofs.Signs.{fits_neg}
use Rattle.hys_number.proofs.Inverse.{make-ratio, inverse_at, zero_num}

-- a quotient by the sign of its divisor
by_above : (z : ℤ) (d : ℕ) (c : Number) (k : ℕ) → 0 < d → c.num ≡ pos (suc k) → make z d /ₙ c ≡ ratio (up z * c.den + down z * 0) (up z * 0 + down z * c.den) (d * suc k)
by_above z d c k h e = ap₂ ◌*ₙ◌ (make-ratio z d h) (inverse_at c (pos (suc k)) e ∙ make-ratio (pos c.den) (suc k) (omega arith)) ∙ mul-ratio (up z) (down z) d c.den 0 (suc k) h (omega arith)

by_below : (z : ℤ) (d : ℕ) (c : Number) (k : ℕ) → 0 < d → c.num ≡ negsuc k → make z d /ₙ c ≡ ratio (up z * 0 + down z * c.den) (up z * c.den + down z * 0) (d * suc k)
by_below z d c k h e = ap₂ ◌*ₙ◌ (make-ratio z d h) (inverse_at c (negsuc k) e ∙ make-ratio (neg_ℤ (pos c.den)) (suc k) (omega arith) ∙ ap₂ (λ x y. ratio x y (suc k)) (neg_is (pos c.den)).0 (neg_is (pos c.den)).1) ∙ mul-ratio (up z) (down z) d 0 c.den (suc k) h (omega arith)

as_ratio : (m p n d e : ℕ) → 0 < d → e ≡ d → m + n ≡ p → make (pos m) e ≡ ratio p n d
as_ratio m p n d e h i j = ap (make (pos m)) i ∙ make-ratio (pos m) d h ∙ (same-over d h m 0 p n).1 (omega arith)

neg_as_ratio : (m p n d e : ℕ) → 0 < d → e ≡ d → m + p ≡ n → neg (make (pos m) e) ≡ ratio p n d
neg_as_ratio m p n d e h i j = ap neg (ap (make (pos m)) i ∙ make-ratio (pos m) d h) ∙ neg-ratio m 0 d h ∙ (same-over d h 0 m p n).1 (omega arith)

not_below : (m : ℕ) → int_lt (pos m) (pos 0) ≡ false
not_below m = go (int_lt (pos m) (pos 0)) refl
  where
    go : (t : Bool) → int_lt (pos m) (pos 0) ≡ t → t ≡ false
    go true e = absurd (omega (arith, ints))
    go false e = refl

-- with signs alike the size is the number, and with signs that differ it is the number turned
kept : (z : ℤ) (d : ℕ) (c : Number) → 0 < d → c.num ≢ pos 0 → int_lt z (pos 0) ≡ int_lt c.num (pos 0) → make (pos (unsigned_abs z * c.den)) (d * unsigned_abs c.num) ≡ make z d /ₙ c
kept z d c h n s = go z c.num refl s
  where
    go : (z t : ℤ) → c.num ≡ t → int_lt z (pos 0) ≡ int_lt t (pos 0) → make (pos (unsigned_abs z * c.den)) (d * unsigned_abs c.num) ≡ make z d /ₙ c
    go z (pos zero) e s = absurd (n e)
    go (pos m) (pos (suc k)) e s = as_ratio _ _ _ _ _ (mul-pos h (omega arith)) (ap (λ (x : ℤ). d * unsigned_abs x) e) (omega arith) ∙ sym (by_above (pos m) d c k h e)
    go (negsuc m) (pos (suc k)) e s = let f : true ≡ false = s ∙ not_below (suc k) in absurd (cc)
    go (pos m) (negsuc k) e s = let f : false ≡ true = sym (not_below m) ∙ s in absurd (cc)
    go (negsuc m) (negsuc k) e s = as_ratio _ _ _ _ _ (mul-pos h (omega arith)) (ap (λ (x : ℤ). d * unsigned_abs x) e) (omega arith) ∙ sym (by_below (negsuc m) d c k h e)

turned : (z : ℤ) (d : ℕ) (c : Number) → 0 < d → c.num ≢ pos 0 → int_lt z (pos 0) ≢ int_lt c.num (pos 0) → neg (make (pos (unsigned_abs z * c.den)) (d * unsigned_abs c.num)) ≡ make z d /ₙ c
turned z d c h n s = go z c.num refl s
  where
    go : (z t : ℤ) → c.num ≡ t → int_lt z (pos 0) ≢ int_lt t (pos 0) → neg (make (pos (unsigned_abs z * c.den)) (d * unsigned_abs c.num)) ≡ make z d /ₙ c
    go z (pos zero) e s = absurd (n e)
    go (pos m) (pos (suc k)) e s = absurd (s (not_below m ∙ sym (not_below (suc k))))
    go (negsuc m) (pos (suc k)) e s = neg_as_ratio _ _ _ _ _ (mul-pos h (omega arith)) (ap (λ (x : ℤ). d * unsigned_abs x) e) (omega arith) ∙ sym (by_above (negsuc m) d c k h e)
    go (pos m) (negsuc k) e s = neg_as_ratio _ _ _ _ _ (mul-pos h (omega arith)) (ap (λ (x : ℤ). d * unsigned_abs x) e) (omega arith) ∙ sym (by_below (pos m) d c k h e)
    go (negsuc m) (negsuc k) e s = absurd (s refl)

size_fits : (z : ℤ) (d : ℕ) (c : Number) → 0 < d → c.num ≢ pos 0 → fits (make (pos (unsigned_abs z * c.den)) (d * unsigned_abs c.num)) ≡ fits (make z d /ₙ c)
size_fits z d c h n = go (int_lt z (pos 0)) (int_lt c.num (pos 0)) refl refl
  where
    go : (s t : Bool) → int_lt z (pos 0) ≡ s → int_lt c.num (pos 0) ≡ t → fits (make (pos (unsigned_abs z * c.den)) (d * unsigned_abs c.num)) ≡ fits (make z d /ₙ c)
    go true true e f = ap fits (kept z d c h n (e ∙ sym f))
    go false false e f = ap fits (kept z d c h n (e ∙ sym f))
    go true false e f = sym (fits_neg _) ∙ ap fits (turned z d c h n (λ k. absurd (cc)))
    go false true e f = sym (fits_neg _) ∙ ap fits (turned z d c h n (λ k. absurd (cc)))

-- ---- what the code has for the parts
pub record Parted (q r c : Number) (x t : ℤ) (u v w y : ℕ) : Type 0 where
  pub divisor : c ≢ whole 0
  pub same : int_lt (to_z w128 (of_z w128 x)) (pos 0) ≡ int_lt (to_z w64 (of_z w64 t)) (pos 0) → make (pos (u * w)) (v * y) ≡ q *ₙ r /ₙ c
  pub other : int_lt (to_z w128 (of_z w128 x)) (pos 0) ≢ int_lt (to_z w64 (of_z w64 t)) (pos 0) → neg (make (pos (u * w)) (v * y)) ≡ q *ₙ r /ₙ c
  pub fits_is : fits (make (pos (u * w)) (v * y)) ≡ fits (q *ₙ r /ₙ c)

pub parted : (q r c : Number) (x b e t : ℤ) (u v w y : ℕ) → FitsSigned w128 x → FitsSigned w128 b → FitsSigned w64 e → FitsSigned w64 t →
    x ≡ q.num *ℤ r.num → b ≡ pos q.den *ℤ pos r.den → e ≡ pos c.den → t ≡ c.num → (of_z w64 t ≡ 0 → ⊥) →
    u ≡ unsigned_abs (to_z w128 (of_z w128 x)) → v ≡ unsigned_abs (to_z w128 (of_z w128 b)) → w ≡ unsigned_abs (to_z w64 (of_z w64 e)) → y ≡ unsigned_abs (to_z w64 (of_z w64 t)) →
    Parted q r c x t u v w y
unfolding ◌*ₙ◌
parted q r c x b e t u v w y f1 f2 f3 f4 i1 i2 i3 i4 n j1 j2 j3 j4 =
    let a : to_z w128 (of_z w128 x) ≡ q.num *ℤ r.num = to_z-of_z f1 ∙ i1 in
    let s : to_z w64 (of_z w64 t) ≡ c.num = to_z-of_z f4 ∙ i4 in
    let nz : c.num ≢ pos 0 = (λ z. n (ap (of_z w64) (i4 ∙ z))) in
    let d : 0 < q.den * r.den = mul-pos q.positive r.positive in
    let g : make (pos (u * w)) (v * y) ≡ make (pos (unsigned_abs (q.num *ℤ r.num) * c.den)) (q.den * r.den * unsigned_abs c.num) =
    ap₂ make (ap₂ (λ (m n : ℕ). pos (m * n)) (j1 ∙ ap unsigned_abs a) (j3 ∙ ap unsigned_abs (to_z-of_z f3 ∙ i3)))
    (ap₂ (λ (m n : ℕ). m * n) (j2 ∙ ap unsigned_abs (to_z-of_z f2 ∙ i2)) (j4 ∙ ap unsigned_abs s)) in
    record {
      divisor = λ z. nz ((zero_num c).1 z);
      same = λ k. g ∙ kept (q.num *ℤ r.num) (q.den * r.den) c d nz (sym (ap (λ (x : ℤ). int_lt x (pos 0)) a) ∙ k ∙ ap (λ (x : ℤ). int_lt x (pos 0)) s);
      other = λ k. ap neg g ∙ turned (q.num *ℤ r.num) (q.den * r.den) c d nz (λ l. k (ap (λ (x : ℤ). int_lt x (pos 0)) a ∙ l ∙ sym (ap (λ (x : ℤ). int_lt x (pos 0)) s)));
      fits_is = ap fits g ∙ size_fits (q.num *ℤ r.num) (q.den * r.den) c d nz;
    }

pub reduced_parts : (c : Number) (e t : ℤ) (w y : ℕ) → FitsSigned w64 e → FitsSigned w64 t → e ≡ pos c.den → t ≡ c.num →
    w ≡ unsigned_abs (to_z w64 (of_z w64 e)) → y ≡ unsigned_abs (to_z w64 (of_z w64 t)) → gcd w y ≡ 1
reduced_parts c e t w y f g i j k l = ap₂ gcd (k ∙ ap unsigned_abs (to_z-of_z f ∙ i)) (l ∙ ap unsigned_abs (to_z-of_z g ∙ j)) ∙ gcd_comm c.den (unsigned_abs c.num) ∙ c.reduced

-- a divisor of 0
pub no_divisor : {P : Type 0} (c : Number) (t : ℤ) → FitsSigned w64 t → t ≡ c.num → of_z w64 t ≡ 0 → IsSome {T = Number} None ↔ ((c ≢ whole 0) × P)
no_divisor c t f e z = (λ h. absurd (cc), λ h. absurd (h.0 ((zero_num c).0 (sym e ∙ nothing t f z))))
  where
    nothing : (t : ℤ) → FitsSigned w64 t → of_z w64 t ≡ 0 → t ≡ pos 0
    nothing t f z = omega (arith, ints)

-- ---- the outcomes
pub alike_is : (s t : Bool) → beq s t ≡ true → s ≡ t
alike_is true true e = refl
alike_is true false e = absurd (cc)
alike_is false true e = absurd (cc)
alike_is false false e = refl

pub differ_is : (s t : Bool) → beq s t ≡ false → s ≢ t
differ_is true true e h = absurd (cc)
differ_is true false e h = absurd (cc)
differ_is false true e h = absurd (cc)
differ_is false false e h = absurd (cc)

pub refused : {P : Type 0} (m q : Number) (o : Option Number) → o ≡ None → (IsTrue (fits m) → false ≡ true) → fits m ≡ fits q → IsSome o ↔ (P × IsTrue (fits q))
refused {P} m q o e h f = subst (λ (x : Option Number). IsSome x ↔ (P × IsTrue (fits q))) (sym e) (λ i. absurd (cc), λ t. h (f ∙ t.1))

pub kept_fits : (c m q : Number) → c ≢ whole 0 → IsTrue (fits m) → fits m ≡ fits q → (true ≡ true) ↔ ((c ≢ whole 0) × IsTrue (fits q))
kept_fits c m q n h f = (λ i. (n, sym f ∙ h), λ t. refl)
