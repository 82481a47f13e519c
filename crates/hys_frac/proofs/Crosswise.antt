-- Two reduced ratios, cancelled crosswise, have a reduced product.
use Rattle.std.proofs.Common.{◌≡◌, ℕ, zero, suc, ◌*◌, ◌/◌, ◌<◌, ◌≤◌, pos, sym, ◌∙◌, ap, subst, subst₂, arith, mul-pos, mul-le-mul_right, ◌^◌, false}
use Rattle.std.proofs.lemmas.Nat.Gcd.{dvd_trans, le_of_dvd}
use Rattle.std.proofs.Math.Nat.{eq-one_of_dvd-one, dvd-mul_right}
use Prim.Native.Nat.{◌∣◌}
use Rattle.hys_number.specs.Gcd.{gcd, gcd_is, gcd_comm, gauss, exact, gcd_left, gcd_pos}
use Rattle.hys_number.specs.Number.{make, make_reduced}
use Rattle.hys_number.specs.Ops.{fits}
use Rattle.hys_frac.proofs.Fracs.{fits_no_num, fits_no_den}
use Rattle.hys_number.proofs.Laws.{same-ratio}
use Rattle.hys_number.proofs.Inverse.{make-ratio}

coprime_part : (a c d : ℕ) → gcd a c ≡ 1 → d ∣ c → gcd a d ≡ 1
coprime_part a c d e h = eq-one_of_dvd-one (subst (λ z. gcd a d ∣ z) e ((gcd_is a c).2 (gcd a d) (gcd_is a d).0 (dvd_trans (gcd a d) (gcd_is a d).1 h)))

coprime_mul : (a b c : ℕ) → 0 < b → gcd a c ≡ 1 → gcd b c ≡ 1 → gcd (a * b) c ≡ 1
coprime_mul a b c l e f =
    let g : gcd a (gcd (a * b) c) ≡ 1 = coprime_part a c (gcd (a * b) c) e (gcd_is (a * b) c).1 in
    let h : gcd (a * b) c ∣ b = gauss a (gcd (a * b) c) b l g (gcd_is (a * b) c).0 in
    eq-one_of_dvd-one (subst (λ z. gcd (a * b) c ∣ z) f ((gcd_is b c).2 (gcd (a * b) c) h (gcd_is (a * b) c).1))

part_divides : (u g : ℕ) → g ∣ u → u / g ∣ u
part_divides u g h = subst (λ z. u / g ∣ z) (exact g u h) (dvd-mul_right (u / g) g)

-- parts of numbers with no common factor have none
coprime_parts : (a c d e : ℕ) → gcd a c ≡ 1 → d ∣ a → e ∣ c → gcd d e ≡ 1
coprime_parts a c d e h p q = eq-one_of_dvd-one (subst (λ z. gcd d e ∣ z) h ((gcd_is a c).2 (gcd d e) (dvd_trans (gcd d e) (gcd_is d e).0 p) (dvd_trans (gcd d e) (gcd_is d e).1 q)))

part_some : (n d : ℕ) → 0 < n → d ∣ n → 0 < n / d
part_some n d l h = go (n / d) (exact d n h)
  where
    go : (q : ℕ) → q * d ≡ n → 0 < q
    go zero e = absurd (omega (arith, e))
    go (suc q) e = omega arith

-- u / v times x / y, cancelled crosswise, has no common factor
crosswise : (u v x y : ℕ) → 0 < u → 0 < v → 0 < x → 0 < y → gcd u v ≡ 1 → gcd x y ≡ 1 →
    gcd ((u / gcd u y) * (x / gcd x v)) ((v / gcd x v) * (y / gcd u y)) ≡ 1
crosswise u v x y pu pv px py e f =
    let pg : u / gcd u y ∣ u = part_divides u (gcd u y) (gcd_is u y).0 in
    let qg : y / gcd u y ∣ y = part_divides y (gcd u y) (gcd_is u y).1 in
    let pk : x / gcd x v ∣ x = part_divides x (gcd x v) (gcd_is x v).0 in
    let qk : v / gcd x v ∣ v = part_divides v (gcd x v) (gcd_is x v).1 in
    let a : gcd (u / gcd u y) (v / gcd x v) ≡ 1 = coprime_parts u v (u / gcd u y) (v / gcd x v) e pg qk in
    let b : gcd (u / gcd u y) (y / gcd u y) ≡ 1 = gcd_left u y py in
    let c : gcd (x / gcd x v) (v / gcd x v) ≡ 1 = gcd_left x v pv in
    let d : gcd (x / gcd x v) (y / gcd u y) ≡ 1 = coprime_parts x y (x / gcd x v) (y / gcd u y) f pk qg in
    let first : gcd (v / gcd x v * (y / gcd u y)) (u / gcd u y) ≡ 1 = coprime_mul (v / gcd x v) (y / gcd u y) (u / gcd u y) (part_some y (gcd u y) py (gcd_is u y).1) (gcd_comm (v / gcd x v) (u / gcd u y) ∙ a) (gcd_comm (y / gcd u y) (u / gcd u y) ∙ b) in
    let second : gcd (v / gcd x v * (y / gcd u y)) (x / gcd x v) ≡ 1 = coprime_mul (v / gcd x v) (y / gcd u y) (x / gcd x v) (part_some y (gcd u y) py (gcd_is u y).1) (gcd_comm (v / gcd x v) (x / gcd x v) ∙ c) (gcd_comm (y / gcd u y) (x / gcd x v) ∙ d) in
    coprime_mul (u / gcd u y) (x / gcd x v) (v / gcd x v * (y / gcd u y)) (part_some x (gcd x v) px (gcd_is x v).0)
    (gcd_comm (u / gcd u y) (v / gcd x v * (y / gcd u y)) ∙ first) (gcd_comm (x / gcd x v) (v / gcd x v * (y / gcd u y)) ∙ second)

longer : (a b : ℕ) → 2 ^ 63 ≤ a → 0 < b → 2 ^ 63 ≤ a * b
longer a b l p = let h : 1 * a ≤ b * a = mul-le-mul_right a p in omega arith

-- two ratios of natural numbers with equal cross products are one number
pub same_made : (m n d e : ℕ) → 0 < d → 0 < e → m * e ≡ n * d → make (pos m) d ≡ make (pos n) e
same_made m n d e h k i = make-ratio (pos m) d h ∙ (same-ratio m 0 d n 0 e h k).1 (omega arith) ∙ sym (make-ratio (pos n) e k)

-- what the code has once a ratio is reduced
pub record Lowered (u v x y g : ℕ) : Type 0 where
  pub some : 0 < g
  pub above : 0 < u / g
  pub below : 0 < v / g
  pub reduced : gcd (u / g) (v / g) ≡ 1
  pub same : make (pos (u / g * x)) (v / g * y) ≡ make (pos (u * x)) (v * y)

pub lowered : (u v x y g : ℕ) → 0 < u → 0 < v → 0 < y → g ≡ gcd u v → Lowered u v x y g
lowered u v x y g p q l e = subst (λ (g : ℕ). Lowered u v x y g) (sym e) (record {
  some = gcd_pos u v q;
  above = part_some u (gcd u v) p (gcd_is u v).0;
  below = part_some v (gcd u v) q (gcd_is u v).1;
  reduced = gcd_left u v q;
  same = same_made _ _ _ _ (mul-pos (part_some v (gcd u v) q (gcd_is u v).1) l) (mul-pos q l)
      (ring (u / gcd u v) (v / gcd u v) x y (gcd u v) u v (exact (gcd u v) u (gcd_is u v).0) (exact (gcd u v) v (gcd_is u v).1));
})
  where
    ring : (a b x y g u v : ℕ) → a * g ≡ u → b * g ≡ v → (a * x) * (v * y) ≡ (u * x) * (b * y)
    ring a b x y g u v e f = rw (← e, ← f) (omega arith)

pub nothing_made : (u v x y : ℕ) → u ≡ 0 → 0 < v → 0 < y → make (pos 0) 1 ≡ make (pos (u * x)) (v * y)
nothing_made u v x y e p q = same_made 0 (u * x) 1 (v * y) (omega arith) (mul-pos p q) (omega (arith, ap (λ (n : ℕ). n * x) e))

-- ---- reduced products with a long factor don't fit
pub long_above : (a b c d : ℕ) → 2 ^ 63 ≤ a → 0 < b → 0 < c → 0 < d → gcd (a * b) (c * d) ≡ 1 → fits (make (pos (a * b)) (c * d)) ≡ false
long_above a b c d l p q r e =
    let m : ((make (pos (a * b)) (c * d)).num ≡ pos (a * b)) × ((make (pos (a * b)) (c * d)).den ≡ c * d) = make_reduced (pos (a * b)) (c * d) (mul-pos q r) e in
    fits_no_num _ (rw m.0 (longer a b l p))

pub long_below : (a b c d : ℕ) → 2 ^ 63 ≤ c → 0 < c → 0 < d → gcd (a * b) (c * d) ≡ 1 → fits (make (pos (a * b)) (c * d)) ≡ false
long_below a b c d l q r e =
    let m : ((make (pos (a * b)) (c * d)).num ≡ pos (a * b)) × ((make (pos (a * b)) (c * d)).den ≡ c * d) = make_reduced (pos (a * b)) (c * d) (mul-pos q r) e in
    fits_no_den _ (rw m.1 (longer c d l r))

-- what the code has once each ratio is cancelled against the other
pub record Crossed (u v x y g h : ℕ) : Type 0 where
  pub left_some : 0 < g
  pub right_some : 0 < h
  pub above : 0 < x / h
  pub first : 0 < v / h
  pub second : 0 < y / g
  pub reduced : gcd ((u / g) * (x / h)) ((v / h) * (y / g)) ≡ 1
  pub up_less : x / h ≤ x
  pub down_less : y / g ≤ y
  pub same : make (pos ((u / g) * (x / h))) ((v / h) * (y / g)) ≡ make (pos (u * x)) (v * y)

crossed_of : (u v x y : ℕ) → 0 < u → 0 < v → 0 < x → 0 < y → gcd u v ≡ 1 → gcd x y ≡ 1 → Crossed u v x y (gcd u y) (gcd x v)
crossed_of u v x y pu pv px py e f =
    let a : 0 < x / gcd x v = part_some x (gcd x v) px (gcd_is x v).0 in
    let b : 0 < v / gcd x v = part_some v (gcd x v) pv (gcd_is x v).1 in
    let c : 0 < y / gcd u y = part_some y (gcd u y) py (gcd_is u y).1 in
    record {
      left_some = gcd_pos u y py;
      right_some = gcd_pos x v pv;
      above = a;
      first = b;
      second = c;
      reduced = crosswise u v x y pu pv px py e f;
      up_less = le_of_dvd px (part_divides x (gcd x v) (gcd_is x v).0);
      down_less = le_of_dvd py (part_divides y (gcd u y) (gcd_is u y).1);
      same = same_made _ _ _ _ (mul-pos b c) (mul-pos pv py)
          (ring (u / gcd u y) (x / gcd x v) (v / gcd x v) (y / gcd u y) (gcd u y) (gcd x v) u v x y
          (exact (gcd u y) u (gcd_is u y).0) (exact (gcd x v) v (gcd_is x v).1) (exact (gcd x v) x (gcd_is x v).0) (exact (gcd u y) y (gcd_is u y).1));
    }
  where
    ring : (a b c d g h u v x y : ℕ) → a * g ≡ u → c * h ≡ v → b * h ≡ x → d * g ≡ y → (a * b) * (v * y) ≡ (u * x) * (c * d)
    ring a b c d g h u v x y i j k l = rw (← i, ← j, ← k, ← l) (omega arith)

pub crossed : (u v x y g h : ℕ) → 0 < u → 0 < v → 0 < x → 0 < y → gcd u v ≡ 1 → gcd x y ≡ 1 → g ≡ gcd u y → h ≡ gcd x v → Crossed u v x y g h
crossed u v x y g h pu pv px py e f i j = subst₂ (λ (g h : ℕ). Crossed u v x y g h) (sym i) (sym j) (crossed_of u v x y pu pv px py e f)
