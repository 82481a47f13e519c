-- The order of two ratios by their whole parts, and then by what is left over.
use Rattle.std.proofs.Common.{◌≡◌, ℕ, suc, ◌+◌, ◌*◌, ◌/◌, ◌%◌, ◌<◌, ◌≤◌, sym, ◌∙◌, ap, arith, tests, mod-lt, div-add-mod', mul-lt-mul_of_pos_right, mul-le-mul_right, Less, Equal, Greater, ◌⊎◌, inl, inr, ap₂, mul-pos, mul_comm}
use Rattle.std.specs.Ordering.{MatchOrdering, nat_cmp}

pub less : (a b : ℕ) → a < b → nat_cmp a b ≡ Less
less a b h = grind (arith, tests)

pub equal : (a b : ℕ) → a ≡ b → nat_cmp a b ≡ Equal
equal a b h = grind (arith, tests)

pub greater : (a b : ℕ) → b < a → nat_cmp a b ≡ Greater
greater a b h = grind (arith, tests)

three : (a b : ℕ) → (a < b) ⊎ ((a ≡ b) ⊎ (b < a))
three a b = grind arith

-- two comparisons that go alike
pub alike : (a b c d : ℕ) → (a < b → c < d) → (a ≡ b → c ≡ d) → (b < a → d < c) → nat_cmp a b ≡ nat_cmp c d
alike a b c d f g h = elim (three a b) [
  | inl l ↦ less a b l ∙ sym (less c d (f l))
  | inr m ↦ elim m [
    | inl e ↦ equal a b e ∙ sym (equal c d (g e))
    | inr l ↦ greater a b l ∙ sym (greater c d (h l))
  ]
]

below : (x y z w q p r s : ℕ) → 0 < w → x ≡ q * y + r → z ≡ p * w + s → r < y → q < p → x * w < z * y
below x y z w q p r s pos e f h l =
    let a : suc q * y ≤ p * y = mul-le-mul_right y l in
    let b : x < p * y = omega arith in
    let c : x * w < p * y * w = mul-lt-mul_of_pos_right b pos in
    let d : p * w ≤ z = omega arith in
    let g : p * w * y ≤ z * y = mul-le-mul_right y d in
    omega arith

-- whole parts that differ decide
pub by_whole : (x y z w : ℕ) → 0 < y → 0 < w → (x / y ≡ z / w → ⊥) → nat_cmp (x / y) (z / w) ≡ nat_cmp (x * w) (z * y)
by_whole x y z w p q n = alike (x / y) (z / w) (x * w) (z * y)
    (λ l. below x y z w (x / y) (z / w) (x % y) (z % w) q (sym (div-add-mod' x y)) (sym (div-add-mod' z w)) (mod-lt x p) l)
    (λ e. absurd (n e))
    (λ l. below z w x y (z / w) (x / y) (z % w) (x % y) p (sym (div-add-mod' z w)) (sym (div-add-mod' x y)) (mod-lt z q) l)

-- what is left over, where the whole parts are equal
left_over : (x y z w q r s : ℕ) → x ≡ q * y + r → z ≡ q * w + s → nat_cmp (r * w) (s * y) ≡ nat_cmp (x * w) (z * y)
left_over x y z w q r s e f =
    let a : x * w ≡ q * y * w + r * w = omega (arith, ap (λ (n : ℕ). n * w) e) in
    let b : z * y ≡ q * y * w + s * y = omega (arith, ap (λ (n : ℕ). n * y) f) in
    alike (r * w) (s * y) (x * w) (z * y) (λ l. omega arith) (λ l. omega arith) (λ l. omega arith)

pub by_rest : (x y z w : ℕ) → x / y ≡ z / w → nat_cmp ((x % y) * w) ((z % w) * y) ≡ nat_cmp (x * w) (z * y)
by_rest x y z w e = left_over x y z w (x / y) (x % y) (z % w) (sym (div-add-mod' x y)) (sym (div-add-mod' z w) ∙ ap (λ (n : ℕ). n * w + z % w) (sym e))

pub turned : (x y z w : ℕ) → x / y ≡ z / w → nat_cmp (w * (x % y)) (y * (z % w)) ≡ nat_cmp (x * w) (z * y)
turned x y z w e = ap₂ nat_cmp (mul_comm w (x % y)) (mul_comm y (z % w)) ∙ by_rest x y z w e

-- a remainder of 0 decides
pub by_zero : (x y z w : ℕ) → 0 < y → 0 < w → x / y ≡ z / w → (x % y ≡ 0) ⊎ (z % w ≡ 0) → nat_cmp (x % y) (z % w) ≡ nat_cmp (x * w) (z * y)
by_zero x y z w p q e h = ends (x % y) (z % w) h ∙ by_rest x y z w e
  where
    ends : (r s : ℕ) → (r ≡ 0) ⊎ (s ≡ 0) → nat_cmp r s ≡ nat_cmp (r * w) (s * y)
    ends r s (inl e) = alike r s (r * w) (s * y) (λ l. omega (arith, mul-pos {m = s} {n = y} (omega arith) p, ap (λ (n : ℕ). n * w) e)) (λ i. omega (arith, ap (λ (n : ℕ). n * w) e, ap (λ (n : ℕ). n * y) (sym i ∙ e))) (λ l. absurd (omega arith))
    ends r s (inr e) = alike r s (r * w) (s * y) (λ l. absurd (omega arith)) (λ i. omega (arith, ap (λ (n : ℕ). n * w) (i ∙ e), ap (λ (n : ℕ). n * y) e)) (λ l. omega (arith, mul-pos {m = r} {n = w} (omega arith) q, ap (λ (n : ℕ). n * y) e))

pub nat_ranks : (a b : ℕ) → MatchOrdering (nat_cmp a b) (a < b) (a ≡ b) (b < a)
nat_ranks a b = elim (three a b) [
  | inl l ↦ rw (less a b l) l
  | inr m ↦ elim m [
    | inl e ↦ rw (equal a b e) e
    | inr l ↦ rw (greater a b l) l
  ]
]
