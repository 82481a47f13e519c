-- Raised numbers and the lexicographic ratio test.
use Rattle.std.proofs.Common.{◌≡◌, ℕ, zero, suc, ◌+◌, ◌*◌, ◌<◌, ◌≤◌, ◌⊎◌, inl, inr, refl, sym, ◌∙◌, ap, ap₂, subst, arith, [], ◌∷◌, ℤ, pos, negsuc, mul-pos, ◌-◌}
use Rattle.hys_number.specs.Number.{Number}
use Rattle.hys_number.specs.Ops.{neg, inverse, whole, ◌+ₙ◌, ◌*ₙ◌, ◌-ₙ◌, ◌≤ₙ◌, ◌<ₙ◌}
use Rattle.hys_number.proofs.Laws.{whole-ratio, mul-ratio, ratio}
use Rattle.hys_number.proofs.Order.{le_total, mul-le-mul_left}
use Rattle.hys_number.proofs.Scale.{overs, common1, common1_of, common2, common2_of, same-over, lt-over}
use Rattle.hys_number.proofs.Inverse.{mul_inverse}
use Rattle.hys_simplex.specs.Status.{IsPositive, IsNull, Rises}
use Rattle.hys_simplex.proofs.Status.{zero_of, above_of, below_of}
use Rattle.hys_number.proofs.Ring.{by_ring, v, k, minus, ◌⊕◌, ◌⊗◌, ◌⊖◌}

-- ---- single numbers
pub data Above (a : Number) : Type 0 where
  above : (p d : ℕ) → 0 < p → 0 < d → a ≡ ratio p 0 d → Above a

pub above_is : (a : Number) → whole 0 <ₙ a → Above a
above_is a l = elim (common1_of a) [ common1 D h p n e ↦ above (p - n) D (at_least D h p n e) h (e ∙ (same-over D h p n (p - n) 0).1 (omega (arith, at_least D h p n e))) ]
  where
    at_least : (D : ℕ) → 0 < D → (p n : ℕ) → a ≡ ratio p n D → 0 < p - n
    at_least D h p n e =
        let m : ratio (0 * D) 0 D <ₙ ratio p n D = rw (whole-ratio 0 D h, e) at l in
        omega (arith, (lt-over D h (0 * D) 0 p n).0 m)

pub mul_above : (a b : Number) → whole 0 <ₙ a → whole 0 <ₙ b → whole 0 <ₙ a *ₙ b
mul_above a b l m = elim (above_is a l) [
  | above p d hp hd e ↦ elim (above_is b m) [
    | above p' d' hp' hd' e' ↦
        rw (e, e', mul-ratio p 0 d p' 0 d' hd hd', whole-ratio 0 (d * d') (mul-pos hd hd')) ((lt-over (d * d') (mul-pos hd hd') (0 * (d * d')) 0 (p * p' + 0 * 0) (p * 0 + 0 * p')).1 (omega (arith, mul-pos hp hp')))
  ]
]

pub lt_le : (a b : Number) → a <ₙ b → a ≤ₙ b
lt_le a b = elim (common2_of a b) [ common2 D h p1 n1 p2 n2 e1 e2 ↦ rw (e1, e2) (simp overs (omega arith)) ]

pub lt_irrefl : (a : Number) → a <ₙ a → ⊥
lt_irrefl a = elim (common1_of a) [ common1 D h p1 n1 e1 ↦ rw (e1) (simp overs (omega arith)) ]

pub lt_not_le : (a b : Number) → a <ₙ b → b ≤ₙ a → ⊥
lt_not_le a b = elim (common2_of a b) [ common2 D h p1 n1 p2 n2 e1 e2 ↦ rw (e1, e2) (simp overs (omega arith)) ]

pub add_above : (a b : Number) → whole 0 <ₙ a → whole 0 ≤ₙ b → whole 0 <ₙ a +ₙ b
add_above a b = elim (common2_of a b) [ common2 D h p1 n1 p2 n2 e1 e2 ↦ rw (e1, e2) (simp (overs, whole-ratio 0 D h) (omega arith)) ]

pub neg_above : (a : Number) → a <ₙ whole 0 → whole 0 <ₙ neg a
neg_above a = elim (common1_of a) [ common1 D h p1 n1 e1 ↦ rw (e1) (simp (overs, whole-ratio 0 D h) (omega arith)) ]

pub not_both_signs : (a : Number) → whole 0 <ₙ a → whole 0 <ₙ neg a → ⊥
not_both_signs a = elim (common1_of a) [ common1 D h p1 n1 e1 ↦ rw (e1) (simp (overs, whole-ratio 0 D h) (omega arith)) ]

pub above_not_zero : (a : Number) → whole 0 <ₙ a → a ≡ whole 0 → ⊥
above_not_zero a l e = lt_irrefl (whole 0) (subst (λ z. whole 0 <ₙ z) e l)

pub one_not_zero : whole 1 ≡ whole 0 → ⊥
one_not_zero e = above_not_zero (whole 1) one e
  where
    one : whole 0 <ₙ whole 1
    one = let h : 0 < 1 = omega arith in rw (whole-ratio 0 1 h, whole-ratio 1 1 h) ((lt-over 1 h (0 * 1) 0 (1 * 1) 0).1 (omega arith))

pub inverse_above : (a : Number) → whole 0 <ₙ a → whole 0 <ₙ inverse a
inverse_above a l = elim (le_total (inverse a) (whole 0)) as (λ _. whole 0 <ₙ inverse a) [
  | inl m ↦ absurd (lt_not_le (whole 0) (whole 1) one (subst (λ z. z ≤ₙ whole 0) (mul_inverse a (above_not_zero a l))
      (subst (λ z. a *ₙ inverse a ≤ₙ z) (by_ring (a ∷ []) (v 0 ⊗ k 0) (k 0) refl) (mul-le-mul_left a (inverse a) (whole 0) (lt_le (whole 0) a l) m))))
  | inr m ↦ m
]
  where
    one : whole 0 <ₙ whole 1
    one = let h : 0 < 1 = omega arith in rw (whole-ratio 0 1 h, whole-ratio 1 1 h) ((lt-over 1 h (0 * 1) 0 (1 * 1) 0).1 (omega arith))

pub data Sign (a : Number) : Type 0 where
  below : a <ₙ whole 0 → Sign a
  null : a ≡ whole 0 → Sign a
  over : whole 0 <ₙ a → Sign a

pub sign_of : (a : Number) → Sign a
sign_of a = go a.num refl
  where
    go : (z : ℤ) → a.num ≡ z → Sign a
    go (pos zero) e = null (zero_of a e)
    go (pos (suc n)) e = over (above_of a n e)
    go (negsuc n) e = below (below_of a n e)

-- ---- raised numbers
pub data RaisedSign (N : ℕ) (a : ℕ → Number) : Type 0 where
  down : IsPositive N (λ t. neg (a t)) → RaisedSign N a
  nothing : IsNull N a → RaisedSign N a
  up : IsPositive N a → RaisedSign N a

pub raised_sign : (N : ℕ) (a : ℕ → Number) → RaisedSign N a
raised_sign zero a = nothing (λ j l. absurd (omega arith))
raised_sign (suc N) a = go (raised_sign N a)
  where
    wider : (b : ℕ → Number) → IsPositive N b → IsPositive (suc N) b
    wider b h = let l : h.place < N = h.within in record { place = h.place; within = omega arith; before = h.before; above = h.above }

    here : (b : ℕ → Number) → ((j : ℕ) → j < N → b j ≡ whole 0) → whole 0 <ₙ b N → IsPositive (suc N) b
    here b h l = record { place = N; within = omega arith; before = h; above = l }

    zero_neg : neg (whole 0) ≡ whole 0
    zero_neg = by_ring [] (minus (k 0)) (k 0) refl

    all_zero : IsNull N a → a N ≡ whole 0 → IsNull (suc N) a
    all_zero h e j l = elim (cases j) as (λ _. a j ≡ whole 0) [ inl m ↦ h j m | inr q ↦ ap a q ∙ e ]
      where
        cases : (i : ℕ) → (j < N) ⊎ (j ≡ N)
        cases i = grind arith

    go : RaisedSign N a → RaisedSign (suc N) a
    go (down h) = down (wider (λ t. neg (a t)) h)
    go (up h) = up (wider a h)
    go (nothing h) = elim (sign_of (a N)) as (λ _. RaisedSign (suc N) a) [
      | below l ↦ down (here (λ t. neg (a t)) (λ j m. ap neg (h j m) ∙ zero_neg) (neg_above (a N) l))
      | null e ↦ nothing (all_zero h e)
      | over l ↦ up (here a h l)
    ]

pub positive_same : (N : ℕ) (a b : ℕ → Number) → ((t : ℕ) → t < N → a t ≡ b t) → IsPositive N a → IsPositive N b
positive_same N a b e h = let l : h.place < N = h.within in
    record { place = h.place; within = h.within; before = λ j m. sym (e j (omega arith)) ∙ h.before j m; above = subst (λ z. whole 0 <ₙ z) (e h.place h.within) h.above }

pub positive_scale : (N : ℕ) (c : Number) (a : ℕ → Number) → whole 0 <ₙ c → IsPositive N a → IsPositive N (λ t. c *ₙ a t)
positive_scale N c a l h = record {
  place = h.place;
  within = h.within;
  before = λ j m. ap (λ z. c *ₙ z) (h.before j m) ∙ by_ring (c ∷ []) (v 0 ⊗ k 0) (k 0) refl;
  above = mul_above c (a h.place) l h.above;
}

pub positive_not_null : (N : ℕ) (a : ℕ → Number) → IsPositive N a → IsNull N a → ⊥
positive_not_null N a h n = above_not_zero (a h.place) h.above (n h.place h.within)

pub positive_add : (N : ℕ) (a b : ℕ → Number) → IsPositive N a → IsPositive N b → IsPositive N (λ t. a t +ₙ b t)
positive_add N a b h g = elim (cases h.place g.place) as (λ _. IsPositive N (λ t. a t +ₙ b t)) [
  | inl l ↦ first h.place l
  | inr l ↦ elim (cases g.place h.place) as (λ _. IsPositive N (λ t. a t +ₙ b t)) [
    | inl m ↦ record {
      place = g.place;
      within = g.within;
      before = λ j q. ap₂ ◌+ₙ◌ (h.before j (omega (arith, q, m))) (g.before j q) ∙ zeros;
      above = subst (λ z. whole 0 <ₙ z) (swap (a g.place) (b g.place)) (add_above (b g.place) (a g.place) g.above (subst (λ z. whole 0 ≤ₙ z) (sym (h.before g.place m)) zero_le));
    }
    | inr m ↦ let e : g.place ≡ h.place = omega arith in record {
      place = h.place;
      within = h.within;
      before = λ j q. ap₂ ◌+ₙ◌ (h.before j q) (g.before j (omega (arith, q, e))) ∙ zeros;
      above = add_above (a h.place) (b h.place) h.above (subst (λ z. whole 0 ≤ₙ b z) e (lt_le (whole 0) (b g.place) g.above));
    }
  ]
]
  where
    cases : (x y : ℕ) → (x < y) ⊎ (y ≤ x)
    cases x y = grind arith

    zeros : whole 0 +ₙ whole 0 ≡ whole 0
    zeros = by_ring [] (k 0 ⊕ k 0) (k 0) refl

    swap : (x y : Number) → y +ₙ x ≡ x +ₙ y
    swap x y = by_ring (x ∷ y ∷ []) (v 1 ⊕ v 0) (v 0 ⊕ v 1) refl

    zero_le : whole 0 ≤ₙ whole 0
    zero_le = elim (common1_of (whole 0)) [ common1 D h p1 n1 e1 ↦ rw (e1) (simp overs (omega arith)) ]

    first : (x : ℕ) → h.place < g.place → IsPositive N (λ t. a t +ₙ b t)
    first x l = record {
      place = h.place;
      within = h.within;
      before = λ j q. ap₂ ◌+ₙ◌ (h.before j q) (g.before j (omega (arith, q, l))) ∙ zeros;
      above = add_above (a h.place) (b h.place) h.above (subst (λ z. whole 0 ≤ₙ z) (sym (g.before h.place l)) zero_le);
    }

pub rises_trans : (N : ℕ) (a b c : ℕ → Number) → Rises N a b → Rises N b c → Rises N a c
rises_trans N a b c h g = positive_same N (λ t. (b t -ₙ a t) +ₙ (c t -ₙ b t)) (λ t. c t -ₙ a t) (λ t l. by_ring (a t ∷ b t ∷ c t ∷ []) ((v 1 ⊖ v 0) ⊕ (v 2 ⊖ v 1)) (v 2 ⊖ v 0) refl)
    (positive_add N (λ t. b t -ₙ a t) (λ t. c t -ₙ b t) h g)

pub rises_irrefl : (N : ℕ) (a b : ℕ → Number) → ((t : ℕ) → t < N → a t ≡ b t) → Rises N a b → ⊥
rises_irrefl N a b e h = positive_not_null N (λ t. b t -ₙ a t) h (λ t l. ap (λ z. z -ₙ a t) (sym (e t l)) ∙ by_ring (a t ∷ []) (v 0 ⊖ v 0) (k 0) refl)

-- ---- the ratio test keeps the sign of a raised cost: x, y are the sizes of the raised cells of column j and of the entering one, a, b those of the cells of the leaving row
pub ratio_keeps : (N : ℕ) (x y : ℕ → Number) (a b : Number) → IsPositive N x → IsPositive N y → whole 0 <ₙ b →
    (whole 0 <ₙ a → IsPositive N (λ t. a *ₙ y t -ₙ b *ₙ x t) → ⊥) → (IsNull N (λ t. x t -ₙ (y t *ₙ inverse b) *ₙ a) → ⊥) → IsPositive N (λ t. x t -ₙ (y t *ₙ inverse b) *ₙ a)
ratio_keeps N x y a b hx hy hb test some = elim (sign_of a) as (λ _. IsPositive N (λ t. x t -ₙ (y t *ₙ inverse b) *ₙ a)) [
  | below l ↦ positive_same N (λ t. x t +ₙ (neg a *ₙ inverse b) *ₙ y t) _ (λ t m. by_ring (x t ∷ a ∷ inverse b ∷ y t ∷ []) (v 0 ⊕ (minus (v 1) ⊗ v 2) ⊗ v 3) (v 0 ⊖ (v 3 ⊗ v 2) ⊗ v 1) refl)
      (positive_add N x (λ t. (neg a *ₙ inverse b) *ₙ y t) hx (positive_scale N (neg a *ₙ inverse b) y (mul_above (neg a) (inverse b) (neg_above a l) (inverse_above b hb)) hy))
  | null e ↦ positive_same N x _ (λ t m. sym (ap (λ z. x t -ₙ (y t *ₙ inverse b) *ₙ z) e ∙ by_ring (x t ∷ y t ∷ inverse b ∷ []) (v 0 ⊖ (v 1 ⊗ v 2) ⊗ k 0) (v 0) refl)) hx
  | over l ↦ elim (raised_sign N (λ t. x t -ₙ (y t *ₙ inverse b) *ₙ a)) as (λ _. IsPositive N (λ t. x t -ₙ (y t *ₙ inverse b) *ₙ a)) [
    | down h ↦ absurd (test l (positive_same N _ _ (λ t m. times (x t) (y t)) (positive_scale N b (λ t. neg (x t -ₙ (y t *ₙ inverse b) *ₙ a)) hb h)))
    | nothing h ↦ absurd (some h)
    | up h ↦ h
  ]
]
  where
    times : (x y : Number) → b *ₙ neg (x -ₙ (y *ₙ inverse b) *ₙ a) ≡ a *ₙ y -ₙ b *ₙ x
    times x y = by_ring (x ∷ y ∷ a ∷ b ∷ inverse b ∷ []) (v 3 ⊗ minus (v 0 ⊖ (v 1 ⊗ v 4) ⊗ v 2)) ((v 3 ⊗ v 4) ⊗ (v 2 ⊗ v 1) ⊖ v 3 ⊗ v 0) refl
        ∙ ap (λ z. z *ₙ (a *ₙ y) -ₙ b *ₙ x) (mul_inverse b (above_not_zero b hb)) ∙ by_ring ((a *ₙ y) ∷ (b *ₙ x) ∷ []) (k 1 ⊗ v 0 ⊖ v 1) (v 0 ⊖ v 1) refl
