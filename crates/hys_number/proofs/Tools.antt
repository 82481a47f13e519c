-- The tools for facts on numbers, each at a small use: `omega` over a common denominator for linear goals, `simp ring` and
-- `by_ring` for ring identities, `mul-le-mul_left` and `mul-le-mul_left_neg` for products of signs, and `dot` and `sum_to`
-- with their laws for sums.
use Rattle.std.proofs.Common.{◌≡◌, ℕ, ◌↔◌, List, [], ◌∷◌, length, refl, arith, ap, ◌∙◌}
use Rattle.hys_number.specs.Number.{Number}
use Rattle.hys_number.specs.Ops.{◌+ₙ◌, ◌*ₙ◌, ◌-ₙ◌, neg, ◌≤ₙ◌, ◌<ₙ◌, whole}
use Rattle.hys_number.proofs.Laws.{whole-ratio}
use Rattle.hys_number.proofs.Field.{mul_one, add_neg, mul_zero}
use Rattle.hys_number.proofs.Order.{mul-le-mul_left, mul-le-mul_left_neg}
use Rattle.hys_number.proofs.Lists.{dot, add_multiple, dot-add_multiple, Below, dot_bound}
use Rattle.hys_number.specs.Sums.{sum_to}
use Rattle.hys_number.proofs.Sums.{sum_to-add, sum_to-mul}
use Rattle.hys_number.proofs.Regroup.{ring}
use Rattle.hys_number.proofs.Ring.{by_ring, v, ◌⊕◌, ◌⊗◌, ◌⊖◌}
use Rattle.hys_number.proofs.Scale.{overs, common2, common2_of, common4, common4_of, common7, common7_of}

-- linear: a guard row
guard_row : (f f' M c : Number) → f' +ₙ c ≡ f → f ≤ₙ M → (f' +ₙ M *ₙ whole 1 ≤ₙ M -ₙ c) ↔ (f ≤ₙ whole 0)
guard_row f f' M c = elim (common4_of f f' M c) [ common4 D h p1 n1 p2 n2 p3 n3 p4 n4 e1 e2 e3 e4 ↦ rw (e1, e2, e3, e4) (simp (overs, whole-ratio 0 D h) (omega arith)) ]

-- linear: the rows of a choice whose literal is 1
choice_true : (a b z m1 M1 m2 M2 : Number) → m1 ≤ₙ a → a ≤ₙ M1 → m2 ≤ₙ b → b ≤ₙ M2 →
    (((m2 -ₙ M1) *ₙ whole 1 +ₙ z ≤ₙ b) × ((m1 -ₙ M2) *ₙ whole 1 -ₙ z ≤ₙ neg b) × ((m1 -ₙ M2) *ₙ (whole 1 -ₙ whole 1) +ₙ z ≤ₙ a) × ((m2 -ₙ M1) *ₙ (whole 1 -ₙ whole 1) -ₙ z ≤ₙ neg a)) ↔ (z ≡ a)
choice_true a b z m1 M1 m2 M2 = simp (mul_one, add_neg, mul_zero) (elim (common7_of a b z m1 M1 m2 M2) [
  | common7 D h p1 n1 p2 n2 p3 n3 p4 n4 p5 n5 p6 n6 p7 n7 e1 e2 e3 e4 e5 e6 e7 ↦ rw (e1, e2, e3, e4, e5, e6, e7) (simp (overs, whole-ratio 0 D h) (omega arith))
])

-- linear: what a product that is at most 0 adds lowers
lowered : (c w : Number) → w ≤ₙ whole 0 → c +ₙ w ≤ₙ c
lowered c w = elim (common2_of c w) [ common2 D h p1 n1 p2 n2 e1 e2 ↦ rw (e1, e2) (simp (overs, whole-ratio 0 D h) (omega arith)) ]

below : (s b : Number) → s ≤ₙ b → s -ₙ b ≤ₙ whole 0
below s b = elim (common2_of s b) [ common2 D h p1 n1 p2 n2 e1 e2 ↦ rw (e1, e2) (simp (overs, whole-ratio 0 D h) (omega arith)) ]

-- a product of signs: a step of weak duality
duality_step : (c y s b : Number) → whole 0 ≤ₙ y → s ≤ₙ b → c +ₙ y *ₙ (s -ₙ b) ≤ₙ c
duality_step c y s b l m = let w : y *ₙ (s -ₙ b) ≤ₙ y *ₙ whole 0 = mul-le-mul_left y (s -ₙ b) (whole 0) l (below s b m) in lowered c (y *ₙ (s -ₙ b)) (rw mul_zero at w)

-- a ring identity without cancellation: a pivot adds a multiple of a row
pivot : (a b k x s t : Number) → (a *ₙ x +ₙ s) +ₙ k *ₙ (b *ₙ x +ₙ t) ≡ (a +ₙ k *ₙ b) *ₙ x +ₙ (s +ₙ k *ₙ t)
pivot a b k x s t = simp ring

-- a ring identity that cancels: the entry under a pivot
cancels : (a b k x : Number) → (a +ₙ k *ₙ b) *ₙ x -ₙ k *ₙ (b *ₙ x) ≡ a *ₙ x
cancels a b k x = by_ring (a ∷ b ∷ k ∷ x ∷ []) ((v 0 ⊕ v 2 ⊗ v 1) ⊗ v 3 ⊖ v 2 ⊗ (v 1 ⊗ v 3)) (v 0 ⊗ v 3) refl

-- a ring identity that cancels: both sides of a row with a multiple of another taken away
row_less : (a b k x s t : Number) → (a *ₙ x +ₙ s) -ₙ k *ₙ (b *ₙ x +ₙ t) ≡ (a -ₙ k *ₙ b) *ₙ x +ₙ (s -ₙ k *ₙ t)
row_less a b k x s t = simp ring

-- a product of signs: the two ends of a term over a box
low_end : (a x low : Number) → whole 0 ≤ₙ a → low ≤ₙ x → a *ₙ low ≤ₙ a *ₙ x
low_end a x low h l = mul-le-mul_left a low x h l

high_end : (a x high : Number) → a ≤ₙ whole 0 → x ≤ₙ high → a *ₙ high ≤ₙ a *ₙ x
high_end a x high h l = mul-le-mul_left_neg a x high h l

-- a sum of a list: a pivot adds a multiple of a row to a row
pivot_row : (t : Number) (row by x : List Number) → length row ≡ length by → dot (add_multiple t row by) x ≡ dot row x +ₙ t *ₙ dot by x
pivot_row t row by x e = dot-add_multiple t row by x e

-- a sum of a list: a row is greatest at the ends of the boxes
over_boxes : (row x ends : List Number) → Below row x ends → dot row x ≤ₙ dot row ends
over_boxes row x ends h = dot_bound row x ends h

-- a sum over places: rows weighted by multipliers, regrouped
weighted : (n : ℕ) (c : Number) (f g : ℕ → Number) → sum_to n (λ i. c *ₙ f i +ₙ g i) ≡ c *ₙ sum_to n f +ₙ sum_to n g
weighted n c f g = sum_to-add n (λ i. c *ₙ f i) g ∙ ap (λ (x : Number). x +ₙ sum_to n g) (sum_to-mul n c f)
