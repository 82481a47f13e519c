-- Weak duality of linear programs with boxes.
use Rattle.std.proofs.Common.{◌≡◌, ℕ, ◌<◌, refl, sym, ◌∙◌, ap, subst, arith, Bool, true, false, ℤ, pos, negsuc, [], ◌∷◌}
use Rattle.hys_number.specs.Number.{Number}
use Rattle.hys_number.specs.Ops.{◌+ₙ◌, ◌*ₙ◌, ◌-ₙ◌, neg, ◌≤ₙ◌, whole}
use Rattle.hys_number.specs.Sums.{sum_to}
use Rattle.hys_number.proofs.Laws.{whole-ratio}
use Rattle.hys_number.proofs.Field.{mul_zero, add_neg}
use Rattle.hys_number.proofs.Order.{le_refl', le_trans, le_of_lt, add-le-add, mul-le-mul_left, mul-le-mul_left_neg, at_least_zero, below_zero}
use Rattle.hys_number.proofs.Scale.{overs, common2, common2_of}
use Rattle.hys_number.proofs.Sums.{sum_to-same, sum_to-add, sum_to-mul, sum_to-le}
use Rattle.hys_number.proofs.Ring.{by_ring, v, k, minus, ◌⊕◌, ◌⊗◌, ◌⊖◌}
use Rattle.hys_lin.specs.Sums.{compared, Within}
use Rattle.hys_lin.specs.Ranges.{end_by_sign}
use Rattle.hys_lin.specs.declared.form.Interval.{Interval}
use Rattle.hys_relax.specs.Node.{Boxes, Inside}
use Rattle.hys_relax.specs.LinearProgram.{LinearProgram, row_sum, cost_of, Meets}
use Rattle.hys_relax.specs.Bound.{SignHolds, lagrangian, IsLeastOver, reduced_cost, reduced_constant, lesser_end, least_product, bound_of, IsSigned}
use Rattle.hys_relax.proofs.Sums.{sum_linear, sum_zero, sum_swap}

pub least_below : (d : Number) (b : Interval) (x : Number) → Within b x → least_product d b ≤ₙ d *ₙ x
least_below d b x h = go d.num refl
  where
    go : (z : ℤ) → d.num ≡ z → d *ₙ end_by_sign false z b ≤ₙ d *ₙ x
    go (pos n) e = mul-le-mul_left d b.low x (at_least_zero d n e) h.low
    go (negsuc n) e = mul-le-mul_left_neg d x b.high (le_of_lt d (whole 0) (below_zero d n e)) h.high

end_within : (z : ℤ) (b : Interval) → b.low ≤ₙ b.high → Within b (end_by_sign false z b)
end_within (pos n) b h = record { low = le_refl' b.low; high = h }
end_within (negsuc n) b h = record { low = h; high = le_refl' b.high }

-- ---- weak duality
-- the cost with the weighted rows, regrouped by columns
pub regrouped : (P : LinearProgram) (y x : ℕ → Number) →
    reduced_constant P y +ₙ sum_to P.columns (λ j. reduced_cost P y j *ₙ x j) ≡ cost_of P x +ₙ sum_to P.rows (λ i. y i *ₙ (row_sum P i x -ₙ P.bound i))
regrouped P y x =
    let cols : sum_to P.columns (λ j. reduced_cost P y j *ₙ x j) ≡ sum_to P.columns (λ j. P.cost j *ₙ x j) +ₙ sum_to P.rows (λ i. y i *ₙ row_sum P i x) =
    sum_to-same P.columns _ (λ j. P.cost j *ₙ x j +ₙ sum_to P.rows (λ i. y i *ₙ (P.factor i j *ₙ x j))) (λ j l. split (P.cost j) (x j) (λ i. P.factor i j))
    ∙ sum_to-add P.columns (λ j. P.cost j *ₙ x j) (λ j. sum_to P.rows (λ i. y i *ₙ (P.factor i j *ₙ x j)))
    ∙ ap (λ z. sum_to P.columns (λ j. P.cost j *ₙ x j) +ₙ z)
    (sum_swap P.columns P.rows (λ j i. y i *ₙ (P.factor i j *ₙ x j)) ∙ sum_to-same P.rows _ _ (λ i l. sum_to-mul P.columns (y i) (λ j. P.factor i j *ₙ x j))) in
    let rows : sum_to P.rows (λ i. y i *ₙ (row_sum P i x -ₙ P.bound i)) ≡ whole 1 *ₙ sum_to P.rows (λ i. y i *ₙ row_sum P i x) +ₙ neg (whole 1) *ₙ sum_to P.rows (λ i. y i *ₙ P.bound i) =
    sum_to-same P.rows _ (λ i. whole 1 *ₙ (y i *ₙ row_sum P i x) +ₙ neg (whole 1) *ₙ (y i *ₙ P.bound i)) (λ i l. by_ring (y i ∷ row_sum P i x ∷ P.bound i ∷ []) (v 0 ⊗ (v 1 ⊖ v 2)) (k 1 ⊗ (v 0 ⊗ v 1) ⊕ minus (k 1) ⊗ (v 0 ⊗ v 2)) refl)
    ∙ sum_linear P.rows (whole 1) (neg (whole 1)) (λ i. y i *ₙ row_sum P i x) (λ i. y i *ₙ P.bound i) in
    rw (cols, rows) (by_ring (P.constant ∷ sum_to P.rows (λ i. y i *ₙ P.bound i) ∷ sum_to P.columns (λ j. P.cost j *ₙ x j) ∷ sum_to P.rows (λ i. y i *ₙ row_sum P i x) ∷ [])
    ((v 0 ⊖ v 1) ⊕ (v 2 ⊕ v 3)) ((v 0 ⊕ v 2) ⊕ (k 1 ⊗ v 3 ⊕ minus (k 1) ⊗ v 1)) refl)
  where
    split : (c w : Number) (a : ℕ → Number) → (c +ₙ sum_to P.rows (λ i. y i *ₙ a i)) *ₙ w ≡ c *ₙ w +ₙ sum_to P.rows (λ i. y i *ₙ (a i *ₙ w))
    split c w a =
        let e : sum_to P.rows (λ i. y i *ₙ (a i *ₙ w)) ≡ w *ₙ sum_to P.rows (λ i. y i *ₙ a i) =
        sum_to-same P.rows _ (λ i. w *ₙ (y i *ₙ a i)) (λ i l. by_ring (y i ∷ a i ∷ w ∷ []) (v 0 ⊗ (v 1 ⊗ v 2)) (v 2 ⊗ (v 0 ⊗ v 1)) refl) ∙ sum_to-mul P.rows w (λ i. y i *ₙ a i) in
        rw e (by_ring (c ∷ w ∷ sum_to P.rows (λ i. y i *ₙ a i) ∷ []) ((v 0 ⊕ v 2) ⊗ v 1) (v 0 ⊗ v 1 ⊕ v 1 ⊗ v 2) refl)

pub row_weighted : (q : Bool) (y s b : Number) → SignHolds q y → compared q s b → y *ₙ (s -ₙ b) ≤ₙ whole 0
row_weighted true y s b h e = rw (e, add_neg, mul_zero) (le_refl' (whole 0))
row_weighted false y s b h l = subst (λ z. y *ₙ (s -ₙ b) ≤ₙ z) (mul_zero y) (mul-le-mul_left y (s -ₙ b) (whole 0) h (below s b l))
  where
    below : (s b : Number) → s ≤ₙ b → s -ₙ b ≤ₙ whole 0
    below s b = elim (common2_of s b) [ common2 D h p1 n1 p2 n2 e1 e2 ↦ rw (e1, e2) (simp (overs, whole-ratio 0 D h) (omega arith)) ]

-- the bound is the least value of the cost with the weighted rows
pub bound_below : (P : LinearProgram) (B : Boxes) (y x : ℕ → Number) → Inside P.columns B x → bound_of P B y ≤ₙ lagrangian P y x
bound_below P B y x inside = subst (λ z. bound_of P B y ≤ₙ z) (regrouped P y x)
    (add-le-add (reduced_constant P y) (sum_to P.columns (λ j. least_product (reduced_cost P y j) (B j))) (reduced_constant P y) (sum_to P.columns (λ j. reduced_cost P y j *ₙ x j)) (le_refl' (reduced_constant P y))
    (sum_to-le P.columns (λ j. least_product (reduced_cost P y j) (B j)) (λ j. reduced_cost P y j *ₙ x j) (λ j l. least_below (reduced_cost P y j) (B j) (x j) (inside j l))))

pub bound_is_least : (P : LinearProgram) (B : Boxes) (y : ℕ → Number) → ((j : ℕ) → j < P.columns → (B j).low ≤ₙ (B j).high) → IsLeastOver P.columns B (lagrangian P y) (bound_of P B y)
bound_is_least P B y h = record {
  below = λ x inside. bound_below P B y x inside;
  point = λ j. lesser_end (reduced_cost P y j) (B j);
  inside = λ j l. end_within (reduced_cost P y j).num (B j) (h j l);
  attained = sym (regrouped P y (λ j. lesser_end (reduced_cost P y j) (B j)));
}

-- lawful multipliers add nothing above 0 where the rows hold
pub weighted_below : (P : LinearProgram) (y x : ℕ → Number) → IsSigned P y → Meets P x → lagrangian P y x ≤ₙ cost_of P x
weighted_below P y x law meets = linear (cost_of P x) (sum_to P.rows (λ i. y i *ₙ (row_sum P i x -ₙ P.bound i)))
    (subst (λ z. sum_to P.rows (λ i. y i *ₙ (row_sum P i x -ₙ P.bound i)) ≤ₙ z) (sum_zero P.rows (λ i. whole 0) (λ i l. refl))
    (sum_to-le P.rows (λ i. y i *ₙ (row_sum P i x -ₙ P.bound i)) (λ i. whole 0) (λ i l. row_weighted (P.equation i) (y i) (row_sum P i x) (P.bound i) (law i l) (meets i l))))
  where
    linear : (c w : Number) → w ≤ₙ whole 0 → c +ₙ w ≤ₙ c
    linear c w = elim (common2_of c w) [ common2 D h p1 n1 p2 n2 e1 e2 ↦ rw (e1, e2) (simp (overs, whole-ratio 0 D h) (omega arith)) ]

-- each point in the boxes that meets the rows costs at least the bound
pub weak_duality : (P : LinearProgram) (B : Boxes) (y x : ℕ → Number) → IsSigned P y → Inside P.columns B x → Meets P x → bound_of P B y ≤ₙ cost_of P x
weak_duality P B y x law inside meets = le_trans (bound_of P B y) (lagrangian P y x) (cost_of P x) (bound_below P B y x inside) (weighted_below P y x law meets)

-- a bound over smaller boxes is no lower
pub bound_grows : (P : LinearProgram) (B C : Boxes) (y : ℕ → Number) → ((j : ℕ) → j < P.columns → Within (B j) (C j).low) → ((j : ℕ) → j < P.columns → Within (B j) (C j).high) → bound_of P B y ≤ₙ bound_of P C y
bound_grows P B C y low high = add-le-add (reduced_constant P y) (sum_to P.columns (λ j. least_product (reduced_cost P y j) (B j))) (reduced_constant P y) (sum_to P.columns (λ j. least_product (reduced_cost P y j) (C j)))
    (le_refl' (reduced_constant P y))
    (sum_to-le P.columns (λ j. least_product (reduced_cost P y j) (B j)) (λ j. least_product (reduced_cost P y j) (C j))
    (λ j l. least_below (reduced_cost P y j) (B j) (lesser_end (reduced_cost P y j) (C j)) (either (reduced_cost P y j).num (B j) (C j) (low j l) (high j l))))
  where
    either : (z : ℤ) (b c : Interval) → Within b c.low → Within b c.high → Within b (end_by_sign false z c)
    either (pos n) b c l h = l
    either (negsuc n) b c l h = h
