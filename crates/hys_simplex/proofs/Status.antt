-- A status: the bound of its multipliers is its cost.
use Rattle.std.proofs.Common.{◌≡◌, ℕ, zero, suc, ◌+◌, ◌<◌, inl, inr, refl, sym, ◌∙◌, ap, subst, arith, Bool, true, false, [], ◌∷◌, ℤ, pos, negsuc, zero-mul}
use Rattle.hys_number.specs.Number.{Number}
use Rattle.hys_number.specs.Sums.{sum_to}
use Rattle.hys_number.specs.Ops.{neg, whole, ◌+ₙ◌, ◌*ₙ◌, ◌-ₙ◌, ◌≤ₙ◌, ◌<ₙ◌}
use Rattle.hys_number.proofs.Laws.{whole-ratio, ratio}
use Rattle.hys_number.proofs.Order.{le_refl', at_least_zero, neg_of_le_zero}
use Rattle.hys_number.proofs.Scale.{overs, common1, common1_of, common2, common2_of}
use Rattle.hys_number.proofs.Inverse.{number_at}
use Rattle.hys_number.proofs.Sums.{sum_to-same, sum_to-mul}
use Rattle.hys_relax.proofs.Sums.{sum_zero}
use Rattle.hys_relax.proofs.Duality.{regrouped, weak_duality}
use Rattle.hys_relax.specs.LinearProgram.{LinearProgram, row_sum, cost_of, Meets}
use Rattle.hys_lin.specs.declared.form.Interval.{Interval}
use Rattle.hys_lin.specs.Sums.{compared}
use Rattle.hys_lin.specs.Ranges.{end_by_sign}
use Rattle.hys_relax.specs.Node.{Boxes, Inside}
use Rattle.hys_relax.specs.Bound.{IsSigned, SignHolds, reduced_cost, reduced_constant, least_product, bound_of}
use Rattle.hys_simplex.specs.Tableau.{Tableau, start, Solves, coef, IsOf, cost_multiplier}
use Rattle.hys_simplex.proofs.Relations.{AtEnd, IsStatus, SignOf, HasSigns, SlackIn, IsFeasible}
use Rattle.hys_simplex.proofs.Same.{same_yes, same_no}
use Rattle.hys_simplex.proofs.Rows.{reduced_is}
use Rattle.hys_simplex.proofs.Places.{coef_outside, coef_basic}
use Rattle.hys_number.proofs.Ring.{by_ring, v, k, minus, ◌⊕◌, ◌⊗◌, ◌⊖◌}

-- ---- signs
pub zero_of : (a : Number) → a.num ≡ pos 0 → a ≡ whole 0
zero_of a e = number_at a (pos 0) e ∙ ap (λ z. ratio z 0 a.den) (sym (zero-mul a.den)) ∙ sym (whole-ratio 0 a.den a.positive)

pub above_of : (a : Number) (n : ℕ) → a.num ≡ pos (suc n) → whole 0 <ₙ a
above_of a n e = rw (number_at a (pos (suc n)) e, whole-ratio 0 a.den a.positive) (let h = a.positive in simp (overs, h) (omega arith))

pub below_of : (a : Number) (n : ℕ) → a.num ≡ negsuc n → a <ₙ whole 0
below_of a n e = rw (number_at a (negsuc n) e, whole-ratio 0 a.den a.positive) (let h = a.positive in simp (overs, h) (omega arith))

no_sign : (a : Number) → whole 0 <ₙ a → whole 0 ≤ₙ neg a → ⊥
no_sign a = elim (common1_of a) [ common1 D h p1 n1 e1 ↦ rw (e1) (simp (overs, whole-ratio 0 D h) (omega arith)) ]

no_sign' : (a : Number) → a <ₙ whole 0 → neg a <ₙ whole 0 → ⊥
no_sign' a = elim (common1_of a) [ common1 D h p1 n1 e1 ↦ rw (e1) (simp (overs, whole-ratio 0 D h) (omega arith)) ]

pub any_zero : (d x y : Number) → d ≡ whole 0 → d *ₙ x ≡ d *ₙ y
any_zero d x y e = rw e (by_ring (x ∷ y ∷ []) (k 0 ⊗ v 0) (k 0 ⊗ v 1) refl)

-- the end by the sign of the cost cell makes the product with the reduced cost least
pub end_is_least : (a x : Number) (b : Interval) → AtEnd a.num b x → neg a *ₙ x ≡ least_product (neg a) b
end_is_least a x b h = go a.num (neg a).num refl refl h
  where
    go : (y z : ℤ) → a.num ≡ y → (neg a).num ≡ z → AtEnd y b x → neg a *ₙ x ≡ neg a *ₙ end_by_sign false z b
    go (pos zero) z e f h = any_zero (neg a) x (end_by_sign false z b) (ap neg (zero_of a e) ∙ by_ring [] (minus (k 0)) (k 0) refl)
    go (pos (suc n)) (pos i) e f h = absurd (no_sign a (above_of a n e) (at_least_zero (neg a) i f))
    go (pos (suc n)) (negsuc i) e f h = ap (λ z. neg a *ₙ z) h
    go (negsuc n) (pos i) e f h = ap (λ z. neg a *ₙ z) h
    go (negsuc n) (negsuc i) e f h = absurd (no_sign' a (below_of a n e) (below_of (neg a) i f))

-- ---- a solution of the start: slacks are what the rows leave, the cost is the cost
pub row_left : (P : LinearProgram) (w : ℕ → Number) → Solves (start P) w → (i : ℕ) → i < P.rows → row_sum P i w -ₙ P.bound i ≡ neg (w (P.columns + i))
row_left P w s i l = turn (w (P.columns + i)) (row_sum P i w) (P.bound i)
    (ap (λ z. w (P.columns + i) +ₙ z) (sum_to-same P.columns _ _ (λ j m. ap (λ z. z *ₙ w j) (rw (same_no i P.rows (λ e. absurd (omega arith)), same_no j P.columns (λ e. absurd (omega arith))) refl)))
    ∙ s i (omega arith) ∙ rw (same_no i P.rows (λ e. absurd (omega arith)), same_yes P.columns) refl)
  where
    turn : (a x b : Number) → a +ₙ x ≡ b → x -ₙ b ≡ neg a
    turn a x b e = ap (λ z. x -ₙ z) (sym e) ∙ by_ring (a ∷ x ∷ []) (v 1 ⊖ (v 0 ⊕ v 1)) (minus (v 0)) refl

pub cost_is : (P : LinearProgram) (w : ℕ → Number) → Solves (start P) w → w (P.columns + P.rows) ≡ cost_of P w
cost_is P w s = turn (w (P.columns + P.rows)) (sum_to P.columns (λ j. P.cost j *ₙ w j)) P.constant
    (ap (λ z. w (P.columns + P.rows) +ₙ z) (sym (sum_to-mul P.columns (neg (whole 1)) (λ j. P.cost j *ₙ w j)
    ∙ by_ring (sum_to P.columns (λ j. P.cost j *ₙ w j) ∷ []) (minus (k 1) ⊗ v 0) (minus (v 0)) refl) ∙ sum_to-same P.columns _ _ (λ j m. by_ring (P.cost j ∷ w j ∷ []) (minus (k 1) ⊗ (v 0 ⊗ v 1)) (minus (v 0) ⊗ v 1) refl
    ∙ ap (λ z. z *ₙ w j) (rw (same_yes P.rows, same_no j P.columns (λ e. absurd (omega arith))) refl)))
    ∙ s P.rows (omega arith) ∙ rw (same_yes P.rows, same_yes P.columns) refl)
  where
    turn : (a x b : Number) → a +ₙ neg x ≡ b → a ≡ b +ₙ x
    turn a x b e = by_ring (a ∷ x ∷ []) (v 0) ((v 0 ⊕ minus (v 1)) ⊕ v 1) refl ∙ ap (λ z. z +ₙ x) e

-- ---- a status: multipliers times slacks are 0, and each column stands where its product is least
slack_zero : (P : LinearProgram) (B : Boxes) (T : Tableau) (w : ℕ → Number) → IsOf P T → IsStatus P B T w → (i : ℕ) → i < P.rows → cost_multiplier P T i *ₙ w (P.columns + i) ≡ whole 0
slack_zero P B T w o s i l = elim (o.placed.somewhere (P.columns + i) (omega arith)) as (λ _. cost_multiplier P T i *ₙ w (P.columns + i) ≡ whole 0) [
  | inl h ↦ ap (λ z. neg z *ₙ w (P.columns + i)) (subst (λ z. coef T P.rows z ≡ whole 0) h.2 (coef_basic P T o P.rows h.0 (omega arith) (omega arith) (λ e. absurd (omega (arith, e, h.1)))))
      ∙ by_ring (w (P.columns + i) ∷ []) (minus (k 0) ⊗ v 0) (k 0) refl
  | inr h ↦ ap (λ z. cost_multiplier P T i *ₙ z) (s.slacks h.0 i h.1 l h.2) ∙ by_ring (cost_multiplier P T i ∷ []) (v 0 ⊗ k 0) (k 0) refl
]

column_least : (P : LinearProgram) (B : Boxes) (T : Tableau) (w : ℕ → Number) → IsOf P T → IsStatus P B T w → (q : ℕ) → q < P.columns →
    reduced_cost P (cost_multiplier P T) q *ₙ w q ≡ least_product (reduced_cost P (cost_multiplier P T) q) (B q)
column_least P B T w o s q l = elim (o.placed.somewhere q (omega arith)) as (λ _. reduced_cost P (cost_multiplier P T) q *ₙ w q ≡ least_product (reduced_cost P (cost_multiplier P T) q) (B q)) [
  | inl h ↦ any_zero (reduced_cost P (cost_multiplier P T) q) (w q) _ (reduced_is P T q l o.mixes
      ∙ ap neg (subst (λ z. coef T P.rows z ≡ whole 0) h.2 (coef_basic P T o P.rows h.0 (omega arith) (omega arith) (λ e. absurd (omega (arith, e, h.1))))) ∙ by_ring [] (minus (k 0)) (k 0) refl)
  | inr h ↦ subst (λ z. z *ₙ w q ≡ least_product z (B q)) (sym (reduced_is P T q l o.mixes ∙ ap neg (subst (λ z. coef T P.rows z ≡ T.cell P.rows h.0) h.2 (coef_outside P T o P.rows h.0 (omega arith) h.1))))
      (end_is_least (T.cell P.rows h.0) (w q) (B q) (subst (λ z. AtEnd (T.cell P.rows h.0).num (B z) (w z)) h.2 (s.ends h.0 h.1 (rw h.2 l))))
]

-- the bound of the multipliers is the status's cost
pub status_bound : (P : LinearProgram) (B : Boxes) (T : Tableau) (w : ℕ → Number) → IsOf P T → IsStatus P B T w → bound_of P B (cost_multiplier P T) ≡ cost_of P w
status_bound P B T w o s =
    ap (λ z. reduced_constant P (cost_multiplier P T) +ₙ z) (sum_to-same P.columns _ (λ j. reduced_cost P (cost_multiplier P T) j *ₙ w j) (λ j l. sym (column_least P B T w o s j l)))
    ∙ regrouped P (cost_multiplier P T) w
    ∙ ap (λ z. cost_of P w +ₙ z) (sum_zero P.rows _ (λ i l. ap (λ z. cost_multiplier P T i *ₙ z) (row_left P w ((o.keeps w).1 s.solves) i l)
    ∙ by_ring (cost_multiplier P T i ∷ w (P.columns + i) ∷ []) (v 0 ⊗ minus (v 1)) (minus (v 0 ⊗ v 1)) refl ∙ ap neg (slack_zero P B T w o s i l) ∙ by_ring [] (minus (k 0)) (k 0) refl))
    ∙ by_ring (cost_of P w ∷ []) (v 0 ⊕ k 0) (v 0) refl

-- the multipliers of a lawful status are lawful
pub status_lawful : (P : LinearProgram) (T : Tableau) → IsOf P T → HasSigns P T → IsSigned P (cost_multiplier P T)
status_lawful P T o s i l = elim (o.placed.somewhere (P.columns + i) (omega arith)) as (λ _. SignHolds (P.equation i) (cost_multiplier P T i)) [
  | inl h ↦ nothing (P.equation i) (coef T P.rows (P.columns + i)) (subst (λ z. coef T P.rows z ≡ whole 0) h.2 (coef_basic P T o P.rows h.0 (omega arith) (omega arith) (λ e. absurd (omega (arith, e, h.1)))))
  | inr h ↦ below (P.equation i) (coef T P.rows (P.columns + i)) (T.cell P.rows h.0) (subst (λ z. coef T P.rows z ≡ T.cell P.rows h.0) h.2 (coef_outside P T o P.rows h.0 (omega arith) h.1)) (s h.0 i h.1 l h.2)
]
  where
    nothing : (q : Bool) (a : Number) → a ≡ whole 0 → SignHolds q (neg a)
    nothing true a e = tt
    nothing false a e = neg_of_le_zero a (subst (λ z. a ≤ₙ z) e (le_refl' a))

    below : (q : Bool) (a x : Number) → a ≡ x → SignOf q x → SignHolds q (neg a)
    below true a x e h = tt
    below false a x e h = neg_of_le_zero a (subst (λ z. z ≤ₙ whole 0) (sym e) h)

-- a lawful status with every basic value inside is a relaxed point of least cost
pub status_meets : (P : LinearProgram) (B : Boxes) (T : Tableau) (w : ℕ → Number) → IsOf P T → IsStatus P B T w → IsFeasible P B w → Meets P w
status_meets P B T w o s h i l = go (P.equation i) (w (P.columns + i)) (row_sum P i w) (P.bound i) (row_left P w ((o.keeps w).1 s.solves) i l) (h.1 i l)
  where
    go : (q : Bool) (a x b : Number) → x -ₙ b ≡ neg a → SlackIn q a → compared q x b
    go true a x b e h = by_ring (x ∷ b ∷ []) (v 0) ((v 0 ⊖ v 1) ⊕ v 1) refl ∙ ap (λ z. z +ₙ b) (e ∙ ap neg h) ∙ by_ring (b ∷ []) (minus (k 0) ⊕ v 0) (v 0) refl
    go false a x b e h = subst (λ z. z ≤ₙ b) (sym (by_ring (x ∷ b ∷ []) (v 0) ((v 0 ⊖ v 1) ⊕ v 1) refl ∙ ap (λ z. z +ₙ b) e)) (less a b h)
      where
        less : (a b : Number) → whole 0 ≤ₙ a → neg a +ₙ b ≤ₙ b
        less a b = elim (common2_of a b) [ common2 D h p1 n1 p2 n2 e1 e2 ↦ rw (e1, e2) (simp (overs, whole-ratio 0 D h) (omega arith)) ]

pub status_least : (P : LinearProgram) (B : Boxes) (T : Tableau) (w : ℕ → Number) → IsOf P T → HasSigns P T → IsStatus P B T w →
    (x : ℕ → Number) → Inside P.columns B x → Meets P x → cost_of P w ≤ₙ cost_of P x
status_least P B T w o q s x i m = subst (λ z. z ≤ₙ cost_of P x) (status_bound P B T w o s) (weak_duality P B (cost_multiplier P T) x (status_lawful P T o q) i m)
