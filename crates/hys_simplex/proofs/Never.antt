-- Where no column may enter, the multipliers of the row show that no point exists.
use Rattle.std.proofs.Common.{◌≡◌, ℕ, zero, suc, ◌+◌, ◌<◌, ◌≤◌, inl, inr, refl, sym, ◌∙◌, ap, ap₂, subst, arith, Bool, true, false, [], ◌∷◌, ℤ, pos, negsuc}
use Rattle.hys_number.specs.Number.{Number}
use Rattle.hys_number.specs.Sums.{sum_to}
use Rattle.hys_number.specs.Ops.{neg, whole, ◌+ₙ◌, ◌*ₙ◌, ◌-ₙ◌, ◌≤ₙ◌, ◌<ₙ◌}
use Rattle.hys_number.proofs.Laws.{whole-ratio}
use Rattle.hys_number.proofs.Order.{le_total, le_antisymm}
use Rattle.hys_number.proofs.Scale.{overs, common1, common1_of}
use Rattle.hys_number.proofs.Sums.{sum_to-same, sum_to-mul}
use Rattle.hys_relax.proofs.Sums.{sum_zero, sum_apart, sum_single}
use Rattle.hys_relax.proofs.Duality.{regrouped}
use Rattle.hys_relax.specs.LinearProgram.{LinearProgram, row_sum, cost_of, costless_program}
use Rattle.hys_lin.specs.declared.form.Interval.{Interval}
use Rattle.hys_lin.specs.Ranges.{end_by_sign}
use Rattle.hys_relax.specs.Node.{Boxes}
use Rattle.hys_relax.specs.Bound.{IsSigned, SignHolds, reduced_cost, reduced_constant, least_product, bound_of}
use Rattle.hys_simplex.specs.Tableau.{Tableau, unit, coef, IsMix, IsOf, row_multiplier}
use Rattle.hys_simplex.specs.Status.{raised, IsDualFeasible}
use Rattle.hys_simplex.proofs.Relations.{StandsAtEnds, column, slack, NearEnd, low_end, high_end, slack_end, IsOrdered, NoneEnters}
use Rattle.hys_simplex.proofs.Pivots.{same_place}
use Rattle.hys_simplex.proofs.Rows.{unit_yes, unit_no, last_no, row_at}
use Rattle.hys_simplex.proofs.Places.{coef_outside, coef_basic}
use Rattle.hys_simplex.proofs.Status.{zero_of, above_of, below_of, any_zero, row_left}
use Rattle.hys_simplex.proofs.Lex.{lt_not_le, raised_sign, down, nothing, up}
use Rattle.hys_simplex.proofs.Rising.{raised_not_null}
use Rattle.hys_simplex.proofs.Ruled.{one_sign, minus_sign, to_one, to_minus, either_end}
use Rattle.hys_number.proofs.Ring.{by_ring, v, k, minus, ◌⊕◌, ◌⊗◌, ◌⊖◌}

costless_zero : (P : LinearProgram) (x : ℕ → Number) → cost_of (costless_program P) x ≡ whole 0
costless_zero P x = ap (λ z. whole 0 +ₙ z) (sum_zero P.columns (λ j. whole 0 *ₙ x j) (λ j l. by_ring (x j ∷ []) (k 0 ⊗ v 0) (k 0) refl)) ∙ by_ring [] (k 0 ⊕ k 0) (k 0) refl

pub coef_self : (P : LinearProgram) (T : Tableau) → IsOf P T → (i : ℕ) → i ≤ P.rows → coef T i (T.basic i) ≡ whole 1
coef_self P T s i li = ap₂ ◌+ₙ◌ (unit_yes (T.basic i))
    (sum_zero T.columns (λ q. T.cell i q *ₙ unit (T.basic i) (T.outside q))
    (λ q m. ap (λ z. T.cell i q *ₙ z) (unit_no (T.basic i) (T.outside q) (λ e. s.placed.apart i q li (rw (← s.wide) m) (sym e))) ∙ by_ring (T.cell i q ∷ []) (v 0 ⊗ k 0) (k 0) refl))
    ∙ by_ring [] (k 1 ⊕ k 0) (k 1) refl

pub row_reduced_is : (P : LinearProgram) (T : Tableau) (r q : ℕ) (side : Number) → q < P.columns → r < P.rows → IsMix P T → reduced_cost (costless_program P) (row_multiplier P T r side) q ≡ side *ₙ coef T r q
row_reduced_is P T r q side l lr s =
    let a : ℕ → Number = λ j. coef T r (P.columns + j) in
    let e : coef T r q ≡ sum_to P.rows (λ j. a j *ₙ P.factor j q) +ₙ whole 0 =
    s.lines (unit q) r (omega arith) ∙ ap₂ ◌+ₙ◌ (sum_to-same P.rows _ (λ j. a j *ₙ P.factor j q) (λ j m. ap (λ z. a j *ₙ z) (row_at P q j l m))) (last_no r P.rows _ lr) in
    let g : sum_to P.rows (λ j. (side *ₙ a j) *ₙ P.factor j q) ≡ side *ₙ sum_to P.rows (λ j. a j *ₙ P.factor j q) =
    sum_to-same P.rows _ (λ j. side *ₙ (a j *ₙ P.factor j q)) (λ j m. by_ring (side ∷ a j ∷ P.factor j q ∷ []) ((v 0 ⊗ v 1) ⊗ v 2) (v 0 ⊗ (v 1 ⊗ v 2)) refl) ∙ sum_to-mul P.rows side (λ j. a j *ₙ P.factor j q) in
    ap (λ z. whole 0 +ₙ z) g ∙ by_ring (side ∷ sum_to P.rows (λ j. a j *ₙ P.factor j q) ∷ []) (k 0 ⊕ v 0 ⊗ v 1) (v 0 ⊗ (v 1 ⊕ k 0)) refl ∙ ap (λ z. side *ₙ z) (sym e)

-- ---- the end at which a product is least
least_low : (d : Number) (b : Interval) → (d <ₙ whole 0 → ⊥) → d *ₙ b.low ≡ least_product d b
least_low d b h = go d.num refl
  where
    go : (z : ℤ) → d.num ≡ z → d *ₙ b.low ≡ d *ₙ end_by_sign false z b
    go (pos n) e = refl
    go (negsuc n) e = absurd (h (below_of d n e))

least_high : (d : Number) (b : Interval) → (whole 0 <ₙ d → ⊥) → d *ₙ b.high ≡ least_product d b
least_high d b h = go d.num refl
  where
    go : (z : ℤ) → d.num ≡ z → d *ₙ b.high ≡ d *ₙ end_by_sign false z b
    go (pos zero) e = any_zero d b.high b.low (zero_of d e)
    go (pos (suc n)) e = absurd (h (above_of d n e))
    go (negsuc n) e = refl

least_fixed : (d x : Number) (b : Interval) → b.high ≡ b.low → x ≡ b.low → d *ₙ x ≡ least_product d b
least_fixed d x b e f = go d.num
  where
    go : (z : ℤ) → d *ₙ x ≡ d *ₙ end_by_sign false z b
    go (pos n) = ap (λ z. d *ₙ z) f
    go (negsuc n) = ap (λ z. d *ₙ z) (f ∙ sym e)

turned : (side a : Number) → side *ₙ a <ₙ whole 0 → whole 0 <ₙ side *ₙ neg (whole 1) *ₙ a
turned side a h = subst (λ z. whole 0 <ₙ z) (by_ring (side ∷ a ∷ []) (minus (v 0 ⊗ v 1)) (v 0 ⊗ minus (k 1) ⊗ v 1) refl) (go (side *ₙ a) h)
  where
    go : (x : Number) → x <ₙ whole 0 → whole 0 <ₙ neg x
    go x = elim (common1_of x) [ common1 D h p1 n1 e1 ↦ rw (e1) (simp (overs, whole-ratio 0 D h) (omega arith)) ]

once_one : (side a : Number) → whole 0 <ₙ side *ₙ a → whole 0 <ₙ side *ₙ whole 1 *ₙ a
once_one side a h = subst (λ z. whole 0 <ₙ z) (by_ring (side ∷ a ∷ []) (v 0 ⊗ v 1) (v 0 ⊗ k 1 ⊗ v 1) refl) h

not_below : (a : Number) → (a <ₙ whole 0 → ⊥) → whole 0 ≤ₙ a
not_below a h = elim (le_total (whole 0) a) as (λ _. whole 0 ≤ₙ a) [ inl l ↦ l | inr l ↦ absurd (h l) ]

one_above : whole 0 ≤ₙ whole 1
one_above = elim (common1_of (whole 1)) [ common1 D h p1 n1 e1 ↦ let g : 0 < 1 = omega arith in rw (whole-ratio 0 1 g, whole-ratio 1 1 g) (simp (overs, g) (omega arith)) ]

module _ (P : LinearProgram) (B : Boxes) (T : Tableau) (w : ℕ → Number) (r : ℕ) (side near : Number) (o : IsOf P T) (s : StandsAtEnds P B T w) (f : IsDualFeasible P T) (lr : r < P.rows)
    (h : NoneEnters P B T w r side near) (b : IsOrdered P.columns B) where
  abbrev pub y : ℕ → Number
  y = row_multiplier P T r side

  -- a column outside stands where its product is least
  outside_least : (j : ℕ) → j < P.columns → T.outside j < P.columns → (side *ₙ T.cell r j) *ₙ w (T.outside j) ≡ least_product (side *ₙ T.cell r j) (B (T.outside j))
  outside_least j lj lu = elim (le_total (B (T.outside j)).high (B (T.outside j)).low) as (λ _. (side *ₙ T.cell r j) *ₙ w (T.outside j) ≡ least_product (side *ₙ T.cell r j) (B (T.outside j))) [
    | inl q ↦ let e : (B (T.outside j)).high ≡ (B (T.outside j)).low = le_antisymm (B (T.outside j)).high (B (T.outside j)).low q (b (T.outside j) lu) in
        least_fixed (side *ₙ T.cell r j) (w (T.outside j)) (B (T.outside j)) e
        (elim (either_end P B T w o s j lj lu) as (λ _. w (T.outside j) ≡ (B (T.outside j)).low) [ inl x ↦ x ∙ e | inr x ↦ x ])
    | inr q ↦ elim (raised_sign (suc P.columns) (raised P T j)) as (λ _. (side *ₙ T.cell r j) *ₙ w (T.outside j) ≡ least_product (side *ₙ T.cell r j) (B (T.outside j))) [
      | nothing n ↦ absurd (raised_not_null P T o w s.solves j lj n)
      | down a ↦ ap (λ z. (side *ₙ T.cell r j) *ₙ z) (s.low j lj lu a) ∙ least_low (side *ₙ T.cell r j) (B (T.outside j)) (λ l. h.closed j (neg (whole 1)) lj (column lu q) minus_sign (to_minus (suc P.columns) (raised P T j) a) (turned side (T.cell r j) l))
      | up a ↦ ap (λ z. (side *ₙ T.cell r j) *ₙ z) (s.high j lj lu a) ∙ least_high (side *ₙ T.cell r j) (B (T.outside j)) (λ l. h.closed j (whole 1) lj (column lu q) one_sign (to_one (suc P.columns) (raised P T j) a) (once_one side (T.cell r j) l))
    ]
  ]

  -- and so does any column but the one of row r
  column_least : (q : ℕ) → q < P.columns → ¬ (q ≡ T.basic r) → least_product (reduced_cost (costless_program P) y q) (B q) ≡ reduced_cost (costless_program P) y q *ₙ w q
  column_least q l d = elim (o.placed.somewhere q (omega arith)) as (λ _. least_product (reduced_cost (costless_program P) y q) (B q) ≡ reduced_cost (costless_program P) y q *ₙ w q) [
    | inl x ↦ any_zero (reduced_cost (costless_program P) y q) _ (w q) (row_reduced_is P T r q side l lr o.mixes
        ∙ ap (λ z. side *ₙ z) (subst (λ z. coef T r z ≡ whole 0) x.2 (coef_basic P T o r x.0 (omega arith) (omega (arith, x.1)) (λ e. d (sym x.2 ∙ ap T.basic (sym e))))) ∙ by_ring (side ∷ []) (v 0 ⊗ k 0) (k 0) refl)
    | inr x ↦ subst (λ z. least_product z (B q) ≡ z *ₙ w q) (sym (row_reduced_is P T r q side l lr o.mixes ∙ ap (λ z. side *ₙ z) (subst (λ z. coef T r z ≡ T.cell r x.0) x.2 (coef_outside P T o r x.0 (omega arith) x.1))))
        (subst (λ z. least_product (side *ₙ T.cell r x.0) (B z) ≡ (side *ₙ T.cell r x.0) *ₙ w z) x.2 (sym (outside_least x.0 x.1 (rw x.2 l))))
  ]

  slack_zero : (i : ℕ) → i < P.rows → ¬ (P.columns + i ≡ T.basic r) → y i *ₙ w (P.columns + i) ≡ whole 0
  slack_zero i l d = elim (o.placed.somewhere (P.columns + i) (omega arith)) as (λ _. y i *ₙ w (P.columns + i) ≡ whole 0) [
    | inl x ↦ ap (λ z. side *ₙ z *ₙ w (P.columns + i)) (subst (λ z. coef T r z ≡ whole 0) x.2 (coef_basic P T o r x.0 (omega arith) (omega (arith, x.1)) (λ e. d (sym x.2 ∙ ap T.basic (sym e)))))
        ∙ by_ring (side ∷ w (P.columns + i) ∷ []) (v 0 ⊗ k 0 ⊗ v 1) (k 0) refl
    | inr x ↦ ap (λ z. y i *ₙ z) (s.slacks x.0 i x.1 l x.2) ∙ by_ring (y i ∷ []) (v 0 ⊗ k 0) (k 0) refl
  ]

  left : (i : ℕ) → i < P.rows → y i *ₙ (row_sum P i w -ₙ P.bound i) ≡ neg (y i *ₙ w (P.columns + i))
  left i l = ap (λ z. y i *ₙ z) (row_left P w ((o.keeps w).1 s.solves) i l) ∙ by_ring (y i ∷ w (P.columns + i) ∷ []) (v 0 ⊗ minus (v 1)) (minus (v 0 ⊗ v 1)) refl

  -- the bound with cost 0 is how far the row's value is off
  pub never_bound : bound_of (costless_program P) B y ≡ side *ₙ (near -ₙ w (T.basic r))
  never_bound = go h.at
    where
      whole_sum : (D : Number) → sum_to P.columns (λ q. least_product (reduced_cost (costless_program P) y q) (B q)) ≡ sum_to P.columns (λ q. reduced_cost (costless_program P) y q *ₙ w q) +ₙ D →
          bound_of (costless_program P) B y ≡ sum_to P.rows (λ i. y i *ₙ (row_sum P i w -ₙ P.bound i)) +ₙ D
      whole_sum D e = ap (λ z. reduced_constant (costless_program P) y +ₙ z) e
          ∙ by_ring (reduced_constant (costless_program P) y ∷ sum_to P.columns (λ q. reduced_cost (costless_program P) y q *ₙ w q) ∷ D ∷ []) (v 0 ⊕ (v 1 ⊕ v 2)) ((v 0 ⊕ v 1) ⊕ v 2) refl
          ∙ ap (λ z. z +ₙ D) (regrouped (costless_program P) y w ∙ ap (λ z. z +ₙ sum_to P.rows (λ i. y i *ₙ (row_sum P i w -ₙ P.bound i))) (costless_zero P w))
          ∙ by_ring (sum_to P.rows (λ i. y i *ₙ (row_sum P i w -ₙ P.bound i)) ∷ D ∷ []) ((k 0 ⊕ v 0) ⊕ v 1) (v 0 ⊕ v 1) refl

      basic_reduced : T.basic r < P.columns → reduced_cost (costless_program P) y (T.basic r) ≡ side
      basic_reduced l = row_reduced_is P T r (T.basic r) side l lr o.mixes ∙ ap (λ z. side *ₙ z) (coef_self P T o r (omega arith)) ∙ by_ring (side ∷ []) (v 0 ⊗ k 1) (v 0) refl

      of_column : T.basic r < P.columns → side *ₙ near ≡ least_product side (B (T.basic r)) → bound_of (costless_program P) B y ≡ side *ₙ (near -ₙ w (T.basic r))
      of_column l e = whole_sum (side *ₙ near -ₙ side *ₙ w (T.basic r))
          (sum_apart P.columns (T.basic r) (whole 1) (whole 0) (λ q. reduced_cost (costless_program P) y q *ₙ w q) (λ q. whole 0) (λ q. least_product (reduced_cost (costless_program P) y q) (B q)) l
          (λ q m d. column_least q m d ∙ by_ring ((reduced_cost (costless_program P) y q *ₙ w q) ∷ []) (v 0) (k 1 ⊗ v 0 ⊕ k 0 ⊗ k 0) refl)
          ∙ ap (λ z. (whole 1 *ₙ sum_to P.columns (λ q. reduced_cost (costless_program P) y q *ₙ w q) +ₙ whole 0 *ₙ sum_to P.columns (λ q. whole 0)) +ₙ (least_product z (B (T.basic r)) -ₙ (whole 1 *ₙ (z *ₙ w (T.basic r)) +ₙ whole 0 *ₙ whole 0))) (basic_reduced l)
          ∙ ap (λ z. (whole 1 *ₙ sum_to P.columns (λ q. reduced_cost (costless_program P) y q *ₙ w q) +ₙ whole 0 *ₙ sum_to P.columns (λ q. whole 0)) +ₙ (z -ₙ (whole 1 *ₙ (side *ₙ w (T.basic r)) +ₙ whole 0 *ₙ whole 0))) (sym e)
          ∙ by_ring (sum_to P.columns (λ q. reduced_cost (costless_program P) y q *ₙ w q) ∷ sum_to P.columns (λ q. whole 0) ∷ (side *ₙ near) ∷ (side *ₙ w (T.basic r)) ∷ [])
          ((k 1 ⊗ v 0 ⊕ k 0 ⊗ v 1) ⊕ (v 2 ⊖ (k 1 ⊗ v 3 ⊕ k 0 ⊗ k 0))) (v 0 ⊕ (v 2 ⊖ v 3)) refl)
          ∙ ap (λ z. z +ₙ (side *ₙ near -ₙ side *ₙ w (T.basic r))) (sum_zero P.rows _ (λ i m. left i m ∙ ap neg (slack_zero i m (λ e. absurd (omega (arith, e, l)))) ∙ by_ring [] (minus (k 0)) (k 0) refl))
          ∙ by_ring (side ∷ near ∷ w (T.basic r) ∷ []) (k 0 ⊕ (v 0 ⊗ v 1 ⊖ v 0 ⊗ v 2)) (v 0 ⊗ (v 1 ⊖ v 2)) refl

      go : NearEnd P B T r side near → bound_of (costless_program P) B y ≡ side *ₙ (near -ₙ w (T.basic r))
      go (low_end l e n) = of_column l (ap (λ z. side *ₙ z) n ∙ least_low side (B (T.basic r)) (λ q. lt_not_le side (whole 0) q (subst (λ z. whole 0 ≤ₙ z) (sym e) one_above)))
      go (high_end l e n) = of_column l (ap (λ z. side *ₙ z) n ∙ least_high side (B (T.basic r)) (λ q. lt_not_le (whole 0) side q (subst (λ z. z ≤ₙ whole 0) (sym e) minus_below)))
        where
          minus_below : neg (whole 1) ≤ₙ whole 0
          minus_below = let g : 0 < 1 = omega arith in rw (whole-ratio 0 1 g, whole-ratio 1 1 g) (simp (overs, g) (omega arith))
      go (slack_end i l e u n) = whole_sum (whole 0) (sum_to-same P.columns _ _ (λ q m. column_least q m (λ x. absurd (omega (arith, x, e)))) ∙ by_ring (sum_to P.columns (λ q. reduced_cost (costless_program P) y q *ₙ w q) ∷ []) (v 0) (v 0 ⊕ k 0) refl)
          ∙ ap (λ z. z +ₙ whole 0) (sum_single P.rows i _ l (λ j m d. left j m ∙ ap neg (slack_zero j m (λ x. d (omega (arith, x, e)))) ∙ by_ring [] (minus (k 0)) (k 0) refl)
          ∙ left i l ∙ ap (λ z. neg (side *ₙ z *ₙ w (P.columns + i))) (subst (λ z. coef T r z ≡ whole 1) e (coef_self P T o r (omega arith))))
          ∙ by_ring (side ∷ w (P.columns + i) ∷ []) (minus (v 0 ⊗ k 1 ⊗ v 1) ⊕ k 0) (v 0 ⊗ (k 0 ⊖ v 1)) refl
          ∙ ap₂ (λ x z. side *ₙ (x -ₙ w z)) (sym n) (sym e)

  pub never_above : whole 0 <ₙ bound_of (costless_program P) B y
  never_above = subst (λ z. whole 0 <ₙ z) (sym never_bound) h.off

  pub never_lawful : IsSigned (costless_program P) y
  never_lawful i l = go (P.equation i) refl
    where
      go : (q : Bool) → P.equation i ≡ q → SignHolds q (y i)
      go true e = tt
      go false e = elim (o.placed.somewhere (P.columns + i) (omega arith)) as (λ _. whole 0 ≤ₙ y i) [
        | inr x ↦ subst (λ z. whole 0 ≤ₙ side *ₙ z) (sym (subst (λ z. coef T r z ≡ T.cell r x.0) x.2 (coef_outside P T o r x.0 (omega arith) x.1)))
            (not_below (side *ₙ T.cell r x.0) (λ m. h.closed x.0 (neg (whole 1)) x.1 (slack i l x.2 e) minus_sign (to_minus (suc P.columns) (raised P T x.0) (f x.0 i x.1 l x.2 e)) (turned side (T.cell r x.0) m)))
        | inl x ↦ elim (same_place x.0 r) as (λ _. whole 0 ≤ₙ y i) [
          | inr d ↦ subst (λ z. whole 0 ≤ₙ side *ₙ z) (sym (subst (λ z. coef T r z ≡ whole 0) x.2 (coef_basic P T o r x.0 (omega arith) (omega (arith, x.1)) (λ m. d (sym m)))))
              (not_below (side *ₙ whole 0) (λ m. zero_not (by_ring (side ∷ []) (v 0 ⊗ k 0) (k 0) refl) m))
          | inl d ↦ subst (λ z. whole 0 ≤ₙ side *ₙ z) (sym (subst (λ z. coef T r z ≡ whole 1) (ap T.basic (sym d) ∙ x.2) (coef_self P T o r (omega arith))))
              (subst (λ z. whole 0 ≤ₙ z *ₙ whole 1) (sym (one_side h.at (ap T.basic (sym d) ∙ x.2))) (subst (λ z. whole 0 ≤ₙ z) (by_ring [] (k 1) (k 1 ⊗ k 1) refl) one_above))
        ]
      ]
        where
          zero_not : {x : Number} → x ≡ whole 0 → x <ₙ whole 0 → ⊥
          zero_not e m = lt_not_le _ (whole 0) m (not_below' e)
            where
              not_below' : {x : Number} → x ≡ whole 0 → whole 0 ≤ₙ x
              not_below' e = subst (λ z. whole 0 ≤ₙ z) (sym e) zero_le
                where
                  zero_le : whole 0 ≤ₙ whole 0
                  zero_le = elim (common1_of (whole 0)) [ common1 D h p1 n1 e1 ↦ rw (e1) (simp overs (omega arith)) ]

          index : (x y : ℕ) → P.columns + x ≡ P.columns + y → x ≡ y
          index x y g = omega arith

          one_side : NearEnd P B T r side near → T.basic r ≡ P.columns + i → side ≡ whole 1
          one_side (low_end lu x n) q = x
          one_side (high_end lu x n) q = absurd (omega (arith, q))
          one_side (slack_end i' li' x u n) q = u (ap P.equation (index i' i (sym x ∙ q)) ∙ e)
