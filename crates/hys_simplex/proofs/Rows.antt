-- Each row of a tableau is a sum of the start's rows.
use Rattle.std.proofs.Common.{◌≡◌, ℕ, ◌+◌, ◌<◌, ◌≤◌, inl, inr, refl, sym, ◌∙◌, ap, ap₂, subst, arith, [], ◌∷◌, ◌==◌, if◌then◌else◌}
use Rattle.hys_number.specs.Number.{Number}
use Rattle.hys_number.specs.Sums.{sum_to}
use Rattle.hys_number.specs.Ops.{neg, inverse, whole, ◌+ₙ◌, ◌*ₙ◌, ◌-ₙ◌}
use Rattle.hys_number.proofs.Sums.{sum_to-same, sum_to-mul}
use Rattle.hys_relax.proofs.Sums.{sum_linear, sum_zero, sum_single}
use Rattle.hys_relax.specs.LinearProgram.{LinearProgram}
use Rattle.hys_relax.specs.Bound.{reduced_cost, reduced_constant}
use Rattle.hys_simplex.specs.Tableau.{Tableau, start, pivot, line, unit, coef, mix, IsMix, cost_multiplier}
use Rattle.hys_simplex.proofs.Same.{same_yes, same_no}
use Rattle.hys_simplex.proofs.Pivots.{line_r, line_other, constant_r, constant_other, same_place}
use Rattle.hys_number.proofs.Ring.{by_ring, v, k, minus, ◌⊕◌, ◌⊗◌, ◌⊖◌}

pub unit_yes : (u : ℕ) → unit u u ≡ whole 1
unit_yes u = rw (same_yes u) refl

pub unit_no : (u j : ℕ) → ¬ (j ≡ u) → unit u j ≡ whole 0
unit_no u j d = rw (same_no u j d) refl

pub last_no : (i m : ℕ) (a : Number) → i < m → (if i == m then a else whole 0) ≡ whole 0
last_no i m a l = rw (same_no i m (λ q. absurd (omega arith))) refl

last_yes : (m : ℕ) (a : Number) → (if m == m then a else whole 0) ≡ a
last_yes m a = rw (same_yes m) refl

-- ---- the start
slack_coef : (P : LinearProgram) (i j : ℕ) → coef (start P) i (P.columns + j) ≡ unit (P.columns + j) (P.columns + i)
slack_coef P i j = ap (λ z. unit (P.columns + j) (P.columns + i) +ₙ z) (sum_zero P.columns _ (λ q l. ap (λ z. (start P).cell i q *ₙ z) (unit_no (P.columns + j) q (λ e. absurd (omega arith))) ∙ by_ring ((start P).cell i q ∷ []) (v 0 ⊗ k 0) (k 0) refl))
    ∙ by_ring (unit (P.columns + j) (P.columns + i) ∷ []) (v 0 ⊕ k 0) (v 0) refl

mix_start : (P : LinearProgram) (f : ℕ → Number) (i : ℕ) → i ≤ P.rows → mix P (start P) i f ≡ f i
mix_start P f i l = elim (same_place i P.rows) as (λ _. mix P (start P) i f ≡ f i) [
  | inl e ↦ subst (λ z. mix P (start P) z f ≡ f z) (sym e)
      (ap₂ ◌+ₙ◌ (sum_zero P.rows _ (λ j m. off P.rows j (λ q. absurd (omega arith)))) (last_yes P.rows (f P.rows)) ∙ by_ring (f P.rows ∷ []) (k 0 ⊕ v 0) (v 0) refl)
  | inr d ↦ let s : i < P.rows = grind arith in
      ap₂ ◌+ₙ◌ (sum_single P.rows i _ s (λ j m q. off i j q) ∙ ap (λ z. z *ₙ f i) (slack_coef P i i ∙ unit_yes (P.columns + i))) (last_no i P.rows (f P.rows) s) ∙ by_ring (f i ∷ []) (k 1 ⊗ v 0 ⊕ k 0) (v 0) refl
]
  where
    off : (i j : ℕ) → ¬ (j ≡ i) → coef (start P) i (P.columns + j) *ₙ f j ≡ whole 0
    off i j d = ap (λ z. z *ₙ f j) (slack_coef P i j ∙ unit_no (P.columns + j) (P.columns + i) (λ q. d (omega arith))) ∙ by_ring (f j ∷ []) (k 0 ⊗ v 0) (k 0) refl

pub start_is_mix : (P : LinearProgram) → IsMix P (start P)
start_is_mix P = record {
  lines = λ w i l. sym (mix_start P (line (start P) w) i l);
  constants = λ i l. sym (mix_start P (λ j. (start P).cell j P.columns) i l);
}

-- ---- a pivot
mix_r : (P : LinearProgram) (T : Tableau) (r c : ℕ) (f : ℕ → Number) → r < P.rows → c < T.columns → ¬ (T.cell r c ≡ whole 0) → mix P (pivot T r c) r f ≡ inverse (T.cell r c) *ₙ mix P T r f
mix_r P T r c f lr l h = ap₂ ◌+ₙ◌
    (sum_to-same P.rows _ (λ j. inverse (T.cell r c) *ₙ (coef T r (P.columns + j) *ₙ f j)) (λ j m. ap (λ z. z *ₙ f j) (line_r T r c (unit (P.columns + j)) l h)
    ∙ by_ring (inverse (T.cell r c) ∷ coef T r (P.columns + j) ∷ f j ∷ []) ((v 0 ⊗ v 1) ⊗ v 2) (v 0 ⊗ (v 1 ⊗ v 2)) refl) ∙ sum_to-mul P.rows (inverse (T.cell r c)) (λ j. coef T r (P.columns + j) *ₙ f j))
    (last_no r P.rows (f P.rows) lr)
    ∙ by_ring (inverse (T.cell r c) ∷ sum_to P.rows (λ j. coef T r (P.columns + j) *ₙ f j) ∷ []) (v 0 ⊗ v 1 ⊕ k 0) (v 0 ⊗ (v 1 ⊕ k 0)) refl
    ∙ ap (λ z. inverse (T.cell r c) *ₙ (sum_to P.rows (λ j. coef T r (P.columns + j) *ₙ f j) +ₙ z)) (sym (last_no r P.rows (f P.rows) lr))

mix_other : (P : LinearProgram) (T : Tableau) (r c : ℕ) (f : ℕ → Number) (i : ℕ) → r < P.rows → c < T.columns → ¬ (T.cell r c ≡ whole 0) → ¬ (i ≡ r) →
    mix P (pivot T r c) i f ≡ mix P T i f -ₙ (T.cell i c *ₙ inverse (T.cell r c)) *ₙ mix P T r f
mix_other P T r c f i lr l h d =
    let t : Number = T.cell i c *ₙ inverse (T.cell r c) in
    let a : ℕ → Number = λ j. coef T i (P.columns + j) *ₙ f j in
    let b : ℕ → Number = λ j. coef T r (P.columns + j) *ₙ f j in
    let z : Number = if i == P.rows then f P.rows else whole 0 in
    ap (λ y. y +ₙ z)
    (sum_to-same P.rows _ (λ j. whole 1 *ₙ a j +ₙ neg t *ₙ b j) (λ j m. ap (λ y. y *ₙ f j) (line_other T r c (unit (P.columns + j)) i l h d)
    ∙ by_ring (coef T i (P.columns + j) ∷ t ∷ coef T r (P.columns + j) ∷ f j ∷ []) ((v 0 ⊖ v 1 ⊗ v 2) ⊗ v 3) (k 1 ⊗ (v 0 ⊗ v 3) ⊕ minus (v 1) ⊗ (v 2 ⊗ v 3)) refl) ∙ sum_linear P.rows (whole 1) (neg t) a b)
    ∙ by_ring (sum_to P.rows a ∷ t ∷ sum_to P.rows b ∷ z ∷ []) ((k 1 ⊗ v 0 ⊕ minus (v 1) ⊗ v 2) ⊕ v 3) ((v 0 ⊕ v 3) ⊖ v 1 ⊗ (v 2 ⊕ k 0)) refl
    ∙ ap (λ y. (sum_to P.rows a +ₙ z) -ₙ t *ₙ (sum_to P.rows b +ₙ y)) (sym (last_no r P.rows (f P.rows) lr))

pub pivot_is_mix : (P : LinearProgram) (T : Tableau) (r c : ℕ) → r < P.rows → c < T.columns → ¬ (T.cell r c ≡ whole 0) → IsMix P T → IsMix P (pivot T r c)
pivot_is_mix P T r c lr l h s = record {
  lines = λ w i m. elim (same_place i r) as (λ _. line (pivot T r c) w i ≡ mix P (pivot T r c) i (line (start P) w)) [
    | inl e ↦ subst (λ z. line (pivot T r c) w z ≡ mix P (pivot T r c) z (line (start P) w)) (sym e)
        (line_r T r c w l h ∙ ap (λ z. inverse (T.cell r c) *ₙ z) (s.lines w r (omega arith)) ∙ sym (mix_r P T r c (line (start P) w) lr l h))
    | inr d ↦ line_other T r c w i l h d ∙ ap₂ (λ y z. y -ₙ (T.cell i c *ₙ inverse (T.cell r c)) *ₙ z) (s.lines w i m) (s.lines w r (omega arith)) ∙ sym (mix_other P T r c (line (start P) w) i lr l h d)
  ];
  constants = λ i m. elim (same_place i r) as (λ _. (pivot T r c).cell i T.columns ≡ mix P (pivot T r c) i (λ j. (start P).cell j P.columns)) [
    | inl e ↦ subst (λ z. (pivot T r c).cell z T.columns ≡ mix P (pivot T r c) z (λ j. (start P).cell j P.columns)) (sym e)
        (constant_r T r c l ∙ ap (λ z. inverse (T.cell r c) *ₙ z) (s.constants r (omega arith)) ∙ sym (mix_r P T r c (λ j. (start P).cell j P.columns) lr l h))
    | inr d ↦ constant_other T r c i l d ∙ ap₂ (λ y z. y -ₙ (T.cell i c *ₙ inverse (T.cell r c)) *ₙ z) (s.constants i m) (s.constants r (omega arith)) ∙ sym (mix_other P T r c (λ j. (start P).cell j P.columns) i lr l h d)
  ];
}

-- ---- what the cost row says: its factors are the reduced costs of its multipliers
pub row_at : (P : LinearProgram) (q i : ℕ) → q < P.columns → i < P.rows → line (start P) (unit q) i ≡ P.factor i q
row_at P q i l m = ap₂ ◌+ₙ◌ (unit_no q (P.columns + i) (λ e. absurd (omega arith)))
    (sum_single P.columns q _ l (λ j n d. ap (λ z. (start P).cell i j *ₙ z) (unit_no q j d) ∙ by_ring ((start P).cell i j ∷ []) (v 0 ⊗ k 0) (k 0) refl)
    ∙ ap₂ ◌*ₙ◌ (rw (same_no i P.rows (λ e. absurd (omega arith)), same_no q P.columns (λ e. absurd (omega arith))) refl) (unit_yes q))
    ∙ by_ring (P.factor i q ∷ []) (k 0 ⊕ v 0 ⊗ k 1) (v 0) refl

cost_at : (P : LinearProgram) (q : ℕ) → q < P.columns → line (start P) (unit q) P.rows ≡ neg (P.cost q)
cost_at P q l = ap₂ ◌+ₙ◌ (unit_no q (P.columns + P.rows) (λ e. absurd (omega arith)))
    (sum_single P.columns q _ l (λ j n d. ap (λ z. (start P).cell P.rows j *ₙ z) (unit_no q j d) ∙ by_ring ((start P).cell P.rows j ∷ []) (v 0 ⊗ k 0) (k 0) refl)
    ∙ ap₂ ◌*ₙ◌ (rw (same_yes P.rows, same_no q P.columns (λ e. absurd (omega arith))) refl) (unit_yes q))
    ∙ by_ring (neg (P.cost q) ∷ []) (k 0 ⊕ v 0 ⊗ k 1) (v 0) refl

pub reduced_is : (P : LinearProgram) (T : Tableau) (q : ℕ) → q < P.columns → IsMix P T → reduced_cost P (cost_multiplier P T) q ≡ neg (coef T P.rows q)
reduced_is P T q l s =
    let a : ℕ → Number = λ j. coef T P.rows (P.columns + j) in
    let e : coef T P.rows q ≡ sum_to P.rows (λ j. a j *ₙ P.factor j q) +ₙ neg (P.cost q) =
    s.lines (unit q) P.rows (omega arith) ∙ ap₂ ◌+ₙ◌ (sum_to-same P.rows _ (λ j. a j *ₙ P.factor j q) (λ j m. ap (λ z. a j *ₙ z) (row_at P q j l m))) (last_yes P.rows _ ∙ cost_at P q l) in
    let g : sum_to P.rows (λ j. neg (a j) *ₙ P.factor j q) ≡ neg (whole 1) *ₙ sum_to P.rows (λ j. a j *ₙ P.factor j q) =
    sum_to-same P.rows _ (λ j. neg (whole 1) *ₙ (a j *ₙ P.factor j q)) (λ j m. by_ring (a j ∷ P.factor j q ∷ []) (minus (v 0) ⊗ v 1) (minus (k 1) ⊗ (v 0 ⊗ v 1)) refl) ∙ sum_to-mul P.rows (neg (whole 1)) (λ j. a j *ₙ P.factor j q) in
    ap (λ z. P.cost q +ₙ z) g ∙ by_ring (P.cost q ∷ sum_to P.rows (λ j. a j *ₙ P.factor j q) ∷ []) (v 0 ⊕ minus (k 1) ⊗ v 1) (minus (v 1 ⊕ minus (v 0))) refl ∙ ap neg (sym e)

pub remaining_is : (P : LinearProgram) (T : Tableau) → IsMix P T → reduced_constant P (cost_multiplier P T) ≡ T.cell P.rows T.columns
remaining_is P T s =
    let a : ℕ → Number = λ j. coef T P.rows (P.columns + j) in
    let e : T.cell P.rows T.columns ≡ sum_to P.rows (λ j. a j *ₙ P.bound j) +ₙ P.constant =
    s.constants P.rows (omega arith) ∙ ap₂ ◌+ₙ◌ (sum_to-same P.rows _ (λ j. a j *ₙ P.bound j) (λ j m. ap (λ z. a j *ₙ z) (rw (same_no j P.rows (λ e. absurd (omega arith)), same_yes P.columns) refl)))
    (last_yes P.rows _ ∙ rw (same_yes P.rows, same_yes P.columns) refl) in
    let g : sum_to P.rows (λ j. neg (a j) *ₙ P.bound j) ≡ neg (whole 1) *ₙ sum_to P.rows (λ j. a j *ₙ P.bound j) =
    sum_to-same P.rows _ (λ j. neg (whole 1) *ₙ (a j *ₙ P.bound j)) (λ j m. by_ring (a j ∷ P.bound j ∷ []) (minus (v 0) ⊗ v 1) (minus (k 1) ⊗ (v 0 ⊗ v 1)) refl) ∙ sum_to-mul P.rows (neg (whole 1)) (λ j. a j *ₙ P.bound j) in
    ap (λ z. P.constant -ₙ z) g ∙ by_ring (P.constant ∷ sum_to P.rows (λ j. a j *ₙ P.bound j) ∷ []) (v 0 ⊖ minus (k 1) ⊗ v 1) (v 1 ⊕ v 0) refl ∙ sym e
