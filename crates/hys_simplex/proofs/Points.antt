-- A point that meets the rows as a solution of a tableau: its slacks are what the rows leave.
use Rattle.std.proofs.Common.{◌≡◌, ℕ, ◌+◌, ◌-◌, ◌<◌, ◌≤◌, ◌⊎◌, inl, inr, refl, sym, ◌∙◌, ap, ap₂, subst, arith, Bool, true, false, if◌then◌else◌, ltb, ◌==◌, Some, None, List, [], ◌∷◌, length}
use Rattle.hys_number.specs.Number.{Number}
use Rattle.hys_number.specs.Ops.{◌+ₙ◌, ◌*ₙ◌, ◌-ₙ◌, neg, ◌≤ₙ◌, whole}
use Rattle.hys_number.specs.Sums.{sum_to}
use Rattle.hys_number.proofs.Laws.{whole-ratio}
use Rattle.hys_number.proofs.Field.{add_neg}
use Rattle.hys_number.proofs.Order.{le_refl'}
use Rattle.hys_number.proofs.Scale.{overs, common2, common2_of}
use Rattle.hys_number.proofs.Sums.{sum_to-same, sum_to-mul}
use Rattle.hys_number.proofs.Ring.{by_ring, v, k, minus, ◌⊕◌, ◌⊗◌, ◌⊖◌}
use Rattle.hys_lin.specs.Sums.{at, compared}
use Rattle.hys_lin.specs.declared.problem.Problem.{Problem}
use Rattle.hys_lin.specs.Problem.{IsProblem}
use Rattle.hys_relax.specs.Node.{Boxes, Inside, node_boxes, RelaxedPoint}
use Rattle.hys_relax.specs.LinearProgram.{LinearProgram, linear_program, row_sum, cost_of, Meets}
use Rattle.hys_relax.specs.declared.fixing.Fixing.{Fixing}
use Rattle.hys_relax.proofs.Dense.{meets_is}
use Rattle.hys_simplex.specs.Tableau.{Tableau, start, line, Solves, IsOf}
use Rattle.hys_simplex.specs.Status.{at_most, InRange}
use Rattle.hys_simplex.specs.Rule.{IsStranded}
use Rattle.hys_simplex.proofs.Same.{same_yes, same_no}
use Rattle.hys_simplex.proofs.Ruled.{cases}
use Rattle.hys_simplex.proofs.Ranges.{lower_column, lower_slack, upper_column, upper_slack}
use Rattle.hys_simplex.proofs.Decide.{inside_not_off}

-- the point with its slacks and its cost
abbrev pub extended : LinearProgram → (ℕ → Number) → ℕ → Number
extended P x u = if ltb u P.columns then x u else (if u == P.columns + P.rows then cost_of P x else P.bound (u - P.columns) -ₙ row_sum P (u - P.columns) x)

pub extended_column : (P : LinearProgram) (x : ℕ → Number) (j : ℕ) → j < P.columns → extended P x j ≡ x j
extended_column P x j l = let e : ltb j P.columns ≡ true = grind arith in rw e refl

pub extended_slack : (P : LinearProgram) (x : ℕ → Number) (i : ℕ) → i < P.rows → extended P x (P.columns + i) ≡ P.bound i -ₙ row_sum P i x
extended_slack P x i l = let e : ltb (P.columns + i) P.columns ≡ false = grind arith in let f : P.columns + i == P.columns + P.rows ≡ false = grind arith in let q : P.columns + i - P.columns ≡ i = omega arith in
    ap (λ b. if b then x (P.columns + i) else (if P.columns + i == P.columns + P.rows then cost_of P x else P.bound (P.columns + i - P.columns) -ₙ row_sum P (P.columns + i - P.columns) x)) e
    ∙ ap (λ b. if b then cost_of P x else P.bound (P.columns + i - P.columns) -ₙ row_sum P (P.columns + i - P.columns) x) f
    ∙ ap (λ z. P.bound z -ₙ row_sum P z x) q

pub extended_cost : (P : LinearProgram) (x : ℕ → Number) → extended P x (P.columns + P.rows) ≡ cost_of P x
extended_cost P x = let e : ltb (P.columns + P.rows) P.columns ≡ false = grind arith in
    ap (λ b. if b then x (P.columns + P.rows) else (if P.columns + P.rows == P.columns + P.rows then cost_of P x else P.bound (P.columns + P.rows - P.columns) -ₙ row_sum P (P.columns + P.rows - P.columns) x)) e
    ∙ ap (λ b. if b then cost_of P x else P.bound (P.columns + P.rows - P.columns) -ₙ row_sum P (P.columns + P.rows - P.columns) x) (same_yes (P.columns + P.rows))

-- it solves the rows of the start
pub extended_solves : (P : LinearProgram) (x : ℕ → Number) → Solves (start P) (extended P x)
extended_solves P x i l = go (split i P.rows l)
  where
    split : (i m : ℕ) → i ≤ m → (i < m) ⊎ (i ≡ m)
    split i m l = grind arith

    of_row : (i : ℕ) → i < P.rows → line (start P) (extended P x) i ≡ (start P).cell i P.columns
    of_row i m = ap₂ ◌+ₙ◌ (extended_slack P x i m)
        (sum_to-same P.columns _ (λ j. P.factor i j *ₙ x j) (λ j q. ap₂ ◌*ₙ◌ (rw (same_no i P.rows (λ e. absurd (omega arith)), same_no j P.columns (λ e. absurd (omega arith))) refl) (extended_column P x j q)))
        ∙ by_ring (P.bound i ∷ row_sum P i x ∷ []) ((v 0 ⊖ v 1) ⊕ v 1) (v 0) refl
        ∙ sym (rw (same_no i P.rows (λ e. absurd (omega arith)), same_yes P.columns) refl)

    of_cost : line (start P) (extended P x) P.rows ≡ (start P).cell P.rows P.columns
    of_cost = ap₂ ◌+ₙ◌ (extended_cost P x)
        (sum_to-same P.columns _ (λ j. neg (whole 1) *ₙ (P.cost j *ₙ x j)) (λ j q. ap₂ ◌*ₙ◌ (rw (same_yes P.rows, same_no j P.columns (λ e. absurd (omega arith))) refl) (extended_column P x j q) ∙ by_ring (P.cost j ∷ x j ∷ []) (minus (v 0) ⊗ v 1) (minus (k 1) ⊗ (v 0 ⊗ v 1)) refl)
        ∙ sum_to-mul P.columns (neg (whole 1)) (λ j. P.cost j *ₙ x j))
        ∙ by_ring (P.constant ∷ sum_to P.columns (λ j. P.cost j *ₙ x j) ∷ []) ((v 0 ⊕ v 1) ⊕ minus (k 1) ⊗ v 1) (v 0) refl
        ∙ sym (rw (same_yes P.rows, same_yes P.columns) refl)

    go : (i < P.rows) ⊎ (i ≡ P.rows) → line (start P) (extended P x) i ≡ (start P).cell i P.columns
    go (inl m) = of_row i m
    go (inr e) = subst (λ z. line (start P) (extended P x) z ≡ (start P).cell z P.columns) (sym e) of_cost

-- and each variable is in its range
pub extended_inside : (P : LinearProgram) (B : Boxes) (x : ℕ → Number) → Inside P.columns B x → Meets P x → (u : ℕ) → u < P.columns + P.rows → InRange P B u (extended P x u)
extended_inside P B x h m u l = elim (cases u P.columns P.rows l) as (λ _. InRange P B u (extended P x u)) [
  | inl q ↦ subst (InRange P B u) (sym (extended_column P x u q)) (record {
    low = subst (λ z. z ≤ₙ x u) (sym (lower_column P B u q)) (h u q).low;
    high = subst (at_most (x u)) (sym (upper_column P B u q)) (h u q).high;
  })
  | inr z ↦ subst (λ y. InRange P B y (extended P x y)) (sym z.2) (subst (InRange P B (P.columns + z.0)) (sym (extended_slack P x z.0 z.1)) (slack z.0 (P.equation z.0) refl (m z.0 z.1)))
]
  where
    left : (s b : Number) → s ≤ₙ b → whole 0 ≤ₙ b -ₙ s
    left s b = elim (common2_of s b) [ common2 D h p1 n1 p2 n2 e1 e2 ↦ rw (e1, e2) (simp (overs, whole-ratio 0 D h) (omega arith)) ]

    slack : (i : ℕ) (q : Bool) → P.equation i ≡ q → compared (P.equation i) (row_sum P i x) (P.bound i) → InRange P B (P.columns + i) (P.bound i -ₙ row_sum P i x)
    slack i true e c = let s : row_sum P i x ≡ P.bound i = subst (λ b. compared b (row_sum P i x) (P.bound i)) e c in let n : P.bound i -ₙ row_sum P i x ≡ whole 0 = ap (λ z. P.bound i -ₙ z) s ∙ add_neg (P.bound i) in record {
      low = subst (λ z. z ≤ₙ P.bound i -ₙ row_sum P i x) (sym (lower_slack P B i)) (subst (λ z. whole 0 ≤ₙ z) (sym n) (le_refl' (whole 0)));
      high = subst (at_most (P.bound i -ₙ row_sum P i x)) (sym (upper_slack P B i ∙ ap (λ b. if b then Some (whole 0) else None) e)) (subst (λ z. z ≤ₙ whole 0) (sym n) (le_refl' (whole 0)));
    }
    slack i false e c = record {
      low = subst (λ z. z ≤ₙ P.bound i -ₙ row_sum P i x) (sym (lower_slack P B i)) (left (row_sum P i x) (P.bound i) (subst (λ b. compared b (row_sum P i x) (P.bound i)) e c));
      high = subst (at_most (P.bound i -ₙ row_sum P i x)) (sym (upper_slack P B i ∙ ap (λ b. if b then Some (whole 0) else None) e)) tt;
    }

-- so a row that can't be brought to its range shows that no point exists
pub stranded_none : (p : Problem) (fixings : List Fixing) (T : Tableau) (r : ℕ) (side near : Number) (u : List Number) → IsProblem p → IsOf (linear_program p) T → r < length p.rows →
    IsStranded (linear_program p) (node_boxes p fixings) T r side near → RelaxedPoint p fixings u → ⊥
stranded_none p fixings T r side near u h o l s q = inside_not_off (linear_program p) (node_boxes p fixings) (T.basic r) (extended (linear_program p) (at u) (T.basic r)) side near
    (inside (T.basic r) (o.placed.basic_in r l))
    (s (extended (linear_program p) (at u)) ((o.keeps (extended (linear_program p) (at u))).0 (extended_solves (linear_program p) (at u))) (λ j m. inside (T.outside j) (o.placed.outside_in j m)))
  where
    inside : (y : ℕ) → y < length p.boxes + length p.rows → InRange (linear_program p) (node_boxes p fixings) y (extended (linear_program p) (at u) y)
    inside = extended_inside (linear_program p) (node_boxes p fixings) (at u) q.inside ((meets_is p h (at u)).0 q.rows)
