-- Tableaux of paths, and the values of their statuses.
use Rattle.std.proofs.Common.{◌≡◌, ℕ, zero, suc, ◌<◌, ◌≤◌, inl, inr, refl, sym, ◌∙◌, ap, ap₂, subst, arith, List, [], ◌∷◌, ℤ, pos, negsuc}
use Rattle.hys_number.specs.Number.{Number}
use Rattle.hys_number.specs.Sums.{sum_to}
use Rattle.hys_number.specs.Ops.{neg, whole, ◌+ₙ◌, ◌*ₙ◌, ◌-ₙ◌, ◌≤ₙ◌, ◌<ₙ◌}
use Rattle.hys_number.proofs.Laws.{whole-ratio}
use Rattle.hys_number.proofs.Order.{le_refl'}
use Rattle.hys_number.proofs.Scale.{overs, common2, common2_of}
use Rattle.hys_number.proofs.Sums.{sum_to-same}
use Rattle.hys_relax.proofs.Sums.{sum_zero, sum_single}
use Rattle.hys_relax.specs.LinearProgram.{LinearProgram}
use Rattle.hys_lin.specs.declared.form.Interval.{Interval}
use Rattle.hys_relax.specs.Node.{Boxes}
use Rattle.hys_relax.specs.Bound.{bound_of}
use Rattle.hys_simplex.specs.Tableau.{Tableau, start, pivot, Solves, unit, IsOf, cost_multiplier, after, ArePivots}
use Rattle.hys_simplex.specs.Status.{IsPositive, Rises, edge, raised}
use Rattle.hys_simplex.proofs.Relations.{AtEnd, IsStatus, StandsAtEnds, raised_cost}
use Rattle.hys_simplex.proofs.Rows.{unit_yes, unit_no}
use Rattle.hys_simplex.proofs.Places.{start_of, pivot_of}
use Rattle.hys_simplex.proofs.Status.{above_of, below_of, cost_is, status_bound}
use Rattle.hys_simplex.proofs.Lex.{lt_le, lt_irrefl, raised_sign, down, nothing, up}
use Rattle.hys_simplex.proofs.Edges.{edge_basic}
use Rattle.hys_simplex.proofs.Rising.{raised_not_null}
use Rattle.hys_number.proofs.Ring.{by_ring, v, k, minus, ◌⊕◌, ◌⊗◌, ◌⊖◌}

path_from : (P : LinearProgram) (T : Tableau) (ps : List (ℕ × ℕ)) → IsOf P T → ArePivots T ps → IsOf P (after T ps)
path_from P T [] o h = o
path_from P T (p ∷ ps) o h = path_from P (pivot T p.0 p.1) ps (pivot_of P T p.0 p.1 (rw (← o.tall) h.0) (rw (← o.wide) h.1) h.2 o) h.3

pub path_of : (P : LinearProgram) (ps : List (ℕ × ℕ)) → ArePivots (start P) ps → IsOf P (after (start P) ps)
path_of P ps h = path_from P (start P) ps (start_of P) h

-- ---- the values of a status exist: any values outside, and the basic ones by the rows
abbrev pub values : Tableau → (ℕ → Number) → ℕ → Number
values T x u = sum_to T.columns (λ j. unit (T.outside j) u *ₙ x j) +ₙ sum_to (suc T.rows) (λ i. unit (T.basic i) u *ₙ (T.cell i T.columns -ₙ sum_to T.columns (λ j. T.cell i j *ₙ x j)))

pub values_outside : (P : LinearProgram) (T : Tableau) → IsOf P T → (x : ℕ → Number) (j : ℕ) → j < P.columns → values T x (T.outside j) ≡ x j
values_outside P T o x j l = ap₂ ◌+ₙ◌
    (sum_single T.columns j (λ q. unit (T.outside q) (T.outside j) *ₙ x q) (rw o.wide l) (λ q m d. ap (λ z. z *ₙ x q) (unit_no (T.outside q) (T.outside j) (λ e. d (o.placed.once q j (rw (← o.wide) m) l (sym e)))) ∙ by_ring (x q ∷ []) (k 0 ⊗ v 0) (k 0) refl)
    ∙ ap (λ z. z *ₙ x j) (unit_yes (T.outside j)))
    (sum_zero (suc T.rows) _ (λ i m. ap (λ z. z *ₙ (T.cell i T.columns -ₙ sum_to T.columns (λ j. T.cell i j *ₙ x j))) (unit_no (T.basic i) (T.outside j) (λ e. o.placed.apart i j (omega (arith, o.tall)) l (sym e)))
    ∙ by_ring ((T.cell i T.columns -ₙ sum_to T.columns (λ j. T.cell i j *ₙ x j)) ∷ []) (k 0 ⊗ v 0) (k 0) refl))
    ∙ by_ring (x j ∷ []) (k 1 ⊗ v 0 ⊕ k 0) (v 0) refl

pub values_basic : (P : LinearProgram) (T : Tableau) → IsOf P T → (x : ℕ → Number) (i : ℕ) → i ≤ P.rows → values T x (T.basic i) ≡ T.cell i T.columns -ₙ sum_to T.columns (λ j. T.cell i j *ₙ x j)
values_basic P T o x i l = ap₂ ◌+ₙ◌
    (sum_zero T.columns _ (λ q m. ap (λ z. z *ₙ x q) (unit_no (T.outside q) (T.basic i) (o.placed.apart i q l (rw (← o.wide) m))) ∙ by_ring (x q ∷ []) (k 0 ⊗ v 0) (k 0) refl))
    (sum_single (suc T.rows) i (λ q. unit (T.basic q) (T.basic i) *ₙ rest q) (omega (arith, o.tall)) (λ q m d. ap (λ z. z *ₙ rest q) (unit_no (T.basic q) (T.basic i) (λ e. d (o.placed.basic_once q i (omega (arith, o.tall)) l (sym e)))) ∙ by_ring (rest q ∷ []) (k 0 ⊗ v 0) (k 0) refl)
    ∙ ap (λ z. z *ₙ rest i) (unit_yes (T.basic i)))
    ∙ by_ring (rest i ∷ []) (k 0 ⊕ k 1 ⊗ v 0) (v 0) refl
  where
    rest : ℕ → Number
    rest i = T.cell i T.columns -ₙ sum_to T.columns (λ j. T.cell i j *ₙ x j)

pub values_solve : (P : LinearProgram) (T : Tableau) → IsOf P T → (x : ℕ → Number) → Solves T (values T x)
values_solve P T o x i l = ap₂ ◌+ₙ◌ (values_basic P T o x i (rw (← o.tall) l)) (sum_to-same T.columns _ (λ j. T.cell i j *ₙ x j) (λ j m. ap (λ z. T.cell i j *ₙ z) (values_outside P T o x j (rw (← o.wide) m))))
    ∙ by_ring (T.cell i T.columns ∷ sum_to T.columns (λ j. T.cell i j *ₙ x j) ∷ []) ((v 0 ⊖ v 1) ⊕ v 1) (v 0) refl

-- ---- a status with raised ends is a status, and a pivot of the rule doesn't lower the bound
pub raised_zero : (P : LinearProgram) (T : Tableau) → IsOf P T → (j : ℕ) → j < P.columns → raised P T j 0 ≡ T.cell P.rows j
raised_zero P T o j l = ap neg (subst (λ z. edge T j z ≡ neg (T.cell P.rows j)) o.placed.goal (edge_basic P T o j P.rows l (omega arith))) ∙ by_ring (T.cell P.rows j ∷ []) (minus (minus (v 0))) (v 0) refl

pub first_not_below : (N : ℕ) (a : ℕ → Number) → IsPositive N a → a 0 <ₙ whole 0 → ⊥
first_not_below N a h l = go h.place refl
  where
    less : (x y : Number) → x <ₙ y → y <ₙ x → ⊥
    less x y = elim (common2_of x y) [ common2 D h p1 n1 p2 n2 e1 e2 ↦ rw (e1, e2) (simp overs (omega arith)) ]

    go : (p : ℕ) → h.place ≡ p → ⊥
    go zero e = less (a 0) (whole 0) l (subst (λ z. whole 0 <ₙ a z) e h.above)
    go (suc p) e = lt_irrefl (whole 0) (subst (λ z. z <ₙ whole 0) (h.before 0 (omega arith)) l)

pub raised_is_status : (P : LinearProgram) (B : Boxes) (T : Tableau) (w : ℕ → Number) → IsOf P T → StandsAtEnds P B T w → IsStatus P B T w
raised_is_status P B T w o s = record {
  solves = s.solves;
  slacks = s.slacks;
  ends = λ j l m. elim (raised_sign (suc P.columns) (raised P T j)) as (λ _. AtEnd (T.cell P.rows j).num (B (T.outside j)) (w (T.outside j))) [
    | nothing n ↦ absurd (raised_not_null P T o w s.solves j l n)
    | up h ↦ high (T.cell P.rows j) (B (T.outside j)) (w (T.outside j)) (λ q. first_not_below (suc P.columns) (raised P T j) h (subst (λ z. z <ₙ whole 0) (sym (raised_zero P T o j l)) q)) (s.high j l m h)
    | down h ↦ low (T.cell P.rows j) (B (T.outside j)) (w (T.outside j)) (λ q. first_not_below (suc P.columns) (λ t. neg (raised P T j t)) h (subst (λ z. neg z <ₙ whole 0) (sym (raised_zero P T o j l)) (turn (T.cell P.rows j) q))) (s.low j l m h)
  ];
}
  where
    turn : (a : Number) → whole 0 <ₙ a → neg a <ₙ whole 0
    turn a = elim (common2_of a a) [ common2 D h p1 n1 p2 n2 e1 e2 ↦ rw (e1) (simp (overs, whole-ratio 0 D h) (omega arith)) ]

    high : (a : Number) (b : Interval) (x : Number) → (a <ₙ whole 0 → ⊥) → x ≡ b.high → AtEnd a.num b x
    high a b x h e = go a.num refl
      where
        go : (z : ℤ) → a.num ≡ z → AtEnd z b x
        go (pos zero) f = inr e
        go (pos (suc n)) f = e
        go (negsuc n) f = absurd (h (below_of a n f))

    low : (a : Number) (b : Interval) (x : Number) → (whole 0 <ₙ a → ⊥) → x ≡ b.low → AtEnd a.num b x
    low a b x h e = go a.num refl
      where
        go : (z : ℤ) → a.num ≡ z → AtEnd z b x
        go (pos zero) f = inl e
        go (pos (suc n)) f = absurd (h (above_of a n f))
        go (negsuc n) f = e

rises_first : (N : ℕ) (a b : ℕ → Number) → Rises N a b → a 0 ≤ₙ b 0
rises_first N a b h = go h.place refl
  where
    more : (x y : Number) → whole 0 ≤ₙ y -ₙ x → x ≤ₙ y
    more x y = elim (common2_of x y) [ common2 D h p1 n1 p2 n2 e1 e2 ↦ rw (e1, e2) (simp (overs, whole-ratio 0 D h) (omega arith)) ]

    go : (p : ℕ) → h.place ≡ p → a 0 ≤ₙ b 0
    go zero e = more (a 0) (b 0) (lt_le (whole 0) (b 0 -ₙ a 0) (subst (λ z. whole 0 <ₙ b z -ₙ a z) e h.above))
    go (suc p) e = more (a 0) (b 0) (subst (λ z. whole 0 ≤ₙ z) (sym (h.before 0 (omega arith))) (le_refl' (whole 0)))

pub bound_not_lowered : (P : LinearProgram) (B : Boxes) (T T' : Tableau) (w w' : ℕ → Number) → IsOf P T → IsOf P T' → StandsAtEnds P B T w → StandsAtEnds P B T' w' →
    Rises (suc P.columns) (raised_cost P w) (raised_cost P w') → bound_of P B (cost_multiplier P T) ≤ₙ bound_of P B (cost_multiplier P T')
bound_not_lowered P B T T' w w' o o' s s' h =
    rw (status_bound P B T w o (raised_is_status P B T w o s) ∙ sym (cost_is P w ((o.keeps w).1 s.solves)), status_bound P B T' w' o' (raised_is_status P B T' w' o' s') ∙ sym (cost_is P w' ((o'.keeps w').1 s'.solves)))
    (rises_first (suc P.columns) (raised_cost P w) (raised_cost P w') h)
