-- The rule picks at most one pivot: the ratios of two columns that may enter differ.
use Rattle.std.proofs.Common.{◌≡◌, ℕ, suc, ◌+◌, ◌<◌, ◌≤◌, ◌⊎◌, inl, inr, refl, sym, ◌∙◌, ap, ap₂, subst, arith, [], ◌∷◌}
use Rattle.hys_number.specs.Number.{Number}
use Rattle.hys_number.specs.Ops.{◌+ₙ◌, ◌*ₙ◌, ◌-ₙ◌, neg, inverse, ◌≤ₙ◌, ◌<ₙ◌, whole}
use Rattle.hys_number.proofs.Scale.{overs, common3, common3_of}
use Rattle.hys_number.proofs.Inverse.{mul_inverse}
use Rattle.hys_number.proofs.Ring.{by_ring, v, k, minus, ◌⊕◌, ◌⊗◌, ◌⊖◌}
use Rattle.hys_relax.specs.Node.{Boxes}
use Rattle.hys_relax.specs.LinearProgram.{LinearProgram}
use Rattle.hys_simplex.specs.Tableau.{Tableau, start, Solves, IsOf}
use Rattle.hys_simplex.specs.Status.{edge, place_var, raised, lower, upper, at_most, IsOff, under, over, basic_value, status_value}
use Rattle.hys_simplex.specs.Rule.{ratio, IsEntering, IsLeaving, IsRuled, raised_sign}
use Rattle.hys_simplex.proofs.Relations.{IsOrdered, IsSign, square}
use Rattle.hys_simplex.proofs.Pivots.{same_place}
use Rattle.hys_simplex.proofs.Rows.{unit_yes, unit_no}
use Rattle.hys_simplex.proofs.Places.{start_of}
use Rattle.hys_simplex.proofs.Lex.{down, nothing, up, raised_sign as sign_case, positive_same, one_not_zero}
use Rattle.hys_simplex.proofs.Edges.{line_linear, edge_flat, edge_outside, determined, IsFlat, flat_linear}
use Rattle.hys_simplex.proofs.Rising.{cell_not_zero}
use Rattle.hys_simplex.proofs.Ranges.{stands, off_sign, range_ordered}
use Rattle.hys_simplex.proofs.Decide.{inside_not_off}

-- what keeps the rows and the columns is 0
flat_null : (P : LinearProgram) (T : Tableau) (w d : ℕ → Number) → IsOf P T → Solves T w → IsFlat T d → ((q : ℕ) → q < P.columns → d q ≡ whole 0) → (u : ℕ) → u ≤ P.columns + P.rows → d u ≡ whole 0
flat_null P T w d o s f h u l = less (w u) (d u) (same u l)
  where
    w' : ℕ → Number
    w' = λ u. whole 1 *ₙ w u +ₙ whole 1 *ₙ d u

    solves' : Solves T w'
    solves' i m = line_linear T (whole 1) (whole 1) w d i ∙ ap₂ (λ y z. whole 1 *ₙ y +ₙ whole 1 *ₙ z) (s i m) (f i m) ∙ by_ring (T.cell i T.columns ∷ []) (k 1 ⊗ v 0 ⊕ k 1 ⊗ k 0) (v 0) refl

    same : (u : ℕ) → u ≤ P.columns + P.rows → w u ≡ w' u
    same = determined P (start P) (start_of P) w w' (λ i m. (o.keeps w).1 s i m ∙ sym ((o.keeps w').1 solves' i m))
        (λ q m. sym (ap (λ z. whole 1 *ₙ w q +ₙ whole 1 *ₙ z) (h q m) ∙ by_ring (w q ∷ []) (k 1 ⊗ v 0 ⊕ k 1 ⊗ k 0) (v 0) refl))

    less : (a b : Number) → a ≡ whole 1 *ₙ a +ₙ whole 1 *ₙ b → b ≡ whole 0
    less a b e = by_ring (a ∷ b ∷ []) (v 1) ((k 1 ⊗ v 0 ⊕ k 1 ⊗ v 1) ⊖ v 0) refl ∙ ap (λ z. z -ₙ a) (sym e) ∙ by_ring (a ∷ []) (v 0 ⊖ v 0) (k 0) refl

-- two columns with one ratio are one
ratios_differ : (P : LinearProgram) (B : Boxes) (T : Tableau) (r c c' : ℕ) (side : Number) → IsOf P T → IsSign side → c < P.columns → c' < P.columns → ¬ (T.cell r c ≡ whole 0) →
    ((t : ℕ) → t < suc P.columns → ratio P T r side c' t ≡ ratio P T r side c t) → c ≡ c'
ratios_differ P B T r c c' side o ss lc lc' n e = elim (same_place c c') as (λ _. c ≡ c') [
  | inl q ↦ q
  | inr q ↦ absurd (one_not_zero (sym (mul_inverse (T.cell r c) n) ∙ ap (λ z. T.cell r c *ₙ z) (part q) ∙ by_ring (T.cell r c ∷ []) (v 0 ⊗ k 0) (k 0) refl))
]
  where
    a : Number
    a = inverse (T.cell r c)

    b : Number
    b = inverse (T.cell r c')

    d : ℕ → Number
    d = λ u. a *ₙ edge T c u +ₙ neg b *ₙ edge T c' u

    at_place : (t : ℕ) → t < suc P.columns → d (place_var P t) ≡ whole 0
    at_place t l = by_ring (a ∷ b ∷ edge T c (place_var P t) ∷ edge T c' (place_var P t) ∷ [])
        (v 0 ⊗ v 2 ⊕ minus (v 1) ⊗ v 3) (k 1 ⊗ (minus (v 3) ⊗ v 1) ⊖ k 1 ⊗ (minus (v 2) ⊗ v 0)) refl
        ∙ ap (λ z. z *ₙ (raised P T c' t *ₙ b) -ₙ z *ₙ (raised P T c t *ₙ a)) (sym (square ss))
        ∙ by_ring (side ∷ (raised P T c' t *ₙ b) ∷ (raised P T c t *ₙ a) ∷ []) ((v 0 ⊗ v 0) ⊗ v 1 ⊖ (v 0 ⊗ v 0) ⊗ v 2) (v 0 ⊗ (v 0 ⊗ v 1 ⊖ v 0 ⊗ v 2)) refl
        ∙ ap (λ z. side *ₙ (z -ₙ ratio P T r side c t)) (e t l) ∙ by_ring (side ∷ ratio P T r side c t ∷ []) (v 0 ⊗ (v 1 ⊖ v 1)) (k 0) refl

    null : (u : ℕ) → u ≤ P.columns + P.rows → d u ≡ whole 0
    null = flat_null P T (status_value P B T) d o (stands P B T o).solves (flat_linear T a (neg b) (edge T c) (edge T c') (edge_flat P T o c lc) (edge_flat P T o c' lc')) (λ q l. at_place (suc q) (omega arith))

    part : ¬ (c ≡ c') → a ≡ whole 0
    part q = by_ring (a ∷ b ∷ []) (v 0) (v 0 ⊗ k 1 ⊕ minus (v 1) ⊗ k 0) refl
        ∙ sym (ap₂ (λ y z. a *ₙ y +ₙ neg b *ₙ z) (edge_outside P T o c c lc lc ∙ unit_yes (T.outside c)) (edge_outside P T o c' c lc' lc ∙ unit_no (T.outside c') (T.outside c) (λ x. q (sym (o.placed.once c' c lc' lc (sym x))))))
        ∙ null (T.outside c) (let l : T.outside c < P.columns + P.rows = o.placed.outside_in c lc in omega arith)

one_side : (P : LinearProgram) (B : Boxes) (u : ℕ) (x s n s' n' : Number) → at_most (lower P B u) (upper P B u) → IsOff P B u x s n → IsOff P B u x s' n' → s ≡ s'
one_side P B u x s n s' n' h (under e f l) (under e' f' l') = e ∙ sym e'
one_side P B u x s n s' n' h (over e f l) (over e' f' l') = e ∙ sym e'
one_side P B u x s n s' n' h (under e f l) (over e' f' l') = absurd (crossed (lower P B u) n' x (subst (at_most (lower P B u)) f' h) (subst (λ z. x <ₙ z) f l) l')
  where
    crossed : (a b x : Number) → a ≤ₙ b → x <ₙ a → b <ₙ x → ⊥
    crossed a b x = elim (common3_of a b x) [ common3 D h p1 n1 p2 n2 p3 n3 e1 e2 e3 ↦ rw (e1, e2, e3) (simp overs (omega arith)) ]
one_side P B u x s n s' n' h (over e f l) (under e' f' l') = absurd (crossed (lower P B u) n x (subst (at_most (lower P B u)) f h) (subst (λ z. x <ₙ z) f' l') l)
  where
    crossed : (a b x : Number) → a ≤ₙ b → x <ₙ a → b <ₙ x → ⊥
    crossed a b x = elim (common3_of a b x) [ common3 D h p1 n1 p2 n2 p3 n3 e1 e2 e3 ↦ rw (e1, e2, e3) (simp overs (omega arith)) ]

one_row : (P : LinearProgram) (B : Boxes) (T : Tableau) (r r' : ℕ) (s n s' n' : Number) → IsLeaving P B T r s n → IsLeaving P B T r' s' n' → r ≡ r'
one_row P B T r r' s n s' n' h g = elim (order r r') as (λ _. r ≡ r') [
  | inl l ↦ absurd (inside_not_off P B (T.basic r) (basic_value P B T r) s n (g.before r l) h.off)
  | inr q ↦ elim q as (λ _. r ≡ r') [ inl e ↦ e | inr l ↦ absurd (inside_not_off P B (T.basic r') (basic_value P B T r') s' n' (h.before r' l) g.off) ]
]
  where
    order : (x y : ℕ) → (x < y) ⊎ ((x ≡ y) ⊎ (y < x))
    order x y = grind arith

one_column : (P : LinearProgram) (B : Boxes) (T : Tableau) (r c c' : ℕ) (side : Number) → IsOf P T → IsSign side → IsEntering P B T r side c → IsEntering P B T r side c' → c ≡ c'
one_column P B T r c c' side o ss h g = elim (sign_case (suc P.columns) (λ t. ratio P T r side c t -ₙ ratio P T r side c' t)) as (λ _. c ≡ c') [
  | up q ↦ absurd (h.least c' g.column g.enters q)
  | down q ↦ absurd (g.least c h.column h.enters (positive_same (suc P.columns) _ _ (λ t l. by_ring (ratio P T r side c t ∷ ratio P T r side c' t ∷ []) (minus (v 0 ⊖ v 1)) (v 1 ⊖ v 0) refl) q))
  | nothing q ↦ ratios_differ P B T r c c' side o ss h.column g.column (cell_not_zero side (raised_sign P T c) (T.cell r c) h.enters.toward)
      (λ t l. by_ring (ratio P T r side c t ∷ ratio P T r side c' t ∷ []) (v 1) (v 0 ⊖ (v 0 ⊖ v 1)) refl ∙ ap (λ z. ratio P T r side c t -ₙ z) (q t l) ∙ by_ring (ratio P T r side c t ∷ []) (v 0 ⊖ k 0) (v 0) refl)
]

pub one_rule : (P : LinearProgram) (B : Boxes) (T : Tableau) (r c r' c' : ℕ) → IsOf P T → IsOrdered P.columns B → IsRuled P B T r c → IsRuled P B T r' c' → (r ≡ r') × (c ≡ c')
one_rule P B T r c r' c' o b h g = (
  rows,
  one_column P B T r c c' h.side o (off_sign P B (T.basic r) (basic_value P B T r) h.side h.near h.leaving.off) h.entering
      (subst (λ z. IsEntering P B T r z c') (sym sides) (subst (λ z. IsEntering P B T z g.side c') (sym rows) g.entering)),
)
  where
    rows : r ≡ r'
    rows = one_row P B T r r' h.side h.near g.side g.near h.leaving g.leaving

    sides : h.side ≡ g.side
    sides = one_side P B (T.basic r) (basic_value P B T r) h.side h.near g.side g.near (range_ordered P B b (T.basic r) (o.placed.basic_in r h.leaving.row)) h.leaving.off
        (subst (λ z. IsOff P B (T.basic z) (basic_value P B T z) g.side g.near) (sym rows) g.leaving.off)
