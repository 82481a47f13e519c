-- The raised cost rises at a pivot of the rule.
use Rattle.std.proofs.Common.{◌≡◌, ℕ, zero, suc, ◌+◌, ◌<◌, ◌≤◌, ◌⊎◌, inl, inr, refl, sym, ◌∙◌, ap, ap₂, arith, [], ◌∷◌}
use Rattle.hys_number.specs.Number.{Number}
use Rattle.hys_number.specs.Ops.{neg, inverse, whole, ◌+ₙ◌, ◌*ₙ◌, ◌-ₙ◌, ◌<ₙ◌}
use Rattle.hys_number.proofs.Inverse.{mul_inverse}
use Rattle.hys_relax.specs.LinearProgram.{LinearProgram}
use Rattle.hys_relax.specs.Node.{Boxes}
use Rattle.hys_simplex.specs.Tableau.{Tableau, start, pivot, Solves, IsOf}
use Rattle.hys_simplex.specs.Status.{IsPositive, IsNull, Rises, edge, place_var, raised}
use Rattle.hys_simplex.proofs.Relations.{CanMove, IsSign, square, KeepsRule, raised_cost}
use Rattle.hys_simplex.proofs.Rows.{unit_yes}
use Rattle.hys_simplex.proofs.Places.{start_of, pivot_of}
use Rattle.hys_simplex.proofs.Lex.{mul_above, above_not_zero, one_not_zero, inverse_above, positive_same, positive_scale, ratio_keeps}
use Rattle.hys_simplex.proofs.Edges.{line_linear, determined, edge_outside, edge_basic, edge_flat, along_edge, edge_entering, edge_else}
use Rattle.hys_number.proofs.Ring.{by_ring, v, k, minus, ◌⊕◌, ◌⊗◌, ◌⊖◌}

pub place_in : (P : LinearProgram) (t : ℕ) → t < suc P.columns → place_var P t ≤ P.columns + P.rows
place_in P zero l = omega arith
place_in P (suc q) l = omega arith

pub cell_not_zero : (side dir p : Number) → whole 0 <ₙ side *ₙ dir *ₙ p → p ≡ whole 0 → ⊥
cell_not_zero side dir p l e = above_not_zero (side *ₙ dir *ₙ p) l (ap (λ z. side *ₙ dir *ₙ z) e ∙ by_ring (side ∷ dir ∷ []) (v 0 ⊗ v 1 ⊗ k 0) (k 0) refl)

-- ---- no raised cost cell is 0
unit_edge_zero : (P : LinearProgram) (T : Tableau) → IsOf P T → (j : ℕ) → j < P.columns → edge T j (T.outside j) ≡ whole 0 → ⊥
unit_edge_zero P T o j l e = one_not_zero (sym (unit_yes (T.outside j)) ∙ sym (edge_outside P T o j j l l) ∙ e)

neg_zero : (a : Number) → neg a ≡ whole 0 → a ≡ whole 0
neg_zero a e = by_ring (a ∷ []) (v 0) (minus (minus (v 0))) refl ∙ ap neg e ∙ by_ring [] (minus (k 0)) (k 0) refl

pub raised_not_null : (P : LinearProgram) (T : Tableau) → IsOf P T → (w : ℕ → Number) → Solves T w → (j : ℕ) → j < P.columns → IsNull (suc P.columns) (raised P T j) → ⊥
raised_not_null P T o w s j l h = elim (cases (T.outside j) (P.columns)) as (λ _. ⊥) [
  | inl m ↦ unit_edge_zero P T o j l (neg_zero (edge T j (T.outside j)) (h (suc (T.outside j)) (omega arith)))
  | inr m ↦ unit_edge_zero P T o j l (less (w (T.outside j)) (edge T j (T.outside j)) (same (T.outside j) (omega (arith, o.placed.outside_in j l))))
]
  where
    cases : (x n : ℕ) → (x < n) ⊎ (n ≤ x)
    cases x n = grind arith

    w' : ℕ → Number
    w' = λ u. whole 1 *ₙ w u +ₙ whole 1 *ₙ edge T j u

    solves' : Solves T w'
    solves' i m = line_linear T (whole 1) (whole 1) w (edge T j) i ∙ ap₂ (λ y z. whole 1 *ₙ y +ₙ whole 1 *ₙ z) (s i m) (edge_flat P T o j l i m) ∙ by_ring (T.cell i T.columns ∷ []) (k 1 ⊗ v 0 ⊕ k 1 ⊗ k 0) (v 0) refl

    same : (u : ℕ) → u ≤ P.columns + P.rows → w u ≡ w' u
    same = determined P (start P) (start_of P) w w' (λ i m. (o.keeps w).1 s i m ∙ sym ((o.keeps w').1 solves' i m))
        (λ q m. sym (ap (λ z. whole 1 *ₙ w q +ₙ whole 1 *ₙ z) (neg_zero (edge T j q) (h (suc q) (omega arith))) ∙ by_ring (w q ∷ []) (k 1 ⊗ v 0 ⊕ k 1 ⊗ k 0) (v 0) refl))

    less : (a b : Number) → a ≡ whole 1 *ₙ a +ₙ whole 1 *ₙ b → b ≡ whole 0
    less a b e = by_ring (a ∷ b ∷ []) (v 1) ((k 1 ⊗ v 0 ⊕ k 1 ⊗ v 1) ⊖ v 0) refl ∙ ap (λ z. z -ₙ a) (sym e) ∙ by_ring (a ∷ []) (v 0 ⊖ v 0) (k 0) refl

-- ---- the raised cost cells after a pivot
raised_entering : (P : LinearProgram) (T : Tableau) (r c : ℕ) → IsOf P T → r < P.rows → c < P.columns → ¬ (T.cell r c ≡ whole 0) → (t : ℕ) → t < suc P.columns →
    raised P (pivot T r c) c t ≡ neg (inverse (T.cell r c)) *ₙ raised P T c t
raised_entering P T r c o lr lc p t l = ap neg (edge_entering P T r c o lr lc p (place_var P t) (place_in P t l))
    ∙ by_ring (neg (inverse (T.cell r c)) ∷ edge T c (place_var P t) ∷ []) (minus (v 0 ⊗ v 1 ⊕ k 0 ⊗ v 1)) (v 0 ⊗ minus (v 1)) refl

raised_else : (P : LinearProgram) (T : Tableau) (r c : ℕ) → IsOf P T → r < P.rows → c < P.columns → ¬ (T.cell r c ≡ whole 0) → (q : ℕ) → q < P.columns → ¬ (q ≡ c) → (t : ℕ) → t < suc P.columns →
    raised P (pivot T r c) q t ≡ raised P T q t -ₙ (inverse (T.cell r c) *ₙ T.cell r q) *ₙ raised P T c t
raised_else P T r c o lr lc p q lq d t l = ap neg (edge_else P T r c o lr lc p q lq d (place_var P t) (place_in P t l))
    ∙ by_ring ((inverse (T.cell r c) *ₙ T.cell r q) ∷ edge T q (place_var P t) ∷ edge T c (place_var P t) ∷ []) (minus (k 1 ⊗ v 1 ⊕ minus (v 0) ⊗ v 2)) (minus (v 1) ⊖ v 0 ⊗ minus (v 2)) refl

pub inverse_signed : (s t p : Number) → IsSign s → IsSign t → ¬ (p ≡ whole 0) → whole 0 <ₙ s *ₙ t *ₙ p → inverse (s *ₙ t *ₙ p) ≡ s *ₙ t *ₙ inverse p
inverse_signed s t p hs ht h l =
    by_ring (inverse (s *ₙ t *ₙ p) ∷ []) (v 0) (k 1 ⊗ (k 1 ⊗ (k 1 ⊗ v 0))) refl
    ∙ ap₂ (λ y z. y *ₙ (z *ₙ (whole 1 *ₙ inverse (s *ₙ t *ₙ p)))) (sym (square hs)) (sym (square ht))
    ∙ ap (λ z. s *ₙ s *ₙ (t *ₙ t *ₙ (z *ₙ inverse (s *ₙ t *ₙ p)))) (sym (mul_inverse p h))
    ∙ by_ring (s ∷ t ∷ p ∷ inverse p ∷ inverse (s *ₙ t *ₙ p) ∷ []) (v 0 ⊗ v 0 ⊗ (v 1 ⊗ v 1 ⊗ (v 2 ⊗ v 3 ⊗ v 4))) ((v 0 ⊗ v 1 ⊗ v 3) ⊗ ((v 0 ⊗ v 1 ⊗ v 2) ⊗ v 4)) refl
    ∙ ap (λ z. (s *ₙ t *ₙ inverse p) *ₙ z) (mul_inverse (s *ₙ t *ₙ p) (above_not_zero (s *ₙ t *ₙ p) l)) ∙ by_ring ((s *ₙ t *ₙ inverse p) ∷ []) (v 0 ⊗ k 1) (v 0) refl

module _ (P : LinearProgram) (B : Boxes) (T : Tableau) (w : ℕ → Number) (r c : ℕ) (side near dir : Number) (o : IsOf P T) (s : Solves T w) (lr : r < P.rows) (lc : c < P.columns) (h : KeepsRule P B T w r c side near dir) where
  p_not : ¬ (T.cell r c ≡ whole 0)
  p_not = cell_not_zero side dir (T.cell r c) h.toward

  inv_is : inverse (side *ₙ dir *ₙ T.cell r c) ≡ side *ₙ dir *ₙ inverse (T.cell r c)
  inv_is = inverse_signed side dir (T.cell r c) h.side_sign h.dir_sign p_not h.toward

  -- the leaving variable goes to the end that it was off
  pub leaving_end : IsPositive (suc P.columns) (λ t. neg side *ₙ raised P (pivot T r c) c t)
  leaving_end = positive_same (suc P.columns) (λ t. inverse (side *ₙ dir *ₙ T.cell r c) *ₙ (dir *ₙ raised P T c t)) _
      (λ t l. ap (λ z. z *ₙ (dir *ₙ raised P T c t)) inv_is
      ∙ by_ring (side ∷ dir ∷ inverse (T.cell r c) ∷ raised P T c t ∷ []) ((v 0 ⊗ v 1 ⊗ v 2) ⊗ (v 1 ⊗ v 3)) ((v 1 ⊗ v 1) ⊗ (minus (v 0) ⊗ (minus (v 2) ⊗ v 3))) refl
      ∙ ap₂ (λ y z. y *ₙ (neg side *ₙ z)) (square h.dir_sign) (sym (raised_entering P T r c o lr lc p_not t l)) ∙ by_ring (neg side ∷ raised P (pivot T r c) c t ∷ []) (k 1 ⊗ (v 0 ⊗ v 1)) (v 0 ⊗ v 1) refl)
      (positive_scale (suc P.columns) (inverse (side *ₙ dir *ₙ T.cell r c)) (λ t. dir *ₙ raised P T c t) (inverse_above (side *ₙ dir *ₙ T.cell r c) h.toward) h.stands)

  -- the others that may move keep their signs
  pub sign_kept : (j : ℕ) (d : Number) → j < P.columns → ¬ (j ≡ c) → CanMove P B T j → IsSign d → IsPositive (suc P.columns) (λ t. d *ₙ raised P T j t) → IsPositive (suc P.columns) (λ t. d *ₙ raised P (pivot T r c) j t)
  sign_kept j d lj dj m sd pj = positive_same (suc P.columns) _ _ step
      (ratio_keeps (suc P.columns) (λ t. d *ₙ raised P T j t) (λ t. dir *ₙ raised P T c t) (side *ₙ d *ₙ T.cell r j) (side *ₙ dir *ₙ T.cell r c) pj h.stands h.toward
      (λ l. h.least j d lj dj m sd pj l)
      (λ n. raised_not_null P (pivot T r c) (pivot_of P T r c lr lc p_not o) w ((o'.keeps w).0 ((o.keeps w).1 s)) j lj
      (λ t l. by_ring (raised P (pivot T r c) j t ∷ []) (v 0) (k 1 ⊗ v 0) refl ∙ ap (λ z. z *ₙ raised P (pivot T r c) j t) (sym (square sd)) ∙ by_ring (d ∷ raised P (pivot T r c) j t ∷ []) ((v 0 ⊗ v 0) ⊗ v 1) (v 0 ⊗ (v 0 ⊗ v 1)) refl
      ∙ ap (λ z. d *ₙ z) (sym (step t l) ∙ n t l) ∙ by_ring (d ∷ []) (v 0 ⊗ k 0) (k 0) refl)))
    where
      o' : IsOf P (pivot T r c)
      o' = pivot_of P T r c lr lc p_not o

      step : (t : ℕ) → t < suc P.columns → d *ₙ raised P T j t -ₙ (dir *ₙ raised P T c t *ₙ inverse (side *ₙ dir *ₙ T.cell r c)) *ₙ (side *ₙ d *ₙ T.cell r j) ≡ d *ₙ raised P (pivot T r c) j t
      step t l = ap (λ z. d *ₙ raised P T j t -ₙ (dir *ₙ raised P T c t *ₙ z) *ₙ (side *ₙ d *ₙ T.cell r j)) inv_is
          ∙ by_ring (d ∷ raised P T j t ∷ dir ∷ raised P T c t ∷ side ∷ inverse (T.cell r c) ∷ T.cell r j ∷ [])
          (v 0 ⊗ v 1 ⊖ (v 2 ⊗ v 3 ⊗ (v 4 ⊗ v 2 ⊗ v 5)) ⊗ (v 4 ⊗ v 0 ⊗ v 6))
          (v 0 ⊗ v 1 ⊖ (v 2 ⊗ v 2) ⊗ ((v 4 ⊗ v 4) ⊗ (v 0 ⊗ ((v 5 ⊗ v 6) ⊗ v 3)))) refl
          ∙ ap₂ (λ y z. d *ₙ raised P T j t -ₙ y *ₙ (z *ₙ (d *ₙ ((inverse (T.cell r c) *ₙ T.cell r j) *ₙ raised P T c t)))) (square h.dir_sign) (square h.side_sign)
          ∙ by_ring (d ∷ raised P T j t ∷ ((inverse (T.cell r c) *ₙ T.cell r j) *ₙ raised P T c t) ∷ []) (v 0 ⊗ v 1 ⊖ k 1 ⊗ (k 1 ⊗ (v 0 ⊗ v 2))) (v 0 ⊗ (v 1 ⊖ v 2)) refl
          ∙ ap (λ z. d *ₙ z) (sym (raised_else P T r c o lr lc p_not j lj dj t l))

  -- the raised cost rises
  pub cost_rises : (w' : ℕ → Number) → Solves (pivot T r c) w' → ((j : ℕ) → j < P.columns → ¬ (j ≡ c) → w' (T.outside j) ≡ w (T.outside j)) → w' (T.basic r) ≡ near →
      Rises (suc P.columns) (raised_cost P w) (raised_cost P w')
  cost_rises w' s' same e = positive_same (suc P.columns) (λ t. κ *ₙ (dir *ₙ raised P T c t)) _
      (λ t l. ap (λ z. (side *ₙ (near -ₙ w (T.basic r)) *ₙ z) *ₙ (dir *ₙ raised P T c t)) inv_is
      ∙ by_ring (side ∷ (near -ₙ w (T.basic r)) ∷ dir ∷ inverse (T.cell r c) ∷ edge T c (place_var P t) ∷ [])
      ((v 0 ⊗ v 1 ⊗ (v 0 ⊗ v 2 ⊗ v 3)) ⊗ (v 2 ⊗ minus (v 4))) ((v 0 ⊗ v 0) ⊗ ((v 2 ⊗ v 2) ⊗ ((v 1 ⊗ v 3) ⊗ minus (v 4)))) refl
      ∙ ap₂ (λ y z. y *ₙ (z *ₙ (((near -ₙ w (T.basic r)) *ₙ inverse (T.cell r c)) *ₙ neg (edge T c (place_var P t))))) (square h.side_sign) (square h.dir_sign)
      ∙ ap (λ z. whole 1 *ₙ (whole 1 *ₙ (z *ₙ neg (edge T c (place_var P t))))) turned
      ∙ by_ring (τ ∷ edge T c (place_var P t) ∷ w (place_var P t) ∷ []) (k 1 ⊗ (k 1 ⊗ (minus (v 0) ⊗ minus (v 1)))) ((k 1 ⊗ v 2 ⊕ v 0 ⊗ v 1) ⊖ v 2) refl
      ∙ ap (λ z. z -ₙ w (place_var P t)) (sym (moves (place_var P t) (place_in P t l))))
      (positive_scale (suc P.columns) κ (λ t. dir *ₙ raised P T c t) (mul_above (side *ₙ (near -ₙ w (T.basic r))) (inverse (side *ₙ dir *ₙ T.cell r c)) h.off (inverse_above (side *ₙ dir *ₙ T.cell r c) h.toward)) h.stands)
    where
      κ : Number
      κ = side *ₙ (near -ₙ w (T.basic r)) *ₙ inverse (side *ₙ dir *ₙ T.cell r c)

      τ : Number
      τ = w' (T.outside c) -ₙ w (T.outside c)

      o' : IsOf P (pivot T r c)
      o' = pivot_of P T r c lr lc p_not o

      moves : (u : ℕ) → u ≤ P.columns + P.rows → w' u ≡ whole 1 *ₙ w u +ₙ τ *ₙ edge T c u
      moves = along_edge P T o c lc w w' s ((o.keeps w').0 ((o'.keeps w').1 s')) same

      turned : (near -ₙ w (T.basic r)) *ₙ inverse (T.cell r c) ≡ neg τ
      turned = ap (λ z. (z -ₙ w (T.basic r)) *ₙ inverse (T.cell r c)) (sym e ∙ moves (T.basic r) (omega (arith, o.placed.basic_in r lr)) ∙ ap (λ z. whole 1 *ₙ w (T.basic r) +ₙ τ *ₙ z) (edge_basic P T o c r lc (omega arith)))
          ∙ by_ring (w (T.basic r) ∷ τ ∷ T.cell r c ∷ inverse (T.cell r c) ∷ []) (((k 1 ⊗ v 0 ⊕ v 1 ⊗ minus (v 2)) ⊖ v 0) ⊗ v 3) ((v 2 ⊗ v 3) ⊗ minus (v 1)) refl
          ∙ ap (λ z. z *ₙ neg τ) (mul_inverse (T.cell r c) p_not) ∙ by_ring (τ ∷ []) (k 1 ⊗ minus (v 0)) (minus (v 0)) refl
