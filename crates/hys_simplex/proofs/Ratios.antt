-- The test of the sizes is the comparison of the raised ratios.
use Rattle.std.proofs.Common.{◌≡◌, ℕ, suc, refl, ◌∙◌, ap, ap₂, [], ◌∷◌}
use Rattle.hys_number.specs.Number.{Number}
use Rattle.hys_number.specs.Ops.{inverse, whole, ◌*ₙ◌, ◌-ₙ◌, ◌<ₙ◌}
use Rattle.hys_number.proofs.Inverse.{mul_inverse}
use Rattle.hys_relax.specs.LinearProgram.{LinearProgram}
use Rattle.hys_simplex.specs.Tableau.{Tableau}
use Rattle.hys_simplex.specs.Status.{IsPositive, Rises, raised}
use Rattle.hys_simplex.proofs.Relations.{IsSign, square}
use Rattle.hys_simplex.specs.Rule.{ratio}
use Rattle.hys_simplex.proofs.Lex.{mul_above, above_not_zero, inverse_above, positive_same, positive_scale}
use Rattle.hys_simplex.proofs.Rising.{cell_not_zero, inverse_signed}
use Rattle.hys_number.proofs.Ring.{by_ring, v, k, ◌⊗◌, ◌⊖◌}

-- the size of a raised cell over that of its cell is the ratio
sized : (P : LinearProgram) (T : Tableau) (r j : ℕ) (side d : Number) → IsSign side → IsSign d → whole 0 <ₙ side *ₙ d *ₙ T.cell r j → (t : ℕ) → (d *ₙ raised P T j t) *ₙ inverse (side *ₙ d *ₙ T.cell r j) ≡ ratio P T r side j t
sized P T r j side d hs hd l t = ap (λ z. (d *ₙ raised P T j t) *ₙ z) (inverse_signed side d (T.cell r j) hs hd (cell_not_zero side d (T.cell r j) l) l)
    ∙ by_ring (side ∷ d ∷ raised P T j t ∷ inverse (T.cell r j) ∷ []) ((v 1 ⊗ v 2) ⊗ (v 0 ⊗ v 1 ⊗ v 3)) ((v 1 ⊗ v 1) ⊗ (v 0 ⊗ (v 2 ⊗ v 3))) refl
    ∙ ap (λ z. z *ₙ ratio P T r side j t) (square hd) ∙ by_ring (ratio P T r side j t ∷ []) (k 1 ⊗ v 0) (v 0) refl

-- the test of the sizes is the comparison of the ratios
pub test_is_ratio : (P : LinearProgram) (T : Tableau) (r c j : ℕ) (side dir d : Number) → IsSign side → IsSign dir → IsSign d → whole 0 <ₙ side *ₙ dir *ₙ T.cell r c → whole 0 <ₙ side *ₙ d *ₙ T.cell r j →
    IsPositive (suc P.columns) (λ t. (side *ₙ d *ₙ T.cell r j) *ₙ (dir *ₙ raised P T c t) -ₙ (side *ₙ dir *ₙ T.cell r c) *ₙ (d *ₙ raised P T j t)) →
    Rises (suc P.columns) (ratio P T r side j) (ratio P T r side c)
test_is_ratio P T r c j side dir d hs hc hd lc lj h = positive_same (suc P.columns) _ _
    (λ t m. by_ring (inverse a ∷ inverse b ∷ a ∷ b ∷ (dir *ₙ raised P T c t) ∷ (d *ₙ raised P T j t) ∷ [])
    ((v 0 ⊗ v 1) ⊗ (v 2 ⊗ v 4 ⊖ v 3 ⊗ v 5)) ((v 2 ⊗ v 0) ⊗ (v 4 ⊗ v 1) ⊖ (v 3 ⊗ v 1) ⊗ (v 5 ⊗ v 0)) refl
    ∙ ap₂ (λ x y. x *ₙ ((dir *ₙ raised P T c t) *ₙ inverse b) -ₙ y *ₙ ((d *ₙ raised P T j t) *ₙ inverse a)) (mul_inverse a (above_not_zero a lj)) (mul_inverse b (above_not_zero b lc))
    ∙ by_ring (((dir *ₙ raised P T c t) *ₙ inverse b) ∷ ((d *ₙ raised P T j t) *ₙ inverse a) ∷ []) (k 1 ⊗ v 0 ⊖ k 1 ⊗ v 1) (v 0 ⊖ v 1) refl
    ∙ ap₂ ◌-ₙ◌ (sized P T r c side dir hs hc lc t) (sized P T r j side d hs hd lj t))
    (positive_scale (suc P.columns) (inverse a *ₙ inverse b) _ (mul_above (inverse a) (inverse b) (inverse_above a lj) (inverse_above b lc)) h)
  where
    a : Number
    a = side *ₙ d *ₙ T.cell r j

    b : Number
    b = side *ₙ dir *ₙ T.cell r c
