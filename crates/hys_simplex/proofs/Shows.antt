-- What a table in memory shows of a tableau's raised cells, and a path with one more pivot.
use Rattle.std.proofs.Common.{◌≡◌, ℕ, suc, ◌<◌, ◌≤◌, refl, sym, ◌∙◌, ap, arith, List, [], ◌∷◌, ◌++◌}
use Rattle.hys_number.specs.Number.{Number}
use Rattle.hys_number.specs.Ops.{◌-ₙ◌, ◌≤ₙ◌, ◌<ₙ◌, neg, whole}
use Rattle.hys_number.proofs.Field.{neg_neg}
use Rattle.hys_number.proofs.Order.{le_trans}
use Rattle.hys_number.proofs.Laws.{whole-ratio}
use Rattle.hys_number.proofs.Scale.{overs, common2, common2_of}
use Rattle.hys_number.proofs.Ring.{by_ring, v, k, minus, ◌⊖◌}
use Rattle.hys_lin.specs.Problem.{IsProblem}
use Rattle.hys_lin.specs.Sums.{at, value}
use Rattle.hys_lin.specs.declared.problem.Problem.{Problem}
use Rattle.hys_relax.specs.Node.{IsNode, RelaxedPoint}
use Rattle.hys_relax.specs.Bound.{node_bound, plain_bound}
use Rattle.hys_relax.specs.LinearProgram.{LinearProgram}
use Rattle.hys_relax.specs.declared.fixing.Fixing.{Fixing}
use Rattle.hys_relax.proofs.Bounds.{prefix_bound, node_duality}
use Rattle.hys_simplex.specs.Tableau.{Tableau, pivot, after, IsOf}
use Rattle.hys_simplex.specs.Status.{edge, raised, Rises}
use Rattle.hys_simplex.proofs.Edges.{edge_outside, edge_basic}
use Rattle.hys_simplex.proofs.Lex.{RaisedSign, down, nothing, up, raised_sign, positive_same}
use Rattle.hys_simplex.proofs.Rows.{unit_yes, unit_no}

-- ---- paths
pub after_more : (T : Tableau) (path : List (ℕ × ℕ)) (p : ℕ × ℕ) → after T (path ++ p ∷ []) ≡ pivot (after T path) p.0 p.1
after_more T [] p = refl
after_more T (q ∷ path) p = after_more (pivot T q.0 q.1) path p

-- ---- raised cells
-- in the place of the cost
pub raised_cost : (P : LinearProgram) (T : Tableau) → IsOf P T → (j : ℕ) → j < P.columns → raised P T j 0 ≡ T.cell P.rows j
raised_cost P T o j l = ap (λ u. neg (edge T j u)) (sym o.placed.goal) ∙ ap neg (edge_basic P T o j P.rows l (omega arith)) ∙ neg_neg (T.cell P.rows j)

-- in that of a column that is basic in a row
pub raised_basic : (P : LinearProgram) (T : Tableau) → IsOf P T → (j i q : ℕ) → j < P.columns → i ≤ P.rows → T.basic i ≡ q → raised P T j (suc q) ≡ T.cell i j
raised_basic P T o j i q l m e = ap (λ u. neg (edge T j u)) (sym e) ∙ ap neg (edge_basic P T o j i l m) ∙ neg_neg (T.cell i j)

-- in that of the column that stands there itself
pub raised_own : (P : LinearProgram) (T : Tableau) → IsOf P T → (j q : ℕ) → j < P.columns → T.outside j ≡ q → raised P T j (suc q) ≡ neg (whole 1)
raised_own P T o j q l e = ap (λ u. neg (edge T j u)) (sym e) ∙ ap neg (edge_outside P T o j j l l ∙ unit_yes (T.outside j))

-- in that of a column that stands elsewhere outside
pub raised_else : (P : LinearProgram) (T : Tableau) → IsOf P T → (j i q : ℕ) → j < P.columns → i < P.columns → ¬ (i ≡ j) → T.outside i ≡ q → raised P T j (suc q) ≡ whole 0
raised_else P T o j i q l m d e = ap (λ u. neg (edge T j u)) (sym e)
    ∙ ap neg (edge_outside P T o j i l m ∙ unit_no (T.outside j) (T.outside i) (λ f. d (o.placed.once i j m l f)))
    ∙ by_ring [] (minus (k 0)) (k 0) refl

-- ---- comparing place by place
-- of two raised numbers one is above the other, or they are the same
pub data Compared (N : ℕ) (a b : ℕ → Number) : Type 0 where
  below : Rises N a b → Compared N a b
  same : ((t : ℕ) → t < N → a t ≡ b t) → Compared N a b
  above : Rises N b a → Compared N a b

pub compared_places : (N : ℕ) (a b : ℕ → Number) → Compared N a b
compared_places N a b = go (raised_sign N (λ t. b t -ₙ a t))
  where
    turned : (x y : Number) → neg (y -ₙ x) ≡ x -ₙ y
    turned x y = by_ring (x ∷ y ∷ []) (minus (v 1 ⊖ v 0)) (v 0 ⊖ v 1) refl

    level : (x y : Number) → y -ₙ x ≡ whole 0 → x ≡ y
    level x y e = by_ring (x ∷ y ∷ []) (v 0) (v 1 ⊖ (v 1 ⊖ v 0)) refl ∙ ap (λ z. y -ₙ z) e ∙ by_ring (y ∷ []) (v 0 ⊖ k 0) (v 0) refl

    go : RaisedSign N (λ t. b t -ₙ a t) → Compared N a b
    go (up h) = below h
    go (nothing h) = same (λ t l. level (a t) (b t) (h t l))
    go (down h) = above (positive_same N (λ t. neg (b t -ₙ a t)) (λ t. a t -ₙ b t) (λ t l. turned (a t) (b t)) h)

-- the first place at which two differ decides
pub first_place : (N t : ℕ) (a b : ℕ → Number) → t < N → ((q : ℕ) → q < t → a q ≡ b q) → a t <ₙ b t → Rises N a b
first_place N t a b l h m = record {
  place = t;
  within = l;
  before = λ q n. ap (λ z. b q -ₙ z) (h q n) ∙ by_ring (b q ∷ []) (v 0 ⊖ v 0) (k 0) refl;
  above = above_difference (a t) (b t) m;
}
  where
    above_difference : (x y : Number) → x <ₙ y → whole 0 <ₙ y -ₙ x
    above_difference x y = elim (common2_of x y) [ common2 D h p1 n1 p2 n2 e1 e2 ↦ rw (e1, e2) (simp (overs, whole-ratio 0 D h) (omega arith)) ]

-- ---- no relaxed point costs less than the plain bound
pub plain_least : (p : Problem) (fixings : List Fixing) (u : List Number) → IsProblem p → IsNode p fixings → RelaxedPoint p fixings u → plain_bound p ≤ₙ value p.cost (at u)
plain_least p fixings u h n r = le_trans (plain_bound p) (node_bound p fixings []) (value p.cost (at u)) (prefix_bound p 0 fixings [] h n) (node_duality p fixings [] u h tt r)
