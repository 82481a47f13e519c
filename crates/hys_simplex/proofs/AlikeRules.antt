-- The rule, and numbers that don't fit, in tableaux that agree at their places.
use Rattle.std.proofs.Common.{◌≡◌, ℕ, suc, ◌<◌, ◌≤◌, inl, inr, sym, ◌∙◌, ap, ap₂, subst, arith, Bool, if◌then◌else◌, length}
use Rattle.hys_number.specs.Number.{Number}
use Rattle.hys_number.specs.Ops.{◌*ₙ◌, ◌-ₙ◌, ◌/ₙ◌, neg, inverse, ◌<ₙ◌, whole}
use Rattle.hys_lin.specs.Sums.{at}
use Rattle.hys_lin.specs.declared.problem.Problem.{Problem}
use Rattle.hys_relax.specs.Node.{Boxes}
use Rattle.hys_relax.specs.LinearProgram.{LinearProgram, linear_program}
use Rattle.hys_relax.specs.Bound.{AreLawful, costless}
use Rattle.hys_relax.specs.BoundSum.{bound_operations}
use Rattle.hys_relax.specs.declared.range.TablePlace.{TablePlace}
use Rattle.hys_relax.specs.declared.range.TablePlace.TheVariants.{Cell, Value, Sum}
use Rattle.hys_simplex.specs.Tableau.{Tableau}
use Rattle.hys_simplex.specs.Alike.{IsAlike}
use Rattle.hys_simplex.specs.Status.{InRange, IsOff, basic_value, IsDualFeasible}
use Rattle.hys_simplex.specs.Rule.{IsMovable, raised_sign, MayEnter, ratio, IsEntering, IsLeaving, IsRuled, IsBlocked, IsStranded}
use Rattle.hys_simplex.specs.Unfit.{SomeUnfit, CellUnfit, point_operations, UnfitAt}
use Rattle.hys_simplex.proofs.Lex.{positive_same}
use Rattle.hys_simplex.proofs.Alike.{alike_sym, pivot_alike, solves_alike, raised_alike, above_alike, basic_alike, inside_alike, all_inside_alike, cost_pairs_alike, row_pairs_alike, point_alike, operations_alike}

sign_alike : (P : LinearProgram) (T T' : Tableau) → IsAlike T T' → (j : ℕ) → j < T.columns → raised_sign P T j ≡ raised_sign P T' j
sign_alike P T T' h j l = ap (λ b. if b then whole 1 else neg (whole 1)) (above_alike P T T' h j l)

enter_alike : (P : LinearProgram) (B : Boxes) (T T' : Tableau) → IsAlike T T' → (r : ℕ) (side : Number) (j : ℕ) → r ≤ T.rows → j < T.columns → MayEnter P B T r side j → MayEnter P B T' r side j
enter_alike P B T T' h r side j lr lj m = record {
  movable = subst (IsMovable P B) (h.outsides j lj) m.movable;
  toward = subst (λ z. whole 0 <ₙ z) (ap₂ (λ x y. side *ₙ x *ₙ y) (sign_alike P T T' h j lj) (h.cells r j lr (omega arith))) m.toward;
}

ratio_alike : (P : LinearProgram) (T T' : Tableau) → IsAlike T T' → (r : ℕ) (side : Number) (j t : ℕ) → r ≤ T.rows → j < T.columns → ratio P T r side j t ≡ ratio P T' r side j t
ratio_alike P T T' h r side j t lr lj = ap₂ (λ x y. side *ₙ (x *ₙ inverse y)) (raised_alike P T T' h j t lj) (h.cells r j lr (omega arith))

entering_alike : (P : LinearProgram) (B : Boxes) (T T' : Tableau) → IsAlike T T' → T.columns ≡ P.columns → (r : ℕ) (side : Number) (c : ℕ) → r ≤ T.rows → IsEntering P B T r side c → IsEntering P B T' r side c
entering_alike P B T T' h w r side c lr e = record {
  column = e.column;
  enters = enter_alike P B T T' h r side c lr (rw w e.column) e.enters;
  least = λ j l m q. e.least j l (enter_alike P B T' T (alike_sym T T' h) r side j (rw (← h.tall) lr) (rw (← h.wide, w) l) m)
      (positive_same (suc P.columns) _ _ (λ t n. ap₂ (λ x y. y -ₙ x) (sym (ratio_alike P T T' h r side j t lr (rw w l))) (sym (ratio_alike P T T' h r side c t lr (rw w e.column)))) q);
}

leaving_alike : (P : LinearProgram) (B : Boxes) (T T' : Tableau) → IsAlike T T' → T.rows ≡ P.rows → (r : ℕ) (side near : Number) → IsLeaving P B T r side near → IsLeaving P B T' r side near
leaving_alike P B T T' h t r side near g = let lr : r < P.rows = g.row in record {
  row = g.row;
  before = λ i l. inside_alike P B T T' h i (omega (arith, t)) (g.before i l);
  off = subst (λ z. IsOff P B z (basic_value P B T' r) side near) (h.basics r (omega (arith, t))) (subst (λ z. IsOff P B (T.basic r) z side near) (basic_alike P B T T' h r (omega (arith, t))) g.off);
}

pub ruled_alike : (P : LinearProgram) (B : Boxes) (T T' : Tableau) → IsAlike T T' → T.columns ≡ P.columns → T.rows ≡ P.rows → (r c : ℕ) → IsRuled P B T r c → IsRuled P B T' r c
ruled_alike P B T T' h w t r c g = let lr : r < P.rows = g.leaving.row in record {
  side = g.side;
  near = g.near;
  leaving = leaving_alike P B T T' h t r g.side g.near g.leaving;
  entering = entering_alike P B T T' h w r g.side c (omega (arith, t)) g.entering;
}

pub blocked_alike : (P : LinearProgram) (B : Boxes) (T T' : Tableau) → IsAlike T T' → T.columns ≡ P.columns → T.rows ≡ P.rows → (r : ℕ) (side near : Number) → IsBlocked P B T r side near → IsBlocked P B T' r side near
blocked_alike P B T T' h w t r side near g = let lr : r < P.rows = g.leaving.row in record {
  leaving = leaving_alike P B T T' h t r side near g.leaving;
  closed = λ j l m. g.closed j l (enter_alike P B T' T (alike_sym T T' h) r side j (omega (arith, t, h.tall)) (rw (← h.wide, w) l) m);
}

pub stranded_alike : (P : LinearProgram) (B : Boxes) (T T' : Tableau) → IsAlike T T' → T.columns ≡ P.columns → T.rows ≡ P.rows → (r : ℕ) (side near : Number) → r < P.rows → IsStranded P B T r side near → IsStranded P B T' r side near
stranded_alike P B T T' h w t r side near lr g x s inside = subst (λ z. IsOff P B z (x z) side near) (h.basics r (omega (arith, t)))
    (g x (solves_alike T' T (alike_sym T T' h) x s) (λ j l. subst (λ z. InRange P B z (x z)) (sym (h.outsides j (rw w l))) (inside j l)))

pub feasible_alike : (P : LinearProgram) (T T' : Tableau) → IsAlike T T' → T.columns ≡ P.columns → IsDualFeasible P T → IsDualFeasible P T'
feasible_alike P T T' h w g j i lj li e f = positive_same (suc P.columns) _ _ (λ t l. ap neg (raised_alike P T T' h j t (rw w lj))) (g j i lj li (h.outsides j (rw w lj) ∙ e) f)

-- ---- numbers that don't fit
cell_alike : (fits : Number → Bool) (T T' : Tableau) → IsAlike T T' → (r c i j : ℕ) → r < T.rows → c < T.columns → i ≤ T.rows → j ≤ T.columns → CellUnfit fits T.cell r c i j → CellUnfit fits T'.cell r c i j
cell_alike fits T T' h r c i j lr lc li lj (inl e) = inl (ap fits (sym ((pivot_alike T T' r c h lr lc).cells i j li lj)) ∙ e)
cell_alike fits T T' h r c i j lr lc li lj (inr e) = inr (e.0, ap fits (sym (ap₂ ◌*ₙ◌ (h.cells i c li (omega arith)) (ap₂ ◌/ₙ◌ (h.cells r j (omega arith) lj) (h.cells r c (omega arith) (omega arith))))) ∙ e.1)

pub unfit_alike : (fits : Number → Bool) (p : Problem) (B : Boxes) (T T' : Tableau) (place : TablePlace) → IsAlike T T' → T.columns ≡ length p.boxes → T.rows ≡ length p.rows → UnfitAt fits p B T place → UnfitAt fits p B T' place
unfit_alike fits p B T T' (Cell i j) h w t u = record {
  row = u.row;
  column = u.column;
  ruled = ruled_alike (linear_program p) B T T' h w t u.row u.column u.ruled;
  in_rows = u.in_rows;
  in_columns = u.in_columns;
  unfit = cell_alike fits T T' h u.row u.column i j (rw t u.ruled.leaving.row) (rw w u.ruled.entering.column) (rw t u.in_rows) (rw w u.in_columns) u.unfit;
}
unfit_alike fits p B T T' (Value i) h w t (inl u) = inl (
  u.0,
  (λ q l. let m : i < length p.rows = u.0 in inside_alike (linear_program p) B T T' h q (omega (arith, t)) (u.1 q l)),
  let m : i < length p.rows = u.0 in subst (SomeUnfit fits) (operations_alike (linear_program p) B T T' h i (omega (arith, t))) u.2,
)
unfit_alike fits p B T T' (Value i) h w t (inr u) = inr (u.0, all_inside_alike (linear_program p) B T T' h t u.1, subst (λ z. SomeUnfit fits (point_operations p (at z) i)) (point_alike (linear_program p) B T T' h) u.2)
unfit_alike fits p B T T' Sum h w t (inl u) = inl (all_inside_alike (linear_program p) B T T' h t u.0, subst (λ z. SomeUnfit fits (bound_operations p B z)) (cost_pairs_alike p T T' h t) u.1)
unfit_alike fits p B T T' Sum h w t (inr u) = let lr : u.row < length p.rows = u.leaving.row in inr (record {
  row = u.row;
  side = u.side;
  near = u.near;
  leaving = leaving_alike (linear_program p) B T T' h t u.row u.side u.near u.leaving;
  stranded = stranded_alike (linear_program p) B T T' h w t u.row u.side u.near lr u.stranded;
  lawful = subst (AreLawful p) (row_pairs_alike p T T' u.row u.side h (omega (arith, t))) u.lawful;
  unfit = subst (λ z. SomeUnfit fits (bound_operations (costless p) B z)) (row_pairs_alike p T T' u.row u.side h (omega (arith, t))) u.unfit;
})
