-- The answer to an end is true of the node.
use Rattle.std.proofs.Common.{◌≡◌, ℕ, refl, sym, ◌∙◌, ap, subst, List}
use Rattle.hys_number.specs.Ops.{◌≤ₙ◌, ◌<ₙ◌, whole}
use Rattle.hys_lin.specs.Problem.{IsProblem}
use Rattle.hys_lin.specs.Sums.{at, value}
use Rattle.hys_lin.specs.declared.problem.Problem.{Problem}
use Rattle.hys_relax.specs.Node.{node_boxes, IsNode, IsLeastRelaxed}
use Rattle.hys_relax.specs.LinearProgram.{linear_program}
use Rattle.hys_relax.specs.Bound.{AreMultipliers, AreLawful, multiplier, bound_of, node_bound, plain_bound, costless}
use Rattle.hys_relax.specs.declared.fixing.Fixing.{Fixing}
use Rattle.hys_simplex.specs.Path.{tableau_after}
use Rattle.hys_simplex.specs.Unfit.{cost_pairs}
use Rattle.hys_simplex.specs.Laws.{IsReached, PointIsLeast, CostRowShows, RowShowsNone}
use Rattle.hys_simplex.proofs.Alike.{cost_pairs_alike}
use Rattle.hys_simplex.proofs.NodePaths.{plain_under}
use Rattle.hys_simplex.proofs.Shown.{cost_row, blocked_row, inside_is_least}
use Rattle.hys_tab.specs.Table.{Table, tableau_of, multipliers_of}
use Rattle.hys_dual.specs.Choosing.{IsFinish, answer_to}
use Rattle.hys_dual.specs.Relaxing.{IsWarmAt, IsRelaxed, EndsAfter}
use Rattle.hys_dual.specs.declared.finish.Finish.{Finish}
use Rattle.hys_dual.specs.declared.finish.Finish.TheVariants.{Least, Never, Stuck}
use Rattle.hys_dual.specs.declared.relaxed.Relaxed.{Relaxed}
use Rattle.hys_dual.proofs.Finishing.{read_pairs}
use Rattle.hys_dual.proofs.Goings.{after_reached, warm_reached, node_ordered}

-- the multipliers that are read off the table are those of the cost row after the path
read_after : (p : Problem) (fixings : List Fixing) (t : Table) (path : List (ℕ × ℕ)) → IsProblem p → IsWarmAt p fixings t path → multipliers_of (tableau_of t) ≡ cost_pairs p (tableau_after p path)
read_after p fixings t path h w = let s : IsReached (linear_program p) (tableau_of t) = warm_reached p fixings t path h w in
    read_pairs p (tableau_of t) s.of ∙ cost_pairs_alike p (tableau_of t) (tableau_after p path) w.reached s.of.tall

relaxed_after : (p : Problem) (fixings : List Fixing) (t : Table) (path : List (ℕ × ℕ)) (f : Finish) → IsProblem p → IsNode p fixings → IsWarmAt p fixings t path →
    IsFinish p (node_boxes p fixings) (tableau_after p path) f → IsRelaxed p fixings (answer_to (tableau_of t) path f)
relaxed_after p fixings t path (Least v m) h n w x =
    let s : IsReached (linear_program p) (tableau_after p path) = after_reached p fixings path h w.ruled in
    let q : PointIsLeast p fixings (tableau_after p path) = inside_is_least p fixings (tableau_after p path) h s x.inside in
    let r : CostRowShows p (node_boxes p fixings) (tableau_after p path) = cost_row p (node_boxes p fixings) (tableau_after p path) h s in
    record {
      least = subst (IsLeastRelaxed p fixings) (sym x.point) q.least;
      rise = subst AreMultipliers (sym x.read) r.rise;
      lawful = subst (AreLawful p) (sym x.read) r.lawful;
      bound = ap (node_bound p fixings) x.read ∙ sym q.cost ∙ ap (λ z. value p.cost (at z)) (sym x.point);
      sum_fits = x.sum_fits;
      point_fits = x.point_fits;
    }
relaxed_after p fixings t path (Never m) h n w x =
    let s : IsReached (linear_program p) (tableau_after p path) = after_reached p fixings path h w.ruled in
    let q : RowShowsNone p (node_boxes p fixings) (tableau_after p path) x.row x.side x.near =
    blocked_row p (node_boxes p fixings) (tableau_after p path) x.row x.side x.near (node_ordered p fixings h) s x.blocked in
    record {
      rise = subst AreMultipliers (sym x.read) q.rise;
      lawful = subst (AreLawful p) (sym x.read) q.lawful;
      above = subst (λ z. whole 0 <ₙ bound_of (linear_program (costless p)) (node_boxes p fixings) (multiplier z)) (sym x.read) q.above;
      sum_fits = x.sum_fits;
    }
relaxed_after p fixings t path (Stuck place) h n w x =
    let s : IsReached (linear_program p) (tableau_after p path) = after_reached p fixings path h w.ruled in
    let r : CostRowShows p (node_boxes p fixings) (tableau_after p path) = cost_row p (node_boxes p fixings) (tableau_after p path) h s in
    let e : cost_pairs p (tableau_after p path) ≡ multipliers_of (tableau_of t) = sym (read_after p fixings t path h w) in
    record {
      unfit = (w.ruled, x);
      rise = subst AreMultipliers e r.rise;
      lawful = subst (AreLawful p) e r.lawful;
      bound = subst (λ z. plain_bound p ≤ₙ node_bound p fixings z) e (plain_under p fixings path h n w.ruled);
    }

pub is_relaxed : (p : Problem) (fixings : List Fixing) (t : Table) (path : List (ℕ × ℕ)) (f : Finish) (r : Relaxed) → IsProblem p → IsNode p fixings → IsWarmAt p fixings t path →
    IsFinish p (node_boxes p fixings) (tableau_after p path) f → r ≡ answer_to (tableau_of t) path f → IsRelaxed p fixings r
is_relaxed p fixings t path f r h n w x e = subst (IsRelaxed p fixings) (sym e) (relaxed_after p fixings t path f h n w x)

answer_ends : (p : Problem) (fixings : List Fixing) (t : Table) (path : List (ℕ × ℕ)) (f : Finish) → IsFinish p (node_boxes p fixings) (tableau_after p path) f → EndsAfter p fixings path (answer_to (tableau_of t) path f)
answer_ends p fixings t path (Least v m) x = record { inside = x.inside; point = x.point }
answer_ends p fixings t path (Never m) x = record { row = x.row; side = x.side; near = x.near; blocked = x.blocked }
answer_ends p fixings t path (Stuck place) x = refl

pub ends_after : (p : Problem) (fixings : List Fixing) (t : Table) (path : List (ℕ × ℕ)) (f : Finish) (r : Relaxed) → IsFinish p (node_boxes p fixings) (tableau_after p path) f → r ≡ answer_to (tableau_of t) path f → EndsAfter p fixings path r
ends_after p fixings t path f r x e = subst (EndsAfter p fixings path) (sym e) (answer_ends p fixings t path f x)
