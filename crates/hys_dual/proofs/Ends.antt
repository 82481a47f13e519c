-- What a choice says, and the end of a relaxation carried from a table to the tableau after its path.
use Rattle.std.proofs.Common.{◌≡◌, ℕ, ◌+◌, ◌-◌, ◌<◌, ◌∙◌, ap, subst, arith, List, [], ◌∷◌, ◌++◌, length}
use Rattle.std.proofs.lemmas.List.{length-append}
use Rattle.hys_number.specs.Ops.{fits}
use Rattle.hys_lin.specs.Problem.{IsProblem}
use Rattle.hys_lin.specs.Ranges.{box_at}
use Rattle.hys_lin.specs.declared.form.Interval.{Interval}
use Rattle.hys_lin.specs.declared.problem.Problem.{Problem}
use Rattle.hys_relax.specs.Node.{Boxes, node_boxes}
use Rattle.hys_relax.specs.LinearProgram.{linear_program}
use Rattle.hys_relax.specs.declared.fixing.Fixing.{Fixing}
use Rattle.hys_relax.specs.declared.range.TablePlace.TheVariants.{Cell}
use Rattle.hys_simplex.specs.Tableau.{Tableau}
use Rattle.hys_simplex.specs.Rule.{IsRuled}
use Rattle.hys_simplex.specs.Path.{tableau_after, status_count, IsPathAt}
use Rattle.hys_simplex.specs.Alike.{IsAlike}
use Rattle.hys_simplex.specs.Laws.{IsReached}
use Rattle.hys_simplex.proofs.Alike.{all_inside_alike, point_alike, cost_pairs_alike, row_pairs_alike}
use Rattle.hys_simplex.proofs.AlikeRules.{blocked_alike, unfit_alike}
use Rattle.hys_tab.specs.Fits.{IsFirstUnfit}
use Rattle.hys_tab.specs.Table.{Table, tableau_of}
use Rattle.hys_dual.specs.Choosing.{IsFinish, IsChoice}
use Rattle.hys_dual.specs.Relaxing.{IsWarmAt, GoesOn}
use Rattle.hys_dual.specs.declared.finish.Finish.{Finish}
use Rattle.hys_dual.specs.declared.finish.Finish.TheVariants.{Least, Never, Stuck}
use Rattle.hys_dual.specs.declared.finish.Choice.{Choice}
use Rattle.hys_dual.specs.declared.finish.Choice.TheVariants.{Pivot, Done}
use Rattle.hys_dual.proofs.Goings.{warm_reached, same_boxes, few_added}

-- ---- choices
pub chosen_ruled : (p : Problem) (B : Boxes) (T : Tableau) (q : Choice) (r c : ℕ) → IsChoice p B T q → q ≡ Pivot r c → IsRuled (linear_program p) B T r c
chosen_ruled p B T q r c h e = let g : IsChoice p B T (Pivot r c) = subst (IsChoice p B T) e h in g

chosen_end : (p : Problem) (B : Boxes) (T : Tableau) (q : Choice) (f : Finish) → IsChoice p B T q → q ≡ Done f → IsFinish p B T f
chosen_end p B T q f h e = let g : IsChoice p B T (Done f) = subst (IsChoice p B T) e h in g

pub ruled_row : (p : Problem) (B : Boxes) (t : Table) (r c : ℕ) → IsReached (linear_program p) (tableau_of t) → IsRuled (linear_program p) B (tableau_of t) r c → r < length t.basics
ruled_row p B t r c s q = rw s.of.tall q.leaving.row

pub ruled_column : (p : Problem) (B : Boxes) (t : Table) (r c : ℕ) → IsReached (linear_program p) (tableau_of t) → IsRuled (linear_program p) B (tableau_of t) r c → c < length t.outsides
ruled_column p B t r c s q = rw s.of.wide q.entering.column

-- ---- ends
finish_alike : (p : Problem) (B : Boxes) (T T' : Tableau) (f : Finish) → IsAlike T T' → IsReached (linear_program p) T → IsFinish p B T f → IsFinish p B T' f
finish_alike p B T T' (Least v m) h s x = record {
  inside = all_inside_alike (linear_program p) B T T' h s.of.tall x.inside;
  point = x.point ∙ point_alike (linear_program p) B T T' h;
  read = x.read ∙ cost_pairs_alike p T T' h s.of.tall;
  sum_fits = x.sum_fits;
  point_fits = x.point_fits;
}
finish_alike p B T T' (Never m) h s x = record {
  row = x.row;
  side = x.side;
  near = x.near;
  blocked = blocked_alike (linear_program p) B T T' h s.of.wide s.of.tall x.row x.side x.near x.blocked;
  read = x.read ∙ row_pairs_alike p T T' x.row x.side h (omega (arith, s.of.tall, x.blocked.leaving.row));
  sum_fits = x.sum_fits;
}
finish_alike p B T T' (Stuck place) h s x = unfit_alike fits p B T T' place h s.of.wide s.of.tall x

finish_after : (p : Problem) (fixings : List Fixing) (bs : List Interval) (t : Table) (path : List (ℕ × ℕ)) (f : Finish) → IsProblem p → ((j : ℕ) → box_at bs j ≡ node_boxes p fixings j) → IsWarmAt p fixings t path →
    IsFinish p (box_at bs) (tableau_of t) f → IsFinish p (node_boxes p fixings) (tableau_after p path) f
finish_after p fixings bs t path f h e w x = finish_alike p (node_boxes p fixings) (tableau_of t) (tableau_after p path) f w.reached (warm_reached p fixings t path h w)
    (subst (λ B. IsFinish p B (tableau_of t) f) (same_boxes p fixings bs e) x)

pub done_after : (p : Problem) (fixings : List Fixing) (bs : List Interval) (t : Table) (path : List (ℕ × ℕ)) (q : Choice) (f : Finish) → IsProblem p → ((j : ℕ) → box_at bs j ≡ node_boxes p fixings j) → IsWarmAt p fixings t path →
    IsChoice p (box_at bs) (tableau_of t) q → q ≡ Done f → IsFinish p (node_boxes p fixings) (tableau_after p path) f
done_after p fixings bs t path q f h e w x g = finish_after p fixings bs t path f h e w (chosen_end p (box_at bs) (tableau_of t) q f x g)

pub cell_after : (p : Problem) (fixings : List Fixing) (bs : List Interval) (t : Table) (path : List (ℕ × ℕ)) (r c i j : ℕ) → IsProblem p → ((j : ℕ) → box_at bs j ≡ node_boxes p fixings j) → IsWarmAt p fixings t path →
    IsRuled (linear_program p) (box_at bs) (tableau_of t) r c → IsFirstUnfit (tableau_of t) r c i j → IsFinish p (node_boxes p fixings) (tableau_after p path) (Stuck (Cell i j))
cell_after p fixings bs t path r c i j h e w q x = let s : IsReached (linear_program p) (tableau_of t) = warm_reached p fixings t path h w in
    finish_after p fixings bs t path (Stuck (Cell i j)) h e w (record {
      row = r;
      column = c;
      ruled = q;
      in_rows = omega (arith, x.in_rows, s.of.tall);
      in_columns = omega (arith, x.in_columns, s.of.wide);
      unfit = x.unfit;
    })

-- ---- the loop ends
pub one_fewer : (p : Problem) (fixings : List Fixing) (old path new : List (ℕ × ℕ)) (r c : ℕ) → IsProblem p → IsPathAt p fixings old → GoesOn p fixings old path → new ≡ path ++ (r, c) ∷ [] →
    status_count (linear_program p) + length old - length new < status_count (linear_program p) + length old - length path
one_fewer p fixings old path new r c h w g e = let l : length path < status_count (linear_program p) + length old = few_added p fixings old path h w g in
    omega (arith, l, ap length e ∙ length-append path ((r, c) ∷ []))
