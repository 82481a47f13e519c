-- The laws, put together.
use Rattle.std.proofs.Common.{inl, inr, ◌≡◌, refl, sym, ◌∙◌, Bool, true, false, not, ◌||◌, cond, Some, [], ◌∷◌, length}
use Rattle.std.specs.List.{list_any}
use Rattle.hys_number.specs.Ops.{fits}
use Rattle.hys_lin.specs.Operations.{first_lost, outcome}
use Rattle.hys_relax.specs.LinearProgram.{linear_program}
use Rattle.hys_simplex.specs.Tableau.{start, cost_multiplier, row_multiplier}
use Rattle.hys_simplex.specs.Path.{levels, tableau_after}
use Rattle.hys_simplex.specs.Unfit.{SomeUnfit}
use Rattle.hys_simplex.specs.Laws.{PivotKeeps, PathReaches, RuledReaches, OneRuled, CostRow, RuledRises, RuledIsLawful, BoundAfterPath, PathBelow, PathGoesOn, NoStatusTwice, RunEnds, BlockedRow, AllInsideIsLeast, LostIsUnfit, AlikePivots, AlikeSay, StrandedShowsNone, RuledPlace, UnfitIsRuled}
use Rattle.hys_relax.specs.Node.{node_boxes}
use Rattle.hys_relax.specs.declared.range.TablePlace.TheVariants.{Cell, Value, Sum}
use Rattle.hys_simplex.specs.Alike.{IsAlike}
use Rattle.hys_simplex.proofs.Alike.{alike_sym, pivot_alike, basic_alike, all_inside_alike, point_alike, cost_pairs_alike}
use Rattle.hys_simplex.proofs.AlikeRules.{ruled_alike, blocked_alike, unfit_alike}
use Rattle.hys_simplex.proofs.Points.{stranded_none}
use Rattle.hys_simplex.proofs.Places.{start_of}
use Rattle.hys_simplex.proofs.Pairs.{are_multipliers}
use Rattle.hys_simplex.proofs.Stranded.{stranded}
use Rattle.hys_simplex.proofs.One.{one_rule}
use Rattle.hys_simplex.proofs.Pivots as Pivots
use Rattle.hys_simplex.proofs.Rules.{ruled_of, ruled_cell, pivot_rises, pivot_feasible}
use Rattle.hys_simplex.proofs.Runs.{Kept, start_feasible, pivot_bound, run_never_twice, run_ends}
use Rattle.hys_simplex.proofs.NodePaths.{reaches, are_pivots, cost_lawful, cost_bound, point_cost, point_bound, point_least, plain_under, rules_lawful, levels_ordered, path_below, path_on, row_lawful, row_above}

pub pivot_keeps : PivotKeeps
pivot_keeps = Pivots.pivot_keeps

pub path_reaches : PathReaches
path_reaches p fixings path h r = let s : Kept _ _ = reaches p fixings path h r in (record { of = s.of; feasible = s.feasible }, are_pivots p fixings path r)

pub ruled_reaches : RuledReaches
ruled_reaches P B T r c b s h = (record { of = ruled_of P B T r c s.of h; feasible = pivot_feasible P B T r c s.of b h s.feasible }, ruled_cell P B T r c h)

pub one_ruled : OneRuled
one_ruled = one_rule

pub cost_row : CostRow
cost_row p B T h s = record {
  rise = are_multipliers (length p.rows) (cost_multiplier (linear_program p) T);
  lawful = cost_lawful p T s.of s.feasible;
  bound = cost_bound p B T s.of ∙ sym (point_cost p B T h);
}

pub ruled_rises : RuledRises
ruled_rises P B T r c b s h = (pivot_rises P B T r c s.of b h, pivot_bound P B T r c s.of b h)

pub ruled_is_lawful : RuledIsLawful
ruled_is_lawful p fixings path h r = rules_lawful (linear_program p) (levels p fixings) 0 (length fixings) (start (linear_program p)) path (levels_ordered p h fixings) r
    (record { of = start_of (linear_program p); feasible = start_feasible (linear_program p) })

pub bound_after_path : BoundAfterPath
bound_after_path = plain_under

pub below : PathBelow
below = path_below

pub goes_on : PathGoesOn
goes_on = path_on

pub no_status_twice : NoStatusTwice
no_status_twice P B T run i j b s r l m = run_never_twice P B T run b r (record { of = s.of; feasible = s.feasible }) i j l m

pub ends : RunEnds
ends P B T run b s r = run_ends P B T run b r (record { of = s.of; feasible = s.feasible })

pub blocked_row : BlockedRow
blocked_row p B T r side near b s h = record {
  rise = are_multipliers (length p.rows) (row_multiplier (linear_program p) T r side);
  lawful = row_lawful p B T r side near s.of s.feasible b h;
  above = row_above p B T r side near s.of s.feasible b h;
  stranded = stranded (linear_program p) B T r side near s.of s.feasible h;
}

pub inside_is_least : AllInsideIsLeast
inside_is_least p fixings T h s a = record { least = point_least p fixings T h s.of s.feasible a; cost = point_bound p fixings T h s.of }

pub lost_is_unfit : LostIsUnfit
lost_is_unfit [] lost e = absurd (cc)
lost_is_unfit (o ∷ os) lost e = go (fits (outcome o)) e (lost_is_unfit os lost)
  where
    go : (b : Bool) → cond b (first_lost os) (Some o) ≡ Some lost → (first_lost os ≡ Some lost → SomeUnfit fits os) → (not b || list_any (λ o. not (fits (outcome o))) os) ≡ true
    go true f h = h f
    go false f h = refl

pub stranded_shows_none : StrandedShowsNone
stranded_shows_none = stranded_none

pub unfit_is_ruled : UnfitIsRuled
unfit_is_ruled fits p fixings path (Cell i j) h = (h.0, (h.1.row, h.1.column, h.1.ruled))
unfit_is_ruled fits p fixings path (Value i) h = (
  h.0,
  elim h.1 as (λ _. RuledPlace p (node_boxes p fixings) (tableau_after p path) (Value i)) [
    | inl w ↦ λ q l m. w.1 q l
    | inr w ↦ λ q l m. w.1 q m
  ],
)
unfit_is_ruled fits p fixings path Sum h = (
  h.0,
  elim h.1 as (λ _. RuledPlace p (node_boxes p fixings) (tableau_after p path) Sum) [
    | inl w ↦ inl w.0
    | inr w ↦ inr (w.row, w.side, w.near, w.leaving, w.stranded)
  ],
)

pub alike_pivots : AlikePivots
alike_pivots = pivot_alike

pub alike_say : AlikeSay
alike_say p B T T' h w t = let g : IsAlike T' T = alike_sym T T' h in let w' : T'.columns ≡ length p.boxes = sym h.wide ∙ w in let t' : T'.rows ≡ length p.rows = sym h.tall ∙ t in record {
  ruled = λ r c. (ruled_alike (linear_program p) B T T' h w t r c, ruled_alike (linear_program p) B T' T g w' t' r c);
  blocked = λ r side near. (blocked_alike (linear_program p) B T T' h w t r side near, blocked_alike (linear_program p) B T' T g w' t' r side near);
  values = λ i l. basic_alike (linear_program p) B T T' h i (rw t l);
  inside = (all_inside_alike (linear_program p) B T T' h t, all_inside_alike (linear_program p) B T' T g t');
  point = point_alike (linear_program p) B T T' h;
  pairs = cost_pairs_alike p T T' h t;
  unfit = λ fits place. (unfit_alike fits p B T T' place h w t, unfit_alike fits p B T' T place g w' t');
}
