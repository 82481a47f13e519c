-- What is shown of a stacked problem holds of the source that its system was compiled from.
use Rattle.std.proofs.Common.{List, [], Option, Some, None, ◌∙◌, sym, subst}
use Rattle.hys_number.specs.Number.{Number}
use Rattle.hys_number.specs.Ops.{◌≤ₙ◌}
use Rattle.hys_lin.specs.Sums.{at, value}
use Rattle.hys_lin.specs.declared.problem.Problem.{Problem}
use Rattle.hys_ast.specs.Tree.{Source}
use Rattle.hys_meaning.specs.Accepted.{Accepted}
use Rattle.hys_relax.specs.Node.{StackedSolution}
use Rattle.hys_sys.specs.System.{IsSystem}
use Rattle.hys_sys.specs.declared.system.System.{System}
use Rattle.hys_compile.specs.Automaton.{IsExactFor}
use Rattle.hys_stack.specs.declared.request.Request.{Request}
use Rattle.hys_stack.specs.Requests.{IsRequestOf}
use Rattle.hys_stack.specs.Stacking.{IsStacked}
use Rattle.hys_stack.specs.Trajectories.{IsOneToOne}
use Rattle.hys_stack.proofs.OneToOne.{one_to_one, bound_bounds, none_is_none, least_is_cheapest}
use Rattle.hys_stack.proofs.Problems.{is_problem}
use Rattle.hys_tree.specs.declared.tree.TreePlace.{TreePlace}
use Rattle.hys_tree.specs.declared.answer.Best.{Best}
use Rattle.hys_tree.specs.declared.answer.Claim.{Claim}
use Rattle.hys_tree.specs.declared.answer.Claim.TheVariants.{Least, NoneExists, AtLeast}
use Rattle.hys_tree.specs.Shows.{goal_of, Keeps, IsSolvedBy, BestHolds, Shows}
use Rattle.hys_tree.proofs.Sound.{tree_sound}
use Rattle.hys_best.specs.Means.{source_automaton, source_steps, IsLeastFor, IsBestFor, MeansFor}
use Rattle.hys_best.specs.Laws.{PlansAreBest}
use Rattle.hys_best.proofs.BooleanStates.{keeps_kinds}

module _ (tolerance : Number) (s : Source) (S : System) (r : Request) (p : Problem) (o : IsOneToOne (source_automaton s) (source_steps tolerance s) S r p) where
  least_for : (b : Best) → IsSolvedBy p b → ((v : List Number) → StackedSolution p v → b.cost ≤ₙ value p.cost (at v)) → IsLeastFor tolerance s S r b
  least_for b h l =
      let found = least_is_cheapest (source_automaton s) (source_steps tolerance s) S r p b.point.values o h.solution
      (λ v sol. subst (λ c. c ≤ₙ value p.cost (at v)) (sym h.cost) (l v sol)) in
      (found.0, record { numbers = found.1; cost = found.3 ∙ h.cost }, found.2)

  best_for : (z : Number) (best : Option Best) → BestHolds p z best → IsBestFor tolerance s S r best
  best_for z None h = tt
  best_for z (Some b) h =
      let found = o.trajectory b.point.values h.solved.solution in
      (found.0, record { numbers = found.2; cost = sym (o.cost b.point.values found.0 h.solved.solution found.1 found.2) ∙ h.solved.cost }, found.1)

  -- every solution keeps the goal of what is claimed
  claim_for : (claim : Claim) (places : List TreePlace) → Shows p places claim → ((v : List Number) → StackedSolution p v → Keeps (goal_of claim) (value p.cost (at v))) →
      MeansFor tolerance s S r claim
  claim_for (Least b) places h k = least_for b h.claim k
  claim_for NoneExists places h k = none_is_none (source_automaton s) (source_steps tolerance s) S r p o k
  claim_for (AtLeast z best why) places h k = (bound_bounds (source_automaton s) (source_steps tolerance s) S r p z o k, best_for z best h.claim)

-- of an accepted source and a system that is exact for it
pub means_of : (tolerance : Number) (s : Source) (S : System) (r : Request) (p : Problem) (places : List TreePlace) (claim : Claim) → Accepted s → IsExactFor tolerance s S → IsSystem S → IsRequestOf S r →
    IsStacked S r p → Shows p places claim → MeansFor tolerance s S r claim
means_of tolerance s S r p places claim a e i q k h =
    claim_for tolerance s S r p (one_to_one (source_automaton s) (source_steps tolerance s) S r p i q k e (keeps_kinds tolerance s a)) claim places h
    (λ v sol. tree_sound p (goal_of claim) h.tree [] (is_problem S r p i q k) h.shows v sol tt)

pub plans_are_best : PlansAreBest
plans_are_best tolerance c r p places claim q k shown text h =
    means_of tolerance h.tree c.system r p places claim h.accepted h.exact h.lawful q k shown
