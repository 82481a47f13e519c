-- What a search at its end claims.
use Rattle.std.specs.Prelude.{◌≡◌, ℕ, ◌+◌, ◌^◌, ◌<◌, ◌≤◌, true, length, get_or, Some, None, ◌⊎◌}
use Rattle.hys_number.specs.Number.{Number}
use Rattle.hys_number.specs.Ops.{◌≤ₙ◌}
use Rattle.hys_lin.specs.declared.problem.Problem.{Problem}
use Rattle.hys_tree.specs.declared.answer.Answer.{Answer}
use Rattle.hys_tree.specs.declared.answer.Claim.{Claim}
use Rattle.hys_tree.specs.declared.answer.Claim.TheVariants.{Least, NoneExists, AtLeast}
use Rattle.hys_tree.specs.declared.answer.Why.{Why}
use Rattle.hys_tree.specs.declared.answer.Why.TheVariants.{Spent, Range}
use Rattle.hys_search.specs.Nodes.{node_at}
use Rattle.hys_search.specs.Standings.{bound_of, IsSettledBy, Beats}
use Rattle.hys_search.specs.Core.{Core, Holds, IsFirstKept}
use Rattle.hys_search.specs.Places.{is_cost, IsLower, IsTreeOf}
use Rattle.hys_search.specs.Picks.{no_entry}

-- the waiting node at place k is open
abbrev pub IsOpenAt : Core → ℕ → Type 0
IsOpenAt C k = (k < length C.waiting) × Beats C.found (get_or C.waiting k no_entry).bound

-- every waiting node is settled
abbrev pub NoneOpen : Core → Type 0
NoneOpen C = (k : ℕ) → k < length C.waiting → IsSettledBy C.found (get_or C.waiting k no_entry).bound

-- no open node waits, or as many nodes were expanded as were allowed
abbrev pub IsStopped : Core → Type 0
IsStopped C = NoneOpen C ⊎ (C.expanded ≡ C.limit)

-- as many nodes are allowed as the largest tree over the problem's branch columns has
abbrev pub AllowsAll : Problem → ℕ → Type 0
AllowsAll p nodes = 2 ^ (length p.branch + 1) ≤ nodes + 1

abbrev pub WhyHolds : Core → Why → Type 0
WhyHolds C (Spent n) = (n ≡ C.limit) × (n ≡ C.expanded) × ((k : ℕ) × IsOpenAt C k)
WhyHolds C (Range i r) = NoneOpen C × IsFirstKept C i r

-- every leaf with a bound has at least this one
abbrev pub AllAtLeast : Core → Number → Type 0
AllAtLeast C z = (j : ℕ) → j < length C.nodes → is_cost (node_at C.nodes j).standing ≡ true →
    z ≤ₙ bound_of C.nodes C.certificates j

abbrev pub EndClaims : Core → Claim → Type 0
EndClaims C (Least b) = (C.found ≡ Some b) × AllAtLeast C b.cost
EndClaims C NoneExists = IsLower C None
EndClaims C (AtLeast z best why) = IsLower C (Some z) × (best ≡ C.found) × WhyHolds C why

-- the answer is that of the search
pub record IsAnswerOf (C : Core) (a : Answer) : Type 0 where
  pub tree : IsTreeOf C a.tree.places
  pub expanded : a.expanded ≡ C.expanded
  pub claim : EndClaims C a.claim

-- the answer is that of some search over the problem
pub record IsPlanned (p : Problem) (nodes : ℕ) (a : Answer) : Type 0 where
  pub end : Core
  pub holds : Holds end
  pub problem : end.problem ≡ p
  pub limit : end.limit ≡ nodes
  pub answer : IsAnswerOf end a
