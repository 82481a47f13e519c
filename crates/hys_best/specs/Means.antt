-- What an answer of a plan means for the automaton of the source. Nothing here speaks of rows, or of how an answer is
-- found or shown.
use Rattle.std.specs.Prelude.{◌≡◌, ℕ, List, Option, Some, None}
use Rattle.hys_number.specs.Number.{Number}
use Rattle.hys_number.specs.Ops.{◌≤ₙ◌}
use Rattle.hys_ast.specs.Tree.{Source}
use Rattle.hys_meaning.specs.Steps.{Legal}
use Rattle.hys_meaning.specs.Unfolded.{unfolded}
use Rattle.hys_sys.specs.Exact.{Automaton, Steps}
use Rattle.hys_sys.specs.declared.system.System.{System}
use Rattle.hys_compile.specs.Automaton.{automaton_of}
use Rattle.hys_compile.specs.Text.{IsCompiled}
use Rattle.hys_compile.specs.declared.compiler.Compiled.{Compiled}
use Rattle.hys_stack.specs.declared.request.Request.{Request}
use Rattle.hys_stack.specs.Trajectories.{Trajectory, IsTrajectory, StandsFor, trajectory_cost, IsCheapest}
use Rattle.hys_tree.specs.declared.answer.Best.{Best}
use Rattle.hys_tree.specs.declared.answer.Claim.{Claim}
use Rattle.hys_tree.specs.declared.answer.Claim.TheVariants.{Least, NoneExists, AtLeast}

-- ---- the automaton of a source
-- its states, inputs, auxiliaries and outputs, once each guard has a name
abbrev pub source_automaton : Source → Automaton
source_automaton s = automaton_of (unfolded s)

-- its legal steps, at the tolerance of guards that have none of their own
abbrev pub source_steps : Number → Source → Steps
source_steps tolerance s = Legal tolerance (unfolded s)

-- legal steps of it from the request's start over its horizon
abbrev pub IsTrajectoryOf : Number → Source → Request → Trajectory → Type 0
IsTrajectoryOf tolerance s r T = IsTrajectory (source_automaton s) (source_steps tolerance s) r T

-- by the request's weights, which stand in the order of the system's columns
abbrev pub source_cost : Source → System → Request → Trajectory → Number
source_cost s system r T = trajectory_cost (source_automaton s) system r T

-- ---- what is found
-- the point has the numbers of the trajectory, which costs what is stated
pub record IsPointOf (s : Source) (system : System) (r : Request) (b : Best) (T : Trajectory) : Type 0 where
  pub numbers : StandsFor (source_automaton s) system b.point.values T
  pub cost : source_cost s system r T ≡ b.cost

-- the point is that of a trajectory than which none is cheaper
abbrev pub IsLeastFor : Number → Source → System → Request → Best → Type 0
IsLeastFor tolerance s system r b = (T : Trajectory) × IsPointOf s system r b T
    × IsCheapest (source_automaton s) (source_steps tolerance s) system r T

-- no trajectory exists
abbrev pub IsNoneFor : Number → Source → Request → Type 0
IsNoneFor tolerance s r = (T : Trajectory) → ¬ (IsTrajectoryOf tolerance s r T)

-- no trajectory costs less than the bound
abbrev pub IsBoundFor : Number → Source → System → Request → Number → Type 0
IsBoundFor tolerance s system r bound = (T : Trajectory) → IsTrajectoryOf tolerance s r T →
    bound ≤ₙ source_cost s system r T

-- the point is that of a trajectory, where one was found
abbrev pub IsBestFor : Number → Source → System → Request → Option Best → Type 0
IsBestFor tolerance s system r None = Unit {0}
IsBestFor tolerance s system r (Some b) = (T : Trajectory) × IsPointOf s system r b T × IsTrajectoryOf tolerance s r T

-- ---- what a claim means
abbrev pub MeansFor : Number → Source → System → Request → Claim → Type 0
MeansFor tolerance s system r (Least b) = IsLeastFor tolerance s system r b
MeansFor tolerance s system r NoneExists = IsNoneFor tolerance s r
MeansFor tolerance s system r (AtLeast bound best why) =
    IsBoundFor tolerance s system r bound × IsBestFor tolerance s system r best

-- for the source with whatever text it was compiled from
abbrev pub Means : Number → Compiled → Request → Claim → Type 0
Means tolerance c r claim = (text : List ℕ) → (h : IsCompiled tolerance text c) →
    MeansFor tolerance h.tree c.system r claim
