-- What the laws of this crate say.
use Rattle.std.specs.Prelude.{◌≡◌, ℕ, List}
use Rattle.hys_number.specs.Number.{Number}
use Rattle.hys_number.specs.Ops.{◌≤ₙ◌}
use Rattle.hys_lin.specs.Sums.{at, value}
use Rattle.hys_lin.specs.declared.problem.Problem.{Problem}
use Rattle.hys_sys.specs.System.{IsSystem}
use Rattle.hys_sys.specs.Exact.{Automaton, Steps, Exact}
use Rattle.hys_sys.specs.declared.system.System.{System}
use Rattle.hys_relax.specs.Node.{StackedSolution}
use Rattle.hys_stack.specs.declared.request.Request.{Request}
use Rattle.hys_stack.specs.declared.fault.RequestFault.{RequestFault}
use Rattle.hys_stack.specs.Requests.{IsRequestOf}
use Rattle.hys_stack.specs.Texts.{IsTextOf, IsCause}
use Rattle.hys_stack.specs.Stacking.{IsStacked}
use Rattle.hys_stack.specs.Trajectories.{Trajectory, IsTrajectory, StandsFor, trajectory_cost, IsOneToOne, KeepsKinds, IsCheapest}

-- of a system that is exact for a relation of legal steps, which keeps Boolean states 0 or 1, the solutions of the
-- stacked problem stand one to one for the trajectories, with the same costs
abbrev pub SolutionsAreTrajectories : Automaton → Steps → Type 0
SolutionsAreTrajectories A Step = (S : System) (r : Request) (p : Problem) → IsSystem S → IsRequestOf S r → IsStacked S r p →
    Exact A Step S → KeepsKinds A Step → IsOneToOne A Step S r p

-- a solution of least cost stands for a trajectory than which none is cheaper, at that cost
abbrev pub LeastIsCheapest : Automaton → Steps → Type 0
LeastIsCheapest A Step = (S : System) (r : Request) (p : Problem) (v : List Number) → IsOneToOne A Step S r p → StackedSolution p v →
    ((u : List Number) → StackedSolution p u → value p.cost (at v) ≤ₙ value p.cost (at u)) →
    (T : Trajectory) × StandsFor A S v T × IsCheapest A Step S r T × (trajectory_cost A S r T ≡ value p.cost (at v))

-- where every solution costs at least z, every trajectory does
abbrev pub BoundBounds : Automaton → Steps → Type 0
BoundBounds A Step = (S : System) (r : Request) (p : Problem) (z : Number) → IsOneToOne A Step S r p →
    ((u : List Number) → StackedSolution p u → z ≤ₙ value p.cost (at u)) →
    (T : Trajectory) → IsTrajectory A Step r T → z ≤ₙ trajectory_cost A S r T

-- without a solution there is no trajectory
abbrev pub NoneIsNone : Automaton → Steps → Type 0
NoneIsNone A Step = (S : System) (r : Request) (p : Problem) → IsOneToOne A Step S r p →
    ((u : List Number) → StackedSolution p u → ⊥) → (T : Trajectory) → IsTrajectory A Step r T → ⊥

-- a text that stands for a request has no cause to be refused
abbrev pub NoneIsBoth : Type 0
NoneIsBoth = (S : System) (text : List ℕ) (r : Request) (f : RequestFault) → IsTextOf S text r → IsCause S text f → ⊥

-- a text stands for at most one request
abbrev pub StandForOne : Type 0
StandForOne = (S : System) (text : List ℕ) (r s : Request) → IsTextOf S text r → IsTextOf S text s → r ≡ s
