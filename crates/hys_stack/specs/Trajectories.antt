-- Trajectories and their costs, over any relation of legal steps, and what it is that the solutions of a stacked
-- problem stand one to one for them. Nothing here speaks of how a problem is stacked.
use Rattle.std.specs.Prelude.{◌≡◌, ℕ, zero, suc, ◌+◌, ◌-◌, List, [], ◌∷◌, ◌++◌, length}
use Rattle.hys_number.specs.Number.{Number}
use Rattle.hys_number.specs.Ops.{◌+ₙ◌, ◌*ₙ◌, ◌≤ₙ◌, whole}
use Rattle.hys_lin.specs.Sums.{at, value, Within}
use Rattle.hys_lin.specs.declared.problem.Problem.{Problem}
use Rattle.hys_sys.specs.Solution.{IsOfKind}
use Rattle.hys_sys.specs.Exact.{Automaton, Boxed, Named, Steps, AreIn, bools, reals, values}
use Rattle.hys_sys.specs.declared.system.System.{System}
use Rattle.hys_relax.specs.Node.{StackedSolution}
use Rattle.hys_stack.specs.declared.request.Request.{Request}

-- ---- trajectories
-- a step of a trajectory: its state, its input, the numbers of the names, and the outputs
pub record Stage : Type 0 where
  pub state : List Number
  pub input : List Number
  pub named : Named
  pub outputs : List Number

-- the steps, and the state after the last of them
pub record Trajectory : Type 0 where
  pub stages : List Stage
  pub last : List Number

-- the state at the first of the stages
abbrev pub first_state : List Stage → List Number → List Number
first_state [] last = last
first_state (s ∷ ss) last = s.state

-- each stage is a legal step to the state of the next one, from a state and an input in their boxes
abbrev pub AreLegal : Automaton → Steps → List Stage → List Number → Type 0
AreLegal A Step [] last = Unit {0}
AreLegal A Step (s ∷ ss) last =
    (AreIn A.states s.state × AreIn A.inputs s.input × Step s.state s.input s.named (first_state ss last) s.outputs)
    × AreLegal A Step ss last

-- a number for each state, in its box
abbrev pub AreWithin : List Boxed → List Number → Type 0
AreWithin [] [] = Unit {0}
AreWithin [] (a ∷ as') = ⊥
AreWithin (d ∷ ds) [] = ⊥
AreWithin (d ∷ ds) (a ∷ as') = Within d.box a × AreWithin ds as'

-- from the start, over as many legal steps as the request's horizon, to a state in its box
pub record IsTrajectory (A : Automaton) (Step : Steps) (r : Request) (T : Trajectory) : Type 0 where
  pub long : length T.stages ≡ r.horizon
  pub start : first_state T.stages T.last ≡ r.start
  pub legal : AreLegal A Step T.stages T.last
  pub ends : AreWithin A.states T.last

-- the same states, inputs, auxiliaries and outputs; what else an assignment gives a number to doesn't count
pub record IsSameStage (A : Automaton) (s s' : Stage) : Type 0 where
  pub state : s.state ≡ s'.state
  pub input : s.input ≡ s'.input
  pub auxiliaries : values s.named A.auxiliaries ≡ values s'.named A.auxiliaries
  pub outputs : s.outputs ≡ s'.outputs

abbrev pub AreSameStages : Automaton → List Stage → List Stage → Type 0
AreSameStages A [] [] = Unit {0}
AreSameStages A [] (s' ∷ ss') = ⊥
AreSameStages A (s ∷ ss) [] = ⊥
AreSameStages A (s ∷ ss) (s' ∷ ss') = IsSameStage A s s' × AreSameStages A ss ss'

pub record IsSameTrajectory (A : Automaton) (T T' : Trajectory) : Type 0 where
  pub stages : AreSameStages A T.stages T'.stages
  pub last : T.last ≡ T'.last

-- ---- cost
-- the sum of weight times number, place by place
abbrev pub products : List Number → List Number → Number
products [] as' = whole 0
products (w ∷ ws) [] = whole 0
products (w ∷ ws) (a ∷ as') = w *ₙ a +ₙ products ws as'

-- so many zeros
abbrev pub zeros : ℕ → List Number
zeros zero = []
zeros (suc n) = whole 0 ∷ zeros n

-- the number of columns that stand for no name
abbrev pub fresh_count : Automaton → System → ℕ
fresh_count A S = length S.columns - (length A.states + length A.inputs + length A.auxiliaries)

-- the numbers of a stage in the order of the columns; a fresh column has no weight, and counts as 0
abbrev pub stage_numbers : Automaton → System → Stage → List Number
stage_numbers A S s = (s.state ++ s.input) ++ values s.named (bools A) ++ zeros (fresh_count A S) ++ values s.named (reals A)

-- the weights times the states, inputs and auxiliaries, and the outputs
abbrev pub stage_cost : Automaton → System → Request → Stage → Number
stage_cost A S r s = products r.step_cost (stage_numbers A S s) +ₙ products r.output_cost s.outputs

abbrev pub stages_cost : Automaton → System → Request → List Stage → Number
stages_cost A S r [] = whole 0
stages_cost A S r (s ∷ ss) = stage_cost A S r s +ₙ stages_cost A S r ss

-- the sum over the steps, and the final weights times the last state
abbrev pub trajectory_cost : Automaton → System → Request → Trajectory → Number
trajectory_cost A S r T = stages_cost A S r T.stages +ₙ products r.final_cost T.last

-- ---- solutions and trajectories
-- the numbers are those of the stages, each with some numbers of its fresh columns, and then those of the last state
abbrev pub AreNumbersOf : Automaton → System → List Stage → List Number → List Number → Type 0
AreNumbersOf A S [] last v = v ≡ last
AreNumbersOf A S (s ∷ ss) last v = (fresh : List Number) × (rest : List Number)
    × (length fresh ≡ fresh_count A S)
    × (v ≡ ((s.state ++ s.input) ++ values s.named (bools A) ++ fresh ++ values s.named (reals A)) ++ rest)
    × AreNumbersOf A S ss last rest

abbrev pub StandsFor : Automaton → System → List Number → Trajectory → Type 0
StandsFor A S v T = AreNumbersOf A S T.stages T.last v

-- The solutions of the problem stand one to one for the trajectories, and the costs are the same.
pub record IsOneToOne (A : Automaton) (Step : Steps) (S : System) (r : Request) (p : Problem) : Type 0 where
  pub solution : (T : Trajectory) → IsTrajectory A Step r T → (v : List Number) × StackedSolution p v × StandsFor A S v T
  pub trajectory : (v : List Number) → StackedSolution p v → (T : Trajectory) × IsTrajectory A Step r T × StandsFor A S v T
  pub one_solution : (v v' : List Number) (T : Trajectory) → StackedSolution p v → StackedSolution p v' → IsTrajectory A Step r T →
      StandsFor A S v T → StandsFor A S v' T → v ≡ v'
  pub one_trajectory : (v : List Number) (T T' : Trajectory) → StackedSolution p v → IsTrajectory A Step r T → IsTrajectory A Step r T' →
      StandsFor A S v T → StandsFor A S v T' → IsSameTrajectory A T T'
  pub cost : (v : List Number) (T : Trajectory) → StackedSolution p v → IsTrajectory A Step r T → StandsFor A S v T →
      value p.cost (at v) ≡ trajectory_cost A S r T

-- a number for each state, 0 or 1 where it is Boolean
abbrev pub AreOfKinds : List Boxed → List Number → Type 0
AreOfKinds [] [] = Unit {0}
AreOfKinds [] (a ∷ as') = ⊥
AreOfKinds (d ∷ ds) [] = ⊥
AreOfKinds (d ∷ ds) (a ∷ as') = IsOfKind d.kind a × AreOfKinds ds as'

-- the next state of a legal step has 0 or 1 in its Boolean states
abbrev pub KeepsKinds : Automaton → Steps → Type 0
KeepsKinds A Step = (x u : List Number) (w : Named) (x' y : List Number) → Step x u w x' y → AreOfKinds A.states x'

-- ---- what follows
-- a trajectory than which none is cheaper
pub record IsCheapest (A : Automaton) (Step : Steps) (S : System) (r : Request) (T : Trajectory) : Type 0 where
  pub is_one : IsTrajectory A Step r T
  pub least : (T' : Trajectory) → IsTrajectory A Step r T' → trajectory_cost A S r T ≤ₙ trajectory_cost A S r T'
