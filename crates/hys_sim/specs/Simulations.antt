-- What a simulation over two tables answers.
use Rattle.std.specs.Prelude.{◌≡◌, ℕ, List, [], ◌∷◌, length}
use Rattle.hys_number.specs.Number.{Number}
use Rattle.hys_prog.specs.declared.program.Program.{Program}
use Rattle.hys_prog.specs.declared.program.Order.{Order}
use Rattle.hys_prog.specs.Steps.{is_state, is_input}
use Rattle.hys_sim.specs.declared.fault.Simulated.{Simulated}
use Rattle.hys_sim.specs.Tables.{role_values}
use Rattle.hys_sim.specs.Runs.{Transition, IsRun}
use Rattle.hys_sim.specs.Written.{run_text}

-- the answer has the text, the number of steps and the stop of a run from x through the inputs
pub record IsRunOf (p : Program) (o : Order) (x : List Number) (us : List (List Number)) (r : Simulated) : Type 0 where
  pub transitions : List Transition
  pub run : IsRun p o x us transitions r.stop
  pub table : r.table ≡ run_text p transitions run.reached
  pub steps : r.steps ≡ length transitions

-- START has one record, with the values of a state, and the answer is of the run from it through INPUTS
pub record IsSimulated (p : Program) (o : Order) (start inputs : List ℕ) (r : Simulated) : Type 0 where
  pub state : List Number
  pub started : role_values is_state p start ≡ state ∷ []
  pub runs : IsRunOf p o state (role_values is_input p inputs) r
