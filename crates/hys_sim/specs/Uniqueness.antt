-- That a program has one run.
use Rattle.std.specs.Prelude.{◌≡◌, List, Option, length}
use Rattle.std.specs.List.{AllByRecursion}
use Rattle.hys_number.specs.Number.{Number}
use Rattle.hys_prog.specs.declared.program.Program.{Program}
use Rattle.hys_prog.specs.declared.program.Order.{Order}
use Rattle.hys_prog.specs.declared.stop.Stop.{Stop}
use Rattle.hys_prog.specs.Steps.{places, is_state, is_input}
use Rattle.hys_sim.specs.Runs.{Transition, IsRun}

-- two runs have the same transitions, whose assignments count by their auxiliaries, the same end and the same stop
pub record AreSameRuns (p : Program) (o : Order) (x : List Number) (us : List (List Number))
    (ts ss : List Transition) (a b : Option Stop) (r : IsRun p o x us ts a) (s : IsRun p o x us ss b) : Type 0 where
  pub transitions : ts ≡ ss
  pub reached : r.reached ≡ s.reached
  pub stop : a ≡ b

-- there is one run from as many values as there are states, through as many as there are inputs
abbrev pub HasOneRun : Program → Order → Type 0
HasOneRun p o =
    (x : List Number) (us : List (List Number)) → length x ≡ length (places is_state p) →
    AllByRecursion (λ u. length u ≡ length (places is_input p)) us →
    (ts ss : List Transition) (a b : Option Stop) (r : IsRun p o x us ts a) (s : IsRun p o x us ss b) →
    AreSameRuns p o x us ts ss a b r s
