-- Tables as stages, and the lawful outcomes of `sim SRC START INPUTS OUT`.
use Rattle.std.specs.Prelude.{◌≡◌, ℕ, ◌*◌, List, codes, Option, None, Some, Result}
use Rattle.std.specs.declared.alloc.AllocError.{AllocError}
use Rattle.hys_io.specs.Outside.{Named}
use Rattle.hys_io.specs.declared.files.Files.{Ghosts as FilesOf}
use Rattle.hys_number.specs.Number.{Number}
use Rattle.hys_prog.specs.declared.program.Program.{Program}
use Rattle.hys_prog.specs.declared.stop.Stop.{Stop}
use Rattle.hys_prog.specs.declared.stop.Stop.TheVariants.{Bounds, Gap, Must}
use Rattle.hys_prog.specs.declared.stop.Stop.TheVariants.{Range as Overflow}
use Rattle.hys_sim.specs.Checks.{first_fault}
use Rattle.hys_sim.specs.Tables.{table_checks}
use Rattle.hys_sim.specs.Simulations.{IsSimulated}
use Rattle.hys_sim.specs.declared.fault.SimFault.{SimFault}
use Rattle.hys_sim.specs.declared.fault.Simulated.{Simulated}
use Rattle.hys_compile.specs.declared.compiler.Compiled.{Compiled}
use Rattle.hys_app.specs.Lines.{read_line, file_line, table_words, faulty_table, run_line}
use Rattle.hys_app.specs.Ends.{Reaches}
use Rattle.hys_app.specs.Stages.{saying, putting, After, ComesTo, AreBytes, IsLong}
use Rattle.hys_app.specs.Compiling.{AfterSource}
use Rattle.hys_app.specs.declared.stage.Stage.{Stage}
use Rattle.hys_app.specs.declared.status.Status.{Status}
use Rattle.hys_app.specs.declared.status.Status.TheVariants.{Done, Read, Input, Stopped, Range}
use Rattle.hys_app.specs.declared.outcome.Outcome.{Outcome}

-- ---- a table
abbrev pub most_bytes : ℕ
most_bytes = 64 * 1048576

-- The command ends at a table: it can't be read, or is longer than its limit.
pub data IsTableEnd (held : Option Named) (name : List ℕ) : Outcome → Type 0 where
  unread : IsTableEnd held name (saying Read (read_line name))
  long : IsLong held name most_bytes → IsTableEnd held name (saying Input (file_line name (codes "limit bytes")))

-- where the files are told, these are the bytes of the table; and they are within the limit
abbrev pub IsTable : Option Named → List ℕ → List ℕ → Type 0
IsTable held name bytes = AreBytes held name most_bytes (Some bytes)

-- a call that reads the table
abbrev pub ReadsTable : {A : Type 0} → FilesOf A → A → A → List ℕ → Result (Stage (List ℕ)) AllocError → Type 0
ReadsTable F files files' name = ComesTo F files files' (λ held. IsTableEnd held name) (λ held. IsTable held name)

abbrev pub AfterTable : Option Named → List ℕ → (List ℕ → Outcome → Type 0) → Outcome → Type 0
AfterTable held name = After (IsTableEnd held name) (IsTable held name)

-- ---- a run
-- what a run ends with: the end of its inputs, a step that isn't legal, or a number that doesn't fit
abbrev pub run_status : Option Stop → Status
run_status None = Done
run_status (Some (Bounds n)) = Stopped
run_status (Some (Gap k)) = Stopped
run_status (Some (Must k)) = Stopped
run_status (Some (Overflow k lost)) = Range

-- the table of a run is put under the target, and the line says how the run went
abbrev pub putting_run : List ℕ → Program → Simulated → Outcome
putting_run target p r = putting target r.table (run_status r.stop) (run_line p r.steps r.stop)

-- the table that has the fault is refused, the start's or the inputs'
abbrev pub refusing_table : List ℕ → List ℕ → SimFault → Outcome
refusing_table start inputs fault = saying Input (file_line (faulty_table fault start inputs) (table_words fault))

-- The tables with these bytes are refused for the first thing that is wrong in them; or they stand for a run of the
-- program, of which there is one, and its table is put.
pub data IsRunOutcome (c : Compiled) (start inputs target first others : List ℕ) : Outcome → Type 0 where
  refused : (fault : SimFault) → first_fault (table_checks c.program first others) ≡ Some fault →
      IsRunOutcome c start inputs target first others (refusing_table start inputs fault)
  run : (r : Simulated) → first_fault (table_checks c.program first others) ≡ None →
      IsSimulated c.program c.order first others r →
      IsRunOutcome c start inputs target first others (putting_run target c.program r)

-- ---- `sim SRC START INPUTS OUT`
-- The source is compiled, the two tables are read, and then the first of them is judged whole before the second.
abbrev pub IsInputsOutcome : Option Named → Compiled → List ℕ → List ℕ → List ℕ → List ℕ → Outcome → Type 0
IsInputsOutcome held c start inputs target first =
    AfterTable held inputs (λ others. IsRunOutcome c start inputs target first others)

-- a call that reads the table of the inputs, and runs the program from the table of the start with these bytes
abbrev pub RunsInputs : {A : Type 0} → FilesOf A → A → A → Compiled → List ℕ → List ℕ → List ℕ → List ℕ →
    Result Outcome AllocError → Type 0
RunsInputs F files files' c start inputs target first =
    Reaches F files files' (λ held. IsInputsOutcome held c start inputs target first)

abbrev pub IsTablesOutcome : Option Named → Compiled → List ℕ → List ℕ → List ℕ → Outcome → Type 0
IsTablesOutcome held c start inputs target =
    AfterTable held start (λ first. IsInputsOutcome held c start inputs target first)

-- a call that reads the two tables, and runs the program over them
abbrev pub RunsTables : {A : Type 0} → FilesOf A → A → A → Compiled → List ℕ → List ℕ → List ℕ →
    Result Outcome AllocError → Type 0
RunsTables F files files' c start inputs target =
    Reaches F files files' (λ held. IsTablesOutcome held c start inputs target)

abbrev pub IsSimOutcome : Number → Option Named → List ℕ → List ℕ → List ℕ → List ℕ → Outcome → Type 0
IsSimOutcome tolerance held source start inputs target =
    AfterSource tolerance held source (λ c. IsTablesOutcome held c start inputs target)
