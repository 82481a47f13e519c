-- The lawful outcomes of each command.
use Rattle.std.specs.Prelude.{◌≡◌, ℕ, List, String, Option, None, Some, Result}
use Rattle.std.specs.Global.{Global}
use Rattle.std.specs.declared.alloc.AllocError.{AllocError}
use Rattle.hys_io.specs.Outside.{Named}
use Rattle.hys_io.specs.declared.files.Files.{Ghosts as FilesOf}
use Rattle.hys_app.specs.Statuses.{number_of}
use Rattle.hys_app.specs.Words.{Command, compile, sim, plan, check, demo, migrate, form_of, texts_of}
use Rattle.hys_app.specs.Ends.{Outside, Ends, Reaches}
use Rattle.hys_app.specs.Lines.{usage_line}
use Rattle.hys_app.specs.Stages.{saying}
use Rattle.hys_app.specs.Compiling.{IsCompileOutcome}
use Rattle.hys_app.specs.Migrating.{IsMigrateOutcome}
use Rattle.hys_app.specs.Simulating.{IsSimOutcome}
use Rattle.hys_app.specs.Planning.{IsPlanOutcome}
use Rattle.hys_app.specs.Checking.{IsCheckOutcome}
use Rattle.hys_app.specs.Demonstrating.{IsDemo}
use Rattle.hys_app.specs.declared.status.Status.{Status}
use Rattle.hys_app.specs.declared.status.Status.TheVariants.{Usage}
use Rattle.hys_app.specs.declared.outcome.Outcome.{Outcome}

-- the words match no form
abbrev pub IsUsage : Outcome → Type 0
IsUsage o = o ≡ saying Usage usage_line

-- of a command, where the files hold this before it
abbrev pub IsOutcomeOf : Option Named → Option Command → Outcome → Type 0
IsOutcomeOf held None = IsUsage
IsOutcomeOf held (Some (compile source target tolerance)) = IsCompileOutcome tolerance held source target
IsOutcomeOf held (Some (sim source start inputs target tolerance)) =
    IsSimOutcome tolerance held source start inputs target
IsOutcomeOf held (Some (plan source request target tolerance)) = IsPlanOutcome tolerance held source request target
IsOutcomeOf held (Some (check matrices request answer)) = IsCheckOutcome held matrices request answer
IsOutcomeOf held (Some (demo k)) = IsDemo k
IsOutcomeOf held (Some (migrate old new)) = IsMigrateOutcome held old new

-- ---- calls
-- a call that reads files comes to a lawful outcome of the command that is asked for, or of none
abbrev pub Concludes : {A : Type 0} → FilesOf A → A → A → Option Command → Result Outcome AllocError → Type 0
Concludes F files files' asked = Reaches F files files' (λ held. IsOutcomeOf held asked)

-- a call that reads files comes to a lawful outcome of the command
abbrev pub Obeys : {A : Type 0} → FilesOf A → A → A → Command → Result Outcome AllocError → Type 0
Obeys F files files' command = Concludes F files files' (Some command)

-- a run of the command that the words ask for ends so
abbrev pub EndsFor : List (String Global) → Status → Outside → Outside → Type 0
EndsFor words result old new = Ends (IsOutcomeOf old.held (form_of (texts_of words))) result old new

-- a run of the command that the words ask for ends with this exit status
abbrev pub ExitsFor : List (String Global) → ℕ → Outside → Outside → Type 0
ExitsFor words number old new = (status : Status) × (number ≡ number_of status) × EndsFor words status old new
