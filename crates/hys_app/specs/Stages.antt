-- The stages of a command: each ends the command with its outcome, or goes on with what it has read.
use Rattle.std.specs.Prelude.{◌≡◌, ℕ, ◌<◌, ◌≤◌, List, length, Option, None, Some, Result, IfOk}
use Rattle.std.specs.declared.alloc.AllocError.{AllocError}
use Rattle.hys_io.specs.Outside.{Named, IfHolds}
use Rattle.hys_io.specs.declared.files.Files.{Ghosts as FilesOf}
use Rattle.hys_app.specs.Ends.{IsReached}
use Rattle.hys_app.specs.Lines.{read_line}
use Rattle.hys_app.specs.declared.status.Status.{Status}
use Rattle.hys_app.specs.declared.status.Status.TheVariants.{Read}
use Rattle.hys_app.specs.declared.outcome.Outcome.{Outcome}
use Rattle.hys_app.specs.declared.stage.Stage.{Stage}
use Rattle.hys_app.specs.declared.stage.Stage.TheVariants.{End, Next}

-- ---- outcomes
-- a line alone
abbrev pub saying : Status → List ℕ → Outcome
saying status line = record { status = status; line = line; file = None }

-- a file, and then a line
abbrev pub putting : List ℕ → List ℕ → Status → List ℕ → Outcome
putting name bytes status line =
    record { status = status; line = line; file = Some (record { name = name; bytes = bytes }) }

-- ---- stages
-- the outcome of a stage that ends the command, or of what follows it where it goes on
pub data After {T : Type 0} (Ends : Outcome → Type 0) (Is : T → Type 0) (Follows : T → Outcome → Type 0) :
    Outcome → Type 0 where
  ended : (o : Outcome) → Ends o → After Ends Is Follows o
  followed : (x : T) (o : Outcome) → Is x → Follows x o → After Ends Is Follows o

-- a stage ends the command with a lawful outcome, or goes on with what is so, no read having failed
abbrev pub IsStage : {T : Type 0} → (Outcome → Type 0) → (T → Type 0) → ℕ → ℕ → Stage T → Type 0
IsStage Ends Is reads reads' (End o) = IsReached Ends o reads reads'
IsStage Ends Is reads reads' (Next x) = Is x × (reads' ≡ reads)

-- a call that reads files comes to a stage that is so for what they hold, unless memory is wanting
abbrev pub ComesTo : {A T : Type 0} → FilesOf A → A → A → (Option Named → Outcome → Type 0) →
    (Option Named → T → Type 0) → Result (Stage T) AllocError → Type 0
ComesTo F files files' Ends Is answer =
    IfOk answer (IsStage (Ends (F.held files)) (Is (F.held files)) (F.read_faults files) (F.read_faults files'))

-- ---- files that are read
-- where the files are told, the bytes are those of the file
abbrev pub IsWhole : Option Named → List ℕ → List ℕ → Type 0
IsWhole held name bytes = IfHolds held name (λ file. bytes ≡ file)

-- where the files are told, the file is longer than its limit
abbrev pub IsLong : Option Named → List ℕ → ℕ → Type 0
IsLong held name limit = IfHolds held name (λ file. limit < length file)

-- the file can't be read
abbrev pub IsUnread : List ℕ → Outcome → Type 0
IsUnread name o = o ≡ saying Read (read_line name)

-- all bytes of a file, or none where it is longer than its limit
abbrev pub AreBytes : Option Named → List ℕ → ℕ → Option (List ℕ) → Type 0
AreBytes held name limit None = IsLong held name limit
AreBytes held name limit (Some bytes) = IsWhole held name bytes × (length bytes ≤ limit)

-- a call that reads the bytes of a file, where it isn't longer than its limit
abbrev pub ReadsBytes : {A : Type 0} → FilesOf A → A → A → List ℕ → ℕ → Result (Stage (Option (List ℕ))) AllocError →
    Type 0
ReadsBytes F files files' name limit =
    ComesTo F files files' (λ held. IsUnread name) (λ held. AreBytes held name limit)
