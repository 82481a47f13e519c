-- How a run ends, whatever its command: what it put and printed, and which failures of the outside it met.
use Rattle.std.specs.Prelude.{◌≡◌, ◌≢◌, ℕ, ◌≤◌, List, take, Option, None, Some, Result, IfOk}
use Rattle.std.specs.declared.alloc.AllocError.{AllocError}
use Rattle.hys_io.specs.Outside.{Named, Rose, IfAppended, IfPut, IfTorn}
use Rattle.hys_io.specs.declared.files.Files.{Ghosts as FilesOf}
use Rattle.hys_io.specs.declared.sink.Sink.{Ghosts as SinkOf}
use Rattle.hys_app.specs.declared.status.Status.{Status}
use Rattle.hys_app.specs.declared.status.Status.TheVariants.{Read, Write, Memory}
use Rattle.hys_app.specs.declared.outcome.NewFile.{NewFile}
use Rattle.hys_app.specs.declared.outcome.Outcome.{Outcome}

-- what files and a sink tell at one time
pub record Outside : Type 0 where
  pub held : Option Named
  pub read_faults : ℕ
  pub put_faults : ℕ
  pub written : Option (List ℕ)
  pub faults : ℕ

abbrev pub outside : {A B : Type 0} → FilesOf A → SinkOf B → A → B → Outside
outside F S files out = record {
  held = F.held files;
  read_faults = F.read_faults files;
  put_faults = F.put_faults files;
  written = S.written out;
  faults = S.faults out;
}

-- this holds of what files and a sink tell at two times, one after the other
abbrev pub Between : {A B : Type 0} → FilesOf A → SinkOf B → A → B → A → B → (Outside → Outside → Type 0) → Type 0
Between F S files out files' out' Holds = Holds (outside F S files out) (outside F S files' out')

-- something failed: the count has risen, or stands at its end
abbrev pub Failed : ℕ → ℕ → Type 0
Failed before now = (before ≤ now) × Rose before now

-- ---- files and texts
-- where the files are told: the file stands there whole, and nothing else has changed
abbrev pub IsPut : Option NewFile → Option Named → Option Named → Type 0
IsPut None held held' = held' ≡ held
IsPut (Some file) held held' = IfPut held held' file.name file.bytes

-- where the files are told: nothing has changed, or the file's name alone, which holds a beginning of its bytes
abbrev pub IsTorn : Option NewFile → Option Named → Option Named → Type 0
IsTorn None held held' = held' ≡ held
IsTorn (Some file) held held' = IfTorn held held' file.name file.bytes

-- where the text is told: a beginning of the line was appended
abbrev pub IfPart : Option (List ℕ) → Option (List ℕ) → List ℕ → Type 0
IfPart old new line = (n : ℕ) × IfAppended old new (take n line)

-- nothing is put or printed, and no failure of a put or of the sink is met
pub record IsUntouched (old new : Outside) : Type 0 where
  pub held : new.held ≡ old.held
  pub put_faults : new.put_faults ≡ old.put_faults
  pub written : new.written ≡ old.written
  pub faults : new.faults ≡ old.faults

-- the outcome's file is put, if it has one, and its line is not printed yet
pub record IsFilePut (o : Outcome) (old new : Outside) : Type 0 where
  pub put : IsPut o.file old.held new.held
  pub put_faults : new.put_faults ≡ old.put_faults

-- ---- how an outcome is carried out
-- First the file is put, then the line is printed. Either may fail, and then nothing follows it.
pub data IsCarriedOut (o : Outcome) (result : Status) (old new : Outside) : Type 0 where
  -- no memory for the put
  unput : result ≡ Memory → IsUntouched old new → IsCarriedOut o result old new
  -- the put fails: the file may be torn, and nothing is printed
  torn : result ≡ Write → IsTorn o.file old.held new.held → Failed old.put_faults new.put_faults →
      new.written ≡ old.written → new.faults ≡ old.faults → IsCarriedOut o result old new
  -- the sink fails: the file stands, and a part of the line is printed
  cut : result ≡ Write → IsFilePut o old new → IfPart old.written new.written o.line → Failed old.faults new.faults → IsCarriedOut o result old new
  -- no memory for printing, likewise
  short : result ≡ Memory → IsFilePut o old new → IfPart old.written new.written o.line → new.faults ≡ old.faults → IsCarriedOut o result old new
  -- the file stands and the line is printed
  whole : result ≡ o.status → IsFilePut o old new → IfAppended old.written new.written o.line → new.faults ≡ old.faults → IsCarriedOut o result old new

-- ---- how a run ends
-- A read failed exactly where the outcome says so, and then it puts nothing. The statuses of what fails later are not its own.
pub record IsAfterReads (o : Outcome) (read_faults read_faults' : ℕ) : Type 0 where
  pub failed : o.status ≡ Read → Failed read_faults read_faults'
  pub unput : o.status ≡ Read → o.file ≡ None
  pub calm : o.status ≢ Read → read_faults' ≡ read_faults
  pub not_write : o.status ≢ Write
  pub not_memory : o.status ≢ Memory

-- a command with these lawful outcomes comes to this one
pub record IsReached (Lawful : Outcome → Type 0) (o : Outcome) (read_faults read_faults' : ℕ) : Type 0 where
  pub lawful : Lawful o
  pub reads : IsAfterReads o read_faults read_faults'

-- a call that reads files comes to an outcome that is lawful for what they hold, unless memory is wanting
abbrev pub Reaches : {A : Type 0} → FilesOf A → A → A → (Option Named → Outcome → Type 0) → Result Outcome AllocError →
    Type 0
Reaches F files files' Lawful answer =
    IfOk answer (λ o. IsReached (Lawful (F.held files)) o (F.read_faults files) (F.read_faults files'))

-- A run of a command with these lawful outcomes ends in one of two ways.
pub data Ends (Lawful : Outcome → Type 0) (result : Status) (old new : Outside) : Type 0 where
  -- no memory to come to an outcome
  unmade : result ≡ Memory → old.read_faults ≤ new.read_faults → IsUntouched old new → Ends Lawful result old new
  -- an outcome is carried out
  reached : (o : Outcome) → IsReached Lawful o old.read_faults new.read_faults → IsCarriedOut o result old new → Ends Lawful result old new

-- ---- what follows from how an outcome is carried out
-- this holds wherever an outcome is carried out
abbrev pub IfCarriedOut : (Outcome → Status → Outside → Outside → Type 0) → Type 0
IfCarriedOut Holds =
    (o : Outcome) (result : Status) (old new : Outside) → IsCarriedOut o result old new → Holds o result old new

-- this holds wherever carrying out an outcome ends with a status that isn't the outcome's own
abbrev pub IfEndsWith : Status → (Outcome → Outside → Outside → Type 0) → Type 0
IfEndsWith status Holds =
    (o : Outcome) (old new : Outside) → o.status ≢ status → IsCarriedOut o status old new → Holds o old new

-- all is done: the status is the outcome's own, its file is put and its line is printed
abbrev pub IsDone : Outcome → Status → Outside → Outside → Type 0
IsDone o result old new =
    (result ≡ o.status) × IsPut o.file old.held new.held × IfAppended old.written new.written o.line

-- the status is that of a failing put or print, and nothing is printed
abbrev pub IsUnprinted : Status → Outside → Outside → Type 0
IsUnprinted result old new = (result ≡ Write) × (new.written ≡ old.written)

-- a read failed before the outcome was come to
abbrev pub HasFailedRead : Outcome → Outside → Outside → Type 0
HasFailedRead o old new = IsAfterReads o old.read_faults new.read_faults × (new.read_faults ≢ old.read_faults)
