-- A matrix text as a stage, and the lawful outcomes of `migrate OLD NEW`.
use Rattle.std.specs.Prelude.{◌≡◌, ℕ, List, Option, Some, Result}
use Rattle.std.specs.FinMap as map
use Rattle.std.specs.declared.alloc.AllocError.{AllocError}
use Rattle.hys_io.specs.Outside.{Named, IfHolds}
use Rattle.hys_io.specs.declared.files.Files.{Ghosts as FilesOf}
use Rattle.hys_sys.specs.System.{IsSystem}
use Rattle.hys_file.specs.Matrix.{matrix_text}
use Rattle.hys_sys.specs.declared.system.System.{System}
use Rattle.hys_file.specs.declared.fault.FileFault.{FileFault}
use Rattle.hys_file.specs.Texts.{IsCause, IsTextOf}
use Rattle.hys_app.specs.Lines.{read_line, file_line, file_words, migrated_line}
use Rattle.hys_app.specs.Stages.{saying, putting, After, ComesTo, IsWhole}
use Rattle.hys_app.specs.declared.stage.Stage.{Stage}
use Rattle.hys_app.specs.declared.stage.Stage.TheVariants.{End, Next}
use Rattle.hys_app.specs.declared.status.Status.TheVariants.{Done, Read, Input}
use Rattle.hys_app.specs.declared.outcome.Outcome.{Outcome}

-- ---- the matrix text
-- the files are told, and the bytes of the file stand for a system
pub record HoldsSystem (held : Option Named) (name : List ℕ) : Type 0 where
  pub files : Named
  pub file : List ℕ
  pub system : System
  pub told : held ≡ Some files
  pub there : map.get files name ≡ Some file
  pub stands : IsTextOf file system

-- The command ends at the matrix text: it can't be read; or it is refused for a cause that it has, and never if it
-- stands for a system.
pub data IsMatrixEnd (held : Option Named) (name : List ℕ) : Outcome → Type 0 where
  unread : IsMatrixEnd held name (saying Read (read_line name))
  refused : (fault : FileFault) → IfHolds held name (λ file. IsCause file fault) → ¬ (HoldsSystem held name) →
      IsMatrixEnd held name (saying Input (file_line name (file_words fault)))

-- the system is lawful, and that of the matrix text with the bytes that, where the files are told, the file has
pub record SystemFrom (held : Option Named) (name : List ℕ) (s : System) : Type 0 where
  pub text : List ℕ
  pub whole : IsWhole held name text
  pub stands : IsTextOf text s
  pub lawful : IsSystem s

-- a call that reads the matrix text as its system
abbrev pub ReadsMatrices : {A : Type 0} → FilesOf A → A → A → List ℕ → Result (Stage System) AllocError → Type 0
ReadsMatrices F files files' name =
    ComesTo F files files' (λ held. IsMatrixEnd held name) (λ held. SystemFrom held name)

-- ---- a text that was read
-- it is refused for a cause that it has, and never if it stands for a system
pub data IsMatrixTextEnd (name text : List ℕ) : Outcome → Type 0 where
  faulty : (fault : FileFault) → IsCause text fault → ((s : System) → ¬ (IsTextOf text s)) →
      IsMatrixTextEnd name text (saying Input (file_line name (file_words fault)))

-- or it stands for the system
abbrev pub IsMatrixStage : List ℕ → List ℕ → Stage System → Type 0
IsMatrixStage name text (End o) = IsMatrixTextEnd name text o
IsMatrixStage name text (Next s) = IsSystem s × IsTextOf text s

-- ---- what follows
abbrev pub AfterMatrices : Option Named → List ℕ → (System → Outcome → Type 0) → Outcome → Type 0
AfterMatrices held name = After (IsMatrixEnd held name) (SystemFrom held name)

-- ---- `migrate OLD NEW`
-- the matrix text of the newest version, and the line that counts its rows
abbrev pub IsMigratedTo : List ℕ → System → Outcome → Type 0
IsMigratedTo target s o = o ≡ putting target (matrix_text s) Done (migrated_line s)

abbrev pub IsMigrateOutcome : Option Named → List ℕ → List ℕ → Outcome → Type 0
IsMigrateOutcome held old target = AfterMatrices held old (IsMigratedTo target)
