-- The source as a stage, and the lawful outcomes of `compile SRC MLD`.
use Rattle.std.specs.Prelude.{◌≡◌, ◌≢◌, ℕ, List, Option, Some, Result}
use Rattle.std.specs.FinMap as map
use Rattle.std.specs.declared.alloc.AllocError.{AllocError}
use Rattle.hys_io.specs.Outside.{Named, IfHolds}
use Rattle.hys_io.specs.declared.files.Files.{Ghosts as FilesOf}
use Rattle.hys_number.specs.Number.{Number}
use Rattle.hys_file.specs.Matrix.{matrix_text}
use Rattle.hys_sys.specs.declared.system.System.{System}
use Rattle.hys_compile.specs.declared.compiler.Compiled.{Compiled}
use Rattle.hys_compile.specs.declared.fault.SourceFault.{SourceFault}
use Rattle.hys_compile.specs.Faults.{no_memory}
use Rattle.hys_compile.specs.Text.{IsCause, IsCompiled, IsCompilable}
use Rattle.hys_app.specs.Lines.{read_line, refused_line, compiled_line}
use Rattle.hys_app.specs.Stages.{saying, putting, After, ComesTo, IsWhole}
use Rattle.hys_app.specs.declared.stage.Stage.{Stage}
use Rattle.hys_app.specs.declared.stage.Stage.TheVariants.{End, Next}
use Rattle.hys_app.specs.declared.status.Status.TheVariants.{Done, Read, Source}
use Rattle.hys_app.specs.declared.outcome.Outcome.{Outcome}

-- ---- the source, at the tolerance of guards without one of their own
-- where the files are told: the fault is a cause to refuse the bytes of the source
abbrev pub CausedBy : Number → Option Named → List ℕ → SourceFault → Type 0
CausedBy tolerance held source fault = IfHolds held source (λ file. IsCause tolerance file fault)

-- the files are told, and the bytes of the source are a text that can be compiled
pub record HoldsCompilable (tolerance : Number) (held : Option Named) (source : List ℕ) : Type 0 where
  pub files : Named
  pub file : List ℕ
  pub told : held ≡ Some files
  pub there : map.get files source ≡ Some file
  pub compilable : IsCompilable tolerance file

-- The command ends at the source: it can't be read; or it is refused by a fault that it has, which is no want of
-- memory, and never if it can be compiled.
pub data IsSourceEnd (tolerance : Number) (held : Option Named) (source : List ℕ) : Outcome → Type 0 where
  unread : IsSourceEnd tolerance held source (saying Read (read_line source))
  refused : (fault : SourceFault) → CausedBy tolerance held source fault → fault ≢ no_memory →
      ¬ (HoldsCompilable tolerance held source) → IsSourceEnd tolerance held source (saying Source (refused_line fault))

-- what is compiled is that of the accepted source with the bytes that, where the files are told, the source has
pub record CompiledFrom (tolerance : Number) (held : Option Named) (source : List ℕ) (c : Compiled) : Type 0 where
  pub text : List ℕ
  pub whole : IsWhole held source text
  pub compiled : IsCompiled tolerance text c

-- a call that reads the source and compiles it
abbrev pub ReadsSource : {A : Type 0} → FilesOf A → A → A → Number → List ℕ → Result (Stage Compiled) AllocError →
    Type 0
ReadsSource F files files' tolerance source =
    ComesTo F files files' (λ held. IsSourceEnd tolerance held source) (λ held. CompiledFrom tolerance held source)

-- ---- a text that was read
-- it is refused by a fault that it has, and never if it can be compiled
pub data IsTextEnd (tolerance : Number) (text : List ℕ) : Outcome → Type 0 where
  faulty : (fault : SourceFault) → IsCause tolerance text fault → fault ≢ no_memory →
      ¬ (IsCompilable tolerance text) → IsTextEnd tolerance text (saying Source (refused_line fault))

-- or it is compiled
abbrev pub IsTextStage : Number → List ℕ → Stage Compiled → Type 0
IsTextStage tolerance text (End o) = IsTextEnd tolerance text o
IsTextStage tolerance text (Next c) = IsCompiled tolerance text c

-- ---- what follows
-- the source is compiled, and then this holds of the outcome
abbrev pub AfterSource : Number → Option Named → List ℕ → (Compiled → Outcome → Type 0) → Outcome → Type 0
AfterSource tolerance held source = After (IsSourceEnd tolerance held source) (CompiledFrom tolerance held source)

-- ---- `compile SRC MLD`
-- the matrix text of a system under the target, and the line that counts its columns and rows
abbrev pub IsPutFor : System → List ℕ → Outcome → Type 0
IsPutFor system target o = o ≡ putting target (matrix_text system) Done (compiled_line system)

abbrev pub IsCompileOutcome : Number → Option Named → List ℕ → List ℕ → Outcome → Type 0
IsCompileOutcome tolerance held source target = AfterSource tolerance held source (λ c. IsPutFor c.system target)
