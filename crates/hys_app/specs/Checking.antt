-- An answer as a stage, and the lawful outcomes of `check MLD REQ ANS`.
use Rattle.std.specs.Prelude.{◌≡◌, ◌↔◌, ℕ, ◌≤◌, List, length, Option, Some, Result}
use Rattle.std.specs.FinMap as map
use Rattle.std.specs.declared.alloc.AllocError.{AllocError}
use Rattle.hys_io.specs.Outside.{Named, IfHolds}
use Rattle.hys_io.specs.declared.files.Files.{Ghosts as FilesOf}
use Rattle.hys_lin.specs.declared.problem.Problem.{Problem}
use Rattle.hys_sys.specs.declared.system.System.{System}
use Rattle.hys_file.specs.declared.fault.FileFault.{FileFault}
use Rattle.hys_stack.specs.declared.request.Request.{Request}
use Rattle.hys_tree.specs.declared.answer.Answer.{Answer}
use Rattle.hys_tree.specs.Multiplied.{AreMultiplied}
use Rattle.hys_check.specs.Verdict.{IsShown, verdict_of}
use Rattle.hys_check.specs.declared.verdict.Verdict.{Verdict}
use Rattle.hys_check.specs.declared.verdict.Verdict.TheVariants.{Yes, No}
use Rattle.hys_answer.specs.Reading.{most_places}
use Rattle.hys_answer.specs.Texts.{IsAnswerText, IsAnswerCause}
use Rattle.hys_app.specs.Lines.{read_line, file_line, file_words, verdict_line}
use Rattle.hys_app.specs.Ends.{Reaches}
use Rattle.hys_app.specs.Stages.{saying, After, ComesTo, IsWhole}
use Rattle.hys_app.specs.Migrating.{AfterMatrices}
use Rattle.hys_app.specs.Planning.{AfterRequest, AfterStacking}
use Rattle.hys_app.specs.declared.stage.Stage.{Stage}
use Rattle.hys_app.specs.declared.stage.Stage.TheVariants.{End, Next}
use Rattle.hys_app.specs.declared.status.Status.{Status}
use Rattle.hys_app.specs.declared.status.Status.TheVariants.{Done, NoTrajectory, Read, Input}
use Rattle.hys_app.specs.declared.outcome.Outcome.{Outcome}

-- ---- the answer
-- the files are told, and the bytes of the file stand for an answer
pub record HoldsAnswer (held : Option Named) (name : List ℕ) : Type 0 where
  pub files : Named
  pub file : List ℕ
  pub answer : Answer
  pub told : held ≡ Some files
  pub there : map.get files name ≡ Some file
  pub stands : IsAnswerText file answer

-- The command ends at the answer: it can't be read; or it is refused for a cause that it has, and never if it stands
-- for an answer.
pub data IsAnswerEnd (held : Option Named) (name : List ℕ) : Outcome → Type 0 where
  unread : IsAnswerEnd held name (saying Read (read_line name))
  refused : (fault : FileFault) → IfHolds held name (λ file. IsAnswerCause file fault) → ¬ (HoldsAnswer held name) →
      IsAnswerEnd held name (saying Input (file_line name (file_words fault)))

-- the answer is that of the text with the bytes that, where the files are told, the file has
pub record AnswerFrom (held : Option Named) (name : List ℕ) (a : Answer) : Type 0 where
  pub text : List ℕ
  pub whole : IsWhole held name text
  pub stands : IsAnswerText text a
  pub multiplied : AreMultiplied a.tree.places
  pub few : length a.tree.places ≤ most_places

-- a call that reads the answer
abbrev pub ReadsAnswer : {A : Type 0} → FilesOf A → A → A → List ℕ → Result (Stage Answer) AllocError → Type 0
ReadsAnswer F files files' name = ComesTo F files files' (λ held. IsAnswerEnd held name) (λ held. AnswerFrom held name)

-- ---- a text that was read
pub data IsAnswerTextEnd (name text : List ℕ) : Outcome → Type 0 where
  faulty : (fault : FileFault) → IsAnswerCause text fault → ((a : Answer) → ¬ (IsAnswerText text a)) →
      IsAnswerTextEnd name text (saying Input (file_line name (file_words fault)))

abbrev pub IsAnswerStage : List ℕ → List ℕ → Stage Answer → Type 0
IsAnswerStage name text (End o) = IsAnswerTextEnd name text o
IsAnswerStage name text (Next a) = IsAnswerText text a × AreMultiplied a.tree.places

abbrev pub AfterAnswer : Option Named → List ℕ → (Answer → Outcome → Type 0) → Outcome → Type 0
AfterAnswer held name = After (IsAnswerEnd held name) (AnswerFrom held name)

-- ---- the verdict
abbrev pub verdict_status : Verdict → Status
verdict_status Yes = Done
verdict_status (No at failed) = NoTrajectory

abbrev pub saying_verdict : Verdict → Outcome
saying_verdict v = saying (verdict_status v) (verdict_line v)

-- The verdict of the first test that fails is printed; it is Yes exactly where the tree shows the claim of the problem
-- and every number that is tested fits.
pub record IsChecked (p : Problem) (a : Answer) (o : Outcome) : Type 0 where
  pub said : o ≡ saying_verdict (verdict_of p a.tree.places a.claim)
  pub shown : (verdict_of p a.tree.places a.claim ≡ Yes) ↔ IsShown p a.tree.places a.claim

-- ---- `check MLD REQ ANS`
abbrev pub IsAnswerOutcome : Option Named → List ℕ → Problem → Outcome → Type 0
IsAnswerOutcome held answer p = AfterAnswer held answer (IsChecked p)

-- a call that reads the answer and checks it, the request being stacked
abbrev pub ChecksAnswer : {A : Type 0} → FilesOf A → A → A → List ℕ → Problem → Result Outcome AllocError → Type 0
ChecksAnswer F files files' answer p = Reaches F files files' (λ held. IsAnswerOutcome held answer p)

abbrev pub IsStackedOutcome : System → Request → Option Named → List ℕ → List ℕ → Outcome → Type 0
IsStackedOutcome s r held request answer = AfterStacking s r request (IsAnswerOutcome held answer)

-- a call that stacks the request, and reads and checks the answer
abbrev pub ChecksStacked : {A : Type 0} → FilesOf A → A → A → System → Request → List ℕ → List ℕ →
    Result Outcome AllocError → Type 0
ChecksStacked F files files' s r request answer =
    Reaches F files files' (λ held. IsStackedOutcome s r held request answer)

abbrev pub IsAskedOutcome : System → Option Named → List ℕ → List ℕ → Outcome → Type 0
IsAskedOutcome s held request answer = AfterRequest s held request (λ r. IsStackedOutcome s r held request answer)

-- a call that reads the request, and reads and checks the answer, the matrix text being read
abbrev pub ChecksAsked : {A : Type 0} → FilesOf A → A → A → System → List ℕ → List ℕ → Result Outcome AllocError →
    Type 0
ChecksAsked F files files' s request answer = Reaches F files files' (λ held. IsAskedOutcome s held request answer)

abbrev pub IsCheckOutcome : Option Named → List ℕ → List ℕ → List ℕ → Outcome → Type 0
IsCheckOutcome held matrices request answer =
    AfterMatrices held matrices (λ s. IsAskedOutcome s held request answer)
