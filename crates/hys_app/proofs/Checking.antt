-- The stage of an answer, and what `check` comes to.
use Rattle.std.proofs.Common.{◌≡◌, ◌≢◌, ◌↔◌, ℕ, ◌<◌, ◌≤◌, List, length, Option, None, Some, ◌⊎◌, inl, inr, refl, sym, ap, subst, ◌∙◌, true, Result, Ok, Err, IfOk, codes, arith}
use Rattle.std.specs.FinMap as map
use Rattle.std.specs.declared.alloc.AllocError.{AllocError}
use Rattle.hys_io.specs.Outside.{Named, IfHolds}
use Rattle.hys_lin.specs.declared.problem.Problem.{Problem}
use Rattle.hys_sys.specs.declared.system.System.{System}
use Rattle.hys_file.specs.declared.fault.FileFault.{FileFault}
use Rattle.hys_file.specs.declared.fault.FileFault.TheVariants as file
use Rattle.hys_stack.specs.declared.request.Request.{Request}
use Rattle.hys_tree.specs.declared.answer.Answer.{Answer}
use Rattle.hys_tree.specs.Multiplied.{AreMultiplied}
use Rattle.hys_check.specs.Verdict.{IsShown, verdict_of}
use Rattle.hys_check.specs.declared.verdict.Verdict.{Verdict}
use Rattle.hys_check.specs.declared.verdict.Verdict.TheVariants.{Yes, No}
use Rattle.hys_answer.specs.Laws.{NoneIsBoth}
use Rattle.hys_answer.specs.Reading.{most_places}
use Rattle.hys_answer.specs.Texts.{most_bytes, IsAnswerText, IsAnswerCause, bytes}
use Rattle.hys_app.specs.Lines.{file_line, file_words}
use Rattle.hys_app.specs.Ends.{IsReached}
use Rattle.hys_app.specs.Stages.{saying, ended, followed, After, IsStage, IsWhole, IsLong, IsUnread}
use Rattle.hys_app.specs.Planning.{IsStackEnd, IsProblemOf, IsStackStage}
use Rattle.hys_app.specs.Checking.{HoldsAnswer, IsAnswerEnd, unread, refused, AnswerFrom, IsAnswerTextEnd, faulty, IsAnswerStage, verdict_status, saying_verdict, IsChecked, IsAnswerOutcome, IsStackedOutcome}
use Rattle.hys_app.specs.declared.stage.Stage.{Stage}
use Rattle.hys_app.specs.declared.stage.Stage.TheVariants.{End, Next}
use Rattle.hys_app.specs.declared.status.Status.TheVariants.{Input}
use Rattle.hys_app.specs.declared.outcome.Outcome.{Outcome}
use Rattle.hys_app.proofs.Stages.{of_file, implied, is_calm, calm_by, calm_reached, weaker, after_end}
use Rattle.hys_app.proofs.Planning.{stack_calm}

-- ---- texts that were read
pub text_refused : (name text : List ℕ) (f : FileFault) (o : Outcome) → o ≡ saying Input (file_line name (file_words f)) →
    f ≢ file.Memory → (f ≡ file.Memory) ⊎ IsAnswerCause text f → NoneIsBoth → IsAnswerTextEnd name text o
text_refused name text f o e other (inl memory) apart = absurd (other memory)
text_refused name text f o e other (inr cause) apart =
    subst (IsAnswerTextEnd name text) (sym e) (faulty f cause (λ a h. apart text a f h cause))

-- ---- from the bytes that were read to the file that the files tell
some_same : {A : Type 0} (x y : A) → Some x ≡ Some y → x ≡ y
some_same x y e = cc

no_answer : (held : Option Named) (name : List ℕ) (P : List ℕ → Type 0) → ((text : List ℕ) (a : Answer) → P text → IsAnswerText text a → ⊥) →
    IfHolds held name P → HoldsAnswer held name → ⊥
no_answer None name P never h p = absurd (cc p.told)
no_answer (Some files) name P never (file, there, q) p =
    never file p.answer q (subst (λ (t : List ℕ). IsAnswerText t p.answer) (some_same p.file file
    (sym p.there ∙ (ap (λ (m : Named). map.get m name) (sym (some_same files p.files p.told)) ∙ there))) p.stands)

text_ended : (held : Option Named) (name text : List ℕ) (o : Outcome) → IsWhole held name text → IsAnswerTextEnd name text o → IsAnswerEnd held name o
text_ended held name text o h (faulty f cause never) =
    refused f (of_file held name text (λ file. IsAnswerCause file f) h cause)
    (no_answer held name (λ file. text ≡ file) (λ file a e p. never a (subst (λ (t : List ℕ). IsAnswerText t a) (sym e) p)) h)

text_status : (name text : List ℕ) (o : Outcome) → IsAnswerTextEnd name text o → o.status ≡ Input
text_status name text o (faulty f cause never) = refl

calm_input : (L : Outcome → Type 0) (o : Outcome) (r r' : ℕ) → o.status ≡ Input → L o → r' ≡ r → IsReached L o r r'
calm_input L o r r' e l c = calm_reached L o r r' (calm_by o.status Input e refl) l c

-- ---- the stage of an answer
pub answer_unread : (held : Option Named) (name : List ℕ) (o : Outcome) (r r' : ℕ) → IsReached (IsUnread name) o r r' → IsReached (IsAnswerEnd held name) o r r'
answer_unread held name o r r' h = weaker (IsUnread name) (IsAnswerEnd held name) o r r' (λ e. subst (IsAnswerEnd held name) (sym e) unread) h

long_unfit : (text : List ℕ) (a : Answer) → most_bytes < length text → IsAnswerText text a → ⊥
long_unfit text a more p = omega (arith, p.value.few, more)

bytes_line : (name : List ℕ) → file_line name (file_words (file.Limit (codes "bytes"))) ≡ file_line name (codes "limit bytes")
unfolding file_words
bytes_line name = refl

pub answer_long : (held : Option Named) (name : List ℕ) (o : Outcome) (r r' : ℕ) →
    o ≡ saying Input (file_line name (codes "limit bytes")) → IsLong held name most_bytes → r' ≡ r → IsReached (IsAnswerEnd held name) o r r'
answer_long held name o r r' e long c =
    calm_input (IsAnswerEnd held name) o r r' (ap (λ (p : Outcome). p.status) e)
    (subst (IsAnswerEnd held name) (sym (e ∙ ap (saying Input) (sym (bytes_line name))))
    (refused (file.Limit (codes "bytes")) (implied held name (λ text. most_bytes < length text) (λ text. IsAnswerCause text (file.Limit (codes "bytes"))) (λ text more. bytes more) long)
    (no_answer held name (λ text. most_bytes < length text) long_unfit long))) c

few_places : (text : List ℕ) (a : Answer) → IsAnswerText text a → length a.tree.places ≤ most_places
few_places text a h = subst (λ (b : Answer). length b.tree.places ≤ most_places) (sym h.answer) h.within

stage_of : (held : Option Named) (name text : List ℕ) (x : Stage Answer) (r r' : ℕ) → IsAnswerStage name text x → IsWhole held name text → r' ≡ r →
    IsStage (IsAnswerEnd held name) (AnswerFrom held name) r r' x
stage_of held name text (End o) r r' h w c =
    calm_input (IsAnswerEnd held name) o r r' (text_status name text o h) (text_ended held name text o w h) c
stage_of held name text (Next a) r r' h w c =
    (record { text = text; whole = w; stands = h.0; multiplied = h.1; few = few_places text a h.0 }, c)

pub answer_text_read : (held : Option Named) (name text : List ℕ) (x : Result (Stage Answer) AllocError) (r r' : ℕ) → IfOk x (IsAnswerStage name text) →
    IsWhole held name text → r' ≡ r → IfOk x (IsStage (IsAnswerEnd held name) (AnswerFrom held name) r r')
answer_text_read held name text (Ok x) r r' h w c = stage_of held name text x r r' h w c
answer_text_read held name text (Err e) r r' h w c = tt

-- ---- the verdict
pub checked : (p : Problem) (a : Answer) (v : Verdict) (x : Result Outcome AllocError) → v ≡ verdict_of p a.tree.places a.claim →
    (v ≡ Yes) ↔ IsShown p a.tree.places a.claim → IfOk x (λ o. o ≡ saying_verdict v) → IfOk x (IsChecked p a)
checked p a v (Ok o) e shown h = record {
  said = h ∙ ap saying_verdict e;
  shown = subst (λ (w : Verdict). (w ≡ Yes) ↔ IsShown p a.tree.places a.claim) e shown;
}
checked p a v (Err m) e shown h = tt

verdict_calm : (v : Verdict) → is_calm (verdict_status v) ≡ true
verdict_calm Yes = refl
verdict_calm (No at failed) = refl

pub check_calm : (p : Problem) (a : Answer) (o : Outcome) → IsChecked p a o → is_calm o.status ≡ true
check_calm p a o h =
    let v = verdict_of p a.tree.places a.claim in
    calm_by o.status (verdict_status v) (ap (λ (q : Outcome). q.status) h.said) (verdict_calm v)

-- ---- the stacked problem
pub stacked_ended : (s : System) (r : Request) (held : Option Named) (request answer : List ℕ) (x : Stage Problem) (o : Outcome) (n n' : ℕ) → x ≡ End o →
    IsStackStage s r request x → n' ≡ n → IsReached (IsStackedOutcome s r held request answer) o n n'
stacked_ended s r held request answer x o n n' e h c =
    let k : IsStackEnd s r request o = subst (IsStackStage s r request) e h in
    calm_reached (IsStackedOutcome s r held request answer) o n n' (stack_calm s r request o k) (ended o k) c

pub stacked_followed : (s : System) (r : Request) (held : Option Named) (request answer : List ℕ) (p : Problem) (x : Result Outcome AllocError) (n n' : ℕ) → IsProblemOf s r p →
    IfOk x (λ o. IsReached (IsAnswerOutcome held answer p) o n n') → IfOk x (λ o. IsReached (IsStackedOutcome s r held request answer) o n n')
stacked_followed s r held request answer p (Ok o) n n' h k =
    weaker (IsAnswerOutcome held answer p) (IsStackedOutcome s r held request answer) o n n' (followed p o h) k
stacked_followed s r held request answer p (Err m) n n' h k = tt
