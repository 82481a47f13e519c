-- The stage of a matrix text, and what `migrate` comes to.
use Rattle.std.proofs.Common.{◌≡◌, ◌≢◌, ℕ, List, length, Option, None, Some, ◌<◌, ◌⊎◌, refl, sym, ap, subst, ◌∙◌, inl, inr, arith, Result, Ok, Err, IfOk, codes}
use Rattle.std.specs.FinMap as map
use Rattle.std.specs.declared.alloc.AllocError.{AllocError}
use Rattle.hys_io.specs.Outside.{Named, IfHolds}
use Rattle.hys_sys.specs.System.{IsSystem}
use Rattle.hys_sys.specs.declared.system.System.{System}
use Rattle.hys_file.specs.declared.fault.FileFault.{FileFault}
use Rattle.hys_file.specs.declared.fault.FileFault.TheVariants as file
use Rattle.hys_file.specs.Laws.{NoneIsBoth}
use Rattle.hys_file.specs.Texts.{most_bytes, IsCause, IsTextOf, bytes}
use Rattle.hys_app.specs.Lines.{file_line, file_words}
use Rattle.hys_app.specs.Ends.{IsReached}
use Rattle.hys_app.specs.Stages.{saying, After, IsStage, IsWhole, IsLong, IsUnread}
use Rattle.hys_app.specs.Migrating.{HoldsSystem, IsMatrixEnd, unread, refused, SystemFrom, IsMatrixTextEnd, faulty, IsMatrixStage, IsMigratedTo, IsMigrateOutcome}
use Rattle.hys_app.specs.declared.stage.Stage.{Stage}
use Rattle.hys_app.specs.declared.stage.Stage.TheVariants.{End, Next}
use Rattle.hys_app.specs.declared.status.Status.TheVariants.{Done, Input}
use Rattle.hys_app.specs.declared.outcome.Outcome.{Outcome}
use Rattle.hys_app.proofs.Stages.{of_file, implied, calm_by, calm_reached, weaker, after_end, after_next}

-- ---- texts that were read
pub text_refused : (name text : List ℕ) (fault : FileFault) (o : Outcome) → o ≡ saying Input (file_line name (file_words fault)) →
    fault ≢ file.Memory → (fault ≡ file.Memory) ⊎ IsCause text fault → NoneIsBoth → IsMatrixTextEnd name text o
text_refused name text fault o e other (inl memory) apart = absurd (other memory)
text_refused name text fault o e other (inr cause) apart =
    subst (IsMatrixTextEnd name text) (sym e) (faulty fault cause (λ s h. apart text s fault h cause))

-- ---- from the bytes that were read to the file that the files tell
some_same : {A : Type 0} (x y : A) → Some x ≡ Some y → x ≡ y
some_same x y e = cc

no_system : (held : Option Named) (name : List ℕ) (P : List ℕ → Type 0) → ((text : List ℕ) (s : System) → P text → IsTextOf text s → ⊥) →
    IfHolds held name P → HoldsSystem held name → ⊥
no_system None name P never h p = absurd (cc p.told)
no_system (Some files) name P never (file, there, q) p =
    never file p.system q (subst (λ (t : List ℕ). IsTextOf t p.system) (some_same p.file file
    (sym p.there ∙ (ap (λ (m : Named). map.get m name) (sym (some_same files p.files p.told)) ∙ there))) p.stands)

text_ended : (held : Option Named) (name text : List ℕ) (o : Outcome) → IsWhole held name text → IsMatrixTextEnd name text o → IsMatrixEnd held name o
text_ended held name text o h (faulty fault cause never) =
    refused fault (of_file held name text (λ file. IsCause file fault) h cause)
    (no_system held name (λ file. text ≡ file) (λ file s e p. never s (subst (λ (t : List ℕ). IsTextOf t s) (sym e) p)) h)

text_status : (name text : List ℕ) (o : Outcome) → IsMatrixTextEnd name text o → o.status ≡ Input
text_status name text o (faulty fault cause never) = refl

calm_input : (L : Outcome → Type 0) (o : Outcome) (r r' : ℕ) → o.status ≡ Input → L o → r' ≡ r → IsReached L o r r'
calm_input L o r r' e l c = calm_reached L o r r' (calm_by o.status Input e refl) l c

-- ---- the stage of a matrix text
pub matrix_unread : (held : Option Named) (name : List ℕ) (o : Outcome) (r r' : ℕ) → IsReached (IsUnread name) o r r' → IsReached (IsMatrixEnd held name) o r r'
matrix_unread held name o r r' h = weaker (IsUnread name) (IsMatrixEnd held name) o r r' (λ e. subst (IsMatrixEnd held name) (sym e) unread) h

long_unfit : (text : List ℕ) (s : System) → most_bytes < length text → IsTextOf text s → ⊥
long_unfit text s more p = omega (arith, p.value.few, more)

bytes_line : (name : List ℕ) → file_line name (file_words (file.Limit (codes "bytes"))) ≡ file_line name (codes "limit bytes")
unfolding file_words
bytes_line name = refl

pub matrix_long : (held : Option Named) (name : List ℕ) (o : Outcome) (r r' : ℕ) →
    o ≡ saying Input (file_line name (codes "limit bytes")) → IsLong held name most_bytes → r' ≡ r → IsReached (IsMatrixEnd held name) o r r'
matrix_long held name o r r' e long c =
    calm_input (IsMatrixEnd held name) o r r' (ap (λ (p : Outcome). p.status) e)
    (subst (IsMatrixEnd held name) (sym (e ∙ ap (saying Input) (sym (bytes_line name))))
    (refused (file.Limit (codes "bytes")) (implied held name (λ text. most_bytes < length text) (λ text. IsCause text (file.Limit (codes "bytes"))) (λ text more. bytes more) long)
    (no_system held name (λ text. most_bytes < length text) long_unfit long))) c

stage_of : (held : Option Named) (name text : List ℕ) (s : Stage System) (r r' : ℕ) → IsMatrixStage name text s → IsWhole held name text → r' ≡ r →
    IsStage (IsMatrixEnd held name) (SystemFrom held name) r r' s
stage_of held name text (End o) r r' h w c =
    calm_input (IsMatrixEnd held name) o r r' (text_status name text o h) (text_ended held name text o w h) c
stage_of held name text (Next x) r r' h w c = (record { text = text; whole = w; stands = h.1; lawful = h.0 }, c)

pub matrix_text_read : (held : Option Named) (name text : List ℕ) (x : Result (Stage System) AllocError) (r r' : ℕ) → IfOk x (IsMatrixStage name text) →
    IsWhole held name text → r' ≡ r → IfOk x (IsStage (IsMatrixEnd held name) (SystemFrom held name) r r')
matrix_text_read held name text (Ok s) r r' h w c = stage_of held name text s r r' h w c
matrix_text_read held name text (Err e) r r' h w c = tt

-- ---- `migrate`
pub migrate_ended : (held : Option Named) (old new : List ℕ) (o : Outcome) (r r' : ℕ) → IsReached (IsMatrixEnd held old) o r r' →
    IsReached (IsMigrateOutcome held old new) o r r'
migrate_ended held old new o r r' h = after_end (IsMatrixEnd held old) (SystemFrom held old) (IsMigratedTo new) o r r' h

pub migrate_done : (held : Option Named) (old new : List ℕ) (s : System) (x : Result Outcome AllocError) (r r' : ℕ) → SystemFrom held old s → r' ≡ r →
    IfOk x (IsMigratedTo new s) → IfOk x (λ o. IsReached (IsMigrateOutcome held old new) o r r')
migrate_done held old new s (Ok o) r r' from e h =
    after_next (IsMatrixEnd held old) (SystemFrom held old) (IsMigratedTo new) s o r r' r' from e
    (calm_reached (IsMigratedTo new s) o r' r' (calm_by o.status Done (ap (λ (p : Outcome). p.status) h) refl) h refl)
migrate_done held old new s (Err a) r r' from e h = tt
