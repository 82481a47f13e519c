-- What is answered of a text, by cases.
use Rattle.std.proofs.Common.{◌≡◌, ◌⊎◌, ℕ, ◌<◌, ◌≤◌, List, Some, None, Err, length, codes, IsUtf8, sym, ◌∙◌, subst, inl, inr}
use Rattle.serde_json.specs.Data.{Data}
use Rattle.serde_json.specs.Read.{read as read_text}
use Rattle.serde_json.specs.Errors.{IsMemory}
use Rattle.serde_json.specs.declared.error.Error.{Error}
use Rattle.hys_json.specs.declared.fault.ValueFault.{ValueFault}
use Rattle.hys_json.specs.declared.fault.ValueFault.TheVariants as value
use Rattle.hys_json.specs.Checks.{first_fault, IsFault}
use Rattle.hys_file.specs.Texts.{IsShownAs}
use Rattle.hys_file.specs.declared.fault.FileFault.{FileFault}
use Rattle.hys_file.specs.declared.fault.FileFault.TheVariants as file
use Rattle.hys_tree.specs.declared.answer.Answer.{Answer}
use Rattle.hys_answer.specs.Reading.{answer_checks, answer_in, most_places}
use Rattle.hys_answer.specs.Texts.{most_bytes, IsValueOf, IsAnswerCause, IsAnswerRead}
use Rattle.hys_answer.specs.Texts as cause

pub bytes_refused : (text : List ℕ) (f : FileFault) → most_bytes < length text → (f ≡ file.Memory) ⊎ (f ≡ file.Limit (codes "bytes")) → IsAnswerRead text (Err f)
bytes_refused text f l (inl e) = inl e
bytes_refused text f l (inr e) = inr (subst (IsAnswerCause text) (sym e) (cause.bytes l))

pub text_refused : (text : List ℕ) (f : FileFault) (e : Error) → length text ≤ most_bytes → (¬ (IsMemory e) → IsUtf8 text → read_text text ≡ None) →
    (IsMemory e × (f ≡ file.Memory)) ⊎ (¬ (IsMemory e) × (f ≡ file.Json)) → IsAnswerRead text (Err f)
text_refused text f e l k (inl h) = inl h.1
text_refused text f e l k (inr h) = inr (subst (IsAnswerCause text) (sym h.1) (cause.json l (λ d v. let q : None ≡ Some d = sym (k h.0 v.utf8) ∙ v.read in absurd (cc))))

pub value_refused : (text : List ℕ) (d : Data) (g : ValueFault) (f : FileFault) → IsValueOf text d → IsFault (answer_checks d) g → (f ≡ file.Memory) ⊎ IsShownAs g f → IsAnswerRead text (Err f)
value_refused text d g f v h (inl e) = inl e
value_refused text d (value.Shape p) f v h (inr e) = inr (subst (IsAnswerCause text) (sym e) (cause.shape d p v h))
value_refused text d (value.Number p) f v h (inr e) = inr (subst (IsAnswerCause text) (sym e) (cause.number d p v h))
value_refused text d value.Memory f v h (inr e) = inl e

pub tree_refused : (text : List ℕ) (d : Data) (a : Answer) (f : FileFault) → IsValueOf text d → first_fault (answer_checks d) ≡ None → a ≡ answer_in d →
    most_places < length a.tree.places → (f ≡ file.Memory) ⊎ (f ≡ file.Limit (codes "tree")) → IsAnswerRead text (Err f)
tree_refused text d a f v h e l (inl m) = inl m
tree_refused text d a f v h e l (inr m) =
    inr (subst (IsAnswerCause text) (sym m) (cause.places d v h (subst (λ (b : Answer). most_places < length b.tree.places) e l)))
