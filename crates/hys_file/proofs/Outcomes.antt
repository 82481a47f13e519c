-- What is answered of a text, by cases.
use Rattle.std.proofs.Common.{◌≡◌, ◌⊎◌, ℕ, ◌<◌, ◌≤◌, List, Some, None, Ok, Err, length, codes, IsUtf8, sym, ◌∙◌, subst, inl, inr}
use Rattle.serde_json.specs.Data.{Data}
use Rattle.serde_json.specs.Read.{read as read_text}
use Rattle.serde_json.specs.Errors.{IsMemory}
use Rattle.serde_json.specs.declared.error.Error.{Error}
use Rattle.hys_json.specs.declared.fault.ValueFault.{ValueFault}
use Rattle.hys_json.specs.declared.fault.ValueFault.TheVariants as value
use Rattle.hys_json.specs.Checks.{first_fault, IsFault}
use Rattle.hys_sys.specs.declared.system.System.{System}
use Rattle.hys_file.specs.declared.fault.FileFault.{FileFault}
use Rattle.hys_file.specs.declared.fault.FileFault.TheVariants as file
use Rattle.hys_file.specs.Reading.{matrix_checks, system_in, limit_of}
use Rattle.hys_file.specs.Texts.{most_bytes, IsValueOf, IsTextOf, IsCause, IsShownAs, IsRead}
use Rattle.hys_file.specs.Texts as cause

pub bytes_refused : (text : List ℕ) (f : FileFault) → most_bytes < length text → (f ≡ file.Memory) ⊎ (f ≡ file.Limit (codes "bytes")) → IsRead text (Err f)
bytes_refused text f l (inl e) = inl e
bytes_refused text f l (inr e) = inr (subst (IsCause text) (sym e) (cause.bytes l))

pub text_refused : (text : List ℕ) (f : FileFault) (e : Error) → length text ≤ most_bytes → (¬ (IsMemory e) → IsUtf8 text → read_text text ≡ None) →
    (IsMemory e × (f ≡ file.Memory)) ⊎ (¬ (IsMemory e) × (f ≡ file.Json)) → IsRead text (Err f)
text_refused text f e l k (inl h) = inl h.1
text_refused text f e l k (inr h) = inr (subst (IsCause text) (sym h.1) (cause.json l (λ d v. let q : None ≡ Some d = sym (k h.0 v.utf8) ∙ v.read in absurd (cc))))

pub value_refused : (text : List ℕ) (d : Data) (g : ValueFault) (f : FileFault) → IsValueOf text d → IsFault (matrix_checks d) g → (f ≡ file.Memory) ⊎ IsShownAs g f → IsRead text (Err f)
value_refused text d g f v h (inl e) = inl e
value_refused text d (value.Shape p) f v h (inr e) = inr (subst (IsCause text) (sym e) (cause.shape d p v h))
value_refused text d (value.Number p) f v h (inr e) = inr (subst (IsCause text) (sym e) (cause.number d p v h))
value_refused text d value.Memory f v h (inr e) = inl e

pub limit_refused : (text : List ℕ) (d : Data) (what : List ℕ) (f : FileFault) → IsValueOf text d → first_fault (matrix_checks d) ≡ None → limit_of (system_in d) ≡ Some what →
    (f ≡ file.Memory) ⊎ (f ≡ file.Limit what) → IsRead text (Err f)
limit_refused text d what f v h l (inl e) = inl e
limit_refused text d what f v h l (inr e) = inr (subst (IsCause text) (sym e) (cause.limit d what v h l))

pub is_read : (text : List ℕ) (d : Data) (s : System) → IsValueOf text d → first_fault (matrix_checks d) ≡ None → s ≡ system_in d → limit_of s ≡ None → IsRead text (Ok s)
is_read text d s v h e l = record { read = d; value = v; right = h; within = subst (λ t. limit_of t ≡ None) e l; system = e }
