-- What is answered of a text, by cases.
use Rattle.std.proofs.Common.{◌≡◌, ◌⊎◌, ℕ, ◌<◌, ◌≤◌, List, Some, None, Result, Ok, Err, length, codes, IsUtf8, sym, ◌∙◌, subst, inl, inr}
use Rattle.serde_json.specs.Data.{Data}
use Rattle.serde_json.specs.Read.{read as read_text}
use Rattle.serde_json.specs.Errors.{IsMemory}
use Rattle.serde_json.specs.declared.error.Error.{Error}
use Rattle.hys_sys.specs.declared.system.System.{System}
use Rattle.hys_stack.specs.declared.request.Request.{Request}
use Rattle.hys_stack.specs.declared.fault.RequestFault.{RequestFault}
use Rattle.hys_stack.specs.declared.fault.RequestFault.TheVariants as fault
use Rattle.hys_stack.specs.Requests.{IsRequestOf}
use Rattle.hys_stack.specs.Reading.{Answers, request_fault, request_in}
use Rattle.hys_stack.specs.Texts.{most_bytes, IsValueOf, IsTextOf, IsCause, IsRead}
use Rattle.hys_stack.specs.Texts as cause
use Rattle.hys_stack.proofs.Lawful.{request_lawful}

pub bytes_refused : (S : System) (text : List ℕ) (f : RequestFault) → most_bytes < length text → (f ≡ fault.Memory) ⊎ (f ≡ fault.Limit (codes "bytes")) → IsRead S text (Err f)
bytes_refused S text f l (inl e) = inl e
bytes_refused S text f l (inr e) = inr (subst (IsCause S text) (sym e) (cause.bytes l))

pub text_refused : (S : System) (text : List ℕ) (f : RequestFault) (e : Error) → length text ≤ most_bytes → (¬ (IsMemory e) → IsUtf8 text → read_text text ≡ None) →
    (IsMemory e × (f ≡ fault.Memory)) ⊎ (¬ (IsMemory e) × (f ≡ fault.Json)) → IsRead S text (Err f)
text_refused S text f e l h (inl q) = inl q.1
text_refused S text f e l h (inr q) = inr (subst (IsCause S text) (sym q.1) (cause.json l (λ d v. let x : None ≡ Some d = sym (h q.0 v.utf8) ∙ v.read in absurd (cc))))

pub value_read : (S : System) (text : List ℕ) (d : Data) (r : Result Request RequestFault) → IsValueOf text d → Answers (request_fault S d) (λ x. x ≡ request_in S d) r → IsRead S text r
value_read S text d (Ok x) v h = record { read = d; value = v; right = h.0; request = h.1; lawful = subst (IsRequestOf S) (sym h.1) (request_lawful S d h.0) }
value_read S text d (Err f) v (inl e) = inl e
value_read S text d (Err f) v (inr e) = inr (cause.wrong d f v e)
