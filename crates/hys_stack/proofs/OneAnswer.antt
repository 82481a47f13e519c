-- A text has one answer: the request that it stands for, or the one cause to refuse it.
use Rattle.std.proofs.Common.{◌≡◌, ℕ, List, Some, None, sym, ◌∙◌, ap, arith}
use Rattle.serde_json.specs.Data.{Data}
use Rattle.hys_sys.specs.declared.system.System.{System}
use Rattle.hys_stack.specs.declared.request.Request.{Request}
use Rattle.hys_stack.specs.declared.fault.RequestFault.{RequestFault}
use Rattle.hys_stack.specs.Reading.{request_fault, request_in}
use Rattle.hys_stack.specs.Texts.{most_bytes, IsValueOf, IsTextOf, IsCause}
use Rattle.hys_stack.specs.Texts as cause

same_value : (text : List ℕ) (d e : Data) → IsValueOf text d → IsValueOf text e → d ≡ e
same_value text d e v w = some d e (sym v.read ∙ w.read)
  where
    some : (a b : Data) → Some a ≡ Some b → a ≡ b
    some a b h = cc

pub not_both : (S : System) (text : List ℕ) (r : Request) (f : RequestFault) → IsTextOf S text r → IsCause S text f → ⊥
not_both S text r f t (cause.bytes l) = absurd (omega (arith, l, t.value.few))
not_both S text r f t (cause.json l n) = n t.read t.value
not_both S text r f t (cause.wrong d g v h) =
    let x : None ≡ Some g = sym t.right ∙ ap (request_fault S) (same_value text t.read d t.value v) ∙ h in absurd (cc)

pub one_request : (S : System) (text : List ℕ) (r s : Request) → IsTextOf S text r → IsTextOf S text s → r ≡ s
one_request S text r s t u = t.request ∙ ap (request_in S) (same_value text t.read u.read t.value u.value) ∙ sym u.request
