-- A text has one answer: the one that it stands for, or the one cause to refuse it.
use Rattle.std.proofs.Common.{◌≡◌, ℕ, ◌<◌, ◌≤◌, List, Bool, true, false, Option, Some, None, length, codes, nat_lt, refl, sym, ◌∙◌, ap, ap₂, arith, tests}
use Rattle.serde_json.specs.Data.{Data}
use Rattle.hys_json.specs.Checks.{first_fault}
use Rattle.hys_json.specs.declared.fault.ValueFault.{ValueFault}
use Rattle.hys_json.specs.declared.fault.ValueFault.TheVariants as value
use Rattle.hys_file.specs.Texts.{shown_path}
use Rattle.hys_file.specs.declared.fault.FileFault.{FileFault}
use Rattle.hys_file.specs.declared.fault.FileFault.TheVariants as file
use Rattle.hys_tree.specs.declared.answer.Answer.{Answer}
use Rattle.hys_answer.specs.Reading.{answer_checks, answer_in, most_places}
use Rattle.hys_answer.specs.Texts.{most_bytes, IsValueOf, IsAnswerText, IsAnswerCause}
use Rattle.hys_answer.specs.Texts as cause

same_value : (text : List ℕ) (d e : Data) → IsValueOf text d → IsValueOf text e → d ≡ e
same_value text d e v w = some d e (sym v.read ∙ w.read)
  where
    some : (a b : Data) → Some a ≡ Some b → a ≡ b
    some a b h = cc

-- ---- why a text is refused, by the first thing that is looked for
abbrev shown : ValueFault → FileFault
shown (value.Shape path) = file.Shape (shown_path path)
shown (value.Number path) = file.Number (shown_path path)
shown value.Memory = file.Memory

abbrev fault_by : Option ValueFault → Bool → Option FileFault
fault_by (Some f) b = Some (shown f)
fault_by None true = Some (file.Limit (codes "tree"))
fault_by None false = None

abbrev is_large : Data → Bool
is_large d = nat_lt most_places (length (answer_in d).tree.places)

abbrev fault_in : Data → Option FileFault
fault_in d = fault_by (first_fault (answer_checks d)) (is_large d)

large : (m n : ℕ) → m < n → nat_lt m n ≡ true
large m n h = grind (arith, tests)

not_large : (m n : ℕ) → n ≤ m → nat_lt m n ≡ false
not_large m n h = grind (arith, tests)

data Reason (text : List ℕ) (f : FileFault) : Type 0 where
  long : most_bytes < length text → f ≡ file.Limit (codes "bytes") → Reason text f
  none : length text ≤ most_bytes → ((d : Data) → ¬ (IsValueOf text d)) → f ≡ file.Json → Reason text f
  found : (d : Data) → IsValueOf text d → fault_in d ≡ Some f → Reason text f

reason : (text : List ℕ) (f : FileFault) → IsAnswerCause text f → Reason text f
reason text f (cause.bytes l) = long l refl
reason text f (cause.json l n) = none l n refl
reason text f (cause.shape d p v h) = found d v (ap (λ o. fault_by o (is_large d)) h)
reason text f (cause.number d p v h) = found d v (ap (λ o. fault_by o (is_large d)) h)
reason text f (cause.places d v h l) = found d v (ap₂ fault_by h (large most_places (length (answer_in d).tree.places) l))

same_reason : (text : List ℕ) (f g : FileFault) → Reason text f → Reason text g → f ≡ g
same_reason text f g (long l e) (long m k) = e ∙ sym k
same_reason text f g (long l e) (none m n k) = absurd (omega arith)
same_reason text f g (long l e) (found d v h) = absurd (omega (arith, l, v.few))
same_reason text f g (none l n e) (long m k) = absurd (omega arith)
same_reason text f g (none l n e) (none m o k) = e ∙ sym k
same_reason text f g (none l n e) (found d v h) = absurd (n d v)
same_reason text f g (found d v h) (long m k) = absurd (omega (arith, m, v.few))
same_reason text f g (found d v h) (none m n k) = absurd (n d v)
same_reason text f g (found d v h) (found e w k) = some f g (sym h ∙ ap fault_in (same_value text d e v w) ∙ k)
  where
    some : (a b : FileFault) → Some a ≡ Some b → a ≡ b
    some a b q = cc

pub one_cause : (text : List ℕ) (f g : FileFault) → IsAnswerCause text f → IsAnswerCause text g → f ≡ g
one_cause text f g c k = same_reason text f g (reason text f c) (reason text g k)

pub one_reading : (text : List ℕ) (a b : Answer) → IsAnswerText text a → IsAnswerText text b → a ≡ b
one_reading text a b s t = s.answer ∙ ap answer_in (same_value text s.read t.read s.value t.value) ∙ sym t.answer

pub not_both : (text : List ℕ) (a : Answer) (f : FileFault) → IsAnswerText text a → IsAnswerCause text f → ⊥
not_both text a f t c = go (reason text f c)
  where
    go : Reason text f → ⊥
    go (long l e) = absurd (omega (arith, l, t.value.few))
    go (none l n e) = n t.read t.value
    go (found d v h) =
        let q : None ≡ Some f = sym (ap₂ fault_by t.right (not_large most_places (length (answer_in t.read).tree.places) t.within)) ∙ ap fault_in (same_value text t.read d t.value v) ∙ h in
        absurd (cc)
