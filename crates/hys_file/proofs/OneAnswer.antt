-- A text has one answer: the system that it stands for, or the one cause to refuse it.
use Rattle.std.proofs.Common.{◌≡◌, ℕ, ◌<◌, ◌≤◌, List, [], ◌∷◌, Bool, true, Option, Some, None, map, length, codes, refl, sym, ◌∙◌, ap, ap₂, subst, arith}
use Rattle.serde_json.specs.Data.{Data, number, unsigned}
use Rattle.hys_json.specs.Checks.{first_fault}
use Rattle.hys_json.specs.Values.{items_in, member_in, whole_by}
use Rattle.hys_json.specs.declared.fault.ValueFault.{ValueFault}
use Rattle.hys_json.specs.declared.fault.ValueFault.TheVariants as value
use Rattle.hys_lin.specs.declared.form.Row.{Row}
use Rattle.hys_sys.specs.declared.system.System.{System}
use Rattle.hys_file.specs.declared.fault.FileFault.{FileFault}
use Rattle.hys_file.specs.declared.fault.FileFault.TheVariants as file
use Rattle.hys_file.specs.Reading.{matrix_checks, system_in, limit_of, is_first_version, is_number_by, rows_by, row_of, label_of, first_labelled}
use Rattle.hys_file.specs.Texts.{most_bytes, shown_path, IsValueOf, IsTextOf, IsCause}
use Rattle.hys_file.specs.Texts as cause
use Rattle.hys_file.specs.Laws.{IsOfFirstVersion}

same_value : (text : List ℕ) (d e : Data) → IsValueOf text d → IsValueOf text e → d ≡ e
same_value text d e v w = some d e (sym v.read ∙ w.read)
  where
    some : (a b : Data) → Some a ≡ Some b → a ≡ b
    some a b h = cc

-- ---- why a text is refused, by the first thing that is looked for
abbrev shown : ValueFault → FileFault
shown (value.Shape path) = file.Shape (shown_path path)
shown (value.Number path) = file.Number (shown_path path)
shown value.Memory = file.Memory

abbrev fault_by : Option ValueFault → Option (List ℕ) → Option FileFault
fault_by (Some f) limit = Some (shown f)
fault_by None (Some what) = Some (file.Limit what)
fault_by None None = None

abbrev fault_in : Data → Option FileFault
fault_in d = fault_by (first_fault (matrix_checks d)) (limit_of (system_in d))

data Reason (text : List ℕ) (f : FileFault) : Type 0 where
  long : most_bytes < length text → f ≡ file.Limit (codes "bytes") → Reason text f
  none : length text ≤ most_bytes → ((d : Data) → ¬ (IsValueOf text d)) → f ≡ file.Json → Reason text f
  found : (d : Data) → IsValueOf text d → fault_in d ≡ Some f → Reason text f

reason : (text : List ℕ) (f : FileFault) → IsCause text f → Reason text f
reason text f (cause.bytes l) = long l refl
reason text f (cause.json l n) = none l n refl
reason text f (cause.shape d p v h) = found d v (ap (λ o. fault_by o (limit_of (system_in d))) h)
reason text f (cause.number d p v h) = found d v (ap (λ o. fault_by o (limit_of (system_in d))) h)
reason text f (cause.limit d what v h l) = found d v (ap₂ fault_by h l)

same_reason : (text : List ℕ) (f g : FileFault) → Reason text f → Reason text g → f ≡ g
same_reason text f g (long l e) (long m k) = e ∙ sym k
same_reason text f g (long l e) (none m n k) = absurd (omega arith)
same_reason text f g (long l e) (found d v h) = absurd (omega (arith, l, v.few))
same_reason text f g (none l n e) (long m k) = absurd (omega arith)
same_reason text f g (none l n e) (none m o k) = e ∙ sym k
same_reason text f g (none l n e) (found d v h) = absurd (n d v)
same_reason text f g (found d v h) (long m k) = absurd (omega (arith, m, v.few))
same_reason text f g (found d v h) (none m n k) = absurd (n d v)
same_reason text f g (found d v h) (found e w k) = some f g (sym h ∙ ap fault_in (same_value text d e v w) ∙ k)
  where
    some : (a b : FileFault) → Some a ≡ Some b → a ≡ b
    some a b q = cc

pub one_cause : (text : List ℕ) (f g : FileFault) → IsCause text f → IsCause text g → f ≡ g
one_cause text f g c k = same_reason text f g (reason text f c) (reason text g k)

pub one_system : (text : List ℕ) (s t : System) → IsTextOf text s → IsTextOf text t → s ≡ t
one_system text s t a b = a.system ∙ ap system_in (same_value text a.read b.read a.value b.value) ∙ sym b.system

pub not_both : (text : List ℕ) (s : System) (f : FileFault) → IsTextOf text s → IsCause text f → ⊥
not_both text s f t c = go (reason text f c)
  where
    go : Reason text f → ⊥
    go (long l e) = absurd (omega (arith, l, t.value.few))
    go (none l n e) = n t.read t.value
    go (found d v h) =
        let q : None ≡ Some f = sym (ap₂ fault_by t.right t.within) ∙ ap fault_in (same_value text t.read d t.value v) ∙ h in
        absurd (cc)

-- ---- version 1
empty_by : (b : Bool) (d : Data) → b ≡ true → map label_of (rows_by b d) ≡ map (λ (r : Row). []) (map row_of (rows_by b d))
empty_by b d e = rw e (go (items_in d))
  where
    go : (ds : List Data) → map label_of (map first_labelled ds) ≡ map (λ (r : Row). []) (map row_of (map first_labelled ds))
    go [] = refl
    go (d ∷ ds) = ap (λ ls. [] ∷ ls) (go ds)

pub empty_labels : (text : List ℕ) (s : System) → IsOfFirstVersion text → IsTextOf text s → s.labels ≡ map (λ (r : Row). []) s.rows
empty_labels text s v t =
    let is : member_in (codes "version") t.read ≡ number (unsigned 1) = ap (member_in (codes "version")) (same_value text t.read v.read t.value v.value) ∙ v.version in
    subst (λ (u : System). u.labels ≡ map (λ (r : Row). []) u.rows) (sym t.system)
    (empty_by (is_first_version t.read) (member_in (codes "rows") t.read) (ap (λ e. is_number_by 1 (whole_by e)) is))
