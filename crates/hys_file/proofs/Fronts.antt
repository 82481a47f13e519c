-- What nothing wrong in the front of a value tells, and the system of both parts.
use Rattle.std.proofs.Common.{◌≡◌, ◌++◌, codes, None, ◌∙◌}
use Rattle.serde_json.specs.Data.{Data}
use Rattle.hys_json.specs.Checks.{first_fault, under}
use Rattle.hys_json.specs.Values.{closed_checks, member_in, word_checks}
use Rattle.hys_json.proofs.Readings.{first_none}
use Rattle.hys_sys.specs.declared.system.System.{System}
use Rattle.hys_file.specs.declared.system.Front.{Front}
use Rattle.hys_file.specs.declared.system.Back.{Back}
use Rattle.hys_file.specs.Reading.{matrix_keys, front_checks, forms_checks, columns_checks, HasMatrixKeys, system_in, IsFront, IsBack}

pub has_keys : (d : Data) → first_fault (front_checks d) ≡ None → HasMatrixKeys d
unfolding front_checks
has_keys d h = first_none (closed_checks matrix_keys d) (under (codes "columns") (columns_checks (member_in (codes "columns") d)) ++ (under (codes "format") (word_checks (codes "hysdel-mld") (member_in (codes "format") d)) ++ forms_checks d)) h

pub same_parts : (d : Data) (f : Front) (b : Back) (s : System) → IsFront d f → IsBack d b → (s.columns ≡ f.columns) × (s.next ≡ f.next) × (s.outputs ≡ f.outputs) →
    (s.rows ≡ b.rows) × (s.labels ≡ b.labels) → (s.name ≡ b.name) × (s.weight ≡ b.weight) → s ≡ system_in d
same_parts d f b s front back e r o = λ i. record {
  name = (o.0 ∙ back.name) i;
  columns = (e.0 ∙ front.columns) i;
  next = (e.1 ∙ front.next) i;
  outputs = (e.2 ∙ front.outputs) i;
  rows = (r.0 ∙ back.rows) i;
  labels = (r.1 ∙ back.labels) i;
  weight = (o.1 ∙ back.weight) i;
}
