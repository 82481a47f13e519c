use Rattle.std.proofs.Common.{◌≡◌, ◌++◌, drop, map}
use Rattle.csv.specs.Records.{fields_of}
use Rattle.hys_sim.specs.Checks.{first_fault}
use Rattle.hys_sim.specs.Fields.{stripped}
use Rattle.hys_sim.specs.Tables.{text_checks}
use Rattle.hys_sim.proofs.header.texts_of.Given as goal

abbrev pub invariant-loop-place : goal.invariant-loop-place
invariant-loop-place l = record {
  judged : first_fault (text_checks l.which (map stripped (fields_of l.fn.header))) ≡ first_fault (text_checks l.which (map stripped (drop l.place (fields_of l.fn.header))));
  value : map (λ t. t.now) l.texts.items ++ map stripped (drop l.place (fields_of l.fn.header)) ≡ map stripped (fields_of l.fn.header);
}
