use Rattle.std.proofs.Common.{◌≡◌, ◌+◌, suc, Some, length}
use Rattle.hys_sim.specs.Checks.{first_fault}
use Rattle.hys_sim.specs.Recorded.{IsReading, records_left}
use Rattle.hys_sim.specs.Tables.{length_checks}
use Rattle.hys_sim.proofs.header.count_records.Given as goal

abbrev pub invariant-records : goal.invariant-records
invariant-records l = record {
  reading : IsReading (λ s. Some s.now) l.reader;
  judged : first_fault (length_checks l.which l.width 1 (records_left (λ s. Some s.now) l.initial.reader)) ≡ first_fault (length_checks l.which l.width (suc l.count) (records_left (λ s. Some s.now) l.reader));
  counted : length (records_left (λ s. Some s.now) l.initial.reader) ≡ l.count + length (records_left (λ s. Some s.now) l.reader);
}

abbrev pub decreases-records : goal.decreases-records
decreases-records l = length (records_left (λ s. Some s.now) l.reader)
