use Rattle.std.proofs.Common.{◌≡◌, Some, length}
use Rattle.hys_sim.specs.Checks.{first_fault}
use Rattle.hys_sim.specs.Recorded.{IsReading, records_left}
use Rattle.hys_sim.specs.Tables.{data_of, records_checks, table_records}
use Rattle.hys_sim.proofs.values.judge_records.Given as goal

abbrev pub invariant-records : goal.invariant-records
invariant-records l = record {
  reading : IsReading (λ s. Some s.now) l.reader;
  judged : first_fault (records_checks l.which l.kinds 0 (data_of (table_records l.text))) ≡ first_fault (records_checks l.which l.kinds l.step (records_left (λ s. Some s.now) l.reader));
}

abbrev pub decreases-records : goal.decreases-records
decreases-records l = length (records_left (λ s. Some s.now) l.reader)
