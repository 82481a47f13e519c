use Rattle.std.proofs.Common.{Some, length, map}
use Rattle.hys_sim.specs.Recorded.{IsReading, records_left}
use Rattle.hys_sim.specs.Tables.{data_of, table_records, values_at}
use Rattle.hys_sim.proofs.Running.{IsSoFar}
use Rattle.hys_sim.proofs.runs.run.Given as goal

abbrev pub invariant-records : goal.invariant-records
invariant-records l = record {
  reading : IsReading (λ s. Some s.now) l.reader;
  so_far : IsSoFar l.fn.program l.fn.start.items (map (values_at l.places) (data_of (table_records l.text))) (map (values_at l.places) (records_left (λ s. Some s.now) l.reader)) l.table.items l.steps l.state.items;
}

abbrev pub decreases-records : goal.decreases-records
decreases-records l = length (records_left (λ s. Some s.now) l.reader)
