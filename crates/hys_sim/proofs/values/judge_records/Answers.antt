use Rattle.std.proofs.Common.{Bor, List, ℕ, Some}
use Rattle.hys_sim.specs.Recorded.{records_left}
use Rattle.hys_sim.specs.Tables.{data_of, records_checks, table_records}
use Rattle.hys_sim.proofs.Counting.{record_wrong}
use Rattle.hys_sim.proofs.values.judge_records.Goals as goal

pub returns-in-Err : goal.returns-in-Err
returns-in-Err c =
    record_wrong c.args.which c.args.kinds.now c.records.step (records_checks c.args.which c.args.kinds.now 0 (data_of (table_records c.args.text.now)))
    (records_left (λ (s : Bor (List ℕ)). Some s.now) c.records.reader) _ _ c.in-Err.fault c.records.invariant.judged (rw c.if-branch.true at c.in_ok-next.ensures.next) c.in-Err.ensures.judged
