use Rattle.std.proofs.Common.{◌∙◌, List, ℕ, Bor, Some, map}
use Rattle.hys_number.specs.Number.{Number}
use Rattle.hys_sim.specs.Recorded.{records_left}
use Rattle.hys_sim.specs.Tables.{data_of, table_records, values_at}
use Rattle.hys_sim.proofs.Running.{turned_answer, stopped_answer, ended_answer}
use Rattle.hys_sim.proofs.runs.run.Goals as goal

pub returns-in-Err-Stop : goal.returns-in-Err-Stop
returns-in-Err-Stop c =
    let us : List (List Number) = map (values_at c.args.places.now) (data_of (table_records c.args.text.now)) in
    stopped_answer c.args.program.now c.args.order.now c.args.start.items us c.args.places.now (records_left (λ (s : Bor (List ℕ)). Some s.now) c.records.reader) _ _ c.records.table.items c.records.steps c.records.state.items
    c.deref.result.now c.deref-in-records.result.now c.deref-in-Err-Stop.result.now c.in-Err-Stop.field-0 c.in-Err-Stop.stop c.ended.result
    c.records.invariant.so_far (rw c.if-branch.true at c.in_ok-next.ensures.next) c.deref.ensures.value (c.deref-in-records.ensures.value ∙ c.in_ok-input.ensures)
    c.in-Err-Stop.field-0-is c.in-Err-Stop.ensures.stop c.in-Err-Stop.ensures.legal c.deref-in-Err-Stop.ensures.value c.ended.ensures.table c.ended.ensures.steps c.ended.ensures.stop

pub records-preserved : goal.records-preserved
records-preserved c =
    let us : List (List Number) = map (values_at c.args.places.now) (data_of (table_records c.args.text.now)) in
    record {
      reading = c.in_ok-next.ensures.reading c.if-branch.true;
      so_far = turned_answer c.args.program.now c.args.start.items us c.args.places.now (records_left (λ (s : Bor (List ℕ)). Some s.now) c.records.reader) _ _ c.records.table.items _ c.records.steps _ c.records.state.items
          c.deref.result.now c.deref-in-records.result.now c.deref-in-records-2.result.now c.deref-in-records-3.result.now _ c.in-Ok.stepped
          c.records.invariant.so_far (rw c.if-branch.true at c.in_ok-next.ensures.next) c.deref.ensures.value (c.deref-in-records.ensures.value ∙ c.in_ok-input.ensures)
          c.deref-in-records-2.ensures.value (c.deref-in-records-3.ensures.value ∙ c.in_ok-input.ensures) c.in-Ok.ensures.done c.in-Ok.ensures.legal
          c.in_ok-write_transition.ensures c.in_ok-steps.ensures c.into_vec-state.ensures;
    }

pub returns : goal.returns
returns c =
    let us : List (List Number) = map (values_at c.args.places.now) (data_of (table_records c.args.text.now)) in
    ended_answer c.args.program.now c.args.order.now c.args.start.items us c.args.places.now (records_left (λ (s : Bor (List ℕ)). Some s.now) c.records.reader) c.records.table.items c.records.steps c.records.state.items c.deref-2.result.now c.ended-2.result
    c.records.invariant.so_far (rw c.if-branch.false at c.in_ok-next.ensures.next) c.deref-2.ensures.value c.ended-2.ensures.table c.ended-2.ensures.steps c.ended-2.ensures.stop
