use Rattle.std.proofs.Common.{List, ℕ, length, map}
use Rattle.hys_prog.specs.declared.program.Name.{Name}
use Rattle.hys_prog.specs.Steps.{is_input}
use Rattle.hys_sim.specs.declared.fault.Which.TheVariants.{Inputs}
use Rattle.hys_sim.specs.Tables.{columns_of, data_of, head_checks, kind_of, names_of, records_checks, inputs_counts, table_records}
use Rattle.hys_sim.proofs.Judging.{fails_first, fails_third}
use Rattle.hys_sim.proofs.table.input_places.Goals as goal

pub returns-in-Err-clause-judged : goal.returns-in-Err-clause-judged
returns-in-Err-clause-judged c =
    fails_first (head_checks Inputs (names_of is_input c.args.program.now) (table_records c.args.text.now)) _ c.in-Err.fault
    (rw (c.deref.ensures.value, c.in_ok-names.ensures) at c.in-Err.ensures.judged)

pub returns-in-Err-judge_records-clause-judged : goal.returns-in-Err-judge_records-clause-judged
returns-in-Err-judge_records-clause-judged c =
    let names : List Name = names_of is_input c.args.program.now in
    let rows : List (List (List ℕ)) = table_records c.args.text.now in
    let head = rw (c.deref.ensures.value, c.in_ok-names.ensures) at c.in-Ok.ensures.judged in
    let kinds = rw (c.deref.ensures.value, c.in_ok-names.ensures) at c.in-Ok.ensures.kinds in
    fails_third (head_checks Inputs names rows) (inputs_counts c.args.program.now (length (data_of rows))) (records_checks Inputs (map (kind_of names) (columns_of rows)) 0 (data_of rows)) c.in-Err-judge_records.fault
    head (rw c.in-Ok.ensures.count at c.in_ok-judge_input_count.ensures) (rw (c.deref-2.ensures.value, kinds) at c.in-Err-judge_records.ensures)
