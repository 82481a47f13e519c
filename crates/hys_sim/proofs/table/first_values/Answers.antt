use Rattle.hys_sim.specs.Tables.{data_of, table_records}
use Rattle.hys_sim.proofs.Starting.{first_answer}
use Rattle.hys_sim.proofs.table.first_values.Goals as goal

pub returns-clause-value : goal.returns-clause-value
returns-clause-value c =
    first_answer c.args.places.now (data_of (table_records c.args.text.now)) _ _ c.in_ok-_found._found c.values_at.result
    (rw c.in_ok-reader.ensures.left at c.in_ok-_found.ensures.next) c.values_at.ensures
