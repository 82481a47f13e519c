use Rattle.serde_json.specs.View.{view}
use Rattle.hys_answer.proofs.Shapes.{cell_read}
use Rattle.hys_answer.proofs.why.read_table_cell.Goals as goal

pub returns : goal.returns
returns c = cell_read (view c.args.value.now) (view c.member.result.now) c.read_cell.result (c.in_ok-row.row, c.in_ok-row.col) c.member.ensures c.read_cell.ensures c.in_ok-row.ensures
