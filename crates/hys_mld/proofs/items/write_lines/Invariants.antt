use Rattle.hys_mld.proofs.Growing.{Standing}
use Rattle.hys_mld.proofs.items.write_lines.Given as goal

abbrev pub invariant-loop-place : goal.invariant-loop-place
invariant-loop-place l = Standing l.names l.boxes l.columns l.first l.items l.place l.free l.rows.items l.labels.items l.forms.items
