use Rattle.serde_json.specs.View.{view}
use Rattle.hys_json.specs.Values.{list_checks}
use Rattle.hys_json.proofs.Items.{item_fails, item_read}
use Rattle.hys_json.proofs.list.read_list.Goals as goal

pub returns-in-Err : goal.returns-in-Err
unfolding list_checks
returns-in-Err g c =
    item_fails g.R.Reader.asked g.R.Reader.after g.R.Reader.meant c.args.reader.now c.loop-place.reader c.in_ok-values.values.now (view c.args.value.now) c.loop-place.place c.index-values-place.result c.read.result c.in-Err.fault
    c.loop-place-test.true c.index-values-place.is c.in_ok-values.ensures.0 c.in_ok-values.ensures.1 c.loop-place.invariant.0 c.read.ensures.judged c.in-Err.ensures

pub loop-place-preserved : goal.loop-place-preserved
loop-place-preserved g c =
    rw c.in_ok-push-in-Ok.ensures.items (item_read g.R.Reader.asked g.R.Reader.after g.R.Reader.meant c.args.reader.now c.loop-place.reader c.read.new.self c.in_ok-values.values.now c.loop-place.place c.index-values-place.result c.read.result c.in-Ok.item c.loop-place.items.items
    c.loop-place-test.true c.index-values-place.is c.loop-place.invariant.0 c.loop-place.invariant.1 c.read.ensures.judged c.read.ensures.kept c.in-Ok.ensures)
