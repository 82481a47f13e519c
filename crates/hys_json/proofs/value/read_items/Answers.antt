use Rattle.serde_json.specs.View.{view}
use Rattle.hys_json.proofs.Readings.{is_listed}
use Rattle.hys_json.proofs.value.read_items.Goals as goal

pub returns-in-Some : goal.returns-in-Some
returns-in-Some c = rw (c.as_slice.ensures.value) (is_listed c.in-Some.items.now.items (view c.args.value.now) _ (rw (c.in-Some.is) at c.as_array.ensures))
