use Rattle.std.proofs.Common.{map}
use Rattle.serde_json.specs.View.{view, members_view}
use Rattle.hys_json.proofs.Readings.{then_unknown, is_missing, no_object}
use Rattle.hys_json.proofs.object.check_keys.Goals as goal

pub returns-in-Ok : goal.returns-in-Ok
returns-in-Ok c =
    then_unknown (members_view c.in-Some.members.now.entries) (map (λ k. k.now) c.args.keys.now) (view c.args.value.now) c.check_unknown.result (rw (c.in-Some.is) at c.as_object.ensures) (rw (c.in-Ok.is) at c.check_missing.ensures).0 c.check_unknown.ensures

pub returns-in-Err : goal.returns-in-Err
returns-in-Err c =
    is_missing (members_view c.in-Some.members.now.entries) (map (λ k. k.now) c.args.keys.now) (view c.args.value.now) c.in-Err.fault (rw (c.in-Some.is) at c.as_object.ensures) (rw (c.in-Err.is) at c.check_missing.ensures)

pub returns-in-None : goal.returns-in-None
returns-in-None c = rw (c.here.ensures) (no_object (map (λ k. k.now) c.args.keys.now) (view c.args.value.now) (rw (c.in-None.is) at c.as_object.ensures))
