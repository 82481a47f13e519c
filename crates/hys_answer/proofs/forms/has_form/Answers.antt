use Rattle.serde_json.specs.View.{view}
use Rattle.hys_answer.proofs.Shapes.{form_by_keys, form_of_others}
use Rattle.hys_answer.proofs.forms.has_form.Goals as goal

pub returns-then-len-keys : goal.returns-then-len-keys
returns-then-len-keys c =
    form_by_keys c.in-Some.members.now.entries c.args.keys.now (view c.args.value.now) c.len.result c.has_all.result (rw (c.in-Some.is) at c.as_object.ensures) c.len.ensures.len c.if-len-keys.true c.has_all.ensures

pub returns-else-len-keys : goal.returns-else-len-keys
returns-else-len-keys c =
    form_of_others c.in-Some.members.now.entries c.args.keys.now (view c.args.value.now) c.len.result (rw (c.in-Some.is) at c.as_object.ensures) c.len.ensures.len c.if-len-keys.false
