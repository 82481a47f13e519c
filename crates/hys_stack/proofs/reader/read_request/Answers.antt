use Rattle.std.proofs.Common.{◌≤◌, length, rules}
use Rattle.serde_json.specs.View.{view}
use Rattle.hys_stack.specs.Texts.{most_bytes}
use Rattle.hys_stack.proofs.Outcomes.{bytes_refused, text_refused, value_read}
use Rattle.hys_stack.proofs.reader.read_request.Goals as goal

pub returns-then-text-gt-MOST_BYTES : goal.returns-then-text-gt-MOST_BYTES
returns-then-text-gt-MOST_BYTES c = bytes_refused c.args.system.now c.args.text.now _ (search rules) c.over_limit.ensures

pub returns-in-Err : goal.returns-in-Err
returns-in-Err c = text_refused c.args.system.now c.args.text.now _ c.in-Err.error (search rules) c.in-Err.ensures.err c.of_text.ensures

pub returns : goal.returns
returns c =
    let few : length c.args.text.now ≤ most_bytes = search rules in
    value_read c.args.system.now c.args.text.now (view c.in-Ok.value) _ (record { few = few; utf8 = c.in-Ok.ensures.ok.0; read = c.in-Ok.ensures.ok.1 }) c.read_value.ensures
