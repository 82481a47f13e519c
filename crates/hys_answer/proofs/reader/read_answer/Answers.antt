use Rattle.std.proofs.Common.{◌<◌, ◌≤◌, length, rules}
use Rattle.serde_json.specs.View.{view}
use Rattle.hys_answer.specs.Reading.{most_places}
use Rattle.hys_answer.specs.Texts.{most_bytes}
use Rattle.hys_answer.proofs.Outcomes.{bytes_refused, text_refused, value_refused, tree_refused}
use Rattle.hys_answer.proofs.reader.read_answer.Goals as goal

pub returns-then-text-gt-MOST_BYTES-clause-read : goal.returns-then-text-gt-MOST_BYTES-clause-read
returns-then-text-gt-MOST_BYTES-clause-read c = bytes_refused c.args.text.now _ (search rules) c.over_limit.ensures

pub returns-in-Err-clause-read : goal.returns-in-Err-clause-read
returns-in-Err-clause-read c = text_refused c.args.text.now _ c.in-Err.error (search rules) c.in-Err.ensures.err c.of_text.ensures

pub returns-in-Err-read_one-clause-read : goal.returns-in-Err-read_one-clause-read
returns-in-Err-read_one-clause-read c =
    let few : length c.args.text.now ≤ most_bytes = search rules in
    value_refused c.args.text.now (view c.in-Ok.value) c.in-Err-read_one.fault _ (record { few = few; utf8 = c.in-Ok.ensures.ok.0; read = c.in-Ok.ensures.ok.1 }) c.in-Err-read_one.ensures.read c.of_value.ensures

pub returns-then-is_too_large-clause-read : goal.returns-then-is_too_large-clause-read
returns-then-is_too_large-clause-read c =
    let few : length c.args.text.now ≤ most_bytes = search rules in
    let large : most_places < length c.in-Ok-read_one.answer.tree.places = c.is_too_large.ensures.0 c.if-is_too_large.true in
    tree_refused c.args.text.now (view c.in-Ok.value) c.in-Ok-read_one.answer _ (record { few = few; utf8 = c.in-Ok.ensures.ok.0; read = c.in-Ok.ensures.ok.1 }) c.in-Ok-read_one.ensures.read.0 c.in-Ok-read_one.ensures.read.1
    large c.over_limit-then-is_too_large.ensures
