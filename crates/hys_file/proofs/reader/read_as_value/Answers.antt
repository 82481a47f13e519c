use Rattle.std.proofs.Common.{◌≡◌, None, Some, subst}
use Rattle.serde_json.specs.View.{view}
use Rattle.hys_sys.specs.declared.system.System.{System}
use Rattle.hys_file.specs.Reading.{limit_of}
use Rattle.hys_file.proofs.Outcomes.{text_refused, value_refused, limit_refused}
use Rattle.hys_file.proofs.Lawful.{read_lawful}
use Rattle.hys_file.proofs.reader.read_as_value.Goals as goal

pub returns-in-Err-clause-read : goal.returns-in-Err-clause-read
returns-in-Err-clause-read c = text_refused c.args.text.now _ c.in-Err.error c.requires c.in-Err.ensures.err c.of_text.ensures

pub returns-in-Err-read_value-clause-read : goal.returns-in-Err-read_value-clause-read
returns-in-Err-read_value-clause-read c =
    value_refused c.args.text.now (view c.in-Ok.value) c.in-Err-read_value.fault _ (record { few = c.requires; utf8 = c.in-Ok.ensures.ok.0; read = c.in-Ok.ensures.ok.1 }) c.in-Err-read_value.ensures c.of_value.ensures

pub returns-in-Some-clause-read : goal.returns-in-Some-clause-read
returns-in-Some-clause-read c =
    let what : limit_of c.in-Ok-read_value.system ≡ Some c.in-Some.what.now = rw (c.in-Some.is) at c.limit_of.ensures in
    limit_refused c.args.text.now (view c.in-Ok.value) c.in-Some.what.now _ (record { few = c.requires; utf8 = c.in-Ok.ensures.ok.0; read = c.in-Ok.ensures.ok.1 }) c.in-Ok-read_value.ensures.0
    (subst (λ (s : System). limit_of s ≡ Some c.in-Some.what.now) c.in-Ok-read_value.ensures.1 what) c.over_limit.ensures

pub returns-clause-lawful : goal.returns-clause-lawful
returns-clause-lawful c =
    let within : limit_of c.in-Ok-read_value.system ≡ None = rw (c.in-None.is) at c.limit_of.ensures in
    read_lawful (view c.in-Ok.value) c.in-Ok-read_value.system c.in-Ok-read_value.ensures.0 c.in-Ok-read_value.ensures.1 within
