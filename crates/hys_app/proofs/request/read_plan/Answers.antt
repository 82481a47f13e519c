use Rattle.std.proofs.Common.{rules}
use Rattle.hys_stack.specs.Texts.{most_bytes}
use Rattle.hys_app.proofs.Stages.{bytes_end, bytes_none, bytes_some}
use Rattle.hys_app.proofs.Planning.{request_unread, request_long, request_text_read}
use Rattle.hys_app.proofs.request.read_plan.Goals as goal

pub returns-in-End-clause-stage : goal.returns-in-End-clause-stage
returns-in-End-clause-stage g c =
    let held = g.F.Files.held c.args.files.now in
    let r = g.F.Files.read_faults c.args.files.now in
    let r' = g.F.Files.read_faults c.read_bytes.new.files in
    request_unread c.args.system.now held c.args.name.now c.in-End.outcome r r'
    (bytes_end held c.args.name.now most_bytes r r' c.in_ok-outcome.field-0 c.in-End.outcome c.in-End.is c.in_ok-outcome.ensures.stage)

pub returns-in_ok-report_long-in-Next-None-clause-stage : goal.returns-in_ok-report_long-in-Next-None-clause-stage
returns-in_ok-report_long-in-Next-None-clause-stage g c =
    let held = g.F.Files.held c.args.files.now in
    let r = g.F.Files.read_faults c.args.files.now in
    let r' = g.F.Files.read_faults c.read_bytes.new.files in
    let b = bytes_none held c.args.name.now most_bytes r r' c.in_ok-outcome.field-0 c.in-Next-None.field-0 c.in-Next-None.is c.in-Next-None.field-0-is c.in_ok-outcome.ensures.stage in
    request_long c.args.system.now held c.args.name.now c.in_ok-report_long-in-Next-None.field-0 r r' c.in_ok-report_long-in-Next-None.ensures b.0 b.1

pub returns-in-Next-Some-clause-stage : goal.returns-in-Next-Some-clause-stage
returns-in-Next-Some-clause-stage g c =
    let held = g.F.Files.held c.args.files.now in
    let r = g.F.Files.read_faults c.args.files.now in
    let r' = g.F.Files.read_faults c.read_bytes.new.files in
    let b = bytes_some held c.args.name.now most_bytes r r' c.in_ok-outcome.field-0 c.in-Next-Some.field-0 c.in-Next-Some.text c.in-Next-Some.is c.in-Next-Some.field-0-is c.in_ok-outcome.ensures.stage in
    request_text_read c.args.system.now held c.args.name.now c.in-Next-Some.text c.read_text.result r r' (search rules) b.0.0 b.1
