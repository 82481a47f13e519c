use Rattle.hys_app.specs.Checking.{IsAnswerEnd, AnswerFrom, IsChecked}
use Rattle.hys_app.proofs.Stages.{stage_next, ended_by, gone_on, calm_ok}
use Rattle.hys_app.proofs.Checking.{check_calm}
use Rattle.hys_app.proofs.check.conclude_answer.Goals as goal

pub returns-in-End-clause-reached : goal.returns-in-End-clause-reached
returns-in-End-clause-reached g c =
    let held = g.F.Files.held c.args.files.now in
    let r = g.F.Files.read_faults c.args.files.now in
    let r' = g.F.Files.read_faults c.read_certificate.new.files in
    let name = c.args.answer.now in
    ended_by (IsAnswerEnd held name) (AnswerFrom held name) (IsChecked c.args.problem.now)
    c.in_ok-outcome.field-0 c.in-End.outcome r r' c.in-End.is c.in_ok-outcome.ensures.stage

pub check_answer-requires-clause-few : goal.check_answer-requires-clause-few
check_answer-requires-clause-few g c =
    let held = g.F.Files.held c.args.files.now in
    let r = g.F.Files.read_faults c.args.files.now in
    let r' = g.F.Files.read_faults c.read_certificate.new.files in
    let name = c.args.answer.now in
    (stage_next (IsAnswerEnd held name) (AnswerFrom held name) r r' c.in_ok-outcome.field-0 c.in-Next.certificate c.in-Next.is c.in_ok-outcome.ensures.stage).0.few

pub check_answer-requires-clause-multiplied : goal.check_answer-requires-clause-multiplied
check_answer-requires-clause-multiplied g c =
    let held = g.F.Files.held c.args.files.now in
    let r = g.F.Files.read_faults c.args.files.now in
    let r' = g.F.Files.read_faults c.read_certificate.new.files in
    let name = c.args.answer.now in
    (stage_next (IsAnswerEnd held name) (AnswerFrom held name) r r' c.in_ok-outcome.field-0 c.in-Next.certificate c.in-Next.is c.in_ok-outcome.ensures.stage).0.multiplied

pub returns-in-Next-clause-reached : goal.returns-in-Next-clause-reached
returns-in-Next-clause-reached g c =
    let held = g.F.Files.held c.args.files.now in
    let r = g.F.Files.read_faults c.args.files.now in
    let r' = g.F.Files.read_faults c.read_certificate.new.files in
    let name = c.args.answer.now in
    let p = c.args.problem.now in
    gone_on (IsAnswerEnd held name) (AnswerFrom held name) (IsChecked p) c.in_ok-outcome.field-0 c.in-Next.certificate c.check_answer.result r r' r' c.in-Next.is c.in_ok-outcome.ensures.stage
    (calm_ok (IsChecked p c.in-Next.certificate) c.check_answer.result r' (check_calm p c.in-Next.certificate) c.check_answer.ensures)
