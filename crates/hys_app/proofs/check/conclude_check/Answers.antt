use Rattle.std.proofs.Common.{subst, IfOk, Option}
use Rattle.hys_io.specs.Outside.{Named}
use Rattle.hys_sys.specs.declared.system.System.{System}
use Rattle.hys_app.specs.declared.outcome.Outcome.{Outcome}
use Rattle.hys_app.specs.Ends.{IsReached}
use Rattle.hys_app.specs.Migrating.{IsMatrixEnd, SystemFrom}
use Rattle.hys_app.specs.Checking.{IsAskedOutcome}
use Rattle.hys_app.proofs.Stages.{stage_next, ended_by, gone_on}
use Rattle.hys_app.proofs.check.conclude_check.Goals as goal

pub returns-in-End-clause-reached : goal.returns-in-End-clause-reached
returns-in-End-clause-reached g c =
    let held = g.F.Files.held c.args.files.now in
    let r = g.F.Files.read_faults c.args.files.now in
    let r' = g.F.Files.read_faults c.read_matrices.new.files in
    let name = c.args.matrices.now in
    ended_by (IsMatrixEnd held name) (SystemFrom held name) (λ s. IsAskedOutcome s held c.args.request.now c.args.answer.now)
    c.in_ok-outcome.field-0 c.in-End.outcome r r' c.in-End.is c.in_ok-outcome.ensures.stage

pub conclude_asked-requires : goal.conclude_asked-requires
conclude_asked-requires g c =
    let held = g.F.Files.held c.args.files.now in
    let r = g.F.Files.read_faults c.args.files.now in
    let r' = g.F.Files.read_faults c.read_matrices.new.files in
    let name = c.args.matrices.now in
    (stage_next (IsMatrixEnd held name) (SystemFrom held name) r r' c.in_ok-outcome.field-0 c.in-Next.system c.in-Next.is c.in_ok-outcome.ensures.stage).0.lawful

pub returns-in-Next-clause-reached : goal.returns-in-Next-clause-reached
returns-in-Next-clause-reached g c =
    let held = g.F.Files.held c.args.files.now in
    let r = g.F.Files.read_faults c.args.files.now in
    let m = g.F.Files.read_faults c.read_matrices.new.files in
    let r' = g.F.Files.read_faults c.conclude_asked.new.files in
    let name = c.args.matrices.now in
    let outcome : Option Named → System → Outcome → Type 0 = λ at s. IsAskedOutcome s at c.args.request.now c.args.answer.now in
    gone_on (IsMatrixEnd held name) (SystemFrom held name) (outcome held) c.in_ok-outcome.field-0 c.in-Next.system c.conclude_asked.result r m r' c.in-Next.is c.in_ok-outcome.ensures.stage
    (subst (λ at. IfOk c.conclude_asked.result (λ o. IsReached (outcome at c.in-Next.system) o m r')) c.read_matrices.ensures.held c.conclude_asked.ensures.reached)
