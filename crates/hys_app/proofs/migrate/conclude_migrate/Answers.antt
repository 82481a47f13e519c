use Rattle.hys_app.specs.Migrating.{IsMatrixEnd, SystemFrom}
use Rattle.hys_app.proofs.Stages.{stage_end, stage_next}
use Rattle.hys_app.proofs.Migrating.{migrate_ended, migrate_done}
use Rattle.hys_app.proofs.migrate.conclude_migrate.Goals as goal

pub returns-in-End-clause-reached : goal.returns-in-End-clause-reached
returns-in-End-clause-reached g c =
    let held = g.F.Files.held c.args.files.now in
    let r = g.F.Files.read_faults c.args.files.now in
    let r' = g.F.Files.read_faults c.read_matrices.new.files in
    migrate_ended held c.args.old.now c.args.new.now c.in-End.outcome r r'
    (stage_end (IsMatrixEnd held c.args.old.now) (SystemFrom held c.args.old.now) r r' c.in_ok-outcome.field-0 c.in-End.outcome c.in-End.is c.in_ok-outcome.ensures.stage)

pub returns-in-Next-clause-reached : goal.returns-in-Next-clause-reached
returns-in-Next-clause-reached g c =
    let held = g.F.Files.held c.args.files.now in
    let r = g.F.Files.read_faults c.args.files.now in
    let r' = g.F.Files.read_faults c.read_matrices.new.files in
    let n = stage_next (IsMatrixEnd held c.args.old.now) (SystemFrom held c.args.old.now) r r' c.in_ok-outcome.field-0 c.in-Next.system c.in-Next.is c.in_ok-outcome.ensures.stage in
    migrate_done held c.args.old.now c.args.new.now c.in-Next.system c.report_migrated.result r r' n.0 n.1 c.report_migrated.ensures
