use Rattle.hys_app.specs.Compiling.{IsSourceEnd, CompiledFrom}
use Rattle.hys_app.proofs.Stages.{stage_end, stage_next}
use Rattle.hys_app.proofs.Compiling.{compile_ended, compile_done}
use Rattle.hys_app.proofs.compile.conclude_compile.Goals as goal

pub returns-in-End-clause-reached : goal.returns-in-End-clause-reached
returns-in-End-clause-reached g c =
    let held = g.F.Files.held c.args.files.now in
    let r = g.F.Files.read_faults c.args.files.now in
    let r' = g.F.Files.read_faults c.read_source.new.files in
    compile_ended c.args.tolerance held c.args.source.now c.args.target.now c.in-End.outcome r r'
    (stage_end (IsSourceEnd c.args.tolerance held c.args.source.now) (CompiledFrom c.args.tolerance held c.args.source.now) r r' c.in_ok-outcome.field-0 c.in-End.outcome c.in-End.is c.in_ok-outcome.ensures.stage)

pub returns-in-Next-clause-reached : goal.returns-in-Next-clause-reached
returns-in-Next-clause-reached g c =
    let held = g.F.Files.held c.args.files.now in
    let r = g.F.Files.read_faults c.args.files.now in
    let r' = g.F.Files.read_faults c.read_source.new.files in
    let n = stage_next (IsSourceEnd c.args.tolerance held c.args.source.now) (CompiledFrom c.args.tolerance held c.args.source.now) r r' c.in_ok-outcome.field-0 c.in-Next.compiled c.in-Next.is c.in_ok-outcome.ensures.stage in
    compile_done c.args.tolerance held c.args.source.now c.args.target.now c.in-Next.compiled c.report_system.result r r' n.0 n.1 c.report_system.ensures
