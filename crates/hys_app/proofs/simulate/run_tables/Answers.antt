use Rattle.hys_app.proofs.Simulating.{tables_refused}
use Rattle.hys_app.proofs.simulate.run_tables.Goals as goal

pub returns-in-Err : goal.returns-in-Err
returns-in-Err c =
    tables_refused c.args.compiled.now c.args.start.now c.args.inputs.now c.args.target.now c.args.first.now c.args.others.now c.in-Err.fault c.report_tables.result
    c.in-Err.ensures.judged c.report_tables.ensures.said c.report_tables.ensures.known
