use Rattle.hys_prog.proofs.Crossed.{crossed_lawful}
use Rattle.hys_prog.proofs.examples.crossed.Goals as goal

pub returns-clause-lawful : goal.returns-clause-lawful
returns-clause-lawful c = crossed_lawful c.args.column c.build.result c.requires c.build.ensures
