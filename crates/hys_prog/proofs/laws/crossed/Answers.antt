use Rattle.hys_prog.proofs.Crossed.{crossed_program}
use Rattle.hys_prog.proofs.laws.crossed.Goals as goal

pub returns : goal.returns
returns c = crossed_program
