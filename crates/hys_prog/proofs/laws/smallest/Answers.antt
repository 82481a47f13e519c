use Rattle.hys_prog.proofs.Smallest.{is_program}
use Rattle.hys_prog.proofs.laws.smallest.Goals as goal

pub returns : goal.returns
returns c = is_program
