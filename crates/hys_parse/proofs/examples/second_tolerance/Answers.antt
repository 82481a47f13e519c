use Rattle.hys_parse.proofs.Worked.{bracket_cut, bracket_is}
use Rattle.hys_parse.proofs.examples.second_tolerance.Goals as goal

pub returns : goal.returns
returns c = record { cut = bracket_cut; fault = bracket_is }
