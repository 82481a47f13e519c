use Rattle.hys_parse.proofs.Worked.{numbers_cut, numbers_is}
use Rattle.hys_parse.proofs.examples.numbers.Goals as goal

pub returns : goal.returns
returns c = record { cut = numbers_cut; tree = numbers_is }
