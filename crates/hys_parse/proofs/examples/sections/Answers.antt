use Rattle.hys_parse.proofs.Worked.{sections_cut, sections_is}
use Rattle.hys_parse.proofs.examples.sections.Goals as goal

pub returns : goal.returns
returns c = record { cut = sections_cut; tree = sections_is }
