use Rattle.hys_parse.proofs.Worked.{formulas_cut, formulas_is}
use Rattle.hys_parse.proofs.examples.formulas.Goals as goal

pub returns : goal.returns
returns c = record { cut = formulas_cut; tree = formulas_is }
