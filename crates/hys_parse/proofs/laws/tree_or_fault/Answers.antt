use Rattle.hys_parse.proofs.OneFault.{tree_or_fault}
use Rattle.hys_parse.proofs.laws.tree_or_fault.Goals as goal

pub returns : goal.returns
returns c = tree_or_fault
