use Rattle.hys_tree.proofs.WorkedTrees.{worked_tree}
use Rattle.hys_tree.proofs.laws.worked_tree.Goals as goal

pub returns : goal.returns
returns c = worked_tree
