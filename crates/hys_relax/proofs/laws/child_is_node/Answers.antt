use Rattle.hys_relax.proofs.Children.{node_child}
use Rattle.hys_relax.proofs.laws.child_is_node.Goals as goal

pub returns : goal.returns
returns c = node_child
