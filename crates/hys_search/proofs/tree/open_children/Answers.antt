use Rattle.std.proofs.Common.{ap, arith}
use Rattle.hys_search.proofs.tree.open_children.Goals as goal
use Rattle.hys_search.specs.Nodes.{first_child}

pub overflow_add-first : goal.overflow_add-first
overflow_add-first c = omega (arith, c.requires c.in-Inner.first (ap first_child c.in-Inner.is))
