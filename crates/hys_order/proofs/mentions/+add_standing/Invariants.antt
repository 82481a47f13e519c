use Rattle.hys_formula.specs.Formulas.{tree_of, nodes}
use Rattle.hys_order.proofs.mentions.+add_standing.Given as goal

-- the nodes of the formula
abbrev pub decreases-add_standing : goal.decreases-add_standing
decreases-add_standing l = nodes (tree_of l.formula.now)
