use Rattle.hys_formula.specs.Formulas.{tree_of, nodes}
use Rattle.hys_logic.proofs.formula.+add_rows.Given as goal

-- the nodes of the formula
abbrev pub decreases-add_rows : goal.decreases-add_rows
decreases-add_rows l = nodes (tree_of l.formula.now)
