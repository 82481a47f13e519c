use Rattle.hys_formula.specs.Formulas.{tree_of}
use Rattle.hys_logic.specs.Literals.{column_in}
use Rattle.hys_rows.proofs.Adding.{define_count}
use Rattle.hys_rows.proofs.body.add_logic.Goals as goal

pub returns-clause-added : goal.returns-clause-added
returns-clause-added c = rw (define_count c.args.own (column_in c.args.columns.now) (tree_of c.args.formula.now)) at c.in_ok-fresh.ensures.added
