use Rattle.hys_formula.specs.Formulas.{tree_of}
use Rattle.hys_logic.proofs.Used.{only_within}
use Rattle.hys_logic.proofs.usage.add_logic.Goals as goal

pub short_names-requires-clause-names : goal.short_names-requires-clause-names
short_names-requires-clause-names c = only_within c.args.columns.now c.args.first_free (tree_of c.args.formula.now) c.requires.names
