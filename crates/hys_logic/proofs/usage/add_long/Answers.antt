use Rattle.hys_formula.specs.Formulas.{tree_of}
use Rattle.hys_logic.proofs.Used.{long_added, only_below}
use Rattle.hys_logic.proofs.usage.add_long.Goals as goal

pub returns-clause-added : goal.returns-clause-added
returns-clause-added c =
    long_added c.args.used c.args.columns.now c.args.first_free (tree_of c.args.formula.now) c.in_ok-made.made.literal c.args.rows.now.items c.add_rows.new.rows.items c.tie.new.rows.items
    (only_below c.args.columns.now c.args.first_free (tree_of c.args.formula.now) c.requires.names) c.requires.free c.requires.long (rw (c.from.ensures) at c.in_ok-made.ensures.literal)
    (rw (c.from.ensures) at c.in_ok-made.ensures.added) c.in_ok-tie.ensures
