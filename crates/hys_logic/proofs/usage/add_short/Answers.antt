use Rattle.std.proofs.Common.{[]}
use Rattle.hys_formula.specs.Formulas.{tree_of}
use Rattle.hys_logic.specs.Literals.{column_in}
use Rattle.hys_logic.proofs.TableMeans.{names_rise}
use Rattle.hys_logic.proofs.Used.{short_added, target_absent, only_below, only_within}
use Rattle.hys_logic.proofs.usage.add_short.Goals as goal

pub add_table-requires-clause-names : goal.add_table-requires-clause-names
add_table-requires-clause-names c = only_within c.args.columns.now c.args.first_free (tree_of c.args.formula.now) c.requires.names

pub add_table-requires-clause-rising : goal.add_table-requires-clause-rising
add_table-requires-clause-rising c = rw (c.new-made.ensures.items, c.requires.own) (names_rise (column_in c.args.columns.now) (tree_of c.args.formula.now) [] tt)

pub add_table-requires-clause-absent : goal.add_table-requires-clause-absent
add_table-requires-clause-absent c =
    rw (c.new-made.ensures.items, c.requires.own, c.target-target.ensures) (target_absent c.args.used c.args.columns.now c.args.first_free (tree_of c.args.formula.now) (only_below c.args.columns.now c.args.first_free (tree_of c.args.formula.now) c.requires.names) c.requires.free)

pub returns-clause-added : goal.returns-clause-added
returns-clause-added c =
    short_added c.args.used c.args.columns.now c.args.first_free (tree_of c.args.formula.now) c.target-target.result c.args.rows.now.items c.add_table.new.rows.items
    (only_below c.args.columns.now c.args.first_free (tree_of c.args.formula.now) c.requires.names) c.requires.free c.requires.short c.target-target.ensures
    (rw (c.new-made.ensures.items, c.requires.own) at c.in_ok-add_table.ensures.added)
