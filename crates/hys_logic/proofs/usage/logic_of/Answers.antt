use Rattle.std.proofs.Common.{◌≡◌, ◌<◌, ◌+◌, ◌-◌, ◌∙◌, ap, arith, sym, subst}
use Rattle.hys_formula.specs.Formulas.{tree_of}
use Rattle.hys_lin.specs.Stated.{EachBelow}
use Rattle.hys_lin.specs.Sums.{EachColumn}
use Rattle.hys_logic.specs.Literals.{column_in, number_of, LiteralBelow}
use Rattle.hys_logic.specs.Uses.{fresh_count, stated_by}
use Rattle.hys_logic.proofs.Truths.{made_rows}
use Rattle.hys_logic.proofs.Used.{rows_solved, literal_solved, used_below, used_count, only_below}
use Rattle.hys_logic.proofs.usage.logic_of.Goals as goal

pub returns-clause-solution : goal.returns-clause-solution
returns-clause-solution c = λ v i h b.
    let n : c.in_ok-made.made.next - c.from.result ≡ fresh_count c.args.used (column_in c.args.columns.now) (tree_of c.args.formula.now) = omega (arith, c.in_ok-made.ensures.next, c.from.ensures) in
    rows_solved c.of.result c.args.used c.args.columns.now c.args.first_free (c.in_ok-made.made.next - c.from.result) (tree_of c.args.formula.now) v
    (made_rows c.of.result c.new-rows.result.items c.add_logic.new.rows.items (stated_by c.args.used (column_in c.args.columns.now) c.args.first_free (tree_of c.args.formula.now)) (c.args.first_free + fresh_count c.args.used (column_in c.args.columns.now) (tree_of c.args.formula.now)) c.of.ensures c.new-rows.ensures.items c.in_ok-made.ensures.added).0
    n i h b

pub returns-clause-literal : goal.returns-clause-literal
returns-clause-literal c = λ v i a. c.in_ok-literal.ensures.value v ∙ ap (λ l. number_of l v) c.in_ok-made.ensures.literal ∙ literal_solved c.args.used c.args.columns.now c.args.first_free (tree_of c.args.formula.now) v i a

pub returns-clause-count : goal.returns-clause-count
returns-clause-count c =
    used_count c.args.used c.args.columns.now c.args.first_free (tree_of c.args.formula.now) c.of.result
    (made_rows c.of.result c.new-rows.result.items c.add_logic.new.rows.items (stated_by c.args.used (column_in c.args.columns.now) c.args.first_free (tree_of c.args.formula.now)) (c.args.first_free + fresh_count c.args.used (column_in c.args.columns.now) (tree_of c.args.formula.now)) c.of.ensures c.new-rows.ensures.items c.in_ok-made.ensures.added).0

pub returns-clause-below : goal.returns-clause-below
returns-clause-below c =
    let n : c.args.first_free + (c.in_ok-made.made.next - c.from.result) ≡ c.args.first_free + fresh_count c.args.used (column_in c.args.columns.now) (tree_of c.args.formula.now) = omega (arith, c.in_ok-made.ensures.next, c.from.ensures) in
    let below : LiteralBelow (c.args.first_free + fresh_count c.args.used (column_in c.args.columns.now) (tree_of c.args.formula.now)) c.in_ok-made.made.literal =
    rw (c.in_ok-made.ensures.literal) (used_below c.args.used c.args.columns.now c.args.first_free (tree_of c.args.formula.now) (only_below c.args.columns.now c.args.first_free (tree_of c.args.formula.now) c.requires.names) c.requires.free) in
    subst (λ m. EachBelow m c.of.result × EachColumn (λ d. d < m) c.in_ok-literal.literal.terms) (sym n) (
      (made_rows c.of.result c.new-rows.result.items c.add_logic.new.rows.items (stated_by c.args.used (column_in c.args.columns.now) c.args.first_free (tree_of c.args.formula.now)) (c.args.first_free + fresh_count c.args.used (column_in c.args.columns.now) (tree_of c.args.formula.now)) c.of.ensures c.new-rows.ensures.items c.in_ok-made.ensures.added).1,
      c.in_ok-literal.ensures.below (c.args.first_free + fresh_count c.args.used (column_in c.args.columns.now) (tree_of c.args.formula.now)) below,
    )
