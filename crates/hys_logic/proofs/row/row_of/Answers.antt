use Rattle.std.proofs.Common.{◌≤◌, ◌∙◌, ap, arith, refl, unsigned_abs}
use Rattle.hys_logic.specs.Rows.{moved_by}
use Rattle.hys_logic.proofs.Terms.{row_terms, row_sums, row_below}
use Rattle.hys_logic.proofs.Smalls.{back}
use Rattle.hys_logic.proofs.row.row_of.Goals as goal

pub returns-clause-stated : goal.returns-clause-stated
returns-clause-stated c = record {
  terms = row_terms c.in_ok-terms.terms.items c.of.result c.args.left.sign c.args.left.literal c.args.right.sign c.args.right.literal c.args.own c.args.column c.term.result
      c.in_ok-terms.ensures c.requires.left c.requires.right c.term.ensures (c.of.ensures ∙ c.in_ok-push.ensures.items);
  sums = row_sums c.in_ok-terms.terms.items c.of.result c.args.left.sign c.args.left.literal c.args.right.sign c.args.right.literal c.args.own c.args.column c.term.result
      c.in_ok-terms.ensures c.term.ensures (c.of.ensures ∙ c.in_ok-push.ensures.items);
  bounds = c.moved.ensures ∙ ap (moved_by c.args.left.sign c.args.left.literal c.args.right.sign c.args.right.literal) (back c.args.base (let h : unsigned_abs c.args.base ≤ 1 = c.requires.base in omega arith));
  at_most = refl;
}

pub returns-clause-below : goal.returns-clause-below
returns-clause-below c = row_below c.in_ok-terms.terms.items c.of.result c.args.left.sign c.args.left.literal c.args.right.sign c.args.right.literal c.args.own c.args.column c.term.result
    c.in_ok-terms.ensures c.requires.left c.requires.right c.term.ensures (c.of.ensures ∙ c.in_ok-push.ensures.items)
