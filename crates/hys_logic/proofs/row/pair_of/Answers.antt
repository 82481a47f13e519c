use Rattle.std.proofs.Common.{◌≤◌, ◌∙◌, ap, arith, refl, unsigned_abs}
use Rattle.hys_logic.specs.Rows.{moved_by}
use Rattle.hys_logic.proofs.Smalls.{back}
use Rattle.hys_logic.proofs.row.pair_of.Goals as goal

pub returns-clause-stated : goal.returns-clause-stated
returns-clause-stated c = record {
  terms = rw (c.of.ensures) (c.in_ok-terms.ensures.terms);
  sums = λ v. rw (c.of.ensures) (c.in_ok-terms.ensures.sums v);
  bounds = c.moved.ensures ∙ ap (moved_by c.args.left.sign c.args.left.literal c.args.right.sign c.args.right.literal) (back c.args.base (let h : unsigned_abs c.args.base ≤ 1 = c.requires.base in omega arith));
  at_most = refl;
}

pub returns-clause-below : goal.returns-clause-below
returns-clause-below c = λ n l m. rw (c.of.ensures) (c.in_ok-terms.ensures.below n l m)
