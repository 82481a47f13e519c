use Rattle.std.proofs.Common.{rules}
use Rattle.hys_sys.proofs.Solving.{lost_same, lost_passed}
use Rattle.hys_sys.proofs.solves.holds.Goals as goal

pub returns-in_err-rows_hold-clause-lost : goal.returns-in_err-rows_hold-clause-lost
returns-in_err-rows_hold-clause-lost c = lost_passed _ _ _ c.in_err-rows_hold.field-0.0 _ c.items.ensures (search rules) c.in_err-rows_hold.ensures.lost

pub returns-then-not-branch-clause-lost : goal.returns-then-not-branch-clause-lost
returns-then-not-branch-clause-lost c = lost_same _ _ _ _ _ c.items.ensures c.in_ok-rows_hold.ensures.lost

pub returns-clause-lost : goal.returns-clause-lost
returns-clause-lost c = lost_same _ _ _ _ _ c.items.ensures c.in_ok-rows_hold.ensures.lost

pub rows_hold-requires : goal.rows_hold-requires
rows_hold-requires c = rw (c.items.ensures, c.requires.long) c.requires.rows
