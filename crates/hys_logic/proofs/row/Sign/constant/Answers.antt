use Rattle.std.proofs.Common.{◌∙◌, sym}
use Rattle.hys_number.proofs.Ring.{int-whole, int_minus}
use Rattle.hys_logic.proofs.Terms.{signed-none}
use Rattle.hys_logic.proofs.row.Sign.constant.Goals as goal

pub returns-in-Plus-true-clause-value : goal.returns-in-Plus-true-clause-value
returns-in-Plus-true-clause-value c = rw (c.in-Plus-true.is-0, c.in-Plus-true.is-1) (int-whole 1)

pub returns-in-Minus-true-clause-value : goal.returns-in-Minus-true-clause-value
returns-in-Minus-true-clause-value c = rw (c.in-Minus-true.is-0, c.in-Minus-true.is-1) int_minus

pub returns-in_default-false-clause-value : goal.returns-in_default-false-clause-value
returns-in_default-false-clause-value c = rw (c.in_default-false.is-1) (int-whole 0 ∙ sym (signed-none c.args.self))
