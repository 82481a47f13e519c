use Rattle.std.proofs.Common.{refl}
use Rattle.hys_logic.specs.declared.row.Sign.TheVariants.{Plus, Minus}
use Rattle.hys_logic.proofs.Terms.{double_sum, gone_sum, gone_sum'}
use Rattle.hys_logic.proofs.row.doubled.Goals as goal

pub returns-in_ok-single-in-Plus-Plus : goal.returns-in_ok-single-in-Plus-Plus
returns-in_ok-single-in-Plus-Plus c = rw (c.in-Plus-Plus.is-0, c.in-Plus-Plus.is-1) (double_sum c.args.column Plus c.in_ok-single-in-Plus-Plus.field-0.items (rw (c.in_ok-single-in-Plus-Plus.ensures, c.twice.ensures, c.in-Plus-Plus.is-0) refl))

pub returns-in_ok-single-in-Minus-Minus : goal.returns-in_ok-single-in-Minus-Minus
returns-in_ok-single-in-Minus-Minus c = rw (c.in-Minus-Minus.is-0, c.in-Minus-Minus.is-1) (double_sum c.args.column Minus c.in_ok-single-in-Minus-Minus.field-0.items (rw (c.in_ok-single-in-Minus-Minus.ensures, c.twice-in-Minus-Minus.ensures, c.in-Minus-Minus.is-0) refl))

pub returns-in-Plus-Minus : goal.returns-in-Plus-Minus
returns-in-Plus-Minus c = rw (c.in-Plus-Minus.is-0, c.in-Plus-Minus.is-1) (gone_sum c.args.column c.new.result.items c.new.ensures.items)

pub returns-in-Minus-Plus : goal.returns-in-Minus-Plus
returns-in-Minus-Plus c = rw (c.in-Minus-Plus.is-0, c.in-Minus-Plus.is-1) (gone_sum' c.args.column c.new-in-Minus-Plus.result.items c.new-in-Minus-Plus.ensures.items)
