use Rattle.std.proofs.Common.{◌≡◌, Bool, true, false, refl}
use Rattle.std.specs.Bool.{beq}
use Rattle.hys_dual.proofs.Comparing.{toward_same, toward_other}
use Rattle.hys_dual.proofs.entering.is_toward.Goals as goal

alike : (a b : Bool) → beq a b ≡ true → a ≡ b
alike true true e = refl
alike false false e = refl
alike true false e = absurd (cc)
alike false true e = absurd (cc)

unlike : (a b : Bool) → beq a b ≡ false → a ≡ b → ⊥
unlike true true e f = absurd (cc)
unlike false false e f = absurd (cc)
unlike true false e f = absurd (cc)
unlike false true e f = absurd (cc)

pub returns-then-under-above : goal.returns-then-under-above
returns-then-under-above c = toward_same c.args.under c.args.above c.args.cell c.is_positive.result (alike c.args.under c.args.above c.if-under-above.true) c.is_positive.ensures

pub returns : goal.returns
returns c = toward_other c.args.under c.args.above c.args.cell c.is_negative.result (unlike c.args.under c.args.above c.if-under-above.false) c.is_negative.ensures
