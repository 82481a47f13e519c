use Rattle.std.proofs.Common.{◌≡◌, ◌↔◌, Bool, true, false, cond, IsTrue, refl, sym, ap, ◌∙◌}
use Rattle.std.specs.Bool.{beq}
use Rattle.hys_number.specs.Number.{Number}
use Rattle.hys_number.specs.Ops.{◌<ₙ◌, whole}
use Rattle.hys_lin.specs.Ranges.{end_by_sign}
use Rattle.hys_lin.specs.declared.form.Interval.{Interval}
use Rattle.hys_lin.proofs.Ranging.{end_negative, end_else}
use Rattle.hys_lin.proofs.range.side.Goals as goal

chosen : (t g : Bool) (a : Number) (i : Interval) → (IsTrue t ↔ (a <ₙ whole 0)) → cond (beq t g) i.low i.high ≡ end_by_sign g a.num i
chosen true true a i h = sym (end_negative true a i (h.0 refl))
chosen true false a i h = sym (end_negative false a i (h.0 refl))
chosen false true a i h = sym (end_else true a i (λ l. absurd (cc (h.1 l))))
chosen false false a i h = sym (end_else false a i (λ l. absurd (cc (h.1 l))))

pub returns-then-is_negative-greatest : goal.returns-then-is_negative-greatest
returns-then-is_negative-greatest c = sym (ap (λ (q : Bool). cond q c.args.range.low c.args.range.high) c.if-is_negative-greatest.true) ∙ chosen c.is_negative.result c.args.greatest c.args.factor c.args.range c.is_negative.ensures

pub returns-else-is_negative-greatest : goal.returns-else-is_negative-greatest
returns-else-is_negative-greatest c = sym (ap (λ (q : Bool). cond q c.args.range.low c.args.range.high) c.if-is_negative-greatest.false) ∙ chosen c.is_negative.result c.args.greatest c.args.factor c.args.range c.is_negative.ensures
