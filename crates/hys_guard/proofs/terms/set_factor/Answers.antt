use Rattle.hys_guard.proofs.Lists.{put_in, left_out}
use Rattle.hys_lin.specs.Scaled.{coefficient}
use Rattle.hys_guard.proofs.terms.set_factor.Goals as goal

pub returns : goal.returns
returns c = put_in c.args.column c.take_out-place.result (coefficient c.args.terms.now.items c.args.column) c.args.factor c.args.terms.now.items c.take_out-place.new.terms.items c.insert.new.self.items
    c.take_out-place.ensures (λ e. absurd (cc (c.is_zero.ensures.1 e, c.if-is_zero.false))) c.in_ok-insert.ensures.items

pub returns-then-is_zero : goal.returns-then-is_zero
returns-then-is_zero c = left_out c.args.column c.take_out-place.result (coefficient c.args.terms.now.items c.args.column) c.args.factor c.args.terms.now.items c.take_out-place.new.terms.items
    c.take_out-place.ensures (c.is_zero.ensures.0 c.if-is_zero.true)
