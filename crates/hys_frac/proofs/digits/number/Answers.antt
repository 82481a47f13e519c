use Rattle.std.proofs.Common.{arith, ◌∙◌, sym, drop, ◌+◌, get_or}
use Rattle.hys_frac.proofs.Numerals.{Step, digit_step, drop_here}
use Rattle.hys_frac.proofs.digits.number.Goals as goal

pub overflow_mul-value : goal.overflow_mul-value
overflow_mul-value c = let s : Step c.loop-digit.value (get_or c.args.digits.now c.loop-digit.digit-index 0) (drop c.loop-digit.digit-index c.args.digits.now) (drop (c.loop-digit.digit-index + 1) c.args.digits.now) = digit_step _ _ _ _ (drop_here _ _ c.loop-digit-test.true) c.loop-digit.invariant.digits c.loop-digit.invariant.room in omega (arith, s.small)

pub overflow_add-value : goal.overflow_add-value
overflow_add-value c = let s : Step c.loop-digit.value (get_or c.args.digits.now c.loop-digit.digit-index 0) (drop c.loop-digit.digit-index c.args.digits.now) (drop (c.loop-digit.digit-index + 1) c.args.digits.now) = digit_step _ _ _ _ (drop_here _ _ c.loop-digit-test.true) c.loop-digit.invariant.digits c.loop-digit.invariant.room in omega (arith, s.small)

pub loop-digit-preserved : goal.loop-digit-preserved
loop-digit-preserved c =
    let s : Step c.loop-digit.value (get_or c.args.digits.now c.loop-digit.digit-index 0) (drop c.loop-digit.digit-index c.args.digits.now) (drop (c.loop-digit.digit-index + 1) c.args.digits.now) = digit_step _ _ _ _ (drop_here _ _ c.loop-digit-test.true) c.loop-digit.invariant.digits c.loop-digit.invariant.room in
    record { digits = s.digits; value = sym s.value ∙ c.loop-digit.invariant.value; room = s.room }
