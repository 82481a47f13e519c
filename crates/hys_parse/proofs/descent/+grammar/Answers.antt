use Rattle.std.proofs.Common.{◌≡◌, ◌<◌, length, sym, arith}
use Rattle.hys_parse.proofs.Chains.{starts, starts_not, goes_on, goes_not, ends_once, ends}
use Rattle.hys_parse.proofs.descent.+grammar.Goals as goal

pub binary-returns-in-Err-clause-gives : goal.binary-returns-in-Err-clause-gives
binary-returns-in-Err-clause-gives t c = starts_not c.in-Err.stop _ _ _ c.in-Err.ensures.gives

pub binary-loop-op-init : goal.binary-loop-op-init
binary-loop-op-init t c = (c.in-Ok.ensures.shorter, starts _ _ _ _ _ c.in-Ok.ensures.gives)

pub binary-returns-in-Err-operand-clause-gives : goal.binary-returns-in-Err-operand-clause-gives
binary-returns-in-Err-operand-clause-gives t c = goes_not c.in-Err-operand.stop _ _ _ _ _ _ _ _ c.in-Some.ensures.finds c.in-Some.ensures.shorter c.in-Err-operand.ensures.gives c.loop-op.invariant.1

pub binary-loop-op-preserved : goal.binary-loop-op-preserved
binary-loop-op-preserved t c =
    let left : c.in_ok-new-in-Ok-operand.field-0.value ≡ c.loop-op.left = c.in_ok-new-in-Ok-operand.ensures.ok in
    let right : c.in_ok-new-in-Ok-operand-2.field-0.value ≡ c.in-Ok-operand.right = c.in_ok-new-in-Ok-operand-2.ensures.ok in
    let less : length c.in-Ok-operand.more.now < length c.loop-op.rest.now = omega (arith, c.in-Ok-operand.ensures.shorter, c.in-Some.ensures.shorter) in (
      omega (arith, c.loop-op.invariant.0),
      rw (left, right) (goes_on _ _ _ _ _ _ _ _ _ _ c.in-Some.ensures.finds c.in-Ok-operand.ensures.gives less (sym c.if-not-groups.ensures) c.loop-op.invariant.1),
    )

pub binary-returns-then-not-groups-clause-gives : goal.binary-returns-then-not-groups-clause-gives
binary-returns-then-not-groups-clause-gives t c =
    let left : c.in_ok-new-in-Ok-operand.field-0.value ≡ c.loop-op.left = c.in_ok-new-in-Ok-operand.ensures.ok in
    let right : c.in_ok-new-in-Ok-operand-2.field-0.value ≡ c.in-Ok-operand.right = c.in_ok-new-in-Ok-operand-2.ensures.ok in
    rw (left, right) (ends_once _ _ _ _ _ _ _ _ _ _ c.in-Some.ensures.finds c.in-Ok-operand.ensures.gives c.in-Some.ensures.shorter (sym c.if-not-groups.ensures) c.loop-op.invariant.1)

pub binary-returns-clause-gives : goal.binary-returns-clause-gives
binary-returns-clause-gives t c = ends _ _ _ _ _ c.in_default.ensures.finds c.loop-op.invariant.1
