use Rattle.std.proofs.Common.{◌≡◌, subst, inl, inr, true, false, Bool, not, refl}
use Rattle.hys_number.specs.Ops.{◌≤ₙ◌, whole}
use Rattle.hys_number.proofs.Order.{le_antisymm}
use Rattle.hys_search.proofs.columns.is_between.Goals as goal

turned : (b : Bool) → not b ≡ false → b ≡ true
turned true e = refl
turned false e = cc

pub returns-then-is_at_most-clause-bit : goal.returns-then-is_at_most-clause-bit
returns-then-is_at_most-clause-bit c = λ _. inl (le_antisymm c.args.value (whole 0) (subst (λ z. c.args.value ≤ₙ z) c.whole.ensures (c.is_at_most.ensures.holds c.if-is_at_most.true)) c.requires.above)

pub returns-clause-bit : goal.returns-clause-bit
returns-clause-bit c = λ e. inr (le_antisymm c.args.value (whole 1) c.requires.below (subst (λ z. z ≤ₙ c.args.value) c.whole-2.ensures (c.is_at_most-2.ensures.holds (turned c.is_at_most-2.result e))))
