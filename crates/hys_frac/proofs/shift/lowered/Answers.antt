use Rattle.std.proofs.Common.{◌≡◌, ◌*◌, ◌/◌, ◌^◌, ◌<◌, ℕ, pos, to_z, unsigned_abs, arith, ◌∙◌, sym, ap, ap₂, subst, ◌⊎◌, inl, inr}
use mir.Syntax.{w128}
use Rattle.hys_number.specs.Gcd.{gcd-one, gcd_pos}
use Rattle.hys_number.specs.Number.{make}
use Rattle.hys_frac.proofs.Fracs.{none_fits, value_along, fits_along}
use Rattle.hys_frac.proofs.Powers.{long_den, Lowered, lowered_step, lowered_end, wide_is}
use Rattle.hys_frac.proofs.shift.lowered.Goals as goal
use Rattle.hys_frac.proofs.shift.lowered.Goals.{then-loop-left-test+else-num-gt0, else-loop-left-test}

pub loop-left-init : goal.loop-left-init
loop-left-init c = record { small = omega arith; positive = omega arith; short = omega arith; reduced = gcd-one _; value = ap (make (pos c.args.number)) (one (10 ^ c.args.power)) }
  where
    one : (x : ℕ) → 1 * x ≡ x
    one x = omega arith

pub returns-then-den-gt-LARGEST-clause-fits : goal.returns-then-den-gt-LARGEST-clause-fits
returns-then-den-gt-LARGEST-clause-fits c = none_fits _ (long_den c.loop-left.num c.loop-left.den c.loop-left.left _ c.loop-left.invariant.positive (omega arith) c.loop-left.invariant.reduced c.loop-left.invariant.value)

pub nonzero_div-num : goal.nonzero_div-num
nonzero_div-num c = subst (λ (x : ℕ). 0 < x) (sym c.gcd-common.ensures) (gcd_pos c.loop-left.num (c.loop-left.den * 10) (omega (arith, c.loop-left.invariant.positive)))

pub nonzero_div-den : goal.nonzero_div-den
nonzero_div-den c = subst (λ (x : ℕ). 0 < x) (sym c.gcd-common.ensures) (gcd_pos c.loop-left.num (c.loop-left.den * 10) (omega (arith, c.loop-left.invariant.positive)))

pub loop-left-preserved : goal.loop-left-preserved
loop-left-preserved c =
    let s : Lowered c.loop-left.num c.loop-left.den c.loop-left.left _ (c.loop-left.num / c.gcd-common.result) (c.loop-left.den * 10 / c.gcd-common.result) = lowered_step _ _ _ _ _ c.loop-left.invariant.positive (omega arith) c.gcd-common.ensures c.loop-left.invariant.value in
    record { small = omega (arith, s.small); positive = s.positive; short = omega (arith, s.short); reduced = s.reduced; value = s.value }

pub returns-clause-value : goal.returns-clause-value
returns-clause-value c =
    let ended : (c.loop-left.left ≡ 0) ⊎ (c.loop-left.num ≡ 0) = elim c.loop-left-test.branch [ then-loop-left-test+else-num-gt0 w ↦ inr (omega arith) | else-loop-left-test w ↦ inl (omega arith) ] in
    let e : make (to_z w128 c.loop-left.num) (unsigned_abs (to_z w128 c.loop-left.den)) ≡ make (pos c.args.number) (10 ^ c.args.power) = ap₂ make (wide_is c.loop-left.num (omega (arith, c.loop-left.invariant.small))) (ap unsigned_abs (wide_is c.loop-left.den (omega (arith, c.loop-left.invariant.short)))) ∙ lowered_end _ _ _ _ c.loop-left.invariant.positive ended c.loop-left.invariant.value in
    value_along _ _ c.narrow.result e c.narrow.ensures.value

pub returns-clause-fits : goal.returns-clause-fits
returns-clause-fits c =
    let ended : (c.loop-left.left ≡ 0) ⊎ (c.loop-left.num ≡ 0) = elim c.loop-left-test.branch [ then-loop-left-test+else-num-gt0 w ↦ inr (omega arith) | else-loop-left-test w ↦ inl (omega arith) ] in
    let e : make (to_z w128 c.loop-left.num) (unsigned_abs (to_z w128 c.loop-left.den)) ≡ make (pos c.args.number) (10 ^ c.args.power) = ap₂ make (wide_is c.loop-left.num (omega (arith, c.loop-left.invariant.small))) (ap unsigned_abs (wide_is c.loop-left.den (omega (arith, c.loop-left.invariant.short)))) ∙ lowered_end _ _ _ _ c.loop-left.invariant.positive ended c.loop-left.invariant.value in
    fits_along _ _ c.narrow.result e c.narrow.ensures.fits
