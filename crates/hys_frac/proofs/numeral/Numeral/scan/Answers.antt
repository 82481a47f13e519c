use Rattle.std.proofs.Common.{◌+◌, ◌-◌, drop, arith, ◌∙◌, sym}
use Rattle.std.proofs.Math.Nat.{sub-zero}
use borrow.Author.Tests.{eq-eqb, ne_eqb}
use Rattle.std.specs.Float.Numeral.{scan_numeral}
use Rattle.hys_frac.proofs.Numerals.{digits_at_front}
use Rattle.hys_frac.proofs.numeral.Numeral.scan.Goals as goal

pub with_exponent-requires-clause-digits : goal.with_exponent-requires-clause-digits
with_exponent-requires-clause-digits c = (digits_at_front c.args.text.now c.digits_end-whole_end.result (omega (arith, c.digits_end-whole_end.ensures.end)), tt)

pub returns-then-byte_at-ne46-clause-parts : goal.returns-then-byte_at-ne46-clause-parts
unfolding scan_numeral
returns-then-byte_at-ne46-clause-parts c =
    let e = c.with_exponent.ensures in
    let point = ne_eqb _ 46 (λ x. c.if-byte_at-ne46.true (c.byte_at.ensures ∙ x)) in
    rw (← c.digits_end-whole_end.ensures.end, point, sub-zero)
    (λ i. record { whole = e.whole i; point = e.point i; fraction = e.fraction i; exponent_negative = e.sign i; exponent = e.exponent i; len = e.len i })

pub with_exponent-requires-2-clause-digits : goal.with_exponent-requires-2-clause-digits
with_exponent-requires-2-clause-digits c = (
  digits_at_front c.args.text.now c.digits_end-whole_end.result (omega (arith, c.digits_end-whole_end.ensures.end)),
  digits_at_front (drop (c.digits_end-whole_end.result + 1) c.args.text.now) (c.digits_end-end.result - (c.digits_end-whole_end.result + 1)) (omega (arith, c.digits_end-end.ensures.end)),
)

pub returns-clause-parts : goal.returns-clause-parts
unfolding scan_numeral
returns-clause-parts c =
    let e = c.with_exponent-2.ensures in
    let point = eq-eqb _ 46 (sym c.byte_at.ensures ∙ c.if-byte_at-ne46.false) in
    rw (← c.digits_end-whole_end.ensures.end, point, ← c.digits_end-end.ensures.end, sub-zero)
    (λ i. record { whole = e.whole i; point = e.point i; fraction = e.fraction i; exponent_negative = e.sign i; exponent = e.exponent i; len = e.len i })
