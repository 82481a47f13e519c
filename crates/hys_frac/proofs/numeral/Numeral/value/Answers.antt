use Rattle.std.proofs.Common.{◌+◌, ◌^◌, ◌<◌, ◌≤◌, length, arith, ◌∙◌, sym, ap, subst}
use Rattle.std.specs.Str.Parse.{digits_value}
use Rattle.std.specs.Float.Numeral.{Parts}
use Rattle.hys_frac.specs.Read.{literal_value}
use Rattle.hys_frac.proofs.Fracs.{value_along, fits_along}
use Rattle.hys_frac.proofs.Readings.{literal_down, literal_up, short_room, short_digits, both_room, both_digits, both_small}
use Rattle.hys_frac.proofs.numeral.Numeral.value.Goals as goal

pub number-requires-clause-room : goal.number-requires-clause-room
number-requires-clause-room c =
    let len : c.self.inside.len ≤ 32 = subst (λ (p : Parts). p.len ≤ 32) (sym c.self.view_is) c.requires in
    let all : length c.self.inside.whole.now + length c.self.inside.fraction.now + length c.self.inside.exponent.now ≤ c.self.inside.len = c.self.invariant.3 in
    short_room (length c.self.inside.whole.now) (omega arith)

pub number-digits-requires-clause-room : goal.number-digits-requires-clause-room
number-digits-requires-clause-room c =
    let len : c.self.inside.len ≤ 32 = subst (λ (p : Parts). p.len ≤ 32) (sym c.self.view_is) c.requires in
    let all : length c.self.inside.whole.now + length c.self.inside.fraction.now + length c.self.inside.exponent.now ≤ c.self.inside.len = c.self.invariant.3 in
    both_room c.self.inside.whole.now c.self.inside.fraction.now _ c.self.invariant.0 c.number.ensures (omega arith)

pub number-exponent-requires-clause-room : goal.number-exponent-requires-clause-room
number-exponent-requires-clause-room c =
    let len : c.self.inside.len ≤ 32 = subst (λ (p : Parts). p.len ≤ 32) (sym c.self.view_is) c.requires in
    let all : length c.self.inside.whole.now + length c.self.inside.fraction.now + length c.self.inside.exponent.now ≤ c.self.inside.len = c.self.invariant.3 in
    short_room (length c.self.inside.exponent.now) (omega arith)

pub overflow_add-places : goal.overflow_add-places
overflow_add-places c =
    let len : c.self.inside.len ≤ 32 = subst (λ (p : Parts). p.len ≤ 32) (sym c.self.view_is) c.requires in
    let all : length c.self.inside.whole.now + length c.self.inside.fraction.now + length c.self.inside.exponent.now ≤ c.self.inside.len = c.self.invariant.3 in
    let x : digits_value 10 c.self.inside.exponent.now < 10 ^ 36 = short_digits c.self.inside.exponent.now c.self.invariant.2 (omega arith) in omega (arith, c.number-exponent.ensures)

pub shifted-requires : goal.shifted-requires
shifted-requires c =
    let len : c.self.inside.len ≤ 32 = subst (λ (p : Parts). p.len ≤ 32) (sym c.self.view_is) c.requires in
    let all : length c.self.inside.whole.now + length c.self.inside.fraction.now + length c.self.inside.exponent.now ≤ c.self.inside.len = c.self.invariant.3 in
    both_small c.self.inside.whole.now c.self.inside.fraction.now _ _ c.self.invariant.0 c.self.invariant.1 c.number.ensures c.number-digits.ensures (omega arith)

pub shifted-requires-else-self : goal.shifted-requires-else-self
shifted-requires-else-self c =
    let len : c.self.inside.len ≤ 32 = subst (λ (p : Parts). p.len ≤ 32) (sym c.self.view_is) c.requires in
    let all : length c.self.inside.whole.now + length c.self.inside.fraction.now + length c.self.inside.exponent.now ≤ c.self.inside.len = c.self.invariant.3 in
    both_small c.self.inside.whole.now c.self.inside.fraction.now _ _ c.self.invariant.0 c.self.invariant.1 c.number.ensures c.number-digits.ensures (omega arith)

pub returns-then-self-clause-value : goal.returns-then-self-clause-value
returns-then-self-clause-value c = value_along _ _ c.shifted.result (literal_down (record { whole = c.self.inside.whole.now; point = c.self.inside.point; fraction = c.self.inside.fraction.now; exponent_negative = c.self.inside.exponent_negative; exponent = c.self.inside.exponent.now; len = c.self.inside.len }) c.number-digits.result c.number-exponent.result c.if-self.true (both_digits c.self.inside.whole.now c.self.inside.fraction.now _ _ c.number.ensures c.number-digits.ensures) c.number-exponent.ensures ∙ ap literal_value c.self.view_is) c.shifted.ensures.value

pub returns-then-self-clause-fits : goal.returns-then-self-clause-fits
returns-then-self-clause-fits c = fits_along _ _ c.shifted.result (literal_down (record { whole = c.self.inside.whole.now; point = c.self.inside.point; fraction = c.self.inside.fraction.now; exponent_negative = c.self.inside.exponent_negative; exponent = c.self.inside.exponent.now; len = c.self.inside.len }) c.number-digits.result c.number-exponent.result c.if-self.true (both_digits c.self.inside.whole.now c.self.inside.fraction.now _ _ c.number.ensures c.number-digits.ensures) c.number-exponent.ensures ∙ ap literal_value c.self.view_is) c.shifted.ensures.fits

pub returns-else-self-clause-value : goal.returns-else-self-clause-value
returns-else-self-clause-value c = value_along _ _ c.shifted-else-self.result (literal_up (record { whole = c.self.inside.whole.now; point = c.self.inside.point; fraction = c.self.inside.fraction.now; exponent_negative = c.self.inside.exponent_negative; exponent = c.self.inside.exponent.now; len = c.self.inside.len }) c.number-digits.result c.number-exponent.result c.if-self.false (both_digits c.self.inside.whole.now c.self.inside.fraction.now _ _ c.number.ensures c.number-digits.ensures) c.number-exponent.ensures ∙ ap literal_value c.self.view_is) c.shifted-else-self.ensures.value

pub returns-else-self-clause-fits : goal.returns-else-self-clause-fits
returns-else-self-clause-fits c = fits_along _ _ c.shifted-else-self.result (literal_up (record { whole = c.self.inside.whole.now; point = c.self.inside.point; fraction = c.self.inside.fraction.now; exponent_negative = c.self.inside.exponent_negative; exponent = c.self.inside.exponent.now; len = c.self.inside.len }) c.number-digits.result c.number-exponent.result c.if-self.false (both_digits c.self.inside.whole.now c.self.inside.fraction.now _ _ c.number.ensures c.number-digits.ensures) c.number-exponent.ensures ∙ ap literal_value c.self.view_is) c.shifted-else-self.ensures.fits
