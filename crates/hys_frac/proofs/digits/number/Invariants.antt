use Rattle.std.proofs.Common.{◌≡◌, ◌+◌, ◌*◌, ◌^◌, ◌≤◌, length, drop}
use Rattle.std.specs.Str.Parse.{AllDigits, digits_value_after}
use Rattle.hys_frac.proofs.digits.number.Given as goal

abbrev pub invariant-loop-digit : goal.invariant-loop-digit
invariant-loop-digit l = record {
  digits : AllDigits 10 (drop l.digit-index l.digits);
  value : digits_value_after 10 l.value (drop l.digit-index l.digits) ≡ digits_value_after 10 l.fn.before l.digits;
  room : (l.value + 1) * 10 ^ length (drop l.digit-index l.digits) ≤ 10 ^ 36;
}
