use Rattle.std.proofs.Common.{◌≡◌, drop}
use Rattle.std.specs.Str.Parse.{AllDigits, digits_value}
use Rattle.hys_frac.proofs.digits.all_zero.Given as goal

abbrev pub invariant-loop-digit : goal.invariant-loop-digit
invariant-loop-digit l = record { digits : AllDigits 10 (drop l.digit-index l.digits); value : digits_value 10 (drop l.digit-index l.digits) ≡ digits_value 10 l.digits }
