-- The parts of a numeral at the front of a text.
use Rattle.std.specs.Prelude.{ℕ, ◌+◌, ◌≤◌, List, [], length, if◌then◌else◌, slice_range}
use Rattle.std.specs.Str.Parse.{AllDigits}
use Rattle.std.specs.Float.Numeral.{Parts, digits_end, exponent_start, has_exponent}

-- the digits of the exponent that begins at the place, and the end of the numeral; there may be no exponent
abbrev pub exponent_digits : List ℕ → ℕ → List ℕ
exponent_digits text at =
    if has_exponent text at then slice_range text (exponent_start text at) (digits_end text (exponent_start text at)) else []

abbrev pub exponent_end : List ℕ → ℕ → ℕ
exponent_end text at = if has_exponent text at then digits_end text (exponent_start text at) else at

-- the parts are digits, and no longer than the numeral
abbrev pub AreParts : List ℕ → List ℕ → List ℕ → ℕ → Type 0
AreParts w f e len = AllDigits 10 w × AllDigits 10 f × AllDigits 10 e × (length w + length f + length e ≤ len)
