-- Classes of bytes.
use Rattle.std.specs.Prelude.{ℕ, Bool, ◌||◌, ◌&&◌, ◌==◌, nat_le}

abbrev pub is_between : ℕ → ℕ → ℕ → Bool
is_between low high b = (nat_le low b && nat_le b high)

-- space, tab, CR, LF
abbrev pub is_blank : ℕ → Bool
is_blank b = ((b == 32) || (b == 9) || (b == 13) || (b == 10))

-- a letter or the underscore
abbrev pub is_letter : ℕ → Bool
is_letter b = (is_between 65 90 b || is_between 97 122 b || (b == 95))

abbrev pub is_digit : ℕ → Bool
is_digit b = is_between 48 57 b

-- what a name goes on with
abbrev pub is_name_byte : ℕ → Bool
is_name_byte b = (is_letter b || is_digit b)

-- `e` or `E`
abbrev pub is_exponent_mark : ℕ → Bool
is_exponent_mark b = ((b == 101) || (b == 69))

-- `+` or `-`
abbrev pub is_plus_or_minus : ℕ → Bool
is_plus_or_minus b = ((b == 43) || (b == 45))

-- a digit or the point
abbrev pub begins_literal : ℕ → Bool
begins_literal b = (is_digit b || (b == 46))
