-- The two numbers of a Boolean.
use Rattle.std.specs.Prelude.{◌≡◌, Bool, true, false, ◌&&◌, nat_eq, pos, ◌⊎◌}
use Rattle.std.specs.Ordering.{int_eq}
use Rattle.hys_number.specs.Number.{Number}
use Rattle.hys_number.specs.Ops.{whole}

-- the number of a truth value
abbrev pub bit : Bool → Number
bit true = whole 1
bit false = whole 0

-- the number is 0 or 1
abbrev pub IsBit : Number → Type 0
IsBit a = (a ≡ whole 0) ⊎ (a ≡ whole 1)

-- the truth of a number: whether it is 1
unfoldable pub is_one : Number → Bool
is_one a = int_eq a.num (pos 1) && nat_eq a.den 1
