use Rattle.std.specs.Prelude.{ℕ, List, ◌∷◌, ◌++◌, nat_eq, cond}
use Rattle.std.specs.Fmt.{decimal, signed_decimal}
use Rattle.hys_number.specs.Number.{Number}

-- a number in decimal digits: its first part, then `/` and its second part where that isn't 1
unfoldable pub number_text : Number → List ℕ
number_text a = cond (nat_eq a.den 1) (signed_decimal a.num) (signed_decimal a.num ++ 47 ∷ decimal a.den)
