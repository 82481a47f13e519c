-- Numbers for the names of the program of two auxiliaries.
use Rattle.std.specs.Prelude.{zero, suc}
use Rattle.hys_number.specs.Number.{Number}
use Rattle.hys_lin.specs.Sums.{Assignment}

-- the numbers of x, z and w, which stand in this order
abbrev pub of_three : Number → Number → Number → Assignment
of_three x z w zero = x
of_three x z w (suc zero) = z
of_three x z w (suc (suc n)) = w
