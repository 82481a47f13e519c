-- A form over names and over columns, and the numbers that the guard of a small program asks for.
use Rattle.std.specs.Prelude.{ℕ, List, [], ◌∷◌, negsuc, pos}
use Rattle.hys_number.specs.Number.{make}
use Rattle.hys_number.specs.Ops.{whole}
use Rattle.hys_lin.specs.declared.form.Affine.{Affine}
use Rattle.hys_lin.specs.declared.lost.Lost.{Lost as Operation}
use Rattle.hys_lin.specs.Operations.{plus, minus, times}

-- the columns of two names
abbrev pub places : List ℕ
places = 3 ∷ 1 ∷ []

-- 5 times the first name and 7 times the second, and 2
abbrev pub before : Affine
before = record {
  terms = record { column = 0; factor = whole 5 } ∷ record { column = 1; factor = whole 7 } ∷ [];
  constant = whole 2;
}

abbrev pub behind : Affine
behind = record {
  terms = record { column = 1; factor = whole 7 } ∷ record { column = 3; factor = whole 5 } ∷ [];
  constant = whole 2;
}

-- Of 5 - x from -5 to 5, with tolerance 1/1000: the ends, -1 times 10 and -1 times 0 being added to 5, then the factor
-- of the column, and the bounds of the first row and of the second.
abbrev pub guard_operations : List Operation
guard_operations =
    times (make (negsuc 0) 1) (whole 10) ∷ plus (whole 5) (make (negsuc 9) 1)
    ∷ times (make (negsuc 0) 1) (whole 0) ∷ plus (whole 5) (whole 0)
    ∷ minus (make (negsuc 4) 1) (make (pos 1) 1000)
    ∷ minus (whole 5) (whole 5) ∷ minus (whole 5) (make (pos 1) 1000) ∷ []
