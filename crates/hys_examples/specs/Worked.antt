-- The expressions and states that are worked out, and the numbers that are expected of them.
use Rattle.std.specs.Prelude.{◌≡◌, ℕ, List, [], ◌∷◌, ◌++◌, codes}
use Rattle.hys_number.specs.Number.{Number}
use Rattle.hys_number.specs.Ops.{whole, neg}
use Rattle.hys_lin.specs.declared.form.Affine.{Affine}
use Rattle.hys_lin.specs.declared.lost.Lost.{Lost}
use Rattle.hys_lin.specs.Operations.{plus, minus, times}
use Rattle.hys_ast.specs.declared.place.Place.{Place}
use Rattle.hys_ast.specs.declared.tree.BinaryOp.TheVariants as binary
use Rattle.hys_ast.specs.Tree.{Tree, Source}
use Rattle.hys_meaning.specs.Values.{Assignment}
use Rattle.hys_meaning.specs.Typed.{Typed, Bounded, DeclaredOnce, DefinedOnce, HaveValues}
use Rattle.hys_meaning.specs.Steps.{Legal}
use Rattle.hys_meaning.specs.Accepted.{WithinLimits}
use Rattle.hys_meaning.specs.Folding.{Computed, Written, Operation, all_at, over}
use Rattle.hys_examples.specs.RowNumbers.{Column, Declared, Fresh}
use Rattle.hys_examples.specs.Sources.{n_over, ends_at, tolerance}
use Rattle.hys_examples.specs.Systems.{term}
use Rattle.hys_examples.specs.Trees.{number, name, both, somewhere, negated}

-- ---- expressions
-- 0.1 + 0.2
abbrev pub tenths : Tree
tenths = both binary.Add (number (codes "0.1")) (number (codes "0.2"))

-- 2*x
abbrev pub twice_x : Tree
twice_x = both binary.Mul (number (codes "2")) (name (codes "x"))

-- x*2
abbrev pub x_twice : Tree
x_twice = both binary.Mul (name (codes "x")) (number (codes "2"))

-- x/2
abbrev pub half_x : Tree
half_x = both binary.Div (name (codes "x")) (number (codes "2"))

-- x - 2
abbrev pub x_less_two : Tree
x_less_two = both binary.Sub (name (codes "x")) (number (codes "2"))

-- x <= 5
abbrev pub at_most_five : Tree
at_most_five = both binary.Most (name (codes "x")) (number (codes "5"))

-- x >= 5
abbrev pub at_least_five : Tree
at_least_five = both binary.Least (name (codes "x")) (number (codes "5"))

-- x == 5
abbrev pub equal_to_five : Tree
equal_to_five = both binary.Equal (name (codes "x")) (number (codes "5"))

-- 1 == 1
abbrev pub one_is_one : Tree
one_is_one = both binary.Equal (number (codes "1")) (number (codes "1"))

-- ~(1 <= 1)
abbrev pub one_is_more : Tree
one_is_more = negated (both binary.Most (number (codes "1")) (number (codes "1")))

-- cold | on & ~hot
abbrev pub heating : Tree
heating = both binary.Or (name (codes "cold")) (both binary.And (name (codes "on")) (negated (name (codes "hot"))))

-- a <-> ~b
abbrev pub one_of_two : Tree
one_of_two = both binary.Iff (name (codes "a")) (negated (name (codes "b")))

-- ---- states and auxiliaries of the thermostat
-- T = 20 and on
abbrev pub cool_and_on : List Number
cool_and_on = whole 20 ∷ whole 1 ∷ []

-- T = 22 and on
abbrev pub warm_and_on : List Number
warm_and_on = whole 22 ∷ whole 1 ∷ []

-- T = 118/5 and off
abbrev pub warm_and_off : List Number
warm_and_off = n_over 118 5 ∷ whole 0 ∷ []

-- neither hot nor cold, and heat = 30
abbrev pub fair_and_heated : List Number
fair_and_heated = whole 0 ∷ whole 0 ∷ whole 30 ∷ []

-- hot and not cold, and heat = 30
abbrev pub hot_and_heated : List Number
hot_and_heated = whole 1 ∷ whole 0 ∷ whole 30 ∷ []

-- two auxiliaries that are true
abbrev pub both_on : List Number
both_on = whole 1 ∷ whole 1 ∷ []

-- d is true in each legal step from one number, with no input
abbrev pub IsOnInEachStep : Source → Type 0
IsOnInEachStep s = (a : Number) (w : Assignment) (x' y : List Number) → Legal tolerance s (a ∷ []) [] w x' y → w (codes "d") ≡ whole 1

-- all rules but that on circles
abbrev pub KeepsOtherRules : Source → Type 0
KeepsOtherRules s = Typed s × Bounded s × DeclaredOnce s × HaveValues s × DefinedOnce s × WithinLimits s

-- ---- orders of definition
abbrev pub near_then_far : List (List ℕ)
near_then_far = codes "near" ∷ codes "far" ∷ []

abbrev pub far_then_near : List (List ℕ)
far_then_near = codes "far" ∷ codes "near" ∷ []

abbrev pub d_then_z : List (List ℕ)
d_then_z = codes "d" ∷ codes "z" ∷ []

-- ---- numbers that are computed
-- a number that is written at a place
abbrev pub written_at : Place → Number → Computed
written_at p n = record { place = p; what = Written n }

-- an operation at a place
abbrev pub operation_at : Place → Lost → Computed
operation_at p o = record { place = p; what = Operation o }

-- a number that is written, and then operations
abbrev pub written_before : Number → List Lost → List Computed
written_before n os = written_at somewhere n ∷ all_at somewhere os

-- the greatest number of 64 bits
abbrev pub greatest : Number
greatest = whole 9223372036854775807

-- the least number above 0 of 64 bits
abbrev pub finest : Number
finest = n_over 1 9223372036854775807

-- a source with a literal that is 1 too large
abbrev pub one_too_large : Source
one_too_large = ends_at (codes "9223372036854775808")

-- a source with a literal that is too small
abbrev pub too_small : Source
too_small = ends_at (codes "1e-19")

abbrev pub twice_x_numbers : List Computed
twice_x_numbers = written_before (whole 2)
    (times (whole 2) (whole 1) ∷ times (whole 2) (whole 0) ∷ times (whole 2) (whole 0) ∷ [])

abbrev pub x_twice_numbers : List Computed
x_twice_numbers = written_before (whole 2)
    (times (whole 1) (whole 2) ∷ times (whole 0) (whole 2) ∷ times (whole 0) (whole 2) ∷ [])

abbrev pub half_x_numbers : List Computed
half_x_numbers = written_before (whole 2)
    (over (whole 1) (whole 2) ∷ over (whole 0) (whole 2) ∷ over (whole 0) (whole 2) ∷ [])

abbrev pub x_less_two_numbers : List Computed
x_less_two_numbers = written_before (whole 2)
    (minus (whole 1) (whole 0) ∷ minus (whole 0) (whole 0) ∷ minus (whole 0) (whole 2) ∷ [])

abbrev pub at_most_five_numbers : List Computed
at_most_five_numbers = written_before (whole 5)
    (minus (whole 1) (whole 0) ∷ minus (whole 0) (whole 0) ∷ minus (whole 0) (whole 5) ∷ [])

abbrev pub at_least_five_numbers : List Computed
at_least_five_numbers = written_before (whole 5)
    (minus (whole 0) (whole 1) ∷ minus (whole 0) (whole 0) ∷ minus (whole 5) (whole 0) ∷ [])

abbrev pub equal_to_five_numbers : List Computed
equal_to_five_numbers = written_before (whole 5)
    (minus (whole 1) (whole 0) ∷ minus (whole 0) (whole 0) ∷ minus (whole 0) (whole 5) ∷ [])

-- ---- numbers of intervals, the low end before the high
-- of x, and of 2*near
abbrev pub in_turn_ranges : Place → Place → List Computed
in_turn_ranges near far =
    all_at near (times (whole 1) (whole 0) ∷ plus (whole 1) (whole 0) ∷ times (whole 1) (whole 10) ∷ plus (whole 1) (whole 10) ∷ [])
    ++ all_at far (times (whole 2) (whole 1) ∷ plus (whole 0) (whole 2) ∷ times (whole 2) (whole 11) ∷ plus (whole 0) (whole 22) ∷ [])

-- of x - 3 and of 2*x, with x from 0 to 10
abbrev pub spread_ranges : List Computed
spread_ranges = all_at somewhere
    (times (whole 1) (whole 0) ∷ plus (neg (whole 3)) (whole 0) ∷ times (whole 1) (whole 10) ∷ plus (neg (whole 3)) (whole 10)
    ∷ times (whole 2) (whole 0) ∷ plus (whole 0) (whole 0) ∷ times (whole 2) (whole 10) ∷ plus (whole 0) (whole 20) ∷ [])

-- of 5 - x, and of 3 times a bit
abbrev pub graded_ranges : List Computed
graded_ranges = all_at somewhere
    (times (neg (whole 1)) (whole 10) ∷ plus (whole 5) (neg (whole 10)) ∷ times (neg (whole 1)) (whole 0) ∷ plus (whole 5) (whole 0)
    ∷ times (whole 3) (whole 0) ∷ plus (whole 0) (whole 0) ∷ times (whole 3) (whole 1) ∷ plus (whole 0) (whole 3) ∷ [])

-- ---- numbers of rows
-- of a guard number from -5 to 5
abbrev pub guarded_rows : List Computed
guarded_rows = all_at somewhere
    (minus (neg (whole 5)) (n_over 1 1000) ∷ minus (whole 5) (whole 5) ∷ minus (whole 5) (n_over 1 1000) ∷ [])

-- the differences of intervals of 2*x and 0, then the two rows for 0 and the two for 2*x
abbrev pub switched_rows_expected : List Computed
switched_rows_expected =
    all_at somewhere (minus (whole 0) (whole 20) ∷ minus (whole 0) (whole 0) ∷ [])
    ++ (all_at somewhere (times (neg (whole 20)) (whole 1) ∷ minus (neg (whole 20)) (whole 0) ∷ times (neg (whole 20)) (whole 0) ∷ minus (whole 0) (whole 0) ∷ [])
    ++ (all_at somewhere (times (whole 0) (whole 1) ∷ plus (whole 0) (whole 0) ∷ times (whole 0) (whole 0) ∷ minus (whole 0) (whole 0) ∷ [])
    ++ (all_at somewhere (minus (whole 1) (whole 0) ∷ [])
    ++ (all_at somewhere (times (whole 0) (neg (whole 1)) ∷ minus (whole 0) (whole 0) ∷ times (whole 0) (whole 1) ∷ minus (whole 0) (whole 0) ∷ [])
    ++ all_at somewhere (times (neg (whole 20)) (neg (whole 1)) ∷ plus (whole 20) (whole 0) ∷ times (neg (whole 20)) (whole 1) ∷ minus (whole 0) (neg (whole 20)) ∷ [])))))

-- with the literal 1 - a, and x + a from 0 to 11
abbrev pub mixed_rows_expected : List Computed
mixed_rows_expected =
    all_at somewhere (minus (whole 1) (whole 11) ∷ minus (whole 0) (whole 1) ∷ [])
    ++ (all_at somewhere (times (neg (whole 10)) (neg (whole 1)) ∷ minus (whole 10) (whole 0) ∷ times (neg (whole 10)) (whole 1) ∷ minus (whole 1) (neg (whole 10)) ∷ [])
    ++ (all_at somewhere (times (neg (whole 1)) (neg (whole 1)) ∷ plus (whole 1) (whole 0) ∷ times (neg (whole 1)) (whole 1) ∷ minus (neg (whole 1)) (neg (whole 1)) ∷ [])
    ++ (all_at somewhere (minus (whole 1) (whole 1) ∷ [])
    ++ (all_at somewhere (times (neg (whole 1)) (whole 1) ∷ minus (neg (whole 1)) (whole 1) ∷ times (neg (whole 1)) (whole 0) ∷ minus (whole 0) (whole 0) ∷ [])
    ++ all_at somewhere (times (neg (whole 10)) (whole 1) ∷ plus (neg (whole 10)) (whole 1) ∷ times (neg (whole 10)) (whole 0) ∷ minus (whole 0) (whole 0) ∷ [])))))

-- with the literal 1, which has no column
abbrev pub decided_rows_expected : List Computed
decided_rows_expected =
    all_at somewhere (minus (whole 0) (whole 10) ∷ minus (whole 0) (whole 0) ∷ [])
    ++ (all_at somewhere (times (neg (whole 10)) (whole 1) ∷ minus (whole 0) (neg (whole 10)) ∷ times (whole 0) (whole 1) ∷ minus (whole 0) (whole 0) ∷ [])
    ++ (all_at somewhere (minus (whole 1) (whole 1) ∷ [])
    ++ all_at somewhere (times (whole 0) (whole 0) ∷ minus (whole 0) (whole 0) ∷ times (neg (whole 10)) (whole 0) ∷ minus (whole 0) (whole 0) ∷ [])))

-- ---- columns and literals
abbrev pub thermostat_columns : List Column
thermostat_columns = Declared (codes "T") ∷ Declared (codes "on") ∷ Declared (codes "amb") ∷ Declared (codes "hot")
    ∷ Declared (codes "cold") ∷ Fresh 0 ∷ Fresh 1 ∷ Declared (codes "heat") ∷ []

-- what is at the column
abbrev pub at_column : ℕ → Affine
at_column column = record { terms = term column (whole 1) ∷ []; constant = whole 0 }

-- 1 less what is at the column
abbrev pub one_less_column : ℕ → Affine
one_less_column column = record { terms = term column (neg (whole 1)) ∷ []; constant = whole 1 }
