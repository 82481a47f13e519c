-- The numbers that an item's rows are made of, each with the operation that gives it, in the order in which they are
-- looked for.
use Rattle.std.specs.Prelude.{◌≡◌, ℕ, List, [], ◌++◌, Some, None, Result, Ok, Err}
use Rattle.hys_lin.specs.declared.form.Affine.{Affine}
use Rattle.hys_lin.specs.declared.form.Interval.{Interval}
use Rattle.hys_lin.specs.declared.lost.Lost.{Lost as Operation}
use Rattle.hys_lin.specs.Operations.{first_lost}
use Rattle.hys_lin.specs.Ranges.{ranging}
use Rattle.hys_prog.specs.declared.program.Body.{Body}
use Rattle.hys_prog.specs.declared.program.Body.TheVariants.{Guard, Choice, Logic, Linear, NextBool, NextReal, OutBool, OutReal, MustHold, MustMost, MustZero}
use Rattle.hys_formula.specs.declared.formula.Formula.{Formula}
use Rattle.hys_bound.specs.Ranges.{range}
use Rattle.hys_guard.specs.Numbers.{guard_numbers, choice_numbers}
use Rattle.hys_rows.specs.declared.fault.RowFault.{RowFault}
use Rattle.hys_rows.specs.declared.fault.RowFault.TheVariants.{Lost, Memory}
use Rattle.hys_rows.specs.Moved.{moved}
use Rattle.hys_rows.specs.Parts.{literal_form}

-- those of the rows of a choice by a literal between two forms with these ranges
abbrev pub moved_numbers : List ℕ → Affine → Affine → Interval → Affine → Interval → List Operation
moved_numbers columns l a i b j = choice_numbers l (moved columns a) i (moved columns b) j

-- those of a choice's rows, where the fresh columns of its condition begin at k
abbrev pub chosen_numbers : List Interval → List ℕ → ℕ → Formula → Affine → Affine → List Operation
chosen_numbers boxes columns k l a b =
    moved_numbers columns (literal_form columns k l) a (range boxes a) b (range boxes b)

-- The ends of the intervals of the forms, and then the numbers of the rows. Rows of formulas, copies and demands have
-- no number that has to be looked for: they are small, or stand in the item's form, or are such with the sign turned.
abbrev pub numbers_of : List Interval → List ℕ → ℕ → Body → List Operation
numbers_of boxes columns k (Guard f e) = ranging boxes f ++ guard_numbers (moved columns f) (range boxes f) e
numbers_of boxes columns k (Choice l a b) = ranging boxes a ++ (ranging boxes b ++ chosen_numbers boxes columns k l a b)
numbers_of boxes columns k (Logic l) = []
numbers_of boxes columns k (Linear f) = []
numbers_of boxes columns k (NextBool l) = []
numbers_of boxes columns k (NextReal f) = []
numbers_of boxes columns k (OutBool l) = []
numbers_of boxes columns k (OutReal f) = []
numbers_of boxes columns k (MustHold l) = []
numbers_of boxes columns k (MustMost f) = []
numbers_of boxes columns k (MustZero f) = []

-- an answer is given exactly where all results fit, and else the first operation whose result doesn't;
-- want of memory is free
abbrev pub Judged : {X : Type 0} → List Operation → Result X RowFault → Type 0
Judged os (Ok x) = first_lost os ≡ None
Judged os (Err (Lost l)) = first_lost os ≡ Some l
Judged os (Err Memory) = Unit {0}
