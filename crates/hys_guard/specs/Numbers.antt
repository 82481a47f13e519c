-- The numbers that the rows of a guard and of a choice are made of, each with the operation that
-- gives it, in the order in which they are looked for.
use Rattle.std.specs.Prelude.{◌≡◌, List, [], ◌∷◌, ◌++◌, Option, Some, None, Result, Ok, Err}
use Rattle.hys_number.specs.Number.{Number}
use Rattle.hys_number.specs.Ops.{◌*ₙ◌, ◌-ₙ◌, neg, whole}
use Rattle.hys_lin.specs.declared.form.Term.{Term}
use Rattle.hys_lin.specs.declared.form.Affine.{Affine}
use Rattle.hys_lin.specs.declared.form.Interval.{Interval}
use Rattle.hys_lin.specs.declared.lost.Lost.{Lost as Operation}
use Rattle.hys_lin.specs.Operations.{first_lost, plus, minus, times}
use Rattle.hys_lin.specs.Scaled.{coefficient}
use Rattle.hys_guard.specs.declared.fault.GuardFault.{GuardFault}
use Rattle.hys_guard.specs.declared.fault.GuardFault.TheVariants.{Lost, Memory}
use Rattle.hys_guard.specs.declared.terms.Side.{Side}
use Rattle.hys_guard.specs.declared.terms.Side.TheVariants.{Upper, Lower}

-- an answer is given exactly where all results fit, and else the first operation whose result doesn't;
-- want of memory is free
abbrev pub Judged : {X : Type 0} → List Operation → Result X GuardFault → Type 0
Judged os (Ok x) = first_lost os ≡ None
Judged os (Err (Lost lost)) = first_lost os ≡ Some lost
Judged os (Err Memory) = Unit {0}

-- ---- a guard
-- the factor of the column in the second row, the bound of the first row, the bound of the second
abbrev pub guard_numbers : Affine → Interval → Number → List Operation
guard_numbers f i e = minus i.low e ∷ minus i.high f.constant ∷ minus f.constant e ∷ []

-- ---- a choice
-- the literal's own term, where it has one
abbrev pub own_term : List Term → Option Term
own_term [] = None
own_term (t ∷ ts) = Some t

-- the term of 1 less the literal
abbrev pub opposite_term : Option Term → Option Term
opposite_term None = None
opposite_term (Some t) = Some (record { column = t.column; factor = neg t.factor })

-- a factor joined with that of a form at the same column: in a row that bounds the column from
-- above the form is subtracted, in one from below it is added
abbrev pub joined : Side → Number → Number → Operation
joined Upper a b = minus a b
joined Lower a b = plus a b

-- the constant of a form, as a row that bounds the column by the form has it
abbrev pub constant_by : Side → Number → Number
constant_by Upper q = q
constant_by Lower q = neg q

-- the factor at the literal's column
abbrev pub joins : Side → Number → Option Term → Affine → List Operation
joins s a None g = []
joins s a (Some t) g = times a t.factor ∷ joined s (a *ₙ t.factor) (coefficient g.terms t.column) ∷ []

-- the numbers of one row: big factor a, literal k + t, form g
abbrev pub row_numbers : Side → Number → Number → Option Term → Affine → List Operation
row_numbers s a k t g = joins s a t g ++ (times a k ∷ minus (constant_by s g.constant) (a *ₙ k) ∷ [])

abbrev pub bound_numbers : Side → Number → Affine → Affine → List Operation
bound_numbers s a l g = row_numbers s a l.constant (own_term l.terms) g

-- the numbers of the two rows that hold the column to a form where the literal is 0
abbrev pub pair_numbers : Number → Number → Number → Option Term → Affine → List Operation
pair_numbers upper lower k t g = row_numbers Upper upper k t g ++ row_numbers Lower lower k t g

-- the same for a literal, and for 1 less the literal, whose constant is computed first
abbrev pub literal_numbers : Number → Number → Affine → Affine → List Operation
literal_numbers upper lower l g = pair_numbers upper lower l.constant (own_term l.terms) g

abbrev pub opposite_numbers : Number → Number → Affine → Affine → List Operation
opposite_numbers upper lower l g =
    minus (whole 1) l.constant ∷ pair_numbers upper lower (whole 1 -ₙ l.constant) (opposite_term (own_term l.terms)) g

-- the two big factors, then row by row
abbrev pub choice_numbers : Affine → Affine → Interval → Affine → Interval → List Operation
choice_numbers l a i b j =
    minus j.low i.high ∷ minus i.low j.high
    ∷ (literal_numbers (j.low -ₙ i.high) (i.low -ₙ j.high) l b
    ++ opposite_numbers (i.low -ₙ j.high) (j.low -ₙ i.high) l a)
