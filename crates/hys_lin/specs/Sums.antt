-- Sums of terms, forms, and rows under an assignment of numbers to columns.
use Rattle.std.specs.Prelude.{◌≡◌, ℕ, ◌<◌, List, [], ◌∷◌, Bool, true, false}
use Rattle.std.proofs.Common.{get_or}
use Rattle.hys_number.specs.Number.{Number}
use Rattle.hys_number.specs.Ops.{◌+ₙ◌, ◌*ₙ◌, ◌≤ₙ◌, whole}
use Rattle.hys_lin.specs.declared.form.Term.{Term}
use Rattle.hys_lin.specs.declared.form.Affine.{Affine}
use Rattle.hys_lin.specs.declared.form.Row.{Row}
use Rattle.hys_lin.specs.declared.form.Interval.{Interval}

-- a number for each column
abbrev pub Assignment : Type 0
Assignment = ℕ → Number

-- the assignment of a list of numbers: column i has the number at place i
abbrev pub at : List Number → Assignment
at v i = get_or v i (whole 0)

-- the sum of factor times number over the terms
abbrev pub sum_of : List Term → Assignment → Number
sum_of [] v = whole 0
sum_of (t ∷ ts) v = t.factor *ₙ v t.column +ₙ sum_of ts v

-- the value of a form
unfoldable pub value : Affine → Assignment → Number
value f v = sum_of f.terms v +ₙ f.constant

abbrev pub compared : Bool → Number → Number → Type 0
compared true a b = a ≡ b
compared false a b = a ≤ₙ b

-- the row holds: its sum is at most the bound, or equals it where the row is an equation
unfoldable pub Holds : Assignment → Row → Type 0
Holds v r = compared r.eq (sum_of r.terms v) r.bound

-- each of the rows holds
abbrev pub HoldAll : Assignment → List Row → Type 0
HoldAll v [] = Unit {0}
HoldAll v (r ∷ rs) = Holds v r × HoldAll v rs

-- the number is in the interval
pub record Within (i : Interval) (a : Number) : Type 0 where
  pub low : i.low ≤ₙ a
  pub high : a ≤ₙ i.high

-- the low end is at most the high end
abbrev pub IsInterval : Interval → Type 0
IsInterval i = i.low ≤ₙ i.high

-- the interval is 0 to 1
abbrev pub IsUnit : Interval → Type 0
IsUnit i = (i.low ≡ whole 0) × (i.high ≡ whole 1)

-- each column of the terms has the property
abbrev pub EachColumn : (ℕ → Type 0) → List Term → Type 0
EachColumn P [] = Unit {0}
EachColumn P (t ∷ ts) = P t.column × EachColumn P ts

-- the columns rise strictly and no factor is 0
abbrev pub AreTerms : List Term → Type 0
AreTerms [] = Unit {0}
AreTerms (t ∷ ts) = ¬ (t.factor ≡ whole 0) × EachColumn (λ c. t.column < c) ts × AreTerms ts
