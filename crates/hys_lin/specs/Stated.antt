-- Rows given by their sum and their bound.
use Rattle.std.specs.Prelude.{◌≡◌, ℕ, List, [], ◌∷◌, ◌<◌, false}
use Rattle.hys_number.specs.Number.{Number}
use Rattle.hys_number.specs.Ops.{◌≤ₙ◌}
use Rattle.hys_lin.specs.declared.form.Row.{Row}
use Rattle.hys_lin.specs.Sums.{Assignment, sum_of, AreTerms, EachColumn}

-- what a row says: the sum is at most the bound
pub record Stated : Type 0 where
  pub left : Assignment → Number
  pub bound : Number

-- each of the stated sums is at most its bound
abbrev pub HoldStated : Assignment → List Stated → Type 0
HoldStated v [] = Unit {0}
HoldStated v (s ∷ ss) = (s.left v ≤ₙ s.bound) × HoldStated v ss

-- the row is the one with this sum and bound: its columns rise, no factor is 0, and it is no equation
pub record IsRow (r : Row) (s : Stated) : Type 0 where
  pub terms : AreTerms r.terms
  pub sums : (v : Assignment) → sum_of r.terms v ≡ s.left v
  pub bounds : r.bound ≡ s.bound
  pub at_most : r.eq ≡ false

-- the rows are the stated ones, in their order
abbrev pub AreRows : List Row → List Stated → Type 0
AreRows [] [] = Unit {0}
AreRows [] (s ∷ ss) = ⊥
AreRows (r ∷ rs) [] = ⊥
AreRows (r ∷ rs) (s ∷ ss) = IsRow r s × AreRows rs ss

-- each column of each row is below n
abbrev pub EachBelow : ℕ → List Row → Type 0
EachBelow n [] = Unit {0}
EachBelow n (r ∷ rs) = EachColumn (λ c. c < n) r.terms × EachBelow n rs
