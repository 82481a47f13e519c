-- What the search looks at in relaxed points, and why it branches a node.
use Rattle.std.specs.Prelude.{◌≡◌, ℕ, List, [], ◌∷◌, Bool, false, IsTrue, ◌⊎◌, nat_eq, Option, Some, None}
use Rattle.std.specs.List.{list_any}
use Rattle.hys_number.specs.Number.{Number}
use Rattle.hys_number.specs.Ops.{◌<ₙ◌, whole, fits}
use Rattle.hys_lin.specs.Bits.{IsBit}
use Rattle.hys_lin.specs.Sums.{at, value, Within}
use Rattle.hys_lin.specs.declared.problem.Problem.{Problem}
use Rattle.hys_lin.specs.declared.form.Point.{Point}
use Rattle.hys_relax.specs.Node.{is_branch, is_fixed, unit_box, IsLeastRelaxed}
use Rattle.hys_relax.specs.Bound.{costless, node_bound}
use Rattle.hys_relax.specs.declared.fixing.Fixing.{Fixing}
use Rattle.hys_relax.specs.declared.multipliers.Multipliers.{Multipliers}
use Rattle.hys_relax.specs.declared.range.RangeAt.{RangeAt}
use Rattle.hys_simplex.specs.Unfit.{Unfit}

-- the point's number in a column
abbrev pub column_of : Point → ℕ → Number
column_of x c = at x.values c

abbrev pub cost_at : Problem → Point → Number
cost_at p x = value p.cost (at x.values)

-- every branch column lies between 0 and 1
abbrev pub AreUnits : Problem → Point → Type 0
AreUnits p x = (c : ℕ) → IsTrue (is_branch p c) → Within unit_box (column_of x c)

-- every branch column is 0 or 1
abbrev pub AreBits : Problem → Point → Type 0
AreBits p x = (c : ℕ) → IsTrue (is_branch p c) → IsBit (column_of x c)

-- every branch column is fixed
abbrev pub AllFixed : Problem → List Fixing → Type 0
AllFixed p fs = (c : ℕ) → IsTrue (is_branch p c) → IsTrue (is_fixed fs c)

-- ---- by a list of columns
abbrev pub is_among : List ℕ → ℕ → Bool
is_among cs c = list_any (nat_eq c) cs

-- each of these columns lies between 0 and 1
abbrev pub EachUnit : List ℕ → Point → Type 0
EachUnit [] x = Unit {0}
EachUnit (c ∷ cs) x = Within unit_box (column_of x c) × EachUnit cs x

-- each of these columns is 0 or 1
abbrev pub EachBit : List ℕ → Point → Type 0
EachBit [] x = Unit {0}
EachBit (c ∷ cs) x = IsBit (column_of x c) × EachBit cs x

-- each of these columns is fixed
abbrev pub EachFixed : List ℕ → List Fixing → Type 0
EachFixed cs fs = (c : ℕ) → IsTrue (is_among cs c) → IsTrue (is_fixed fs c)

-- one of these columns, which no fixing fixes
abbrev pub IsFreeAmong : List ℕ → List Fixing → ℕ → Type 0
IsFreeAmong cs fs c = IsTrue (is_among cs c) × (is_fixed fs c ≡ false)

-- strictly between 0 and 1
abbrev pub IsBetween : Number → Type 0
IsBetween a = (whole 0 <ₙ a) × (a <ₙ whole 1)

-- one of these columns, strictly between 0 and 1
abbrev pub IsSplitColumn : List ℕ → Point → ℕ → Type 0
IsSplitColumn cs x c = IsTrue (is_among cs c) × IsBetween (column_of x c)

-- ---- causes
-- the column to be branched: a branch column strictly between 0 and 1; none where each is 0 or 1
abbrev pub IsChosen : Problem → Point → Option ℕ → Type 0
IsChosen p x None = AreBits p x
IsChosen p x (Some c) = IsTrue (is_branch p c) × IsBetween (column_of x c)

-- after the ruled path the place stands for a number that doesn't fit
abbrev pub IsUnfit : Problem → List Fixing → RangeAt → Type 0
IsUnfit p fs r = Unfit fits p fs r.path r.at

-- why a node is branched: a number doesn't fit there, or a relaxed point of least cost has the column strictly
-- between 0 and 1
abbrev pub IsJustified : Problem → List Fixing → ℕ → Type 0
IsJustified p fs c =
    ((r : RangeAt) × IsUnfit p fs r)
    ⊎ ((x : Point) × IsLeastRelaxed p fs x.values × IsBetween (column_of x c))

-- the bounds of multipliers at a node, with the cost and with cost 0
abbrev pub bound_at : Problem → List Fixing → Multipliers → Number
bound_at p fs m = node_bound p fs m.pairs

abbrev pub never_at : Problem → List Fixing → Multipliers → Number
never_at p fs m = node_bound (costless p) fs m.pairs
