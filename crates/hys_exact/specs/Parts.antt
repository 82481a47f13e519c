-- What it is for rows to mean an item of a program.
use Rattle.std.specs.Prelude.{◌≡◌, ◌↔◌, ℕ, ◌+◌, List, [], ◌∷◌, ◌++◌, Bool, true, false, IsTrue, length, map}
use Rattle.hys_lin.specs.declared.form.Affine.{Affine}
use Rattle.hys_lin.specs.declared.form.Interval.{Interval}
use Rattle.hys_lin.specs.declared.form.Row.{Row}
use Rattle.hys_lin.specs.Bits.{IsBit}
use Rattle.hys_lin.specs.Sums.{Assignment, HoldAll, Within, value}
use Rattle.hys_lin.specs.Ranges.{box_at}
use Rattle.hys_prog.specs.declared.program.Body.{Body}
use Rattle.hys_prog.specs.declared.program.Body.TheVariants.{Guard, Choice, Logic, Linear, NextBool, NextReal, OutBool, OutReal, MustHold, MustMost, MustZero}
use Rattle.hys_prog.specs.declared.program.Name.{Name}
use Rattle.hys_prog.specs.declared.program.ProgItem.{ProgItem}
use Rattle.hys_prog.specs.Programs.{NameAt, IsVariable, IsBooleanVariable}
use Rattle.hys_prog.specs.Steps.{CaseOf, InGap, Demand}
use Rattle.hys_prog.specs.Stops.{number_of}
use Rattle.hys_bound.specs.Ranges.{EachAsked}
use Rattle.hys_logic.specs.Literals.{column_in}
use Rattle.hys_logic.specs.Rows.{Agrees, BitsFrom}

-- What stands for an item: its rows, the number of its fresh columns, their truths under the numbers of the names, and
-- a form over the columns, which counts where the item defines a next value or an output.
pub record Part : Type 0 where
  pub rows : List Row
  pub count : ℕ
  pub fresh : Assignment → List Bool
  pub form : Affine

-- the numbers that names have by their columns
abbrev pub by_columns : List ℕ → Assignment → Assignment
by_columns columns v n = v (column_in columns n)

-- each Boolean state, input and auxiliary has 0 or 1
abbrev pub HasBits : List Name → Assignment → Type 0
HasBits names w = (n : ℕ) → NameAt names n IsBooleanVariable → IsBit (w n)

-- the names of whose forms the interval is asked are in their intervals
abbrev pub AreInside : List Interval → Assignment → Body → Type 0
AreInside boxes w b = EachAsked (λ n. Within (box_at boxes n) (w n)) b

-- the item's case and its demand hold, and its guard number isn't in the gap
pub record IsMet (w : Assignment) (t : ProgItem) : Type 0 where
  pub case : CaseOf w t
  pub no_gap : ¬ (InGap w t)
  pub demand : Demand w t

-- the assignments have the same numbers for states, inputs and auxiliaries
abbrev pub AreSame : List Name → Assignment → Assignment → Type 0
AreSame names w w' = (n : ℕ) → NameAt names n IsVariable → w n ≡ w' n

-- the body defines a next value or an output
abbrev pub is_after : Body → Bool
is_after (Guard f e) = false
is_after (Choice l a b) = false
is_after (Logic l) = false
is_after (Linear f) = false
is_after (NextBool l) = true
is_after (NextReal f) = true
is_after (OutBool l) = true
is_after (OutReal f) = true
is_after (MustHold l) = false
is_after (MustMost f) = false
is_after (MustZero f) = false

-- The part means the item, where its fresh columns begin at k: with 0 or 1 in the columns of Boolean names and in the
-- fresh ones, and with the mentioned names in their intervals, the rows hold exactly where the item is met and each
-- fresh column has its truth. There the form has the number that the item gives.
pub record Means (names : List Name) (boxes : List Interval) (columns : List ℕ) (k : ℕ) (t : ProgItem) (q : Part) : Type 0 where
  pub long : (w : Assignment) → length (q.fresh w) ≡ q.count
  pub same : (w w' : Assignment) → AreSame names w w' → q.fresh w ≡ q.fresh w'
  pub means : (v : Assignment) → HasBits names (by_columns columns v) → BitsFrom v k q.count →
      AreInside boxes (by_columns columns v) t.body →
      HoldAll v q.rows ↔ (IsMet (by_columns columns v) t × Agrees v k (q.fresh (by_columns columns v)))
  pub gives : (v : Assignment) → IsTrue (is_after t.body) → HasBits names (by_columns columns v) →
      Agrees v k (q.fresh (by_columns columns v)) → value q.form v ≡ number_of (by_columns columns v) t.body

-- the parts mean the items one by one, with their fresh columns one after another from k on
abbrev pub AreParts : List Name → List Interval → List ℕ → ℕ → List ProgItem → List Part → Type 0
AreParts names boxes columns k [] [] = Unit {0}
AreParts names boxes columns k [] (q ∷ qs) = ⊥
AreParts names boxes columns k (t ∷ ts) [] = ⊥
AreParts names boxes columns k (t ∷ ts) (q ∷ qs) =
    Means names boxes columns k t q × AreParts names boxes columns (k + q.count) ts qs

-- ---- all parts
abbrev pub rows_of : List Part → List Row
rows_of [] = []
rows_of (q ∷ qs) = q.rows ++ rows_of qs

abbrev pub count_of : List Part → ℕ
count_of [] = 0
count_of (q ∷ qs) = q.count + count_of qs

abbrev pub fresh_of : List Part → Assignment → List Bool
fresh_of [] w = []
fresh_of (q ∷ qs) w = q.fresh w ++ fresh_of qs w

abbrev pub forms_of : List Part → List Affine
forms_of qs = map (λ q. q.form) qs
