-- Whether the numbers of a source fit, and the first that doesn't.
use Rattle.std.specs.Prelude.{◌≡◌, ℕ, List, ◌++◌, Some, None, ◌⊎◌, IsTrue}
use Rattle.std.specs.List.{AllByRecursion}
use Rattle.hys_number.specs.Number.{Number}
use Rattle.hys_number.specs.Ops.{fits}
use Rattle.hys_ast.specs.declared.place.Place.{Place}
use Rattle.hys_ast.specs.Tree.{Tree, Source}
use Rattle.hys_meaning.specs.Unfolded.{unfolded, is_inequality}
use Rattle.hys_meaning.specs.Names.{Name}
use Rattle.hys_meaning.specs.Forms.{Form}
use Rattle.hys_meaning.specs.Typed.{IsComparison}
use Rattle.hys_meaning.specs.Folding.{Computed, first_unfit, folded, numbers_of, all_at}
use Rattle.hys_examples.specs.Ranges.{IsOrder, range_numbers, ranging, interval_of}
use Rattle.hys_examples.specs.RowNumbers.{row_numbers}

-- the numbers of the intervals of auxiliaries, and those of the rows, by the order of definition of a source in
-- which each guard has a name
abbrev pub built : Number → Source → List (List ℕ) → List Computed
built tolerance s order = range_numbers (unfolded s) order ++ row_numbers tolerance (unfolded s) order

-- the numbers of the expressions as written fit, and so do those that are built on them
pub record Fits (tolerance : Number) (s : Source) : Type 0 where
  pub expressions : first_unfit (folded s) ≡ None
  pub order : List (List ℕ)
  pub is_order : IsOrder (unfolded s) order
  pub built_fit : first_unfit (built tolerance s order) ≡ None

-- the numbers of the expressions fit, and this is the first of the others that doesn't
pub record IsFirstBuilt (tolerance : Number) (s : Source) (c : Computed) : Type 0 where
  pub expressions : first_unfit (folded s) ≡ None
  pub order : List (List ℕ)
  pub is_order : IsOrder (unfolded s) order
  pub first : first_unfit (built tolerance s order) ≡ Some c

-- the first number that doesn't fit, be it of an expression, of an interval or of a row
abbrev pub IsFirstUnfit : Number → Source → Computed → Type 0
IsFirstUnfit tolerance s c = (first_unfit (folded s) ≡ Some c) ⊎ IsFirstBuilt tolerance s c

-- all numbers fit, or one is the first that doesn't
abbrev pub FitsOrNot : Number → Source → Type 0
FitsOrNot tolerance s = Fits tolerance s ⊎ ((c : Computed) × IsFirstUnfit tolerance s c)

-- all of the numbers fit
abbrev pub AllFit : List Computed → Type 0
AllFit cs = first_unfit cs ≡ None

-- all numbers that an expression computes fit
abbrev pub IsFitting : List Name → Tree → Type 0
IsFitting ns e = AllFit (numbers_of ns e)

-- the values of the names fit
abbrev pub HaveFitting : List Name → Type 0
HaveFitting ns = AllByRecursion (λ n. IsTrue (fits n.value)) ns

-- a comparison that a guard may be
abbrev pub IsGuard : List Name → Tree → Type 0
IsGuard ns e = IsComparison is_inequality ns e

-- the numbers that the interval of a form is made of fit
abbrev pub RangeFits : Place → List Name → Form → Type 0
RangeFits p ns f = AllFit (all_at p (ranging ns f))

-- both ends of the interval of a form fit
abbrev pub EndsFit : List Name → Form → Type 0
EndsFit ns f = IsTrue (fits (interval_of ns f).low) × IsTrue (fits (interval_of ns f).high)
