-- What is asked of a typed source where a system is built of it: circular lists, and the numbers that have to fit.
use Rattle.std.specs.Prelude.{◌≡◌, ℕ, zero, suc, ◌≤◌, List, [], ◌∷◌, None}
use Rattle.std.specs.List.{AllByRecursion}
use Rattle.hys_number.specs.Number.{Number}
use Rattle.hys_ast.specs.declared.place.Place.{Place}
use Rattle.hys_ast.specs.Tree.{Item, Source}
use Rattle.hys_meaning.specs.Names.{Name}
use Rattle.hys_meaning.specs.Folding.{folded}
use Rattle.hys_meaning.specs.Folding as folding
use Rattle.hys_prog.specs.declared.program.Name.{Name as ProgName}
use Rattle.hys_prog.specs.declared.program.Program.{Program}
use Rattle.hys_prog.specs.declared.program.Order.{Order}
use Rattle.hys_prog.specs.Orders.{IsOrder}
use Rattle.hys_bound.specs.Ranges.{Placed, intervals, range_numbers, first_unfit}
use Rattle.hys_mld.specs.Numbers.{row_numbers}
use Rattle.hys_type.specs.Translation.{IsTranslation, place_in}

-- the text of the name at a place, and none where there is no such place
abbrev pub text_at : List ProgName → ℕ → List ℕ
text_at [] n = []
text_at (x ∷ xs) zero = x.text
text_at (x ∷ xs) (suc n) = text_at xs n

-- the list begins with its name that is declared first
abbrev pub BeginsWithFirst : List Name → List (List ℕ) → Type 0
BeginsWithFirst ns [] = ⊥
BeginsWithFirst ns (n ∷ ms) = AllByRecursion (λ m. place_in ns n ≤ place_in ns m) ms

-- the item with this number, from 0 on, stands at the place
abbrev pub StandsAt : List Item → ℕ → Place → Type 0
StandsAt [] k p = ⊥
StandsAt (i ∷ is) zero p = i.place ≡ p
StandsAt (i ∷ is) (suc k) p = StandsAt is k p

-- the program is the translation of the source at some tolerance
pub record IsProgramOf (tree : Source) (program : Program) : Type 0 where
  pub tolerance : Number
  pub translation : IsTranslation tolerance tree program

-- the programs have the same numbers of intervals, each along an order of its own
abbrev pub HaveSameRanges : Program → Program → Type 0
HaveSameRanges p q = (o r : Order) → IsOrder p o → IsOrder q r → range_numbers p o ≡ range_numbers q r

-- The numbers of the intervals of the source's names, in the order in which they are looked for: those of its
-- translation along its order of definition. All translations have the same, at whatever tolerance.
pub record AreRangeNumbers (tree : Source) (numbers : List Placed) : Type 0 where
  pub program : Program
  pub order : Order
  pub translation : IsProgramOf tree program
  pub ordered : IsOrder program order
  pub same : numbers ≡ range_numbers program order

-- The numbers of the rows of the source's items at a tolerance, item by item: those of its translation, whose names
-- have the intervals along its order of definition.
pub record AreRowNumbers (tolerance : Number) (tree : Source) (numbers : List Placed) : Type 0 where
  pub program : Program
  pub order : Order
  pub translation : IsTranslation tolerance tree program
  pub ordered : IsOrder program order
  pub same : numbers ≡ row_numbers program (intervals program order)

-- All numbers fit that have to: those of folded expressions, of intervals, and of rows at the tolerance.
pub record NumbersFit (tolerance : Number) (tree : Source) : Type 0 where
  pub expressions : folding.first_unfit (folded tree) ≡ None
  pub intervals : (numbers : List Placed) → AreRangeNumbers tree numbers → first_unfit numbers ≡ None
  pub rows : (numbers : List Placed) → AreRowNumbers tolerance tree numbers → first_unfit numbers ≡ None
