-- That a source and a program have the same steps, and that their items say the same.
use Rattle.std.specs.Prelude.{◌≡◌, ◌<◌, ℕ, List, Some, length, map, ◌↔◌, IsTrue}
use Rattle.std.specs.List.{AllByRecursion}
use Rattle.hys_number.specs.Number.{Number}
use Rattle.hys_number.specs.Ops.{◌<ₙ◌, whole}
use Rattle.hys_lin.specs.Sums.{Assignment as PlaceAssignment}
use Rattle.hys_ast.specs.Tree.{Source}
use Rattle.hys_meaning.specs.Values.{Assignment}
use Rattle.hys_meaning.specs.Names.{Name, names, look, is_parameter}
use Rattle.hys_meaning.specs.Typed.{DeclaredOnce, Typed}
use Rattle.hys_meaning.specs.Unfolded.{unfolded}
use Rattle.hys_meaning.specs.Circular.{Circular}
use Rattle.hys_meaning.specs.Steps as source
use Rattle.hys_prog.specs.declared.program.Program.{Program}
use Rattle.hys_prog.specs.Orders.{Circular as IsCircular}
use Rattle.hys_prog.specs.Programs.{IsProgram}
use Rattle.hys_prog.specs.Steps as program
use Rattle.hys_type.specs.Declaring.{IsDeclaration}
use Rattle.hys_type.specs.ProgramTrees.{program_tree}
use Rattle.hys_type.specs.Rules.{KeepsTyping}
use Rattle.hys_type.specs.Translation.{IsTranslation, OneByOne, place_in}
use Rattle.hys_type.specs.ItemValues.{SayTheSame}
use Rattle.hys_type.specs.Views.{by_places, by_texts}

-- the program is the translation of a typed source in which no name is declared twice
pub record Translates (tolerance : Number) (s : Source) (p : Program) : Type 0 where
  pub translation : IsTranslation tolerance s p
  pub once : DeclaredOnce (unfolded s)
  pub typed : Typed (unfolded s)

-- of every translation of a typed source
abbrev pub OfEachTranslation : (Number → Source → Program → Type 0) → Type 0
OfEachTranslation P = (tolerance : Number) (s : Source) (p : Program) → Translates tolerance s p → P tolerance s p

-- any two translations are one
abbrev pub HasOneTranslation : Number → Source → Type 0
HasOneTranslation tolerance s = (p q : Program) → IsTranslation tolerance s p → IsTranslation tolerance s q →
    program_tree p ≡ program_tree q

-- a translation is a program, where the source keeps the rules of typing
abbrev pub BecomesProgram : Number → Source → Type 0
BecomesProgram tolerance s = (p : Program) → IsTranslation tolerance s p → KeepsTyping (unfolded s) →
    AllByRecursion IsDeclaration s.decls → whole 0 <ₙ tolerance → IsProgram p

-- ---- steps
-- from texts to places and back each declared name keeps its number
abbrev pub TextsAgain : Source → Type 0
TextsAgain s = (w : Assignment) (n : List ℕ) (m : Name) → look (names s) n ≡ Some m →
    by_texts (names s) (by_places (names s) w) n ≡ w n

-- from places to texts and back, too
abbrev pub PlacesAgain : Source → Type 0
PlacesAgain s = (v : PlaceAssignment) (k : ℕ) → DeclaredOnce s → k < length (names s) →
    by_places (names s) (by_texts (names s) v) k ≡ v k

-- the steps of the source are those of the program with the numbers by places
abbrev pub StepsByPlaces : Source → Program → Type 0
StepsByPlaces s p = (x u : List Number) (w : Assignment) (x' y : List Number) →
    source.Step s x u w x' y ↔ program.Step p x u (by_places (names s) w) x' y

-- the steps of the program are those of the source with the numbers by texts
abbrev pub StepsByTexts : Source → Program → Type 0
StepsByTexts s p = (x u : List Number) (v : PlaceAssignment) (x' y : List Number) →
    program.Step p x u v x' y ↔ source.Step s x u (by_texts (names s) v) x' y

-- the same for legal steps
abbrev pub LegalByPlaces : Number → Source → Program → Type 0
LegalByPlaces tolerance s p = (x u : List Number) (w : Assignment) (x' y : List Number) →
    source.Legal tolerance s x u w x' y ↔ program.Legal p x u (by_places (names s) w) x' y

abbrev pub LegalByTexts : Number → Source → Program → Type 0
LegalByTexts tolerance s p = (x u : List Number) (v : PlaceAssignment) (x' y : List Number) →
    program.Legal p x u v x' y ↔ source.Legal tolerance s x u (by_texts (names s) v) x' y

-- the places of a circular list of names are one of the program
abbrev pub CirclesByPlaces : Source → Program → Type 0
CirclesByPlaces s p = (ns : List (List ℕ)) → Circular s ns → IsCircular p (map (place_in (names s)) ns)

-- each circular list of the program has the places of one of the source
abbrev pub CirclesByTexts : Source → Program → Type 0
CirclesByTexts s p = (js : List ℕ) → IsCircular p js →
    (ns : List (List ℕ)) × (map (place_in (names s)) ns ≡ js) × Circular s ns

-- the same of a source that is read from a text, once its guards have names
abbrev pub ReadCirclesByTexts : Source → Program → Type 0
ReadCirclesByTexts s p = AllByRecursion IsDeclaration s.decls → CirclesByTexts (unfolded s) p

-- ---- single items
-- the assignment has the values of the parameters
abbrev pub HasParameters : Assignment → List Name → Type 0
HasParameters w ns = AllByRecursion (λ n. IsTrue (is_parameter n.section) → w n.text ≡ n.value) ns

-- Where an assignment has the parameters' values, each item of the program says by places what the item of the source
-- says by texts: the same number or truth, and a guard has its own tolerance, or else the one for all.
abbrev pub ValuesByPlaces : Number → Source → Program → Type 0
ValuesByPlaces tolerance s p = (w : Assignment) → HasParameters w (names s) →
    OneByOne (SayTheSame (names s) tolerance w (by_places (names s) w)) s.items p.items

-- the same for an assignment to places
abbrev pub ValuesByTexts : Number → Source → Program → Type 0
ValuesByTexts tolerance s p = (v : PlaceAssignment) → HasParameters (by_texts (names s) v) (names s) →
    OneByOne (SayTheSame (names s) tolerance (by_texts (names s) v) v) s.items p.items
