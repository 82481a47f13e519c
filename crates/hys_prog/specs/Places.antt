-- The items of a program by their places.
use Rattle.std.specs.Prelude.{◌≡◌, ℕ, zero, suc, ◌<◌, List, [], ◌∷◌, Option, Some, None, take, true, length}
use Rattle.std.proofs.Common.{get_or, set}
use Rattle.hys_prog.specs.declared.program.ProgItem.{ProgItem}
use Rattle.hys_prog.specs.declared.program.Program.{Program}
use Rattle.hys_prog.specs.Programs.{NameAt, is_defined}
use Rattle.hys_prog.specs.Orders.{SomeItem}

-- there is an item at the place, and it has the property
abbrev pub ItemAt : List ProgItem → ℕ → (ProgItem → Type 0) → Type 0
ItemAt [] k P = ⊥
ItemAt (t ∷ ts) zero P = P t
ItemAt (t ∷ ts) (suc k) P = ItemAt ts k P

abbrev pub Defines : ℕ → ProgItem → Type 0
Defines n t = t.name ≡ Some n

-- of each name that is defined the place of the item that defines it
abbrev pub ArePlaces : Program → List ℕ → Type 0
ArePlaces p places =
    (n : ℕ) → NameAt p.names n (λ x. is_defined x.role ≡ true) → ItemAt p.items (get_or places n 0) (Defines n)

-- the places with that of one name more
abbrev pub noted : List ℕ → Option ℕ → ℕ → List ℕ
noted places (Some n) k = set places n k
noted places None k = places

-- of each name that one of so many items defines the place of one that does
pub record AreFound (items : List ProgItem) (count : ℕ) (places : List ℕ) : Type 0 where
  pub found : (n : ℕ) → n < length places → SomeItem (Defines n) (take count items) →
      ItemAt items (get_or places n 0) (Defines n)
