-- What is added to a program for the items of a source: the names and the items of the guards that stand in an item,
-- and behind them its own item.
use Rattle.std.specs.Prelude.{◌≡◌, ◌+◌, ◌-◌, ℕ, List, [], ◌∷◌, ◌++◌, Vec, length, map}
use Rattle.std.specs.declared.alloc.Global.{Global}
use Rattle.std.specs.List.{sum_by}
use Rattle.hys_number.specs.Number.{Number}
use Rattle.hys_ast.specs.declared.source.Item.{Item as SourceItem}
use Rattle.hys_ast.specs.Seen.{item_of}
use Rattle.hys_ast.specs.Tree.{Item}
use Rattle.hys_meaning.specs.Names.{Name}
use Rattle.hys_meaning.specs.Bodies as said
use Rattle.hys_meaning.specs.Weight.{item_weight}
use Rattle.hys_prog.specs.declared.program.Body.{Body}
use Rattle.hys_prog.specs.declared.program.Name.{Name as ProgName}
use Rattle.hys_prog.specs.declared.program.ProgItem.{ProgItem}
use Rattle.hys_prog.specs.declared.program.Program.{Program}
use Rattle.hys_prog.specs.Programs.{names_weight}
use Rattle.hys_type.specs.Built.{IsBuilt, IsGuardOf, body_comparisons}
use Rattle.hys_type.specs.Guarding.{names_of_guards, items_of_guards}
use Rattle.hys_type.specs.Scopes.{setting_in}
use Rattle.hys_type.specs.Translation.{Setting, OneByOne, left_kind, place_if}
use Rattle.hys_type.specs.declared.built.Guard.{Guard}
use Rattle.hys_type.specs.declared.constant.Known.{Known}
use Rattle.hys_type.specs.declared.judge.Judged.{Judged}
use Rattle.hys_type.specs.declared.scope.Declared.{Declared}

-- the names and the items so far
pub record Lists : Type 0 where
  pub names : List ProgName
  pub items : List ProgItem

abbrev pub lists : List ProgName → List ProgItem → Lists
lists ns is = record { names = ns; items = is }

-- the item of a program with the body of an item of a source
abbrev pub own_item : List Name → Item → Body → ProgItem
own_item ns i b = record { name = place_if ns i.name; place = i.place; body = b }

-- The number of the first guard is 1 more than that of the guards before, and its name stands behind all names so far.
pub record IsAdded (c : Setting) (i : Item) (before after : Lists) : Type 0 where
  pub guards : List Guard
  pub body : Body
  pub compared : OneByOne (IsGuardOf c.names) (body_comparisons (left_kind c.names i.name) (said.body i)) guards
  pub built : IsBuilt c (length before.names) (left_kind c.names i.name) (said.body i) body
  pub names : after.names ≡ before.names ++ names_of_guards (length before.names - length c.names + 1) guards
  pub items : after.items ≡
      before.items ++ (items_of_guards (length before.names) c.tolerance guards ++ own_item c.names i body ∷ [])

-- item by item
pub data AreAdded (c : Setting) : List Item → Lists → Lists → Type 0 where
  none : {l : Lists} → AreAdded c [] l l
  one : {i : Item} {is : List Item} {k l m : Lists} → IsAdded c i k l → AreAdded c is l m → AreAdded c (i ∷ is) k m

-- ---- a program that grows
abbrev pub Names : Type 0
Names = Vec ProgName Global

abbrev pub Items : Type 0
Items = Vec ProgItem Global

-- an item is added to names and items
abbrev pub IsPut : List Declared → List Known → Number → SourceItem → Names → Items → Names → Items → Type 0
IsPut ds ks tolerance i ns ts ms us =
    IsAdded (setting_in ds ks tolerance) (item_of i) (lists ns.items ts.items) (lists ms.items us.items)

-- items are added to names, where there was no item
abbrev pub ArePut : List Declared → List Known → Number → List SourceItem → Names → Names → Items → Type 0
ArePut ds ks tolerance is ns ms us =
    AreAdded (setting_in ds ks tolerance) (map item_of is) (lists ns.items []) (lists ms.items us.items)

-- the program has the names that were judged, and what is added for the items
abbrev pub IsAssembled : Judged → Number → List SourceItem → Program → Type 0
IsAssembled j tolerance is p =
    AreAdded (setting_in j.scope j.known.items tolerance) (map item_of is)
    (lists j.names.items []) (lists p.names p.items)

-- the weight of a program of these names, from these items
abbrev pub weight_from : List ProgName → List SourceItem → ℕ
weight_from ns is = names_weight ns + sum_by item_weight (map item_of is)
