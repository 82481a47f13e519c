-- A source in which each guard has a name. A comparison with `<=` or `>=` that stands neither at the top of an
-- AD item nor at the top of a MUST item is an unnamed guard. It is named `@1`, `@2` and on, by items in source
-- order and in post-order within an item; its name takes its place, and an AD item with the comparison, at the
-- place of its sign, stands just before the item around it. The names are Boolean auxiliaries, declared after
-- all declared names. The meaning of a source is that of its unfolded one.
use Rattle.std.specs.Prelude.{ℕ, suc, List, [], ◌∷◌, ◌++◌, Option, Some, None, Bool, true, false, map, cond, codes, flat_map}
use Rattle.std.specs.Fmt.{decimal}
use Rattle.hys_ast.specs.declared.place.Place.{Place}
use Rattle.hys_ast.specs.declared.tree.BinaryOp.{BinaryOp}
use Rattle.hys_ast.specs.declared.tree.BinaryOp.TheVariants as binary
use Rattle.hys_ast.specs.declared.source.Section.{Section}
use Rattle.hys_ast.specs.declared.source.Section.TheVariants as section
use Rattle.hys_ast.specs.declared.source.Kind.TheVariants as kind
use Rattle.hys_ast.specs.Tree.{Tree, Decl, Shape, Item, Source}
use Rattle.hys_ast.specs.Tree as tree

abbrev pub is_inequality : BinaryOp → Bool
is_inequality binary.Add = false
is_inequality binary.Sub = false
is_inequality binary.Mul = false
is_inequality binary.Div = false
is_inequality binary.And = false
is_inequality binary.Or = false
is_inequality binary.Iff = false
is_inequality binary.Then = false
is_inequality binary.From = false
is_inequality binary.Most = true
is_inequality binary.Least = true
is_inequality binary.Equal = false

-- ---- unnamed guards
-- the name of the unnamed guard with this number
abbrev pub guard_name : ℕ → List ℕ
guard_name k = codes "@" ++ decimal k

-- an unnamed guard: its number, its comparison, and the place of its sign
pub record Guard : Type 0 where
  pub number : ℕ
  pub comparison : Tree
  pub place : Place

abbrev pub guard_item : Guard → Item
guard_item g = record { section = section.Ad; name = Some (guard_name g.number); place = g.place; shape = tree.Plain g.comparison }

abbrev pub guard_decl : Guard → Decl
guard_decl g = record { section = section.Aux; kind = kind.Bool; name = guard_name g.number; place = g.place; low = None; high = None; value = None }

-- ---- naming
-- a part of a source whose guards were named from some number on: the guards, the next number, and the part
-- with the names in their place
pub record Naming (A : Type 0) : Type 0 where
  pub guards : List Guard
  pub next : ℕ
  pub part : A

abbrev pub unchanged : {A : Type 0} → ℕ → A → Naming A
unchanged k a = record { guards = []; next = k; part = a }

abbrev pub mapped : {A B : Type 0} → (A → B) → Naming A → Naming B
mapped f u = record { guards = u.guards; next = u.next; part = f u.part }

-- two parts, of which the second was named from where the first ends
abbrev pub paired : {A B C : Type 0} → (A → B → C) → Naming A → Naming B → Naming C
paired f u v = record { guards = u.guards ++ v.guards; next = v.next; part = f u.part v.part }

-- a comparison becomes the next guard, and its name stands in its place
abbrev pub guarded : Place → Naming Tree → Naming Tree
guarded p u = record {
  guards = u.guards ++ record { number = u.next; comparison = u.part; place = p } ∷ [];
  next = suc u.next;
  part = tree.Name (guard_name u.next) p;
}

abbrev pub guarded_if : Bool → Place → Naming Tree → Naming Tree
guarded_if true p u = guarded p u
guarded_if false p u = u

abbrev pub named : ℕ → Tree → Naming Tree
named k (tree.Number text p) = unchanged k (tree.Number text p)
named k (tree.Name n p) = unchanged k (tree.Name n p)
named k (tree.Truth b p) = unchanged k (tree.Truth b p)
named k (tree.Cast n p) = unchanged k (tree.Cast n p)
named k (tree.Unary op a p) = mapped (λ a. tree.Unary op a p) (named k a)
named k (tree.Binary op a b p) = guarded_if (is_inequality op) p (paired (λ a b. tree.Binary op a b p) (named k a) (named (named k a).next b))

-- the same, but the comparison at the top keeps its place
abbrev pub named_below : ℕ → Tree → Naming Tree
named_below k (tree.Number text p) = unchanged k (tree.Number text p)
named_below k (tree.Name n p) = unchanged k (tree.Name n p)
named_below k (tree.Truth b p) = unchanged k (tree.Truth b p)
named_below k (tree.Cast n p) = unchanged k (tree.Cast n p)
named_below k (tree.Unary op a p) = mapped (λ a. tree.Unary op a p) (named k a)
named_below k (tree.Binary op a b p) = paired (λ a b. tree.Binary op a b p) (named k a) (named (named k a).next b)

-- the comparison at the top of an item of the section is no unnamed guard
abbrev pub keeps_top : Section → Bool
keeps_top section.State = false
keeps_top section.Input = false
keeps_top section.Output = false
keeps_top section.Parameter = false
keeps_top section.Aux = false
keeps_top section.Ad = true
keeps_top section.Da = false
keeps_top section.Logic = false
keeps_top section.Linear = false
keeps_top section.Automata = false
keeps_top section.Continuous = false
keeps_top section.OutputItem = false
keeps_top section.Must = true

abbrev pub named_top : Bool → ℕ → Tree → Naming Tree
named_top true k e = named_below k e
named_top false k e = named k e

abbrev pub named_maybe : ℕ → Option Tree → Naming (Option Tree)
named_maybe k (Some e) = mapped (λ e. Some e) (named k e)
named_maybe k None = unchanged k None

-- condition, THEN and ELSE of a choice, in the order of the text
abbrev pub applied : Naming Tree → Naming (Tree → Shape) → Naming Shape
applied u v = record { guards = u.guards ++ v.guards; next = v.next; part = v.part u.part }

abbrev pub choice_parts : Naming Tree → Naming (Option Tree) → Naming (Tree → Shape)
choice_parts u v = paired (λ (b : Tree) (c : Option Tree) (a : Tree). tree.Choice a b c) u v

abbrev pub named_choice : ℕ → Tree → Tree → Option Tree → Naming Shape
named_choice k a b c = applied (named k a) (choice_parts (named (named k a).next b) (named_maybe (named (named k a).next b).next c))

-- a tolerance is constant, so no guard stands in it
abbrev pub named_shape : Section → ℕ → Shape → Naming Shape
named_shape s k (tree.Plain e) = mapped tree.Plain (named_top (keeps_top s) k e)
named_shape s k (tree.Wide e t) = mapped (λ e. tree.Wide e t) (named_top (keeps_top s) k e)
named_shape s k (tree.Choice a b c) = named_choice k a b c

abbrev pub named_item : ℕ → Item → Naming Item
named_item k i = mapped (λ r. record { section = i.section; name = i.name; place = i.place; shape = r }) (named_shape i.section k i.shape)

abbrev pub named_items : ℕ → List Item → List (Naming Item)
named_items k [] = []
named_items k (i ∷ is) = named_item k i ∷ named_items (named_item k i).next is

-- ---- sources
-- the unnamed guards of a source, in the order of their numbers
abbrev pub guards : Source → List Guard
guards s = flat_map (λ (u : Naming Item). u.guards) (named_items 1 s.items)

-- an item behind the guards that stand in it
abbrev pub behind : Naming Item → List Item
behind u = map guard_item u.guards ++ u.part ∷ []

abbrev pub unfolded : Source → Source
unfolded s = record {
  system = s.system;
  decls = s.decls ++ map guard_decl (guards s);
  items = flat_map behind (named_items 1 s.items);
}
