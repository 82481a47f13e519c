-- Small sources with their faults, written by hand: one real state x with box 0 to 10 and its next value.
use Rattle.std.specs.Prelude.{ℕ, suc, List, [], ◌∷◌, Some, None, true, codes}
use Rattle.hys_ast.specs.declared.place.Place.{Place}
use Rattle.hys_ast.specs.declared.source.Section.TheVariants as section
use Rattle.hys_ast.specs.declared.source.Kind.TheVariants as kind
use Rattle.hys_ast.specs.declared.tree.BinaryOp.TheVariants as binary
use Rattle.hys_ast.specs.Tree.{Tree, Decl, Item, Source}
use Rattle.hys_ast.specs.Tree as tree

abbrev pub spot : ℕ → Place
spot n = record { byte = n; line = 1; col = suc n }

abbrev pub digits : List ℕ → ℕ → Tree
digits text n = tree.Number text (spot n)

abbrev pub name : List ℕ → ℕ → Tree
name text n = tree.Name text (spot n)

abbrev pub zero_at : ℕ → Tree
zero_at n = digits (codes "0") n

abbrev pub ten_at : ℕ → Tree
ten_at n = digits (codes "10") n

abbrev pub state : (low high : Tree) → Decl
state low high = record {
  section = section.State;
  kind = kind.Real;
  name = codes "x";
  place = spot 1;
  low = Some low;
  high = Some high;
  value = None;
}

abbrev pub output : Decl
output = record {
  section = section.Output;
  kind = kind.Real;
  name = codes "y";
  place = spot 4;
  low = None;
  high = None;
  value = None;
}

abbrev pub next : Tree → Item
next e = record { section = section.Continuous; name = Some (codes "x"); place = spot 5; shape = tree.Plain e }

abbrev pub source : List Decl → List Item → Source
source ds is = record { system = codes "s"; decls = ds; items = is }

-- the state alone, with a next value
abbrev pub stepping : Tree → Source
stepping e = source (state (zero_at 2) (ten_at 3) ∷ []) (next e ∷ [])

-- x [0, 10] is declared twice
abbrev pub twice_declared : Source
twice_declared = source (state (zero_at 2) (ten_at 3) ∷ state (zero_at 2) (ten_at 3) ∷ []) []

-- x [x, 10]
abbrev pub bounded_by_itself : Source
bounded_by_itself = source (state (name (codes "x") 2) (ten_at 3) ∷ []) []

-- x = 0 twice
abbrev pub twice_defined : Source
twice_defined = source (state (zero_at 2) (ten_at 3) ∷ []) (next (zero_at 6) ∷ next (zero_at 7) ∷ [])

-- x = y, where y is an output
abbrev pub of_an_output : Source
of_an_output = source (state (zero_at 2) (ten_at 3) ∷ output ∷ []) (next (name (codes "y") 6) ∷ [])

-- x * x
abbrev pub squared : Tree
squared = tree.Binary binary.Mul (name (codes "x") 6) (name (codes "x") 8) (spot 7)

-- TRUE + z, where z is not declared
abbrev pub truth_and_unknown : Tree
truth_and_unknown = tree.Binary binary.Add (tree.Truth true (spot 6)) (name (codes "z") 8) (spot 7)
