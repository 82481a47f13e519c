-- The trees that the types of the code stand for.
use Rattle.std.specs.Prelude.{List, map, Option, Some, None}
use denote.Ref.{Bor}
use Rattle.hys_ast.specs.Tree as tree
use Rattle.hys_ast.specs.declared.tree.Expr.{Expr}
use Rattle.hys_ast.specs.declared.tree.Expr.TheVariants.{Number, Name, Truth, Cast, Unary', Binary'}
use Rattle.hys_ast.specs.declared.source.Decl.{Decl}
use Rattle.hys_ast.specs.declared.source.Shape.{Shape}
use Rattle.hys_ast.specs.declared.source.Shape.TheVariants.{Plain, Wide, Choice}
use Rattle.hys_ast.specs.declared.source.Item.{Item}
use Rattle.hys_ast.specs.declared.source.Source.{Source}

abbrev pub tree_of : Expr → tree.Tree
tree_of (Number text place) = tree.Number text place
tree_of (Name text place) = tree.Name text place
tree_of (Truth value place) = tree.Truth value place
tree_of (Cast text place) = tree.Cast text place
tree_of (Unary' op p a place) = tree.Unary op (tree_of a) place
tree_of (Binary' op p a q b place) = tree.Binary op (tree_of a) (tree_of b) place

abbrev pub maybe_tree_of : Option Expr → Option tree.Tree
maybe_tree_of None = None
maybe_tree_of (Some e) = Some (tree_of e)

abbrev pub decl_of : Decl → tree.Decl
decl_of d = record {
  section = d.section;
  kind = d.kind;
  name = d.name;
  place = d.place;
  low = maybe_tree_of d.low;
  high = maybe_tree_of d.high;
  value = maybe_tree_of d.value;
}

abbrev pub shape_of : Shape → tree.Shape
shape_of (Plain e) = tree.Plain (tree_of e)
shape_of (Wide a b) = tree.Wide (tree_of a) (tree_of b)
shape_of (Choice a b c) = tree.Choice (tree_of a) (tree_of b) (maybe_tree_of c)

abbrev pub item_of : Item → tree.Item
item_of i = record { section = i.section; name = i.name; place = i.place; shape = shape_of i.shape }

abbrev pub source_of : Source → tree.Source
source_of s = record { system = s.system; decls = map decl_of s.decls; items = map item_of s.items }

-- the trees of borrowed expressions
abbrev pub trees_of : List (Bor Expr) → List tree.Tree
trees_of es = map (λ e. tree_of e.now) es
