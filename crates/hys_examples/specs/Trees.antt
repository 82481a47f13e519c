-- Short ways to write trees. Their places don't matter.
use Rattle.std.specs.Prelude.{ℕ, List, Bool, Option, Some, None}
use Rattle.hys_ast.specs.declared.place.Place.{Place}
use Rattle.hys_ast.specs.declared.tree.BinaryOp.{BinaryOp}
use Rattle.hys_ast.specs.declared.tree.UnaryOp.TheVariants as unary
use Rattle.hys_ast.specs.declared.source.Section.{Section}
use Rattle.hys_ast.specs.declared.source.Section.TheVariants as section
use Rattle.hys_ast.specs.declared.source.Kind.TheVariants as kind
use Rattle.hys_ast.specs.Tree.{Tree, Decl, Shape, Item}
use Rattle.hys_ast.specs.Tree as tree

abbrev pub somewhere : Place
somewhere = record { byte = 0; line = 0; col = 0 }

abbrev pub number : List ℕ → Tree
number text = tree.Number text somewhere

abbrev pub name : List ℕ → Tree
name n = tree.Name n somewhere

abbrev pub cast : List ℕ → Tree
cast n = tree.Cast n somewhere

abbrev pub negated : Tree → Tree
negated a = tree.Unary unary.Not a somewhere

abbrev pub both : BinaryOp → Tree → Tree → Tree
both op a b = tree.Binary op a b somewhere

-- REAL n [low, high]
abbrev pub real_in : Section → List ℕ → Tree → Tree → Decl
real_in s n low high = record { section = s; kind = kind.Real; name = n; place = somewhere; low = Some low; high = Some high; value = None }

-- REAL n
abbrev pub real : Section → List ℕ → Decl
real s n = record { section = s; kind = kind.Real; name = n; place = somewhere; low = None; high = None; value = None }

-- BOOL n
abbrev pub bool : Section → List ℕ → Decl
bool s n = record { section = s; kind = kind.Bool; name = n; place = somewhere; low = None; high = None; value = None }

-- PARAMETER REAL n = e
abbrev pub parameter : List ℕ → Tree → Decl
parameter n e = record { section = section.Parameter; kind = kind.Real; name = n; place = somewhere; low = None; high = None; value = Some e }

-- PARAMETER BOOL n = e
abbrev pub bool_parameter : List ℕ → Tree → Decl
bool_parameter n e = record { section = section.Parameter; kind = kind.Bool; name = n; place = somewhere; low = None; high = None; value = Some e }

-- n = e
abbrev pub item : Section → List ℕ → Tree → Item
item s n e = record { section = s; name = Some n; place = somewhere; shape = tree.Plain e }

-- n = { IF a THEN b }, with a part for ELSE or without
abbrev pub choice : List ℕ → Tree → Tree → Option Tree → Item
choice n a b c = record { section = section.Da; name = Some n; place = somewhere; shape = tree.Choice a b c }

abbrev pub must : Tree → Item
must e = record { section = section.Must; name = None; place = somewhere; shape = tree.Plain e }

abbrev pub minus : Tree → Tree
minus a = tree.Unary unary.Neg a somewhere

abbrev pub truth : Bool → Tree
truth b = tree.Truth b somewhere

-- ---- with a place
abbrev pub place : ℕ → ℕ → ℕ → Place
place byte line col = record { byte = byte; line = line; col = col }

abbrev pub number_at : Place → List ℕ → Tree
number_at p text = tree.Number text p

abbrev pub both_at : Place → BinaryOp → Tree → Tree → Tree
both_at p op a b = tree.Binary op a b p

abbrev pub item_at : Place → Section → List ℕ → Tree → Item
item_at p s n e = record { section = s; name = Some n; place = p; shape = tree.Plain e }
