-- What the results of the readers of declarations, items and sections stand for.
use Rattle.std.specs.Prelude.{List, Bool, Option, Vec, map}
use denote.Ref.{Bor}
use Rattle.std.specs.declared.alloc.Global.{Global}
use Rattle.hys_ast.specs.declared.lexeme.Lexeme.{Lexeme}
use Rattle.hys_ast.specs.declared.tree.Expr.{Expr}
use Rattle.hys_ast.specs.declared.source.Section.{Section}
use Rattle.hys_ast.specs.declared.source.Kind.{Kind}
use Rattle.hys_ast.specs.declared.source.Decl.{Decl}
use Rattle.hys_ast.specs.declared.source.Shape.{Shape}
use Rattle.hys_ast.specs.declared.source.Item.{Item}
use Rattle.hys_ast.specs.Tree as tree
use Rattle.hys_ast.specs.Seen.{tree_of, maybe_tree_of, decl_of, shape_of, item_of}
use Rattle.hys_parse.specs.Sections.{Draft, draft_of, decl_with}
use Rattle.hys_parse.specs.declared.draft.Draft.{Draft as Held}

-- ---- what is read, and the lexemes behind it
abbrev pub read_tree : Expr × Bor (List Lexeme) → tree.Tree × List Lexeme
read_tree p = (tree_of p.0, p.1.now)

abbrev pub read_shape : Shape × Bor (List Lexeme) → tree.Shape × List Lexeme
read_shape p = (shape_of p.0, p.1.now)

abbrev pub read_decls : Vec Decl Global × Bor (List Lexeme) → List tree.Decl × List Lexeme
read_decls p = (map decl_of p.0.items, p.1.now)

abbrev pub read_items : Vec Item Global × Bor (List Lexeme) → List tree.Item × List Lexeme
read_items p = (map item_of p.0.items, p.1.now)

abbrev pub read_draft : Held × Bor (List Lexeme) → Draft × List Lexeme
read_draft p = (draft_of p.0, p.1.now)

-- ---- what is read after a turn, and whether another follows
abbrev pub turned_decls : Vec Decl Global × Bool × Bor (List Lexeme) → List tree.Decl × Bool × List Lexeme
turned_decls p = (map decl_of p.0.items, p.1, p.2.now)

abbrev pub turned_items : Vec Item Global × Bool × Bor (List Lexeme) → List tree.Item × Bool × List Lexeme
turned_items p = (map item_of p.0.items, p.1, p.2.now)

abbrev pub turned_draft : Held × Bool × Bor (List Lexeme) → Draft × Bool × List Lexeme
turned_draft p = (draft_of p.0, p.1, p.2.now)

-- a declaration of these parts
abbrev pub declaring : Section → Kind → Lexeme → Option Expr → Option Expr → Option Expr → tree.Decl
declaring s k name low high value = decl_with s k name (maybe_tree_of low) (maybe_tree_of high) (maybe_tree_of value)
