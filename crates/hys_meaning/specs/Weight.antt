-- The weight of a source: by it the size of its system is bounded.
use Rattle.std.specs.Prelude.{ℕ, ◌+◌, suc, List, Bool, true, false, ◌||◌, length, filter, cond}
use Rattle.std.specs.List.{count_by, sum_by}
use Rattle.hys_ast.specs.declared.source.Section.{Section}
use Rattle.hys_ast.specs.Tree.{Tree, Item, Source}
use Rattle.hys_ast.specs.Tree as tree
use Rattle.hys_ast.specs.Nodes.{shape_expressions}
use Rattle.hys_meaning.specs.Names.{is_state, is_input, is_auxiliary}
use Rattle.hys_meaning.specs.Typed.{is_connective, is_demand}
use Rattle.hys_meaning.specs.Unfolded.{unfolded}

-- the number of connectives in an expression
abbrev pub connectives : Tree → ℕ
connectives (tree.Number text p) = 0
connectives (tree.Name n p) = 0
connectives (tree.Truth b p) = 0
connectives (tree.Cast n p) = 0
connectives (tree.Unary op a p) = connectives a
connectives (tree.Binary op a b p) = cond (is_connective op) 1 0 + (connectives a + connectives b)

-- states, inputs and auxiliaries have a column
abbrev pub has_column : Section → Bool
has_column s = is_state s || (is_input s || is_auxiliary s)

-- an item weighs its connectives, and one of MUST one more
abbrev pub item_weight : Item → ℕ
item_weight i = cond (is_demand i.section) 1 0 + sum_by connectives (shape_expressions i.shape)

-- the names with a column, connectives and MUST items of a source in which each guard has a name
abbrev pub named_weight : Source → ℕ
named_weight s = count_by (λ d. has_column d.section) s.decls + sum_by item_weight s.items

-- the number of STATE, INPUT and AUX names, of unnamed guards, of connectives and of MUST items
abbrev pub weight : Source → ℕ
weight s = named_weight (unfolded s)
