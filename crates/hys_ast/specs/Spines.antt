-- Printing an expression along its left operands: the first of them, and then what follows each.
use Rattle.std.specs.Prelude.{◌≡◌, ℕ, ◌≤◌, Bool, true, false, List, [], ◌∷◌, ◌++◌}
use denote.Ref.{Bor}
use Rattle.hys_lex.specs.Spaced.{Spelling, spaced}
use Rattle.hys_ast.specs.Operators.{level_of}
use Rattle.hys_ast.specs.Nodes.{nodes}
use Rattle.hys_ast.specs.Tree.{Tree, Number, Name, Truth, Cast, Unary, Binary}
use Rattle.hys_ast.specs.Printed.{binary_mark, left_strength, right_strength, is_loose, close_words, expr_words, operand_words}
use Rattle.hys_ast.specs.declared.tree.Expr.{Expr}
use Rattle.hys_ast.specs.Seen.{tree_of, trees_of}

-- what follows the left operand of an operator
abbrev pub behind_left : Tree → List Spelling → List Spelling
behind_left (Binary op a b place) rest = close_words (is_loose (left_strength (level_of op)) a) (binary_mark op ∷ operand_words (right_strength (level_of op)) b rest)
behind_left (Number text place) rest = rest
behind_left (Name text place) rest = rest
behind_left (Truth value place) rest = rest
behind_left (Cast text place) rest = rest
behind_left (Unary op a place) rest = rest

-- what follows the left operands of operators, each of them the left operand of the one before it
abbrev pub behind : List Tree → List Spelling → List Spelling
behind [] rest = rest
behind (e ∷ es) rest = behind es (behind_left e rest)

-- no operator between two operands
abbrev pub is_single : Tree → Bool
is_single (Binary op a b place) = false
is_single (Number text place) = true
is_single (Name text place) = true
is_single (Truth value place) = true
is_single (Cast text place) = true
is_single (Unary op a place) = true

-- no expression has more nodes
abbrev pub Within : ℕ → List Tree → Type 0
Within n [] = Unit {0}
Within n (e ∷ es) = (nodes e ≤ n) × Within n es

-- of an expression that is written, what is left is its first operand and the operators that this stands in
abbrev pub WritesSpine : List ℕ → List ℕ → Expr → Expr → List (Bor Expr) → Type 0
WritesSpine before after whole first spine = (rest : List Spelling) →
    after ++ spaced (expr_words (tree_of first) (behind (trees_of spine) rest)) ≡ before ++ spaced (expr_words (tree_of whole) rest)
