-- Reading from left to right with one lexeme looked at ahead. A reader answers what it read and
-- the lexemes behind it, or how many lexemes were left where it could not go on.
use Rattle.std.specs.Prelude.{◌≡◌, ℕ, zero, suc, Bool, true, false, ◌==◌, List, [], ◌∷◌, length, Option, Some, None, Result, Ok, Err, if◌then◌else◌}
use Rattle.hys_lex.specs.declared.token.TokenKind.{TokenKind}
use Rattle.hys_lex.specs.declared.token.TokenKind.TheVariants as token
use Rattle.hys_lex.specs.declared.sign.TheConstants as sign
use Rattle.hys_lex.specs.declared.keyword.TheConstants as keyword
use Rattle.hys_ast.specs.declared.place.Place.{Place}
use Rattle.hys_ast.specs.declared.lexeme.Lexeme.{Lexeme}
use Rattle.hys_ast.specs.declared.tree.UnaryOp.{UnaryOp}
use Rattle.hys_ast.specs.declared.tree.UnaryOp.TheVariants as unary
use Rattle.hys_ast.specs.declared.tree.BinaryOp.{BinaryOp}
use Rattle.hys_ast.specs.declared.level.Level.{Level}
use Rattle.hys_ast.specs.declared.level.Level.TheVariants as level
use Rattle.hys_ast.specs.Operators.{binary_of, level_of, groups, is_not, sign_of}
use Rattle.hys_ast.specs.Grammar.{Symbol, At, Behind, Negation, Signed, Atom, truth_of}
use Rattle.hys_ast.specs.Tree.{Tree}
use Rattle.hys_ast.specs.Tree as tree
use Rattle.hys_parse.specs.declared.stop.Stop.{Stop}
use Rattle.hys_parse.specs.declared.stop.Stop.TheVariants as stop

abbrev pub Read : Type 0 → Type 0
Read A = Result (A × List Lexeme) ℕ

infixl 10 ◌>>=◌
abbrev pub ◌>>=◌ : {A B : Type 0} → Result A ℕ → (A → Result B ℕ) → Result B ℕ
(Ok x) >>= f = f x
(Err e) >>= f = Err e

abbrev pub choose : {A B : Type 0} → Option A → B → (A → B) → B
choose None b f = b
choose (Some a) b f = f a

-- What a function returned, seen by view, is what reading gives, unless memory ran out.
abbrev pub Fails : {Y : Type 0} → Stop → Result Y ℕ → Type 0
Fails stop.Memory read = Unit {0}
Fails (stop.Left n) read = read ≡ Err n

abbrev pub Gives : {X Y : Type 0} → (X → Y) → Result X Stop → Result Y ℕ → Type 0
Gives view (Ok x) read = read ≡ Ok (view x)
Gives view (Err e) read = Fails e read

abbrev pub Finds : {X Y : Type 0} → (X → Y) → Option X → Option Y → Type 0
Finds view None found = found ≡ None
Finds view (Some x) found = found ≡ Some (view x)

abbrev pub same_kind : TokenKind → TokenKind → Bool
same_kind token.Name token.Name = true
same_kind token.Name token.Literal = false
same_kind token.Name (token.Keyword b) = false
same_kind token.Name (token.Sign b) = false
same_kind token.Literal token.Name = false
same_kind token.Literal token.Literal = true
same_kind token.Literal (token.Keyword b) = false
same_kind token.Literal (token.Sign b) = false
same_kind (token.Keyword a) token.Name = false
same_kind (token.Keyword a) token.Literal = false
same_kind (token.Keyword a) (token.Keyword b) = a == b
same_kind (token.Keyword a) (token.Sign b) = false
same_kind (token.Sign a) token.Name = false
same_kind (token.Sign a) token.Literal = false
same_kind (token.Sign a) (token.Keyword b) = false
same_kind (token.Sign a) (token.Sign b) = a == b

abbrev pub level_number : Level → ℕ
level_number level.Arrow = 0
level_number level.Or = 1
level_number level.And = 2
level_number level.Compare = 3
level_number level.Sum = 4
level_number level.Term = 5

abbrev pub same_level : Level → Level → Bool
same_level a b = level_number a == level_number b

-- the first lexeme, which must be of this kind
unfoldable pub expect : TokenKind → List Lexeme → Read Lexeme
expect kind [] = Err 0
expect kind (l ∷ ts) = if same_kind l.kind kind then Ok (l, ts) else Err (suc (length ts))

-- what stands behind the first lexeme, where it is of this kind
unfoldable pub after : TokenKind → List Lexeme → Option (List Lexeme)
after kind [] = None
after kind (l ∷ ts) = if same_kind l.kind kind then Some ts else None

-- the operator of a level at the front, its place, and what stands behind it
unfoldable pub joint : Level → List Lexeme → Option (BinaryOp × Place × List Lexeme)
joint n [] = None
joint n (l ∷ ts) = choose (binary_of l.kind) None (λ op. if same_level (level_of op) n then Some (op, l.place, ts) else None)

unfoldable pub not_at : List Lexeme → Option (Place × List Lexeme)
not_at [] = None
not_at (l ∷ ts) = if is_not l.kind then Some (l.place, ts) else None

unfoldable pub sign_at : List Lexeme → Option (UnaryOp × Place × List Lexeme)
sign_at [] = None
sign_at (l ∷ ts) = choose (sign_of l.kind) None (λ op. Some (op, l.place, ts))

-- The readers of expressions. Inner reads what stands inside a parenthesis or behind a sign.
unfoldable pub cast_at : List Lexeme → Read Tree
cast_at ts = do
  l ← expect token.Name ts
  end ← expect (token.Sign sign.CLOSE_PARENTHESIS) l.1
  Ok (tree.Cast l.0.text l.0.place, end.1)

unfoldable pub whole_at : (Symbol → List Lexeme → Read Tree) → List Lexeme → Read Tree
whole_at inner ts = do
  e ← inner (At level.Arrow) ts
  end ← expect (token.Sign sign.CLOSE_PARENTHESIS) e.1
  Ok (e.0, end.1)

unfoldable pub group_at : (Symbol → List Lexeme → Read Tree) → List Lexeme → Read Tree
group_at inner ts = choose (after (token.Keyword keyword.REAL) ts) (whole_at inner ts) cast_at

abbrev pub atom_of : (Symbol → List Lexeme → Read Tree) → Lexeme → List Lexeme → TokenKind → Read Tree
atom_of inner l ts token.Literal = Ok (tree.Number l.text l.place, ts)
atom_of inner l ts token.Name = Ok (tree.Name l.text l.place, ts)
atom_of inner l ts (token.Keyword k) = choose (truth_of k) (Err (suc (length ts))) (λ value. Ok (tree.Truth value l.place, ts))
atom_of inner l ts (token.Sign s) = if s == sign.OPEN_PARENTHESIS then group_at inner ts else Err (suc (length ts))

unfoldable pub atom_at : (Symbol → List Lexeme → Read Tree) → List Lexeme → Read Tree
atom_at inner [] = Err 0
atom_at inner (l ∷ ts) = atom_of inner l ts l.kind

unfoldable pub signed_at : (Symbol → List Lexeme → Read Tree) → List Lexeme → Read Tree
signed_at inner ts = choose (sign_at ts) (atom_at inner ts) (λ p. inner Signed p.2 >>= λ q. Ok (tree.Unary p.0 q.0 p.1, q.1))

-- what is added from the left to a, with at most fuel operators
unfoldable pub tail_at : Level → (List Lexeme → Read Tree) → ℕ → Tree → List Lexeme → Read Tree
tail_at n operand zero a ts = Ok (a, ts)
tail_at n operand (suc fuel) a ts = choose (joint n ts) (Ok (a, ts))
    (λ p. operand p.2 >>= λ q. if groups n then tail_at n operand fuel (tree.Binary p.0 a q.0 p.1) q.1 else Ok (tree.Binary p.0 a q.0 p.1, q.1))

unfoldable pub binary_at : Level → (List Lexeme → Read Tree) → List Lexeme → Read Tree
binary_at n operand ts = operand ts >>= λ p. tail_at n operand (length p.1) p.0 p.1

unfoldable pub compare_at : (Symbol → List Lexeme → Read Tree) → List Lexeme → Read Tree
compare_at inner = binary_at level.Compare (binary_at level.Sum (binary_at level.Term (signed_at inner)))

unfoldable pub negation_at : (Symbol → List Lexeme → Read Tree) → List Lexeme → Read Tree
negation_at inner ts = choose (not_at ts) (compare_at inner ts) (λ p. inner Negation p.1 >>= λ q. Ok (tree.Unary unary.Not q.0 p.0, q.1))

unfoldable pub operand_at : (Symbol → List Lexeme → Read Tree) → Level → List Lexeme → Read Tree
operand_at inner level.Arrow = binary_at level.Or (binary_at level.And (negation_at inner))
operand_at inner level.Or = binary_at level.And (negation_at inner)
operand_at inner level.And = negation_at inner
operand_at inner level.Compare = binary_at level.Sum (binary_at level.Term (signed_at inner))
operand_at inner level.Sum = binary_at level.Term (signed_at inner)
operand_at inner level.Term = signed_at inner

unfoldable pub reader : (Symbol → List Lexeme → Read Tree) → Symbol → List Lexeme → Read Tree
reader inner (At n) ts = binary_at n (operand_at inner n) ts
reader inner (Behind n a) ts = tail_at n (operand_at inner n) (length ts) a ts
reader inner Negation ts = negation_at inner ts
reader inner Signed ts = signed_at inner ts
reader inner Atom ts = atom_at inner ts

-- room is how many parentheses and signs may still stand one inside the other
unfoldable pub nested : ℕ → Symbol → List Lexeme → Read Tree
nested zero s ts = Err (length ts)
nested (suc room) s ts = reader (nested room) s ts
