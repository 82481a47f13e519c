-- The tokens that a source is printed as. Each definition puts the tokens of a part before those
-- that follow it.
use Rattle.std.specs.Prelude.{◌≡◌, ℕ, zero, suc, nat_lt, Bool, true, false, ◌==◌, List, [], ◌∷◌, ◌++◌, Option, Some, None, codes, if◌then◌else◌}
use Rattle.hys_lex.specs.declared.token.TokenKind.TheVariants as token
use Rattle.hys_lex.specs.declared.sign.TheConstants as sign
use Rattle.hys_lex.specs.declared.keyword.TheConstants as keyword
use Rattle.hys_lex.specs.Spaced.{Spelling, spaced}
use Rattle.hys_ast.specs.declared.tree.UnaryOp.{UnaryOp}
use Rattle.hys_ast.specs.declared.tree.UnaryOp.TheVariants as unary
use Rattle.hys_ast.specs.declared.tree.BinaryOp.{BinaryOp}
use Rattle.hys_ast.specs.declared.tree.BinaryOp.TheVariants as binary
use Rattle.hys_ast.specs.declared.level.Level.{Level}
use Rattle.hys_ast.specs.declared.level.Level.TheVariants as level
use Rattle.hys_ast.specs.declared.source.Section.{Section}
use Rattle.hys_ast.specs.declared.source.Section.TheVariants as section
use Rattle.hys_ast.specs.declared.source.Kind.{Kind}
use Rattle.hys_ast.specs.declared.source.Kind.TheVariants as kind
use Rattle.hys_ast.specs.Operators.{level_of, groups}
use Rattle.hys_ast.specs.Grammar.{Symbol, At, Negation, Signed, Atom, Is, Derives, number_of}
use Rattle.hys_ast.specs.Bare.{bare}
use Rattle.hys_ast.specs.declared.lexeme.Lexeme.{Lexeme}
use Rattle.hys_ast.specs.declared.tree.Expr.{Expr}
use Rattle.hys_ast.specs.Seen.{tree_of, maybe_tree_of}
use Rattle.hys_ast.specs.Tree.{Tree, Number, Name, Truth, Cast, Unary, Binary, Decl, Shape, Plain, Wide, Choice, Item, Source}

-- what stands behind the text before is these words, whatever follows them
abbrev pub Writes : List ℕ → List ℕ → (List Spelling → List Spelling) → Type 0
Writes before after words = (rest : List Spelling) → after ++ spaced rest ≡ before ++ spaced (words rest)

-- it is one token with these bytes
abbrev pub WritesToken : List ℕ → List ℕ → List ℕ → Type 0
WritesToken before after token =
    (w : Spelling) (rest : List Spelling) → w.bytes ≡ token → after ++ spaced rest ≡ before ++ spaced (w ∷ rest)

abbrev pub name : List ℕ → Spelling
name bytes = record { kind = token.Name; bytes = bytes }

abbrev pub number : List ℕ → Spelling
number bytes = record { kind = token.Literal; bytes = bytes }

abbrev pub word : ℕ → List ℕ → Spelling
word k bytes = record { kind = token.Keyword k; bytes = bytes }

abbrev pub mark : ℕ → List ℕ → Spelling
mark k bytes = record { kind = token.Sign k; bytes = bytes }

abbrev pub truth_word : Bool → Spelling
truth_word true = word keyword.TRUE (codes "TRUE")
truth_word false = word keyword.FALSE (codes "FALSE")

abbrev pub unary_mark : UnaryOp → Spelling
unary_mark unary.Not = mark sign.TILDE (codes "~")
unary_mark unary.Neg = mark sign.MINUS (codes "-")
unary_mark unary.Plus = mark sign.PLUS (codes "+")

abbrev pub binary_mark : BinaryOp → Spelling
binary_mark binary.Add = mark sign.PLUS (codes "+")
binary_mark binary.Sub = mark sign.MINUS (codes "-")
binary_mark binary.Mul = mark sign.TIMES (codes "*")
binary_mark binary.Div = mark sign.DIVIDE (codes "/")
binary_mark binary.And = mark sign.AND (codes "&")
binary_mark binary.Or = mark sign.OR (codes "|")
binary_mark binary.Iff = mark sign.IFF (codes "<->")
binary_mark binary.Then = mark sign.THEN (codes "->")
binary_mark binary.From = mark sign.FROM (codes "<-")
binary_mark binary.Most = mark sign.AT_MOST (codes "<=")
binary_mark binary.Least = mark sign.AT_LEAST (codes ">=")
binary_mark binary.Equal = mark sign.EQUAL_TO (codes "==")

-- How tightly an expression holds together, the loosest first: the operand of a level's operator
-- holds together by one more than the level.
abbrev pub strength_at : Level → ℕ
strength_at level.Arrow = 0
strength_at level.Or = 1
strength_at level.And = 2
strength_at level.Compare = 4
strength_at level.Sum = 5
strength_at level.Term = 6

abbrev pub unary_strength : UnaryOp → ℕ
unary_strength unary.Not = 3
unary_strength unary.Neg = 7
unary_strength unary.Plus = 7

abbrev pub strength : Tree → ℕ
strength (Number text place) = 8
strength (Name text place) = 8
strength (Truth value place) = 8
strength (Cast text place) = 8
strength (Unary op a place) = unary_strength op
strength (Binary op a b place) = strength_at (level_of op)

-- how tightly the left operand has to hold together: another operator of the level may stand in
-- it where these group to the left
abbrev pub left_strength : Level → ℕ
left_strength n = if groups n then strength_at n else suc (strength_at n)

abbrev pub right_strength : Level → ℕ
right_strength n = suc (strength_at n)

-- the part of an expression that holds together so tightly
abbrev pub symbol_at : ℕ → Symbol
symbol_at zero = At level.Arrow
symbol_at (suc zero) = At level.Or
symbol_at (suc (suc zero)) = At level.And
symbol_at (suc (suc (suc zero))) = Negation
symbol_at (suc (suc (suc (suc zero)))) = At level.Compare
symbol_at (suc (suc (suc (suc (suc zero))))) = At level.Sum
symbol_at (suc (suc (suc (suc (suc (suc zero)))))) = At level.Term
symbol_at (suc (suc (suc (suc (suc (suc (suc zero))))))) = Signed
symbol_at (suc (suc (suc (suc (suc (suc (suc (suc n)))))))) = Atom

-- the lexemes begin with a parenthesis
abbrev pub Opens : List Lexeme → Type 0
Opens [] = ⊥
Opens (l ∷ ts) = Is (token.Sign sign.OPEN_PARENTHESIS) l

-- where it has to hold together so tightly, the expression never begins without a parenthesis
abbrev pub NeedsParentheses : ℕ → Tree → Type 0
NeedsParentheses least e = (ts rest : List Lexeme) (found : Tree) → Derives (symbol_at least) ts rest found → bare found ≡ bare e → Opens ts

-- whether an operand that has to hold together so tightly needs parentheses
abbrev pub is_loose : ℕ → Tree → Bool
is_loose least e = nat_lt (strength e) least

-- words in parentheses, where they are needed
abbrev pub open_words : Bool → List Spelling → List Spelling
open_words needed rest = if needed then mark sign.OPEN_PARENTHESIS (codes "(") ∷ rest else rest

abbrev pub close_words : Bool → List Spelling → List Spelling
close_words needed rest = if needed then mark sign.CLOSE_PARENTHESIS (codes ")") ∷ rest else rest

abbrev pub grouped : Bool → (List Spelling → List Spelling) → List Spelling → List Spelling
grouped needed words rest = open_words needed (words (close_words needed rest))

abbrev pub cast_words : List ℕ → List Spelling → List Spelling
cast_words bytes rest = mark sign.OPEN_PARENTHESIS (codes "(") ∷ word keyword.REAL (codes "REAL") ∷ name bytes ∷ mark sign.CLOSE_PARENTHESIS (codes ")") ∷ rest

abbrev pub expr_words : Tree → List Spelling → List Spelling
expr_words (Number text place) rest = number text ∷ rest
expr_words (Name text place) rest = name text ∷ rest
expr_words (Truth value place) rest = truth_word value ∷ rest
expr_words (Cast text place) rest = cast_words text rest
expr_words (Unary op a place) rest = unary_mark op ∷ grouped (is_loose (unary_strength op) a) (expr_words a) rest
expr_words (Binary op a b place) rest =
    grouped (is_loose (left_strength (level_of op)) a) (expr_words a)
    (binary_mark op ∷ grouped (is_loose (right_strength (level_of op)) b) (expr_words b) rest)

-- an operand that has to hold together so tightly
abbrev pub operand_words : ℕ → Tree → List Spelling → List Spelling
operand_words least e = grouped (is_loose least e) (expr_words e)

abbrev pub kind_word : Kind → Spelling
kind_word kind.Real = word keyword.REAL (codes "REAL")
kind_word kind.Bool = word keyword.BOOL (codes "BOOL")

abbrev pub bounds_words : Option Tree → Option Tree → List Spelling → List Spelling
bounds_words (Some low) (Some high) rest =
    mark sign.OPEN_BRACKET (codes "[") ∷ expr_words low (mark sign.COMMA (codes ",") ∷ expr_words high (mark sign.CLOSE_BRACKET (codes "]") ∷ rest))
bounds_words (Some low) None rest = rest
bounds_words None (Some high) rest = rest
bounds_words None None rest = rest

abbrev pub bracket_words : Tree → Tree → List Spelling → List Spelling
bracket_words low high = bounds_words (Some low) (Some high)

-- as the type of the code has them: both or none
abbrev pub written_bounds : Option Expr → Option Expr → List Spelling → List Spelling
written_bounds low high = bounds_words (maybe_tree_of low) (maybe_tree_of high)

abbrev pub value_words : Option Tree → List Spelling → List Spelling
value_words None rest = rest
value_words (Some e) rest = mark sign.EQUALS (codes "=") ∷ expr_words e rest

abbrev pub semicolon : Spelling
semicolon = mark sign.SEMICOLON (codes ";")

abbrev pub opening : Spelling
opening = mark sign.OPEN_BRACE (codes "{")

abbrev pub closing : Spelling
closing = mark sign.CLOSE_BRACE (codes "}")

-- each declaration has a line of its own
abbrev pub decl_words : Decl → List Spelling → List Spelling
decl_words d rest = kind_word d.kind ∷ name d.name ∷ bounds_words d.low d.high (value_words d.value (semicolon ∷ rest))

abbrev pub else_words : Option Tree → List Spelling → List Spelling
else_words None rest = rest
else_words (Some e) rest = word keyword.ELSE (codes "ELSE") ∷ expr_words e rest

abbrev pub shape_words : Shape → List Spelling → List Spelling
shape_words (Plain e) rest = expr_words e rest
shape_words (Wide a b) rest = expr_words a (mark sign.OPEN_BRACKET (codes "[") ∷ expr_words b (mark sign.CLOSE_BRACKET (codes "]") ∷ rest))
shape_words (Choice a b c) rest = word keyword.IF (codes "IF") ∷ expr_words a (word keyword.THEN (codes "THEN") ∷ expr_words b (else_words c rest))

-- a guard with a tolerance of its own
abbrev pub tolerant_words : Expr → Expr → List Spelling → List Spelling
tolerant_words comparison tolerance = shape_words (Wide (tree_of comparison) (tree_of tolerance))

abbrev pub target_words : Option (List ℕ) → List Spelling → List Spelling
target_words None rest = rest
target_words (Some bytes) rest = name bytes ∷ mark sign.EQUALS (codes "=") ∷ rest

abbrev pub item_words : Item → List Spelling → List Spelling
item_words i rest = target_words i.name (shape_words i.shape (semicolon ∷ rest))

abbrev pub section_word : Section → Spelling
section_word section.State = word keyword.STATE (codes "STATE")
section_word section.Input = word keyword.INPUT (codes "INPUT")
section_word section.Output = word keyword.OUTPUT (codes "OUTPUT")
section_word section.Parameter = word keyword.PARAMETER (codes "PARAMETER")
section_word section.Aux = word keyword.AUX (codes "AUX")
section_word section.Ad = word keyword.AD (codes "AD")
section_word section.Da = word keyword.DA (codes "DA")
section_word section.Logic = word keyword.LOGIC (codes "LOGIC")
section_word section.Linear = word keyword.LINEAR (codes "LINEAR")
section_word section.Automata = word keyword.AUTOMATA (codes "AUTOMATA")
section_word section.Continuous = word keyword.CONTINUOUS (codes "CONTINUOUS")
section_word section.OutputItem = word keyword.OUTPUT (codes "OUTPUT")
section_word section.Must = word keyword.MUST (codes "MUST")

-- the end of the section that is open
abbrev pub end_words : Option Section → List Spelling → List Spelling
end_words None rest = rest
end_words (Some s) rest = closing ∷ rest

abbrev pub same_section : Section → Section → Bool
same_section s t = number_of s == number_of t

abbrev pub is_open : Option Section → Section → Bool
is_open None s = false
is_open (Some t) s = same_section t s

-- the begin of the section, unless it is open
abbrev pub begin_words : Option Section → Section → List Spelling → List Spelling
begin_words held s rest = if is_open held s then rest else end_words held (section_word s ∷ opening ∷ rest)

-- Parts of sections, where one section may be open: neighbours of one section stand in one block.
abbrev pub blocks_words : {X : Type 0} → (X → Section) → (X → List Spelling → List Spelling) → Option Section → List X → List Spelling → List Spelling
blocks_words section words held [] rest = end_words held rest
blocks_words section words held (x ∷ xs) rest = begin_words held (section x) (words x (blocks_words section words (Some (section x)) xs rest))

abbrev pub decls_words : Option Section → List Decl → List Spelling → List Spelling
decls_words = blocks_words (λ d. d.section) decl_words

abbrev pub items_words : Option Section → List Item → List Spelling → List Spelling
items_words = blocks_words (λ i. i.section) item_words

-- the declarations of AUX, or the others
abbrev pub declared : Bool → List Decl → List Decl
declared aux [] = []
declared true (d ∷ ds) = if same_section section.Aux d.section then d ∷ declared true ds else declared true ds
declared false (d ∷ ds) = if same_section section.Aux d.section then declared false ds else d ∷ declared false ds

-- the declarations of AUX, or the others, in their blocks
abbrev pub part_words : Bool → List Decl → List Spelling → List Spelling
part_words aux ds = decls_words None (declared aux ds)

-- a declaration more: what was to come with it in front comes without it, where one section may be open before and after
abbrev pub WritesDecl : List ℕ → List ℕ → Bool → Option Section → Option Section → Decl → Type 0
WritesDecl before after aux held new d = (ds : List Decl) → (rest : List Spelling) →
    after ++ spaced (decls_words new (declared aux ds) rest) ≡ before ++ spaced (decls_words held (declared aux (d ∷ ds)) rest)

-- an item more, likewise
abbrev pub WritesItem : List ℕ → List ℕ → Option Section → Option Section → Item → Type 0
WritesItem before after held new i = (is : List Item) → (rest : List Spelling) →
    after ++ spaced (items_words new is rest) ≡ before ++ spaced (items_words held (i ∷ is) rest)

abbrev pub head_words : List ℕ → List Spelling → List Spelling
head_words system rest = word keyword.SYSTEM (codes "SYSTEM") ∷ name system ∷ opening ∷ word keyword.INTERFACE (codes "INTERFACE") ∷ opening ∷ rest

abbrev pub middle_words : List Spelling → List Spelling
middle_words rest = closing ∷ word keyword.IMPLEMENTATION (codes "IMPLEMENTATION") ∷ opening ∷ rest

abbrev pub source_words : Source → List Spelling → List Spelling
source_words s rest =
    head_words s.system (decls_words None (declared false s.decls)
    (middle_words (decls_words None (declared true s.decls) (items_words None s.items (closing ∷ closing ∷ rest)))))
