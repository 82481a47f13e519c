-- The names and literals of derived trees are those of tokens, and so are all words of their print.
use Rattle.std.proofs.Common.{Bool, true, false, nat_lt, List, ◌∷◌}
use Rattle.hys_lex.specs.Spaced.{Spelling, IsSpelled}
use Rattle.hys_ast.specs.declared.lexeme.Lexeme.{Lexeme}
use Rattle.hys_ast.specs.declared.level.Level.{Level}
use Rattle.hys_ast.specs.declared.level.Level.TheVariants as level
use Rattle.hys_ast.specs.Operators.{level_of}
use Rattle.hys_ast.specs.Grammar.{Symbol, At, Behind, Negation, Signed, Atom, operand, Derives, chain, alone, pair, ended, joined, negated, compared, signed, unsigned, literal, truth, cast, group}
use Rattle.hys_ast.specs.Grammar as grammar
use Rattle.hys_ast.specs.Tree.{Tree}
use Rattle.hys_ast.specs.Tree as tree
use Rattle.hys_ast.specs.Printed.{name, number, unary_strength, left_strength, right_strength, strength, grouped, expr_words, operand_words, binary_mark}
use Rattle.hys_ast.proofs.Spelled.{Lawful, lawful_name, lawful_number, Spelled}
use Rattle.hys_ast.proofs.Listed.{open_parenthesis-spelled, close_parenthesis-spelled, real-spelled, truth-spelled, unary-spelled, binary-spelled}

abbrev pub Valid : Tree → Type 0
Valid (tree.Number text place) = IsSpelled (number text)
Valid (tree.Name text place) = IsSpelled (name text)
Valid (tree.Truth value place) = Unit {0}
Valid (tree.Cast text place) = IsSpelled (name text)
Valid (tree.Unary op a place) = Valid a
Valid (tree.Binary op a b place) = Valid a × Valid b

abbrev ValidBehind : Symbol → Type 0
ValidBehind (At n) = Unit {0}
ValidBehind (Behind n a) = Valid a
ValidBehind Negation = Unit {0}
ValidBehind Signed = Unit {0}
ValidBehind Atom = Unit {0}

before : (n : Level) → ValidBehind (operand n)
before level.Arrow = tt
before level.Or = tt
before level.And = tt
before level.Compare = tt
before level.Sum = tt
before level.Term = tt

valid : (s : Symbol) (ts rest : List Lexeme) (e : Tree) → Derives s ts rest e → Lawful ts → ValidBehind s → Valid e × Lawful rest
valid (At n) ts rest e (chain {more = more} {a = a} g first later) h b =
    let p : Valid a × Lawful more = valid (operand n) ts more a first h (before n) in
    valid (Behind n a) more rest e later p.1 p.0
valid (At n) ts rest e (alone g first) h b = valid (operand n) ts rest e first h (before n)
valid (At n) ts rest _ (pair {next = next} {a = a} {b = c} op l g first k i later) h b =
    let p : Valid a × Lawful (l ∷ next) = valid (operand n) ts (l ∷ next) a first h (before n) in
    let q : Valid c × Lawful rest = valid (operand n) next rest c later p.1.1 (before n) in
    ((p.0, q.0), q.1)
valid (Behind n a) ts _ _ ended h b = (b, h)
valid (Behind n a) _ rest e (joined {next = next} {more = more} {b = c} op l k i first later) h b =
    let p : Valid c × Lawful more = valid (operand n) next more c first h.1 (before n) in
    valid (Behind n (tree.Binary op a c l.place)) more rest e later p.1 (b, p.0)
valid Negation _ rest _ (negated {next = next} {a = a} l k d) h b = valid Negation next rest a d h.1 tt
valid Negation ts rest e (compared d) h b = valid (At level.Compare) ts rest e d h tt
valid Signed _ rest _ (signed {next = next} {a = a} op l k d) h b = valid Signed next rest a d h.1 tt
valid Signed ts rest e (unsigned d) h b = valid Atom ts rest e d h tt
valid Atom _ rest _ (literal l k) h b = (lawful_number l k h.0, h.1)
valid Atom _ rest _ (grammar.name l k) h b = (lawful_name l k h.0, h.1)
valid Atom _ rest _ (truth l k v i t) h b = (tt, h.1)
valid Atom _ rest _ (cast o r l c i j k m) h b = (lawful_name l k h.1.1.0, h.1.1.1.1)
valid Atom _ rest e (group {next = next} o c i d k) h b = let p : Valid e × Lawful (c ∷ rest) = valid (At level.Arrow) next (c ∷ rest) e d h.1 tt in (p.0, p.1.1)

pub valid_expr : (ts rest : List Lexeme) (e : Tree) → Derives (At level.Arrow) ts rest e → Lawful ts → Valid e × Lawful rest
valid_expr ts rest e d h = valid (At level.Arrow) ts rest e d h tt

grouped_spelled : (t : Bool) (e : Tree) (more : List Spelling) → ((m : List Spelling) → Spelled m → Spelled (expr_words e m)) → Spelled more → Spelled (grouped t (expr_words e) more)
grouped_spelled true e more inner h = (open_parenthesis-spelled, inner _ (close_parenthesis-spelled, h))
grouped_spelled false e more inner h = inner more h

pub expr_spelled : (e : Tree) (more : List Spelling) → Valid e → Spelled more → Spelled (expr_words e more)
expr_spelled (tree.Number text place) more v h = (v, h)
expr_spelled (tree.Name text place) more v h = (v, h)
expr_spelled (tree.Truth value place) more v h = (truth-spelled value, h)
expr_spelled (tree.Cast text place) more v h = (open_parenthesis-spelled, (real-spelled, (v, (close_parenthesis-spelled, h))))
expr_spelled (tree.Unary op a place) more v h = (unary-spelled op, grouped_spelled (nat_lt (strength a) (unary_strength op)) a more (λ m i. expr_spelled a m v i) h)
expr_spelled (tree.Binary op a b place) more v h =
    grouped_spelled (nat_lt (strength a) (left_strength (level_of op))) a (binary_mark op ∷ operand_words (right_strength (level_of op)) b more) (λ m i. expr_spelled a m v.0 i)
    (binary-spelled op, grouped_spelled (nat_lt (strength b) (right_strength (level_of op))) b more (λ m i. expr_spelled b m v.1 i) h)
