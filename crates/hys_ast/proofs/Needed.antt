-- An expression that doesn't hold together tightly enough begins with a parenthesis.
use Rattle.std.proofs.Common.{◌≡◌, ◌⊎◌, inl, inr, ℕ, zero, suc, ◌<◌, ◌≤◌, Bool, true, false, cond, eqb, List, Some, None, refl, sym, ap, ◌∙◌, arith}
use Rattle.hys_lex.specs.declared.token.TokenKind.{TokenKind}
use Rattle.hys_lex.specs.declared.token.TokenKind.TheVariants as token
use Rattle.hys_lex.specs.declared.sign.TheConstants as sign
use Rattle.hys_ast.specs.declared.lexeme.Lexeme.{Lexeme}
use Rattle.hys_ast.specs.declared.tree.UnaryOp.{UnaryOp}
use Rattle.hys_ast.specs.declared.tree.UnaryOp.TheVariants as unary
use Rattle.hys_ast.specs.declared.level.Level.{Level}
use Rattle.hys_ast.specs.declared.level.Level.TheVariants as level
use Rattle.hys_ast.specs.Operators.{sign_of}
use Rattle.hys_ast.specs.Grammar.{Symbol, At, Behind, Negation, Signed, Atom, operand, Derives, chain, alone, pair, ended, joined, negated, compared, signed, unsigned, literal, name, truth, cast, group}
use Rattle.hys_ast.specs.Tree.{Tree}
use Rattle.hys_ast.specs.Tree as tree
use Rattle.hys_ast.specs.Printed.{strength_at, unary_strength, strength, symbol_at, Opens, NeedsParentheses}
use Rattle.hys_ast.proofs.Unplaced.{same_strength}

abbrev strength_of : Symbol → ℕ
strength_of (At n) = strength_at n
strength_of (Behind n a) = 0
strength_of Negation = 3
strength_of Signed = 7
strength_of Atom = 8

operand_strength : (n : Level) → strength_of (operand n) ≡ suc (strength_at n)
operand_strength level.Arrow = refl
operand_strength level.Or = refl
operand_strength level.And = refl
operand_strength level.Compare = refl
operand_strength level.Sum = refl
operand_strength level.Term = refl

-- a chain is its first operand, or an operator of the level
top : (n : Level) (a : Tree) (ts rest : List Lexeme) (e : Tree) → Derives (Behind n a) ts rest e → (e ≡ a) ⊎ (strength e ≡ strength_at n)
top n a ts _ _ ended = inl refl
top n a _ rest e (joined {more = more} {b = b} op l k h first later) = elim (top n (tree.Binary op a b l.place) more rest e later) [
  | inl same ↦ inr (ap strength same ∙ ap strength_at h)
  | inr at ↦ inr at
]

sign_choice : (a b : Bool) (op : UnaryOp) → cond a (Some unary.Neg) (cond b (Some unary.Plus) None) ≡ Some op → unary_strength op ≡ 7
sign_choice true b op e = let is : unary.Neg ≡ op = cc in ap unary_strength (sym is)
sign_choice false true op e = let is : unary.Plus ≡ op = cc in ap unary_strength (sym is)
sign_choice false false op e = absurd (cc)

sign_strength : (k : TokenKind) (op : UnaryOp) → sign_of k ≡ Some op → unary_strength op ≡ 7
sign_strength token.Name op e = absurd (cc)
sign_strength token.Literal op e = absurd (cc)
sign_strength (token.Keyword k) op e = absurd (cc)
sign_strength (token.Sign s) op e = sign_choice (eqb s sign.MINUS) (eqb s sign.PLUS) op e

opens : (s : Symbol) (ts rest : List Lexeme) (e : Tree) → Derives s ts rest e → strength e < strength_of s → Opens ts
opens (At n) ts rest e (chain {more = more} {a = a} g first later) less = elim (top n a more rest e later) [
  | inl same ↦ opens (operand n) ts more a first (omega (arith, operand_strength n, ap strength same))
  | inr at ↦ absurd (omega arith)
]
opens (At n) ts rest e (alone g first) less = opens (operand n) ts rest e first (omega (arith, operand_strength n))
opens (At n) ts rest _ (pair op l g first k h later) less = absurd (omega (arith, ap strength_at h))
opens (Behind n a) ts rest e d less = absurd (omega arith)
opens Negation _ rest _ (negated l k d) less = absurd (omega arith)
opens Negation ts rest e (compared d) less = opens (At level.Compare) ts rest e d (omega arith)
opens Signed _ rest _ (signed op l k d) less = absurd (omega (arith, sign_strength l.kind op k))
opens Signed ts rest e (unsigned d) less = opens Atom ts rest e d (omega arith)
opens Atom _ rest _ (literal l k) less = absurd (omega arith)
opens Atom _ rest _ (name l k) less = absurd (omega arith)
opens Atom _ rest _ (truth l k v i t) less = absurd (omega arith)
opens Atom _ rest _ (cast o r l c i j k m) less = i
opens Atom _ rest e (group o c i d k) less = i

symbol_strength : (least : ℕ) → least ≤ 8 → strength_of (symbol_at least) ≡ least
symbol_strength zero h = refl
symbol_strength (suc zero) h = refl
symbol_strength (suc (suc zero)) h = refl
symbol_strength (suc (suc (suc zero))) h = refl
symbol_strength (suc (suc (suc (suc zero)))) h = refl
symbol_strength (suc (suc (suc (suc (suc zero))))) h = refl
symbol_strength (suc (suc (suc (suc (suc (suc zero)))))) h = refl
symbol_strength (suc (suc (suc (suc (suc (suc (suc zero))))))) h = refl
symbol_strength (suc (suc (suc (suc (suc (suc (suc (suc n)))))))) h = omega arith

pub needed : (least : ℕ) (e : Tree) → least ≤ 8 → strength e < least → NeedsParentheses least e
needed least e within less = λ ts rest found d same.
    opens (symbol_at least) ts rest found d (omega (arith, symbol_strength least within, same_strength found, same_strength e, ap strength same))
