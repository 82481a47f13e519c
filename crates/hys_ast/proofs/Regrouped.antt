-- The words of an expression derive it, places aside.
use Rattle.std.proofs.Common.{◌≡◌, ℕ, zero, suc, ◌+◌, ◌-◌, ◌≤◌, nat_lt, Bool, true, false, List, ◌∷◌, Some, codes, refl, ap, ap₂, subst, ◌∙◌, arith}
use Rattle.std.proofs.lemmas.Bool.{ltb-false}
use Rattle.hys_lex.specs.declared.token.TokenKind.TheVariants as token
use Rattle.hys_lex.specs.declared.sign.TheConstants as sign
use Rattle.hys_lex.specs.declared.keyword.TheConstants as keyword
use Rattle.hys_lex.specs.Spaced.{Spelling}
use Rattle.hys_ast.specs.declared.place.Place.{Place}
use Rattle.hys_ast.specs.declared.lexeme.Lexeme.{Lexeme}
use Rattle.hys_ast.specs.declared.tree.UnaryOp.{UnaryOp}
use Rattle.hys_ast.specs.declared.tree.UnaryOp.TheVariants as unary
use Rattle.hys_ast.specs.declared.tree.BinaryOp.{BinaryOp}
use Rattle.hys_ast.specs.declared.tree.BinaryOp.TheVariants as binary
use Rattle.hys_ast.specs.declared.level.Level.{Level}
use Rattle.hys_ast.specs.declared.level.Level.TheVariants as level
use Rattle.hys_ast.specs.Operators.{binary_of, level_of, groups, is_not, sign_of}
use Rattle.hys_ast.specs.Grammar.{Symbol, At, Behind, Atom, operand, Is, Derives, chain, alone, pair, ended, joined, negated, compared, signed, unsigned, literal, name, truth, cast, group}
use Rattle.hys_ast.specs.Tree.{Tree}
use Rattle.hys_ast.specs.Tree as tree
use Rattle.hys_ast.specs.Bare.{bare, nowhere}
use Rattle.hys_ast.specs.Printed.{symbol_at, mark, truth_word, unary_mark, binary_mark, strength_at, unary_strength, strength, left_strength, right_strength, grouped, expr_words, operand_words}
use Rattle.hys_ast.proofs.Spelled.{Spells, further}

step : (n : ℕ) (ts rest : List Lexeme) (e : Tree) → Derives (symbol_at (suc n)) ts rest e → Derives (symbol_at n) ts rest e
step zero ts rest e d = alone refl d
step (suc zero) ts rest e d = chain refl d ended
step (suc (suc zero)) ts rest e d = chain refl d ended
step (suc (suc (suc zero))) ts rest e d = compared d
step (suc (suc (suc (suc zero)))) ts rest e d = alone refl d
step (suc (suc (suc (suc (suc zero))))) ts rest e d = chain refl d ended
step (suc (suc (suc (suc (suc (suc zero)))))) ts rest e d = chain refl d ended
step (suc (suc (suc (suc (suc (suc (suc zero))))))) ts rest e d = unsigned d
step (suc (suc (suc (suc (suc (suc (suc (suc n)))))))) ts rest e d = d

-- what holds together more tightly stands where less is asked
pub climb : (k least n : ℕ) (ts rest : List Lexeme) (e : Tree) → n ≡ k + least → Derives (symbol_at n) ts rest e → Derives (symbol_at least) ts rest e
climb zero least n ts rest e is d = let same : n ≡ least = omega arith in let P : ℕ → Type 0 = λ m. Derives (symbol_at m) ts rest e in subst P same d
climb (suc k) least n ts rest e is d = step least ts rest e (climb k (suc least) n ts rest e (omega arith) d)

-- one operator more at the end of a chain
longer : (n : Level) (a b e : Tree) (op : BinaryOp) (l : Lexeme) (ts next rest : List Lexeme) → binary_of l.kind ≡ Some op → level_of op ≡ n →
    Derives (Behind n a) ts (l ∷ next) e → Derives (operand n) next rest b → Derives (Behind n a) ts rest (tree.Binary op e b l.place)
longer n a b _ op l _ next rest k h ended right = joined op l k h right ended
longer n a b e op l _ next rest k h (joined {more = more} {b = c} q m i j first later) right = joined q m i j first (longer n (tree.Binary q a c m.place) b e op l more next rest k h later right)

chained : (n : Level) (a b : Tree) (op : BinaryOp) (l : Lexeme) (ts next rest : List Lexeme) → groups n ≡ true → binary_of l.kind ≡ Some op → level_of op ≡ n →
    Derives (At n) ts (l ∷ next) a → Derives (operand n) next rest b → Derives (At n) ts rest (tree.Binary op a b l.place)
chained n a b op l ts next rest g k h (chain {more = more} {a = c} i first later) right = chain g first (longer n c b a op l more next rest k h later right)
chained n a b op l ts next rest g k h (alone i first) right = absurd (cc)
chained n _ b op l ts next rest g k h (pair q m i first j r last) right = absurd (cc)

combine : (n : Level) (a b : Tree) (op : BinaryOp) (l : Lexeme) (ts next rest : List Lexeme) → binary_of l.kind ≡ Some op → level_of op ≡ n →
    Derives (symbol_at (left_strength n)) ts (l ∷ next) a → Derives (symbol_at (right_strength n)) next rest b → Derives (symbol_at (strength_at n)) ts rest (tree.Binary op a b l.place)
combine level.Arrow a b op l ts next rest k h left right = pair op l refl left k h right
combine level.Or a b op l ts next rest k h left right = chained level.Or a b op l ts next rest refl k h left right
combine level.And a b op l ts next rest k h left right = chained level.And a b op l ts next rest refl k h left right
combine level.Compare a b op l ts next rest k h left right = pair op l refl left k h right
combine level.Sum a b op l ts next rest k h left right = chained level.Sum a b op l ts next rest refl k h left right
combine level.Term a b op l ts next rest k h left right = chained level.Term a b op l ts next rest refl k h left right

-- the lexemes begin with the tree, places aside, and go on with these words
pub record Again (s : Symbol) (ts : List Lexeme) (more : List Spelling) (e : Tree) : Type 0 where
  pub rest : List Lexeme
  pub found : Tree
  pub derives : Derives s ts rest found
  pub spells : Spells more rest
  pub same : bare found ≡ bare e

abbrev Reads : Tree → Type 0
Reads e = (more : List Spelling) (ts : List Lexeme) → Spells (expr_words e more) ts → Again (symbol_at (strength e)) ts more e

in_group : (least n : ℕ) (e found : Tree) (more : List Spelling) (l : Lexeme) (ts rest : List Lexeme) → Is (token.Sign sign.OPEN_PARENTHESIS) l → Derives (symbol_at n) ts rest found → bare found ≡ bare e →
    Spells (mark sign.CLOSE_PARENTHESIS (codes ")") ∷ more) rest → Again (symbol_at least) (l ∷ ts) more e
in_group least n e found more l ts _ o d same (further {l = c} {ls = rest} k t s) = record {
  rest = rest;
  found = found;
  derives = climb 8 least (suc (suc (suc (suc (suc (suc (suc (suc least)))))))) (l ∷ ts) rest found (omega arith) (group l c o (climb n 0 n ts (c ∷ rest) found (omega arith) d) k);
  spells = s;
  same = same;
}

placed : (t : Bool) (least : ℕ) (e : Tree) (more : List Spelling) (ts : List Lexeme) → nat_lt (strength e) least ≡ t → Reads e → Spells (grouped t (expr_words e) more) ts → Again (symbol_at least) ts more e
placed true least e more _ loose reads (further {l = l} {ls = ts} k t s) =
    let r : Again (symbol_at (strength e)) ts (mark sign.CLOSE_PARENTHESIS (codes ")") ∷ more) e = reads (mark sign.CLOSE_PARENTHESIS (codes ")") ∷ more) ts s in
    in_group least (strength e) e r.found more l ts r.rest k r.derives r.same r.spells
placed false least e more ts tight reads s =
    let r : Again (symbol_at (strength e)) ts more e = reads more ts s in
    let le : least ≤ strength e = ltb-false (strength e) least tight in
    record { rest = r.rest; found = r.found; derives = climb (strength e - least) least (strength e) ts r.rest r.found (omega arith) r.derives; spells = r.spells; same = r.same }

pub operand_again : (least : ℕ) (e : Tree) (more : List Spelling) (ts : List Lexeme) → Reads e → Spells (operand_words least e more) ts → Again (symbol_at least) ts more e
operand_again least e more ts reads s = placed (nat_lt (strength e) least) least e more ts refl reads s

binary_kind : (op : BinaryOp) → binary_of (binary_mark op).kind ≡ Some op
binary_kind binary.Add = refl
binary_kind binary.Sub = refl
binary_kind binary.Mul = refl
binary_kind binary.Div = refl
binary_kind binary.And = refl
binary_kind binary.Or = refl
binary_kind binary.Iff = refl
binary_kind binary.Then = refl
binary_kind binary.From = refl
binary_kind binary.Most = refl
binary_kind binary.Least = refl
binary_kind binary.Equal = refl

binary_again : (op : BinaryOp) (a b : Tree) (place : Place) (left : Tree) (more : List Spelling) (ts rest : List Lexeme) → Derives (symbol_at (left_strength (level_of op))) ts rest left → bare left ≡ bare a → Reads b →
    Spells (binary_mark op ∷ operand_words (right_strength (level_of op)) b more) rest → Again (symbol_at (strength_at (level_of op))) ts more (tree.Binary op a b place)
binary_again op a b place left more ts _ d same reads (further {l = l} {ls = next} k t s) =
    let r : Again (symbol_at (right_strength (level_of op))) next more b = operand_again (right_strength (level_of op)) b more next reads s in
    record {
      rest = r.rest;
      found = tree.Binary op left r.found l.place;
      derives = combine (level_of op) left r.found op l ts next r.rest (ap binary_of k ∙ binary_kind op) refl d r.derives;
      spells = r.spells;
      same = ap₂ (λ x y. tree.Binary op x y nowhere) same r.same;
    }

unary_again : (op : UnaryOp) (a : Tree) (place : Place) (more : List Spelling) (l : Lexeme) (ts : List Lexeme) → l.kind ≡ (unary_mark op).kind → Again (symbol_at (unary_strength op)) ts more a →
    Again (symbol_at (unary_strength op)) (l ∷ ts) more (tree.Unary op a place)
unary_again unary.Not a place more l ts k r = record { rest = r.rest; found = tree.Unary unary.Not r.found l.place; derives = negated l (ap is_not k) r.derives; spells = r.spells; same = ap (λ x. tree.Unary unary.Not x nowhere) r.same }
unary_again unary.Neg a place more l ts k r = record { rest = r.rest; found = tree.Unary unary.Neg r.found l.place; derives = signed unary.Neg l (ap sign_of k) r.derives; spells = r.spells; same = ap (λ x. tree.Unary unary.Neg x nowhere) r.same }
unary_again unary.Plus a place more l ts k r = record { rest = r.rest; found = tree.Unary unary.Plus r.found l.place; derives = signed unary.Plus l (ap sign_of k) r.derives; spells = r.spells; same = ap (λ x. tree.Unary unary.Plus x nowhere) r.same }

truth_again : (value : Bool) (place : Place) (more : List Spelling) (l : Lexeme) (ts : List Lexeme) → l.kind ≡ (truth_word value).kind → Spells more ts → Again Atom (l ∷ ts) more (tree.Truth value place)
truth_again true place more l ts k s = record { rest = ts; found = tree.Truth true l.place; derives = truth l keyword.TRUE true k refl; spells = s; same = refl }
truth_again false place more l ts k s = record { rest = ts; found = tree.Truth false l.place; derives = truth l keyword.FALSE false k refl; spells = s; same = refl }

again : (e : Tree) (more : List Spelling) (ts : List Lexeme) → Spells (expr_words e more) ts → Again (symbol_at (strength e)) ts more e
again (tree.Number text place) more _ (further {l = l} {ls = ts} k t s) = record { rest = ts; found = tree.Number l.text l.place; derives = literal l k; spells = s; same = ap (λ x. tree.Number x nowhere) t }
again (tree.Name text place) more _ (further {l = l} {ls = ts} k t s) = record { rest = ts; found = tree.Name l.text l.place; derives = name l k; spells = s; same = ap (λ x. tree.Name x nowhere) t }
again (tree.Truth value place) more _ (further {l = l} {ls = ts} k t s) = truth_again value place more l ts k s
again (tree.Cast text place) more _ (further {l = o} k i (further {l = r} m j (further {l = l} n t (further {l = c} {ls = ts} q u s)))) =
    record { rest = ts; found = tree.Cast l.text l.place; derives = cast o r l c k m n q; spells = s; same = ap (λ x. tree.Cast x nowhere) t }
again (tree.Unary op a place) more _ (further {l = l} {ls = ts} k t s) = unary_again op a place more l ts k (operand_again (unary_strength op) a more ts (λ m x h. again a m x h) s)
again (tree.Binary op a b place) more ts s =
    let r : Again (symbol_at (left_strength (level_of op))) ts (binary_mark op ∷ operand_words (right_strength (level_of op)) b more) a =
    operand_again (left_strength (level_of op)) a (binary_mark op ∷ operand_words (right_strength (level_of op)) b more) ts (λ m x h. again a m x h) s in
    binary_again op a b place r.found more ts r.rest r.derives r.same (λ m x h. again b m x h) r.spells

pub expr_again : (e : Tree) (more : List Spelling) (ts : List Lexeme) → Spells (expr_words e more) ts → Again (At level.Arrow) ts more e
expr_again e more ts s =
    let r : Again (symbol_at (strength e)) ts more e = again e more ts s in
    record { rest = r.rest; found = r.found; derives = climb (strength e) 0 (strength e) ts r.rest r.found (omega arith) r.derives; spells = r.spells; same = r.same }
