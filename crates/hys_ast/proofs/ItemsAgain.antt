-- The words of an item derive it, places aside.
use Rattle.std.proofs.Common.{◌≡◌, ℕ, Bool, true, false, nat_lt, List, [], ◌∷◌, Some, None, codes, ap}
use Rattle.hys_lex.specs.declared.token.TokenKind.TheVariants as token
use Rattle.hys_lex.specs.declared.keyword.TheConstants as keyword
use Rattle.hys_lex.specs.declared.sign.TheConstants as sign
use Rattle.hys_lex.specs.Spaced.{Spelling}
use Rattle.hys_ast.specs.declared.place.Place.{Place}
use Rattle.hys_ast.specs.declared.lexeme.Lexeme.{Lexeme}
use Rattle.hys_ast.specs.declared.level.Level.TheVariants as level
use Rattle.hys_ast.specs.declared.source.Section.{Section}
use Rattle.hys_ast.specs.declared.source.Section.TheVariants as section
use Rattle.hys_ast.specs.Operators.{level_of}
use Rattle.hys_ast.specs.Grammar.{At, Is, DerivesExpr, DerivesIte, DerivesChoice, DerivesGuard, has_formulas, DerivesItem}
use Rattle.hys_ast.specs.Grammar as grammar
use Rattle.hys_ast.specs.Tree.{Tree, Shape, Plain, Wide, Choice, Item}
use Rattle.hys_ast.specs.Tree as tree
use Rattle.hys_ast.specs.Bare.{bare, bare_shape, bare_item, nowhere}
use Rattle.hys_ast.specs.Printed.{word, mark, binary_mark, left_strength, right_strength, strength, grouped, expr_words, operand_words, shape_words, item_words, semicolon}
use Rattle.hys_ast.proofs.Spelled.{Spells, further}
use Rattle.hys_ast.proofs.Regrouped.{Again, expr_again}
use Rattle.hys_ast.proofs.ValidParts.{SoundChoice, short, long, SoundGuard, narrow, wide, SoundItem, formula, guard, choice, must}

-- the lexemes begin with the choice, places aside, and go on with these words
record ChoiceAgain (ts : List Lexeme) (more : List Spelling) (shape : Shape) : Type 0 where
  rest : List Lexeme
  found : Shape
  derives : DerivesIte ts rest found
  spells : Spells more rest
  same : bare_shape found ≡ bare_shape shape

abbrev Expr : List Lexeme → List Spelling → Tree → Type 0
Expr = Again (At level.Arrow)

-- behind THEN stands what is chosen, and maybe ELSE
short_again : (a b x : Tree) (more : List Spelling) (i : Lexeme) (whens rest : List Lexeme) → Is (token.Keyword keyword.IF) i → DerivesExpr whens rest x → bare x ≡ bare a →
    Spells (word keyword.THEN (codes "THEN") ∷ expr_words b more) rest → ChoiceAgain (i ∷ whens) more (Choice a b None)
short_again a b x more i whens _ j d e (further {l = t} {ls = thens} k u z) =
    let r : Expr thens more b = expr_again b more thens z in
    record { rest = r.rest; found = Choice x r.found None; derives = grammar.short i t j d k r.derives; spells = r.spells; same = let f : bare r.found ≡ bare b = r.same in cc }

long_else : (a b c x y : Tree) (more : List Spelling) (i t : Lexeme) (whens thens rest : List Lexeme) → Is (token.Keyword keyword.IF) i → DerivesExpr whens (t ∷ thens) x → bare x ≡ bare a →
    Is (token.Keyword keyword.THEN) t → DerivesExpr thens rest y → bare y ≡ bare b → Spells (word keyword.ELSE (codes "ELSE") ∷ expr_words c more) rest → ChoiceAgain (i ∷ whens) more (Choice a b (Some c))
long_else a b c x y more i t whens thens _ j d e k f g (further {l = o} {ls = elses} m u z) =
    let r : Expr elses more c = expr_again c more elses z in
    record { rest = r.rest; found = Choice x y (Some r.found); derives = grammar.long i t o j d k f m r.derives; spells = r.spells; same = let h : bare r.found ≡ bare c = r.same in cc }

long_again : (a b c x : Tree) (more : List Spelling) (i : Lexeme) (whens rest : List Lexeme) → Is (token.Keyword keyword.IF) i → DerivesExpr whens rest x → bare x ≡ bare a →
    Spells (word keyword.THEN (codes "THEN") ∷ expr_words b (word keyword.ELSE (codes "ELSE") ∷ expr_words c more)) rest → ChoiceAgain (i ∷ whens) more (Choice a b (Some c))
long_again a b c x more i whens _ j d e (further {l = t} {ls = thens} k u z) =
    let r : Expr thens (word keyword.ELSE (codes "ELSE") ∷ expr_words c more) b = expr_again b (word keyword.ELSE (codes "ELSE") ∷ expr_words c more) thens z in
    long_else a b c x r.found more i t whens thens r.rest j d e k r.derives r.same r.spells

choice_again : (shape : Shape) (more : List Spelling) (ts : List Lexeme) → SoundChoice shape → Spells (shape_words shape more) ts → ChoiceAgain ts more shape
choice_again shape more _ (short {a = a} {b = b} v w) (further {l = i} {ls = whens} k u z) =
    let r : Expr whens (word keyword.THEN (codes "THEN") ∷ expr_words b more) a = expr_again a (word keyword.THEN (codes "THEN") ∷ expr_words b more) whens z in
    short_again a b r.found more i whens r.rest k r.derives r.same r.spells
choice_again shape more _ (long {a = a} {b = b} {c = c} v w x) (further {l = i} {ls = whens} k u z) =
    let then : List Spelling = word keyword.THEN (codes "THEN") ∷ expr_words b (word keyword.ELSE (codes "ELSE") ∷ expr_words c more) in
    let r : Expr whens then a = expr_again a then whens z in
    long_again a b c r.found more i whens r.rest k r.derives r.same r.spells

-- the lexemes begin with the right side of an item of AD, places aside, and go on with these words
record GuardAgain (ts : List Lexeme) (more : List Spelling) (shape : Shape) : Type 0 where
  rest : List Lexeme
  found : Shape
  derives : DerivesGuard ts rest found
  spells : Spells more rest
  same : bare_shape found ≡ bare_shape shape

wide_close : (a b x y : Tree) (more : List Spelling) (o : Lexeme) (ts next rest : List Lexeme) → DerivesExpr ts (o ∷ next) x → bare x ≡ bare a → Is (token.Sign sign.OPEN_BRACKET) o →
    DerivesExpr next rest y → bare y ≡ bare b → Spells (mark sign.CLOSE_BRACKET (codes "]") ∷ more) rest → GuardAgain ts more (Wide a b)
wide_close a b x y more o ts next _ d e i f g (further {l = c} {ls = rest} j u z) =
    record { rest = rest; found = Wide x y; derives = grammar.wide o c d i f j; spells = z; same = cc }

wide_again : (a b x : Tree) (more : List Spelling) (ts rest : List Lexeme) → DerivesExpr ts rest x → bare x ≡ bare a →
    Spells (mark sign.OPEN_BRACKET (codes "[") ∷ expr_words b (mark sign.CLOSE_BRACKET (codes "]") ∷ more)) rest → GuardAgain ts more (Wide a b)
wide_again a b x more ts _ d e (further {l = o} {ls = next} i u z) =
    let r : Expr next (mark sign.CLOSE_BRACKET (codes "]") ∷ more) b = expr_again b (mark sign.CLOSE_BRACKET (codes "]") ∷ more) next z in
    wide_close a b x r.found more o ts next r.rest d e i r.derives r.same r.spells

guard_again : (shape : Shape) (more : List Spelling) (ts : List Lexeme) → SoundGuard shape → Spells (shape_words shape more) ts → GuardAgain ts more shape
guard_again _ more ts (narrow {e = e} v) s =
    let r : Expr ts more e = expr_again e more ts s in
    record { rest = r.rest; found = Plain r.found; derives = grammar.narrow r.derives; spells = r.spells; same = ap Plain r.same }
guard_again _ more ts (wide {a = a} {b = b} v w) s =
    let then : List Spelling = mark sign.OPEN_BRACKET (codes "[") ∷ expr_words b (mark sign.CLOSE_BRACKET (codes "]") ∷ more) in
    let r : Expr ts then a = expr_again a then ts s in
    wide_again a b r.found more ts r.rest r.derives r.same r.spells

-- the lexemes begin with the item, places aside, and go on with these words
pub record ItemAgain (ts : List Lexeme) (more : List Spelling) (i : Item) : Type 0 where
  pub rest : List Lexeme
  pub found : Item
  pub derives : DerivesItem i.section ts rest found
  pub spells : Spells more rest
  pub same : bare_item found ≡ bare_item i

formula_end : (s : Section) (n : List ℕ) (p : Place) (e x : Tree) (more : List Spelling) (l equals : Lexeme) (next rest : List Lexeme) → has_formulas s ≡ true → Is token.Name l → l.text ≡ n → Is (token.Sign sign.EQUALS) equals →
    DerivesExpr next rest x → bare x ≡ bare e → Spells (semicolon ∷ more) rest → ItemAgain (l ∷ equals ∷ next) more (record { section = s; name = Some n; place = p; shape = Plain e })
formula_end s n p e x more l equals next _ g i t j d f (further {l = end} {ls = rest} k u z) = record {
  rest = rest;
  found = record { section = s; name = Some l.text; place = l.place; shape = Plain x };
  derives = grammar.formula l equals end g i j d k;
  spells = z;
  same = cc;
}

guard_end : (n : List ℕ) (p : Place) (shape found : Shape) (more : List Spelling) (l equals : Lexeme) (next rest : List Lexeme) → Is token.Name l → l.text ≡ n → Is (token.Sign sign.EQUALS) equals →
    DerivesGuard next rest found → bare_shape found ≡ bare_shape shape → Spells (semicolon ∷ more) rest → ItemAgain (l ∷ equals ∷ next) more (record { section = section.Ad; name = Some n; place = p; shape = shape })
guard_end n p shape found more l equals next _ i t j d f (further {l = end} {ls = rest} k u z) = record {
  rest = rest;
  found = record { section = section.Ad; name = Some l.text; place = l.place; shape = found };
  derives = grammar.guard l equals end i j d k;
  spells = z;
  same = cc;
}

choice_end : (n : List ℕ) (p : Place) (shape found : Shape) (more : List Spelling) (l equals : Lexeme) (next rest : List Lexeme) → Is token.Name l → l.text ≡ n → Is (token.Sign sign.EQUALS) equals →
    DerivesChoice next rest found → bare_shape found ≡ bare_shape shape → Spells (semicolon ∷ more) rest → ItemAgain (l ∷ equals ∷ next) more (record { section = section.Da; name = Some n; place = p; shape = shape })
choice_end n p shape found more l equals next _ i t j d f (further {l = end} {ls = rest} k u z) = record {
  rest = rest;
  found = record { section = section.Da; name = Some l.text; place = l.place; shape = found };
  derives = grammar.choice l equals end i j d k;
  spells = z;
  same = cc;
}

must_end : (p : Place) (e x : Tree) (more : List Spelling) (l : Lexeme) (ts rest : List Lexeme) → DerivesExpr (l ∷ ts) rest x → bare x ≡ bare e → Spells (semicolon ∷ more) rest →
    ItemAgain (l ∷ ts) more (record { section = section.Must; name = None; place = p; shape = Plain e })
must_end p e x more l ts _ d f (further {l = end} {ls = rest} k u z) = record {
  rest = rest;
  found = record { section = section.Must; name = None; place = l.place; shape = Plain x };
  derives = grammar.must l end d k;
  spells = z;
  same = ap (λ y. let i : Item = record { section = section.Must; name = None; place = nowhere; shape = Plain y } in i) f;
}

-- an expression has a first word
abbrev Begins : List Spelling → Type 0
Begins [] = ⊥
Begins (w ∷ ws) = Unit {0}

group_begins : (t : Bool) (e : Tree) (more : List Spelling) → Begins (expr_words e more) → Begins (grouped t (expr_words e) more)
group_begins true e more b = tt
group_begins false e more b = b

begins : (e : Tree) (more : List Spelling) → Begins (expr_words e more)
begins (tree.Number text place) more = tt
begins (tree.Name text place) more = tt
begins (tree.Truth value place) more = tt
begins (tree.Cast text place) more = tt
begins (tree.Unary op a place) more = tt
begins (tree.Binary op a b place) more =
    group_begins (nat_lt (strength a) (left_strength (level_of op))) a (binary_mark op ∷ operand_words (right_strength (level_of op)) b more) (begins a (binary_mark op ∷ operand_words (right_strength (level_of op)) b more))

some_lexeme : (ws : List Spelling) → Begins ws → Spells ws [] → ⊥
some_lexeme [] b s = b
some_lexeme (w ∷ ws) b s = elim s [ ]

must_again : (p : Place) (e : Tree) (more : List Spelling) (ts : List Lexeme) → Spells (expr_words e (semicolon ∷ more)) ts → ItemAgain ts more (record { section = section.Must; name = None; place = p; shape = Plain e })
must_again p e more [] s = absurd (some_lexeme (expr_words e (semicolon ∷ more)) (begins e (semicolon ∷ more)) s)
must_again p e more (l ∷ ts) s = let r : Expr (l ∷ ts) (semicolon ∷ more) e = expr_again e (semicolon ∷ more) (l ∷ ts) s in must_end p e r.found more l ts r.rest r.derives r.same r.spells

pub item_again : (i : Item) (more : List Spelling) (ts : List Lexeme) → SoundItem i → Spells (item_words i more) ts → ItemAgain ts more i
item_again i more _ (formula {s = s} {n = n} {p = p} {e = e} g m v) (further {l = l} k t (further {l = equals} {ls = next} j u z)) =
    let r : Expr next (semicolon ∷ more) e = expr_again e (semicolon ∷ more) next z in
    formula_end s n p e r.found more l equals next r.rest g k t j r.derives r.same r.spells
item_again i more _ (guard {n = n} {p = p} {shape = shape} m c) (further {l = l} k t (further {l = equals} {ls = next} j u z)) =
    let r : GuardAgain next (semicolon ∷ more) shape = guard_again shape (semicolon ∷ more) next c z in
    guard_end n p shape r.found more l equals next r.rest k t j r.derives r.same r.spells
item_again i more _ (choice {n = n} {p = p} {shape = shape} m c) (further {l = l} k t (further {l = equals} {ls = next} j u z)) =
    let r : ChoiceAgain next (semicolon ∷ more) shape = choice_again shape (semicolon ∷ more) next c z in
    choice_end n p shape r.found more l equals next r.rest k t j (grammar.bare r.derives) r.same r.spells
item_again i more ts (must {p = p} {e = e} v) s = must_again p e more ts s
