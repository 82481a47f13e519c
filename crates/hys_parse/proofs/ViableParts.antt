-- Declarations, items and sections can be made whole.
use Rattle.std.proofs.Common.{◌≡◌, ℕ, Bool, true, false, cond, List, [], ◌∷◌, ◌++◌, Option, Some, None, Ok, refl, sym, subst}
use Rattle.hys_lex.specs.declared.token.TokenKind.TheVariants as token
use Rattle.hys_lex.specs.declared.sign.TheConstants as sign
use Rattle.hys_lex.specs.declared.keyword.TheConstants as keyword
use Rattle.hys_ast.specs.declared.lexeme.Lexeme.{Lexeme}
use Rattle.hys_ast.specs.declared.level.Level.{Level}
use Rattle.hys_ast.specs.declared.level.Level.TheVariants as level
use Rattle.hys_ast.specs.declared.source.Section.{Section}
use Rattle.hys_ast.specs.declared.source.Section.TheVariants as section
use Rattle.hys_ast.specs.declared.source.Kind.{Kind}
use Rattle.hys_ast.specs.Grammar.{Symbol, At, Behind, Negation, Signed, Atom, operand, Is, Derives, chain, alone, pair, ended, joined as add, negated, compared, signed, unsigned, literal, name, truth, cast, group, DerivesExpr, has_bounds, kind_of, DerivesDecl, plain, bounded, valued, DerivesNames, last, further, DerivesDecls, no_decls, line, DerivesIte, short, long, DerivesChoice, bare, braced, DerivesGuard, narrow, wide, has_formulas, DerivesItem, formula, guard, choice, must, DerivesItems, no_items, item}
use Rattle.hys_ast.specs.Tree.{Tree, Decl, Shape, Item, Source}
use Rattle.hys_ast.specs.Tree as tree
use Rattle.hys_parse.specs.Reading.{choose, after}
use Rattle.hys_parse.specs.Sections.{all_turns, decl_with, has_value, bounded_at, valued_at, plain_at, decl_at, name_turn, kind_at, line_at, line_turn, ite_at, braced_at, choice_at, formula_at, tolerance_at, guard_at, shape_at, named_at, must_at, item_at, item_turn, declares}
use Rattle.hys_parse.proofs.Viable.{nothing, one, joined, Viable, Some_are, at_once, answers, mapped, next, sample, next_is, maybe_is, ViableTurn, answers_turn, behind_turn, next_turn, next_turn_is, maybe_turn, Leads, all_viable}
use Rattle.hys_parse.proofs.ViableExpr.{a_name, its_tree, level_name, expr_viable}

-- declarations

abbrev A_decl : Section → Kind → List Lexeme → List Lexeme → Decl → Type 0
A_decl s k ts rest d = (x : Decl) × DerivesDecl s k ts rest x

plain_viable : (s : Section) (k : Kind) (l : Lexeme) (ls : List Lexeme) → Is token.Name l → Viable (λ ts rest d. A_decl s k (l ∷ ts) rest d) ls (plain_at s k l ls)
unfolding plain_at
plain_viable s k l ls i = answers ls (λ b. (decl_with s k l None None None, plain l i))

bounded_viable : (room : ℕ) (s : Section) (k : Kind) (l o : Lexeme) (ls : List Lexeme) → has_bounds s k ≡ true → Is token.Name l → Is (token.Sign sign.OPEN_BRACKET) o → Viable (λ ts rest d. A_decl s k (l ∷ o ∷ ts) rest d) ls (bounded_at room s k l ls)
unfolding bounded_at
bounded_viable room s k l o ls h i j =
    next {C = DerivesExpr} _ (expr_viable room ls) (λ low f us d.
    next_is (token.Sign sign.COMMA) us _ (λ m vs e.
    next {C = DerivesExpr} _ (expr_viable room vs) (λ high g ws t.
    next_is (token.Sign sign.CLOSE_BRACKET) ws _ (λ c xs n. answers xs (λ b. (decl_with s k l (Some low) (Some high) None, bounded l o m c h i j (d (m ∷ g.put (c ∷ b))) e (t (c ∷ b)) n))))))

valued_viable : (room : ℕ) (s : Section) (k : Kind) (l q : Lexeme) (ls : List Lexeme) → has_value s ≡ true → Is token.Name l → Is (token.Sign sign.EQUALS) q → Viable (λ ts rest d. A_decl s k (l ∷ q ∷ ts) rest d) ls (valued_at room s k l ls)
unfolding valued_at
valued_viable room section.Parameter k l q ls h i j = next {C = DerivesExpr} _ (expr_viable room ls) (λ e f us d. answers us (λ b. (decl_with section.Parameter k l None None (Some e), valued l q i j (d b))))
valued_viable room _ k l q ls h i j = absurd cc

decl_viable : (room : ℕ) (s : Section) (k : Kind) (ls : List Lexeme) → Viable (A_decl s k) ls (decl_at room s k ls)
unfolding decl_at
decl_viable room s k ls = next_is token.Name ls _ (λ l us i. bounds l us i (has_bounds s k) refl)
  where
    values : (l : Lexeme) (us : List Lexeme) → Is token.Name l → (b : Bool) → has_value s ≡ b → Viable (λ ts rest d. A_decl s k (l ∷ ts) rest d) us (cond b (choose (after (token.Sign sign.EQUALS) us) (plain_at s k l us) (valued_at room s k l)) (plain_at s k l us))
    values l us i true h = maybe_is (token.Sign sign.EQUALS) us _ _ (plain_viable s k l us i) (λ q vs j. valued_viable room s k l q vs h i j)
    values l us i false h = plain_viable s k l us i

    bounds : (l : Lexeme) (us : List Lexeme) → Is token.Name l → (b : Bool) → has_bounds s k ≡ b → Viable (λ ts rest d. A_decl s k (l ∷ ts) rest d) us
        (cond b (choose (after (token.Sign sign.OPEN_BRACKET) us) (plain_at s k l us) (bounded_at room s k l)) (cond (has_value s) (choose (after (token.Sign sign.EQUALS) us) (plain_at s k l us) (valued_at room s k l)) (plain_at s k l us)))
    bounds l us i true h = maybe_is (token.Sign sign.OPEN_BRACKET) us _ _ (plain_viable s k l us i) (λ o vs j. bounded_viable room s k l o vs h i j)
    bounds l us i false h = values l us i (has_value s) refl

abbrev Some_names : Section → Kind → List Decl → List Lexeme → List Lexeme → Type 0
Some_names s k before ts rest = (ds : List Decl) × DerivesNames s k ts rest ds

name_viable : (room : ℕ) (s : Section) (k : Kind) (before : List Decl) (ls : List Lexeme) → ViableTurn (Leads (Some_names s k) before) ls (name_turn room s k before ls)
unfolding name_turn
name_viable room s k before ls =
    next_turn {C = A_decl s k} _ (decl_viable room s k ls) (λ d f us t.
    maybe_turn (token.Sign sign.COMMA) us _ _ (answers_turn us (λ b. ((t b).0 ∷ [], last (t b).1))) (λ m vs i. answers_turn vs (λ b rest later. ((t (m ∷ b)).0 ∷ later.0, further m (t (m ∷ b)).1 i later.1))))

some_names : (s : Section) (k : Kind) (before : List Decl) → Some_are (λ ts rest (e : List Decl). Some_names s k before ts rest)
some_names s k before = record { front = one (sample token.Name); tree = before; derives = λ b. (decl_with s k (sample token.Name) None None None ∷ [], last (plain (sample token.Name) refl)) }

names_viable : (room : ℕ) (s : Section) (k : Kind) (before : List Decl) (ls : List Lexeme) → Viable (λ ts rest (e : List Decl). Some_names s k before ts rest) ls (all_turns (name_turn room s k) before ls)
names_viable room s k = all_viable (name_turn room s k) (Some_names s k) (name_viable room s k) (some_names s k)

abbrev pub Some_decls : Section → List Decl → List Lexeme → List Lexeme → Type 0
Some_decls s before ts rest = (ds : List Decl) × DerivesDecls s ts rest ds

line_viable : (room : ℕ) (s : Section) (before : List Decl) (ls : List Lexeme) → ViableTurn (Leads (Some_decls s) before) ls (line_turn room s before ls)
unfolding line_turn line_at kind_at
line_viable room s before [] = answers_turn [] (λ b. ([], no_decls))
line_viable room s before (l ∷ us) = go (kind_of l.kind) refl
  where
    go : (o : Option Kind) → kind_of l.kind ≡ o →
        ViableTurn (Leads (Some_decls s) before) (l ∷ us) (choose (choose {B = Option (Kind × List Lexeme)} o None (λ k. Some (k, us))) (Ok (before, false, l ∷ us)) (λ p. line_at room s p.0 before p.1))
    go None e = answers_turn (l ∷ us) (λ b. ([], no_decls))
    go (Some k) e = behind_turn (one l) refl (next_turn {C = λ ts rest (x : List Decl). Some_names s k before ts rest} _ (names_viable room s k before us) (λ x f vs d.
        next_turn_is (token.Sign sign.SEMICOLON) vs _ (λ z ws i. answers_turn ws (λ b rest later. ((d (z ∷ b)).0 ++ later.0, line l z e (d (z ∷ b)).1 i later.1)))))

pub decls_viable : (room : ℕ) (s : Section) (before : List Decl) (ls : List Lexeme) → Viable (λ ts rest (e : List Decl). Some_decls s before ts rest) ls (all_turns (line_turn room s) before ls)
decls_viable room s = all_viable (line_turn room s) (Some_decls s) (line_viable room s) (λ before. record { front = nothing; tree = before; derives = λ b. ([], no_decls) })

-- choices

ite_viable : (room : ℕ) (ls : List Lexeme) → Viable DerivesIte ls (ite_at room ls)
unfolding ite_at
ite_viable room ls =
    next_is (token.Keyword keyword.IF) ls _ (λ i us j.
    next {C = DerivesExpr} _ (expr_viable room us) (λ a f vs d.
    next_is (token.Keyword keyword.THEN) vs _ (λ t ws k.
    next {C = DerivesExpr} _ (expr_viable room ws) (λ c g xs e.
    maybe_is (token.Keyword keyword.ELSE) xs _ _ (answers xs (λ b. short i t j (d (t ∷ g.put b)) k (e b))) (λ o ys m.
    next {C = DerivesExpr} _ (expr_viable room ys) (λ x h zs q. answers zs (λ b. long i t o j (d (t ∷ g.put (o ∷ h.put b))) k (e (o ∷ h.put b)) m (q b))))))))

braced_viable : (room : ℕ) (o : Lexeme) (ls : List Lexeme) → Is (token.Sign sign.OPEN_BRACE) o → Viable (λ ts rest x. DerivesChoice (o ∷ ts) rest x) ls (braced_at room ls)
unfolding braced_at
braced_viable room o ls i = next {C = DerivesIte} _ (ite_viable room ls) (λ x f us d. next_is (token.Sign sign.CLOSE_BRACE) us _ (λ z vs j. answers vs (λ b. braced o z i (d (z ∷ b)) j)))

choice_viable : (room : ℕ) (ls : List Lexeme) → Viable DerivesChoice ls (choice_at room ls)
unfolding choice_at
choice_viable room ls = maybe_is (token.Sign sign.OPEN_BRACE) ls _ _ (mapped (λ ts rest x d. bare d) (ite_viable room ls)) (λ o us i. braced_viable room o us i)

-- guards

guard_viable : (room : ℕ) (ls : List Lexeme) → Viable DerivesGuard ls (guard_at room ls)
unfolding guard_at tolerance_at
guard_viable room ls =
    next {C = DerivesExpr} _ (expr_viable room ls) (λ a f us d.
    maybe_is (token.Sign sign.OPEN_BRACKET) us _ _ (answers us (λ b. narrow (d b))) (λ o vs i.
    next {C = DerivesExpr} _ (expr_viable room vs) (λ t g ws e.
    next_is (token.Sign sign.CLOSE_BRACKET) ws _ (λ z xs j. answers xs (λ b. wide o z (d (o ∷ g.put (z ∷ b))) i (e (z ∷ b)) j)))))

-- items

abbrev An_item : Section → List Lexeme → List Lexeme → Item → Type 0
An_item s ts rest x = (y : Item) × DerivesItem s ts rest y

A_formula : List Lexeme → List Lexeme → Shape → Type 0
A_formula ts rest x = (e : Tree) × DerivesExpr ts rest e

formula_viable : (room : ℕ) (ls : List Lexeme) → Viable A_formula ls (formula_at room ls)
unfolding formula_at A_formula
formula_viable room ls = next {C = DerivesExpr} _ (expr_viable room ls) (λ e f us d. answers us (λ b. (e, d b)))

named_viable : (room : ℕ) (s : Section) (C : List Lexeme → List Lexeme → Shape → Type 0) → ((us : List Lexeme) → Viable C us (shape_at room s us)) →
    ((l q z : Lexeme) (ts rest : List Lexeme) (x : Shape) → Is token.Name l → Is (token.Sign sign.EQUALS) q → C ts (z ∷ rest) x → Is (token.Sign sign.SEMICOLON) z → (y : Item) × DerivesItem s (l ∷ q ∷ ts) rest y) →
    (ls : List Lexeme) → Viable (An_item s) ls (named_at room s ls)
unfolding named_at
named_viable room s C shapes made ls =
    next_is token.Name ls _ (λ l us i.
    next_is (token.Sign sign.EQUALS) us _ (λ q vs j.
    next {C = C} _ (shapes vs) (λ x f ws d.
    next_is (token.Sign sign.SEMICOLON) ws _ (λ z xs k. answers xs (λ b. made l q z (f.put (z ∷ b)) b x i j (d (z ∷ b)) k)))))

formula_item : (s : Section) → has_formulas s ≡ true → (l q z : Lexeme) (ts rest : List Lexeme) (x : Shape) → Is token.Name l → Is (token.Sign sign.EQUALS) q → A_formula ts (z ∷ rest) x → Is (token.Sign sign.SEMICOLON) z → (y : Item) × DerivesItem s (l ∷ q ∷ ts) rest y
unfolding A_formula
formula_item s h l q z ts rest x i j d k = (record { section = s; name = Some l.text; place = l.place; shape = tree.Plain d.0 }, formula l q z h i j d.1 k)

choice_item : (l q z : Lexeme) (ts rest : List Lexeme) (x : Shape) → Is token.Name l → Is (token.Sign sign.EQUALS) q → DerivesChoice ts (z ∷ rest) x → Is (token.Sign sign.SEMICOLON) z → (y : Item) × DerivesItem section.Da (l ∷ q ∷ ts) rest y
choice_item l q z ts rest x i j d k = (record { section = section.Da; name = Some l.text; place = l.place; shape = x }, choice l q z i j d k)

guard_item : (l q z : Lexeme) (ts rest : List Lexeme) (x : Shape) → Is token.Name l → Is (token.Sign sign.EQUALS) q → DerivesGuard ts (z ∷ rest) x → Is (token.Sign sign.SEMICOLON) z → (y : Item) × DerivesItem section.Ad (l ∷ q ∷ ts) rest y
guard_item l q z ts rest x i j d k = (record { section = section.Ad; name = Some l.text; place = l.place; shape = x }, guard l q z i j d k)

-- An expression has a first lexeme.
abbrev Begun : Symbol → List Lexeme → Type 0
Begun (Behind n a) ts = Unit {0}
Begun _ ts = (l : Lexeme) × (us : List Lexeme) × (ts ≡ l ∷ us)

begun_up : (n : Level) (ts : List Lexeme) → Begun (operand n) ts → Begun (At n) ts
begun_up level.Arrow ts h = h
begun_up level.Or ts h = h
begun_up level.And ts h = h
begun_up level.Compare ts h = h
begun_up level.Sum ts h = h
begun_up level.Term ts h = h

begun : (s : Symbol) (ts rest : List Lexeme) (e : Tree) → Derives s ts rest e → Begun s ts
begun (At n) ts rest e (chain {more = more} {a = a} g first later) = begun_up n ts (begun (operand n) ts more a first)
begun (At n) ts rest e (alone g first) = begun_up n ts (begun (operand n) ts rest e first)
begun (At n) ts rest _ (pair {next = next} {a = a} op l g first k h later) = begun_up n ts (begun (operand n) ts (l ∷ next) a first)
begun (Behind n a) ts _ _ ended = tt
begun (Behind n a) _ rest e (add op l k h first later) = tt
begun Negation _ rest _ (negated {next = next} l k d) = (l, next, refl)
begun Negation ts rest e (compared d) = begun (At level.Compare) ts rest e d
begun Signed _ rest _ (signed {next = next} op l k d) = (l, next, refl)
begun Signed ts rest e (unsigned d) = begun Atom ts rest e d
begun Atom _ rest _ (literal l k) = (l, rest, refl)
begun Atom _ rest _ (name l k) = (l, rest, refl)
begun Atom _ rest _ (truth l k v i t) = (l, rest, refl)
begun Atom _ rest _ (cast o r l c i j k m) = (o, r ∷ l ∷ c ∷ rest, refl)
begun Atom _ rest e (group {next = next} o c i d k) = (o, next, refl)

must_item : (z : Lexeme) (ts rest : List Lexeme) (e : Tree) → DerivesExpr ts (z ∷ rest) e → Is (token.Sign sign.SEMICOLON) z → (y : Item) × DerivesItem section.Must ts rest y
must_item z ts rest e d k =
    let first = begun (At level.Arrow) ts (z ∷ rest) e d in
    let P : List Lexeme → Type 0 = λ us. DerivesExpr us (z ∷ rest) e in
    let Q : List Lexeme → Type 0 = λ us. (y : Item) × DerivesItem section.Must us rest y in
    subst Q (sym first.2) (record { section = section.Must; name = None; place = first.0.place; shape = tree.Plain e }, must first.0 z (subst P first.2 d) k)

must_viable : (room : ℕ) (ls : List Lexeme) → Viable (An_item section.Must) ls (must_at room ls)
unfolding must_at
must_viable room [] =
    let z = sample (token.Sign sign.SEMICOLON) in
    at_once (record {
      front = joined (one a_name) (one z);
      tree = record { section = section.Must; name = None; place = a_name.place; shape = tree.Plain its_tree };
      derives = λ b. must_item z (a_name ∷ z ∷ b) b its_tree (level_name level.Arrow (z ∷ b)) refl;
    }) []
must_viable room (l ∷ us) = next {C = DerivesExpr} _ (expr_viable room (l ∷ us)) (λ e f vs d. next_is (token.Sign sign.SEMICOLON) vs _ (λ z ws k. answers ws (λ b. must_item z (f.put (z ∷ b)) b e (d (z ∷ b)) k)))

item_viable : (room : ℕ) (s : Section) → declares s ≡ false → (ls : List Lexeme) → Viable (An_item s) ls (item_at room s ls)
item_viable room section.Must h ls = must_viable room ls
item_viable room section.Da h ls = named_viable room section.Da DerivesChoice (choice_viable room) choice_item ls
item_viable room section.Ad h ls = named_viable room section.Ad DerivesGuard (guard_viable room) guard_item ls
item_viable room section.Logic h ls = named_viable room section.Logic A_formula (formula_viable room) (formula_item section.Logic refl) ls
item_viable room section.Linear h ls = named_viable room section.Linear A_formula (formula_viable room) (formula_item section.Linear refl) ls
item_viable room section.Automata h ls = named_viable room section.Automata A_formula (formula_viable room) (formula_item section.Automata refl) ls
item_viable room section.Continuous h ls = named_viable room section.Continuous A_formula (formula_viable room) (formula_item section.Continuous refl) ls
item_viable room section.OutputItem h ls = named_viable room section.OutputItem A_formula (formula_viable room) (formula_item section.OutputItem refl) ls
item_viable room _ h ls = absurd cc

-- items and the brace behind them
abbrev pub Some_items : Section → List Item → List Lexeme → List Lexeme → Type 0
Some_items s before ts rest = (xs : List Item) × (z : Lexeme) × DerivesItems s ts (z ∷ rest) xs × Is (token.Sign sign.CLOSE_BRACE) z

item_turn_viable : (room : ℕ) (s : Section) → declares s ≡ false → (before : List Item) (ls : List Lexeme) → ViableTurn (Leads (Some_items s) before) ls (item_turn room s before ls)
unfolding item_turn
item_turn_viable room s h before ls =
    maybe_turn (token.Sign sign.CLOSE_BRACE) ls _ _
    (next_turn {C = An_item s} _ (item_viable room s h ls) (λ x f us d. answers_turn us (λ b rest later. ((d b).0 ∷ later.0, later.1, item (d b).1 later.2, later.3))))
    (λ z us i. answers_turn us (λ b. ([], z, no_items, i)))

pub items_viable : (room : ℕ) (s : Section) → declares s ≡ false → (before : List Item) (ls : List Lexeme) → Viable (λ ts rest (e : List Item). Some_items s before ts rest) ls (all_turns (item_turn room s) before ls)
items_viable room s h = all_viable (item_turn room s) (Some_items s) (item_turn_viable room s h) (λ before. record {
  front = one (sample (token.Sign sign.CLOSE_BRACE));
  tree = before;
  derives = λ b. ([], sample (token.Sign sign.CLOSE_BRACE), no_items, refl);
})
