-- What is derived is read: declarations, items, sections and sources.
use Rattle.std.proofs.Common.{◌≡◌, ℕ, suc, ◌<◌, ◌≤◌, Bool, true, false, cond, List, [], ◌∷◌, ◌++◌, length, Some, None, Ok, refl, sym, ap, ◌∙◌, arith, append_assoc}
use Rattle.std.proofs.lemmas.List.{append-nil}
use Rattle.hys_lex.specs.declared.token.TokenKind.{TokenKind}
use Rattle.hys_lex.specs.declared.token.TokenKind.TheVariants as token
use Rattle.hys_lex.specs.declared.sign.TheConstants as sign
use Rattle.hys_lex.specs.declared.keyword.TheConstants as keyword
use Rattle.hys_ast.specs.declared.lexeme.Lexeme.{Lexeme}
use Rattle.hys_ast.specs.declared.level.Level.TheVariants as level
use Rattle.hys_ast.specs.declared.source.Section.{Section}
use Rattle.hys_ast.specs.declared.source.Section.TheVariants as section
use Rattle.hys_ast.specs.declared.source.Kind.{Kind}
use Rattle.hys_ast.specs.Operators.{binary_of}
use Rattle.hys_ast.specs.Grammar.{Is, At, DerivesExpr, has_bounds, kind_of, DerivesDecl, plain, bounded, valued, DerivesNames, last, further, DerivesDecls, no_decls, line, DerivesIte, short, long, DerivesChoice, bare, braced, DerivesGuard, narrow, wide, has_formulas, DerivesItem, formula, guard, choice, must, DerivesItems, no_items, item}
use Rattle.hys_ast.specs.Tree.{Tree, Decl, Shape, Item, Source}
use Rattle.hys_ast.specs.Tree as tree
use Rattle.hys_parse.specs.Reading.{same_kind, after}
use Rattle.hys_parse.specs.Sections.{expr_at, turns, all_turns, decl_with, has_value, bounded_at, valued_at, plain_at, decl_at, name_turn, kind_at, line_at, line_turn, ite_at, braced_at, choice_at, formula_at, tolerance_at, guard_at, shape_at, named_at, must_at, item_at, item_turn}
use Rattle.hys_parse.proofs.Steps.{expect_is, after_is, after_not}
use Rattle.hys_parse.proofs.Turns.{first_turn, last_turn}
use Rattle.hys_parse.proofs.Complete.{shrinks, front_rank, fronts, closes, expr_complete}

expr_shrinks : (ts rest : List Lexeme) (e : Tree) → DerivesExpr ts rest e → length rest ≤ length ts
expr_shrinks ts rest e d = shrinks (At level.Arrow) ts rest e d

-- An expression in front of a token that is no operator.
expr_before : (room : ℕ) (k : TokenKind) (l : Lexeme) (ts rest : List Lexeme) (e : Tree) → DerivesExpr ts (l ∷ rest) e → Is k l → binary_of k ≡ None → length ts ≤ room → expr_at room ts ≡ Ok (e, l ∷ rest)
expr_before room k l ts rest e d i n fits = expr_complete room ts (l ∷ rest) e d fits (closes k l rest i n)

-- What stands behind a declaration.
record Closed (ts : List Lexeme) : Type 0 where
  stops : front_rank ts < 1
  bracket : after (token.Sign sign.OPEN_BRACKET) ts ≡ None
  equals : after (token.Sign sign.EQUALS) ts ≡ None

closed_by : (k : TokenKind) (l : Lexeme) (ts : List Lexeme) → Is k l → binary_of k ≡ None → same_kind k (token.Sign sign.OPEN_BRACKET) ≡ false → same_kind k (token.Sign sign.EQUALS) ≡ false → Closed (l ∷ ts)
closed_by k l ts i n b e = record { stops = closes k l ts i n; bracket = after_not (token.Sign sign.OPEN_BRACKET) k l ts i b; equals = after_not (token.Sign sign.EQUALS) k l ts i e }

same_all : {A : Type 0} (b c : Bool) (x : A) → cond b x (cond c x x) ≡ x
same_all true c x = refl
same_all false true x = refl
same_all false false x = refl

plain_reads : (room : ℕ) (s : Section) (k : Kind) (l : Lexeme) (rest : List Lexeme) → Is token.Name l → Closed rest → decl_at room s k (l ∷ rest) ≡ Ok (decl_with s k l None None None, rest)
unfolding decl_at plain_at
plain_reads room s k l rest i c = rw (expect_is token.Name l rest i, c.bracket, c.equals) (same_all (has_bounds s k) (has_value s) (Ok (decl_with s k l None None None, rest)))

bounded_reads : (room : ℕ) (s : Section) (k : Kind) (l o comma c : Lexeme) (lows highs rest : List Lexeme) (low high : Tree) → has_bounds s k ≡ true → Is token.Name l → Is (token.Sign sign.OPEN_BRACKET) o →
    expr_at room lows ≡ Ok (low, comma ∷ highs) → Is (token.Sign sign.COMMA) comma → expr_at room highs ≡ Ok (high, c ∷ rest) → Is (token.Sign sign.CLOSE_BRACKET) c →
    decl_at room s k (l ∷ o ∷ lows) ≡ Ok (decl_with s k l (Some low) (Some high) None, rest)
unfolding decl_at bounded_at
bounded_reads room s k l o comma c lows highs rest low high b i j d m e n =
    rw (expect_is token.Name l (o ∷ lows) i, b, after_is (token.Sign sign.OPEN_BRACKET) o lows j, d, expect_is (token.Sign sign.COMMA) comma highs m, e, expect_is (token.Sign sign.CLOSE_BRACKET) c rest n) refl

valued_reads : (room : ℕ) (k : Kind) (l q : Lexeme) (next rest : List Lexeme) (e : Tree) → Is token.Name l → Is (token.Sign sign.EQUALS) q → expr_at room next ≡ Ok (e, rest) →
    decl_at room section.Parameter k (l ∷ q ∷ next) ≡ Ok (decl_with section.Parameter k l None None (Some e), rest)
unfolding decl_at valued_at
valued_reads room k l q next rest e i j d = rw (expect_is token.Name l (q ∷ next) i, after_is (token.Sign sign.EQUALS) q next j, d) refl

decl_shrinks : (s : Section) (k : Kind) (ts rest : List Lexeme) (d : Decl) → DerivesDecl s k ts rest d → length rest < length ts
decl_shrinks s k _ rest _ (plain l i) = omega arith
decl_shrinks s k _ rest _ (bounded {lows = lows} {highs = highs} {low = low} {high = high} l o comma c b i j d m e n) = omega (arith, expr_shrinks lows (comma ∷ highs) low d, expr_shrinks highs (c ∷ rest) high e)
decl_shrinks _ k _ rest _ (valued {next = next} {e = e} l q i j d) = omega (arith, expr_shrinks next rest e d)

decl_complete : (room : ℕ) (s : Section) (k : Kind) (ts rest : List Lexeme) (d : Decl) → DerivesDecl s k ts rest d → length ts ≤ room → Closed rest → decl_at room s k ts ≡ Ok (d, rest)
decl_complete room s k _ rest _ (plain l i) fits c = plain_reads room s k l rest i c
decl_complete room s k _ rest _ (bounded {lows = lows} {highs = highs} {low = low} {high = high} l o comma c b i j d m e n) fits closed =
    bounded_reads room s k l o comma c lows highs rest low high b i j (expr_before room (token.Sign sign.COMMA) comma lows highs low d m refl (omega arith)) m
    (expr_before room (token.Sign sign.CLOSE_BRACKET) c highs rest high e n refl (omega (arith, expr_shrinks lows (comma ∷ highs) low d))) n
decl_complete room _ k _ rest _ (valued {next = next} {e = e} l q i j d) fits c = valued_reads room k l q next rest e i j (expr_complete room next rest e d (omega arith) c.stops)

last_name : (room : ℕ) (s : Section) (k : Kind) (before : List Decl) (ts rest : List Lexeme) (d : Decl) → decl_at room s k ts ≡ Ok (d, rest) → after (token.Sign sign.COMMA) rest ≡ None → name_turn room s k before ts ≡ Ok (before ++ d ∷ [], false, rest)
unfolding name_turn
last_name room s k before ts rest d r a = rw (r, a) refl

further_name : (room : ℕ) (s : Section) (k : Kind) (before : List Decl) (ts next : List Lexeme) (comma : Lexeme) (d : Decl) → decl_at room s k ts ≡ Ok (d, comma ∷ next) → Is (token.Sign sign.COMMA) comma → name_turn room s k before ts ≡ Ok (before ++ d ∷ [], true, next)
unfolding name_turn
further_name room s k before ts next comma d r i = rw (r, after_is (token.Sign sign.COMMA) comma next i) refl

names_complete : (room : ℕ) (s : Section) (k : Kind) (ts after_names : List Lexeme) (ds : List Decl) → DerivesNames s k ts after_names ds → (end : Lexeme) (rest : List Lexeme) → after_names ≡ end ∷ rest → Is (token.Sign sign.SEMICOLON) end → length ts ≤ room →
    (before : List Decl) (fuel : ℕ) → length ts < fuel → turns (name_turn room s k) fuel before ts ≡ Ok (before ++ ds, after_names)
names_complete room s k ts past _ (last {d = d} here) end rest at i fits before fuel enough =
    let c : Closed past = rw at (closed_by (token.Sign sign.SEMICOLON) end rest i refl refl refl) in
    let a : after (token.Sign sign.COMMA) past ≡ None = rw at (after_not (token.Sign sign.COMMA) (token.Sign sign.SEMICOLON) end rest i refl) in
    last_turn (name_turn room s k) fuel before (before ++ d ∷ []) ts past (last_name room s k before ts past d (decl_complete room s k ts past d here fits c) a) (omega arith)
names_complete room s k ts past _ (further {next = next} {d = d} {ds = ds} comma here j later) end rest at i fits before fuel enough =
    let less : length (comma ∷ next) < length ts = decl_shrinks s k ts (comma ∷ next) d here in
    let read = decl_complete room s k ts (comma ∷ next) d here fits (closed_by (token.Sign sign.COMMA) comma next j refl refl refl) in
    first_turn (name_turn room s k) fuel before (before ++ d ∷ []) ts next (Ok (before ++ d ∷ ds, past)) (further_name room s k before ts next comma d read j) enough (omega arith)
    (λ left more. names_complete room s k next past ds later end rest at i (omega arith) (before ++ d ∷ []) left more ∙ ap (λ (x : List Decl). Ok (x, past)) (append_assoc before (d ∷ []) ds))

names_shrink : (s : Section) (k : Kind) (ts rest : List Lexeme) (ds : List Decl) → DerivesNames s k ts rest ds → length rest < length ts
names_shrink s k ts rest _ (last {d = d} here) = decl_shrinks s k ts rest d here
names_shrink s k ts rest _ (further {next = next} {d = d} {ds = ds} comma here j later) = omega (arith, decl_shrinks s k ts (comma ∷ next) d here, names_shrink s k next rest ds later)

kind_at_is : (l : Lexeme) (ts : List Lexeme) (k : Kind) → kind_of l.kind ≡ Some k → kind_at (l ∷ ts) ≡ Some (k, ts)
unfolding kind_at
kind_at_is l ts k e = rw e refl

pub kind_at_not : (l : Lexeme) (ts : List Lexeme) → Is (token.Sign sign.CLOSE_BRACE) l → kind_at (l ∷ ts) ≡ None
unfolding kind_at
kind_at_not l ts i = rw i refl

line_reads : (room : ℕ) (s : Section) (k : Kind) (before ds : List Decl) (l end : Lexeme) (next more : List Lexeme) → kind_of l.kind ≡ Some k → all_turns (name_turn room s k) before next ≡ Ok (before ++ ds, end ∷ more) →
    Is (token.Sign sign.SEMICOLON) end → line_turn room s before (l ∷ next) ≡ Ok (before ++ ds, true, more)
unfolding line_turn line_at
line_reads room s k before ds l end next more w r i = rw (kind_at_is l next k w, r, expect_is (token.Sign sign.SEMICOLON) end more i) refl

no_line : (room : ℕ) (s : Section) (before : List Decl) (ts : List Lexeme) → kind_at ts ≡ None → line_turn room s before ts ≡ Ok (before, false, ts)
unfolding line_turn
no_line room s before ts n = rw n refl

all_names : (room : ℕ) (s : Section) (k : Kind) (ts rest : List Lexeme) (ds before : List Decl) (end : Lexeme) → DerivesNames s k ts (end ∷ rest) ds → Is (token.Sign sign.SEMICOLON) end → length ts ≤ room → all_turns (name_turn room s k) before ts ≡ Ok (before ++ ds, end ∷ rest)
unfolding all_turns
all_names room s k ts rest ds before end d i fits = names_complete room s k ts (end ∷ rest) ds d end rest refl i fits before (suc (length ts)) (omega arith)

pub decls_complete : (room : ℕ) (s : Section) (ts rest : List Lexeme) (ds : List Decl) → DerivesDecls s ts rest ds → kind_at rest ≡ None → length ts ≤ room → (before : List Decl) (fuel : ℕ) → length ts < fuel → turns (line_turn room s) fuel before ts ≡ Ok (before ++ ds, rest)
decls_complete room s ts _ _ no_decls n fits before fuel enough = last_turn (line_turn room s) fuel before before ts ts (no_line room s before ts n) (omega arith) ∙ ap (λ (x : List Decl). Ok (x, ts)) (sym (append-nil before))
decls_complete room s _ rest _ (line {k = k} {next = next} {more = more} {ds = ds} {es = es} l end w here i later) n fits before fuel enough =
    let less : length (end ∷ more) < length next = names_shrink s k next (end ∷ more) ds here in
    first_turn (line_turn room s) fuel before (before ++ ds) (l ∷ next) more (Ok (before ++ (ds ++ es), rest)) (line_reads room s k before ds l end next more w (all_names room s k next more ds before end here i (omega arith)) i) enough (omega arith)
    (λ left larger. decls_complete room s more rest es later n (omega arith) (before ++ ds) left larger ∙ ap (λ (x : List Decl). Ok (x, rest)) (append_assoc before ds es))

pub decls_shrink : (s : Section) (ts rest : List Lexeme) (ds : List Decl) → DerivesDecls s ts rest ds → length rest ≤ length ts
decls_shrink s ts _ _ no_decls = omega arith
decls_shrink s _ rest _ (line {k = k} {next = next} {more = more} {ds = ds} {es = es} l end w here i later) = omega (arith, names_shrink s k next (end ∷ more) ds here, decls_shrink s more rest es later)

-- choices

short_reads : (room : ℕ) (i t : Lexeme) (whens thens rest : List Lexeme) (a b : Tree) → Is (token.Keyword keyword.IF) i → expr_at room whens ≡ Ok (a, t ∷ thens) → Is (token.Keyword keyword.THEN) t → expr_at room thens ≡ Ok (b, rest) →
    after (token.Keyword keyword.ELSE) rest ≡ None → ite_at room (i ∷ whens) ≡ Ok (tree.Choice a b None, rest)
unfolding ite_at
short_reads room i t whens thens rest a b j d k e n = rw (expect_is (token.Keyword keyword.IF) i whens j, d, expect_is (token.Keyword keyword.THEN) t thens k, e, n) refl

long_reads : (room : ℕ) (i t o : Lexeme) (whens thens elses rest : List Lexeme) (a b c : Tree) → Is (token.Keyword keyword.IF) i → expr_at room whens ≡ Ok (a, t ∷ thens) → Is (token.Keyword keyword.THEN) t → expr_at room thens ≡ Ok (b, o ∷ elses) →
    Is (token.Keyword keyword.ELSE) o → expr_at room elses ≡ Ok (c, rest) → ite_at room (i ∷ whens) ≡ Ok (tree.Choice a b (Some c), rest)
unfolding ite_at
long_reads room i t o whens thens elses rest a b c j d k e m f =
    rw (expect_is (token.Keyword keyword.IF) i whens j, d, expect_is (token.Keyword keyword.THEN) t thens k, e, after_is (token.Keyword keyword.ELSE) o elses m, f) refl

ite_complete : (room : ℕ) (ts rest : List Lexeme) (x : Shape) → DerivesIte ts rest x → length ts ≤ room → front_rank rest < 1 → after (token.Keyword keyword.ELSE) rest ≡ None → ite_at room ts ≡ Ok (x, rest)
ite_complete room _ rest _ (short {whens = whens} {thens = thens} {a = a} {b = b} i t j d k e) fits stops n =
    short_reads room i t whens thens rest a b j (expr_before room (token.Keyword keyword.THEN) t whens thens a d k refl (omega arith)) k
    (expr_complete room thens rest b e (omega (arith, expr_shrinks whens (t ∷ thens) a d)) stops) n
ite_complete room _ rest _ (long {whens = whens} {thens = thens} {elses = elses} {a = a} {b = b} {c = c} i t o j d k e m f) fits stops n =
    let less : length (t ∷ thens) ≤ length whens = expr_shrinks whens (t ∷ thens) a d in
    let more : length (o ∷ elses) ≤ length thens = expr_shrinks thens (o ∷ elses) b e in
    long_reads room i t o whens thens elses rest a b c j (expr_before room (token.Keyword keyword.THEN) t whens thens a d k refl (omega arith)) k
    (expr_before room (token.Keyword keyword.ELSE) o thens elses b e m refl (omega arith)) m (expr_complete room elses rest c f (omega arith) stops)

ite_shrinks : (ts rest : List Lexeme) (x : Shape) → DerivesIte ts rest x → length rest ≤ length ts
ite_shrinks _ rest _ (short {whens = whens} {thens = thens} {a = a} {b = b} i t j d k e) = omega (arith, expr_shrinks whens (t ∷ thens) a d, expr_shrinks thens rest b e)
ite_shrinks _ rest _ (long {whens = whens} {thens = thens} {elses = elses} {a = a} {b = b} {c = c} i t o j d k e m f) = omega (arith, expr_shrinks whens (t ∷ thens) a d, expr_shrinks thens (o ∷ elses) b e, expr_shrinks elses rest c f)

ite_front : (ts rest : List Lexeme) (x : Shape) → DerivesIte ts rest x → after (token.Sign sign.OPEN_BRACE) ts ≡ None
ite_front _ rest _ (short {whens = whens} i t j d k e) = after_not (token.Sign sign.OPEN_BRACE) (token.Keyword keyword.IF) i whens j refl
ite_front _ rest _ (long {whens = whens} i t o j d k e m f) = after_not (token.Sign sign.OPEN_BRACE) (token.Keyword keyword.IF) i whens j refl

bare_reads : (room : ℕ) (ts rest : List Lexeme) (x : Shape) → after (token.Sign sign.OPEN_BRACE) ts ≡ None → ite_at room ts ≡ Ok (x, rest) → choice_at room ts ≡ Ok (x, rest)
unfolding choice_at
bare_reads room ts rest x n d = rw (n, d) refl

braced_reads : (room : ℕ) (o c : Lexeme) (next rest : List Lexeme) (x : Shape) → Is (token.Sign sign.OPEN_BRACE) o → ite_at room next ≡ Ok (x, c ∷ rest) → Is (token.Sign sign.CLOSE_BRACE) c → choice_at room (o ∷ next) ≡ Ok (x, rest)
unfolding choice_at braced_at
braced_reads room o c next rest x i d j = rw (after_is (token.Sign sign.OPEN_BRACE) o next i, d, expect_is (token.Sign sign.CLOSE_BRACE) c rest j) refl

choice_complete : (room : ℕ) (ts rest : List Lexeme) (x : Shape) → DerivesChoice ts rest x → length ts ≤ room → front_rank rest < 1 → after (token.Keyword keyword.ELSE) rest ≡ None → choice_at room ts ≡ Ok (x, rest)
choice_complete room ts rest x (bare d) fits stops n = bare_reads room ts rest x (ite_front ts rest x d) (ite_complete room ts rest x d fits stops n)
choice_complete room _ rest x (braced {next = next} o c i d j) fits stops n =
    braced_reads room o c next rest x i (ite_complete room next (c ∷ rest) x d (omega arith) (closes (token.Sign sign.CLOSE_BRACE) c rest j refl) (after_not (token.Keyword keyword.ELSE) (token.Sign sign.CLOSE_BRACE) c rest j refl)) j

choice_shrinks : (ts rest : List Lexeme) (x : Shape) → DerivesChoice ts rest x → length rest ≤ length ts
choice_shrinks ts rest x (bare d) = ite_shrinks ts rest x d
choice_shrinks _ rest x (braced {next = next} o c i d j) = omega (arith, ite_shrinks next (c ∷ rest) x d)

-- guards

narrow_reads : (room : ℕ) (ts rest : List Lexeme) (e : Tree) → expr_at room ts ≡ Ok (e, rest) → after (token.Sign sign.OPEN_BRACKET) rest ≡ None → guard_at room ts ≡ Ok (tree.Plain e, rest)
unfolding guard_at
narrow_reads room ts rest e d n = rw (d, n) refl

wide_reads : (room : ℕ) (o c : Lexeme) (ts next rest : List Lexeme) (a b : Tree) → expr_at room ts ≡ Ok (a, o ∷ next) → Is (token.Sign sign.OPEN_BRACKET) o → expr_at room next ≡ Ok (b, c ∷ rest) → Is (token.Sign sign.CLOSE_BRACKET) c →
    guard_at room ts ≡ Ok (tree.Wide a b, rest)
unfolding guard_at tolerance_at
wide_reads room o c ts next rest a b d i e j = rw (d, after_is (token.Sign sign.OPEN_BRACKET) o next i, e, expect_is (token.Sign sign.CLOSE_BRACKET) c rest j) refl

guard_complete : (room : ℕ) (ts rest : List Lexeme) (x : Shape) → DerivesGuard ts rest x → length ts ≤ room → front_rank rest < 1 → after (token.Sign sign.OPEN_BRACKET) rest ≡ None → guard_at room ts ≡ Ok (x, rest)
guard_complete room ts rest _ (narrow {e = e} d) fits stops n = narrow_reads room ts rest e (expr_complete room ts rest e d fits stops) n
guard_complete room ts rest _ (wide {next = next} {a = a} {b = b} o c d i e j) fits stops n =
    let less : length (o ∷ next) ≤ length ts = expr_shrinks ts (o ∷ next) a d in
    wide_reads room o c ts next rest a b (expr_before room (token.Sign sign.OPEN_BRACKET) o ts next a d i refl fits) i (expr_before room (token.Sign sign.CLOSE_BRACKET) c next rest b e j refl (omega arith)) j

guard_shrinks : (ts rest : List Lexeme) (x : Shape) → DerivesGuard ts rest x → length rest ≤ length ts
guard_shrinks ts rest _ (narrow {e = e} d) = expr_shrinks ts rest e d
guard_shrinks ts rest _ (wide {next = next} {a = a} {b = b} o c d i e j) = omega (arith, expr_shrinks ts (o ∷ next) a d, expr_shrinks next (c ∷ rest) b e)

-- items

item_is_named : (room : ℕ) (s : Section) (ts : List Lexeme) → has_formulas s ≡ true → item_at room s ts ≡ named_at room s ts
item_is_named room section.Must ts h = absurd cc
item_is_named room _ ts h = refl

shape_is_formula : (room : ℕ) (s : Section) (ts : List Lexeme) → has_formulas s ≡ true → shape_at room s ts ≡ formula_at room ts
shape_is_formula room section.Ad ts h = absurd cc
shape_is_formula room section.Da ts h = absurd cc
shape_is_formula room _ ts h = refl

formula_reads : (room : ℕ) (ts rest : List Lexeme) (e : Tree) → expr_at room ts ≡ Ok (e, rest) → formula_at room ts ≡ Ok (tree.Plain e, rest)
unfolding formula_at
formula_reads room ts rest e d = rw d refl

named_reads : (room : ℕ) (s : Section) (l q z : Lexeme) (next rest : List Lexeme) (x : Shape) → Is token.Name l → Is (token.Sign sign.EQUALS) q → shape_at room s next ≡ Ok (x, z ∷ rest) → Is (token.Sign sign.SEMICOLON) z →
    named_at room s (l ∷ q ∷ next) ≡ Ok (record { section = s; name = Some l.text; place = l.place; shape = x }, rest)
unfolding named_at
named_reads room s l q z next rest x i j d k = rw (expect_is token.Name l (q ∷ next) i, expect_is (token.Sign sign.EQUALS) q next j, d, expect_is (token.Sign sign.SEMICOLON) z rest k) refl

must_reads : (room : ℕ) (l z : Lexeme) (ts rest : List Lexeme) (e : Tree) → expr_at room (l ∷ ts) ≡ Ok (e, z ∷ rest) → Is (token.Sign sign.SEMICOLON) z →
    must_at room (l ∷ ts) ≡ Ok (record { section = section.Must; name = None; place = l.place; shape = tree.Plain e }, rest)
unfolding must_at
must_reads room l z ts rest e d k = rw (d, expect_is (token.Sign sign.SEMICOLON) z rest k) refl

item_complete : (room : ℕ) (s : Section) (ts rest : List Lexeme) (x : Item) → DerivesItem s ts rest x → length ts ≤ room → item_at room s ts ≡ Ok (x, rest)
item_complete room s _ rest _ (formula {next = next} {e = e} l q z h i j d k) fits =
    item_is_named room s (l ∷ q ∷ next) h ∙ named_reads room s l q z next rest (tree.Plain e) i j
    (shape_is_formula room s next h ∙ formula_reads room next (z ∷ rest) e (expr_before room (token.Sign sign.SEMICOLON) z next rest e d k refl (omega arith))) k
item_complete room _ _ rest _ (guard {next = next} {shape = x} l q z i j d k) fits =
    named_reads room section.Ad l q z next rest x i j
    (guard_complete room next (z ∷ rest) x d (omega arith) (closes (token.Sign sign.SEMICOLON) z rest k refl) (after_not (token.Sign sign.OPEN_BRACKET) (token.Sign sign.SEMICOLON) z rest k refl)) k
item_complete room _ _ rest _ (choice {next = next} {shape = x} l q z i j d k) fits =
    named_reads room section.Da l q z next rest x i j
    (choice_complete room next (z ∷ rest) x d (omega arith) (closes (token.Sign sign.SEMICOLON) z rest k refl) (after_not (token.Keyword keyword.ELSE) (token.Sign sign.SEMICOLON) z rest k refl)) k
item_complete room _ _ rest _ (must {ts = ts} {e = e} l z d k) fits = must_reads room l z ts rest e (expr_before room (token.Sign sign.SEMICOLON) z (l ∷ ts) rest e d k refl fits) k

item_shrinks : (s : Section) (ts rest : List Lexeme) (x : Item) → DerivesItem s ts rest x → length rest < length ts
item_shrinks s _ rest _ (formula {next = next} {e = e} l q z h i j d k) = omega (arith, expr_shrinks next (z ∷ rest) e d)
item_shrinks _ _ rest _ (guard {next = next} {shape = x} l q z i j d k) = omega (arith, guard_shrinks next (z ∷ rest) x d)
item_shrinks _ _ rest _ (choice {next = next} {shape = x} l q z i j d k) = omega (arith, choice_shrinks next (z ∷ rest) x d)
item_shrinks _ _ rest _ (must {ts = ts} {e = e} l z d k) = omega (arith, expr_shrinks (l ∷ ts) (z ∷ rest) e d)

item_front : (s : Section) (ts rest : List Lexeme) (x : Item) → DerivesItem s ts rest x → after (token.Sign sign.CLOSE_BRACE) ts ≡ None
item_front s _ rest _ (formula {next = next} l q z h i j d k) = after_not (token.Sign sign.CLOSE_BRACE) token.Name l (q ∷ next) i refl
item_front _ _ rest _ (guard {next = next} l q z i j d k) = after_not (token.Sign sign.CLOSE_BRACE) token.Name l (q ∷ next) i refl
item_front _ _ rest _ (choice {next = next} l q z i j d k) = after_not (token.Sign sign.CLOSE_BRACE) token.Name l (q ∷ next) i refl
item_front _ _ rest _ (must {ts = ts} {e = e} l z d k) = (fronts (At level.Arrow) (l ∷ ts) (z ∷ rest) e d).no_brace

item_reads : (room : ℕ) (s : Section) (before : List Item) (ts more : List Lexeme) (x : Item) → after (token.Sign sign.CLOSE_BRACE) ts ≡ None → item_at room s ts ≡ Ok (x, more) → item_turn room s before ts ≡ Ok (before ++ x ∷ [], true, more)
unfolding item_turn
item_reads room s before ts more x n d = rw (n, d) refl

no_item : (room : ℕ) (s : Section) (before : List Item) (ts rest : List Lexeme) → after (token.Sign sign.CLOSE_BRACE) ts ≡ Some rest → item_turn room s before ts ≡ Ok (before, false, rest)
unfolding item_turn
no_item room s before ts rest n = rw n refl

pub items_complete : (room : ℕ) (s : Section) (ts end : List Lexeme) (xs : List Item) → DerivesItems s ts end xs → (z : Lexeme) (rest : List Lexeme) → end ≡ z ∷ rest → Is (token.Sign sign.CLOSE_BRACE) z → length ts ≤ room → (before : List Item) (fuel : ℕ) → length ts < fuel →
    turns (item_turn room s) fuel before ts ≡ Ok (before ++ xs, rest)
items_complete room s ts _ _ no_items z rest at i fits before fuel enough =
    let a : after (token.Sign sign.CLOSE_BRACE) ts ≡ Some rest = rw at (after_is (token.Sign sign.CLOSE_BRACE) z rest i) in
    last_turn (item_turn room s) fuel before before ts rest (no_item room s before ts rest a) (omega arith) ∙ ap (λ (x : List Item). Ok (x, rest)) (sym (append-nil before))
items_complete room s ts end _ (item {more = more} {i = x} {is = xs} here later) z rest at i fits before fuel enough =
    let less : length more < length ts = item_shrinks s ts more x here in
    first_turn (item_turn room s) fuel before (before ++ x ∷ []) ts more (Ok (before ++ x ∷ xs, rest)) (item_reads room s before ts more x (item_front s ts more x here) (item_complete room s ts more x here fits)) enough less
    (λ left larger. items_complete room s more end xs later z rest at i (omega arith) (before ++ x ∷ []) left larger ∙ ap (λ (y : List Item). Ok (y, rest)) (append_assoc before (x ∷ []) xs))

pub items_shrink : (s : Section) (ts rest : List Lexeme) (xs : List Item) → DerivesItems s ts rest xs → length rest ≤ length ts
items_shrink s ts _ _ no_items = omega arith
items_shrink s ts rest _ (item {more = more} {i = x} {is = xs} here later) = omega (arith, item_shrinks s ts more x here, items_shrink s more rest xs later)
