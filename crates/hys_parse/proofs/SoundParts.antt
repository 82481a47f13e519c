-- What is read is derived: declarations, items, sections and sources.
use Rattle.std.proofs.Common.{◌≡◌, ℕ, zero, suc, Bool, true, false, cond, List, [], ◌∷◌, ◌++◌, length, Some, None, Ok, ◌⊎◌, inl, inr, refl, sym, ap, subst, ◌∙◌, append_assoc}
use Rattle.std.proofs.lemmas.List.{append-nil}
use Rattle.hys_lex.specs.declared.token.TokenKind.TheVariants as token
use Rattle.hys_lex.specs.declared.sign.TheConstants as sign
use Rattle.hys_lex.specs.declared.keyword.TheConstants as keyword
use Rattle.hys_ast.specs.declared.lexeme.Lexeme.{Lexeme}
use Rattle.hys_ast.specs.declared.source.Section.{Section}
use Rattle.hys_ast.specs.declared.source.Section.TheVariants as section
use Rattle.hys_ast.specs.declared.source.Kind.{Kind}
use Rattle.hys_ast.specs.Grammar.{Is, DerivesExpr, has_bounds, kind_of, DerivesDecl, plain, bounded, valued, DerivesNames, last, further, DerivesDecls, no_decls, line, DerivesIte, short, long, DerivesChoice, bare, braced, DerivesGuard, narrow, wide, has_formulas, DerivesItem, formula, guard, choice, must, DerivesItems, no_items, item}
use Rattle.hys_ast.specs.Tree.{Tree, Decl, Shape, Item, Source}
use Rattle.hys_ast.specs.Tree as tree
use Rattle.hys_parse.specs.Reading.{choose, after}
use Rattle.hys_parse.specs.Sections.{expr_at, turns, all_turns, decl_with, has_value, bounded_at, valued_at, plain_at, decl_at, name_turn, kind_at, line_at, line_turn, ite_at, braced_at, choice_at, formula_at, tolerance_at, guard_at, shape_at, named_at, must_at, item_at, item_turn, declares}
use Rattle.hys_parse.proofs.Steps.{bind_ok, ok_is, choose_is, cond_is, if_true, if_false, expect_then, after_then}
use Rattle.hys_parse.proofs.Sound.{expr_sound}

-- Each production, at lists and trees that are only known to be equal to those that it names.

bounded_is : (s : Section) (k : Kind) (l o comma c : Lexeme) (ts lows m1 highs m2 rest : List Lexeme) (low high : Tree) (p : Decl × List Lexeme) → has_bounds s k ≡ true → Is token.Name l → Is (token.Sign sign.OPEN_BRACKET) o → ts ≡ o ∷ lows →
    DerivesExpr lows m1 low → m1 ≡ comma ∷ highs → Is (token.Sign sign.COMMA) comma → DerivesExpr highs m2 high → m2 ≡ c ∷ rest → Is (token.Sign sign.CLOSE_BRACKET) c → (decl_with s k l (Some low) (Some high) None, rest) ≡ p → DerivesDecl s k (l ∷ ts) p.1 p.0
bounded_is s k l o comma c ts lows m1 highs m2 rest low high p b i j a d e m f g n q =
    let P : List Lexeme → Type 0 = λ x. DerivesExpr lows x low in
    let Q : List Lexeme → Type 0 = λ x. DerivesExpr highs x high in
    rw (← q, a) (bounded l o comma c b i j (subst P e d) m (subst Q g f) n)

bounded_sound : (room : ℕ) (s : Section) (k : Kind) (l o : Lexeme) (ts next : List Lexeme) (p : Decl × List Lexeme) → has_bounds s k ≡ true → Is token.Name l → Is (token.Sign sign.OPEN_BRACKET) o → ts ≡ o ∷ next → bounded_at room s k l next ≡ Ok p → DerivesDecl s k (l ∷ ts) p.1 p.0
unfolding bounded_at
bounded_sound room s k l o ts next p b i j a e =
    let low = bind_ok (expr_at room next) _ p e in
    let comma = expect_then (token.Sign sign.COMMA) low.0.1 _ p low.2 in
    let high = bind_ok (expr_at room comma.rest) _ p comma.next in
    let c = expect_then (token.Sign sign.CLOSE_BRACKET) high.0.1 _ p high.2 in
    bounded_is s k l o comma.first c.first ts next low.0.1 comma.rest high.0.1 c.rest low.0.0 high.0.0 p b i j a (expr_sound room next low.0 low.1) comma.is comma.kind (expr_sound room comma.rest high.0 high.1) c.is c.kind
    (ok_is (decl_with s k l (Some low.0.0) (Some high.0.0) None, c.rest) p c.next)

plain_is : (s : Section) (k : Kind) (l : Lexeme) (ts : List Lexeme) (p : Decl × List Lexeme) → Is token.Name l → plain_at s k l ts ≡ Ok p → DerivesDecl s k (l ∷ ts) p.1 p.0
unfolding plain_at
plain_is s k l ts p i e = rw (← ok_is (decl_with s k l None None None, ts) p e) (plain l i)

valued_is : (k : Kind) (l q : Lexeme) (ts next rest : List Lexeme) (e : Tree) (p : Decl × List Lexeme) → Is token.Name l → Is (token.Sign sign.EQUALS) q → ts ≡ q ∷ next → DerivesExpr next rest e → (decl_with section.Parameter k l None None (Some e), rest) ≡ p → DerivesDecl section.Parameter k (l ∷ ts) p.1 p.0
valued_is k l q ts next rest e p i j a d r = rw (← r, a) (valued l q i j d)

only_parameters : (s : Section) → has_value s ≡ true → s ≡ section.Parameter
only_parameters section.Parameter h = refl
only_parameters _ h = absurd cc

valued_sound : (room : ℕ) (s : Section) (k : Kind) (l q : Lexeme) (ts next : List Lexeme) (p : Decl × List Lexeme) → has_value s ≡ true → Is token.Name l → Is (token.Sign sign.EQUALS) q → ts ≡ q ∷ next → valued_at room s k l next ≡ Ok p → DerivesDecl s k (l ∷ ts) p.1 p.0
unfolding valued_at
valued_sound room section.Parameter k l q ts next p h i j a e =
    let value = bind_ok (expr_at room next) _ p e in
    valued_is k l q ts next value.0.1 value.0.0 p i j a (expr_sound room next value.0 value.1) (ok_is (decl_with section.Parameter k l None None (Some value.0.0), value.0.1) p value.2)
valued_sound room _ k l q ts next p h i j a e = absurd cc

extra_sound : (room : ℕ) (s : Section) (k : Kind) (l : Lexeme) (ts : List Lexeme) (p : Decl × List Lexeme) → Is token.Name l →
    cond (has_bounds s k) (choose (after (token.Sign sign.OPEN_BRACKET) ts) (plain_at s k l ts) (bounded_at room s k l)) (cond (has_value s) (choose (after (token.Sign sign.EQUALS) ts) (plain_at s k l ts) (valued_at room s k l)) (plain_at s k l ts)) ≡ Ok p →
    DerivesDecl s k (l ∷ ts) p.1 p.0
extra_sound room s k l ts p i e = elim (cond_is (has_bounds s k) _ _ _ e) [
  | inl b ↦ elim (choose_is (after (token.Sign sign.OPEN_BRACKET) ts) _ _ _ b.1) [
    | inl n ↦ plain_is s k l ts p i n.1
    | inr n ↦ let o = after_then (token.Sign sign.OPEN_BRACKET) ts n.0 n.1 in bounded_sound room s k l o.0 ts n.0 p b.0 i o.2 o.1 n.2
  ]
  | inr b ↦ elim (cond_is (has_value s) _ _ _ b.1) [
    | inl v ↦ elim (choose_is (after (token.Sign sign.EQUALS) ts) _ _ _ v.1) [
      | inl n ↦ plain_is s k l ts p i n.1
      | inr n ↦ let o = after_then (token.Sign sign.EQUALS) ts n.0 n.1 in valued_sound room s k l o.0 ts n.0 p v.0 i o.2 o.1 n.2
    ]
    | inr v ↦ plain_is s k l ts p i v.1
  ]
]

decl_at_list : (s : Section) (k : Kind) (ts us rest : List Lexeme) (d : Decl) → ts ≡ us → DerivesDecl s k us rest d → DerivesDecl s k ts rest d
decl_at_list s k ts us rest d e h = rw e h

decl_sound : (room : ℕ) (s : Section) (k : Kind) (ts : List Lexeme) (p : Decl × List Lexeme) → decl_at room s k ts ≡ Ok p → DerivesDecl s k ts p.1 p.0
unfolding decl_at
decl_sound room s k ts p e =
    let l = expect_then token.Name ts _ p e in
    decl_at_list s k ts (l.first ∷ l.rest) p.1 p.0 l.is (extra_sound room s k l.first l.rest p l.kind l.next)

-- One more of a list behind those of before, and then no more or others.
record Name (s : Section) (k : Kind) (before : List Decl) (ts : List Lexeme) (x : List Decl × Bool × List Lexeme) : Type 0 where
  decl : Decl
  past : List Lexeme
  here : DerivesDecl s k ts past decl
  list : x.0 ≡ before ++ decl ∷ []
  end : ((x.1 ≡ false) × (past ≡ x.2)) ⊎ ((comma : Lexeme) × (x.1 ≡ true) × (past ≡ comma ∷ x.2) × Is (token.Sign sign.COMMA) comma)

name_ends : (s : Section) (k : Kind) (before : List Decl) (ts past : List Lexeme) (d : Decl) (x : List Decl × Bool × List Lexeme) → DerivesDecl s k ts past d → (before ++ d ∷ [], false, past) ≡ x → Name s k before ts x
name_ends s k before ts past d x here e = rw (← e) (record { decl = d; past = past; here = here; list = refl; end = inl (refl, refl) })

name_goes_on : (s : Section) (k : Kind) (before : List Decl) (ts past next : List Lexeme) (comma : Lexeme) (d : Decl) (x : List Decl × Bool × List Lexeme) → DerivesDecl s k ts past d → past ≡ comma ∷ next → Is (token.Sign sign.COMMA) comma → (before ++ d ∷ [], true, next) ≡ x → Name s k before ts x
name_goes_on s k before ts past next comma d x here a i e = rw (← e) (record { decl = d; past = past; here = here; list = refl; end = inr (comma, refl, a, i) })

name_then : (room : ℕ) (s : Section) (k : Kind) (before : List Decl) (ts : List Lexeme) (x : List Decl × Bool × List Lexeme) → name_turn room s k before ts ≡ Ok x → Name s k before ts x
unfolding name_turn
name_then room s k before ts x e =
    let d = bind_ok (decl_at room s k ts) _ x e in
    let here = decl_sound room s k ts d.0 d.1 in
    elim (choose_is (after (token.Sign sign.COMMA) d.0.1) _ _ _ d.2) [
      | inl n ↦ name_ends s k before ts d.0.1 d.0.0 x here (ok_is (before ++ d.0.0 ∷ [], false, d.0.1) x n.1)
      | inr n ↦ let c = after_then (token.Sign sign.COMMA) d.0.1 n.0 n.1 in name_goes_on s k before ts d.0.1 n.0 c.0 d.0.0 x here c.1 c.2 (ok_is (before ++ d.0.0 ∷ [], true, n.0) x n.2)
    ]

last_is : (s : Section) (k : Kind) (ts past rest : List Lexeme) (d : Decl) → DerivesDecl s k ts past d → past ≡ rest → DerivesNames s k ts rest (d ∷ [])
last_is s k ts past rest d here e = let P : List Lexeme → Type 0 = λ x. DerivesDecl s k ts x d in last (subst P e here)

further_is : (s : Section) (k : Kind) (ts past next rest : List Lexeme) (comma : Lexeme) (d : Decl) (ds : List Decl) → DerivesDecl s k ts past d → past ≡ comma ∷ next → Is (token.Sign sign.COMMA) comma → DerivesNames s k next rest ds → DerivesNames s k ts rest (d ∷ ds)
further_is s k ts past next rest comma d ds here e i later = let P : List Lexeme → Type 0 = λ x. DerivesDecl s k ts x d in further comma (subst P e here) i later

-- what turns read behind what was read before
abbrev pub Behind : {A : Type 0} → (List Lexeme → List Lexeme → List A → Type 0) → List A → List Lexeme → List A × List Lexeme → Type 0
Behind {A} D before ts p = (more : List A) × (p.0 ≡ before ++ more) × D ts p.1 more

pub put_before : {A : Type 0} (before first more whole mid : List A) → mid ≡ before ++ first → whole ≡ mid ++ more → whole ≡ before ++ (first ++ more)
put_before before first more whole mid e f = f ∙ ap (λ x. x ++ more) e ∙ append_assoc before first more

names_sound : (room : ℕ) (s : Section) (k : Kind) (fuel : ℕ) (before : List Decl) (ts : List Lexeme) (p : List Decl × List Lexeme) → turns (name_turn room s k) fuel before ts ≡ Ok p → Behind (DerivesNames s k) before ts p
unfolding turns
names_sound room s k zero before ts p e = absurd cc
names_sound room s k (suc fuel) before ts p e =
    let t = bind_ok (name_turn room s k before ts) _ p e in
    let n = name_then room s k before ts t.0 t.1 in
    elim n.end [
      | inl w ↦
          let q = ok_is (t.0.0, t.0.2) p (if_false t.0.1 _ _ _ w.0 t.2) in
          (n.decl ∷ [], sym (ap (λ (x : List Decl × List Lexeme). x.0) q) ∙ n.list, last_is s k ts n.past p.1 n.decl n.here (w.1 ∙ ap (λ (x : List Decl × List Lexeme). x.1) q))
      | inr w ↦
          let later = names_sound room s k fuel t.0.0 t.0.2 p (if_true t.0.1 _ _ _ w.1 t.2) in
          (n.decl ∷ later.0, put_before before (n.decl ∷ []) later.0 p.0 t.0.0 n.list later.1, further_is s k ts n.past t.0.2 p.1 w.0 n.decl later.0 n.here w.2 w.3 later.2)
    ]

kind_then : (ts : List Lexeme) (p : Kind × List Lexeme) → kind_at ts ≡ Some p → (l : Lexeme) × (ts ≡ l ∷ p.1) × (kind_of l.kind ≡ Some p.0)
unfolding kind_at
kind_then [] p e = absurd cc
kind_then (l ∷ ts) p e = elim (choose_is (kind_of l.kind) _ _ _ e) [
  | inl w ↦ absurd cc
  | inr w ↦ let q : (w.0, ts) ≡ p = cc in (l, ap (λ (x : Kind × List Lexeme). l ∷ x.1) q, w.1 ∙ ap (λ (x : Kind × List Lexeme). Some x.0) q)
]

record Line (s : Section) (before : List Decl) (ts : List Lexeme) (x : List Decl × Bool × List Lexeme) : Type 0 where
  kind : Kind
  first : Lexeme
  next : List Lexeme
  names : List Decl
  past : List Lexeme
  end : Lexeme
  is : ts ≡ first ∷ next
  word : kind_of first.kind ≡ Some kind
  here : DerivesNames s kind next past names
  list : x.0 ≡ before ++ names
  behind : past ≡ end ∷ x.2
  semicolon : Is (token.Sign sign.SEMICOLON) end
  more : x.1 ≡ true

line_made : (s : Section) (k : Kind) (before : List Decl) (l end : Lexeme) (ts next past rest : List Lexeme) (mid names : List Decl) (x : List Decl × Bool × List Lexeme) → ts ≡ l ∷ next → kind_of l.kind ≡ Some k → DerivesNames s k next past names → mid ≡ before ++ names → past ≡ end ∷ rest →
    Is (token.Sign sign.SEMICOLON) end → (mid, true, rest) ≡ x → Line s before ts x
line_made s k before l end ts next past rest mid names x a w d m b i e =
    rw (← e) (record { kind = k; first = l; next = next; names = names; past = past; end = end; is = a; word = w; here = d; list = m; behind = b; semicolon = i; more = refl })

line_then : (room : ℕ) (s : Section) (k : Kind) (before : List Decl) (l : Lexeme) (ts next : List Lexeme) (x : List Decl × Bool × List Lexeme) → ts ≡ l ∷ next → kind_of l.kind ≡ Some k → line_at room s k before next ≡ Ok x → Line s before ts x
unfolding line_at all_turns
line_then room s k before l ts next x a w e =
    let n = bind_ok (turns (name_turn room s k) (suc (length next)) before next) _ x e in
    let d = names_sound room s k (suc (length next)) before next n.0 n.1 in
    let z = expect_then (token.Sign sign.SEMICOLON) n.0.1 _ x n.2 in
    line_made s k before l z.first ts next n.0.1 z.rest n.0.0 d.0 x a w d.2 d.1 z.is z.kind (ok_is (n.0.0, true, z.rest) x z.next)

line_is : (s : Section) (k : Kind) (l end : Lexeme) (ts next past more rest : List Lexeme) (ds es : List Decl) → ts ≡ l ∷ next → kind_of l.kind ≡ Some k → DerivesNames s k next past ds → past ≡ end ∷ more → Is (token.Sign sign.SEMICOLON) end → DerivesDecls s more rest es → DerivesDecls s ts rest (ds ++ es)
line_is s k l end ts next past more rest ds es a w here b i later = let P : List Lexeme → Type 0 = λ x. DerivesNames s k next x ds in rw a (line l end w (subst P b here) i later)

ended_is : (s : Section) (before : List Decl) (ts : List Lexeme) (x : List Decl × Bool × List Lexeme) (p : List Decl × List Lexeme) → (before, false, ts) ≡ x → (x.0, x.2) ≡ p → Behind (DerivesDecls s) before ts p
ended_is s before ts x p e f = rw (← f, ← e) ([], sym (append-nil before), no_decls)

pub decls_sound : (room : ℕ) (s : Section) (fuel : ℕ) (before : List Decl) (ts : List Lexeme) (p : List Decl × List Lexeme) → turns (line_turn room s) fuel before ts ≡ Ok p → Behind (DerivesDecls s) before ts p
unfolding turns line_turn
decls_sound room s zero before ts p e = absurd cc
decls_sound room s (suc fuel) before ts p e =
    let t = bind_ok (line_turn room s before ts) _ p e in
    elim (choose_is (kind_at ts) _ _ _ t.1) [
      | inl w ↦
          let x = ok_is (before, false, ts) t.0 w.1 in
          ended_is s before ts t.0 p x (ok_is (t.0.0, t.0.2) p (if_false t.0.1 _ _ _ (sym (ap (λ (y : List Decl × Bool × List Lexeme). y.1) x)) t.2))
      | inr w ↦
          let k = kind_then ts w.0 w.1 in
          let n = line_then room s w.0.0 before k.0 ts w.0.1 t.0 k.1 k.2 w.2 in
          let later = decls_sound room s fuel t.0.0 t.0.2 p (if_true t.0.1 _ _ _ n.more t.2) in
          (n.names ++ later.0, put_before before n.names later.0 p.0 t.0.0 n.list later.1, line_is s n.kind n.first n.end ts n.next n.past t.0.2 p.1 n.names later.0 n.is n.word n.here n.behind n.semicolon later.2)
    ]

-- choices

short_is : (i t : Lexeme) (ts whens m1 thens rest : List Lexeme) (a b : Tree) (p : Shape × List Lexeme) → ts ≡ i ∷ whens → Is (token.Keyword keyword.IF) i → DerivesExpr whens m1 a → m1 ≡ t ∷ thens → Is (token.Keyword keyword.THEN) t → DerivesExpr thens rest b → (tree.Choice a b None, rest) ≡ p → DerivesIte ts p.1 p.0
short_is i t ts whens m1 thens rest a b p e1 k1 d e2 k2 f q = let P : List Lexeme → Type 0 = λ x. DerivesExpr whens x a in rw (← q, e1) (short i t k1 (subst P e2 d) k2 f)

long_is : (i t o : Lexeme) (ts whens m1 thens m2 elses rest : List Lexeme) (a b c : Tree) (p : Shape × List Lexeme) → ts ≡ i ∷ whens → Is (token.Keyword keyword.IF) i → DerivesExpr whens m1 a → m1 ≡ t ∷ thens → Is (token.Keyword keyword.THEN) t → DerivesExpr thens m2 b → m2 ≡ o ∷ elses →
    Is (token.Keyword keyword.ELSE) o → DerivesExpr elses rest c → (tree.Choice a b (Some c), rest) ≡ p → DerivesIte ts p.1 p.0
long_is i t o ts whens m1 thens m2 elses rest a b c p e1 k1 d e2 k2 f e3 k3 g q =
    let P : List Lexeme → Type 0 = λ x. DerivesExpr whens x a in
    let Q : List Lexeme → Type 0 = λ x. DerivesExpr thens x b in
    rw (← q, e1) (long i t o k1 (subst P e2 d) k2 (subst Q e3 f) k3 g)

ite_sound : (room : ℕ) (ts : List Lexeme) (p : Shape × List Lexeme) → ite_at room ts ≡ Ok p → DerivesIte ts p.1 p.0
unfolding ite_at
ite_sound room ts p e =
    let i = expect_then (token.Keyword keyword.IF) ts _ p e in
    let a = bind_ok (expr_at room i.rest) _ p i.next in
    let t = expect_then (token.Keyword keyword.THEN) a.0.1 _ p a.2 in
    let b = bind_ok (expr_at room t.rest) _ p t.next in
    let da = expr_sound room i.rest a.0 a.1 in
    let db = expr_sound room t.rest b.0 b.1 in
    elim (choose_is (after (token.Keyword keyword.ELSE) b.0.1) _ _ _ b.2) [
      | inl w ↦ short_is i.first t.first ts i.rest a.0.1 t.rest b.0.1 a.0.0 b.0.0 p i.is i.kind da t.is t.kind db (ok_is (tree.Choice a.0.0 b.0.0 None, b.0.1) p w.1)
      | inr w ↦
          let o = after_then (token.Keyword keyword.ELSE) b.0.1 w.0 w.1 in
          let c = bind_ok (expr_at room w.0) _ p w.2 in
          long_is i.first t.first o.0 ts i.rest a.0.1 t.rest b.0.1 w.0 c.0.1 a.0.0 b.0.0 c.0.0 p i.is i.kind da t.is t.kind db o.1 o.2 (expr_sound room w.0 c.0 c.1) (ok_is (tree.Choice a.0.0 b.0.0 (Some c.0.0), c.0.1) p c.2)
    ]

braced_is : (o z : Lexeme) (ts next past rest : List Lexeme) (x : Shape) (p : Shape × List Lexeme) → ts ≡ o ∷ next → Is (token.Sign sign.OPEN_BRACE) o → DerivesIte next past x → past ≡ z ∷ rest → Is (token.Sign sign.CLOSE_BRACE) z → (x, rest) ≡ p → DerivesChoice ts p.1 p.0
braced_is o z ts next past rest x p a i d b j q = let P : List Lexeme → Type 0 = λ y. DerivesIte next y x in rw (← q, a) (braced o z i (subst P b d) j)

choice_sound : (room : ℕ) (ts : List Lexeme) (p : Shape × List Lexeme) → choice_at room ts ≡ Ok p → DerivesChoice ts p.1 p.0
unfolding choice_at braced_at
choice_sound room ts p e = elim (choose_is (after (token.Sign sign.OPEN_BRACE) ts) _ _ _ e) [
  | inl w ↦ bare (ite_sound room ts p w.1)
  | inr w ↦
      let o = after_then (token.Sign sign.OPEN_BRACE) ts w.0 w.1 in
      let x = bind_ok (ite_at room w.0) _ p w.2 in
      let z = expect_then (token.Sign sign.CLOSE_BRACE) x.0.1 _ p x.2 in
      braced_is o.0 z.first ts w.0 x.0.1 z.rest x.0.0 p o.1 o.2 (ite_sound room w.0 x.0 x.1) z.is z.kind (ok_is (x.0.0, z.rest) p z.next)
]

-- guards

wide_is : (o c : Lexeme) (ts m1 next m2 rest : List Lexeme) (a b : Tree) (p : Shape × List Lexeme) → DerivesExpr ts m1 a → m1 ≡ o ∷ next → Is (token.Sign sign.OPEN_BRACKET) o → DerivesExpr next m2 b → m2 ≡ c ∷ rest → Is (token.Sign sign.CLOSE_BRACKET) c →
    (tree.Wide a b, rest) ≡ p → DerivesGuard ts p.1 p.0
wide_is o c ts m1 next m2 rest a b p d e1 k1 f e2 k2 q =
    let P : List Lexeme → Type 0 = λ x. DerivesExpr ts x a in
    let Q : List Lexeme → Type 0 = λ x. DerivesExpr next x b in
    rw (← q) (wide o c (subst P e1 d) k1 (subst Q e2 f) k2)

narrow_is : (ts rest : List Lexeme) (e : Tree) (p : Shape × List Lexeme) → DerivesExpr ts rest e → (tree.Plain e, rest) ≡ p → DerivesGuard ts p.1 p.0
narrow_is ts rest e p d q = rw (← q) (narrow d)

guard_sound : (room : ℕ) (ts : List Lexeme) (p : Shape × List Lexeme) → guard_at room ts ≡ Ok p → DerivesGuard ts p.1 p.0
unfolding guard_at tolerance_at
guard_sound room ts p e =
    let a = bind_ok (expr_at room ts) _ p e in
    let d = expr_sound room ts a.0 a.1 in
    elim (choose_is (after (token.Sign sign.OPEN_BRACKET) a.0.1) _ _ _ a.2) [
      | inl w ↦ narrow_is ts a.0.1 a.0.0 p d (ok_is (tree.Plain a.0.0, a.0.1) p w.1)
      | inr w ↦
          let o = after_then (token.Sign sign.OPEN_BRACKET) a.0.1 w.0 w.1 in
          let b = bind_ok (expr_at room w.0) _ p w.2 in
          let c = expect_then (token.Sign sign.CLOSE_BRACKET) b.0.1 _ p b.2 in
          wide_is o.0 c.first ts a.0.1 w.0 b.0.1 c.rest a.0.0 b.0.0 p d o.1 o.2 (expr_sound room w.0 b.0 b.1) c.is c.kind (ok_is (tree.Wide a.0.0 b.0.0, c.rest) p c.next)
    ]

-- items

formula_is : (s : Section) (l q z : Lexeme) (ts m1 next past rest : List Lexeme) (e : Tree) (p : Item × List Lexeme) → has_formulas s ≡ true → ts ≡ l ∷ m1 → Is token.Name l → m1 ≡ q ∷ next → Is (token.Sign sign.EQUALS) q → DerivesExpr next past e → past ≡ z ∷ rest → Is (token.Sign sign.SEMICOLON) z →
    (record { section = s; name = Some l.text; place = l.place; shape = tree.Plain e }, rest) ≡ p → DerivesItem s ts p.1 p.0
formula_is s l q z ts m1 next past rest e p h e1 k1 e2 k2 d e3 k3 r = let P : List Lexeme → Type 0 = λ x. DerivesExpr next x e in rw (← r, e1, e2) (formula l q z h k1 k2 (subst P e3 d) k3)

choice_is : (l q z : Lexeme) (ts m1 next past rest : List Lexeme) (x : Shape) (p : Item × List Lexeme) → ts ≡ l ∷ m1 → Is token.Name l → m1 ≡ q ∷ next → Is (token.Sign sign.EQUALS) q → DerivesChoice next past x → past ≡ z ∷ rest → Is (token.Sign sign.SEMICOLON) z →
    (record { section = section.Da; name = Some l.text; place = l.place; shape = x }, rest) ≡ p → DerivesItem section.Da ts p.1 p.0
choice_is l q z ts m1 next past rest x p e1 k1 e2 k2 d e3 k3 r = let P : List Lexeme → Type 0 = λ y. DerivesChoice next y x in rw (← r, e1, e2) (choice l q z k1 k2 (subst P e3 d) k3)

guard_is : (l q z : Lexeme) (ts m1 next past rest : List Lexeme) (x : Shape) (p : Item × List Lexeme) → ts ≡ l ∷ m1 → Is token.Name l → m1 ≡ q ∷ next → Is (token.Sign sign.EQUALS) q → DerivesGuard next past x → past ≡ z ∷ rest → Is (token.Sign sign.SEMICOLON) z →
    (record { section = section.Ad; name = Some l.text; place = l.place; shape = x }, rest) ≡ p → DerivesItem section.Ad ts p.1 p.0
guard_is l q z ts m1 next past rest x p e1 k1 e2 k2 d e3 k3 r = let P : List Lexeme → Type 0 = λ y. DerivesGuard next y x in rw (← r, e1, e2) (guard l q z k1 k2 (subst P e3 d) k3)

must_is : (l z : Lexeme) (ts past rest : List Lexeme) (e : Tree) (p : Item × List Lexeme) → DerivesExpr (l ∷ ts) past e → past ≡ z ∷ rest → Is (token.Sign sign.SEMICOLON) z → (record { section = section.Must; name = None; place = l.place; shape = tree.Plain e }, rest) ≡ p →
    DerivesItem section.Must (l ∷ ts) p.1 p.0
must_is l z ts past rest e p d a k r = let P : List Lexeme → Type 0 = λ x. DerivesExpr (l ∷ ts) x e in rw (← r) (must l z (subst P a d) k)

named_formula_sound : (room : ℕ) (s : Section) (ts : List Lexeme) (p : Item × List Lexeme) → has_formulas s ≡ true → ((us : List Lexeme) → shape_at room s us ≡ formula_at room us) → named_at room s ts ≡ Ok p → DerivesItem s ts p.1 p.0
unfolding named_at formula_at
named_formula_sound room s ts p h f e =
    let l = expect_then token.Name ts _ p e in
    let q = expect_then (token.Sign sign.EQUALS) l.rest _ p l.next in
    let x = bind_ok (shape_at room s q.rest) _ p q.next in
    let z = expect_then (token.Sign sign.SEMICOLON) x.0.1 _ p x.2 in
    let y = bind_ok (expr_at room q.rest) _ x.0 (sym (f q.rest) ∙ x.1) in
    let same = ok_is (tree.Plain y.0.0, y.0.1) x.0 y.2 in
    formula_is s l.first q.first z.first ts l.rest q.rest y.0.1 z.rest y.0.0 p h l.is l.kind q.is q.kind (expr_sound room q.rest y.0 y.1) (ap (λ (v : Shape × List Lexeme). v.1) same ∙ z.is) z.kind
    (ap (λ (v : Shape × List Lexeme). (record { section = s; name = Some l.first.text; place = l.first.place; shape = v.0 }, z.rest)) same ∙ ok_is (record { section = s; name = Some l.first.text; place = l.first.place; shape = x.0.0 }, z.rest) p z.next)

named_choice_sound : (room : ℕ) (ts : List Lexeme) (p : Item × List Lexeme) → named_at room section.Da ts ≡ Ok p → DerivesItem section.Da ts p.1 p.0
unfolding named_at
named_choice_sound room ts p e =
    let l = expect_then token.Name ts _ p e in
    let q = expect_then (token.Sign sign.EQUALS) l.rest _ p l.next in
    let x = bind_ok (choice_at room q.rest) _ p q.next in
    let z = expect_then (token.Sign sign.SEMICOLON) x.0.1 _ p x.2 in
    choice_is l.first q.first z.first ts l.rest q.rest x.0.1 z.rest x.0.0 p l.is l.kind q.is q.kind (choice_sound room q.rest x.0 x.1) z.is z.kind
    (ok_is (record { section = section.Da; name = Some l.first.text; place = l.first.place; shape = x.0.0 }, z.rest) p z.next)

named_guard_sound : (room : ℕ) (ts : List Lexeme) (p : Item × List Lexeme) → named_at room section.Ad ts ≡ Ok p → DerivesItem section.Ad ts p.1 p.0
unfolding named_at
named_guard_sound room ts p e =
    let l = expect_then token.Name ts _ p e in
    let q = expect_then (token.Sign sign.EQUALS) l.rest _ p l.next in
    let x = bind_ok (guard_at room q.rest) _ p q.next in
    let z = expect_then (token.Sign sign.SEMICOLON) x.0.1 _ p x.2 in
    guard_is l.first q.first z.first ts l.rest q.rest x.0.1 z.rest x.0.0 p l.is l.kind q.is q.kind (guard_sound room q.rest x.0 x.1) z.is z.kind
    (ok_is (record { section = section.Ad; name = Some l.first.text; place = l.first.place; shape = x.0.0 }, z.rest) p z.next)

must_sound : (room : ℕ) (ts : List Lexeme) (p : Item × List Lexeme) → must_at room ts ≡ Ok p → DerivesItem section.Must ts p.1 p.0
unfolding must_at
must_sound room [] p e = absurd cc
must_sound room (l ∷ ts) p e =
    let x = bind_ok (expr_at room (l ∷ ts)) _ p e in
    let z = expect_then (token.Sign sign.SEMICOLON) x.0.1 _ p x.2 in
    must_is l z.first ts x.0.1 z.rest x.0.0 p (expr_sound room (l ∷ ts) x.0 x.1) z.is z.kind (ok_is (record { section = section.Must; name = None; place = l.place; shape = tree.Plain x.0.0 }, z.rest) p z.next)

item_sound : (room : ℕ) (s : Section) (ts : List Lexeme) (p : Item × List Lexeme) → declares s ≡ false → item_at room s ts ≡ Ok p → DerivesItem s ts p.1 p.0
item_sound room section.Must ts p h e = must_sound room ts p e
item_sound room section.Da ts p h e = named_choice_sound room ts p e
item_sound room section.Ad ts p h e = named_guard_sound room ts p e
item_sound room section.Logic ts p h e = named_formula_sound room section.Logic ts p refl (λ us. refl) e
item_sound room section.Linear ts p h e = named_formula_sound room section.Linear ts p refl (λ us. refl) e
item_sound room section.Automata ts p h e = named_formula_sound room section.Automata ts p refl (λ us. refl) e
item_sound room section.Continuous ts p h e = named_formula_sound room section.Continuous ts p refl (λ us. refl) e
item_sound room section.OutputItem ts p h e = named_formula_sound room section.OutputItem ts p refl (λ us. refl) e
item_sound room _ ts p h e = absurd cc

-- Items up to a brace: p.1 is what stands behind the brace.
abbrev pub BehindItems : Section → List Item → List Lexeme → List Item × List Lexeme → Type 0
BehindItems s before ts p = (more : List Item) × (z : Lexeme) × (p.0 ≡ before ++ more) × Is (token.Sign sign.CLOSE_BRACE) z × DerivesItems s ts (z ∷ p.1) more

no_item_is : (s : Section) (before : List Item) (ts rest : List Lexeme) (z : Lexeme) (x : List Item × Bool × List Lexeme) (p : List Item × List Lexeme) → ts ≡ z ∷ rest → Is (token.Sign sign.CLOSE_BRACE) z → (before, false, rest) ≡ x → (x.0, x.2) ≡ p → BehindItems s before ts p
no_item_is s before ts rest z x p a i e f = rw (← f, ← e, a) ([], z, sym (append-nil before), i, no_items)

pub items_sound : (room : ℕ) (s : Section) → declares s ≡ false → (fuel : ℕ) (before : List Item) (ts : List Lexeme) (p : List Item × List Lexeme) → turns (item_turn room s) fuel before ts ≡ Ok p → BehindItems s before ts p
unfolding turns item_turn
items_sound room s h zero before ts p e = absurd cc
items_sound room s h (suc fuel) before ts p e =
    let t = bind_ok (item_turn room s before ts) _ p e in
    elim (choose_is (after (token.Sign sign.CLOSE_BRACE) ts) _ _ _ t.1) [
      | inl w ↦
          let i = bind_ok (item_at room s ts) _ t.0 w.1 in
          let x = ok_is (before ++ i.0.0 ∷ [], true, i.0.1) t.0 i.2 in
          let later = items_sound room s h fuel t.0.0 t.0.2 p (if_true t.0.1 _ _ _ (sym (ap (λ (y : List Item × Bool × List Lexeme). y.1) x)) t.2) in
          let P : List Lexeme → Type 0 = λ y. DerivesItem s ts y i.0.0 in
          let here : DerivesItem s ts t.0.2 i.0.0 = subst P (ap (λ (y : List Item × Bool × List Lexeme). y.2) x) (item_sound room s ts i.0 h i.1) in
          (i.0.0 ∷ later.0, later.1, put_before before (i.0.0 ∷ []) later.0 p.0 t.0.0 (sym (ap (λ (y : List Item × Bool × List Lexeme). y.0) x)) later.2, later.3, item here later.4)
      | inr w ↦
          let z = after_then (token.Sign sign.CLOSE_BRACE) ts w.0 w.1 in
          let x = ok_is (before, false, w.0) t.0 w.2 in
          no_item_is s before ts w.0 z.0 t.0 p z.1 z.2 x (ok_is (t.0.0, t.0.2) p (if_false t.0.1 _ _ _ (sym (ap (λ (y : List Item × Bool × List Lexeme). y.1) x)) t.2))
    ]
