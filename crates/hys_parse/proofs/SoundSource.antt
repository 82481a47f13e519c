-- What is read is derived: sections and sources.
use Rattle.std.proofs.Common.{◌≡◌, ℕ, zero, suc, Bool, true, false, eqb, List, [], ◌∷◌, ◌++◌, length, Some, Ok, ◌⊎◌, inl, inr, refl, sym, ap, subst, ◌∙◌}
use Rattle.std.proofs.lemmas.List.{append-nil}
use Rattle.std.proofs.lemmas.Bool.{eqb-true}
use Rattle.hys_lex.specs.declared.token.TokenKind.{TokenKind}
use Rattle.hys_lex.specs.declared.token.TokenKind.TheVariants as token
use Rattle.hys_lex.specs.declared.sign.TheConstants as sign
use Rattle.hys_lex.specs.declared.keyword.TheConstants as keyword
use Rattle.hys_ast.specs.declared.lexeme.Lexeme.{Lexeme}
use Rattle.hys_ast.specs.declared.source.Section.{Section}
use Rattle.hys_ast.specs.declared.source.Section.TheVariants as section
use Rattle.hys_ast.specs.Grammar.{Is, DerivesDecls, DerivesItems, among, interface_section, item_section, DerivesInterface, no_block, block, DerivesImplementation, no_sections, aux, items, DerivesSource, source}
use Rattle.hys_ast.specs.Tree.{Decl, Item, Source}
use Rattle.hys_parse.specs.declared.draft.Part.{Part}
use Rattle.hys_parse.specs.declared.draft.Part.TheVariants as part
use Rattle.hys_parse.specs.Sections.{turns, all_turns, line_turn, item_turn, Draft, declares, decls_at, items_at, block_at, implementation_section, section_in, section_at, section_turn, part_at, source_at}
use Rattle.hys_parse.proofs.Steps.{bind_ok, ok_is, choose_is, cond_is, if_true, if_false, expect_then}
use Rattle.hys_parse.proofs.SoundParts.{decls_sound, items_sound, put_before}
use Rattle.hys_parse.proofs.CompleteSource.{after_section, interface_declares, item_declares_not}

-- A section in braces, as it is derived.
record Block (s : Section) (d : Draft) (ts : List Lexeme) (x : Draft × List Lexeme) : Type 0 where
  opening : Lexeme
  closing : Lexeme
  next : List Lexeme
  decls : List Decl
  items : List Item
  is : ts ≡ opening ∷ next
  begins : Is (token.Sign sign.OPEN_BRACE) opening
  ends : Is (token.Sign sign.CLOSE_BRACE) closing
  draft : x.0 ≡ after_section s d decls items
  here : ((declares s ≡ true) × (items ≡ []) × DerivesDecls s next (closing ∷ x.1) decls) ⊎ ((declares s ≡ false) × (decls ≡ []) × DerivesItems s next (closing ∷ x.1) items)

decl_block_is : (s : Section) (d : Draft) (o z : Lexeme) (ts next past rest : List Lexeme) (whole ds : List Decl) (x : Draft × List Lexeme) → declares s ≡ true → ts ≡ o ∷ next → Is (token.Sign sign.OPEN_BRACE) o → whole ≡ d.decls ++ ds → DerivesDecls s next past ds → past ≡ z ∷ rest →
    Is (token.Sign sign.CLOSE_BRACE) z → (record { seen = d.seen ++ s ∷ []; decls = whole; items = d.items }, rest) ≡ x → Block s d ts x
decl_block_is s d o z ts next past rest whole ds x h a i w here b j e =
    let P : List Lexeme → Type 0 = λ y. DerivesDecls s next y ds in
    let same : (record { seen = d.seen ++ s ∷ []; decls = whole; items = d.items }) ≡ after_section s d ds [] =
    ap (λ (y : List Decl). (record { seen = d.seen ++ s ∷ []; decls = y; items = d.items })) w ∙ ap (λ (y : List Item). (record { seen = d.seen ++ s ∷ []; decls = d.decls ++ ds; items = y })) (sym (append-nil d.items)) in
    rw (← e) (record { opening = o; closing = z; next = next; decls = ds; items = []; is = a; begins = i; ends = j; draft = same; here = inl (h, refl, subst P b here) })

item_block_is : (s : Section) (d : Draft) (o z : Lexeme) (ts next rest : List Lexeme) (whole is : List Item) (x : Draft × List Lexeme) → declares s ≡ false → ts ≡ o ∷ next → Is (token.Sign sign.OPEN_BRACE) o → whole ≡ d.items ++ is → DerivesItems s next (z ∷ rest) is →
    Is (token.Sign sign.CLOSE_BRACE) z → (record { seen = d.seen ++ s ∷ []; decls = d.decls; items = whole }, rest) ≡ x → Block s d ts x
item_block_is s d o z ts next rest whole is x h a i w here j e =
    let same : (record { seen = d.seen ++ s ∷ []; decls = d.decls; items = whole }) ≡ after_section s d [] is =
    ap (λ (y : List Item). (record { seen = d.seen ++ s ∷ []; decls = d.decls; items = y })) w ∙ ap (λ (y : List Decl). (record { seen = d.seen ++ s ∷ []; decls = y; items = d.items ++ is })) (sym (append-nil d.decls)) in
    rw (← e) (record { opening = o; closing = z; next = next; decls = []; items = is; is = a; begins = i; ends = j; draft = same; here = inr (h, refl, here) })

decl_block_sound : (room : ℕ) (s : Section) (d : Draft) (o : Lexeme) (ts next : List Lexeme) (x : Draft × List Lexeme) → declares s ≡ true → ts ≡ o ∷ next → Is (token.Sign sign.OPEN_BRACE) o → decls_at room s d next ≡ Ok x → Block s d ts x
unfolding decls_at all_turns
decl_block_sound room s d o ts next x h a i e =
    let n = bind_ok (turns (line_turn room s) (suc (length next)) d.decls next) _ x e in
    let here = decls_sound room s (suc (length next)) d.decls next n.0 n.1 in
    let z = expect_then (token.Sign sign.CLOSE_BRACE) n.0.1 _ x n.2 in
    decl_block_is s d o z.first ts next n.0.1 z.rest n.0.0 here.0 x h a i here.1 here.2 z.is z.kind (ok_is (record { seen = d.seen ++ s ∷ []; decls = n.0.0; items = d.items }, z.rest) x z.next)

item_block_sound : (room : ℕ) (s : Section) (d : Draft) (o : Lexeme) (ts next : List Lexeme) (x : Draft × List Lexeme) → declares s ≡ false → ts ≡ o ∷ next → Is (token.Sign sign.OPEN_BRACE) o → items_at room s d next ≡ Ok x → Block s d ts x
unfolding items_at all_turns
item_block_sound room s d o ts next x h a i e =
    let n = bind_ok (turns (item_turn room s) (suc (length next)) d.items next) _ x e in
    let here = items_sound room s h (suc (length next)) d.items next n.0 n.1 in
    item_block_is s d o here.1 ts next n.0.1 n.0.0 here.0 x h a i here.2 here.4 here.3 (ok_is (record { seen = d.seen ++ s ∷ []; decls = d.decls; items = n.0.0 }, n.0.1) x n.2)

block_sound : (room : ℕ) (s : Section) (d : Draft) (ts : List Lexeme) (x : Draft × List Lexeme) → block_at room s d ts ≡ Ok x → Block s d ts x
unfolding block_at
block_sound room s d ts x e =
    let o = expect_then (token.Sign sign.OPEN_BRACE) ts _ x e in
    elim (cond_is (declares s) _ _ _ o.next) [
      | inl w ↦ decl_block_sound room s d o.first ts o.rest x w.0 o.is o.kind w.1
      | inr w ↦ item_block_sound room s d o.first ts o.rest x w.0 o.is o.kind w.1
    ]

-- A turn: no section, or one more.
record Section_turn (p : Part) (d : Draft) (ts : List Lexeme) (x : Draft × Bool × List Lexeme) : Type 0 where
  section : Section
  first : Lexeme
  next : List Lexeme
  is : ts ≡ first ∷ next
  word : section_in p first.kind ≡ Some section
  fresh : among section d.seen ≡ false
  more : x.1 ≡ true
  block : Block section d next (x.0, x.2)

section_then : (p : Part) (ts : List Lexeme) (q : Section × List Lexeme) → section_at p ts ≡ Some q → (l : Lexeme) × (ts ≡ l ∷ q.1) × (section_in p l.kind ≡ Some q.0)
unfolding section_at
section_then p [] q e = absurd cc
section_then p (l ∷ ts) q e = elim (choose_is (section_in p l.kind) _ _ _ e) [
  | inl w ↦ absurd cc
  | inr w ↦ let r : (w.0, ts) ≡ q = cc in (l, ap (λ (x : Section × List Lexeme). l ∷ x.1) r, w.1 ∙ ap (λ (x : Section × List Lexeme). Some x.0) r)
]

turn_made : (p : Part) (d : Draft) (s : Section) (l : Lexeme) (ts next : List Lexeme) (r : Draft × List Lexeme) (x : Draft × Bool × List Lexeme) → ts ≡ l ∷ next → section_in p l.kind ≡ Some s → among s d.seen ≡ false → Block s d next r → (r.0, true, r.1) ≡ x → Section_turn p d ts x
turn_made p d s l ts next r x a w f b e = rw (← e) (record { section = s; first = l; next = next; is = a; word = w; fresh = f; more = refl; block = b })

turn_then : (room : ℕ) (p : Part) (d : Draft) (ts : List Lexeme) (x : Draft × Bool × List Lexeme) → section_turn room p d ts ≡ Ok x → ((d, false, ts) ≡ x) ⊎ Section_turn p d ts x
unfolding section_turn
turn_then room p d ts x e = elim (choose_is (section_at p ts) _ _ _ e) [
  | inl w ↦ inl (ok_is (d, false, ts) x w.1)
  | inr w ↦ elim (cond_is (among w.0.0 d.seen) _ _ _ w.2) [
    | inl v ↦ absurd cc
    | inr v ↦
        let l = section_then p ts w.0 w.1 in
        let r = bind_ok (block_at room w.0.0 d w.0.1) _ x v.1 in
        inr (turn_made p d w.0.0 l.0 ts w.0.1 r.0 x l.1 l.2 v.0 (block_sound room w.0.0 d w.0.1 r.0 r.1) (ok_is (r.0.0, true, r.0.1) x r.2))
  ]
]

-- What turns read of the INTERFACE.
record Interface (d : Draft) (ts : List Lexeme) (p : Draft × List Lexeme) : Type 0 where
  more : List Decl
  decls : p.0.decls ≡ d.decls ++ more
  derived : DerivesInterface d.seen ts p.1 more

record Implementation (d : Draft) (ts : List Lexeme) (p : Draft × List Lexeme) : Type 0 where
  decls : List Decl
  items : List Item
  all_decls : p.0.decls ≡ d.decls ++ decls
  all_items : p.0.items ≡ d.items ++ items
  derived : DerivesImplementation d.seen ts p.1 decls items

interface_ends : (d : Draft) (ts : List Lexeme) (x : Draft × Bool × List Lexeme) (p : Draft × List Lexeme) → (d, false, ts) ≡ x → (x.0, x.2) ≡ p → Interface d ts p
interface_ends d ts x p e f = rw (← f, ← e) (record { more = []; decls = sym (append-nil d.decls); derived = no_block })

implementation_ends : (d : Draft) (ts : List Lexeme) (x : Draft × Bool × List Lexeme) (p : Draft × List Lexeme) → (d, false, ts) ≡ x → (x.0, x.2) ≡ p → Implementation d ts p
implementation_ends d ts x p e f = rw (← f, ← e) (record { decls = []; items = []; all_decls = sym (append-nil d.decls); all_items = sym (append-nil d.items); derived = no_sections })

block_is : (s : Section) (seen before : List Section) (l o z : Lexeme) (ts m1 next more rest : List Lexeme) (ds es : List Decl) → ts ≡ l ∷ m1 → interface_section l.kind ≡ Some s → among s seen ≡ false → m1 ≡ o ∷ next → Is (token.Sign sign.OPEN_BRACE) o → DerivesDecls s next (z ∷ more) ds → Is (token.Sign sign.CLOSE_BRACE) z →
    before ≡ seen ++ s ∷ [] → DerivesInterface before more rest es → DerivesInterface seen ts rest (ds ++ es)
block_is s seen before l o z ts m1 next more rest ds es a w f b i d j e later = let P : List Section → Type 0 = λ x. DerivesInterface x more rest es in rw (a, b) (block l o z w f i d j (subst P e later))

aux_is : (seen before : List Section) (l o z : Lexeme) (ts m1 next more rest : List Lexeme) (ds es : List Decl) (is : List Item) → ts ≡ l ∷ m1 → Is (token.Keyword keyword.AUX) l → among section.Aux seen ≡ false → m1 ≡ o ∷ next → Is (token.Sign sign.OPEN_BRACE) o → DerivesDecls section.Aux next (z ∷ more) ds →
    Is (token.Sign sign.CLOSE_BRACE) z → before ≡ seen ++ section.Aux ∷ [] → DerivesImplementation before more rest es is → DerivesImplementation seen ts rest (ds ++ es) is
aux_is seen before l o z ts m1 next more rest ds es is a w f b i d j e later = let P : List Section → Type 0 = λ x. DerivesImplementation x more rest es is in rw (a, b) (aux l o z w f i d j (subst P e later))

items_is : (s : Section) (seen before : List Section) (l o z : Lexeme) (ts m1 next more rest : List Lexeme) (ds : List Decl) (is js : List Item) → ts ≡ l ∷ m1 → item_section l.kind ≡ Some s → among s seen ≡ false → m1 ≡ o ∷ next → Is (token.Sign sign.OPEN_BRACE) o → DerivesItems s next (z ∷ more) is →
    Is (token.Sign sign.CLOSE_BRACE) z → before ≡ seen ++ s ∷ [] → DerivesImplementation before more rest ds js → DerivesImplementation seen ts rest ds (is ++ js)
items_is s seen before l o z ts m1 next more rest ds is js a w f b i d j e later = let P : List Section → Type 0 = λ x. DerivesImplementation x more rest ds js in rw (a, b) (items l o z w f i d j (subst P e later))

contrary : (b : Bool) → b ≡ true → b ≡ false → ⊥
contrary b e f = absurd cc

interface_joins : (d : Draft) (ts : List Lexeme) (x : Draft × Bool × List Lexeme) (p : Draft × List Lexeme) → Section_turn part.Interface d ts x → Interface x.0 x.2 p → Interface d ts p
interface_joins d ts x p t later = elim t.block.here [
  | inl w ↦ record {
    more = t.block.decls ++ later.more;
    decls = put_before d.decls t.block.decls later.more p.0.decls x.0.decls (ap (λ (y : Draft). y.decls) t.block.draft) later.decls;
    derived = block_is t.section d.seen x.0.seen t.first t.block.opening t.block.closing ts t.next t.block.next x.2 p.1 t.block.decls later.more t.is t.word t.fresh t.block.is t.block.begins w.2 t.block.ends
        (ap (λ (y : Draft). y.seen) t.block.draft) later.derived;
  }
  | inr w ↦ absurd (contrary (declares t.section) (interface_declares t.first.kind t.section t.word) w.0)
]

interface_sound : (room : ℕ) (fuel : ℕ) (d : Draft) (ts : List Lexeme) (p : Draft × List Lexeme) → turns (section_turn room part.Interface) fuel d ts ≡ Ok p → Interface d ts p
unfolding turns
interface_sound room zero d ts p e = absurd cc
interface_sound room (suc fuel) d ts p e =
    let t = bind_ok (section_turn room part.Interface d ts) _ p e in
    elim (turn_then room part.Interface d ts t.0 t.1) [
      | inl w ↦ interface_ends d ts t.0 p w (ok_is (t.0.0, t.0.2) p (if_false t.0.1 _ _ _ (sym (ap (λ (y : Draft × Bool × List Lexeme). y.1) w)) t.2))
      | inr w ↦ interface_joins d ts t.0 p w (interface_sound room fuel t.0.0 t.0.2 p (if_true t.0.1 _ _ _ w.more t.2))
    ]

pub implementation_then : (k : TokenKind) (s : Section) → implementation_section k ≡ Some s → ((k ≡ token.Keyword keyword.AUX) × (s ≡ section.Aux)) ⊎ (item_section k ≡ Some s)
implementation_then token.Name s e = absurd cc
implementation_then token.Literal s e = absurd cc
implementation_then (token.Keyword k) s e = elim (cond_is (eqb k keyword.AUX) _ _ _ e) [
  | inl w ↦ let same : section.Aux ≡ s = cc in inl (ap token.Keyword (eqb-true k keyword.AUX w.0), sym same)
  | inr w ↦ inr w.1
]
implementation_then (token.Sign n) s e = absurd cc

aux_joins : (d : Draft) (ts : List Lexeme) (x : Draft × Bool × List Lexeme) (p : Draft × List Lexeme) (s : Section) (l : Lexeme) (m1 : List Lexeme) → ts ≡ l ∷ m1 → Is (token.Keyword keyword.AUX) l → s ≡ section.Aux → among s d.seen ≡ false → Block s d m1 (x.0, x.2) → Implementation x.0 x.2 p → Implementation d ts p
aux_joins d ts x p section.Aux l m1 a i e f b later = elim b.here [
  | inl w ↦ record {
    decls = b.decls ++ later.decls;
    items = later.items;
    all_decls = put_before d.decls b.decls later.decls p.0.decls x.0.decls (ap (λ (y : Draft). y.decls) b.draft) later.all_decls;
    all_items = later.all_items ∙ ap (λ (y : List Item). y ++ later.items) (ap (λ (y : Draft). y.items) b.draft ∙ ap (λ (y : List Item). d.items ++ y) w.1 ∙ append-nil d.items);
    derived = aux_is d.seen x.0.seen l b.opening b.closing ts m1 b.next x.2 p.1 b.decls later.decls later.items a i f b.is b.begins w.2 b.ends (ap (λ (y : Draft). y.seen) b.draft) later.derived;
  }
  | inr w ↦ absurd (contrary (declares section.Aux) refl w.0)
]
aux_joins d ts x p _ l m1 a i e f b later = absurd cc

items_join : (d : Draft) (ts : List Lexeme) (x : Draft × Bool × List Lexeme) (p : Draft × List Lexeme) (s : Section) (l : Lexeme) (m1 : List Lexeme) → ts ≡ l ∷ m1 → item_section l.kind ≡ Some s → among s d.seen ≡ false → Block s d m1 (x.0, x.2) → Implementation x.0 x.2 p → Implementation d ts p
items_join d ts x p s l m1 a i f b later = elim b.here [
  | inl w ↦ absurd (contrary (declares s) w.0 (item_declares_not l.kind s i))
  | inr w ↦ record {
    decls = later.decls;
    items = b.items ++ later.items;
    all_decls = later.all_decls ∙ ap (λ (y : List Decl). y ++ later.decls) (ap (λ (y : Draft). y.decls) b.draft ∙ ap (λ (y : List Decl). d.decls ++ y) w.1 ∙ append-nil d.decls);
    all_items = put_before d.items b.items later.items p.0.items x.0.items (ap (λ (y : Draft). y.items) b.draft) later.all_items;
    derived = items_is s d.seen x.0.seen l b.opening b.closing ts m1 b.next x.2 p.1 later.decls b.items later.items a i f b.is b.begins w.2 b.ends (ap (λ (y : Draft). y.seen) b.draft) later.derived;
  }
]

implementation_joins : (d : Draft) (ts : List Lexeme) (x : Draft × Bool × List Lexeme) (p : Draft × List Lexeme) → Section_turn part.Implementation d ts x → Implementation x.0 x.2 p → Implementation d ts p
implementation_joins d ts x p t later = elim (implementation_then t.first.kind t.section t.word) [
  | inl w ↦ aux_joins d ts x p t.section t.first t.next t.is w.0 w.1 t.fresh t.block later
  | inr w ↦ items_join d ts x p t.section t.first t.next t.is w t.fresh t.block later
]

implementation_sound : (room : ℕ) (fuel : ℕ) (d : Draft) (ts : List Lexeme) (p : Draft × List Lexeme) → turns (section_turn room part.Implementation) fuel d ts ≡ Ok p → Implementation d ts p
unfolding turns
implementation_sound room zero d ts p e = absurd cc
implementation_sound room (suc fuel) d ts p e =
    let t = bind_ok (section_turn room part.Implementation d ts) _ p e in
    elim (turn_then room part.Implementation d ts t.0 t.1) [
      | inl w ↦ implementation_ends d ts t.0 p w (ok_is (t.0.0, t.0.2) p (if_false t.0.1 _ _ _ (sym (ap (λ (y : Draft × Bool × List Lexeme). y.1) w)) t.2))
      | inr w ↦ implementation_joins d ts t.0 p w (implementation_sound room fuel t.0.0 t.0.2 p (if_true t.0.1 _ _ _ w.more t.2))
    ]

-- A part with its braces, as it was read.
record PartRead (room : ℕ) (p : Part) (ds : List Decl) (ts : List Lexeme) (x : Draft × List Lexeme) : Type 0 where
  opening : Lexeme
  closing : Lexeme
  next : List Lexeme
  past : List Lexeme
  is : ts ≡ opening ∷ next
  begins : Is (token.Sign sign.OPEN_BRACE) opening
  read : turns (section_turn room p) (suc (length next)) (record { seen = []; decls = ds; items = [] }) next ≡ Ok (x.0, past)
  behind : past ≡ closing ∷ x.1
  ends : Is (token.Sign sign.CLOSE_BRACE) closing

part_made : (room : ℕ) (p : Part) (ds : List Decl) (o z : Lexeme) (ts next past rest : List Lexeme) (d : Draft) (x : Draft × List Lexeme) → ts ≡ o ∷ next → Is (token.Sign sign.OPEN_BRACE) o → turns (section_turn room p) (suc (length next)) (record { seen = []; decls = ds; items = [] }) next ≡ Ok (d, past) →
    past ≡ z ∷ rest → Is (token.Sign sign.CLOSE_BRACE) z → (d, rest) ≡ x → PartRead room p ds ts x
part_made room p ds o z ts next past rest d x a i r b j e = rw (← e) (record { opening = o; closing = z; next = next; past = past; is = a; begins = i; read = r; behind = b; ends = j })

part_then : (room : ℕ) (p : Part) (ds : List Decl) (ts : List Lexeme) (x : Draft × List Lexeme) → part_at room p ds ts ≡ Ok x → PartRead room p ds ts x
unfolding part_at all_turns
part_then room p ds ts x e =
    let o = expect_then (token.Sign sign.OPEN_BRACE) ts _ x e in
    let d = bind_ok (turns (section_turn room p) (suc (length o.rest)) (record { seen = []; decls = ds; items = [] }) o.rest) _ x o.next in
    let z = expect_then (token.Sign sign.CLOSE_BRACE) d.0.1 _ x d.2 in
    part_made room p ds o.first z.first ts o.rest d.0.1 z.rest d.0.0 x o.is o.kind d.1 z.is z.kind (ok_is (d.0.0, z.rest) x z.next)

interface_part : (b c : Lexeme) (ts next past rest : List Lexeme) (ds : List Decl) → past ≡ c ∷ rest → DerivesInterface [] next past ds → DerivesInterface [] next (c ∷ rest) ds
interface_part b c ts next past rest ds a d = let P : List Lexeme → Type 0 = λ x. DerivesInterface [] next x ds in subst P a d

implementation_part : (z : Lexeme) (next past rest : List Lexeme) (es : List Decl) (is : List Item) → past ≡ z ∷ rest → DerivesImplementation [] next past es is → DerivesImplementation [] next (z ∷ rest) es is
implementation_part z next past rest es is a d = let P : List Lexeme → Type 0 = λ x. DerivesImplementation [] next x es is in subst P a d

source_is : (a l o i b c m s z e : Lexeme) (ts t1 t2 t3 t4 inputs t5 t6 rules t7 rest : List Lexeme) (ds es all : List Decl) (is whole : List Item) (p : Source × List Lexeme) → ts ≡ a ∷ t1 → Is (token.Keyword keyword.SYSTEM) a → t1 ≡ l ∷ t2 → Is token.Name l → t2 ≡ o ∷ t3 → Is (token.Sign sign.OPEN_BRACE) o →
    t3 ≡ i ∷ t4 → Is (token.Keyword keyword.INTERFACE) i → t4 ≡ b ∷ inputs → Is (token.Sign sign.OPEN_BRACE) b → DerivesInterface [] inputs (c ∷ t5) ds → Is (token.Sign sign.CLOSE_BRACE) c → t5 ≡ m ∷ t6 → Is (token.Keyword keyword.IMPLEMENTATION) m → t6 ≡ s ∷ rules → Is (token.Sign sign.OPEN_BRACE) s →
    DerivesImplementation [] rules (z ∷ t7) es is → Is (token.Sign sign.CLOSE_BRACE) z → t7 ≡ e ∷ rest → Is (token.Sign sign.CLOSE_BRACE) e → all ≡ ds ++ es → whole ≡ is → (record { system = l.text; decls = all; items = whole }, rest) ≡ p → DerivesSource ts p.1 p.0
source_is a l o i b c m s z e ts t1 t2 t3 t4 inputs t5 t6 rules t7 rest ds es all is whole p e1 k1 e2 k2 e3 k3 e4 k4 e5 k5 d k6 e6 k7 e7 k8 f k9 e8 k10 h g q =
    let P : List Lexeme → Type 0 = λ x. DerivesInterface [] inputs (c ∷ x) ds in
    let Q : List Lexeme → Type 0 = λ x. DerivesImplementation [] rules (z ∷ x) es is in
    rw (← q, h, g, e1, e2, e3, e4, e5) (source a l o i b c m s z e k1 k2 k3 k4 k5 (subst P (e6 ∙ ap (λ x. m ∷ x) e7) d) k6 k7 k8 (subst Q e8 f) k9 k10)

pub source_sound : (room : ℕ) (ts : List Lexeme) (p : Source × List Lexeme) → source_at room ts ≡ Ok p → DerivesSource ts p.1 p.0
unfolding source_at
source_sound room ts p w =
    let a = expect_then (token.Keyword keyword.SYSTEM) ts _ p w in
    let l = expect_then token.Name a.rest _ p a.next in
    let o = expect_then (token.Sign sign.OPEN_BRACE) l.rest _ p l.next in
    let i = expect_then (token.Keyword keyword.INTERFACE) o.rest _ p o.next in
    let x = bind_ok (part_at room part.Interface [] i.rest) _ p i.next in
    let m = expect_then (token.Keyword keyword.IMPLEMENTATION) x.0.1 _ p x.2 in
    let y = bind_ok (part_at room part.Implementation x.0.0.decls m.rest) _ p m.next in
    let e = expect_then (token.Sign sign.CLOSE_BRACE) y.0.1 _ p y.2 in
    let one = part_then room part.Interface [] i.rest x.0 x.1 in
    let two = part_then room part.Implementation x.0.0.decls m.rest y.0 y.1 in
    let d = interface_sound room (suc (length one.next)) (record { seen = []; decls = []; items = [] }) one.next (x.0.0, one.past) one.read in
    let f = implementation_sound room (suc (length two.next)) (record { seen = []; decls = x.0.0.decls; items = [] }) two.next (y.0.0, two.past) two.read in
    source_is a.first l.first o.first i.first one.opening one.closing m.first two.opening two.closing e.first ts a.rest l.rest o.rest i.rest one.next x.0.1 m.rest two.next y.0.1 e.rest d.more f.decls y.0.0.decls f.items y.0.0.items p
    a.is a.kind l.is l.kind o.is o.kind i.is i.kind one.is one.begins (interface_part one.opening one.closing i.rest one.next one.past x.0.1 d.more one.behind d.derived) one.ends m.is m.kind two.is two.begins
    (implementation_part two.closing two.next two.past y.0.1 f.decls f.items two.behind f.derived) two.ends e.is e.kind (f.all_decls ∙ ap (λ (v : List Decl). v ++ f.decls) d.decls) f.all_items
    (ok_is (record { system = l.first.text; decls = y.0.0.decls; items = y.0.0.items }, e.rest) p e.next)
