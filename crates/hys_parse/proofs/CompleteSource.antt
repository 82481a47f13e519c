-- What is derived is read: sections and sources.
use Rattle.std.proofs.Common.{◌≡◌, ℕ, suc, ◌<◌, ◌≤◌, Bool, true, false, eqb, cond, List, [], ◌∷◌, ◌++◌, length, Option, Some, None, Ok, refl, sym, ap, ◌∙◌, arith, append_assoc}
use Rattle.std.proofs.lemmas.List.{append-nil}
use Rattle.std.proofs.lemmas.Bool.{eqb-true}
use Rattle.hys_lex.specs.declared.token.TokenKind.{TokenKind}
use Rattle.hys_lex.specs.declared.token.TokenKind.TheVariants as token
use Rattle.hys_lex.specs.declared.sign.TheConstants as sign
use Rattle.hys_lex.specs.declared.keyword.TheConstants as keyword
use Rattle.hys_ast.specs.declared.lexeme.Lexeme.{Lexeme}
use Rattle.hys_ast.specs.declared.source.Section.{Section}
use Rattle.hys_ast.specs.declared.source.Section.TheVariants as section
use Rattle.hys_ast.specs.Grammar.{Is, DerivesDecls, DerivesItems, among, interface_section, interface_word, item_section, item_word, DerivesInterface, no_block, block, DerivesImplementation, no_sections, aux, items, DerivesSource, source}
use Rattle.hys_ast.specs.Tree.{Decl, Item, Source}
use Rattle.hys_parse.specs.declared.draft.Part.{Part}
use Rattle.hys_parse.specs.declared.draft.Part.TheVariants as part
use Rattle.hys_parse.specs.Sections.{turns, all_turns, line_turn, item_turn, Draft, declares, decls_at, items_at, block_at, implementation_section, section_in, section_at, section_turn, part_at, source_at}
use Rattle.hys_parse.proofs.Steps.{expect_is}
use Rattle.hys_parse.proofs.Turns.{first_turn, last_turn}
use Rattle.hys_parse.proofs.CompleteParts.{decls_complete, decls_shrink, items_complete, items_shrink, kind_at_not}

abbrev pub after_section : Section → Draft → List Decl → List Item → Draft
after_section s d ds is = record { seen = d.seen ++ s ∷ []; decls = d.decls ++ ds; items = d.items ++ is }

all_decls : (room : ℕ) (s : Section) (ts rest : List Lexeme) (ds before : List Decl) (z : Lexeme) → DerivesDecls s ts (z ∷ rest) ds → Is (token.Sign sign.CLOSE_BRACE) z → length ts ≤ room → all_turns (line_turn room s) before ts ≡ Ok (before ++ ds, z ∷ rest)
unfolding all_turns
all_decls room s ts rest ds before z d i fits = decls_complete room s ts (z ∷ rest) ds d (kind_at_not z rest i) fits before (suc (length ts)) (omega arith)

all_items : (room : ℕ) (s : Section) (ts rest : List Lexeme) (is before : List Item) (z : Lexeme) → DerivesItems s ts (z ∷ rest) is → Is (token.Sign sign.CLOSE_BRACE) z → length ts ≤ room → all_turns (item_turn room s) before ts ≡ Ok (before ++ is, rest)
unfolding all_turns
all_items room s ts rest is before z d i fits = items_complete room s ts (z ∷ rest) is d z rest refl i fits before (suc (length ts)) (omega arith)

decl_block : (room : ℕ) (s : Section) (d : Draft) (o z : Lexeme) (next rest : List Lexeme) (ds : List Decl) → declares s ≡ true → Is (token.Sign sign.OPEN_BRACE) o → all_turns (line_turn room s) d.decls next ≡ Ok (d.decls ++ ds, z ∷ rest) → Is (token.Sign sign.CLOSE_BRACE) z →
    block_at room s d (o ∷ next) ≡ Ok (after_section s d ds [], rest)
unfolding block_at decls_at
decl_block room s d o z next rest ds h i r j =
    rw (expect_is (token.Sign sign.OPEN_BRACE) o next i, h, r, expect_is (token.Sign sign.CLOSE_BRACE) z rest j) (ap (λ (x : List Item). Ok (record { seen = d.seen ++ s ∷ []; decls = d.decls ++ ds; items = x }, rest)) (sym (append-nil d.items)))

item_block : (room : ℕ) (s : Section) (d : Draft) (o : Lexeme) (next rest : List Lexeme) (is : List Item) → declares s ≡ false → Is (token.Sign sign.OPEN_BRACE) o → all_turns (item_turn room s) d.items next ≡ Ok (d.items ++ is, rest) →
    block_at room s d (o ∷ next) ≡ Ok (after_section s d [] is, rest)
unfolding block_at items_at
item_block room s d o next rest is h i r =
    rw (expect_is (token.Sign sign.OPEN_BRACE) o next i, h, r) (ap (λ (x : List Decl). Ok (record { seen = d.seen ++ s ∷ []; decls = x; items = d.items ++ is }, rest)) (sym (append-nil d.decls)))

section_reads : (room : ℕ) (p : Part) (s : Section) (d e : Draft) (l : Lexeme) (next more : List Lexeme) → section_in p l.kind ≡ Some s → among s d.seen ≡ false → block_at room s d next ≡ Ok (e, more) → section_turn room p d (l ∷ next) ≡ Ok (e, true, more)
unfolding section_turn section_at
section_reads room p s d e l next more k a b = rw (k, a, b) refl

no_section : (room : ℕ) (p : Part) (d : Draft) (ts : List Lexeme) → section_at p ts ≡ None → section_turn room p d ts ≡ Ok (d, false, ts)
unfolding section_turn
no_section room p d ts n = rw n refl

cond_all : {A : Type 0} (P : A → Type 0) (b : Bool) (x y : A) → P x → P y → P (cond b x y)
cond_all P true x y p q = p
cond_all P false x y p q = q

abbrev Tells : Bool → Option Section → Type 0
Tells b None = Unit {0}
Tells b (Some s) = declares s ≡ b

interface_tells : (k : ℕ) → Tells true (interface_word k)
interface_tells k = cond_all (Tells true) (eqb k keyword.STATE) _ _ refl (cond_all (Tells true) (eqb k keyword.INPUT) _ _ refl (cond_all (Tells true) (eqb k keyword.OUTPUT) _ _ refl (cond_all (Tells true) (eqb k keyword.PARAMETER) _ _ refl tt)))

item_tells : (k : ℕ) → Tells false (item_word k)
item_tells k =
    cond_all (Tells false) (eqb k keyword.AD) _ _ refl (cond_all (Tells false) (eqb k keyword.DA) _ _ refl (cond_all (Tells false) (eqb k keyword.LOGIC) _ _ refl (cond_all (Tells false) (eqb k keyword.LINEAR) _ _ refl
    (cond_all (Tells false) (eqb k keyword.AUTOMATA) _ _ refl (cond_all (Tells false) (eqb k keyword.CONTINUOUS) _ _ refl (cond_all (Tells false) (eqb k keyword.OUTPUT) _ _ refl (cond_all (Tells false) (eqb k keyword.MUST) _ _ refl tt)))))))

told : (b : Bool) (o : Option Section) (s : Section) → Tells b o → o ≡ Some s → declares s ≡ b
told b None s t e = absurd cc
told b (Some r) s t e = let same : r ≡ s = cc in rw (← same) t

pub interface_declares : (k : TokenKind) (s : Section) → interface_section k ≡ Some s → declares s ≡ true
interface_declares token.Name s e = absurd cc
interface_declares token.Literal s e = absurd cc
interface_declares (token.Keyword k) s e = told true (interface_word k) s (interface_tells k) e
interface_declares (token.Sign n) s e = absurd cc

pub item_declares_not : (k : TokenKind) (s : Section) → item_section k ≡ Some s → declares s ≡ false
item_declares_not token.Name s e = absurd cc
item_declares_not token.Literal s e = absurd cc
item_declares_not (token.Keyword k) s e = told false (item_word k) s (item_tells k) e
item_declares_not (token.Sign n) s e = absurd cc

not_aux : (k : ℕ) (s : Section) → item_word k ≡ Some s → eqb k keyword.AUX ≡ false
not_aux k s e = go (eqb k keyword.AUX) refl
  where
    go : (b : Bool) → eqb k keyword.AUX ≡ b → b ≡ false
    go true h = let bad : item_word keyword.AUX ≡ Some s = ap item_word (sym (eqb-true k keyword.AUX h)) ∙ e in absurd cc
    go false h = refl

item_in : (k : TokenKind) (s : Section) → item_section k ≡ Some s → implementation_section k ≡ Some s
item_in token.Name s e = absurd cc
item_in token.Literal s e = absurd cc
item_in (token.Keyword k) s e = rw (not_aux k s e) e
item_in (token.Sign n) s e = absurd cc

aux_in : (l : Lexeme) → Is (token.Keyword keyword.AUX) l → section_in part.Implementation l.kind ≡ Some section.Aux
aux_in l i = rw i refl

not_section : (p : Part) (l : Lexeme) (ts : List Lexeme) → Is (token.Sign sign.CLOSE_BRACE) l → section_at p (l ∷ ts) ≡ None
unfolding section_at
not_section part.Interface l ts i = rw i refl
not_section part.Implementation l ts i = rw i refl

-- What is read of a part's sections: the declarations and items behind those of before.
record Parts (room : ℕ) (p : Part) (d : Draft) (ts rest : List Lexeme) (ds : List Decl) (is : List Item) : Type 0 where
  seen : List Section
  reads : (fuel : ℕ) → length ts < fuel → turns (section_turn room p) fuel d ts ≡ Ok (record { seen = seen; decls = d.decls ++ ds; items = d.items ++ is }, rest)

ends : (room : ℕ) (p : Part) (d : Draft) (ts : List Lexeme) → section_at p ts ≡ None → Parts room p d ts ts [] []
ends room p d ts n = record {
  seen = d.seen;
  reads = λ fuel enough. last_turn (section_turn room p) fuel d d ts ts (no_section room p d ts n) (omega arith)
      ∙ ap (λ (x : List Decl). Ok (record { seen = d.seen; decls = x; items = d.items }, ts)) (sym (append-nil d.decls))
      ∙ ap (λ (x : List Item). Ok (record { seen = d.seen; decls = d.decls ++ []; items = x }, ts)) (sym (append-nil d.items));
}

joins : (room : ℕ) (p : Part) (s : Section) (d : Draft) (ts more rest : List Lexeme) (ds es : List Decl) (is js : List Item) → section_turn room p d ts ≡ Ok (after_section s d ds is, true, more) → length more < length ts →
    Parts room p (after_section s d ds is) more rest es js → Parts room p d ts rest (ds ++ es) (is ++ js)
joins room p s d ts more rest ds es is js t less parts = record {
  seen = parts.seen;
  reads = λ fuel enough. first_turn (section_turn room p) fuel d (after_section s d ds is) ts more (Ok (record { seen = parts.seen; decls = d.decls ++ (ds ++ es); items = d.items ++ (is ++ js) }, rest)) t enough less
      (λ left wide. parts.reads left wide
      ∙ ap (λ (x : List Decl). Ok (record { seen = parts.seen; decls = x; items = (d.items ++ is) ++ js }, rest)) (append_assoc d.decls ds es)
      ∙ ap (λ (x : List Item). Ok (record { seen = parts.seen; decls = d.decls ++ (ds ++ es); items = x }, rest)) (append_assoc d.items is js));
}

interface_complete : (room : ℕ) (seen : List Section) (ts rest : List Lexeme) (ds : List Decl) → DerivesInterface seen ts rest ds → section_at part.Interface rest ≡ None → length ts ≤ room → (before : List Decl) (others : List Item) →
    Parts room part.Interface (record { seen = seen; decls = before; items = others }) ts rest ds []
interface_complete room seen ts _ _ no_block n fits before others = ends room part.Interface (record { seen = seen; decls = before; items = others }) ts n
interface_complete room seen _ rest _ (block {s = s} {next = next} {more = more} {ds = ds} {es = es} l o z k a i d j later) n fits before others =
    let less : length (z ∷ more) ≤ length next = decls_shrink s next (z ∷ more) ds d in
    let start : Draft = record { seen = seen; decls = before; items = others } in
    joins room part.Interface s start (l ∷ o ∷ next) more rest ds es [] []
    (section_reads room part.Interface s start (after_section s start ds []) l (o ∷ next) more k a
    (decl_block room s start o z next more ds (interface_declares l.kind s k) i (all_decls room s next more ds before z d j (omega arith)) j)) (omega arith)
    (interface_complete room (seen ++ s ∷ []) more rest es later n (omega arith) (before ++ ds) (others ++ []))

interface_shrinks : (seen : List Section) (ts rest : List Lexeme) (ds : List Decl) → DerivesInterface seen ts rest ds → length rest ≤ length ts
interface_shrinks seen ts _ _ no_block = omega arith
interface_shrinks seen _ rest _ (block {s = s} {next = next} {more = more} {ds = ds} {es = es} l o z k a i d j later) = omega (arith, decls_shrink s next (z ∷ more) ds d, interface_shrinks (seen ++ s ∷ []) more rest es later)

implementation_complete : (room : ℕ) (seen : List Section) (ts rest : List Lexeme) (ds : List Decl) (is : List Item) → DerivesImplementation seen ts rest ds is → section_at part.Implementation rest ≡ None → length ts ≤ room → (before : List Decl) (others : List Item) →
    Parts room part.Implementation (record { seen = seen; decls = before; items = others }) ts rest ds is
implementation_complete room seen ts _ _ _ no_sections n fits before others = ends room part.Implementation (record { seen = seen; decls = before; items = others }) ts n
implementation_complete room seen _ rest _ is (aux {next = next} {more = more} {ds = ds} {es = es} l o z k a i d j later) n fits before others =
    let less : length (z ∷ more) ≤ length next = decls_shrink section.Aux next (z ∷ more) ds d in
    let start : Draft = record { seen = seen; decls = before; items = others } in
    joins room part.Implementation section.Aux start (l ∷ o ∷ next) more rest ds es [] is
    (section_reads room part.Implementation section.Aux start (after_section section.Aux start ds []) l (o ∷ next) more (aux_in l k) a
    (decl_block room section.Aux start o z next more ds refl i (all_decls room section.Aux next more ds before z d j (omega arith)) j)) (omega arith)
    (implementation_complete room (seen ++ section.Aux ∷ []) more rest es is later n (omega arith) (before ++ ds) (others ++ []))
implementation_complete room seen _ rest ds _ (items {s = s} {next = next} {more = more} {is = is} {js = js} l o z k a i d j later) n fits before others =
    let less : length (z ∷ more) ≤ length next = items_shrink s next (z ∷ more) is d in
    let start : Draft = record { seen = seen; decls = before; items = others } in
    joins room part.Implementation s start (l ∷ o ∷ next) more rest [] ds is js
    (section_reads room part.Implementation s start (after_section s start [] is) l (o ∷ next) more (item_in l.kind s k) a
    (item_block room s start o next more is (item_declares_not l.kind s k) i (all_items room s next more is others z d j (omega arith)))) (omega arith)
    (implementation_complete room (seen ++ s ∷ []) more rest ds js later n (omega arith) (before ++ []) (others ++ is))

-- a part with its braces
part_reads : (room : ℕ) (p : Part) (ds es : List Decl) (is : List Item) (o z : Lexeme) (next rest : List Lexeme) (parts : Parts room p (record { seen = []; decls = ds; items = [] }) next (z ∷ rest) es is) → Is (token.Sign sign.OPEN_BRACE) o → Is (token.Sign sign.CLOSE_BRACE) z →
    part_at room p ds (o ∷ next) ≡ Ok (record { seen = parts.seen; decls = ds ++ es; items = is }, rest)
unfolding part_at all_turns
part_reads room p ds es is o z next rest parts i j =
    rw (expect_is (token.Sign sign.OPEN_BRACE) o next i, parts.reads (suc (length next)) (omega arith), expect_is (token.Sign sign.CLOSE_BRACE) z rest j) refl

source_reads : (room : ℕ) (a l o i m c : Lexeme) (t1 t2 rest : List Lexeme) (interface whole : Draft) → Is (token.Keyword keyword.SYSTEM) a → Is token.Name l → Is (token.Sign sign.OPEN_BRACE) o → Is (token.Keyword keyword.INTERFACE) i →
    part_at room part.Interface [] t1 ≡ Ok (interface, m ∷ t2) → Is (token.Keyword keyword.IMPLEMENTATION) m → part_at room part.Implementation interface.decls t2 ≡ Ok (whole, c ∷ rest) → Is (token.Sign sign.CLOSE_BRACE) c →
    source_at room (a ∷ l ∷ o ∷ i ∷ t1) ≡ Ok (record { system = l.text; decls = whole.decls; items = whole.items }, rest)
unfolding source_at
source_reads room a l o i m c t1 t2 rest interface whole e1 e2 e3 e4 r e5 q e6 =
    rw (
      expect_is (token.Keyword keyword.SYSTEM) a (l ∷ o ∷ i ∷ t1) e1,
      expect_is token.Name l (o ∷ i ∷ t1) e2,
      expect_is (token.Sign sign.OPEN_BRACE) o (i ∷ t1) e3,
      expect_is (token.Keyword keyword.INTERFACE) i t1 e4,
      r,
      expect_is (token.Keyword keyword.IMPLEMENTATION) m t2 e5,
      q,
      expect_is (token.Sign sign.CLOSE_BRACE) c rest e6,
    ) refl

pub source_complete : (room : ℕ) (ts rest : List Lexeme) (x : Source) → DerivesSource ts rest x → length ts ≤ room → source_at room ts ≡ Ok (x, rest)
source_complete room _ rest _ (source {inputs = inputs} {rules = rules} {ds = ds} {es = es} {is = is} a l o i b c m s z e k1 k2 k3 k4 k5 d k6 k7 k8 f k9 k10) fits =
    let less : length (c ∷ m ∷ s ∷ rules) ≤ length inputs = interface_shrinks [] inputs (c ∷ m ∷ s ∷ rules) ds d in
    let one = interface_complete room [] inputs (c ∷ m ∷ s ∷ rules) ds d (not_section part.Interface c (m ∷ s ∷ rules) k6) (omega arith) [] [] in
    let two = implementation_complete room [] rules (z ∷ e ∷ rest) es is f (not_section part.Implementation z (e ∷ rest) k9) (omega arith) ds [] in
    source_reads room a l o i m e (b ∷ inputs) (s ∷ rules) rest (record { seen = one.seen; decls = ds; items = [] }) (record { seen = two.seen; decls = ds ++ es; items = is }) k1 k2 k3 k4
    (part_reads room part.Interface [] ds [] b c inputs (m ∷ s ∷ rules) one k5 k6) k7 (part_reads room part.Implementation ds es is s z rules (e ∷ rest) two k8 k9) k10
