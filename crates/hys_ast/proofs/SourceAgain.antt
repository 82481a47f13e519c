-- The text that a source is printed as has a cut whose tokens derive the source, places aside.
use Rattle.std.proofs.Common.{◌≡◌, ℕ, true, false, List, [], ◌∷◌, ◌++◌, length, Some, None, map, refl, sym, ap, ap₂, subst, ◌∙◌, slice_range}
use Rattle.std.specs.Prelude.{All}
use Rattle.std.proofs.lemmas.List.Elements.{All-head, All-tail}
use Rattle.hys_lex.specs.declared.token.Token.{Token}
use Rattle.hys_lex.specs.declared.token.TokenKind.{TokenKind}
use Rattle.hys_lex.specs.declared.token.TokenKind.TheVariants as token
use Rattle.hys_lex.specs.declared.keyword.TheConstants as keyword
use Rattle.hys_lex.specs.declared.sign.TheConstants as sign
use Rattle.hys_lex.specs.Pieces.{IsTokenText, IsShort}
use Rattle.hys_lex.specs.Cut.{Cut, IsTokenOf}
use Rattle.hys_lex.specs.Spaced.{Spelling, IsSpelled, spelling, spaced, spaced_tokens}
use Rattle.hys_lex.proofs.Fronts.{cut_each}
use Rattle.hys_lex.proofs.Spacing.{token_spelled, spaced_cut, respelled}
use Rattle.hys_ast.specs.declared.lexeme.Lexeme.{Lexeme}
use Rattle.hys_ast.specs.declared.source.Section.{Section}
use Rattle.hys_ast.specs.declared.source.Section.TheVariants as section
use Rattle.hys_ast.specs.Places.{text_at, lexemes_of}
use Rattle.hys_ast.specs.Grammar.{Is, number_of, among, DerivesInterface, DerivesImplementation, DerivesSource, IsTreeOf}
use Rattle.hys_ast.specs.Grammar as grammar
use Rattle.hys_ast.specs.Tree.{Decl, Item, Source}
use Rattle.hys_ast.specs.Bare.{bare_decl, bare_item, bare_source, PrintOf, HasText}
use Rattle.hys_ast.specs.Printed.{name, closing, is_open, decl_words, item_words, decls_words, items_words, declared, head_words, middle_words, source_words}
use Rattle.hys_ast.proofs.Spelled.{Spells, nothing, further, Spelled, all_spelled, held_text, HasToken, Lawful, lawful_name}
use Rattle.hys_ast.proofs.Listed.{system-spelled, interface-spelled, implementation-spelled, opening-spelled, closing-spelled, section-spelled}
use Rattle.hys_ast.proofs.ValidParts.{Sound, decl_spelled, SoundItem, item_spelled}
use Rattle.hys_ast.proofs.Blocks.{over, block, lines_spelled, blocks_spelled}
use Rattle.hys_ast.proofs.ValidSections.{decl_section, item_at, DeclsIn, Interface, Rules, DeclBlocks, ItemBlocks, InterfaceRead, interface_read, ImplementationRead, implementation_read}
use Rattle.hys_ast.proofs.SectionsAgain.{InterfaceAgain, interface_again, ImplementationAgain, implementation_again, aux_words, same_both}
use Rattle.hys_ast.proofs.Unplaced.{same_source}

-- a source as the grammar gives it: the declarations of the INTERFACE, and then those of AUX
data SoundSource : Source → Type 0 where
  sound : {n : List ℕ} (ds es : List Decl) {is : List Item} → IsSpelled (name n) → DeclBlocks [] ds → DeclsIn section.Aux es → ItemBlocks [] is → ItemBlocks (section.Aux ∷ []) is →
      SoundSource (record { system = n; decls = ds ++ es; items = is })

rules_not_aux : (s : Section) → Rules s → among s (section.Aux ∷ []) ≡ false
rules_not_aux section.State r = refl
rules_not_aux section.Input r = refl
rules_not_aux section.Output r = refl
rules_not_aux section.Parameter r = refl
rules_not_aux section.Aux r = absurd (cc)
rules_not_aux section.Ad r = refl
rules_not_aux section.Da r = refl
rules_not_aux section.Logic r = refl
rules_not_aux section.Linear r = refl
rules_not_aux section.Automata r = refl
rules_not_aux section.Continuous r = refl
rules_not_aux section.OutputItem r = refl
rules_not_aux section.Must r = refl

interface_not_aux : (s : Section) → Interface s → is_open (Some section.Aux) s ≡ false
interface_not_aux section.State r = refl
interface_not_aux section.Input r = refl
interface_not_aux section.Output r = refl
interface_not_aux section.Parameter r = refl
interface_not_aux section.Aux r = absurd (cc)
interface_not_aux section.Ad r = refl
interface_not_aux section.Da r = refl
interface_not_aux section.Logic r = refl
interface_not_aux section.Linear r = refl
interface_not_aux section.Automata r = refl
interface_not_aux section.Continuous r = refl
interface_not_aux section.OutputItem r = refl
interface_not_aux section.Must r = refl

source_read : (ts rest : List Lexeme) (t : Source) → DerivesSource ts rest t → Lawful ts → SoundSource t
source_read _ rest _ (grammar.source {inputs = inputs} {rules = rules} {ds = ds} {es = es} {is = is} system l o interface begin c implementation start stop end i j k m n before p q r behind u v) h =
    let a : InterfaceRead [] ds (c ∷ implementation ∷ start ∷ rules) = interface_read [] inputs (c ∷ implementation ∷ start ∷ rules) ds before h.1.1.1.1.1 in
    let b : ImplementationRead [] es is (stop ∷ end ∷ rest) = implementation_read [] rules (stop ∷ end ∷ rest) es is behind a.lawful.1.1.1 in
    sound ds es (lawful_name l j h.1.0) (a.blocks [] (λ s y z. z)) b.aux (b.blocks [] (λ s y z. z)) (b.blocks (section.Aux ∷ []) (λ s y z. rules_not_aux s y))

-- which declarations are those of AUX
abbrev NoneAux : List Decl → Type 0
NoneAux [] = Unit {0}
NoneAux (d ∷ ds) = (is_open (Some section.Aux) d.section ≡ false) × NoneAux ds

none_each : (s : Section) (ds es : List Decl) → Interface s → DeclsIn s ds → NoneAux es → NoneAux (ds ++ es)
none_each s [] es a each none = none
none_each s (d ∷ ds) es a each none = (ap (is_open (Some section.Aux)) each.1 ∙ interface_not_aux s a, none_each s ds es a each.2 none)

none_aux : (seen : List Section) (ds : List Decl) → DeclBlocks seen ds → NoneAux ds
none_aux seen _ over = tt
none_aux seen _ (block s d ds es a b each later) = none_each s (d ∷ ds) es a each (none_aux (seen ++ s ∷ []) es later)

aux_test : (d : Decl) → d.section ≡ section.Aux → is_open (Some section.Aux) d.section ≡ true
aux_test d e = ap (is_open (Some section.Aux)) e

keeps_none : (es : List Decl) → DeclsIn section.Aux es → declared false es ≡ []
keeps_none [] each = refl
keeps_none (d ∷ es) each = let t : is_open (Some section.Aux) d.section ≡ true = aux_test d each.1 in rw t (keeps_none es each.2)

keeps_all : (es : List Decl) → DeclsIn section.Aux es → declared true es ≡ es
keeps_all [] each = refl
keeps_all (d ∷ es) each = let t : is_open (Some section.Aux) d.section ≡ true = aux_test d each.1 in rw t (ap (λ xs. d ∷ xs) (keeps_all es each.2))

others : (ds es : List Decl) → NoneAux ds → DeclsIn section.Aux es → declared false (ds ++ es) ≡ ds
others [] es none each = keeps_none es each
others (d ∷ ds) es none each = let t : is_open (Some section.Aux) d.section ≡ false = none.0 in rw t (ap (λ xs. d ∷ xs) (others ds es none.1 each))

those_of_aux : (ds es : List Decl) → NoneAux ds → DeclsIn section.Aux es → declared true (ds ++ es) ≡ es
those_of_aux [] es none each = keeps_all es each
those_of_aux (d ∷ ds) es none each = let t : is_open (Some section.Aux) d.section ≡ false = none.0 in rw t (those_of_aux ds es none.1 each)

abbrev parts_words : List ℕ → List Decl → List Decl → List Item → List Spelling
parts_words n ds es is = head_words n (decls_words None ds (middle_words (decls_words None es (items_words None is (closing ∷ closing ∷ [])))))

words_are : (n : List ℕ) (ds es : List Decl) (is : List Item) → DeclBlocks [] ds → DeclsIn section.Aux es → source_words (record { system = n; decls = ds ++ es; items = is }) [] ≡ parts_words n ds es is
words_are n ds es is blocks each = ap₂ (λ (x y : List Decl). parts_words n x y is) (others ds es (none_aux [] ds blocks) each) (those_of_aux ds es (none_aux [] ds blocks) each)

aux_spelled : (es : List Decl) (rest : List Spelling) → DeclsIn section.Aux es → Spelled rest → Spelled (decls_words None es rest)
aux_spelled [] rest each h = h
aux_spelled (d ∷ es) rest each h =
    subst Spelled (sym (aux_words d es rest each)) (section-spelled section.Aux, (opening-spelled, lines_spelled Sound decl_section decl_words section.Aux (d ∷ es) (closing ∷ rest) decl_spelled each (closing-spelled, h)))

source_spelled : (t : Source) → SoundSource t → Spelled (source_words t [])
source_spelled t (sound {n = n} ds es {is = is} s blocks each without behind) =
    subst Spelled (sym (words_are n ds es is blocks each)) (
      system-spelled,
      (
        s,
        (
          opening-spelled,
          (
            interface-spelled,
            (
              opening-spelled,
              blocks_spelled Sound decl_section decl_words Interface [] ds _ decl_spelled blocks (
                closing-spelled,
                (
                  implementation-spelled,
                  (
                    opening-spelled,
                    aux_spelled es _ each (blocks_spelled SoundItem item_at item_words Rules [] is _ item_spelled without (closing-spelled, (closing-spelled, tt))),
                  ),
                ),
              ),
            ),
          ),
        ),
      ),
    )

-- all lexemes derive the source, places aside
record SourceAgain (ts : List Lexeme) (t : Source) : Type 0 where
  found : Source
  derives : DerivesSource ts [] found
  same : bare_source found ≡ bare_source t

source_is : (n m : List ℕ) (ds es us vs : List Decl) (is js : List Item) → m ≡ n → map bare_decl us ≡ map bare_decl ds → map bare_decl vs ≡ map bare_decl es → map bare_item js ≡ map bare_item is →
    bare_source (record { system = m; decls = us ++ vs; items = js }) ≡ bare_source (record { system = n; decls = ds ++ es; items = is })
source_is n m ds es us vs is js e f g h = let d : map bare_decl (us ++ vs) ≡ map bare_decl (ds ++ es) = same_both bare_decl ds es us vs f g in cc

source_end : (n : List ℕ) (ds es us vs : List Decl) (is js : List Item) (system l o interface begin c implementation start : Lexeme) (inputs rules rest : List Lexeme) →
    Is (token.Keyword keyword.SYSTEM) system → Is token.Name l → l.text ≡ n → Is (token.Sign sign.OPEN_BRACE) o → Is (token.Keyword keyword.INTERFACE) interface → Is (token.Sign sign.OPEN_BRACE) begin →
    DerivesInterface [] inputs (c ∷ implementation ∷ start ∷ rules) us → map bare_decl us ≡ map bare_decl ds → Is (token.Sign sign.CLOSE_BRACE) c → Is (token.Keyword keyword.IMPLEMENTATION) implementation → Is (token.Sign sign.OPEN_BRACE) start →
    DerivesImplementation [] rules rest vs js → map bare_decl vs ≡ map bare_decl es → map bare_item js ≡ map bare_item is → Spells (closing ∷ closing ∷ []) rest →
    SourceAgain (system ∷ l ∷ o ∷ interface ∷ begin ∷ inputs) (record { system = n; decls = ds ++ es; items = is })
source_end n ds es us vs is js system l o interface begin c implementation start inputs rules _ i j t k m p before e q r u behind f g (further {l = stop} v w (further {l = end} x y nothing)) = record {
  found = record { system = l.text; decls = us ++ vs; items = js };
  derives = grammar.source system l o interface begin c implementation start stop end i j k m p before q r u behind v x;
  same = source_is n l.text ds es us vs is js t e f g;
}

source_middle : (n : List ℕ) (ds es us : List Decl) (is : List Item) (system l o interface begin : Lexeme) (inputs rest : List Lexeme) →
    Is (token.Keyword keyword.SYSTEM) system → Is token.Name l → l.text ≡ n → Is (token.Sign sign.OPEN_BRACE) o → Is (token.Keyword keyword.INTERFACE) interface → Is (token.Sign sign.OPEN_BRACE) begin →
    DerivesInterface [] inputs rest us → map bare_decl us ≡ map bare_decl ds → DeclsIn section.Aux es → ItemBlocks [] is → ItemBlocks (section.Aux ∷ []) is →
    Spells (middle_words (decls_words None es (items_words None is (closing ∷ closing ∷ [])))) rest → SourceAgain (system ∷ l ∷ o ∷ interface ∷ begin ∷ inputs) (record { system = n; decls = ds ++ es; items = is })
source_middle n ds es us is system l o interface begin inputs _ i j t k m p before e each without behind (further {l = c} q w (further {l = implementation} r x (further {l = start} {ls = rules} u y z))) =
    let b : ImplementationAgain rules (closing ∷ closing ∷ []) es is = implementation_again es is (closing ∷ closing ∷ []) rules each without behind z in
    source_end n ds es us b.decls is b.items system l o interface begin c implementation start inputs rules b.rest i j t k m p before e q r u b.derives b.same_decls b.same_items b.spells

source_begin : (n : List ℕ) (ds es : List Decl) (is : List Item) (ts : List Lexeme) → DeclBlocks [] ds → DeclsIn section.Aux es → ItemBlocks [] is → ItemBlocks (section.Aux ∷ []) is →
    Spells (parts_words n ds es is) ts → SourceAgain ts (record { system = n; decls = ds ++ es; items = is })
source_begin n ds es is _ blocks each without behind (further {l = system} i q (further {l = l} j t (further {l = o} k r (further {l = interface} m u (further {l = begin} {ls = inputs} p v z))))) =
    let rest : List Spelling = middle_words (decls_words None es (items_words None is (closing ∷ closing ∷ []))) in
    let a : InterfaceAgain [] inputs rest ds = interface_again [] ds rest inputs blocks z in
    source_middle n ds es a.found is system l o interface begin inputs a.rest i j t k m p a.derives a.same each without behind a.spells

source_again : (t : Source) (ts : List Lexeme) → SoundSource t → Spells (source_words t []) ts → SourceAgain ts t
source_again t ts (sound {n = n} ds es {is = is} s blocks each without behind) z =
    let P : List Spelling → Type 0 = λ ws. Spells ws ts in
    source_begin n ds es is ts blocks each without behind (subst P (words_are n ds es is blocks each) z)

text_is : (text : List ℕ) (kind : TokenKind) (from to : ℕ) → text_at text kind from to ≡ held_text kind (slice_range text from to)
text_is text token.Name from to = refl
text_is text token.Literal from to = refl
text_is text (token.Keyword k) from to = refl
text_is text (token.Sign s) from to = refl

lexemes_spell : (text : List ℕ) (ts : List Token) → Spells (map (spelling text) ts) (lexemes_of text ts)
lexemes_spell text [] = nothing
lexemes_spell text (t ∷ ts) = further refl (text_is text t.kind t.from t.to) (lexemes_spell text ts)

has_token : (text : List ℕ) (kind : TokenKind) (from to : ℕ) → IsTokenText kind (slice_range text from to) × IsShort kind (length (slice_range text from to)) → HasToken kind (text_at text kind from to)
has_token text token.Name from to h = h
has_token text token.Literal from to h = h
has_token text (token.Keyword k) from to h = tt
has_token text (token.Sign s) from to h = tt

lexemes_lawful : (text : List ℕ) (ts : List Token) → All (IsTokenOf text) ts → Lawful (lexemes_of text ts)
lexemes_lawful text [] all = tt
lexemes_lawful text (t ∷ ts) all = (has_token text t.kind t.from t.to (token_spelled text t (All-head (IsTokenOf text) t ts all)), lexemes_lawful text ts (All-tail (IsTokenOf text) t ts all))

print_of : (t : Source) → SoundSource t → PrintOf (spaced (source_words t [])) t
print_of t s =
    let words : List Spelling = source_words t [] in
    let tokens : List Token = spaced_tokens 0 words in
    let P : List Spelling → Type 0 = λ ws. Spells ws (lexemes_of (spaced words) tokens) in
    let r : SourceAgain (lexemes_of (spaced words) tokens) t = source_again t (lexemes_of (spaced words) tokens) s (subst P (respelled words) (lexemes_spell (spaced words) tokens)) in
    record { tokens = tokens; tree = r.found; cut = spaced_cut words (all_spelled words (source_spelled t s)); derives = r.derives; same = r.same }

pub printed : (s : Source) → HasText s → PrintOf (spaced (source_words s [])) s
printed s h =
    let p : PrintOf (spaced (source_words h.tree [])) h.tree = print_of h.tree (source_read (lexemes_of h.text h.tokens) [] h.tree h.derives (lexemes_lawful h.text h.tokens (cut_each h.text h.tokens h.cut))) in
    let words : source_words h.tree [] ≡ source_words s [] = sym (same_source h.tree []) ∙ ap (λ (x : Source). source_words x []) h.same ∙ same_source s [] in
    let C : List Spelling → Type 0 = λ ws. Cut (spaced ws) p.tokens in
    let D : List Spelling → Type 0 = λ ws. IsTreeOf (spaced ws) p.tokens p.tree in
    record { tokens = p.tokens; tree = p.tree; cut = subst C words p.cut; derives = subst D words p.derives; same = p.same ∙ h.same }
