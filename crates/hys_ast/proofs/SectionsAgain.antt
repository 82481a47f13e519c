-- The words of sections derive them, places aside.
use Rattle.std.proofs.Common.{◌≡◌, false, List, [], ◌∷◌, ◌++◌, Some, None, map, refl, sym, ap, ap₂, subst, ◌∙◌}
use Rattle.std.proofs.lemmas.List.{append-nil}
use Rattle.hys_lex.specs.declared.token.TokenKind.TheVariants as token
use Rattle.hys_lex.specs.declared.keyword.TheConstants as keyword
use Rattle.hys_lex.specs.declared.sign.TheConstants as sign
use Rattle.hys_lex.specs.Spaced.{Spelling}
use Rattle.hys_ast.specs.declared.lexeme.Lexeme.{Lexeme}
use Rattle.hys_ast.specs.declared.source.Section.{Section}
use Rattle.hys_ast.specs.declared.source.Section.TheVariants as section
use Rattle.hys_ast.specs.declared.source.Kind.{Kind}
use Rattle.hys_ast.specs.declared.source.Kind.TheVariants as kind
use Rattle.hys_ast.specs.Grammar.{Is, kind_of, DerivesDecl, DerivesDecls, among, interface_section, DerivesInterface, DerivesItem, DerivesItems, item_section, DerivesImplementation}
use Rattle.hys_ast.specs.Grammar as grammar
use Rattle.hys_ast.specs.Tree.{Decl, Item}
use Rattle.hys_ast.specs.Bare.{bare_decl, bare_item}
use Rattle.hys_ast.specs.Printed.{kind_word, section_word, opening, closing, semicolon, decl_words, item_words, decls_words, items_words}
use Rattle.hys_ast.proofs.Spelled.{Spells, further}
use Rattle.hys_ast.proofs.ValidParts.{Sound, DeclAgain, decl_again, SoundItem}
use Rattle.hys_ast.proofs.ItemsAgain.{ItemAgain, item_again}
use Rattle.hys_ast.proofs.Blocks.{over, block, lines, block_words}
use Rattle.hys_ast.proofs.ValidSections.{decl_section, item_at, DeclsIn, ItemsIn, Interface, Rules, DeclBlocks, ItemBlocks}

map_append : {A B : Type 0} (f : A → B) (xs ys : List A) → map f (xs ++ ys) ≡ map f xs ++ map f ys
map_append f [] ys = refl
map_append f (x ∷ xs) ys = ap (λ zs. f x ∷ zs) (map_append f xs ys)

-- two lists that are the same, places aside, one behind the other
pub same_both : {A : Type 0} (f : A → A) (xs ys us vs : List A) → map f us ≡ map f xs → map f vs ≡ map f ys → map f (us ++ vs) ≡ map f (xs ++ ys)
same_both f xs ys us vs e g = map_append f us vs ∙ ap₂ (λ (x y : List _). x ++ y) e g ∙ sym (map_append f xs ys)

kind_is : (k : Kind) → kind_of (kind_word k).kind ≡ Some k
kind_is kind.Real = refl
kind_is kind.Bool = refl

-- the lexemes begin with the declarations of a section, places aside, and go on with these words
record DeclsAgain (s : Section) (ts : List Lexeme) (more : List Spelling) (ds : List Decl) : Type 0 where
  rest : List Lexeme
  found : List Decl
  derives : DerivesDecls s ts rest found
  spells : Spells more rest
  same : map bare_decl found ≡ map bare_decl ds

line_again : (s : Section) (k : Kind) (d found : Decl) (ds : List Decl) (more : List Spelling) (l : Lexeme) (ts rest : List Lexeme) → l.kind ≡ (kind_word k).kind → DerivesDecl s k ts rest found → bare_decl found ≡ bare_decl d →
    Spells (semicolon ∷ lines decl_words ds more) rest → ((x : List Lexeme) → Spells (lines decl_words ds more) x → DeclsAgain s x more ds) → DeclsAgain s (l ∷ ts) more (d ∷ ds)
line_again s k d found ds more l ts _ i f e (further {l = end} {ls = next} j t z) later =
    let r : DeclsAgain s next more ds = later next z in
    record { rest = r.rest; found = found ∷ r.found; derives = grammar.line l end (ap kind_of i ∙ kind_is k) (grammar.last f) j r.derives; spells = r.spells; same = ap₂ (λ x xs. x ∷ xs) e r.same }

decls_again : (s : Section) (ds : List Decl) (more : List Spelling) (ts : List Lexeme) → DeclsIn s ds → Spells (lines decl_words ds more) ts → DeclsAgain s ts more ds
decls_again s [] more ts each z = record { rest = ts; found = []; derives = grammar.no_decls; spells = z; same = refl }
decls_again s (d ∷ ds) more _ each (further {l = l} {ls = ts} i t z) =
    let r : DeclAgain ts (semicolon ∷ lines decl_words ds more) d = decl_again d (semicolon ∷ lines decl_words ds more) ts each.0 z in
    let P : Section → Type 0 = λ u. DerivesDecl u d.kind ts r.rest r.found in
    line_again s d.kind d r.found ds more l ts r.rest i (subst P each.1 r.derives) r.same r.spells (λ x y. decls_again s ds more x each.2 y)

record ItemsAgain (s : Section) (ts : List Lexeme) (more : List Spelling) (is : List Item) : Type 0 where
  rest : List Lexeme
  found : List Item
  derives : DerivesItems s ts rest found
  spells : Spells more rest
  same : map bare_item found ≡ map bare_item is

items_again : (s : Section) (is : List Item) (more : List Spelling) (ts : List Lexeme) → ItemsIn s is → Spells (lines item_words is more) ts → ItemsAgain s ts more is
items_again s [] more ts each z = record { rest = ts; found = []; derives = grammar.no_items; spells = z; same = refl }
items_again s (i ∷ is) more ts each z =
    let r : ItemAgain ts (lines item_words is more) i = item_again i (lines item_words is more) ts each.0 z in
    let q : ItemsAgain s r.rest more is = items_again s is more r.rest each.2 r.spells in
    let P : Section → Type 0 = λ u. DerivesItem u ts r.rest r.found in
    record { rest = q.rest; found = r.found ∷ q.found; derives = grammar.item (subst P each.1 r.derives) q.derives; spells = q.spells; same = ap₂ (λ x xs. x ∷ xs) r.same q.same }

pub record InterfaceAgain (seen : List Section) (ts : List Lexeme) (more : List Spelling) (ds : List Decl) : Type 0 where
  pub rest : List Lexeme
  pub found : List Decl
  pub derives : DerivesInterface seen ts rest found
  pub spells : Spells more rest
  pub same : map bare_decl found ≡ map bare_decl ds

block_again : (seen : List Section) (s : Section) (ds es found : List Decl) (more : List Spelling) (l o : Lexeme) (next rest : List Lexeme) → Interface s → among s seen ≡ false → l.kind ≡ (section_word s).kind → Is (token.Sign sign.OPEN_BRACE) o →
    DerivesDecls s next rest found → map bare_decl found ≡ map bare_decl ds → Spells (closing ∷ decls_words None es more) rest →
    ((x : List Lexeme) → Spells (decls_words None es more) x → InterfaceAgain (seen ++ s ∷ []) x more es) → InterfaceAgain seen (l ∷ o ∷ next) more (ds ++ es)
block_again seen s ds es found more l o next _ a b i j f e (further {l = c} {ls = ts} k t z) later =
    let r : InterfaceAgain (seen ++ s ∷ []) ts more es = later ts z in
    record { rest = r.rest; found = found ++ r.found; derives = grammar.block l o c (ap interface_section i ∙ a) b j f k r.derives; spells = r.spells; same = same_both bare_decl ds es found r.found e r.same }

opened : (seen : List Section) (s : Section) (ds es : List Decl) (more : List Spelling) (ts : List Lexeme) → Interface s → among s seen ≡ false → DeclsIn s ds →
    Spells (section_word s ∷ opening ∷ lines decl_words ds (closing ∷ decls_words None es more)) ts →
    ((x : List Lexeme) → Spells (decls_words None es more) x → InterfaceAgain (seen ++ s ∷ []) x more es) → InterfaceAgain seen ts more (ds ++ es)
opened seen s ds es more _ a b each (further {l = l} i t (further {l = o} {ls = next} j u z)) later =
    let r : DeclsAgain s next (closing ∷ decls_words None es more) ds = decls_again s ds (closing ∷ decls_words None es more) next each z in
    block_again seen s ds es r.found more l o next r.rest a b i j r.derives r.same r.spells later

pub interface_again : (seen : List Section) (ds : List Decl) (more : List Spelling) (ts : List Lexeme) → DeclBlocks seen ds → Spells (decls_words None ds more) ts → InterfaceAgain seen ts more ds
interface_again seen _ more ts over z = record { rest = ts; found = []; derives = grammar.no_block; spells = z; same = refl }
interface_again seen _ more ts (block s d ds es a b each later) z =
    let P : List Spelling → Type 0 = λ ws. Spells ws ts in
    opened seen s (d ∷ ds) es more ts a b each (subst P (block_words Sound decl_section decl_words Interface seen s d ds es more each later) z)
    (λ x y. interface_again (seen ++ s ∷ []) es more x later y)

pub record RulesAgain (seen : List Section) (ts : List Lexeme) (more : List Spelling) (is : List Item) : Type 0 where
  pub rest : List Lexeme
  pub found : List Item
  pub derives : DerivesImplementation seen ts rest [] found
  pub spells : Spells more rest
  pub same : map bare_item found ≡ map bare_item is

rule_again : (seen : List Section) (s : Section) (is js found : List Item) (more : List Spelling) (l o : Lexeme) (next rest : List Lexeme) → Rules s → among s seen ≡ false → l.kind ≡ (section_word s).kind → Is (token.Sign sign.OPEN_BRACE) o →
    DerivesItems s next rest found → map bare_item found ≡ map bare_item is → Spells (closing ∷ items_words None js more) rest →
    ((x : List Lexeme) → Spells (items_words None js more) x → RulesAgain (seen ++ s ∷ []) x more js) → RulesAgain seen (l ∷ o ∷ next) more (is ++ js)
rule_again seen s is js found more l o next _ a b i j f e (further {l = c} {ls = ts} k t z) later =
    let r : RulesAgain (seen ++ s ∷ []) ts more js = later ts z in
    record { rest = r.rest; found = found ++ r.found; derives = grammar.items l o c (ap item_section i ∙ a) b j f k r.derives; spells = r.spells; same = same_both bare_item is js found r.found e r.same }

begun : (seen : List Section) (s : Section) (is js : List Item) (more : List Spelling) (ts : List Lexeme) → Rules s → among s seen ≡ false → ItemsIn s is →
    Spells (section_word s ∷ opening ∷ lines item_words is (closing ∷ items_words None js more)) ts →
    ((x : List Lexeme) → Spells (items_words None js more) x → RulesAgain (seen ++ s ∷ []) x more js) → RulesAgain seen ts more (is ++ js)
begun seen s is js more _ a b each (further {l = l} i t (further {l = o} {ls = next} j u z)) later =
    let r : ItemsAgain s next (closing ∷ items_words None js more) is = items_again s is (closing ∷ items_words None js more) next each z in
    rule_again seen s is js r.found more l o next r.rest a b i j r.derives r.same r.spells later

pub rules_again : (seen : List Section) (is : List Item) (more : List Spelling) (ts : List Lexeme) → ItemBlocks seen is → Spells (items_words None is more) ts → RulesAgain seen ts more is
rules_again seen _ more ts over z = record { rest = ts; found = []; derives = grammar.no_sections; spells = z; same = refl }
rules_again seen _ more ts (block s i is js a b each later) z =
    let P : List Spelling → Type 0 = λ ws. Spells ws ts in
    begun seen s (i ∷ is) js more ts a b each (subst P (block_words SoundItem item_at item_words Rules seen s i is js more each later) z)
    (λ x y. rules_again (seen ++ s ∷ []) js more x later y)

pub record ImplementationAgain (ts : List Lexeme) (more : List Spelling) (ds : List Decl) (is : List Item) : Type 0 where
  pub rest : List Lexeme
  pub decls : List Decl
  pub items : List Item
  pub derives : DerivesImplementation [] ts rest decls items
  pub spells : Spells more rest
  pub same_decls : map bare_decl decls ≡ map bare_decl ds
  pub same_items : map bare_item items ≡ map bare_item is

aux_end : (ds found : List Decl) (is : List Item) (more : List Spelling) (l o : Lexeme) (next rest : List Lexeme) → Is (token.Keyword keyword.AUX) l → Is (token.Sign sign.OPEN_BRACE) o → DerivesDecls section.Aux next rest found →
    map bare_decl found ≡ map bare_decl ds → ItemBlocks (section.Aux ∷ []) is → Spells (closing ∷ items_words None is more) rest → ImplementationAgain (l ∷ o ∷ next) more ds is
aux_end ds found is more l o next _ i j f e blocks (further {l = c} {ls = ts} k t z) =
    let r : RulesAgain (section.Aux ∷ []) ts more is = rules_again (section.Aux ∷ []) is more ts blocks z in
    record {
      rest = r.rest;
      decls = found ++ [];
      items = r.found;
      derives = grammar.aux l o c i refl j f k r.derives;
      spells = r.spells;
      same_decls = ap (map bare_decl) (append-nil found) ∙ e;
      same_items = r.same;
    }

aux_begin : (ds : List Decl) (is : List Item) (more : List Spelling) (ts : List Lexeme) → DeclsIn section.Aux ds → ItemBlocks (section.Aux ∷ []) is →
    Spells (section_word section.Aux ∷ opening ∷ lines decl_words ds (closing ∷ items_words None is more)) ts → ImplementationAgain ts more ds is
aux_begin ds is more _ each blocks (further {l = l} i t (further {l = o} {ls = next} j u z)) =
    let r : DeclsAgain section.Aux next (closing ∷ items_words None is more) ds = decls_again section.Aux ds (closing ∷ items_words None is more) next each z in
    aux_end ds r.found is more l o next r.rest i j r.derives r.same blocks r.spells

-- the words of AUX, where it declares something
pub aux_words : (d : Decl) (ds : List Decl) (rest : List Spelling) → DeclsIn section.Aux (d ∷ ds) → decls_words None (d ∷ ds) rest ≡ section_word section.Aux ∷ opening ∷ lines decl_words (d ∷ ds) (closing ∷ rest)
aux_words d ds rest each =
    ap (λ (es : List Decl). decls_words None (d ∷ es) rest) (sym (append-nil ds))
    ∙ block_words Sound decl_section decl_words (λ s. Unit {0}) [] section.Aux d ds [] rest each over

pub implementation_again : (ds : List Decl) (is : List Item) (more : List Spelling) (ts : List Lexeme) → DeclsIn section.Aux ds → ItemBlocks [] is → ItemBlocks (section.Aux ∷ []) is →
    Spells (decls_words None ds (items_words None is more)) ts → ImplementationAgain ts more ds is
implementation_again [] is more ts each without behind z =
    let r : RulesAgain [] ts more is = rules_again [] is more ts without z in
    record { rest = r.rest; decls = []; items = r.found; derives = r.derives; spells = r.spells; same_decls = refl; same_items = r.same }
implementation_again (d ∷ ds) is more ts each without behind z =
    let P : List Spelling → Type 0 = λ ws. Spells ws ts in
    aux_begin (d ∷ ds) is more ts each behind (subst P (aux_words d ds (items_words None is more) each) z)
