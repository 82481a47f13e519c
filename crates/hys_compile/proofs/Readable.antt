-- What the grammar gives to a source that is read: its literals are read as what they are, and its declared names are
-- words.
use Rattle.std.proofs.Common.{◌≡◌, ℕ, List, [], ◌∷◌, ◌++◌, slice_range, IsTrue, refl, subst}
use Rattle.std.specs.Prelude.{All}
use Rattle.std.specs.List.{AllByRecursion}
use Rattle.std.proofs.lemmas.List.Elements.{All-head, All-tail}
use Rattle.hys_lex.specs.declared.token.Token.{Token}
use Rattle.hys_lex.specs.declared.token.TokenKind.{TokenKind}
use Rattle.hys_lex.specs.declared.token.TokenKind.TheVariants as token
use Rattle.hys_lex.specs.Cut.{Cut}
use Rattle.hys_lex.specs.Spaced.{IsSpelled, spelling}
use Rattle.hys_lex.proofs.Fronts.{cut_each}
use Rattle.hys_lex.proofs.Spacing.{token_spelled}
use Rattle.hys_spelling.proofs.Spelled.{short_literal_read}
use Rattle.hys_ast.specs.declared.lexeme.Lexeme.{Lexeme}
use Rattle.hys_ast.specs.declared.source.Section.{Section}
use Rattle.hys_ast.specs.declared.source.Section.TheVariants as section
use Rattle.hys_ast.specs.Tree.{Tree, Decl, Shape, Item, Source}
use Rattle.hys_ast.specs.Tree as tree
use Rattle.hys_ast.specs.Places.{lexemes_of, text_at}
use Rattle.hys_ast.specs.Grammar.{DerivesSource, IsTreeOf}
use Rattle.hys_ast.specs.Grammar as grammar
use Rattle.hys_ast.proofs.Spelled.{HasToken, Lawful}
use Rattle.hys_ast.proofs.ValidTrees.{Valid}
use Rattle.hys_ast.proofs.ValidParts.{Sound, alone, bounded, valued, SoundChoice, short, long, SoundGuard, narrow, wide, SoundItem, formula, guard, choice, must}
use Rattle.hys_ast.proofs.Blocks.{EachIn, Blocks, over, block}
use Rattle.hys_ast.proofs.ValidSections.{decl_section, item_at, Interface, Rules, InterfaceRead, interface_read, ImplementationRead, implementation_read}
use Rattle.hys_meaning.specs.Values.{literal}
use Rattle.hys_type.specs.Constants.{IsLiteral, HasLiterals}
use Rattle.hys_type.specs.Declarations.{HasValueLiterals, HasBoundLiterals}
use Rattle.hys_type.specs.Checks.{HaveShapeLiterals, HasItemLiterals, HasSourceLiterals}
use Rattle.hys_compile.specs.Text.{IsMeasured}
use Rattle.hys_type.specs.Declaring.{declares, IsDeclaration}
use Rattle.hys_type.specs.Written.{IsReadDecl, IsReadItem}
use Rattle.hys_type.specs.DeclarationKeeping.{IsReadSource}
use Rattle.hys_compile.proofs.WrittenParts.{decl_written, item_written}

-- ---- expressions
read_literal : (text : List ℕ) → Valid (tree.Number text (record { byte = 0; line = 0; col = 0 })) → IsLiteral text
unfolding literal
read_literal text v = short_literal_read text v.0 v.1

literals : (e : Tree) → Valid e → HasLiterals e
literals (tree.Number text p) v = read_literal text v
literals (tree.Name n p) v = tt
literals (tree.Truth b p) v = tt
literals (tree.Cast n p) v = tt
literals (tree.Unary op a p) v = literals a v
literals (tree.Binary op a b p) v = (literals a v.0, literals b v.1)

-- ---- declarations
record ReadDecl (d : Decl) : Type 0 where
  values : HasValueLiterals d
  bounds : HasBoundLiterals d
  declaration : IsTrue (declares d.section) → IsDeclaration d

read_decl : (d : Decl) → Sound d → ReadDecl d
read_decl _ (alone n) = record { values = tt; bounds = (tt, tt); declaration = λ h. (h, n) }
read_decl _ (bounded {low = low} {high = high} g n v w) =
    record { values = tt; bounds = (literals low v, literals high w); declaration = λ h. (h, n) }
read_decl _ (valued {e = e} n v) = record { values = literals e v; bounds = (tt, tt); declaration = λ h. (h, n) }

interface_declares : (s : Section) → Interface s → IsTrue (declares s)
interface_declares section.State h = refl
interface_declares section.Input h = refl
interface_declares section.Output h = refl
interface_declares section.Parameter h = refl
interface_declares section.Aux h = refl
interface_declares section.Ad h = absurd (cc)
interface_declares section.Da h = absurd (cc)
interface_declares section.Logic h = absurd (cc)
interface_declares section.Linear h = absurd (cc)
interface_declares section.Automata h = absurd (cc)
interface_declares section.Continuous h = absurd (cc)
interface_declares section.OutputItem h = absurd (cc)
interface_declares section.Must h = absurd (cc)

record Known (d : Decl) : Type 0 where
  values : HasValueLiterals d
  bounds : HasBoundLiterals d
  declaration : IsDeclaration d
  written : IsReadDecl d

known : (d : Decl) → Sound d → IsTrue (declares d.section) → Known d
known d s h = let r : ReadDecl d = read_decl d s in record { values = r.values; bounds = r.bounds; declaration = r.declaration h; written = decl_written d s }

-- ---- items
choice_literals : (shape : Shape) → SoundChoice shape → HaveShapeLiterals shape
choice_literals _ (short {a = a} {b = b} v w) = (literals a v, (literals b w, tt))
choice_literals _ (long {a = a} {b = b} {c = c} v w x) = (literals a v, (literals b w, literals c x))

guard_literals : (shape : Shape) → SoundGuard shape → HaveShapeLiterals shape
guard_literals _ (narrow {e = e} v) = literals e v
guard_literals _ (wide {a = a} {b = b} v w) = (literals a v, literals b w)

item_literals : (i : Item) → SoundItem i → HasItemLiterals i
item_literals _ (formula {e = e} g n v) = literals e v
item_literals _ (guard {shape = shape} n c) = guard_literals shape c
item_literals _ (choice {shape = shape} n c) = choice_literals shape c
item_literals _ (must {e = e} v) = literals e v

record KnownItem (i : Item) : Type 0 where
  literals : HasItemLiterals i
  written : IsReadItem i

known_item : (i : Item) → SoundItem i → KnownItem i
known_item i s = record { literals = item_literals i s; written = item_written i s }

-- ---- sections
all_append : {X : Type 0} (Q : X → Type 0) (xs ys : List X) → AllByRecursion Q xs → AllByRecursion Q ys → AllByRecursion Q (xs ++ ys)
all_append Q [] ys h k = k
all_append Q (x ∷ xs) ys h k = (h.0, all_append Q xs ys h.1 k)

in_section : {X : Type 0} (P Q : X → Type 0) (section : X → Section) (s : Section) → ((x : X) → P x → section x ≡ s → Q x) → (xs : List X) → EachIn P section s xs → AllByRecursion Q xs
in_section P Q section s f [] h = tt
in_section P Q section s f (x ∷ xs) h = (f x h.0 h.1, in_section P Q section s f xs h.2)

in_blocks : {X : Type 0} (P Q : X → Type 0) (section : X → Section) (Allowed : Section → Type 0) → ((s : Section) → Allowed s → (x : X) → P x → section x ≡ s → Q x) →
    (seen : List Section) (xs : List X) → Blocks P section Allowed seen xs → AllByRecursion Q xs
in_blocks P Q section Allowed f seen _ over = tt
in_blocks P Q section Allowed f seen _ (block s x xs ys a n e later) =
    all_append Q (x ∷ xs) ys (in_section P Q section s (f s a) (x ∷ xs) e) (in_blocks P Q section Allowed f (seen ++ s ∷ []) ys later)

each : {X : Type 0} (P Q : X → Type 0) → ((x : X) → P x → Q x) → (xs : List X) → AllByRecursion P xs → AllByRecursion Q xs
each P Q f [] h = tt
each P Q f (x ∷ xs) h = (f x h.0, each P Q f xs h.1)

-- ---- sources
pub record IsReadable (s : Source) : Type 0 where
  pub literals : HasSourceLiterals s
  pub declarations : AllByRecursion IsDeclaration s.decls
  pub written : IsReadSource s

readable : (n : List ℕ) (ds : List Decl) (is : List Item) → AllByRecursion Known ds → AllByRecursion KnownItem is → IsReadable (record { system = n; decls = ds; items = is })
readable n ds is h k = record {
  literals = record { values = each Known HasValueLiterals (λ d r. r.values) ds h; bounds = each Known HasBoundLiterals (λ d r. r.bounds) ds h; items = each KnownItem HasItemLiterals (λ i r. r.literals) is k };
  declarations = each Known IsDeclaration (λ d r. r.declaration) ds h;
  written = record { decls = each Known IsReadDecl (λ d r. r.written) ds h; items = each KnownItem IsReadItem (λ i r. r.written) is k };
}

source_readable : (ts rest : List Lexeme) (t : Source) → DerivesSource ts rest t → Lawful ts → IsReadable t
source_readable _ rest _ (grammar.source {inputs = inputs} {rules = rules} {ds = ds} {es = es} {is = is} system l o interface begin c implementation start stop end i j k m n before p q r behind u v) h =
    let a : InterfaceRead [] ds (c ∷ implementation ∷ start ∷ rules) = interface_read [] inputs (c ∷ implementation ∷ start ∷ rules) ds before h.1.1.1.1.1 in
    let b : ImplementationRead [] es is (stop ∷ end ∷ rest) = implementation_read [] rules (stop ∷ end ∷ rest) es is behind a.lawful.1.1.1 in
    let first : AllByRecursion Known ds = in_blocks Sound Known decl_section Interface (λ s w d x e. known d x (subst (λ (z : Section). IsTrue (declares z)) (sym' e) (interface_declares s w))) [] ds (a.blocks [] (λ s y z. z)) in
    let second : AllByRecursion Known es = in_section Sound Known decl_section section.Aux (λ d x e. known d x (subst (λ (z : Section). IsTrue (declares z)) (sym' e) refl)) es b.aux in
    let items : AllByRecursion KnownItem is = in_blocks SoundItem KnownItem item_at Rules (λ s w x y e. known_item x y) [] is (b.blocks [] (λ s y z. z)) in
    readable l.text (ds ++ es) is (all_append Known ds es first second) items
  where
    sym' : {s t : Section} → s ≡ t → t ≡ s
    sym' e = cc

-- ---- texts
has_token : (text : List ℕ) (kind : TokenKind) (from to : ℕ) → IsSpelled (record { kind = kind; bytes = slice_range text from to }) → HasToken kind (text_at text kind from to)
has_token text token.Name from to h = h
has_token text token.Literal from to h = h
has_token text (token.Keyword k) from to h = tt
has_token text (token.Sign s) from to h = tt

lexemes_lawful : (text : List ℕ) (ts : List Token) → All (λ t. IsSpelled (spelling text t)) ts → Lawful (lexemes_of text ts)
lexemes_lawful text [] all = tt
lexemes_lawful text (t ∷ ts) all = (has_token text t.kind t.from t.to (All-head (λ t. IsSpelled (spelling text t)) t ts all), lexemes_lawful text ts (All-tail (λ t. IsSpelled (spelling text t)) t ts all))

pub tree_readable : (text : List ℕ) (tokens : List Token) (t : Source) → All (λ t. IsSpelled (spelling text t)) tokens → IsTreeOf text tokens t → IsReadable t
tree_readable text tokens t all d = source_readable (lexemes_of text tokens) [] t d (lexemes_lawful text tokens all)

-- the tree of a text
pub cut_readable : (text : List ℕ) (tokens : List Token) (t : Source) → Cut text tokens → IsTreeOf text tokens t → IsReadable t
cut_readable text tokens t c d = tree_readable text tokens t (λ k x h. token_spelled text _ (cut_each text tokens c k x h)) d

pub measured_literals : (text : List ℕ) (tokens : List Token) (t : Source) → IsMeasured text tokens t → HasSourceLiterals t
measured_literals text tokens t h = let r : IsReadable t = cut_readable text tokens t h.parsed.counted.lexed.cut h.parsed.derived in r.literals

pub measured_declarations : (text : List ℕ) (tokens : List Token) (t : Source) → IsMeasured text tokens t → AllByRecursion IsDeclaration t.decls
measured_declarations text tokens t h = let r : IsReadable t = cut_readable text tokens t h.parsed.counted.lexed.cut h.parsed.derived in r.declarations

pub cut_literals : (text : List ℕ) (tokens : List Token) (t : Source) → Cut text tokens → IsTreeOf text tokens t → HasSourceLiterals t
cut_literals text tokens t c d = let r : IsReadable t = cut_readable text tokens t c d in r.literals

pub cut_declarations : (text : List ℕ) (tokens : List Token) (t : Source) → Cut text tokens → IsTreeOf text tokens t → AllByRecursion IsDeclaration t.decls
cut_declarations text tokens t c d = let r : IsReadable t = cut_readable text tokens t c d in r.declarations

pub cut_written : (text : List ℕ) (tokens : List Token) (t : Source) → Cut text tokens → IsTreeOf text tokens t → IsReadSource t
cut_written text tokens t c d = let r : IsReadable t = cut_readable text tokens t c d in r.written

pub measured_written : (text : List ℕ) (tokens : List Token) (t : Source) → IsMeasured text tokens t → IsReadSource t
measured_written text tokens t h = let r : IsReadable t = cut_readable text tokens t h.parsed.counted.lexed.cut h.parsed.derived in r.written
