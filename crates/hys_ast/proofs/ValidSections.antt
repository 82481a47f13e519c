-- The sections of a derived source: blocks of declarations and items as the grammar gives them.
use Rattle.std.proofs.Common.{◌≡◌, Bool, true, false, eqb, cond, List, [], ◌∷◌, ◌++◌, Some, None, refl, subst}
use Rattle.hys_lex.specs.declared.token.TokenKind.{TokenKind}
use Rattle.hys_lex.specs.declared.token.TokenKind.TheVariants as token
use Rattle.hys_lex.specs.declared.keyword.TheConstants as keyword
use Rattle.hys_ast.specs.declared.lexeme.Lexeme.{Lexeme}
use Rattle.hys_ast.specs.declared.source.Section.{Section}
use Rattle.hys_ast.specs.declared.source.Section.TheVariants as section
use Rattle.hys_ast.specs.declared.source.Kind.{Kind}
use Rattle.hys_ast.specs.Grammar.{DerivesNames, DerivesDecls, among, interface_section, DerivesInterface, DerivesItems, item_section, DerivesImplementation}
use Rattle.hys_ast.specs.Grammar as grammar
use Rattle.hys_ast.specs.Tree.{Decl, Item}
use Rattle.hys_ast.specs.Printed.{section_word}
use Rattle.hys_ast.proofs.Spelled.{Lawful}
use Rattle.hys_ast.proofs.ValidParts.{Sound, DeclRead, decl_read, SoundItem, ItemRead, item_read}
use Rattle.hys_ast.proofs.Blocks.{EachIn, each_append, Blocks, over, Within, within_more, add_block}

abbrev pub decl_section : Decl → Section
decl_section d = d.section

abbrev pub item_at : Item → Section
item_at i = i.section

abbrev pub DeclsIn : Section → List Decl → Type 0
DeclsIn = EachIn Sound decl_section

abbrev pub ItemsIn : Section → List Item → Type 0
ItemsIn = EachIn SoundItem item_at

-- the section stands in the INTERFACE, and its word begins it
abbrev pub Interface : Section → Type 0
Interface s = interface_section (section_word s).kind ≡ Some s

-- the section has items, and its word begins it
abbrev pub Rules : Section → Type 0
Rules s = item_section (section_word s).kind ≡ Some s

interface_choice : (a b c d : Bool) (s : Section) → cond a (Some section.State) (cond b (Some section.Input) (cond c (Some section.Output) (cond d (Some section.Parameter) None))) ≡ Some s → Interface s
interface_choice true b c d s e = let is : section.State ≡ s = cc in subst Interface is refl
interface_choice false true c d s e = let is : section.Input ≡ s = cc in subst Interface is refl
interface_choice false false true d s e = let is : section.Output ≡ s = cc in subst Interface is refl
interface_choice false false false true s e = let is : section.Parameter ≡ s = cc in subst Interface is refl
interface_choice false false false false s e = absurd (cc)

interface_is : (k : TokenKind) (s : Section) → interface_section k ≡ Some s → Interface s
interface_is token.Name s e = absurd (cc)
interface_is token.Literal s e = absurd (cc)
interface_is (token.Keyword k) s e = interface_choice (eqb k keyword.STATE) (eqb k keyword.INPUT) (eqb k keyword.OUTPUT) (eqb k keyword.PARAMETER) s e
interface_is (token.Sign m) s e = absurd (cc)

rules_choice : (a b c d f g h i : Bool) (s : Section) →
    cond a (Some section.Ad) (cond b (Some section.Da) (cond c (Some section.Logic) (cond d (Some section.Linear) (cond f (Some section.Automata) (cond g (Some section.Continuous) (cond h (Some section.OutputItem) (cond i (Some section.Must) None))))))) ≡ Some s → Rules s
rules_choice true b c d f g h i s e = let is : section.Ad ≡ s = cc in subst Rules is refl
rules_choice false true c d f g h i s e = let is : section.Da ≡ s = cc in subst Rules is refl
rules_choice false false true d f g h i s e = let is : section.Logic ≡ s = cc in subst Rules is refl
rules_choice false false false true f g h i s e = let is : section.Linear ≡ s = cc in subst Rules is refl
rules_choice false false false false true g h i s e = let is : section.Automata ≡ s = cc in subst Rules is refl
rules_choice false false false false false true h i s e = let is : section.Continuous ≡ s = cc in subst Rules is refl
rules_choice false false false false false false true i s e = let is : section.OutputItem ≡ s = cc in subst Rules is refl
rules_choice false false false false false false false true s e = let is : section.Must ≡ s = cc in subst Rules is refl
rules_choice false false false false false false false false s e = absurd (cc)

rules_is : (k : TokenKind) (s : Section) → item_section k ≡ Some s → Rules s
rules_is token.Name s e = absurd (cc)
rules_is token.Literal s e = absurd (cc)
rules_is (token.Keyword k) s e =
    rules_choice (eqb k keyword.AD) (eqb k keyword.DA) (eqb k keyword.LOGIC) (eqb k keyword.LINEAR) (eqb k keyword.AUTOMATA) (eqb k keyword.CONTINUOUS) (eqb k keyword.OUTPUT) (eqb k keyword.MUST) s e
rules_is (token.Sign m) s e = absurd (cc)

names_read : (s : Section) (k : Kind) (ts rest : List Lexeme) (ds : List Decl) → DerivesNames s k ts rest ds → Lawful ts → DeclsIn s ds × Lawful rest
names_read s k ts rest _ (grammar.last {d = d} f) h = let r : DeclRead s d rest = decl_read s k ts rest d f h in ((r.sound, r.section_is, tt), r.lawful)
names_read s k ts rest _ (grammar.further {next = next} {d = d} {ds = ds} comma f i later) h =
    let r : DeclRead s d (comma ∷ next) = decl_read s k ts (comma ∷ next) d f h in
    let q : DeclsIn s ds × Lawful rest = names_read s k next rest ds later r.lawful.1 in
    ((r.sound, r.section_is, q.0), q.1)

decls_read : (s : Section) (ts rest : List Lexeme) (ds : List Decl) → DerivesDecls s ts rest ds → Lawful ts → DeclsIn s ds × Lawful rest
decls_read s ts _ _ grammar.no_decls h = (tt, h)
decls_read s _ rest _ (grammar.line {k = k} {next = next} {more = more} {ds = ds} {es = es} l end i names j later) h =
    let p : DeclsIn s ds × Lawful (end ∷ more) = names_read s k next (end ∷ more) ds names h.1 in
    let q : DeclsIn s es × Lawful rest = decls_read s more rest es later p.1.1 in
    (each_append Sound decl_section s ds es p.0 q.0, q.1)

items_read : (s : Section) (ts rest : List Lexeme) (is : List Item) → DerivesItems s ts rest is → Lawful ts → ItemsIn s is × Lawful rest
items_read s ts _ _ grammar.no_items h = (tt, h)
items_read s ts rest _ (grammar.item {more = more} {i = i} {is = is} f later) h =
    let r : ItemRead s i more = item_read s ts more i f h in
    let q : ItemsIn s is × Lawful rest = items_read s more rest is later r.lawful in
    ((r.sound, r.section_is, q.0), q.1)

abbrev pub DeclBlocks : List Section → List Decl → Type 0
DeclBlocks = Blocks Sound decl_section Interface

abbrev pub ItemBlocks : List Section → List Item → Type 0
ItemBlocks = Blocks SoundItem item_at Rules

pub record InterfaceRead (seen : List Section) (ds : List Decl) (rest : List Lexeme) : Type 0 where
  pub blocks : (kept : List Section) → Within Interface kept seen → DeclBlocks kept ds
  pub lawful : Lawful rest

pub interface_read : (seen : List Section) (ts rest : List Lexeme) (ds : List Decl) → DerivesInterface seen ts rest ds → Lawful ts → InterfaceRead seen ds rest
interface_read seen ts _ _ grammar.no_block h = record { blocks = λ kept w. over; lawful = h }
interface_read seen _ rest _ (grammar.block {s = s} {next = next} {more = more} {ds = ds} {es = es} l o c k a i decls j later) h =
    let p : DeclsIn s ds × Lawful (c ∷ more) = decls_read s next (c ∷ more) ds decls h.1.1 in
    let r : InterfaceRead (seen ++ s ∷ []) es rest = interface_read (seen ++ s ∷ []) more rest es later p.1.1 in
    record { blocks = λ kept w. add_block Sound decl_section Interface s ds es kept seen (interface_is l.kind s k) a p.0 w r.blocks; lawful = r.lawful }

pub record ImplementationRead (seen : List Section) (ds : List Decl) (is : List Item) (rest : List Lexeme) : Type 0 where
  pub aux : DeclsIn section.Aux ds
  pub blocks : (kept : List Section) → Within Rules kept seen → ItemBlocks kept is
  pub lawful : Lawful rest

pub implementation_read : (seen : List Section) (ts rest : List Lexeme) (ds : List Decl) (is : List Item) → DerivesImplementation seen ts rest ds is → Lawful ts → ImplementationRead seen ds is rest
implementation_read seen ts _ _ _ grammar.no_sections h = record { aux = tt; blocks = λ kept w. over; lawful = h }
implementation_read seen _ rest _ is (grammar.aux {next = next} {more = more} {ds = ds} {es = es} l o c k a i decls j later) h =
    let p : DeclsIn section.Aux ds × Lawful (c ∷ more) = decls_read section.Aux next (c ∷ more) ds decls h.1.1 in
    let r : ImplementationRead (seen ++ section.Aux ∷ []) es is rest = implementation_read (seen ++ section.Aux ∷ []) more rest es is later p.1.1 in
    record { aux = each_append Sound decl_section section.Aux ds es p.0 r.aux; blocks = λ kept w. r.blocks kept (within_more Rules kept seen section.Aux w); lawful = r.lawful }
implementation_read seen _ rest ds _ (grammar.items {s = s} {next = next} {more = more} {is = is} {js = js} l o c k a i items j later) h =
    let p : ItemsIn s is × Lawful (c ∷ more) = items_read s next (c ∷ more) is items h.1.1 in
    let r : ImplementationRead (seen ++ s ∷ []) ds js rest = implementation_read (seen ++ s ∷ []) more rest ds js later p.1.1 in
    record { aux = r.aux; blocks = λ kept w. add_block SoundItem item_at Rules s is js kept seen (rules_is l.kind s k) a p.0 w r.blocks; lawful = r.lawful }
