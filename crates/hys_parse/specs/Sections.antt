-- The readers of declarations, items and sections.
use Rattle.std.specs.Prelude.{ℕ, zero, suc, Bool, true, false, ◌==◌, List, [], ◌∷◌, ◌++◌, length, map, Option, Some, None, Ok, Err, Result, if◌then◌else◌}
use Rattle.hys_lex.specs.declared.token.TokenKind.{TokenKind}
use Rattle.hys_lex.specs.declared.token.TokenKind.TheVariants as token
use Rattle.hys_lex.specs.declared.sign.TheConstants as sign
use Rattle.hys_lex.specs.declared.keyword.TheConstants as keyword
use Rattle.hys_ast.specs.declared.lexeme.Lexeme.{Lexeme}
use Rattle.hys_ast.specs.declared.level.Level.TheVariants as level
use Rattle.hys_ast.specs.declared.source.Section.{Section}
use Rattle.hys_ast.specs.declared.source.Section.TheVariants as section
use Rattle.hys_ast.specs.declared.source.Kind.{Kind}
use Rattle.hys_ast.specs.Grammar.{has_bounds, kind_of, among, interface_section, item_word}
use Rattle.hys_ast.specs.Tree.{Tree, Decl, Shape, Item, Source}
use Rattle.hys_ast.specs.Tree as tree
use Rattle.hys_ast.specs.Seen.{decl_of, item_of}
use Rattle.hys_parse.specs.Reading.{Read, ◌>>=◌, choose, expect, after, binary_at, operand_at, nested}
use Rattle.hys_parse.specs.declared.draft.Draft.{Draft as Held}
use Rattle.hys_parse.specs.declared.draft.Part.{Part}
use Rattle.hys_parse.specs.declared.draft.Part.TheVariants as part

unfoldable pub expr_at : ℕ → List Lexeme → Read Tree
expr_at room ts = binary_at level.Arrow (operand_at (nested room) level.Arrow) ts

-- Turns are taken as long as each says that more follows. A turn takes what was read so far.
abbrev pub Turn : Type 0 → Type 0
Turn A = Result (A × Bool × List Lexeme) ℕ

unfoldable pub turns : {A : Type 0} → (A → List Lexeme → Turn A) → ℕ → A → List Lexeme → Read A
turns turn zero a ts = Err (length ts)
turns turn (suc fuel) a ts = turn a ts >>= λ p. if p.1 then turns turn fuel p.0 p.2 else Ok (p.0, p.2)

-- each turn but the last takes a lexeme
unfoldable pub all_turns : {A : Type 0} → (A → List Lexeme → Turn A) → A → List Lexeme → Read A
all_turns turn a ts = turns turn (suc (length ts)) a ts

abbrev pub decl_with : Section → Kind → Lexeme → Option Tree → Option Tree → Option Tree → Decl
decl_with s k l low high value = record { section = s; kind = k; name = l.text; place = l.place; low = low; high = high; value = value }

abbrev pub has_value : Section → Bool
has_value section.State = false
has_value section.Input = false
has_value section.Output = false
has_value section.Parameter = true
has_value section.Aux = false
has_value section.Ad = false
has_value section.Da = false
has_value section.Logic = false
has_value section.Linear = false
has_value section.Automata = false
has_value section.Continuous = false
has_value section.OutputItem = false
has_value section.Must = false

unfoldable pub bounded_at : ℕ → Section → Kind → Lexeme → List Lexeme → Read Decl
bounded_at room s k l ts = do
  low ← expr_at room ts
  comma ← expect (token.Sign sign.COMMA) low.1
  high ← expr_at room comma.1
  end ← expect (token.Sign sign.CLOSE_BRACKET) high.1
  Ok (decl_with s k l (Some low.0) (Some high.0) None, end.1)

unfoldable pub valued_at : ℕ → Section → Kind → Lexeme → List Lexeme → Read Decl
valued_at room s k l ts = do
  value ← expr_at room ts
  Ok (decl_with s k l None None (Some value.0), value.1)

unfoldable pub plain_at : Section → Kind → Lexeme → List Lexeme → Read Decl
plain_at s k l ts = Ok (decl_with s k l None None None, ts)

unfoldable pub decl_at : ℕ → Section → Kind → List Lexeme → Read Decl
decl_at room s k ts = do
  l ← expect token.Name ts
  if has_bounds s k then choose (after (token.Sign sign.OPEN_BRACKET) l.1) (plain_at s k l.0 l.1) (bounded_at room s k l.0) else
      (if has_value s then choose (after (token.Sign sign.EQUALS) l.1) (plain_at s k l.0 l.1) (valued_at room s k l.0) else plain_at s k l.0 l.1)

-- a declared name, behind those of before
unfoldable pub name_turn : ℕ → Section → Kind → List Decl → List Lexeme → Turn (List Decl)
name_turn room s k ds ts = do
  d ← decl_at room s k ts
  choose (after (token.Sign sign.COMMA) d.1) (Ok (ds ++ d.0 ∷ [], false, d.1)) (λ next. Ok (ds ++ d.0 ∷ [], true, next))

-- the names of one kind, turn by turn
abbrev pub names_at : ℕ → Section → Kind → List Decl → List Lexeme → Read (List Decl)
names_at room s k ds ts = all_turns (name_turn room s k) ds ts

-- REAL or BOOL
unfoldable pub kind_at : List Lexeme → Option (Kind × List Lexeme)
kind_at [] = None
kind_at (l ∷ ts) = choose (kind_of l.kind) None (λ k. Some (k, ts))

-- the declarations of one kind
unfoldable pub line_at : ℕ → Section → Kind → List Decl → List Lexeme → Turn (List Decl)
line_at room s k ds ts = do
  names ← all_turns (name_turn room s k) ds ts
  end ← expect (token.Sign sign.SEMICOLON) names.1
  Ok (names.0, true, end.1)

unfoldable pub line_turn : ℕ → Section → List Decl → List Lexeme → Turn (List Decl)
line_turn room s ds ts = choose (kind_at ts) (Ok (ds, false, ts)) (λ p. line_at room s p.0 ds p.1)

-- the lines of a section, turn by turn
abbrev pub lines_at : ℕ → Section → List Decl → List Lexeme → Read (List Decl)
lines_at room s ds ts = all_turns (line_turn room s) ds ts

unfoldable pub ite_at : ℕ → List Lexeme → Read Shape
ite_at room ts = do
  i ← expect (token.Keyword keyword.IF) ts
  a ← expr_at room i.1
  t ← expect (token.Keyword keyword.THEN) a.1
  b ← expr_at room t.1
  choose (after (token.Keyword keyword.ELSE) b.1) (Ok (tree.Choice a.0 b.0 None, b.1)) (λ next. expr_at room next >>= λ c. Ok (tree.Choice a.0 b.0 (Some c.0), c.1))

unfoldable pub braced_at : ℕ → List Lexeme → Read Shape
braced_at room ts = do
  shape ← ite_at room ts
  end ← expect (token.Sign sign.CLOSE_BRACE) shape.1
  Ok (shape.0, end.1)

unfoldable pub choice_at : ℕ → List Lexeme → Read Shape
choice_at room ts = choose (after (token.Sign sign.OPEN_BRACE) ts) (ite_at room ts) (braced_at room)

unfoldable pub formula_at : ℕ → List Lexeme → Read Shape
formula_at room ts = expr_at room ts >>= λ e. Ok (tree.Plain e.0, e.1)

unfoldable pub tolerance_at : ℕ → Tree → List Lexeme → Read Shape
tolerance_at room comparison ts = do
  e ← expr_at room ts
  end ← expect (token.Sign sign.CLOSE_BRACKET) e.1
  Ok (tree.Wide comparison e.0, end.1)

unfoldable pub guard_at : ℕ → List Lexeme → Read Shape
guard_at room ts = do
  e ← expr_at room ts
  choose (after (token.Sign sign.OPEN_BRACKET) e.1) (Ok (tree.Plain e.0, e.1)) (tolerance_at room e.0)

abbrev pub shape_at : ℕ → Section → List Lexeme → Read Shape
shape_at room section.State ts = formula_at room ts
shape_at room section.Input ts = formula_at room ts
shape_at room section.Output ts = formula_at room ts
shape_at room section.Parameter ts = formula_at room ts
shape_at room section.Aux ts = formula_at room ts
shape_at room section.Ad ts = guard_at room ts
shape_at room section.Da ts = choice_at room ts
shape_at room section.Logic ts = formula_at room ts
shape_at room section.Linear ts = formula_at room ts
shape_at room section.Automata ts = formula_at room ts
shape_at room section.Continuous ts = formula_at room ts
shape_at room section.OutputItem ts = formula_at room ts
shape_at room section.Must ts = formula_at room ts

unfoldable pub named_at : ℕ → Section → List Lexeme → Read Item
named_at room s ts = do
  l ← expect token.Name ts
  equals ← expect (token.Sign sign.EQUALS) l.1
  shape ← shape_at room s equals.1
  end ← expect (token.Sign sign.SEMICOLON) shape.1
  Ok (record { section = s; name = Some l.0.text; place = l.0.place; shape = shape.0 }, end.1)

unfoldable pub must_at : ℕ → List Lexeme → Read Item
must_at room [] = Err 0
must_at room (l ∷ ts) = do
  e ← expr_at room (l ∷ ts)
  end ← expect (token.Sign sign.SEMICOLON) e.1
  Ok (record { section = section.Must; name = None; place = l.place; shape = tree.Plain e.0 }, end.1)

abbrev pub item_at : ℕ → Section → List Lexeme → Read Item
item_at room section.State ts = named_at room section.State ts
item_at room section.Input ts = named_at room section.Input ts
item_at room section.Output ts = named_at room section.Output ts
item_at room section.Parameter ts = named_at room section.Parameter ts
item_at room section.Aux ts = named_at room section.Aux ts
item_at room section.Ad ts = named_at room section.Ad ts
item_at room section.Da ts = named_at room section.Da ts
item_at room section.Logic ts = named_at room section.Logic ts
item_at room section.Linear ts = named_at room section.Linear ts
item_at room section.Automata ts = named_at room section.Automata ts
item_at room section.Continuous ts = named_at room section.Continuous ts
item_at room section.OutputItem ts = named_at room section.OutputItem ts
item_at room section.Must ts = must_at room ts

-- an item behind those of before, or the brace that ends the section
unfoldable pub item_turn : ℕ → Section → List Item → List Lexeme → Turn (List Item)
item_turn room s is ts = choose (after (token.Sign sign.CLOSE_BRACE) ts) (item_at room s ts >>= λ i. Ok (is ++ i.0 ∷ [], true, i.1)) (λ more. Ok (is, false, more))

-- What was read of a source: the sections, the declarations and the items.
pub record Draft : Type 0 where
  pub seen : List Section
  pub decls : List Decl
  pub items : List Item

abbrev pub draft_of : Held → Draft
draft_of d = record { seen = d.seen.items; decls = map decl_of d.decls.items; items = map item_of d.items.items }

abbrev pub declares : Section → Bool
declares section.State = true
declares section.Input = true
declares section.Output = true
declares section.Parameter = true
declares section.Aux = true
declares section.Ad = false
declares section.Da = false
declares section.Logic = false
declares section.Linear = false
declares section.Automata = false
declares section.Continuous = false
declares section.OutputItem = false
declares section.Must = false

-- the items of a section, turn by turn
abbrev pub item_turns : ℕ → Section → List Item → List Lexeme → Read (List Item)
item_turns room s items ts = all_turns (item_turn room s) items ts

unfoldable pub decls_at : ℕ → Section → Draft → List Lexeme → Read Draft
decls_at room s d ts = do
  decls ← all_turns (line_turn room s) d.decls ts
  end ← expect (token.Sign sign.CLOSE_BRACE) decls.1
  Ok (record { seen = d.seen ++ s ∷ []; decls = decls.0; items = d.items }, end.1)

unfoldable pub items_at : ℕ → Section → Draft → List Lexeme → Read Draft
items_at room s d ts = do
  items ← all_turns (item_turn room s) d.items ts
  Ok (record { seen = d.seen ++ s ∷ []; decls = d.decls; items = items.0 }, items.1)

-- a section in braces
unfoldable pub block_at : ℕ → Section → Draft → List Lexeme → Read Draft
block_at room s d ts = do
  begin ← expect (token.Sign sign.OPEN_BRACE) ts
  if declares s then decls_at room s d begin.1 else items_at room s d begin.1

abbrev pub implementation_section : TokenKind → Option Section
implementation_section token.Name = None
implementation_section token.Literal = None
implementation_section (token.Keyword k) = if k == keyword.AUX then Some section.Aux else item_word k
implementation_section (token.Sign s) = None

abbrev pub section_in : Part → TokenKind → Option Section
section_in part.Interface k = interface_section k
section_in part.Implementation k = implementation_section k

-- the section that begins
unfoldable pub section_at : Part → List Lexeme → Option (Section × List Lexeme)
section_at p [] = None
section_at p (l ∷ ts) = choose (section_in p l.kind) None (λ s. Some (s, ts))

unfoldable pub section_turn : ℕ → Part → Draft → List Lexeme → Turn Draft
section_turn room p d ts = choose (section_at p ts) (Ok (d, false, ts))
    (λ q. if among q.0 d.seen then Err (length ts) else (block_at room q.0 d q.1 >>= λ r. Ok (r.0, true, r.1)))

-- the sections, turn by turn
abbrev pub sections_at : ℕ → Part → Draft → List Lexeme → Read Draft
sections_at room p d ts = all_turns (section_turn room p) d ts

-- the sections of a part, with its braces
unfoldable pub part_at : ℕ → Part → List Decl → List Lexeme → Read Draft
part_at room p ds ts = do
  begin ← expect (token.Sign sign.OPEN_BRACE) ts
  draft ← all_turns (section_turn room p) (record { seen = []; decls = ds; items = [] }) begin.1
  end ← expect (token.Sign sign.CLOSE_BRACE) draft.1
  Ok (draft.0, end.1)

unfoldable pub source_at : ℕ → List Lexeme → Read Source
source_at room ts = do
  system ← expect (token.Keyword keyword.SYSTEM) ts
  l ← expect token.Name system.1
  begin ← expect (token.Sign sign.OPEN_BRACE) l.1
  interface ← expect (token.Keyword keyword.INTERFACE) begin.1
  declared ← part_at room part.Interface [] interface.1
  implementation ← expect (token.Keyword keyword.IMPLEMENTATION) declared.1
  whole ← part_at room part.Implementation declared.0.decls implementation.1
  end ← expect (token.Sign sign.CLOSE_BRACE) whole.1
  Ok (record { system = l.0.text; decls = whole.0.decls; items = whole.0.items }, end.1)

-- a source and nothing behind it
unfoldable pub whole_at : List Lexeme → Result Source ℕ
whole_at ts = source_at (length ts) ts >>= λ p. if length p.1 == 0 then Ok p.0 else Err (length p.1)
