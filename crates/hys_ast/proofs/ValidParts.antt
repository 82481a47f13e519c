-- Declarations and items as the grammar gives them, and the words of their print.
use Rattle.std.proofs.Common.{◌≡◌, ℕ, true, List, ◌∷◌, Option, Some, None, codes, refl, ap}
use Rattle.hys_lex.specs.declared.token.TokenKind.TheVariants as token
use Rattle.hys_lex.specs.declared.sign.TheConstants as sign
use Rattle.hys_lex.specs.Spaced.{Spelling, IsSpelled}
use Rattle.hys_ast.specs.declared.place.Place.{Place}
use Rattle.hys_ast.specs.declared.lexeme.Lexeme.{Lexeme}
use Rattle.hys_ast.specs.declared.level.Level.TheVariants as level
use Rattle.hys_ast.specs.declared.source.Section.{Section}
use Rattle.hys_ast.specs.declared.source.Section.TheVariants as section
use Rattle.hys_ast.specs.declared.source.Kind.{Kind}
use Rattle.hys_ast.specs.Grammar.{At, Is, Derives, DerivesExpr, has_bounds, DerivesDecl, DerivesIte, DerivesChoice, DerivesGuard, has_formulas, DerivesItem, kind_of}
use Rattle.hys_ast.specs.Grammar as grammar
use Rattle.hys_ast.specs.Tree.{Tree, Decl, Shape, Plain, Wide, Choice, Item}
use Rattle.hys_ast.specs.Bare.{bare, bare_decl, nowhere}
use Rattle.hys_ast.specs.Printed.{name, mark, expr_words, bounds_words, value_words, decl_words, shape_words, item_words}
use Rattle.hys_ast.proofs.Spelled.{Lawful, lawful_name, Spelled, Spells, further}
use Rattle.hys_ast.proofs.Listed.{open_bracket-spelled, close_bracket-spelled, comma-spelled, equals-spelled, semicolon-spelled, when-spelled, hit-spelled, other-spelled, kind-spelled}
use Rattle.hys_ast.proofs.ValidTrees.{Valid, valid_expr, expr_spelled}
use Rattle.hys_ast.proofs.Regrouped.{Again, expr_again}

-- a declaration as the grammar gives it
pub data Sound : Decl → Type 0 where
  alone : {s : Section} {k : Kind} {n : List ℕ} {p : Place} → IsSpelled (name n) → Sound (record { section = s; kind = k; name = n; place = p; low = None; high = None; value = None })
  bounded : {s : Section} {k : Kind} {n : List ℕ} {p : Place} {low high : Tree} → has_bounds s k ≡ true → IsSpelled (name n) → Valid low → Valid high →
      Sound (record { section = s; kind = k; name = n; place = p; low = Some low; high = Some high; value = None })
  valued : {k : Kind} {n : List ℕ} {p : Place} {e : Tree} → IsSpelled (name n) → Valid e → Sound (record { section = section.Parameter; kind = k; name = n; place = p; low = None; high = None; value = Some e })

pub record DeclRead (s : Section) (d : Decl) (rest : List Lexeme) : Type 0 where
  pub sound : Sound d
  pub section_is : d.section ≡ s
  pub lawful : Lawful rest

pub decl_read : (s : Section) (k : Kind) (ts rest : List Lexeme) (d : Decl) → DerivesDecl s k ts rest d → Lawful ts → DeclRead s d rest
decl_read s k _ rest _ (grammar.plain l i) h = record { sound = alone (lawful_name l i h.0); section_is = refl; lawful = h.1 }
decl_read s k _ rest _ (grammar.bounded {lows = lows} {highs = highs} {low = low} {high = high} l o c e g i j a m b n) h =
    let p : Valid low × Lawful (c ∷ highs) = valid_expr lows (c ∷ highs) low a h.1.1 in
    let q : Valid high × Lawful (e ∷ rest) = valid_expr highs (e ∷ rest) high b p.1.1 in
    record { sound = bounded g (lawful_name l i h.0) p.0 q.0; section_is = refl; lawful = q.1.1 }
decl_read _ k _ rest _ (grammar.valued {next = next} {e = e} l equals i j a) h =
    let p : Valid e × Lawful rest = valid_expr next rest e a h.1.1 in
    record { sound = valued (lawful_name l i h.0) p.0; section_is = refl; lawful = p.1 }

pub decl_spelled : (d : Decl) (more : List Spelling) → Sound d → Spelled more → Spelled (decl_words d more)
decl_spelled d more (alone {k = k} n) h = (kind-spelled k, (n, (semicolon-spelled, h)))
decl_spelled d more (bounded {k = k} {low = low} {high = high} g n v w) h =
    (kind-spelled k, (n, (open_bracket-spelled, expr_spelled low _ v (comma-spelled, expr_spelled high _ w (close_bracket-spelled, (semicolon-spelled, h))))))
decl_spelled d more (valued {k = k} {e = e} n v) h = (kind-spelled k, (n, (equals-spelled, expr_spelled e _ v (semicolon-spelled, h))))

-- the lexemes begin with the declared name, places aside, and go on with these words
pub record DeclAgain (ts : List Lexeme) (more : List Spelling) (d : Decl) : Type 0 where
  pub rest : List Lexeme
  pub found : Decl
  pub derives : DerivesDecl d.section d.kind ts rest found
  pub spells : Spells more rest
  pub same : bare_decl found ≡ bare_decl d

abbrev declared : Section → Kind → Option Tree → Option Tree → Option Tree → List ℕ → Decl
declared s k low high value n = record { section = s; kind = k; name = n; place = nowhere; low = low; high = high; value = value }

bounded_again : (s : Section) (k : Kind) (n : List ℕ) (p : Place) (low high a b : Tree) (more : List Spelling) (l o c : Lexeme) (lows highs rest : List Lexeme) → has_bounds s k ≡ true →
    Is token.Name l → l.text ≡ n → Is (token.Sign sign.OPEN_BRACKET) o → DerivesExpr lows (c ∷ highs) a → bare a ≡ bare low → Is (token.Sign sign.COMMA) c → DerivesExpr highs rest b → bare b ≡ bare high →
    Spells (mark sign.CLOSE_BRACKET (codes "]") ∷ more) rest → DeclAgain (l ∷ o ∷ lows) more (record { section = s; kind = k; name = n; place = p; low = Some low; high = Some high; value = None })
bounded_again s k n p low high a b more l o c lows highs _ g i t j d e m f q (further {l = end} {ls = rest} u v z) = record {
  rest = rest;
  found = record { section = s; kind = k; name = l.text; place = l.place; low = Some a; high = Some b; value = None };
  derives = grammar.bounded l o c end g i j d m f u;
  spells = z;
  same = cc;
}

low_again : (s : Section) (k : Kind) (n : List ℕ) (p : Place) (low high a : Tree) (more : List Spelling) (l o : Lexeme) (lows rest : List Lexeme) → has_bounds s k ≡ true →
    Is token.Name l → l.text ≡ n → Is (token.Sign sign.OPEN_BRACKET) o → DerivesExpr lows rest a → bare a ≡ bare low →
    Spells (mark sign.COMMA (codes ",") ∷ expr_words high (mark sign.CLOSE_BRACKET (codes "]") ∷ more)) rest → DeclAgain (l ∷ o ∷ lows) more (record { section = s; kind = k; name = n; place = p; low = Some low; high = Some high; value = None })
low_again s k n p low high a more l o lows _ g i t j d e (further {l = c} {ls = highs} m v z) =
    let r : Again (At level.Arrow) highs (mark sign.CLOSE_BRACKET (codes "]") ∷ more) high = expr_again high (mark sign.CLOSE_BRACKET (codes "]") ∷ more) highs z in
    bounded_again s k n p low high a r.found more l o c lows highs r.rest g i t j d e m r.derives r.same r.spells

pub decl_again : (d : Decl) (more : List Spelling) (ts : List Lexeme) → Sound d → Spells (name d.name ∷ bounds_words d.low d.high (value_words d.value more)) ts → DeclAgain ts more d
decl_again d more _ (alone {s = s} {k = k} n) (further {l = l} {ls = ts} i t z) = record {
  rest = ts;
  found = record { section = s; kind = k; name = l.text; place = l.place; low = None; high = None; value = None };
  derives = grammar.plain l i;
  spells = z;
  same = ap (declared s k None None None) t;
}
decl_again d more _ (bounded {s = s} {k = k} {n = m} {p = p} {low = low} {high = high} g n v w) (further {l = l} i t (further {l = o} {ls = lows} j q z)) =
    let r : Again (At level.Arrow) lows (mark sign.COMMA (codes ",") ∷ expr_words high (mark sign.CLOSE_BRACKET (codes "]") ∷ more)) low = expr_again low _ lows z in
    low_again s k m p low high r.found more l o lows r.rest g i t j r.derives r.same r.spells
decl_again d more _ (valued {k = k} {n = m} {e = e} n v) (further {l = l} i t (further {l = o} {ls = ts} j q z)) =
    let r : Again (At level.Arrow) ts more e = expr_again e more ts z in
    record {
      rest = r.rest;
      found = record { section = section.Parameter; kind = k; name = l.text; place = l.place; low = None; high = None; value = Some r.found };
      derives = grammar.valued l o i j r.derives;
      spells = r.spells;
      same = let a : bare r.found ≡ bare e = r.same in cc;
    }

-- the right side of an item as the grammar gives it
pub data SoundChoice : Shape → Type 0 where
  short : {a b : Tree} → Valid a → Valid b → SoundChoice (Choice a b None)
  long : {a b c : Tree} → Valid a → Valid b → Valid c → SoundChoice (Choice a b (Some c))

pub data SoundGuard : Shape → Type 0 where
  narrow : {e : Tree} → Valid e → SoundGuard (Plain e)
  wide : {a b : Tree} → Valid a → Valid b → SoundGuard (Wide a b)

pub data SoundItem : Item → Type 0 where
  formula : {s : Section} {n : List ℕ} {p : Place} {e : Tree} → has_formulas s ≡ true → IsSpelled (name n) → Valid e → SoundItem (record { section = s; name = Some n; place = p; shape = Plain e })
  guard : {n : List ℕ} {p : Place} {shape : Shape} → IsSpelled (name n) → SoundGuard shape → SoundItem (record { section = section.Ad; name = Some n; place = p; shape = shape })
  choice : {n : List ℕ} {p : Place} {shape : Shape} → IsSpelled (name n) → SoundChoice shape → SoundItem (record { section = section.Da; name = Some n; place = p; shape = shape })
  must : {p : Place} {e : Tree} → Valid e → SoundItem (record { section = section.Must; name = None; place = p; shape = Plain e })

ite_read : (ts rest : List Lexeme) (shape : Shape) → DerivesIte ts rest shape → Lawful ts → SoundChoice shape × Lawful rest
ite_read _ rest _ (grammar.short {whens = whens} {thens = thens} {a = a} {b = b} i t j d k e) h =
    let p : Valid a × Lawful (t ∷ thens) = valid_expr whens (t ∷ thens) a d h.1 in
    let q : Valid b × Lawful rest = valid_expr thens rest b e p.1.1 in
    (short p.0 q.0, q.1)
ite_read _ rest _ (grammar.long {whens = whens} {thens = thens} {elses = elses} {a = a} {b = b} {c = c} i t e j d k f m g) h =
    let p : Valid a × Lawful (t ∷ thens) = valid_expr whens (t ∷ thens) a d h.1 in
    let q : Valid b × Lawful (e ∷ elses) = valid_expr thens (e ∷ elses) b f p.1.1 in
    let r : Valid c × Lawful rest = valid_expr elses rest c g q.1.1 in
    (long p.0 q.0 r.0, r.1)

choice_read : (ts rest : List Lexeme) (shape : Shape) → DerivesChoice ts rest shape → Lawful ts → SoundChoice shape × Lawful rest
choice_read ts rest shape (grammar.bare d) h = ite_read ts rest shape d h
choice_read _ rest shape (grammar.braced {next = next} o c i d j) h = let p : SoundChoice shape × Lawful (c ∷ rest) = ite_read next (c ∷ rest) shape d h.1 in (p.0, p.1.1)

guard_read : (ts rest : List Lexeme) (shape : Shape) → DerivesGuard ts rest shape → Lawful ts → SoundGuard shape × Lawful rest
guard_read ts rest _ (grammar.narrow {e = e} d) h = let p : Valid e × Lawful rest = valid_expr ts rest e d h in (narrow p.0, p.1)
guard_read ts rest _ (grammar.wide {next = next} {a = a} {b = b} o c d i e j) h =
    let p : Valid a × Lawful (o ∷ next) = valid_expr ts (o ∷ next) a d h in
    let q : Valid b × Lawful (c ∷ rest) = valid_expr next (c ∷ rest) b e p.1.1 in
    (wide p.0 q.0, q.1.1)

pub record ItemRead (s : Section) (i : Item) (rest : List Lexeme) : Type 0 where
  pub sound : SoundItem i
  pub section_is : i.section ≡ s
  pub lawful : Lawful rest

pub item_read : (s : Section) (ts rest : List Lexeme) (i : Item) → DerivesItem s ts rest i → Lawful ts → ItemRead s i rest
item_read s _ rest _ (grammar.formula {next = next} {e = e} l equals end g i j d k) h =
    let p : Valid e × Lawful (end ∷ rest) = valid_expr next (end ∷ rest) e d h.1.1 in
    record { sound = formula g (lawful_name l i h.0) p.0; section_is = refl; lawful = p.1.1 }
item_read _ _ rest _ (grammar.guard {next = next} {shape = shape} l equals end i j d k) h =
    let p : SoundGuard shape × Lawful (end ∷ rest) = guard_read next (end ∷ rest) shape d h.1.1 in
    record { sound = guard (lawful_name l i h.0) p.0; section_is = refl; lawful = p.1.1 }
item_read _ _ rest _ (grammar.choice {next = next} {shape = shape} l equals end i j d k) h =
    let p : SoundChoice shape × Lawful (end ∷ rest) = choice_read next (end ∷ rest) shape d h.1.1 in
    record { sound = choice (lawful_name l i h.0) p.0; section_is = refl; lawful = p.1.1 }
item_read _ _ rest _ (grammar.must {ts = ts} {e = e} l end d k) h =
    let p : Valid e × Lawful (end ∷ rest) = valid_expr (l ∷ ts) (end ∷ rest) e d h in
    record { sound = must p.0; section_is = refl; lawful = p.1.1 }

choice_spelled : (shape : Shape) (more : List Spelling) → SoundChoice shape → Spelled more → Spelled (shape_words shape more)
choice_spelled shape more (short {a = a} {b = b} v w) h = (when-spelled, expr_spelled a _ v (hit-spelled, expr_spelled b _ w h))
choice_spelled shape more (long {a = a} {b = b} {c = c} v w x) h = (when-spelled, expr_spelled a _ v (hit-spelled, expr_spelled b _ w (other-spelled, expr_spelled c _ x h)))

guard_spelled : (shape : Shape) (more : List Spelling) → SoundGuard shape → Spelled more → Spelled (shape_words shape more)
guard_spelled shape more (narrow {e = e} v) h = expr_spelled e _ v h
guard_spelled shape more (wide {a = a} {b = b} v w) h = expr_spelled a _ v (open_bracket-spelled, expr_spelled b _ w (close_bracket-spelled, h))

pub item_spelled : (i : Item) (more : List Spelling) → SoundItem i → Spelled more → Spelled (item_words i more)
item_spelled i more (formula {e = e} g n v) h = (n, (equals-spelled, expr_spelled e _ v (semicolon-spelled, h)))
item_spelled i more (guard {shape = shape} n c) h = (n, (equals-spelled, guard_spelled shape _ c (semicolon-spelled, h)))
item_spelled i more (choice {shape = shape} n c) h = (n, (equals-spelled, choice_spelled shape _ c (semicolon-spelled, h)))
item_spelled i more (must {e = e} v) h = expr_spelled e _ v (semicolon-spelled, h)
