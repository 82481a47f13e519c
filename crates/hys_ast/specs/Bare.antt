-- Trees with their places set aside, and the texts of a source.
use Rattle.std.specs.Prelude.{◌≡◌, ℕ, List, Option, Some, None, map}
use Rattle.hys_lex.specs.declared.token.Token.{Token}
use Rattle.hys_lex.specs.Cut.{Cut}
use Rattle.hys_ast.specs.declared.place.Place.{Place}
use Rattle.hys_ast.specs.Tree.{Tree, Number, Name, Truth, Cast, Unary, Binary, Decl, Shape, Plain, Wide, Choice, Item, Source}
use Rattle.hys_ast.specs.Grammar.{IsTreeOf}

-- the place that stands for every place
abbrev pub nowhere : Place
nowhere = record { byte = 0; line = 0; col = 0 }

abbrev pub bare : Tree → Tree
bare (Number text place) = Number text nowhere
bare (Name text place) = Name text nowhere
bare (Truth value place) = Truth value nowhere
bare (Cast text place) = Cast text nowhere
bare (Unary op a place) = Unary op (bare a) nowhere
bare (Binary op a b place) = Binary op (bare a) (bare b) nowhere

abbrev pub maybe_bare : Option Tree → Option Tree
maybe_bare None = None
maybe_bare (Some e) = Some (bare e)

abbrev pub bare_decl : Decl → Decl
bare_decl d = record { section = d.section; kind = d.kind; name = d.name; place = nowhere; low = maybe_bare d.low; high = maybe_bare d.high; value = maybe_bare d.value }

abbrev pub bare_shape : Shape → Shape
bare_shape (Plain e) = Plain (bare e)
bare_shape (Wide a b) = Wide (bare a) (bare b)
bare_shape (Choice a b c) = Choice (bare a) (bare b) (maybe_bare c)

abbrev pub bare_item : Item → Item
bare_item i = record { section = i.section; name = i.name; place = nowhere; shape = bare_shape i.shape }

abbrev pub bare_source : Source → Source
bare_source s = record { system = s.system; decls = map bare_decl s.decls; items = map bare_item s.items }

-- the two sources are the same but for the places in them
abbrev pub SamePlacesAside : Source → Source → Type 0
SamePlacesAside s t = bare_source s ≡ bare_source t

-- the text has a cut whose tokens derive the source, places aside
pub record PrintOf (text : List ℕ) (s : Source) : Type 0 where
  pub tokens : List Token
  pub tree : Source
  pub cut : Cut text tokens
  pub derives : IsTreeOf text tokens tree
  pub same : SamePlacesAside tree s

-- some text has a cut whose tokens derive the source, places aside
pub record HasText (s : Source) : Type 0 where
  pub text : List ℕ
  pub tokens : List Token
  pub tree : Source
  pub cut : Cut text tokens
  pub derives : IsTreeOf text tokens tree
  pub same : SamePlacesAside tree s
