-- Places in a text, and its tokens with their places and texts.
use Rattle.std.specs.Prelude.{ℕ, suc, ◌+◌, ◌==◌, List, [], ◌∷◌, length, take, map, slice_range, if◌then◌else◌}
use Rattle.hys_lex.specs.declared.token.Token.{Token}
use Rattle.hys_lex.specs.declared.token.TokenKind.{TokenKind}
use Rattle.hys_lex.specs.declared.token.TokenKind.TheVariants.{Name, Literal, Keyword, Sign}
use Rattle.hys_ast.specs.declared.place.Place.{Place}
use Rattle.hys_ast.specs.declared.lexeme.Lexeme.{Lexeme}

-- how many line feeds there are
abbrev pub line_feeds : List ℕ → ℕ
line_feeds [] = 0
line_feeds (b ∷ bs) = if b == 10 then suc (line_feeds bs) else line_feeds bs

-- how many bytes stand behind the last line feed, all of them where there is none
abbrev pub since_line_feed : List ℕ → ℕ
since_line_feed [] = 0
since_line_feed (b ∷ bs) = if line_feeds (b ∷ bs) == 0 then suc (length bs) else since_line_feed bs

-- the place with so many bytes before it
unfoldable pub place_at : List ℕ → ℕ → Place
place_at text byte = record { byte = byte; line = 1 + line_feeds (take byte text); col = 1 + since_line_feed (take byte text) }

-- the text of a name or a literal
abbrev pub text_at : List ℕ → TokenKind → ℕ → ℕ → List ℕ
text_at text Name from to = slice_range text from to
text_at text Literal from to = slice_range text from to
text_at text (Keyword k) from to = []
text_at text (Sign s) from to = []

abbrev pub lexeme_of : List ℕ → Token → Lexeme
lexeme_of text t = record { kind = t.kind; text = text_at text t.kind t.from t.to; place = place_at text t.from }

-- the tokens of the text as lexemes
abbrev pub lexemes_of : List ℕ → List Token → List Lexeme
lexemes_of text tokens = map (lexeme_of text) tokens
