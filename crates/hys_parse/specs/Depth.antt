-- How deep a token stands, as its tokens alone tell.
use Rattle.std.specs.Prelude.{◌≡◌, ℕ, suc, ◌+◌, ◌-◌, ◌<◌, ◌≤◌, ◌==◌, ◌||◌, ◌⊎◌, Bool, true, false, IsTrue, List, [], ◌∷◌, ◌++◌, length, take, fold, if◌then◌else◌}
use Rattle.std.specs.List.{AllByRecursion, count_by}
use Rattle.hys_lex.specs.declared.token.Token.{Token}
use Rattle.hys_lex.specs.declared.token.TokenKind.{TokenKind}
use Rattle.hys_lex.specs.declared.token.TokenKind.TheVariants.{Name, Literal, Keyword, Sign}
use Rattle.hys_lex.specs.declared.sign.TheConstants as sign

-- ---- what depth is
abbrev pub is_opening : TokenKind → Bool
is_opening Name = false
is_opening Literal = false
is_opening (Keyword k) = false
is_opening (Sign s) = s == sign.OPEN_PARENTHESIS

abbrev pub is_closing : TokenKind → Bool
is_closing Name = false
is_closing Literal = false
is_closing (Keyword k) = false
is_closing (Sign s) = s == sign.CLOSE_PARENTHESIS

-- one of `~ ! - +`
abbrev pub is_prefix : TokenKind → Bool
is_prefix Name = false
is_prefix Literal = false
is_prefix (Keyword k) = false
is_prefix (Sign s) = s == sign.TILDE || s == sign.BANG || s == sign.MINUS || s == sign.PLUS

-- A `(` just before these tokens is closed among them: some of the first of them have more `)`
-- than `(`.
abbrev pub IsClosedAmong : List Token → Type 0
IsClosedAmong ts = (j : ℕ) × (count_by (λ t. is_opening t.kind) (take j ts) < count_by (λ t. is_closing t.kind) (take j ts))

-- So many `(` of the tokens are not closed among those behind them.
pub data Unclosed : List Token → ℕ → Type 0 where
  none : Unclosed [] 0
  stays : {t : Token} {ts : List Token} {n : ℕ} → is_opening t.kind ≡ true → (IsClosedAmong ts → ⊥) → Unclosed ts n → Unclosed (t ∷ ts) (suc n)
  ended : {t : Token} {ts : List Token} {n : ℕ} → is_opening t.kind ≡ true → IsClosedAmong ts → Unclosed ts n → Unclosed (t ∷ ts) n
  other : {t : Token} {ts : List Token} {n : ℕ} → is_opening t.kind ≡ false → Unclosed ts n → Unclosed (t ∷ ts) n

-- The last so many tokens are `~ ! - +`, and the one before them is not.
pub record EndsIn (ts : List Token) (n : ℕ) : Type 0 where
  pub front : List Token
  pub run : List Token
  pub joined : ts ≡ front ++ run
  pub size : length run ≡ n
  pub all : AllByRecursion (λ t. IsTrue (is_prefix t.kind)) run
  pub whole : (front ≡ []) ⊎ ((before : List Token) × (t : Token) × (front ≡ before ++ t ∷ []) × (is_prefix t.kind ≡ false))

-- The depth of token k: the number of `(` before it that are not closed before it, and the length
-- of the run of `~ ! - +` that ends just before it. A `)` without an open `(` counts nothing.
pub record IsDepth (tokens : List Token) (k d : ℕ) : Type 0 where
  pub unclosed : ℕ
  pub signs : ℕ
  pub stand_open : Unclosed (take k tokens) unclosed
  pub ends : EndsIn (take k tokens) signs
  pub sum : d ≡ unclosed + signs

-- ---- how it is counted
-- how many parentheses are open behind a token, if so many are before it
abbrev pub opened : ℕ → TokenKind → ℕ
opened n Name = n
opened n Literal = n
opened n (Keyword k) = n
opened n (Sign s) = if s == sign.OPEN_PARENTHESIS then n + 1 else (if s == sign.CLOSE_PARENTHESIS then n - 1 else n)

-- how many of `~ ! - +` stand one behind the other up to a token, if so many do before it
abbrev pub run_on : ℕ → TokenKind → ℕ
run_on n Name = 0
run_on n Literal = 0
run_on n (Keyword k) = 0
run_on n (Sign s) = if s == sign.TILDE then n + 1 else (if s == sign.BANG then n + 1 else (if s == sign.MINUS then n + 1 else (if s == sign.PLUS then n + 1 else 0)))

abbrev pub open_before : List Token → ℕ → ℕ
open_before tokens k = fold (λ n t. opened n t.kind) 0 (take k tokens)

abbrev pub run_before : List Token → ℕ → ℕ
run_before tokens k = fold (λ n t. run_on n t.kind) 0 (take k tokens)

-- the depth of token k
abbrev pub depth : List Token → ℕ → ℕ
depth tokens k = open_before tokens k + run_before tokens k

-- token k is the first that is deeper than 64
pub record IsFirstDeep (tokens : List Token) (k : ℕ) : Type 0 where
  pub within : k < length tokens
  pub deep : 64 < depth tokens k
  pub first : (j : ℕ) → j < k → depth tokens j ≤ 64

-- no token is deeper than 64
abbrev pub IsShallow : List Token → Type 0
IsShallow tokens = (k : ℕ) → k < length tokens → depth tokens k ≤ 64
