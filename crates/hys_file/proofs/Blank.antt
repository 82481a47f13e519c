-- A line feed behind a text changes nothing of what is read of it.
use Rattle.std.proofs.Common.{◌≡◌, ℕ, ◌+◌, ◌-◌, List, [], ◌∷◌, ◌++◌, length, take, drop, Bool, true, false, cond, ◌&&◌, ◌||◌, ◌==◌, nat_lt, Option, Some, None, option_map, option_and_then, refl, ◌∙◌, ap, ap₂, arith, length-append}
use Rattle.std.specs.List.{prefix_len}
use Rattle.std.specs.Char.{is_ascii_digit, encode_utf8}
use Rattle.std.proofs.lemmas.List.{take-append-le, drop-append-le}
use Rattle.std.proofs.lemmas.List.Sums.{prefix_len-le-length}
use Rattle.json.specs.Token.{number, boolean, null, bad}
use Rattle.json.specs.Text.{content, code_unit, short_escape, is_high_surrogate, is_low_surrogate, surrogate_pair, prepend, Within, plain, after_backslash, after_u, after_high}
use Rattle.json.specs.Word.{ends_word, after_digits, after_minus, after_sign, after_whole, after_fraction, after_exponent, after_number, number_before, literal, word}
use Rattle.json.specs.Lex.{token, string_token, operator_lexeme, Class, quote, backslash, operator, space, other, class, Mode, between, in_word, in_string, in_escape, lex_byte, lex, punctuate, fresh}
use Rattle.json.specs.Json as json
use Rattle.serde_json.specs.Read.{read, of_json, max_depth}

abbrev more : List ℕ → List ℕ
more t = t ++ 10 ∷ []

-- ---- strings
and_false : (b : Bool) → b && false ≡ false
and_false true = refl
and_false false = refl

no_unit : (a b c : ℕ) → code_unit a b c 10 ≡ None
unfolding code_unit
no_unit a b c = rw (and_false _) refl

both_none : (b : Bool) → cond {A = Option (List ℕ)} b None None ≡ None
both_none true = refl
both_none false = refl

content_more : (w : Within) (t : List ℕ) → content w (more t) ≡ content w t
unfolding content short_escape
content_more plain [] = refl
content_more plain (x ∷ xs) = λ i. cond (x == 34) (Some []) (cond (x == 92) (content_more after_backslash xs i) (cond (nat_lt x 32) None (prepend (x ∷ []) (content_more plain xs i))))
content_more after_backslash [] = refl
content_more after_backslash (x ∷ xs) = λ i. cond (x == 117) (content_more after_u xs i) (option_and_then (λ c. prepend (c ∷ []) (content_more plain xs i)) (short_escape x))
content_more after_u [] = refl
content_more after_u (a ∷ []) = refl
content_more after_u (a ∷ b ∷ []) = refl
content_more after_u (a ∷ b ∷ c ∷ []) = rw (no_unit a b c) refl
content_more after_u (a ∷ b ∷ c ∷ d ∷ xs) =
    λ i. option_and_then (λ u. cond (is_high_surrogate u) (content_more (after_high u) xs i) (cond (is_low_surrogate u) None (prepend (encode_utf8 u) (content_more plain xs i)))) (code_unit a b c d)
content_more (after_high h) [] = refl
content_more (after_high h) (s ∷ []) = refl
content_more (after_high h) (s ∷ u ∷ []) = refl
content_more (after_high h) (s ∷ u ∷ a ∷ []) = refl
content_more (after_high h) (s ∷ u ∷ a ∷ b ∷ []) = refl
content_more (after_high h) (s ∷ u ∷ a ∷ b ∷ c ∷ []) = rw (no_unit a b c) (both_none ((s == 92) && (u == 117)))
content_more (after_high h) (s ∷ u ∷ a ∷ b ∷ c ∷ d ∷ xs) =
    λ i. cond ((s == 92) && (u == 117)) (option_and_then (λ l. cond (is_low_surrogate l) (prepend (encode_utf8 (surrogate_pair h l)) (content_more plain xs i)) None) (code_unit a b c d)) None

-- ---- words
ends_more : (t : List ℕ) → ends_word (more t) ≡ ends_word t
ends_more [] = refl
ends_more (x ∷ xs) = refl

cond_more : (b : Bool) (t u : List ℕ) → cond b (more t) (more u) ≡ more (cond b t u)
cond_more true t u = refl
cond_more false t u = refl

cond_some : (b : Bool) (t : List ℕ) (o : Option (List ℕ)) → cond b (Some (more t)) (option_map more o) ≡ option_map more (cond b (Some t) o)
cond_some true t o = refl
cond_some false t o = refl

cond_other : (b : Bool) (t : List ℕ) (o : Option (List ℕ)) → cond b (option_map more o) (Some (more t)) ≡ option_map more (cond b o (Some t))
cond_other true t o = refl
cond_other false t o = refl

prefix_more : (t : List ℕ) → prefix_len is_ascii_digit (more t) ≡ prefix_len is_ascii_digit t
prefix_more [] = refl
prefix_more (x ∷ xs) = ap (λ n. cond (is_ascii_digit x) (1 + n) 0) (prefix_more xs)

none_or : (b : Bool) (t : List ℕ) → cond b None (Some (more t)) ≡ option_map more (cond b None (Some t))
none_or true t = refl
none_or false t = refl

digits_more : (t : List ℕ) → after_digits (more t) ≡ option_map more (after_digits t)
digits_more t =
    (λ i. cond (prefix_more t i == 0) None (Some (drop (prefix_more t i) (more t))))
    ∙ ap (λ r. cond (prefix_len is_ascii_digit t == 0) None (Some r)) (drop-append-le (prefix_len is_ascii_digit t) t (10 ∷ []) (prefix_len-le-length is_ascii_digit t))
    ∙ none_or (prefix_len is_ascii_digit t == 0) (drop (prefix_len is_ascii_digit t) t)

minus_more : (t : List ℕ) → after_minus (more t) ≡ more (after_minus t)
minus_more [] = refl
minus_more (x ∷ xs) = cond_more (x == 45) xs (x ∷ xs)

sign_more : (t : List ℕ) → after_sign (more t) ≡ more (after_sign t)
sign_more [] = refl
sign_more (x ∷ xs) = cond_more ((x == 45) || (x == 43)) xs (x ∷ xs)

whole_more : (t : List ℕ) → after_whole (more t) ≡ option_map more (after_whole t)
whole_more [] = refl
whole_more (x ∷ xs) = ap (λ o. cond (x == 48) (Some (more xs)) o) (digits_more (x ∷ xs)) ∙ cond_some (x == 48) xs (after_digits (x ∷ xs))

fraction_more : (t : List ℕ) → after_fraction (more t) ≡ option_map more (after_fraction t)
fraction_more [] = refl
fraction_more (x ∷ xs) = ap (λ o. cond (x == 46) o (Some (more (x ∷ xs)))) (digits_more xs) ∙ cond_other (x == 46) (x ∷ xs) (after_digits xs)

exponent_more : (t : List ℕ) → after_exponent (more t) ≡ option_map more (after_exponent t)
exponent_more [] = refl
exponent_more (x ∷ xs) =
    ap (λ o. cond ((x == 101) || (x == 69)) o (Some (more (x ∷ xs)))) (ap after_digits (sign_more xs) ∙ digits_more (after_sign xs))
    ∙ cond_other ((x == 101) || (x == 69)) (x ∷ xs) (after_digits (after_sign xs))

then_more : (f : List ℕ → Option (List ℕ)) (o : Option (List ℕ)) → ((t : List ℕ) → f (more t) ≡ option_map more (f t)) → option_and_then f (option_map more o) ≡ option_map more (option_and_then f o)
then_more f None h = refl
then_more f (Some t) h = h t

number_more : (t : List ℕ) → after_number (more t) ≡ option_map more (after_number t)
unfolding after_number
number_more t =
    ap (λ u. option_and_then after_exponent (option_and_then after_fraction (after_whole u))) (minus_more t)
    ∙ ap (λ o. option_and_then after_exponent (option_and_then after_fraction o)) (whole_more (after_minus t))
    ∙ ap (option_and_then after_exponent) (then_more after_fraction (after_whole (after_minus t)) fraction_more)
    ∙ then_more after_exponent (option_and_then after_fraction (after_whole (after_minus t))) exponent_more

before_more : (t : List ℕ) (o : Option (List ℕ)) → number_before (more t) (option_map more o) ≡ number_before t o
before_more t None = refl
before_more t (Some rest) =
    let n : length (more t) - length (more rest) ≡ length t - length rest = omega (arith, length-append t (10 ∷ []), length-append rest (10 ∷ [])) in
    (λ i. cond (ends_more rest i) (number (take (n i) (more t))) bad)
    ∙ ap (λ u. cond (ends_word rest) (number u) bad) (take-append-le (length t - length rest) t (10 ∷ []) (omega arith))

true_more : (t : List ℕ) → literal (116 ∷ 114 ∷ 117 ∷ 101 ∷ []) (boolean true) (more t) ≡ literal (116 ∷ 114 ∷ 117 ∷ 101 ∷ []) (boolean true) t
true_more [] = refl
true_more (a ∷ []) = refl
true_more (a ∷ b ∷ []) = refl
true_more (a ∷ b ∷ c ∷ []) = refl
true_more (a ∷ b ∷ c ∷ d ∷ []) = refl
true_more (a ∷ b ∷ c ∷ d ∷ e ∷ xs) = refl

false_more : (t : List ℕ) → literal (102 ∷ 97 ∷ 108 ∷ 115 ∷ 101 ∷ []) (boolean false) (more t) ≡ literal (102 ∷ 97 ∷ 108 ∷ 115 ∷ 101 ∷ []) (boolean false) t
false_more [] = refl
false_more (a ∷ []) = refl
false_more (a ∷ b ∷ []) = refl
false_more (a ∷ b ∷ c ∷ []) = refl
false_more (a ∷ b ∷ c ∷ d ∷ []) = refl
false_more (a ∷ b ∷ c ∷ d ∷ e ∷ []) = refl
false_more (a ∷ b ∷ c ∷ d ∷ e ∷ f ∷ xs) = refl

null_more : (t : List ℕ) → literal (110 ∷ 117 ∷ 108 ∷ 108 ∷ []) null (more t) ≡ literal (110 ∷ 117 ∷ 108 ∷ 108 ∷ []) null t
null_more [] = refl
null_more (a ∷ []) = refl
null_more (a ∷ b ∷ []) = refl
null_more (a ∷ b ∷ c ∷ []) = refl
null_more (a ∷ b ∷ c ∷ d ∷ []) = refl
null_more (a ∷ b ∷ c ∷ d ∷ e ∷ xs) = refl

word_more : (x : ℕ) (xs : List ℕ) → word (x ∷ more xs) ≡ word (x ∷ xs)
unfolding word
word_more x xs = λ i. cond (x == 116) (true_more (x ∷ xs) i) (cond (x == 102) (false_more (x ∷ xs) i) (cond (x == 110) (null_more (x ∷ xs) i) (numbers i)))
  where
    numbers : number_before (x ∷ more xs) (after_number (x ∷ more xs)) ≡ number_before (x ∷ xs) (after_number (x ∷ xs))
    numbers = ap (number_before (x ∷ more xs)) (number_more (x ∷ xs)) ∙ before_more (x ∷ xs) (after_number (x ∷ xs))

-- ---- lexemes and tokens
byte_more : (m : Mode) (c : Class) (x : ℕ) (xs : List ℕ) → ((n : Mode) → lex n (more xs) ≡ lex n xs) → lex_byte m c x (more xs) (λ n. lex n (more xs)) ≡ lex_byte m c x xs (λ n. lex n xs)
byte_more between quote x xs h = ap₂ (λ o l. token (string_token o) ∷ l) (content_more plain xs) (h in_string)
byte_more between backslash x xs h = ap (λ l. token bad ∷ l) (h in_word)
byte_more between operator x xs h = ap (λ l. operator_lexeme x ∷ l) (h between)
byte_more between space x xs h = h between
byte_more between other x xs h = ap₂ (λ w l. token w ∷ l) (word_more x xs) (h in_word)
byte_more in_word quote x xs h = h in_word
byte_more in_word backslash x xs h = h in_word
byte_more in_word operator x xs h = ap (λ l. operator_lexeme x ∷ l) (h between)
byte_more in_word space x xs h = h between
byte_more in_word other x xs h = h in_word
byte_more in_string quote x xs h = h between
byte_more in_string backslash x xs h = h in_escape
byte_more in_string operator x xs h = h in_string
byte_more in_string space x xs h = h in_string
byte_more in_string other x xs h = h in_string
byte_more in_escape c x xs h = h in_string

lex_more : (m : Mode) (t : List ℕ) → lex m (more t) ≡ lex m t
unfolding lex
lex_more between [] = refl
lex_more in_word [] = refl
lex_more in_string [] = refl
lex_more in_escape [] = refl
lex_more m (x ∷ xs) = byte_more m (class x) x xs (λ n. lex_more n xs)

pub read_more : (t : List ℕ) → read (t ++ 10 ∷ []) ≡ read t
read_more t = ap (λ ls. option_and_then of_json (option_and_then (λ p. json.if_last p.0 p.1) (json.value max_depth (punctuate fresh ls)))) (lex_more between t)
