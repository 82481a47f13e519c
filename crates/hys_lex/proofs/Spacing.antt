-- A token that a space follows is the longest match at its place.
use Rattle.std.proofs.Common.{◌≡◌, ◌<◌, ◌≤◌, ◌+◌, ℕ, List, [], ◌∷◌, ◌++◌, length, get_or, take, drop, Bool, true, not, eqb, ltb, ◌&&◌, refl, sym, ◌∙◌, ap, subst, arith, inl, inr, All, map, append_assoc, length-append, length-drop, slice_range, ◌-◌}
use Rattle.std.proofs.lemmas.List.{get_or-take, length-take-le, get_or_at, get_or_append_left, get_or_past, take_at, drop_at}
use Rattle.std.proofs.lemmas.List.Elements.{All-weaker, All-append, All-cons, All-nil, All-head, All-tail}
use Rattle.std.proofs.lemmas.List.Sums.{AllPass-from_list_all}
use Rattle.std.proofs.lemmas.Bool.{cases_lt}
use Rattle.std.proofs.lemmas.Bool.Decides.{nat_tests}
use Rattle.std.specs.List.{AllPass, list_all}
use Rattle.std.specs.Str.{IsAscii}
use Rattle.hys_lex.specs.Bytes.{is_digit, is_name_byte, is_exponent_mark}
use Rattle.hys_lex.specs.Words.{IsAt, signs}
use Rattle.hys_lex.specs.Pieces.{PieceKind, Blank, Block, Line, Lexeme, IsPiece, IsTokenText, IsShort, IsMantissa, IsExponent, IsLiteral}
use Rattle.hys_lex.specs.Cut.{IsMatch, IsFront, Piece, Cut, tokens_from, IsTokenOf}
use Rattle.hys_lex.specs.Spaced.{Spelling, IsSpelled, spelling, spaced, spaced_tokens}
use Rattle.hys_lex.specs.declared.token.Token.{Token}
use Rattle.hys_lex.specs.declared.token.TokenKind.{TokenKind}
use Rattle.hys_lex.specs.declared.token.TokenKind.TheVariants.{Name, Literal, Keyword, Sign}
use Rattle.hys_lex.proofs.Tables.{each}
use Rattle.hys_lex.proofs.Opening.{class, slash_class, slash_kind, IsSlashKind, piece_some}
use Rattle.hys_lex.proofs.Matches.{blank_match}

-- an ASCII byte but the space
abbrev pub Plain : ℕ → Type 0
Plain b = (b < 128) × (b ≡ 32 → ⊥)

abbrev Clear : List ℕ → Type 0
Clear bytes = All Plain bytes

digit-plain : (b : ℕ) → is_digit b ≡ true → Plain b
digit-plain b h = (grind (arith, nat_tests), λ is. let bad : is_digit 32 ≡ true = ap is_digit (sym is) ∙ h in cc)

name_byte-plain : (b : ℕ) → is_name_byte b ≡ true → Plain b
name_byte-plain b h = (grind (arith, nat_tests), λ is. let bad : is_name_byte 32 ≡ true = ap is_name_byte (sym is) ∙ h in cc)

mark-plain : (b : ℕ) → is_exponent_mark b ≡ true → Plain b
mark-plain b h = (grind (arith, nat_tests), λ is. let bad : is_exponent_mark 32 ≡ true = ap is_exponent_mark (sym is) ∙ h in cc)

digits_clear : (bytes : List ℕ) → AllPass is_digit bytes → Clear bytes
digits_clear bytes all = All-weaker (λ b. is_digit b ≡ true) Plain digit-plain bytes all

word_clear : (bytes : List ℕ) → AllPass is_name_byte bytes → Clear bytes
word_clear bytes all = All-weaker (λ b. is_name_byte b ≡ true) Plain name_byte-plain bytes all

one_clear : (b : ℕ) → Plain b → (bytes : List ℕ) → Clear bytes → Clear (b ∷ bytes)
one_clear b other bytes rest = All-cons Plain b bytes other rest

join_clear : (xs ys : List ℕ) → Clear xs → Clear ys → Clear (xs ++ ys)
join_clear xs ys a b = All-append Plain xs ys a b

same_clear : (xs ys : List ℕ) → xs ≡ ys → Clear ys → Clear xs
same_clear xs ys e h = let P : List ℕ → Type 0 = Clear in subst P (sym e) h

mantissa_clear : (bytes : List ℕ) → IsMantissa bytes → Clear bytes
mantissa_clear bytes mantissa = elim mantissa [
  | inl d ↦ digits_clear bytes d.1
  | inr p ↦ same_clear bytes (p.whole ++ (46 ∷ p.part)) p.joined
      (join_clear p.whole (46 ∷ p.part) (digits_clear p.whole p.whole_digits) (one_clear 46 (omega arith, λ e. absurd (omega arith)) p.part (digits_clear p.part p.part_digits)))
]

exponent_clear : (bytes : List ℕ) → IsExponent bytes → Clear bytes
exponent_clear bytes x =
    same_clear bytes (x.mark ∷ (x.sign ++ x.power)) x.joined
    (one_clear x.mark (mark-plain x.mark x.marked) (x.sign ++ x.power)
    (join_clear x.sign x.power
    (elim x.signed [
      | inl e ↦ same_clear x.sign [] e (All-nil Plain)
      | inr r ↦ elim r [
        | inl e ↦ same_clear x.sign (43 ∷ []) e (one_clear 43 (omega arith, λ e'. absurd (omega arith)) [] (All-nil Plain))
        | inr e ↦ same_clear x.sign (45 ∷ []) e (one_clear 45 (omega arith, λ e'. absurd (omega arith)) [] (All-nil Plain))
      ]
    ])
    (digits_clear x.power x.digits.1)))

literal_clear : (bytes : List ℕ) → IsLiteral bytes → Clear bytes
literal_clear bytes l =
    same_clear bytes (l.mantissa ++ l.exponent) l.joined
    (join_clear l.mantissa l.exponent (mantissa_clear l.mantissa l.number) (elim l.power [ inl e ↦ same_clear l.exponent [] e (All-nil Plain) | inr x ↦ exponent_clear l.exponent x ]))

is_plain : ℕ → Bool
is_plain b = (ltb b 128 && not (eqb b 32))

is_plain-plain : (b : ℕ) → is_plain b ≡ true → Plain b
unfolding is_plain
is_plain-plain b h = (grind (arith, nat_tests), λ is. let bad : is_plain 32 ≡ true = ap is_plain (sym is) ∙ h in cc)

sign_clear : (k : ℕ) (bytes : List ℕ) → IsAt signs k bytes → Clear bytes
unfolding signs is_plain
sign_clear k bytes at = All-weaker (λ b. is_plain b ≡ true) Plain is_plain-plain bytes (AllPass-from_list_all is_plain bytes (each (λ b. list_all is_plain b) signs refl k bytes at))

token_clear : (kind : TokenKind) (bytes : List ℕ) → IsTokenText kind bytes → Clear bytes
token_clear Name bytes t = word_clear bytes t.0.1
token_clear Literal bytes t = literal_clear bytes t
token_clear (Keyword k) bytes t = word_clear bytes t.0.1
token_clear (Sign k) bytes t = sign_clear k bytes t

-- a token text that begins with a slash is the sign of division
slash_alone : (kind : TokenKind) (bytes : List ℕ) → IsTokenText kind bytes → get_or bytes 0 0 ≡ 47 → length bytes ≡ 1
unfolding IsSlashKind
slash_alone kind bytes t first = elim (slash_kind (Lexeme kind) bytes (ap class first ∙ slash_class) t) [
  | inl b ↦ absurd (cc (b.0))
  | inr r ↦ elim r [ inl b ↦ absurd (cc (b.0)) | inr b ↦ b.3 ]
]

-- a token and a space, and then more
record Followed (kind : TokenKind) (bytes more text : List ℕ) : Type 0 where
  token : IsTokenText kind bytes
  some : 0 < length bytes
  is : text ≡ bytes ++ (32 ∷ more)

followed : (kind : TokenKind) (bytes more : List ℕ) → IsTokenText kind bytes → Followed kind bytes more (bytes ++ (32 ∷ more))
followed kind bytes more t = record { token = t; some = piece_some (Lexeme kind) bytes t; is = refl }

space_at : (kind : TokenKind) (bytes more text : List ℕ) → Followed kind bytes more text → get_or text (length bytes) 0 ≡ 32
space_at kind bytes more text f = ap (λ xs. get_or xs (length bytes) 0) f.is ∙ get_or_at bytes 32 more 0 (length bytes) refl

first_at : (kind : TokenKind) (bytes more text : List ℕ) → Followed kind bytes more text → get_or text 0 0 ≡ get_or bytes 0 0
first_at kind bytes more text f = ap (λ xs. get_or xs 0 0) f.is ∙ get_or_append_left bytes (32 ∷ more) 0 0 f.some

-- after a slash stands the space
slash_space : (kind : TokenKind) (bytes more text : List ℕ) → Followed kind bytes more text → get_or text 0 0 ≡ 47 → get_or text 1 0 ≡ 32
slash_space kind bytes more text f first =
    let one : length bytes ≡ 1 = slash_alone kind bytes f.token (sym (first_at kind bytes more text f) ∙ first) in
    ap (λ i. get_or text i 0) (sym one) ∙ space_at kind bytes more text f

longer : (kind : TokenKind) (bytes more text : List ℕ) → Followed kind bytes more text → (m : ℕ) (other : PieceKind) → length bytes < m → m ≤ length text → IsPiece other (take m text) → ⊥
longer kind bytes more text f m Blank less within p = omega (arith, p.0, length-take-le m text within, f.some)
longer kind bytes more text f m Block less within p =
    let second : get_or text 1 0 ≡ 42 = sym (get_or-take m text 1 0 (omega (arith, f.some))) ∙ p.opens.1 in
    omega (arith, second, slash_space kind bytes more text f (sym (get_or-take m text 0 0 (omega arith)) ∙ p.opens.0))
longer kind bytes more text f m Line less within p =
    let second : get_or text 1 0 ≡ 47 = sym (get_or-take m text 1 0 (omega (arith, f.some))) ∙ p.second in
    omega (arith, second, slash_space kind bytes more text f (sym (get_or-take m text 0 0 (omega arith)) ∙ p.first))
longer kind bytes more text f m (Lexeme other) less within p =
    (token_clear other (take m text) p (length bytes) 0 (omega (arith, length-take-le m text within))).1 (get_or-take m text (length bytes) 0 less ∙ space_at kind bytes more text f)

pub followed_match : (kind : TokenKind) (bytes more : List ℕ) → IsTokenText kind bytes → IsMatch (bytes ++ (32 ∷ more)) (Lexeme kind) (length bytes)
followed_match kind bytes more t =
    let text : List ℕ = bytes ++ (32 ∷ more) in
    let f : Followed kind bytes more text = followed kind bytes more t in
    let T : List ℕ → Type 0 = λ xs. IsTokenText kind xs in
    record {
      within = omega (arith, length-append bytes (32 ∷ more));
      piece = subst T (sym (take_at bytes (32 ∷ more) (length bytes) refl)) t;
      longest = longer kind bytes more text f;
      comment = λ opens. absurd (omega (arith, opens.1, slash_space kind bytes more text f opens.0));
    }

pieces : List Spelling → List Piece
pieces [] = []
pieces (w ∷ ws) = record { kind = Lexeme w.kind; size = length w.bytes } ∷ (record { kind = Blank; size = 1 } ∷ pieces ws)

front : (ws : List Spelling) → All IsSpelled ws → IsFront (spaced ws) (pieces ws) []
unfolding pieces
front [] all = refl
front (w ∷ ws) all =
    let head : IsSpelled w = All-head IsSpelled w ws all in
    let rest : drop (length w.bytes) (w.bytes ++ (32 ∷ spaced ws)) ≡ 32 ∷ spaced ws = drop_at w.bytes (32 ∷ spaced ws) (length w.bytes) refl in
    let blank : Piece = record { kind = Blank; size = 1 } in
    let F : List ℕ → Type 0 = λ xs. IsFront xs (blank ∷ pieces ws) [] in
    (followed_match w.kind w.bytes (spaced ws) head.0, head.1, subst F (sym rest) (blank_match (32 ∷ spaced ws) refl, tt, front ws (All-tail IsSpelled w ws all)))

piece_tokens : (at : ℕ) (ws : List Spelling) → tokens_from at (pieces ws) ≡ spaced_tokens at ws
unfolding pieces
piece_tokens at [] = refl
piece_tokens at (w ∷ ws) = let t : Token = record { kind = w.kind; from = at; to = at + length w.bytes } in ap (λ ts. t ∷ ts) (piece_tokens (at + length w.bytes + 1) ws)

pub spaced_cut : (ws : List Spelling) → All IsSpelled ws → Cut (spaced ws) (spaced_tokens 0 ws)
spaced_cut ws all = (pieces ws, front ws all, sym (piece_tokens 0 ws))

-- each token of the spaced text is spelled by its word
respelled_from : (before : List ℕ) (at : ℕ) (ws : List Spelling) → at ≡ length before → map (spelling (before ++ spaced ws)) (spaced_tokens at ws) ≡ ws
respelled_from before at [] e = refl
respelled_from before at (w ∷ ws) e =
    let n = length w.bytes in
    let rest : List ℕ = w.bytes ++ (32 ∷ spaced ws) in
    let next : List ℕ = before ++ (w.bytes ++ (32 ∷ [])) in
    let width : at + n - at ≡ n = omega arith in
    let head : slice_range (before ++ rest) at (at + n) ≡ w.bytes =
    ap (λ m. take m (drop at (before ++ rest))) width ∙ ap (take n) (drop_at before rest at (sym e)) ∙ take_at w.bytes (32 ∷ spaced ws) n refl in
    let same : before ++ rest ≡ next ++ spaced ws = ap (λ xs. before ++ xs) (sym (append_assoc w.bytes (32 ∷ []) (spaced ws))) ∙ sym (append_assoc before (w.bytes ++ (32 ∷ [])) (spaced ws)) in
    let place : at + n + 1 ≡ length next = omega (arith, e, length-append before (w.bytes ++ (32 ∷ [])), length-append w.bytes (32 ∷ [])) in
    let tail : map (spelling (before ++ rest)) (spaced_tokens (at + n + 1) ws) ≡ ws = ap (λ text. map (spelling text) (spaced_tokens (at + n + 1) ws)) same ∙ respelled_from next (at + n + 1) ws place in
    ap (λ b. let v : Spelling = record { kind = w.kind; bytes = b } in v ∷ map (spelling (before ++ rest)) (spaced_tokens (at + n + 1) ws)) head ∙ ap (λ vs. w ∷ vs) tail

pub respelled : (ws : List Spelling) → map (spelling (spaced ws)) (spaced_tokens 0 ws) ≡ ws
respelled ws = respelled_from [] 0 ws refl

-- a token of a cut is spelled by its slice
pub token_spelled : (text : List ℕ) (t : Token) → IsTokenOf text t → IsSpelled (spelling text t)
token_spelled text t h =
    let size : length (slice_range text t.from t.to) ≡ t.to - t.from = length-take-le (t.to - t.from) (drop t.from text) (omega (arith, h.within, h.some, length-drop t.from text)) in
    (h.bytes, subst (IsShort t.kind) (sym size) h.short)

pub token_ascii : (text : List ℕ) (t : Token) → IsTokenOf text t → IsAscii (slice_range text t.from t.to)
token_ascii text t h = λ i. elim (cases_lt i (length (slice_range text t.from t.to))) [
  | inl inside ↦ (token_clear t.kind (slice_range text t.from t.to) h.bytes i 0 inside).0
  | inr past ↦ omega (arith, get_or_past (slice_range text t.from t.to) i 0 past)
]
