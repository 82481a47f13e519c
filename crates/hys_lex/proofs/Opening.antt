-- A piece is known by its first byte, and by its second after a slash.
use Rattle.std.proofs.Common.{◌≡◌, ◌<◌, ◌≤◌, ◌⊎◌, ℕ, zero, suc, List, [], ◌∷◌, length, get_or, Bool, true, false, not, cond, refl, sym, ◌∙◌, ap, arith, inl, inr, ◌==◌, ◌&&◌, eqb, ◌++◌}
use Rattle.std.proofs.lemmas.Bool.{cases_lt, false≢true}
use Rattle.std.proofs.lemmas.Bool.Decides.{nat_tests}
use Rattle.std.proofs.lemmas.List.{get_or_append_left, get_or_past}
use Rattle.std.proofs.lemmas.List.Sums.{AllPass-from_list_all}
use Rattle.std.proofs.lemmas.Slice.Eq.{bytes_eq-Decides}
use Rattle.std.specs.List.{AllPass, list_all}
use Rattle.std.specs.Str.{bytes_eq}
use Rattle.hys_lex.specs.Bytes.{is_blank, is_letter, is_digit, begins_literal}
use Rattle.hys_lex.specs.Words.{IsAt, keywords, signs}
use Rattle.hys_lex.specs.Pieces.{PieceKind, Blank, Block, Line, Lexeme, IsWord, IsBlock, IsLine, IsLiteral, IsMantissa, IsPiece}
use Rattle.hys_lex.specs.declared.token.TokenKind.TheVariants.{Name, Literal, Keyword, Sign}
use Rattle.hys_lex.proofs.Tables.{each, some_byte, and_both}
use Rattle.hys_lex.proofs.Literals.{mantissa_some}

pub data Class : Type 0 where
  Gap : Class
  Word : Class
  Number : Class
  Slash : Class
  Mark : Class

pub class : ℕ → Class
class b = cond (is_blank b) Gap (cond (is_letter b) Word (cond (begins_literal b) Number (cond (b == 47) Slash Mark)))

letter-no_blank : (b : ℕ) → is_letter b ≡ true → is_blank b ≡ false
letter-no_blank b h = grind (arith, nat_tests)

number-no_blank : (b : ℕ) → begins_literal b ≡ true → is_blank b ≡ false
number-no_blank b h = grind (arith, nat_tests)

number-no_letter : (b : ℕ) → begins_literal b ≡ true → is_letter b ≡ false
number-no_letter b h = grind (arith, nat_tests)

pub blank_class : (b : ℕ) → is_blank b ≡ true → class b ≡ Gap
unfolding class
blank_class b h = rw h

pub letter_class : (b : ℕ) → is_letter b ≡ true → class b ≡ Word
unfolding class
letter_class b h = let none : is_blank b ≡ false = letter-no_blank b h in rw (none, h)

pub number_class : (b : ℕ) → begins_literal b ≡ true → class b ≡ Number
unfolding class
number_class b h = let blank : is_blank b ≡ false = number-no_blank b h in let letter : is_letter b ≡ false = number-no_letter b h in rw (blank, letter, h)

pub slash_class : class 47 ≡ Slash
unfolding class
slash_class = refl

pub mark_class : (b : ℕ) → is_blank b ≡ false → is_letter b ≡ false → begins_literal b ≡ false → (b ≡ 47 → ⊥) → class b ≡ Mark
unfolding class
mark_class b blank letter number slash = let other : (b == 47) ≡ false = grind (arith, nat_tests) in rw (blank, letter, number, other)

digit-begins : (b : ℕ) → is_digit b ≡ true → begins_literal b ≡ true
digit-begins b h = rw h

mantissa_begins : (bytes : List ℕ) → IsMantissa bytes → begins_literal (get_or bytes 0 0) ≡ true
mantissa_begins bytes mantissa = elim mantissa [ inl d ↦ digit-begins (get_or bytes 0 0) (d.1 0 0 d.0) | inr p ↦ pointed p.whole p.part p.whole_digits bytes p.joined ]
  where
    pointed : (whole part : List ℕ) → AllPass is_digit whole → (bytes : List ℕ) → bytes ≡ whole ++ (46 ∷ part) → begins_literal (get_or bytes 0 0) ≡ true
    pointed [] part digits bytes joined = ap (λ xs. begins_literal (get_or xs 0 0)) joined
    pointed (d ∷ whole) part digits bytes joined = ap (λ xs. begins_literal (get_or xs 0 0)) joined ∙ digit-begins d (digits 0 0 (omega arith))

literal_begins : (bytes : List ℕ) → IsLiteral bytes → begins_literal (get_or bytes 0 0) ≡ true
literal_begins bytes l =
    let same : get_or bytes 0 0 ≡ get_or l.mantissa 0 0 = ap (λ xs. get_or xs 0 0) l.joined ∙ get_or_append_left l.mantissa l.exponent 0 0 (mantissa_some l.mantissa l.number) in
    ap begins_literal same ∙ mantissa_begins l.mantissa l.number

sign_test : Class → ℕ → Bool
sign_test Gap size = false
sign_test Word size = false
sign_test Number size = false
sign_test Slash size = eqb size 1
sign_test Mark size = true

opens_blank : (bytes : List ℕ) → IsPiece Blank bytes → class (get_or bytes 0 0) ≡ Gap
opens_blank bytes p = blank_class (get_or bytes 0 0) p.1

opens_block : (bytes : List ℕ) → IsBlock bytes → class (get_or bytes 0 0) ≡ Slash
opens_block bytes p = ap class p.opens.0 ∙ slash_class

opens_line : (bytes : List ℕ) → IsLine bytes → class (get_or bytes 0 0) ≡ Slash
opens_line bytes p = ap class p.first ∙ slash_class

opens_word : (bytes : List ℕ) → IsWord bytes → class (get_or bytes 0 0) ≡ Word
opens_word bytes p = letter_class (get_or bytes 0 0) p.0

opens_literal : (bytes : List ℕ) → IsLiteral bytes → class (get_or bytes 0 0) ≡ Number
opens_literal bytes p = number_class (get_or bytes 0 0) (literal_begins bytes p)

one_byte : (n : ℕ) → eqb n 1 ≡ true → n ≡ 1
one_byte n h = grind (arith, nat_tests)

opens_sign : (k : ℕ) (bytes : List ℕ) → IsAt signs k bytes → ((class (get_or bytes 0 0) ≡ Slash) × (length bytes ≡ 1)) ⊎ (class (get_or bytes 0 0) ≡ Mark)
unfolding signs class sign_test
opens_sign k bytes at = by_class (class (get_or bytes 0 0)) refl (each (λ b. sign_test (class (get_or b 0 0)) (length b)) signs refl k bytes at)
  where
    by_class : (c : Class) → class (get_or bytes 0 0) ≡ c → sign_test c (length bytes) ≡ true → ((class (get_or bytes 0 0) ≡ Slash) × (length bytes ≡ 1)) ⊎ (class (get_or bytes 0 0) ≡ Mark)
    by_class Gap e h = cc
    by_class Word e h = cc
    by_class Number e h = cc
    by_class Slash e h = inl (e, one_byte (length bytes) h)
    by_class Mark e h = inr e

pub gap_kind : (k : PieceKind) (bytes : List ℕ) → class (get_or bytes 0 0) ≡ Gap → IsPiece k bytes → k ≡ Blank
gap_kind Blank bytes e p = refl
gap_kind Block bytes e p = cc (opens_block bytes p)
gap_kind Line bytes e p = cc (opens_line bytes p)
gap_kind (Lexeme Name) bytes e p = cc (opens_word bytes p.0)
gap_kind (Lexeme Literal) bytes e p = cc (opens_literal bytes p)
gap_kind (Lexeme (Keyword i)) bytes e p = cc (opens_word bytes p.0)
gap_kind (Lexeme (Sign i)) bytes e p = elim (opens_sign i bytes p) [ inl s ↦ absurd (cc (s.0)) | inr s ↦ absurd (cc) ]

-- a name, or the keyword at a place
unfoldable pub IsWordKind : PieceKind → List ℕ → Type 0
IsWordKind k bytes = ((k ≡ Lexeme Name) × ((i : ℕ) → IsAt keywords i bytes → ⊥)) ⊎ ((i : ℕ) × (k ≡ Lexeme (Keyword i)) × IsAt keywords i bytes)

pub word_kind : (k : PieceKind) (bytes : List ℕ) → class (get_or bytes 0 0) ≡ Word → IsPiece k bytes → IsWord bytes × IsWordKind k bytes
unfolding IsWordKind
word_kind Blank bytes e p = absurd (cc (opens_blank bytes p))
word_kind Block bytes e p = absurd (cc (opens_block bytes p))
word_kind Line bytes e p = absurd (cc (opens_line bytes p))
word_kind (Lexeme Name) bytes e p = (p.0, inl (refl, p.1))
word_kind (Lexeme Literal) bytes e p = absurd (cc (opens_literal bytes p))
word_kind (Lexeme (Keyword i)) bytes e p = (p.0, inr (i, refl, p.1))
word_kind (Lexeme (Sign i)) bytes e p = elim (opens_sign i bytes p) [ inl s ↦ absurd (cc (s.0)) | inr s ↦ absurd (cc) ]

pub number_kind : (k : PieceKind) (bytes : List ℕ) → class (get_or bytes 0 0) ≡ Number → IsPiece k bytes → (k ≡ Lexeme Literal) × IsLiteral bytes
number_kind Blank bytes e p = absurd (cc (opens_blank bytes p))
number_kind Block bytes e p = absurd (cc (opens_block bytes p))
number_kind Line bytes e p = absurd (cc (opens_line bytes p))
number_kind (Lexeme Name) bytes e p = absurd (cc (opens_word bytes p.0))
number_kind (Lexeme Literal) bytes e p = (refl, p)
number_kind (Lexeme (Keyword i)) bytes e p = absurd (cc (opens_word bytes p.0))
number_kind (Lexeme (Sign i)) bytes e p = elim (opens_sign i bytes p) [ inl s ↦ absurd (cc (s.0)) | inr s ↦ absurd (cc) ]

-- a comment, by its second byte, or a sign of one byte
unfoldable pub IsSlashKind : PieceKind → List ℕ → Type 0
IsSlashKind k bytes = ((k ≡ Block) × (get_or bytes 1 0 ≡ 42) × IsBlock bytes) ⊎ (((k ≡ Line) × (get_or bytes 1 0 ≡ 47) × IsLine bytes) ⊎ ((i : ℕ) × (k ≡ Lexeme (Sign i)) × IsAt signs i bytes × (length bytes ≡ 1)))

pub slash_kind : (k : PieceKind) (bytes : List ℕ) → class (get_or bytes 0 0) ≡ Slash → IsPiece k bytes → IsSlashKind k bytes
unfolding IsSlashKind
slash_kind Blank bytes e p = absurd (cc (opens_blank bytes p))
slash_kind Block bytes e p = inl (refl, p.opens.1, p)
slash_kind Line bytes e p = inr (inl (refl, p.second, p))
slash_kind (Lexeme Name) bytes e p = absurd (cc (opens_word bytes p.0))
slash_kind (Lexeme Literal) bytes e p = absurd (cc (opens_literal bytes p))
slash_kind (Lexeme (Keyword i)) bytes e p = absurd (cc (opens_word bytes p.0))
slash_kind (Lexeme (Sign i)) bytes e p = elim (opens_sign i bytes p) [ inl s ↦ inr (inr (i, refl, p, s.1)) | inr s ↦ absurd (cc) ]

pub mark_kind : (k : PieceKind) (bytes : List ℕ) → class (get_or bytes 0 0) ≡ Mark → IsPiece k bytes → (i : ℕ) × (k ≡ Lexeme (Sign i)) × IsAt signs i bytes
mark_kind Blank bytes e p = absurd (cc (opens_blank bytes p))
mark_kind Block bytes e p = absurd (cc (opens_block bytes p))
mark_kind Line bytes e p = absurd (cc (opens_line bytes p))
mark_kind (Lexeme Name) bytes e p = absurd (cc (opens_word bytes p.0))
mark_kind (Lexeme Literal) bytes e p = absurd (cc (opens_literal bytes p))
mark_kind (Lexeme (Keyword i)) bytes e p = absurd (cc (opens_word bytes p.0))
mark_kind (Lexeme (Sign i)) bytes e p = (i, refl, p)

-- the words of a table differ
all_apart : List (List ℕ) → Bool
all_apart [] = true
all_apart (w ∷ ws) = (list_all (λ x. not (bytes_eq w x)) ws && all_apart ws)

differs : (w : List ℕ) (ws : List (List ℕ)) → list_all (λ x. not (bytes_eq w x)) ws ≡ true → (k : ℕ) → k < length ws → w ≡ get_or ws k [] → ⊥
differs w ws all k inside same =
    let other : not (bytes_eq w (get_or ws k [])) ≡ true = AllPass-from_list_all (λ x. not (bytes_eq w x)) ws all k [] inside in
    let equal : bytes_eq w (get_or ws k []) ≡ true = (bytes_eq-Decides w (get_or ws k [])).1 same in
    false≢true (sym (ap not equal) ∙ other)

same_index : (ws : List (List ℕ)) → all_apart ws ≡ true → (i j : ℕ) → i < length ws → j < length ws → get_or ws i [] ≡ get_or ws j [] → i ≡ j
unfolding all_apart
same_index [] apart i j ii jj same = absurd (omega arith)
same_index (w ∷ ws) apart zero zero ii jj same = refl
same_index (w ∷ ws) apart zero (suc j) ii jj same = absurd (differs w ws (and_both (list_all (λ x. not (bytes_eq w x)) ws) (all_apart ws) apart).0 j (omega arith) same)
same_index (w ∷ ws) apart (suc i) zero ii jj same = absurd (differs w ws (and_both (list_all (λ x. not (bytes_eq w x)) ws) (all_apart ws) apart).0 i (omega arith) (sym same))
same_index (w ∷ ws) apart (suc i) (suc j) ii jj same = ap suc (same_index ws (and_both (list_all (λ x. not (bytes_eq w x)) ws) (all_apart ws) apart).1 i j (omega arith) (omega arith) same)

one_keyword : (i j : ℕ) (bytes : List ℕ) → IsAt keywords i bytes → IsAt keywords j bytes → i ≡ j
unfolding keywords all_apart
one_keyword i j bytes a b = same_index keywords refl i j a.0 b.0 (a.1 ∙ sym b.1)

one_sign : (i j : ℕ) (bytes : List ℕ) → IsAt signs i bytes → IsAt signs j bytes → i ≡ j
unfolding signs all_apart
one_sign i j bytes a b = same_index signs refl i j a.0 b.0 (a.1 ∙ sym b.1)

word_same : (j k : PieceKind) (bytes : List ℕ) → IsWordKind j bytes → IsWordKind k bytes → j ≡ k
unfolding IsWordKind
word_same j k bytes (inl a) (inl b) = a.0 ∙ sym b.0
word_same j k bytes (inl a) (inr b) = absurd (a.1 b.0 b.2)
word_same j k bytes (inr a) (inl b) = absurd (b.1 a.0 a.2)
word_same j k bytes (inr a) (inr b) = a.1 ∙ ap (λ i. Lexeme (Keyword i)) (one_keyword a.0 b.0 bytes a.2 b.2) ∙ sym b.1

second_past : (bytes : List ℕ) → length bytes ≡ 1 → get_or bytes 1 0 ≡ 47 → ⊥
second_past bytes one second = let none : get_or bytes 1 0 ≡ 0 = get_or_past bytes 1 0 (omega arith) in cc

long_block : (bytes : List ℕ) → IsBlock bytes → length bytes ≡ 1 → ⊥
long_block bytes p one = omega (arith, p.long)

two_seconds : (bytes : List ℕ) → get_or bytes 1 0 ≡ 42 → get_or bytes 1 0 ≡ 47 → ⊥
two_seconds bytes a b = omega arith

block_same : (j k : PieceKind) (bytes : List ℕ) → j ≡ Block → get_or bytes 1 0 ≡ 42 → IsBlock bytes → IsSlashKind k bytes → j ≡ k
unfolding IsSlashKind
block_same j k bytes is second p q = elim q [
  | inl b ↦ is ∙ sym b.0
  | inr r ↦ elim r [ inl b ↦ absurd (two_seconds bytes second b.1) | inr b ↦ absurd (long_block bytes p b.3) ]
]

line_same : (j k : PieceKind) (bytes : List ℕ) → j ≡ Line → get_or bytes 1 0 ≡ 47 → IsSlashKind k bytes → j ≡ k
unfolding IsSlashKind
line_same j k bytes is second q = elim q [
  | inl b ↦ absurd (two_seconds bytes b.1 second)
  | inr r ↦ elim r [ inl b ↦ is ∙ sym b.0 | inr b ↦ absurd (second_past bytes b.3 second) ]
]

division_same : (j k : PieceKind) (i : ℕ) (bytes : List ℕ) → j ≡ Lexeme (Sign i) → IsAt signs i bytes → length bytes ≡ 1 → IsSlashKind k bytes → j ≡ k
unfolding IsSlashKind
division_same j k i bytes is at one q = elim q [
  | inl b ↦ absurd (long_block bytes b.2 one)
  | inr r ↦ elim r [ inl b ↦ absurd (second_past bytes one b.1) | inr b ↦ is ∙ ap (λ x. Lexeme (Sign x)) (one_sign i b.0 bytes at b.2) ∙ sym b.1 ]
]

slash_same : (j k : PieceKind) (bytes : List ℕ) → IsSlashKind j bytes → IsSlashKind k bytes → j ≡ k
unfolding IsSlashKind
slash_same j k bytes p q = elim p [
  | inl a ↦ block_same j k bytes a.0 a.1 a.2 q
  | inr r ↦ elim r [ inl a ↦ line_same j k bytes a.0 a.1 q | inr a ↦ division_same j k a.0 bytes a.1 a.2 a.3 q ]
]

mark_same : (j k : PieceKind) (bytes : List ℕ) → (i : ℕ) × (j ≡ Lexeme (Sign i)) × IsAt signs i bytes → (i : ℕ) × (k ≡ Lexeme (Sign i)) × IsAt signs i bytes → j ≡ k
mark_same j k bytes a b = a.1 ∙ ap (λ i. Lexeme (Sign i)) (one_sign a.0 b.0 bytes a.2 b.2) ∙ sym b.1

same_by_class : (c : Class) (j k : PieceKind) (bytes : List ℕ) → class (get_or bytes 0 0) ≡ c → IsPiece j bytes → IsPiece k bytes → j ≡ k
same_by_class Gap j k bytes e p q = gap_kind j bytes e p ∙ sym (gap_kind k bytes e q)
same_by_class Word j k bytes e p q = word_same j k bytes (word_kind j bytes e p).1 (word_kind k bytes e q).1
same_by_class Number j k bytes e p q = (number_kind j bytes e p).0 ∙ sym (number_kind k bytes e q).0
same_by_class Slash j k bytes e p q = slash_same j k bytes (slash_kind j bytes e p) (slash_kind k bytes e q)
same_by_class Mark j k bytes e p q = mark_same j k bytes (mark_kind j bytes e p) (mark_kind k bytes e q)

-- the bytes of a piece fix its kind
pub one_kind : (j k : PieceKind) (bytes : List ℕ) → IsPiece j bytes → IsPiece k bytes → j ≡ k
one_kind j k bytes p q = same_by_class (class (get_or bytes 0 0)) j k bytes refl p q

pub piece_some : (k : PieceKind) (bytes : List ℕ) → IsPiece k bytes → 0 < length bytes
piece_some k bytes p = elim (cases_lt 0 (length bytes)) [ inl some ↦ some | inr none ↦ absurd (no_first k bytes (get_or_past bytes 0 0 (omega arith)) p none) ]
  where
    no_first : (k : PieceKind) (bytes : List ℕ) → get_or bytes 0 0 ≡ 0 → IsPiece k bytes → length bytes ≤ 0 → ⊥
    no_first Blank bytes e p none = omega (arith, p.0)
    no_first Block bytes e p none = omega (arith, p.long)
    no_first Line bytes e p none = cc (p.first)
    no_first (Lexeme Name) bytes e p none = let yes' : is_letter 0 ≡ true = ap is_letter (sym e) ∙ p.0.0 in cc
    no_first (Lexeme Literal) bytes e p none = let yes' : begins_literal 0 ≡ true = ap begins_literal (sym e) ∙ literal_begins bytes p in cc
    no_first (Lexeme (Keyword i)) bytes e p none = let yes' : is_letter 0 ≡ true = ap is_letter (sym e) ∙ p.0.0 in cc
    no_first (Lexeme (Sign i)) bytes e p none = omega (arith, some_byte i bytes p)
