-- The longest match at the front of a text, by the class of its first byte.
use Rattle.std.proofs.Common.{◌≡◌, ◌<◌, ◌≤◌, ◌+◌, ◌-◌, ℕ, zero, suc, List, [], ◌∷◌, length, get_or, take, Bool, true, false, refl, sym, ◌∙◌, ap, subst, arith, inl, inr, ◌⊎◌, lit<}
use Rattle.std.proofs.lemmas.List.{get_or-take, length-take-le, get_or_past, take_more}
use Rattle.std.proofs.lemmas.Bool.{cases_lt}
use Rattle.std.specs.List.{AllPass, prefix_len}
use Rattle.std.proofs.lemmas.List.Sums.{prefix_len-le-length}
use Rattle.hys_lex.specs.Bytes.{is_blank, is_letter, is_name_byte, begins_literal}
use Rattle.hys_lex.specs.Words.{IsAt, keywords, signs}
use Rattle.hys_lex.specs.Pieces.{PieceKind, Blank, Block, Line, Lexeme, IsWord, IsBlock, IsLine, IsLiteral, IsLongest, IsPiece, Opens, ClosesAt}
use Rattle.hys_lex.specs.Cut.{IsMatch, NoPiece}
use Rattle.hys_lex.specs.declared.token.TokenKind.TheVariants.{Name, Literal, Keyword, Sign}
use Rattle.hys_lex.proofs.Runs.{front_passes, front_most, run_most}
use Rattle.hys_lex.proofs.Opening.{Class, Gap, Word, Number, Slash, Mark, class, blank_class, letter_class, number_class, slash_class, gap_kind, word_kind, number_kind, slash_kind, mark_kind, IsSlashKind, piece_some}

front_class : (text : List ℕ) (m : ℕ) → 0 < m → (c : Class) → class (get_or text 0 0) ≡ c → class (get_or (take m text) 0 0) ≡ c
front_class text m some c e = ap class (get_or-take m text 0 0 some) ∙ e

-- a text whose first byte is of another class does not begin with a comment
closed : (text : List ℕ) (c : Class) → class (get_or text 0 0) ≡ c → (c ≡ Slash → ⊥) → Opens text → ⊥
closed text c e other opens = other (sym e ∙ ap class opens.0 ∙ slash_class)

some_text : (text : List ℕ) (p : ℕ → Bool) → p 0 ≡ false → p (get_or text 0 0) ≡ true → 0 < length text
some_text text p none some = elim (cases_lt 0 (length text)) [
  | inl more ↦ more
  | inr no_more ↦ let zero_byte : get_or text 0 0 ≡ 0 = get_or_past text 0 0 no_more in let bad : p 0 ≡ true = ap p (sym zero_byte) ∙ some in absurd (cc)
]

pub blank_match : (text : List ℕ) → is_blank (get_or text 0 0) ≡ true → IsMatch text Blank 1
blank_match text blank =
    let c : class (get_or text 0 0) ≡ Gap = blank_class (get_or text 0 0) blank in
    let some : 0 < length text = some_text text is_blank refl blank in
    record {
      within = omega arith;
      piece = (length-take-le 1 text (omega arith), ap is_blank (get_or-take 1 text 0 0 (omega arith)) ∙ blank);
      longest = λ more other longer within p.
          let is : other ≡ Blank = gap_kind other (take more text) (front_class text more (omega arith) Gap c) p in
          let P : PieceKind → Type 0 = λ k. IsPiece k (take more text) in
          let one : length (take more text) ≡ 1 = (subst P is p).0 in
          omega (arith, one, length-take-le more text within);
      comment = λ opens. absurd (closed text Gap c (λ e. cc) opens);
    }

-- a word at the front, all of it
pub record WordAt (text : List ℕ) (n : ℕ) : Type 0 where
  pub within : n ≤ length text
  pub word : IsWord (take n text)
  pub longest : (more : ℕ) (other : PieceKind) → n < more → more ≤ length text → IsPiece other (take more text) → ⊥
  pub comment : Opens text → ⊥

pub word_at : (text : List ℕ) (n : ℕ) → is_letter (get_or text 0 0) ≡ true → n ≡ prefix_len is_name_byte text → WordAt text n
word_at text n letter n_is =
    let c : class (get_or text 0 0) ≡ Word = letter_class (get_or text 0 0) letter in
    let some : 0 < length text = some_text text is_letter refl letter in
    let first : (k : ℕ) → k < 1 → is_name_byte (get_or text k 0) ≡ true = λ k h. let at : k ≡ 0 = omega arith in ap (λ i. is_name_byte (get_or text i 0)) at ∙ (rw letter) in
    let positive : 0 < n = omega (arith, run_most is_name_byte text 1 (omega arith) first) in
    let A : ℕ → Type 0 = λ i. AllPass is_name_byte (take i text) in
    record {
      within = omega (arith, prefix_len-le-length is_name_byte text);
      word = (ap is_letter (get_or-take n text 0 0 positive) ∙ letter, subst A (sym n_is) (front_passes is_name_byte text));
      longest = λ more other longer within p. omega (arith, front_most is_name_byte text more within (word_kind other (take more text) (front_class text more (omega arith) Word c) p).0.1);
      comment = closed text Word c (λ e. cc);
    }

pub keyword_match : (text : List ℕ) (n k : ℕ) → WordAt text n → IsAt keywords k (take n text) → IsMatch text (Lexeme (Keyword k)) n
keyword_match text n k w at = record { within = w.within; piece = (w.word, at); longest = w.longest; comment = λ opens. absurd (w.comment opens) }

pub name_match : (text : List ℕ) (n : ℕ) → WordAt text n → ((k : ℕ) → IsAt keywords k (take n text) → ⊥) → IsMatch text (Lexeme Name) n
name_match text n w none = record { within = w.within; piece = (w.word, none); longest = w.longest; comment = λ opens. absurd (w.comment opens) }

pub literal_match : (text : List ℕ) (n : ℕ) → begins_literal (get_or text 0 0) ≡ true → IsLongest IsLiteral text n → 0 < n → IsMatch text (Lexeme Literal) n
literal_match text n begins l some =
    let c : class (get_or text 0 0) ≡ Number = number_class (get_or text 0 0) begins in
    record {
      within = l.within;
      piece = l.found some;
      longest = λ more other longer within p. omega (arith, l.most more within (number_kind other (take more text) (front_class text more (omega arith) Number c) p).1);
      comment = λ opens. absurd (closed text Number c (λ e. cc) opens);
    }

size_some : (text : List ℕ) (kind : PieceKind) (size : ℕ) → size ≤ length text → IsPiece kind (take size text) → 0 < size
size_some text kind size within p = omega (arith, piece_some kind (take size text) p, length-take-le size text within)

pub no_literal : (text : List ℕ) → begins_literal (get_or text 0 0) ≡ true → IsLongest IsLiteral text 0 → NoPiece text
no_literal text begins l =
    let c : class (get_or text 0 0) ≡ Number = number_class (get_or text 0 0) begins in
    record {
      more = some_text text begins_literal refl begins;
      none = λ kind size within p.
          let some : 0 < size = size_some text kind size within p in
          omega (arith, l.most size within (number_kind kind (take size text) (front_class text size some Number c) p).1);
    }

pub sign_match : (text : List ℕ) (k n : ℕ) → class (get_or text 0 0) ≡ Mark → n ≤ length text → IsAt signs k (take n text) → ((i size : ℕ) → size ≤ length text → IsAt signs i (take size text) → size ≤ n) →
    IsMatch text (Lexeme (Sign k)) n
sign_match text k n c within at most = record {
  within = within;
  piece = at;
  longest = λ more other longer inside p.
      let s = mark_kind other (take more text) (front_class text more (omega arith) Mark c) p in
      omega (arith, most s.0 more inside s.2);
  comment = λ opens. absurd (closed text Mark c (λ e. cc) opens);
}

pub no_sign : (text : List ℕ) → class (get_or text 0 0) ≡ Mark → 0 < length text → ((i size : ℕ) → size ≤ length text → IsAt signs i (take size text) → size ≤ 0) → NoPiece text
no_sign text c some most = record {
  more = some;
  none = λ kind size within p.
      let positive : 0 < size = size_some text kind size within p in
      let s = mark_kind kind (take size text) (front_class text size positive Mark c) p in
      omega (arith, most s.0 size within s.2);
}

open_class : (text : List ℕ) → get_or text 0 0 ≡ 47 → class (get_or text 0 0) ≡ Slash
open_class text e = ap class e ∙ slash_class

-- what a longer piece after a slash is, by the text's second byte
longer_slash : (text : List ℕ) (m : ℕ) (other : PieceKind) → get_or text 0 0 ≡ 47 → 1 < m → m ≤ length text → IsPiece other (take m text) → ((get_or text 1 0 ≡ 42) × IsBlock (take m text)) ⊎ ((get_or text 1 0 ≡ 47) × IsLine (take m text))
unfolding IsSlashKind
longer_slash text m other first longer within p =
    let second : get_or (take m text) 1 0 ≡ get_or text 1 0 = get_or-take m text 1 0 longer in
    elim (slash_kind other (take m text) (front_class text m (omega arith) Slash (open_class text first)) p) [
      | inl b ↦ inl (sym second ∙ b.1, b.2)
      | inr r ↦ elim r [ inl b ↦ inr (sym second ∙ b.1, b.2) | inr b ↦ absurd (omega (arith, b.3, length-take-le m text within)) ]
    ]

pub block_match : (text : List ℕ) (n : ℕ) → Opens text → n ≤ length text → IsBlock (take n text) → IsMatch text Block n
block_match text n opens within block =
    let size : length (take n text) ≡ n = length-take-le n text within in
    let long : 4 ≤ n = omega (arith, block.long, size) in
    record {
      within = within;
      piece = block;
      longest = λ more other longer inside p. elim (longer_slash text more other opens.0 (omega arith) inside p) [
        | inl b ↦ b.1.first (n - 2) (omega arith) (omega (arith, length-take-le more text inside)) (closes_later text n more within (omega arith) longer block)
        | inr b ↦ absurd (omega (arith, b.0, opens.1))
      ];
      comment = λ _. refl;
    }
  where
    closes_later : (text : List ℕ) (n more : ℕ) → n ≤ length text → 4 ≤ n → n < more → IsBlock (take n text) → ClosesAt (take more text) (n - 2)
    closes_later text n more within long longer block =
        let size : length (take n text) ≡ n = length-take-le n text within in
        let same : (i : ℕ) → i < n → get_or (take more text) i 0 ≡ get_or (take n text) i 0 = λ i h. get_or-take more text i 0 (omega arith) ∙ sym (get_or-take n text i 0 h) in
        let C : ℕ → Type 0 = λ i. ClosesAt (take n text) i in
        let at : ClosesAt (take n text) (n - 2) = subst C (ap (λ j. j - 2) size) block.closes in
        (same (n - 2) (omega arith) ∙ at.0, same (n - 2 + 1) (omega arith) ∙ at.1)

pub line_match : (text : List ℕ) (n : ℕ) → get_or text 0 0 ≡ 47 → get_or text 1 0 ≡ 47 → 1 < length text → n ≤ length text → ((i : ℕ) → i < n → get_or text i 0 ≡ 10 → ⊥) → (n < length text → get_or text n 0 ≡ 10) →
    IsMatch text Line n
line_match text n first second two within before stops =
    let far : 1 < n = elim (cases_lt 1 n) [
      | inl more ↦ more
      | inr few ↦ absurd (not_feed n few (stops (omega arith)))
    ] in
    record {
      within = within;
      piece = record {
        first = get_or-take n text 0 0 (omega arith) ∙ first;
        second = get_or-take n text 1 0 far ∙ second;
        one_line = λ i h feed. let inside : i < n = omega (arith, length-take-le n text within) in before i inside (sym (get_or-take n text i 0 inside) ∙ feed);
      };
      longest = λ more other longer inside p. elim (longer_slash text more other first (omega arith) inside p) [
        | inl b ↦ absurd (omega (arith, b.0, second))
        | inr b ↦ b.1.one_line n (omega (arith, length-take-le more text inside)) (get_or-take more text n 0 longer ∙ stops (omega arith))
      ];
      comment = λ opens. absurd (omega (arith, opens.1, second));
    }
  where
    not_feed : (n : ℕ) → n ≤ 1 → get_or text n 0 ≡ 10 → ⊥
    not_feed zero few feed = omega (arith, first)
    not_feed (suc n) few feed = let at : suc n ≡ 1 = omega arith in omega (arith, second, ap (λ i. get_or text i 0) at)

pub division : IsAt signs 15 (47 ∷ [])
unfolding signs
division = (lit< tt, refl)

pub division_match : (text : List ℕ) → get_or text 0 0 ≡ 47 → (get_or text 1 0 ≡ 42 → ⊥) → (get_or text 1 0 ≡ 47 → ⊥) → IsMatch text (Lexeme (Sign 15)) 1
division_match text first no_block no_line =
    let some : 0 < length text = elim (cases_lt 0 (length text)) [ inl more ↦ more | inr none ↦ absurd (omega (arith, first, get_or_past text 0 0 none)) ] in
    let front : take 1 text ≡ 47 ∷ [] = take_more text 0 0 some ∙ ap (λ b. b ∷ []) first in
    record {
      within = omega arith;
      piece = subst (IsAt signs 15) (sym front) division;
      longest = λ more other longer inside p. elim (longer_slash text more other first longer inside p) [ inl b ↦ no_block b.0 | inr b ↦ no_line b.0 ];
      comment = λ opens. absurd (no_block opens.1);
    }
