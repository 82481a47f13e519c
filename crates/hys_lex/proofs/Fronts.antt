-- What has been cut so far, and that a cut and a first fault are unique.
use Rattle.std.proofs.Common.{◌≡◌, ℕ, ◌+◌, ◌-◌, ◌<◌, ◌≤◌, List, [], ◌∷◌, ◌++◌, length, take, drop, get_or, refl, sym, ◌∙◌, ap, subst, arith, append_assoc, append-nil, inl, inr, length-drop, zero, suc, All, AllPairs, length-take-le}
use Rattle.std.proofs.lemmas.List.{drop-drop, drop_all, get_or-take}
use Rattle.std.proofs.lemmas.Bool.{cases_lt}
use Rattle.std.proofs.lemmas.List.Elements.{All-cons}
use Rattle.hys_lex.specs.Words.{IsAt, signs}
use Rattle.hys_lex.specs.Pieces.{PieceKind, Blank, Block, Line, Lexeme, IsPiece, IsBlock, IsTokenText, IsShort, IsWithinLimit, ClosesAt}
use Rattle.hys_lex.specs.Cut.{IsMatch, Piece, IsFront, with_piece, tokens_from, Cut, IsTokenOf, Precedes, NoPiece, NoEnd, TooLong, StopsAt, IsFirstFault}
use Rattle.hys_lex.specs.Reading.{Stands, fault_at, IsGap}
use Rattle.hys_lex.specs.declared.token.Token.{Token}
use Rattle.hys_lex.specs.declared.token.TokenKind.{TokenKind}
use Rattle.hys_lex.specs.declared.token.TokenKind.TheVariants.{Name, Literal, Sign}
use Rattle.hys_lex.specs.declared.cut.LexFault.{LexFault}
use Rattle.hys_lex.specs.declared.cut.LexFault.TheVariants.{Byte, Comment, Long, Memory}
use Rattle.hys_lex.specs.declared.piece.Cause.{Cause}
use Rattle.hys_lex.specs.declared.piece.Cause.TheVariants as causes
use Rattle.hys_lex.proofs.Opening.{one_kind, piece_some}
use Rattle.hys_lex.proofs.Matches.{division}

-- where pieces that begin at a place end
abbrev pub reach : ℕ → List Piece → ℕ
reach at [] = at
reach at (p ∷ ps) = reach (at + p.size) ps

pub front_more : (text : List ℕ) (ps : List Piece) (rest : List ℕ) (p : Piece) → IsFront text ps rest → IsMatch rest p.kind p.size → IsWithinLimit p.kind p.size → IsFront text (ps ++ p ∷ []) (drop p.size rest)
front_more text [] rest p front here short =
    let M : List ℕ → Type 0 = λ xs. IsMatch xs p.kind p.size in
    (subst M (sym front) here, short, ap (drop p.size) front)
front_more text (q ∷ qs) rest p front here short = (front.0, front.1, front_more (drop q.size text) qs rest p front.2 here short)

pub with_more : (k : PieceKind) (from to : ℕ) (more : List Token) → with_piece k from to more ≡ with_piece k from to [] ++ more
with_more Blank from to more = refl
with_more Block from to more = refl
with_more Line from to more = refl
with_more (Lexeme kind) from to more = refl

pub tokens_more : (at : ℕ) (ps : List Piece) (p : Piece) → tokens_from at (ps ++ p ∷ []) ≡ tokens_from at ps ++ with_piece p.kind (reach at ps) (reach at ps + p.size) []
tokens_more at [] p = refl
tokens_more at (q ∷ qs) p =
    let next = at + q.size in
    let last = with_piece p.kind (reach next qs) (reach next qs + p.size) [] in
    let step : tokens_from next (qs ++ p ∷ []) ≡ tokens_from next qs ++ last = tokens_more next qs p in
    with_more q.kind at next (tokens_from next (qs ++ p ∷ []))
    ∙ ap (λ x. with_piece q.kind at next [] ++ x) step
    ∙ sym (append_assoc (with_piece q.kind at next []) (tokens_from next qs) last)
    ∙ ap (λ x. x ++ last) (sym (with_more q.kind at next (tokens_from next qs)))

pub reach_more : (at : ℕ) (ps : List Piece) (p : Piece) → reach at (ps ++ p ∷ []) ≡ reach at ps + p.size
reach_more at [] p = refl
reach_more at (q ∷ qs) p = reach_more (at + q.size) qs p

-- the pieces up to a place, and their tokens
pub record Upto (text : List ℕ) (found : List Token) (at : ℕ) : Type 0 where
  pub pieces : List Piece
  pub front : IsFront text pieces (drop at text)
  pub tokens : found ≡ tokens_from 0 pieces
  pub place : reach 0 pieces ≡ at

pub starts : (text : List ℕ) → Upto text [] 0
starts text = record { pieces = []; front = refl; tokens = refl; place = refl }

pub goes_on : (text : List ℕ) (found : List Token) (at n : ℕ) (k : PieceKind) → Upto text found at → IsMatch (drop at text) k n → IsWithinLimit k n → Upto text (found ++ with_piece k at (at + n) []) (at + n)
goes_on text found at n k upto here short =
    let p : Piece = record { kind = k; size = n } in
    let F : List ℕ → Type 0 = λ rest. IsFront text (upto.pieces ++ p ∷ []) rest in
    record {
      pieces = upto.pieces ++ p ∷ [];
      front = subst F (drop-drop n at text) (front_more text upto.pieces (drop at text) p upto.front here short);
      tokens = ap (λ x. x ++ with_piece k at (at + n) []) upto.tokens ∙ ap (λ i. tokens_from 0 upto.pieces ++ with_piece k i (i + n) []) (sym upto.place) ∙ sym (tokens_more 0 upto.pieces p);
      place = reach_more 0 upto.pieces p ∙ ap (λ i. i + n) upto.place;
    }

pub ends : (text : List ℕ) (found : List Token) (at : ℕ) → length text ≤ at → Upto text found at → Cut text found
ends text found at all upto =
    let F : List ℕ → Type 0 = λ rest. IsFront text upto.pieces rest in
    (upto.pieces, subst F (drop_all at text all) upto.front, upto.tokens)

pub stops : (text : List ℕ) (found : List Token) (at : ℕ) (Cause' : List ℕ → Type 0) → at ≤ length text → Upto text found at → Cause' (drop at text) → StopsAt text at Cause'
stops text found at Cause' within upto cause = record { pieces = upto.pieces; rest = drop at text; front = upto.front; place = omega (arith, length-drop at text); cause = cause }

pub first_fault : (text : List ℕ) (found : List Token) (at : ℕ) (cause : Cause) → at ≤ length text → Upto text found at → Stands (drop at text) cause → IsFirstFault text (fault_at cause at)
first_fault text found at causes.Byte within upto stands = stops text found at NoPiece within upto stands
first_fault text found at causes.Comment within upto stands = stops text found at NoEnd within upto stands
first_fault text found at causes.Long within upto stands = stops text found at TooLong within upto stands

-- one match

one_size : (text : List ℕ) (j k : PieceKind) (m n : ℕ) → IsMatch text j m → IsMatch text k n → m ≡ n
one_size text j k m n a b = elim (cases_lt m n) [
  | inl less ↦ absurd (a.longest n k less b.within b.piece)
  | inr more ↦ elim (cases_lt n m) [ inl less ↦ absurd (b.longest m j less a.within a.piece) | inr same ↦ omega arith ]
]

pub one_match : (text : List ℕ) (j k : PieceKind) (m n : ℕ) → IsMatch text j m → IsMatch text k n → (j ≡ k) × (m ≡ n)
one_match text j k m n a b =
    let same : m ≡ n = one_size text j k m n a b in
    let P : ℕ → Type 0 = λ i. IsPiece j (take i text) in
    (one_kind j k (take n text) (subst P same a.piece) b.piece, same)

-- no lawful piece is matched here
abbrev pub Stuck : List ℕ → Type 0
Stuck rest = (k : PieceKind) (n : ℕ) → IsMatch rest k n → IsWithinLimit k n → ⊥

same_piece : (p q : Piece) → p.kind ≡ q.kind → p.size ≡ q.size → p ≡ q
same_piece p q kind size = ap (λ k. let r : Piece = record { kind = k; size = p.size } in r) kind ∙ ap (λ n. let r : Piece = record { kind = q.kind; size = n } in r) size

pub same_front : (text : List ℕ) (ps qs : List Piece) (r s : List ℕ) → IsFront text ps r → IsFront text qs s → Stuck r → Stuck s → (ps ≡ qs) × (r ≡ s)
same_front text [] [] r s a b stuck_r stuck_s = (refl, sym a ∙ b)
same_front text [] (q ∷ qs) r s a b stuck_r stuck_s = let S : List ℕ → Type 0 = Stuck in absurd (subst S (sym a) stuck_r q.kind q.size b.0 b.1)
same_front text (p ∷ ps) [] r s a b stuck_r stuck_s = let S : List ℕ → Type 0 = Stuck in absurd (subst S (sym b) stuck_s p.kind p.size a.0 a.1)
same_front text (p ∷ ps) (q ∷ qs) r s a b stuck_r stuck_s =
    let one : (p.kind ≡ q.kind) × (p.size ≡ q.size) = one_match text p.kind q.kind p.size q.size a.0 b.0 in
    let F : ℕ → Type 0 = λ n. IsFront (drop n text) ps r in
    let more : (ps ≡ qs) × (r ≡ s) = same_front (drop q.size text) ps qs r s (subst F one.1 a.2) b.2 stuck_r stuck_s in
    let head : p ≡ q = same_piece p q one.0 one.1 in
    let tail : ps ≡ qs = more.0 in
    (cc, more.1)

pub stuck_end : Stuck []
stuck_end k n here short = omega (arith, piece_some k (take n []) here.piece, here.within, length-take-le {A = ℕ} n [] here.within)

pub same_tokens : (text : List ℕ) (a b : List Token) → Cut text a → Cut text b → a ≡ b
same_tokens text a b cut_a cut_b = cut_a.2 ∙ ap (tokens_from 0) (same_front text cut_a.0 cut_b.0 [] [] cut_a.1 cut_b.1 stuck_end stuck_end).0 ∙ sym cut_b.2

-- causes

stuck_byte : (rest : List ℕ) → NoPiece rest → Stuck rest
stuck_byte rest cause k n here short = cause.none k n here.within here.piece

stuck_comment : (rest : List ℕ) → NoEnd rest → Stuck rest
stuck_comment rest cause k n here short =
    let P : PieceKind → Type 0 = λ j. IsPiece j (take n rest) in
    let block : IsBlock (take n rest) = subst P (here.comment cause.opens) here.piece in
    let size : length (take n rest) ≡ n = length-take-le n rest here.within in
    let C : ℕ → Type 0 = λ i. ClosesAt (take n rest) i in
    let at : ClosesAt (take n rest) (n - 2) = subst C (ap (λ j. j - 2) size) block.closes in
    let long : 4 ≤ n = omega (arith, block.long, size) in
    cause.open_to_end (n - 2) (omega arith) (sym (get_or-take n rest (n - 2) 0 (omega arith)) ∙ at.0, sym (get_or-take n rest (n - 2 + 1) 0 (omega arith)) ∙ at.1)

stuck_long : (rest : List ℕ) → TooLong rest → Stuck rest
stuck_long rest cause k n here short = elim cause [
  | inl name ↦
      let one : (k ≡ Lexeme Name) × (n ≡ name.0) = one_match rest k (Lexeme Name) n name.0 here name.2 in
      let L : PieceKind → Type 0 = λ j. IsWithinLimit j n in
      let low : n ≤ 64 = subst L one.0 short in omega (arith, name.1, one.1, low)
  | inr literal ↦
      let one : (k ≡ Lexeme Literal) × (n ≡ literal.0) = one_match rest k (Lexeme Literal) n literal.0 here literal.2 in
      let L : PieceKind → Type 0 = λ j. IsWithinLimit j n in
      let low : n ≤ 32 = subst L one.0 short in omega (arith, literal.1, one.1, low)
]

-- a fault and a cut

no_cut_at : (text : List ℕ) (at : ℕ) (Cause' : List ℕ → Type 0) → StopsAt text at Cause' → ((rest : List ℕ) → Cause' rest → Stuck rest) → (Cause' [] → ⊥) → (tokens : List Token) → Cut text tokens → ⊥
no_cut_at text at Cause' stop stuck not_end tokens cut =
    let same : stop.rest ≡ [] = (same_front text stop.pieces cut.0 stop.rest [] stop.front cut.1 (stuck stop.rest stop.cause) stuck_end).1 in
    not_end (subst Cause' same stop.cause)

no_byte_end : NoPiece [] → ⊥
no_byte_end cause = omega (arith, cause.more)

no_comment_end : NoEnd [] → ⊥
no_comment_end cause = cc (cause.opens.0)

no_long_end : TooLong [] → ⊥
no_long_end cause = elim cause [ inl name ↦ omega (arith, name.1, name.2.within) | inr literal ↦ omega (arith, literal.1, literal.2.within) ]

pub fault_no_cut : (text : List ℕ) (fault : LexFault) → IsFirstFault text fault → (tokens : List Token) → Cut text tokens → ⊥
fault_no_cut text (Byte at) stop tokens cut = no_cut_at text at NoPiece stop stuck_byte no_byte_end tokens cut
fault_no_cut text (Comment at) stop tokens cut = no_cut_at text at NoEnd stop stuck_comment no_comment_end tokens cut
fault_no_cut text (Long at) stop tokens cut = no_cut_at text at TooLong stop stuck_long no_long_end tokens cut
fault_no_cut text Memory stop tokens cut = stop

-- two faults

byte_comment : (rest : List ℕ) → NoPiece rest → NoEnd rest → ⊥
byte_comment [] byte comment = no_byte_end byte
byte_comment (b ∷ rest) byte comment =
    let slash : b ≡ 47 = comment.opens.0 in
    let P : ℕ → Type 0 = λ x. IsAt signs 15 (x ∷ []) in
    byte.none (Lexeme (Sign 15)) 1 (omega arith) (subst P (sym slash) division)

byte_long : (rest : List ℕ) → NoPiece rest → TooLong rest → ⊥
byte_long rest byte long = elim long [ inl name ↦ byte.none (Lexeme Name) name.0 name.2.within name.2.piece | inr literal ↦ byte.none (Lexeme Literal) literal.0 literal.2.within literal.2.piece ]

comment_long : (rest : List ℕ) → NoEnd rest → TooLong rest → ⊥
comment_long rest comment long = elim long [ inl name ↦ absurd (cc (name.2.comment comment.opens)) | inr literal ↦ absurd (cc (literal.2.comment comment.opens)) ]

same_stop : (text : List ℕ) (a b : ℕ) (C D : List ℕ → Type 0) → StopsAt text a C → StopsAt text b D → ((rest : List ℕ) → C rest → Stuck rest) → ((rest : List ℕ) → D rest → Stuck rest) → (a ≡ b) × ((rest : List ℕ) × C rest × D rest)
same_stop text a b C D s t stuck_s stuck_t =
    let same : s.rest ≡ t.rest = (same_front text s.pieces t.pieces s.rest t.rest s.front t.front (stuck_s s.rest s.cause) (stuck_t t.rest t.cause)).1 in
    (omega (arith, s.place, t.place, ap length same), (t.rest, subst C same s.cause, t.cause))

pub one_fault : (text : List ℕ) (e f : LexFault) → IsFirstFault text e → IsFirstFault text f → e ≡ f
one_fault text (Byte a) (Byte b) s t = ap Byte (same_stop text a b NoPiece NoPiece s t stuck_byte stuck_byte).0
one_fault text (Byte a) (Comment b) s t = let r = (same_stop text a b NoPiece NoEnd s t stuck_byte stuck_comment).1 in absurd (byte_comment r.0 r.1 r.2)
one_fault text (Byte a) (Long b) s t = let r = (same_stop text a b NoPiece TooLong s t stuck_byte stuck_long).1 in absurd (byte_long r.0 r.1 r.2)
one_fault text (Comment a) (Byte b) s t = let r = (same_stop text b a NoPiece NoEnd t s stuck_byte stuck_comment).1 in absurd (byte_comment r.0 r.1 r.2)
one_fault text (Comment a) (Comment b) s t = ap Comment (same_stop text a b NoEnd NoEnd s t stuck_comment stuck_comment).0
one_fault text (Comment a) (Long b) s t = let r = (same_stop text a b NoEnd TooLong s t stuck_comment stuck_long).1 in absurd (comment_long r.0 r.1 r.2)
one_fault text (Long a) (Byte b) s t = let r = (same_stop text b a NoPiece TooLong t s stuck_byte stuck_long).1 in absurd (byte_long r.0 r.1 r.2)
one_fault text (Long a) (Comment b) s t = let r = (same_stop text b a NoEnd TooLong t s stuck_comment stuck_long).1 in absurd (comment_long r.0 r.1 r.2)
one_fault text (Long a) (Long b) s t = ap Long (same_stop text a b TooLong TooLong s t stuck_long stuck_long).0
one_fault text Memory f s t = absurd s
one_fault text (Byte a) Memory s t = absurd t
one_fault text (Comment a) Memory s t = absurd t
one_fault text (Long a) Memory s t = absurd t

-- the spans of the tokens

-- the tokens of pieces that begin at a place lie in what is left
record Spans (text : List ℕ) (at : ℕ) (tokens : List Token) : Type 0 where
  each : All (IsTokenOf text) tokens
  after : All (λ t. at ≤ t.from) tokens
  rising : AllPairs Precedes tokens

no_spans : (text : List ℕ) (at : ℕ) → Spans text at []
no_spans text at = record { each = λ k d h. absurd (omega arith); after = λ k d h. absurd (omega arith); rising = λ i j d less h. absurd (omega arith) }

later_spans : (text : List ℕ) (at n : ℕ) (tokens : List Token) → Spans text (at + n) tokens → Spans text at tokens
later_spans text at n tokens s = record { each = s.each; after = λ k d h. omega (arith, s.after k d h); rising = s.rising }

more_spans : (text : List ℕ) (at n : ℕ) (kind : TokenKind) (tokens : List Token) → at ≤ length text → IsMatch (drop at text) (Lexeme kind) n → IsShort kind n → Spans text (at + n) tokens →
    Spans text at (record { kind = kind; from = at; to = at + n } ∷ tokens)
more_spans text at n kind tokens within here short s =
    let t : Token = record { kind = kind; from = at; to = at + n } in
    let some : 0 < n = omega (arith, piece_some (Lexeme kind) (take n (drop at text)) here.piece, length-take-le n (drop at text) here.within) in
    let width : at + n - at ≡ n = omega arith in
    let B : ℕ → Type 0 = λ m. IsTokenText kind (take m (drop at text)) in
    let L : ℕ → Type 0 = λ m. IsShort kind m in
    let one : IsTokenOf text t = record { some = omega arith; within = omega (arith, here.within, length-drop at text); bytes = subst B (sym width) here.piece; short = subst L (sym width) short } in
    record {
      each = All-cons (IsTokenOf text) t tokens one s.each;
      after = All-cons (λ x. at ≤ x.from) t tokens (omega arith) (λ k d h. omega (arith, s.after k d h));
      rising = rising t tokens (λ k d h. s.after k d h) s.rising;
    }
  where
    rising : (t : Token) (tokens : List Token) → ((k : ℕ) (d : Token) → k < length tokens → t.to ≤ (get_or tokens k d).from) → AllPairs Precedes tokens → AllPairs Precedes (t ∷ tokens)
    rising t tokens after pairs i zero d less inside = absurd (omega arith)
    rising t tokens after pairs zero (suc j) d less inside = after j d (omega arith)
    rising t tokens after pairs (suc i) (suc j) d less inside = pairs i j d (omega arith) (omega arith)

spans_from : (text : List ℕ) (at : ℕ) (ps : List Piece) → at ≤ length text → IsFront (drop at text) ps [] → Spans text at (tokens_from at ps)
spans_from text at [] within front = no_spans text at
spans_from text at (p ∷ ps) within front = piece_spans text at p.kind p.size (tokens_from (at + p.size) ps) within front.0 front.1
    (let F : List ℕ → Type 0 = λ xs. IsFront xs ps [] in spans_from text (at + p.size) ps (omega (arith, front.0.within, length-drop at text)) (subst F (drop-drop p.size at text) front.2))
  where
    piece_spans : (text : List ℕ) (at : ℕ) (kind : PieceKind) (n : ℕ) (tokens : List Token) → at ≤ length text → IsMatch (drop at text) kind n → IsWithinLimit kind n → Spans text (at + n) tokens → Spans text at (with_piece kind at (at + n) tokens)
    piece_spans text at Blank n tokens within here short s = later_spans text at n tokens s
    piece_spans text at Block n tokens within here short s = later_spans text at n tokens s
    piece_spans text at Line n tokens within here short s = later_spans text at n tokens s
    piece_spans text at (Lexeme kind) n tokens within here short s = more_spans text at n kind tokens within here short s

pub cut_each : (text : List ℕ) (tokens : List Token) → Cut text tokens → All (IsTokenOf text) tokens
cut_each text tokens cut =
    let P : List Token → Type 0 = λ ts. All (IsTokenOf text) ts in
    subst P (sym cut.2) (spans_from text 0 cut.0 (omega arith) cut.1).each

pub cut_rising : (text : List ℕ) (tokens : List Token) → Cut text tokens → AllPairs Precedes tokens
cut_rising text tokens cut =
    let P : List Token → Type 0 = λ ts. AllPairs Precedes ts in
    subst P (sym cut.2) (spans_from text 0 cut.0 (omega arith) cut.1).rising

-- one step of the loop

pub found_some : (rest : List ℕ) (k : PieceKind) (n : ℕ) → IsMatch rest k n → 0 < n
found_some rest k n here = omega (arith, piece_some k (take n rest) here.piece, length-take-le n rest here.within)

pub found_within : (text : List ℕ) (at : ℕ) (k : PieceKind) (n : ℕ) → at ≤ length text → IsMatch (drop at text) k n → at + n ≤ length text
found_within text at k n within here = omega (arith, here.within, length-drop at text)

pub goes_past : (text : List ℕ) (found : List Token) (at n : ℕ) → Upto text found at → (k : PieceKind) → IsGap k → IsMatch (drop at text) k n → Upto text found (at + n)
goes_past text found at n upto k gap here = subst (λ x. Upto text x (at + n)) (append-nil found) (past text found at n k upto gap here)
  where
    past : (text : List ℕ) (found : List Token) (at n : ℕ) (k : PieceKind) → Upto text found at → IsGap k → IsMatch (drop at text) k n → Upto text (found ++ []) (at + n)
    past text found at n Blank upto gap here = goes_on text found at n Blank upto here tt
    past text found at n Block upto gap here = goes_on text found at n Block upto here tt
    past text found at n Line upto gap here = goes_on text found at n Line upto here tt
    past text found at n (Lexeme kind) upto gap here = absurd gap
