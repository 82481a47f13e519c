-- One token more among the lexemes.
use Rattle.std.proofs.Common.{◌≡◌, ℕ, ◌+◌, ◌<◌, ◌≤◌, List, [], ◌∷◌, ◌++◌, length, take, get_or, sym, ap, ◌∙◌, arith}
use Rattle.std.specs.Prelude.{All, AllPairs}
use Rattle.std.proofs.lemmas.List.{take_more, map_push, get_or_default}
use Rattle.hys_lex.specs.Cut.{IsTokenOf, Precedes}
use Rattle.hys_lex.specs.declared.token.Token.{Token}
use Rattle.hys_ast.specs.declared.place.Place.{Place}
use Rattle.hys_ast.specs.declared.lexeme.Lexeme.{Lexeme}
use Rattle.hys_ast.specs.Places.{place_at, text_at, lexeme_of, lexemes_of}
use Rattle.hys_ast.proofs.PlaceSteps.{keeps_byte}

pub record Upto (text : List ℕ) (tokens : List Token) (i : ℕ) (found : List Lexeme) (place : Place) : Type 0 where
  pub lexemes : found ≡ lexemes_of text (take i tokens)
  pub known : place ≡ place_at text place.byte
  pub ahead : (k : ℕ) (d : Token) → i ≤ k → k < length tokens → place.byte ≤ (get_or tokens k d).from

lexeme_is : (text : List ℕ) (t : Token) (bytes : List ℕ) (place : Place) → bytes ≡ text_at text t.kind t.from t.to → place ≡ place_at text t.from → (record { kind = t.kind; text = bytes; place = place }) ≡ lexeme_of text t
lexeme_is text t bytes place b p = cc

one_more : (text : List ℕ) (tokens : List Token) (i : ℕ) (d : Token) (found new : List Lexeme) (place : Place) (bytes : List ℕ) → i < length tokens → found ≡ lexemes_of text (take i tokens) → new ≡ found ++ (record { kind = (get_or tokens i d).kind; text = bytes; place = place }) ∷ [] →
    bytes ≡ text_at text (get_or tokens i d).kind (get_or tokens i d).from (get_or tokens i d).to → place ≡ place_at text (get_or tokens i d).from → new ≡ lexemes_of text (take (i + 1) tokens)
one_more text tokens i d found new place bytes less f n b p =
    n ∙ ap (λ (x : List Lexeme). x ++ (record { kind = (get_or tokens i d).kind; text = bytes; place = place }) ∷ []) f
    ∙ ap (λ (x : Lexeme). lexemes_of text (take i tokens) ++ x ∷ []) (lexeme_is text (get_or tokens i d) bytes place b p)
    ∙ sym (map_push (lexeme_of text) (take i tokens) (get_or tokens i d))
    ∙ sym (ap (lexemes_of text) (take_more tokens i d less))

ahead_of : (text : List ℕ) (tokens : List Token) (i : ℕ) (d : Token) → All (IsTokenOf text) tokens → AllPairs Precedes tokens → i < length tokens → (k : ℕ) (e : Token) → i + 1 ≤ k → k < length tokens → (get_or tokens i d).from ≤ (get_or tokens k e).from
ahead_of text tokens i d each rising less k e more within =
    let same : (get_or tokens i d).from ≡ (get_or tokens i e).from = ap (λ (t : Token). t.from) (get_or_default tokens i d e less) in
    omega (arith, same, (each i e less).some, rising i k e (omega arith) within)

pub adds : (text : List ℕ) (tokens : List Token) (i : ℕ) (d : Token) (found new : List Lexeme) (old place : Place) (bytes : List ℕ) → All (IsTokenOf text) tokens → AllPairs Precedes tokens → i < length tokens → Upto text tokens i found old →
    new ≡ found ++ (record { kind = (get_or tokens i d).kind; text = bytes; place = place }) ∷ [] → bytes ≡ text_at text (get_or tokens i d).kind (get_or tokens i d).from (get_or tokens i d).to → place ≡ place_at text (get_or tokens i d).from →
    Upto text tokens (i + 1) new place
adds text tokens i d found new old place bytes each rising less upto n b p =
    let at : place.byte ≡ (get_or tokens i d).from = ap (λ (x : Place). x.byte) p ∙ keeps_byte text (get_or tokens i d).from in
    record {
      lexemes = one_more text tokens i d found new place bytes less upto.lexemes n b p;
      known = p ∙ ap (place_at text) (sym at);
      ahead = λ k e more within. omega (arith, at, ahead_of text tokens i d each rising less k e more within);
    }
