-- A source with nothing behind it.
use Rattle.std.proofs.Common.{◌≡◌, ℕ, zero, suc, ◌<◌, ◌≤◌, eqb, List, [], ◌∷◌, length, get_or, Ok, Err, inl, inr, refl, sym, subst, ◌∙◌, arith}
use Rattle.std.specs.Prelude.{All, AllPairs}
use Rattle.std.proofs.lemmas.Bool.{eqb-true}
use Rattle.hys_lex.specs.Cut.{IsTokenOf, Precedes}
use Rattle.hys_lex.specs.declared.token.Token.{Token}
use Rattle.hys_lex.specs.declared.token.TokenKind.TheVariants.{Name}
use Rattle.hys_ast.specs.declared.lexeme.Lexeme.{Lexeme}
use Rattle.hys_ast.specs.Grammar.{DerivesSource}
use Rattle.hys_ast.specs.Tree.{Source}
use Rattle.hys_parse.specs.Sections.{source_at, whole_at}
use Rattle.hys_parse.proofs.Steps.{bind_ok, ok_is, cond_is}
use Rattle.hys_parse.proofs.SoundSource.{source_sound}
use Rattle.hys_parse.proofs.CompleteSource.{source_complete}

no_more : (ts : List Lexeme) → length ts ≡ 0 → ts ≡ []
no_more [] e = refl
no_more (l ∷ ts) e = absurd (omega arith)

pub whole_sound : (ts : List Lexeme) (x : Source) → whole_at ts ≡ Ok x → DerivesSource ts [] x
unfolding whole_at
whole_sound ts x e =
    let p = bind_ok (source_at (length ts) ts) _ x e in
    let d = source_sound (length ts) ts p.0 p.1 in
    elim (cond_is (eqb (length p.0.1) 0) _ _ _ p.2) [
      | inl w ↦ ended ts p.0.1 p.0.0 x (no_more p.0.1 (eqb-true (length p.0.1) 0 w.0)) (ok_is p.0.0 x w.1) d
      | inr w ↦ absurd cc
    ]
  where
    ended : (us rest : List Lexeme) (a b : Source) → rest ≡ [] → a ≡ b → DerivesSource us rest a → DerivesSource us [] b
    ended us rest a b r s h = let P : List Lexeme → Type 0 = λ y. DerivesSource us y a in let Q : Source → Type 0 = λ y. DerivesSource us [] y in subst Q s (subst P r h)

pub whole_complete : (ts : List Lexeme) (x : Source) → DerivesSource ts [] x → whole_at ts ≡ Ok x
unfolding whole_at
whole_complete ts x d = rw (source_complete (length ts) ts [] x d (omega arith)) refl

pub whole_only : (ts : List Lexeme) (x y : Source) → whole_at ts ≡ Ok x → DerivesSource ts [] y → y ≡ x
whole_only ts x y e d = ok_is y x (sym (whole_complete ts y d) ∙ e)

pub whole_none : (ts : List Lexeme) (n : ℕ) (y : Source) → whole_at ts ≡ Err n → DerivesSource ts [] y → ⊥
whole_none ts n y e d = let both : Ok y ≡ Err n = sym (whole_complete ts y d) ∙ e in absurd cc

-- There are no more tokens than bytes.
behind : (text : List ℕ) (tokens : List Token) (d : Token) → All (IsTokenOf text) tokens → AllPairs Precedes tokens → (k : ℕ) → k < length tokens → k ≤ (get_or tokens k d).from
behind text tokens d each rising zero less = omega arith
behind text tokens d each rising (suc k) less = omega (arith, behind text tokens d each rising k (omega arith), (each k d (omega arith)).some, rising k (suc k) d (omega arith) less)

pub fewer : (text : List ℕ) (tokens : List Token) → All (IsTokenOf text) tokens → AllPairs Precedes tokens → length tokens ≤ length text
fewer text tokens each rising = go (length tokens) refl
  where
    go : (n : ℕ) → length tokens ≡ n → length tokens ≤ length text
    go zero e = omega arith
    go (suc n) e =
        let d : Token = record { kind = Name; from = 0; to = 0 } in
        let less : n < length tokens = omega arith in
        omega (arith, behind text tokens d each rising n less, (each n d less).some, (each n d less).within)
