-- One step of reading, in both directions.
use Rattle.std.proofs.Common.{◌≡◌, ℕ, suc, Bool, true, false, List, [], ◌∷◌, length, Option, Some, None, Result, Ok, Err, ◌⊎◌, inl, inr, refl, ap, cond}
use Rattle.std.proofs.lemmas.Bool.{eqb-true}
use Rattle.std.proofs.Common.{eq-eqb}
use Rattle.hys_lex.specs.declared.token.TokenKind.{TokenKind}
use Rattle.hys_lex.specs.declared.token.TokenKind.TheVariants as token
use Rattle.hys_ast.specs.declared.lexeme.Lexeme.{Lexeme}
use Rattle.hys_ast.specs.Grammar.{Is}
use Rattle.hys_parse.specs.Reading.{◌>>=◌, choose, same_kind, expect, after}

pub bind_ok : {A B : Type 0} (r : Result A ℕ) (f : A → Result B ℕ) (y : B) → (r >>= f) ≡ Ok y → (x : A) × (r ≡ Ok x) × (f x ≡ Ok y)
bind_ok (Ok x) f y e = (x, refl, e)
bind_ok (Err d) f y e = absurd cc

abbrev done : {A : Type 0} → A → Result A ℕ
done x = Ok x

pub ok_is : {A : Type 0} (x y : A) → done x ≡ done y → x ≡ y
ok_is x y e = cc

pub choose_is : {A B : Type 0} (o : Option A) (b : B) (f : A → B) (z : B) → choose o b f ≡ z → ((o ≡ None) × (b ≡ z)) ⊎ ((a : A) × (o ≡ Some a) × (f a ≡ z))
choose_is None b f z e = inl (refl, e)
choose_is (Some a) b f z e = inr (a, refl, e)

pub cond_is : {A : Type 0} (b : Bool) (x y z : A) → cond b x y ≡ z → ((b ≡ true) × (x ≡ z)) ⊎ ((b ≡ false) × (y ≡ z))
cond_is true x y z e = inl (refl, e)
cond_is false x y z e = inr (refl, e)

pub if_true : {A : Type 0} (b : Bool) (x y z : A) → b ≡ true → cond b x y ≡ z → x ≡ z
if_true true x y z g e = e
if_true false x y z g e = absurd cc

pub if_false : {A : Type 0} (b : Bool) (x y z : A) → b ≡ false → cond b x y ≡ z → y ≡ z
if_false true x y z g e = absurd cc
if_false false x y z g e = e

pub same_kind_true : (a b : TokenKind) → same_kind a b ≡ true → a ≡ b
same_kind_true token.Name token.Name e = refl
same_kind_true token.Literal token.Literal e = refl
same_kind_true (token.Keyword a) (token.Keyword b) e = ap token.Keyword (eqb-true a b e)
same_kind_true (token.Sign a) (token.Sign b) e = ap token.Sign (eqb-true a b e)
same_kind_true _ _ e = absurd cc

pub same_kind_refl : (a : TokenKind) → same_kind a a ≡ true
same_kind_refl token.Name = refl
same_kind_refl token.Literal = refl
same_kind_refl (token.Keyword a) = eq-eqb a a refl
same_kind_refl (token.Sign a) = eq-eqb a a refl

pub record Taken {B : Type 0} (k : TokenKind) (ts : List Lexeme) (f : Lexeme × List Lexeme → Result B ℕ) (y : B) : Type 0 where
  pub first : Lexeme
  pub rest : List Lexeme
  pub is : ts ≡ first ∷ rest
  pub kind : Is k first
  pub next : f (first, rest) ≡ Ok y

pub expect_then : {B : Type 0} (k : TokenKind) (ts : List Lexeme) (f : Lexeme × List Lexeme → Result B ℕ) (y : B) → (expect k ts >>= f) ≡ Ok y → Taken k ts f y
unfolding expect
expect_then k [] f y e = absurd cc
expect_then {B} k (l ∷ ts) f y e = go (same_kind l.kind k) refl e
  where
    go : (b : Bool) → same_kind l.kind k ≡ b → (cond b (Ok (l, ts)) (Err (suc (length ts))) >>= f) ≡ Ok y → Taken k (l ∷ ts) f y
    go true h e = record { first = l; rest = ts; is = refl; kind = same_kind_true l.kind k h; next = e }
    go false h e = absurd cc

pub expect_is : (k : TokenKind) (l : Lexeme) (ts : List Lexeme) → Is k l → expect k (l ∷ ts) ≡ Ok (l, ts)
unfolding expect
expect_is k l ts is = rw (is, same_kind_refl k) refl

pub after_then : (k : TokenKind) (ts rest : List Lexeme) → after k ts ≡ Some rest → (l : Lexeme) × (ts ≡ l ∷ rest) × Is k l
unfolding after
after_then k [] rest e = absurd cc
after_then k (l ∷ ts) rest e = go (same_kind l.kind k) refl e
  where
    go : (b : Bool) → same_kind l.kind k ≡ b → cond b (Some ts) None ≡ Some rest → (m : Lexeme) × (l ∷ ts ≡ m ∷ rest) × Is k m
    go true h e = (l, ap (λ (r : List Lexeme). l ∷ r) cc, same_kind_true l.kind k h)
    go false h e = absurd cc

pub after_is : (k : TokenKind) (l : Lexeme) (ts : List Lexeme) → Is k l → after k (l ∷ ts) ≡ Some ts
unfolding after
after_is k l ts is = rw (is, same_kind_refl k) refl

pub after_not : (k j : TokenKind) (l : Lexeme) (ts : List Lexeme) → Is j l → same_kind j k ≡ false → after k (l ∷ ts) ≡ None
unfolding after
after_not k j l ts is differ = rw (is, differ) refl
