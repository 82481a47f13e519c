-- Lists of what a function gives for the first places.
use Rattle.std.proofs.Common.{◌≡◌, ℕ, zero, suc, ◌+◌, ◌<◌, ◌⊎◌, inl, inr, refl, sym, ◌∙◌, ap, arith, List, [], ◌∷◌, ◌++◌, length, get_or}
use Rattle.std.proofs.lemmas.List.{length-append, get_or_append_left, get_or_push}
use Rattle.hys_lagrange.specs.Listed.{listed}

pub listed_long : {X : Type 0} (n : ℕ) (f : ℕ → X) → length (listed n f) ≡ n
listed_long zero f = refl
listed_long (suc n) f = length-append (listed n f) (f n ∷ []) ∙ omega (arith, listed_long n f)

pub listed_next : {X : Type 0} (n : ℕ) (f : ℕ → X) (xs : List X) (x : X) → xs ≡ listed n f → x ≡ f n → xs ++ x ∷ [] ≡ listed (n + 1) f
listed_next n f xs x e g = let s : suc n ≡ n + 1 = omega arith in rw (e, g) (ap (λ z. listed z f) s)

below_last : (j n : ℕ) → j < suc n → (j < n) ⊎ (j ≡ n)
below_last j n l = grind arith

pub listed_at : {X : Type 0} (n : ℕ) (f : ℕ → X) (j : ℕ) (d : X) → j < n → get_or (listed n f) j d ≡ f j
listed_at zero f j d l = absurd (omega arith)
listed_at (suc n) f j d l = elim (below_last j n l) as (λ _. get_or (listed n f ++ f n ∷ []) j d ≡ f j) [
  | inl h ↦ get_or_append_left (listed n f) (f n ∷ []) d j (rw (listed_long n f) h) ∙ listed_at n f j d h
  | inr e ↦ get_or_push (listed n f) (f n) d j (listed_long n f ∙ sym e) ∙ ap f (sym e)
]

pub listed_same : {X : Type 0} (n : ℕ) (f g : ℕ → X) → ((j : ℕ) → j < n → f j ≡ g j) → listed n f ≡ listed n g
listed_same zero f g h = refl
listed_same (suc n) f g h = rw (listed_same n f g (λ j l. h j (omega arith)), h n (omega arith)) refl
