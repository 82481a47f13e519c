-- Sums over places: linear, in any order, and by one term.
use Rattle.std.proofs.Common.{◌≡◌, ℕ, zero, suc, ◌<◌, refl, sym, ◌∙◌, ap, ap₂, arith, inl, inr, ◌⊎◌, eq-or-lt_of_le, [], ◌∷◌}
use Rattle.hys_number.specs.Number.{Number}
use Rattle.hys_number.specs.Ops.{◌+ₙ◌, ◌*ₙ◌, ◌-ₙ◌, whole}
use Rattle.hys_number.specs.Sums.{sum_to}
use Rattle.hys_number.proofs.Sums.{sum_to-same, sum_to-add}
use Rattle.hys_number.proofs.Ring.{by_ring, v, k, ◌⊕◌, ◌⊗◌, ◌⊖◌}

pub sum_linear : (n : ℕ) (a b : Number) (f g : ℕ → Number) → sum_to n (λ j. a *ₙ f j +ₙ b *ₙ g j) ≡ a *ₙ sum_to n f +ₙ b *ₙ sum_to n g
sum_linear zero a b f g = by_ring (a ∷ b ∷ []) (k 0) (v 0 ⊗ k 0 ⊕ v 1 ⊗ k 0) refl
sum_linear (suc n) a b f g = ap (λ z. z +ₙ (a *ₙ f n +ₙ b *ₙ g n)) (sum_linear n a b f g)
    ∙ by_ring (a ∷ b ∷ sum_to n f ∷ sum_to n g ∷ f n ∷ g n ∷ []) ((v 0 ⊗ v 2 ⊕ v 1 ⊗ v 3) ⊕ (v 0 ⊗ v 4 ⊕ v 1 ⊗ v 5)) (v 0 ⊗ (v 2 ⊕ v 4) ⊕ v 1 ⊗ (v 3 ⊕ v 5)) refl

pub sum_zero : (n : ℕ) (f : ℕ → Number) → ((j : ℕ) → j < n → f j ≡ whole 0) → sum_to n f ≡ whole 0
sum_zero zero f h = refl
sum_zero (suc n) f h = ap₂ ◌+ₙ◌ (sum_zero n f (λ j l. h j (omega arith))) (h n (omega arith)) ∙ by_ring [] (k 0 ⊕ k 0) (k 0) refl

pub sum_swap : (m n : ℕ) (f : ℕ → ℕ → Number) → sum_to m (λ i. sum_to n (f i)) ≡ sum_to n (λ j. sum_to m (λ i. f i j))
sum_swap zero n f = sym (sum_zero n (λ j. whole 0) (λ j l. refl))
sum_swap (suc m) n f = ap (λ z. z +ₙ sum_to n (f m)) (sum_swap m n f) ∙ sym (sum_to-add n (λ j. sum_to m (λ i. f i j)) (f m))

-- a sum whose terms are those of two others, but at one place
pub sum_apart : (n c : ℕ) (a b : Number) (f g h : ℕ → Number) → c < n → ((j : ℕ) → j < n → ¬ (j ≡ c) → h j ≡ a *ₙ f j +ₙ b *ₙ g j) →
    sum_to n h ≡ (a *ₙ sum_to n f +ₙ b *ₙ sum_to n g) +ₙ (h c -ₙ (a *ₙ f c +ₙ b *ₙ g c))
sum_apart zero c a b f g h l e = absurd (omega arith)
sum_apart (suc n) c a b f g h l e = let t : (suc c ≡ suc n) ⊎ (suc c < suc n) = eq-or-lt_of_le l in elim t as (λ _. sum_to n h +ₙ h n ≡ (a *ₙ (sum_to n f +ₙ f n) +ₙ b *ₙ (sum_to n g +ₙ g n)) +ₙ (h c -ₙ (a *ₙ f c +ₙ b *ₙ g c))) [
  | inl s ↦ last (omega arith)
  | inr s ↦ ap₂ ◌+ₙ◌ (sum_apart n c a b f g h (omega arith) (λ j m d. e j (omega arith) d)) (e n (omega arith) (λ q. absurd (omega arith)))
      ∙ by_ring (a ∷ b ∷ sum_to n f ∷ sum_to n g ∷ f n ∷ g n ∷ h c ∷ f c ∷ g c ∷ [])
      ((v 0 ⊗ v 2 ⊕ v 1 ⊗ v 3) ⊕ (v 6 ⊖ (v 0 ⊗ v 7 ⊕ v 1 ⊗ v 8)) ⊕ (v 0 ⊗ v 4 ⊕ v 1 ⊗ v 5))
      ((v 0 ⊗ (v 2 ⊕ v 4) ⊕ v 1 ⊗ (v 3 ⊕ v 5)) ⊕ (v 6 ⊖ (v 0 ⊗ v 7 ⊕ v 1 ⊗ v 8))) refl
]
  where
    last : n ≡ c → sum_to n h +ₙ h n ≡ (a *ₙ (sum_to n f +ₙ f n) +ₙ b *ₙ (sum_to n g +ₙ g n)) +ₙ (h c -ₙ (a *ₙ f c +ₙ b *ₙ g c))
    last q = rw (← q) (ap (λ z. z +ₙ h n) (sum_to-same n h (λ j. a *ₙ f j +ₙ b *ₙ g j) (λ j m. e j (omega arith) (λ w. absurd (omega arith))) ∙ sum_linear n a b f g)
        ∙ by_ring (a ∷ b ∷ sum_to n f ∷ sum_to n g ∷ f n ∷ g n ∷ h n ∷ [])
        ((v 0 ⊗ v 2 ⊕ v 1 ⊗ v 3) ⊕ v 6)
        ((v 0 ⊗ (v 2 ⊕ v 4) ⊕ v 1 ⊗ (v 3 ⊕ v 5)) ⊕ (v 6 ⊖ (v 0 ⊗ v 4 ⊕ v 1 ⊗ v 5))) refl)

-- a sum with one term other than 0
pub sum_single : (n c : ℕ) (f : ℕ → Number) → c < n → ((j : ℕ) → j < n → ¬ (j ≡ c) → f j ≡ whole 0) → sum_to n f ≡ f c
sum_single n c f l h = sum_apart n c (whole 0) (whole 0) f f f l (λ j m d. h j m d ∙ by_ring (f j ∷ []) (k 0) (k 0 ⊗ v 0 ⊕ k 0 ⊗ v 0) refl)
    ∙ by_ring (sum_to n f ∷ f c ∷ []) ((k 0 ⊗ v 0 ⊕ k 0 ⊗ v 0) ⊕ (v 1 ⊖ (k 0 ⊗ v 1 ⊕ k 0 ⊗ v 1))) (v 1) refl
