-- Different numbers below a bound, and lists as numbers.
use Rattle.std.proofs.Common.{◌≡◌, ℕ, zero, suc, ◌+◌, ◌*◌, ◌<◌, ◌≤◌, ◌⊎◌, inl, inr, refl, sym, ◌∙◌, ap, subst, arith, List, [], ◌∷◌, Bool, true, false, length, eqb, eqb→eq, T, ◌||◌, ◌/◌}
use Rattle.std.specs.List.{IsDistinct, AllByRecursion, list_any}
use Rattle.std.proofs.lemmas.Map.Steps.{length-le_from_distinct_below}
use Rattle.std.proofs.lemmas.Nat.{div-mul-add, mul-add-lt}

-- ---- different codes below N are at most N
abbrev codes : ℕ → (ℕ → ℕ) → List ℕ
codes zero f = f zero ∷ []
codes (suc n) f = f (suc n) ∷ codes n f

length_codes : (n : ℕ) (f : ℕ → ℕ) → length (codes n f) ≡ suc n
length_codes zero f = refl
length_codes (suc n) f = ap suc (length_codes n f)

differ : (a b : ℕ) → (a ≡ b → ⊥) → eqb a b ≡ false
differ a b d = go (eqb a b) refl
  where
    go : (x : Bool) → eqb a b ≡ x → x ≡ false
    go true e = absurd (d (eqb→eq a b (subst T (sym e) tt)))
    go false e = refl

none_same : (m n : ℕ) (f : ℕ → ℕ) → n < m → ((i : ℕ) → i < m → f i ≡ f m → ⊥) → AllByRecursion (λ y. eqb (f m) y ≡ false) (codes n f)
none_same m zero f l h = (differ (f m) (f zero) (λ e. h zero l (sym e)), tt)
none_same m (suc n) f l h = (differ (f m) (f (suc n)) (λ e. h (suc n) l (sym e)), none_same m n f (omega arith) h)

distinct : (n : ℕ) (f : ℕ → ℕ) → ((i j : ℕ) → i < j → j ≤ n → f i ≡ f j → ⊥) → IsDistinct eqb (codes n f)
unfolding IsDistinct
distinct zero f h = (tt, tt)
distinct (suc n) f h = (none_same (suc n) n f (omega arith) (λ i l. h i (suc n) l (omega arith)), distinct n f (λ i j l m. h i j l (omega arith)))

member_below : (N n : ℕ) (f : ℕ → ℕ) → ((i : ℕ) → i ≤ n → f i < N) → (q : ℕ) → list_any (eqb q) (codes n f) ≡ true → q < N
member_below N n f h q e = go n h e
  where
    either : (a b : Bool) → a || b ≡ true → (a ≡ true) ⊎ (b ≡ true)
    either true b e = inl refl
    either false b e = inr e

    at : (i : ℕ) → f i < N → eqb q (f i) ≡ true → q < N
    at i l e = rw (eqb→eq q (f i) (subst T (sym e) tt)) l

    go : (n : ℕ) → ((i : ℕ) → i ≤ n → f i < N) → list_any (eqb q) (codes n f) ≡ true → q < N
    go zero h e = elim (either (eqb q (f zero)) false e) as (λ _. q < N) [ inl x ↦ at zero (h zero (omega arith)) x | inr x ↦ absurd (cc) ]
    go (suc n) h e = elim (either (eqb q (f (suc n))) (list_any (eqb q) (codes n f)) e) as (λ _. q < N) [ inl x ↦ at (suc n) (h (suc n) (omega arith)) x | inr x ↦ go n (λ i l. h i (omega arith)) x ]

-- steps through states whose codes lie below N and differ are fewer than N
pub steps_below : (N n : ℕ) (f : ℕ → ℕ) → ((i : ℕ) → i ≤ n → f i < N) → ((i j : ℕ) → i < j → j ≤ n → f i ≡ f j → ⊥) → n < N
steps_below N n f h d = let l : length (codes n f) ≤ N = length-le_from_distinct_below (codes n f) N (distinct n f d) (member_below N n f h) in omega (arith, length_codes n f)

-- ---- a list of numbers below b as one number
abbrev pub pack : ℕ → ℕ → (ℕ → ℕ) → ℕ
pack b zero f = 0
pack b (suc n) f = pack b n f * b + f n

abbrev pub power : ℕ → ℕ → ℕ
power b zero = 1
power b (suc n) = b * power b n

pub pack_below : (b n : ℕ) (f : ℕ → ℕ) → ((i : ℕ) → i < n → f i < b) → pack b n f < power b n
pack_below b zero f h = omega arith
pack_below b (suc n) f h = mul-add-lt (pack b n f) b (f n) (power b n) (pack_below b n f (λ i l. h i (omega arith))) (h n (omega arith))

pub pack_same : (b n : ℕ) (f g : ℕ → ℕ) → ((i : ℕ) → i < n → f i < b) → ((i : ℕ) → i < n → g i < b) → pack b n f ≡ pack b n g → (i : ℕ) → i < n → f i ≡ g i
pack_same b zero f g hf hg e i l = absurd (omega arith)
pack_same b (suc n) f g hf hg e i l =
    let q : pack b n f ≡ pack b n g = sym (div-mul-add (pack b n f) b (f n) (hf n (omega arith))) ∙ ap (λ z. z / b) e ∙ div-mul-add (pack b n g) b (g n) (hg n (omega arith)) in
    elim (cases i n l) as (λ _. f i ≡ g i) [
      | inl m ↦ pack_same b n f g (λ i l. hf i (omega arith)) (λ i l. hg i (omega arith)) q i m
      | inr m ↦ rw m (omega (arith, e, ap (λ z. z * b) q))
    ]
  where
    cases : (i n : ℕ) → i < suc n → (i < n) ⊎ (i ≡ n)
    cases i n l = grind arith
