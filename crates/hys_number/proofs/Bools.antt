-- Tests and their connectives.
use Rattle.std.proofs.Common.{◌≡◌, ℕ, ◌<◌, ◌≤◌, Bool, true, false, ◌&&◌, ◌||◌, ◌⊎◌, inl, inr, nat_eq, nat_lt, refl, arith, tests}

pub lt_true : (m n : ℕ) → m < n → nat_lt m n ≡ true
lt_true m n h = grind (arith, tests)

pub lt_false : (m n : ℕ) → n ≤ m → nat_lt m n ≡ false
lt_false m n h = grind (arith, tests)

pub eq_true : (m n : ℕ) → m ≡ n → nat_eq m n ≡ true
eq_true m n h = grind (arith, tests)

pub eq_false : (m n : ℕ) → (m ≡ n → ⊥) → nat_eq m n ≡ false
eq_false m n h = grind (arith, tests)

pub all_true : (a b c : Bool) → a ≡ true → b ≡ true → c ≡ true → a && (b && c) ≡ true
all_true a b c i j k = rw (i, j, k) refl

pub one_false : (a b c : Bool) → (a ≡ false) ⊎ ((b ≡ false) ⊎ (c ≡ false)) → a && (b && c) ≡ false
one_false a b c (inl e) = rw e refl
one_false true b c (inr (inl e)) = rw e refl
one_false false b c (inr (inl e)) = refl
one_false true true c (inr (inr e)) = e
one_false true false c (inr (inr e)) = refl
one_false false b c (inr (inr e)) = refl

pub both_true : (a b : Bool) → a ≡ true → b ≡ true → a && b ≡ true
both_true a b i j = rw (i, j) refl

pub either_false : (a b : Bool) → (a ≡ false) ⊎ (b ≡ false) → a && b ≡ false
either_false a b (inl e) = rw e refl
either_false true b (inr e) = e
either_false false b (inr e) = refl

pub or_true : (a b : Bool) → (a ≡ true) ⊎ (b ≡ true) → a || b ≡ true
or_true a b (inl e) = rw e refl
or_true true b (inr e) = refl
or_true false b (inr e) = e

pub or_false : (a b : Bool) → a ≡ false → b ≡ false → a || b ≡ false
or_false a b i j = rw (i, j) refl

pub not_true : (b : Bool) → (b ≡ true → ⊥) → b ≡ false
not_true true h = absurd (h refl)
not_true false h = refl

pub and_both : (a b : Bool) → a && b ≡ true → (a ≡ true) × (b ≡ true)
and_both true b e = (refl, e)
and_both false b e = absurd (cc)
