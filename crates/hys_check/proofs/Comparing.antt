-- What tests of numbers say.
use Rattle.std.proofs.Common.{◌≡◌, ◌↔◌, ◌⊎◌, inl, inr, refl, sym, ◌∙◌, ap, subst, Bool, true, false, ◌&&◌, ◌||◌, not, nat_lt, nat_le, nat_eq, ℕ, ◌<◌, ◌≤◌, arith, tests}
use Rattle.std.specs.Ordering.{is_eq}
use Rattle.hys_number.specs.Number.{Number}
use Rattle.hys_number.specs.Ops.{◌≤ₙ◌, ◌<ₙ◌, whole}
use Rattle.hys_number.proofs.Order.{lt_irrefl, lt_of_lt-le}
use Rattle.hys_number.proofs.Bools.{lt_true, and_both}
use Rattle.hys_frac.specs.Compare.{number_cmp, parts_eq, parts_eq-is, eq_is}
use Rattle.hys_frac.proofs.Comparisons.{is_le-cmp, is_lt-cmp}
use Rattle.hys_lin.specs.Bits.{IsBit}
use Rattle.hys_lin.specs.Sums.{compared, Within}
use Rattle.hys_lin.specs.declared.form.Interval.{Interval}
use Rattle.hys_check.specs.Testing.{is_at_most, is_below, is_equal}
use Rattle.hys_check.specs.ClaimTests.{is_inside, is_bit, compares}

pub at_most : (a b : Number) → (is_at_most a b ≡ true) ↔ (a ≤ₙ b)
at_most a b = is_le-cmp a b

pub below : (a b : Number) → (is_below a b ≡ true) ↔ (a <ₙ b)
below a b = is_lt-cmp a b

pub equal : (a b : Number) → (is_equal a b ≡ true) ↔ (a ≡ b)
equal a b = (λ e. (eq_is a b (parts_eq a b) refl).0 (parts_eq-is a b ∙ e), λ e. sym (parts_eq-is a b) ∙ (eq_is a b (parts_eq a b) refl).1 e)

-- two tests that hold alike are one
pub same_test : (b c : Bool) → (b ≡ true → c ≡ true) → (c ≡ true → b ≡ true) → b ≡ c
same_test true c f g = sym (f refl)
same_test false true f g = g refl
same_test false false f g = refl

pub both : (a b : Bool) → a ≡ true → b ≡ true → a && b ≡ true
both true b e f = f
both false b e f = absurd (cc)

pub either : (a b : Bool) → a || b ≡ true → (a ≡ true) ⊎ (b ≡ true)
either true b e = inl refl
either false b e = inr e

pub either_left : (a b : Bool) → a ≡ true → a || b ≡ true
either_left true b e = refl
either_left false b e = absurd (cc)

pub either_right : (a b : Bool) → b ≡ true → a || b ≡ true
either_right true b e = refl
either_right false b e = e

pub not_false : (b : Bool) → not b ≡ true → b ≡ false
not_false true e = absurd (cc)
not_false false e = refl

pub not_true : (b : Bool) → b ≡ false → not b ≡ true
not_true true e = absurd (cc)
not_true false e = refl

-- ---- whole numbers
pub less : (m n : ℕ) → nat_lt m n ≡ true → m < n
less m n e = grind (arith, tests)

pub at_most_whole : (m n : ℕ) → nat_le m n ≡ true → m ≤ n
at_most_whole m n e = grind (arith, tests)

pub is_at_most_whole : (m n : ℕ) → m ≤ n → nat_le m n ≡ true
is_at_most_whole m n h = grind (arith, tests)

pub same_whole : (m n : ℕ) → nat_eq m n ≡ true → m ≡ n
same_whole m n e = grind (arith, tests)

-- ---- boxes, bits, rows
pub inside : (i : Interval) (x : Number) → (is_inside i x ≡ true) ↔ Within i x
inside i x = (
  λ e. let w : (is_at_most i.low x ≡ true) × (is_at_most x i.high ≡ true) = and_both (is_at_most i.low x) (is_at_most x i.high) e in
      record { low = (at_most i.low x).0 w.0; high = (at_most x i.high).0 w.1 },
  λ w. both (is_at_most i.low x) (is_at_most x i.high) ((at_most i.low x).1 w.low) ((at_most x i.high).1 w.high),
)

pub a_bit : (x : Number) → (is_bit x ≡ true) ↔ IsBit x
a_bit x = (λ e. go (either (is_equal x (whole 0)) (is_equal x (whole 1)) e), back)
  where
    go : (is_equal x (whole 0) ≡ true) ⊎ (is_equal x (whole 1) ≡ true) → IsBit x
    go (inl e) = inl ((equal x (whole 0)).0 e)
    go (inr e) = inr ((equal x (whole 1)).0 e)

    back : IsBit x → is_bit x ≡ true
    back (inl e) = either_left (is_equal x (whole 0)) (is_equal x (whole 1)) ((equal x (whole 0)).1 e)
    back (inr e) = either_right (is_equal x (whole 0)) (is_equal x (whole 1)) ((equal x (whole 1)).1 e)

pub comparison : (q : Bool) (a b : Number) → (compares q a b ≡ true) ↔ compared q a b
comparison true a b = equal a b
comparison false a b = at_most a b

pub bit_first : (x z : Number) (t : Bool) → z ≡ whole 0 → (t ≡ true) ↔ (x ≡ z) → t ≡ true → t ≡ is_bit x
bit_first x z t e h q = same_test t (is_bit x) (λ _. either_left (is_equal x (whole 0)) (is_equal x (whole 1)) ((equal x (whole 0)).1 (h.0 q ∙ e))) (λ _. q)

pub bit_second : (x z o : Number) (t u : Bool) → z ≡ whole 0 → o ≡ whole 1 → (t ≡ true) ↔ (x ≡ z) → t ≡ false → (u ≡ true) ↔ (x ≡ o) → u ≡ is_bit x
bit_second x z o t u e f h q k = same_test u (is_bit x)
    (λ r. either_right (is_equal x (whole 0)) (is_equal x (whole 1)) ((equal x (whole 1)).1 (k.0 r ∙ f)))
    (λ r. go (either (is_equal x (whole 0)) (is_equal x (whole 1)) r))
  where
    clash : (t : Bool) → t ≡ true → t ≡ false → ⊥
    clash t e f = cc

    go : (is_equal x (whole 0) ≡ true) ⊎ (is_equal x (whole 1) ≡ true) → u ≡ true
    go (inl r) = absurd (clash t (h.1 ((equal x (whole 0)).0 r ∙ sym e)) q)
    go (inr r) = k.1 ((equal x (whole 1)).0 r ∙ sym f)

-- tests of a number by code
pub at_most_test : (a b c : Number) (t : Bool) → t ≡ is_at_most a b → a ≡ c → t ≡ is_at_most c b
at_most_test a b c t e f = e ∙ ap (λ x. is_at_most x b) f
