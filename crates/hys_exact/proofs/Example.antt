-- The rows of the guard program mean its items.
use Rattle.std.proofs.Common.{◌≡◌, ◌↔◌, ℕ, zero, suc, ◌*◌, ◌<◌, List, [], ◌∷◌, true, false, get_or, refl, sym, ◌∙◌, ap, ap₂, arith, inl, inr, ◌⊎◌, pos, negsuc}
use Rattle.hys_number.specs.Gcd.{gcd}
use Rattle.hys_number.specs.Number.{Number, make}
use Rattle.hys_number.specs.Ops.{whole, ◌+ₙ◌, ◌*ₙ◌, neg, ◌≤ₙ◌, ◌<ₙ◌}
use Rattle.hys_number.proofs.Laws.{ratio, whole-ratio}
use Rattle.hys_number.proofs.Inverse.{make-ratio}
use Rattle.hys_number.proofs.Field.{mul_comm, mul_one, mul_zero, add_zero, neg-mul}
use Rattle.hys_number.proofs.Order.{lt_irrefl, lt_of_lt-le}
use Rattle.hys_number.proofs.Scale.{overs, ratio-more, ratio-more', common1, common1_of}
use Rattle.hys_lin.specs.Bits.{IsBit}
use Rattle.hys_lin.specs.Sums.{Assignment, sum_of, value, Holds}
use Rattle.hys_prog.specs.Guarded.{guarded, d_first, difference, alone, d_item, x_item}
use Rattle.hys_bound.specs.Ranges.{intervals}
use Rattle.hys_exact.specs.Columns.{front}
use Rattle.hys_exact.specs.Parts.{Part, Means, by_columns}
use Rattle.hys_exact.specs.Built.{IsBuilt}
use Rattle.hys_exact.specs.Example.{first_row, second_row, guard_system}

-- ---- the rows, and the guard number
minus_one : make (negsuc 0) 1 ≡ neg (whole 1)
unfolding whole make gcd neg
minus_one = refl

minus_times : (a : Number) → make (negsuc 0) 1 *ₙ a ≡ neg a
minus_times a = ap (λ (m : Number). m *ₙ a) minus_one ∙ neg-mul (whole 1) a ∙ ap neg (mul_comm (whole 1) a ∙ mul_one a)

first_is : (v : Assignment) → sum_of first_row.terms v ≡ neg (v 0) +ₙ whole 5 *ₙ v 1
first_is v = ap₂ ◌+ₙ◌ (minus_times (v 0)) (add_zero (whole 5 *ₙ v 1))

second_is : (v : Assignment) → sum_of second_row.terms v ≡ v 0 +ₙ make (negsuc 5000) 1000 *ₙ v 1
second_is v = ap₂ ◌+ₙ◌ (mul_comm (whole 1) (v 0) ∙ mul_one (v 0)) (add_zero (make (negsuc 5000) 1000 *ₙ v 1))

number_is : (v : Assignment) → value difference v ≡ neg (v 0) +ₙ whole 5
unfolding value
number_is v = ap (λ (a : Number). a +ₙ whole 5) (add_zero (make (negsuc 0) 1 *ₙ v 0) ∙ minus_times (v 0))

-- ---- over one denominator, which 1000 divides
one_over : (E k p n : ℕ) → 0 < E → E ≡ 1000 * k → whole 0 ≤ₙ ratio p n E → ratio p n E ≤ₙ whole 10 →
    ((neg (ratio p n E) +ₙ whole 5 ≤ₙ whole 0) × (ratio p n E +ₙ ratio 0 (5001 * k) E ≤ₙ ratio (4999 * k) 0 E)) ↔ (neg (ratio p n E) +ₙ whole 5 ≤ₙ whole 0)
one_over E k p n h e = simp (overs, whole-ratio 0 E h, whole-ratio 5 E h, whole-ratio 10 E h) (omega arith)

zero_over : (E k p n : ℕ) → 0 < E → E ≡ 1000 * k → whole 0 ≤ₙ ratio p n E → ratio p n E ≤ₙ whole 10 →
    ((neg (ratio p n E) +ₙ whole 0 ≤ₙ whole 0) × (ratio p n E +ₙ whole 0 ≤ₙ ratio (4999 * k) 0 E)) ↔ (ratio k 0 E ≤ₙ neg (ratio p n E) +ₙ whole 5)
zero_over E k p n h e = simp (overs, whole-ratio 0 E h, whole-ratio 5 E h, whole-ratio 10 E h) (omega arith)

clear_over : (E k p n : ℕ) → 0 < E → E ≡ 1000 * k → (ratio k 0 E ≤ₙ ratio p n E) ↔ ((whole 0 <ₙ ratio p n E) × ((ratio p n E <ₙ ratio k 0 E) → ⊥))
clear_over E k p n h e = simp (overs, whole-ratio 0 E h) (omega arith)

-- ---- the numbers of the rows
in_thousandths : (a k : ℕ) → 0 < k → make (pos a) 1000 ≡ ratio (a * k) 0 (1000 * k)
in_thousandths a k h = let z : 0 * k ≡ 0 = omega arith in make-ratio (pos a) 1000 (omega arith) ∙ (rw z at (ratio-more a 0 1000 k (omega arith) h))

minus_thousandths : (a k : ℕ) → 0 < k → make (negsuc a) 1000 ≡ ratio 0 (suc a * k) (1000 * k)
minus_thousandths a k h = let z : 0 * k ≡ 0 = omega arith in make-ratio (negsuc a) 1000 (omega arith) ∙ (rw z at (ratio-more 0 (suc a) 1000 k (omega arith) h))

abbrev guard_number : Number → Number
guard_number x = neg x +ₙ whole 5

-- the rows, at the two numbers of d
rows_one : (x : Number) → whole 0 ≤ₙ x → x ≤ₙ whole 10 →
    ((neg x +ₙ whole 5 ≤ₙ whole 0) × (x +ₙ make (negsuc 5000) 1000 ≤ₙ make (pos 4999) 1000)) ↔ (guard_number x ≤ₙ whole 0)
rows_one x = elim (common1_of x) [
  | common1 D h p n e ↦
      rw (e ∙ ratio-more' p n D 1000 h (omega arith), in_thousandths 4999 D h, minus_thousandths 5000 D h) (one_over (1000 * D) D (1000 * p) (1000 * n) (omega arith) refl)
]

rows_zero : (x : Number) → whole 0 ≤ₙ x → x ≤ₙ whole 10 →
    ((neg x +ₙ whole 0 ≤ₙ whole 0) × (x +ₙ whole 0 ≤ₙ make (pos 4999) 1000)) ↔ (make (pos 1) 1000 ≤ₙ guard_number x)
rows_zero x = elim (common1_of x) [
  | common1 D h p n e ↦
      let z : 1 * D ≡ D = omega arith in
      rw (e ∙ ratio-more' p n D 1000 h (omega arith), in_thousandths 4999 D h, in_thousandths 1 D h, z) (zero_over (1000 * D) D (1000 * p) (1000 * n) (omega arith) refl)
]

clear : (a : Number) → (make (pos 1) 1000 ≤ₙ a) ↔ ((whole 0 <ₙ a) × ((a <ₙ make (pos 1) 1000) → ⊥))
clear a = elim (common1_of a) [
  | common1 D h p n e ↦
      let z : 1 * D ≡ D = omega arith in
      rw (e ∙ ratio-more' p n D 1000 h (omega arith), in_thousandths 1 D h, z) (clear_over (1000 * D) D (1000 * p) (1000 * n) (omega arith) refl)
]

one_not_zero : whole 1 ≡ whole 0 → ⊥
unfolding whole make gcd
one_not_zero e = let q : pos 1 ≡ pos 0 = ap (λ (a : Number). a.num) e in absurd (cc)

abbrev IsGuarded : Number → Number → Type 0
IsGuarded g d = (((g ≤ₙ whole 0) × (d ≡ whole 1)) ⊎ ((whole 0 <ₙ g) × (d ≡ whole 0))) × ((whole 0 <ₙ g) × (g <ₙ make (pos 1) 1000) → ⊥)

rows_mean : (x d : Number) → whole 0 ≤ₙ x → x ≤ₙ whole 10 → IsBit d →
    ((neg x +ₙ whole 5 *ₙ d ≤ₙ whole 0) × (x +ₙ make (negsuc 5000) 1000 *ₙ d ≤ₙ make (pos 4999) 1000)) ↔ IsGuarded (guard_number x) d
rows_mean x d l m (inr e) = rw (e, mul_one (whole 5), mul_one (make (negsuc 5000) 1000)) (
  λ h. let k : guard_number x ≤ₙ whole 0 = (rows_one x l m).0 h in (inl (k, refl), λ c. lt_irrefl (whole 0) (lt_of_lt-le (whole 0) (guard_number x) (whole 0) c.0 k)),
  λ h. (rows_one x l m).1 (go h.0),
)
  where
    go : ((guard_number x ≤ₙ whole 0) × (whole 1 ≡ whole 1)) ⊎ ((whole 0 <ₙ guard_number x) × (whole 1 ≡ whole 0)) → guard_number x ≤ₙ whole 0
    go (inl k) = k.0
    go (inr k) = absurd (one_not_zero k.1)
rows_mean x d l m (inl e) = rw (e, mul_zero (whole 5), mul_zero (make (negsuc 5000) 1000)) (
  λ h. let k : (whole 0 <ₙ guard_number x) × ((guard_number x <ₙ make (pos 1) 1000) → ⊥) = (clear (guard_number x)).0 ((rows_zero x l m).0 h) in (inr (k.0, refl), λ c. k.1 c.1),
  λ h. (rows_zero x l m).1 ((clear (guard_number x)).1 (go h.0, λ c. h.1 (go h.0, c))),
)
  where
    go : ((guard_number x ≤ₙ whole 0) × (whole 0 ≡ whole 1)) ⊎ ((whole 0 <ₙ guard_number x) × (whole 0 ≡ whole 0)) → whole 0 <ₙ guard_number x
    go (inl k) = absurd (one_not_zero (sym k.1))
    go (inr k) = k.0

-- ---- the parts
abbrev place : List ℕ
place = 0 ∷ 1 ∷ []

abbrev guard_part : Part
guard_part = record { rows = first_row ∷ second_row ∷ []; count = 0; fresh = λ w. []; form = alone }

abbrev next_part : Part
next_part = record { rows = []; count = 0; fresh = λ w. []; form = alone }

guard_means : Means guarded.names (intervals guarded d_first) place 2 d_item guard_part
unfolding Holds
guard_means = record {
  long = λ w. refl;
  same = λ w w' h. refl;
  means = λ v b f i.
      let r : ((neg (v 0) +ₙ whole 5 *ₙ v 1 ≤ₙ whole 0) × (v 0 +ₙ make (negsuc 5000) 1000 *ₙ v 1 ≤ₙ make (pos 4999) 1000)) ↔ IsGuarded (guard_number (v 0)) (v 1) = rows_mean (v 0) (v 1) i.0.low i.0.high (b 1 (refl, refl)) in
      let n : value difference (by_columns place v) ≡ guard_number (v 0) = number_is (by_columns place v) in (
        λ h.
            let g : IsGuarded (guard_number (v 0)) (v 1) = r.0 (rw (← first_is v) h.0, rw (← second_is v) h.1.0) in
            (record { case = rw n g.0; no_gap = λ k. g.1 (rw n at k); demand = tt }, tt),
        λ h.
            let g : (neg (v 0) +ₙ whole 5 *ₙ v 1 ≤ₙ whole 0) × (v 0 +ₙ make (negsuc 5000) 1000 *ₙ v 1 ≤ₙ make (pos 4999) 1000) = r.1 (rw n at h.0.case, λ k. h.0.no_gap (rw n k)) in
            (rw (first_is v) g.0, (rw (second_is v) g.1, tt)),
      );
  gives = λ v a b f. absurd (let c : false ≡ true = a in cc);
}

next_means : Means guarded.names (intervals guarded d_first) place 2 x_item next_part
unfolding value
next_means = record {
  long = λ w. refl;
  same = λ w w' h. refl;
  means = λ v b f i. (λ h. (record { case = tt; no_gap = λ k. k; demand = tt }, tt), λ h. tt);
  gives = λ v a b f. refl;
}

before_is : (i : ℕ) → i < 2 → get_or place (get_or (front guarded) i 0) 0 ≡ i
before_is zero l = refl
before_is (suc zero) l = refl
before_is (suc (suc i)) l = absurd (omega arith)

pub guard_is_built : IsBuilt guarded (intervals guarded d_first) guard_system
guard_is_built = record {
  parts = guard_part ∷ next_part ∷ [];
  place = place;
  placing = record { long = refl; before = before_is; after = λ i l. absurd (omega arith) };
  mean = (guard_means, (next_means, tt));
  name = refl;
  columns = refl;
  rows = refl;
  labels = refl;
  next = refl;
  outputs = refl;
}
