use Rattle.std.specs.Prelude.{◌↔◌, IsTrue, ◌≡◌, ℤ, pos, ◌*ℤ◌, ◌<ℤ◌, ◌≤ℤ◌, Bool, true, ◌&&◌}
use Rattle.std.specs.Ordering.{int_cmp, int_eq, MatchOrdering, is_eq, as_partial_cmp}
use Rattle.std.specs.declared.cmp.Ordering.{Ordering}
use Rattle.std.specs.declared.cmp.Ordering.TheVariants.{Less, Equal, Greater}
use Rattle.std.specs.Cmp.{IsTotalOrder, IsPartialOrder, strict, int_ranks, po, Equal-is, both_ways}
use Rattle.std.proofs.Common.{refl, sym, ap, ap₂, ◌∙◌, subst, arith}
use borrow.Author.Differences.{ints, at_most_in, up, down}
use Rattle.hys_number.specs.Number.{Number, same_number}
use Rattle.hys_number.specs.Ops.{◌≤ₙ◌, ◌<ₙ◌}
use Rattle.hys_number.proofs.Bools.{and_both}
use Rattle.hys_number.proofs.Order.{le_antisymm, lt_trans, lt_irrefl}

-- what `cmp` answers
unfoldable pub number_cmp : Number → Number → Ordering
number_cmp a b = int_cmp (a.num *ℤ pos b.den) (b.num *ℤ pos a.den)

means : (a b : Number) (r : Ordering) → MatchOrdering r ((a.num *ℤ pos b.den) <ℤ (b.num *ℤ pos a.den)) (a.num *ℤ pos b.den ≡ b.num *ℤ pos a.den) ((b.num *ℤ pos a.den) <ℤ (a.num *ℤ pos b.den)) → MatchOrdering r (a <ₙ b) (a ≡ b) (b <ₙ a)
unfolding ◌<ₙ◌ ◌≤ₙ◌
means a b Less h = h
means a b Equal h = le_antisymm a b (le_of (a.num *ℤ pos b.den) (b.num *ℤ pos a.den) h) (le_of (b.num *ℤ pos a.den) (a.num *ℤ pos b.den) (sym h))
  where
    le_of : (x y : ℤ) → x ≡ y → x ≤ℤ y
    le_of x y e = at_most_in x y (omega (arith, ap up e, ap down e))
means a b Greater h = h

-- what the answer says
pub number_ranks : (a b : Number) → MatchOrdering (number_cmp a b) (a <ₙ b) (a ≡ b) (b <ₙ a)
unfolding number_cmp
number_ranks a b = means a b (int_cmp (a.num *ℤ pos b.den) (b.num *ℤ pos a.den)) (int_ranks (a.num *ℤ pos b.den) (b.num *ℤ pos a.den))

pub number_cmp_total : IsTotalOrder number_cmp
number_cmp_total = strict (λ a b. a <ₙ b) lt_irrefl lt_trans number_cmp number_ranks

int_eq_is : (x y : ℤ) → (int_eq x y ≡ true) ↔ (x ≡ y)
int_eq_is x y = grind (arith, ints)

-- what the derived `==` says of two numbers
pub eq_is : (q r : Number) (t : Bool) → t ≡ int_eq q.num r.num && int_eq (pos q.den) (pos r.den) → IsTrue t ↔ (q ≡ r)
eq_is q r t e = (
  λ i. let p : (int_eq q.num r.num ≡ true) × (int_eq (pos q.den) (pos r.den) ≡ true) = and_both _ _ (sym e ∙ i) in
      same_number q r ((int_eq_is _ _).0 p.0) (omega (arith, ints, (int_eq_is (pos q.den) (pos r.den)).0 p.1)),
  λ i. e ∙ ap₂ ◌&&◌ ((int_eq_is _ _).1 (ap (λ (x : Number). x.num) i)) ((int_eq_is _ _).1 (ap (λ (x : Number). pos x.den) i)),
)

-- the derived `==`
abbrev pub parts_eq : Number → Number → Bool
parts_eq a b = int_eq a.num b.num && int_eq (pos a.den) (pos b.den)

pub parts_eq-is : (a b : Number) → parts_eq a b ≡ is_eq (number_cmp a b)
parts_eq-is a b = both_ways (parts_eq a b) (is_eq (number_cmp a b))
    (λ e. (Equal-is (number_cmp a b)).1 (equal a b ((eq_is a b (parts_eq a b) refl).0 e)))
    (λ e. (eq_is a b (parts_eq a b) refl).1 (same a b (number_cmp a b) (number_ranks a b) ((Equal-is (number_cmp a b)).0 e)))
  where
    same : (a b : Number) (r : Ordering) → MatchOrdering r (a <ₙ b) (a ≡ b) (b <ₙ a) → r ≡ Equal → a ≡ b
    same a b Less h e = absurd (cc)
    same a b Equal h e = h
    same a b Greater h e = absurd (cc)

    equal_by : (a : Number) (r : Ordering) → MatchOrdering r (a <ₙ a) (a ≡ a) (a <ₙ a) → r ≡ Equal
    equal_by a Less h = absurd (lt_irrefl a h)
    equal_by a Equal h = refl
    equal_by a Greater h = absurd (lt_irrefl a h)

    equal : (a b : Number) → a ≡ b → number_cmp a b ≡ Equal
    equal a b e = subst (λ x. number_cmp a x ≡ Equal) e (equal_by a (number_cmp a a) (number_ranks a a))

pub number_partial : IsPartialOrder parts_eq (as_partial_cmp number_cmp)
number_partial = po number_cmp_total parts_eq-is

-- an answer that says so is that of `number_cmp`
pub number_cmp_is : (a b : Number) (r : Ordering) → MatchOrdering r (a <ₙ b) (a ≡ b) (b <ₙ a) → r ≡ number_cmp a b
number_cmp_is a b r h = same r (number_cmp a b) h (number_ranks a b)
  where
    not_equal : a <ₙ b → a ≡ b → ⊥
    not_equal h e = lt_irrefl b (subst (λ x. x <ₙ b) e h)

    not_equal' : b <ₙ a → a ≡ b → ⊥
    not_equal' h e = lt_irrefl b (subst (λ x. b <ₙ x) e h)

    same : (r s : Ordering) → MatchOrdering r (a <ₙ b) (a ≡ b) (b <ₙ a) → MatchOrdering s (a <ₙ b) (a ≡ b) (b <ₙ a) → r ≡ s
    same Less Less h k = refl
    same Less Equal h k = absurd (not_equal h k)
    same Less Greater h k = absurd (lt_irrefl a (lt_trans a b a h k))
    same Equal Less h k = absurd (not_equal k h)
    same Equal Equal h k = refl
    same Equal Greater h k = absurd (not_equal' k h)
    same Greater Less h k = absurd (lt_irrefl a (lt_trans a b a k h))
    same Greater Equal h k = absurd (not_equal' h k)
    same Greater Greater h k = refl
