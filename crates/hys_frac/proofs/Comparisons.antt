-- what `<`, `<=`, `>`, `>=` and `==` answer of two fractions
use Rattle.std.proofs.Common.{◌≡◌, ◌↔◌, sym, subst, IsTrue, is_le, is_lt, is_ge, is_gt, Less, Equal, Greater, Ordering, refl}
use Rattle.std.specs.Ordering.{MatchOrdering}
use Rattle.hys_number.specs.Number.{Number}
use Rattle.hys_number.specs.Ops.{◌≤ₙ◌, ◌<ₙ◌}
use Rattle.hys_number.proofs.Order.{le_refl', le_of_lt, lt_of_le-lt, lt_irrefl}
use Rattle.hys_frac.specs.Compare.{number_cmp, number_ranks}

below : (a b : Number) (r : Ordering) → MatchOrdering r (a <ₙ b) (a ≡ b) (b <ₙ a) → IsTrue (is_lt r) ↔ (a <ₙ b)
below a b Less h = (λ _. h, λ _. refl)
below a b Equal h = (λ e. absurd (cc), λ l. absurd (lt_irrefl b (subst (λ x. x <ₙ b) h l)))
below a b Greater h = (λ e. absurd (cc), λ l. absurd (lt_irrefl a (lt_of_le-lt a b a (le_of_lt a b l) h)))

at_most : (a b : Number) (r : Ordering) → MatchOrdering r (a <ₙ b) (a ≡ b) (b <ₙ a) → IsTrue (is_le r) ↔ (a ≤ₙ b)
at_most a b Less h = (λ _. le_of_lt a b h, λ _. refl)
at_most a b Equal h = (λ _. subst (λ x. a ≤ₙ x) h (le_refl' a), λ _. refl)
at_most a b Greater h = (λ e. absurd (cc), λ l. absurd (lt_irrefl a (lt_of_le-lt a b a l h)))

above : (a b : Number) (r : Ordering) → MatchOrdering r (a <ₙ b) (a ≡ b) (b <ₙ a) → IsTrue (is_gt r) ↔ (b <ₙ a)
above a b Less h = (λ e. absurd (cc), λ l. absurd (lt_irrefl a (lt_of_le-lt a b a (le_of_lt a b h) l)))
above a b Equal h = (λ e. absurd (cc), λ l. absurd (lt_irrefl b (subst (λ x. b <ₙ x) h l)))
above a b Greater h = (λ _. h, λ _. refl)

at_least : (a b : Number) (r : Ordering) → MatchOrdering r (a <ₙ b) (a ≡ b) (b <ₙ a) → IsTrue (is_ge r) ↔ (b ≤ₙ a)
at_least a b Less h = (λ e. absurd (cc), λ l. absurd (lt_irrefl b (lt_of_le-lt b a b l h)))
at_least a b Equal h = (λ _. subst (λ x. b ≤ₙ x) (sym h) (le_refl' b), λ _. refl)
at_least a b Greater h = (λ _. le_of_lt b a h, λ _. refl)

pub is_lt-cmp : (a b : Number) → IsTrue (is_lt (number_cmp a b)) ↔ (a <ₙ b)
is_lt-cmp a b = below a b (number_cmp a b) (number_ranks a b)

pub is_le-cmp : (a b : Number) → IsTrue (is_le (number_cmp a b)) ↔ (a ≤ₙ b)
is_le-cmp a b = at_most a b (number_cmp a b) (number_ranks a b)

pub is_gt-cmp : (a b : Number) → IsTrue (is_gt (number_cmp a b)) ↔ (b <ₙ a)
is_gt-cmp a b = above a b (number_cmp a b) (number_ranks a b)

pub is_ge-cmp : (a b : Number) → IsTrue (is_ge (number_cmp a b)) ↔ (b ≤ₙ a)
is_ge-cmp a b = at_least a b (number_cmp a b) (number_ranks a b)
