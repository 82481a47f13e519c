-- What the tests on numbers decide.
use Rattle.std.proofs.Common.{◌≡◌, Bool, true, false, refl, ◌&&◌, ◌||◌, ◌⊎◌, inl, inr}
use Rattle.std.specs.Ordering.{MatchOrdering, is_le}
use Rattle.std.specs.declared.cmp.Ordering.{Ordering}
use Rattle.std.specs.declared.cmp.Ordering.TheVariants.{Less, Equal, Greater}
use Rattle.hys_number.specs.Number.{Number}
use Rattle.hys_number.specs.Ops.{◌≤ₙ◌, ◌<ₙ◌, whole}
use Rattle.hys_number.proofs.Order.{le_refl', le_of_lt, lt_of_le-lt, lt_irrefl}
use Rattle.hys_frac.specs.Compare.{number_cmp, number_ranks, eq_is}
use Rattle.hys_lin.specs.Bits.{IsBit}
use Rattle.hys_ast.specs.declared.source.Kind.{Kind}
use Rattle.hys_ast.specs.declared.source.Kind.TheVariants as kind
use Rattle.hys_prog.specs.declared.program.Name.{Name}
use Rattle.hys_prog.specs.Steps.{IsOfKind, InBox}
use Rattle.hys_prog.specs.Stops.{at_most, equals, of_kind, in_box}

-- the sides of a comparison
pub sides : (a b : Number) → ((a ≤ₙ b) × (at_most a b ≡ true)) ⊎ ((b <ₙ a) × (at_most a b ≡ false))
sides a b = go (number_cmp a b) (number_ranks a b)
  where
    go : (r : Ordering) → MatchOrdering r (a <ₙ b) (a ≡ b) (b <ₙ a) → ((a ≤ₙ b) × (is_le r ≡ true)) ⊎ ((b <ₙ a) × (is_le r ≡ false))
    go Less h = inl (le_of_lt a b h, refl)
    go Equal h = inl (rw h (le_refl' b), refl)
    go Greater h = inr (h, refl)

clash : (c : Bool) → c ≡ true → c ≡ false → ⊥
clash c e f = absurd (cc)

pub most_yes : (a b : Number) → at_most a b ≡ true → a ≤ₙ b
most_yes a b e = go (sides a b)
  where
    go : ((a ≤ₙ b) × (at_most a b ≡ true)) ⊎ ((b <ₙ a) × (at_most a b ≡ false)) → a ≤ₙ b
    go (inl h) = h.0
    go (inr h) = absurd (clash (at_most a b) e h.1)

pub most_no : (a b : Number) → at_most a b ≡ false → b <ₙ a
most_no a b e = go (sides a b)
  where
    go : ((a ≤ₙ b) × (at_most a b ≡ true)) ⊎ ((b <ₙ a) × (at_most a b ≡ false)) → b <ₙ a
    go (inl h) = absurd (clash (at_most a b) h.1 e)
    go (inr h) = h.0

pub yes_most : (a b : Number) → a ≤ₙ b → at_most a b ≡ true
yes_most a b l = go (sides a b)
  where
    go : ((a ≤ₙ b) × (at_most a b ≡ true)) ⊎ ((b <ₙ a) × (at_most a b ≡ false)) → at_most a b ≡ true
    go (inl h) = h.1
    go (inr h) = absurd (lt_irrefl a (lt_of_le-lt a b a l h.0))

pub no_most : (a b : Number) → b <ₙ a → at_most a b ≡ false
no_most a b l = go (sides a b)
  where
    go : ((a ≤ₙ b) × (at_most a b ≡ true)) ⊎ ((b <ₙ a) × (at_most a b ≡ false)) → at_most a b ≡ false
    go (inl h) = absurd (lt_irrefl a (lt_of_le-lt a b a h.0 l))
    go (inr h) = h.1

pub equal_yes : (a b : Number) → equals a b ≡ true → a ≡ b
equal_yes a b e = (eq_is a b (equals a b) refl).0 e

pub yes_equal : (a b : Number) → a ≡ b → equals a b ≡ true
yes_equal a b e = (eq_is a b (equals a b) refl).1 e

pub or_parts : (a b : Bool) → a || b ≡ true → (a ≡ true) ⊎ (b ≡ true)
or_parts true b e = inl refl
or_parts false b e = inr e

pub or_left : (a b : Bool) → a ≡ true → a || b ≡ true
or_left true b e = refl
or_left false b e = absurd (cc)

pub or_right : (a b : Bool) → b ≡ true → a || b ≡ true
or_right true b e = refl
or_right false b e = e

and_parts : (a b : Bool) → a && b ≡ true → (a ≡ true) × (b ≡ true)
and_parts true b e = (refl, e)
and_parts false b e = absurd (cc)

and_made : (a b : Bool) → a ≡ true → b ≡ true → a && b ≡ true
and_made true b e f = f
and_made false b e f = absurd (cc)

kind_yes : (k : Kind) (a : Number) → of_kind k a ≡ true → IsOfKind k a
kind_yes kind.Real a e = tt
kind_yes kind.Bool a e = go (or_parts (equals a (whole 0)) (equals a (whole 1)) e)
  where
    go : (equals a (whole 0) ≡ true) ⊎ (equals a (whole 1) ≡ true) → IsBit a
    go (inl h) = inl (equal_yes a (whole 0) h)
    go (inr h) = inr (equal_yes a (whole 1) h)

yes_kind : (k : Kind) (a : Number) → IsOfKind k a → of_kind k a ≡ true
yes_kind kind.Real a h = refl
yes_kind kind.Bool a (inl h) = or_left (equals a (whole 0)) (equals a (whole 1)) (yes_equal a (whole 0) h)
yes_kind kind.Bool a (inr h) = or_right (equals a (whole 0)) (equals a (whole 1)) (yes_equal a (whole 1) h)

pub box_yes : (k : Name) (a : Number) → in_box k a ≡ true → InBox k a
box_yes k a e =
    let p = and_parts (at_most k.bounds.low a && at_most a k.bounds.high) (of_kind k.kind a) e in
    let q = and_parts (at_most k.bounds.low a) (at_most a k.bounds.high) p.0 in
    (record { low = most_yes k.bounds.low a q.0; high = most_yes a k.bounds.high q.1 }, kind_yes k.kind a p.1)

pub yes_box : (k : Name) (a : Number) → InBox k a → in_box k a ≡ true
yes_box k a h = and_made (at_most k.bounds.low a && at_most a k.bounds.high) (of_kind k.kind a) (and_made (at_most k.bounds.low a) (at_most a k.bounds.high) (yes_most k.bounds.low a h.0.low) (yes_most a k.bounds.high h.0.high)) (yes_kind k.kind a h.1)
