-- Comparing numbers, and the ranges of variables.
use Rattle.std.proofs.Common.{◌≡◌, ℕ, ◌⊎◌, inl, inr, ◌↔◌, sym, ◌∙◌, subst, Bool, true, false, IsTrue, Option, Some, None, Less, Equal, Greater}
use Rattle.std.specs.Ordering.{MatchOrdering}
use Rattle.std.specs.declared.cmp.Ordering.{Ordering}
use Rattle.hys_number.specs.Number.{Number}
use Rattle.hys_number.specs.Ops.{◌≤ₙ◌, ◌<ₙ◌}
use Rattle.hys_number.proofs.Order.{le_total, lt_irrefl, lt_trans}
use Rattle.hys_relax.specs.Node.{Boxes}
use Rattle.hys_relax.specs.LinearProgram.{LinearProgram}
use Rattle.hys_simplex.specs.Status.{lower, upper, at_most, InRange}

pub clash : (t : Bool) → t ≡ true → t ≡ false → ⊥
clash t e f = cc

pub not_less : (a b : Number) (t : Bool) → t ≡ false → (IsTrue t ↔ (a <ₙ b)) → b ≤ₙ a
not_less a b t e h = elim (le_total b a) as (λ _. b ≤ₙ a) [ inl l ↦ l | inr m ↦ absurd (clash t (h.1 m) e) ]

pub not_below : (r : Ordering) (a b : Number) → MatchOrdering r (a <ₙ b) (a ≡ b) (b <ₙ a) → (r ≡ Equal) ⊎ (r ≡ Greater) → IsTrue false ↔ (a <ₙ b)
not_below r a b h q = (λ e. absurd (cc), λ l. absurd (go r h q l))
  where
    less_not : (◌≡◌ {A = Ordering} Less Equal) ⊎ (◌≡◌ {A = Ordering} Less Greater) → ⊥
    less_not (inl e) = absurd (cc)
    less_not (inr e) = absurd (cc)

    go : (r : Ordering) → MatchOrdering r (a <ₙ b) (a ≡ b) (b <ₙ a) → (r ≡ Equal) ⊎ (r ≡ Greater) → a <ₙ b → ⊥
    go Less h q l = less_not q
    go Equal h q l = lt_irrefl b (subst (λ z. z <ₙ b) h l)
    go Greater h q l = lt_irrefl a (lt_trans a b a l h)

pub inside_open : (P : LinearProgram) (B : Boxes) (u : ℕ) (x low : Number) (o : Option Number) → low ≡ lower P B u → low ≤ₙ x → o ≡ upper P B u → o ≡ None → InRange P B u x
inside_open P B u x low o e l f q = record { low = subst (λ z. z ≤ₙ x) e l; high = subst (at_most x) (sym q ∙ f) tt }

pub inside_closed : (P : LinearProgram) (B : Boxes) (u : ℕ) (x low high : Number) (o : Option Number) → low ≡ lower P B u → low ≤ₙ x → o ≡ upper P B u → o ≡ Some high → x ≤ₙ high → InRange P B u x
inside_closed P B u x low high o e l f q m = record { low = subst (λ z. z ≤ₙ x) e l; high = subst (at_most x) (sym q ∙ f) m }
