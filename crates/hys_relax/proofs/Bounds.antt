-- Weak duality at nodes.
use Rattle.std.proofs.Common.{◌≡◌, ℕ, refl, sym, ◌∙◌, ap, subst, arith, List, [], ◌∷◌, take, length}
use Rattle.hys_number.specs.Number.{Number}
use Rattle.hys_number.specs.Ops.{◌+ₙ◌, ◌*ₙ◌, ◌≤ₙ◌, ◌<ₙ◌, whole}
use Rattle.hys_number.proofs.Order.{lt_of_lt-le}
use Rattle.hys_number.proofs.Scale.{overs, common1, common1_of}
use Rattle.hys_number.proofs.Ring.{by_ring, v, k, ◌⊕◌, ◌⊗◌}
use Rattle.hys_lin.specs.Sums.{Assignment, at, value}
use Rattle.hys_lin.specs.declared.problem.Problem.{Problem}
use Rattle.hys_lin.specs.Problem.{IsProblem}
use Rattle.hys_relax.specs.Node.{StackedSolution, IsNode, node_boxes, RelaxedPoint}
use Rattle.hys_relax.specs.LinearProgram.{linear_program, cost_of}
use Rattle.hys_relax.specs.Bound.{AreLawful, multiplier, IsLeastOver, lagrangian, node_bound, costless, plain_bound}
use Rattle.hys_relax.specs.declared.fixing.Fixing.{Fixing}
use Rattle.hys_relax.proofs.Sums.{sum_zero}
use Rattle.hys_relax.proofs.Duality.{weak_duality, bound_is_least, bound_grows}
use Rattle.hys_relax.proofs.Dense.{signed, meets_is, cost_is}
use Rattle.hys_relax.proofs.Nodes.{under_within, node_ordered, fixable}

pub node_least : (p : Problem) (fs : List Fixing) (pairs : List (ℕ × Number)) → IsProblem p → IsLeastOver (length p.boxes) (node_boxes p fs) (lagrangian (linear_program p) (multiplier pairs)) (node_bound p fs pairs)
node_least p fs pairs h = bound_is_least (linear_program p) (node_boxes p fs) (multiplier pairs) (node_ordered p h fs)

pub node_duality : (p : Problem) (fs : List Fixing) (pairs : List (ℕ × Number)) (u : List Number) → IsProblem p → AreLawful p pairs → RelaxedPoint p fs u → node_bound p fs pairs ≤ₙ value p.cost (at u)
node_duality p fs pairs u h y r = subst (λ z. node_bound p fs pairs ≤ₙ z) (sym (cost_is p h (at u)))
    (weak_duality (linear_program p) (node_boxes p fs) (multiplier pairs) (at u) (signed p pairs y) r.inside ((meets_is p h (at u)).0 r.rows))

costless_zero : (p : Problem) (x : Assignment) → cost_of (linear_program (costless p)) x ≡ whole 0
costless_zero p x = ap (λ z. whole 0 +ₙ z) (sum_zero (length p.boxes) (λ j. whole 0 *ₙ x j) (λ j l. by_ring (x j ∷ []) (k 0 ⊗ v 0) (k 0) refl)) ∙ by_ring [] (k 0 ⊕ k 0) (k 0) refl

not_above_itself : (a : Number) → a <ₙ a → ⊥
not_above_itself a = elim (common1_of a) [ common1 D h p n e ↦ rw (e) (simp overs (omega arith)) ]

pub node_never : (p : Problem) (fs : List Fixing) (pairs : List (ℕ × Number)) (u : List Number) → IsProblem p → AreLawful p pairs → whole 0 <ₙ node_bound (costless p) fs pairs → RelaxedPoint p fs u → ⊥
node_never p fs pairs u h y b r = not_above_itself (whole 0) (lt_of_lt-le (whole 0) (node_bound (costless p) fs pairs) (whole 0) b
    (subst (λ z. node_bound (costless p) fs pairs ≤ₙ z) (costless_zero p (at u))
    (weak_duality (linear_program (costless p)) (node_boxes p fs) (multiplier pairs) (at u) (signed p pairs y) r.inside ((meets_is p h (at u)).0 r.rows))))

pub prefix_bound : (p : Problem) (m : ℕ) (fs : List Fixing) (pairs : List (ℕ × Number)) → IsProblem p → IsNode p fs → node_bound p (take m fs) pairs ≤ₙ node_bound p fs pairs
prefix_bound p m fs pairs h n = bound_grows (linear_program p) (node_boxes p (take m fs)) (node_boxes p fs) (multiplier pairs)
    (λ j l. (under_within p h m fs (fixable p fs n) j l).0) (λ j l. (under_within p h m fs (fixable p fs n) j l).1)

pub plain_below : (p : Problem) (u : List Number) → IsProblem p → StackedSolution p u → plain_bound p ≤ₙ value p.cost (at u)
plain_below p u h s = node_duality p [] [] u h tt (record { long = s.long; inside = s.inside; rows = s.rows })
