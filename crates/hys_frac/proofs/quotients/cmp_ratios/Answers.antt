use Rattle.std.proofs.Common.{◌≡◌, ◌∙◌, ◌/◌, ◌%◌, ◌⊎◌, inl, inr, arith}
use Rattle.hys_frac.proofs.QuotientOrder.{by_whole, by_zero, turned}
use Rattle.hys_frac.proofs.quotients.cmp_ratios.Goals as goal
use Rattle.hys_frac.proofs.quotients.cmp_ratios.Goals.{then-rest-eq0-via-then-rest-eq0, then-rest-eq0-via-else-rest-eq0+then-other_rest-eq0}

pub returns-then-whole-other : goal.returns-then-whole-other
returns-then-whole-other c = c.cmp.ensures ∙ by_whole c.turns.left.0 c.turns.left.1 c.turns.right.0 c.turns.right.1 c.turns.invariant.first c.turns.invariant.second (λ e. c.if-whole-other.true e) ∙ c.turns.invariant.order

pub returns-then-rest-eq0 : goal.returns-then-rest-eq0
returns-then-rest-eq0 c =
    let e : c.turns.left.0 / c.turns.left.1 ≡ c.turns.right.0 / c.turns.right.1 = omega (arith, c.if-whole-other.false) in
    let z : (c.turns.left.0 % c.turns.left.1 ≡ 0) ⊎ (c.turns.right.0 % c.turns.right.1 ≡ 0) = elim c.then-rest-eq0.branch [ then-rest-eq0-via-then-rest-eq0 w ↦ inl w.if-rest-eq0.true | then-rest-eq0-via-else-rest-eq0+then-other_rest-eq0 w ↦ inr w.if-other_rest-eq0.true ] in
    c.cmp-then-rest-eq0.ensures ∙ by_zero c.turns.left.0 c.turns.left.1 c.turns.right.0 c.turns.right.1 c.turns.invariant.first c.turns.invariant.second e z ∙ c.turns.invariant.order

pub turns-preserved : goal.turns-preserved
turns-preserved c = record {
  first = omega (arith, c.if-other_rest-eq0.false);
  second = omega (arith, c.if-rest-eq0.false);
  order = turned c.turns.left.0 c.turns.left.1 c.turns.right.0 c.turns.right.1 (omega (arith, c.if-whole-other.false)) ∙ c.turns.invariant.order;
}
