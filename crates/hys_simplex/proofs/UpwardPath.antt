-- A path that goes back up isn't ruled, by computation.
use Rattle.std.proofs.Common.{◌≡◌, ℕ, zero, suc, ◌<◌, ◌≤◌, refl, arith, [], ◌∷◌, true, Some, ◌⊎◌, inl, inr}
use Rattle.hys_number.specs.Number.{make, same_number}
use Rattle.hys_number.specs.Gcd.{gcd}
use Rattle.hys_number.specs.Ops.{◌+ₙ◌, ◌*ₙ◌, ◌/ₙ◌, neg, inverse, whole}
use Rattle.hys_relax.specs.Node.{Boxes, node_boxes}
use Rattle.hys_relax.specs.Bound.{node_bound, plain_bound}
use Rattle.hys_relax.specs.LinearProgram.{linear_program}
use Rattle.hys_simplex.specs.Tableau.{start, pivot}
use Rattle.hys_simplex.specs.Path.{IsPathAt, levels, tableau_after}
use Rattle.hys_simplex.specs.Unfit.{cost_pairs}
use Rattle.hys_simplex.specs.Worked.{upward, upward_node, four, five}
use Rattle.hys_simplex.specs.Laws.{UpwardPath}
use Rattle.hys_simplex.proofs.Decide.{rule_test, beneath, beyond, rule_yes, inside_to, inside_yes, inside_not_off, all_to, all_yes, le_test, le_yes}
use Rattle.hys_simplex.specs.Rule.{IsRuled}
use Rattle.hys_simplex.specs.Path.{RulesPath}
use Rattle.hys_simplex.proofs.One.{one_rule}
use Rattle.hys_simplex.proofs.Places.{start_of}
use Rattle.hys_simplex.proofs.Relations.{IsOrdered}
use Rattle.hys_simplex.specs.Status.{lower, upper, basic_value}

first : rule_test (linear_program upward) (levels upward upward_node 2) (start (linear_program upward)) beneath 0 3 ≡ true
unfolding ◌+ₙ◌ ◌*ₙ◌ neg inverse whole make gcd
first = refl

second : rule_test (linear_program upward) (levels upward upward_node 2) (tableau_after upward ((0, 3) ∷ [])) beneath 1 0 ≡ true
unfolding ◌+ₙ◌ ◌*ₙ◌ neg inverse whole make gcd
second = refl

third : rule_test (linear_program upward) (levels upward upward_node 2) (tableau_after upward ((0, 3) ∷ (1, 0) ∷ [])) beyond 1 5 ≡ true
unfolding ◌+ₙ◌ ◌*ₙ◌ neg inverse whole make gcd
third = refl

fourth : rule_test (linear_program upward) (levels upward upward_node 2) (tableau_after upward ((0, 3) ∷ (1, 0) ∷ (1, 5) ∷ [])) beneath 2 4 ≡ true
unfolding ◌+ₙ◌ ◌*ₙ◌ neg inverse whole make gcd
fourth = refl

at_root : rule_test (linear_program upward) (node_boxes upward []) (tableau_after upward four) beyond 0 2 ≡ true
unfolding ◌+ₙ◌ ◌*ₙ◌ neg inverse whole make gcd
at_root = refl

four_ruled : IsPathAt upward upward_node four
four_ruled = (
  2,
  omega arith,
  omega arith,
  rule_yes (linear_program upward) (levels upward upward_node 2) (start (linear_program upward)) beneath 0 3 first,
  (
    2,
    omega arith,
    omega arith,
    rule_yes (linear_program upward) (levels upward upward_node 2) (tableau_after upward ((0, 3) ∷ [])) beneath 1 0 second,
    (
      2,
      omega arith,
      omega arith,
      rule_yes (linear_program upward) (levels upward upward_node 2) (tableau_after upward ((0, 3) ∷ (1, 0) ∷ [])) beyond 1 5 third,
      (2, omega arith, omega arith, rule_yes (linear_program upward) (levels upward upward_node 2) (tableau_after upward ((0, 3) ∷ (1, 0) ∷ (1, 5) ∷ [])) beneath 2 4 fourth, tt),
    ),
  ),
)

plain : plain_bound upward ≡ neg (whole 5)
unfolding ◌+ₙ◌ ◌*ₙ◌ neg inverse whole make gcd
plain = refl

bound : node_bound upward upward_node (cost_pairs upward (tableau_after upward five)) ≡ neg (whole 191 /ₙ whole 36)
unfolding ◌+ₙ◌ ◌*ₙ◌ neg inverse whole make gcd
bound = same_number (node_bound upward upward_node (cost_pairs upward (tableau_after upward five))) (neg (whole 191 /ₙ whole 36)) refl refl

-- ---- the fifth pivot isn't the rule's over the boxes of depth 2 or 3, nor the first over those of depth 0 or 1
other_at_root : rule_test (linear_program upward) (levels upward upward_node 0) (start (linear_program upward)) beneath 1 2 ≡ true
unfolding ◌+ₙ◌ ◌*ₙ◌ neg inverse whole make gcd
other_at_root = refl

other_at_first : rule_test (linear_program upward) (levels upward upward_node 1) (start (linear_program upward)) beneath 0 2 ≡ true
unfolding ◌+ₙ◌ ◌*ₙ◌ neg inverse whole make gcd
other_at_first = refl

settled : inside_to (linear_program upward) (levels upward upward_node 2) (tableau_after upward four) 3 ≡ true
unfolding ◌+ₙ◌ ◌*ₙ◌ neg inverse whole make gcd
settled = refl

same_end : upper (linear_program upward) (levels upward upward_node 3) ((tableau_after upward four).outside 2) ≡ Some (lower (linear_program upward) (levels upward upward_node 3) ((tableau_after upward four).outside 2))
same_end = refl

boxes_at_root : all_to 6 (λ j. le_test (levels upward upward_node 0 j).low (levels upward upward_node 0 j).high) ≡ true
unfolding ◌+ₙ◌ ◌*ₙ◌ neg inverse whole make gcd
boxes_at_root = refl

boxes_at_first : all_to 6 (λ j. le_test (levels upward upward_node 1 j).low (levels upward upward_node 1 j).high) ≡ true
unfolding ◌+ₙ◌ ◌*ₙ◌ neg inverse whole make gcd
boxes_at_first = refl

ordered : (B : Boxes) → all_to 6 (λ j. le_test (B j).low (B j).high) ≡ true → IsOrdered 6 B
ordered B h j l = le_yes (B j).low (B j).high (all_yes 6 (λ j. le_test (B j).low (B j).high) h j l)

not_first : (m : ℕ) → m < 2 → IsRuled (linear_program upward) (levels upward upward_node m) (start (linear_program upward)) 0 3 → ⊥
not_first zero l q = absurd (let e : (0 ≡ 1) × (3 ≡ 2) = one_rule (linear_program upward) (levels upward upward_node 0) (start (linear_program upward)) 0 3 1 2 (start_of (linear_program upward)) (ordered (levels upward upward_node 0) boxes_at_root) q
    (rule_yes (linear_program upward) (levels upward upward_node 0) (start (linear_program upward)) beneath 1 2 other_at_root) in omega (arith, e.0))
not_first (suc zero) l q = absurd (let e : (0 ≡ 0) × (3 ≡ 2) = one_rule (linear_program upward) (levels upward upward_node 1) (start (linear_program upward)) 0 3 0 2 (start_of (linear_program upward)) (ordered (levels upward upward_node 1) boxes_at_first) q
    (rule_yes (linear_program upward) (levels upward upward_node 1) (start (linear_program upward)) beneath 0 2 other_at_first) in omega (arith, e.1))
not_first (suc (suc m)) l q = absurd (omega arith)

not_fifth : (m : ℕ) → 2 ≤ m → m ≤ 3 → IsRuled (linear_program upward) (levels upward upward_node m) (tableau_after upward four) 0 2 → ⊥
not_fifth zero l k q = absurd (omega arith)
not_fifth (suc zero) l k q = absurd (omega arith)
not_fifth (suc (suc zero)) l k q = inside_not_off (linear_program upward) (levels upward upward_node 2) ((tableau_after upward four).basic 0) (basic_value (linear_program upward) (levels upward upward_node 2) (tableau_after upward four) 0) q.side q.near
    (inside_yes (linear_program upward) (levels upward upward_node 2) (tableau_after upward four) 3 settled 0 (omega arith)) q.leaving.off
not_fifth (suc (suc (suc zero))) l k q = q.entering.enters.movable same_end
not_fifth (suc (suc (suc (suc m)))) l k q = absurd (omega arith)

not_ruled : IsPathAt upward upward_node five → ⊥
not_ruled h = go h.0 h.1 h.2 h.3 h.4
  where
    fifth : (a : ℕ) → 2 ≤ a → RulesPath (linear_program upward) (levels upward upward_node) a 3 (pivot (start (linear_program upward)) 0 3) ((1, 0) ∷ (1, 5) ∷ (2, 4) ∷ (0, 2) ∷ []) → ⊥
    fifth a l r = last a r.0 r.4.0 r.4.4.0 r.4.4.4.0 l r.1 r.4.1 r.4.4.1 r.4.4.4.1 r.4.4.4.2 r.4.4.4.3
      where
        last : (a b c d e : ℕ) → 2 ≤ a → a ≤ b → b ≤ c → c ≤ d → d ≤ e → e ≤ 3 → IsRuled (linear_program upward) (levels upward upward_node e) (tableau_after upward four) 0 2 → ⊥
        last a b c d e l1 l2 l3 l4 l5 l6 q = not_fifth e (omega arith) l6 q

    split : (x : ℕ) → (x < 2) ⊎ (2 ≤ x)
    split x = grind arith

    go : (a : ℕ) → 0 ≤ a → a ≤ 3 → IsRuled (linear_program upward) (levels upward upward_node a) (start (linear_program upward)) 0 3 →
        RulesPath (linear_program upward) (levels upward upward_node) a 3 (pivot (start (linear_program upward)) 0 3) ((1, 0) ∷ (1, 5) ∷ (2, 4) ∷ (0, 2) ∷ []) → ⊥
    go a l k q r = elim (split a) as (λ _. ⊥) [ inl m ↦ not_first a m q | inr m ↦ fifth a m r ]

pub upward_path : UpwardPath
upward_path = record {
  ruled = four_ruled;
  goes_on = rule_yes (linear_program upward) (node_boxes upward []) (tableau_after upward four) beyond 0 2 at_root;
  plain = plain;
  bound = bound;
  not_ruled = not_ruled;
}
