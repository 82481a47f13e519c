-- The worked problem's ruled paths, by computation.
use Rattle.std.proofs.Common.{◌≡◌, ℕ, zero, suc, ◌<◌, ◌≤◌, refl, arith, [], ◌∷◌, ◌++◌, true}
use Rattle.hys_number.specs.Number.{make}
use Rattle.hys_number.specs.Gcd.{gcd}
use Rattle.hys_number.specs.Ops.{◌+ₙ◌, ◌*ₙ◌, ◌/ₙ◌, neg, inverse, whole}
use Rattle.hys_relax.specs.Node.{Boxes, node_boxes}
use Rattle.hys_relax.specs.Bound.{node_bound}
use Rattle.hys_relax.specs.Worked.{worked}
use Rattle.hys_simplex.specs.Tableau.{Tableau, start, pivot}
use Rattle.hys_simplex.specs.Status.{status_point, basic_value, AllInside}
use Rattle.hys_simplex.specs.Path.{RulesPath, IsPathAt, levels, tableau_after}
use Rattle.hys_simplex.specs.Unfit.{cost_pairs}
use Rattle.hys_simplex.specs.Laws.{WorkedPaths}
use Rattle.hys_simplex.specs.Worked.{program, root_path, without, with_first}
use Rattle.hys_simplex.specs.Rule.{IsRuled}
use Rattle.hys_simplex.proofs.Decide.{inside_not_off, rule_test, beneath, beyond, rule_yes, inside_to, inside_yes}

first : rule_test program (node_boxes worked []) (start program) beneath 1 2 ≡ true
unfolding ◌+ₙ◌ ◌*ₙ◌ neg inverse whole make gcd
first = refl

second : rule_test program (node_boxes worked []) (pivot (start program) 1 2) beneath 0 3 ≡ true
unfolding ◌+ₙ◌ ◌*ₙ◌ neg inverse whole make gcd
second = refl

third : rule_test program (node_boxes worked []) (pivot (pivot (start program) 1 2) 0 3) beyond 1 1 ≡ true
unfolding ◌+ₙ◌ ◌*ₙ◌ neg inverse whole make gcd
third = refl

pub root_ruled : IsPathAt worked [] root_path
root_ruled = (
  0,
  omega arith,
  omega arith,
  rule_yes program (node_boxes worked []) (start program) beneath 1 2 first,
  (
    0,
    omega arith,
    omega arith,
    rule_yes program (node_boxes worked []) (pivot (start program) 1 2) beneath 0 3 second,
    (0, omega arith, omega arith, rule_yes program (node_boxes worked []) (pivot (pivot (start program) 1 2) 0 3) beyond 1 1 third, tt),
  ),
)

root_all : inside_to program (node_boxes worked []) (tableau_after worked root_path) 2 ≡ true
unfolding ◌+ₙ◌ ◌*ₙ◌ neg inverse whole make gcd
root_all = refl

pub root_inside : AllInside program (node_boxes worked []) (tableau_after worked root_path)
root_inside = inside_yes program (node_boxes worked []) (tableau_after worked root_path) 2 root_all

pub root_point : status_point program (node_boxes worked []) (tableau_after worked root_path) ≡ whole 0 ∷ (whole 2 /ₙ whole 3) ∷ whole 1 ∷ whole 4 ∷ []
unfolding ◌+ₙ◌ ◌*ₙ◌ neg inverse whole make gcd
root_point = refl

pub root_cost : node_bound worked [] (cost_pairs worked (tableau_after worked root_path)) ≡ neg (whole 4)
unfolding ◌+ₙ◌ ◌*ₙ◌ neg inverse whole make gcd
root_cost = refl

fourth_without : rule_test program (node_boxes worked without) (tableau_after worked root_path) beyond 1 3 ≡ true
unfolding ◌+ₙ◌ ◌*ₙ◌ neg inverse whole make gcd
fourth_without = refl

fourth_with : rule_test program (node_boxes worked with_first) (tableau_after worked root_path) beneath 1 1 ≡ true
unfolding ◌+ₙ◌ ◌*ₙ◌ neg inverse whole make gcd
fourth_with = refl

-- ---- with the first input at 0
pub without_ruled : IsPathAt worked without (root_path ++ (1, 3) ∷ [])
without_ruled = (
  0,
  omega arith,
  omega arith,
  rule_yes program (node_boxes worked []) (start program) beneath 1 2 first,
  (
    0,
    omega arith,
    omega arith,
    rule_yes program (node_boxes worked []) (pivot (start program) 1 2) beneath 0 3 second,
    (
      0,
      omega arith,
      omega arith,
      rule_yes program (node_boxes worked []) (pivot (pivot (start program) 1 2) 0 3) beyond 1 1 third,
      (1, omega arith, omega arith, rule_yes program (node_boxes worked without) (tableau_after worked root_path) beyond 1 3 fourth_without, tt),
    ),
  ),
)

without_all : inside_to program (node_boxes worked without) (tableau_after worked (root_path ++ (1, 3) ∷ [])) 2 ≡ true
unfolding ◌+ₙ◌ ◌*ₙ◌ neg inverse whole make gcd
without_all = refl

pub without_inside : AllInside program (node_boxes worked without) (tableau_after worked (root_path ++ (1, 3) ∷ []))
without_inside = inside_yes program (node_boxes worked without) (tableau_after worked (root_path ++ (1, 3) ∷ [])) 2 without_all

pub without_point : status_point program (node_boxes worked without) (tableau_after worked (root_path ++ (1, 3) ∷ [])) ≡ whole 0 ∷ whole 0 ∷ whole 1 ∷ whole 2 ∷ []
unfolding ◌+ₙ◌ ◌*ₙ◌ neg inverse whole make gcd
without_point = refl

-- ---- with the first input at 1
pub with_ruled : IsPathAt worked with_first (root_path ++ (1, 1) ∷ [])
with_ruled = (
  0,
  omega arith,
  omega arith,
  rule_yes program (node_boxes worked []) (start program) beneath 1 2 first,
  (
    0,
    omega arith,
    omega arith,
    rule_yes program (node_boxes worked []) (pivot (start program) 1 2) beneath 0 3 second,
    (
      0,
      omega arith,
      omega arith,
      rule_yes program (node_boxes worked []) (pivot (pivot (start program) 1 2) 0 3) beyond 1 1 third,
      (1, omega arith, omega arith, rule_yes program (node_boxes worked with_first) (tableau_after worked root_path) beneath 1 1 fourth_with, tt),
    ),
  ),
)

with_all : inside_to program (node_boxes worked with_first) (tableau_after worked (root_path ++ (1, 1) ∷ [])) 2 ≡ true
unfolding ◌+ₙ◌ ◌*ₙ◌ neg inverse whole make gcd
with_all = refl

pub with_inside : AllInside program (node_boxes worked with_first) (tableau_after worked (root_path ++ (1, 1) ∷ []))
with_inside = inside_yes program (node_boxes worked with_first) (tableau_after worked (root_path ++ (1, 1) ∷ [])) 2 with_all

-- after that pivot the rule picks the same place over the root's boxes again
fifth : rule_test program (node_boxes worked []) (tableau_after worked (root_path ++ (1, 1) ∷ [])) beyond 1 1 ≡ true
unfolding ◌+ₙ◌ ◌*ₙ◌ neg inverse whole make gcd
fifth = refl

pub up_again : IsRuled program (node_boxes worked []) (tableau_after worked (root_path ++ (1, 1) ∷ [])) 1 1
up_again = rule_yes program (node_boxes worked []) (tableau_after worked (root_path ++ (1, 1) ∷ [])) beyond 1 1 fifth

-- but a path doesn't go back up: the fourth pivot isn't the rule's over the root's boxes, so it counts for the node's,
-- and over these nothing is outside after it
settled : (B : Boxes) (T : Tableau) (r c : ℕ) → r < 2 → AllInside program B T → IsRuled program B T r c → ⊥
settled B T r c l h q = inside_not_off program B (T.basic r) (basic_value program B T r) q.side q.near (h r l) q.leaving.off

pub not_up : IsPathAt worked with_first (root_path ++ (1, 1) ∷ (1, 1) ∷ []) → ⊥
not_up h = fourth h.4.4.4.0 h.4.4.4.2 h.4.4.4.3 h.4.4.4.4
  where
    fourth : (m : ℕ) → m ≤ 1 → IsRuled program (levels worked with_first m) (tableau_after worked root_path) 1 1 → RulesPath program (levels worked with_first) m 1 (tableau_after worked (root_path ++ (1, 1) ∷ [])) ((1, 1) ∷ []) → ⊥
    fourth zero l q r = settled (node_boxes worked []) (tableau_after worked root_path) 1 1 (omega arith) root_inside q
    fourth (suc zero) l q r = last r.0 r.1 r.2 r.3
      where
        last : (m : ℕ) → 1 ≤ m → m ≤ 1 → IsRuled program (levels worked with_first m) (tableau_after worked (root_path ++ (1, 1) ∷ [])) 1 1 → ⊥
        last zero l k q = absurd (omega arith)
        last (suc zero) l k q = settled (node_boxes worked with_first) (tableau_after worked (root_path ++ (1, 1) ∷ [])) 1 1 (omega arith) with_inside q
        last (suc (suc m)) l k q = absurd (omega arith)
    fourth (suc (suc m)) l q r = absurd (omega arith)

without_cost : node_bound worked without (cost_pairs worked (tableau_after worked (root_path ++ (1, 3) ∷ []))) ≡ neg (whole 2)
unfolding ◌+ₙ◌ ◌*ₙ◌ neg inverse whole make gcd
without_cost = refl

with_cost : node_bound worked with_first (cost_pairs worked (tableau_after worked (root_path ++ (1, 1) ∷ []))) ≡ neg (whole 4)
unfolding ◌+ₙ◌ ◌*ₙ◌ neg inverse whole make gcd
with_cost = refl

pub worked_paths : WorkedPaths
worked_paths = record {
  root = root_ruled;
  root_inside = root_inside;
  root_point = root_point;
  root_bound = root_cost;
  first_at_0 = without_ruled;
  inside_at_0 = without_inside;
  bound_at_0 = without_cost;
  first_at_1 = with_ruled;
  inside_at_1 = with_inside;
  bound_at_1 = with_cost;
  upward = up_again;
  not_upward = not_up;
}
