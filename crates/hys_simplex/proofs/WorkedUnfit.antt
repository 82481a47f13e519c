-- Numbers that don't fit, and that fit, by computation.
use Rattle.std.proofs.Common.{◌≡◌, ℕ, inl, inr, refl, sym, ◌∙◌, subst, arith, true, false, [], ◌∷◌}
use Rattle.hys_number.specs.Number.{make}
use Rattle.hys_number.specs.Gcd.{gcd}
use Rattle.hys_number.specs.Ops.{◌+ₙ◌, ◌*ₙ◌, neg, inverse, whole, fits}
use Rattle.hys_relax.specs.Node.{node_boxes}
use Rattle.hys_relax.specs.LinearProgram.{linear_program}
use Rattle.hys_relax.specs.Worked.{worked}
use Rattle.hys_relax.specs.declared.range.TablePlace.TheVariants.{Cell, Value}
use Rattle.hys_relax.proofs.Nodes.{node_ordered}
use Rattle.hys_relax.proofs.Examples.{worked_problem}
use Rattle.hys_simplex.specs.Tableau.{start, pivoted}
use Rattle.hys_simplex.specs.Status.{basic_value}
use Rattle.hys_simplex.specs.Rule.{IsRuled}
use Rattle.hys_simplex.specs.Path.{tableau_after}
use Rattle.hys_simplex.specs.Unfit.{SomeUnfit, value_operations, CellUnfit, subtracted, PivotUnfit, Unfit}
use Rattle.hys_simplex.specs.Worked.{program, root_path, decaying, tripled}
use Rattle.hys_simplex.specs.Laws.{WorkedUnfit}
use Rattle.hys_simplex.proofs.Places.{start_of}
use Rattle.hys_simplex.proofs.Pins.{point_sum, point_cost, bound_sum, row_sum, without_cost}
use Rattle.hys_simplex.proofs.Decide.{rule_test, beneath, beyond, rule_yes, inside_not_off}
use Rattle.hys_simplex.proofs.One.{one_rule}
use Rattle.hys_simplex.proofs.WorkedPaths.{root_inside}

first : rule_test (linear_program decaying) (node_boxes decaying []) (start (linear_program decaying)) beyond 0 2 ≡ true
unfolding ◌+ₙ◌ ◌*ₙ◌ neg inverse whole make gcd
first = refl

second : rule_test (linear_program decaying) (node_boxes decaying []) (tableau_after decaying ((0, 2) ∷ [])) beyond 1 4 ≡ true
unfolding ◌+ₙ◌ ◌*ₙ◌ neg inverse whole make gcd
second = refl

cell_unfit : fits (pivoted (tableau_after decaying ((0, 2) ∷ [])).cell 1 4 2 0) ≡ false
unfolding ◌+ₙ◌ ◌*ₙ◌ neg inverse whole make gcd fits
cell_unfit = refl

cube : Unfit fits decaying [] ((0, 2) ∷ []) (Cell 2 0)
cube = (
  (0, omega arith, omega arith, rule_yes (linear_program decaying) (node_boxes decaying []) (start (linear_program decaying)) beyond 0 2 first, tt),
  record { row = 1; column = 4; ruled = rule_yes (linear_program decaying) (node_boxes decaying []) (tableau_after decaying ((0, 2) ∷ [])) beyond 1 4 second; in_rows = omega arith; in_columns = omega arith; unfit = inl cell_unfit },
)

-- ---- a basic value
product_unfit : SomeUnfit fits (value_operations (linear_program tripled) (node_boxes tripled []) (start (linear_program tripled)) 0)
unfolding ◌+ₙ◌ ◌*ₙ◌ neg inverse whole make gcd fits
product_unfit = refl

value : Unfit fits tripled [] [] (Value 0)
value = (tt, inl (omega arith, λ i l. absurd (omega arith), product_unfit))

-- ---- the worked problem
at_start : rule_test program (node_boxes worked []) (start program) beneath 1 2 ≡ true
unfolding ◌+ₙ◌ ◌*ₙ◌ neg inverse whole make gcd
at_start = refl

new_fits : fits (pivoted (start program).cell 1 2 0 0) ≡ true
unfolding ◌+ₙ◌ ◌*ₙ◌ neg inverse whole make gcd fits
new_fits = refl

product_fits : fits (subtracted (start program).cell 1 2 0 0) ≡ true
unfolding ◌+ₙ◌ ◌*ₙ◌ neg inverse whole make gcd fits
product_fits = refl

fitting : CellUnfit fits (start program).cell 1 2 0 0 → ⊥
fitting (inl e) = absurd (let q : true ≡ false = sym new_fits ∙ e in cc)
fitting (inr e) = absurd (let q : true ≡ false = sym product_fits ∙ e.1 in cc)

not_at_once : Unfit fits worked [] [] (Cell 0 0) → ⊥
not_at_once h = go h.1
  where
    go : PivotUnfit fits program (node_boxes worked []) (start program) 0 0 → ⊥
    go q = fitting (subst (λ z. CellUnfit fits (start program).cell 1 z 0 0) e.1 (subst (λ z. CellUnfit fits (start program).cell z q.column 0 0) e.0 q.unfit))
      where
        e : (q.row ≡ 1) × (q.column ≡ 2)
        e = one_rule program (node_boxes worked []) (start program) q.row q.column 1 2 (start_of program) (node_ordered worked worked_problem []) q.ruled
            (rule_yes program (node_boxes worked []) (start program) beneath 1 2 at_start)

not_after : (i j : ℕ) → Unfit fits worked [] root_path (Cell i j) → ⊥
not_after i j h = let q : IsRuled program (node_boxes worked []) (tableau_after worked root_path) h.1.row h.1.column = h.1.ruled in
    inside_not_off program (node_boxes worked []) ((tableau_after worked root_path).basic h.1.row) (basic_value program (node_boxes worked []) (tableau_after worked root_path) h.1.row) q.side q.near
    (root_inside h.1.row q.leaving.row) q.leaving.off

pub worked_unfit : WorkedUnfit
worked_unfit = record {
  value = value;
  cube = cube;
  not_at_once = not_at_once;
  not_after = not_after;
  point_sum = point_sum;
  point_cost = point_cost;
  bound_sum = bound_sum;
  row_sum = row_sum;
  without_cost = without_cost;
}
