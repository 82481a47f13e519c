-- The bound at a node, by the sum over the node's boxes.
use Rattle.std.proofs.Common.{◌≡◌, ℕ, sym, ◌∙◌, ap, subst, List, length, Option, Some, None}
use Rattle.std.proofs.Math.Path.{fun_ext}
use Rattle.hys_number.specs.Number.{Number}
use Rattle.hys_lin.specs.Operations.{first_lost}
use Rattle.hys_lin.specs.Ranges.{box_at}
use Rattle.hys_lin.specs.declared.form.Term.{Term}
use Rattle.hys_lin.specs.declared.form.Interval.{Interval}
use Rattle.hys_lin.specs.declared.lost.Lost.{Lost}
use Rattle.hys_lin.specs.declared.problem.Problem.{Problem}
use Rattle.hys_relax.specs.Node.{Boxes, node_boxes}
use Rattle.hys_relax.specs.LinearProgram.{linear_program}
use Rattle.hys_relax.specs.Bound.{AreMultipliers, AreLawful, bound_of, node_bound, multiplier}
use Rattle.hys_relax.specs.BoundSum.{bound_operations, summed_ends, summed_constant, summed_coefficient}
use Rattle.hys_relax.specs.declared.fixing.Fixing.{Fixing}
use Rattle.hys_relax.proofs.BoundSums.{ends_are}
use Rattle.hys_dual.specs.Costs.{with_cost}

boxes_are : (p : Problem) (fs : List Fixing) (bs : List Interval) → ((j : ℕ) → box_at bs j ≡ node_boxes p fs j) → box_at bs ≡ node_boxes p fs
boxes_are p fs bs h = fun_ext (λ j. h j)

-- what the sum comes to
pub value_at : (p : Problem) (fs : List Fixing) (bs cs : List Interval) (cost : List Term) (constant : Number) (xs ys : List (ℕ × Number)) (z : Number) → cs ≡ bs → ((j : ℕ) → box_at bs j ≡ node_boxes p fs j) → cost ≡ p.cost.terms → xs ≡ ys → AreMultipliers ys → AreLawful p ys → constant ≡ p.cost.constant →
    (let q = with_cost p cost constant in z ≡ summed_ends (summed_constant q xs) (summed_coefficient q xs) (box_at cs) (length p.boxes)) → z ≡ node_bound p fs ys
value_at p fs bs cs cost constant xs ys z a h e f r l k g =
    let B : Boxes = box_at bs in
    let g1 : z ≡ summed_ends (summed_constant (with_cost p cost constant) xs) (summed_coefficient (with_cost p cost constant) xs) (box_at bs) (length p.boxes) = subst (λ (c : List Interval). z ≡ summed_ends (summed_constant (with_cost p cost constant) xs) (summed_coefficient (with_cost p cost constant) xs) (box_at c) (length p.boxes)) a g in
    let g2 : z ≡ summed_ends (summed_constant (with_cost p p.cost.terms constant) xs) (summed_coefficient (with_cost p p.cost.terms constant) xs) (box_at bs) (length p.boxes) = subst (λ (c : List Term). z ≡ summed_ends (summed_constant (with_cost p c constant) xs) (summed_coefficient (with_cost p c constant) xs) (box_at bs) (length p.boxes)) e g1 in
    let g3 : z ≡ summed_ends (summed_constant p xs) (summed_coefficient p xs) (box_at bs) (length p.boxes) = subst (λ (c : Number). z ≡ summed_ends (summed_constant (with_cost p p.cost.terms c) xs) (summed_coefficient (with_cost p p.cost.terms c) xs) (box_at bs) (length p.boxes)) k g2 in
    let g4 : z ≡ summed_ends (summed_constant p ys) (summed_coefficient p ys) (box_at bs) (length p.boxes) = subst (λ (c : List (ℕ × Number)). z ≡ summed_ends (summed_constant p c) (summed_coefficient p c) (box_at bs) (length p.boxes)) f g3 in
    g4 ∙ ends_are p (box_at bs) ys r l ∙ ap (λ (B : Boxes). bound_of (linear_program p) B (multiplier ys)) (boxes_are p fs bs h)

-- the first lost operation of the sum is the bound's
pub operations_at : (p : Problem) (fs : List Fixing) (bs cs : List Interval) (cost : List Term) (constant : Number) (xs ys : List (ℕ × Number)) (o : Option Lost) → cs ≡ bs → ((j : ℕ) → box_at bs j ≡ node_boxes p fs j) → cost ≡ p.cost.terms → xs ≡ ys → constant ≡ p.cost.constant →
    first_lost (bound_operations (with_cost p cost constant) (box_at cs) xs) ≡ o → first_lost (bound_operations p (node_boxes p fs) ys) ≡ o
operations_at p fs bs cs cost constant xs ys o a h e f k g =
    let g1 : first_lost (bound_operations (with_cost p cost constant) (box_at bs) xs) ≡ o = subst (λ (c : List Interval). first_lost (bound_operations (with_cost p cost constant) (box_at c) xs) ≡ o) a g in
    let g2 : first_lost (bound_operations (with_cost p p.cost.terms constant) (box_at bs) xs) ≡ o = subst (λ (c : List Term). first_lost (bound_operations (with_cost p c constant) (box_at bs) xs) ≡ o) e g1 in
    let g3 : first_lost (bound_operations p (box_at bs) xs) ≡ o = subst (λ (c : Number). first_lost (bound_operations (with_cost p p.cost.terms c) (box_at bs) xs) ≡ o) k g2 in
    let g4 : first_lost (bound_operations p (box_at bs) ys) ≡ o = subst (λ (c : List (ℕ × Number)). first_lost (bound_operations p (box_at bs) c) ≡ o) f g3 in
    subst (λ (B : Boxes). first_lost (bound_operations p B ys) ≡ o) (boxes_are p fs bs h) g4

-- a list of operations of which one is lost isn't one of which none is
pub no_lost : (os : Option Lost) (l : Lost) → os ≡ Some l → os ≡ None → ⊥
no_lost os l e f = absurd (let n : Some l ≡ None = sym e ∙ f in cc)
