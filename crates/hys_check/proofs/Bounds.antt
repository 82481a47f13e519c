-- A bound's sum over the boxes of a node in a list.
use Rattle.std.proofs.Common.{◌≡◌, ℕ, List, length, Option, ◌∙◌, sym, ap}
use Rattle.std.proofs.Math.Path.{fun_ext}
use Rattle.hys_number.specs.Number.{Number}
use Rattle.hys_lin.specs.Operations.{first_lost}
use Rattle.hys_lin.specs.Ranges.{box_at}
use Rattle.hys_lin.specs.declared.form.Interval.{Interval}
use Rattle.hys_lin.specs.declared.lost.Lost.{Lost}
use Rattle.hys_lin.specs.declared.problem.Problem.{Problem}
use Rattle.hys_relax.specs.Bound.{AreMultipliers, AreLawful, node_bound}
use Rattle.hys_relax.specs.BoundSum.{bound_operations, bound_lost, summed_ends, summed_constant, summed_coefficient}
use Rattle.hys_relax.specs.Node.{Boxes, node_boxes}
use Rattle.hys_relax.specs.declared.fixing.Fixing.{Fixing}
use Rattle.hys_relax.proofs.BoundSums.{ends_are}

boxes_are : (bs xs : List Interval) (B : Boxes) → xs ≡ bs → ((j : ℕ) → box_at bs j ≡ B j) → box_at xs ≡ B
boxes_are bs xs B e h = ap box_at e ∙ fun_ext h

pub bound_is : (p : Problem) (fixings : List Fixing) (pairs : List (ℕ × Number)) (bs xs : List Interval) (b : Number) → xs ≡ bs → ((j : ℕ) → box_at bs j ≡ node_boxes p fixings j) → AreMultipliers pairs → AreLawful p pairs →
    b ≡ summed_ends (summed_constant p pairs) (summed_coefficient p pairs) (box_at xs) (length p.boxes) → b ≡ node_bound p fixings pairs
bound_is p fixings pairs bs xs b e h m l q =
    q ∙ ap (λ B. summed_ends (summed_constant p pairs) (summed_coefficient p pairs) B (length p.boxes)) (boxes_are bs xs (node_boxes p fixings) e h)
    ∙ ends_are p (node_boxes p fixings) pairs m l

pub lost_is : (p : Problem) (fixings : List Fixing) (pairs : List (ℕ × Number)) (bs xs : List Interval) (o : Option Lost) → xs ≡ bs → ((j : ℕ) → box_at bs j ≡ node_boxes p fixings j) →
    first_lost (bound_operations p (box_at xs) pairs) ≡ o → bound_lost p fixings pairs ≡ o
lost_is p fixings pairs bs xs o e h q = ap (λ B. first_lost (bound_operations p B pairs)) (sym (boxes_are bs xs (node_boxes p fixings) e h)) ∙ q
