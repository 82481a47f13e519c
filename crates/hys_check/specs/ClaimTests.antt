-- The tests of a claim: its point, or its best, is a solution of the stated cost.
use Rattle.std.specs.Prelude.{ℕ, List, [], ◌∷◌, ◌++◌, length, Bool, true, false, ◌&&◌, ◌||◌, nat_eq, Option, Some, None}
use Rattle.hys_number.specs.Number.{Number}
use Rattle.hys_number.specs.Ops.{whole}
use Rattle.hys_lin.specs.Sums.{at, sum_of, value}
use Rattle.hys_lin.specs.declared.form.Interval.{Interval}
use Rattle.hys_lin.specs.declared.form.Row.{Row}
use Rattle.hys_lin.specs.declared.problem.Problem.{Problem}
use Rattle.hys_tree.specs.Fits.{row_lost, cost_lost}
use Rattle.hys_tree.specs.declared.answer.Best.{Best}
use Rattle.hys_tree.specs.declared.answer.Claim.{Claim}
use Rattle.hys_tree.specs.declared.answer.Claim.TheVariants.{Least, NoneExists, AtLeast}
use Rattle.hys_check.specs.Testing.{Test, test, lost_tests, is_at_most, is_equal}
use Rattle.hys_check.specs.declared.verdict.At.TheVariants as place
use Rattle.hys_check.specs.declared.verdict.CheckWhy.TheVariants.{Point}
use Rattle.hys_check.specs.declared.verdict.Verdict.{Verdict}
use Rattle.hys_check.specs.declared.verdict.Verdict.TheVariants.{Yes, No}

abbrev pub point_test : Bool → Test
point_test b = test b place.Claim Point

-- the verdict where tests of the point that have the same answer all pass, or some fails
abbrev pub point_by : Bool → Verdict
point_by true = Yes
point_by false = No place.Claim Point

-- ---- columns
abbrev pub is_inside : Interval → Number → Bool
is_inside box x = is_at_most box.low x && is_at_most x box.high

-- each number is in its box
abbrev pub box_tests : List Interval → List Number → List Test
box_tests [] xs = []
box_tests (box ∷ boxes) [] = []
box_tests (box ∷ boxes) (x ∷ xs) = point_test (is_inside box x) ∷ box_tests boxes xs

abbrev pub is_bit : Number → Bool
is_bit x = is_equal x (whole 0) || is_equal x (whole 1)

-- each branch column is 0 or 1
abbrev pub bit_tests : List Number → List ℕ → List Test
bit_tests v [] = []
bit_tests v (c ∷ cs) = point_test (is_bit (at v c)) ∷ bit_tests v cs

-- ---- rows
abbrev pub compares : Bool → Number → Number → Bool
compares true a b = is_equal a b
compares false a b = is_at_most a b

abbrev pub is_met : List Number → Row → Bool
is_met v r = compares r.eq (sum_of r.terms (at v)) r.bound

-- row by row the numbers of its sum, and that it holds
abbrev pub row_tests : List Number → List Row → List Test
row_tests v [] = []
row_tests v (r ∷ rs) = lost_tests place.Claim (row_lost v r) ++ point_test (is_met v r) ∷ row_tests v rs

-- ---- claims
-- the numbers of the cost, and that it is the stated one
abbrev pub stated_tests : Problem → Best → List Test
stated_tests p b =
    lost_tests place.Claim (cost_lost p b.point.values)
    ++ point_test (is_equal (value p.cost (at b.point.values)) b.cost) ∷ []

abbrev pub columns_tests : Problem → List Number → List Test
columns_tests p v = box_tests p.boxes v ++ bit_tests v p.branch

-- the point has a number for each column, is a solution, and has the stated cost
abbrev pub solved_tests : Problem → Best → List Test
solved_tests p b =
    point_test (nat_eq (length b.point.values) (length p.boxes))
    ∷ (columns_tests p b.point.values ++ (row_tests b.point.values p.rows ++ stated_tests p b))

abbrev pub best_tests : Problem → Number → Option Best → List Test
best_tests p bound None = []
best_tests p bound (Some b) = solved_tests p b ++ point_test (is_at_most bound b.cost) ∷ []

-- why a search ended has no part in it
abbrev pub claim_tests : Problem → Claim → List Test
claim_tests p (Least b) = solved_tests p b
claim_tests p NoneExists = []
claim_tests p (AtLeast bound best why) = best_tests p bound best
