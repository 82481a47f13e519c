-- The tests of a tree, place by place in preorder.
use Rattle.std.specs.Prelude.{ℕ, suc, List, [], ◌∷◌, ◌++◌, length, take, Bool, true, false, not, ◌&&◌, ◌||◌, nat_lt, nat_le}
use Rattle.hys_number.specs.Number.{Number}
use Rattle.hys_number.specs.Ops.{whole}
use Rattle.hys_lin.specs.declared.problem.Problem.{Problem}
use Rattle.hys_relax.specs.Node.{is_branch, is_fixed}
use Rattle.hys_relax.specs.LinearProgram.{row_at}
use Rattle.hys_relax.specs.Bound.{costless, node_bound}
use Rattle.hys_relax.specs.BoundSum.{bound_lost}
use Rattle.hys_relax.specs.Laws.{child}
use Rattle.hys_relax.specs.declared.fixing.Fixing.{Fixing}
use Rattle.hys_relax.specs.declared.multipliers.Multipliers.{Multipliers}
use Rattle.hys_tree.specs.Shows.{Goal, at_least, none}
use Rattle.hys_tree.specs.declared.tree.TreePlace.{TreePlace}
use Rattle.hys_tree.specs.declared.tree.TreePlace.TheVariants.{Inner, Cost, Never}
use Rattle.hys_check.specs.Testing.{Test, test, lost_tests, is_at_most, is_below}
use Rattle.hys_check.specs.declared.verdict.At.TheVariants.{Node}
use Rattle.hys_check.specs.declared.verdict.CheckWhy.TheVariants.{Shape, Sign, Below}

-- ---- leaves
-- the rows are there
abbrev pub are_rows : Problem → List (ℕ × Number) → Bool
are_rows p [] = true
are_rows p (pair ∷ pairs) = nat_lt pair.0 (length p.rows) && are_rows p pairs

-- on each row that is no equation the multiplier is at least 0
abbrev pub are_signed : Problem → List (ℕ × Number) → Bool
are_signed p [] = true
are_signed p (pair ∷ pairs) = ((row_at p pair.0).eq || is_at_most (whole 0) pair.1) && are_signed p pairs

-- the depth is at most the path's length, and the rows are there
abbrev pub shape_tests : Problem → ℕ → List Fixing → Multipliers → ℕ → List Test
shape_tests p n path m k =
    test (nat_le k (length path)) (Node n) Shape ∷ test (are_rows p m.pairs) (Node n) Shape ∷ []

-- the signs, and the numbers of the bound's sum over the boxes of the fixings
abbrev pub sum_tests : Problem → ℕ → List Fixing → Multipliers → List Test
sum_tests p n fixings m =
    test (are_signed p m.pairs) (Node n) Sign ∷ lost_tests (Node n) (bound_lost p fixings m.pairs)

abbrev pub least_test : ℕ → Number → Number → Test
least_test n bound z = test (is_at_most z bound) (Node n) (Below bound z)

abbrev pub above_test : ℕ → Number → Test
above_test n bound = test (is_below (whole 0) bound) (Node n) (Below bound (whole 0))

-- a leaf that bounds the cost: none stands where it is claimed that there is no solution
abbrev pub cost_tests : Problem → Goal → ℕ → List Fixing → Multipliers → ℕ → List Test
cost_tests p none n path m k = test false (Node n) Shape ∷ []
cost_tests p (at_least z) n path m k =
    shape_tests p n path m k ++ sum_tests p n (take k path) m
    ++ least_test n (node_bound p (take k path) m.pairs) z ∷ []

-- a leaf without a point: the bound with cost 0 is above 0
abbrev pub never_tests : Problem → ℕ → List Fixing → Multipliers → ℕ → List Test
never_tests p n path m k =
    shape_tests p n path m k ++ sum_tests (costless p) n (take k path) m
    ++ above_test n (node_bound (costless p) (take k path) m.pairs) ∷ []

-- ---- places
-- the column of an inner place is a branch column that no fixing of its path names
abbrev pub is_open : Problem → List Fixing → ℕ → Bool
is_open p path c = is_branch p c && not (is_fixed path c)

-- the tests of the place with number n, which has this path
abbrev pub place_tests : Problem → Goal → ℕ → List Fixing → TreePlace → List Test
place_tests p g n path (Inner c) = test (is_open p path c) (Node n) Shape ∷ []
place_tests p g n path (Cost m k) = cost_tests p g n path m k
place_tests p g n path (Never m k) = never_tests p n path m k

-- the paths of the two children of an inner place, the one with the column at 0 first
abbrev pub paths_below : List Fixing → TreePlace → List (List Fixing)
paths_below path (Inner c) = child path c false ∷ child path c true ∷ []
paths_below path (Cost m k) = []
paths_below path (Never m k) = []

-- The tests of the places from number n on, where trees with these paths are still to come in preorder. The list is of
-- the wrong shape where it ends before the last tree, and at the first place after it.
abbrev pub tree_tests : Problem → Goal → ℕ → List (List Fixing) → List TreePlace → List Test
tree_tests p g n [] [] = []
tree_tests p g n [] (place ∷ places) = test false (Node n) Shape ∷ []
tree_tests p g n (path ∷ paths) [] = test false (Node n) Shape ∷ []
tree_tests p g n (path ∷ paths) (place ∷ places) =
    place_tests p g n path place ++ tree_tests p g (suc n) (paths_below path place ++ paths) places
