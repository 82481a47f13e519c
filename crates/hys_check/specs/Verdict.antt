-- The verdict on a tree and a claim, and what a Yes says.
use Rattle.std.specs.Prelude.{ℕ, List, [], ◌∷◌, ◌++◌}
use Rattle.hys_lin.specs.declared.problem.Problem.{Problem}
use Rattle.hys_relax.specs.declared.fixing.Fixing.{Fixing}
use Rattle.hys_relax.specs.declared.multipliers.Multipliers.{Multipliers}
use Rattle.hys_tree.specs.Shows.{Goal, Shows, goal_of}
use Rattle.hys_tree.specs.Fits.{Fits}
use Rattle.hys_tree.specs.declared.answer.Claim.{Claim}
use Rattle.hys_tree.specs.declared.tree.TreePlace.{TreePlace}
use Rattle.hys_check.specs.Testing.{Test, first_failing}
use Rattle.hys_check.specs.TreeTests.{cost_tests, tree_tests}
use Rattle.hys_check.specs.ClaimTests.{claim_tests}
use Rattle.hys_check.specs.declared.verdict.Verdict.{Verdict}

-- the tests of the tree, whose root has no fixing, and then those of the claim
abbrev pub all_tests : Problem → List TreePlace → Claim → List Test
all_tests p places c = tree_tests p (goal_of c) 0 ([] ∷ []) places ++ claim_tests p c

-- that of the first test that fails, and Yes where none fails
abbrev pub verdict_of : Problem → List TreePlace → Claim → Verdict
verdict_of p places c = first_failing (all_tests p places c)

-- of a leaf that bounds the cost
abbrev pub cost_verdict : Problem → Goal → ℕ → List Fixing → Multipliers → ℕ → Verdict
cost_verdict p g n path m depth = first_failing (cost_tests p g n path m depth)

-- ---- what a Yes says
-- the tree shows the claim, and every number that is tested for it fits
pub record IsShown (p : Problem) (places : List TreePlace) (c : Claim) : Type 0 where
  pub shows : Shows p places c
  pub fits : Fits p places c
