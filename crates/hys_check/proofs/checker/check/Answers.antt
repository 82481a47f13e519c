use Rattle.std.proofs.Common.{◌≡◌, ◌∙◌, ap, List, [], ◌∷◌}
use Rattle.hys_tree.specs.declared.tree.TreePlace.{TreePlace}
use Rattle.hys_check.specs.Testing.{first_failing}
use Rattle.hys_check.specs.TreeTests.{tree_tests}
use Rattle.hys_check.specs.Walk.{goal_by}
use Rattle.hys_check.proofs.Loops.{verdict_claim, verdict_tree}
use Rattle.hys_check.proofs.Shown.{is_shown}
use Rattle.hys_check.proofs.checker.check.Goals as goal

pub returns-in-Yes-clause-judged : goal.returns-in-Yes-clause-judged
returns-in-Yes-clause-judged c =
    let q : c.in_ok-failed.failed ≡ first_failing (tree_tests c.args.problem.now (goal_by c.least_cost.result) 0 ([] ∷ []) c.args.tree.now.places) =
    c.in_ok-failed.ensures ∙ ap (λ (z : List TreePlace). first_failing (tree_tests c.args.problem.now (goal_by c.least_cost.result) 0 ([] ∷ []) z)) c.items.ensures in
    verdict_claim c.args.problem.now c.args.tree.now.places c.args.claim.now (goal_by c.least_cost.result) c.in_ok-failed.failed c.judge_claim.result c.least_cost.ensures q c.in-Yes.is c.judge_claim.ensures

pub returns-in-Yes-clause-shown : goal.returns-in-Yes-clause-shown
returns-in-Yes-clause-shown c =
    let q : c.in_ok-failed.failed ≡ first_failing (tree_tests c.args.problem.now (goal_by c.least_cost.result) 0 ([] ∷ []) c.args.tree.now.places) =
    c.in_ok-failed.ensures ∙ ap (λ (z : List TreePlace). first_failing (tree_tests c.args.problem.now (goal_by c.least_cost.result) 0 ([] ∷ []) z)) c.items.ensures in
    is_shown c.args.problem.now c.args.tree.now.places c.args.claim.now c.judge_claim.result (verdict_claim c.args.problem.now c.args.tree.now.places c.args.claim.now (goal_by c.least_cost.result) c.in_ok-failed.failed c.judge_claim.result c.least_cost.ensures q c.in-Yes.is c.judge_claim.ensures)

pub returns-in_default-clause-judged : goal.returns-in_default-clause-judged
returns-in_default-clause-judged c =
    let q : c.in_ok-failed.failed ≡ first_failing (tree_tests c.args.problem.now (goal_by c.least_cost.result) 0 ([] ∷ []) c.args.tree.now.places) =
    c.in_ok-failed.ensures ∙ ap (λ (z : List TreePlace). first_failing (tree_tests c.args.problem.now (goal_by c.least_cost.result) 0 ([] ∷ []) z)) c.items.ensures in
    verdict_tree c.args.problem.now c.args.tree.now.places c.args.claim.now (goal_by c.least_cost.result) c.in_ok-failed.failed c.least_cost.ensures q c.in_default.not-Yes

pub returns-in_default-clause-shown : goal.returns-in_default-clause-shown
returns-in_default-clause-shown c =
    let q : c.in_ok-failed.failed ≡ first_failing (tree_tests c.args.problem.now (goal_by c.least_cost.result) 0 ([] ∷ []) c.args.tree.now.places) =
    c.in_ok-failed.ensures ∙ ap (λ (z : List TreePlace). first_failing (tree_tests c.args.problem.now (goal_by c.least_cost.result) 0 ([] ∷ []) z)) c.items.ensures in
    is_shown c.args.problem.now c.args.tree.now.places c.args.claim.now c.in_ok-failed.failed (verdict_tree c.args.problem.now c.args.tree.now.places c.args.claim.now (goal_by c.least_cost.result) c.in_ok-failed.failed c.least_cost.ensures q c.in_default.not-Yes)
