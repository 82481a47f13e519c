use Rattle.std.proofs.Common.{◌≡◌, ◌∙◌, sym, ap, true, List, length}
use Rattle.hys_relax.specs.declared.fixing.Fixing.{Fixing}
use Rattle.hys_check.specs.Testing.{first_failing}
use Rattle.hys_check.specs.TreeTests.{place_tests}
use Rattle.hys_check.specs.Walk.{goal_by}
use Rattle.hys_check.proofs.Verdicts.{Pass}
use Rattle.hys_check.proofs.Walks.{place_here, left_over, failed_at, walked_on, is_walked_on, column_there}
use Rattle.hys_check.proofs.walk.judge_tree.Goals as goal

pub returns-then-not-more : goal.returns-then-not-more
returns-then-not-more c = left_over c.args.problem.now (goal_by c.args.least.now) c.args.places.now c.loop-number.number c.loop-number.more c.loop-number.path.items c.misshapen.result c.if-not-more.true c.loop-number-test.true c.misshapen.ensures c.loop-number.invariant

pub returns-in_default : goal.returns-in_default
returns-in_default c = failed_at c.args.problem.now (goal_by c.args.least.now) c.args.places.now c.loop-number.number c.loop-number.more c.loop-number.path.items c.as_slice.result.now c.index-places-number.result c.in_ok-failed.failed c.if-not-more.false (place_here c.args.places.now c.loop-number.number c.index-places-number.result c.index-places-number.result c.loop-number-test.true c.index-places-number.is) c.as_slice.ensures.value c.in_ok-failed.ensures c.in_default.not-Yes c.loop-number.invariant

pub loop-number-preserved : goal.loop-number-preserved
loop-number-preserved c =
    let q : Pass (place_tests c.args.problem.now (goal_by c.args.least.now) c.loop-number.number c.loop-number.path.items c.index-places-number.result) =
    ap (λ (z : List Fixing). first_failing (place_tests c.args.problem.now (goal_by c.args.least.now) c.loop-number.number z c.index-places-number.result)) (sym c.as_slice.ensures.value) ∙ sym c.in_ok-failed.ensures ∙ c.in-Yes.is in
    walked_on c.args.problem.now (goal_by c.args.least.now) c.args.places.now c.loop-number.number c.loop-number.path.items c.follow.new.path.items c.in_ok-more.more c.index-places-number.result (place_here c.args.places.now c.loop-number.number c.index-places-number.result c.index-places-number.result c.loop-number-test.true c.index-places-number.is) q c.in_ok-more.ensures.paths
    (c.in_ok-more.ensures.within (length c.args.problem.now.boxes) c.loop-number.invariant.within (column_there c.args.problem.now c.requires.problem (goal_by c.args.least.now) c.loop-number.number c.loop-number.path.items c.index-places-number.result q))
    (is_walked_on c.args.problem.now (goal_by c.args.least.now) c.args.places.now c.loop-number.number c.loop-number.more true c.loop-number.path.items c.if-not-more.false c.loop-number.invariant)
