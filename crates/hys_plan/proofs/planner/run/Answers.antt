use Rattle.std.proofs.Common.{ap, ◌∙◌}
use Rattle.hys_plan.proofs.Ending.{planned_of}
use Rattle.hys_plan.proofs.planner.run.Goals as goal
use Rattle.hys_search.specs.Core.{Core}

pub loop-search-init : goal.loop-search-init
loop-search-init g c =
    let f = c.in_ok-search.ensures.fresh in
    (c.in_ok-search.ensures.holds, ap (λ (C : Core). C.problem) f.begun, ap (λ (C : Core). C.limit) f.begun)

pub loop-search-preserved : goal.loop-search-preserved
loop-search-preserved g c =
    let x = c.in_ok-expand.ensures.expanded in
    (x.holds, x.problem ∙ c.loop-search.invariant.1, x.limit ∙ c.loop-search.invariant.2)

pub returns-then-not-is_open-clause-planned : goal.returns-then-not-is_open-clause-planned
returns-then-not-is_open-clause-planned g c =
    let i = c.loop-search.invariant in
    planned_of c.loop-search.search c.args.problem c.args.nodes c.finish.result i.0 i.1 i.2 c.finish.ensures.answer

pub returns-clause-planned : goal.returns-clause-planned
returns-clause-planned g c =
    let i = c.loop-search.invariant in
    planned_of c.loop-search.search c.args.problem c.args.nodes c.finish-2.result i.0 i.1 i.2 c.finish-2.ensures.answer
