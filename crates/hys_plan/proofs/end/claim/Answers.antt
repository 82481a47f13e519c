use Rattle.std.proofs.Common.{subst, sym, ◌∙◌}
use Rattle.hys_plan.proofs.end.claim.Goals as goal
use Rattle.hys_plan.proofs.Ending.{kept_none, kept_not_spent, kept_some, kept_why, least_claims, not_all_settled, not_spent, spent_is}
use Rattle.hys_search.specs.Places.{IsLower}

pub returns-then-waits-clause-claim : goal.returns-then-waits-clause-claim
returns-then-waits-clause-claim c =
    let C = c.args.search.now in
    let l = subst (IsLower C) c.in-Some.is c.requires.lower in
    let o = c.requires.some c.if-waits.true in
    (l, c.requires.found, (c.expanded.ensures ∙ spent_is C o.0 o.1 c.requires.stopped, c.expanded.ensures, o))

pub returns-then-waits-clause-ends : goal.returns-then-waits-clause-ends
returns-then-waits-clause-ends c = λ e.
    let C = c.args.search.now in
    let o = c.requires.some c.if-waits.true in
    not_spent C c.requires.holds o.0 o.1 (spent_is C o.0 o.1 c.requires.stopped) e

pub returns-in-Some-kept-clause-claim : goal.returns-in-Some-kept-clause-claim
returns-in-Some-kept-clause-claim c =
    let C = c.args.search.now in
    let l = subst (IsLower C) c.in-Some.is c.requires.lower in
    (l, c.requires.found, kept_why C c.in-Some-kept.why (c.requires.none c.if-waits.false) (kept_some C c.args.kept c.in-Some-kept.why c.in-Some-kept.is c.requires.kept))

pub returns-in-Some-kept-clause-ends : goal.returns-in-Some-kept-clause-ends
returns-in-Some-kept-clause-ends c = λ _. kept_not_spent c.args.search.now c.in-Some-kept.why (kept_some c.args.search.now c.args.kept c.in-Some-kept.why c.in-Some-kept.is c.requires.kept)

pub returns-in-Some-best-clause-claim : goal.returns-in-Some-best-clause-claim
returns-in-Some-best-clause-claim c =
    let C = c.args.search.now in
    least_claims C c.in-Some-best.best c.requires.holds (c.requires.none c.if-waits.false) (kept_none C c.args.kept c.in-None-kept.is c.requires.kept) (sym c.requires.found ∙ c.in-Some-best.is)

pub returns-in-None-best-clause-claim : goal.returns-in-None-best-clause-claim
returns-in-None-best-clause-claim c =
    let C = c.args.search.now in
    let l = subst (IsLower C) c.in-Some.is c.requires.lower in
    absurd (not_all_settled C c.in-Some.bound c.requires.holds (c.requires.none c.if-waits.false) (kept_none C c.args.kept c.in-None-kept.is c.requires.kept) (sym c.requires.found ∙ c.in-None-best.is) l)
