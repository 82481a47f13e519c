use Rattle.std.proofs.Common.{◌<◌, subst, ap, arith, length, get_or}
use Rattle.std.proofs.lemmas.List.{get_or_default}
use Rattle.hys_number.specs.Ops.{◌<ₙ◌}
use Rattle.hys_search.proofs.pick.better.Goals as goal
use Rattle.hys_number.specs.Number.{Number}
use Rattle.hys_search.proofs.Picking.{least_new}
use Rattle.hys_search.specs.Picks.{bound_in, no_entry}

pub returns-else-is_at_most : goal.returns-else-is_at_most
returns-else-is_at_most c =
    let ws = c.args.waiting.now in
    let t = c.requires.least.there in
    let l : c.args.best < length ws = omega (arith, c.requires.there) in
    let a = ap (λ w. w.bound) (get_or_default ws c.args.i c.index-waiting-i.result no_entry c.requires.there) in
    let b = ap (λ w. w.bound) (get_or_default ws c.args.best c.index-waiting-best.result no_entry l) in
    least_new ws c.args.i c.args.best c.requires.least (subst (λ (z : Number). z <ₙ bound_in ws c.args.best) a (subst (λ (z : Number). (get_or ws c.args.i c.index-waiting-i.result).bound <ₙ z) b (c.is_at_most.ensures.fails c.if-is_at_most.false)))
