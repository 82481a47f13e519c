use Rattle.std.proofs.Common.{sym, subst, inr, ap, ◌∙◌}
use Rattle.hys_relax.proofs.Children.{point_solves}
use Rattle.hys_search.specs.declared.expand.Expanded.TheVariants.{Closed as closed, Branched as branched, Found as found}
use Rattle.hys_search.proofs.expand.bounded.Goals as goal
use Rattle.hys_number.specs.Number.{Number}
use Rattle.hys_search.proofs.Changes.{branched_warm, settled_warm}
use Rattle.hys_search.proofs.Outcomes.{between_free, branched_step, certified_least, closed_step, depth_is, found_step, lasting_new, lists_hold, over_kept, picked_node, same_faults}
use Rattle.hys_search.specs.Answers.{IsExpanded}
use Rattle.hys_search.specs.Branching.{IsChosen}
use Rattle.hys_search.specs.Core.{Core, core, picked_path}
use Rattle.hys_search.specs.Standings.{Beats, IsSettledBy, certificate_at}

pub settle-requires-clause-holds : goal.settle-requires-clause-holds
settle-requires-clause-holds c =
    let C = core c.args.table.now in
    lists_hold C c.hold-held.new.certificates.items C.faults c.requires.holds (lasting_new C.certificates c.hold-held.new.certificates.items _ c.hold-held.ensures.items) (same_faults C.faults)

pub branch-table-requires-clause-holds : goal.branch-table-requires-clause-holds
branch-table-requires-clause-holds c =
    let C = core c.args.table.now in
    lists_hold C c.hold-held.new.certificates.items C.faults c.requires.holds (lasting_new C.certificates c.hold-held.new.certificates.items _ c.hold-held.ensures.items) (same_faults C.faults)

pub branch-table-requires-clause-room : goal.branch-table-requires-clause-room
branch-table-requires-clause-room c = record { nodes = c.requires.room.places.nodes; queue = c.requires.room.places.queue; waiting = c.requires.room.places.waiting }

pub find-requires-clause-holds : goal.find-requires-clause-holds
find-requires-clause-holds c =
    let C = core c.args.table.now in
    lists_hold C c.hold-held.new.certificates.items C.faults c.requires.holds (lasting_new C.certificates c.hold-held.new.certificates.items _ c.hold-held.ensures.items) (same_faults C.faults)

pub returns-then-is_settled-clause-expanded : goal.returns-then-is_settled-clause-expanded
returns-then-is_settled-clause-expanded c =
    let C = core c.args.table.now in
    let h = c.requires.holds in
    let n = certified_least C.problem C.certificates c.hold-held.new.certificates.items c.args.point c.args.multipliers c.index.result.now.depth c.args.cost c.hold-held.result (picked_path C c.args.which) c.hold-held.ensures.held c.hold-held.ensures.items (depth_is C c.args.which c.index.result.now h c.requires.within c.index.ensures) h.sound (picked_node C c.args.which h c.requires.within) c.requires.least c.requires.cost in
    subst (λ D. IsExpanded C c.args.which D closed) (sym c.settle.ensures)
    (closed_step C c.hold-held.new.certificates.items c.args.which c.hold-held.result h (lasting_new C.certificates c.hold-held.new.certificates.items _ c.hold-held.ensures.items) c.requires.within c.requires.left n.0 (subst (λ (z : Number). IsSettledBy C.found z) (sym n.1) (c.is_settled.ensures.settled c.if-is_settled.true))
    (over_kept C c.args.which c.args.point (certificate_at c.hold-held.new.certificates.items c.hold-held.result) h c.requires.within c.requires.least.least.is_point (c.requires.cost ∙ sym n.1)))

pub returns-in-Some-clause-expanded : goal.returns-in-Some-clause-expanded
returns-in-Some-clause-expanded c =
    let C = core c.args.table.now in
    let h = c.requires.holds in
    let n = certified_least C.problem C.certificates c.hold-held.new.certificates.items c.args.point c.args.multipliers c.index.result.now.depth c.args.cost c.hold-held.result (picked_path C c.args.which) c.hold-held.ensures.held c.hold-held.ensures.items (depth_is C c.args.which c.index.result.now h c.requires.within c.index.ensures) h.sound (picked_node C c.args.which h c.requires.within) c.requires.least c.requires.cost in
    let b = subst (λ (z : Number). Beats C.found z) (sym c.requires.cost) (c.is_settled.ensures.beats c.if-is_settled.false) in
    let k = subst (IsChosen C.problem c.args.point) c.in-Some.is c.requires.column in
    let f = between_free C.problem (picked_path C c.args.which) c.args.point c.in-Some.column h.sound (picked_node C c.args.which h c.requires.within) c.requires.least.least.is_point k.0 k.1 in
    subst (λ D. IsExpanded C c.args.which D branched) (sym c.branch-table.ensures)
    (branched_step C c.hold-held.new.certificates.items c.args.which c.hold-held.result c.in-Some.column h (lasting_new C.certificates c.hold-held.new.certificates.items _ c.hold-held.ensures.items) c.requires.within c.requires.left n.0
    (record { branch = k.0; free = f })
    (inr (c.args.point, c.requires.least.least, k.1, b, n.1 ∙ sym c.requires.cost)) c.requires.warm
    (over_kept C c.args.which c.args.point (certificate_at c.hold-held.new.certificates.items c.hold-held.result) h c.requires.within c.requires.least.least.is_point (c.requires.cost ∙ sym n.1)))

pub returns-in-None-clause-expanded : goal.returns-in-None-clause-expanded
returns-in-None-clause-expanded c =
    let C = core c.args.table.now in
    let h = c.requires.holds in
    let p = picked_node C c.args.which h c.requires.within in
    let n = certified_least C.problem C.certificates c.hold-held.new.certificates.items c.args.point c.args.multipliers c.index.result.now.depth c.args.cost c.hold-held.result (picked_path C c.args.which) c.hold-held.ensures.held c.hold-held.ensures.items (depth_is C c.args.which c.index.result.now h c.requires.within c.index.ensures) h.sound p c.requires.least c.requires.cost in
    subst (λ D. IsExpanded C c.args.which D found) (sym c.find.ensures)
    (found_step C c.hold-held.new.certificates.items c.args.which c.hold-held.result (record { point = c.args.point; cost = c.args.cost }) h (lasting_new C.certificates c.hold-held.new.certificates.items _ c.hold-held.ensures.items) c.requires.within c.requires.left n.0 n.1
    (point_solves C.problem (picked_path C c.args.which) c.args.point.values h.sound p c.requires.least.least.is_point (subst (IsChosen C.problem c.args.point) c.in-None.is c.requires.column)) c.requires.least.least.is_point c.requires.cost c.requires.least.point_fits (c.is_settled.ensures.beats c.if-is_settled.false) c.requires.warm c.requires.point
    (over_kept C c.args.which c.args.point (certificate_at c.hold-held.new.certificates.items c.hold-held.result) h c.requires.within c.requires.least.least.is_point (c.requires.cost ∙ sym n.1)))

pub returns-then-is_settled-clause-warm : goal.returns-then-is_settled-clause-warm
returns-then-is_settled-clause-warm c = ap (λ (D : Core). D.warm) c.settle.ensures ∙ settled_warm _ _ _ _ _

pub returns-in-Some-clause-warm : goal.returns-in-Some-clause-warm
returns-in-Some-clause-warm c = ap (λ (D : Core). D.warm) c.branch-table.ensures ∙ branched_warm _ _ _ _

pub returns-in-None-clause-warm : goal.returns-in-None-clause-warm
returns-in-None-clause-warm c = ap (λ (D : Core). D.warm) c.find.ensures ∙ settled_warm _ _ _ _ _
