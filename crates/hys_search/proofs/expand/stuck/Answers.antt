use Rattle.std.proofs.Common.{◌≡◌, ◌<◌, sym, ◌∙◌, subst, ap, inl, arith, List, [], ◌∷◌, ◌++◌, length, ℕ}
use Rattle.std.proofs.lemmas.List.{get_or_read}
use Rattle.hys_search.specs.declared.nodes.Standing.TheVariants.{Kept}
use Rattle.hys_search.specs.declared.expand.Expanded.TheVariants.{Branched as branched_it, Kept as kept}
use Rattle.hys_search.proofs.expand.stuck.Goals as goal
use Rattle.hys_relax.specs.declared.fixing.Fixing.{Fixing}
use Rattle.hys_relax.specs.declared.range.RangeAt.{RangeAt}
use Rattle.hys_search.proofs.Changes.{branched_warm, picked_in, settled_warm}
use Rattle.hys_search.proofs.Outcomes.{branched_step, held_before, kept_step, lasting_faults, lists_hold, same_faults, stuck_held, with_lists}
use Rattle.hys_search.specs.Answers.{IsExpanded}
use Rattle.hys_search.specs.Branching.{AllFixed}
use Rattle.hys_search.specs.Core.{Core, Holds, core, picked_of, settled}
use Rattle.hys_search.specs.Nodes.{no_node, node_at}
use Rattle.hys_search.specs.declared.nodes.Node.{Node}
use Rattle.hys_tree.specs.Shows.{InnerHolds}

pub index-requires : goal.index-requires
index-requires c =
    let C = core c.args.table.now in
    let p : c.index-place.result.now ≡ picked_of C c.args.which = get_or_read C.queue c.args.which c.index-place.result.now c.requires.within c.index-place.ensures 0 in
    let q = (picked_in C c.args.which c.requires.holds c.requires.within).there in omega arith

pub hold_better-held-requires-clause-there : goal.hold_better-held-requires-clause-there
hold_better-held-requires-clause-there c =
    let C = core c.args.table.now in
    let p : c.index-place.result.now ≡ picked_of C c.args.which = get_or_read C.queue c.args.which c.index-place.result.now c.requires.within c.index-place.ensures 0 in
    let q = (picked_in C c.args.which c.requires.holds c.requires.within).there in
    let l : c.index-place.result.now < length C.nodes = omega arith in
    let n : c.index.result.now ≡ node_at C.nodes (picked_of C c.args.which) = get_or_read C.nodes c.index-place.result.now c.index.result.now l c.index.ensures no_node ∙ ap (node_at C.nodes) p in
    subst (λ (n : Node). n.held < length C.certificates) (sym n) (held_before C c.args.which c.requires.holds c.requires.within).0

pub branch-table-requires-clause-holds : goal.branch-table-requires-clause-holds
branch-table-requires-clause-holds c =
    let C = core c.args.table.now in
    let k = stuck_held C c.args.which c.hold_better-held.new.certificates.items c.index-place.result.now c.index.result.now c.args.multipliers c.index-2.result.now c.args.bound c.hold_better-held.result c.args.at c.requires.holds c.requires.within c.index-place.ensures c.index.ensures c.index-2.ensures c.requires.stuck c.requires.bound c.hold_better-held.ensures.held in
    lists_hold C c.hold_better-held.new.certificates.items C.faults c.requires.holds k.1 (same_faults C.faults)

pub branch-table-requires-clause-there : goal.branch-table-requires-clause-there
branch-table-requires-clause-there c =
    let C = core c.args.table.now in
    (stuck_held C c.args.which c.hold_better-held.new.certificates.items c.index-place.result.now c.index.result.now c.args.multipliers c.index-2.result.now c.args.bound c.hold_better-held.result c.args.at c.requires.holds c.requires.within c.index-place.ensures c.index.ensures c.index-2.ensures c.requires.stuck c.requires.bound c.hold_better-held.ensures.held).0.0

pub branch-table-requires-clause-room : goal.branch-table-requires-clause-room
branch-table-requires-clause-room c = record { nodes = c.requires.room.places.nodes; queue = c.requires.room.places.queue; waiting = c.requires.room.places.waiting }

pub settle-requires-clause-holds : goal.settle-requires-clause-holds
settle-requires-clause-holds c =
    let C = core c.args.table.now in
    let k = stuck_held C c.args.which c.hold_better-held.new.certificates.items c.index-place.result.now c.index.result.now c.args.multipliers c.index-2.result.now c.args.bound c.hold_better-held.result c.args.at c.requires.holds c.requires.within c.index-place.ensures c.index.ensures c.index-2.ensures c.requires.stuck c.requires.bound c.hold_better-held.ensures.held in
    subst (λ (qs : List RangeAt). Holds (with_lists C c.hold_better-held.new.certificates.items qs)) (sym c.put.ensures.items)
    (lists_hold C c.hold_better-held.new.certificates.items (C.faults ++ (c.args.at ∷ [])) c.requires.holds k.1 (lasting_faults C.faults c.args.at))

pub returns-in-Some-clause-expanded : goal.returns-in-Some-clause-expanded
returns-in-Some-clause-expanded c =
    let C = core c.args.table.now in
    let ds = c.hold_better-held.new.certificates.items in
    let k = stuck_held C c.args.which ds c.index-place.result.now c.index.result.now c.args.multipliers c.index-2.result.now c.args.bound c.hold_better-held.result c.args.at c.requires.holds c.requires.within c.index-place.ensures c.index.ensures c.index-2.ensures c.requires.stuck c.requires.bound c.hold_better-held.ensures.held in
    subst (λ D. IsExpanded C c.args.which D branched_it) (sym c.branch-table.ensures)
    (branched_step C ds c.args.which c.hold_better-held.result c.in-Some.column c.requires.holds k.1 c.requires.within c.requires.left k.0
    (subst (λ (fs : List Fixing). InnerHolds C.problem fs c.in-Some.column) c.requires.fixings c.in-Some.ensures)
    (inl (c.args.at, c.requires.stuck.unfit)) c.requires.warm k.2)

pub returns-in-None-clause-expanded : goal.returns-in-None-clause-expanded
returns-in-None-clause-expanded c =
    let C = core c.args.table.now in
    let ds = c.hold_better-held.new.certificates.items in
    let k = stuck_held C c.args.which ds c.index-place.result.now c.index.result.now c.args.multipliers c.index-2.result.now c.args.bound c.hold_better-held.result c.args.at c.requires.holds c.requires.within c.index-place.ensures c.index.ensures c.index-2.ensures c.requires.stuck c.requires.bound c.hold_better-held.ensures.held in
    let n : c.len-fault.result ≡ length C.faults = let z = c.len-fault.ensures in omega arith in
    let a = ap (λ (qs : List RangeAt). settled (with_lists C ds qs) c.args.which c.hold_better-held.result (Kept c.len-fault.result) C.found) c.put.ensures.items in
    let b = ap (λ (j : ℕ). settled (with_lists C ds (C.faults ++ (c.args.at ∷ []))) c.args.which c.hold_better-held.result (Kept j) C.found) n in
    subst (λ D. IsExpanded C c.args.which D kept) (sym (c.settle.ensures ∙ a ∙ b))
    (kept_step C ds c.args.at c.args.which c.hold_better-held.result c.requires.holds k.1 c.requires.within c.requires.left k.0
    (subst (λ (fs : List Fixing). AllFixed C.problem fs) c.requires.fixings c.in-None.ensures)
    c.requires.stuck.unfit k.2)

pub returns-in-Some-clause-warm : goal.returns-in-Some-clause-warm
returns-in-Some-clause-warm c = ap (λ (D : Core). D.warm) c.branch-table.ensures ∙ branched_warm _ _ _ _

pub returns-in-None-clause-warm : goal.returns-in-None-clause-warm
returns-in-None-clause-warm c = ap (λ (D : Core). D.warm) c.settle.ensures ∙ settled_warm _ _ _ _ _
