use Rattle.std.proofs.Common.{sym, subst, ap, ◌∙◌}
use Rattle.hys_search.specs.declared.expand.Expanded.TheVariants.{Never as never}
use Rattle.hys_search.proofs.expand.exclude.Goals as goal
use Rattle.hys_search.proofs.Changes.{settled_warm}
use Rattle.hys_search.proofs.Outcomes.{depth_is, excluded_new, lasting_new, lists_hold, never_step, same_faults}
use Rattle.hys_search.specs.Answers.{IsExpanded}
use Rattle.hys_search.specs.Core.{Core, core, picked_path}

pub settle-requires-clause-holds : goal.settle-requires-clause-holds
settle-requires-clause-holds c =
    let C = core c.args.table.now in
    lists_hold C c.hold-held.new.certificates.items C.faults c.requires.holds (lasting_new C.certificates c.hold-held.new.certificates.items _ c.hold-held.ensures.items) (same_faults C.faults)

pub returns-clause-expanded : goal.returns-clause-expanded
returns-clause-expanded c =
    let C = core c.args.table.now in
    subst (λ D. IsExpanded C c.args.which D never) (sym c.settle.ensures)
    (never_step C c.hold-held.new.certificates.items c.args.which c.hold-held.result c.requires.holds (lasting_new C.certificates c.hold-held.new.certificates.items _ c.hold-held.ensures.items) c.requires.within c.requires.left
    (excluded_new C.problem C.certificates c.hold-held.new.certificates.items c.args.multipliers c.index.result.now.depth c.whole.result c.hold-held.result (picked_path C c.args.which) c.hold-held.ensures.held c.hold-held.ensures.items (depth_is C c.args.which c.index.result.now c.requires.holds c.requires.within c.index.ensures) c.requires.never))

pub returns-clause-warm : goal.returns-clause-warm
returns-clause-warm c = ap (λ (D : Core). D.warm) c.settle.ensures ∙ settled_warm _ _ _ _ _
