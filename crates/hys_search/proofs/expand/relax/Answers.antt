use Rattle.std.proofs.Common.{◌≡◌, sym, ◌∙◌, ap}
use Rattle.std.proofs.lemmas.List.{get_or_read}
use Rattle.hys_search.proofs.expand.relax.Goals as goal
use Rattle.hys_search.proofs.Warming.{serves}
use Rattle.hys_search.specs.Core.{core}
use Rattle.hys_search.specs.Nodes.{no_node, node_at}
use Rattle.hys_search.specs.declared.nodes.Node.{Node}

pub solve_from-requires-clause-warm : goal.solve_from-requires-clause-warm
solve_from-requires-clause-warm c =
    let C = core c.args.table.now in
    let n : c.index.result.now ≡ node_at C.nodes c.args.place = get_or_read C.nodes c.args.place c.index.result.now c.requires.there c.index.ensures no_node in
    serves C c.args.place c.args.fixings.now c.requires.holds c.requires.there c.requires.fixings (sym (ap (λ (x : Node). x.parent) n) ∙ c.if-index-table.true)
