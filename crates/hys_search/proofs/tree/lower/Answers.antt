use Rattle.std.proofs.Common.{◌<◌, subst, length, arith}
use Rattle.std.proofs.lemmas.List.{get_or_read}
use Rattle.hys_search.proofs.tree.lower.Goals as goal
use Rattle.hys_search.proofs.Certified.{lowest_more}
use Rattle.hys_search.proofs.Outcomes.{leaf_held}
use Rattle.hys_search.specs.Core.{core}
use Rattle.hys_search.specs.Nodes.{no_node}
use Rattle.hys_search.specs.Places.{IsLesser, is_cost}
use Rattle.hys_search.specs.Standings.{certificate_at}
use Rattle.hys_search.specs.declared.nodes.Node.{Node}

pub loop-i-preserved : goal.loop-i-preserved
loop-i-preserved c =
    let C = core c.args.table.now in
    let i : c.loop-i.i < length C.nodes = omega arith in
    let n = get_or_read C.nodes c.loop-i.i c.index.result.now i c.index.ensures no_node in
    lowest_more C.nodes C.certificates c.loop-i.i c.loop-i.least c.lesser-least.result c.loop-i.invariant
    (subst (λ (n : Node). IsLesser c.loop-i.least (is_cost n.standing) (certificate_at C.certificates n.held).bound c.lesser-least.result) n c.lesser-least.ensures)

pub lesser-least-requires : goal.lesser-least-requires
lesser-least-requires c =
    let C = core c.args.table.now in
    let i : c.loop-i.i < length C.nodes = omega arith in
    leaf_held C c.requires c.loop-i.i c.index.result.now i (get_or_read C.nodes c.loop-i.i c.index.result.now i c.index.ensures no_node)
