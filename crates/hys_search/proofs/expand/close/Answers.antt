use Rattle.std.proofs.Common.{◌≡◌, ◌<◌, sym, ◌∙◌, subst, ap, arith, length}
use Rattle.std.proofs.lemmas.List.{get_or_read}
use Rattle.hys_number.proofs.Order.{le_refl'}
use Rattle.hys_search.specs.declared.nodes.Standing.TheVariants.{Closed}
use Rattle.hys_search.specs.declared.expand.Expanded.TheVariants.{Closed as closed_it}
use Rattle.hys_search.proofs.expand.close.Goals as goal
use Rattle.hys_search.proofs.Changes.{picked_in}
use Rattle.hys_search.proofs.Outcomes.{closed_step, held_before, same_certificates}
use Rattle.hys_search.specs.Answers.{IsExpanded}
use Rattle.hys_search.specs.Core.{core, picked_of, settled}
use Rattle.hys_search.specs.Nodes.{no_node, node_at}
use Rattle.hys_search.specs.declared.nodes.Node.{Node}

pub returns : goal.returns
returns c =
    let C = core c.args.table.now in
    let p : c.index.result.now ≡ picked_of C c.args.which = get_or_read C.queue c.args.which c.index.result.now c.requires.within c.index.ensures 0 in
    let q = (picked_in C c.args.which c.requires.holds c.requires.within).there in
    let l : c.index.result.now < length C.nodes = omega arith in
    let n : c.index-2.result.now ≡ node_at C.nodes (picked_of C c.args.which) = get_or_read C.nodes c.index.result.now c.index-2.result.now l c.index-2.ensures no_node ∙ ap (node_at C.nodes) p in
    subst (λ D. IsExpanded C c.args.which D closed_it) (sym (c.settle.ensures ∙ ap (λ k. settled C c.args.which k Closed C.found) (ap (λ (n : Node). n.held) n)))
    (closed_step C C.certificates c.args.which (node_at C.nodes (picked_of C c.args.which)).held c.requires.holds (same_certificates C.certificates) c.requires.within c.requires.left (held_before C c.args.which c.requires.holds c.requires.within) c.requires.settled (le_refl' _))

pub index-requires-2 : goal.index-requires-2
index-requires-2 c =
    let C = core c.args.table.now in
    let p : c.index.result.now ≡ picked_of C c.args.which = get_or_read C.queue c.args.which c.index.result.now c.requires.within c.index.ensures 0 in
    let q = (picked_in C c.args.which c.requires.holds c.requires.within).there in omega arith
