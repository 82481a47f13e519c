use Rattle.std.proofs.Common.{sym, ◌∙◌, ap, subst}
use Rattle.std.proofs.lemmas.List.{get_or_read}
use Rattle.hys_number.specs.Ops.{◌≤ₙ◌}
use Rattle.hys_number.proofs.Order.{le_refl', le_of_lt}
use Rattle.hys_search.proofs.tree.lesser.Goals as goal
use Rattle.hys_search.proofs.Certified.{cost_leaf, lesser_old}
use Rattle.hys_search.specs.Standings.{no_certificate}

pub returns-in-Equal : goal.returns-in-Equal
returns-in-Equal c =
    let t = sym c.is_cost_leaf.ensures ∙ c.if-not-is_cost_leaf.false in
    let i = c.requires (cost_leaf c.args.node.now.standing t) in
    let n = get_or_read c.args.certificates.now.items c.args.node.now.held c.index.result.now i c.index.ensures no_certificate in
    lesser_old c.args.least c.in-Some.other c.index.result.now.bound _ _ c.in-Some.is t (sym (ap (λ z. z.bound) n)) (subst (λ z. z ≤ₙ c.index.result.now.bound) c.in-Equal.ensures (le_refl' c.index.result.now.bound))

pub returns-in-Greater : goal.returns-in-Greater
returns-in-Greater c =
    let t = sym c.is_cost_leaf.ensures ∙ c.if-not-is_cost_leaf.false in
    let i = c.requires (cost_leaf c.args.node.now.standing t) in
    let n = get_or_read c.args.certificates.now.items c.args.node.now.held c.index.result.now i c.index.ensures no_certificate in
    lesser_old c.args.least c.in-Some.other c.index.result.now.bound _ _ c.in-Some.is t (sym (ap (λ z. z.bound) n)) (le_of_lt c.in-Some.other c.index.result.now.bound c.in-Greater.ensures)
