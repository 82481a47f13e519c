use Rattle.std.proofs.Common.{ℕ, ◌+◌, ◌-◌, ◌++◌, length, ap, ◌∙◌}
use Rattle.hys_ast.specs.Seen.{item_of}
use Rattle.hys_type.specs.Guarding.{names_of_guards}
use Rattle.hys_type.proofs.Additions.{item_added, left_item}
use Rattle.hys_type.proofs.translation.push_item.Goals as goal

pub returns : goal.returns
returns c = item_added c.args.scope.now c.args.known.now c.args.eps (item_of c.args.item.now) c.args.names.now.items c.push_guards.new.names.items c.args.items.now.items c.push_guards.new.items.items c.push.new.self.items
    c.new-guards.result.items c.body_of.new.guards.items c.in_ok-body.body _ c.len.result
    (c.len.ensures ∙ c.args.names.now.ok.0) c.new-guards.ensures.items c.in_ok-body.ensures.guards c.in_ok-body.ensures.body
    (c.in_ok-push_guards.ensures.names ∙ ap (λ (k : ℕ). c.args.names.now.items ++ names_of_guards (length c.args.names.now.items - k + 1) c.body_of.new.guards.items) c.len-2.ensures)
    c.in_ok-push_guards.ensures.items c.in_ok-push.ensures.items
    (left_item _ (item_of c.args.item.now) c.in_ok-body.body c.in_ok-left_place.field-0 c.in_ok-left_place.ensures)
