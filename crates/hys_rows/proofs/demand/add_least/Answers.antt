use Rattle.std.proofs.Common.{◌∙◌, ap}
use Rattle.hys_guard.specs.Set.{negated}
use Rattle.hys_rows.proofs.Adding.{least_added}
use Rattle.hys_rows.proofs.demand.add_least.Goals as goal

pub returns : goal.returns
returns c = least_added c.args.columns.now c.args.form.now c.in_ok-number.number c.of.result c.args.rows.now.items c.push.new.self.items c.in_ok-number.ensures c.requires.terms
    (c.of.ensures ∙ c.in_ok-terms.ensures ∙ ap negated c.items.ensures) c.in_ok-push.ensures.items
