use Rattle.hys_rows.proofs.Adding.{most_added}
use Rattle.hys_rows.proofs.demand.add_most.Goals as goal

pub returns-clause-added : goal.returns-clause-added
returns-clause-added c = most_added c.args.columns.now c.args.form.now c.in_ok-number.number c.neg.result c.args.rows.now.items c.push.new.self.items c.in_ok-number.ensures c.requires.terms c.neg.ensures c.in_ok-push.ensures.items
