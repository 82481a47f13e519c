use Rattle.hys_rows.proofs.Trying.{form_placed}
use Rattle.hys_rows.proofs.tests.form.Goals as goal

pub returns-clause-placed : goal.returns-clause-placed
returns-clause-placed c = rw (c.of.ensures, c.in_ok-push-2.ensures.items, c.in_ok-push.ensures.items, c.new-terms.ensures.items, c.whole.ensures, c.whole-2.ensures) (form_placed c.args.constant)
