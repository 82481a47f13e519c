use Rattle.hys_rows.proofs.Trying.{formula_within}
use Rattle.hys_rows.proofs.tests.body_shown.Goals as goal

pub fresh_in-requires-clause-names : goal.fresh_in-requires-clause-names
fresh_in-requires-clause-names c = formula_within c.args.boxes.now c.args.columns.now 10 c.args.own c.args.body.now c.requires.placed
