use Rattle.hys_bound.proofs.Turns.{unfit_none, unfit_some}
use Rattle.hys_rows.specs.Numbers.{numbers_of}
use Rattle.hys_mld.proofs.Growing.{lost_first}
use Rattle.hys_mld.proofs.items.add_here.Goals as goal

pub returns-in-Ok-clause-judged : goal.returns-in-Ok-clause-judged
returns-in-Ok-clause-judged c = unfit_none c.args.place (numbers_of c.args.boxes.now c.args.columns.now c.args.free c.args.item.now.body) c.in-Ok.ensures.judged

pub returns-in-Ok-try_from-clause-judged : goal.returns-in-Ok-try_from-clause-judged
returns-in-Ok-try_from-clause-judged c = rw c.in-Ok-try_from.ensures.1 (unfit_some c.args.place (numbers_of c.args.boxes.now c.args.columns.now c.args.free c.args.item.now.body) c.in-Err-Lost.lost (lost_first (numbers_of c.args.boxes.now c.args.columns.now c.args.free c.args.item.now.body) c.in-Err-Lost.field-0 c.in-Err-Lost.lost c.in-Err-Lost.ensures.judged c.in-Err-Lost.field-0-is))
