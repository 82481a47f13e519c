use Rattle.std.proofs.Common.{arith, sym, length}
use Rattle.hys_dual.proofs.Finishing.{row_below, cost_below, row_unfit, cost_unfit, row_terms, point_fits}
use Rattle.hys_dual.proofs.point.lost_row.Goals as goal

pub dot-requires : goal.dot-requires
dot-requires c = row_below c.args.problem.now c.requires.problem c.loop-row.row (length c.args.point.now.values) c.items.result.now (omega (arith, c.loop-row-test.true, c.requires.rows)) c.requires.long (row_terms c.args.problem.now c.items-all.result.now c.loop-row.row c.index-all-row.result c.items.result.now c.items.ensures c.items-all.ensures (omega (arith, c.loop-row-test.true, c.requires.rows)))

pub returns-in-Err-clause-some : goal.returns-in-Err-clause-some
returns-in-Err-clause-some c = row_unfit c.args.problem.now c.args.point.now.values c.loop-row.row c.items.result.now c.in-Err.field-0 (omega (arith, c.loop-row-test.true, c.requires.rows)) (row_terms c.args.problem.now c.items-all.result.now c.loop-row.row c.index-all-row.result c.items.result.now c.items.ensures c.items-all.ensures (omega (arith, c.loop-row-test.true, c.requires.rows))) (sym c.in-Err.ensures.lost)

pub value-requires : goal.value-requires
value-requires c = cost_below c.args.problem.now c.requires.problem (length c.args.point.now.values) c.requires.long

pub returns-in-Ok-value-clause-none : goal.returns-in-Ok-value-clause-none
returns-in-Ok-value-clause-none c = λ _. point_fits c.args.problem.now c.args.point.now.values c.loop-row.row (omega (arith, c.loop-row-test.false, c.requires.rows)) c.loop-row.invariant (sym c.in-Ok-value.ensures.lost)

pub returns-in-Err-value-clause-some : goal.returns-in-Err-value-clause-some
returns-in-Err-value-clause-some c = cost_unfit c.args.problem.now c.args.point.now.values c.args.rows c.in-Err-value.field-0 c.requires.rows (sym c.in-Err-value.ensures.lost)
