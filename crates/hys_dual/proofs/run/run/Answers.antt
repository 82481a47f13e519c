use Rattle.std.proofs.Common.{sym, subst}
use Rattle.hys_lin.specs.Ranges.{box_at}
use Rattle.hys_relax.specs.LinearProgram.{linear_program}
use Rattle.hys_simplex.specs.Rule.{IsRuled}
use Rattle.hys_simplex.proofs.Rules.{ruled_cell}
use Rattle.hys_tab.specs.Table.{tableau_of}
use Rattle.hys_dual.specs.Relaxing.{GoesOn, IsWarmAt}
use Rattle.hys_dual.proofs.Goings.{boxes_ordered, warm_reached, ruled_after, one_added, pivot_warm}
use Rattle.hys_dual.proofs.Ends.{chosen_ruled, ruled_row, ruled_column, done_after, cell_after, one_fewer}
use Rattle.hys_dual.proofs.run.run.Goals as goal

pub choose-requires-clause-ordered : goal.choose-requires-clause-ordered
choose-requires-clause-ordered c = boxes_ordered c.args.problem.now c.args.fixings.now c.args.boxes.now c.requires.problem c.requires.each

pub choose-requires-clause-reached : goal.choose-requires-clause-reached
choose-requires-clause-reached c = warm_reached c.args.problem.now c.args.fixings.now c.loop-finish.tableau c.loop-finish.path.items c.requires.problem c.loop-finish.invariant.warm

pub returns-in-Done-clause-finish : goal.returns-in-Done-clause-finish
returns-in-Done-clause-finish c = done_after c.args.problem.now c.args.fixings.now c.args.boxes.now c.loop-finish.tableau c.loop-finish.path.items c.in_ok-finish.field-0 c.in-Done.finish c.requires.problem c.requires.each c.loop-finish.invariant.warm
    c.in_ok-finish.ensures c.in-Done.is

pub pivot-requires-clause-row : goal.pivot-requires-clause-row
pivot-requires-clause-row c = ruled_row c.args.problem.now (box_at c.args.boxes.now) c.loop-finish.tableau c.in-Pivot.row c.in-Pivot.column
    (warm_reached c.args.problem.now c.args.fixings.now c.loop-finish.tableau c.loop-finish.path.items c.requires.problem c.loop-finish.invariant.warm)
    (chosen_ruled c.args.problem.now (box_at c.args.boxes.now) (tableau_of c.loop-finish.tableau) c.in_ok-finish.field-0 c.in-Pivot.row c.in-Pivot.column c.in_ok-finish.ensures c.in-Pivot.is)

pub pivot-requires-clause-col : goal.pivot-requires-clause-col
pivot-requires-clause-col c = ruled_column c.args.problem.now (box_at c.args.boxes.now) c.loop-finish.tableau c.in-Pivot.row c.in-Pivot.column
    (warm_reached c.args.problem.now c.args.fixings.now c.loop-finish.tableau c.loop-finish.path.items c.requires.problem c.loop-finish.invariant.warm)
    (chosen_ruled c.args.problem.now (box_at c.args.boxes.now) (tableau_of c.loop-finish.tableau) c.in_ok-finish.field-0 c.in-Pivot.row c.in-Pivot.column c.in_ok-finish.ensures c.in-Pivot.is)

pub pivot-requires-clause-some : goal.pivot-requires-clause-some
pivot-requires-clause-some c = ruled_cell (linear_program c.args.problem.now) (box_at c.args.boxes.now) (tableau_of c.loop-finish.tableau) c.in-Pivot.row c.in-Pivot.column
    (chosen_ruled c.args.problem.now (box_at c.args.boxes.now) (tableau_of c.loop-finish.tableau) c.in_ok-finish.field-0 c.in-Pivot.row c.in-Pivot.column c.in_ok-finish.ensures c.in-Pivot.is)

pub returns-in-Err-clause-finish : goal.returns-in-Err-clause-finish
returns-in-Err-clause-finish c = cell_after c.args.problem.now c.args.fixings.now c.args.boxes.now c.loop-finish.tableau c.loop-finish.path.items c.in-Pivot.row c.in-Pivot.column c.in-Err.cell.row c.in-Err.cell.col c.requires.problem c.requires.each c.loop-finish.invariant.warm
    (chosen_ruled c.args.problem.now (box_at c.args.boxes.now) (tableau_of c.loop-finish.tableau) c.in_ok-finish.field-0 c.in-Pivot.row c.in-Pivot.column c.in_ok-finish.ensures c.in-Pivot.is) c.in-Err.ensures.first

pub loop-finish-smaller : goal.loop-finish-smaller
loop-finish-smaller c = one_fewer c.args.problem.now c.args.fixings.now c.args.path.now.items c.loop-finish.path.items c.push.new.self.items c.in-Pivot.row c.in-Pivot.column c.requires.problem c.requires.warm.ruled c.loop-finish.invariant.path c.in_ok-push-in-Ok.ensures.items

pub loop-finish-preserved : goal.loop-finish-preserved
loop-finish-preserved c =
    let q : IsRuled (linear_program c.args.problem.now) (box_at c.args.boxes.now) (tableau_of c.loop-finish.tableau) c.in-Pivot.row c.in-Pivot.column =
    chosen_ruled c.args.problem.now (box_at c.args.boxes.now) (tableau_of c.loop-finish.tableau) c.in_ok-finish.field-0 c.in-Pivot.row c.in-Pivot.column c.in_ok-finish.ensures c.in-Pivot.is in
    let s = ruled_after c.args.problem.now c.args.fixings.now c.args.boxes.now c.loop-finish.tableau c.loop-finish.path.items c.in-Pivot.row c.in-Pivot.column c.requires.problem c.requires.each c.loop-finish.invariant.warm q in
    record {
      path = subst (GoesOn c.args.problem.now c.args.fixings.now c.args.path.now.items) (sym c.in_ok-push-in-Ok.ensures.items) (one_added c.args.problem.now c.args.fixings.now c.args.path.now.items c.loop-finish.path.items c.in-Pivot.row c.in-Pivot.column c.requires.problem c.requires.warm.ruled c.loop-finish.invariant.path s);
      warm = subst (IsWarmAt c.args.problem.now c.args.fixings.now c.pivot.new.self) (sym c.in_ok-push-in-Ok.ensures.items) (pivot_warm c.args.problem.now c.args.fixings.now c.loop-finish.tableau c.pivot.new.self c.loop-finish.path.items c.in-Pivot.row c.in-Pivot.column c.requires.problem c.loop-finish.invariant.warm s c.in-Ok.ensures.done);
    }
