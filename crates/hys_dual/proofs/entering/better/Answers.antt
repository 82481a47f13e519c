use Rattle.std.proofs.Common.{subst, Some}
use Rattle.hys_lin.specs.Ranges.{box_at}
use Rattle.hys_relax.specs.LinearProgram.{linear_program}
use Rattle.hys_tab.specs.Table.{tableau_of}
use Rattle.hys_dual.specs.Enter.{IsBestBelow}
use Rattle.hys_dual.specs.Ranging.{side_of}
use Rattle.hys_dual.proofs.Judging.{clash}
use Rattle.hys_dual.proofs.Comparing.{enter_cell, best_keeps, best_first, best_new, best_stays}
use Rattle.hys_dual.proofs.entering.better.Goals as goal

pub returns-then-not-may_enter : goal.returns-then-not-may_enter
returns-then-not-may_enter c = best_keeps (linear_program c.args.problem.now) (box_at c.args.boxes.now) (tableau_of c.args.tableau.now) c.args.row (side_of c.args.under) c.args.column c.args.best
    (λ m. clash c.may_enter.result (c.may_enter.ensures.1 m) c.if-not-may_enter.true) c.requires.best

pub is_less-requires-clause-first_cell : goal.is_less-requires-clause-first_cell
is_less-requires-clause-first_cell c = enter_cell (linear_program c.args.problem.now) (box_at c.args.boxes.now) (tableau_of c.args.tableau.now) c.args.row c.args.column (side_of c.args.under) (c.may_enter.ensures.0 c.if-not-may_enter.false)

pub is_less-requires-clause-second_cell : goal.is_less-requires-clause-second_cell
is_less-requires-clause-second_cell c =
    let h : IsBestBelow (linear_program c.args.problem.now) (box_at c.args.boxes.now) (tableau_of c.args.tableau.now) c.args.row (side_of c.args.under) c.args.column (Some c.in-Some.least) =
    subst (IsBestBelow (linear_program c.args.problem.now) (box_at c.args.boxes.now) (tableau_of c.args.tableau.now) c.args.row (side_of c.args.under) c.args.column) c.in-Some.is c.requires.best in
    enter_cell (linear_program c.args.problem.now) (box_at c.args.boxes.now) (tableau_of c.args.tableau.now) c.args.row c.in-Some.least (side_of c.args.under) h.1

pub returns-then-is_less : goal.returns-then-is_less
returns-then-is_less c =
    let h : IsBestBelow (linear_program c.args.problem.now) (box_at c.args.boxes.now) (tableau_of c.args.tableau.now) c.args.row (side_of c.args.under) c.args.column (Some c.in-Some.least) =
    subst (IsBestBelow (linear_program c.args.problem.now) (box_at c.args.boxes.now) (tableau_of c.args.tableau.now) c.args.row (side_of c.args.under) c.args.column) c.in-Some.is c.requires.best in
    best_new (linear_program c.args.problem.now) (box_at c.args.boxes.now) (tableau_of c.args.tableau.now) c.args.row (side_of c.args.under) c.args.column c.in-Some.least (c.may_enter.ensures.0 c.if-not-may_enter.false) (c.is_less.ensures.0 c.if-is_less.true) h

pub returns-in-None : goal.returns-in-None
returns-in-None c = best_first (linear_program c.args.problem.now) (box_at c.args.boxes.now) (tableau_of c.args.tableau.now) c.args.row (side_of c.args.under) c.args.column (c.may_enter.ensures.0 c.if-not-may_enter.false)
    (subst (IsBestBelow (linear_program c.args.problem.now) (box_at c.args.boxes.now) (tableau_of c.args.tableau.now) c.args.row (side_of c.args.under) c.args.column) c.in-None.is c.requires.best)

pub returns-else-is_less : goal.returns-else-is_less
returns-else-is_less c =
    let h : IsBestBelow (linear_program c.args.problem.now) (box_at c.args.boxes.now) (tableau_of c.args.tableau.now) c.args.row (side_of c.args.under) c.args.column (Some c.in-Some.least) =
    subst (IsBestBelow (linear_program c.args.problem.now) (box_at c.args.boxes.now) (tableau_of c.args.tableau.now) c.args.row (side_of c.args.under) c.args.column) c.in-Some.is c.requires.best in
    best_stays (linear_program c.args.problem.now) (box_at c.args.boxes.now) (tableau_of c.args.tableau.now) c.args.row (side_of c.args.under) c.args.column c.in-Some.least (λ l. clash c.is_less.result (c.is_less.ensures.1 l) c.if-is_less.false) h
