use Rattle.std.proofs.Common.{◌∙◌, ap, arith, subst, length, slice_index_or}
use Rattle.hys_lin.specs.Ranges.{box_at}
use Rattle.hys_relax.specs.LinearProgram.{linear_program}
use Rattle.hys_tab.specs.Table.{tableau_of}
use Rattle.hys_dual.specs.Standing.{end_in, StandsAt}
use Rattle.hys_dual.specs.declared.stand.Stand.TheVariants.{Basic, Outside}
use Rattle.hys_dual.proofs.Listing.{listed_long}
use Rattle.hys_dual.proofs.Standings.{end_value_read}
use Rattle.hys_dual.proofs.Finishing.{value_basic, value_outside}
use Rattle.hys_dual.proofs.point.status_value.Goals as goal

pub bounds-ends-place : goal.bounds-ends-place
bounds-ends-place c =
    let s : StandsAt (tableau_of c.args.tableau.now) c.args.column (Outside c.in-Outside.place) = subst (StandsAt (tableau_of c.args.tableau.now) c.args.column) c.in-Outside.is (c.requires.stands c.args.column (omega (arith, c.requires.column))) in
    omega (arith, s.0, ap length c.requires.ends ∙ listed_long (length c.args.tableau.now.outsides) (end_in (linear_program c.args.problem.now) (box_at c.args.boxes.now) (tableau_of c.args.tableau.now)))

pub bounds-ends-place-in-Outside : goal.bounds-ends-place-in-Outside
bounds-ends-place-in-Outside c = bounds-ends-place c

pub returns-in-Some-clause-value : goal.returns-in-Some-clause-value
returns-in-Some-clause-value c =
    let s : StandsAt (tableau_of c.args.tableau.now) c.args.column (Basic c.in-Basic.row) = subst (StandsAt (tableau_of c.args.tableau.now) c.args.column) c.in-Basic.is (c.requires.stands c.args.column (omega (arith, c.requires.column))) in
    value_basic (linear_program c.args.problem.now) (box_at c.args.boxes.now) (tableau_of c.args.tableau.now) c.in-Basic.row c.args.column c.in-Some.value c.requires.of s.0 s.1 c.in-Some.ensures.value

pub returns-in-Outside-clause-value : goal.returns-in-Outside-clause-value
returns-in-Outside-clause-value c =
    let s : StandsAt (tableau_of c.args.tableau.now) c.args.column (Outside c.in-Outside.place) = subst (StandsAt (tableau_of c.args.tableau.now) c.args.column) c.in-Outside.is (c.requires.stands c.args.column (omega (arith, c.requires.column))) in
    value_outside (linear_program c.args.problem.now) (box_at c.args.boxes.now) (tableau_of c.args.tableau.now) c.in-Outside.place c.args.column (slice_index_or c.args.ends.now c.in-Outside.place c.index-ends-place.result).value c.requires.of s.0 s.1
    (end_value_read (linear_program c.args.problem.now) (box_at c.args.boxes.now) (tableau_of c.args.tableau.now) c.args.ends.now c.in-Outside.place c.index-ends-place.result c.requires.ends s.0)
