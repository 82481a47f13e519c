use Rattle.std.proofs.Common.{arith}
use Rattle.hys_relax.specs.LinearProgram.{linear_program}
use Rattle.hys_tab.specs.Table.{tableau_of}
use Rattle.hys_dual.specs.Ranging.{side_of}
use Rattle.hys_dual.proofs.Comparing.{less_at, more_at, alike_at}
use Rattle.hys_dual.proofs.entering.is_less.Goals as goal

pub returns-in-Less : goal.returns-in-Less
returns-in-Less c = less_at (linear_program c.args.problem.now) (tableau_of c.args.tableau.now) c.args.row (side_of c.args.under) c.args.first c.args.second c.loop-place.place
    (omega (arith, c.loop-place-test.true, c.columns-place-end.ensures.value, c.requires.of.wide)) c.loop-place.invariant c.in-Less.ensures

pub returns-in-Greater : goal.returns-in-Greater
returns-in-Greater c = more_at (linear_program c.args.problem.now) (tableau_of c.args.tableau.now) c.args.row (side_of c.args.under) c.args.first c.args.second c.loop-place.place
    (omega (arith, c.loop-place-test.true, c.columns-place-end.ensures.value, c.requires.of.wide)) c.loop-place.invariant c.in-Greater.ensures

pub returns : goal.returns
returns c = alike_at (linear_program c.args.problem.now) (tableau_of c.args.tableau.now) c.args.row (side_of c.args.under) c.args.first c.args.second c.loop-place.place
    (omega (arith, c.loop-place-test.false, c.columns-place-end.ensures.value, c.requires.of.wide)) c.loop-place.invariant
