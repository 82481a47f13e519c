use Rattle.hys_lin.specs.Ranges.{box_at}
use Rattle.hys_relax.specs.LinearProgram.{linear_program}
use Rattle.hys_dual.proofs.Judging.{not_less, inside_open, inside_closed}
use Rattle.hys_dual.proofs.ranges.judged.Goals as goal

pub returns-in-None : goal.returns-in-None
returns-in-None c = inside_open (linear_program c.args.problem.now) (box_at c.args.boxes.now) c.args.variable c.args.value c.lower-low.result c.upper.result c.lower-low.ensures
    (not_less c.args.value c.lower-low.result c.is_below.result c.if-is_below.false c.is_below.ensures) c.upper.ensures c.in-None.is

pub returns-else-is_below-2 : goal.returns-else-is_below-2
returns-else-is_below-2 c = inside_closed (linear_program c.args.problem.now) (box_at c.args.boxes.now) c.args.variable c.args.value c.lower-low.result c.in-Some.high c.upper.result c.lower-low.ensures
    (not_less c.args.value c.lower-low.result c.is_below.result c.if-is_below.false c.is_below.ensures) c.upper.ensures c.in-Some.is
    (not_less c.in-Some.high c.args.value c.is_below-in-Some.result c.if-is_below-2.false c.is_below-in-Some.ensures)
