use Rattle.hys_prog.proofs.Fitted.{given_where}
use Rattle.hys_prog.proofs.Judging.{judged_stops, walk_stepped}
use Rattle.hys_prog.proofs.stepping.step.Goals as goal

pub returns-clause-stop : goal.returns-clause-stop
returns-clause-stop c = judged_stops c.args.program.now c.args.order.now c.args.state.now c.args.input.now c.walk.result c.requires.program c.requires.order c.walk.ensures.judged

pub returns-clause-legal : goal.returns-clause-legal
returns-clause-legal c = given_where c.args.program.now c.args.order.now c.args.state.now c.args.input.now c.walk.result c.requires.program c.requires.order c.requires.states c.requires.inputs c.walk.ensures.judged

pub returns-clause-done : goal.returns-clause-done
returns-clause-done c = walk_stepped c.args.program.now c.args.order.now c.args.state.now c.args.input.now c.walk.result c.requires.program c.requires.order c.requires.states c.requires.inputs c.walk.ensures.gives c.walk.ensures.judged
