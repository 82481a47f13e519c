use Rattle.std.proofs.Common.{◌≡◌, subst, sym}
use Rattle.hys_prog.specs.Orders.{IsOrder}
use Rattle.hys_prog.specs.Programs.{IsProgram}
use Rattle.hys_prog.specs.declared.program.Order.{Order}
use Rattle.hys_prog.specs.declared.program.Program.{Program}
use Rattle.hys_sim.proofs.Tanks.{is_order, is_program}
use Rattle.hys_sim.proofs.tests.answered.Goals as goal
use Rattle.hys_sim.specs.Tank.{tank, tank_order}

pub simulate-requires-clause-program : goal.simulate-requires-clause-program
simulate-requires-clause-program c = subst IsProgram (sym c.in_ok-program.ensures) is_program

pub simulate-requires-clause-order : goal.simulate-requires-clause-order
simulate-requires-clause-order c = subst (λ (p : Program). IsOrder p c.in_ok-order.order) (sym c.in_ok-program.ensures) (subst (λ (o : Order). IsOrder tank o) (sym c.in_ok-order.ensures) is_order)
