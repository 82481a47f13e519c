use Rattle.std.proofs.Common.{◌∙◌, sym, ap, length}
use Rattle.hys_dual.proofs.Finishing.{cost_below}
use Rattle.hys_dual.proofs.tests.tell.Goals as goal

pub value-requires : goal.value-requires
value-requires c = cost_below c.args.problem.now c.requires (length c.in-Least.point.values) (ap length (sym c.items.ensures) ∙ c.if-items.false ∙ ap length c.items-in-Least.ensures)
