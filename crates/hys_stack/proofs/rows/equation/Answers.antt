use Rattle.std.proofs.Common.{◌+◌, ◌^◌, ◌<◌, sym, subst}
use Rattle.hys_lin.specs.Sums.{EachColumn}
use Rattle.hys_stack.proofs.rows.equation.Goals as goal

pub opposite_terms-requires : goal.opposite_terms-requires
opposite_terms-requires c = subst (EachColumn (λ i. c.args.offset + i < 2 ^ 32)) (sym c.items.ensures) c.requires
