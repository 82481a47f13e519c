-- The laws, put together.
use Rattle.std.proofs.Common.{sym, subst}
use Rattle.hys_number.specs.Ops.{◌≤ₙ◌}
use Rattle.hys_relax.specs.Bound.{plain_bound}
use Rattle.hys_simplex.proofs.NodePaths.{path_below}
use Rattle.hys_simplex.proofs.Shows.{plain_least}
use Rattle.hys_dual.specs.Laws.{WarmBelow, ReadMultipliers, LeastAbove}
use Rattle.hys_dual.proofs.Finishing.{read_pairs}

pub warm_below : WarmBelow
warm_below p k fixings w l h = record { ruled = path_below p k fixings w.path l h.ruled; reached = h.reached }

pub read_multipliers : ReadMultipliers
read_multipliers = read_pairs

pub least_above : LeastAbove
least_above p fixings v pairs h n x = subst (λ z. plain_bound p ≤ₙ z) (sym x.bound) (plain_least p fixings v h n x.least.is_point)
