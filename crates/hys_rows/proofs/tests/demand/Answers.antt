use Rattle.std.proofs.Common.{refl}
use Rattle.hys_rows.proofs.Trying.{demand_fits}
use Rattle.hys_rows.proofs.tests.demand.Goals as goal

pub returns-clause-fits : goal.returns-clause-fits
returns-clause-fits c = demand_fits _ c.neg.result refl (rw (c.of.ensures, c.new.ensures.items) refl)
