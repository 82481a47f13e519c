use Rattle.hys_prog.proofs.Guards.{demand_holds, demand_gap, demand_fails}
use Rattle.hys_prog.proofs.laws.demand_stops.Goals as goal

pub returns-clause-holds : goal.returns-clause-holds
returns-clause-holds c = demand_holds

pub returns-clause-gap : goal.returns-clause-gap
returns-clause-gap c = demand_gap

pub returns-clause-demand : goal.returns-clause-demand
returns-clause-demand c = demand_fails
