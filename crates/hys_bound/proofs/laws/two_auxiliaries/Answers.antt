use Rattle.hys_bound.proofs.Example.{takes, other_case, outside}
use Rattle.hys_bound.proofs.laws.two_auxiliaries.Goals as goal

pub returns : goal.returns
returns c = record { takes = takes; case = other_case; outside = outside }
