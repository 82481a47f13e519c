use Rattle.std.proofs.Common.{refl}
use Rattle.std.specs.Fmt.{digits}
use Rattle.hys_gen.specs.Requested.{further_tanks, further_starts, request_text}
use Rattle.hys_gen.proofs.laws.worked_requests.Goals as goal

pub returns-clause-one : goal.returns-clause-one
unfolding further_tanks further_starts request_text digits
returns-clause-one c = refl

pub returns-clause-eleven : goal.returns-clause-eleven
unfolding further_tanks further_starts request_text digits
returns-clause-eleven c = refl
