use Rattle.hys_parse.proofs.OneFault.{one_fault}
use Rattle.hys_parse.proofs.laws.one_fault.Goals as goal

pub returns : goal.returns
returns c = record { apart = λ text tokens k tree fault derived. fault.none tree derived; one = one_fault }
