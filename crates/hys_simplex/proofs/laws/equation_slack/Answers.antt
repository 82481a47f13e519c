use Rattle.hys_simplex.proofs.Pins.{equation_slack}
use Rattle.hys_simplex.proofs.laws.equation_slack.Goals as goal

pub returns : goal.returns
returns c = equation_slack
