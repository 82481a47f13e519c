use Rattle.hys_meaning.proofs.Guardless.{same}
use Rattle.hys_meaning.proofs.laws.unfolds_to_itself.Goals as goal

pub returns : goal.returns
returns c = same
