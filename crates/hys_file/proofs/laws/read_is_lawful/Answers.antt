use Rattle.hys_file.proofs.Lawful.{lawful}
use Rattle.hys_file.proofs.laws.read_is_lawful.Goals as goal

pub returns : goal.returns
returns c = lawful
