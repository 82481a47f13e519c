use Rattle.hys_file.proofs.OneAnswer.{empty_labels}
use Rattle.hys_file.proofs.laws.first_has_no_labels.Goals as goal

pub returns : goal.returns
returns c = empty_labels
