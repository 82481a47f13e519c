use Rattle.hys_type.proofs.RichTranslation.{rich_translates}
use Rattle.hys_type.proofs.laws.rich_translation.Goals as goal

pub returns : goal.returns
returns c = rich_translates
