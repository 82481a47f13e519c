use Rattle.hys_type.proofs.OneTranslation as translation
use Rattle.hys_type.proofs.laws.one_translation.Goals as goal

pub returns : goal.returns
returns c = translation.one_translation
