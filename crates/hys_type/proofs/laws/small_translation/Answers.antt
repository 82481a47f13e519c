use Rattle.hys_type.proofs.SmallTranslation.{small_only, small_translates}
use Rattle.hys_type.proofs.laws.small_translation.Goals as goal

pub returns-clause-typed : goal.returns-clause-typed
returns-clause-typed c = λ tolerance. small_translates tolerance

pub returns-clause-only : goal.returns-clause-only
returns-clause-only c = λ tolerance eps factor. small_only tolerance eps factor
