use Rattle.hys_type.proofs.SameValues.{values_by_places, values_by_texts}
use Rattle.hys_type.proofs.laws.same_values.Goals as goal

pub returns-clause-by_places : goal.returns-clause-by_places
returns-clause-by_places c = values_by_places

pub returns-clause-by_texts : goal.returns-clause-by_texts
returns-clause-by_texts c = values_by_texts
