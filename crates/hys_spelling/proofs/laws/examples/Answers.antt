use Rattle.hys_spelling.proofs.Texts.{are_number_texts, are_none}
use Rattle.hys_spelling.proofs.laws.examples.Goals as goal

pub returns-clause-numbers : goal.returns-clause-numbers
returns-clause-numbers c = are_number_texts

pub returns-clause-others : goal.returns-clause-others
returns-clause-others c = are_none
