use Rattle.hys_spelling.proofs.Texts.{number_texts, number_valued}
use Rattle.hys_spelling.proofs.laws.number_texts.Goals as goal

pub returns-clause-form : goal.returns-clause-form
returns-clause-form c = number_texts

pub returns-clause-value : goal.returns-clause-value
returns-clause-value c = number_valued
