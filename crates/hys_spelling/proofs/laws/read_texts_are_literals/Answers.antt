use Rattle.hys_spelling.proofs.Texts.{literals_exact}
use Rattle.hys_spelling.proofs.laws.read_texts_are_literals.Goals as goal

pub returns : goal.returns
returns c = literals_exact
