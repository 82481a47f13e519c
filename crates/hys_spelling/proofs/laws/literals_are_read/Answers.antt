use Rattle.hys_spelling.proofs.Spelled.{literal_read, short_literal_read}
use Rattle.hys_spelling.proofs.laws.literals_are_read.Goals as goal

pub returns-clause-any : goal.returns-clause-any
returns-clause-any c = literal_read

pub returns-clause-short : goal.returns-clause-short
returns-clause-short c = short_literal_read
