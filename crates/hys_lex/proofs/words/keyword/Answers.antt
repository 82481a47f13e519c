use Rattle.hys_lex.specs.Words.{keywords}
use Rattle.hys_lex.proofs.words.keyword.Goals as goal

pub returns : goal.returns
unfolding keywords
returns c = c.place.ensures
