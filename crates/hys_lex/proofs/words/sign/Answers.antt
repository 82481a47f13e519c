use Rattle.hys_lex.specs.Words.{signs}
use Rattle.hys_lex.proofs.words.sign.Goals as goal

pub returns : goal.returns
unfolding signs
returns c = record { most = c.longest.ensures.most; within = c.longest.ensures.within; found = c.longest.ensures.found }
