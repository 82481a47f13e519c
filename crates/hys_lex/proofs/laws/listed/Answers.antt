use Rattle.std.proofs.Common.{refl}
use Rattle.hys_lex.specs.Words.{keywords, signs}
use Rattle.hys_lex.specs.Named.{named_keywords, named_signs}
use Rattle.hys_lex.proofs.Tables.{stands_at, all_stand}
use Rattle.hys_lex.proofs.laws.listed.Goals as goal

pub returns : goal.returns
unfolding keywords signs named_keywords named_signs stands_at
returns c = record { keywords = refl; signs = refl; named_keywords = all_stand keywords named_keywords refl; named_signs = all_stand signs named_signs refl }
