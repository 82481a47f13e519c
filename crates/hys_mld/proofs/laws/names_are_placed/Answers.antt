use Rattle.hys_mld.proofs.Sorts.{is_placing}
use Rattle.hys_mld.proofs.laws.names_are_placed.Goals as goal

pub returns : goal.returns
returns c = λ p fresh. is_placing p fresh
