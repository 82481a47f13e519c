use Rattle.hys_compile.specs.Faults.{listed}
use Rattle.hys_compile.proofs.naming.name_fault.Goals as goal

pub returns : goal.returns
unfolding listed
returns c = c.find_words.ensures
