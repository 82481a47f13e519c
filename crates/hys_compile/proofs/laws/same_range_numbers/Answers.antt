use Rattle.hys_meaning.specs.Unfolded.{unfolded}
use Rattle.hys_compile.proofs.OneList.{same_numbers}
use Rattle.hys_compile.proofs.laws.same_range_numbers.Goals as goal

pub returns : goal.returns
returns c = λ s p q a b o r. same_numbers a.tolerance b.tolerance (unfolded s) p q o r a.translation b.translation
