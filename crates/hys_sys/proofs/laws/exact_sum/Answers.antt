use Rattle.hys_sys.proofs.Adding.{sum_exact}
use Rattle.hys_sys.proofs.laws.exact_sum.Goals as goal

pub returns : goal.returns
returns c = sum_exact
