use Rattle.hys_frac.proofs.RoundTrip.{read_back}
use Rattle.hys_frac.proofs.laws.reads_written.Goals as goal

pub returns : goal.returns
returns c = read_back
