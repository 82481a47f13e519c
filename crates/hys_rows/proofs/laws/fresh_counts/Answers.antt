use Rattle.hys_rows.proofs.Worked.{counts_alike}
use Rattle.hys_rows.proofs.laws.fresh_counts.Goals as goal

pub returns : goal.returns
returns c = λ names columns others h b o. counts_alike names columns others b o h
