use Rattle.hys_sim.proofs.Only.{one_run}
use Rattle.hys_sim.proofs.laws.one_run.Goals as goal

pub returns : goal.returns
returns c = λ p o h q. one_run p o (record { exists = c.one_assignment.ensures.exists p o h q; same = c.one_assignment.ensures.same p o h q; step = c.one_assignment.ensures.step p o h q })
