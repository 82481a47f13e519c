use Rattle.hys_app.specs.Statuses.{number_of}
use Rattle.hysdel.proofs.end.Goals as goal

pub returns-in-Ok-clause-ends : goal.returns-in-Ok-clause-ends
returns-in-Ok-clause-ends g c = rw c.in-Ok.is (c.run.result, c.number.ensures, c.run.ensures.ends)

pub returns-in-Err-clause-memory : goal.returns-in-Err-clause-memory
unfolding number_of
returns-in-Err-clause-memory g c = rw c.in-Err.is c.number-in-Err.ensures
