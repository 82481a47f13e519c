use Rattle.hys_lin.specs.Sums.{at}
use Rattle.hys_prog.specs.Walk.{exact}
use Rattle.hys_prog.proofs.Valuing.{exact_valued}
use Rattle.hys_prog.proofs.Judging.{one_assignment, one_step}
use Rattle.hys_prog.proofs.laws.one_assignment.Goals as goal

pub returns-clause-exists : goal.returns-clause-exists
returns-clause-exists c = λ p o h q x u l m. (at (exact p o x u), exact_valued p o x u h q l m)

pub returns-clause-same : goal.returns-clause-same
returns-clause-same c = λ p o h q x u v w a b. one_assignment p o x u v w h q a b

pub returns-clause-step : goal.returns-clause-step
returns-clause-step c = λ p o h q x u v w x1 x2 y1 y2 s t. one_step p o x u v w x1 x2 y1 y2 h q s t
