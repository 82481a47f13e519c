use Rattle.hys_prog.proofs.Judging.{none_fails, legal_exactly, legal_lawful, given_step, step_numbers}
use Rattle.hys_prog.proofs.laws.no_stop_is_legal.Goals as goal

pub returns-clause-none : goal.returns-clause-none
returns-clause-none c = none_fails

pub returns-clause-legal : goal.returns-clause-legal
returns-clause-legal c = λ p o h q x u w v. legal_exactly p o x u w h q v

pub returns-clause-passes : goal.returns-clause-passes
returns-clause-passes c = λ p o h x u w x' y l. let n = step_numbers p x u w x' y h l.step in (legal_lawful p o x u w x' y h l, n.0, n.1)

pub returns-clause-step : goal.returns-clause-step
returns-clause-step c = λ p h x u w v. given_step p x u w h v
