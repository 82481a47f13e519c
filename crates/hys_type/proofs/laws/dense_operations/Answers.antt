use Rattle.hys_type.proofs.Zips.{each_name, spread_over}
use Rattle.hys_type.proofs.laws.dense_operations.Goals as goal

pub returns-clause-matched : goal.returns-clause-matched
returns-clause-matched c = λ ns o f g d e h k. each_name o ns f.factor g.factor f.constant g.constant d.factors e.factors d.constant e.constant h.factors k.factors h.constant k.constant

pub returns-clause-left : goal.returns-clause-left
returns-clause-left c = λ ns o f g d e h k. each_name o ns (λ n. f.constant) g.factor f.constant g.constant _ e.factors d.constant e.constant (spread_over ns f.factor d.constant f.constant d.factors h.factors h.constant) k.factors h.constant k.constant

pub returns-clause-right : goal.returns-clause-right
returns-clause-right c = λ ns o f g d e h k. each_name o ns f.factor (λ n. g.constant) f.constant g.constant d.factors _ d.constant e.constant h.factors (spread_over ns g.factor e.constant g.constant e.factors k.factors k.constant) h.constant k.constant
