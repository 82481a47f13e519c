use Rattle.std.proofs.Common.{length}
use Rattle.std.proofs.lemmas.Result.{IfOk-weaker}
use Rattle.hys_relax.specs.BoundSum.{coefficient_operations, summed_coefficient}
use Rattle.hys_lagrange.specs.Costs.{with_cost}
use Rattle.hys_lagrange.specs.Gathered.{AreCoefficients}
use Rattle.hys_lagrange.specs.Listed.{listed}
use Rattle.hys_lagrange.proofs.Summed.{joined_none}
use Rattle.hys_lagrange.proofs.Gathering.{listed_are}
use Rattle.hys_lagrange.proofs.coefficients.coefficients.Goals as goal

pub returns-in-Some-clause-lost : goal.returns-in-Some-clause-lost
returns-in-Some-clause-lost c = joined_none (length c.args.problem.now.boxes) (coefficient_operations (with_cost c.args.problem.now c.args.cost.now) c.args.pairs.now) (rw c.in-Some.is at c.in_ok-list.ensures).lost

pub returns-in-None-clause-value : goal.returns-in-None-clause-value
returns-in-None-clause-value c = IfOk-weaker c.one_by_one.result _ _ (λ ds e. listed_are (with_cost c.args.problem.now c.args.cost.now) c.args.pairs.now ds.items e) c.one_by_one.ensures.value
