use Rattle.std.proofs.Common.{◌≡◌, ◌∷◌, drop, ◌+◌}
use Rattle.hys_lin.specs.declared.form.Term.{Term}
use Rattle.hys_lin.proofs.Summing.{value_next, lost_next}
use Rattle.hys_relax.specs.LinearProgram.{factor_at}
use Rattle.hys_lagrange.proofs.Summed.{pair_here, weights_here, lawful_next, sum_ended}
use Rattle.hys_lagrange.proofs.coefficients.coefficient.Goals as goal

pub loop-k-preserved : goal.loop-k-preserved
loop-k-preserved c =
    let e : drop c.loop-k.k c.args.pairs.now ≡ c.index-pairs-k.result ∷ drop (c.loop-k.k + 1) c.args.pairs.now = pair_here c.args.pairs.now c.loop-k.k c.index-pairs-k.result c.loop-k-test.true c.index-pairs-k.is in
    record {
      lawful = lawful_next c.args.problem.now (drop c.loop-k.k c.args.pairs.now) (drop (c.loop-k.k + 1) c.args.pairs.now) c.index-pairs-k.result c.loop-k.invariant.lawful e;
      value = value_next _ _ _ c.row_factor.result (record { column = c.index-pairs-k.result.0; factor = c.index-pairs-k.result.1 }) _ _ (λ (t : Term). factor_at c.args.problem.now t.column c.args.column) c.loop-k.invariant.value (weights_here c.args.pairs.now c.loop-k.k c.index-pairs-k.result e) c.row_factor.ensures c.in_ok-sum.ensures.value;
      lost = lost_next _ _ _ c.row_factor.result (record { column = c.index-pairs-k.result.0; factor = c.index-pairs-k.result.1 }) _ _ (λ (t : Term). factor_at c.args.problem.now t.column c.args.column) c.loop-k.invariant.lost (weights_here c.args.pairs.now c.loop-k.k c.index-pairs-k.result e) c.row_factor.ensures c.in_ok-sum.ensures.value c.in_ok-sum.ensures.lost;
    }

pub returns-clause-value : goal.returns-clause-value
returns-clause-value c = sum_ended _ c.loop-k.sum c.args.pairs.now c.loop-k.k (λ (t : Term). factor_at c.args.problem.now t.column c.args.column) c.loop-k-test.false c.loop-k.invariant.value
