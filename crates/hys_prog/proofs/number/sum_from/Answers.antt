use Rattle.std.proofs.Common.{◌≡◌, ◌<◌, ◌∷◌, length, ◌+◌, ◌≤◌, drop, arith, ◌∙◌, ap}
use Rattle.hys_number.specs.Number.{Number}
use Rattle.hys_number.specs.Ops.{◌+ₙ◌}
use Rattle.hys_lin.specs.Sums.{at}
use Rattle.hys_lin.proofs.Summing.{drop_here, value_next, lost_next, sum_by-columns, sum_ended}
use Rattle.hys_prog.proofs.number.sum_from.Goals as goal

pub loop-term-preserved : goal.loop-term-preserved
loop-term-preserved c =
    let within : c.loop-term.term-index < length c.args.terms.now = omega arith in
    let e : drop c.loop-term.term-index c.args.terms.now ≡ c.term-item.result ∷ drop (c.loop-term.term-index + 1) c.args.terms.now = drop_here c.args.terms.now c.loop-term.term-index c.term-item.result within c.term-item.is in
    record {
      value = value_next _ _ _ _ _ _ _ _ c.loop-term.invariant.value e c.number_at.ensures c.in_ok-sum.ensures.value;
      lost = lost_next _ _ _ _ _ _ _ _ c.loop-term.invariant.lost e c.number_at.ensures c.in_ok-sum.ensures.value c.in_ok-sum.ensures.lost;
    }

pub returns-clause-value : goal.returns-clause-value
returns-clause-value c = let past : length c.args.terms.now ≤ c.loop-term.term-index = omega arith in sum_ended _ _ _ _ _ c.loop-term.invariant.value past ∙ ap (λ (z : Number). c.args.start +ₙ z) (sum_by-columns c.args.terms.now (at c.args.values.now))
