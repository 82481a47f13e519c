use Rattle.std.proofs.Common.{◌<◌, length, arith, rules}
use Rattle.hys_stack.proofs.Costs.{sums_next, over_next, lost_next, sums_ended}
use Rattle.hys_stack.proofs.cost.add_terms.Goals as goal

pub loop-term-preserved : goal.loop-term-preserved
loop-term-preserved c =
    let within : c.loop-term.term-index < length c.args.terms.now = omega arith in
    record {
      sums = sums_next c.args.weight c.loop-term.sums.items c.args.terms.now c.loop-term.term-index c.term-item.result c.index.result.now c.in_ok-sums.field-0 within c.term-item.is c.loop-term.invariant.over (search rules) c.in_ok-sums.ensures.value _ c.loop-term.invariant.sums;
      over = over_next c.args.weight c.loop-term.sums.items c.args.terms.now c.loop-term.term-index c.term-item.result c.index.result.now c.in_ok-sums.field-0 within c.term-item.is c.loop-term.invariant.over (search rules) c.in_ok-sums.ensures.value;
      lost = lost_next c.args.weight c.loop-term.sums.items c.args.terms.now c.loop-term.term-index c.term-item.result c.index.result.now c.in_ok-sums.field-0 within c.term-item.is c.loop-term.invariant.over (search rules) c.in_ok-sums.ensures.value _ c.loop-term.invariant.lost c.in_ok-sums.ensures.lost;
    }

pub returns-clause-sums : goal.returns-clause-sums
returns-clause-sums c = sums_ended c.args.weight c.loop-term.sums.items _ c.args.terms.now c.loop-term.term-index c.loop-term-test.false c.loop-term.invariant.sums
