use Rattle.std.proofs.Common.{rules, ◌≡◌, ◌∷◌, ◌+◌, IsTrue, drop, subst, List, length}
use Rattle.hys_number.specs.Number.{Number}
use Rattle.hys_lin.specs.declared.form.Term.{Term}
use Rattle.hys_lagrange.specs.Costs.{with_cost}
use Rattle.hys_lagrange.specs.Gathered.{IsRowAdded}
use Rattle.hys_lagrange.proofs.Summed.{pair_here}
use Rattle.hys_lagrange.proofs.Gathering.{next_row, gather_goes_on, gather_ends}
use Rattle.hys_lagrange.proofs.gather.gathered.Goals as goal

pub factors-requires : goal.factors-requires
factors-requires c = rw (c.items.ensures, c.items-2.ensures) c.requires.cost.below

pub add_row-requires-clause-rise : goal.add_row-requires-clause-rise
add_row-requires-clause-rise c = (next_row c.args.problem.now c.args.cost.now c.requires.problem c.args.pairs.now c.loop-k.k c.index-pairs-k.result c.loop-k.sums.items c.row_terms.result.now (pair_here c.args.pairs.now c.loop-k.k c.index-pairs-k.result c.loop-k-test.true c.index-pairs-k.is) c.loop-k.invariant c.row_terms.ensures).0

pub add_row-requires-clause-below : goal.add_row-requires-clause-below
add_row-requires-clause-below c = (next_row c.args.problem.now c.args.cost.now c.requires.problem c.args.pairs.now c.loop-k.k c.index-pairs-k.result c.loop-k.sums.items c.row_terms.result.now (pair_here c.args.pairs.now c.loop-k.k c.index-pairs-k.result c.loop-k-test.true c.index-pairs-k.is) c.loop-k.invariant c.row_terms.ensures).1

pub loop-k-preserved : goal.loop-k-preserved
loop-k-preserved c =
    let t : IsTrue c.add_row.result = search rules in
    gather_goes_on (with_cost c.args.problem.now c.args.cost.now) c.args.pairs.now c.loop-k.k c.index-pairs-k.result c.loop-k.sums.items c.add_row.new.sums.items
    (pair_here c.args.pairs.now c.loop-k.k c.index-pairs-k.result c.loop-k-test.true c.index-pairs-k.is) c.add_row.ensures.long
    (subst (λ (ts : List Term). IsRowAdded c.index-pairs-k.result.1 ts c.loop-k.sums.items c.add_row.new.sums.items) c.row_terms.ensures (c.add_row.ensures.added t)) c.loop-k.invariant

pub returns : goal.returns
returns c = gather_ends (with_cost c.args.problem.now c.args.cost.now) c.args.pairs.now c.loop-k.k c.loop-k.sums.items c.loop-k-test.false c.loop-k.invariant
