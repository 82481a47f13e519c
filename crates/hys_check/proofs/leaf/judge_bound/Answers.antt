use Rattle.std.proofs.Common.{rules, ◌≡◌, true, false, refl, take}
use Rattle.hys_check.proofs.Loops.{leaf_lawful, bound_range, bound_judged}
use Rattle.hys_check.proofs.leaf.judge_bound.Goals as goal

pub bound_at-requires-clause-lawful : goal.bound_at-requires-clause-lawful
bound_at-requires-clause-lawful c =
    let t : c.has_shape.result ≡ true = search rules in
    let u : c.are_signed.result ≡ true = search rules in
    leaf_lawful c.args.problem.now c.items-pairs.result.now _ c.has_shape.result c.are_signed.result c.has_shape.ensures t c.are_signed.ensures u

pub returns-in-Err : goal.returns-in-Err
returns-in-Err c =
    let t : c.has_shape.result ≡ true = search rules in
    let u : c.are_signed.result ≡ true = search rules in
    bound_range c.args.problem.now c.args.claimed c.args.number c.args.path.now (take c.args.depth c.args.path.now) c.args.multipliers.now c.args.depth c.items-pairs.result.now c.has_shape.result c.are_signed.result c.items-pairs.ensures refl c.has_shape.ensures t c.are_signed.ensures u c.in-Err.lost (rw c.in-Err.is at c.in_ok-lost.ensures)

pub returns-then-le : goal.returns-then-le
returns-then-le c =
    let t : c.has_shape.result ≡ true = search rules in
    let u : c.are_signed.result ≡ true = search rules in
    bound_judged c.args.problem.now c.args.claimed c.args.number c.args.path.now (take c.args.depth c.args.path.now) c.args.multipliers.now c.args.depth c.items-pairs.result.now c.has_shape.result c.are_signed.result c.items-pairs.ensures refl c.has_shape.ensures t c.are_signed.ensures u c.in-Ok.bound c.le.result true (rw c.in-Ok.is at c.in_ok-lost.ensures) c.le.ensures c.if-le.true

pub returns-else-le : goal.returns-else-le
returns-else-le c =
    let t : c.has_shape.result ≡ true = search rules in
    let u : c.are_signed.result ≡ true = search rules in
    bound_judged c.args.problem.now c.args.claimed c.args.number c.args.path.now (take c.args.depth c.args.path.now) c.args.multipliers.now c.args.depth c.items-pairs.result.now c.has_shape.result c.are_signed.result c.items-pairs.ensures refl c.has_shape.ensures t c.are_signed.ensures u c.in-Ok.bound c.le.result false (rw c.in-Ok.is at c.in_ok-lost.ensures) c.le.ensures c.if-le.false
