use Rattle.std.proofs.Common.{rules, ◌≡◌, true}
use Rattle.hys_check.proofs.Loops.{leaf_lawful}
use Rattle.hys_check.proofs.leaf.judge_never.Goals as goal

pub bound_at-requires-clause-lawful : goal.bound_at-requires-clause-lawful
bound_at-requires-clause-lawful c =
    let t : c.has_shape.result ≡ true = search rules in
    let u : c.are_signed.result ≡ true = search rules in
    leaf_lawful c.args.problem.now c.items-pairs.result.now _ c.has_shape.result c.are_signed.result c.has_shape.ensures t c.are_signed.ensures u
