use Rattle.std.proofs.Common.{◌≡◌, ◌+◌, arith}
use Rattle.hys_gen.proofs.chain.write_items.Goals as goal

pub returns : goal.returns
returns c =
    let ended : c.loop-tank.tank ≡ c.args.tanks + 1 = omega arith in
    (c.loop-tank.invariant c.args.tanks ended).1
