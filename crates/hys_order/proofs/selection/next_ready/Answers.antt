use Rattle.std.proofs.Common.{◌<◌, length, get_or}
use Rattle.hys_order.specs.Links.{Ready, Untaken}
use Rattle.hys_prog.proofs.Members.{first_at}
use Rattle.hys_order.proofs.Taken.{untaken_at}
use Rattle.hys_order.proofs.selection.next_ready.Goals as goal

pub returns-then-advance-clause-first : goal.returns-then-advance-clause-first
returns-then-advance-clause-first c =
    let b : get_or c.args.names.now c.loop-name.name-index 0 < length c.args.taken.now = rw c.requires.count (c.requires.names c.loop-name.name-index c.loop-name-test.true) in
    let f : Untaken c.args.taken.now (get_or c.args.names.now c.loop-name.name-index 0) = untaken_at c.args.taken.now (get_or c.args.names.now c.loop-name.name-index 0) _ b c.if-not-taken-n.true in
    first_at (Ready c.args.taken.now c.args.links.now) c.args.names.now c.loop-name.name-index c.loop-name-test.true c.loop-name.invariant.2 (record { free = f; passed = c.advance.ensures.ready.0 c.if-advance.true })
