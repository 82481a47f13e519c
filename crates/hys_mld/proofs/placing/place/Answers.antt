use Rattle.std.proofs.Common.{arith}
use Rattle.hys_mld.specs.Placing.{after_names}
use Rattle.hys_mld.proofs.Free.{numbers_here}
use Rattle.hys_mld.proofs.placing.place.Goals as goal

pub after-free-requires : goal.after-free-requires
after-free-requires c = numbers_here c.args.names.now c.loop-name.name-index c.name-item.result c.loop-name.free (after_names c.args.start c.args.names.now) c.loop-name.invariant.free c.requires (omega arith) c.name-item.is
