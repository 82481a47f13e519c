use Rattle.std.proofs.Common.{◌++◌, arith, replicate}
use Rattle.hys_exact.specs.Labels.{label_of}
use Rattle.hys_mld.proofs.Growing.{labels_one}
use Rattle.hys_mld.proofs.items.add_labels.Goals as goal

pub loop-preserved : goal.loop-preserved
loop-preserved c =
    labels_one c.loop.labels.items (c.args.labels.now.items ++ replicate c.args.count (label_of c.args.names.now c.args.item.now)) c.push.new.self.items c.args.count c.loop.counter (label_of c.args.names.now c.args.item.now) c.loop.invariant (omega arith) (rw c.in_ok-label_of.ensures at c.in_ok-push.ensures.items)
