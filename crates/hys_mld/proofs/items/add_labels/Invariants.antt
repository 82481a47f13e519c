use Rattle.std.proofs.Common.{◌≡◌, ◌++◌, ◌-◌, replicate}
use Rattle.hys_exact.specs.Labels.{label_of}
use Rattle.hys_mld.proofs.items.add_labels.Given as goal

abbrev pub invariant-loop : goal.invariant-loop
invariant-loop l = l.labels.items ++ replicate (l.count - l.counter) (label_of l.names l.item) ≡ l.initial.labels.items ++ replicate l.count (label_of l.names l.item)
