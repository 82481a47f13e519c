use Rattle.std.proofs.Common.{◌≡◌, ◌+◌, ◌≤◌, drop}
use Rattle.hys_sys.specs.System.{states}
use Rattle.hys_file.proofs.system.count_states.Given as goal

abbrev pub invariant-loop-column : goal.invariant-loop-column
invariant-loop-column l = (l.count + states (drop l.column-index l.columns) ≡ states l.columns) × (l.count ≤ l.column-index)
