use Rattle.std.proofs.Common.{◌≡◌, ◌++◌, drop}
use Rattle.csv.specs.Records.{fields_of}
use Rattle.hys_sim.specs.Tables.{values_at}
use Rattle.hys_sim.proofs.values.values_at.Given as goal

abbrev pub invariant-loop-place : goal.invariant-loop-place
invariant-loop-place l = l.values.items ++ values_at (drop l.place-index l.places) (fields_of l.fn.row) ≡ values_at l.places (fields_of l.fn.row)
