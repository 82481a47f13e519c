use Rattle.std.proofs.Common.{◌≡◌, suc, drop}
use Rattle.csv.specs.Records.{fields_of}
use Rattle.hys_sim.specs.Checks.{first_fault}
use Rattle.hys_sim.specs.Tables.{kind_checks}
use Rattle.hys_sim.proofs.values.judge_kinds.Given as goal

abbrev pub invariant-loop-place : goal.invariant-loop-place
invariant-loop-place l = first_fault (kind_checks l.which l.number (fields_of l.fn.row) 1 l.kinds) ≡ first_fault (kind_checks l.which l.number (fields_of l.fn.row) (suc l.place) (drop l.place l.kinds))
