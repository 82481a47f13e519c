use Rattle.std.proofs.Common.{◌≡◌, drop}
use Rattle.hys_check.specs.Testing.{first_failing}
use Rattle.hys_check.specs.ClaimTests.{row_tests}
use Rattle.hys_check.proofs.point.judge_rows.Given as goal

abbrev pub invariant-loop-row : goal.invariant-loop-row
invariant-loop-row l = first_failing (row_tests l.point.values l.rows) ≡ first_failing (row_tests l.point.values (drop l.row-index l.rows))
