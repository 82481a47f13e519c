use Rattle.std.proofs.Common.{◌≡◌, ℕ, ◌<◌, ◌≤◌}
use Rattle.hys_parse.specs.Depth.{open_before, run_before, depth}
use Rattle.hys_parse.proofs.deep.first_deep.Given as goal

abbrev pub invariant-loop-at : goal.invariant-loop-at
invariant-loop-at l = record {
  opened : l.open ≡ open_before l.tokens l.at;
  run : l.run ≡ run_before l.tokens l.at;
  open_most : l.open ≤ 65;
  run_most : l.run ≤ 65;
  shallow : (j : ℕ) → j < l.at → depth l.tokens j ≤ 64;
}
