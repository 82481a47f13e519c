use Rattle.std.proofs.Common.{◌<◌, ◌≤◌, ◌+◌, ℕ}
use Rattle.hys_lex.specs.Pieces.{ClosesAt}
use Rattle.hys_lex.proofs.comment.block_len.Given as goal

abbrev pub invariant-loop-i : goal.invariant-loop-i
invariant-loop-i l = (k : ℕ) → 2 ≤ k → k + 1 < l.i → ClosesAt l.text k → ⊥
