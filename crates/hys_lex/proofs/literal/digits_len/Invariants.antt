use Rattle.std.proofs.Common.{◌≡◌, ◌<◌, ℕ, get_or, true}
use Rattle.hys_lex.specs.Bytes.{is_digit}
use Rattle.hys_lex.proofs.literal.digits_len.Given as goal

abbrev pub invariant-loop-n : goal.invariant-loop-n
invariant-loop-n l = (k : ℕ) → k < l.n → is_digit (get_or l.text k 0) ≡ true
