use Rattle.std.proofs.Common.{map}
use Rattle.hys_lex.proofs.Tables.{Best}
use Rattle.hys_lex.proofs.words.longest.Given as goal

abbrev pub invariant-loop-k : goal.invariant-loop-k
invariant-loop-k l = Best (map (λ w. w.now) l.words) l.k l.text l.best.0 l.best.1
