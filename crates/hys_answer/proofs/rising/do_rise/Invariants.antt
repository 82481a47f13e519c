use Rattle.std.proofs.Common.{drop}
use Rattle.hys_answer.proofs.Multiplied.{AreNext}
use Rattle.hys_answer.proofs.rising.do_rise.Given as goal

abbrev pub invariant-loop-pair : goal.invariant-loop-pair
invariant-loop-pair l = AreNext l.least (drop l.pair-index l.pairs) → AreNext 0 l.pairs
