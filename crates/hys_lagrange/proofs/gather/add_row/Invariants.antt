use Rattle.hys_lagrange.proofs.Gathering.{IsLeft}
use Rattle.hys_lagrange.proofs.gather.add_row.Given as goal

abbrev pub invariant-loop-term : goal.invariant-loop-term
invariant-loop-term l = IsLeft l.by l.terms l.term-index l.fn.sums.items l.sums.items
