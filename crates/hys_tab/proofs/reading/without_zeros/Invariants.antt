use Rattle.std.proofs.Common.{◌≡◌, slice_index_or}
use Rattle.hys_number.specs.Ops.{whole}
use Rattle.hys_simplex.specs.Unfit.{pairs_to}
use Rattle.hys_tab.proofs.reading.without_zeros.Given as goal

abbrev pub invariant-loop-k : goal.invariant-loop-k
invariant-loop-k l = l.pairs.items ≡ pairs_to l.k (λ i. slice_index_or l.numbers i (whole 0))
