use Rattle.hys_examples.proofs.Unique.{one_order, one_first, not_both, either}
use Rattle.hys_examples.proofs.fitting.one_or_none.Goals as goal

pub returns : goal.returns
returns c = record { order = one_order; first = one_first; not_both = not_both; either = either }
