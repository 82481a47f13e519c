use Rattle.hys_examples.proofs.Ruled.{product_refused, divisor_refused, kind_refused, doubled_accepted}
use Rattle.hys_examples.proofs.rules.expressions.Goals as goal

pub returns : goal.returns
returns c = record { product = product_refused; divisor = divisor_refused; kind = kind_refused; scaled = doubled_accepted }
