use Rattle.hys_examples.proofs.Limited.{names_in, names_out, expression_in, expression_out, nodes_in, nodes_out}
use Rattle.hys_examples.proofs.rules.limits.Goals as goal

pub returns : goal.returns
returns c = record { names = (names_in, names_out); expression = (expression_in, expression_out); nodes = (nodes_in, nodes_out) }
