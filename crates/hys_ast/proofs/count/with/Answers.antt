use Rattle.hys_ast.specs.Seen.{tree_of}
use Rattle.hys_ast.proofs.Counting.{one_more}
use Rattle.hys_ast.proofs.count.with.Goals as goal

pub returns : goal.returns
returns c = λ es count. one_more es (tree_of c.args.whole.now) c.args.count _ c.nodes_of-nodes.result c.nodes_of-nodes.ensures c.saturating_add.ensures c.max.ensures count
