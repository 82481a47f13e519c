use Rattle.std.proofs.Common.{arith}
use Rattle.hys_ast.specs.Seen.{source_of}
use Rattle.hys_compile.proofs.Causes.{by_nodes, by_expression}
use Rattle.hys_compile.proofs.front.measure.Goals as goal

pub returns-then-count-gt-MOST_NODES-clause-err : goal.returns-then-count-gt-MOST_NODES-clause-err
returns-then-count-gt-MOST_NODES-clause-err c =
    by_nodes c.args.text.now c.args.tokens.now (source_of c.args.source.now) c.count_nodes-count.result c.over.result c.over.ensures c.requires c.count_nodes-count.ensures (omega (arith, c.if-count-gt-MOST_NODES.true))

pub returns-then-count-gt-MOST_NODES_OF_ONE-clause-err : goal.returns-then-count-gt-MOST_NODES_OF_ONE-clause-err
returns-then-count-gt-MOST_NODES_OF_ONE-clause-err c =
    by_expression c.args.text.now c.args.tokens.now (source_of c.args.source.now) c.count_nodes-count.result c.over-then-count-gt-MOST_NODES_OF_ONE.result c.over-then-count-gt-MOST_NODES_OF_ONE.ensures c.requires
    c.count_nodes-count.ensures (omega (arith, c.if-count-gt-MOST_NODES.false)) (omega (arith, c.if-count-gt-MOST_NODES_OF_ONE.true))
