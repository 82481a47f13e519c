use Rattle.std.proofs.Common.{◌++◌}
use Rattle.hys_ast.specs.Seen.{maybe_tree_of}
use Rattle.hys_ast.specs.Nodes.{if_any}
use Rattle.hys_ast.proofs.Counting.{grouped}
use Rattle.hys_ast.proofs.count.with_decl.Goals as goal

pub returns : goal.returns
returns c = λ es count.
    let low = if_any (maybe_tree_of c.args.decl.now.low) in
    let high = if_any (maybe_tree_of c.args.decl.now.high) in
    let value = if_any (maybe_tree_of c.args.decl.now.value) in
    grouped es (low ++ high) value _ (c.with_any.ensures (es ++ (low ++ high)) (grouped es low high _ (c.with_any-count-2.ensures (es ++ low) (c.with_any-count.ensures es count))))
