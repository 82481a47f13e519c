use Rattle.std.proofs.Common.{[], ◌∷◌, ◌++◌}
use Rattle.hys_ast.specs.Seen.{tree_of, maybe_tree_of}
use Rattle.hys_ast.specs.Nodes.{if_any}
use Rattle.hys_ast.proofs.Counting.{grouped}
use Rattle.hys_ast.proofs.count.with_shape.Goals as goal

pub returns-in-Wide : goal.returns-in-Wide
returns-in-Wide c = λ es count.
    let comparison = tree_of c.in-Wide.comparison in
    let tolerance = tree_of c.in-Wide.tolerance in
    rw c.in-Wide.is (grouped es (comparison ∷ []) (tolerance ∷ []) _ (c.with-in-Wide-2.ensures (es ++ comparison ∷ []) (c.with-in-Wide.ensures es count)))

pub returns-in-Choice : goal.returns-in-Choice
returns-in-Choice c = λ es count.
    let when = tree_of c.in-Choice.when in
    let hit = tree_of c.in-Choice.hit in
    let other = if_any (maybe_tree_of c.in-Choice.other) in
    rw c.in-Choice.is (grouped es (when ∷ hit ∷ []) other _ (c.with_any.ensures (es ++ (when ∷ hit ∷ [])) (grouped es (when ∷ []) (hit ∷ []) _ (c.with-count-in-Choice.ensures (es ++ when ∷ []) (c.with-count.ensures es count)))))
