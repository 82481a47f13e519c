use Rattle.std.proofs.Common.{[], refl}
use Rattle.hys_ast.proofs.Counting.{nothing, of_both}
use Rattle.hys_ast.proofs.count.count_nodes.Goals as goal

pub returns : goal.returns
returns c = of_both _ _ _ _ _ c.items.ensures c.items-2.ensures (c.with_items.ensures _ (c.with_decls-declared.ensures [] (nothing _ refl refl)))
