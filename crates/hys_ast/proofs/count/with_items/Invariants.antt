use Rattle.std.proofs.Common.{List, ◌++◌, map, take}
use Rattle.hys_ast.specs.Tree.{Tree}
use Rattle.hys_ast.specs.Seen.{item_of}
use Rattle.hys_ast.specs.Nodes.{items_expressions, IsCountOf}
use Rattle.hys_ast.proofs.count.with_items.Given as goal

abbrev pub invariant-loop-item : goal.invariant-loop-item
invariant-loop-item l = (es : List Tree) → IsCountOf es l.fn.count → IsCountOf (es ++ items_expressions (map item_of (take l.item-index l.items))) l.sum
