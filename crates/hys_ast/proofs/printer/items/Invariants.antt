use Rattle.std.proofs.Common.{map, drop}
use Rattle.hys_ast.specs.Seen.{item_of}
use Rattle.hys_ast.specs.Printed.{items_words}
use Rattle.hys_ast.proofs.PrintLoops.{Stands}
use Rattle.hys_ast.proofs.printer.items.Given as goal

abbrev pub invariant-loop-item : goal.invariant-loop-item
invariant-loop-item l = Stands items_words l.fn.out.items l.out.items l.held (map item_of (drop l.item-index l.items)) (map item_of l.items)
