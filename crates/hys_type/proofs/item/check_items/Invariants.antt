use Rattle.std.proofs.Common.{◌≡◌, map}
use Rattle.hys_ast.specs.Seen.{item_of}
use Rattle.hys_type.specs.Checks.{scoped, item_checks}
use Rattle.hys_type.specs.Operands.{seen}
use Rattle.hys_type.proofs.Walks.{first_from}
use Rattle.hys_type.proofs.item.check_items.Given as goal

abbrev pub invariant-loop-at : goal.invariant-loop-at
invariant-loop-at l =
    let checks = item_checks (scoped (map seen l.fn.scope) l.fn.known) in
    first_from item_of checks l.items 0 ≡ first_from item_of checks l.items l.at
