use Rattle.std.proofs.Common.{◌≤◌, length, map, []}
use Rattle.hys_type.specs.Added.{lists}
use Rattle.hys_type.specs.Built.{setting_of}
use Rattle.hys_type.specs.Operands.{seen}
use Rattle.hys_type.proofs.Additions.{AddsFrom}
use Rattle.hys_type.proofs.translation.program_items.Given as goal

abbrev pub invariant-loop-item : goal.invariant-loop-item
invariant-loop-item l =
    (length l.scope ≤ length l.names.items)
    × AddsFrom (setting_of (map seen l.scope) l.known l.eps) l.items l.item-index (lists l.initial.names.items []) (lists l.names.items l.made.items)
