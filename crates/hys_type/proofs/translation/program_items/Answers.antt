use Rattle.std.proofs.Common.{map}
use Rattle.hys_ast.specs.Seen.{item_of}
use Rattle.hys_type.specs.Added.{lists}
use Rattle.hys_type.specs.Built.{setting_of}
use Rattle.hys_type.specs.Checks.{HasItemLiterals}
use Rattle.hys_type.specs.Operands.{seen}
use Rattle.hys_type.proofs.Additions.{added_here, still_enough}
use Rattle.hys_type.proofs.Items.{each_item}
use Rattle.hys_type.proofs.translation.program_items.Goals as goal

pub push_item-requires-clause-literals : goal.push_item-requires-clause-literals
push_item-requires-clause-literals c = each_item HasItemLiterals c.args.items.now c.loop-item.item-index c.item-item.result c.loop-item-test.true c.item-item.is c.requires.literals

pub loop-item-preserved : goal.loop-item-preserved
loop-item-preserved c =
    let s = setting_of (map seen c.args.scope.now) c.args.known.now c.args.eps in
    let before = lists c.loop-item.names.items c.loop-item.made.items in
    let after = lists c.push_item.new.names.items c.push_item.new.items.items in (
      still_enough s (item_of c.item-item.result) before after _ c.in_ok-push_item.ensures c.loop-item.invariant.0,
      added_here s c.args.items.now c.loop-item.item-index c.item-item.result (lists c.args.names.now.items _) before after c.loop-item-test.true c.item-item.is c.in_ok-push_item.ensures c.loop-item.invariant.1,
    )
