use Rattle.hys_ast.specs.Seen.{source_of}
use Rattle.hys_compile.proofs.Circles.{orders_kept, circle_below, by_cycle}
use Rattle.hys_compile.proofs.defining.define.Goals as goal

pub returns-in-Ok-clause-ordered : goal.returns-in-Ok-clause-ordered
returns-in-Ok-clause-ordered c =
    orders_kept c.args.text.now c.args.tokens.now (source_of c.args.source.now) c.args.program.now c.order.result c.in-Ok.order c.in-Ok.is c.requires.typed c.requires.translation c.order.ensures

pub show_circle-requires : goal.show_circle-requires
show_circle-requires c =
    circle_below c.args.program.now c.order.result c.in-Err-Cycle.field-0 _ c.items-in-Err-Cycle.result.now c.items.result.now c.in-Err-Cycle.is c.in-Err-Cycle.field-0-is c.order.ensures c.items-in-Err-Cycle.ensures c.items.ensures

pub returns-in_ok-show_circle-in-Err-Cycle-clause-err : goal.returns-in_ok-show_circle-in-Err-Cycle-clause-err
returns-in_ok-show_circle-in-Err-Cycle-clause-err c =
    by_cycle c.args.text.now c.args.tokens.now (source_of c.args.source.now) c.args.program.now c.order.result c.in-Err-Cycle.field-0 _ c.items-in-Err-Cycle.result.now c.items.result.now c.in_ok-show_circle-in-Err-Cycle.field-0 c.in-Err-Cycle.is
    c.in-Err-Cycle.field-0-is c.order.ensures c.items-in-Err-Cycle.ensures c.items.ensures c.in_ok-show_circle-in-Err-Cycle.ensures c.requires.typed c.requires.translation
