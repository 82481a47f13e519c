use Rattle.hys_ast.specs.Seen.{source_of}
use Rattle.hys_compile.proofs.Rows.{rowed, lost_row_within, by_row}
use Rattle.hys_compile.proofs.building.build.Goals as goal

pub returns-in-Ok-clause-rowed : goal.returns-in-Ok-clause-rowed
returns-in-Ok-clause-rowed c =
    rowed c.args.tolerance c.args.text.now c.args.tokens.now (source_of c.args.source.now) c.args.program.now c.args.order.now c.args.boxes.now _ c.build.result c.in-Ok.system c.in-Ok.is c.requires.ranged c.requires.translation c.requires.order c.requires.boxes c.build.ensures.judged

pub place_of-requires : goal.place_of-requires
place_of-requires c =
    lost_row_within c.args.program.now c.args.boxes.now _ c.build.result c.in-Err-Range.field-0 c.in-Err-Range.item c.in-Err-Range.lost c.items.result.now c.in-Err-Range.is c.in-Err-Range.field-0-is c.build.ensures.judged c.items.ensures

pub returns-in-Err-Range-clause-err : goal.returns-in-Err-Range-clause-err
returns-in-Err-Range-clause-err c =
    by_row c.args.tolerance c.args.text.now c.args.tokens.now (source_of c.args.source.now) c.args.program.now c.args.order.now c.args.boxes.now _ c.build.result c.in-Err-Range.field-0 c.in-Err-Range.item c.in-Err-Range.lost c.items.result.now c.place_of.result c.show_range.result
    c.in-Err-Range.is c.in-Err-Range.field-0-is c.build.ensures.judged c.items.ensures c.place_of.ensures c.show_range.ensures c.requires.ranged c.requires.translation c.requires.order c.requires.boxes
