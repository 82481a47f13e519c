use Rattle.hys_ast.specs.Seen.{source_of}
use Rattle.hys_compile.proofs.Unfit.{ranged, lost_within, by_interval}
use Rattle.hys_compile.proofs.defining.find_intervals.Goals as goal

pub returns-in-Ok-clause-ranged : goal.returns-in-Ok-clause-ranged
returns-in-Ok-clause-ranged c =
    ranged c.args.text.now c.args.tokens.now (source_of c.args.source.now) c.args.program.now c.args.order.now _ c.bounds.result c.in-Ok.intervals c.in-Ok.is c.requires.ordered c.requires.translation c.requires.order c.bounds.ensures.judged

pub place_of-requires : goal.place_of-requires
place_of-requires c =
    lost_within c.args.program.now c.args.order.now _ c.bounds.result c.in-Err-Range.field-0 c.in-Err-Range.item c.in-Err-Range.lost c.items.result.now c.in-Err-Range.is c.in-Err-Range.field-0-is c.bounds.ensures.judged c.items.ensures

pub returns-in-Err-Range-clause-err : goal.returns-in-Err-Range-clause-err
returns-in-Err-Range-clause-err c =
    by_interval c.args.text.now c.args.tokens.now (source_of c.args.source.now) c.args.program.now c.args.order.now _ c.bounds.result c.in-Err-Range.field-0 c.in-Err-Range.item c.in-Err-Range.lost c.items.result.now c.place_of.result c.show_range.result
    c.in-Err-Range.is c.in-Err-Range.field-0-is c.bounds.ensures.judged c.items.ensures c.place_of.ensures c.show_range.ensures c.requires.ordered c.requires.translation c.requires.order
