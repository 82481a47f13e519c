use Rattle.std.proofs.Common.{◌<◌, arith, length}
use Rattle.hys_mld.proofs.Growing.{here, standing_lost, standing_more}
use Rattle.hys_mld.proofs.items.write_lines.Goals as goal

pub returns-in-Err-clause-judged : goal.returns-in-Err-clause-judged
returns-in-Err-clause-judged c =
    let b : c.loop-place.place < length c.args.items.now = omega arith in
    standing_lost c.args.names.now c.args.boxes.now c.args.columns.now c.args.first c.args.items.now c.loop-place.place c.loop-place.free c.loop-place.rows.items c.loop-place.labels.items c.loop-place.forms.items c.index-items-place.result c.in-Err.fault c.loop-place.invariant b c.index-items-place.is c.in-Err.ensures.judged

pub add_labels-requires : goal.add_labels-requires
add_labels-requires c =
    let b : c.loop-place.place < length c.args.items.now = omega arith in
    (here c.args.names.now c.args.boxes.now c.args.columns.now c.args.first c.args.items.now c.loop-place.place c.loop-place.free c.loop-place.rows.items c.loop-place.labels.items c.loop-place.forms.items c.index-items-place.result c.loop-place.invariant b c.index-items-place.is).named

pub loop-place-preserved : goal.loop-place-preserved
loop-place-preserved c =
    let b : c.loop-place.place < length c.args.items.now = omega arith in
    standing_more c.args.names.now c.args.boxes.now c.args.columns.now c.args.first c.args.items.now c.loop-place.place c.loop-place.free c.loop-place.rows.items c.add_here.new.rows.items c.loop-place.labels.items c.add_labels.new.labels.items c.loop-place.forms.items c.push.new.self.items c.index-items-place.result c.in-Ok.added _ c.loop-place.invariant b c.index-items-place.is c.in-Ok.ensures.added c.in-Ok.ensures.judged (omega arith) c.in_ok-add_labels.ensures c.in_ok-push.ensures.items
