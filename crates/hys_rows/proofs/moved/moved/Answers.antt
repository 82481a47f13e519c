use Rattle.hys_lin.proofs.Summing.{columns_next}
use Rattle.hys_rows.proofs.Moving.{moved_next, item_here}
use Rattle.hys_rows.proofs.moved.moved.Goals as goal

pub bounds-columns-term : goal.bounds-columns-term
bounds-columns-term c = (columns_next _ _ _ _ c.loop-term.invariant.within (item_here c.items-term-items.result.now c.args.form.now.terms c.loop-term.term-index c.term-item.result c.items-term-items.ensures c.loop-term-test.true c.term-item.is)).0

pub loop-term-preserved : goal.loop-term-preserved
loop-term-preserved c =
    let e = item_here c.items-term-items.result.now c.args.form.now.terms c.loop-term.term-index c.term-item.result c.items-term-items.ensures c.loop-term-test.true c.term-item.is in
    record {
      within = (columns_next _ _ _ _ c.loop-term.invariant.within e).1;
      all = moved_next c.args.columns.now c.loop-term.terms.items c.insert.new.terms.items c.args.form.now.terms _ _ c.term-item.result (columns_next _ _ _ _ c.loop-term.invariant.within e).0 c.loop-term.invariant.all e c.in_ok-insert.ensures;
    }
