use Rattle.std.proofs.Common.{◌∙◌, sym}
use Rattle.hys_search.proofs.columns.free_among.Goals as goal
use Rattle.hys_search.proofs.Among.{among_at}

pub returns-then-not-is_fixed : goal.returns-then-not-is_fixed
returns-then-not-is_fixed c = (among_at c.args.columns.now c.loop-column.column-index c.loop-column-test.true, sym c.is_fixed.ensures ∙ c.if-not-is_fixed.true)
