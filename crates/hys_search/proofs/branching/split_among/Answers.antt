use Rattle.std.proofs.Common.{subst}
use Rattle.hys_search.proofs.branching.split_among.Goals as goal
use Rattle.hys_search.proofs.Among.{among_at}
use Rattle.hys_search.specs.Branching.{IsBetween}

pub returns-then-is_between : goal.returns-then-is_between
returns-then-is_between c = (among_at c.args.columns.now c.loop-column.column-index c.loop-column-test.true, subst IsBetween c.number_at.ensures (c.is_between.ensures.between c.if-is_between.true))
