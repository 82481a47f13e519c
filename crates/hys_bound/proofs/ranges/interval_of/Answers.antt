use Rattle.hys_bound.proofs.ranges.interval_of.Goals as goal

pub range_of-requires : goal.range_of-requires
range_of-requires c = rw c.in-Guard.is at c.requires

pub hull_of_two-requires-clause-hit : goal.hull_of_two-requires-clause-hit
hull_of_two-requires-clause-hit c = let h = rw c.in-Choice.is at c.requires in h.0

pub hull_of_two-requires-clause-other : goal.hull_of_two-requires-clause-other
hull_of_two-requires-clause-other c = let h = rw c.in-Choice.is at c.requires in h.1
