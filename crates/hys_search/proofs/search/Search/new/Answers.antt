use Rattle.std.proofs.Common.{subst, sym, []}
use Rattle.hys_search.proofs.search.Search.new.Goals as goal
use Rattle.hys_search.proofs.Start.{start_holds}
use Rattle.hys_search.specs.Core.{Holds}

pub invariant_of-result : goal.invariant_of-result
invariant_of-result c = subst Holds (sym c.in_ok-table-in-Some.ensures) (start_holds c.args.problem c.args.nodes c.in_ok-warm-in-Some.warm c.requires.problem c.requires.few c.requires.plain (c.in_ok-warm-in-Some.ensures.warm []))

pub returns-clause-holds : goal.returns-clause-holds
returns-clause-holds c = subst Holds (sym c.in_ok-table-in-Some.ensures) (start_holds c.args.problem c.args.nodes c.in_ok-warm-in-Some.warm c.requires.problem c.requires.few c.requires.plain (c.in_ok-warm-in-Some.ensures.warm []))
