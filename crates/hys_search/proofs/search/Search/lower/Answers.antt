use Rattle.std.proofs.Common.{subst}
use Rattle.hys_search.proofs.search.Search.lower.Goals as goal
use Rattle.hys_search.proofs.Conclusions.{above_plain}
use Rattle.hys_search.specs.Core.{Core}
use Rattle.hys_search.specs.Places.{IsLower, NotBelowPlain}

pub returns-clause-lower : goal.returns-clause-lower
returns-clause-lower c = subst (λ (C : Core). IsLower C c.lower.result) c.self.view_is c.lower.ensures

pub returns-clause-plain : goal.returns-clause-plain
returns-clause-plain c = subst (λ (C : Core). NotBelowPlain C.problem c.lower.result) c.self.view_is (above_plain _ c.lower.result c.self.invariant c.lower.ensures)
