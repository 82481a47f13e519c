use Rattle.std.proofs.Common.{subst, IfOk}
use Rattle.std.specs.Prelude.{MatchOption}
use Rattle.hys_search.proofs.search.Search.kept.Goals as goal
use Rattle.hys_search.specs.Core.{Core, NoneKept}
use Rattle.hys_search.specs.Places.{IsKeptCause}

pub returns : goal.returns
returns c = subst (λ (C : Core). IfOk c.kept.result (λ o. MatchOption o (NoneKept C) (λ w. IsKeptCause C w))) c.self.view_is c.kept.ensures
