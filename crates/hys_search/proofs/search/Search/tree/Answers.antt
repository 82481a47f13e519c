use Rattle.std.proofs.Common.{subst, ◌∙◌}
use Rattle.hys_search.proofs.search.Search.tree.Goals as goal
use Rattle.hys_search.proofs.Conclusions.{shows_lower, tree_of}
use Rattle.hys_search.specs.Core.{Core, core}
use Rattle.hys_search.specs.Places.{IsTreeOf, ShowsLower}

pub returns-clause-tree : goal.returns-clause-tree
returns-clause-tree c = subst (λ (C : Core). IsTreeOf C c.of.result) c.self.view_is (tree_of (core c.self.inside.table) c.of.result c.self.invariant (c.of.ensures ∙ c.in_ok-places.ensures))

pub returns-clause-shows : goal.returns-clause-shows
returns-clause-shows c = subst (λ (C : Core). ShowsLower C c.of.result) c.self.view_is (shows_lower (core c.self.inside.table) c.of.result c.self.invariant (c.of.ensures ∙ c.in_ok-places.ensures))
