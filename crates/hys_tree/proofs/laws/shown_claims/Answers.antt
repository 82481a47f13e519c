use Rattle.std.proofs.Common.{[]}
use Rattle.hys_tree.specs.Shows.{goal_of}
use Rattle.hys_tree.specs.declared.answer.Claim.TheVariants.{Least, NoneExists, AtLeast}
use Rattle.hys_tree.proofs.Sound.{tree_sound}
use Rattle.hys_tree.proofs.laws.shown_claims.Goals as goal

pub returns-clause-least : goal.returns-clause-least
returns-clause-least c p places b i h v s = tree_sound p (goal_of (Least b)) h.tree [] i h.shows v s tt

pub returns-clause-none : goal.returns-clause-none
returns-clause-none c p places i h v s = tree_sound p (goal_of NoneExists) h.tree [] i h.shows v s tt

pub returns-clause-at_least : goal.returns-clause-at_least
returns-clause-at_least c p places bound best why i h v s =
    tree_sound p (goal_of (AtLeast bound best why)) h.tree [] i h.shows v s tt
