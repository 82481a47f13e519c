use Rattle.hys_relax.proofs.Children.{children_cover}
use Rattle.hys_relax.proofs.laws.children_cover.Goals as goal

pub returns : goal.returns
returns c = children_cover
