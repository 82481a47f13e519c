use Rattle.hys_meaning.specs.Unfolded.{unfolded}
use Rattle.hys_type.proofs.SameCircles.{circle_places, circle_texts, unfolded_declared}
use Rattle.hys_type.proofs.laws.same_circles.Goals as goal

pub returns-clause-by_places : goal.returns-clause-by_places
returns-clause-by_places c = λ tolerance s p h ns q. circle_places tolerance (unfolded s) p h.translation h.once h.typed ns q

pub returns-clause-by_texts : goal.returns-clause-by_texts
returns-clause-by_texts c = λ tolerance s p h d js q. circle_texts tolerance (unfolded s) p h.translation h.once h.typed (unfolded_declared s d) js q
