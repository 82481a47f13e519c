use Rattle.hys_meaning.specs.Names.{names}
use Rattle.hys_meaning.specs.Unfolded.{unfolded}
use Rattle.hys_type.proofs.Agree.{texts_again, places_again}
use Rattle.hys_type.proofs.SameSteps.{names_differ, step_places, step_texts, legal_places, legal_texts}
use Rattle.hys_type.proofs.laws.same_meaning.Goals as goal

pub returns-clause-texts_again : goal.returns-clause-texts_again
returns-clause-texts_again c = λ s w n m h. texts_again (names s) w n m h

pub returns-clause-places_again : goal.returns-clause-places_again
returns-clause-places_again c = λ s v k d l. places_again (names s) v k (names_differ s d) l

pub returns-clause-steps_by_places : goal.returns-clause-steps_by_places
returns-clause-steps_by_places c = λ tolerance s p h x u w x' y. step_places tolerance (unfolded s) p h.translation h.once h.typed w x u x' y

pub returns-clause-steps_by_texts : goal.returns-clause-steps_by_texts
returns-clause-steps_by_texts c = λ tolerance s p h x u v x' y. step_texts tolerance (unfolded s) p h.translation h.once h.typed v x u x' y

pub returns-clause-legal_by_places : goal.returns-clause-legal_by_places
returns-clause-legal_by_places c = λ tolerance s p h x u w x' y. legal_places tolerance (unfolded s) p h.translation h.once h.typed w x u x' y

pub returns-clause-legal_by_texts : goal.returns-clause-legal_by_texts
returns-clause-legal_by_texts c = λ tolerance s p h x u v x' y. legal_texts tolerance (unfolded s) p h.translation h.once h.typed v x u x' y
