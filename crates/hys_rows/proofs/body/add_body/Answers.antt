use Rattle.hys_rows.proofs.Adding.{none_added}
use Rattle.hys_rows.proofs.body.add_body.Goals as goal

pub returns-in-Guard-clause-added : goal.returns-in-Guard-clause-added
returns-in-Guard-clause-added c = rw (c.in-Guard.is) c.add_guard.ensures.added

pub returns-in-Choice-clause-added : goal.returns-in-Choice-clause-added
returns-in-Choice-clause-added c = rw (c.in-Choice.is) c.add_choice.ensures.added

pub returns-in_ok-add_logic-in-Logic-clause-added : goal.returns-in_ok-add_logic-in-Logic-clause-added
returns-in_ok-add_logic-in-Logic-clause-added c = rw (c.in-Logic.is) c.in_ok-add_logic-in-Logic.ensures.added

pub returns-in-Linear-clause-added : goal.returns-in-Linear-clause-added
returns-in-Linear-clause-added c = rw (c.in-Linear.is) c.add_copy.ensures.added

pub returns-in_ok-add_read-in-NextBool-clause-added : goal.returns-in_ok-add_read-in-NextBool-clause-added
returns-in_ok-add_read-in-NextBool-clause-added c = rw (c.in-NextBool.is) c.in_ok-add_read-in-NextBool.ensures.added

pub returns-in_ok-form_alone-in-NextReal-clause-added : goal.returns-in_ok-form_alone-in-NextReal-clause-added
returns-in_ok-form_alone-in-NextReal-clause-added c = rw (c.in-NextReal.is) (none_added _ _)

pub returns-in_ok-add_read-in-OutBool-clause-added : goal.returns-in_ok-add_read-in-OutBool-clause-added
returns-in_ok-add_read-in-OutBool-clause-added c = rw (c.in-OutBool.is) c.in_ok-add_read-in-OutBool.ensures.added

pub returns-in_ok-form_alone-in-OutReal-clause-added : goal.returns-in_ok-form_alone-in-OutReal-clause-added
returns-in_ok-form_alone-in-OutReal-clause-added c = rw (c.in-OutReal.is) (none_added _ _)

pub returns-in_ok-add_must-in-MustHold-clause-added : goal.returns-in_ok-add_must-in-MustHold-clause-added
returns-in_ok-add_must-in-MustHold-clause-added c = rw (c.in-MustHold.is) c.in_ok-add_must-in-MustHold.ensures.added

pub returns-in_ok-add_most-in-MustMost-clause-added : goal.returns-in_ok-add_most-in-MustMost-clause-added
returns-in_ok-add_most-in-MustMost-clause-added c = rw (c.in-MustMost.is) c.in_ok-add_most-in-MustMost.ensures.added

pub returns-in_ok-add_zero-in-MustZero-clause-added : goal.returns-in_ok-add_zero-in-MustZero-clause-added
returns-in_ok-add_zero-in-MustZero-clause-added c = rw (c.in-MustZero.is) c.in_ok-add_zero-in-MustZero.ensures.added
