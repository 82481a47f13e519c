use Rattle.hys_guard.proofs.Lists.{signed_terms, set_terms}
use Rattle.hys_guard.proofs.choice.joined_terms.Goals as goal

pub set_factor-requires : goal.set_factor-requires
set_factor-requires c = rw (c.in_ok-terms.ensures, c.items.ensures) (signed_terms c.args.side c.args.form.now.terms c.requires)

pub returns-in-None-clause-terms : goal.returns-in-None-clause-terms
returns-in-None-clause-terms c = rw (c.in_ok-terms.ensures, c.items.ensures) (signed_terms c.args.side c.args.form.now.terms c.requires)

pub returns-in_ok-set_factor-in-Some-clause-terms : goal.returns-in_ok-set_factor-in-Some-clause-terms
returns-in_ok-set_factor-in-Some-clause-terms c = set_terms c.in-Some.term.column _ _ c.in_ok-terms.terms.items c.set_factor.new.terms.items c.in_ok-set_factor-in-Some.ensures
    (rw (c.in_ok-terms.ensures, c.items.ensures) (signed_terms c.args.side c.args.form.now.terms c.requires))
