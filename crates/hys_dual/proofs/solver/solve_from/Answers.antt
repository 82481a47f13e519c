use Rattle.std.proofs.Common.{◌∙◌, sym, ap, subst}
use Rattle.hys_tab.specs.Table.{tableau_of}
use Rattle.hys_dual.specs.Choosing.{answer_to}
use Rattle.hys_dual.specs.Relaxing.{EndsAfter}
use Rattle.hys_dual.proofs.Solved.{is_relaxed, ends_after}
use Rattle.hys_dual.proofs.solver.solve_from.Goals as goal

pub returns-clause-relaxed : goal.returns-clause-relaxed
returns-clause-relaxed c = is_relaxed c.args.problem.now c.args.fixings.now c.run.new.tableau c.run.new.path.items c.in_ok-finish.finish c.in_ok-relaxed.relaxed c.requires.problem c.requires.node c.in_ok-finish.ensures.warm c.in_ok-finish.ensures.finish
    (c.in_ok-relaxed.ensures ∙ ap (λ z. answer_to (tableau_of c.run.new.tableau) z c.in_ok-finish.finish) c.as_slice-2.ensures.value)

pub returns-clause-ends : goal.returns-clause-ends
returns-clause-ends c = subst (λ z. EndsAfter c.args.problem.now c.args.fixings.now z c.in_ok-relaxed.relaxed) (sym c.of.ensures)
    (ends_after c.args.problem.now c.args.fixings.now c.run.new.tableau c.run.new.path.items c.in_ok-finish.finish c.in_ok-relaxed.relaxed c.in_ok-finish.ensures.finish
    (c.in_ok-relaxed.ensures ∙ ap (λ z. answer_to (tableau_of c.run.new.tableau) z c.in_ok-finish.finish) c.as_slice-2.ensures.value))
