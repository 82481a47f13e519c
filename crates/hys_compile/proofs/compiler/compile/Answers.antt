use Rattle.hys_compile.proofs.Answered.{exactly, only_memory, is_compilable}
use Rattle.hys_compile.proofs.compiler.compile.Goals as goal

pub returns-clause-exact : goal.returns-clause-exact
returns-clause-exact c = λ fault.
    exactly c.args.eps c.args.text.now c.run_stages.result fault (c.one_cause.ensures.one c.args.eps c.args.text.now) (c.one_cause.ensures.none c.args.eps c.args.text.now) c.run_stages.ensures.done c.run_stages.ensures.refused

pub returns-clause-accepts : goal.returns-clause-accepts
returns-clause-accepts c = only_memory c.args.eps c.args.text.now c.run_stages.result (c.one_cause.ensures.none c.args.eps c.args.text.now) c.run_stages.ensures.refused

pub returns-clause-compilable : goal.returns-clause-compilable
returns-clause-compilable c = is_compilable c.args.eps c.args.text.now c.run_stages.result c.run_stages.ensures.done
