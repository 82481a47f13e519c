-- The lawful outcomes of `demo K`.
use Rattle.std.specs.Prelude.{◌≡◌, ℕ}
use Rattle.hys_lin.specs.declared.problem.Problem.{Problem}
use Rattle.hys_sys.specs.declared.system.System.{System}
use Rattle.hys_compile.specs.Text.{IsCompiled}
use Rattle.hys_compile.specs.declared.compiler.Compiled.{Compiled}
use Rattle.hys_stack.specs.declared.request.Request.{Request}
use Rattle.hys_stack.specs.Texts.{IsTextOf}
use Rattle.hys_stack.specs.Stacking.{IsStacked}
use Rattle.hys_tree.specs.declared.answer.Answer.{Answer}
use Rattle.hys_best.specs.Means.{Means}
use Rattle.hys_gen.specs.Requested.{request_text}
use Rattle.hys_gen.specs.Tanks.{tanks_text}
use Rattle.hys_app.specs.Words.{usual_tolerance}
use Rattle.hys_app.specs.Lines.{demo_line}
use Rattle.hys_app.specs.Stages.{saying}
use Rattle.hys_app.specs.Planning.{IsPlannedFor, claim_status}
use Rattle.hys_app.specs.declared.outcome.Outcome.{Outcome}

abbrev pub saying_demo : ℕ → System → Answer → Outcome
saying_demo k s a = saying (claim_status a.claim) (demo_line k s a)

-- some answer of a plan of the request is told
pub record IsDemoPlan (k : ℕ) (s : System) (r : Request) (o : Outcome) : Type 0 where
  pub problem : Problem
  pub answer : Answer
  pub stacked : IsStacked s r problem
  pub planned : IsPlannedFor problem r answer
  pub said : o ≡ saying_demo k s answer

-- of the generated request, for the system that the generated source with so many tanks is compiled to; and what is
-- claimed holds of the automaton of that source
pub record IsDemo (k : ℕ) (o : Outcome) : Type 0 where
  pub compiled : Compiled
  pub request : Request
  pub source : IsCompiled usual_tolerance (tanks_text k) compiled
  pub asked : IsTextOf compiled.system (request_text k) request
  pub plan : IsDemoPlan k compiled.system request o
  pub means : Means usual_tolerance compiled request plan.answer.claim
