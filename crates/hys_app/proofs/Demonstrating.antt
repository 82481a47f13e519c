-- What `demo` comes to.
use Rattle.std.proofs.Common.{◌≡◌, ℕ, List, Option, Some, refl, ap, subst, true, Result, Ok, Err, IfOk}
use Rattle.std.specs.declared.alloc.AllocError.{AllocError}
use Rattle.hys_io.specs.Outside.{Named}
use Rattle.hys_lin.specs.declared.problem.Problem.{Problem}
use Rattle.hys_sys.specs.declared.system.System.{System}
use Rattle.hys_compile.specs.Text.{IsCompiled}
use Rattle.hys_compile.specs.declared.compiler.Compiled.{Compiled}
use Rattle.hys_stack.specs.declared.request.Request.{Request}
use Rattle.hys_stack.specs.Texts.{IsTextOf}
use Rattle.hys_stack.specs.Stacking.{IsStacked}
use Rattle.hys_tree.specs.declared.answer.Answer.{Answer}
use Rattle.hys_best.proofs.Plans.{plans_are_best}
use Rattle.hys_gen.specs.Requested.{request_text}
use Rattle.hys_gen.specs.Tanks.{tanks_text}
use Rattle.hys_app.specs.Words.{demo, usual_tolerance}
use Rattle.hys_app.specs.Planning.{IsPlannedFor, claim_status}
use Rattle.hys_app.specs.Demonstrating.{saying_demo, IsDemoPlan, IsDemo}
use Rattle.hys_app.specs.declared.outcome.Outcome.{Outcome}
use Rattle.hys_app.proofs.Stages.{is_calm, calm_by, calm_reached}
use Rattle.hys_app.proofs.Planning.{claim_calm}
use Rattle.hys_app.proofs.Asking.{AnswersTo}

pub demo_planned : (k : ℕ) (s : System) (r : Request) (p : Problem) (a : Answer) (x : Result Outcome AllocError) → IsStacked s r p → IsPlannedFor p r a →
    IfOk x (λ o. o ≡ saying_demo k s a) → IfOk x (IsDemoPlan k s r)
demo_planned k s r p a (Ok o) h q e = record { problem = p; answer = a; stacked = h; planned = q; said = e }
demo_planned k s r p a (Err m) h q e = tt

pub demo_done : (k : ℕ) (text asked : List ℕ) (c : Compiled) (r : Request) (x : Result Outcome AllocError) → text ≡ tanks_text k → asked ≡ request_text k →
    IsCompiled usual_tolerance text c → IsTextOf c.system asked r → IfOk x (IsDemoPlan k c.system r) → IfOk x (IsDemo k)
demo_done k text asked c r (Ok o) e f h q d = record {
  compiled = c;
  request = r;
  source = subst (λ (t : List ℕ). IsCompiled usual_tolerance t c) e h;
  asked = subst (λ (t : List ℕ). IsTextOf c.system t r) f q;
  plan = d;
  means = plans_are_best usual_tolerance c r d.problem d.answer.tree.places d.answer.claim q.lawful d.stacked d.planned.shows;
}
demo_done k text asked c r (Err m) e f h q d = tt

demo_calm : (k : ℕ) (o : Outcome) → IsDemo k o → is_calm o.status ≡ true
demo_calm k o h =
    calm_by o.status (claim_status h.plan.answer.claim) (ap (λ (p : Outcome). p.status) h.plan.said) (claim_calm h.plan.answer.claim)

pub demo_reached : (held : Option Named) (k : ℕ) (x : Result Outcome AllocError) (r : ℕ) → IfOk x (IsDemo k) → AnswersTo held (Some (demo k)) x r r
demo_reached held k (Ok o) r h = calm_reached (IsDemo k) o r r (demo_calm k o h) h refl
demo_reached held k (Err m) r h = tt
