-- The stage of a request, and what `plan` comes to.
use Rattle.std.proofs.Common.{◌≡◌, ◌≢◌, ℕ, ◌<◌, ◌≤◌, ◌+◌, ◌^◌, List, [], length, Option, None, Some, ◌⊎◌, inl, inr, refl, sym, ap, subst, ◌∙◌, true, Result, Ok, Err, IfOk, codes, arith}
use Rattle.std.specs.FinMap as map
use Rattle.std.specs.declared.alloc.AllocError.{AllocError}
use Rattle.hys_io.specs.Outside.{Named, IfHolds}
use Rattle.hys_lin.specs.Operations.{first_lost}
use Rattle.hys_lin.specs.declared.lost.Lost.{Lost}
use Rattle.hys_lin.specs.Problem.{IsProblem}
use Rattle.hys_lin.specs.declared.problem.Problem.{Problem}
use Rattle.hys_relax.specs.BoundSum.{BoundFits}
use Rattle.hys_sys.specs.declared.system.System.{System}
use Rattle.hys_stack.specs.declared.request.Request.{Request}
use Rattle.hys_stack.specs.declared.fault.RequestFault.{RequestFault}
use Rattle.hys_stack.specs.declared.fault.RequestFault.TheVariants as fault
use Rattle.hys_stack.specs.Laws.{NoneIsBoth}
use Rattle.hys_stack.specs.Numbers.{request_operations}
use Rattle.hys_stack.specs.Stacking.{IsStacked}
use Rattle.hys_stack.specs.Texts.{most_bytes, IsCause, IsTextOf, bytes}
use Rattle.hys_tree.specs.declared.answer.Answer.{Answer}
use Rattle.hys_tree.specs.declared.answer.Claim.{Claim}
use Rattle.hys_tree.specs.declared.answer.Claim.TheVariants.{Least, NoneExists, AtLeast}
use Rattle.hys_tree.specs.declared.answer.Why.TheVariants as why
use Rattle.hys_tree.specs.Shows.{Shows}
use Rattle.hys_tree.specs.Fits.{Fits}
use Rattle.hys_answer.specs.Shown.{answer_text}
use Rattle.hys_answer.specs.Texts.{ReadsAs}
use Rattle.hys_plan.specs.Answer.{IsAnswered, IsNotSpent}
use Rattle.hys_app.specs.Lines.{file_line, request_words, range_words}
use Rattle.hys_app.specs.Ends.{IsReached}
use Rattle.hys_app.specs.Stages.{saying, ended, followed, IsStage, IsWhole, IsLong, IsUnread}
use Rattle.hys_app.specs.Planning.{HoldsRequest, IsRequestEnd, unread, refused, RequestFrom, IsRequestTextEnd, faulty, IsRequestStage, IsStackEnd, lost, IsProblemOf, IsStackStage, IsPlannedFor, claim_status, answering, IsAnswerPut, IsPlanned}
use Rattle.hys_app.specs.declared.stage.Stage.{Stage}
use Rattle.hys_app.specs.declared.stage.Stage.TheVariants.{End, Next}
use Rattle.hys_app.specs.declared.status.Status.TheVariants.{Input}
use Rattle.hys_app.specs.declared.outcome.Outcome.{Outcome}
use Rattle.hys_app.proofs.Stages.{of_file, implied, is_calm, calm_by, calm_reached, weaker}
use Rattle.hys_app.proofs.Accepting.{is_accepted, read_again}
use Rattle.hys_compile.specs.declared.compiler.Compiled.{Compiled}
use Rattle.hys_stack.specs.Requests.{IsRequestOf}
use Rattle.hys_best.proofs.Plans.{plans_are_best}

-- ---- texts that were read
pub text_refused : (s : System) (name text : List ℕ) (f : RequestFault) (o : Outcome) → o ≡ saying Input (file_line name (request_words f)) →
    f ≢ fault.Memory → (f ≡ fault.Memory) ⊎ IsCause s text f → NoneIsBoth → IsRequestTextEnd s name text o
text_refused s name text f o e other (inl memory) apart = absurd (other memory)
text_refused s name text f o e other (inr cause) apart =
    subst (IsRequestTextEnd s name text) (sym e) (faulty f cause (λ r h. apart s text r f h cause))

-- ---- from the bytes that were read to the file that the files tell
some_same : {A : Type 0} (x y : A) → Some x ≡ Some y → x ≡ y
some_same x y e = cc

no_request : (s : System) (held : Option Named) (name : List ℕ) (P : List ℕ → Type 0) → ((text : List ℕ) (r : Request) → P text → IsTextOf s text r → ⊥) →
    IfHolds held name P → HoldsRequest s held name → ⊥
no_request s None name P never h p = absurd (cc p.told)
no_request s (Some files) name P never (file, there, q) p =
    never file p.request q (subst (λ (t : List ℕ). IsTextOf s t p.request) (some_same p.file file
    (sym p.there ∙ (ap (λ (m : Named). map.get m name) (sym (some_same files p.files p.told)) ∙ there))) p.stands)

text_ended : (s : System) (held : Option Named) (name text : List ℕ) (o : Outcome) → IsWhole held name text → IsRequestTextEnd s name text o → IsRequestEnd s held name o
text_ended s held name text o h (faulty f cause never) =
    refused f (of_file held name text (λ file. IsCause s file f) h cause)
    (no_request s held name (λ file. text ≡ file) (λ file r e p. never r (subst (λ (t : List ℕ). IsTextOf s t r) (sym e) p)) h)

text_status : (s : System) (name text : List ℕ) (o : Outcome) → IsRequestTextEnd s name text o → o.status ≡ Input
text_status s name text o (faulty f cause never) = refl

calm_input : (L : Outcome → Type 0) (o : Outcome) (r r' : ℕ) → o.status ≡ Input → L o → r' ≡ r → IsReached L o r r'
calm_input L o r r' e l c = calm_reached L o r r' (calm_by o.status Input e refl) l c

-- ---- the stage of a request
pub request_unread : (s : System) (held : Option Named) (name : List ℕ) (o : Outcome) (r r' : ℕ) → IsReached (IsUnread name) o r r' → IsReached (IsRequestEnd s held name) o r r'
request_unread s held name o r r' h = weaker (IsUnread name) (IsRequestEnd s held name) o r r' (λ e. subst (IsRequestEnd s held name) (sym e) unread) h

long_unfit : (s : System) (text : List ℕ) (r : Request) → most_bytes < length text → IsTextOf s text r → ⊥
long_unfit s text r more p = omega (arith, p.value.few, more)

bytes_line : (name : List ℕ) → file_line name (request_words (fault.Limit (codes "bytes"))) ≡ file_line name (codes "limit bytes")
unfolding request_words
bytes_line name = refl

pub request_long : (s : System) (held : Option Named) (name : List ℕ) (o : Outcome) (r r' : ℕ) →
    o ≡ saying Input (file_line name (codes "limit bytes")) → IsLong held name most_bytes → r' ≡ r → IsReached (IsRequestEnd s held name) o r r'
request_long s held name o r r' e long c =
    calm_input (IsRequestEnd s held name) o r r' (ap (λ (p : Outcome). p.status) e)
    (subst (IsRequestEnd s held name) (sym (e ∙ ap (saying Input) (sym (bytes_line name))))
    (refused (fault.Limit (codes "bytes")) (implied held name (λ text. most_bytes < length text) (λ text. IsCause s text (fault.Limit (codes "bytes"))) (λ text more. bytes more) long)
    (no_request s held name (λ text. most_bytes < length text) (long_unfit s) long))) c

stage_of : (s : System) (held : Option Named) (name text : List ℕ) (x : Stage Request) (r r' : ℕ) → IsRequestStage s name text x → IsWhole held name text → r' ≡ r →
    IsStage (IsRequestEnd s held name) (RequestFrom s held name) r r' x
stage_of s held name text (End o) r r' h w c =
    calm_input (IsRequestEnd s held name) o r r' (text_status s name text o h) (text_ended s held name text o w h) c
stage_of s held name text (Next q) r r' h w c = (record { text = text; whole = w; stands = h }, c)

pub request_text_read : (s : System) (held : Option Named) (name text : List ℕ) (x : Result (Stage Request) AllocError) (r r' : ℕ) → IfOk x (IsRequestStage s name text) →
    IsWhole held name text → r' ≡ r → IfOk x (IsStage (IsRequestEnd s held name) (RequestFrom s held name) r r')
request_text_read s held name text (Ok x) r r' h w c = stage_of s held name text x r r' h w c
request_text_read s held name text (Err e) r r' h w c = tt

-- ---- the plan
pub planned_for : (p : Problem) (r : Request) (x : Result Answer AllocError) → IfOk x (λ a. Shows p a.tree.places a.claim) → IfOk x (λ a. Fits p a.tree.places a.claim) →
    IfOk x (λ a. IsAnswered p r.nodes a) → (2 ^ (length p.branch + 1) ≤ r.nodes + 1 → IfOk x (λ a. IsNotSpent a.claim)) → IfOk x (λ a. IsPlannedFor p r a)
planned_for p r (Ok a) s f w e = record { shows = s; fits = f; answered = w; unspent = e; accepted = is_accepted p a s f }
planned_for p r (Err m) s f w e = tt

pub answer_put : (p : Problem) (r : Request) (target : List ℕ) (a : Answer) (x : Result Outcome AllocError) → r.nodes ≤ 500000 → IsPlannedFor p r a →
    IfOk x (λ o. o ≡ answering target a) → IfOk x (λ o. ReadsAs (answer_text a.claim a.tree.places) a) → IfOk x (IsAnswerPut r target p)
answer_put p r target a (Ok o) n h e q = record { answer = a; planned = h; put = e; again = read_again p r.nodes a h.answered n q }
answer_put p r target a (Err m) n h e q = tt

pub stack_lost : (s : System) (r : Request) (name : List ℕ) (l : Lost) (o : Outcome) → first_lost (request_operations s r) ≡ Some l →
    o ≡ saying Input (file_line name (range_words l)) → IsStackEnd s r name o
stack_lost s r name l o h e = subst (IsStackEnd s r name) (sym e) (lost l h)

pub stack_done : (s : System) (r : Request) (p : Problem) → first_lost (request_operations s r) ≡ None → IsStacked s r p → IsProblem p → BoundFits p [] [] →
    IsProblemOf s r p × IsProblem p × BoundFits p [] []
stack_done s r p n k q b = (record { fits = n; stacked = k }, q, b)

pub plan_ended : (c : Compiled) (r : Request) (name target : List ℕ) (x : Stage Problem) (o : Outcome) → x ≡ End o → IsStackStage c.system r name x → IsPlanned c r name target o
plan_ended c r name target x o e h = ended o (subst (IsStackStage c.system r name) e h)

pub plan_next : (s : System) (r : Request) (name : List ℕ) (x : Stage Problem) (p : Problem) → x ≡ Next p → IsStackStage s r name x →
    IsProblemOf s r p × IsProblem p × BoundFits p [] []
plan_next s r name x p e h = subst (IsStackStage s r name) e h

pub plan_followed : (c : Compiled) (r : Request) (name target : List ℕ) (p : Problem) (x : Result Outcome AllocError) → IsRequestOf c.system r → IsProblemOf c.system r p → IfOk x (IsAnswerPut r target p) → IfOk x (IsPlanned c r name target)
plan_followed c r name target p (Ok o) q h k = followed p o h (record {
  put = k;
  means = λ tolerance. plans_are_best tolerance c r p k.answer.tree.places k.answer.claim q h.stacked k.planned.shows;
})
plan_followed c r name target p (Err m) q h k = tt

pub claim_calm : (c : Claim) → is_calm (claim_status c) ≡ true
claim_calm (Least b) = refl
claim_calm NoneExists = refl
claim_calm (AtLeast bound best (why.Spent n)) = refl
claim_calm (AtLeast bound best (why.Range node at)) = refl

pub stack_calm : (s : System) (r : Request) (name : List ℕ) (o : Outcome) → IsStackEnd s r name o → is_calm o.status ≡ true
stack_calm s r name o (lost l h) = refl

pub plan_calm : (c : Compiled) (r : Request) (name target : List ℕ) (o : Outcome) → IsPlanned c r name target o → is_calm o.status ≡ true
plan_calm c r name target o (ended _ h) = stack_calm c.system r name o h
plan_calm c r name target o (followed p _ h k) =
    calm_by o.status (claim_status k.put.answer.claim) (ap (λ (q : Outcome). q.status) k.put.put) (claim_calm k.put.answer.claim)
