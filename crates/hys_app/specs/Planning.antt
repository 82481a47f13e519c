-- A request as a stage, and the lawful outcomes of `plan SRC REQ ANS`.
use Rattle.std.specs.Prelude.{◌≡◌, ℕ, ◌≤◌, ◌+◌, ◌^◌, List, [], length, Option, None, Some, Result}
use Rattle.std.specs.FinMap as map
use Rattle.std.specs.declared.alloc.AllocError.{AllocError}
use Rattle.hys_io.specs.Outside.{Named, IfHolds}
use Rattle.hys_io.specs.declared.files.Files.{Ghosts as FilesOf}
use Rattle.hys_number.specs.Number.{Number}
use Rattle.hys_lin.specs.Operations.{first_lost}
use Rattle.hys_lin.specs.declared.lost.Lost.{Lost}
use Rattle.hys_lin.specs.Problem.{IsProblem}
use Rattle.hys_lin.specs.declared.problem.Problem.{Problem}
use Rattle.hys_relax.specs.BoundSum.{BoundFits}
use Rattle.hys_sys.specs.declared.system.System.{System}
use Rattle.hys_compile.specs.declared.compiler.Compiled.{Compiled}
use Rattle.hys_best.specs.Means.{Means}
use Rattle.hys_stack.specs.declared.request.Request.{Request}
use Rattle.hys_stack.specs.declared.fault.RequestFault.{RequestFault}
use Rattle.hys_stack.specs.Texts.{IsCause, IsTextOf}
use Rattle.hys_stack.specs.Numbers.{request_operations}
use Rattle.hys_stack.specs.Stacking.{IsStacked}
use Rattle.hys_tree.specs.declared.answer.Answer.{Answer}
use Rattle.hys_tree.specs.declared.answer.Claim.{Claim}
use Rattle.hys_tree.specs.declared.answer.Claim.TheVariants.{Least, NoneExists, AtLeast}
use Rattle.hys_tree.specs.declared.answer.Why.TheVariants as why
use Rattle.hys_tree.specs.Shows.{Shows}
use Rattle.hys_tree.specs.Fits.{Fits}
use Rattle.hys_check.specs.Verdict.{verdict_of}
use Rattle.hys_check.specs.declared.verdict.Verdict.TheVariants.{Yes}
use Rattle.hys_answer.specs.Shown.{answer_text}
use Rattle.hys_answer.specs.Texts.{IsAnswerText, most_bytes, unexpanded}
use Rattle.hys_plan.specs.Answer.{IsAnswered, IsNotSpent}
use Rattle.hys_app.specs.Lines.{read_line, file_line, request_words, range_words, claim_line}
use Rattle.hys_app.specs.Ends.{Reaches}
use Rattle.hys_app.specs.Stages.{saying, putting, After, ComesTo, IsWhole}
use Rattle.hys_app.specs.Compiling.{AfterSource}
use Rattle.hys_app.specs.declared.stage.Stage.{Stage}
use Rattle.hys_app.specs.declared.stage.Stage.TheVariants.{End, Next}
use Rattle.hys_app.specs.declared.status.Status.{Status}
use Rattle.hys_app.specs.declared.status.Status.TheVariants.{Done, NoTrajectory, Read, Input, Spent, Range}
use Rattle.hys_app.specs.declared.outcome.Outcome.{Outcome}

-- ---- the request
-- the files are told, and the bytes of the file stand for a request for the system
pub record HoldsRequest (s : System) (held : Option Named) (name : List ℕ) : Type 0 where
  pub files : Named
  pub file : List ℕ
  pub request : Request
  pub told : held ≡ Some files
  pub there : map.get files name ≡ Some file
  pub stands : IsTextOf s file request

-- The command ends at the request: it can't be read; or it is refused for a cause that it has, and never if it stands
-- for a request for the system.
pub data IsRequestEnd (s : System) (held : Option Named) (name : List ℕ) : Outcome → Type 0 where
  unread : IsRequestEnd s held name (saying Read (read_line name))
  refused : (fault : RequestFault) → IfHolds held name (λ file. IsCause s file fault) → ¬ (HoldsRequest s held name) →
      IsRequestEnd s held name (saying Input (file_line name (request_words fault)))

-- the request is that of the text with the bytes that, where the files are told, the file has
pub record RequestFrom (s : System) (held : Option Named) (name : List ℕ) (r : Request) : Type 0 where
  pub text : List ℕ
  pub whole : IsWhole held name text
  pub stands : IsTextOf s text r

-- a call that reads the request
abbrev pub ReadsRequest : {A : Type 0} → FilesOf A → A → A → System → List ℕ → Result (Stage Request) AllocError →
    Type 0
ReadsRequest F files files' s name =
    ComesTo F files files' (λ held. IsRequestEnd s held name) (λ held. RequestFrom s held name)

-- ---- a text that was read
pub data IsRequestTextEnd (s : System) (name text : List ℕ) : Outcome → Type 0 where
  faulty : (fault : RequestFault) → IsCause s text fault → ((r : Request) → ¬ (IsTextOf s text r)) →
      IsRequestTextEnd s name text (saying Input (file_line name (request_words fault)))

abbrev pub IsRequestStage : System → List ℕ → List ℕ → Stage Request → Type 0
IsRequestStage s name text (End o) = IsRequestTextEnd s name text o
IsRequestStage s name text (Next r) = IsTextOf s text r

abbrev pub AfterRequest : System → Option Named → List ℕ → (Request → Outcome → Type 0) → Outcome → Type 0
AfterRequest s held name = After (IsRequestEnd s held name) (RequestFrom s held name)

-- ---- the stacked problem
-- The command ends at the first number of the stacked problem that doesn't fit.
pub data IsStackEnd (s : System) (r : Request) (name : List ℕ) : Outcome → Type 0 where
  lost : (l : Lost) → first_lost (request_operations s r) ≡ Some l →
      IsStackEnd s r name (saying Input (file_line name (range_words l)))

-- it is the stacked problem, and its numbers fit
pub record IsProblemOf (s : System) (r : Request) (p : Problem) : Type 0 where
  pub fits : first_lost (request_operations s r) ≡ None
  pub stacked : IsStacked s r p

abbrev pub IsStackStage : System → Request → List ℕ → Stage Problem → Type 0
IsStackStage s r name (End o) = IsStackEnd s r name o
IsStackStage s r name (Next p) = IsProblemOf s r p × IsProblem p × BoundFits p [] []

abbrev pub AfterStacking : System → Request → List ℕ → (Problem → Outcome → Type 0) → Outcome → Type 0
AfterStacking s r name = After (IsStackEnd s r name) (IsProblemOf s r)

-- ---- the plan
-- The tree shows the claim, and every number of its sums fits. What is said of its places, of the nodes expanded and of
-- why the search ended holds; and the nodes aren't spent where they are as many as a tree over all branch columns has.
-- A check of the claim and the tree says yes.
pub record IsPlannedFor (p : Problem) (r : Request) (a : Answer) : Type 0 where
  pub shows : Shows p a.tree.places a.claim
  pub fits : Fits p a.tree.places a.claim
  pub answered : IsAnswered p r.nodes a
  pub unspent : 2 ^ (length p.branch + 1) ≤ r.nodes + 1 → IsNotSpent a.claim
  pub accepted : verdict_of p a.tree.places a.claim ≡ Yes

abbrev pub claim_status : Claim → Status
claim_status (Least b) = Done
claim_status NoneExists = NoTrajectory
claim_status (AtLeast bound best (why.Spent n)) = Spent
claim_status (AtLeast bound best (why.Range node at)) = Range

-- the answer's text is put under the target
abbrev pub answering : List ℕ → Answer → Outcome
answering target a = putting target (answer_text a.claim a.tree.places) (claim_status a.claim) (claim_line a.claim)

-- the answer's text stands for its claim and its tree, where it is within the limit of answers that are read
abbrev pub IsReadAgain : Answer → Type 0
IsReadAgain a =
    length (answer_text a.claim a.tree.places) ≤ most_bytes →
    IsAnswerText (answer_text a.claim a.tree.places) (unexpanded a)

-- some answer of a plan is put
pub record IsAnswerPut (r : Request) (target : List ℕ) (p : Problem) (o : Outcome) : Type 0 where
  pub answer : Answer
  pub planned : IsPlannedFor p r answer
  pub put : o ≡ answering target answer
  pub again : IsReadAgain answer

-- ---- `plan SRC REQ ANS`
-- An answer is put, and what it claims holds of the automaton of the source, with whatever text and at whatever tolerance
-- it was compiled: a trajectory than which none is cheaper, or that there is none, or that each costs at least the bound.
pub record IsPlanPut (c : Compiled) (r : Request) (target : List ℕ) (p : Problem) (o : Outcome) : Type 0 where
  pub put : IsAnswerPut r target p o
  pub means : (tolerance : Number) → Means tolerance c r put.answer.claim

abbrev pub IsPlanned : Compiled → Request → List ℕ → List ℕ → Outcome → Type 0
IsPlanned c r name target = AfterStacking c.system r name (IsPlanPut c r target)

abbrev pub IsRequestOutcome : Compiled → Option Named → List ℕ → List ℕ → Outcome → Type 0
IsRequestOutcome c held request target = AfterRequest c.system held request (λ r. IsPlanned c r request target)

-- a call that reads the request and plans it, the source being compiled
abbrev pub PlansRequest : {A : Type 0} → FilesOf A → A → A → Compiled → List ℕ → List ℕ → Result Outcome AllocError →
    Type 0
PlansRequest F files files' c request target = Reaches F files files' (λ held. IsRequestOutcome c held request target)

abbrev pub IsPlanOutcome : Number → Option Named → List ℕ → List ℕ → List ℕ → Outcome → Type 0
IsPlanOutcome tolerance held source request target =
    AfterSource tolerance held source (λ c. IsRequestOutcome c held request target)
