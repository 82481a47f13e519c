-- From what stages come to, to the outcomes that are reached.
use Rattle.std.proofs.Common.{◌≡◌, ◌≢◌, ℕ, ◌≤◌, List, length, Bool, true, false, Option, None, Some, Result, Ok, Err, IfOk, refl, sym, ap, subst, ◌∙◌}
use Rattle.std.specs.declared.alloc.AllocError.{AllocError}
use Rattle.hys_io.specs.Outside.{Named, Rose, IfHolds}
use Rattle.hys_app.specs.Lines.{read_line}
use Rattle.hys_app.specs.Ends.{IsReached}
use Rattle.hys_app.specs.Stages.{saying, After, ended, followed, IsStage, AreBytes, IsWhole, IsLong, IsUnread}
use Rattle.hys_app.specs.declared.stage.Stage.{Stage}
use Rattle.hys_app.specs.declared.stage.Stage.TheVariants.{End, Next}
use Rattle.hys_app.specs.declared.status.Status.{Status}
use Rattle.hys_app.specs.declared.status.Status.TheVariants.{Done, NoTrajectory, Usage, Read, Write, Source, Input, Stopped, Spent, Range, Memory}
use Rattle.hys_app.specs.declared.outcome.Outcome.{Outcome}

-- ---- what holds of a file that is told
-- what holds of the bytes read holds of the file
pub of_file : (held : Option Named) (name text : List ℕ) (P : List ℕ → Type 0) → IsWhole held name text → P text → IfHolds held name P
of_file None name text P h p = tt
of_file (Some files) name text P (file, there, e) p = (file, there, subst P e p)

pub implied : (held : Option Named) (name : List ℕ) (P Q : List ℕ → Type 0) → ((file : List ℕ) → P file → Q file) → IfHolds held name P → IfHolds held name Q
implied None name P Q f h = tt
implied (Some files) name P Q f (file, there, p) = (file, there, f file p)

-- ---- statuses of outcomes that no failure of the outside gives
abbrev pub is_calm : Status → Bool
is_calm Done = true
is_calm NoTrajectory = true
is_calm Usage = true
is_calm Read = false
is_calm Write = false
is_calm Source = true
is_calm Input = true
is_calm Stopped = true
is_calm Spent = true
is_calm Range = true
is_calm Memory = false

not_read : (s : Status) → is_calm s ≡ true → s ≢ Read
not_read s e = λ d. let t : is_calm Read ≡ true = subst (λ (u : Status). is_calm u ≡ true) d e in absurd (cc)

not_write : (s : Status) → is_calm s ≡ true → s ≢ Write
not_write s e = λ d. let t : is_calm Write ≡ true = subst (λ (u : Status). is_calm u ≡ true) d e in absurd (cc)

not_memory : (s : Status) → is_calm s ≡ true → s ≢ Memory
not_memory s e = λ d. let t : is_calm Memory ≡ true = subst (λ (u : Status). is_calm u ≡ true) d e in absurd (cc)

pub calm_by : (s t : Status) → s ≡ t → is_calm t ≡ true → is_calm s ≡ true
calm_by s t e h = subst (λ (u : Status). is_calm u ≡ true) (sym e) h

pub calm_reached : (L : Outcome → Type 0) (o : Outcome) (r r' : ℕ) → is_calm o.status ≡ true → L o → r' ≡ r → IsReached L o r r'
calm_reached L o r r' calm l c = record {
  lawful = l;
  reads = record {
    failed = λ d. absurd (not_read o.status calm d);
    unput = λ d. absurd (not_read o.status calm d);
    calm = λ d. c;
    not_write = not_write o.status calm;
    not_memory = not_memory o.status calm;
  };
}

pub weaker : (L M : Outcome → Type 0) (o : Outcome) (r r' : ℕ) → (L o → M o) → IsReached L o r r' → IsReached M o r r'
weaker L M o r r' f h = record { lawful = f h.lawful; reads = h.reads }

pub from_start : (L : Outcome → Type 0) (o : Outcome) (r s r' : ℕ) → s ≡ r → IsReached L o s r' → IsReached L o r r'
from_start L o r s r' e h = subst (λ (n : ℕ). IsReached L o n r') e h

-- ---- a file that can't be read
pub unread_reached : (name : List ℕ) (o : Outcome) (r r' : ℕ) → IsUnread name o → r ≤ r' → Rose r r' → IsReached (IsUnread name) o r r'
unread_reached name o r r' e more rose =
    let s : o.status ≡ Read = ap (λ (p : Outcome). p.status) e in
    record {
      lawful = e;
      reads = record {
        failed = λ d. (more, rose);
        unput = λ d. ap (λ (p : Outcome). p.file) e;
        calm = λ d. absurd (d s);
        not_write = λ d. cc;
        not_memory = λ d. cc;
      };
    }

-- ---- a stage, and what follows it
pub after_end : {T : Type 0} (Ends : Outcome → Type 0) (Is : T → Type 0) (Follows : T → Outcome → Type 0) (o : Outcome) (r r' : ℕ) →
    IsReached Ends o r r' → IsReached (After Ends Is Follows) o r r'
after_end Ends Is Follows o r r' h = weaker Ends (After Ends Is Follows) o r r' (ended o) h

pub after_next : {T : Type 0} (Ends : Outcome → Type 0) (Is : T → Type 0) (Follows : T → Outcome → Type 0) (x : T) (o : Outcome) (r s r' : ℕ) →
    Is x → s ≡ r → IsReached (Follows x) o s r' → IsReached (After Ends Is Follows) o r r'
after_next Ends Is Follows x o r s r' is e h =
    from_start (After Ends Is Follows) o r s r' e (weaker (Follows x) (After Ends Is Follows) o s r' (followed x o is) h)

-- ---- a stage that was come to
pub bytes_end : (held : Option Named) (name : List ℕ) (limit r r' : ℕ) (s : Stage (Option (List ℕ))) (o : Outcome) → s ≡ End o →
    IsStage (IsUnread name) (AreBytes held name limit) r r' s → IsReached (IsUnread name) o r r'
bytes_end held name limit r r' s o e h = subst (IsStage (IsUnread name) (AreBytes held name limit) r r') e h

pub bytes_none : (held : Option Named) (name : List ℕ) (limit r r' : ℕ) (s : Stage (Option (List ℕ))) (m : Option (List ℕ)) → s ≡ Next m → m ≡ None →
    IsStage (IsUnread name) (AreBytes held name limit) r r' s → IsLong held name limit × (r' ≡ r)
bytes_none held name limit r r' s m e f h =
    subst (λ (x : Stage (Option (List ℕ))). IsStage (IsUnread name) (AreBytes held name limit) r r' x) (e ∙ ap (λ (n : Option (List ℕ)). Next n) f) h

pub bytes_some : (held : Option Named) (name : List ℕ) (limit r r' : ℕ) (s : Stage (Option (List ℕ))) (m : Option (List ℕ)) (text : List ℕ) → s ≡ Next m → m ≡ Some text →
    IsStage (IsUnread name) (AreBytes held name limit) r r' s → (IsWhole held name text × (length text ≤ limit)) × (r' ≡ r)
bytes_some held name limit r r' s m text e f h =
    subst (λ (x : Stage (Option (List ℕ))). IsStage (IsUnread name) (AreBytes held name limit) r r' x) (e ∙ ap (λ (n : Option (List ℕ)). Next n) f) h

pub stage_end : {T : Type 0} (Ends : Outcome → Type 0) (Is : T → Type 0) (r r' : ℕ) (s : Stage T) (o : Outcome) → s ≡ End o → IsStage Ends Is r r' s → IsReached Ends o r r'
stage_end {T} Ends Is r r' s o e h = subst (λ (x : Stage T). IsStage Ends Is r r' x) e h

pub stage_next : {T : Type 0} (Ends : Outcome → Type 0) (Is : T → Type 0) (r r' : ℕ) (s : Stage T) (x : T) → s ≡ Next x → IsStage Ends Is r r' s → Is x × (r' ≡ r)
stage_next {T} Ends Is r r' s x e h = subst (λ (y : Stage T). IsStage Ends Is r r' y) e h

-- ---- a command's stage, and what follows it
pub ended_by : {T : Type 0} (Ends : Outcome → Type 0) (Is : T → Type 0) (Follows : T → Outcome → Type 0) (s : Stage T) (o : Outcome) (r r' : ℕ) → s ≡ End o →
    IsStage Ends Is r r' s → IsReached (After Ends Is Follows) o r r'
ended_by {T} Ends Is Follows s o r r' e h = after_end Ends Is Follows o r r' (stage_end Ends Is r r' s o e h)

-- what follows has its own reads
pub gone_on : {T : Type 0} (Ends : Outcome → Type 0) (Is : T → Type 0) (Follows : T → Outcome → Type 0) (s : Stage T) (x : T) (answer : Result Outcome AllocError) (r m r' : ℕ) → s ≡ Next x →
    IsStage Ends Is r m s → IfOk answer (λ o. IsReached (Follows x) o m r') → IfOk answer (λ o. IsReached (After Ends Is Follows) o r r')
gone_on {T} Ends Is Follows s x (Ok o) r m r' e h k =
    let n = stage_next Ends Is r m s x e h in after_next Ends Is Follows x o r m r' n.0 n.1 k
gone_on {T} Ends Is Follows s x (Err a) r m r' e h k = tt

-- an outcome that follows without reads
pub calm_ok : (L : Outcome → Type 0) (answer : Result Outcome AllocError) (r : ℕ) → ((o : Outcome) → L o → is_calm o.status ≡ true) → IfOk answer L → IfOk answer (λ o. IsReached L o r r)
calm_ok L (Ok o) r calm h = calm_reached L o r r (calm o h) h refl
calm_ok L (Err a) r calm h = tt
