-- First stops.
use Rattle.std.proofs.Common.{◌≡◌, ◌∙◌, ◌++◌, List, [], ◌∷◌, ℕ, Option, Some, None, Bool, true, false, cond, refl, sym, Result, Ok, Err, subst}
use Rattle.std.specs.Result.{IsErrAnd}
use Rattle.hys_number.specs.Ops.{◌+ₙ◌, fits}
use Rattle.hys_number.proofs.Field.{add_comm}
use Rattle.hys_lin.specs.declared.form.Affine.{Affine}
use Rattle.hys_lin.specs.declared.lost.Lost.{Lost}
use Rattle.hys_lin.specs.Sums.{Assignment, sum_of, value}
use Rattle.hys_lin.specs.Operations.{first_lost, outcome}
use Rattle.hys_prog.specs.declared.stop.Stop.{Stop}
use Rattle.hys_prog.specs.declared.stop.Stop.TheVariants.{Range}
use Rattle.hys_prog.specs.declared.stop.StepFault.{StepFault}
use Rattle.hys_prog.specs.declared.stop.StepFault.TheVariants.{Stop as Stopped, Memory}
use Rattle.hys_prog.specs.Stops.{Check, first_stop, fitting, Faulted, Judged}

pub from_constant : (f : Affine) (w : Assignment) → f.constant +ₙ sum_of f.terms w ≡ value f w
unfolding value
from_constant f w = add_comm f.constant (sum_of f.terms w)

-- ---- lists of checks
pub stop_after : (xs ys : List Check) → first_stop xs ≡ None → first_stop (xs ++ ys) ≡ first_stop ys
stop_after [] ys e = refl
stop_after (c ∷ xs) ys e = go c.passes (first_stop xs) (first_stop (xs ++ ys)) e (stop_after xs ys)
  where
    go : (b : Bool) (x y : Option Stop) → cond b x (Some c.stop) ≡ None → (x ≡ None → y ≡ first_stop ys) → cond b y (Some c.stop) ≡ first_stop ys
    go true x y e h = h e
    go false x y e h = absurd (cc)

pub stop_before : (xs ys : List Check) (s : Stop) → first_stop xs ≡ Some s → first_stop (xs ++ ys) ≡ Some s
stop_before [] ys s e = absurd (cc)
stop_before (c ∷ xs) ys s e = go c.passes (first_stop xs) (first_stop (xs ++ ys)) e (stop_before xs ys s)
  where
    go : (b : Bool) (x y : Option Stop) → cond b x (Some c.stop) ≡ Some s → (x ≡ Some s → y ≡ Some s) → cond b y (Some c.stop) ≡ Some s
    go true x y e h = h e
    go false x y e h = e

-- ---- operations
pub fitting_none : (k : ℕ) (os : List Lost) → first_lost os ≡ None → first_stop (fitting k os) ≡ None
fitting_none k [] e = refl
fitting_none k (o ∷ os) e = go (fits (outcome o)) e (fitting_none k os)
  where
    go : (b : Bool) → cond b (first_lost os) (Some o) ≡ None → (first_lost os ≡ None → first_stop (fitting k os) ≡ None) → cond b (first_stop (fitting k os)) (Some (Range k o)) ≡ None
    go true e f = f e
    go false e f = absurd (cc)

pub fitting_some : (k : ℕ) (os : List Lost) (l : Lost) → first_lost os ≡ Some l → first_stop (fitting k os) ≡ Some (Range k l)
fitting_some k [] l e = absurd (cc)
fitting_some k (o ∷ os) l e = go (fits (outcome o)) e (fitting_some k os l)
  where
    go : (b : Bool) → cond b (first_lost os) (Some o) ≡ Some l → (first_lost os ≡ Some l → first_stop (fitting k os) ≡ Some (Range k l)) → cond b (first_stop (fitting k os)) (Some (Range k o)) ≡ Some (Range k l)
    go true e f = f e
    go false e f = let q : o ≡ l = cc in rw q refl

-- ---- answers
pub fault_before : (xs ys : List Check) (f : StepFault) → Faulted xs f → Faulted (xs ++ ys) f
fault_before xs ys (Stopped s) h = stop_before xs ys s h
fault_before xs ys Memory h = tt

pub fault_after : (xs ys : List Check) (f : StepFault) → first_stop xs ≡ None → Faulted ys f → Faulted (xs ++ ys) f
fault_after xs ys (Stopped s) e h = stop_after xs ys e ∙ h
fault_after xs ys Memory e h = tt

pub judged_after : (Y : Type 0) (xs ys : List Check) (r : Result Y StepFault) → first_stop xs ≡ None → Judged ys r → Judged (xs ++ ys) r
judged_after Y xs ys (Ok x) e h = stop_after xs ys e ∙ h
judged_after Y xs ys (Err f) e h = fault_after xs ys f e h

pub judged_fault : (Y : Type 0) (xs : List Check) (r : Result Y StepFault) (f : StepFault) → IsErrAnd r (λ e. e ≡ f) → Faulted xs f → Judged xs r
judged_fault Y xs (Ok x) f h j = absurd h
judged_fault Y xs (Err e) f h j = subst (λ (z : StepFault). Faulted xs z) (sym h) j
