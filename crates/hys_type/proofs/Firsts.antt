-- The first fault of two lists of checks.
use Rattle.std.proofs.Common.{◌≡◌, ◌∙◌, List, [], ◌∷◌, ◌++◌, Some, None, Bool, true, false, cond, refl, ap, Result, Ok, Err}
use Rattle.std.specs.Result.{result_err, IsErr, IsErrAnd}
use Rattle.hys_type.specs.Faults.{Check, first_fault, Answers}
use Rattle.hys_type.specs.declared.fault.TypeFault.{TypeFault}
use Rattle.hys_type.specs.declared.fault.TypeFault.TheVariants as fault

pub fault_after : (xs ys : List Check) → None ≡ first_fault xs → first_fault (xs ++ ys) ≡ first_fault ys
fault_after [] ys h = refl
fault_after (x ∷ xs) ys h = one x.passes x.fault (fault_after xs ys) h
  where
    one : (b : Bool) (f : TypeFault) → (None ≡ first_fault xs → first_fault (xs ++ ys) ≡ first_fault ys) → None ≡ cond b (first_fault xs) (Some f) → cond b (first_fault (xs ++ ys)) (Some f) ≡ first_fault ys
    one true f k h = k h
    one false f k h = absurd (cc)

pub fault_before : (xs ys : List Check) (f : TypeFault) → Some f ≡ first_fault xs → Some f ≡ first_fault (xs ++ ys)
fault_before [] ys f h = absurd (cc)
fault_before (x ∷ xs) ys f h = one x.passes x.fault (fault_before xs ys f) h
  where
    one : (b : Bool) (g : TypeFault) → (Some f ≡ first_fault xs → Some f ≡ first_fault (xs ++ ys)) → Some f ≡ cond b (first_fault xs) (Some g) → Some f ≡ cond b (first_fault (xs ++ ys)) (Some g)
    one true g k h = k h
    one false g k h = h

-- the fault that `?` hands on
pub failed : {T : Type 0} (r : Result T TypeFault) (f : TypeFault) → IsErr r × IsErrAnd r (λ e. e ≡ f) → result_err r ≡ Some f
failed (Ok a) f h = absurd (never h.0)
  where
    never : false ≡ true → ⊥
    never e = absurd (cc)
failed (Err e) f h = ap (λ (x : TypeFault). Some x) h.1

-- the fault that `?` hands on, where memory may be wanting
pub handed : {T : Type 0} (r : Result T TypeFault) (f : TypeFault) (cs : List Check) → IsErr r × IsErrAnd r (λ e. e ≡ f) → (¬ (f ≡ fault.Memory) → Some f ≡ first_fault cs) → Answers r cs
handed (Ok a) f cs h k = absurd (never h.0)
  where
    never : false ≡ true → ⊥
    never e = absurd (cc)
handed (Err e) f cs h k = λ n. ap (λ (x : TypeFault). Some x) h.1 ∙ k (λ m. n (h.1 ∙ m))
