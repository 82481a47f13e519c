-- An answer is a value where no check fails, and the first fault where one does.
use Rattle.std.proofs.Common.{◌≡◌, List, Option, Some, None, Result, Ok, Err, inl, inr, refl, subst}
use Rattle.hys_type.specs.Faults.{Check, first_fault, Answers, IsOneOrOther}
use Rattle.hys_type.specs.declared.fault.TypeFault.{TypeFault}
use Rattle.hys_type.specs.declared.fault.TypeFault.TheVariants as fault

data IsMemory (f : TypeFault) : Type 0 where
  memory : f ≡ fault.Memory → IsMemory f
  other : ¬ (f ≡ fault.Memory) → IsMemory f

is_memory : (f : TypeFault) → IsMemory f
is_memory (fault.Twice p) = other (λ e. absurd (cc))
is_memory fault.Limit = other (λ e. absurd (cc))
is_memory (fault.NoValue p) = other (λ e. absurd (cc))
is_memory (fault.NoBounds p) = other (λ e. absurd (cc))
is_memory (fault.EmptyBounds p a b) = other (λ e. absurd (cc))
is_memory (fault.Unknown p) = other (λ e. absurd (cc))
is_memory (fault.WrongSection p) = other (λ e. absurd (cc))
is_memory (fault.DefinedTwice p) = other (λ e. absurd (cc))
is_memory (fault.Kind p) = other (λ e. absurd (cc))
is_memory (fault.NotLinear p) = other (λ e. absurd (cc))
is_memory (fault.ZeroDivisor p) = other (λ e. absurd (cc))
is_memory (fault.Literal p) = other (λ e. absurd (cc))
is_memory (fault.Range p l) = other (λ e. absurd (cc))
is_memory (fault.Tolerance p a) = other (λ e. absurd (cc))
is_memory (fault.Missing n) = other (λ e. absurd (cc))
is_memory fault.Memory = memory refl

pub one_or_other : {T : Type 0} (r : Result T TypeFault) (cs : List Check) → Answers r cs → IsOneOrOther (first_fault cs) r
one_or_other (Ok x) cs a = subst (λ (o : Option TypeFault). IsOneOrOther o (Ok x)) a tt
one_or_other {T} (Err f) cs a = go (is_memory f) a
  where
    wanting : (o : Option TypeFault) → f ≡ fault.Memory → IsOneOrOther {T = T} o (Err f)
    wanting None e = e
    wanting (Some g) e = inr e

    go : IsMemory f → (¬ (f ≡ fault.Memory) → Some f ≡ first_fault cs) → IsOneOrOther {T = T} (first_fault cs) (Err f)
    go (memory e) a = wanting (first_fault cs) e
    go (other n) a = subst (λ (o : Option TypeFault). IsOneOrOther {T = T} o (Err f)) (a n) (inl refl)
