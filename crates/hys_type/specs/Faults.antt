-- Checks, and the fault of the first that fails.
use Rattle.std.specs.Prelude.{List, [], ◌∷◌, Option, Some, None, Bool, map, cond, ◌≡◌, ◌⊎◌, Result, Ok, Err}
use Rattle.hys_number.specs.Ops.{fits}
use Rattle.hys_lin.specs.declared.lost.Lost.{Lost}
use Rattle.hys_lin.specs.Operations.{outcome}
use Rattle.hys_ast.specs.declared.place.Place.{Place}
use Rattle.hys_type.specs.declared.fault.TypeFault.{TypeFault}
use Rattle.hys_type.specs.declared.fault.TypeFault.TheVariants as fault

-- a test, and the fault where it fails
pub record Check : Type 0 where
  pub passes : Bool
  pub fault : TypeFault

abbrev pub check : Bool → TypeFault → Check
check b f = record { passes = b; fault = f }

abbrev pub first_fault : List Check → Option TypeFault
first_fault [] = None
first_fault (c ∷ cs) = cond c.passes (first_fault cs) (Some c.fault)

-- the numbers that a node is folded to fit, one after the other
abbrev pub in_range : Place → List Lost → List Check
in_range p os = map (λ o. check (fits (outcome o)) (fault.Range p o)) os

-- memory aside, the answer is the first fault, or none of the checks fails
abbrev pub Answers : {T : Type 0} → Result T TypeFault → List Check → Type 0
Answers (Ok x) cs = None ≡ first_fault cs
Answers (Err f) cs = ¬ (f ≡ fault.Memory) → Some f ≡ first_fault cs

-- a value, or want of memory
abbrev pub IsValueOrMemory : {T : Type 0} → Result T TypeFault → Type 0
IsValueOrMemory (Ok x) = Unit {0}
IsValueOrMemory (Err f) = f ≡ fault.Memory

-- the fault, or want of memory
abbrev pub IsFaultOrMemory : {T : Type 0} → TypeFault → Result T TypeFault → Type 0
IsFaultOrMemory g (Ok x) = ⊥
IsFaultOrMemory g (Err f) = (f ≡ g) ⊎ (f ≡ fault.Memory)

-- memory aside, a value where no check fails, and the fault of the first that fails where one does
abbrev pub IsOneOrOther : {T : Type 0} → Option TypeFault → Result T TypeFault → Type 0
IsOneOrOther None r = IsValueOrMemory r
IsOneOrOther (Some f) r = IsFaultOrMemory f r
