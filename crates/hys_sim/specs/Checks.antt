-- What is looked for in tables, in order: the fault is that of the first check that fails.
use Rattle.std.specs.Prelude.{◌≡◌, List, [], ◌∷◌, Option, Some, None, Bool, cond, Result, Ok, Err}
use Rattle.hys_sim.specs.declared.fault.SimFault.{SimFault}
use Rattle.hys_sim.specs.declared.fault.SimFault.TheVariants.{Csv, Rows, Column, Value, Limit, Memory}

-- a test, and the fault where it fails
pub record Check : Type 0 where
  pub passes : Bool
  pub fault : SimFault

abbrev pub check : Bool → SimFault → Check
check b f = record { passes = b; fault = f }

-- the fault of the first check that fails, if one does
abbrev pub first_fault : List Check → Option SimFault
first_fault [] = None
first_fault (c ∷ cs) = cond c.passes (first_fault cs) (Some c.fault)

-- memory aside, the fault is that of the first check that fails
abbrev pub IsFault : List Check → SimFault → Type 0
IsFault cs (Csv w r) = first_fault cs ≡ Some (Csv w r)
IsFault cs (Rows w r) = first_fault cs ≡ Some (Rows w r)
IsFault cs (Column w t) = first_fault cs ≡ Some (Column w t)
IsFault cs (Value w r c) = first_fault cs ≡ Some (Value w r c)
IsFault cs Limit = first_fault cs ≡ Some Limit
IsFault cs Memory = Unit {0}

-- an answer is given exactly where no check fails, and else the fault of the first that does; want of memory is free
abbrev pub Judged : {T : Type 0} → List Check → Result T SimFault → Type 0
Judged cs (Ok x) = first_fault cs ≡ None
Judged cs (Err f) = IsFault cs f
