-- What a call for a system answers.
use Rattle.std.specs.Prelude.{◌≡◌, List, Some, None, Result, Ok, Err}
use Rattle.hys_bound.specs.Ranges.{Placed, first_unfit}
use Rattle.hys_mld.specs.declared.fault.BuildFault.{BuildFault}
use Rattle.hys_mld.specs.declared.fault.BuildFault.TheVariants.{Range, Memory}

-- the fault is the first number that doesn't fit, with the place of its item; want of memory is free
abbrev pub Faulted : List Placed → BuildFault → Type 0
Faulted os (Range k l) = first_unfit os ≡ Some (record { item = k; what = l })
Faulted os Memory = Unit {0}

-- an answer is given exactly where all numbers fit
abbrev pub Judged : {X : Type 0} → List Placed → Result X BuildFault → Type 0
Judged os (Ok x) = first_unfit os ≡ None
Judged os (Err f) = Faulted os f
