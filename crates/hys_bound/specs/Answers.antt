-- What a call for intervals answers.
use Rattle.std.specs.Prelude.{◌≡◌, List, Some, None, Result, Ok, Err}
use Rattle.hys_bound.specs.Ranges.{Placed, first_unfit}
use Rattle.hys_bound.specs.declared.fault.BoundFault.{BoundFault}
use Rattle.hys_bound.specs.declared.fault.BoundFault.TheVariants.{Range, Memory}

-- an answer is given exactly where all numbers fit, and else the first that doesn't, with the place of its item;
-- want of memory is free
abbrev pub Judged : {X : Type 0} → List Placed → Result X BoundFault → Type 0
Judged os (Ok x) = first_unfit os ≡ None
Judged os (Err (Range k l)) = first_unfit os ≡ Some (record { item = k; what = l })
Judged os (Err Memory) = Unit {0}
