-- What a call for an order answers.
use Rattle.std.specs.Prelude.{ℕ, ◌≤◌, List, [], ◌∷◌, Result, Ok, Err}
use Rattle.std.specs.List.{AllByRecursion}
use Rattle.hys_prog.specs.declared.program.Program.{Program}
use Rattle.hys_prog.specs.declared.program.Order.{Order}
use Rattle.hys_prog.specs.Orders.{IsOrder, Circular}
use Rattle.hys_order.specs.declared.fault.OrderFault.{OrderFault}
use Rattle.hys_order.specs.declared.fault.OrderFault.TheVariants.{Cycle, Memory}

-- the list begins with the name of it that was declared first
abbrev pub BeginsWithLeast : List ℕ → Type 0
BeginsWithLeast [] = ⊥
BeginsWithLeast (n ∷ ns) = AllByRecursion (λ m. n ≤ m) ns

-- an order is answered where no list is circular, and else a circular list that begins with its name declared
-- first; want of memory is free
abbrev pub Ordered : Program → Result Order OrderFault → Type 0
Ordered p (Ok o) = IsOrder p o × ((ns : List ℕ) → ¬ (Circular p ns))
Ordered p (Err (Cycle ns)) = Circular p ns × BeginsWithLeast ns
Ordered p (Err Memory) = Unit {0}
