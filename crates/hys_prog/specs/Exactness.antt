-- What holds of the assignments and the steps of every program that has an order of definition.
use Rattle.std.specs.Prelude.{◌≡◌, ◌↔◌, ℕ, List, None, false, length}
use Rattle.hys_number.specs.Number.{Number}
use Rattle.hys_lin.specs.Sums.{Assignment}
use Rattle.hys_prog.specs.declared.program.Program.{Program}
use Rattle.hys_prog.specs.declared.program.Order.{Order}
use Rattle.hys_prog.specs.Programs.{NameAt}
use Rattle.hys_prog.specs.Steps.{places, is_state, is_input, is_output, Step, Legal}
use Rattle.hys_prog.specs.Stops.{AllFit, Check, IsLawful, IsValued, first_stop, part_numbers, stops}

-- each choice of as many values as there are states and inputs has a valued assignment
abbrev pub HasAssignments : Program → Type 0
HasAssignments p =
    (x u : List Number) → length x ≡ length (places is_state p) → length u ≡ length (places is_input p) →
    (w : Assignment) × IsValued p x u w

-- the assignments agree on all names that aren't outputs
abbrev pub Agree : Program → Assignment → Assignment → Type 0
Agree p v w = (n : ℕ) → NameAt p.names n (λ k. is_output k.role ≡ false) → v n ≡ w n

-- two valued assignments of the same values agree
abbrev pub HasOneAssignment : Program → Type 0
HasOneAssignment p = (x u : List Number) (v w : Assignment) → IsValued p x u v → IsValued p x u w → Agree p v w

-- two steps from the same values have the same next values and outputs
abbrev pub HasOneStep : Program → Type 0
HasOneStep p =
    (x u : List Number) (v w : Assignment) (x1 x2 y1 y2 : List Number) → Step p x u v x1 y1 → Step p x u w x2 y2 →
    (x1 ≡ x2) × (y1 ≡ y2)

-- the numbers that the items give to the states and to the outputs
abbrev pub next_of : Program → Assignment → List Number
next_of p w = part_numbers is_state p w

abbrev pub outputs_of : Program → Assignment → List Number
outputs_of p w = part_numbers is_output p w

-- no check of boxes, gaps and demands fails exactly at a legal step with the numbers that the items give
abbrev pub IsLegalExactly : Program → Order → Type 0
IsLegalExactly p o =
    (x u : List Number) (w : Assignment) → IsValued p x u w →
    IsLawful (stops p o w) ↔ Legal p x u w (next_of p w) (outputs_of p w)

-- the numbers that the items give are those of a step
abbrev pub StepsAsGiven : Program → Type 0
StepsAsGiven p = (x u : List Number) (w : Assignment) → IsValued p x u w → Step p x u w (next_of p w) (outputs_of p w)

-- a legal step has the numbers that its items give, and no check of boxes, gaps and demands fails
abbrev pub PassesWhereLegal : Program → Order → Type 0
PassesWhereLegal p o =
    (x u : List Number) (w : Assignment) (x' y : List Number) → Legal p x u w x' y →
    IsLawful (stops p o w) × (x' ≡ next_of p w) × (y ≡ outputs_of p w)

-- no check fails exactly where those of boxes, gaps and demands pass and all numbers fit
abbrev pub PassesExactly : List Check → Type 0
PassesExactly cs = (first_stop cs ≡ None) ↔ (IsLawful cs × AllFit cs)
