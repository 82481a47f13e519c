-- The numbers that names take for states and inputs within bounds, and intervals that hold them.
use Rattle.std.specs.Prelude.{◌≡◌, List, Bool, true, false, IsTrue}
use Rattle.hys_number.specs.Number.{Number}
use Rattle.hys_lin.specs.declared.form.Interval.{Interval}
use Rattle.hys_lin.specs.Sums.{Assignment, Within}
use Rattle.hys_lin.specs.Ranges.{box_at}
use Rattle.hys_prog.specs.declared.program.Role.{Role}
use Rattle.hys_prog.specs.declared.program.Role.TheVariants.{State, Input, Output, Parameter, Aux}
use Rattle.hys_prog.specs.declared.program.Program.{Program}
use Rattle.hys_prog.specs.Programs.{EachItem}
use Rattle.hys_prog.specs.Steps.{EachNameFrom, InBox, CaseOf, Legal, is_given, is_parameter}

-- The parameters have their values, states and inputs lie in their boxes, Boolean ones at 0 or 1, and the case of
-- each auxiliary holds. Demands may fail, and guard numbers may be in their gaps.
pub record TakesValues (p : Program) (w : Assignment) : Type 0 where
  pub parameters : EachNameFrom 0 (λ n k. IsTrue (is_parameter k.role) → w n ≡ k.value) p.names
  pub boxes : EachNameFrom 0 (λ n k. IsTrue (is_given k.role) → InBox k (w n)) p.names
  pub cases : EachItem (CaseOf w) p.items

-- a state, an input, a parameter or an auxiliary, all of which an assignment gives a number
abbrev pub has_value : Role → Bool
has_value State = true
has_value Input = true
has_value Output = false
has_value Parameter = true
has_value Aux = true

-- the interval of each such name holds every number that the name takes
abbrev pub HoldsValues : Program → List Interval → Type 0
HoldsValues p boxes = (w : Assignment) → TakesValues p w →
    EachNameFrom 0 (λ n k. IsTrue (has_value k.role) → Within (box_at boxes n) (w n)) p.names

-- the names take the numbers of each legal step
abbrev pub TakesLegalValues : Program → Type 0
TakesLegalValues p = (x u : List Number) (w : Assignment) (x' y : List Number) → Legal p x u w x' y → TakesValues p w
