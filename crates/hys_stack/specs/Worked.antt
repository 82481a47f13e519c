-- A worked system: a state x within 0 and 10, two Boolean inputs a and b, the demand that 3a + 2b is at most 4, and
-- the next state x + 3a + 2b. The request takes one step from 0, and wants the last state to be as great as can be.
use Rattle.std.specs.Prelude.{[], ◌∷◌, false, codes}
use Rattle.hys_number.specs.Ops.{whole, neg}
use Rattle.hys_relax.specs.Node.{unit_box}
use Rattle.hys_relax.specs.Worked.{term}
use Rattle.hys_sys.specs.declared.system.ColumnRole.TheVariants.{State, Input}
use Rattle.hys_sys.specs.declared.system.Kind2.TheVariants.{Real}
use Rattle.hys_sys.specs.declared.system.Kind2.TheVariants as kind
use Rattle.hys_sys.specs.declared.system.System.{System}
use Rattle.hys_stack.specs.declared.request.Pick.TheVariants.{Bound}
use Rattle.hys_stack.specs.declared.request.Request.{Request}

abbrev pub worked_system : System
worked_system = record {
  name = codes "b";
  columns = record { name = codes "x"; role = State; kind = Real; bounds = record { low = whole 0; high = whole 10 } }
      ∷ record { name = codes "a"; role = Input; kind = kind.Bool; bounds = unit_box }
      ∷ record { name = codes "b"; role = Input; kind = kind.Bool; bounds = unit_box } ∷ [];
  next = record { terms = term 0 (whole 1) ∷ term 1 (whole 3) ∷ term 2 (whole 2) ∷ []; constant = whole 0 } ∷ [];
  outputs = [];
  rows = record { terms = term 1 (whole 3) ∷ term 2 (whole 2) ∷ []; bound = whole 4; eq = false } ∷ [];
  labels = codes "must" ∷ [];
  weight = 4;
}

abbrev pub worked_request : Request
worked_request = record {
  horizon = 1;
  start = whole 0 ∷ [];
  step_cost = whole 0 ∷ whole 0 ∷ whole 0 ∷ [];
  output_cost = [];
  final_cost = neg (whole 1) ∷ [];
  nodes = 7;
  pick = Bound;
}
