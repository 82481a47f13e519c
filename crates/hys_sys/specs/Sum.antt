-- A worked example: one state x within 0 and 10, one input u within -1 and 1, and the next state x + u.
use Rattle.std.specs.Prelude.{◌≡◌, List, [], ◌∷◌, negsuc, codes}
use Rattle.hys_number.specs.Number.{Number}
use Rattle.hys_number.specs.Ops.{◌+ₙ◌, whole, int}
use Rattle.hys_sys.specs.declared.system.ColumnRole.TheVariants.{State, Input}
use Rattle.hys_sys.specs.declared.system.Kind2.TheVariants.{Real}
use Rattle.hys_sys.specs.declared.system.System.{System}
use Rattle.hys_sys.specs.Exact.{Automaton, Named, AreIn}

abbrev pub sum_automaton : Automaton
sum_automaton = record {
  name = codes "sum";
  states = record { name = codes "x"; kind = Real; box = record { low = whole 0; high = whole 10 } } ∷ [];
  inputs = record { name = codes "u"; kind = Real; box = record { low = int (negsuc 0); high = whole 1 } } ∷ [];
  auxiliaries = [];
  outputs = [];
}

-- no row, since the boxes aren't rows
abbrev pub sum_system : System
sum_system = record {
  name = codes "sum";
  columns = record { name = codes "x"; role = State; kind = Real; bounds = record { low = whole 0; high = whole 10 } }
      ∷ record { name = codes "u"; role = Input; kind = Real; bounds = record { low = int (negsuc 0); high = whole 1 } } ∷ [];
  next = record { terms = record { column = 0; factor = whole 1 } ∷ record { column = 1; factor = whole 1 } ∷ []; constant = whole 0 } ∷ [];
  outputs = [];
  rows = [];
  labels = [];
  weight = 5;
}

-- the next state is the sum of a state and an input in their boxes
pub record SumStep (x u : List Number) (w : Named) (x' y : List Number) : Type 0 where
  pub state : Number
  pub input : Number
  pub x_is : x ≡ state ∷ []
  pub u_is : u ≡ input ∷ []
  pub states : AreIn sum_automaton.states x
  pub inputs : AreIn sum_automaton.inputs u
  pub next : x' ≡ (state +ₙ input) ∷ []
  pub outputs : y ≡ []
