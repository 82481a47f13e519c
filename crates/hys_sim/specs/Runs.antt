-- Runs of a program: legal steps, each from the state that the one before it reached, and what comes after them.
use Rattle.std.specs.Prelude.{◌≡◌, List, [], ◌∷◌, Option, Some, None}
use Rattle.hys_number.specs.Number.{Number}
use Rattle.hys_lin.specs.Sums.{Assignment}
use Rattle.hys_prog.specs.declared.program.Program.{Program}
use Rattle.hys_prog.specs.declared.program.Order.{Order}
use Rattle.hys_prog.specs.declared.stop.Stop.{Stop}
use Rattle.hys_prog.specs.declared.stop.Stepped.{Stepped}
use Rattle.hys_prog.specs.Stops.{IsStepped, IsValued, first_stop, stops}
use Rattle.hys_prog.specs.Fitting.{FittingStep}

-- a step of a run: the state and the inputs before it, and what it gives
pub record Transition : Type 0 where
  pub state : List Number
  pub input : List Number
  pub stepped : Stepped

-- it is the legal step from these values, and all of its partial values fit
pub record IsTransition (p : Program) (x u : List Number) (t : Transition) : Type 0 where
  pub state : t.state ≡ x
  pub input : t.input ≡ u
  pub legal : IsStepped p x u t.stepped
  pub fitting : FittingStep p x u

-- the transitions lead from a state through the front of the inputs to another state, and the rest of the inputs is
-- left
abbrev pub Leads :
    Program → List Number → List (List Number) → List Transition → List Number → List (List Number) → Type 0
Leads p x us [] y rest = (x ≡ y) × (us ≡ rest)
Leads p x [] (t ∷ ts) y rest = ⊥
Leads p x (u ∷ us) (t ∷ ts) y rest = IsTransition p x u t × Leads p t.stepped.next us ts y rest

-- there is no legal step from these values whose partial values fit, and this is the first stop
pub record IsStopped (p : Program) (o : Order) (x u : List Number) (stop : Option Stop) : Type 0 where
  pub none : ¬ (FittingStep p x u)
  pub some : (s : Stop) × (stop ≡ Some s)
  pub first : (w : Assignment) → IsValued p x u w → first_stop (stops p o w) ≡ stop

-- what comes after the transitions: nothing at the end of the inputs, and else a stop
abbrev pub StopsAt : Program → Order → List Number → List (List Number) → Option Stop → Type 0
StopsAt p o y [] stop = stop ≡ None
StopsAt p o y (u ∷ us) stop = IsStopped p o y u stop

-- The run from x through the inputs: it goes on up to the first step that isn't legal or has a partial value that
-- doesn't fit, or to the end of the inputs.
pub record IsRun (p : Program) (o : Order) (x : List Number) (us : List (List Number)) (ts : List Transition)
    (stop : Option Stop) : Type 0 where
  pub reached : List Number
  pub rest : List (List Number)
  pub leads : Leads p x us ts reached rest
  pub stops : StopsAt p o reached rest stop
