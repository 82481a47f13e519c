-- What is looked for in a JSON value, in order: the fault of a value is that of the first check that fails.
use Rattle.std.specs.Prelude.{◌≡◌, ◌⊎◌, List, [], ◌∷◌, ℕ, Option, Some, None, Bool, map, cond, Result, Ok, Err}
use Rattle.hys_json.specs.declared.fault.ValueFault.{ValueFault}
use Rattle.hys_json.specs.declared.fault.ValueFault.TheVariants.{Shape, Number, Memory}

-- a test, and the fault where it fails
pub record Check : Type 0 where
  pub passes : Bool
  pub fault : ValueFault

abbrev pub shape : Bool → Check
shape b = record { passes = b; fault = Shape [] }

abbrev pub number : Bool → Check
number b = record { passes = b; fault = Number [] }

abbrev pub first_fault : List Check → Option ValueFault
first_fault [] = None
first_fault (c ∷ cs) = cond c.passes (first_fault cs) (Some c.fault)

-- ---- the checks of what stands under a key
abbrev pub deeper : List ℕ → ValueFault → ValueFault
deeper key (Shape path) = Shape (key ∷ path)
deeper key (Number path) = Number (key ∷ path)
deeper key Memory = Memory

abbrev pub deeper_check : List ℕ → Check → Check
deeper_check key c = record { passes = c.passes; fault = deeper key c.fault }

unfoldable pub under : List ℕ → List Check → List Check
under key cs = map (deeper_check key) cs

-- the same answer, with the key before the path of a fault
abbrev pub IsWithin : {T : Type 0} → List ℕ → Result T ValueFault → Result T ValueFault → Type 0
IsWithin key (Ok x) after = after ≡ Ok x
IsWithin key (Err f) after = (after ≡ Err (deeper key f)) ⊎ (after ≡ Err Memory)

-- memory aside, the fault is that of the first check that fails
abbrev pub IsFault : List Check → ValueFault → Type 0
IsFault cs (Shape path) = first_fault cs ≡ Some (Shape path)
IsFault cs (Number path) = first_fault cs ≡ Some (Number path)
IsFault cs Memory = Unit {0}

-- memory aside, the answer is the fault of the first check that fails, or none fails and it is what is said
abbrev pub Judged : {T : Type 0} → List Check → (T → Type 0) → Result T ValueFault → Type 0
Judged cs Is (Ok x) = (first_fault cs ≡ None) × Is x
Judged cs Is (Err f) = IsFault cs f
