-- One step of the automaton of a program. An assignment has a number for each place of a name.
use Rattle.std.specs.Prelude.{◌≡◌, ℕ, suc, List, [], ◌∷◌, Option, Some, None, Bool, true, false, ◌||◌, ◌⊎◌, map, cond, IsTrue}
use Rattle.hys_number.specs.Number.{Number}
use Rattle.hys_number.specs.Ops.{whole, ◌≤ₙ◌, ◌<ₙ◌}
use Rattle.hys_lin.specs.Bits.{bit, IsBit}
use Rattle.hys_lin.specs.Sums.{Assignment, value, Within}
use Rattle.hys_ast.specs.declared.source.Kind.{Kind}
use Rattle.hys_ast.specs.declared.source.Kind.TheVariants as kind
use Rattle.hys_formula.specs.Formulas.{tree_of, truth}
use Rattle.hys_prog.specs.declared.program.Role.{Role}
use Rattle.hys_prog.specs.declared.program.Role.TheVariants.{State, Input, Output, Parameter, Aux}
use Rattle.hys_prog.specs.declared.program.Name.{Name}
use Rattle.hys_prog.specs.declared.program.Body.{Body}
use Rattle.hys_prog.specs.declared.program.Body.TheVariants.{Guard, Choice, Logic, Linear, NextBool, NextReal, OutBool, OutReal, MustHold, MustMost, MustZero}
use Rattle.hys_prog.specs.declared.program.ProgItem.{ProgItem}
use Rattle.hys_prog.specs.declared.program.Program.{Program}
use Rattle.hys_prog.specs.Programs.{EachItem}

-- ---- roles
abbrev pub is_state : Role → Bool
is_state State = true
is_state Input = false
is_state Output = false
is_state Parameter = false
is_state Aux = false

abbrev pub is_input : Role → Bool
is_input State = false
is_input Input = true
is_input Output = false
is_input Parameter = false
is_input Aux = false

abbrev pub is_output : Role → Bool
is_output State = false
is_output Input = false
is_output Output = true
is_output Parameter = false
is_output Aux = false

abbrev pub is_parameter : Role → Bool
is_parameter State = false
is_parameter Input = false
is_parameter Output = false
is_parameter Parameter = true
is_parameter Aux = false

abbrev pub is_auxiliary : Role → Bool
is_auxiliary State = false
is_auxiliary Input = false
is_auxiliary Output = false
is_auxiliary Parameter = false
is_auxiliary Aux = true

-- the places from n on of the names with a role of the part, in order of declaration
abbrev pub places_from : ℕ → (Role → Bool) → List Name → List ℕ
places_from n part [] = []
places_from n part (x ∷ xs) = cond (part x.role) (n ∷ places_from (suc n) part xs) (places_from (suc n) part xs)

abbrev pub places : (Role → Bool) → Program → List ℕ
places part p = places_from 0 part p.names

-- each name has a property with its place
abbrev pub EachNameFrom : ℕ → (ℕ → Name → Type 0) → List Name → Type 0
EachNameFrom n P [] = Unit {0}
EachNameFrom n P (x ∷ xs) = P n x × EachNameFrom (suc n) P xs

-- ---- the case of an item
-- the name is 1 where the guard number is at most 0, else 0
abbrev pub GuardCase : Assignment → ℕ → Number → Type 0
GuardCase w n g = ((g ≤ₙ whole 0) × (w n ≡ whole 1)) ⊎ ((whole 0 <ₙ g) × (w n ≡ whole 0))

-- what a body says of the auxiliary that it defines
abbrev pub Case : Assignment → ℕ → Body → Type 0
Case w n (Guard f e) = GuardCase w n (value f w)
Case w n (Choice l a b) = w n ≡ cond (truth (tree_of l) w) (value a w) (value b w)
Case w n (Logic l) = w n ≡ bit (truth (tree_of l) w)
Case w n (Linear f) = w n ≡ value f w
Case w n (NextBool l) = Unit {0}
Case w n (NextReal f) = Unit {0}
Case w n (OutBool l) = Unit {0}
Case w n (OutReal f) = Unit {0}
Case w n (MustHold l) = Unit {0}
Case w n (MustMost f) = Unit {0}
Case w n (MustZero f) = Unit {0}

-- a property of the name that an item defines, where it defines one
abbrev pub OfName : (ℕ → Type 0) → Option ℕ → Type 0
OfName P (Some n) = P n
OfName P None = Unit {0}

abbrev pub CaseOf : Assignment → ProgItem → Type 0
CaseOf w t = OfName (λ n. Case w n t.body) t.name

-- what a body says of the next value or the output that it defines, which `after` has
abbrev pub Next : Assignment → Assignment → ℕ → Body → Type 0
Next w after n (Guard f e) = Unit {0}
Next w after n (Choice l a b) = Unit {0}
Next w after n (Logic l) = Unit {0}
Next w after n (Linear f) = Unit {0}
Next w after n (NextBool l) = after n ≡ bit (truth (tree_of l) w)
Next w after n (NextReal f) = after n ≡ value f w
Next w after n (OutBool l) = after n ≡ bit (truth (tree_of l) w)
Next w after n (OutReal f) = after n ≡ value f w
Next w after n (MustHold l) = Unit {0}
Next w after n (MustMost f) = Unit {0}
Next w after n (MustZero f) = Unit {0}

abbrev pub NextOf : Assignment → Assignment → ProgItem → Type 0
NextOf w after t = OfName (λ n. Next w after n t.body) t.name

-- ---- a step
-- The assignment w has the parameters' values, x on the states and u on the inputs, and the case of each auxiliary
-- holds of it; x' and y are the next states and the outputs. There is no order of definition in it.
pub record Step (p : Program) (x u : List Number) (w : Assignment) (x' y : List Number) : Type 0 where
  pub parameters : EachNameFrom 0 (λ n k. IsTrue (is_parameter k.role) → w n ≡ k.value) p.names
  pub states : map w (places is_state p) ≡ x
  pub inputs : map w (places is_input p) ≡ u
  pub cases : EachItem (CaseOf w) p.items
  pub after : Assignment
  pub next : EachItem (NextOf w after) p.items
  pub end : map after (places is_state p) ≡ x'
  pub outputs : map after (places is_output p) ≡ y

-- ---- a legal step
-- the guard number is above 0 and below its tolerance
abbrev pub GapAt : Assignment → Body → Type 0
GapAt w (Guard f e) = (whole 0 <ₙ value f w) × (value f w <ₙ e)
GapAt w (Choice l a b) = ⊥
GapAt w (Logic l) = ⊥
GapAt w (Linear f) = ⊥
GapAt w (NextBool l) = ⊥
GapAt w (NextReal f) = ⊥
GapAt w (OutBool l) = ⊥
GapAt w (OutReal f) = ⊥
GapAt w (MustHold l) = ⊥
GapAt w (MustMost f) = ⊥
GapAt w (MustZero f) = ⊥

abbrev pub InGap : Assignment → ProgItem → Type 0
InGap w t = GapAt w t.body

abbrev pub DemandOf : Assignment → Body → Type 0
DemandOf w (Guard f e) = Unit {0}
DemandOf w (Choice l a b) = Unit {0}
DemandOf w (Logic l) = Unit {0}
DemandOf w (Linear f) = Unit {0}
DemandOf w (NextBool l) = Unit {0}
DemandOf w (NextReal f) = Unit {0}
DemandOf w (OutBool l) = Unit {0}
DemandOf w (OutReal f) = Unit {0}
DemandOf w (MustHold l) = IsTrue (truth (tree_of l) w)
DemandOf w (MustMost f) = value f w ≤ₙ whole 0
DemandOf w (MustZero f) = value f w ≡ whole 0

-- the demand of the item holds
abbrev pub Demand : Assignment → ProgItem → Type 0
Demand w t = DemandOf w t.body

-- the number is 0 or 1 where the kind is Boolean
abbrev pub IsOfKind : Kind → Number → Type 0
IsOfKind kind.Real a = Unit {0}
IsOfKind kind.Bool a = IsBit a

-- the number is in the name's box, and is 0 or 1 where the name is Boolean
abbrev pub InBox : Name → Number → Type 0
InBox k a = Within k.bounds a × IsOfKind k.kind a

abbrev pub is_given : Role → Bool
is_given r = is_state r || is_input r

-- States and inputs lie in their boxes, each demand holds, and no guard number is in its gap. The next states may
-- lie outside their boxes.
pub record Legal (p : Program) (x u : List Number) (w : Assignment) (x' y : List Number) : Type 0 where
  pub step : Step p x u w x' y
  pub boxes : EachNameFrom 0 (λ n k. IsTrue (is_given k.role) → InBox k (w n)) p.names
  pub demands : EachItem (Demand w) p.items
  pub no_gap : EachItem (λ t. ¬ (InGap w t)) p.items
