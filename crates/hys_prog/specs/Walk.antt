-- The exact values of a program's names, found along an order of definition.
use Rattle.std.specs.Prelude.{◌≡◌, ℕ, zero, suc, ◌<◌, List, [], ◌∷◌, ◌++◌, Bool, true, false, cond, length, map}
use Rattle.std.specs.List.{AllByRecursion}
use Rattle.std.proofs.Common.{get_or, set}
use Rattle.hys_number.specs.Number.{Number}
use Rattle.hys_number.specs.Ops.{whole}
use Rattle.hys_lin.specs.Sums.{Assignment, at}
use Rattle.hys_prog.specs.declared.program.Role.{Role}
use Rattle.hys_prog.specs.declared.program.Role.TheVariants.{State, Input, Output, Parameter, Aux}
use Rattle.hys_prog.specs.declared.program.Name.{Name}
use Rattle.hys_prog.specs.declared.program.ProgItem.{ProgItem}
use Rattle.hys_prog.specs.declared.program.Program.{Program}
use Rattle.hys_prog.specs.declared.program.Order.{Order}
use Rattle.hys_prog.specs.declared.stop.Stepped.{Stepped}
use Rattle.hys_prog.specs.Programs.{is_named}
use Rattle.hys_prog.specs.Steps.{places, is_state, is_input, is_output, is_parameter, is_auxiliary}
use Rattle.hys_prog.specs.Stops.{Check, boxes_from, checks_of, checks_along, demands_from, number_in, numbers_in}

-- whether a role is that of the part
abbrev pub is_role : Role → Role → Bool
is_role State = is_state
is_role Input = is_input
is_role Output = is_output
is_role Parameter = is_parameter
is_role Aux = is_auxiliary

abbrev pub advanced : ℕ → Bool → ℕ
advanced n b = cond b (suc n) n

-- the value of a name at first: that of a parameter, the next given one of a state or an input, and 0 until it is
-- found
abbrev pub first_value : Role → Name → Number → Number → Number
first_value State k a b = a
first_value Input k a b = b
first_value Output k a b = whole 0
first_value Parameter k a b = k.value
first_value Aux k a b = whole 0

-- the values of the names at first, where i states and j inputs are given before them
abbrev pub started_from : List Name → ℕ → ℕ → List Number → List Number → List Number
started_from [] i j x u = []
started_from (k ∷ ks) i j x u =
    first_value k.role k (at x i) (at u j) ∷
    started_from ks (advanced i (is_state k.role)) (advanced j (is_input k.role)) x u

abbrev pub started : List Name → List Number → List Number → List Number
started names x u = started_from names 0 0 x u

-- ---- definitions
-- the item at the place is the first that defines the name
abbrev pub IsFirstAt : List ProgItem → ℕ → ℕ → Type 0
IsFirstAt [] k n = ⊥
IsFirstAt (t ∷ ts) zero n = is_named n t.name ≡ true
IsFirstAt (t ∷ ts) (suc k) n = (is_named n t.name ≡ false) × IsFirstAt ts k n

-- the list has the place of the first item that defines the name
pub record IsPlaced (items : List ProgItem) (places : List ℕ) (n : ℕ) : Type 0 where
  pub within : n < length places
  pub first : IsFirstAt items (get_or places n 0) n

-- so of each name with a role of the part
abbrev pub ArePlaced : (Role → Bool) → Program → List ℕ → Type 0
ArePlaced part p ks = AllByRecursion (IsPlaced p.items ks) (places part p)

-- the values, of which that of one auxiliary is found more
abbrev pub with_found : List ProgItem → ℕ → List Number → List Number
with_found items n vs = set vs n (number_in (at vs) n items)

abbrev pub found : List ProgItem → List ℕ → List Number → List Number
found items [] vs = vs
found items (n ∷ ns) vs = found items ns (with_found items n vs)

-- the checks of the definitions, each over the values that are found before it
abbrev pub found_checks : List ProgItem → List ℕ → List Number → List Check
found_checks items [] vs = []
found_checks items (n ∷ ns) vs = checks_of (at vs) n 0 items ++ found_checks items ns (with_found items n vs)

-- the values of the names
abbrev pub exact : Program → Order → List Number → List Number → List Number
exact p o x u = found p.items o.names (started p.names x u)

abbrev pub given_checks : List Name → List Number → List Check
given_checks names vs = boxes_from 0 is_state (at vs) names ++ boxes_from 0 is_input (at vs) names

abbrev pub after_checks : Program → List Number → List Check
after_checks p vs =
    demands_from 0 (at vs) p.items ++
    (checks_along (at vs) p.items (places is_state p) ++ checks_along (at vs) p.items (places is_output p))

abbrev pub walk_checks : Program → Order → List Number → List Number → List Check
walk_checks p o x u =
    given_checks p.names (started p.names x u) ++
    (found_checks p.items o.names (started p.names x u) ++ after_checks p (exact p o x u))

-- what a step gives over the values of the names: the auxiliaries', and what the items give to states and outputs
pub record Gives (p : Program) (w : Assignment) (r : Stepped) : Type 0 where
  pub aux : r.aux ≡ map w (places is_auxiliary p)
  pub outputs : r.outputs ≡ numbers_in w p.items (places is_output p)
  pub next : r.next ≡ numbers_in w p.items (places is_state p)
