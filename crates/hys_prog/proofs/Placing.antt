-- The places of names and of the items that define them.
use Rattle.std.proofs.Common.{◌≡◌, ℕ, zero, suc, ◌+◌, ◌<◌, List, [], ◌∷◌, Bool, true, false, cond, length, get_or, refl, subst, arith, inl, inr}
use Rattle.std.specs.List.{AllByRecursion}
use Rattle.hys_prog.specs.declared.program.Role.{Role}
use Rattle.hys_prog.specs.declared.program.Role.TheVariants.{State, Input, Output, Parameter, Aux}
use Rattle.hys_prog.specs.declared.program.Name.{Name}
use Rattle.hys_prog.specs.declared.program.ProgItem.{ProgItem}
use Rattle.hys_prog.specs.declared.program.Program.{Program}
use Rattle.hys_prog.specs.declared.program.Order.{Order}
use Rattle.hys_prog.specs.Programs.{IsProgram, NameAt, definitions, is_named, is_defined}
use Rattle.hys_prog.specs.Steps.{places, is_auxiliary, is_state, is_output}
use Rattle.hys_prog.specs.Orders.{IsIn, IsReady, IsOrderAfter, IsOrder}
use Rattle.hys_prog.specs.Places.{ItemAt, Defines, ArePlaces}
use Rattle.hys_prog.specs.Walk.{IsFirstAt, IsPlaced}
use Rattle.hys_prog.proofs.Defined.{name_below}
pub use Rattle.hys_prog.proofs.Names.{name_map, named_some, at_count, at_place, aux_defined}
use Rattle.hys_prog.proofs.Members.{all_of, first_in}

-- ---- the one item that defines a name
pub first_at : (n : ℕ) (ts : List ProgItem) (k : ℕ) → definitions n ts ≡ 1 → ItemAt ts k (Defines n) → IsFirstAt ts k n
first_at n [] k d h = h
first_at n (t ∷ ts) zero d h = named_some n t.name h
first_at n (t ∷ ts) (suc k) d h = go (is_named n t.name) refl d (at_count n ts k h) (λ e. first_at n ts k e h)
  where
    go : (b : Bool) → is_named n t.name ≡ b → cond b 1 0 + definitions n ts ≡ 1 → 0 < definitions n ts → (definitions n ts ≡ 1 → IsFirstAt ts k n) → (is_named n t.name ≡ false) × IsFirstAt ts k n
    go true q d l f = absurd (omega arith)
    go false q d l f = (q, f (omega arith))

pub placed : (p : Program) (ps : List ℕ) (n : ℕ) → IsProgram p → ArePlaces p ps → length ps ≡ length p.names → NameAt p.names n (λ x. is_defined x.role ≡ true) → IsPlaced p.items ps n
placed p ps n h a l d =
    let b = name_below (λ (x : Name). is_defined x.role ≡ true) p.names n d in
    record { within = omega arith; first = first_at n p.items (get_or ps n 0) (h.once n d) (a n d) }

-- ---- the places of the names of a role
pub in_part : (part : Role → Bool) (p : Program) (n : ℕ) → IsIn n (places part p) → NameAt p.names n (λ x. part x.role ≡ true)
in_part part p n i =
    let r = at_place part 0 n p.names i in
    let q : r.0 ≡ n = (let z : n ≡ 0 + r.0 = r.1 in omega arith) in
    subst (λ (i : ℕ). NameAt p.names i (λ x. part x.role ≡ true)) q r.2

pub state_defined : (r : Role) → is_state r ≡ true → is_defined r ≡ true
state_defined State e = refl
state_defined Input e = absurd (cc)
state_defined Output e = absurd (cc)
state_defined Parameter e = absurd (cc)
state_defined Aux e = absurd (cc)

pub output_defined : (r : Role) → is_output r ≡ true → is_defined r ≡ true
output_defined State e = absurd (cc)
output_defined Input e = absurd (cc)
output_defined Output e = refl
output_defined Parameter e = absurd (cc)
output_defined Aux e = absurd (cc)

pub part_placed : (part : Role → Bool) (p : Program) (ps : List ℕ) → ((r : Role) → part r ≡ true → is_defined r ≡ true) → IsProgram p → ArePlaces p ps → length ps ≡ length p.names → AllByRecursion (IsPlaced p.items ps) (places part p)
part_placed part p ps d h a l = all_of (IsPlaced p.items ps) (places part p) (λ n i. placed p ps n h a l (name_map (λ (x : Name). part x.role ≡ true) (λ (x : Name). is_defined x.role ≡ true) p.names n (λ x e. d x.role e) (in_part part p n i)))

pub states_placed : (p : Program) (ps : List ℕ) → IsProgram p → ArePlaces p ps → length ps ≡ length p.names → AllByRecursion (IsPlaced p.items ps) (places is_state p)
states_placed p ps h a l = part_placed is_state p ps state_defined h a l

pub outputs_placed : (p : Program) (ps : List ℕ) → IsProgram p → ArePlaces p ps → length ps ≡ length p.names → AllByRecursion (IsPlaced p.items ps) (places is_output p)
outputs_placed p ps h a l = part_placed is_output p ps output_defined h a l

-- ---- the names of an order
pub order_auxiliary : (p : Program) (taken ns : List ℕ) (n : ℕ) → IsOrderAfter p taken ns → IsIn n ns → NameAt p.names n (λ x. is_auxiliary x.role ≡ true)
order_auxiliary p taken [] n h i = absurd i
order_auxiliary p taken (m ∷ ns) n h (inl e) = subst (λ (i : ℕ). NameAt p.names i (λ x. is_auxiliary x.role ≡ true)) e (in_part is_auxiliary p m (first_in (IsReady p taken) (places is_auxiliary p) m h.0))
order_auxiliary p taken (m ∷ ns) n h (inr i) = order_auxiliary p (m ∷ taken) ns n h.1 i

pub order_placed : (p : Program) (o : Order) (ps : List ℕ) → IsProgram p → IsOrder p o → ArePlaces p ps → length ps ≡ length p.names → AllByRecursion (IsPlaced p.items ps) o.names
order_placed p o ps h q a l = all_of (IsPlaced p.items ps) o.names (λ n i. placed p ps n h a l (name_map (λ (x : Name). is_auxiliary x.role ≡ true) (λ (x : Name). is_defined x.role ≡ true) p.names n (λ x e. aux_defined x.role e) (order_auxiliary p [] o.names n q i)))
