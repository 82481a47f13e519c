-- States and inputs: their places, their boxes, and their numbers by texts.
use Rattle.std.proofs.Common.{◌≡◌, ℕ, zero, suc, ◌+◌, List, [], ◌∷◌, ◌++◌, Bool, true, false, cond, ◌||◌, length, map, refl, sym, ◌∙◌, ap, arith, subst, IsTrue}
use Rattle.std.specs.Prelude.{filter}
use Rattle.hys_number.specs.Number.{Number}
use Rattle.hys_lin.specs.Sums.{Assignment}
use Rattle.hys_ast.specs.declared.source.Kind.{Kind}
use Rattle.hys_ast.specs.declared.source.Kind.TheVariants as source
use Rattle.hys_prog.specs.declared.program.Role.{Role}
use Rattle.hys_prog.specs.declared.program.Role.TheVariants.{State, Input, Output, Parameter, Aux}
use Rattle.hys_prog.specs.declared.program.Name.{Name}
use Rattle.hys_prog.specs.declared.program.Program.{Program}
use Rattle.hys_prog.specs.Programs.{NameAt, IsVariable, has_column}
use Rattle.hys_prog.specs.Steps.{IsOfKind, InBox, EachNameFrom, places, places_from, is_state, is_input, is_given}
use Rattle.hys_prog.specs.Orders.{IsIn}
use Rattle.hys_prog.proofs.Members.{in_left, in_right}
use Rattle.hys_prog.proofs.Names.{place_of}
use Rattle.hys_prog.proofs.Assigning.{is_fixed}
use Rattle.hys_sys.specs.Solution.{IsOfKind as IsOfColumnKind}
use Rattle.hys_sys.specs.Exact.{AreIn, Boxed, Named, Variable, values}
use Rattle.hys_exact.specs.Automata.{kind_of, boxed_of, variable_of, by_places}
use Rattle.hys_exact.specs.Columns.{of_each, own_place}
use Rattle.hys_exact.proofs.Names.{Stands, name_at, stands_as, stands_has, each_map, each_places, each_kept, places_each}
use Rattle.hys_exact.proofs.Texts.{by_place}

-- ---- kinds
pub from_kind : (d : Kind) (a : Number) → IsOfColumnKind (kind_of d) a → IsOfKind d a
from_kind source.Real a h = tt
from_kind source.Bool a h = h

pub to_kind : (d : Kind) (a : Number) → IsOfKind d a → IsOfColumnKind (kind_of d) a
to_kind source.Real a h = tt
to_kind source.Bool a h = h

-- ---- boxes
pub are_in_long : (ds : List Boxed) (xs : List Number) → AreIn ds xs → length xs ≡ length ds
are_in_long [] [] h = refl
are_in_long [] (a ∷ xs) h = absurd h
are_in_long (d ∷ ds) [] h = absurd h
are_in_long (d ∷ ds) (a ∷ xs) h = ap suc (are_in_long ds xs h.1)

pub places_long : (part : Role → Bool) (k : ℕ) (xs : List Name) → length (map boxed_of (filter (λ x. part x.role) xs)) ≡ length (places_from k part xs)
places_long part k [] = refl
places_long part k (x ∷ xs) = go (part x.role) (places_long part (suc k) xs)
  where
    go : (b : Bool) → length (map boxed_of (filter (λ x. part x.role) xs)) ≡ length (places_from (suc k) part xs) →
        length (map boxed_of (cond b (x ∷ filter (λ x. part x.role) xs) (filter (λ x. part x.role) xs))) ≡ length (cond b (k ∷ places_from (suc k) part xs) (places_from (suc k) part xs))
    go true e = ap suc e
    go false e = e

-- the numbers that an assignment has for the names of a part are in their boxes
abbrev PartIn : (Role → Bool) → Assignment → ℕ → List Name → Type 0
PartIn part w k xs = AreIn (map boxed_of (filter (λ x. part x.role) xs)) (map w (places_from k part xs))

part_here : (w : Assignment) (k : ℕ) (x : Name) (ds : List Name) (ns : List ℕ) (b : Bool) → AreIn (map boxed_of (cond b (x ∷ ds) ds)) (map w (cond b (k ∷ ns) ns)) → (b ≡ true → InBox x (w k)) × AreIn (map boxed_of ds) (map w ns)
part_here w k x ds ns true h = (λ e. (h.0.0, from_kind x.kind (w k) h.0.1), h.1)
part_here w k x ds ns false h = (λ e. absurd (cc), h)

either_box : (s i : Bool) (X : Type 0) → (s ≡ true → X) → (i ≡ true → X) → IsTrue (s || i) → X
either_box true i X f g h = f refl
either_box false i X f g h = g h

pub given_boxes : (w : Assignment) (k : ℕ) (xs : List Name) → PartIn is_state w k xs → PartIn is_input w k xs → EachNameFrom k (λ n x. IsTrue (is_given x.role) → InBox x (w n)) xs
given_boxes w k [] s i = tt
given_boxes w k (x ∷ xs) s i =
    let a : (is_state x.role ≡ true → InBox x (w k)) × PartIn is_state w (suc k) xs = part_here w k x (filter (λ x. is_state x.role) xs) (places_from (suc k) is_state xs) (is_state x.role) s in
    let b : (is_input x.role ≡ true → InBox x (w k)) × PartIn is_input w (suc k) xs = part_here w k x (filter (λ x. is_input x.role) xs) (places_from (suc k) is_input xs) (is_input x.role) i in
    (either_box (is_state x.role) (is_input x.role) (InBox x (w k)) a.0 b.0, given_boxes w (suc k) xs a.1 b.1)

-- ---- each name, by its place
pub each_name : (P : ℕ → Name → Type 0) (k n j : ℕ) (xs : List Name) (x : Name) → EachNameFrom k P xs → n ≡ k + j → Stands xs j x → P n x
each_name P k n j [] x h e s = absurd s
each_name P k n zero (y ∷ xs) x h e s = let q : k ≡ n = omega arith in subst (λ (m : ℕ). P m x) q (subst (λ (z : Name). P k z) (sym s) h.0)
each_name P k n (suc j) (y ∷ xs) x h e s = each_name P (suc k) n j xs x h.1 (omega arith) s

-- ---- places
given_role : (p : Program) (n : ℕ) (x : Name) (r : Role) → x.role ≡ r → has_column r ≡ true → is_fixed r ≡ true → Stands p.names n x → IsIn n (places is_state p ++ places is_input p)
given_role p n x State e c f s = in_left (places is_state p) (places is_input p) n (place_of is_state 0 n n p.names (omega arith) (stands_as (λ x. is_state x.role ≡ true) p.names n x s (ap is_state e)))
given_role p n x Input e c f s = in_right (places is_state p) (places is_input p) n (place_of is_input 0 n n p.names (omega arith) (stands_as (λ x. is_input x.role ≡ true) p.names n x s (ap is_input e)))
given_role p n x Output e c f s = absurd (cc)
given_role p n x Parameter e c f s = absurd (cc)
given_role p n x Aux e c f s = absurd (cc)

pub given_place : (p : Program) (n : ℕ) → NameAt p.names n IsVariable → NameAt p.names n (λ x. is_fixed x.role ≡ true) → IsIn n (places is_state p ++ places is_input p)
given_place p n h f =
    let x : (x : Name) × IsVariable x × Stands p.names n x = name_at IsVariable p.names n h in
    given_role p n x.0 x.0.role refl x.1 (stands_has (λ x. is_fixed x.role ≡ true) p.names n x.0 x.2 f) x.2

-- ---- numbers by texts
pub values_each : (xs : List Name) (t : Name → Bool) (w : Named) → map (by_places xs w) (of_each t own_place 0 xs) ≡ values w (of_each t (λ n x. variable_of x) 0 xs)
values_each xs t w =
    sym (each_places t (λ n x. w x.text) (by_places xs w) 0 xs (λ n j x e s h. sym (by_place xs w n x (subst (λ (i : ℕ). Stands xs i x) (omega arith) s))))
    ∙ sym (each_map t (λ n x. variable_of x) (λ (a : Variable). w a.name) 0 xs)

pub values_part : (p : Program) (part : Role → Bool) (w : Named) → map (by_places p.names w) (places part p) ≡ values w (map variable_of (filter (λ x. part x.role) p.names))
values_part p part w =
    ap (map (by_places p.names w)) (places_each part 0 p.names)
    ∙ values_each p.names (λ x. part x.role) w
    ∙ ap (values w) (each_kept (λ x. part x.role) variable_of 0 p.names)
