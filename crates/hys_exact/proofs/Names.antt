-- What a function gives for each name that passes a test, and where the names with a column stand.
use Rattle.std.proofs.Common.{◌≡◌, ℕ, zero, suc, ◌+◌, List, [], ◌∷◌, ◌++◌, Bool, true, false, cond, not, ◌&&◌, map, refl, sym, ◌∙◌, ap, ap₂, arith, subst, inl, inr, ◌⊎◌}
use Rattle.std.specs.Prelude.{filter}
use Rattle.hys_ast.specs.declared.source.Kind.{Kind}
use Rattle.hys_ast.specs.declared.source.Kind.TheVariants as source
use Rattle.hys_prog.specs.declared.program.Role.{Role}
use Rattle.hys_prog.specs.declared.program.Role.TheVariants.{State, Input, Output, Parameter, Aux}
use Rattle.hys_prog.specs.declared.program.Name.{Name}
use Rattle.hys_prog.specs.declared.program.Program.{Program}
use Rattle.hys_prog.specs.Programs.{NameAt, IsVariable, has_column}
use Rattle.hys_prog.specs.Steps.{places, places_from, is_state, is_input, is_auxiliary}
use Rattle.hys_prog.specs.Orders.{IsIn}
use Rattle.hys_prog.proofs.Members.{in_left, in_right, in_parts}
use Rattle.hys_prog.proofs.Names.{name_map, at_place, place_of}
use Rattle.hys_exact.specs.Columns.{of_each, own_place, is_boolean, is_boolean_auxiliary, is_real_auxiliary, front, behind}

-- ---- lists of what is given
pub each_map : {X Y : Type 0} (t : Name → Bool) (f : ℕ → Name → X) (g : X → Y) (k : ℕ) (xs : List Name) → map g (of_each t f k xs) ≡ of_each t (λ n x. g (f n x)) k xs
each_map t f g k [] = refl
each_map t f g k (x ∷ xs) = go (t x) (each_map t f g (suc k) xs)
  where
    go : (b : Bool) → map g (of_each t f (suc k) xs) ≡ of_each t (λ n x. g (f n x)) (suc k) xs →
        map g (cond b (f k x ∷ of_each t f (suc k) xs) (of_each t f (suc k) xs)) ≡ cond b (g (f k x) ∷ of_each t (λ n x. g (f n x)) (suc k) xs) (of_each t (λ n x. g (f n x)) (suc k) xs)
    go true e = ap (λ ys. g (f k x) ∷ ys) e
    go false e = e

-- what doesn't depend on places is what is kept of the names
pub each_kept : {X : Type 0} (t : Name → Bool) (f : Name → X) (k : ℕ) (xs : List Name) → of_each t (λ n x. f x) k xs ≡ map f (filter t xs)
each_kept t f k [] = refl
each_kept t f k (x ∷ xs) = go (t x) (each_kept t f (suc k) xs)
  where
    go : (b : Bool) → of_each t (λ n x. f x) (suc k) xs ≡ map f (filter t xs) →
        cond b (f x ∷ of_each t (λ n x. f x) (suc k) xs) (of_each t (λ n x. f x) (suc k) xs) ≡ map f (cond b (x ∷ filter t xs) (filter t xs))
    go true e = ap (λ ys. f x ∷ ys) e
    go false e = e

-- tests that agree
pub each_test : {X : Type 0} (t s : Name → Bool) (f : ℕ → Name → X) (k : ℕ) (xs : List Name) → ((x : Name) → t x ≡ s x) → of_each t f k xs ≡ of_each s f k xs
each_test t s f k [] h = refl
each_test t s f k (x ∷ xs) h = ap₂ (λ b ys. cond b (f k x ∷ ys) ys) (h x) (each_test t s f (suc k) xs h)

pub places_each : (part : Role → Bool) (k : ℕ) (xs : List Name) → places_from k part xs ≡ of_each (λ x. part x.role) own_place k xs
places_each part k [] = refl
places_each part k (x ∷ xs) = ap (λ ys. cond (part x.role) (k ∷ ys) ys) (places_each part (suc k) xs)

-- what is given for the names is what a function on places gives for their places
pub each_places : {X : Type 0} (t : Name → Bool) (f : ℕ → Name → X) (g : ℕ → X) (k : ℕ) (xs : List Name) → ((n j : ℕ) (x : Name) → n ≡ k + j → NameAt xs j (λ y. x ≡ y) → t x ≡ true → f n x ≡ g n) → of_each t f k xs ≡ map g (of_each t own_place k xs)
each_places t f g k [] h = refl
each_places t f g k (x ∷ xs) h = go (t x) refl (each_places t f g (suc k) xs (λ n j y e i. h n (suc j) y (omega arith) i))
  where
    go : (b : Bool) → t x ≡ b → of_each t f (suc k) xs ≡ map g (of_each t own_place (suc k) xs) →
        cond b (f k x ∷ of_each t f (suc k) xs) (of_each t f (suc k) xs) ≡ map g (cond b (k ∷ of_each t own_place (suc k) xs) (of_each t own_place (suc k) xs))
    go true q e = ap₂ ◌∷◌ (h k 0 x (omega arith) refl q) e
    go false q e = e

-- ---- the name at a place
abbrev pub Stands : List Name → ℕ → Name → Type 0
Stands xs n x = NameAt xs n (λ y. x ≡ y)

pub name_at : (P : Name → Type 0) (xs : List Name) (n : ℕ) → NameAt xs n P → (x : Name) × P x × Stands xs n x
name_at P [] n h = absurd h
name_at P (x ∷ xs) zero h = (x, h, refl)
name_at P (x ∷ xs) (suc n) h = name_at P xs n h

pub stands_as : (P : Name → Type 0) (xs : List Name) (n : ℕ) (x : Name) → Stands xs n x → P x → NameAt xs n P
stands_as P xs n x i h = name_map (λ y. x ≡ y) P xs n (λ y e. subst P e h) i

pub stands_has : (P : Name → Type 0) (xs : List Name) (n : ℕ) (x : Name) → Stands xs n x → NameAt xs n P → P x
stands_has P [] n x i h = absurd h
stands_has P (y ∷ xs) zero x i h = subst P (sym i) h
stands_has P (y ∷ xs) (suc n) x i h = stands_has P xs n x i h

-- ---- the places of names that pass a test
pub each_in : (t : Name → Bool) (k j n : ℕ) (x : Name) (xs : List Name) → n ≡ k + j → Stands xs j x → t x ≡ true → IsIn n (of_each t own_place k xs)
each_in t k j n x [] e i h = absurd i
each_in t k zero n x (y ∷ xs) e i h = rw (sym (ap t i) ∙ h) (inl (omega arith))
each_in t k (suc j) n x (y ∷ xs) e i h = go (t y) (each_in t (suc k) j n x xs (omega arith) i h)
  where
    go : (b : Bool) → IsIn n (of_each t own_place (suc k) xs) → IsIn n (cond b (k ∷ of_each t own_place (suc k) xs) (of_each t own_place (suc k) xs))
    go true h = inr h
    go false h = h

pub each_has : (t : Name → Bool) (k n : ℕ) (xs : List Name) → IsIn n (of_each t own_place k xs) → (j : ℕ) × (n ≡ k + j) × NameAt xs j (λ x. t x ≡ true)
each_has t k n [] h = absurd h
each_has t k n (x ∷ xs) h = go (t x) refl h (each_has t (suc k) n xs)
  where
    Found : Type 0
    Found = (j : ℕ) × (n ≡ k + j) × NameAt (x ∷ xs) j (λ x. t x ≡ true)

    later : ((j : ℕ) × (n ≡ suc k + j) × NameAt xs j (λ x. t x ≡ true)) → Found
    later r = let e : n ≡ suc k + r.0 = r.1 in (suc r.0, omega arith, r.2)

    go : (b : Bool) → t x ≡ b → IsIn n (cond b (k ∷ of_each t own_place (suc k) xs) (of_each t own_place (suc k) xs)) → (IsIn n (of_each t own_place (suc k) xs) → (j : ℕ) × (n ≡ suc k + j) × NameAt xs j (λ x. t x ≡ true)) → Found
    go true e (inl q) f = (0, omega arith, e)
    go true e (inr h) f = later (f h)
    go false e h f = later (f h)

pub each_is : (t : Name → Bool) (xs : List Name) (n : ℕ) → IsIn n (of_each t own_place 0 xs) → NameAt xs n (λ x. t x ≡ true)
each_is t xs n i =
    let r : (j : ℕ) × (n ≡ 0 + j) × NameAt xs j (λ x. t x ≡ true) = each_has t 0 n xs i in
    let q : r.0 ≡ n = (let z : n ≡ 0 + r.0 = r.1 in omega arith) in
    subst (λ (j : ℕ). NameAt xs j (λ x. t x ≡ true)) q r.2

pub place_is : (part : Role → Bool) (p : Program) (n : ℕ) → IsIn n (places part p) → NameAt p.names n (λ x. part x.role ≡ true)
place_is part p n i =
    let r : (j : ℕ) × (n ≡ 0 + j) × NameAt p.names j (λ x. part x.role ≡ true) = at_place part 0 n p.names i in
    let q : r.0 ≡ n = (let z : n ≡ 0 + r.0 = r.1 in omega arith) in
    subst (λ (j : ℕ). NameAt p.names j (λ x. part x.role ≡ true)) q r.2

-- ---- names with columns
-- the columns of states, inputs and auxiliaries
abbrev pub HasPlace : Program → ℕ → Type 0
HasPlace p n = IsIn n (front p) ⊎ IsIn n (behind p)

column_place : (p : Program) (n : ℕ) (x : Name) (r : Role) (d : Kind) → x.role ≡ r → x.kind ≡ d → has_column r ≡ true → Stands p.names n x → HasPlace p n
column_place p n x State d e f h i = inl (in_left (places is_state p ++ places is_input p) _ n (in_left (places is_state p) (places is_input p) n (place_of is_state 0 n n p.names (omega arith) (stands_as (λ x. is_state x.role ≡ true) p.names n x i (ap is_state e)))))
column_place p n x Input d e f h i = inl (in_left (places is_state p ++ places is_input p) _ n (in_right (places is_state p) (places is_input p) n (place_of is_input 0 n n p.names (omega arith) (stands_as (λ x. is_input x.role ≡ true) p.names n x i (ap is_input e)))))
column_place p n x Output d e f h i = absurd (cc)
column_place p n x Parameter d e f h i = absurd (cc)
column_place p n x Aux source.Bool e f h i = inl (in_right (places is_state p ++ places is_input p) (of_each is_boolean_auxiliary own_place 0 p.names) n (each_in is_boolean_auxiliary 0 n n x p.names (omega arith) i (ap₂ (λ r d. is_auxiliary r && is_boolean d) e f)))
column_place p n x Aux source.Real e f h i = inr (each_in is_real_auxiliary 0 n n x p.names (omega arith) i (ap₂ (λ r d. is_auxiliary r && not (is_boolean d)) e f))

pub has_place : (p : Program) (n : ℕ) → NameAt p.names n IsVariable → HasPlace p n
has_place p n h = let x : (x : Name) × IsVariable x × Stands p.names n x = name_at IsVariable p.names n h in column_place p n x.0 x.0.role x.0.kind refl refl x.1 x.2

state_variable : (r : Role) → is_state r ≡ true → has_column r ≡ true
state_variable State e = refl
state_variable Input e = absurd (cc)
state_variable Output e = absurd (cc)
state_variable Parameter e = absurd (cc)
state_variable Aux e = absurd (cc)

input_variable : (r : Role) → is_input r ≡ true → has_column r ≡ true
input_variable State e = absurd (cc)
input_variable Input e = refl
input_variable Output e = absurd (cc)
input_variable Parameter e = absurd (cc)
input_variable Aux e = absurd (cc)

auxiliary_variable : (r : Role) (b : Bool) → (is_auxiliary r && b) ≡ true → has_column r ≡ true
auxiliary_variable State b e = absurd (cc)
auxiliary_variable Input b e = absurd (cc)
auxiliary_variable Output b e = absurd (cc)
auxiliary_variable Parameter b e = absurd (cc)
auxiliary_variable Aux b e = refl

pub place_variable : (p : Program) (n : ℕ) → HasPlace p n → NameAt p.names n IsVariable
place_variable p n (inr i) = name_map (λ x. is_real_auxiliary x ≡ true) IsVariable p.names n (λ x e. auxiliary_variable x.role (not (is_boolean x.kind)) e) (each_is is_real_auxiliary p.names n i)
place_variable p n (inl i) = go (in_parts (places is_state p ++ places is_input p) (of_each is_boolean_auxiliary own_place 0 p.names) n i)
  where
    given : IsIn n (places is_state p) ⊎ IsIn n (places is_input p) → NameAt p.names n IsVariable
    given (inl i) = name_map (λ x. is_state x.role ≡ true) IsVariable p.names n (λ x e. state_variable x.role e) (place_is is_state p n i)
    given (inr i) = name_map (λ x. is_input x.role ≡ true) IsVariable p.names n (λ x e. input_variable x.role e) (place_is is_input p n i)

    go : IsIn n (places is_state p ++ places is_input p) ⊎ IsIn n (of_each is_boolean_auxiliary own_place 0 p.names) → NameAt p.names n IsVariable
    go (inl i) = given (in_parts (places is_state p) (places is_input p) n i)
    go (inr i) = name_map (λ x. is_boolean_auxiliary x ≡ true) IsVariable p.names n (λ x e. auxiliary_variable x.role (is_boolean x.kind) e) (each_is is_boolean_auxiliary p.names n i)
