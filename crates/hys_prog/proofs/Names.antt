-- Names by their places and roles, and the item that defines a name.
use Rattle.std.proofs.Common.{◌≡◌, ℕ, zero, suc, ◌+◌, ◌<◌, List, [], ◌∷◌, Option, Some, None, Bool, true, false, cond, length, refl, subst, arith, inl, inr, eq-eqb}
use Rattle.hys_prog.specs.declared.program.Name.{Name}
use Rattle.hys_prog.specs.declared.program.Role.{Role}
use Rattle.hys_prog.specs.declared.program.Role.TheVariants.{State, Input, Output, Parameter, Aux}
use Rattle.hys_prog.specs.declared.program.ProgItem.{ProgItem}
use Rattle.hys_prog.specs.declared.program.Program.{Program}
use Rattle.hys_prog.specs.Programs.{NameAt, definitions, is_named, is_defined}
use Rattle.hys_prog.specs.Steps.{places, places_from, is_auxiliary}
use Rattle.hys_prog.specs.Orders.{IsIn}
use Rattle.hys_prog.specs.Places.{ItemAt, Defines}

-- ---- names
pub name_map : (P Q : Name → Type 0) (xs : List Name) (n : ℕ) → ((x : Name) → P x → Q x) → NameAt xs n P → NameAt xs n Q
name_map P Q [] n f h = absurd h
name_map P Q (x ∷ xs) zero f h = f x h
name_map P Q (x ∷ xs) (suc n) f h = name_map P Q xs n f h

pub name_both : (P Q : Name → Type 0) (xs : List Name) (n : ℕ) → NameAt xs n P → NameAt xs n Q → NameAt xs n (λ x. P x × Q x)
name_both P Q [] n h k = absurd h
name_both P Q (x ∷ xs) zero h k = (h, k)
name_both P Q (x ∷ xs) (suc n) h k = name_both P Q xs n h k

pub name_never : (P : Name → Type 0) (xs : List Name) (n : ℕ) → ((x : Name) → ¬ (P x)) → NameAt xs n P → ⊥
name_never P [] n f h = h
name_never P (x ∷ xs) zero f h = f x h
name_never P (x ∷ xs) (suc n) f h = name_never P xs n f h

abbrev pub IsAuxiliary : Name → Type 0
IsAuxiliary x = is_auxiliary x.role ≡ true

pub aux_defined : (r : Role) → is_auxiliary r ≡ true → is_defined r ≡ true
aux_defined State e = absurd (cc)
aux_defined Input e = absurd (cc)
aux_defined Output e = absurd (cc)
aux_defined Parameter e = absurd (cc)
aux_defined Aux e = refl

-- a name among the places from k on stands in the list
pub at_place : (part : Role → Bool) (k n : ℕ) (xs : List Name) → IsIn n (places_from k part xs) → (i : ℕ) × (n ≡ k + i) × NameAt xs i (λ x. part x.role ≡ true)
at_place part k n [] h = absurd h
at_place part k n (x ∷ xs) h = go (part x.role) refl h (λ h. at_place part (suc k) n xs h)
  where
    Found : Type 0
    Found = (i : ℕ) × (n ≡ k + i) × NameAt (x ∷ xs) i (λ x. part x.role ≡ true)

    later : ((i : ℕ) × (n ≡ suc k + i) × NameAt xs i (λ x. part x.role ≡ true)) → Found
    later r = let e : n ≡ suc k + r.0 = r.1 in (suc r.0, omega arith, r.2)

    go : (b : Bool) → part x.role ≡ b → IsIn n (cond b (k ∷ places_from (suc k) part xs) (places_from (suc k) part xs)) → (IsIn n (places_from (suc k) part xs) → (i : ℕ) × (n ≡ suc k + i) × NameAt xs i (λ x. part x.role ≡ true)) → Found
    go true e (inl q) f = (0, omega arith, e)
    go true e (inr h) f = later (f h)
    go false e h f = later (f h)

-- a name of the list is one of the places from k on
pub place_of : (part : Role → Bool) (k i n : ℕ) (xs : List Name) → n ≡ k + i → NameAt xs i (λ x. part x.role ≡ true) → IsIn n (places_from k part xs)
place_of part k i n [] e h = absurd h
place_of part k zero n (x ∷ xs) e h = rw h (inl (omega arith))
place_of part k (suc i) n (x ∷ xs) e h = go (part x.role) (place_of part (suc k) i n xs (omega arith) h)
  where
    go : (b : Bool) → IsIn n (places_from (suc k) part xs) → IsIn n (cond b (k ∷ places_from (suc k) part xs) (places_from (suc k) part xs))
    go true i = inr i
    go false i = i

-- an auxiliary is the name at its place
pub aux_at : (p : Program) (n : ℕ) → IsIn n (places is_auxiliary p) → NameAt p.names n IsAuxiliary
aux_at p n i =
    let r = at_place is_auxiliary 0 n p.names i in
    let q : r.0 ≡ n = (let z : n ≡ 0 + r.0 = r.1 in omega arith) in
    subst (λ (i : ℕ). NameAt p.names i IsAuxiliary) q r.2

-- and is defined
pub aux_named : (p : Program) (n : ℕ) → IsIn n (places is_auxiliary p) → NameAt p.names n (λ x. is_defined x.role ≡ true)
aux_named p n i = name_map IsAuxiliary (λ (x : Name). is_defined x.role ≡ true) p.names n (λ x h. aux_defined x.role h) (aux_at p n i)

-- ---- the item that defines a name
pub named_some : (n : ℕ) (o : Option ℕ) → o ≡ Some n → is_named n o ≡ true
named_some n None e = absurd (cc)
named_some n (Some m) e = let q : m ≡ n = cc in eq-eqb m n q

pub at_count : (n : ℕ) (ts : List ProgItem) (k : ℕ) → ItemAt ts k (Defines n) → 0 < definitions n ts
at_count n [] k h = absurd h
at_count n (t ∷ ts) zero h = rw (named_some n t.name h) (omega arith)
at_count n (t ∷ ts) (suc k) h = let l = at_count n ts k h in omega arith

pub place_within : (n : ℕ) (ts : List ProgItem) (k : ℕ) → ItemAt ts k (Defines n) → k < length ts
place_within n [] k h = absurd h
place_within n (t ∷ ts) zero h = omega arith
place_within n (t ∷ ts) (suc k) h = let l = place_within n ts k h in omega arith
