-- One list of checks after another.
use Rattle.std.proofs.Common.{◌≡◌, ℕ, List, [], ◌∷◌, ◌++◌, Bool, true, false, cond, Some, None, Result, Ok, Err, refl, ◌∙◌, ap, inl, inr}
use Rattle.hys_json.specs.declared.fault.ValueFault.{ValueFault}
use Rattle.hys_json.specs.declared.fault.ValueFault.TheVariants.{Shape, Number, Memory}
use Rattle.hys_json.specs.Checks.{Check, first_fault, deeper, under, IsWithin, IsFault, Judged}

pub fault_first : (xs ys : List Check) (f : ValueFault) → first_fault xs ≡ Some f → first_fault (xs ++ ys) ≡ Some f
fault_first [] ys f e = absurd (cc)
fault_first (x ∷ xs) ys f e = go x.passes e (fault_first xs ys f)
  where
    go : (b : Bool) → cond b (first_fault xs) (Some x.fault) ≡ Some f → (first_fault xs ≡ Some f → first_fault (xs ++ ys) ≡ Some f) → cond b (first_fault (xs ++ ys)) (Some x.fault) ≡ Some f
    go true e h = h e
    go false e h = e

pub no_fault_first : (xs ys : List Check) → first_fault xs ≡ None → first_fault (xs ++ ys) ≡ first_fault ys
no_fault_first [] ys e = refl
no_fault_first (x ∷ xs) ys e = go x.passes e (no_fault_first xs ys)
  where
    go : (b : Bool) → cond b (first_fault xs) (Some x.fault) ≡ None → (first_fault xs ≡ None → first_fault (xs ++ ys) ≡ first_fault ys) → cond b (first_fault (xs ++ ys)) (Some x.fault) ≡ first_fault ys
    go true e h = h e
    go false e h = absurd (cc)

pub deeper_fault : (key : List ℕ) (xs : List Check) (f : ValueFault) → first_fault xs ≡ Some f → first_fault (under key xs) ≡ Some (deeper key f)
unfolding under
deeper_fault key [] f e = absurd (cc)
deeper_fault key (x ∷ xs) f e = go x.passes e (deeper_fault key xs f)
  where
    some : {A : Type 0} (a b : A) → Some a ≡ Some b → a ≡ b
    some a b e = cc

    go : (b : Bool) → cond b (first_fault xs) (Some x.fault) ≡ Some f → (first_fault xs ≡ Some f → first_fault (under key xs) ≡ Some (deeper key f)) → cond b (first_fault (under key xs)) (Some (deeper key x.fault)) ≡ Some (deeper key f)
    go true e h = h e
    go false e h = ap (λ g. Some (deeper key g)) (some x.fault f e)

pub deeper_none : (key : List ℕ) (xs : List Check) → first_fault xs ≡ None → first_fault (under key xs) ≡ None
unfolding under
deeper_none key [] e = refl
deeper_none key (x ∷ xs) e = go x.passes e (deeper_none key xs)
  where
    go : (b : Bool) → cond b (first_fault xs) (Some x.fault) ≡ None → (first_fault xs ≡ None → first_fault (under key xs) ≡ None) → cond b (first_fault (under key xs)) (Some (deeper key x.fault)) ≡ None
    go true e h = h e
    go false e h = absurd (cc)

-- ---- answers
-- what fails in the first list fails in both
pub fails_first : (xs ys : List Check) (f : ValueFault) → IsFault xs f → IsFault (xs ++ ys) f
fails_first xs ys (Shape p) h = fault_first xs ys (Shape p) h
fails_first xs ys (Number p) h = fault_first xs ys (Number p) h
fails_first xs ys Memory h = tt

-- where nothing fails in the first list the second decides
pub fails_second : (xs ys : List Check) (f : ValueFault) → first_fault xs ≡ None → IsFault ys f → IsFault (xs ++ ys) f
fails_second xs ys (Shape p) h k = no_fault_first xs ys h ∙ k
fails_second xs ys (Number p) h k = no_fault_first xs ys h ∙ k
fails_second xs ys Memory h k = tt

pub then_second : {T : Type 0} (xs ys : List Check) (Q : T → Type 0) (r : Result T ValueFault) → first_fault xs ≡ None → Judged ys Q r → Judged (xs ++ ys) Q r
then_second xs ys Q (Ok y) h k = (no_fault_first xs ys h ∙ k.0, k.1)
then_second xs ys Q (Err f) h k = fails_second xs ys f h k

-- what was read under a key
pub read_under : {T : Type 0} (key : List ℕ) (xs : List Check) (P : T → Type 0) (inner after : Result T ValueFault) → Judged xs P inner → IsWithin key inner after → Judged (under key xs) P after
read_under key xs P (Ok x) after h w = rw w (deeper_none key xs h.0, h.1)
read_under key xs P (Err f) after h (inr w) = rw w tt
read_under key xs P (Err (Shape p)) after h (inl w) = rw w (deeper_fault key xs (Shape p) h)
read_under key xs P (Err (Number p)) after h (inl w) = rw w (deeper_fault key xs (Number p) h)
read_under key xs P (Err Memory) after h (inl w) = rw w tt

-- a check that passes decides nothing
pub fails_behind : (xs : List Check) (b : Bool) (f g : ValueFault) → b ≡ true → IsFault xs f → IsFault (record { passes = b; fault = g } ∷ xs) f
fails_behind xs b (Shape p) g e h = rw e h
fails_behind xs b (Number p) g e h = rw e h
fails_behind xs b Memory g e h = tt

pub passes_first : {T : Type 0} (xs : List Check) (P : T → Type 0) (r : Result T ValueFault) (b : Bool) (g : ValueFault) → b ≡ true → Judged xs P r → Judged (record { passes = b; fault = g } ∷ xs) P r
passes_first xs P (Ok x) b g e h = rw e h
passes_first xs P (Err f) b g e h = fails_behind xs b f g e h

-- what fails under a key
pub fails_under : {T : Type 0} (key : List ℕ) (xs : List Check) (P : T → Type 0) (inner : Result T ValueFault) (f : ValueFault) → Judged xs P inner → IsWithin key inner (Err f) → IsFault (under key xs) f
fails_under key xs P inner f h w = read_under key xs P inner (Err f) h w

-- nothing fails under the key of what is read
pub passes_under : {T : Type 0} (key : List ℕ) (xs : List Check) (P : T → Type 0) (inner : Result T ValueFault) (x : T) → Judged xs P inner → IsWithin key inner (Ok x) → first_fault (under key xs) ≡ None
passes_under key xs P inner x h w = (read_under key xs P inner (Ok x) h w).0

pub read_as : {T : Type 0} (key : List ℕ) (xs : List Check) (P : T → Type 0) (inner : Result T ValueFault) (x : T) → Judged xs P inner → IsWithin key inner (Ok x) → P x
read_as key xs P inner x h w = (read_under key xs P inner (Ok x) h w).1

pub none_after_none : (xs ys : List Check) → first_fault xs ≡ None → first_fault ys ≡ None → first_fault (xs ++ ys) ≡ None
none_after_none xs ys h k = no_fault_first xs ys h ∙ k

-- ---- several lists, one behind the other
pub fails_third : (xs ys zs : List Check) (f : ValueFault) → first_fault xs ≡ None → first_fault ys ≡ None → IsFault zs f → IsFault (xs ++ (ys ++ zs)) f
fails_third xs ys zs f a b h = fails_second xs (ys ++ zs) f a (fails_second ys zs f b h)

pub fails_fourth : (xs ys zs ws : List Check) (f : ValueFault) → first_fault xs ≡ None → first_fault ys ≡ None → first_fault zs ≡ None → IsFault ws f → IsFault (xs ++ (ys ++ (zs ++ ws))) f
fails_fourth xs ys zs ws f a b c h = fails_second xs (ys ++ (zs ++ ws)) f a (fails_third ys zs ws f b c h)

pub fails_fifth : (xs ys zs ws vs : List Check) (f : ValueFault) → first_fault xs ≡ None → first_fault ys ≡ None → first_fault zs ≡ None → first_fault ws ≡ None → IsFault vs f → IsFault (xs ++ (ys ++ (zs ++ (ws ++ vs)))) f
fails_fifth xs ys zs ws vs f a b c d h = fails_second xs (ys ++ (zs ++ (ws ++ vs))) f a (fails_fourth ys zs ws vs f b c d h)

pub none_of_five : (xs ys zs ws vs : List Check) → first_fault xs ≡ None → first_fault ys ≡ None → first_fault zs ≡ None → first_fault ws ≡ None → first_fault vs ≡ None → first_fault (xs ++ (ys ++ (zs ++ (ws ++ vs)))) ≡ None
none_of_five xs ys zs ws vs a b c d e = none_after_none xs (ys ++ (zs ++ (ws ++ vs))) a (none_after_none ys (zs ++ (ws ++ vs)) b (none_after_none zs (ws ++ vs) c (none_after_none ws vs d e)))
