-- One list of checks after another.
use Rattle.std.proofs.Common.{◌≡◌, ◌⊎◌, ◌∙◌, ℕ, suc, ◌<◌, ◌≤◌, List, [], ◌∷◌, ◌++◌, Bool, true, false, cond, drop, length, get_or, Option, Some, None, Result, Ok, Err, refl, ap, inl, inr}
use Rattle.std.proofs.Math.Seq.{drop-cons}
use Rattle.std.proofs.lemmas.List.{drop_all}
use Rattle.hys_sim.specs.declared.fault.SimFault.{SimFault}
use Rattle.hys_sim.specs.declared.fault.SimFault.TheVariants.{Csv, Rows, Column, Value, Limit, Memory}
use Rattle.hys_sim.specs.Checks.{Check, first_fault, IsFault, Judged}

-- the element at the place begins what is left from there on
pub drop_here : {X : Type 0} (xs : List X) (i : ℕ) (x : X) → i < length xs → x ≡ get_or xs i x → drop i xs ≡ x ∷ drop (suc i) xs
drop_here xs i x h e = rw (drop-cons xs i x h, ← e) refl

pub fault_first : (xs ys : List Check) (f : SimFault) → first_fault xs ≡ Some f → first_fault (xs ++ ys) ≡ Some f
fault_first [] ys f e = absurd (cc)
fault_first (x ∷ xs) ys f e = go x.passes e (fault_first xs ys f)
  where
    go : (b : Bool) → cond b (first_fault xs) (Some x.fault) ≡ Some f → (first_fault xs ≡ Some f → first_fault (xs ++ ys) ≡ Some f) → cond b (first_fault (xs ++ ys)) (Some x.fault) ≡ Some f
    go true e h = h e
    go false e h = e

pub no_fault_first : (xs ys : List Check) → first_fault xs ≡ None → first_fault (xs ++ ys) ≡ first_fault ys
no_fault_first [] ys e = refl
no_fault_first (x ∷ xs) ys e = go x.passes e (no_fault_first xs ys)
  where
    go : (b : Bool) → cond b (first_fault xs) (Some x.fault) ≡ None → (first_fault xs ≡ None → first_fault (xs ++ ys) ≡ first_fault ys) → cond b (first_fault (xs ++ ys)) (Some x.fault) ≡ first_fault ys
    go true e h = h e
    go false e h = absurd (cc)

pub none_after_none : (xs ys : List Check) → first_fault xs ≡ None → first_fault ys ≡ None → first_fault (xs ++ ys) ≡ None
none_after_none xs ys h k = no_fault_first xs ys h ∙ k

-- ---- answers
-- lists with the same first fault have the same faults
pub same_fault : (xs ys : List Check) (f : SimFault) → first_fault xs ≡ first_fault ys → IsFault ys f → IsFault xs f
same_fault xs ys (Csv w r) e h = e ∙ h
same_fault xs ys (Rows w r) e h = e ∙ h
same_fault xs ys (Column w t) e h = e ∙ h
same_fault xs ys (Value w r c) e h = e ∙ h
same_fault xs ys Limit e h = e ∙ h
same_fault xs ys Memory e h = tt

-- what fails in the first list fails in both
pub fails_first : (xs ys : List Check) (f : SimFault) → IsFault xs f → IsFault (xs ++ ys) f
fails_first xs ys (Csv w r) h = fault_first xs ys (Csv w r) h
fails_first xs ys (Rows w r) h = fault_first xs ys (Rows w r) h
fails_first xs ys (Column w t) h = fault_first xs ys (Column w t) h
fails_first xs ys (Value w r c) h = fault_first xs ys (Value w r c) h
fails_first xs ys Limit h = fault_first xs ys Limit h
fails_first xs ys Memory h = tt

-- where nothing fails in the first list the second decides
pub fails_second : (xs ys : List Check) (f : SimFault) → first_fault xs ≡ None → IsFault ys f → IsFault (xs ++ ys) f
fails_second xs ys f h k = same_fault (xs ++ ys) ys f (no_fault_first xs ys h) k

pub fails_third : (xs ys zs : List Check) (f : SimFault) → first_fault xs ≡ None → first_fault ys ≡ None → IsFault zs f → IsFault (xs ++ (ys ++ zs)) f
fails_third xs ys zs f a b h = fails_second xs (ys ++ zs) f a (fails_second ys zs f b h)

pub none_of_three : (xs ys zs : List Check) → first_fault xs ≡ None → first_fault ys ≡ None → first_fault zs ≡ None → first_fault (xs ++ (ys ++ zs)) ≡ None
none_of_three xs ys zs a b c = none_after_none xs (ys ++ zs) a (none_after_none ys zs b c)

-- where nothing fails in the first list, what the second is judged as is the whole
pub judged_second : {T : Type 0} (xs ys : List Check) (r : Result T SimFault) → first_fault xs ≡ None → Judged ys r → Judged (xs ++ ys) r
judged_second xs ys (Ok x) h k = no_fault_first xs ys h ∙ k
judged_second xs ys (Err f) h k = fails_second xs ys f h k

-- a check that passes decides nothing
pub fails_behind : (xs : List Check) (b : Bool) (f g : SimFault) → b ≡ true → IsFault xs f → IsFault (record { passes = b; fault = g } ∷ xs) f
fails_behind xs b f g e h = same_fault (record { passes = b; fault = g } ∷ xs) xs f (ap (λ (c : Bool). cond c (first_fault xs) (Some g)) e) h

pub passes_behind : (xs : List Check) (b : Bool) (g : SimFault) → b ≡ true → first_fault xs ≡ None → first_fault (record { passes = b; fault = g } ∷ xs) ≡ None
passes_behind xs b g e h = ap (λ (c : Bool). cond c (first_fault xs) (Some g)) e ∙ h

-- ---- loops
-- none of the checks here fails
pub passed : (o : Option SimFault) (whole here rest : List Check) → o ≡ first_fault whole → whole ≡ here ++ rest → first_fault here ≡ None → o ≡ first_fault rest
passed o whole here rest e q n = e ∙ ap first_fault q ∙ no_fault_first here rest n

-- one of the checks here fails
pub stopped : (all whole here rest : List Check) (f : SimFault) → first_fault all ≡ first_fault whole → whole ≡ here ++ rest → IsFault here f → IsFault all f
stopped all whole here rest f e q h = same_fault all (here ++ rest) f (e ∙ ap first_fault q) (fails_first here rest f h)

-- a fault that is shown with its text, or want of memory
pub shown : (cs : List Check) (f g : SimFault) → (f ≡ g) ⊎ (f ≡ Memory) → IsFault cs g → IsFault cs f
shown cs f g (inl e) h = rw e h
shown cs f g (inr e) h = rw e tt

-- A loop over a list, where `G n xs` are the checks of the elements from number n on and `F n x` those of one.
pub more_judged : {X : Type 0} (G : ℕ → List X → List Check) (F : ℕ → X → List Check) → ((n : ℕ) (x : X) (xs : List X) → G n (x ∷ xs) ≡ F n x ++ G (suc n) xs) → (o : Option SimFault) (n : ℕ) (xs : List X) (i : ℕ) (x : X) → i < length xs → x ≡ get_or xs i x →
    o ≡ first_fault (G n (drop i xs)) → first_fault (F n x) ≡ None → o ≡ first_fault (G (suc n) (drop (suc i) xs))
more_judged G F s o n xs i x b e h k = passed o (G n (drop i xs)) (F n x) (G (suc n) (drop (suc i) xs)) h (ap (G n) (drop_here xs i x b e) ∙ s n x (drop (suc i) xs)) k

pub fault_here : {X : Type 0} (G : ℕ → List X → List Check) (F : ℕ → X → List Check) → ((n : ℕ) (x : X) (xs : List X) → G n (x ∷ xs) ≡ F n x ++ G (suc n) xs) → (all : List Check) (n : ℕ) (xs : List X) (i : ℕ) (x : X) (f : SimFault) → i < length xs → x ≡ get_or xs i x →
    first_fault all ≡ first_fault (G n (drop i xs)) → IsFault (F n x) f → IsFault all f
fault_here G F s all n xs i x f b e h k = stopped all (G n (drop i xs)) (F n x) (G (suc n) (drop (suc i) xs)) f h (ap (G n) (drop_here xs i x b e) ∙ s n x (drop (suc i) xs)) k

pub all_judged : {X : Type 0} (G : ℕ → List X → List Check) (o : Option SimFault) (n : ℕ) (xs : List X) (i : ℕ) → G n [] ≡ [] → o ≡ first_fault (G n (drop i xs)) → length xs ≤ i → o ≡ None
all_judged G o n xs i e h l = h ∙ ap (λ ys. first_fault (G n ys)) (drop_all i xs l) ∙ ap first_fault e
