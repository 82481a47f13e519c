-- A loop over a list of checks: up to here none fails, and the first fault is that of the rest.
use Rattle.std.proofs.Common.{◌≡◌, ℕ, ◌+◌, ◌<◌, ◌≤◌, List, [], ◌∷◌, ◌++◌, Option, Some, None, map, take, drop, length, get_or, refl, sym, ◌∙◌, ap, add-one}
use Rattle.std.proofs.lemmas.List.{take_more, map_push, drop_all}
use Rattle.std.proofs.Math.Seq.{drop-cons}
use Rattle.hys_type.specs.Faults.{Check, first_fault}
use Rattle.hys_type.specs.Walks.{walk}
use Rattle.hys_type.specs.declared.fault.TypeFault.{TypeFault}
use Rattle.hys_type.proofs.Firsts.{fault_after, fault_before}

-- the first fault from the element at an index on
abbrev pub first_from : {X D : Type 0} → (X → D) → (List D → D → List Check) → List X → ℕ → Option TypeFault
first_from view f xs i = first_fault (walk f (map view (take i xs)) (map view (drop i xs)))

pub drop_here : {X : Type 0} (xs : List X) (i : ℕ) (x : X) → i < length xs → x ≡ get_or xs i x → drop i xs ≡ x ∷ drop (i + 1) xs
drop_here xs i x h e = rw (add-one, drop-cons xs i x h, ← e) refl

opened : {X D : Type 0} (view : X → D) (f : List D → D → List Check) (xs : List X) (i : ℕ) (x : X) → i < length xs → x ≡ get_or xs i x →
    first_from view f xs i ≡ first_fault (f (map view (take i xs)) (view x) ++ walk f (map view (take i xs) ++ view x ∷ []) (map view (drop (i + 1) xs)))
opened view f xs i x h e = ap (λ ys. first_fault (walk f (map view (take i xs)) (map view ys))) (drop_here xs i x h e)

pub longer : {X D : Type 0} (view : X → D) (xs : List X) (i : ℕ) (x : X) → i < length xs → x ≡ get_or xs i x → map view (take (i + 1) xs) ≡ map view (take i xs) ++ view x ∷ []
longer view xs i x h e = ap (map view) (take_more xs i x h) ∙ map_push view (take i xs) (get_or xs i x) ∙ ap (λ y. map view (take i xs) ++ view y ∷ []) (sym e)

pub goes_on : {X D : Type 0} (view : X → D) (f : List D → D → List Check) (xs : List X) (i : ℕ) (x : X) → i < length xs → x ≡ get_or xs i x →
    None ≡ first_fault (f (map view (take i xs)) (view x)) → first_from view f xs i ≡ first_from view f xs (i + 1)
goes_on view f xs i x h e n =
    opened view f xs i x h e ∙ fault_after (f (map view (take i xs)) (view x)) (walk f (map view (take i xs) ++ view x ∷ []) (map view (drop (i + 1) xs))) n
    ∙ ap (λ b. first_fault (walk f b (map view (drop (i + 1) xs)))) (sym (longer view xs i x h e))

pub stops : {X D : Type 0} (view : X → D) (f : List D → D → List Check) (xs : List X) (i : ℕ) (x : X) (t : TypeFault) → i < length xs → x ≡ get_or xs i x →
    Some t ≡ first_fault (f (map view (take i xs)) (view x)) → Some t ≡ first_from view f xs i
stops view f xs i x t h e n = fault_before (f (map view (take i xs)) (view x)) (walk f (map view (take i xs) ++ view x ∷ []) (map view (drop (i + 1) xs))) t n ∙ sym (opened view f xs i x h e)

pub ends : {X D : Type 0} (view : X → D) (f : List D → D → List Check) (xs : List X) (i : ℕ) → length xs ≤ i → None ≡ first_from view f xs i
ends view f xs i h = ap (λ ys. first_fault (walk f (map view (take i xs)) (map view ys))) (sym (drop_all i xs h))
