-- Checks that all pass, and numbers that all fit.
use Rattle.std.proofs.Common.{◌≡◌, List, [], ◌∷◌, ◌++◌, Some, None, Bool, true, false, cond, refl}
use Rattle.std.specs.Prelude.{IsTrue}
use Rattle.std.specs.List.{AllByRecursion}
use Rattle.hys_number.specs.Ops.{fits}
use Rattle.hys_lin.specs.declared.lost.Lost.{Lost}
use Rattle.hys_ast.specs.declared.place.Place.{Place}
use Rattle.hys_meaning.specs.Folding.{Computed, result, all_at, first_unfit}
use Rattle.hys_type.specs.Faults.{Check, first_fault, in_range}
use Rattle.hys_type.specs.Walks.{walk}
use Rattle.hys_type.specs.declared.fault.TypeFault.{TypeFault}

-- ---- what holds of each of two lists
pub all_join : {A : Type 0} (P : A → Type 0) (xs ys : List A) → AllByRecursion P xs → AllByRecursion P ys → AllByRecursion P (xs ++ ys)
all_join P [] ys h k = k
all_join P (x ∷ xs) ys h k = (h.0, all_join P xs ys h.1 k)

pub all_front : {A : Type 0} (P : A → Type 0) (xs ys : List A) → AllByRecursion P (xs ++ ys) → AllByRecursion P xs
all_front P [] ys h = tt
all_front P (x ∷ xs) ys h = (h.0, all_front P xs ys h.1)

pub all_behind : {A : Type 0} (P : A → Type 0) (xs ys : List A) → AllByRecursion P (xs ++ ys) → AllByRecursion P ys
all_behind P [] ys h = h
all_behind P (x ∷ xs) ys h = all_behind P xs ys h.1

-- ---- checks
abbrev pub Pass : List Check → Type 0
Pass cs = AllByRecursion (λ (c : Check). IsTrue c.passes) cs

pub none_passes : (cs : List Check) → first_fault cs ≡ None → Pass cs
none_passes [] h = tt
none_passes (c ∷ cs) h = one c.passes c.fault h (none_passes cs)
  where
    one : (b : Bool) (f : TypeFault) → cond b (first_fault cs) (Some f) ≡ None → (first_fault cs ≡ None → Pass cs) → IsTrue b × Pass cs
    one true f h k = (refl, k h)
    one false f h k = absurd (cc)

pub passes_none : (cs : List Check) → Pass cs → first_fault cs ≡ None
passes_none [] h = refl
passes_none (c ∷ cs) h = one c.passes c.fault h.0 (passes_none cs h.1)
  where
    one : (b : Bool) (f : TypeFault) → IsTrue b → first_fault cs ≡ None → cond b (first_fault cs) (Some f) ≡ None
    one true f h k = k
    one false f h k = absurd (cc)

pub pass_join : (xs ys : List Check) → Pass xs → Pass ys → Pass (xs ++ ys)
pass_join xs ys h k = all_join (λ (c : Check). IsTrue c.passes) xs ys h k

pub pass_front : (xs ys : List Check) → Pass (xs ++ ys) → Pass xs
pass_front xs ys h = all_front (λ (c : Check). IsTrue c.passes) xs ys h

pub pass_behind : (xs ys : List Check) → Pass (xs ++ ys) → Pass ys
pass_behind xs ys h = all_behind (λ (c : Check). IsTrue c.passes) xs ys h

-- ---- walks
-- the checks of each element pass, with those before it
abbrev pub EachPasses : {A : Type 0} → (List A → A → List Check) → (before rest : List A) → Type 0
EachPasses f before [] = Unit {0}
EachPasses f before (a ∷ rest) = Pass (f before a) × EachPasses f (before ++ a ∷ []) rest

pub walk_passes : {A : Type 0} (f : List A → A → List Check) (before rest : List A) → Pass (walk f before rest) → EachPasses f before rest
walk_passes f before [] h = tt
walk_passes f before (a ∷ rest) h = (pass_front (f before a) _ h, walk_passes f (before ++ a ∷ []) rest (pass_behind (f before a) _ h))

pub passes_walk : {A : Type 0} (f : List A → A → List Check) (before rest : List A) → EachPasses f before rest → Pass (walk f before rest)
passes_walk f before [] h = tt
passes_walk f before (a ∷ rest) h = pass_join (f before a) _ h.0 (passes_walk f (before ++ a ∷ []) rest h.1)

-- ---- numbers
abbrev pub Fit : List Computed → Type 0
Fit cs = AllByRecursion (λ (c : Computed). IsTrue (fits (result c.what))) cs

pub none_fit : (cs : List Computed) → first_unfit cs ≡ None → Fit cs
none_fit [] h = tt
none_fit (c ∷ cs) h = one (fits (result c.what)) h (none_fit cs)
  where
    one : (b : Bool) → cond b (first_unfit cs) (Some c) ≡ None → (first_unfit cs ≡ None → Fit cs) → IsTrue b × Fit cs
    one true h k = (refl, k h)
    one false h k = absurd (cc)

pub fit_none : (cs : List Computed) → Fit cs → first_unfit cs ≡ None
fit_none [] h = refl
fit_none (c ∷ cs) h = one (fits (result c.what)) h.0 (fit_none cs h.1)
  where
    one : (b : Bool) → IsTrue b → first_unfit cs ≡ None → cond b (first_unfit cs) (Some c) ≡ None
    one true h k = k
    one false h k = absurd (cc)

pub range_fit : (p : Place) (os : List Lost) → Pass (in_range p os) → Fit (all_at p os)
range_fit p [] h = tt
range_fit p (o ∷ os) h = (h.0, range_fit p os h.1)

pub fit_range : (p : Place) (os : List Lost) → Fit (all_at p os) → Pass (in_range p os)
fit_range p [] h = tt
fit_range p (o ∷ os) h = (h.0, fit_range p os h.1)
