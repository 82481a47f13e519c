-- Nodes and their operands.
use Rattle.std.proofs.Common.{◌≡◌, ℕ, ◌+◌, ◌<◌, List, [], ◌∷◌, ◌++◌, Some, None, Bool, true, false, map, take, length, get_or, refl, sym, ◌∙◌, ap, ◌≢◌, cond}
use Rattle.hys_number.specs.Ops.{fits, whole}
use Rattle.hys_lin.specs.declared.lost.Lost.{Lost}
use Rattle.hys_number.specs.Number.{Number, make}
use Rattle.hys_number.specs.Gcd.{gcd}
use Rattle.hys_meaning.specs.Folding.{is_zero}
use Rattle.std.specs.List.{AllByRecursion}
use Rattle.hys_type.specs.Dense.{spread}
use Rattle.hys_type.specs.declared.dense.Dense.{Dense}
use Rattle.hys_lin.specs.Operations.{first_lost, outcome}
use Rattle.hys_ast.specs.declared.place.Place.{Place}
use Rattle.hys_type.specs.Faults.{first_fault, in_range}
use Rattle.hys_type.specs.declared.fault.TypeFault.TheVariants as fault
use Rattle.hys_type.proofs.Walks.{longer}
use Rattle.std.proofs.lemmas.List.{map_push, length-map}

-- ---- lists
-- one more of a list that a loop makes
pub made_more : {X D R : Type 0} (view : X → D) (f : D → R) (xs : List X) (i : ℕ) (x : X) (out more : List R) (r : R) → i < length xs → x ≡ get_or xs i x → out ≡ map f (map view (take i xs)) → r ≡ f (view x) →
    more ≡ out ++ r ∷ [] → more ≡ map f (map view (take (i + 1) xs))
made_more view f xs i x out more r h e o w m =
    m ∙ ap (λ zs. zs ++ r ∷ []) o ∙ ap (λ z. map f (map view (take i xs)) ++ z ∷ []) w ∙ sym (map_push f (map view (take i xs)) (view x)) ∙ ap (map f) (sym (longer view xs i x h e))

-- ---- numbers that fit
pub range_fits : (p : Place) (os : List Lost) → None ≡ first_lost os → None ≡ first_fault (in_range p os)
range_fits p [] h = refl
range_fits p (o ∷ os) h = one (fits (outcome o)) (range_fits p os) h
  where
    one : (b : Bool) → (None ≡ first_lost os → None ≡ first_fault (in_range p os)) → None ≡ cond b (first_lost os) (Some o) → None ≡ cond b (first_fault (in_range p os)) (Some (fault.Range p o))
    one true k h = k h
    one false k h = absurd (cc)

pub range_lost : (p : Place) (os : List Lost) (l : Lost) → Some l ≡ first_lost os → Some (fault.Range p l) ≡ first_fault (in_range p os)
range_lost p [] l h = absurd (cc)
range_lost p (o ∷ os) l h = one (fits (outcome o)) (range_lost p os l) h
  where
    one : (b : Bool) → (Some l ≡ first_lost os → Some (fault.Range p l) ≡ first_fault (in_range p os)) → Some l ≡ cond b (first_lost os) (Some o) → Some (fault.Range p l) ≡ cond b (first_fault (in_range p os)) (Some (fault.Range p o))
    one true k h = k h
    one false k h = cc

-- ---- divisors
zero_is : is_zero (whole 0) ≡ true
unfolding is_zero whole make gcd
zero_is = refl

pub not_zero : (a : Number) → is_zero a ≡ false → ¬ (a ≡ whole 0)
not_zero a h e = never (sym h ∙ ap is_zero e ∙ zero_is)
  where
    never : false ≡ true → ⊥
    never e = absurd (cc)

pub each_divisor : (a : Number) (xs : List Number) → ¬ (a ≡ whole 0) → AllByRecursion (λ b. b ≢ whole 0) (map (λ (x : Number). a) xs)
each_divisor a [] h = tt
each_divisor a (x ∷ xs) h = (h, each_divisor a xs h)

pub spread_length : (d : Dense) → length (spread d).factors ≡ length d.factors
spread_length d = length-map d.factors (λ (a : Number). d.constant)
