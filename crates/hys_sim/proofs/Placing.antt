-- Names with a role, and their places.
use Rattle.std.proofs.Common.{◌≡◌, ℕ, suc, ◌+◌, List, [], ◌∷◌, Bool, true, false, cond, length, map, refl, sym, ◌∙◌, ap, ap₂, arith}
use Rattle.std.specs.Prelude.{filter}
use Rattle.hys_lin.specs.Sums.{Assignment}
use Rattle.hys_number.specs.Number.{Number}
use Rattle.hys_prog.specs.declared.program.Role.{Role}
use Rattle.hys_prog.specs.declared.program.Role.TheVariants.{State, Input, Output, Parameter, Aux}
use Rattle.hys_prog.specs.declared.program.Name.{Name}
use Rattle.hys_prog.specs.Programs.{NameAt}
use Rattle.hys_prog.specs.Steps.{places_from, is_auxiliary, is_output}

pub length_map : {X Y : Type 0} (f : X → Y) (xs : List X) → length (map f xs) ≡ length xs
length_map f [] = refl
length_map f (x ∷ xs) = ap suc (length_map f xs)

-- there are as many names as places
pub as_many : (n : ℕ) (part : Role → Bool) (ks : List Name) → length (filter (λ k. part k.role) ks) ≡ length (places_from n part ks)
as_many n part [] = refl
as_many n part (k ∷ ks) = go (part k.role) (as_many (suc n) part ks)
  where
    go : (b : Bool) → length (filter (λ k. part k.role) ks) ≡ length (places_from (suc n) part ks) → length (cond b (k ∷ filter (λ k. part k.role) ks) (filter (λ k. part k.role) ks)) ≡ length (cond b (n ∷ places_from (suc n) part ks) (places_from (suc n) part ks))
    go true h = ap suc h
    go false h = h

aux_output : (r : Role) → is_auxiliary r ≡ true → is_output r ≡ false
aux_output State e = refl
aux_output Input e = refl
aux_output Output e = absurd (cc)
aux_output Parameter e = refl
aux_output Aux e = refl

-- assignments that agree on all names that aren't outputs have the same values on the auxiliaries
pub aux_same : (n : ℕ) (v w : Assignment) (ks : List Name) → ((m : ℕ) → NameAt ks m (λ k. is_output k.role ≡ false) → v (n + m) ≡ w (n + m)) → map v (places_from n is_auxiliary ks) ≡ map w (places_from n is_auxiliary ks)
aux_same n v w [] f = refl
aux_same n v w (k ∷ ks) f =
    go (is_auxiliary k.role) (λ e. let z : n + 0 ≡ n = omega arith in ap v (sym z) ∙ f 0 (aux_output k.role e) ∙ ap w z)
    (aux_same (suc n) v w ks (λ m e. let z : suc n + m ≡ n + suc m = omega arith in ap v z ∙ f (suc m) e ∙ ap w (sym z)))
  where
    go : (b : Bool) → (b ≡ true → v n ≡ w n) → map v (places_from (suc n) is_auxiliary ks) ≡ map w (places_from (suc n) is_auxiliary ks) → map v (cond b (n ∷ places_from (suc n) is_auxiliary ks) (places_from (suc n) is_auxiliary ks)) ≡ map w (cond b (n ∷ places_from (suc n) is_auxiliary ks) (places_from (suc n) is_auxiliary ks))
    go true h e = ap₂ (λ (a : Number) (rest : List Number). a ∷ rest) (h refl) e
    go false h e = e
