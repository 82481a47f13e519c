-- Operations name by name.
use Rattle.std.proofs.Common.{◌≡◌, ℕ, ◌+◌, ◌<◌, ◌≤◌, Option, set, append-nil, arith, List, [], ◌∷◌, ◌++◌, Some, None, map, take, drop, length, get_or, refl, sym, ◌∙◌, ap, ap₂, subst, zero, suc, append_assoc, cond, Bool, true, false}
use Rattle.std.proofs.lemmas.List.{take_more, map_push, take_all, drop_all, take_more_set, drop-set-lt}
use Rattle.std.proofs.Math.Seq.{drop-nil}
use Rattle.std.specs.List.{AllByRecursion}
use Rattle.hys_number.specs.Number.{Number}
use Rattle.hys_number.specs.Ops.{fits}
use Rattle.hys_lin.specs.declared.lost.Lost.{Lost}
use Rattle.hys_lin.specs.declared.lost.Op.{Op}
use Rattle.hys_lin.specs.Operations.{first_lost, outcome, result_of}
use Rattle.hys_meaning.specs.Names.{Name}
use Rattle.hys_meaning.specs.Folding.{each}
use Rattle.hys_type.specs.Dense.{between, zipped}
use Rattle.hys_lin.proofs.Summing.{lost_after, lost_before}
use Rattle.hys_type.proofs.Walks.{drop_here}

behind_set : (xs more : List Number) (i : ℕ) (r : Number) → more ≡ set xs i r → drop (i + 1) more ≡ drop (i + 1) xs
behind_set xs more i r m = ap (drop (i + 1)) m ∙ drop-set-lt (i + 1) xs i r (omega arith)

zip_here : {A : Type 0} (f : Number → Number → A) (xs ys : List Number) (i : ℕ) (a b : Number) → i < length xs → i < length ys → a ≡ get_or xs i a → b ≡ get_or ys i b →
    zipped f (drop i xs) (drop i ys) ≡ f a b ∷ zipped f (drop (i + 1) xs) (drop (i + 1) ys)
zip_here f xs ys i a b h k e o = ap₂ (zipped f) (drop_here xs i a h e) (drop_here ys i b k o)

-- the result at the place i, in place of the number there
pub value_set : (p : Op) (xs ys more out : List Number) (i : ℕ) (a b r : Number) → i < length xs → i < length ys → a ≡ get_or xs i a → b ≡ get_or ys i b → r ≡ result_of p a b → more ≡ set xs i r →
    take i xs ++ zipped (result_of p) (drop i xs) (drop i ys) ≡ out → take (i + 1) more ++ zipped (result_of p) (drop (i + 1) more) (drop (i + 1) ys) ≡ out
value_set p xs ys more out i a b r h k e o w m v =
    let rest = zipped (result_of p) (drop (i + 1) xs) (drop (i + 1) ys) in
    ap₂ (λ (us vs : List Number). us ++ zipped (result_of p) vs (drop (i + 1) ys)) (ap (take (i + 1)) m ∙ take_more_set xs i r h) (behind_set xs more i r m)
    ∙ append_assoc (take i xs) (r ∷ []) rest ∙ ap (λ (x : Number). take i xs ++ x ∷ rest) w ∙ sym (ap (λ zs. take i xs ++ zs) (zip_here (result_of p) xs ys i a b h k e o)) ∙ v

first_fits : (o : Lost) (os : List Lost) → None ≡ first_lost (o ∷ []) → first_lost (o ∷ os) ≡ first_lost os
first_fits o os h = by_fit (fits (outcome o)) h
  where
    by_fit : (b : Bool) → None ≡ cond b None (Some o) → cond b (first_lost os) (Some o) ≡ first_lost os
    by_fit true h = refl
    by_fit false h = absurd (cc)

first_fails : (o l : Lost) (os : List Lost) → Some l ≡ first_lost (o ∷ []) → first_lost (o ∷ os) ≡ Some l
first_fails o l os h = by_fit (fits (outcome o)) h
  where
    by_fit : (b : Bool) → Some l ≡ cond b None (Some o) → cond b (first_lost os) (Some o) ≡ Some l
    by_fit true h = absurd (cc)
    by_fit false h = sym h

pub fits_set : (p : Op) (xs ys more : List Number) (i : ℕ) (a b r : Number) (o : Option Lost) → i < length xs → i < length ys → a ≡ get_or xs i a → b ≡ get_or ys i b → None ≡ first_lost (between p a b ∷ []) → more ≡ set xs i r →
    first_lost (zipped (between p) (drop i xs) (drop i ys)) ≡ o → first_lost (zipped (between p) (drop (i + 1) more) (drop (i + 1) ys)) ≡ o
fits_set p xs ys more i a b r o h k e q n m w =
    let rest = zipped (between p) (drop (i + 1) xs) (drop (i + 1) ys) in
    ap (λ (vs : List Number). first_lost (zipped (between p) vs (drop (i + 1) ys))) (behind_set xs more i r m)
    ∙ sym (ap first_lost (zip_here (between p) xs ys i a b h k e q) ∙ first_fits (between p a b) rest n) ∙ w

pub lost_set : (p : Op) (xs ys : List Number) (i : ℕ) (a b : Number) (l : Lost) (o : Option Lost) → i < length xs → i < length ys → a ≡ get_or xs i a → b ≡ get_or ys i b → Some l ≡ first_lost (between p a b ∷ []) →
    first_lost (zipped (between p) (drop i xs) (drop i ys)) ≡ o → Some l ≡ o
lost_set p xs ys i a b l o h k e q n w =
    let rest = zipped (between p) (drop (i + 1) xs) (drop (i + 1) ys) in
    sym (first_fails (between p a b) l rest n) ∙ sym (ap first_lost (zip_here (between p) xs ys i a b h k e q)) ∙ w

-- no place is left
pub all_set : {A : Type 0} (f : Number → Number → Number) (g : Number → Number → A) (xs ys out : List Number) (i : ℕ) → length xs ≡ length ys → length ys ≤ i →
    take i xs ++ zipped f (drop i xs) (drop i ys) ≡ out → (xs ≡ out) × (zipped g (drop i xs) (drop i ys) ≡ [])
all_set f g xs ys out i e h w =
    let l : length xs ≤ i = omega (arith, e, h) in
    let d : drop i xs ≡ [] = drop_all i xs l in (
      sym (append-nil xs) ∙ sym (ap₂ (λ (us vs : List Number). us ++ zipped f vs (drop i ys)) (take_all i xs l) d) ∙ w,
      ap (λ (us : List Number). zipped g us (drop i ys)) d,
    )

-- ---- factors and then constants
pub lost_factors : (p : Op) (xs ys us vs : List Number) (a b : Number) (l : Lost) → us ≡ xs → vs ≡ ys → Some l ≡ first_lost (zipped (between p) us vs) → Some l ≡ first_lost (zipped (between p) xs ys ++ between p a b ∷ [])
lost_factors p xs ys us vs a b l e k h = sym (lost_before (zipped (between p) xs ys) (between p a b ∷ []) l (sym (h ∙ ap₂ (λ (ms ns : List Number). first_lost (zipped (between p) ms ns)) e k)))

pub lost_constant : (p : Op) (xs ys us vs : List Number) (a b : Number) (o : Option Lost) → us ≡ xs → vs ≡ ys → None ≡ first_lost (zipped (between p) us vs) → o ≡ first_lost (between p a b ∷ []) → o ≡ first_lost (zipped (between p) xs ys ++ between p a b ∷ [])
lost_constant p xs ys us vs a b o e k h w = w ∙ sym (lost_after (zipped (between p) xs ys) (between p a b ∷ []) (sym (h ∙ ap₂ (λ (ms ns : List Number). first_lost (zipped (between p) ms ns)) e k)))

dropped : (P : Number → Type 0) (xs : List Number) (n : ℕ) → AllByRecursion P xs → AllByRecursion P (drop n xs)
dropped P [] n w = subst (AllByRecursion P) (sym (drop-nil n)) tt
dropped P (x ∷ xs) zero w = w
dropped P (x ∷ xs) (suc n) w = dropped P xs n w.1

pub all_at : (P : Number → Type 0) (xs : List Number) (i : ℕ) (a : Number) → i < length xs → a ≡ get_or xs i a → AllByRecursion P xs → P a
all_at P xs i a h e w = (subst (AllByRecursion P) (drop_here xs i a h e) (dropped P xs i w)).0

pub one_more : (k : Number) (xs out more : List Number) (i : ℕ) (d : Number) → i < length xs → out ≡ map (λ a. k) (take i xs) → more ≡ out ++ k ∷ [] → more ≡ map (λ (a : Number). k) (take (i + 1) xs)
one_more k xs out more i d h e m = m ∙ ap (λ zs. zs ++ k ∷ []) e ∙ sym (ap (map (λ (a : Number). k)) (take_more xs i d h) ∙ map_push (λ (a : Number). k) (take i xs) (get_or xs i d))

-- ---- over the declared names
zip_map : (o : Op) (ns : List Name) (f g : List ℕ → Number) → zipped (between o) (map (λ (n : Name). f n.text) ns) (map (λ (n : Name). g n.text) ns) ≡ map (λ (n : Name). between o (f n.text) (g n.text)) ns
zip_map o [] f g = refl
zip_map o (n ∷ ns) f g = ap (λ os. between o (f n.text) (g n.text) ∷ os) (zip_map o ns f g)

pub each_name : (o : Op) (ns : List Name) (f g : List ℕ → Number) (a b : Number) (xs ys : List Number) (x y : Number) → xs ≡ map (λ (n : Name). f n.text) ns → ys ≡ map (λ (n : Name). g n.text) ns → x ≡ a → y ≡ b →
    zipped (between o) xs ys ++ between o x y ∷ [] ≡ each (between o) ns f g a b
each_name o ns f g a b xs ys x y e h i k =
    ap₂ (λ (us vs : List Number). zipped (between o) us vs ++ between o x y ∷ []) e h ∙ ap (λ os. os ++ between o x y ∷ []) (zip_map o ns f g)
    ∙ ap₂ (λ (u v : Number). map (λ (n : Name). between o (f n.text) (g n.text)) ns ++ between o u v ∷ []) i k

same_everywhere : (k : Number) (ns : List Name) (f : List ℕ → Number) → map (λ (a : Number). k) (map (λ (n : Name). f n.text) ns) ≡ map (λ (n : Name). k) ns
same_everywhere k [] f = refl
same_everywhere k (n ∷ ns) f = ap (λ xs. k ∷ xs) (same_everywhere k ns f)

pub spread_over : (ns : List Name) (f : List ℕ → Number) (k l : Number) (xs : List Number) → xs ≡ map (λ (n : Name). f n.text) ns → k ≡ l → map (λ (a : Number). k) xs ≡ map (λ (n : Name). l) ns
spread_over ns f k l xs e h = ap (map (λ (a : Number). k)) e ∙ same_everywhere k ns f ∙ ap (λ (m : Number). map (λ (n : Name). m) ns) h
