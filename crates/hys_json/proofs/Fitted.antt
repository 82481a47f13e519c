-- The numbers of fractions fit.
use Rattle.std.proofs.Common.{drop-cons, ◌≡◌, ℕ, suc, ℤ, pos, ◌+◌, ◌<◌, ◌≤◌, ◌^◌, unsigned_abs, IsTrue, List, ◌∷◌, length, get_or, drop, sym, ap, subst, arith}
use Rattle.std.specs.List.{AllByRecursion}
use Rattle.std.proofs.lemmas.List.{drop_all}
use Rattle.hys_number.specs.Number.{Number}
use Rattle.hys_number.specs.Ops.{fits}
use Rattle.hys_frac.proofs.Fracs.{fits_yes}

pub has_fitting_parts : (a : Number) (n d : ℤ) → n ≡ a.num → unsigned_abs n < 2 ^ 63 → d ≡ pos a.den → a.den < 2 ^ 63 → IsTrue (fits a)
has_fitting_parts a n d e l f k = fits_yes a (subst (λ (z : ℤ). unsigned_abs z < 2 ^ 63) e l) k

-- ---- all of a list, from what is still to be done
pub drop_here : {X : Type 0} (xs : List X) (i : ℕ) (x : X) → i < length xs → x ≡ get_or xs i x → drop i xs ≡ x ∷ drop (i + 1) xs
drop_here xs i x l e = rw (drop-cons xs i x l, ← e) (ap (λ (n : ℕ). x ∷ drop n xs) one_more)
  where
    one_more : suc i ≡ i + 1
    one_more = omega arith

pub all_next : {X : Type 0} (P : X → Type 0) (xs : List X) (i : ℕ) (x : X) → i < length xs → x ≡ get_or xs i x → P x → (AllByRecursion P (drop i xs) → AllByRecursion P xs) →
    AllByRecursion P (drop (i + 1) xs) → AllByRecursion P xs
all_next P xs i x l e p before h = before (subst (AllByRecursion P) (sym (drop_here xs i x l e)) (p, h))

pub all_done : {X : Type 0} (P : X → Type 0) (xs : List X) (i : ℕ) → length xs ≤ i → (AllByRecursion P (drop i xs) → AllByRecursion P xs) → AllByRecursion P xs
all_done P xs i l before = before (subst (AllByRecursion P) (sym (drop_all i xs l)) tt)
