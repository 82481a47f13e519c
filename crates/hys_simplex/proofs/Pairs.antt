-- Multipliers as pairs, and points as lists.
use Rattle.std.proofs.Common.{◌≡◌, ℕ, zero, suc, ◌<◌, ◌≤◌, ◌⊎◌, inl, inr, refl, sym, ◌∙◌, ap, subst, arith, Bool, true, false, cond, if◌then◌else◌, List, [], ◌∷◌, ◌++◌, length, get_or, pos}
use Rattle.std.specs.Prelude.{nat_eq}
use Rattle.std.specs.List.{AllByRecursion}
use Rattle.std.proofs.lemmas.List.{length-append}
use Rattle.hys_number.specs.Number.{Number}
use Rattle.hys_number.specs.Ops.{whole}
use Rattle.hys_number.proofs.Inverse.{zero_num}
use Rattle.hys_lin.specs.Sums.{at, AreTerms, EachColumn}
use Rattle.hys_lin.specs.Scaled.{coefficient}
use Rattle.hys_lin.specs.declared.form.Term.{Term}
use Rattle.hys_lin.specs.declared.problem.Problem.{Problem}
use Rattle.hys_lin.proofs.Lists.{each-append, each_more, terms-append}
use Rattle.hys_relax.specs.LinearProgram.{linear_program}
use Rattle.hys_relax.specs.Bound.{weights, multiplier, AreMultipliers, IsLawfulPair, AreLawful}
use Rattle.hys_relax.specs.Bound.{IsSigned}
use Rattle.hys_relax.proofs.Dense.{own_column, other_column}
use Rattle.hys_simplex.specs.Status.{values_to}
use Rattle.hys_simplex.specs.Unfit.{pairs_to}
use Rattle.hys_relax.specs.BoundSum.{not_zero}
use Rattle.hys_relax.proofs.Zeros.{zero_is}

-- ---- pairs
abbrev one_pair : ℕ → Number → List (ℕ × Number)
one_pair n a = if not_zero a.num then (n, a) ∷ [] else []

weights-append : (xs ys : List (ℕ × Number)) → weights (xs ++ ys) ≡ weights xs ++ weights ys
weights-append [] ys = refl
weights-append (x ∷ xs) ys = ap (λ z. (record { column = x.0; factor = x.1 }) ∷ z) (weights-append xs ys)

not_zero_not : (a : Number) → not_zero a.num ≡ true → a ≡ whole 0 → ⊥
not_zero_not a h e = let q : not_zero (pos 0) ≡ true = subst (λ z. not_zero z ≡ true) ((zero_num a).1 e) h in absurd (cc)

last_below : (n : ℕ) (a : Number) (b : Bool) → EachColumn (λ c. c < suc n) (weights (if b then (n, a) ∷ [] else []))
last_below n a true = (omega arith, tt)
last_below n a false = tt

last_from : (n : ℕ) (a : Number) (b : Bool) → EachColumn (λ c. n ≤ c) (weights (if b then (n, a) ∷ [] else []))
last_from n a true = (omega arith, tt)
last_from n a false = tt

last_terms : (n : ℕ) (a : Number) (b : Bool) → not_zero a.num ≡ b → AreTerms (weights (if b then (n, a) ∷ [] else []))
last_terms n a true e = (not_zero_not a e, tt, tt)
last_terms n a false e = tt

-- their rows are below the count
pub rows_below : (n : ℕ) (y : ℕ → Number) → EachColumn (λ c. c < n) (weights (pairs_to n y))
rows_below zero y = tt
rows_below (suc n) y = subst (EachColumn (λ c. c < suc n)) (sym (weights-append (pairs_to n y) (one_pair n (y n))))
    (each-append (λ c. c < suc n) (weights (pairs_to n y)) (weights (one_pair n (y n))) (each_more (λ c. c < n) (λ c. c < suc n) (weights (pairs_to n y)) (λ c l. omega arith) (rows_below n y)) (last_below n (y n) (not_zero (y n).num)))

-- they rise, and none is 0
pub are_multipliers : (n : ℕ) (y : ℕ → Number) → AreMultipliers (pairs_to n y)
are_multipliers zero y = tt
are_multipliers (suc n) y = subst AreTerms (sym (weights-append (pairs_to n y) (one_pair n (y n))))
    (terms-append n (weights (pairs_to n y)) (weights (one_pair n (y n))) (are_multipliers n y) (last_terms n (y n) (not_zero (y n).num) refl) (rows_below n y) (last_from n (y n) (not_zero (y n).num)))

-- each row has its multiplier
coefficient_front : (xs ys : List Term) (c : ℕ) → EachColumn (λ d. ¬ (d ≡ c)) ys → coefficient (xs ++ ys) c ≡ coefficient xs c
coefficient_front [] [] c h = refl
coefficient_front [] (y ∷ ys) c h = ap (λ b. cond b y.factor (coefficient ys c)) (other_column y.column c h.0) ∙ coefficient_front [] ys c h.1
coefficient_front (x ∷ xs) ys c h = ap (λ z. cond (nat_eq x.column c) x.factor z) (coefficient_front xs ys c h)

coefficient_back : (xs ys : List Term) (c : ℕ) → EachColumn (λ d. ¬ (d ≡ c)) xs → coefficient (xs ++ ys) c ≡ coefficient ys c
coefficient_back [] ys c h = refl
coefficient_back (x ∷ xs) ys c h = ap (λ b. cond b x.factor (coefficient (xs ++ ys) c)) (other_column x.column c h.0) ∙ coefficient_back xs ys c h.1

pub pairs_are : (n : ℕ) (y : ℕ → Number) (i : ℕ) → i < n → multiplier (pairs_to n y) i ≡ y i
pairs_are zero y i l = absurd (omega arith)
pairs_are (suc n) y i l = elim (split i n l) as (λ _. multiplier (pairs_to (suc n) y) i ≡ y i) [
  | inl m ↦ ap (λ ts. coefficient ts i) (weights-append (pairs_to n y) (one_pair n (y n)))
      ∙ coefficient_front (weights (pairs_to n y)) (weights (one_pair n (y n))) i (each_more (λ c. n ≤ c) (λ d. ¬ (d ≡ i)) (weights (one_pair n (y n))) (λ c q e. absurd (omega (arith, q, e, m))) (last_from n (y n) (not_zero (y n).num)))
      ∙ pairs_are n y i m
  | inr m ↦ ap (λ ts. coefficient ts i) (weights-append (pairs_to n y) (one_pair n (y n)))
      ∙ coefficient_back (weights (pairs_to n y)) (weights (one_pair n (y n))) i (each_more (λ c. c < n) (λ d. ¬ (d ≡ i)) (weights (pairs_to n y)) (λ c q e. absurd (omega (arith, q, e, m))) (rows_below n y))
      ∙ ap (coefficient (weights (one_pair n (y n)))) m ∙ last (not_zero (y n).num) refl ∙ ap y (sym m)
]
  where
    split : (i n : ℕ) → i < suc n → (i < n) ⊎ (i ≡ n)
    split i n l = grind arith

    last : (b : Bool) → not_zero (y n).num ≡ b → coefficient (weights (if b then (n, y n) ∷ [] else [])) n ≡ y n
    last true e = ap (λ b. cond b (y n) (whole 0)) (own_column n)
    last false e = sym (zero_is (y n) e)

all-append : {X : Type 0} (P : X → Type 0) (xs ys : List X) → AllByRecursion P xs → AllByRecursion P ys → AllByRecursion P (xs ++ ys)
all-append P [] ys h i = i
all-append P (x ∷ xs) ys h i = (h.0, all-append P xs ys h.1 i)

lawful_to : (p : Problem) (n : ℕ) (y : ℕ → Number) → n ≤ length p.rows → IsSigned (linear_program p) y → AllByRecursion (IsLawfulPair p) (pairs_to n y)
lawful_to p zero y l h = tt
lawful_to p (suc n) y l h = all-append (IsLawfulPair p) (pairs_to n y) (one_pair n (y n)) (lawful_to p n y (omega arith) h) (last (not_zero (y n).num))
  where
    last : (b : Bool) → AllByRecursion (IsLawfulPair p) (if b then (n, y n) ∷ [] else [])
    last true = ((omega arith, h n (omega arith)), tt)
    last false = tt

pub pairs_lawful : (p : Problem) (y : ℕ → Number) → IsSigned (linear_program p) y → AreLawful p (pairs_to (length p.rows) y)
pairs_lawful p y h = lawful_to p (length p.rows) y (omega arith) h

-- ---- points
pub values_long : (n : ℕ) (f : ℕ → Number) → length (values_to n f) ≡ n
values_long zero f = refl
values_long (suc n) f = omega (arith, length-append (values_to n f) (f n ∷ []), values_long n f)

get_front : (xs ys : List Number) (j : ℕ) → j < length xs → get_or (xs ++ ys) j (whole 0) ≡ get_or xs j (whole 0)
get_front [] ys j l = absurd (omega arith)
get_front (x ∷ xs) ys zero l = refl
get_front (x ∷ xs) ys (suc j) l = get_front xs ys j (omega arith)

get_last : (xs : List Number) (x : Number) (j : ℕ) → j ≡ length xs → get_or (xs ++ x ∷ []) j (whole 0) ≡ x
get_last [] x zero e = refl
get_last [] x (suc j) e = absurd (omega arith)
get_last (y ∷ xs) x zero e = absurd (omega arith)
get_last (y ∷ xs) x (suc j) e = get_last xs x j (omega arith)

pub values_are : (n : ℕ) (f : ℕ → Number) (j : ℕ) → j < n → at (values_to n f) j ≡ f j
values_are zero f j l = absurd (omega arith)
values_are (suc n) f j l = elim (split j n l) as (λ _. at (values_to (suc n) f) j ≡ f j) [
  | inl m ↦ get_front (values_to n f) (f n ∷ []) j (rw (values_long n f) m) ∙ values_are n f j m
  | inr m ↦ get_last (values_to n f) (f n) j (m ∙ sym (values_long n f)) ∙ ap f (sym m)
]
  where
    split : (j n : ℕ) → j < suc n → (j < n) ⊎ (j ≡ n)
    split j n l = grind arith
