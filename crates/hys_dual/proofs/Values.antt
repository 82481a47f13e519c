-- Basic values, column by column.
use Rattle.std.proofs.Common.{◌≡◌, ℕ, zero, suc, ◌+◌, ◌<◌, ◌⊎◌, inl, inr, refl, sym, ◌∙◌, ap, ap₂, subst, arith, Bool, true, false, not, ◌||◌, List, [], ◌∷◌, ◌++◌, Some}
use Rattle.std.specs.List.{list_any}
use Rattle.hys_number.specs.Number.{Number}
use Rattle.hys_number.specs.Ops.{◌-ₙ◌, ◌*ₙ◌, fits}
use Rattle.hys_number.specs.Sums.{sum_to}
use Rattle.hys_number.proofs.Bools.{or_true}
use Rattle.hys_number.proofs.Ring.{by_ring, v, k, ◌⊕◌, ◌⊖◌}
use Rattle.hys_lin.specs.Operations.{outcome, times, minus, first_lost}
use Rattle.hys_lin.specs.declared.lost.Lost.{Lost}
use Rattle.hys_relax.specs.BoundSum.{joined_to}
use Rattle.hys_relax.specs.Node.{Boxes}
use Rattle.hys_relax.specs.LinearProgram.{LinearProgram}
use Rattle.hys_simplex.specs.Tableau.{Tableau}
use Rattle.hys_simplex.specs.Status.{end_value, basic_value, InRange}
use Rattle.hys_simplex.specs.Unfit.{SomeUnfit, value_operations}
use Rattle.hys_simplex.proofs.Shown.{lost_is_unfit}

-- ---- one operation of many
any_left : {X : Type 0} (t : X → Bool) (xs ys : List X) → list_any t xs ≡ true → list_any t (xs ++ ys) ≡ true
any_left t [] ys e = absurd (cc)
any_left t (x ∷ xs) ys e = go (t x) (list_any t xs) (list_any t (xs ++ ys)) e (any_left t xs ys)
  where
    go : (a b c : Bool) → a || b ≡ true → (b ≡ true → c ≡ true) → a || c ≡ true
    go true b c e h = refl
    go false b c e h = h e

any_right : {X : Type 0} (t : X → Bool) (xs ys : List X) → list_any t ys ≡ true → list_any t (xs ++ ys) ≡ true
any_right t [] ys e = e
any_right t (x ∷ xs) ys e = or_true (t x) (list_any t (xs ++ ys)) (inr (any_right t xs ys e))

below_last : (j n : ℕ) → j < suc n → (j < n) ⊎ (j ≡ n)
below_last j n l = grind arith

pub some_joined : (n j : ℕ) (f : ℕ → List Lost) → j < n → SomeUnfit fits (f j) → SomeUnfit fits (joined_to n f)
some_joined zero j f l h = absurd (omega arith)
some_joined (suc n) j f l h = elim (below_last j n l) as (λ _. SomeUnfit fits (joined_to n f ++ f n)) [
  | inl q ↦ any_left (λ o. not (fits (outcome o))) (joined_to n f) (f n) (some_joined n j f q h)
  | inr q ↦ any_right (λ o. not (fits (outcome o))) (joined_to n f) (f n) (subst (λ z. SomeUnfit fits (f z)) q h)
]

-- ---- partial sums
abbrev pub part_value : LinearProgram → Boxes → Tableau → ℕ → ℕ → Number
part_value P B T i n = T.cell i T.columns -ₙ sum_to n (λ j. T.cell i j *ₙ end_value P B T j)

pub value_begins : (P : LinearProgram) (B : Boxes) (T : Tableau) (i : ℕ) (sum : Number) → sum ≡ T.cell i T.columns → sum ≡ part_value P B T i 0
value_begins P B T i sum e = e ∙ by_ring (T.cell i T.columns ∷ []) (v 0) (v 0 ⊖ k 0) refl

pub value_next : (P : LinearProgram) (B : Boxes) (T : Tableau) (i n : ℕ) (sum next cell value : Number) → sum ≡ part_value P B T i n → next ≡ sum -ₙ cell *ₙ value → cell ≡ T.cell i n → value ≡ end_value P B T n →
    next ≡ part_value P B T i (n + 1)
value_next P B T i n sum next cell value e f ec ev =
    f ∙ ap₂ (λ s p. s -ₙ p) e (ap₂ ◌*ₙ◌ ec ev)
    ∙ by_ring (T.cell i T.columns ∷ sum_to n (λ j. T.cell i j *ₙ end_value P B T j) ∷ (T.cell i n *ₙ end_value P B T n) ∷ []) (v 0 ⊖ v 1 ⊖ v 2) (v 0 ⊖ (v 1 ⊕ v 2)) refl
    ∙ ap (part_value P B T i) one_more
  where
    one_more : suc n ≡ n + 1
    one_more = omega arith

pub value_lost : (P : LinearProgram) (B : Boxes) (T : Tableau) (i n : ℕ) (sum cell value : Number) (lost : Lost) → sum ≡ part_value P B T i n → cell ≡ T.cell i n → value ≡ end_value P B T n → n < T.columns →
    first_lost (times cell value ∷ minus sum (cell *ₙ value) ∷ []) ≡ Some lost → SomeUnfit fits (value_operations P B T i)
value_lost P B T i n sum cell value lost e ec ev l h = some_joined T.columns n (λ j. times (T.cell i j) (end_value P B T j) ∷ minus (part_value P B T i j) (T.cell i j *ₙ end_value P B T j) ∷ []) l
    (lost_is_unfit (times (T.cell i n) (end_value P B T n) ∷ minus (part_value P B T i n) (T.cell i n *ₙ end_value P B T n) ∷ []) lost (ap₂ (λ a b. first_lost (a ∷ b ∷ [])) (ap₂ times (sym ec) (sym ev)) (ap₂ minus (sym e) (ap₂ ◌*ₙ◌ (sym ec) (sym ev))) ∙ h))

-- ---- rows
below_or_at : (q t : ℕ) → q < t + 1 → (q < t) ⊎ (q ≡ t)
below_or_at q t l = grind arith

abbrev pub AreInsideBelow : LinearProgram → Boxes → Tableau → ℕ → Type 0
AreInsideBelow P B T n = (i : ℕ) → i < n → InRange P B (T.basic i) (basic_value P B T i)

pub inside_next : (P : LinearProgram) (B : Boxes) (T : Tableau) (n : ℕ) → InRange P B (T.basic n) (basic_value P B T n) → AreInsideBelow P B T n → AreInsideBelow P B T (n + 1)
inside_next P B T n e h i l = elim (below_or_at i n l) as (λ _. InRange P B (T.basic i) (basic_value P B T i)) [
  | inl q ↦ h i q
  | inr q ↦ subst (λ z. InRange P B (T.basic z) (basic_value P B T z)) (sym q) e
]
