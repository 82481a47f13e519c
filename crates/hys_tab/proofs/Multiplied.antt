-- The multipliers that are read off a table's cost row.
use Rattle.std.proofs.Common.{◌≡◌, ◌≢◌, ltb, ℕ, zero, suc, ◌+◌, ◌<◌, ◌≤◌, ◌⊎◌, inl, inr, if◌then◌else◌, Bool, true, false, refl, sym, ◌∙◌, ap, ap₂, subst, arith, List, [], ◌∷◌, ◌++◌, length, slice_index_or, pos}
use Rattle.std.proofs.lemmas.Bool.{lt-ltb, ltb-true, le-ltb}
use Rattle.std.proofs.lemmas.List.{length-append}
use Rattle.std.proofs.lemmas.List.Elements.{All-get_or}
use Rattle.hys_number.specs.Number.{Number}
use Rattle.hys_number.specs.Ops.{◌+ₙ◌, ◌*ₙ◌, neg, whole}
use Rattle.hys_number.specs.Sums.{sum_to}
use Rattle.hys_number.proofs.Inverse.{zero_num}
use Rattle.hys_number.proofs.Ring.{by_ring, v, k, minus, ◌⊕◌, ◌⊗◌}
use Rattle.hys_relax.specs.Bound.{AreMultipliers}
use Rattle.hys_relax.specs.BoundSum.{not_zero}
use Rattle.hys_relax.proofs.Sums.{sum_zero}
use Rattle.hys_relax.proofs.Zeros.{zero_is}
use Rattle.hys_simplex.specs.Tableau.{Tableau, unit, coef, IsPlaced}
use Rattle.hys_simplex.specs.Unfit.{pairs_to}
use Rattle.hys_simplex.proofs.Pairs.{are_multipliers}
use Rattle.hys_simplex.proofs.Pivots.{same_place}
use Rattle.hys_simplex.proofs.Rows.{unit_yes, unit_no}
use Rattle.hys_simplex.proofs.Same.{same_yes}
use Rattle.hys_tab.specs.Cells.{cell_at, negated_cost, some_pair, DifferentBelow}
use Rattle.hys_tab.specs.Table.{Table, IsTable, tableau_of, multipliers_of}

-- ---- pairs
abbrev one_pair : Bool → ℕ → Number → List (ℕ × Number)
one_pair b i a = if b then (i, a) ∷ [] else []

pub some_no : (i : ℕ) (a : Number) → a ≡ whole 0 → some_pair i a ≡ []
some_no i a e = go (not_zero a.num) refl
  where
    go : (b : Bool) → not_zero a.num ≡ b → one_pair b i a ≡ []
    go true h = let q : not_zero (pos 0) ≡ true = subst (λ z. not_zero z ≡ true) ((zero_num a).1 e) h in absurd (cc)
    go false h = refl

pub some_yes : (i : ℕ) (a : Number) → a ≢ whole 0 → some_pair i a ≡ (i, a) ∷ []
some_yes i a d = go (not_zero a.num) refl
  where
    go : (b : Bool) → not_zero a.num ≡ b → one_pair b i a ≡ (i, a) ∷ []
    go true h = refl
    go false h = absurd (d (zero_is a h))

pub pairs_next : (n : ℕ) (y : ℕ → Number) (a : Number) → a ≡ y n → pairs_to n y ++ some_pair n a ≡ pairs_to (n + 1) y
pairs_next n y a e = ap (λ z. pairs_to n y ++ some_pair n z) e ∙ ap (λ z. pairs_to z y) (next n)
  where
    next : (n : ℕ) → suc n ≡ n + 1
    next n = omega arith

pub pairs_same : (n : ℕ) (y z : ℕ → Number) → ((i : ℕ) → i < n → y i ≡ z i) → pairs_to n y ≡ pairs_to n z
pairs_same zero y z h = refl
pairs_same (suc n) y z h = ap₂ ◌++◌ (pairs_same n y z (λ i l. h i (omega arith))) (ap (some_pair n) (h n (omega arith)))

-- ---- the negated costs, column by column
next_sum : (n : ℕ) (f : ℕ → Number) → sum_to (n + 1) f ≡ sum_to n f +ₙ f n
next_sum n f = ap (λ z. sum_to z f) (next n)
  where
    next : (n : ℕ) → n + 1 ≡ suc n
    next n = omega arith

pub first_cost : (cells : List Number) (os : List ℕ) (m i : ℕ) (a : Number) → a ≡ whole 0 → a ≡ negated_cost cells os m 0 i
first_cost cells os m i a e = e ∙ by_ring [] (k 0) (minus (k 0)) refl

pub own_cost : (cells : List Number) (os : List ℕ) (m j i limit : ℕ) (a : Number) → DifferentBelow limit os → j < length os → slice_index_or os j 0 ≡ length os + i →
    a ≡ neg (cell_at cells (length os + 1) m j) → a ≡ negated_cost cells os m (j + 1) i
own_cost cells os m j i limit a h l e q = q ∙ ap neg (sym (next_sum j _ ∙ ap₂ ◌+ₙ◌
    (sum_zero j (λ q. cell_at cells (length os + 1) m q *ₙ unit (length os + i) (slice_index_or os q 0))
    (λ q lq. ap (λ z. cell_at cells (length os + 1) m q *ₙ z) (unit_no (length os + i) (slice_index_or os q 0) (λ f. absurd (omega (arith, lq, h.once q j (omega (arith, lq, l)) l (f ∙ sym e))))) ∙ by_ring (cell_at cells (length os + 1) m q ∷ []) (v 0 ⊗ k 0) (k 0) refl))
    (ap (λ z. cell_at cells (length os + 1) m j *ₙ unit (length os + i) z) e ∙ ap (λ z. cell_at cells (length os + 1) m j *ₙ z) (unit_yes (length os + i)))
    ∙ by_ring (cell_at cells (length os + 1) m j ∷ []) (k 0 ⊕ v 0 ⊗ k 1) (v 0) refl))

pub other_cost : (cells : List Number) (os : List ℕ) (m j i : ℕ) (a : Number) → slice_index_or os j 0 ≢ length os + i → a ≡ negated_cost cells os m j i → a ≡ negated_cost cells os m (j + 1) i
other_cost cells os m j i a d q = q ∙ ap neg (sym (next_sum j (λ q. cell_at cells (length os + 1) m q *ₙ unit (length os + i) (slice_index_or os q 0))
    ∙ ap (λ z. sum_to j (λ q. cell_at cells (length os + 1) m q *ₙ unit (length os + i) (slice_index_or os q 0)) +ₙ cell_at cells (length os + 1) m j *ₙ z) (unit_no (length os + i) (slice_index_or os j 0) d)
    ∙ by_ring (sum_to j (λ q. cell_at cells (length os + 1) m q *ₙ unit (length os + i) (slice_index_or os q 0)) ∷ cell_at cells (length os + 1) m j ∷ []) (v 0 ⊕ v 1 ⊗ k 0) (v 0) refl))

-- one more column
pub next_costs : (cells ws ws' : List Number) (os : List ℕ) (m j x limit : ℕ) (a : Number) → DifferentBelow limit os → j < length os → x ≡ slice_index_or os j 0 → a ≡ cell_at cells (length os + 1) m j →
    ((i : ℕ) → i < m → x ≡ length os + i → slice_index_or ws' i (whole 0) ≡ neg a) →
    ((i : ℕ) → x ≢ length os + i → slice_index_or ws' i (whole 0) ≡ slice_index_or ws i (whole 0)) →
    ((i : ℕ) → i < m → slice_index_or ws i (whole 0) ≡ negated_cost cells os m j i) → (i : ℕ) → i < m → slice_index_or ws' i (whole 0) ≡ negated_cost cells os m (j + 1) i
next_costs cells ws ws' os m j x limit a h l ex ea there others before i li = elim (same_place x (length os + i)) as (λ _. slice_index_or ws' i (whole 0) ≡ negated_cost cells os m (j + 1) i) [
  | inl e ↦ own_cost cells os m j i limit (slice_index_or ws' i (whole 0)) h l (sym ex ∙ e) (there i li e ∙ ap neg ea)
  | inr d ↦ other_cost cells os m j i (slice_index_or ws' i (whole 0)) (λ e. d (ex ∙ e)) (others i d ∙ before i li)
]

-- ---- of a table
pub outside_differ : (t : Table) → IsTable t → DifferentBelow (length t.outsides + length t.basics) t.outsides
outside_differ t h = record {
  below = λ j l. All-get_or (λ u. u < length t.outsides + length t.basics) t.outsides j 0 l h.outsides;
  once = λ i j l l' e. h.placed.once i j l l' e;
}

-- the cost is basic in the cost row, and so no slack is
pub cost_is : (t : Table) → (i : ℕ) → i < length t.basics → negated_cost t.cells t.outsides (length t.basics) (length t.outsides) i ≡ neg (coef (tableau_of t) (length t.basics) (length t.outsides + i))
cost_is t i l = ap neg (sym (ap (λ z. z +ₙ sum_to (length t.outsides) (λ q. cell_at t.cells (length t.outsides + 1) (length t.basics) q *ₙ unit (length t.outsides + i) (slice_index_or t.outsides q 0))) (ap (unit (length t.outsides + i)) (rw (same_yes (length t.basics)) refl) ∙ unit_no (length t.outsides + i) (length t.outsides + length t.basics) (λ e. absurd (omega (arith, l, e))))
    ∙ by_ring (sum_to (length t.outsides) (λ q. cell_at t.cells (length t.outsides + 1) (length t.basics) q *ₙ unit (length t.outsides + i) (slice_index_or t.outsides q 0)) ∷ []) (k 0 ⊕ v 0) (v 0) refl))

pub pairs_are_read : (t : Table) (xs : List (ℕ × Number)) (ws : List Number) → length ws ≡ length t.basics →
    ((i : ℕ) → i < length t.basics → slice_index_or ws i (whole 0) ≡ negated_cost t.cells t.outsides (length t.basics) (length t.outsides) i) →
    xs ≡ pairs_to (length ws) (λ i. slice_index_or ws i (whole 0)) → xs ≡ multipliers_of (tableau_of t)
pairs_are_read t xs ws e h q = q ∙ ap (λ z. pairs_to z (λ i. slice_index_or ws i (whole 0))) e ∙ pairs_same (length t.basics) _ _ (λ i l. h i l ∙ cost_is t i l)

-- ---- no more of them than columns
-- how many of the first n places pass
abbrev count : ℕ → (ℕ → Bool) → ℕ
count zero p = 0
count (suc n) p = if p n then suc (count n p) else count n p

count_most : (n : ℕ) (p : ℕ → Bool) → count n p ≤ n
count_most zero p = omega arith
count_most (suc n) p = go (p n) (count_most n p)
  where
    go : (b : Bool) → count n p ≤ n → (if b then suc (count n p) else count n p) ≤ suc n
    go true l = omega (arith, l)
    go false l = omega (arith, l)

count_more : (n : ℕ) (p q : ℕ → Bool) → ((i : ℕ) → i < n → p i ≡ true → q i ≡ true) → count n p ≤ count n q
count_more zero p q h = omega arith
count_more (suc n) p q h = go (p n) (q n) (h n (omega arith)) (count_more n p q (λ i l. h i (omega (arith, l))))
  where
    go : (a b : Bool) → (a ≡ true → b ≡ true) → count n p ≤ count n q → (if a then suc (count n p) else count n p) ≤ (if b then suc (count n q) else count n q)
    go true true h l = omega (arith, l)
    go true false h l = let e : false ≡ true = h refl in absurd (cc)
    go false true h l = omega (arith, l)
    go false false h l = omega (arith, l)

-- with one place more
count_one : (n c : ℕ) (p q : ℕ → Bool) → c < n → p c ≡ false → q c ≡ true → ((i : ℕ) → i < n → p i ≡ true → q i ≡ true) → suc (count n p) ≤ count n q
count_one zero c p q l e f h = absurd (omega arith)
count_one (suc n) c p q l e f h = go (same_place c n) (λ m. count_one n c p q m e f (λ i o. h i (omega (arith, o))))
  where
    both : (a b : Bool) → (a ≡ true → b ≡ true) → suc (count n p) ≤ count n q → suc (if a then suc (count n p) else count n p) ≤ (if b then suc (count n q) else count n q)
    both true true h l = omega (arith, l)
    both true false h l = let e : false ≡ true = h refl in absurd (cc)
    both false true h l = omega (arith, l)
    both false false h l = omega (arith, l)

    here : (a b : Bool) → a ≡ false → b ≡ true → count n p ≤ count n q → suc (if a then suc (count n p) else count n p) ≤ (if b then suc (count n q) else count n q)
    here a b ea eb l = rw (ea, eb) (omega (arith, l))

    go : (c ≡ n) ⊎ (c ≢ n) → (c < n → suc (count n p) ≤ count n q) → suc (if p n then suc (count n p) else count n p) ≤ (if q n then suc (count n q) else count n q)
    go (inl s) less = here (p n) (q n) (ap p (sym s) ∙ e) (ap q (sym s) ∙ f) (count_more n p q (λ i m. h i (omega (arith, m))))
    go (inr d) less = both (p n) (q n) (h n (omega arith)) (less (omega (arith, l, d)))

-- the variable of the column comes before the slack of row i
abbrev early : Tableau → ℕ → ℕ → ℕ → Bool
early T n i j = ltb (T.outside j) (n + i)

one_at_most : (i : ℕ) (a : Number) → length (some_pair i a) ≤ 1
one_at_most i a = go (not_zero a.num)
  where
    go : (b : Bool) → length (one_pair b i a) ≤ 1
    go true = omega arith
    go false = omega arith

-- the pairs of the first rows are at most the columns in which their slacks stand
pairs_few : (n m : ℕ) (T : Tableau) → IsPlaced n m T → (y : ℕ → Number) → ((i : ℕ) → i < m → ((j : ℕ) → j < n → T.outside j ≢ n + i) → y i ≡ whole 0) →
    (i : ℕ) → i ≤ m → length (pairs_to i y) ≤ count n (early T n i)
pairs_few n m T s y z zero l = omega arith
pairs_few n m T s y z (suc i) l = go (s.somewhere (n + i) (omega (arith, l))) (pairs_few n m T s y z i (omega (arith, l)))
  where
    more : (j : ℕ) → j < n → early T n i j ≡ true → early T n (suc i) j ≡ true
    more j lj e = lt-ltb (T.outside j) (n + suc i) (omega (arith, ltb-true (T.outside j) (n + i) e))

    go : ((a : ℕ) × (a < m) × (T.basic a ≡ n + i)) ⊎ ((j : ℕ) × (j < n) × (T.outside j ≡ n + i)) → length (pairs_to i y) ≤ count n (early T n i) →
        length (pairs_to i y ++ some_pair i (y i)) ≤ count n (early T n (suc i))
    go (inl w) h =
        let e : some_pair i (y i) ≡ [] = some_no i (y i) (z i (omega (arith, l)) (λ j lj f. s.apart w.0 j (omega (arith, w.1)) lj (w.2 ∙ sym f))) in
        rw e (omega (arith, length-append (pairs_to i y) [], h, count_more n (early T n i) (early T n (suc i)) more))
    go (inr w) h = omega (
      arith,
      length-append (pairs_to i y) (some_pair i (y i)),
      one_at_most i (y i),
      h,
      count_one n w.0 (early T n i) (early T n (suc i)) w.1 (le-ltb (T.outside w.0) (n + i) (omega (arith, w.2))) (lt-ltb (T.outside w.0) (n + suc i) (omega (arith, w.2))) more,
    )

-- a slack that stands in no column has the multiplier 0
no_column : (t : Table) (i : ℕ) → i < length t.basics → ((j : ℕ) → j < length t.outsides → (tableau_of t).outside j ≢ length t.outsides + i) →
    neg (coef (tableau_of t) (length t.basics) (length t.outsides + i)) ≡ whole 0
no_column t i l h = sym (cost_is t i l) ∙ ap neg (sum_zero (length t.outsides) (λ q. cell_at t.cells (length t.outsides + 1) (length t.basics) q *ₙ unit (length t.outsides + i) (slice_index_or t.outsides q 0))
    (λ q lq. ap (λ z. cell_at t.cells (length t.outsides + 1) (length t.basics) q *ₙ z) (unit_no (length t.outsides + i) (slice_index_or t.outsides q 0) (h q lq)) ∙ by_ring (cell_at t.cells (length t.outsides + 1) (length t.basics) q ∷ []) (v 0 ⊗ k 0) (k 0) refl))
    ∙ by_ring [] (minus (k 0)) (k 0) refl

pub read_few : (t : Table) (xs : List (ℕ × Number)) → IsTable t → xs ≡ multipliers_of (tableau_of t) → length xs ≤ length t.outsides
read_few t xs h e =
    let y : ℕ → Number = λ i. neg (coef (tableau_of t) (length t.basics) (length t.outsides + i)) in
    omega (
      arith,
      ap length e,
      pairs_few (length t.outsides) (length t.basics) (tableau_of t) h.placed y (no_column t) (length t.basics) (omega arith),
      count_most (length t.outsides) (early (tableau_of t) (length t.outsides) (length t.basics)),
    )

pub read_rise : (t : Table) (xs : List (ℕ × Number)) → xs ≡ multipliers_of (tableau_of t) → AreMultipliers xs
read_rise t xs e = subst AreMultipliers (sym e) (are_multipliers (length t.basics) _)

-- the same where the lists and sizes are known under other names
pub pairs_in : (t : Table) (xs : List (ℕ × Number)) (cells : List Number) (os : List ℕ) (vs ws : List Number) (m : ℕ) → m ≡ length t.basics → cells ≡ t.cells → os ≡ t.outsides → vs ≡ ws →
    length ws ≡ m → ((i : ℕ) → i < m → slice_index_or ws i (whole 0) ≡ negated_cost cells os m (length os) i) →
    xs ≡ pairs_to (length vs) (λ i. slice_index_or vs i (whole 0)) → xs ≡ multipliers_of (tableau_of t)
pairs_in t xs cells os vs ws m em ec eo ev e h q = pairs_are_read t xs ws (e ∙ em) (rw (em, ec, eo) at h) (q ∙ ap (λ us. pairs_to (length us) (λ i. slice_index_or us i (whole 0))) ev)
