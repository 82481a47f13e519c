-- A pivot in memory is the tableau's, and the first cell that is shown is the first that doesn't fit under it.
use Rattle.std.proofs.Common.{◌≡◌, ◌≢◌, ℕ, ◌+◌, ◌*◌, ◌^◌, ◌<◌, ◌≤◌, ◌==◌, ◌&&◌, ◌⊎◌, inl, inr, if◌then◌else◌, Bool, true, false, refl, sym, ◌∙◌, ap, subst, arith, Some, None, List, length, slice_index_or, slice_set}
use Rattle.std.proofs.lemmas.List.{get_or-set_same, get_or-set_other, length-set}
use Rattle.std.proofs.lemmas.List.Elements.{All-from_get_or, All-get_or}
use Rattle.hys_number.specs.Number.{Number}
use Rattle.hys_number.specs.Ops.{fits}
use Rattle.hys_simplex.specs.Tableau.{start, pivoted, pivot, put}
use Rattle.hys_simplex.specs.Unfit.{subtracted, CellUnfit}
use Rattle.hys_simplex.specs.Alike.{IsAlike}
use Rattle.hys_simplex.proofs.Same.{same_yes, same_no}
use Rattle.hys_simplex.proofs.Pivots.{put_at, put_else, same_place}
use Rattle.hys_relax.specs.LinearProgram.{LinearProgram}
use Rattle.hys_tab.specs.Cells.{cell_at, fits_under, IsFirstAt, AllFit}
use Rattle.hys_tab.specs.Table.{Table, IsTable, tableau_of}
use Rattle.hys_tab.specs.Fits.{IsBefore, IsFirstUnfit, FitsUnder}
use Rattle.hys_tab.proofs.Placing.{begins_placed, pivot_stands}
use Rattle.hys_tab.proofs.Steps.{fits_in_row, fits_in_column, fits_apart}

-- ---- which cells fit
one_false : (a b : Bool) → (a && b) ≡ false → (a ≡ false) ⊎ (b ≡ false)
one_false true true e = absurd (cc)
one_false true false e = inr refl
one_false false b e = inl refl

both_true : (a b : Bool) → (a && b) ≡ true → (a ≡ true) × (b ≡ true)
both_true true true e = (refl, refl)
both_true true false e = absurd (cc)
both_true false b e = absurd (cc)

clash : (a : Bool) → a ≡ true → a ≡ false → ⊥
clash a e f = cc

pub unfit_yes : (M : ℕ → ℕ → Number) (r c i j : ℕ) → fits_under M r c i j ≡ false → CellUnfit fits M r c i j
unfit_yes M r c i j e = elim (same_place i r) as (λ _. CellUnfit fits M r c i j) [
  | inl q ↦ inl (sym (fits_in_row M r c i j q) ∙ e)
  | inr d ↦ elim (same_place j c) as (λ _. CellUnfit fits M r c i j) [
    | inl q ↦ inl (sym (fits_in_column M r c i j d q) ∙ e)
    | inr d' ↦ elim (one_false (fits (subtracted M r c i j)) (fits (pivoted M r c i j)) (sym (fits_apart M r c i j d d') ∙ e)) as (λ _. CellUnfit fits M r c i j) [
      | inl f ↦ inr ((d, d'), f)
      | inr f ↦ inl f
    ]
  ]
]

pub unfit_no : (M : ℕ → ℕ → Number) (r c i j : ℕ) → fits_under M r c i j ≡ true → ¬ (CellUnfit fits M r c i j)
unfit_no M r c i j e u = elim (same_place i r) as (λ _. ⊥) [
  | inl q ↦ only (λ p. p.0.0 q) (sym (fits_in_row M r c i j q) ∙ e) u
  | inr d ↦ elim (same_place j c) as (λ _. ⊥) [
    | inl q ↦ only (λ p. p.0.1 q) (sym (fits_in_column M r c i j d q) ∙ e) u
    | inr d' ↦ let b : (fits (subtracted M r c i j) ≡ true) × (fits (pivoted M r c i j) ≡ true) = both_true (fits (subtracted M r c i j)) (fits (pivoted M r c i j)) (sym (fits_apart M r c i j d d') ∙ e) in
        only (λ p. clash _ b.0 p.1) b.1 u
  ]
]
  where
    only : {A : Type 0} {x : Bool} → (A → ⊥) → x ≡ true → (x ≡ false) ⊎ A → ⊥
    only h f (inl g) = clash _ f g
    only h f (inr a) = h a

pub first_is : (t : Table) (r c i j : ℕ) → IsFirstAt (fits_under (tableau_of t).cell r c) (length t.basics + 1) (length t.outsides + 1) (Some (i, j)) → IsFirstUnfit (tableau_of t) r c i j
first_is t r c i j s = record {
  in_rows = omega (arith, s.0);
  in_columns = omega (arith, s.1);
  unfit = unfit_yes (tableau_of t).cell r c i j s.2;
  before = λ a b l h. unfit_no (tableau_of t).cell r c a b (earlier a b l h);
}
  where
    earlier : (a b : ℕ) → b ≤ length t.outsides → IsBefore a b i j → fits_under (tableau_of t).cell r c a b ≡ true
    earlier a b l (inl h) = s.4 a b h (omega arith)
    earlier a b l (inr h) = subst (λ z. fits_under (tableau_of t).cell r c z b ≡ true) (sym h.0) (s.3 b h.1)

pub all_fit : (t : Table) (r c : ℕ) → IsFirstAt (fits_under (tableau_of t).cell r c) (length t.basics + 1) (length t.outsides + 1) None → FitsUnder (tableau_of t) r c
all_fit t r c s = λ i j l m. unfit_no (tableau_of t).cell r c i j (s i j (omega arith) (omega arith))

-- ---- the exchange
-- a place of the list with one number put
exchanged : (bs : List ℕ) (r x i : ℕ) → r < length bs → (i ≡ r) ⊎ (i ≢ r) → slice_index_or (slice_set bs r x) i 0 ≡ put (λ k. slice_index_or bs k 0) r x i
exchanged bs r x i l (inl e) = subst (λ z. slice_index_or (slice_set bs r x) z 0 ≡ put (λ k. slice_index_or bs k 0) r x z) (sym e) (get_or-set_same bs r x 0 l ∙ sym (put_at (λ k. slice_index_or bs k 0) r x))
exchanged bs r x i l (inr d) = get_or-set_other bs r i x 0 d ∙ sym (put_else (λ k. slice_index_or bs k 0) r x i d)

-- and the cost's last row
with_cost : (bs : List ℕ) (n n' r x i : ℕ) → n ≡ n' → r < length bs → (i ≡ length bs) ⊎ (i ≢ length bs) →
    (if i == length (slice_set bs r x) then n + length (slice_set bs r x) else slice_index_or (slice_set bs r x) i 0)
    ≡ put (λ k. if k == length bs then n' + length bs else slice_index_or bs k 0) r x i
with_cost bs n n' r x i e l (inl q) =
    subst (λ z. (if z == length (slice_set bs r x) then n + length (slice_set bs r x) else slice_index_or (slice_set bs r x) z 0) ≡ put (λ k. if k == length bs then n' + length bs else slice_index_or bs k 0) r x z) (sym q)
    (rw (length-set bs r x, same_yes (length bs), same_no (length bs) r (λ z. absurd (omega (arith, l, z)))) (ap (λ z. z + length bs) e))
with_cost bs n n' r x i e l (inr d) = elim (same_place i r) as (λ _. (if i == length (slice_set bs r x) then n + length (slice_set bs r x) else slice_index_or (slice_set bs r x) i 0) ≡ put (λ k. if k == length bs then n' + length bs else slice_index_or bs k 0) r x i) [
  | inl q ↦ left ∙ exchanged bs r x i l (inl q) ∙ subst (λ z. put (λ k. slice_index_or bs k 0) r x z ≡ put (λ k. if k == length bs then n' + length bs else slice_index_or bs k 0) r x z) (sym q) (put_at (λ k. slice_index_or bs k 0) r x ∙ sym (put_at (λ k. if k == length bs then n' + length bs else slice_index_or bs k 0) r x))
  | inr q ↦ left ∙ get_or-set_other bs r i x 0 q ∙ sym (put_else (λ k. if k == length bs then n' + length bs else slice_index_or bs k 0) r x i q ∙ rw (same_no i (length bs) (λ z. d (sym z))) refl)
]
  where
    left : (if i == length (slice_set bs r x) then n + length (slice_set bs r x) else slice_index_or (slice_set bs r x) i 0) ≡ slice_index_or (slice_set bs r x) i 0
    left = rw (length-set bs r x, same_no i (length bs) (λ z. d (sym z))) refl

pub pivot_is : (t : Table) (ys : List Number) (r c x y : ℕ) → r < length t.basics → c < length t.outsides → x ≡ (tableau_of t).outside c → y ≡ slice_index_or t.basics r 0 →
    ((a b : ℕ) → a < length t.basics + 1 → b < length t.outsides + 1 → cell_at ys (length t.outsides + 1) a b ≡ pivoted (tableau_of t).cell r c a b) →
    IsAlike (tableau_of (record { cells = ys; basics = slice_set t.basics r x; outsides = slice_set t.outsides c y })) (pivot (tableau_of t) r c)
pivot_is t ys r c x y lr lc ex ey done = record {
  wide = length-set t.outsides c y;
  tall = length-set t.basics r x;
  cells = λ i j l m. ap (λ z. cell_at ys (z + 1) i j) (length-set t.outsides c y) ∙ done i j (omega (arith, l, length-set t.basics r x)) (omega (arith, m, length-set t.outsides c y));
  basics = λ i l. with_cost t.basics _ _ r x i (length-set t.outsides c y) lr (same_place i (length t.basics)) ∙ ap (λ z. put (tableau_of t).basic r z i) ex;
  outsides = λ j l. exchanged t.outsides c y j lc (same_place j c) ∙ ap (λ z. put (tableau_of t).outside c z j) (ey ∙ sym basic_r);
}
  where
    basic_r : (tableau_of t).basic r ≡ slice_index_or t.basics r 0
    basic_r = rw (same_no r (length t.basics) (λ z. absurd (omega (arith, lr, z)))) refl

-- ---- the same where the lists and sizes are known under other names
pub first_in : (t : Table) (xs : List Number) (m n r c i j : ℕ) → m ≡ length t.basics → n ≡ length t.outsides → xs ≡ t.cells →
    IsFirstAt (fits_under (cell_at xs (n + 1)) r c) (m + 1) (n + 1) (Some (i, j)) → IsFirstUnfit (tableau_of t) r c i j
first_in t xs m n r c i j e f g s = first_is t r c i j (rw (e, f, g) at s)

pub pivot_in : (t : Table) (xs ys : List Number) (m n r c x y : ℕ) → m ≡ length t.basics → n ≡ length t.outsides → xs ≡ t.cells → r < length t.basics → c < length t.outsides →
    x ≡ slice_index_or t.outsides c 0 → y ≡ slice_index_or t.basics r 0 →
    ((a b : ℕ) → a < m + 1 → b < n + 1 → cell_at ys (n + 1) a b ≡ pivoted (cell_at xs (n + 1)) r c a b) →
    IsAlike (tableau_of (record { cells = ys; basics = slice_set t.basics r x; outsides = slice_set t.outsides c y })) (pivot (tableau_of t) r c)
pivot_in t xs ys m n r c x y e f g lr lc ex ey done = pivot_is t ys r c x y lr lc ex ey (rw (e, f, g) at done)

-- ---- the slack basis
pub begins : (ys : List Number) (bs os : List ℕ) (m n : ℕ) → length ys ≡ (m + 1) * (n + 1) → m < 2 ^ 32 → n < 2 ^ 32 → length bs ≡ m → ((i : ℕ) → i < m → slice_index_or bs i 0 ≡ n + i) →
    length os ≡ n → ((i : ℕ) → i < n → slice_index_or os i 0 ≡ 0 + i) → AllFit ys (m + 1) (n + 1) → IsTable (record { cells = ys; basics = bs; outsides = os })
begins ys bs os m n e lm ln em b en o f = record {
  shape = rw (em, en) e;
  few_rows = rw em lm;
  few_columns = rw en ln;
  basics = All-from_get_or (λ u. u < length os + length bs) bs 0 (λ i l. omega (arith, em, en, b i (omega (arith, l, em))));
  outsides = All-from_get_or (λ u. u < length os + length bs) os 0 (λ i l. omega (arith, em, en, l, o i (omega (arith, l, en))));
  fit = rw (em, en) f;
  placed = begins_placed ys bs os m n em b en o;
}

pub begins_alike : (P : LinearProgram) (ys : List Number) (bs os : List ℕ) → length bs ≡ P.rows → ((i : ℕ) → i < P.rows → slice_index_or bs i 0 ≡ P.columns + i) →
    length os ≡ P.columns → ((i : ℕ) → i < P.columns → slice_index_or os i 0 ≡ 0 + i) →
    ((a b : ℕ) → a < P.rows + 1 → b < P.columns + 1 → cell_at ys (P.columns + 1) a b ≡ (start P).cell a b) → IsAlike (tableau_of (record { cells = ys; basics = bs; outsides = os })) (start P)
begins_alike P ys bs os em b en o cs = record {
  wide = en;
  tall = em;
  cells = λ i j l m. ap (λ z. cell_at ys (z + 1) i j) en ∙ cs i j (omega (arith, l, em)) (omega (arith, m, en));
  basics = λ i l. basic_is i (same_place i (length bs)) (omega (arith, l));
  outsides = λ j l. o j (omega (arith, l, en)) ∙ omega arith;
}
  where
    basic_is : (i : ℕ) → (i ≡ length bs) ⊎ (i ≢ length bs) → i ≤ length bs → (if i == length bs then length os + length bs else slice_index_or bs i 0) ≡ P.columns + i
    basic_is i (inl e) l = subst (λ z. (if z == length bs then length os + length bs else slice_index_or bs z 0) ≡ P.columns + z) (sym e) (rw (same_yes (length bs)) (omega (arith, en)))
    basic_is i (inr d) l = rw (same_no i (length bs) (λ z. d (sym z))) (b i (omega (arith, l, d, em)))

-- ---- the table after a pivot
fits_new : (M : ℕ → ℕ → Number) (r c i j : ℕ) → fits_under M r c i j ≡ true → fits (pivoted M r c i j) ≡ true
fits_new M r c i j e = elim (same_place i r) as (λ _. fits (pivoted M r c i j) ≡ true) [
  | inl q ↦ sym (fits_in_row M r c i j q) ∙ e
  | inr d ↦ elim (same_place j c) as (λ _. fits (pivoted M r c i j) ≡ true) [
    | inl q ↦ sym (fits_in_column M r c i j d q) ∙ e
    | inr d' ↦ (both_true (fits (subtracted M r c i j)) (fits (pivoted M r c i j)) (sym (fits_apart M r c i j d d') ∙ e)).1
  ]
]

-- numbers below a limit, with one more put
all_below : (k : ℕ) (bs : List ℕ) (r x : ℕ) → r < length bs → x < k → ((i : ℕ) → i < length bs → slice_index_or bs i 0 < k) → (i : ℕ) → i < length bs → slice_index_or (slice_set bs r x) i 0 < k
all_below k bs r x l m h i li = elim (same_place i r) as (λ _. slice_index_or (slice_set bs r x) i 0 < k) [
  | inl q ↦ subst (λ z. slice_index_or (slice_set bs r x) z 0 < k) (sym q) (rw (get_or-set_same bs r x 0 l) m)
  | inr d ↦ rw (get_or-set_other bs r i x 0 d) (h i li)
]

pub pivoted_table : (t : Table) (xs ys zs : List Number) (m n r c x y : ℕ) → m ≡ length t.basics → n ≡ length t.outsides → xs ≡ t.cells → r < length t.basics → c < length t.outsides →
    x ≡ slice_index_or t.outsides c 0 → y ≡ slice_index_or t.basics r 0 → IsTable t → length ys ≡ length xs → zs ≡ t.cells → IsFirstAt (fits_under (cell_at zs (n + 1)) r c) (m + 1) (n + 1) None →
    ((a b : ℕ) → a < m + 1 → b < n + 1 → cell_at ys (n + 1) a b ≡ pivoted (cell_at xs (n + 1)) r c a b) →
    IsTable (record { cells = ys; basics = slice_set t.basics r x; outsides = slice_set t.outsides c y })
pivoted_table t xs ys zs m n r c x y e f g lr lc ex ey it long ez fit done =
    let k : ℕ = length t.outsides + length t.basics in
    let eb : length (slice_set t.basics r x) ≡ length t.basics = length-set t.basics r x in
    let eo : length (slice_set t.outsides c y) ≡ length t.outsides = length-set t.outsides c y in
    let bs : (i : ℕ) → i < length t.basics → slice_index_or t.basics i 0 < k = λ i l. All-get_or (λ u. u < k) t.basics i 0 l it.basics in
    let os : (j : ℕ) → j < length t.outsides → slice_index_or t.outsides j 0 < k = λ j l. All-get_or (λ u. u < k) t.outsides j 0 l it.outsides in
    record {
      shape = long ∙ ap length g ∙ it.shape ∙ rw (eb, eo) refl;
      few_rows = rw eb it.few_rows;
      few_columns = rw eo it.few_columns;
      basics = All-from_get_or (λ u. u < length (slice_set t.outsides c y) + length (slice_set t.basics r x)) (slice_set t.basics r x) 0
          (λ i l. rw (eb, eo) (all_below k t.basics r x lr (rw ex (os c lc)) bs i (omega (arith, l, eb))));
      outsides = All-from_get_or (λ u. u < length (slice_set t.outsides c y) + length (slice_set t.basics r x)) (slice_set t.outsides c y) 0
          (λ j l. rw (eb, eo) (all_below k t.outsides c y lc (rw ey (bs r lr)) os j (omega (arith, l, eo))));
      fit = rw (eb, eo) (λ i j l o. ap fits (ap (λ z. cell_at ys (z + 1) i j) (sym f) ∙ done i j (omega (arith, l, e)) (omega (arith, o, f)) ∙ ap (λ us. pivoted (cell_at us (n + 1)) r c i j) (g ∙ sym ez))
          ∙ fits_new (cell_at zs (n + 1)) r c i j (fit i j (omega (arith, l, e)) (omega (arith, o, f))));
      placed = pivot_stands t (record { cells = ys; basics = slice_set t.basics r x; outsides = slice_set t.outsides c y }) r c lr lc it.placed (pivot_in t xs ys m n r c x y e f g lr lc ex ey done);
    }
