-- Where the variables of a table stand.
use Rattle.std.proofs.Common.{◌≡◌, ◌≢◌, ℕ, ◌+◌, ◌-◌, ◌<◌, ◌≤◌, ◌==◌, ◌⊎◌, inl, inr, if◌then◌else◌, refl, sym, ◌∙◌, subst, arith, List, length, slice_index_or}
use Rattle.hys_number.specs.Number.{Number}
use Rattle.hys_simplex.specs.Tableau.{Tableau, pivot, IsPlaced}
use Rattle.hys_simplex.specs.Alike.{IsAlike}
use Rattle.hys_simplex.proofs.Same.{same_yes, same_no}
use Rattle.hys_simplex.proofs.Pivots.{same_place}
use Rattle.hys_simplex.proofs.Places.{pivot_placed}
use Rattle.hys_tab.specs.Table.{Table, tableau_of}

-- the slacks in the rows, and the columns in their own
pub placed_first : (n m : ℕ) (T : Tableau) → ((i : ℕ) → i ≤ m → T.basic i ≡ n + i) → ((j : ℕ) → j < n → T.outside j ≡ j) → IsPlaced n m T
placed_first n m T b o = record {
  apart = λ i j l h e. absurd (omega (arith, e, b i l, o j h, h));
  once = λ j j' l l' e. omega (arith, e, o j l, o j' l');
  basic_once = λ i i' l l' e. omega (arith, e, b i l, b i' l');
  somewhere = λ u l. go u l (split u n);
  goal = b m (omega arith);
  basic_in = λ i l. omega (arith, l, b i (omega (arith, l)));
  outside_in = λ j l. omega (arith, l, o j l);
}
  where
    split : (u n : ℕ) → (u < n) ⊎ (n ≤ u)
    split u n = grind arith

    go : (u : ℕ) → u < n + m → (u < n) ⊎ (n ≤ u) → ((i : ℕ) × (i < m) × (T.basic i ≡ u)) ⊎ ((j : ℕ) × (j < n) × (T.outside j ≡ u))
    go u l (inl h) = inr (u, h, o u h)
    go u l (inr h) = inl (u - n, omega (arith, l, h), b (u - n) (omega (arith, l, h)) ∙ omega (arith, h))

-- the same variables at the same places
pub placed_same : (n m : ℕ) (T T' : Tableau) → ((i : ℕ) → i ≤ m → T.basic i ≡ T'.basic i) → ((j : ℕ) → j < n → T.outside j ≡ T'.outside j) → IsPlaced n m T' → IsPlaced n m T
placed_same n m T T' b o s = record {
  apart = λ i j l h e. s.apart i j l h (sym (b i l) ∙ e ∙ o j h);
  once = λ j j' l l' e. s.once j j' l l' (sym (o j l) ∙ e ∙ o j' l');
  basic_once = λ i i' l l' e. s.basic_once i i' l l' (sym (b i l) ∙ e ∙ b i' l');
  somewhere = λ u l. go u (s.somewhere u l);
  goal = b m (omega arith) ∙ s.goal;
  basic_in = λ i l. omega (arith, b i (omega (arith, l)), s.basic_in i l);
  outside_in = λ j l. omega (arith, o j l, s.outside_in j l);
}
  where
    go : (u : ℕ) → ((i : ℕ) × (i < m) × (T'.basic i ≡ u)) ⊎ ((j : ℕ) × (j < n) × (T'.outside j ≡ u)) → ((i : ℕ) × (i < m) × (T.basic i ≡ u)) ⊎ ((j : ℕ) × (j < n) × (T.outside j ≡ u))
    go u (inl w) = inl (w.0, w.1, b w.0 (omega (arith, w.1)) ∙ w.2)
    go u (inr w) = inr (w.0, w.1, o w.0 w.1 ∙ w.2)

-- the table of a slack basis
pub begins_placed : (ys : List Number) (bs os : List ℕ) (m n : ℕ) → length bs ≡ m → ((i : ℕ) → i < m → slice_index_or bs i 0 ≡ n + i) →
    length os ≡ n → ((j : ℕ) → j < n → slice_index_or os j 0 ≡ 0 + j) → IsPlaced (length os) (length bs) (tableau_of (record { cells = ys; basics = bs; outsides = os }))
begins_placed ys bs os m n em b en o = placed_first (length os) (length bs) (tableau_of (record { cells = ys; basics = bs; outsides = os }))
    (λ i l. basic_is i (same_place i (length bs)) l) (λ j l. o j (omega (arith, l, en)) ∙ omega arith)
  where
    basic_is : (i : ℕ) → (i ≡ length bs) ⊎ (i ≢ length bs) → i ≤ length bs → (if i == length bs then length os + length bs else slice_index_or bs i 0) ≡ length os + i
    basic_is i (inl e) l = subst (λ z. (if z == length bs then length os + length bs else slice_index_or bs z 0) ≡ length os + z) (sym e) (rw (same_yes (length bs)) refl)
    basic_is i (inr d) l = rw (same_no i (length bs) (λ z. d (sym z))) (omega (arith, en, b i (omega (arith, l, d, em))))

-- a pivot keeps it
pub pivot_stands : (t u : Table) (r c : ℕ) → r < length t.basics → c < length t.outsides → IsPlaced (length t.outsides) (length t.basics) (tableau_of t) →
    IsAlike (tableau_of u) (pivot (tableau_of t) r c) → IsPlaced (length u.outsides) (length u.basics) (tableau_of u)
pivot_stands t u r c lr lc s h =
    let p : IsPlaced (length t.outsides) (length t.basics) (tableau_of u) = placed_same (length t.outsides) (length t.basics) (tableau_of u) (pivot (tableau_of t) r c)
    (λ i l. h.basics i (omega (arith, l, h.tall))) (λ j l. h.outsides j (omega (arith, l, h.wide))) (pivot_placed (length t.outsides) (length t.basics) (tableau_of t) r c lr lc s) in
    subst (λ m. IsPlaced (length u.outsides) m (tableau_of u)) (sym h.tall) (subst (λ n. IsPlaced n (length t.basics) (tableau_of u)) (sym h.wide) p)
