-- Rows that are the stated ones: what they say, and rows behind rows.
use Rattle.std.specs.Prelude.{ℕ, ◌↔◌, List, [], ◌∷◌, ◌++◌}
use Rattle.hys_number.specs.Ops.{◌≤ₙ◌}
use Rattle.hys_lin.specs.declared.form.Row.{Row}
use Rattle.hys_lin.specs.Sums.{Assignment, Holds, HoldAll}
use Rattle.hys_lin.specs.Stated.{Stated, HoldStated, IsRow, AreRows, EachBelow}

row_holds : (r : Row) (s : Stated) (v : Assignment) → IsRow r s → Holds v r ↔ (s.left v ≤ₙ s.bound)
unfolding Holds
row_holds r s v h = rw (h.at_most, h.sums v, h.bounds) (λ p. p, λ p. p)

pub rows_hold : (rs : List Row) (ss : List Stated) (v : Assignment) → AreRows rs ss → HoldAll v rs ↔ HoldStated v ss
rows_hold [] [] v h = (λ p. tt, λ p. tt)
rows_hold [] (s ∷ ss) v h = absurd h
rows_hold (r ∷ rs) [] v h = absurd h
rows_hold (r ∷ rs) (s ∷ ss) v h =
    let e : Holds v r ↔ (s.left v ≤ₙ s.bound) = row_holds r s v h.0 in
    let f : HoldAll v rs ↔ HoldStated v ss = rows_hold rs ss v h.1 in
    (λ p. (e.0 p.0, f.0 p.1), λ p. (e.1 p.0, f.1 p.1))

pub are-append : (xs ys : List Row) (ss ts : List Stated) → AreRows xs ss → AreRows ys ts → AreRows (xs ++ ys) (ss ++ ts)
are-append [] ys [] ts h i = i
are-append [] ys (s ∷ ss) ts h i = absurd h
are-append (r ∷ rs) ys [] ts h i = absurd h
are-append (r ∷ rs) ys (s ∷ ss) ts h i = (h.0, are-append rs ys ss ts h.1 i)

pub below-append : (n : ℕ) (xs ys : List Row) → EachBelow n xs → EachBelow n ys → EachBelow n (xs ++ ys)
below-append n [] ys h i = i
below-append n (r ∷ rs) ys h i = (h.0, below-append n rs ys h.1 i)
