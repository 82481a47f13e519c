-- A text is written piece by piece: what is written and what is left make up the whole.
use Rattle.std.proofs.Common.{◌≡◌, ℕ, zero, suc, ◌+◌, ◌<◌, List, [], ◌∷◌, ◌++◌, true, length, get_or, drop, nat_lt, refl, sym, ap, ◌∙◌, arith, tests, append_assoc}
use Rattle.serde_json.specs.View.{items_of}
use Rattle.serde_json.specs.Written.{comma_if, compact_text, items_text}
use Rattle.hys_json.proofs.Fitted.{drop_here}
use Rattle.hys_lin.specs.declared.form.Row.{Row}
use Rattle.hys_file.specs.Matrix.{row_data, rows_data}

-- ---- rows
-- the text of the rows from a place on
abbrev pub rows_from : List (List ℕ) → List Row → ℕ → List ℕ
rows_from ls rs i = items_text (nat_lt 0 i) (items_of (rows_data (drop i ls) (drop i rs)))

labelled : (ls : List (List ℕ)) (i : ℕ) (r : Row) (rs : List Row) → rows_data (drop i ls) (r ∷ rs) ≡ row_data (get_or ls i []) r ∷ rows_data (drop (suc i) ls) rs
labelled [] zero r rs = refl
labelled [] (suc i) r rs = refl
labelled (l ∷ ls) zero r rs = refl
labelled (l ∷ ls) (suc i) r rs = labelled ls i r rs

here : (ls : List (List ℕ)) (rs : List Row) (i : ℕ) (r : Row) → i < length rs → r ≡ get_or rs i r →
    rows_from ls rs i ≡ comma_if (nat_lt 0 i) ++ (compact_text (row_data (get_or ls i []) r) ++ rows_from ls rs (i + 1))
here ls rs i r l e =
    ap (λ xs. items_text (nat_lt 0 i) (items_of (rows_data (drop i ls) xs))) (drop_here rs i r l e)
    ∙ ap (λ ds. items_text (nat_lt 0 i) (items_of ds)) (labelled ls i r (drop (i + 1) rs))
    ∙ ap (λ (n : ℕ). comma_if (nat_lt 0 i) ++ (compact_text (row_data (get_or ls i []) r) ++ items_text true (items_of (rows_data (drop n ls) (drop (i + 1) rs))))) one_more
    ∙ ap (λ b. comma_if (nat_lt 0 i) ++ (compact_text (row_data (get_or ls i []) r) ++ items_text b (items_of (rows_data (drop (i + 1) ls) (drop (i + 1) rs))))) (sym later)
  where
    one_more : suc i ≡ i + 1
    one_more = omega arith

    later : nat_lt 0 (i + 1) ≡ true
    later = grind (arith, tests)

pub next_row : (ls : List (List ℕ)) (rs : List Row) (i : ℕ) (r : Row) (old new whole : List ℕ) → i < length rs → r ≡ get_or rs i r →
    old ++ rows_from ls rs i ≡ whole → new ≡ old ++ (comma_if (nat_lt 0 i) ++ compact_text (row_data (get_or ls i []) r)) → new ++ rows_from ls rs (i + 1) ≡ whole
next_row ls rs i r old new whole l e before n =
    ap (λ t. t ++ rows_from ls rs (i + 1)) n
    ∙ append_assoc old (comma_if (nat_lt 0 i) ++ compact_text (row_data (get_or ls i []) r)) (rows_from ls rs (i + 1))
    ∙ ap (λ t. old ++ t) (append_assoc (comma_if (nat_lt 0 i)) (compact_text (row_data (get_or ls i []) r)) (rows_from ls rs (i + 1)))
    ∙ ap (λ t. old ++ t) (sym (here ls rs i r l e))
    ∙ before

pub behind : (old comma new a b : List ℕ) → comma ≡ old ++ a → new ≡ comma ++ b → new ≡ old ++ (a ++ b)
behind old comma new a b e f = f ∙ ap (λ t. t ++ b) e ∙ append_assoc old a b
