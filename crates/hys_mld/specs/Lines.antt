-- What stands for the items of a program, one after another: rows, labels and forms.
use Rattle.std.specs.Prelude.{◌≡◌, ℕ, ◌+◌, List, [], ◌∷◌, ◌++◌, map}
use Rattle.hys_lin.specs.declared.form.Affine.{Affine}
use Rattle.hys_lin.specs.declared.form.Interval.{Interval}
use Rattle.hys_lin.specs.declared.form.Row.{Row}
use Rattle.hys_prog.specs.declared.program.Name.{Name}
use Rattle.hys_prog.specs.declared.program.ProgItem.{ProgItem}
use Rattle.hys_exact.specs.Labels.{label_of}
use Rattle.hys_rows.specs.declared.added.Added.{Added}
use Rattle.hys_rows.specs.Items.{Fits, fresh_in}
use Rattle.hys_rows.specs.Parts.{IsAdded, form_in}
use Rattle.hys_mld.specs.declared.items.Lines.{Lines}

-- ---- forms
-- the forms of the items, whose fresh columns begin at k
abbrev pub items_forms : List ℕ → ℕ → List ProgItem → List Affine
items_forms columns k [] = []
items_forms columns k (t ∷ ts) = form_in columns k t.body ∷ items_forms columns (k + fresh_in columns t.body) ts

-- ---- rows
abbrev pub added_of : List ℕ → ℕ → ProgItem → Added
added_of columns k t = record { fresh = fresh_in columns t.body; form = form_in columns k t.body }

-- each list of rows was added for its item
abbrev pub AreAdded : List Interval → List ℕ → ℕ → List ProgItem → List (List Row) → Type 0
AreAdded boxes columns k [] [] = Unit {0}
AreAdded boxes columns k [] (m ∷ ms) = ⊥
AreAdded boxes columns k (t ∷ ts) [] = ⊥
AreAdded boxes columns k (t ∷ ts) (m ∷ ms) =
    IsAdded boxes columns k t m (added_of columns k t) × AreAdded boxes columns (k + fresh_in columns t.body) ts ms

abbrev pub all_rows : List (List Row) → List Row
all_rows [] = []
all_rows (m ∷ ms) = m ++ all_rows ms

-- each row of an item has the item's label
abbrev pub all_labels : List Name → List ProgItem → List (List Row) → List (List ℕ)
all_labels names [] ms = []
all_labels names (t ∷ ts) [] = []
all_labels names (t ∷ ts) (m ∷ ms) = map (λ (r : Row). label_of names t) m ++ all_labels names ts ms

-- the rows, their labels and the forms of items whose fresh columns begin at k
pub record AreLines (names : List Name) (boxes : List Interval) (columns : List ℕ) (k : ℕ) (items : List ProgItem) (rows : List Row) (labels : List (List ℕ)) (forms : List Affine) : Type 0 where
  pub by_item : List (List Row)
  pub added : AreAdded boxes columns k items by_item
  pub rows_are : rows ≡ all_rows by_item
  pub labels_are : labels ≡ all_labels names items by_item
  pub forms_are : forms ≡ items_forms columns k items

-- the code's lines have them
abbrev pub HasLines : List Name → List Interval → List ℕ → ℕ → List ProgItem → Lines → Type 0
HasLines names boxes columns k items l = AreLines names boxes columns k items l.rows.items l.labels.items l.forms.items

-- the items, the columns and the intervals belong together
abbrev pub ItemsFit : List Name → List Interval → List ℕ → ℕ → List ProgItem → Type 0
ItemsFit names boxes columns k [] = Unit {0}
ItemsFit names boxes columns k (t ∷ ts) =
    Fits names boxes columns k t × ItemsFit names boxes columns (k + fresh_in columns t.body) ts
