-- Forms over names turned into forms over columns.
use Rattle.std.specs.Prelude.{ℕ, List, [], ◌∷◌, if◌then◌else◌, ltb}
use Rattle.hys_lin.specs.declared.form.Affine.{Affine}
use Rattle.hys_lin.specs.declared.form.Term.{Term}
use Rattle.hys_logic.specs.Literals.{column_in}

-- a term before the first whose column is above its own
abbrev pub inserted : Term → List Term → List Term
inserted t [] = t ∷ []
inserted t (u ∷ us) = if ltb t.column u.column then t ∷ u ∷ us else u ∷ inserted t us

-- the term of a name's column
abbrev pub on_column : List ℕ → Term → Term
on_column columns t = record { column = column_in columns t.column; factor = t.factor }

-- the terms, and more of them, each at its column
abbrev pub moved_onto : List ℕ → List Term → List Term → List Term
moved_onto columns us [] = us
moved_onto columns us (t ∷ ts) = moved_onto columns (inserted (on_column columns t) us) ts

-- the form over the columns of its names, in their order
abbrev pub moved : List ℕ → Affine → Affine
moved columns f = record { terms = moved_onto columns [] f.terms; constant = f.constant }
