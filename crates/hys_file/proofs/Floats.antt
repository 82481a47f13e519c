-- The values of which the text of a system is made have no float.
use Rattle.std.proofs.Common.{◌≡◌, ℕ, List, [], ◌∷◌, map, false, refl, ap, ◌∙◌}
use Rattle.serde_json.specs.Data.{Data}
use Rattle.serde_json.specs.View.{items_of}
use Rattle.serde_json.specs.Written.{has_float, items_have_float}
use Rattle.hys_lin.specs.declared.form.Term.{Term}
use Rattle.hys_lin.specs.declared.form.Affine.{Affine}
use Rattle.hys_lin.specs.declared.form.Row.{Row}
use Rattle.hys_file.specs.Matrix.{column_data, term_data, next_data, output_data, row_data}
use Rattle.hys_sys.specs.declared.system.Column.{Column}
use Rattle.hys_sys.specs.declared.system.Output.{Output}

pub columns : (cs : List Column) → items_have_float (items_of (map column_data cs)) ≡ false
columns [] = refl
columns (c ∷ cs) = columns cs

terms : (ts : List Term) → items_have_float (items_of (map term_data ts)) ≡ false
terms [] = refl
terms (t ∷ ts) = terms ts

pub nexts : (fs : List Affine) → items_have_float (items_of (map next_data fs)) ≡ false
nexts [] = refl
nexts (f ∷ fs) = rw (terms f.terms) (nexts fs)

pub outputs : (os : List Output) → items_have_float (items_of (map output_data os)) ≡ false
outputs [] = refl
outputs (o ∷ os) = rw (terms o.form.terms) (outputs os)

pub row : (l : List ℕ) (r : Row) (d : Data) → d ≡ row_data l r → has_float d ≡ false
row l r d e = ap has_float e ∙ rw (terms r.terms) refl
