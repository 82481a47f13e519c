-- Forms with a factor for each declared name: operations name by name.
use Rattle.std.specs.Prelude.{◌≡◌, List, [], ◌∷◌, ◌++◌, map}
use Rattle.hys_number.specs.Number.{Number}
use Rattle.hys_lin.specs.declared.lost.Lost.{Lost}
use Rattle.hys_lin.specs.declared.lost.Op.{Op}
use Rattle.hys_lin.specs.Operations.{result_of}
use Rattle.hys_meaning.specs.Names.{Name}
use Rattle.hys_meaning.specs.Forms.{Form}
use Rattle.hys_meaning.specs.Folding.{each, matched}
use Rattle.hys_type.specs.declared.dense.Dense.{Dense}

abbrev pub between : Op → Number → Number → Lost
between o a b = record { op = o; left = a; right = b }

abbrev pub zipped : {A : Type 0} → (Number → Number → A) → List Number → List Number → List A
zipped f [] bs = []
zipped f (a ∷ xs) [] = []
zipped f (a ∷ xs) (b ∷ bs) = f a b ∷ zipped f xs bs

-- the operations of two forms, and the form that they give
abbrev pub folded_by : Op → Dense → Dense → List Lost
folded_by o f g = zipped (between o) f.factors g.factors ++ between o f.constant g.constant ∷ []

abbrev pub folded_form : Op → Dense → Dense → Dense
folded_form o f g =
    record { factors = zipped (result_of o) f.factors g.factors; constant = result_of o f.constant g.constant }

abbrev pub spread : Dense → Dense
spread f = record { factors = map (λ a. f.constant) f.factors; constant = f.constant }

-- the factors are those of the declared names in order
pub record IsDense (ns : List Name) (f : Form) (d : Dense) : Type 0 where
  pub factors : d.factors ≡ map (λ n. f.factor n.text) ns
  pub constant : d.constant ≡ f.constant

-- ---- operations of two dense forms
-- are those of the forms that they stand for, name by name
abbrev pub FoldMatched : List Name → Op → Form → Form → Type 0
FoldMatched ns o f g = (d e : Dense) → IsDense ns f d → IsDense ns g e → folded_by o d e ≡ matched (between o) ns f g

-- the constant of the first one stands at each name
abbrev pub FoldLeft : List Name → Op → Form → Form → Type 0
FoldLeft ns o f g = (d e : Dense) → IsDense ns f d → IsDense ns g e →
    folded_by o (spread d) e ≡ each (between o) ns (λ n. f.constant) g.factor f.constant g.constant

-- the constant of the second one stands at each name
abbrev pub FoldRight : List Name → Op → Form → Form → Type 0
FoldRight ns o f g = (d e : Dense) → IsDense ns f d → IsDense ns g e →
    folded_by o d (spread e) ≡ each (between o) ns f.factor (λ n. g.constant) f.constant g.constant
