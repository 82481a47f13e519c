-- Multiples of forms: their operations in their order, and their terms.
use Rattle.std.specs.Prelude.{◌≡◌, List, [], ◌∷◌, ◌++◌, ℕ, zero, suc, ℤ, pos, negsuc, Some, None, nat_eq, cond, Result, Ok, Err}
use Rattle.std.specs.Ordering.{nat_cmp}
use Rattle.std.specs.declared.cmp.Ordering.{Ordering}
use Rattle.std.specs.declared.cmp.Ordering.TheVariants.{Less, Equal, Greater}
use Rattle.hys_number.specs.Number.{Number}
use Rattle.hys_number.specs.Ops.{◌+ₙ◌, ◌*ₙ◌, whole}
use Rattle.hys_lin.specs.declared.form.Term.{Term}
use Rattle.hys_lin.specs.declared.form.Affine.{Affine}
use Rattle.hys_lin.specs.declared.lost.Lost.{Lost}
use Rattle.hys_lin.specs.declared.lost.LinFault.{LinFault}
use Rattle.hys_lin.specs.declared.lost.LinFault.TheVariants.{Memory}
use Rattle.hys_lin.specs.declared.lost.LinFault.TheVariants.{Lost as Shown}
use Rattle.hys_lin.specs.Operations.{first_lost, times, plus}
use Rattle.hys_lin.specs.Sums.{Assignment, value, AreTerms}

-- where the answer is no want of memory, it is the first lost operation, or none is lost
abbrev pub AnswersLost : {T : Type 0} → Result T LinFault → List Lost → Type 0
AnswersLost (Ok x) os = first_lost os ≡ None
AnswersLost (Err (Shown l)) os = first_lost os ≡ Some l
AnswersLost (Err Memory) os = Unit {0}

-- the factor of a column, 0 where no term has it
abbrev pub coefficient : List Term → ℕ → Number
coefficient [] c = whole 0
coefficient (t ∷ ts) c = cond (nat_eq t.column c) t.factor (coefficient ts c)

-- each factor times a number
abbrev pub scaling : Number → List Term → List Lost
scaling by [] = []
scaling by (t ∷ ts) = times by t.factor ∷ scaling by ts

-- a multiple of terms added to others: each column takes its product, then its sum
abbrev pub adding : List Term → Number → List Term → List Lost
adding to by [] = []
adding to by (t ∷ ts) = times by t.factor ∷ plus (coefficient to t.column) (by *ₙ t.factor) ∷ adding to by ts

-- the operations of a multiple of a form, and of a form with a multiple of another: the constant comes last
abbrev pub scaling_form : Number → Affine → List Lost
scaling_form by f = scaling by f.terms ++ times by f.constant ∷ []

abbrev pub adding_form : Affine → Number → Affine → List Lost
adding_form f by g = adding f.terms by g.terms ++ times by g.constant ∷ plus f.constant (by *ₙ g.constant) ∷ []

-- where both have rising columns and no factor 0, the answer tells the first of them that is lost, or that none is
abbrev pub LosesMultiple : {T : Type 0} → Affine → Number → Affine → Result T LinFault → Type 0
LosesMultiple f by g r = AreTerms f.terms → AreTerms g.terms → AnswersLost r (adding_form f by g)

-- ---- the terms that the code makes
abbrev pub kept_by : ℤ → Term → List Term
kept_by (pos zero) t = []
kept_by (pos (suc n)) t = t ∷ []
kept_by (negsuc n) t = t ∷ []

-- the column with its factor, unless that is 0
abbrev pub kept : ℕ → Number → List Term
kept c a = kept_by a.num (record { column = c; factor = a })

abbrev pub scaled : Number → List Term → List Term
scaled by [] = []
scaled by (t ∷ ts) = kept t.column (by *ₙ t.factor) ++ scaled by ts

-- of two terms the one with the lower column, or both as one
abbrev pub taken : Ordering → Term → Number → Term → List Term
taken Less a by b = a ∷ []
taken Equal a by b = kept a.column (a.factor +ₙ by *ₙ b.factor)
taken Greater a by b = kept b.column (by *ₙ b.factor)

-- the next of them was appended
abbrev pub TakesNext : Term → Number → Term → List Term → List Term → Type 0
TakesNext a by b old new = new ≡ old ++ taken (nat_cmp a.column b.column) a by b

abbrev pub taking : Ordering → Term → Number → Term → List Lost
taking Less a by b = []
taking Equal a by b = times by b.factor ∷ plus a.factor (by *ₙ b.factor) ∷ []
taking Greater a by b = times by b.factor ∷ []

abbrev pub by_order : Ordering → List Term → List Term → List Term → List Term
by_order Less x y z = x
by_order Equal x y z = y
by_order Greater x y z = z

abbrev pub merging : Term → List Term → (List Term → List Term) → Number → List Term → List Term
merging a xs rest by [] = a ∷ xs
merging a xs rest by (b ∷ bs) =
    taken (nat_cmp a.column b.column) a by b
    ++ by_order (nat_cmp a.column b.column) (rest (b ∷ bs)) (rest bs) (merging a xs rest by bs)

-- terms with a multiple of others, in the order of their columns
abbrev pub merged : List Term → Number → List Term → List Term
merged [] by bs = scaled by bs
merged (a ∷ xs) by bs = merging a xs (merged xs by) by bs

-- the form has the value of the one plus the multiple of the other, under every assignment
abbrev pub AddsMultiple : Affine → Number → Affine → Affine → Type 0
AddsMultiple f by g r = (v : Assignment) → value r v ≡ value f v +ₙ by *ₙ value g v
