-- The rows of guards, choices and copies, each given by its sum and its bound.
use Rattle.std.specs.Prelude.{ℕ, List, [], ◌∷◌, ◌++◌, Option, Some, None}
use Rattle.hys_number.specs.Number.{Number}
use Rattle.hys_number.specs.Ops.{◌+ₙ◌, ◌*ₙ◌, ◌-ₙ◌, neg, whole}
use Rattle.hys_lin.specs.declared.form.Term.{Term}
use Rattle.hys_lin.specs.declared.form.Affine.{Affine}
use Rattle.hys_lin.specs.declared.form.Interval.{Interval}
use Rattle.hys_lin.specs.Stated.{Stated}
use Rattle.hys_lin.specs.Sums.{Assignment, sum_of}
use Rattle.hys_guard.specs.Numbers.{own_term, opposite_term, constant_by}
use Rattle.hys_guard.specs.declared.terms.Side.{Side}
use Rattle.hys_guard.specs.declared.terms.Side.TheVariants.{Upper, Lower}

-- the sum as it is, or with its sign turned
abbrev pub turned_by : Side → Number → Number
turned_by Upper a = neg a
turned_by Lower a = a

-- the number, or its negative, and a factor times the column
abbrev pub guarded_by : Side → Affine → Number → ℕ → Number → Stated
guarded_by s f a d b = record { left = λ v. turned_by s (sum_of f.terms v) +ₙ a *ₙ v d; bound = b }

-- number + high * column at most high, and (low - tolerance) * column - number at most - tolerance;
-- the number's constant stands in the bounds
abbrev pub guard_stated : Affine → Interval → Number → ℕ → List Stated
guard_stated f i e d =
    guarded_by Lower f i.high d (i.high -ₙ f.constant) ∷ guarded_by Upper f (i.low -ₙ e) d (f.constant -ₙ e) ∷ []

-- the column less the terms, or the terms less the column
abbrev pub apart_by : Side → Number → Number → Number
apart_by Upper z a = z -ₙ a
apart_by Lower z a = a -ₙ z

abbrev pub term_value : Option Term → Assignment → Number
term_value None v = whole 0
term_value (Some t) v = t.factor *ₙ v t.column

-- big factor times literal, plus the column less the form or the form less the column, at most 0;
-- the constants stand in the bound
abbrev pub bound_by : Side → Number → Number → Option Term → Affine → ℕ → Stated
bound_by s a k t g z = record {
  left = λ v. apart_by s (v z) (sum_of g.terms v) +ₙ a *ₙ term_value t v;
  bound = constant_by s g.constant -ₙ a *ₙ k;
}

-- the column is the form where the literal is 0; where it is 1 the big factors leave room
abbrev pub pair_stated : Number → Number → Number → Option Term → Affine → ℕ → List Stated
pair_stated upper lower k t g z = bound_by Upper upper k t g z ∷ bound_by Lower lower k t g z ∷ []

-- the rows where the literal is 0, and those where 1 less the literal is 0
abbrev pub literal_pair : Number → Number → Affine → Affine → ℕ → List Stated
literal_pair upper lower l g z = pair_stated upper lower l.constant (own_term l.terms) g z

abbrev pub opposite_pair : Number → Number → Affine → Affine → ℕ → List Stated
opposite_pair upper lower l g z = pair_stated upper lower (whole 1 -ₙ l.constant) (opposite_term (own_term l.terms)) g z

-- the column is the other form where the literal is 0, and the hit where 1 less the literal is 0
abbrev pub choice_stated : Affine → Affine → Interval → Affine → Interval → ℕ → List Stated
choice_stated l a i b j z =
    literal_pair (j.low -ₙ i.high) (i.low -ₙ j.high) l b z ++ opposite_pair (i.low -ₙ j.high) (j.low -ₙ i.high) l a z

-- the column is at most the form, or at least
abbrev pub copied_by : Side → Affine → ℕ → Stated
copied_by s f z = record { left = λ v. apart_by s (v z) (sum_of f.terms v); bound = constant_by s f.constant }

abbrev pub copy_stated : Affine → ℕ → List Stated
copy_stated f z = copied_by Upper f z ∷ copied_by Lower f z ∷ []
