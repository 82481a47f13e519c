-- The rows of connectives, and what they say of the fresh columns.
use Rattle.std.specs.Prelude.{◌≡◌, ℕ, suc, ◌+◌, ◌<◌, ◌≤◌, List, [], ◌∷◌, ◌++◌, Bool, true, false, ℤ, pos, negsuc}
use Rattle.hys_number.specs.Number.{Number}
use Rattle.hys_number.specs.Ops.{◌+ₙ◌, ◌-ₙ◌, neg, whole, int}
use Rattle.hys_lin.specs.declared.form.Affine.{Affine}
use Rattle.hys_lin.specs.declared.form.Term.{Term}
use Rattle.hys_lin.specs.declared.form.Row.{Row}
use Rattle.hys_lin.specs.Sums.{Assignment, sum_of, AreTerms, EachColumn}
use Rattle.hys_formula.specs.declared.formula.Connective.{Connective}
use Rattle.hys_formula.specs.declared.formula.Connective.TheVariants.{And, Or, Iff, Then, From}
use Rattle.hys_lin.specs.Bits.{bit, IsBit}
use Rattle.hys_formula.specs.Formulas.{FormulaTree, constant, named, negated, joined, connectives, truth, connect}
use Rattle.hys_logic.specs.declared.literal.Literal.{Literal}
use Rattle.hys_logic.specs.declared.literal.Literal.TheVariants.{Fixed, Column}
use Rattle.hys_logic.specs.declared.row.Sign.{Sign}
use Rattle.hys_logic.specs.declared.row.Sign.TheVariants.{Plus, Minus}
use Rattle.hys_logic.specs.Literals.{column_part, constant_part, opposite, literal_of, LiteralBelow}
use Rattle.hys_lin.specs.Stated.{Stated, AreRows, EachBelow}

abbrev pub signed : Sign → Number → Number
signed Plus a = a
signed Minus a = neg a

-- the sign of a column in a literal with this sign
abbrev pub turned : Sign → Bool → Sign
turned Plus false = Plus
turned Plus true = Minus
turned Minus false = Minus
turned Minus true = Plus

-- a literal's term, where it has one
abbrev pub own_terms : Literal → List Term
own_terms (Fixed b) = []
own_terms (Column c n) = record { column = c; factor = signed (turned Plus n) (whole 1) } ∷ []

-- the literal as a form
abbrev pub form_of : Literal → Affine
form_of l = record { terms = own_terms l; constant = constant_part l }

-- a base less the constants of two literals with their signs
abbrev pub moved_by : Sign → Literal → Sign → Literal → ℤ → Number
moved_by s a t b z = int z -ₙ signed s (constant_part a) -ₙ signed t (constant_part b)

-- two literals and a column with their signs, at most a base; the literals' constants stand in the bound
abbrev pub row_by : Sign → Literal → Sign → Literal → Sign → ℕ → ℤ → Stated
row_by s a t b u r z = record {
  left = λ v. signed s (column_part a v) +ₙ signed t (column_part b v) +ₙ signed u (v r);
  bound = moved_by s a t b z;
}

-- two literals with their signs, at most a base; the literals' constants stand in the bound
abbrev pub pair_by : Sign → Literal → Sign → Literal → ℤ → Stated
pair_by s a t b z = record {
  left = λ v. signed s (column_part a v) +ₙ signed t (column_part b v);
  bound = moved_by s a t b z;
}

-- a row with one literal
abbrev pub single_by : Sign → Literal → Sign → ℕ → Stated
single_by s a u r = row_by s a Plus (Fixed false) u r (pos 0)

-- a <= r, b <= r, r <= a + b
abbrev pub or_stated : Literal → Literal → ℕ → List Stated
or_stated a b r = single_by Plus a Minus r ∷ single_by Plus b Minus r ∷ row_by Minus a Minus b Plus r (pos 0) ∷ []

abbrev pub connective_stated : Connective → Literal → Literal → ℕ → List Stated
-- r <= a, r <= b, a + b - r <= 1
connective_stated And a b r = single_by Minus a Plus r ∷ single_by Minus b Plus r ∷ row_by Plus a Plus b Minus r (pos 1) ∷ []
connective_stated Or a b r = or_stated a b r
-- r + a - b <= 1, r - a + b <= 1, -r - a - b <= -1, a + b - r <= 1
connective_stated Iff a b r =
    row_by Plus a Minus b Plus r (pos 1) ∷ row_by Minus a Plus b Plus r (pos 1)
    ∷ row_by Minus a Minus b Minus r (negsuc 0) ∷ row_by Plus a Plus b Minus r (pos 1) ∷ []
connective_stated Then a b r = or_stated (opposite a) b r
connective_stated From a b r = or_stated a (opposite b) r

-- the rows of a formula, connective by connective in post-order
abbrev pub stated_of : (ℕ → ℕ) → ℕ → FormulaTree → List Stated
stated_of p k (constant b) = []
stated_of p k (named n) = []
stated_of p k (negated f) = stated_of p k f
stated_of p k (joined c f g) =
    stated_of p k f ++ (stated_of p (k + connectives f) g
    ++ connective_stated c (literal_of p k f) (literal_of p (k + connectives f) g) (k + (connectives f + connectives g)))

-- ---- fresh columns
-- the truths of the connectives, in post-order
abbrev pub fresh_of : FormulaTree → Assignment → List Bool
fresh_of (constant b) w = []
fresh_of (named n) w = []
fresh_of (negated f) w = fresh_of f w
fresh_of (joined c f g) w = fresh_of f w ++ (fresh_of g w ++ (connect c (truth f w) (truth g w) ∷ []))

-- the columns from k on have the numbers of these truth values
abbrev pub Agrees : Assignment → ℕ → List Bool → Type 0
Agrees v k [] = Unit {0}
Agrees v k (b ∷ bs) = (v k ≡ bit b) × Agrees v (suc k) bs

-- the n columns from k on are 0 or 1
abbrev pub BitsFrom : Assignment → ℕ → ℕ → Type 0
BitsFrom v k n = (c : ℕ) → k ≤ c → c < k + n → IsBit (v c)

-- the stated rows were added, with columns below n
abbrev pub Added : List Row → List Row → List Stated → ℕ → Type 0
Added old new ss n = (more : List Row) × (new ≡ old ++ more) × AreRows more ss × EachBelow n more

-- ---- terms of one row
-- the terms, in order, are those of two columns with signs
pub record IsSum (a : ℕ) (s : Sign) (b : ℕ) (t : Sign) (ts : List Term) : Type 0 where
  pub terms : AreTerms ts
  pub sums : (v : Assignment) → sum_of ts v ≡ signed s (v a) +ₙ signed t (v b)
  pub below : (n : ℕ) → a < n → b < n → EachColumn (λ c. c < n) ts

-- the terms, in order, are those of two literals with signs
pub record AreOf (s : Sign) (a : Literal) (t : Sign) (b : Literal) (ts : List Term) : Type 0 where
  pub terms : AreTerms ts
  pub sums : (v : Assignment) → sum_of ts v ≡ signed s (column_part a v) +ₙ signed t (column_part b v)
  pub below : (n : ℕ) → LiteralBelow n a → LiteralBelow n b → EachColumn (λ c. c < n) ts

-- each column of the row is below n where those of the literals are
abbrev pub PairBelow : Literal → Literal → Row → Type 0
PairBelow a b r = (n : ℕ) → LiteralBelow n a → LiteralBelow n b → EachColumn (λ c. c < n) r.terms
