-- Terms whose factor at one column was set.
use Rattle.std.specs.Prelude.{◌≡◌, ℕ, List, [], ◌∷◌, ◌++◌, ◌<◌, ◌≤◌, ◌⊎◌, length, take, drop, Option, Some, None}
use Rattle.hys_number.specs.Number.{Number}
use Rattle.hys_number.specs.Ops.{◌+ₙ◌, ◌*ₙ◌, ◌-ₙ◌, neg, whole}
use Rattle.hys_lin.specs.declared.form.Term.{Term}
use Rattle.hys_lin.specs.Sums.{EachColumn}
use Rattle.hys_lin.specs.Scaled.{coefficient}
use Rattle.hys_guard.specs.declared.terms.Side.{Side}
use Rattle.hys_guard.specs.declared.terms.Side.TheVariants.{Upper, Lower}

-- the columns of the first p terms are below c, and those of the others aren't
pub record Splits (c p : ℕ) (ts : List Term) : Type 0 where
  pub within : p ≤ length ts
  pub before : EachColumn (λ d. d < c) (take p ts)
  pub after : EachColumn (λ d. c ≤ d) (drop p ts)

-- the terms that stand for a factor at the column: none for 0
abbrev pub Piece : ℕ → Number → List Term → Type 0
Piece c a ts = ((a ≡ whole 0) × (ts ≡ [])) ⊎ (¬ (a ≡ whole 0) × (ts ≡ record { column = c; factor = a } ∷ []))

-- the terms are those before the column, those at it, and those behind it
pub record Around (c : ℕ) (a : Number) (before after ts : List Term) : Type 0 where
  pub here : List Term
  pub piece : Piece c a here
  pub whole_is : ts ≡ before ++ (here ++ after)
  pub below : EachColumn (λ d. d < c) before
  pub above : EachColumn (λ d. c < d) after

-- the new terms are the old ones without that at the column, whose factor was b; p is its place
pub record TakenOut (c p : ℕ) (b : Number) (old new : List Term) : Type 0 where
  pub before : List Term
  pub after : List Term
  pub was : Around c b before after old
  pub is : new ≡ before ++ after
  pub place : length before ≡ p

-- the new terms are the old ones but for the factor at the column, which was b and is a
pub record IsSet (c : ℕ) (b a : Number) (old new : List Term) : Type 0 where
  pub before : List Term
  pub after : List Term
  pub was : Around c b before after old
  pub is : Around c a before after new

-- the factor at the column is set to a
abbrev pub IsSetTo : ℕ → Number → List Term → List Term → Type 0
IsSetTo c a old new = IsSet c (coefficient old c) a old new

abbrev pub negated : List Term → List Term
negated [] = []
negated (t ∷ ts) = record { column = t.column; factor = neg t.factor } ∷ negated ts

-- the terms as a row has them that bounds a column from above, or from below
abbrev pub signed : Side → List Term → List Term
signed Upper ts = negated ts
signed Lower ts = ts

-- a factor joined with that of a form at the same column
abbrev pub join_by : Side → Number → Number → Number
join_by Upper a b = a -ₙ b
join_by Lower a b = a +ₙ b

-- the column's own factor
abbrev pub unit_by : Side → Number
unit_by Upper = whole 1
unit_by Lower = neg (whole 1)

-- the form's terms with their signs, and the literal's times the big factor
abbrev pub JoinedTerms : Side → Number → Option Term → List Term → List Term → Type 0
JoinedTerms s a None g new = new ≡ signed s g
JoinedTerms s a (Some t) g new =
    IsSetTo t.column (join_by s (a *ₙ t.factor) (coefficient g t.column)) (signed s g) new

-- the column of the literal, where it has one, has the property
abbrev pub EachOwn : (ℕ → Type 0) → Option Term → Type 0
EachOwn P None = Unit {0}
EachOwn P (Some t) = P t.column
