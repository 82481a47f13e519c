-- What the rows of guards, choices and copies mean: the mixed integer forms of "is at most 0 exactly where the bit is
-- 1" and of a product with a bit (Bemporad and Morari, Automatica 35, 1999, section 2).
use Rattle.std.specs.Prelude.{◌≡◌, ℕ, ◌<◌, List, ◌++◌, Bool, false, ◌↔◌, ◌⊎◌}
use Rattle.hys_number.specs.Number.{Number}
use Rattle.hys_number.specs.Ops.{whole, ◌≤ₙ◌}
use Rattle.hys_lin.specs.declared.form.Term.{Term}
use Rattle.hys_lin.specs.declared.form.Affine.{Affine}
use Rattle.hys_lin.specs.declared.form.Interval.{Interval}
use Rattle.hys_lin.specs.declared.form.Row.{Row}
use Rattle.hys_lin.specs.Sums.{Assignment, value, EachColumn, HoldAll, Within}
use Rattle.hys_lin.specs.Bits.{bit, IsBit}
use Rattle.hys_lin.specs.Stated.{Stated, IsRow, AreRows, EachBelow}
use Rattle.hys_guard.specs.Bits.{chosen}
use Rattle.hys_guard.specs.Set.{EachOwn, IsSetTo}
use Rattle.hys_guard.specs.Numbers.{own_term}
use Rattle.hys_guard.specs.Stated.{choice_stated, literal_pair, opposite_pair, bound_by}
use Rattle.hys_guard.specs.declared.terms.Side.{Side}

-- ---- meanings
-- the number is at most 0 and the bit is 1, or the number is at least the tolerance and the bit is 0
abbrev pub IsGuarded : Number → Number → Number → Type 0
IsGuarded eps g d = ((g ≤ₙ whole 0) × (d ≡ whole 1)) ⊎ ((eps ≤ₙ g) × (d ≡ whole 0))

-- with the number in its interval and a bit in the column the rows hold exactly there
abbrev pub MeanGuard : Affine → Interval → Number → ℕ → List Row → Type 0
MeanGuard f i eps d rows =
    (v : Assignment) → Within i (value f v) → IsBit (v d) → HoldAll v rows ↔ IsGuarded eps (value f v) (v d)

-- with the literal a truth and the forms in their intervals the rows hold exactly where the column is the chosen form
abbrev pub MeanChoice : Affine → Affine → Interval → Affine → Interval → ℕ → List Row → Type 0
MeanChoice l a i b j z rows =
    (v : Assignment) (t : Bool) → value l v ≡ bit t → Within i (value a v) → Within j (value b v) →
    HoldAll v rows ↔ (v z ≡ chosen t (value a v) (value b v))

-- the rows are the stated ones of a choice
abbrev pub AreChoice : Affine → Affine → Interval → Affine → Interval → ℕ → List Row → Type 0
AreChoice l a i b j z rows = AreRows rows (choice_stated l a i b j z)

-- ---- columns
-- each column of the rows is below n where the own column and those of the terms are
abbrev pub BelowWith : ℕ → List Term → List Row → Type 0
BelowWith d ts rows = (n : ℕ) → d < n → EachColumn (λ c. c < n) ts → EachBelow n rows

-- the same for the terms of a row
abbrev pub TermsBelow : ℕ → List Term → List Term → Type 0
TermsBelow d ts new = (n : ℕ) → d < n → EachColumn (λ c. c < n) ts → EachColumn (λ c. c < n) new

-- the same where a literal of at most one term stands beside the form
abbrev pub TermsBelowOwn : ℕ → Affine → Affine → List Term → Type 0
TermsBelowOwn d l f new =
    (n : ℕ) → d < n → EachOwn (λ c. c < n) (own_term l.terms) → EachColumn (λ c. c < n) f.terms →
    EachColumn (λ c. c < n) new

abbrev pub BelowBoth : ℕ → List Term → List Term → List Row → Type 0
BelowBoth d ls ts rows =
    (n : ℕ) → d < n → EachColumn (λ c. c < n) ls → EachColumn (λ c. c < n) ts → EachBelow n rows

abbrev pub BelowAll : ℕ → Affine → Affine → Affine → List Row → Type 0
BelowAll d l a b rows =
    (n : ℕ) → d < n → EachColumn (λ c. c < n) l.terms → EachColumn (λ c. c < n) a.terms →
    EachColumn (λ c. c < n) b.terms → EachBelow n rows

-- ---- what helpers add
-- the stated rows were added, over the column, the literal's terms and the form's
abbrev pub AddsRows : List Stated → ℕ → Affine → Affine → List Row → List Row → Type 0
AddsRows ss z l f old new = (more : List Row) × (new ≡ old ++ more) × AreRows more ss × BelowBoth z l.terms f.terms more

-- the two rows that hold the column to the form where the literal is 0, or where 1 less the literal is 0
abbrev pub AddsPair : Number → Number → Affine → Affine → ℕ → List Row → List Row → Type 0
AddsPair upper lower l f z old new = AddsRows (literal_pair upper lower l f z) z l f old new

abbrev pub AddsOpposite : Number → Number → Affine → Affine → ℕ → List Row → List Row → Type 0
AddsOpposite upper lower l f z old new = AddsRows (opposite_pair upper lower l f z) z l f old new

-- the row that bounds the column by the form where the literal is 0
abbrev pub IsBound : Side → Number → Affine → Affine → ℕ → Row → Type 0
IsBound s a l f z r = IsRow r (bound_by s a l.constant (own_term l.terms) f z)

-- a row that is no equation: the terms but for the factor at the column, which is a, and the bound
abbrev pub IsRowWith : ℕ → Number → Number → List Term → Row → Type 0
IsRowWith c a b ts r = IsSetTo c a ts r.terms × (r.bound ≡ b) × (r.eq ≡ false)
