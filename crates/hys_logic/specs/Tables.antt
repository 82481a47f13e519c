-- Truth tables: which formulas are short, the settings of their names, and the row of each setting.
use Rattle.std.specs.Prelude.{◌≡◌, ℕ, suc, ◌*◌, ◌^◌, ◌<◌, ◌⊎◌, List, [], ◌∷◌, ◌++◌, length, map, Bool, true, false, not, ◌&&◌, Option, Some, None, MatchOption, Vec, if◌then◌else◌, ◌==◌, ltb, leb, ℤ, pos, ◌-ℤ◌}
use Rattle.std.specs.declared.alloc.Global.{Global}
use Rattle.hys_number.specs.Number.{Number}
use Rattle.hys_number.specs.Ops.{◌+ₙ◌, whole, int}
use Rattle.hys_lin.specs.declared.form.Row.{Row}
use Rattle.hys_lin.specs.declared.form.Term.{Term}
use Rattle.hys_lin.specs.Bits.{bit}
use Rattle.hys_lin.specs.Stated.{Stated, AreRows, EachBelow}
use Rattle.hys_lin.specs.Sums.{Assignment}
use Rattle.hys_formula.specs.declared.formula.Formula.{Formula}
use Rattle.hys_formula.specs.Formulas.{FormulaTree, constant, named, negated, joined, connectives, truth, tree_of}
use Rattle.hys_logic.specs.declared.table.Setting.{Setting}
use Rattle.hys_logic.specs.declared.row.Sign.{Sign}
use Rattle.hys_logic.specs.declared.row.Sign.TheVariants.{Plus, Minus}
use Rattle.hys_logic.specs.Literals.{column_in}
use Rattle.hys_logic.specs.Rows.{signed}

-- ---- settings
abbrev pub set_to : ℕ → Bool → Setting
set_to c b = record { column = c; one = b }

-- a setting at its place among settings of rising columns, unless its column is there
abbrev pub placed : Setting → List Setting → List Setting
placed s [] = s ∷ []
placed s (t ∷ ts) = if s.column == t.column then t ∷ ts else (if ltb s.column t.column then s ∷ t ∷ ts else t ∷ placed s ts)

-- what the settings give a column: 0 where they don't name it
abbrev pub setting_in : List Setting → ℕ → Bool
setting_in [] c = false
setting_in (s ∷ ss) c = if s.column == c then s.one else setting_in ss c

-- how many settings are 1
abbrev pub ones : List Setting → ℕ
ones [] = 0
ones (s ∷ ss) = if s.one then suc (ones ss) else ones ss

abbrev pub columns_of : List Setting → List ℕ
columns_of [] = []
columns_of (s ∷ ss) = s.column ∷ columns_of ss

-- each number has the property
abbrev pub Each : (ℕ → Type 0) → List ℕ → Type 0
Each P [] = Unit {0}
Each P (c ∷ cs) = P c × Each P cs

-- the numbers rise strictly
abbrev pub Rising : List ℕ → Type 0
Rising [] = Unit {0}
Rising (c ∷ cs) = Each (λ d. c < d) cs × Rising cs

-- ---- short formulas
-- the columns of the formula's names, rising, each once and set to 0, among those that there are
abbrev pub names_among : (ℕ → ℕ) → FormulaTree → List Setting → List Setting
names_among p (constant b) ss = ss
names_among p (named n) ss = placed (set_to (p n) false) ss
names_among p (negated f) ss = names_among p f ss
names_among p (joined c f g) ss = names_among p g (names_among p f ss)

abbrev pub names_of : (ℕ → ℕ) → FormulaTree → List Setting
names_of p f = names_among p f []

-- a number of columns is small beside k connectives: a table of them has at most 4 k rows
abbrev pub are_few : ℕ → ℕ → Bool
are_few n k = ltb 0 k && (leb n 4 && leb (2 ^ n) (4 * k))

-- the formula is turned into rows by its truth table
abbrev pub is_short : (ℕ → ℕ) → FormulaTree → Bool
is_short p f = are_few (length (names_of p f)) (connectives f)

-- ---- the table
-- the truth of the formula at the settings
abbrev pub truth_by : (ℕ → ℕ) → FormulaTree → List Setting → Bool
truth_by p f ss = truth f (λ n. bit (setting_in ss (p n)))

abbrev pub sign_by : Bool → Sign
sign_by true = Plus
sign_by false = Minus

-- a column set to 1 has factor 1, one set to 0 has factor -1
abbrev pub settings_sum : List Setting → Assignment → Number
settings_sum [] v = whole 0
settings_sum (s ∷ ss) v = signed (sign_by s.one) (v s.column) +ₙ settings_sum ss v

abbrev pub settings_terms : List Setting → List Term
settings_terms ss = map (λ s. record { column = s.column; factor = signed (sign_by s.one) (whole 1) }) ss

-- a number of ones, less 1 where so asked
abbrev pub bound_by : Bool → ℕ → ℤ
bound_by true n = pos n -ℤ pos 1
bound_by false n = pos n

-- the row of one choice of settings, at which the formula has this truth. With a target column: where it is true, the
-- target has factor -1 and the bound is the number of ones less 1; where it is false, the target has factor 1 and the
-- bound is the number of ones. With none: where it is false, the number of ones less 1 bounds the sum.
abbrev pub setting_stated : Option ℕ → Bool → List Setting → List Stated
setting_stated (Some r) t ss =
    record { left = λ v. settings_sum ss v +ₙ signed (sign_by (not t)) (v r); bound = int (bound_by t (ones ss)) } ∷ []
setting_stated None true ss = []
setting_stated None false ss = record { left = settings_sum ss; bound = int (bound_by true (ones ss)) } ∷ []

-- the rows of all settings that begin with those made: counted up from all 0, the first column being the highest digit
abbrev pub table_from : (List Setting → List Stated) → List Setting → List Setting → List Stated
table_from rows made [] = rows made
table_from rows made (s ∷ ss) =
    table_from rows (made ++ (set_to s.column false ∷ [])) ss ++ table_from rows (made ++ (set_to s.column true ∷ [])) ss

-- the rows of one choice of settings of a formula's names
abbrev pub rows_at : Option ℕ → (ℕ → ℕ) → FormulaTree → List Setting → List Stated
rows_at target p f ss = setting_stated target (truth_by p f ss) ss

abbrev pub table_of : Option ℕ → (ℕ → ℕ) → FormulaTree → List Stated
table_of target p f = table_from (rows_at target p f) [] (names_of p f)

-- ---- what helpers add
-- the target is no column of the list, or is below n; with none there is nothing to say
abbrev pub IsAbsent : Option ℕ → List ℕ → Type 0
IsAbsent None cs = Unit {0}
IsAbsent (Some r) cs = Each (λ c. r ≡ c → ⊥) cs

abbrev pub TargetBelow : ℕ → Option ℕ → Type 0
TargetBelow n None = Unit {0}
TargetBelow n (Some r) = r < n

-- the stated rows were added, over the columns of the settings and the target
abbrev pub AddsOver : Option ℕ → List ℕ → List Stated → List Row → List Row → Type 0
AddsOver target cs ss old new =
    (more : List Row) × (new ≡ old ++ more) × AreRows more ss
    × ((n : ℕ) → Each (λ c. c < n) cs → TargetBelow n target → EachBelow n more)

-- the rows of all settings that begin with those made were added
abbrev pub AddsTable : Option ℕ → (ℕ → ℕ) → FormulaTree → List Setting → List Setting → List Row → List Row → Type 0
AddsTable target p f made rest old new =
    AddsOver target (columns_of (made ++ rest)) (table_from (rows_at target p f) made rest) old new

-- the row has the settings' terms and the bound, and is no equation
abbrev pub IsSettingsRow : List Setting → ℤ → Row → Type 0
IsSettingsRow ss b r = (r.terms ≡ settings_terms ss) × (r.bound ≡ int b) × (r.eq ≡ false)

-- the names were collected, or both there and here they are more than four
abbrev pub Collects : (ℕ → ℕ) → FormulaTree → List Setting → List Setting → Type 0
Collects p f old new = (new ≡ names_among p f old) ⊎ ((4 < length new) × (4 < length (names_among p f old)))

-- ---- over the code's formulas and lists
-- the names of the formula were collected by their columns
abbrev pub CollectsNames : List ℕ → Formula → Vec Setting Global → Vec Setting Global → Type 0
CollectsNames columns l before after = Collects (column_in columns) (tree_of l) before.items after.items

-- the names of a short formula by their columns, each set to 0; none of another formula
abbrev pub AreShortNames : List ℕ → Formula → Option (Vec Setting Global) → Type 0
AreShortNames columns l names =
    MatchOption names (is_short (column_in columns) (tree_of l) ≡ false)
    (λ ss. (is_short (column_in columns) (tree_of l) ≡ true) × (ss.items ≡ names_of (column_in columns) (tree_of l)))

-- the row of one choice of settings was added, at which a formula has this truth
abbrev pub AddsSetting : Option ℕ → Bool → List Setting → Vec Row Global → Vec Row Global → Type 0
AddsSetting target t ss before after =
    AddsOver target (columns_of ss) (setting_stated target t ss) before.items after.items

-- the rows of all settings that begin with those made and go on with the columns of the rest were added
abbrev pub AddsRest :
    Option ℕ → List ℕ → Formula → Vec Setting Global → List Setting → Vec Row Global → Vec Row Global → Type 0
AddsRest target columns l made rest before after =
    AddsTable target (column_in columns) (tree_of l) made.items rest before.items after.items
