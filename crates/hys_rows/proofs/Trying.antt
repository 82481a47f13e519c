-- The form and the bodies of the tests have what their rows need of columns.
use Rattle.std.proofs.Common.{◌≡◌, ℕ, ◌<◌, ◌≤◌, List, [], ◌∷◌, length, pos, ap, arith, refl, None}
use Rattle.hys_number.specs.Gcd.{gcd}
use Rattle.hys_number.specs.Number.{Number, make}
use Rattle.hys_number.specs.Ops.{whole}
use Rattle.hys_lin.specs.declared.form.Affine.{Affine}
use Rattle.hys_lin.specs.declared.form.Interval.{Interval}
use Rattle.hys_lin.specs.Sums.{EachColumn}
use Rattle.hys_lin.proofs.Lists.{each_more}
use Rattle.hys_formula.specs.declared.formula.Formula.{Formula}
use Rattle.hys_formula.specs.Formulas.{tree_of, connectives}
use Rattle.hys_logic.specs.declared.usage.Use.TheVariants.{Read}
use Rattle.hys_logic.specs.Literals.{column_in}
use Rattle.hys_logic.specs.Meanings.{NamesWithin}
use Rattle.hys_logic.specs.Uses.{fresh_count}
use Rattle.hys_logic.proofs.Truths.{name_more}
use Rattle.hys_prog.specs.declared.program.Body.{Body}
use Rattle.hys_prog.specs.declared.program.Body.TheVariants.{Guard, Choice, Logic, Linear, NextBool, NextReal, OutBool, OutReal, MustHold, MustMost, MustZero}
use Rattle.hys_prog.specs.declared.program.ProgItem.{ProgItem}
use Rattle.hys_logic.proofs.Used.{fresh_few}
use Rattle.hys_rows.specs.Moved.{moved}
use Rattle.hys_rows.specs.Parts.{literal_form}
use Rattle.hys_rows.specs.Items.{FormulaWithin, FitsNames}
use Rattle.hys_rows.specs.Adding.{IsPlaced, IsBoxed, IsApart, IsPlacedFormula, IsPlacedBody}
use Rattle.hys_rows.proofs.Placing.{literal_below}

no_one : whole 1 ≡ whole 0 → ⊥
unfolding whole make gcd
no_one e = let q : pos 1 ≡ pos 0 = ap (λ (a : Number). a.num) e in absurd (cc)

no_two : whole 2 ≡ whole 0 → ⊥
unfolding whole make gcd
no_two e = let q : pos 2 ≡ pos 0 = ap (λ (a : Number). a.num) e in absurd (cc)

-- the columns of the names 0 to 3
abbrev pub four : List ℕ
four = 4 ∷ 1 ∷ 0 ∷ 2 ∷ []

pub form_placed : (c : Number) → IsPlaced four (record { terms = record { column = 0; factor = whole 1 } ∷ record { column = 1; factor = whole 2 } ∷ []; constant = c })
form_placed c =
    let zero : 0 < 4 = omega arith in
    let one : 1 < 4 = omega arith in
    record { within = (zero, (one, tt)); terms = (no_two, (one, tt), (no_one, tt, tt)) }

pub form_boxed : (boxes : List Interval) (f : Affine) → length boxes ≡ 4 → EachColumn (λ n. n < 4) f.terms → IsBoxed boxes f
form_boxed boxes f l h = each_more (λ n. n < 4) (λ n. n < length boxes) f.terms (λ n q. omega arith) h

pub form_apart : (z : ℕ) (f : Affine) → 5 ≤ z → EachColumn (λ c. c < 5) (moved four f).terms → IsApart z (moved four f)
form_apart z f l h = each_more (λ c. c < 5) (λ c. ¬ (c ≡ z)) (moved four f).terms (λ c q e. omega arith) h

pub literal_apart : (l : Formula) → IsPlacedFormula four 10 l → connectives (tree_of l) ≤ 5000 → IsApart 6000 (literal_form four 10 l)
literal_apart l p h = literal_below (λ c. ¬ (c ≡ 6000)) four 10 l p (λ c q e. let f : fresh_count Read (column_in four) (tree_of l) ≤ connectives (tree_of l) = fresh_few Read (column_in four) (tree_of l) in omega arith)

-- ---- the number of fresh columns
within : (columns : List ℕ) (k : ℕ) (l : Formula) → IsPlacedFormula columns k l → NamesWithin columns (tree_of l)
within columns k l h = name_more (λ n. (n < length columns) × (column_in columns n < k)) (λ n. n < length columns) (tree_of l) (λ n q. q.0) h

pub formula_within : (boxes : List Interval) (columns : List ℕ) (k z : ℕ) (b : Body) → IsPlacedBody boxes columns k z b → FormulaWithin columns b
formula_within boxes columns k z (Guard f e) h = tt
formula_within boxes columns k z (Choice l f g) h = within columns k l h.0
formula_within boxes columns k z (Logic l) h = within columns k l h.0
formula_within boxes columns k z (Linear f) h = tt
formula_within boxes columns k z (NextBool l) h = within columns k l h
formula_within boxes columns k z (NextReal f) h = tt
formula_within boxes columns k z (OutBool l) h = within columns k l h
formula_within boxes columns k z (OutReal f) h = tt
formula_within boxes columns k z (MustHold l) h = within columns k l h
formula_within boxes columns k z (MustMost f) h = tt
formula_within boxes columns k z (MustZero f) h = tt

-- ---- a demand where there are no names
pub demand_fits : (t : ProgItem) (a : Number) → t.name ≡ None → t.body ≡ MustMost (record { terms = []; constant = a }) → FitsNames [] [] 0 t
demand_fits t a n b = (
  [],
  record {
    placed = record { long = refl; differ = λ n m h k e. absurd h; booleans = λ n h. absurd h; reals = λ n h. absurd h };
    item = record { body = rw b (tt, tt); named = rw (n, b) refl; apart = rw n tt };
    long = refl;
  },
)
