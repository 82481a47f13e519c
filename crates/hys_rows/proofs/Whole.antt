-- What was added for an item means it, and is sound.
use Rattle.std.proofs.Common.{◌≡◌, ℕ, ◌+◌, ◌*◌, ◌<◌, ◌≤◌, List, [], ◌∷◌, ◌++◌, length, Option, Some, None, false, refl, ◌∙◌, ap, arith, IsTrue, length-append, All, Result, Ok, Err}
use Rattle.std.specs.Result.{IfOk}
use Rattle.std.proofs.lemmas.List.Elements.{All-cons, All-nil}
use Rattle.hys_lin.specs.declared.form.Affine.{Affine}
use Rattle.hys_lin.specs.declared.form.Interval.{Interval}
use Rattle.hys_lin.specs.declared.form.Row.{Row}
use Rattle.hys_lin.specs.Over.{AreTermsOver}
use Rattle.hys_lin.specs.Stated.{Stated, AreRows, EachBelow}
use Rattle.hys_lin.specs.Sums.{Assignment, value}
use Rattle.hys_lin.proofs.Lists.{each_more}
use Rattle.hys_formula.specs.declared.formula.Formula.{Formula}
use Rattle.hys_formula.specs.Formulas.{tree_of, connectives}
use Rattle.hys_prog.specs.declared.program.Body.{Body}
use Rattle.hys_prog.specs.declared.program.Body.TheVariants.{Guard, Choice, Logic, Linear, NextBool, NextReal, OutBool, OutReal, MustHold, MustMost, MustZero}
use Rattle.hys_prog.specs.declared.program.Name.{Name}
use Rattle.hys_prog.specs.declared.program.ProgItem.{ProgItem}
use Rattle.hys_prog.specs.Programs.{NameAt, IsVariable, IsBooleanVariable, BodyOver, FormOver, FormulaOver, Named, body_connectives}
use Rattle.hys_prog.specs.Stops.{number_of}
use Rattle.hys_logic.specs.declared.usage.Use.{Use}
use Rattle.hys_logic.specs.declared.usage.Use.TheVariants.{Read, Define, Require}
use Rattle.hys_logic.specs.Literals.{column_in}
use Rattle.hys_logic.specs.Rows.{Agrees}
use Rattle.hys_logic.specs.Uses.{fresh_by, literal_by}
use Rattle.hys_logic.proofs.Terms.{own_sorted}
use Rattle.hys_logic.proofs.Truths.{name_more, same_length}
use Rattle.hys_logic.proofs.Used.{fresh_names, fresh_length, fresh_few, used_count}
use Rattle.hys_exact.specs.Parts.{Means, by_columns, HasBits, AreSame, is_after}
use Rattle.hys_exact.specs.Sound.{body_weight}
use Rattle.hys_rows.specs.declared.added.Added.{Added}
use Rattle.hys_rows.specs.declared.fault.RowFault.{RowFault}
use Rattle.hys_rows.specs.Items.{fresh_in, AreColumns, Fits, AreBelow}
use Rattle.hys_rows.specs.Moved.{moved}
use Rattle.hys_rows.specs.Parts.{own_column, formula_stated, chosen_stated, body_stated, stated_in, literal_form, form_in, truths_in, part_of, Adds}
use Rattle.hys_rows.specs.Adding.{FormBelow, BodyBelow, AddsRows}
use Rattle.hys_rows.proofs.Moving.{moved_each, moved_value}
use Rattle.hys_rows.proofs.Placing.{boolean_variable, truth_boolean, real_variable, form_placed, formula_placed, literal_below}
use Rattle.hys_rows.proofs.Meaning.{Halves, halves, literal_value, body_means}

-- ---- fresh columns
body_long : (columns : List ℕ) (b : Body) (w : Assignment) → length (truths_in columns b w) ≡ fresh_in columns b
body_long columns (Guard f e) w = refl
body_long columns (Choice l f g) w = fresh_length Read (column_in columns) (tree_of l) w
body_long columns (Logic l) w = fresh_length (Define 0) (column_in columns) (tree_of l) w
body_long columns (Linear f) w = refl
body_long columns (NextBool l) w = fresh_length Read (column_in columns) (tree_of l) w
body_long columns (NextReal f) w = refl
body_long columns (OutBool l) w = fresh_length Read (column_in columns) (tree_of l) w
body_long columns (OutReal f) w = refl
body_long columns (MustHold l) w = fresh_length Require (column_in columns) (tree_of l) w
body_long columns (MustMost f) w = refl
body_long columns (MustZero f) w = refl

formula_same : (names : List Name) (u : Use) (columns : List ℕ) (l : Formula) (w x : Assignment) → FormulaOver names l → AreSame names w x → fresh_by u (column_in columns) (tree_of l) w ≡ fresh_by u (column_in columns) (tree_of l) x
formula_same names u columns l w x o h = fresh_names u (column_in columns) (tree_of l) w x (name_more (λ n. NameAt names n IsBooleanVariable) (λ n. w n ≡ x n) (tree_of l) (λ n q. h n (boolean_variable names n q)) o)

body_same : (names : List Name) (columns : List ℕ) (b : Body) (w x : Assignment) → BodyOver names b → AreSame names w x → truths_in columns b w ≡ truths_in columns b x
body_same names columns (Guard f e) w x o h = refl
body_same names columns (Choice l f g) w x o h = formula_same names Read columns l w x o.0 h
body_same names columns (Logic l) w x o h = formula_same names (Define 0) columns l w x o h
body_same names columns (Linear f) w x o h = refl
body_same names columns (NextBool l) w x o h = formula_same names Read columns l w x o h
body_same names columns (NextReal f) w x o h = refl
body_same names columns (OutBool l) w x o h = formula_same names Read columns l w x o h
body_same names columns (OutReal f) w x o h = refl
body_same names columns (MustHold l) w x o h = formula_same names Require columns l w x o h
body_same names columns (MustMost f) w x o h = refl
body_same names columns (MustZero f) w x o h = refl

-- ---- the form
body_gives : (names : List Name) (columns : List ℕ) (k : ℕ) (b : Body) (v : Assignment) → BodyOver names b → IsTrue (is_after b) → HasBits names (by_columns columns v) → Agrees v k (truths_in columns b (by_columns columns v)) →
    value (form_in columns k b) v ≡ number_of (by_columns columns v) b
body_gives names columns k (Guard f e) v o c b a = absurd (cc)
body_gives names columns k (Choice l f g) v o c b a = absurd (cc)
body_gives names columns k (Logic l) v o c b a = absurd (cc)
body_gives names columns k (Linear f) v o c b a = absurd (cc)
body_gives names columns k (NextBool l) v o c b a = literal_value names columns k l v o b a
body_gives names columns k (NextReal f) v o c b a = moved_value columns f v
body_gives names columns k (OutBool l) v o c b a = literal_value names columns k l v o b a
body_gives names columns k (OutReal f) v o c b a = moved_value columns f v
body_gives names columns k (MustHold l) v o c b a = absurd (cc)
body_gives names columns k (MustMost f) v o c b a = absurd (cc)
body_gives names columns k (MustZero f) v o c b a = absurd (cc)

item_means : (boxes : List Interval) (columns : List ℕ) (k : ℕ) (t : ProgItem) (more : List Row) → AreRows more (stated_in boxes columns k t) → (names : List Name) → Fits names boxes columns k t → Means names boxes columns k t (part_of columns k t more)
item_means boxes columns k t more a names f = record {
  long = λ w. body_long columns t.body w;
  same = λ w x h. body_same names columns t.body w x f.item.body h;
  means = λ v b j i.
      let q = body_means names boxes columns k t.name t.body more v f.item.body f.item.named a b j i in (
        λ h. let m = q.0 h in (record { case = m.0.0; no_gap = m.0.1; demand = m.0.2 }, m.1),
        λ h. q.1 ((h.0.case, h.0.no_gap, h.0.demand), h.1),
      );
  gives = λ v c b g. body_gives names columns k t.body v f.item.body c b g;
}

-- ---- columns below a number
form_below : (names : List Name) (columns : List ℕ) (k count total : ℕ) (f : Affine) → AreBelow names columns k count total → FormOver names f → FormBelow (moved columns f) total
form_below names columns k count total f a o = moved_each (λ c. c < total) columns [] f.terms tt (each_more (λ n. NameAt names n IsVariable) (λ n. column_in columns n < total) f.terms (λ n q. a.named n q) o.1)

read_below : (names : List Name) (columns : List ℕ) (k count total : ℕ) (l : Formula) → AreColumns names columns k count → FormulaOver names l → k + fresh_in columns (NextBool l) ≤ total → FormBelow (literal_form columns k l) total
read_below names columns k count total l a o h = literal_below (λ c. c < total) columns k l (formula_placed names columns k count l a o) (λ c i. omega arith)

body_below : (names : List Name) (columns : List ℕ) (k total : ℕ) (name : Option ℕ) (b : Body) → AreColumns names columns k (fresh_in columns b) → AreBelow names columns k (fresh_in columns b) total → BodyOver names b → Named names name b →
    BodyBelow columns k (own_column columns name) b total
body_below names columns k total (Some n) (Guard f e) a h o s = (h.named n (boolean_variable names n (truth_boolean names n s)), form_below names columns k 0 total f h o.0)
body_below names columns k total None (Guard f e) a h o s = absurd (cc)
body_below names columns k total (Some n) (Choice l f g) a h o s =
    let c : ℕ = fresh_in columns (Choice l f g) in
    (h.fresh, h.named n (real_variable names n s), read_below names columns k c total l a o.0 h.fresh, form_below names columns k c total f h o.1, form_below names columns k c total g h o.2)
body_below names columns k total None (Choice l f g) a h o s = absurd (cc)
body_below names columns k total name (Logic l) a h o s = h.fresh
body_below names columns k total (Some n) (Linear f) a h o s = (h.named n (real_variable names n s), form_below names columns k 0 total f h o)
body_below names columns k total None (Linear f) a h o s = absurd (cc)
body_below names columns k total name (NextBool l) a h o s = h.fresh
body_below names columns k total name (NextReal f) a h o s = tt
body_below names columns k total name (OutBool l) a h o s = h.fresh
body_below names columns k total name (OutReal f) a h o s = tt
body_below names columns k total name (MustHold l) a h o s = h.fresh
body_below names columns k total name (MustMost f) a h o s = form_below names columns k 0 total f h o
body_below names columns k total name (MustZero f) a h o s = form_below names columns k 0 total f h o

-- ---- sound rows
rows_over : (total : ℕ) (rs : List Row) (ss : List Stated) → AreRows rs ss → EachBelow total rs → All (λ r. AreTermsOver total r.terms) rs
rows_over total [] ss a b = All-nil (λ (r : Row). AreTermsOver total r.terms)
rows_over total (r ∷ rs) [] a b = absurd a
rows_over total (r ∷ rs) (s ∷ ss) a b = All-cons (λ (q : Row). AreTermsOver total q.terms) r rs (record { rise = a.0.terms; below = b.0 }) (rows_over total rs ss a.1 b.1)

no_equation : (rs : List Row) (ss : List Stated) → AreRows rs ss → All (λ r. r.eq ≡ false) rs
no_equation [] ss a = All-nil (λ (r : Row). r.eq ≡ false)
no_equation (r ∷ rs) [] a = absurd a
no_equation (r ∷ rs) (s ∷ ss) a = All-cons (λ (q : Row). q.eq ≡ false) r rs a.0.at_most (no_equation rs ss a.1)

form_over : (names : List Name) (columns : List ℕ) (k count total : ℕ) (f : Affine) → AreColumns names columns k count → AreBelow names columns k count total → FormOver names f → AreTermsOver total (moved columns f).terms
form_over names columns k count total f a h o = record { rise = (form_placed names columns k count f a o).terms; below = form_below names columns k count total f h o }

literal_over : (names : List Name) (columns : List ℕ) (k count total : ℕ) (l : Formula) → AreColumns names columns k count → FormulaOver names l → k + fresh_in columns (NextBool l) ≤ total → AreTermsOver total (literal_form columns k l).terms
literal_over names columns k count total l a o h = record { rise = (own_sorted (literal_by Read (column_in columns) k (tree_of l))).0; below = read_below names columns k count total l a o h }

body_form : (names : List Name) (columns : List ℕ) (k total : ℕ) (b : Body) → AreColumns names columns k (fresh_in columns b) → AreBelow names columns k (fresh_in columns b) total → BodyOver names b → AreTermsOver total (form_in columns k b).terms
body_form names columns k total (Guard f e) a h o = record { rise = tt; below = tt }
body_form names columns k total (Choice l f g) a h o = record { rise = tt; below = tt }
body_form names columns k total (Logic l) a h o = record { rise = tt; below = tt }
body_form names columns k total (Linear f) a h o = record { rise = tt; below = tt }
body_form names columns k total (NextBool l) a h o = literal_over names columns k _ total l a o h.fresh
body_form names columns k total (NextReal f) a h o = form_over names columns k 0 total f a h o
body_form names columns k total (OutBool l) a h o = literal_over names columns k _ total l a o h.fresh
body_form names columns k total (OutReal f) a h o = form_over names columns k 0 total f a h o
body_form names columns k total (MustHold l) a h o = record { rise = tt; below = tt }
body_form names columns k total (MustMost f) a h o = record { rise = tt; below = tt }
body_form names columns k total (MustZero f) a h o = record { rise = tt; below = tt }

few_fresh : (columns : List ℕ) (b : Body) → fresh_in columns b ≤ body_connectives b
few_fresh columns (Guard f e) = omega arith
few_fresh columns (Choice l f g) = fresh_few Read (column_in columns) (tree_of l)
few_fresh columns (Logic l) = fresh_few (Define 0) (column_in columns) (tree_of l)
few_fresh columns (Linear f) = omega arith
few_fresh columns (NextBool l) = fresh_few Read (column_in columns) (tree_of l)
few_fresh columns (NextReal f) = omega arith
few_fresh columns (OutBool l) = fresh_few Read (column_in columns) (tree_of l)
few_fresh columns (OutReal f) = omega arith
few_fresh columns (MustHold l) = fresh_few Require (column_in columns) (tree_of l)
few_fresh columns (MustMost f) = omega arith
few_fresh columns (MustZero f) = omega arith

choice_few : (boxes : List Interval) (columns : List ℕ) (k z : ℕ) (l : Formula) (f g : Affine) (rs : List Row) → AreRows rs (formula_stated Read columns k l ++ chosen_stated boxes columns k z l f g) → length rs ≤ 5 * (connectives (tree_of l) + 1)
choice_few boxes columns k z l f g rs a =
    let q : Halves rs (formula_stated Read columns k l) (chosen_stated boxes columns k z l f g) = halves rs _ _ a in
    let x : length q.front ≤ 4 * connectives (tree_of l) + 0 = used_count Read columns k (tree_of l) q.front q.first in
    let y : length q.back ≡ 4 = same_length q.back (chosen_stated boxes columns k z l f g) q.second in
    let e : length rs ≡ length q.front + length q.back = ap (λ (xs : List Row). length xs) q.both ∙ length-append q.front q.back in
    omega arith

body_few : (boxes : List Interval) (columns : List ℕ) (k z : ℕ) (b : Body) (rs : List Row) → AreRows rs (body_stated boxes columns k z b) → length rs ≤ 5 * body_weight b
body_few boxes columns k z (Guard f e) rs a = let x : length rs ≡ 2 = same_length rs _ a in omega arith
body_few boxes columns k z (Choice l f g) rs a = choice_few boxes columns k z l f g rs a
body_few boxes columns k z (Logic l) rs a = let x : length rs ≤ 4 * connectives (tree_of l) + 2 = used_count (Define z) columns k (tree_of l) rs a in omega arith
body_few boxes columns k z (Linear f) rs a = let x : length rs ≡ 2 = same_length rs _ a in omega arith
body_few boxes columns k z (NextBool l) rs a = let x : length rs ≤ 4 * connectives (tree_of l) + 0 = used_count Read columns k (tree_of l) rs a in omega arith
body_few boxes columns k z (NextReal f) rs a = let x : length rs ≡ 0 = same_length rs _ a in omega arith
body_few boxes columns k z (OutBool l) rs a = let x : length rs ≤ 4 * connectives (tree_of l) + 0 = used_count Read columns k (tree_of l) rs a in omega arith
body_few boxes columns k z (OutReal f) rs a = let x : length rs ≡ 0 = same_length rs _ a in omega arith
body_few boxes columns k z (MustHold l) rs a = let x : length rs ≤ 4 * connectives (tree_of l) + 1 = used_count Require columns k (tree_of l) rs a in omega arith
body_few boxes columns k z (MustMost f) rs a = let x : length rs ≡ 1 = same_length rs _ a in omega arith
body_few boxes columns k z (MustZero f) rs a = let x : length rs ≡ 2 = same_length rs _ a in omega arith

-- ---- the whole item
pub item_added : (boxes : List Interval) (columns : List ℕ) (k : ℕ) (t : ProgItem) (old new : List Row) (a : Added) → AddsRows (body_stated boxes columns k (own_column columns t.name) t.body) (BodyBelow columns k (own_column columns t.name) t.body) old new → a.fresh ≡ fresh_in columns t.body → a.form ≡ form_in columns k t.body →
    Adds boxes columns k t old new a
item_added boxes columns k t old new a b e f = (
  b.0,
  b.1,
  record {
    fresh = e;
    form = f;
    rows = b.2;
    means = λ names h. item_means boxes columns k t b.0 b.2 names h;
    sound = λ names total h l. record {
      rows = rows_over total b.0 (stated_in boxes columns k t) b.2 (b.3 total (body_below names columns k total t.name t.body h.placed l h.item.body h.item.named));
      no_equation = no_equation b.0 (stated_in boxes columns k t) b.2;
      form = body_form names columns k total t.body h.placed l h.item.body;
      few_fresh = few_fresh columns t.body;
      few_rows = body_few boxes columns k (own_column columns t.name) t.body b.0 b.2;
    };
  },
)

pub answer_added : (boxes : List Interval) (columns : List ℕ) (k : ℕ) (t : ProgItem) (old new : List Row) (r : Result Added RowFault) → IfOk r (λ a. AddsRows (body_stated boxes columns k (own_column columns t.name) t.body) (BodyBelow columns k (own_column columns t.name) t.body) old new) → IfOk r (λ a. a.fresh ≡ fresh_in columns t.body) → IfOk r (λ a. a.form ≡ form_in columns k t.body) →
    IfOk r (λ a. Adds boxes columns k t old new a)
answer_added boxes columns k t old new (Ok a) b e f = item_added boxes columns k t old new a b e f
answer_added boxes columns k t old new (Err x) b e f = tt
