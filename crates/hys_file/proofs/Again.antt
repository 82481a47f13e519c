-- The value of a lawful system whose numbers fit stands for that system.
use Rattle.std.proofs.Common.{◌≡◌, ℕ, suc, ◌+◌, ◌*◌, ◌^◌, ◌<◌, ◌≤◌, List, [], ◌∷◌, ◌++◌, true, false, not, ◌&&◌, cond, Option, Some, None, map, length, codes, nat_lt, nat_le, nat_eq, pos, IsTrue, refl, sym, ◌∙◌, ap, ap₂, subst, arith, tests}
use Rattle.std.specs.Prelude.{is_some}
use Rattle.std.specs.List.{AllByRecursion}
use Rattle.std.specs.Ordering.{MatchOrdering}
use Rattle.std.specs.declared.cmp.Ordering.{Ordering}
use Rattle.std.specs.declared.cmp.Ordering.TheVariants.{Less, Equal, Greater}
use Rattle.std.proofs.lemmas.List.Elements.{recursion_from_All}
use Rattle.serde_json.specs.Data.{Data, number as numeral, unsigned, string, array}
use Rattle.serde_json.specs.View.{items_of}
use Rattle.hys_number.specs.Gcd.{gcd}
use Rattle.hys_number.specs.Number.{Number, make}
use Rattle.hys_number.specs.Ops.{◌≤ₙ◌, ◌<ₙ◌, whole, fits}
use Rattle.hys_number.proofs.Bools.{lt_true, lt_false, eq_true, both_true}
use Rattle.hys_number.proofs.Order.{lt_irrefl, lt_of_lt-le, at_least_zero}
use Rattle.hys_frac.specs.Compare.{number_cmp, number_ranks}
use Rattle.hys_frac.proofs.RoundTrip.{read_back}
use Rattle.hys_lin.specs.Sums.{EachColumn}
use Rattle.hys_lin.specs.Over.{AreTermsOver}
use Rattle.hys_lin.specs.declared.form.Term.{Term}
use Rattle.hys_lin.specs.declared.form.Affine.{Affine}
use Rattle.hys_lin.specs.declared.form.Interval.{Interval}
use Rattle.hys_lin.specs.declared.form.Row.{Row}
use Rattle.hys_lin.proofs.Lists.{each_more}
use Rattle.hys_json.specs.Checks.{Check, shape, number, first_fault, under}
use Rattle.hys_json.specs.Values.{each_from, list_checks, member_in, text_checks, word_checks, fits_by, fraction_by, fraction_in, fraction_checks, or_zero, whole_by, whole_in, whole_checks, closed_checks, is_one_of}
use Rattle.hys_json.proofs.Judging.{none_after_none, deeper_none, none_of_five}
use Rattle.hys_json.proofs.Passing.{none_of_each, none_of_list}
use Rattle.hys_json.proofs.Readings.{listed}
use Rattle.hys_sys.specs.declared.system.ColumnRole.{ColumnRole}
use Rattle.hys_sys.specs.declared.system.ColumnRole.TheVariants.{State, Input, D, Z}
use Rattle.hys_sys.specs.declared.system.Kind2.{Kind2}
use Rattle.hys_sys.specs.declared.system.Kind2.TheVariants.{Real}
use Rattle.hys_sys.specs.declared.system.Kind2.TheVariants as kind
use Rattle.hys_sys.specs.declared.system.Column.{Column}
use Rattle.hys_sys.specs.declared.system.Output.{Output}
use Rattle.hys_sys.specs.declared.system.System.{System}
use Rattle.hys_sys.specs.System.{IsSystem, IsBox, InOrder, rank, states}
use Rattle.hys_json.specs.Shown.{fraction_data}
use Rattle.hys_file.specs.Matrix.{kind_word, role_word, column_data, term_data, terms_data, next_data, output_data, row_data, rows_data, matrix_data}
use Rattle.hys_file.specs.Fitting.{ColumnFits, TermFits, FormFits, OutputFits, RowFits, NumbersFit}
use Rattle.hys_file.specs.Reading.{item_in, pair_checks, first, second, term_in, is_equal, is_zero, term_checks, after_term, terms_in, terms_checks, form_keys, form_in, form_checks, isnt_greater, box_checks, kind_in, kind_checks, role_in, role_checks, column_keys, column_in, after_column, is_kinds_box, column_parts, column_rules, column_checks, columns_in, columns_checks, form_asked, after_form, next_in, next_checks, output_keys, output_in, after_output, output_parts, output_checks, column_name, output_name, outputs_in, outputs_checks, row_in, row_keys, row_checks, after_row, labelled, rows_checks, row_of, label_of, matrix_keys, version_checks, forms_checks, front_checks, back_checks, matrix_checks, system_in, most_weight, limit_of}
use Rattle.hys_file.proofs.Distinct.{Fresh, fresh_differ, fresh_front, fresh_back}

-- ---- tests
at_most : (m n : ℕ) → m ≤ n → nat_le m n ≡ true
at_most m n h = grind (arith, tests)

not_greater : (a b : Number) → a ≤ₙ b → isnt_greater (number_cmp a b) ≡ true
not_greater a b h = go (number_cmp a b) (number_ranks a b)
  where
    go : (r : Ordering) → MatchOrdering r (a <ₙ b) (a ≡ b) (b <ₙ a) → isnt_greater r ≡ true
    go Less k = refl
    go Equal k = refl
    go Greater k = absurd (lt_irrefl b (lt_of_lt-le b a b k h))

same_numbers : (a b : Number) → a ≡ b → is_equal (number_cmp a b) ≡ true
same_numbers a b h = go (number_cmp a b) (number_ranks a b)
  where
    go : (r : Ordering) → MatchOrdering r (a <ₙ b) (a ≡ b) (b <ₙ a) → is_equal r ≡ true
    go Less k = absurd (lt_irrefl b (subst (λ x. x <ₙ b) h k))
    go Equal k = refl
    go Greater k = absurd (lt_irrefl b (subst (λ x. b <ₙ x) h k))

not_zero : (a : Number) → ¬ (a ≡ whole 0) → is_zero a ≡ false
not_zero a h = go (number_cmp a (whole 0)) (number_ranks a (whole 0))
  where
    go : (r : Ordering) → MatchOrdering r (a <ₙ whole 0) (a ≡ whole 0) (whole 0 <ₙ a) → is_equal r ≡ false
    go Less k = refl
    go Equal k = absurd (h k)
    go Greater k = refl

-- ---- numbers
number_again : (a : Number) → IsTrue (fits a) → fraction_in (fraction_data a) ≡ a
number_again a f = ap fraction_by (read_back a f)

number_passes : (a : Number) → IsTrue (fits a) → first_fault (fraction_checks (fraction_data a)) ≡ None
number_passes a f = ap (λ r. first_fault (shape true ∷ number (fits_by r) ∷ [])) (read_back a f)

whole_again : (n : ℕ) → n < 2 ^ 32 → whole_by (numeral (unsigned n)) ≡ Some n
whole_again n h = ap (λ b. cond b (Some n) None) (lt_true n (2 ^ 32) h)

-- ---- terms
place_again : (t : Term) → t.column < 2 ^ 32 → whole_in (item_in 0 (term_data t)) ≡ t.column
place_again t h = ap or_zero (whole_again t.column h)

term_again : (t : Term) → t.column < 2 ^ 32 → TermFits t → term_in (term_data t) ≡ t
term_again t h f = λ i. record { column = place_again t h i; factor = number_again t.factor f i }

terms_again : (ts : List Term) → EachColumn (λ c. c < 2 ^ 32) ts → AllByRecursion TermFits ts → map term_in (map term_data ts) ≡ ts
terms_again [] b f = refl
terms_again (t ∷ ts) b f = λ i. term_again t b.0 f.0 i ∷ terms_again ts b.1 f.1 i

terms_read : (columns : ℕ) (ts : List Term) → columns ≤ 2 ^ 32 → AreTermsOver columns ts → AllByRecursion TermFits ts → terms_in (terms_data ts) ≡ ts
terms_read columns ts m o f =
    ap (map term_in) (listed (map term_data ts))
    ∙ terms_again ts (each_more (λ c. c < columns) (λ c. c < 2 ^ 32) ts (λ c h. omega (arith, h, m)) o.below) f

term_passes : (columns least : ℕ) (t : Term) → columns ≤ 2 ^ 32 → least ≤ t.column → t.column < columns → ¬ (t.factor ≡ whole 0) → TermFits t →
    first_fault (term_checks (record { columns = columns; least = least }) (term_data t)) ≡ None
unfolding pair_checks
term_passes columns least t m l b z f =
    let small : t.column < 2 ^ 32 = omega arith in
    let d : Data = term_data t in
    let place : first_fault (shape (nat_le least (whole_in (item_in 0 d)) && nat_lt (whole_in (item_in 0 d)) columns) ∷ []) ≡ None =
    ap (λ (n : ℕ). first_fault (shape (nat_le least n && nat_lt n columns) ∷ [])) (place_again t small)
    ∙ ap (λ c. first_fault (shape c ∷ [])) (both_true (nat_le least t.column) (nat_lt t.column columns) (at_most least t.column l) (lt_true t.column columns b)) in
    let factor : first_fault (shape (not (is_zero (fraction_in (item_in 1 d)))) ∷ []) ≡ None =
    ap (λ a. first_fault (shape (not (is_zero a)) ∷ [])) (number_again t.factor f) ∙ ap (λ c. first_fault (shape (not c) ∷ [])) (not_zero t.factor z) in
    none_of_five (pair_checks d) (under first (whole_checks (item_in 0 d))) (under second (fraction_checks (item_in 1 d)))
    (under first (shape (nat_le least (whole_in (item_in 0 d)) && nat_lt (whole_in (item_in 0 d)) columns) ∷ []))
    (under second (shape (not (is_zero (fraction_in (item_in 1 d)))) ∷ []))
    refl
    (deeper_none first (whole_checks (item_in 0 d)) (ap (λ (o : Option ℕ). first_fault (shape (is_some o) ∷ [])) (whole_again t.column small)))
    (deeper_none second (fraction_checks (item_in 1 d)) (number_passes t.factor f))
    (deeper_none first (shape (nat_le least (whole_in (item_in 0 d)) && nat_lt (whole_in (item_in 0 d)) columns) ∷ []) place)
    (deeper_none second (shape (not (is_zero (fraction_in (item_in 1 d)))) ∷ []) factor)

each_term : (columns k least : ℕ) (ts : List Term) → columns ≤ 2 ^ 32 → EachColumn (λ c. least ≤ c) ts → AreTermsOver columns ts → AllByRecursion TermFits ts →
    first_fault (each_from term_checks after_term k (record { columns = columns; least = least }) (map term_data ts)) ≡ None
each_term columns k least [] m l o f = refl
each_term columns k least (t ∷ ts) m l o f =
    none_of_each term_checks after_term k (record { columns = columns; least = least }) (term_data t) (map term_data ts)
    (term_passes columns least t m l.0 o.below.0 o.rise.0 f.0)
    (subst (λ (n : ℕ). first_fault (each_from term_checks after_term (suc k) (record { columns = columns; least = n + 1 }) (map term_data ts)) ≡ None)
    (sym (place_again t (omega (arith, m, o.below.0))))
    (each_term columns (suc k) (t.column + 1) ts m (each_more (λ c. t.column < c) (λ c. t.column + 1 ≤ c) ts (λ c h. omega arith) o.rise.1) (record { rise = o.rise.2; below = o.below.1 }) f.1))

terms_pass : (columns : ℕ) (ts : List Term) → columns ≤ 2 ^ 32 → AreTermsOver columns ts → AllByRecursion TermFits ts → first_fault (terms_checks columns (terms_data ts)) ≡ None
terms_pass columns ts m o f =
    none_of_list term_checks after_term (record { columns = columns; least = 0 }) (terms_data ts) refl
    (subst (λ ds. first_fault (each_from term_checks after_term 0 (record { columns = columns; least = 0 }) ds) ≡ None) (sym (listed (map term_data ts)))
    (each_term columns 0 0 ts m (each_more (λ c. c < columns) (λ c. 0 ≤ c) ts (λ c h. omega arith) o.below) o f))

-- ---- forms
form_again : (columns : ℕ) (f : Affine) → columns ≤ 2 ^ 32 → AreTermsOver columns f.terms → FormFits f → form_in (next_data f) ≡ f
form_again columns f m o n = λ i. record { terms = terms_read columns f.terms m o n.1 i; constant = number_again f.constant n.0 i }

form_closed : (f : Affine) → first_fault (closed_checks form_keys (next_data f)) ≡ None
unfolding closed_checks
form_closed f = refl

form_passes : (columns : ℕ) (f : Affine) → columns ≤ 2 ^ 32 → AreTermsOver columns f.terms → FormFits f → first_fault (form_checks columns (next_data f)) ≡ None
form_passes columns f m o n =
    let constant : List Check = under (codes "constant") (fraction_checks (fraction_data f.constant)) in
    let terms : List Check = under (codes "terms") (terms_checks columns (terms_data f.terms)) in
    none_after_none (closed_checks form_keys (next_data f)) (constant ++ terms) (form_closed f)
    (none_after_none constant terms (deeper_none (codes "constant") (fraction_checks (fraction_data f.constant)) (number_passes f.constant n.0))
    (deeper_none (codes "terms") (terms_checks columns (terms_data f.terms)) (terms_pass columns f.terms m o n.1)))

-- ---- kinds and roles
kind_again : (k : Kind2) → kind_in (string (kind_word k)) ≡ k
kind_again Real = refl
kind_again kind.Bool = refl

kind_passes : (k : Kind2) → first_fault (kind_checks (string (kind_word k))) ≡ None
kind_passes Real = refl
kind_passes kind.Bool = refl

role_again : (r : ColumnRole) → role_in (string (role_word r)) ≡ r
role_again State = refl
role_again Input = refl
role_again D = refl
role_again Z = refl

role_passes : (r : ColumnRole) → first_fault (role_checks (string (role_word r))) ≡ None
role_passes State = refl
role_passes Input = refl
role_passes D = refl
role_passes Z = refl

-- ---- columns
one_num : (whole 1).num ≡ pos 1
unfolding whole make gcd
one_num = refl

zero_one : whole 0 ≤ₙ whole 1
zero_one = at_least_zero (whole 1) 1 one_num

is_interval : (k : Kind2) (i : Interval) → IsBox k i → i.low ≤ₙ i.high
is_interval Real i b = b
is_interval kind.Bool i b = subst (λ a. a ≤ₙ i.high) (sym b.0) (subst (λ a. whole 0 ≤ₙ a) (sym b.1) zero_one)

is_kinds : (k : Kind2) (i : Interval) → IsBox k i → is_kinds_box k i ≡ true
is_kinds Real i b = refl
is_kinds kind.Bool i b = both_true (is_equal (number_cmp i.low (whole 0))) (is_equal (number_cmp i.high (whole 1))) (same_numbers i.low (whole 0) b.0) (same_numbers i.high (whole 1) b.1)

column_again : (c : Column) → ColumnFits c → column_in (column_data c) ≡ c
column_again c f = λ i. record {
  name = c.name;
  role = role_again c.role i;
  kind = kind_again c.kind i;
  bounds = record { low = number_again c.bounds.low f.0 i; high = number_again c.bounds.high f.1 i };
}

abbrev bounds_data : Interval → Data
bounds_data b = member_in (codes "box") (column_data (record { name = []; role = State; kind = Real; bounds = b }))

box_passes : (b : Interval) → b.low ≤ₙ b.high → IsTrue (fits b.low) → IsTrue (fits b.high) → first_fault (box_checks (bounds_data b)) ≡ None
unfolding pair_checks
box_passes b l f g =
    let low : List Check = under first (fraction_checks (fraction_data b.low)) in
    let high : List Check = under second (fraction_checks (fraction_data b.high)) in
    let test : List Check = shape (isnt_greater (number_cmp (fraction_in (fraction_data b.low)) (fraction_in (fraction_data b.high)))) ∷ [] in
    none_after_none (pair_checks (bounds_data b)) (low ++ (high ++ test)) refl
    (none_after_none low (high ++ test) (deeper_none first (fraction_checks (fraction_data b.low)) (number_passes b.low f))
    (none_after_none high test (deeper_none second (fraction_checks (fraction_data b.high)) (number_passes b.high g))
    (ap₂ (λ x y. first_fault (shape (isnt_greater (number_cmp x y)) ∷ [])) (number_again b.low f) (number_again b.high g) ∙ ap (λ t. first_fault (shape t ∷ [])) (not_greater b.low b.high l))))

parts_pass : (c : Column) → c.bounds.low ≤ₙ c.bounds.high → ColumnFits c → first_fault (column_parts (column_data c)) ≡ None
unfolding column_parts closed_checks
parts_pass c l f =
    let d : Data = column_data c in
    none_of_five (closed_checks column_keys d) (under (codes "box") (box_checks (bounds_data c.bounds))) (under (codes "kind") (kind_checks (string (kind_word c.kind))))
    (under (codes "name") (text_checks (string c.name))) (under (codes "role") (role_checks (string (role_word c.role))))
    refl
    (deeper_none (codes "box") (box_checks (bounds_data c.bounds)) (box_passes c.bounds l f.0 f.1))
    (deeper_none (codes "kind") (kind_checks (string (kind_word c.kind))) (kind_passes c.kind))
    (deeper_none (codes "name") (text_checks (string c.name)) refl)
    (deeper_none (codes "role") (role_checks (string (role_word c.role))) (role_passes c.role))

rules_hold : (ns : List (List ℕ)) (least : ℕ) (c : Column) → IsBox c.kind c.bounds → is_one_of ns c.name ≡ false → least ≤ rank c.role → first_fault (column_rules (record { names = ns; rank = least }) c) ≡ None
unfolding column_rules
rules_hold ns least c b n l =
    let box : List Check = under (codes "box") (shape (is_kinds_box c.kind c.bounds) ∷ []) in
    let name : List Check = under (codes "name") (shape (not (is_one_of ns c.name)) ∷ []) in
    let role : List Check = under (codes "role") (shape (nat_le least (rank c.role)) ∷ []) in
    none_after_none box (name ++ role) (deeper_none (codes "box") (shape (is_kinds_box c.kind c.bounds) ∷ []) (ap (λ t. first_fault (shape t ∷ [])) (is_kinds c.kind c.bounds b)))
    (none_after_none name role (deeper_none (codes "name") (shape (not (is_one_of ns c.name)) ∷ []) (ap (λ t. first_fault (shape (not t) ∷ [])) n))
    (deeper_none (codes "role") (shape (nat_le least (rank c.role)) ∷ []) (ap (λ t. first_fault (shape t ∷ [])) (at_most least (rank c.role) l))))

column_passes : (ns : List (List ℕ)) (least : ℕ) (c : Column) → IsBox c.kind c.bounds → ColumnFits c → is_one_of ns c.name ≡ false → least ≤ rank c.role →
    first_fault (column_checks (record { names = ns; rank = least }) (column_data c)) ≡ None
column_passes ns least c b f n l =
    none_after_none (column_parts (column_data c)) (column_rules (record { names = ns; rank = least }) (column_in (column_data c)))
    (parts_pass c (is_interval c.kind c.bounds b) f)
    (subst (λ e. first_fault (column_rules (record { names = ns; rank = least }) e) ≡ None) (sym (column_again c f)) (rules_hold ns least c b n l))

columns_again : (cs : List Column) → AllByRecursion ColumnFits cs → map column_in (map column_data cs) ≡ cs
columns_again [] f = refl
columns_again (c ∷ cs) f = λ i. column_again c f.0 i ∷ columns_again cs f.1 i

each_column : (k : ℕ) (ns : List (List ℕ)) (least : ℕ) (cs : List Column) → Fresh ns (map column_name cs) → AllByRecursion (λ (c : Column). least ≤ rank c.role) cs → InOrder cs →
    AllByRecursion (λ (c : Column). IsBox c.kind c.bounds) cs → AllByRecursion ColumnFits cs →
    first_fault (each_from column_checks after_column k (record { names = ns; rank = least }) (map column_data cs)) ≡ None
each_column k ns least [] n l o b f = refl
each_column k ns least (c ∷ cs) n l o b f =
    none_of_each column_checks after_column k (record { names = ns; rank = least }) (column_data c) (map column_data cs)
    (column_passes ns least c b.0 f.0 n.0 l.0)
    (subst (λ (r : ColumnRole). first_fault (each_from column_checks after_column (suc k) (record { names = ns ++ c.name ∷ []; rank = rank r }) (map column_data cs)) ≡ None) (sym (role_again c.role))
    (each_column (suc k) (ns ++ c.name ∷ []) (rank c.role) cs n.1 (recursion_from_All (λ (e : Column). rank c.role ≤ rank e.role) cs o.0) o.1 b.1 f.1))

abbrev columns_data : List Column → Data
columns_data cs = array (items_of (map column_data cs))

each_least : (cs : List Column) → AllByRecursion (λ (c : Column). 0 ≤ rank c.role) cs
each_least [] = tt
each_least (c ∷ cs) = (omega arith, each_least cs)

columns_pass : (cs : List Column) → Fresh [] (map column_name cs) → InOrder cs → AllByRecursion (λ (c : Column). IsBox c.kind c.bounds) cs → AllByRecursion ColumnFits cs → first_fault (columns_checks (columns_data cs)) ≡ None
columns_pass cs n o b f =
    none_of_list column_checks after_column (record { names = []; rank = 0 }) (columns_data cs) refl
    (subst (λ ds. first_fault (each_from column_checks after_column 0 (record { names = []; rank = 0 }) ds) ≡ None) (sym (listed (map column_data cs)))
    (each_column 0 [] 0 cs n (each_least cs) o b f))

columns_read : (cs : List Column) → AllByRecursion ColumnFits cs → columns_in (columns_data cs) ≡ cs
columns_read cs f = ap (map column_in) (listed (map column_data cs)) ∙ columns_again cs f

-- ---- next values
forms_again : (columns : ℕ) (fs : List Affine) → columns ≤ 2 ^ 32 → AllByRecursion (λ (f : Affine). AreTermsOver columns f.terms) fs → AllByRecursion FormFits fs → map form_in (map next_data fs) ≡ fs
forms_again columns [] m o n = refl
forms_again columns (f ∷ fs) m o n = λ i. form_again columns f m o.0 n.0 i ∷ forms_again columns fs m o.1 n.1 i

abbrev forms_data : List Affine → Data
forms_data fs = array (items_of (map next_data fs))

forms_read : (columns : ℕ) (fs : List Affine) → columns ≤ 2 ^ 32 → AllByRecursion (λ (f : Affine). AreTermsOver columns f.terms) fs → AllByRecursion FormFits fs → next_in (forms_data fs) ≡ fs
forms_read columns fs m o n = ap (map form_in) (listed (map next_data fs)) ∙ forms_again columns fs m o n

each_form : (columns k : ℕ) (fs : List Affine) → columns ≤ 2 ^ 32 → AllByRecursion (λ (f : Affine). AreTermsOver columns f.terms) fs → AllByRecursion FormFits fs →
    first_fault (each_from form_asked after_form k (record { columns = columns }) (map next_data fs)) ≡ None
each_form columns k [] m o n = refl
each_form columns k (f ∷ fs) m o n =
    none_of_each form_asked after_form k (record { columns = columns }) (next_data f) (map next_data fs) (form_passes columns f m o.0 n.0) (each_form columns (suc k) fs m o.1 n.1)

next_pass : (cs : List Column) (fs : List Affine) → length cs ≤ 2 ^ 32 → length fs ≡ states cs → AllByRecursion (λ (f : Affine). AreTermsOver (length cs) f.terms) fs → AllByRecursion FormFits fs →
    first_fault (next_checks cs (forms_data fs)) ≡ None
next_pass cs fs m e o n =
    none_after_none (list_checks form_asked after_form (record { columns = length cs }) (forms_data fs)) (shape (nat_eq (length (next_in (forms_data fs))) (states cs)) ∷ [])
    (none_of_list form_asked after_form (record { columns = length cs }) (forms_data fs) refl
    (subst (λ ds. first_fault (each_from form_asked after_form 0 (record { columns = length cs }) ds) ≡ None) (sym (listed (map next_data fs))) (each_form (length cs) 0 fs m o n)))
    (ap (λ (gs : List Affine). first_fault (shape (nat_eq (length gs) (states cs)) ∷ [])) (forms_read (length cs) fs m o n)
    ∙ ap (λ t. first_fault (shape t ∷ [])) (eq_true (length fs) (states cs) e))

-- ---- outputs
output_again : (columns : ℕ) (o : Output) → columns ≤ 2 ^ 32 → AreTermsOver columns o.form.terms → OutputFits o → output_in (output_data o) ≡ o
output_again columns o m t n = λ i. record {
  name = o.name;
  kind = kind_again o.kind i;
  form = record { terms = terms_read columns o.form.terms m t n.1 i; constant = number_again o.form.constant n.0 i };
}

output_passes : (columns : ℕ) (o : Output) → columns ≤ 2 ^ 32 → AreTermsOver columns o.form.terms → OutputFits o → first_fault (output_parts columns (output_data o)) ≡ None
unfolding output_parts closed_checks
output_passes columns o m t n =
    none_of_five (closed_checks output_keys (output_data o)) (under (codes "constant") (fraction_checks (fraction_data o.form.constant))) (under (codes "kind") (kind_checks (string (kind_word o.kind))))
    (under (codes "name") (text_checks (string o.name))) (under (codes "terms") (terms_checks columns (terms_data o.form.terms)))
    refl
    (deeper_none (codes "constant") (fraction_checks (fraction_data o.form.constant)) (number_passes o.form.constant n.0))
    (deeper_none (codes "kind") (kind_checks (string (kind_word o.kind))) (kind_passes o.kind))
    (deeper_none (codes "name") (text_checks (string o.name)) refl)
    (deeper_none (codes "terms") (terms_checks columns (terms_data o.form.terms)) (terms_pass columns o.form.terms m t n.1))

abbrev outputs_data : List Output → Data
outputs_data os = array (items_of (map output_data os))

outputs_again : (columns : ℕ) (os : List Output) → columns ≤ 2 ^ 32 → AllByRecursion (λ (o : Output). AreTermsOver columns o.form.terms) os → AllByRecursion OutputFits os → map output_in (map output_data os) ≡ os
outputs_again columns [] m t n = refl
outputs_again columns (o ∷ os) m t n = λ i. output_again columns o m t.0 n.0 i ∷ outputs_again columns os m t.1 n.1 i

outputs_read : (columns : ℕ) (os : List Output) → columns ≤ 2 ^ 32 → AllByRecursion (λ (o : Output). AreTermsOver columns o.form.terms) os → AllByRecursion OutputFits os → outputs_in (outputs_data os) ≡ os
outputs_read columns os m t n = ap (map output_in) (listed (map output_data os)) ∙ outputs_again columns os m t n

each_output : (columns k : ℕ) (ns : List (List ℕ)) (os : List Output) → columns ≤ 2 ^ 32 → Fresh ns (map output_name os) → AllByRecursion (λ (o : Output). AreTermsOver columns o.form.terms) os → AllByRecursion OutputFits os →
    first_fault (each_from output_checks after_output k (record { columns = columns; names = ns }) (map output_data os)) ≡ None
each_output columns k ns [] m f t n = refl
each_output columns k ns (o ∷ os) m f t n =
    none_of_each output_checks after_output k (record { columns = columns; names = ns }) (output_data o) (map output_data os)
    (none_after_none (output_parts columns (output_data o)) (under (codes "name") (shape (not (is_one_of ns o.name)) ∷ [])) (output_passes columns o m t.0 n.0)
    (deeper_none (codes "name") (shape (not (is_one_of ns o.name)) ∷ []) (ap (λ b. first_fault (shape (not b) ∷ [])) f.0)))
    (each_output columns (suc k) (ns ++ o.name ∷ []) os m f.1 t.1 n.1)

outputs_pass : (cs : List Column) (os : List Output) → length cs ≤ 2 ^ 32 → Fresh (map column_name cs) (map output_name os) → AllByRecursion (λ (o : Output). AreTermsOver (length cs) o.form.terms) os → AllByRecursion OutputFits os →
    first_fault (outputs_checks cs (outputs_data os)) ≡ None
outputs_pass cs os m f t n =
    none_of_list output_checks after_output (record { columns = length cs; names = map column_name cs }) (outputs_data os) refl
    (subst (λ ds. first_fault (each_from output_checks after_output 0 (record { columns = length cs; names = map column_name cs }) ds) ≡ None) (sym (listed (map output_data os)))
    (each_output (length cs) 0 (map column_name cs) os m f t n))

-- ---- rows
record AreRows (columns : ℕ) (labels : List (List ℕ)) (rows : List Row) : Type 0 where
  few : columns ≤ 2 ^ 32
  labelled : length labels ≡ length rows
  over : AllByRecursion (λ (r : Row). AreTermsOver columns r.terms) rows
  none : AllByRecursion (λ (r : Row). r.eq ≡ false) rows
  fit : AllByRecursion RowFits rows

fewer : (columns : ℕ) (l : List ℕ) (ls : List (List ℕ)) (r : Row) (rs : List Row) → AreRows columns (l ∷ ls) (r ∷ rs) → AreRows columns ls rs
fewer columns l ls r rs a = record { few = a.few; labelled = omega (arith, a.labelled); over = a.over.1; none = a.none.1; fit = a.fit.1 }

row_again : (columns : ℕ) (l : List ℕ) (r : Row) → columns ≤ 2 ^ 32 → AreTermsOver columns r.terms → r.eq ≡ false → RowFits r → row_in (row_data l r) ≡ r
row_again columns l r m t e n = λ i. record {
  terms = terms_read columns r.terms m t n.1 i;
  bound = number_again r.bound n.0 i;
  eq = sym e i;
}

rows_again : (columns : ℕ) (ls : List (List ℕ)) (rs : List Row) → AreRows columns ls rs → map row_of (map labelled (rows_data ls rs)) ≡ rs
rows_again columns ls [] a = refl
rows_again columns [] (r ∷ rs) a = absurd (omega (arith, a.labelled))
rows_again columns (l ∷ ls) (r ∷ rs) a = λ i. row_again columns l r a.few a.over.0 a.none.0 a.fit.0 i ∷ rows_again columns ls rs (fewer columns l ls r rs a) i

labels_again : (columns : ℕ) (ls : List (List ℕ)) (rs : List Row) → AreRows columns ls rs → map label_of (map labelled (rows_data ls rs)) ≡ ls
labels_again columns [] [] a = refl
labels_again columns (l ∷ ls) [] a = absurd (omega (arith, a.labelled))
labels_again columns [] (r ∷ rs) a = absurd (omega (arith, a.labelled))
labels_again columns (l ∷ ls) (r ∷ rs) a = ap (λ ms. l ∷ ms) (labels_again columns ls rs (fewer columns l ls r rs a))

row_closed : (l : List ℕ) (r : Row) → first_fault (closed_checks row_keys (row_data l r)) ≡ None
unfolding closed_checks
row_closed l r = refl

row_passes : (columns : ℕ) (l : List ℕ) (r : Row) → columns ≤ 2 ^ 32 → AreTermsOver columns r.terms → RowFits r → first_fault (row_checks (record { columns = columns }) (row_data l r)) ≡ None
row_passes columns l r m t n =
    let bound : List Check = under (codes "bound") (fraction_checks (fraction_data r.bound)) in
    let label : List Check = under (codes "item") (text_checks (string l)) in
    let terms : List Check = under (codes "terms") (terms_checks columns (terms_data r.terms)) in
    none_after_none (closed_checks row_keys (row_data l r)) (bound ++ (label ++ terms)) (row_closed l r)
    (none_after_none bound (label ++ terms) (deeper_none (codes "bound") (fraction_checks (fraction_data r.bound)) (number_passes r.bound n.0))
    (none_after_none label terms (deeper_none (codes "item") (text_checks (string l)) refl)
    (deeper_none (codes "terms") (terms_checks columns (terms_data r.terms)) (terms_pass columns r.terms m t n.1))))

each_row : (columns k : ℕ) (ls : List (List ℕ)) (rs : List Row) → AreRows columns ls rs → first_fault (each_from row_checks after_row k (record { columns = columns }) (rows_data ls rs)) ≡ None
each_row columns k ls [] a = refl
each_row columns k [] (r ∷ rs) a = absurd (omega (arith, a.labelled))
each_row columns k (l ∷ ls) (r ∷ rs) a =
    none_of_each row_checks after_row k (record { columns = columns }) (row_data l r) (rows_data ls rs) (row_passes columns l r a.few a.over.0 a.fit.0) (each_row columns (suc k) ls rs (fewer columns l ls r rs a))

abbrev labelled_data : List (List ℕ) → List Row → Data
labelled_data ls rs = array (items_of (rows_data ls rs))

rows_pass : (columns : ℕ) (ls : List (List ℕ)) (rs : List Row) → AreRows columns ls rs → first_fault (rows_checks false columns (labelled_data ls rs)) ≡ None
rows_pass columns ls rs a =
    none_of_list row_checks after_row (record { columns = columns }) (labelled_data ls rs) refl
    (subst (λ ds. first_fault (each_from row_checks after_row 0 (record { columns = columns }) ds) ≡ None) (sym (listed (rows_data ls rs))) (each_row columns 0 ls rs a))

-- ---- the whole value
matrix_closed : (s : System) → first_fault (closed_checks matrix_keys (matrix_data s)) ≡ None
unfolding closed_checks
matrix_closed s = refl

-- the limit on the weight keeps every whole number below 2^32
module _ (s : System) (lawful : IsSystem s) (fit : NumbersFit s) (light : s.weight ≤ most_weight) where
  few_columns : length s.columns ≤ 2 ^ 32
  few_columns = omega (arith, lawful.few_columns, light)

  next_over : AllByRecursion (λ (f : Affine). AreTermsOver (length s.columns) f.terms) s.next
  next_over = recursion_from_All (λ (f : Affine). AreTermsOver (length s.columns) f.terms) s.next lawful.next

  outputs_over : AllByRecursion (λ (o : Output). AreTermsOver (length s.columns) o.form.terms) s.outputs
  outputs_over = recursion_from_All (λ (o : Output). AreTermsOver (length s.columns) o.form.terms) s.outputs lawful.outputs

  all_rows : AreRows (length s.columns) s.labels s.rows
  all_rows = record {
    few = few_columns;
    labelled = lawful.labelled;
    over = recursion_from_All (λ (r : Row). AreTermsOver (length s.columns) r.terms) s.rows lawful.rows;
    none = recursion_from_All (λ (r : Row). r.eq ≡ false) s.rows lawful.no_equation;
    fit = fit.rows;
  }

  all_names : Fresh [] (map column_name s.columns ++ map output_name s.outputs)
  all_names = fresh_differ (map column_name s.columns ++ map output_name s.outputs) lawful.differ

  columns_same : columns_in (columns_data s.columns) ≡ s.columns
  columns_same = columns_read s.columns fit.columns

  weight_same : whole_in (numeral (unsigned s.weight)) ≡ s.weight
  weight_same = ap or_zero (whole_again s.weight (omega (arith, light)))

  front_passes : first_fault (front_checks (matrix_data s)) ≡ None
  unfolding front_checks forms_checks
  front_passes =
      let columns : List Check = under (codes "columns") (columns_checks (columns_data s.columns)) in
      let format : List Check = under (codes "format") (word_checks (codes "hysdel-mld") (string (codes "hysdel-mld"))) in
      let next : List Check = under (codes "next") (next_checks (columns_in (columns_data s.columns)) (forms_data s.next)) in
      let outputs : List Check = under (codes "outputs") (outputs_checks (columns_in (columns_data s.columns)) (outputs_data s.outputs)) in
      none_after_none (closed_checks matrix_keys (matrix_data s)) (columns ++ (format ++ (next ++ outputs))) (matrix_closed s)
      (none_after_none columns (format ++ (next ++ outputs))
      (deeper_none (codes "columns") (columns_checks (columns_data s.columns))
      (columns_pass s.columns (fresh_front [] (map column_name s.columns) (map output_name s.outputs) all_names) lawful.order (recursion_from_All (λ (c : Column). IsBox c.kind c.bounds) s.columns lawful.boxes) fit.columns))
      (none_after_none format (next ++ outputs) (deeper_none (codes "format") (word_checks (codes "hysdel-mld") (string (codes "hysdel-mld"))) refl)
      (none_after_none next outputs
      (deeper_none (codes "next") (next_checks (columns_in (columns_data s.columns)) (forms_data s.next))
      (subst (λ cs. first_fault (next_checks cs (forms_data s.next)) ≡ None) (sym columns_same) (next_pass s.columns s.next few_columns lawful.each next_over fit.next)))
      (deeper_none (codes "outputs") (outputs_checks (columns_in (columns_data s.columns)) (outputs_data s.outputs))
      (subst (λ cs. first_fault (outputs_checks cs (outputs_data s.outputs)) ≡ None) (sym columns_same)
      (outputs_pass s.columns s.outputs few_columns (fresh_back [] (map column_name s.columns) (map output_name s.outputs) all_names) outputs_over fit.outputs))))))

  back_passes : first_fault (back_checks (matrix_data s)) ≡ None
  unfolding back_checks
  back_passes =
      let rows : List Check = under (codes "rows") (rows_checks false (length (columns_in (columns_data s.columns))) (labelled_data s.labels s.rows)) in
      let name : List Check = under (codes "system") (text_checks (string s.name)) in
      let version : List Check = under (codes "version") (version_checks (numeral (unsigned 2))) in
      let weight : List Check = under (codes "weight") (whole_checks (numeral (unsigned s.weight))) in
      none_after_none rows (name ++ (version ++ weight))
      (deeper_none (codes "rows") (rows_checks false (length (columns_in (columns_data s.columns))) (labelled_data s.labels s.rows))
      (subst (λ (cs : List Column). first_fault (rows_checks false (length cs) (labelled_data s.labels s.rows)) ≡ None) (sym columns_same) (rows_pass (length s.columns) s.labels s.rows all_rows)))
      (none_after_none name (version ++ weight) (deeper_none (codes "system") (text_checks (string s.name)) refl)
      (none_after_none version weight (deeper_none (codes "version") (version_checks (numeral (unsigned 2))) refl)
      (deeper_none (codes "weight") (whole_checks (numeral (unsigned s.weight))) (ap (λ (o : Option ℕ). first_fault (shape (is_some o) ∷ [])) (whole_again s.weight (omega (arith, light)))))))

  pub value_passes : first_fault (matrix_checks (matrix_data s)) ≡ None
  value_passes = none_after_none (front_checks (matrix_data s)) (back_checks (matrix_data s)) front_passes back_passes

  pub same_system : system_in (matrix_data s) ≡ s
  same_system = λ i. record {
    name = s.name;
    columns = columns_same i;
    next = forms_read (length s.columns) s.next few_columns next_over fit.next i;
    outputs = outputs_read (length s.columns) s.outputs few_columns outputs_over fit.outputs i;
    rows = (ap (λ ds. map row_of (map labelled ds)) (listed (rows_data s.labels s.rows)) ∙ rows_again (length s.columns) s.labels s.rows all_rows) i;
    labels = (ap (λ ds. map label_of (map labelled ds)) (listed (rows_data s.labels s.rows)) ∙ labels_again (length s.columns) s.labels s.rows all_rows) i;
    weight = weight_same i;
  }

  pub no_limit : limit_of s ≡ None
  no_limit =
      rw (lt_false most_weight s.weight light, lt_false s.weight (length s.columns) lawful.few_columns, lt_false (5 * s.weight) (length s.rows) lawful.few_rows) refl
