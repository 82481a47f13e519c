-- The system of a value in which nothing is wrong is lawful.
use Rattle.std.proofs.Common.{◌≡◌, ℕ, suc, ◌+◌, ◌*◌, ◌<◌, ◌≤◌, List, [], ◌∷◌, ◌++◌, Bool, true, false, not, ◌&&◌, cond, Option, Some, None, Result, Ok, map, length, codes, nat_lt, nat_le, nat_eq, refl, sym, ◌∙◌, subst, arith, tests}
use Rattle.std.specs.List.{All}
use Rattle.std.specs.Ordering.{MatchOrdering}
use Rattle.std.specs.declared.cmp.Ordering.{Ordering}
use Rattle.std.specs.declared.cmp.Ordering.TheVariants.{Less, Equal, Greater}
use Rattle.std.proofs.lemmas.List.{length-map}
use Rattle.std.proofs.lemmas.List.Elements.{All-nil, All-cons, All-map, All-weaker}
use Rattle.serde_json.specs.Data.{Data}
use Rattle.hys_base.specs.Differ.{Differ}
use Rattle.hys_number.specs.Number.{Number}
use Rattle.hys_number.specs.Ops.{◌≤ₙ◌, ◌<ₙ◌, whole}
use Rattle.hys_number.proofs.Bools.{and_both}
use Rattle.hys_number.proofs.Order.{le_refl', le_of_lt, lt_irrefl}
use Rattle.hys_frac.specs.Compare.{number_cmp, number_ranks}
use Rattle.hys_lin.specs.Sums.{EachColumn}
use Rattle.hys_lin.specs.Over.{AreTermsOver}
use Rattle.hys_lin.specs.declared.form.Term.{Term}
use Rattle.hys_lin.specs.declared.form.Affine.{Affine}
use Rattle.hys_lin.specs.declared.form.Interval.{Interval}
use Rattle.hys_lin.specs.declared.form.Row.{Row}
use Rattle.hys_lin.proofs.Lists.{each_more}
use Rattle.hys_json.specs.declared.fault.ValueFault.{ValueFault}
use Rattle.hys_json.specs.Checks.{Check, shape, first_fault, under, IsWithin, Judged}
use Rattle.hys_json.specs.Values.{each_from, list_checks, items_in, member_in, text_checks, word_checks, fraction_in, fraction_checks, whole_in, whole_checks, closed_checks, is_one_of}
use Rattle.hys_json.proofs.Judging.{read_under}
use Rattle.hys_json.proofs.Passing.{passes_only, both_pass, passes_within, each_passes, items_pass, all_pass}
use Rattle.hys_sys.specs.declared.system.Kind2.{Kind2}
use Rattle.hys_sys.specs.declared.system.Kind2.TheVariants.{Real}
use Rattle.hys_sys.specs.declared.system.Kind2.TheVariants as kind
use Rattle.hys_sys.specs.declared.system.Column.{Column}
use Rattle.hys_sys.specs.declared.system.Output.{Output}
use Rattle.hys_sys.specs.declared.system.System.{System}
use Rattle.hys_sys.specs.System.{IsSystem, IsBox, InOrder, rank, states}
use Rattle.hys_file.specs.declared.column.ColumnsBefore.{ColumnsBefore}
use Rattle.hys_file.specs.Reading.{item_in, pair_checks, first, second, term_in, is_equal, is_zero, term_checks, after_term, terms_in, terms_checks, form_keys, form_in, form_checks, box_in, isnt_greater, box_checks, kind_checks, role_checks, column_keys, name_in, column_in, after_column, is_kinds_box, column_parts, column_rules, column_checks, columns_in, columns_checks, form_asked, after_form, next_in, next_checks, output_keys, output_in, after_output, output_parts, output_checks, column_name, output_name, outputs_in, outputs_checks, row_in, first_row_keys, row_keys, first_row_checks, row_checks, after_first_row, after_row, first_labelled, labelled, rows_by, rows_checks, row_of, label_of, matrix_keys, is_first_version, version_checks, columns_of, forms_checks, front_checks, back_checks, matrix_checks, system_in, most_weight, limit_of}
use Rattle.hys_file.specs.Texts.{IsTextOf}
use Rattle.hys_file.proofs.Distinct.{Fresh, differ_fresh, fresh_append}

-- ---- tests
is_below : (m n : ℕ) → nat_lt m n ≡ true → m < n
is_below m n h = grind (arith, tests)

isnt_below : (m n : ℕ) → nat_lt m n ≡ false → n ≤ m
isnt_below m n h = grind (arith, tests)

is_at_most : (m n : ℕ) → nat_le m n ≡ true → m ≤ n
is_at_most m n h = grind (arith, tests)

are_equal : (m n : ℕ) → nat_eq m n ≡ true → m ≡ n
are_equal m n h = grind (arith, tests)

isnt : (b : Bool) → not b ≡ true → b ≡ false
isnt true h = absurd (cc)
isnt false h = refl

pub not_greater : (a b : Number) → isnt_greater (number_cmp a b) ≡ true → a ≤ₙ b
not_greater a b h = go (number_cmp a b) (number_ranks a b) h
  where
    go : (r : Ordering) → MatchOrdering r (a <ₙ b) (a ≡ b) (b <ₙ a) → isnt_greater r ≡ true → a ≤ₙ b
    go Less k e = le_of_lt a b k
    go Equal k e = subst (λ x. a ≤ₙ x) k (le_refl' a)
    go Greater k e = absurd (cc)

same_numbers : (a b : Number) → is_equal (number_cmp a b) ≡ true → a ≡ b
same_numbers a b h = go (number_cmp a b) (number_ranks a b) h
  where
    go : (r : Ordering) → MatchOrdering r (a <ₙ b) (a ≡ b) (b <ₙ a) → is_equal r ≡ true → a ≡ b
    go Less k e = absurd (cc)
    go Equal k e = k
    go Greater k e = absurd (cc)

other_numbers : (a b : Number) → is_equal (number_cmp a b) ≡ false → ¬ (a ≡ b)
other_numbers a b h = go (number_cmp a b) (number_ranks a b) h
  where
    go : (r : Ordering) → MatchOrdering r (a <ₙ b) (a ≡ b) (b <ₙ a) → is_equal r ≡ false → ¬ (a ≡ b)
    go Less k e = λ q. lt_irrefl b (subst (λ x. x <ₙ b) q k)
    go Equal k e = absurd (cc)
    go Greater k e = λ q. lt_irrefl b (subst (λ x. b <ₙ x) q k)

-- ---- terms
pub record IsNextTerm (columns least : ℕ) (t : Term) : Type 0 where
  starts : least ≤ t.column
  below : t.column < columns
  factor : ¬ (t.factor ≡ whole 0)

pub next_term : (columns least : ℕ) (t : Term) → nat_le least t.column && nat_lt t.column columns ≡ true → is_zero t.factor ≡ false → IsNextTerm columns least t
next_term columns least t w z =
    let within = and_both (nat_le least t.column) (nat_lt t.column columns) w in
    record { starts = is_at_most least t.column within.0; below = is_below t.column columns within.1; factor = other_numbers t.factor (whole 0) z }

term_lawful : (columns least : ℕ) (d : Data) → first_fault (term_checks (record { columns = columns; least = least }) d) ≡ None → IsNextTerm columns least (term_in d)
term_lawful columns least d h =
    let place : List Check = under first (shape (nat_le least (whole_in (item_in 0 d)) && nat_lt (whole_in (item_in 0 d)) columns) ∷ []) in
    let factor : List Check = under second (shape (not (is_zero (fraction_in (item_in 1 d)))) ∷ []) in
    let one = both_pass (pair_checks d) (under first (whole_checks (item_in 0 d)) ++ (under second (fraction_checks (item_in 1 d)) ++ (place ++ factor))) h in
    let two = both_pass (under first (whole_checks (item_in 0 d))) (under second (fraction_checks (item_in 1 d)) ++ (place ++ factor)) one.1 in
    let three = both_pass (under second (fraction_checks (item_in 1 d))) (place ++ factor) two.1 in
    let four = both_pass place factor three.1 in
    next_term columns least (term_in d)
    (passes_only (nat_le least (whole_in (item_in 0 d)) && nat_lt (whole_in (item_in 0 d)) columns) (passes_within first (shape (nat_le least (whole_in (item_in 0 d)) && nat_lt (whole_in (item_in 0 d)) columns) ∷ []) four.0))
    (isnt (is_zero (fraction_in (item_in 1 d))) (passes_only (not (is_zero (fraction_in (item_in 1 d)))) (passes_within second (shape (not (is_zero (fraction_in (item_in 1 d)))) ∷ []) four.1)))

pub record AreNextTerms (columns least : ℕ) (ts : List Term) : Type 0 where
  starts : EachColumn (λ c. least ≤ c) ts
  pub over : AreTermsOver columns ts

after_least : (least c : ℕ) (ts : List Term) → least ≤ c → EachColumn (λ d. c + 1 ≤ d) ts → EachColumn (λ d. least ≤ d) ts
after_least least c ts l h = each_more (λ d. c + 1 ≤ d) (λ d. least ≤ d) ts (λ d k. omega arith) h

rises_after : (c : ℕ) (ts : List Term) → EachColumn (λ d. c + 1 ≤ d) ts → EachColumn (λ d. c < d) ts
rises_after c ts h = each_more (λ d. c + 1 ≤ d) (λ d. c < d) ts (λ d k. omega arith) h

pub no_terms : (columns least : ℕ) → AreNextTerms columns least []
no_terms columns least = record { starts = tt; over = record { rise = tt; below = tt } }

pub next_terms : (columns least : ℕ) (t : Term) (ts : List Term) → IsNextTerm columns least t → AreNextTerms columns (t.column + 1) ts → AreNextTerms columns least (t ∷ ts)
next_terms columns least t ts one rest = record {
  starts = (one.starts, after_least least t.column ts one.starts rest.starts);
  over = record {
    rise = (one.factor, rises_after t.column ts rest.starts, rest.over.rise);
    below = (one.below, rest.over.below);
  };
}

items_lawful : (columns k least : ℕ) (ds : List Data) → first_fault (each_from term_checks after_term k (record { columns = columns; least = least }) ds) ≡ None →
    AreNextTerms columns least (map term_in ds)
items_lawful columns k least [] h = no_terms columns least
items_lawful columns k least (d ∷ ds) h =
    let p = each_passes term_checks after_term k (record { columns = columns; least = least }) d ds h in
    next_terms columns least (term_in d) (map term_in ds) (term_lawful columns least d p.0) (items_lawful columns (suc k) ((term_in d).column + 1) ds p.1)

pub terms_lawful : (columns : ℕ) (d : Data) → first_fault (terms_checks columns d) ≡ None → AreTermsOver columns (terms_in d)
terms_lawful columns d h =
    (items_lawful columns 0 0 (items_in d) (items_pass term_checks after_term (record { columns = columns; least = 0 }) d h)).over

form_lawful : (columns : ℕ) (d : Data) → first_fault (form_checks columns d) ≡ None → AreTermsOver columns (form_in d).terms
form_lawful columns d h =
    let constant : List Check = under (codes "constant") (fraction_checks (member_in (codes "constant") d)) in
    let terms : List Check = under (codes "terms") (terms_checks columns (member_in (codes "terms") d)) in
    let one = both_pass (closed_checks form_keys d) (constant ++ terms) h in
    let two = both_pass constant terms one.1 in
    terms_lawful columns (member_in (codes "terms") d) (passes_within (codes "terms") (terms_checks columns (member_in (codes "terms") d)) two.1)

-- ---- columns
box_lawful : (d : Data) → first_fault (box_checks d) ≡ None → (box_in d).low ≤ₙ (box_in d).high
box_lawful d h =
    let test : List Check = shape (isnt_greater (number_cmp (fraction_in (item_in 0 d)) (fraction_in (item_in 1 d)))) ∷ [] in
    let one = both_pass (pair_checks d) (under first (fraction_checks (item_in 0 d)) ++ (under second (fraction_checks (item_in 1 d)) ++ test)) h in
    let two = both_pass (under first (fraction_checks (item_in 0 d))) (under second (fraction_checks (item_in 1 d)) ++ test) one.1 in
    let three = both_pass (under second (fraction_checks (item_in 1 d))) test two.1 in
    not_greater (fraction_in (item_in 0 d)) (fraction_in (item_in 1 d)) (passes_only (isnt_greater (number_cmp (fraction_in (item_in 0 d)) (fraction_in (item_in 1 d)))) three.1)

part_box : (d : Data) → first_fault (column_parts d) ≡ None → (column_in d).bounds.low ≤ₙ (column_in d).bounds.high
unfolding column_parts
part_box d h =
    let box : List Check = under (codes "box") (box_checks (member_in (codes "box") d)) in
    let others : List Check = under (codes "kind") (kind_checks (member_in (codes "kind") d)) ++ (under (codes "name") (text_checks (member_in (codes "name") d)) ++ under (codes "role") (role_checks (member_in (codes "role") d))) in
    let one = both_pass (closed_checks column_keys d) (box ++ others) h in
    let two = both_pass box others one.1 in
    box_lawful (member_in (codes "box") d) (passes_within (codes "box") (box_checks (member_in (codes "box") d)) two.0)

pub of_kind : (k : Kind2) (i : Interval) → i.low ≤ₙ i.high → is_kinds_box k i ≡ true → IsBox k i
of_kind Real i l h = l
of_kind kind.Bool i l h =
    let p = and_both (is_equal (number_cmp i.low (whole 0))) (is_equal (number_cmp i.high (whole 1))) h in
    (same_numbers i.low (whole 0) p.0, same_numbers i.high (whole 1) p.1)

-- what the rules on a column ask
pub record Ruled (ns : List (List ℕ)) (least : ℕ) (c : Column) : Type 0 where
  pub box : is_kinds_box c.kind c.bounds ≡ true
  pub fresh : is_one_of ns c.name ≡ false
  pub place : least ≤ rank c.role

pub rules_pass : (b : ColumnsBefore) (c : Column) → first_fault (column_rules b c) ≡ None → Ruled b.names b.rank c
unfolding column_rules
rules_pass b c h =
    let box : List Check = under (codes "box") (shape (is_kinds_box c.kind c.bounds) ∷ []) in
    let name : List Check = under (codes "name") (shape (not (is_one_of b.names c.name)) ∷ []) in
    let role : List Check = under (codes "role") (shape (nat_le b.rank (rank c.role)) ∷ []) in
    let one = both_pass box (name ++ role) h in
    let two = both_pass name role one.1 in
    record {
      box = passes_only (is_kinds_box c.kind c.bounds) (passes_within (codes "box") (shape (is_kinds_box c.kind c.bounds) ∷ []) one.0);
      fresh = isnt (is_one_of b.names c.name) (passes_only (not (is_one_of b.names c.name)) (passes_within (codes "name") (shape (not (is_one_of b.names c.name)) ∷ []) two.0));
      place = is_at_most b.rank (rank c.role) (passes_only (nat_le b.rank (rank c.role)) (passes_within (codes "role") (shape (nat_le b.rank (rank c.role)) ∷ []) two.1));
    }

-- a column that passes the rules has a name that none before has
pub new_column : (b : ColumnsBefore) (c : Column) → first_fault (column_rules b c) ≡ None → is_one_of b.names c.name ≡ false
new_column b c h = (rules_pass b c h).fresh

record AreNextColumns (ns : List (List ℕ)) (least : ℕ) (cs : List Column) : Type 0 where
  fresh : Fresh ns (map column_name cs)
  order : InOrder cs
  boxes : All (λ (c : Column). IsBox c.kind c.bounds) cs
  places : All (λ (c : Column). least ≤ rank c.role) cs

next_columns : (k : ℕ) (ns : List (List ℕ)) (least : ℕ) (ds : List Data) → first_fault (each_from column_checks after_column k (record { names = ns; rank = least }) ds) ≡ None →
    AreNextColumns ns least (map column_in ds)
next_columns k ns least [] h = record {
  fresh = tt;
  order = tt;
  boxes = All-nil (λ (c : Column). IsBox c.kind c.bounds);
  places = All-nil (λ (c : Column). least ≤ rank c.role);
}
next_columns k ns least (d ∷ ds) h =
    let c : Column = column_in d in
    let cs : List Column = map column_in ds in
    let p = each_passes column_checks after_column k (record { names = ns; rank = least }) d ds h in
    let q = both_pass (column_parts d) (column_rules (record { names = ns; rank = least }) (column_in d)) p.0 in
    let ruled : Ruled ns least (column_in d) = rules_pass (record { names = ns; rank = least }) (column_in d) q.1 in
    let rest : AreNextColumns (ns ++ c.name ∷ []) (rank c.role) cs = next_columns (suc k) (ns ++ c.name ∷ []) (rank c.role) ds p.1 in
    record {
      fresh = (ruled.fresh, rest.fresh);
      order = (rest.places, rest.order);
      boxes = All-cons (λ (c : Column). IsBox c.kind c.bounds) c cs (of_kind c.kind c.bounds (part_box d q.0) ruled.box) rest.boxes;
      places = All-cons (λ (c : Column). least ≤ rank c.role) c cs ruled.place
          (All-weaker (λ (e : Column). rank c.role ≤ rank e.role) (λ (e : Column). least ≤ rank e.role) (λ e l. omega (arith, l, ruled.place)) cs rest.places);
    }

columns_lawful : (d : Data) → first_fault (columns_checks d) ≡ None → AreNextColumns [] 0 (columns_in d)
columns_lawful d h = next_columns 0 [] 0 (items_in d) (items_pass column_checks after_column (record { names = []; rank = 0 }) d h)

pub columns_differ : (d : Data) → first_fault (columns_checks d) ≡ None → Differ (map column_name (columns_in d))
columns_differ d h = differ_fresh [] (map column_name (columns_in d)) (columns_lawful d h).fresh

pub read_columns_differ : (key : List ℕ) (d : Data) (inner : Result (List Column) ValueFault) (cs : List Column) →
    Judged (columns_checks d) (λ cs. cs ≡ columns_in d) inner → IsWithin key inner (Ok cs) → Differ (map column_name cs)
read_columns_differ key d inner cs j w =
    let p = read_under key (columns_checks d) (λ cs. cs ≡ columns_in d) inner (Ok cs) j w in
    subst (λ cs. Differ (map column_name cs)) (sym p.1) (columns_differ d (passes_within key (columns_checks d) p.0))

-- ---- next values and outputs
record AreNext (columns : List Column) (fs : List Affine) : Type 0 where
  each : length fs ≡ states columns
  over : All (λ (f : Affine). AreTermsOver (length columns) f.terms) fs

next_lawful : (columns : List Column) (d : Data) → first_fault (next_checks columns d) ≡ None → AreNext columns (next_in d)
next_lawful columns d h =
    let p = both_pass (list_checks form_asked after_form (record { columns = length columns }) d) (shape (nat_eq (length (next_in d)) (states columns)) ∷ []) h in
    record {
      each = are_equal (length (next_in d)) (states columns) (passes_only (nat_eq (length (next_in d)) (states columns)) p.1);
      over = all_pass form_asked form_in (λ (f : Affine). AreTermsOver (length columns) f.terms) (record { columns = length columns })
          (λ e q. form_lawful (length columns) e q) 0 (items_in d) (items_pass form_asked after_form (record { columns = length columns }) d p.0);
    }

part_terms : (columns : ℕ) (d : Data) → first_fault (output_parts columns d) ≡ None → AreTermsOver columns (output_in d).form.terms
unfolding output_parts
part_terms columns d h =
    let constant : List Check = under (codes "constant") (fraction_checks (member_in (codes "constant") d)) in
    let kinds : List Check = under (codes "kind") (kind_checks (member_in (codes "kind") d)) in
    let name : List Check = under (codes "name") (text_checks (member_in (codes "name") d)) in
    let terms : List Check = under (codes "terms") (terms_checks columns (member_in (codes "terms") d)) in
    let one = both_pass (closed_checks output_keys d) (constant ++ (kinds ++ (name ++ terms))) h in
    let two = both_pass constant (kinds ++ (name ++ terms)) one.1 in
    let three = both_pass kinds (name ++ terms) two.1 in
    let four = both_pass name terms three.1 in
    terms_lawful columns (member_in (codes "terms") d) (passes_within (codes "terms") (terms_checks columns (member_in (codes "terms") d)) four.1)

-- no name before is that of the output
pub output_fresh : (ns : List (List ℕ)) (n : List ℕ) → first_fault (under (codes "name") (shape (not (is_one_of ns n)) ∷ [])) ≡ None → is_one_of ns n ≡ false
output_fresh ns n h = isnt (is_one_of ns n) (passes_only (not (is_one_of ns n)) (passes_within (codes "name") (shape (not (is_one_of ns n)) ∷ []) h))

record AreNextOutputs (columns : ℕ) (ns : List (List ℕ)) (os : List Output) : Type 0 where
  fresh : Fresh ns (map output_name os)
  over : All (λ (o : Output). AreTermsOver columns o.form.terms) os

next_outputs : (columns k : ℕ) (ns : List (List ℕ)) (ds : List Data) → first_fault (each_from output_checks after_output k (record { columns = columns; names = ns }) ds) ≡ None →
    AreNextOutputs columns ns (map output_in ds)
next_outputs columns k ns [] h = record { fresh = tt; over = All-nil (λ (o : Output). AreTermsOver columns o.form.terms) }
next_outputs columns k ns (d ∷ ds) h =
    let p = each_passes output_checks after_output k (record { columns = columns; names = ns }) d ds h in
    let q = both_pass (output_parts columns d) (under (codes "name") (shape (not (is_one_of ns (name_in d))) ∷ [])) p.0 in
    let rest : AreNextOutputs columns (ns ++ name_in d ∷ []) (map output_in ds) = next_outputs columns (suc k) (ns ++ name_in d ∷ []) ds p.1 in
    record {
      fresh = (output_fresh ns (name_in d) q.1, rest.fresh);
      over = All-cons (λ (o : Output). AreTermsOver columns o.form.terms) (output_in d) (map output_in ds) (part_terms columns d q.0) rest.over;
    }

outputs_lawful : (columns : List Column) (d : Data) → first_fault (outputs_checks columns d) ≡ None → AreNextOutputs (length columns) (map column_name columns) (outputs_in d)
outputs_lawful columns d h =
    next_outputs (length columns) 0 (map column_name columns) (items_in d)
    (items_pass output_checks after_output (record { columns = length columns; names = map column_name columns }) d h)

-- ---- rows
first_row_lawful : (columns : ℕ) (d : Data) → first_fault (first_row_checks (record { columns = columns }) d) ≡ None → AreTermsOver columns (row_in d).terms
first_row_lawful columns d h =
    let bound : List Check = under (codes "bound") (fraction_checks (member_in (codes "bound") d)) in
    let terms : List Check = under (codes "terms") (terms_checks columns (member_in (codes "terms") d)) in
    let one = both_pass (closed_checks first_row_keys d) (bound ++ terms) h in
    let two = both_pass bound terms one.1 in
    terms_lawful columns (member_in (codes "terms") d) (passes_within (codes "terms") (terms_checks columns (member_in (codes "terms") d)) two.1)

row_lawful : (columns : ℕ) (d : Data) → first_fault (row_checks (record { columns = columns }) d) ≡ None → AreTermsOver columns (row_in d).terms
row_lawful columns d h =
    let bound : List Check = under (codes "bound") (fraction_checks (member_in (codes "bound") d)) in
    let label : List Check = under (codes "item") (text_checks (member_in (codes "item") d)) in
    let terms : List Check = under (codes "terms") (terms_checks columns (member_in (codes "terms") d)) in
    let one = both_pass (closed_checks row_keys d) (bound ++ (label ++ terms)) h in
    let two = both_pass bound (label ++ terms) one.1 in
    let three = both_pass label terms two.1 in
    terms_lawful columns (member_in (codes "terms") d) (passes_within (codes "terms") (terms_checks columns (member_in (codes "terms") d)) three.1)

pairs_lawful : (b : Bool) (columns : ℕ) (d : Data) → first_fault (rows_checks b columns d) ≡ None → All (λ (p : Row × List ℕ). AreTermsOver columns (row_of p).terms) (rows_by b d)
pairs_lawful true columns d h =
    all_pass first_row_checks first_labelled (λ (p : Row × List ℕ). AreTermsOver columns (row_of p).terms) (record { columns = columns })
    (λ e q. first_row_lawful columns e q) 0 (items_in d) (items_pass first_row_checks after_first_row (record { columns = columns }) d h)
pairs_lawful false columns d h =
    all_pass row_checks labelled (λ (p : Row × List ℕ). AreTermsOver columns (row_of p).terms) (record { columns = columns })
    (λ e q. row_lawful columns e q) 0 (items_in d) (items_pass row_checks after_row (record { columns = columns }) d h)

rows_lawful : (b : Bool) (columns : ℕ) (d : Data) → first_fault (rows_checks b columns d) ≡ None → All (λ (r : Row). AreTermsOver columns r.terms) (map row_of (rows_by b d))
rows_lawful b columns d h = All-map (λ (r : Row). AreTermsOver columns r.terms) row_of (rows_by b d) (pairs_lawful b columns d h)

no_equation : (b : Bool) (d : Data) → All (λ (r : Row). r.eq ≡ false) (map row_of (rows_by b d))
no_equation true d = go (items_in d)
  where
    go : (ds : List Data) → All (λ (r : Row). r.eq ≡ false) (map row_of (map first_labelled ds))
    go [] = All-nil (λ (r : Row). r.eq ≡ false)
    go (d ∷ ds) = All-cons (λ (r : Row). r.eq ≡ false) (row_in d) (map row_of (map first_labelled ds)) refl (go ds)
no_equation false d = go (items_in d)
  where
    go : (ds : List Data) → All (λ (r : Row). r.eq ≡ false) (map row_of (map labelled ds))
    go [] = All-nil (λ (r : Row). r.eq ≡ false)
    go (d ∷ ds) = All-cons (λ (r : Row). r.eq ≡ false) (row_in d) (map row_of (map labelled ds)) refl (go ds)

as_many : (ps : List (Row × List ℕ)) → length (map label_of ps) ≡ length (map row_of ps)
as_many ps = length-map ps label_of ∙ sym (length-map ps row_of)

-- ---- limits
no_limit : (b : Bool) (what : List ℕ) (rest : Option (List ℕ)) → cond b (Some what) rest ≡ None → (b ≡ false) × (rest ≡ None)
no_limit true what rest h = absurd (cc)
no_limit false what rest h = (refl, h)

pub record KeepsLimits (s : System) : Type 0 where
  pub light : s.weight ≤ most_weight
  pub few_columns : length s.columns ≤ s.weight
  pub few_rows : length s.rows ≤ 5 * s.weight

pub within_limits : (s : System) → limit_of s ≡ None → KeepsLimits s
within_limits s h =
    let rows : Option (List ℕ) = cond (nat_lt (5 * s.weight) (length s.rows)) (Some (codes "rows")) None in
    let one = no_limit (nat_lt most_weight s.weight) (codes "weight") (cond (nat_lt s.weight (length s.columns)) (Some (codes "columns")) rows) h in
    let two = no_limit (nat_lt s.weight (length s.columns)) (codes "columns") rows one.1 in
    let three = no_limit (nat_lt (5 * s.weight) (length s.rows)) (codes "rows") None two.1 in
    record {
      light = isnt_below most_weight s.weight one.0;
      few_columns = isnt_below s.weight (length s.columns) two.0;
      few_rows = isnt_below (5 * s.weight) (length s.rows) three.0;
    }

-- ---- the whole value
record AreFronts (d : Data) : Type 0 where
  columns : AreNextColumns [] 0 (columns_of d)
  next : AreNext (columns_of d) (next_in (member_in (codes "next") d))
  outputs : AreNextOutputs (length (columns_of d)) (map column_name (columns_of d)) (outputs_in (member_in (codes "outputs") d))

front_lawful : (d : Data) → first_fault (front_checks d) ≡ None → AreFronts d
unfolding front_checks forms_checks
front_lawful d h =
    let columns : List Check = under (codes "columns") (columns_checks (member_in (codes "columns") d)) in
    let format : List Check = under (codes "format") (word_checks (codes "hysdel-mld") (member_in (codes "format") d)) in
    let next : List Check = under (codes "next") (next_checks (columns_of d) (member_in (codes "next") d)) in
    let outputs : List Check = under (codes "outputs") (outputs_checks (columns_of d) (member_in (codes "outputs") d)) in
    let one = both_pass (closed_checks matrix_keys d) (columns ++ (format ++ (next ++ outputs))) h in
    let two = both_pass columns (format ++ (next ++ outputs)) one.1 in
    let three = both_pass format (next ++ outputs) two.1 in
    let four = both_pass next outputs three.1 in
    record {
      columns = columns_lawful (member_in (codes "columns") d) (passes_within (codes "columns") (columns_checks (member_in (codes "columns") d)) two.0);
      next = next_lawful (columns_of d) (member_in (codes "next") d) (passes_within (codes "next") (next_checks (columns_of d) (member_in (codes "next") d)) four.0);
      outputs = outputs_lawful (columns_of d) (member_in (codes "outputs") d) (passes_within (codes "outputs") (outputs_checks (columns_of d) (member_in (codes "outputs") d)) four.1);
    }

back_lawful : (d : Data) → first_fault (back_checks d) ≡ None → All (λ (r : Row). AreTermsOver (length (columns_of d)) r.terms) (map row_of (rows_by (is_first_version d) (member_in (codes "rows") d)))
unfolding back_checks
back_lawful d h =
    let rows : List Check = under (codes "rows") (rows_checks (is_first_version d) (length (columns_of d)) (member_in (codes "rows") d)) in
    let others : List Check = under (codes "system") (text_checks (member_in (codes "system") d)) ++ (under (codes "version") (version_checks (member_in (codes "version") d)) ++ under (codes "weight") (whole_checks (member_in (codes "weight") d))) in
    let one = both_pass rows others h in
    rows_lawful (is_first_version d) (length (columns_of d)) (member_in (codes "rows") d)
    (passes_within (codes "rows") (rows_checks (is_first_version d) (length (columns_of d)) (member_in (codes "rows") d)) one.0)

pub value_lawful : (d : Data) → first_fault (matrix_checks d) ≡ None → limit_of (system_in d) ≡ None → IsSystem (system_in d)
value_lawful d h l =
    let parts = both_pass (front_checks d) (back_checks d) h in
    let front : AreFronts d = front_lawful d parts.0 in
    let few : KeepsLimits (system_in d) = within_limits (system_in d) l in
    record {
      order = front.columns.order;
      boxes = front.columns.boxes;
      differ = differ_fresh [] (map column_name (columns_of d) ++ map output_name (outputs_in (member_in (codes "outputs") d)))
          (fresh_append [] (map column_name (columns_of d)) (map output_name (outputs_in (member_in (codes "outputs") d))) front.columns.fresh front.outputs.fresh);
      each = front.next.each;
      next = front.next.over;
      outputs = front.outputs.over;
      rows = back_lawful d parts.1;
      no_equation = no_equation (is_first_version d) (member_in (codes "rows") d);
      labelled = as_many (rows_by (is_first_version d) (member_in (codes "rows") d));
      few_columns = few.few_columns;
      few_rows = few.few_rows;
    }

pub lawful : (text : List ℕ) (s : System) → IsTextOf text s → IsSystem s
lawful text s t = subst IsSystem (sym t.system) (value_lawful t.read t.right t.within)

pub read_lawful : (d : Data) (s : System) → first_fault (matrix_checks d) ≡ None → s ≡ system_in d → limit_of s ≡ None → IsSystem s
read_lawful d s h e l = subst IsSystem (sym e) (value_lawful d h (subst (λ t. limit_of t ≡ None) e l))
