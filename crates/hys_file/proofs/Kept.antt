-- What is known of a system whose rules were tried one by one.
use Rattle.std.proofs.Common.{◌≡◌, ℕ, ◌+◌, ◌<◌, ◌≤◌, List, [], ◌∷◌, ◌++◌, true, false, ◌&&◌, None, length, get_or, drop, map, nat_lt, nat_le, refl, sym, subst, arith}
use Rattle.std.specs.List.{All, AllByRecursion}
use Rattle.std.proofs.lemmas.List.{drop_all}
use Rattle.std.proofs.lemmas.List.Elements.{All-nil, All-cons, All-weaker, All-from_recursion}
use Rattle.hys_base.specs.Differ.{Differ}
use Rattle.hys_frac.specs.Compare.{number_cmp}
use Rattle.hys_lin.specs.Over.{AreTermsOver}
use Rattle.hys_lin.specs.declared.form.Term.{Term}
use Rattle.hys_lin.specs.declared.form.Affine.{Affine}
use Rattle.hys_lin.specs.declared.form.Interval.{Interval}
use Rattle.hys_lin.specs.declared.form.Row.{Row}
use Rattle.hys_json.proofs.Fitted.{drop_here}
use Rattle.hys_sys.specs.declared.system.Kind2.{Kind2}
use Rattle.hys_sys.specs.declared.system.Column.{Column}
use Rattle.hys_sys.specs.declared.system.Output.{Output}
use Rattle.hys_sys.specs.declared.system.System.{System}
use Rattle.hys_sys.specs.System.{IsSystem, IsBox, InOrder, rank, states, names}
use Rattle.hys_file.specs.Reading.{isnt_greater, is_kinds_box, is_zero, column_name, output_name, limit_of, most_weight}
use Rattle.hys_file.proofs.Lawful.{not_greater, of_kind, AreNextTerms, no_terms, next_term, next_terms, within_limits}

-- ---- the order of columns
-- each rank is at least the one before
abbrev pub Rising : ℕ → List Column → Type 0
Rising least [] = Unit {0}
Rising least (c ∷ cs) = (least ≤ rank c.role) × Rising (rank c.role) cs

ordered : (least : ℕ) (cs : List Column) → Rising least cs → All (λ (c : Column). least ≤ rank c.role) cs × InOrder cs
ordered least [] h = (All-nil (λ (c : Column). least ≤ rank c.role), tt)
ordered least (c ∷ cs) h =
    let rest = ordered (rank c.role) cs h.1 in
    let places : All (λ (d : Column). least ≤ rank d.role) cs = All-weaker (λ (d : Column). rank c.role ≤ rank d.role) (λ (d : Column). least ≤ rank d.role) (λ d l. omega (arith, l, h.0)) cs rest.0 in
    (All-cons (λ (d : Column). least ≤ rank d.role) c cs h.0 places, rest)

pub ranks_next : (least i k : ℕ) (cs : List Column) (c : Column) → i < length cs → c ≡ get_or cs i c → k ≡ rank c.role → least ≤ k →
    (Rising least (drop i cs) → Rising 0 cs) → Rising k (drop (i + 1) cs) → Rising 0 cs
ranks_next least i k cs c l e r p before h =
    before (subst (Rising least) (sym (drop_here cs i c l e)) (subst (λ (n : ℕ). least ≤ n) r p, subst (λ (n : ℕ). Rising n (drop (i + 1) cs)) r h))

pub in_order : (least i : ℕ) (cs : List Column) → length cs ≤ i → (Rising least (drop i cs) → Rising 0 cs) → InOrder cs
in_order least i cs l before = (ordered 0 cs (before (subst (Rising least) (sym (drop_all i cs l)) tt))).1

-- ---- boxes
pub is_box : (k : Kind2) (i : Interval) → isnt_greater (number_cmp i.low i.high) ≡ true → is_kinds_box k i ≡ true → IsBox k i
is_box k i l h = of_kind k i (not_greater i.low i.high l) h

-- ---- terms
pub terms_next : (columns least i : ℕ) (ts : List Term) (t : Term) → i < length ts → t ≡ get_or ts i t →
    nat_le least t.column && nat_lt t.column columns ≡ true → is_zero t.factor ≡ false →
    (AreNextTerms columns least (drop i ts) → AreNextTerms columns 0 ts) → AreNextTerms columns (t.column + 1) (drop (i + 1) ts) → AreNextTerms columns 0 ts
terms_next columns least i ts t l e w z before h =
    before (subst (AreNextTerms columns least) (sym (drop_here ts i t l e)) (next_terms columns least t (drop (i + 1) ts) (next_term columns least t w z) h))

pub terms_over : (columns least i : ℕ) (ts : List Term) → length ts ≤ i → (AreNextTerms columns least (drop i ts) → AreNextTerms columns 0 ts) → AreTermsOver columns ts
terms_over columns least i ts l before = (before (subst (AreNextTerms columns least) (sym (drop_all i ts l)) (no_terms columns least))).over

-- ---- names
pub names_apart : (s : System) (none cols all : List (List ℕ)) (cs : List Column) (os : List Output) → none ≡ [] → cs ≡ s.columns → os ≡ s.outputs →
    cols ≡ none ++ map column_name cs → all ≡ cols ++ map output_name os → (Differ none → Differ cols) → (Differ cols → Differ all) → Differ (names s)
names_apart s none cols all cs os n c o first then apart both = subst Differ whole (both (apart (subst Differ (sym n) tt)))
  where
    whole : all ≡ names s
    whole = rw (then, first, n, c, o) refl

-- ---- the whole system
pub keeps : (s : System) → InOrder s.columns → AllByRecursion (λ (c : Column). IsBox c.kind c.bounds) s.columns → Differ (names s) → length s.next ≡ states s.columns →
    AllByRecursion (λ (f : Affine). AreTermsOver (length s.columns) f.terms) s.next → AllByRecursion (λ (o : Output). AreTermsOver (length s.columns) o.form.terms) s.outputs →
    AllByRecursion (λ (r : Row). (r.eq ≡ false) × AreTermsOver (length s.columns) r.terms) s.rows → length s.labels ≡ length s.rows →
    limit_of s ≡ None → IsSystem s × (s.weight ≤ most_weight)
keeps s order boxes differ each next outputs rows labelled limit =
    let few = within_limits s limit in
    let all_rows = All-from_recursion (λ (r : Row). (r.eq ≡ false) × AreTermsOver (length s.columns) r.terms) s.rows rows in (
      record {
        order = order;
        boxes = All-from_recursion (λ (c : Column). IsBox c.kind c.bounds) s.columns boxes;
        differ = differ;
        each = each;
        next = All-from_recursion (λ (f : Affine). AreTermsOver (length s.columns) f.terms) s.next next;
        outputs = All-from_recursion (λ (o : Output). AreTermsOver (length s.columns) o.form.terms) s.outputs outputs;
        rows = All-weaker (λ (r : Row). (r.eq ≡ false) × AreTermsOver (length s.columns) r.terms) (λ (r : Row). AreTermsOver (length s.columns) r.terms) (λ r h. h.1) s.rows all_rows;
        no_equation = All-weaker (λ (r : Row). (r.eq ≡ false) × AreTermsOver (length s.columns) r.terms) (λ (r : Row). r.eq ≡ false) (λ r h. h.0) s.rows all_rows;
        labelled = labelled;
        few_columns = few.few_columns;
        few_rows = few.few_rows;
      },
      few.light,
    )
