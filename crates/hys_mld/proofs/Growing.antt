-- The lines of items, one item more.
use Rattle.std.proofs.Common.{◌≡◌, ℕ, suc, ◌+◌, ◌-◌, ◌^◌, ◌<◌, ◌≤◌, List, [], ◌∷◌, ◌++◌, Option, Some, None, Err, length, map, get_or, take, drop, replicate, refl, sym, ◌∙◌, ap, ap₂, subst, arith, append_assoc, append-nil, length-append, add-one}
use Rattle.std.proofs.Math.Seq.{take-suc}
use Rattle.std.proofs.lemmas.List.{take_all, drop_all}
use Rattle.hys_lin.specs.declared.form.Affine.{Affine}
use Rattle.hys_lin.specs.declared.form.Interval.{Interval}
use Rattle.hys_lin.specs.declared.form.Row.{Row}
use Rattle.hys_lin.specs.declared.lost.Lost.{Lost}
use Rattle.hys_lin.specs.Operations.{first_lost}
use Rattle.hys_prog.specs.declared.program.Name.{Name}
use Rattle.hys_prog.specs.declared.program.ProgItem.{ProgItem}
use Rattle.hys_prog.specs.Programs.{Named, Suits, body_connectives, items_weight}
use Rattle.hys_prog.specs.Steps.{OfName}
use Rattle.hys_prog.proofs.Defined.{name_below}
use Rattle.hys_prog.proofs.Walking.{drop_here}
use Rattle.hys_bound.specs.Ranges.{all_at, first_unfit}
use Rattle.hys_bound.proofs.Turns.{unfit_after, unfit_before}
use Rattle.hys_exact.specs.Labels.{label_of}
use Rattle.hys_rows.specs.declared.added.Added.{Added}
use Rattle.hys_rows.specs.Items.{FitsNames, fresh_in}
use Rattle.hys_rows.specs.declared.fault.RowFault.{RowFault}
use Rattle.hys_rows.specs.declared.fault.RowFault.TheVariants.{Lost as Shown, Memory as Wanting}
use Rattle.hys_rows.specs.Numbers.{numbers_of, Judged}
use Rattle.hys_rows.specs.Parts.{IsAdded, Adds, form_in}
use Rattle.hys_mld.specs.declared.fault.BuildFault.{BuildFault}
use Rattle.hys_mld.specs.declared.fault.BuildFault.TheVariants.{Range, Memory}
use Rattle.hys_mld.specs.Answers.{Faulted}
use Rattle.hys_mld.specs.Fresh.{fresh_of_items}
use Rattle.hys_mld.specs.Lines.{AreLines, AreAdded, ItemsFit, all_rows, all_labels, items_forms}
use Rattle.hys_mld.specs.Numbers.{items_numbers}
use Rattle.hys_mld.proofs.Counting.{fresh_in_few, fresh_before, weight_here}

-- ---- one item more
added_more : (boxes : List Interval) (columns : List ℕ) (k : ℕ) (ts : List ProgItem) (ms : List (List Row)) (t : ProgItem) (m : List Row) (a : Added) → AreAdded boxes columns k ts ms → IsAdded boxes columns (k + fresh_of_items columns ts) t m a → AreAdded boxes columns k (ts ++ t ∷ []) (ms ++ m ∷ [])
added_more boxes columns k [] [] t m a h d =
    let e : k + 0 ≡ k = omega arith in
    let d' : IsAdded boxes columns k t m a = subst (λ (j : ℕ). IsAdded boxes columns j t m a) e d in
    (record { fresh = refl; form = refl; rows = d'.rows; means = d'.means; sound = d'.sound }, tt)
added_more boxes columns k [] (n ∷ ms) t m a h d = absurd h
added_more boxes columns k (x ∷ ts) [] t m a h d = absurd h
added_more boxes columns k (x ∷ ts) (n ∷ ms) t m a h d =
    let e : k + (fresh_in columns x.body + fresh_of_items columns ts) ≡ (k + fresh_in columns x.body) + fresh_of_items columns ts = omega arith in
    (h.0, added_more boxes columns (k + fresh_in columns x.body) ts ms t m a h.1 (subst (λ (j : ℕ). IsAdded boxes columns j t m a) e d))

added_long : (boxes : List Interval) (columns : List ℕ) (k : ℕ) (ts : List ProgItem) (ms : List (List Row)) → AreAdded boxes columns k ts ms → length ts ≡ length ms
added_long boxes columns k [] [] h = refl
added_long boxes columns k [] (m ∷ ms) h = absurd h
added_long boxes columns k (t ∷ ts) [] h = absurd h
added_long boxes columns k (t ∷ ts) (m ∷ ms) h = ap suc (added_long boxes columns (k + fresh_in columns t.body) ts ms h.1)

rows_more : (ms : List (List Row)) (m : List Row) → all_rows (ms ++ m ∷ []) ≡ all_rows ms ++ m
rows_more [] m = rw append-nil refl
rows_more (n ∷ ms) m = ap (λ (rs : List Row). n ++ rs) (rows_more ms m) ∙ sym (append_assoc n (all_rows ms) m)

labels_more : (names : List Name) (ts : List ProgItem) (ms : List (List Row)) (t : ProgItem) (m : List Row) → length ts ≡ length ms → all_labels names (ts ++ t ∷ []) (ms ++ m ∷ []) ≡ all_labels names ts ms ++ map (λ (r : Row). label_of names t) m
labels_more names [] [] t m e = rw append-nil refl
labels_more names [] (n ∷ ms) t m e = absurd (omega arith)
labels_more names (x ∷ ts) [] t m e = absurd (omega arith)
labels_more names (x ∷ ts) (n ∷ ms) t m e = ap (λ (ls : List (List ℕ)). map (λ (r : Row). label_of names x) n ++ ls) (labels_more names ts ms t m (omega arith)) ∙ sym (append_assoc (map (λ (r : Row). label_of names x) n) (all_labels names ts ms) (map (λ (r : Row). label_of names t) m))

forms_more : (columns : List ℕ) (k : ℕ) (ts : List ProgItem) (t : ProgItem) → items_forms columns k (ts ++ t ∷ []) ≡ items_forms columns k ts ++ form_in columns (k + fresh_of_items columns ts) t.body ∷ []
forms_more columns k [] t = let e : k ≡ k + 0 = omega arith in ap (λ (j : ℕ). form_in columns j t.body ∷ []) e
forms_more columns k (x ∷ ts) t =
    let e : (k + fresh_in columns x.body) + fresh_of_items columns ts ≡ k + (fresh_in columns x.body + fresh_of_items columns ts) = omega arith in
    ap (λ (fs : List Affine). form_in columns k x.body ∷ fs) (forms_more columns (k + fresh_in columns x.body) ts t ∙ ap (λ (j : ℕ). items_forms columns (k + fresh_in columns x.body) ts ++ form_in columns j t.body ∷ []) e)

lines_more : (names : List Name) (boxes : List Interval) (columns : List ℕ) (k : ℕ) (ts : List ProgItem) (rows : List Row) (labels : List (List ℕ)) (forms : List Affine) (t : ProgItem) (m : List Row) (a : Added) →
    AreLines names boxes columns k ts rows labels forms → IsAdded boxes columns (k + fresh_of_items columns ts) t m a →
    AreLines names boxes columns k (ts ++ t ∷ []) (rows ++ m) (labels ++ map (λ (r : Row). label_of names t) m) (forms ++ a.form ∷ [])
lines_more names boxes columns k ts rows labels forms t m a l d = record {
  by_item = l.by_item ++ m ∷ [];
  added = added_more boxes columns k ts l.by_item t m a l.added d;
  rows_are = ap (λ (rs : List Row). rs ++ m) l.rows_are ∙ sym (rows_more l.by_item m);
  labels_are = ap (λ (ls : List (List ℕ)). ls ++ map (λ (r : Row). label_of names t) m) l.labels_are ∙ sym (labels_more names ts l.by_item t m (added_long boxes columns k ts l.by_item l.added));
  forms_are = ap₂ (λ (fs : List Affine) (f : Affine). fs ++ f ∷ []) l.forms_are d.form ∙ sym (forms_more columns k ts t);
}

pub same_labels : (m : List Row) (label : List ℕ) → replicate (length m) label ≡ map (λ (r : Row). label) m
same_labels [] label = refl
same_labels (r ∷ m) label = ap (λ (ls : List (List ℕ)). label ∷ ls) (same_labels m label)

-- the operation that a fault shows is the first whose result doesn't fit
pub lost_first : (os : List Lost) (f : RowFault) (l : Lost) → Judged {X = Added} os (Err f) → f ≡ Shown l → first_lost os ≡ Some l
lost_first os (Shown m) l j e = let q : m ≡ l = cc in j ∙ ap Some q
lost_first os Wanting l j e = absurd (cc)

-- one label more of so many
pub labels_one : (ls all new : List (List ℕ)) (n k : ℕ) (x : List ℕ) → ls ++ replicate (n - k) x ≡ all → k < n → new ≡ ls ++ x ∷ [] → new ++ replicate (n - (k + 1)) x ≡ all
labels_one ls all new n k x e l q =
    let a : n - k ≡ suc (n - (k + 1)) = omega arith in
    rw q (append_assoc ls (x ∷ []) (replicate (n - (k + 1)) x) ∙ (rw a at e))

-- ---- a walk over the items
-- the lines of the first items stand, and what is still to be judged is what was to be judged
pub record Standing (names : List Name) (boxes : List Interval) (columns : List ℕ) (first : ℕ) (items : List ProgItem) (i free : ℕ) (rows : List Row) (labels : List (List ℕ)) (forms : List Affine) : Type 0 where
  pub lines : AreLines names boxes columns first (take i items) rows labels forms
  pub free_is : free ≡ first + fresh_of_items columns (take i items)
  pub fit : ItemsFit names boxes columns free (drop i items)
  pub room : free + items_weight (drop i items) < 2 ^ 32
  pub numbers : first_unfit (items_numbers boxes columns first 0 items) ≡ first_unfit (items_numbers boxes columns free i (drop i items))

pub standing_start : (names : List Name) (boxes : List Interval) (columns : List ℕ) (first : ℕ) (items : List ProgItem) → ItemsFit names boxes columns first items → first + items_weight items < 2 ^ 32 → Standing names boxes columns first items 0 first [] [] []
standing_start names boxes columns first items f r = record {
  lines = record { by_item = []; added = tt; rows_are = refl; labels_are = refl; forms_are = refl };
  free_is = omega arith;
  fit = f;
  room = r;
  numbers = refl;
}

-- what is known of the item at a place
pub record Here (names : List Name) (boxes : List Interval) (columns : List ℕ) (free : ℕ) (t : ProgItem) : Type 0 where
  pub fits : FitsNames boxes columns free t
  pub room : free + body_connectives t.body ≤ 4294967296
  pub count : body_connectives t.body < 4294967296
  pub named : OfName (λ n. n < length names) t.name

of_name_below : (names : List Name) (o : Option ℕ) (t : ProgItem) → Named names o t.body → OfName (λ n. n < length names) o
of_name_below names None t h = tt
of_name_below names (Some n) t h = name_below (Suits t.body) names n h

pub here : (names : List Name) (boxes : List Interval) (columns : List ℕ) (first : ℕ) (items : List ProgItem) (i free : ℕ) (rows : List Row) (labels : List (List ℕ)) (forms : List Affine) (t : ProgItem) →
    Standing names boxes columns first items i free rows labels forms → i < length items → t ≡ get_or items i t → Here names boxes columns free t
here names boxes columns first items i free rows labels forms t s b e =
    let f : ItemsFit names boxes columns free (t ∷ drop (suc i) items) = subst (ItemsFit names boxes columns free) (drop_here items i t b e) s.fit in
    let w : body_connectives t.body + items_weight (drop (suc i) items) ≤ items_weight (drop i items) = weight_here items i t b e in
    let r : free + items_weight (drop i items) < 4294967296 = s.room in
    record {
      fits = (names, f.0);
      room = omega arith;
      count = omega arith;
      named = of_name_below names t.name t f.0.item.named;
    }

taken_more : (items : List ProgItem) (i : ℕ) (t : ProgItem) → i < length items → t ≡ get_or items i t → take (i + 1) items ≡ take i items ++ t ∷ []
taken_more items i t b e = rw add-one (take-suc items i t b ∙ ap (λ (x : ProgItem). take i items ++ x ∷ []) (sym e))

pub standing_more : (names : List Name) (boxes : List Interval) (columns : List ℕ) (first : ℕ) (items : List ProgItem) (i free : ℕ) (rows new_rows : List Row) (labels new_labels : List (List ℕ)) (forms new_forms : List Affine) (t : ProgItem) (a : Added) (count : ℕ) →
    Standing names boxes columns first items i free rows labels forms → i < length items → t ≡ get_or items i t →
    Adds boxes columns free t rows new_rows a → first_unfit (all_at i (numbers_of boxes columns free t.body)) ≡ None → count ≡ length new_rows - length rows →
    new_labels ≡ labels ++ replicate count (label_of names t) → new_forms ≡ forms ++ a.form ∷ [] →
    Standing names boxes columns first items (i + 1) (free + a.fresh) new_rows new_labels new_forms
standing_more names boxes columns first items i free rows new_rows labels new_labels forms new_forms t a count s b e d n c l f =
    let m : List Row = d.0 in
    let added : IsAdded boxes columns free t d.0 a = d.2 in
    let at : IsAdded boxes columns (first + fresh_of_items columns (take i items)) t d.0 a = subst (λ (j : ℕ). IsAdded boxes columns j t d.0 a) s.free_is d.2 in
    let more : AreLines names boxes columns first (take i items ++ t ∷ []) (rows ++ d.0) (labels ++ map (λ (r : Row). label_of names t) d.0) (forms ++ a.form ∷ []) = lines_more names boxes columns first (take i items) rows labels forms t d.0 a s.lines at in
    let grown : length new_rows ≡ length rows + length d.0 = ap (λ (rs : List Row). length rs) d.1 ∙ length-append rows d.0 in
    let few : count ≡ length d.0 = omega arith in
    let labels_are : new_labels ≡ labels ++ map (λ (r : Row). label_of names t) d.0 = l ∙ ap (λ (j : ℕ). labels ++ replicate j (label_of names t)) few ∙ ap (λ (ls : List (List ℕ)). labels ++ ls) (same_labels d.0 (label_of names t)) in
    let fresh : a.fresh ≡ fresh_in columns t.body = added.fresh in
    let here' : drop i items ≡ t ∷ drop (suc i) items = drop_here items i t b e in
    let next : drop (i + 1) items ≡ drop (suc i) items = ap (λ (j : ℕ). drop j items) (add-one i) in
    let fit : ItemsFit names boxes columns free (t ∷ drop (suc i) items) = subst (ItemsFit names boxes columns free) here' s.fit in
    let weight : body_connectives t.body + items_weight (drop (suc i) items) ≤ items_weight (drop i items) = weight_here items i t b e in
    let few_fresh : fresh_in columns t.body ≤ body_connectives t.body = fresh_in_few columns t.body in
    let room : free + items_weight (drop i items) < 4294967296 = s.room in
    let before : fresh_of_items columns (take i items ++ t ∷ []) ≡ fresh_of_items columns (take i items) + fresh_in columns t.body = fresh_before columns (take i items) t in
    let was : free ≡ first + fresh_of_items columns (take i items) = s.free_is in
    record {
      lines = rw (taken_more items i t b e, d.1, labels_are, f) more;
      free_is = rw (taken_more items i t b e) (omega arith);
      fit = rw (next, fresh) fit.1;
      room = rw next (omega arith);
      numbers = s.numbers ∙ ap (λ (ts : List ProgItem). first_unfit (items_numbers boxes columns free i ts)) here' ∙ unfit_after (all_at i (numbers_of boxes columns free t.body)) (items_numbers boxes columns (free + fresh_in columns t.body) (suc i) (drop (suc i) items)) n ∙
          (rw (next, fresh, add-one) refl);
    }

-- a number of the item doesn't fit
pub standing_lost : (names : List Name) (boxes : List Interval) (columns : List ℕ) (first : ℕ) (items : List ProgItem) (i free : ℕ) (rows : List Row) (labels : List (List ℕ)) (forms : List Affine) (t : ProgItem) (f : BuildFault) →
    Standing names boxes columns first items i free rows labels forms → i < length items → t ≡ get_or items i t → Faulted (all_at i (numbers_of boxes columns free t.body)) f → Faulted (items_numbers boxes columns first 0 items) f
standing_lost names boxes columns first items i free rows labels forms t (Range k l) s b e j = s.numbers ∙ ap (λ (ts : List ProgItem). first_unfit (items_numbers boxes columns free i ts)) (drop_here items i t b e) ∙ unfit_before (all_at i (numbers_of boxes columns free t.body)) (items_numbers boxes columns (free + fresh_in columns t.body) (suc i) (drop (suc i) items)) (record { item = k; what = l }) j
standing_lost names boxes columns first items i free rows labels forms t Memory s b e j = tt

pub record Ended (names : List Name) (boxes : List Interval) (columns : List ℕ) (first : ℕ) (items : List ProgItem) (rows : List Row) (labels : List (List ℕ)) (forms : List Affine) : Type 0 where
  pub lines : AreLines names boxes columns first items rows labels forms
  pub numbers : first_unfit (items_numbers boxes columns first 0 items) ≡ None

pub standing_end : (names : List Name) (boxes : List Interval) (columns : List ℕ) (first : ℕ) (items : List ProgItem) (i free : ℕ) (rows : List Row) (labels : List (List ℕ)) (forms : List Affine) →
    Standing names boxes columns first items i free rows labels forms → length items ≤ i → Ended names boxes columns first items rows labels forms
standing_end names boxes columns first items i free rows labels forms s b = record {
  lines = subst (λ (ts : List ProgItem). AreLines names boxes columns first ts rows labels forms) (take_all i items b) s.lines;
  numbers = s.numbers ∙ ap (λ (ts : List ProgItem). first_unfit (items_numbers boxes columns free i ts)) (drop_all i items b);
}
