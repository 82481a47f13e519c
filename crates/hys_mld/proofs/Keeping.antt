-- The lines of all items make the system of their program.
use Rattle.std.proofs.Common.{◌≡◌, ℕ, suc, ◌+◌, ◌<◌, ◌≤◌, List, [], ◌∷◌, ◌++◌, Option, Some, None, true, length, map, get_or, refl, sym, ◌∙◌, ap, ap₂, subst, arith, inl, inr, length-set}
use Rattle.hys_ast.specs.declared.source.Kind.TheVariants as kind
use Rattle.hys_lin.specs.declared.form.Affine.{Affine}
use Rattle.hys_lin.specs.declared.form.Interval.{Interval}
use Rattle.hys_lin.specs.declared.form.Row.{Row}
use Rattle.hys_lin.specs.Stated.{Stated, AreRows}
use Rattle.hys_prog.specs.declared.program.Body.{Body}
use Rattle.hys_prog.specs.declared.program.Body.TheVariants.{Guard, Choice, Logic, Linear, NextBool, NextReal, OutBool, OutReal, MustHold, MustMost, MustZero}
use Rattle.hys_prog.specs.declared.program.Name.{Name}
use Rattle.hys_prog.specs.declared.program.Order.{Order}
use Rattle.hys_prog.specs.declared.program.ProgItem.{ProgItem}
use Rattle.hys_prog.specs.declared.program.Program.{Program}
use Rattle.hys_prog.specs.declared.program.Role.TheVariants.{Aux}
use Rattle.hys_prog.specs.Programs.{IsProgram, EachItem, NameAt, Named, Suits, Has, BodyOver, IsVariable, IsBooleanVariable}
use Rattle.hys_prog.specs.Orders.{IsIn, IsOrder, Leads, MentionedIn, SomeItem}
use Rattle.hys_prog.specs.Steps.{OfName, places, is_auxiliary}
use Rattle.hys_prog.proofs.Names.{name_map, place_of}
use Rattle.hys_prog.proofs.Members.{at_in}
use Rattle.hys_order.proofs.Definable.{acyclic}
use Rattle.hys_bound.specs.Ranges.{intervals, found, declared, with_interval, interval_at, place_in}
use Rattle.hys_bound.proofs.Turns.{declared_count}
use Rattle.hys_logic.specs.Literals.{column_in}
use Rattle.hys_sys.specs.declared.system.System.{System}
use Rattle.hys_sys.specs.Exact.{Exact}
use Rattle.hys_sys.specs.System.{IsSystem}
use Rattle.hys_exact.specs.Automata.{LegalSteps, automaton_of}
use Rattle.hys_exact.specs.Built.{IsBuilt}
use Rattle.hys_exact.specs.Columns.{front, behind, is_real_auxiliary}
use Rattle.hys_exact.specs.Labels.{label_of, labels_of}
use Rattle.hys_exact.specs.Parts.{Part, AreParts, rows_of, count_of, forms_of}
use Rattle.hys_exact.specs.Sound.{AreSound}
use Rattle.hys_exact.proofs.Exactness.{exact_system}
use Rattle.hys_exact.proofs.Lawful.{lawful_system}
use Rattle.hys_exact.proofs.Names.{HasPlace, each_in, has_place, name_at, Stands}
use Rattle.hys_exact.proofs.Placing.{columns_length, placing_below, boolean_below, placing_differ}
use Rattle.hys_rows.specs.Items.{AreAlike, IsItem, fresh_in}
use Rattle.hys_rows.specs.Parts.{part_of, stated_in}
use Rattle.hys_mld.specs.Assembled.{IsAssembled}
use Rattle.hys_mld.specs.Fresh.{fresh_of, fresh_of_items, name_columns}
use Rattle.hys_mld.specs.Lines.{AreLines, AreAdded, ItemsFit, all_rows, all_labels, items_forms}
use Rattle.hys_mld.specs.Placing.{placing_of}
use Rattle.hys_mld.specs.Stated.{AreStated, items_stated}
use Rattle.hys_mld.proofs.Counting.{fresh_items_same}
use Rattle.hys_mld.proofs.Sorts.{is_placing}

-- ---- the parts of the items
parts_of : List ℕ → ℕ → List ProgItem → List (List Row) → List Part
parts_of columns k [] ms = []
parts_of columns k (t ∷ ts) [] = []
parts_of columns k (t ∷ ts) (m ∷ ms) = part_of columns k t m ∷ parts_of columns (k + fresh_in columns t.body) ts ms

parts_mean : (names : List Name) (boxes : List Interval) (columns : List ℕ) (k : ℕ) (ts : List ProgItem) (ms : List (List Row)) → AreAdded boxes columns k ts ms → ItemsFit names boxes columns k ts → AreParts names boxes columns k ts (parts_of columns k ts ms)
unfolding parts_of
parts_mean names boxes columns k [] [] a f = tt
parts_mean names boxes columns k [] (m ∷ ms) a f = absurd a
parts_mean names boxes columns k (t ∷ ts) [] a f = absurd a
parts_mean names boxes columns k (t ∷ ts) (m ∷ ms) a f = (a.0.means names f.0, parts_mean names boxes columns (k + fresh_in columns t.body) ts ms a.1 f.1)

parts_rows : (boxes : List Interval) (columns : List ℕ) (k : ℕ) (ts : List ProgItem) (ms : List (List Row)) → AreAdded boxes columns k ts ms → all_rows ms ≡ rows_of (parts_of columns k ts ms)
unfolding parts_of
parts_rows boxes columns k [] [] a = refl
parts_rows boxes columns k [] (m ∷ ms) a = absurd a
parts_rows boxes columns k (t ∷ ts) [] a = absurd a
parts_rows boxes columns k (t ∷ ts) (m ∷ ms) a = ap (λ (rs : List Row). m ++ rs) (parts_rows boxes columns (k + fresh_in columns t.body) ts ms a.1)

parts_labels : (names : List Name) (boxes : List Interval) (columns : List ℕ) (k : ℕ) (ts : List ProgItem) (ms : List (List Row)) → AreAdded boxes columns k ts ms → all_labels names ts ms ≡ labels_of names ts (parts_of columns k ts ms)
unfolding parts_of
parts_labels names boxes columns k [] [] a = refl
parts_labels names boxes columns k [] (m ∷ ms) a = absurd a
parts_labels names boxes columns k (t ∷ ts) [] a = absurd a
parts_labels names boxes columns k (t ∷ ts) (m ∷ ms) a = ap (λ (ls : List (List ℕ)). map (λ (r : Row). label_of names t) m ++ ls) (parts_labels names boxes columns (k + fresh_in columns t.body) ts ms a.1)

parts_forms : (boxes : List Interval) (columns : List ℕ) (k : ℕ) (ts : List ProgItem) (ms : List (List Row)) → AreAdded boxes columns k ts ms → items_forms columns k ts ≡ forms_of (parts_of columns k ts ms)
unfolding parts_of
parts_forms boxes columns k [] [] a = refl
parts_forms boxes columns k [] (m ∷ ms) a = absurd a
parts_forms boxes columns k (t ∷ ts) [] a = absurd a
parts_forms boxes columns k (t ∷ ts) (m ∷ ms) a = ap₂ ◌∷◌ refl (parts_forms boxes columns (k + fresh_in columns t.body) ts ms a.1)

parts_count : (boxes : List Interval) (columns : List ℕ) (k : ℕ) (ts : List ProgItem) (ms : List (List Row)) → AreAdded boxes columns k ts ms → count_of (parts_of columns k ts ms) ≡ fresh_of_items columns ts
unfolding parts_of
parts_count boxes columns k [] [] a = refl
parts_count boxes columns k [] (m ∷ ms) a = absurd a
parts_count boxes columns k (t ∷ ts) [] a = absurd a
parts_count boxes columns k (t ∷ ts) (m ∷ ms) a = ap (λ (n : ℕ). fresh_in columns t.body + n) (parts_count boxes columns (k + fresh_in columns t.body) ts ms a.1)

parts_sound : (names : List Name) (boxes : List Interval) (columns : List ℕ) (total k : ℕ) (ts : List ProgItem) (ms : List (List Row)) → ((n : ℕ) → NameAt names n IsVariable → column_in columns n < total) → k + fresh_of_items columns ts ≤ total → AreAdded boxes columns k ts ms → ItemsFit names boxes columns k ts → AreSound total ts (parts_of columns k ts ms)
unfolding parts_of
parts_sound names boxes columns total k [] [] b l a f = tt
parts_sound names boxes columns total k [] (m ∷ ms) b l a f = absurd a
parts_sound names boxes columns total k (t ∷ ts) [] b l a f = absurd a
parts_sound names boxes columns total k (t ∷ ts) (m ∷ ms) b l a f =
    (a.0.sound names total f.0 (record { named = b; fresh = omega arith }), parts_sound names boxes columns total (k + fresh_in columns t.body) ts ms b (omega arith) a.1 f.1)

-- ---- the stated rows
rows_append : (rs more : List Row) (ss qs : List Stated) → AreRows rs ss → AreRows more qs → AreRows (rs ++ more) (ss ++ qs)
rows_append [] more [] qs a b = b
rows_append [] more (s ∷ ss) qs a b = absurd a
rows_append (r ∷ rs) more [] qs a b = absurd a
rows_append (r ∷ rs) more (s ∷ ss) qs a b = (a.0, rows_append rs more ss qs a.1 b)

pub all_stated : (boxes : List Interval) (columns : List ℕ) (k : ℕ) (ts : List ProgItem) (ms : List (List Row)) → AreAdded boxes columns k ts ms → AreRows (all_rows ms) (items_stated boxes columns k ts)
all_stated boxes columns k [] [] a = tt
all_stated boxes columns k [] (m ∷ ms) a = absurd a
all_stated boxes columns k (t ∷ ts) [] a = absurd a
all_stated boxes columns k (t ∷ ts) (m ∷ ms) a = rows_append m (all_rows ms) (stated_in boxes columns k t) (items_stated boxes columns (k + fresh_in columns t.body) ts) a.0.rows (all_stated boxes columns (k + fresh_in columns t.body) ts ms a.1)

-- ---- no definition mentions its own name
own_auxiliary : (n : ℕ) (b : Body) (x : Name) → Suits b x → MentionedIn n b → is_auxiliary x.role ≡ true
own_auxiliary n (Guard f e) x s m = ap is_auxiliary s.0
own_auxiliary n (Choice l f g) x s m = ap is_auxiliary s.0
own_auxiliary n (Logic l) x s m = ap is_auxiliary s.0
own_auxiliary n (Linear f) x s m = ap is_auxiliary s.0
own_auxiliary n (NextBool l) x s m = absurd m
own_auxiliary n (NextReal f) x s m = absurd m
own_auxiliary n (OutBool l) x s m = absurd m
own_auxiliary n (OutReal f) x s m = absurd m
own_auxiliary n (MustHold l) x s m = absurd m
own_auxiliary n (MustMost f) x s m = absurd m
own_auxiliary n (MustZero f) x s m = absurd m

no_own : (p : Program) (o : Order) → IsOrder p o → (n : ℕ) (b : Body) → NameAt p.names n (Suits b) → (MentionedIn n b → Leads p n n) → ¬ (MentionedIn n b)
no_own p o q n b s l m =
    let i : IsIn n (places is_auxiliary p) = place_of is_auxiliary 0 n n p.names (omega arith) (name_map (Suits b) (λ x. is_auxiliary x.role ≡ true) p.names n (λ x h. own_auxiliary n b x h m) s) in
    acyclic p o (n ∷ []) q ((i, tt), (tt, tt), l m)

apart_here : (p : Program) (o : Order) → IsOrder p o → (t : ProgItem) (m : Option ℕ) → t.name ≡ m → Named p.names m t.body → ((n : ℕ) → (t.name ≡ Some n) × MentionedIn n t.body → Leads p n n) → OfName (λ n. ¬ (MentionedIn n t.body)) m
apart_here p o q t None e h l = tt
apart_here p o q t (Some n) e h l = no_own p o q n t.body h (λ k. l n (e, k))

pub are_items : (p : Program) (o : Order) → IsOrder p o → (ts : List ProgItem) → EachItem (λ t. BodyOver p.names t.body) ts → EachItem (λ t. Named p.names t.name t.body) ts →
    ((n : ℕ) → SomeItem (λ t. (t.name ≡ Some n) × MentionedIn n t.body) ts → Leads p n n) → EachItem (IsItem p.names) ts
are_items p o q [] b n l = tt
are_items p o q (t ∷ ts) b n l = (
  record { body = b.0; named = n.0; apart = apart_here p o q t t.name refl n.0 (λ j h. l j (inl h)) },
  are_items p o q ts b.1 n.1 (λ j h. l j (inr h)),
)

-- ---- the columns
-- the columns of real auxiliaries stand behind the fresh ones
real_above : (p : Program) (fresh n : ℕ) → NameAt p.names n (Has Aux kind.Real) → length (front p) + fresh ≤ column_in (placing_of p fresh) n
real_above p fresh n h =
    let x : (x : Name) × Has Aux kind.Real x × Stands p.names n x = name_at (Has Aux kind.Real) p.names n h in
    let i : IsIn n (behind p) = each_in is_real_auxiliary 0 n n x.0 p.names (omega arith) x.2 (real_sort x.0 x.1) in
    let k : (j : ℕ) × (j < length (behind p)) × (get_or (behind p) j 0 ≡ n) = at_in (behind p) n i in
    let e : column_in (placing_of p fresh) n ≡ length (front p) + (fresh + k.0) = subst (λ (m : ℕ). column_in (placing_of p fresh) m ≡ length (front p) + (fresh + k.0)) k.2 ((is_placing p fresh).after k.0 k.1) in
    omega arith
  where
    real_sort : (x : Name) → Has Aux kind.Real x → is_real_auxiliary x ≡ true
    real_sort x h = rw (h.0, h.1) refl

items_fit : (p : Program) (boxes : List Interval) (fresh : ℕ) → length boxes ≡ length p.names → (ts : List ProgItem) (k : ℕ) → length (front p) ≤ k → k + fresh_of_items (placing_of p fresh) ts ≤ length (front p) + fresh → EachItem (IsItem p.names) ts → ItemsFit p.names boxes (placing_of p fresh) k ts
items_fit p boxes fresh e [] k a b i = tt
items_fit p boxes fresh e (t ∷ ts) k a b i = (
  record {
    placed = record {
      long = (is_placing p fresh).long;
      differ = λ n m h j q. placing_differ p fresh (placing_of p fresh) n m (is_placing p fresh) h j q;
      booleans = λ n h. (let l : column_in (placing_of p fresh) n < length (front p) = boolean_below p fresh (placing_of p fresh) n (is_placing p fresh) h in omega arith);
      reals = λ n h. (let l : length (front p) + fresh ≤ column_in (placing_of p fresh) n = real_above p fresh n h in omega arith);
    };
    item = i.0;
    long = e;
  },
  items_fit p boxes fresh e ts (k + fresh_in (placing_of p fresh) t.body) (omega arith) (omega arith) i.1,
)

-- a Boolean name has the same column for any number of fresh ones
boolean_at : (p : Program) (f n : ℕ) → NameAt p.names n IsBooleanVariable → HasPlace p n → (k : ℕ) × (k < length (front p)) × (get_or (front p) k 0 ≡ n)
boolean_at p f n h (inl i) = at_in (front p) n i
boolean_at p f n h (inr i) =
    let k : (j : ℕ) × (j < length (behind p)) × (get_or (behind p) j 0 ≡ n) = at_in (behind p) n i in
    let e : column_in (placing_of p f) n ≡ length (front p) + (f + k.0) = subst (λ (m : ℕ). column_in (placing_of p f) m ≡ length (front p) + (f + k.0)) k.2 ((is_placing p f).after k.0 k.1) in
    let l : column_in (placing_of p f) n < length (front p) = boolean_below p f (placing_of p f) n (is_placing p f) h in
    absurd (omega arith)

boolean_same : (p : Program) (f g n : ℕ) → (k : ℕ) × (k < length (front p)) × (get_or (front p) k 0 ≡ n) → column_in (placing_of p f) n ≡ column_in (placing_of p g) n
boolean_same p f g n k =
    let a : column_in (placing_of p f) n ≡ k.0 = subst (λ (m : ℕ). column_in (placing_of p f) m ≡ k.0) k.2 ((is_placing p f).before k.0 k.1) in
    let b : column_in (placing_of p g) n ≡ k.0 = subst (λ (m : ℕ). column_in (placing_of p g) m ≡ k.0) k.2 ((is_placing p g).before k.0 k.1) in
    a ∙ sym b

pub same_booleans : (p : Program) (f g : ℕ) → AreAlike p.names (placing_of p f) (placing_of p g)
same_booleans p f g n h = boolean_same p f g n (boolean_at p f n h (has_place p n (name_map IsBooleanVariable IsVariable p.names n (λ x k. k.0) h)))

pub fresh_same : (p : Program) → IsProgram p → fresh_of_items (name_columns p) p.items ≡ fresh_of p
fresh_same p g = fresh_items_same p.names (name_columns p) (placing_of p 0) p.items (same_booleans p (fresh_of p) 0) g.bodies

-- ---- the intervals
found_long : (ts : List ProgItem) (ns : List ℕ) (boxes : List Interval) → length (found ts ns boxes) ≡ length boxes
found_long ts [] boxes = refl
found_long ts (n ∷ ns) boxes = found_long ts ns (with_interval ts n boxes) ∙ length-set boxes n (interval_at boxes ts (place_in ts n))

pub intervals_long : (p : Program) (o : Order) → length (intervals p o) ≡ length p.names
intervals_long p o = found_long p.items o.names (declared p.names) ∙ declared_count p.names

pub all_fit : (p : Program) (o : Order) (boxes : List Interval) → IsProgram p → IsOrder p o → length boxes ≡ length p.names → ItemsFit p.names boxes (name_columns p) (length (front p)) p.items
all_fit p o boxes g q e =
    let s : fresh_of_items (name_columns p) p.items ≡ fresh_of p = fresh_same p g in
    items_fit p boxes (fresh_of p) e p.items (length (front p)) (omega arith) (omega arith) (are_items p o q p.items g.bodies g.named (λ n h. h))

-- ---- the system
-- what a system that is put together keeps
pub record Keeps (p : Program) (o : Order) (S : System) : Type 0 where
  pub exact : Exact (automaton_of p) (LegalSteps p) S
  pub lawful : IsSystem S
  pub built : IsBuilt p (intervals p o) S
  pub stated : AreStated p (intervals p o) S.rows

pub kept : (p : Program) (o : Order) (boxes : List Interval) (rows : List Row) (labels : List (List ℕ)) (forms : List Affine) (S : System) → IsProgram p → IsOrder p o → boxes ≡ intervals p o → p.weight < 4294967296 →
    AreLines p.names boxes (name_columns p) (length (front p)) p.items rows labels forms → IsAssembled p boxes (fresh_of p) rows labels forms S → Keeps p o S
kept p o boxes rows labels forms S g q e w l a = go (subst (λ (bs : List Interval). AreLines p.names bs (name_columns p) (length (front p)) p.items rows labels forms) e l) (subst (λ (bs : List Interval). IsAssembled p bs (fresh_of p) rows labels forms S) e a)
  where
    go : AreLines p.names (intervals p o) (name_columns p) (length (front p)) p.items rows labels forms → IsAssembled p (intervals p o) (fresh_of p) rows labels forms S → Keeps p o S
    go l a =
        let boxes : List Interval = intervals p o in
        let qs : List Part = parts_of (name_columns p) (length (front p)) p.items l.by_item in
        let f : ItemsFit p.names (intervals p o) (name_columns p) (length (front p)) p.items = all_fit p o (intervals p o) g q (intervals_long p o) in
        let n : count_of (parts_of (name_columns p) (length (front p)) p.items l.by_item) ≡ fresh_of p = parts_count (intervals p o) (name_columns p) (length (front p)) p.items l.by_item l.added ∙ fresh_same p g in
        let fs : forms ≡ forms_of (parts_of (name_columns p) (length (front p)) p.items l.by_item) = l.forms_are ∙ parts_forms (intervals p o) (name_columns p) (length (front p)) p.items l.by_item l.added in
        let b : IsBuilt p (intervals p o) S = record {
          parts = parts_of (name_columns p) (length (front p)) p.items l.by_item;
          place = name_columns p;
          placing = rw n (is_placing p (fresh_of p));
          mean = parts_mean p.names (intervals p o) (name_columns p) (length (front p)) p.items l.by_item l.added f;
          name = a.name;
          columns = rw n a.columns;
          rows = a.rows_are ∙ l.rows_are ∙ parts_rows (intervals p o) (name_columns p) (length (front p)) p.items l.by_item l.added;
          labels = a.labels_are ∙ l.labels_are ∙ parts_labels p.names (intervals p o) (name_columns p) (length (front p)) p.items l.by_item l.added;
          next = rw (← fs) a.next;
          outputs = rw (← fs) a.outputs;
        } in
        let c : length S.columns ≡ length (front p) + (fresh_of p + length (behind p)) = ap length a.columns ∙ columns_length p (intervals p o) (fresh_of p) in
        let s : fresh_of_items (name_columns p) p.items ≡ fresh_of p = fresh_same p g in
        let sound : AreSound (length S.columns) p.items (parts_of (name_columns p) (length (front p)) p.items l.by_item) =
        parts_sound p.names (intervals p o) (name_columns p) (length S.columns) (length (front p)) p.items l.by_item
        (λ n h. (let d : column_in (name_columns p) n < length (front p) + (fresh_of p + length (behind p)) = placing_below p (fresh_of p) (name_columns p) n (is_placing p (fresh_of p)) h in omega arith))
        (omega arith) l.added f in
        record {
          exact = exact_system p o S g q b;
          lawful = lawful_system p o S g q b sound a.weight w;
          built = b;
          stated = rw (a.rows_are ∙ l.rows_are) (all_stated (intervals p o) (name_columns p) (length (front p)) p.items l.by_item l.added);
        }

-- there is a form for each item
forms_long : (columns : List ℕ) (k : ℕ) (ts : List ProgItem) → length (items_forms columns k ts) ≡ length ts
forms_long columns k [] = refl
forms_long columns k (t ∷ ts) = ap suc (forms_long columns (k + fresh_in columns t.body) ts)

pub lines_long : (names : List Name) (boxes : List Interval) (columns : List ℕ) (k : ℕ) (ts : List ProgItem) (rows : List Row) (labels : List (List ℕ)) (forms : List Affine) → AreLines names boxes columns k ts rows labels forms → length forms ≡ length ts
lines_long names boxes columns k ts rows labels forms l = ap length l.forms_are ∙ forms_long columns k ts
