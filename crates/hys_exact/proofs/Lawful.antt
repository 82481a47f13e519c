-- A system that is made of sound parts is lawful.
use Rattle.std.proofs.Common.{◌≡◌, ℕ, zero, suc, ◌+◌, ◌^◌, ◌<◌, ◌≤◌, List, [], ◌∷◌, ◌++◌, Bool, true, false, cond, ◌&&◌, not, length, get_or, map, refl, sym, ◌∙◌, ap, ap₂, arith, subst, inl}
use Rattle.std.specs.List.{All}
use Rattle.std.proofs.lemmas.List.{map-append, length-map, length-append}
use Rattle.std.proofs.lemmas.Simd.{map-map}
use Rattle.std.proofs.lemmas.List.Elements.{All-nil, All-cons, All-append, All-map, All-weaker, All-head, All-tail}
use Rattle.hys_base.specs.Differ.{Differ}
use Rattle.hys_number.specs.Number.{Number}
use Rattle.hys_number.proofs.Order.{le_refl', le_trans}
use Rattle.hys_lin.specs.declared.form.Affine.{Affine}
use Rattle.hys_lin.specs.declared.form.Row.{Row}
use Rattle.hys_lin.specs.declared.form.Interval.{Interval}
use Rattle.hys_lin.specs.Over.{AreTermsOver}
use Rattle.hys_lin.specs.Ranges.{box_at}
use Rattle.hys_lin.specs.Sums.{IsInterval, Within}
use Rattle.hys_ast.specs.declared.source.Kind.{Kind}
use Rattle.hys_ast.specs.declared.source.Kind.TheVariants as source
use Rattle.hys_prog.specs.declared.program.Role.{Role}
use Rattle.hys_prog.specs.declared.program.Role.TheVariants as role
use Rattle.hys_prog.specs.declared.program.Name.{Name}
use Rattle.hys_prog.specs.declared.program.ProgItem.{ProgItem}
use Rattle.hys_prog.specs.declared.program.Program.{Program}
use Rattle.hys_prog.specs.declared.program.Order.{Order}
use Rattle.hys_prog.specs.Programs.{IsProgram, KeepsRole, NameAt, IsVariable, IsBoxOf, has_column, names_weight, items_weight, is_named}
use Rattle.hys_prog.specs.Steps.{places, is_state, is_input, is_auxiliary}
use Rattle.hys_prog.specs.Orders.{IsOrder}
use Rattle.hys_bound.specs.Ranges.{intervals, unit}
use Rattle.hys_sys.specs.declared.system.ColumnRole.{ColumnRole}
use Rattle.hys_sys.specs.declared.system.ColumnRole.TheVariants.{State, Input, D, Z}
use Rattle.hys_sys.specs.declared.system.Kind2.{Kind2}
use Rattle.hys_sys.specs.declared.system.Kind2.TheVariants as kind
use Rattle.hys_sys.specs.declared.system.Column.{Column}
use Rattle.hys_sys.specs.declared.system.Output.{Output}
use Rattle.hys_sys.specs.declared.system.System.{System}
use Rattle.hys_sys.specs.System.{IsSystem, IsBox, InOrder, rank, states, one_if_state, names}
use Rattle.hys_sys.specs.Exact.{Variable, Boxed, AreIn, fresh_name, fresh_variables}
use Rattle.hys_sys.specs.Solution.{IsOfKind}
use Rattle.hys_exact.specs.Automata.{kind_of, boxed_of, automaton_of}
use Rattle.hys_exact.specs.Columns.{of_each, own_place, is_state_name, is_input_name, is_boolean_auxiliary, is_real_auxiliary, is_boolean, front, behind, given_column, bool_column, fresh_column, real_column, columns_of}
use Rattle.hys_exact.specs.Parts.{Part, rows_of, count_of, forms_of}
use Rattle.hys_exact.specs.Labels.{label_of, labels_of}
use Rattle.hys_exact.specs.Built.{IsBuilt, form_for, is_output_name, output_with}
use Rattle.hys_exact.specs.Sound.{AreSound}
use Rattle.hys_exact.proofs.Names.{Stands, stands_as, each_map, each_kept, places_each}
use Rattle.hys_exact.proofs.Sizes.{columns_count, few_fresh, few_rows}
use Rattle.hys_exact.proofs.Distinct.{texts_of, fresh_texts, names_differ}
use Rattle.hys_exact.proofs.Exactness.{within, valued, is_valued, takes, columns_long, zero_one}

-- ---- lists of what is given for names
all_each : {X : Type 0} (P : X → Type 0) (t : Name → Bool) (f : ℕ → Name → X) (k : ℕ) (xs : List Name) → ((n j : ℕ) (x : Name) → n ≡ k + j → Stands xs j x → t x ≡ true → P (f n x)) → All P (of_each t f k xs)
all_each P t f k [] h = All-nil P
all_each P t f k (x ∷ xs) h = go (t x) refl (all_each P t f (suc k) xs (λ n j y e s. h n (suc j) y (omega arith) s))
  where
    go : (b : Bool) → t x ≡ b → All P (of_each t f (suc k) xs) → All P (cond b (f k x ∷ of_each t f (suc k) xs) (of_each t f (suc k) xs))
    go true q a = All-cons P (f k x) (of_each t f (suc k) xs) (h k 0 x (omega arith) refl q) a
    go false q a = a

stands_all : (P : Name → Type 0) (xs : List Name) (n : ℕ) (x : Name) → All P xs → Stands xs n x → P x
stands_all P [] n x a s = absurd s
stands_all P (y ∷ ys) zero x a s = subst P (sym s) (All-head P y ys a)
stands_all P (y ∷ ys) (suc n) x a s = stands_all P ys n x (All-tail P y ys a) s

length_each : {X Y : Type 0} (t : Name → Bool) (f : ℕ → Name → X) (g : ℕ → Name → Y) (k : ℕ) (xs : List Name) → length (of_each t f k xs) ≡ length (of_each t g k xs)
length_each t f g k [] = refl
length_each t f g k (x ∷ xs) = go (t x) (length_each t f g (suc k) xs)
  where
    go : (b : Bool) → length (of_each t f (suc k) xs) ≡ length (of_each t g (suc k) xs) → length (cond b (f k x ∷ of_each t f (suc k) xs) (of_each t f (suc k) xs)) ≡ length (cond b (g k x ∷ of_each t g (suc k) xs) (of_each t g (suc k) xs))
    go true e = ap suc e
    go false e = e

-- ---- the order of the columns
abbrev RankAtMost : ℕ → List Column → Type 0
RankAtMost k cs = All (λ c. rank c.role ≤ k) cs

abbrev RankFrom : ℕ → List Column → Type 0
RankFrom k cs = All (λ c. k ≤ rank c.role) cs

order_append : (k : ℕ) (cs ds : List Column) → InOrder cs → InOrder ds → RankAtMost k cs → RankFrom k ds → InOrder (cs ++ ds)
order_append k [] ds a b l m = b
order_append k (c ∷ cs) ds a b l m =
    let h : rank c.role ≤ k = All-head (λ c. rank c.role ≤ k) c cs l in (
      All-append (λ d. rank c.role ≤ rank d.role) cs ds a.0 (All-weaker (λ d. k ≤ rank d.role) (λ d. rank c.role ≤ rank d.role) (λ d e. omega arith) ds m),
      order_append k cs ds a.1 b (All-tail (λ c. rank c.role ≤ k) c cs l) m,
    )

order_same : (r : ColumnRole) (cs : List Column) → All (λ c. c.role ≡ r) cs → InOrder cs
order_same r [] h = tt
order_same r (c ∷ cs) h = (
  All-weaker (λ d. d.role ≡ r) (λ d. rank c.role ≤ rank d.role) (λ d e. let q : rank c.role ≡ rank d.role = ap rank (All-head (λ c. c.role ≡ r) c cs h ∙ sym e) in omega arith) cs (All-tail (λ c. c.role ≡ r) c cs h),
  order_same r cs (All-tail (λ c. c.role ≡ r) c cs h),
)

at_most_role : (r : ColumnRole) (k : ℕ) (cs : List Column) → rank r ≤ k → All (λ c. c.role ≡ r) cs → RankAtMost k cs
at_most_role r k cs l h = All-weaker (λ c. c.role ≡ r) (λ c. rank c.role ≤ k) (λ c e. rw e l) cs h

from_role : (r : ColumnRole) (k : ℕ) (cs : List Column) → k ≤ rank r → All (λ c. c.role ≡ r) cs → RankFrom k cs
from_role r k cs l h = All-weaker (λ c. c.role ≡ r) (λ c. k ≤ rank c.role) (λ c e. rw e l) cs h

at_most_more : (k m : ℕ) (cs : List Column) → k ≤ m → RankAtMost k cs → RankAtMost m cs
at_most_more k m cs l h = All-weaker (λ c. rank c.role ≤ k) (λ c. rank c.role ≤ m) (λ c e. omega arith) cs h

five_in_order : (s i b f r : List Column) → All (λ c. c.role ≡ State) s → All (λ c. c.role ≡ Input) i → All (λ c. c.role ≡ D) b → All (λ c. c.role ≡ D) f → All (λ c. c.role ≡ Z) r → InOrder (s ++ i ++ b ++ f ++ r)
five_in_order s i b f r hs hi hb hf hr =
    let si : InOrder (s ++ i) = order_append 0 s i (order_same State s hs) (order_same Input i hi) (at_most_role State 0 s (omega arith) hs) (from_role Input 0 i (omega arith) hi) in
    let si1 : RankAtMost 1 (s ++ i) = All-append (λ c. rank c.role ≤ 1) s i (at_most_role State 1 s (omega arith) hs) (at_most_role Input 1 i (omega arith) hi) in
    let sib : InOrder (s ++ i ++ b) = order_append 1 (s ++ i) b si (order_same D b hb) si1 (from_role D 1 b (omega arith) hb) in
    let sib2 : RankAtMost 2 (s ++ i ++ b) = All-append (λ c. rank c.role ≤ 2) (s ++ i) b (at_most_more 1 2 (s ++ i) (omega arith) si1) (at_most_role D 2 b (omega arith) hb) in
    let sibf : InOrder (s ++ i ++ b ++ f) = order_append 2 (s ++ i ++ b) f sib (order_same D f hf) sib2 (from_role D 2 f (omega arith) hf) in
    let sibf2 : RankAtMost 2 (s ++ i ++ b ++ f) = All-append (λ c. rank c.role ≤ 2) (s ++ i ++ b) f sib2 (at_most_role D 2 f (omega arith) hf) in
    order_append 2 (s ++ i ++ b ++ f) r sibf (order_same Z r hr) sibf2 (from_role Z 2 r (omega arith) hr)

-- ---- the number of states
states_append : (cs ds : List Column) → states (cs ++ ds) ≡ states cs + states ds
states_append [] ds = omega arith
states_append (c ∷ cs) ds = let r : states (cs ++ ds) ≡ states cs + states ds = states_append cs ds in omega arith

states_all : (cs : List Column) → All (λ c. c.role ≡ State) cs → states cs ≡ length cs
states_all [] h = refl
states_all (c ∷ cs) h =
    let e : one_if_state c.role ≡ 1 = ap one_if_state (All-head (λ c. c.role ≡ State) c cs h) in
    let r : states cs ≡ length cs = states_all cs (All-tail (λ c. c.role ≡ State) c cs h) in
    omega arith

states_none : (r : ColumnRole) (cs : List Column) → one_if_state r ≡ 0 → All (λ c. c.role ≡ r) cs → states cs ≡ 0
states_none r [] z h = refl
states_none r (c ∷ cs) z h =
    let e : one_if_state c.role ≡ 0 = ap one_if_state (All-head (λ c. c.role ≡ r) c cs h) ∙ z in
    let n : states cs ≡ 0 = states_none r cs z (All-tail (λ c. c.role ≡ r) c cs h) in
    omega arith

five_states : (s i b f r : List Column) → All (λ c. c.role ≡ State) s → All (λ c. c.role ≡ Input) i → All (λ c. c.role ≡ D) b → All (λ c. c.role ≡ D) f → All (λ c. c.role ≡ Z) r → states (s ++ i ++ b ++ f ++ r) ≡ length s
five_states s i b f r hs hi hb hf hr =
    let e1 : states (s ++ i ++ b ++ f ++ r) ≡ states (s ++ i ++ b ++ f) + states r = states_append (s ++ i ++ b ++ f) r in
    let e2 : states (s ++ i ++ b ++ f) ≡ states (s ++ i ++ b) + states f = states_append (s ++ i ++ b) f in
    let e3 : states (s ++ i ++ b) ≡ states (s ++ i) + states b = states_append (s ++ i) b in
    let e4 : states (s ++ i) ≡ states s + states i = states_append s i in
    let n1 : states s ≡ length s = states_all s hs in
    let n2 : states i ≡ 0 = states_none Input i refl hi in
    let n3 : states b ≡ 0 = states_none D b refl hb in
    let n4 : states f ≡ 0 = states_none D f refl hf in
    let n5 : states r ≡ 0 = states_none Z r refl hr in
    omega arith

-- ---- boxes
given_is_box : (d : Kind) (i : Interval) → IsBoxOf d i → IsBox (kind_of d) i
given_is_box source.Real i h = h
given_is_box source.Bool i h = h

state_box : (r : Role) (x : Name) → KeepsRole r x → is_state r ≡ true → IsBox (kind_of x.kind) x.bounds
state_box role.State x h e = given_is_box x.kind x.bounds h
state_box role.Input x h e = absurd (cc)
state_box role.Output x h e = absurd (cc)
state_box role.Parameter x h e = absurd (cc)
state_box role.Aux x h e = absurd (cc)

input_box : (r : Role) (x : Name) → KeepsRole r x → is_input r ≡ true → IsBox (kind_of x.kind) x.bounds
input_box role.State x h e = absurd (cc)
input_box role.Input x h e = given_is_box x.kind x.bounds h
input_box role.Output x h e = absurd (cc)
input_box role.Parameter x h e = absurd (cc)
input_box role.Aux x h e = absurd (cc)

box_interval : (k : Kind2) (i : Interval) → IsBox k i → IsInterval i
box_interval kind.Real i h = h
box_interval kind.Bool i h = rw (h.0, h.1) zero_one

low_kind : (k : Kind2) (i : Interval) → IsBox k i → IsOfKind k i.low
low_kind kind.Real i h = tt
low_kind kind.Bool i h = inl h.0

-- the low ends of boxes are in them
lows_in : (ds : List Boxed) → All (λ d. IsBox d.kind d.box) ds → AreIn ds (map (λ (d : Boxed). d.box.low) ds)
lows_in [] h = tt
lows_in (d ∷ ds) h =
    let e : IsBox d.kind d.box = All-head (λ d. IsBox d.kind d.box) d ds h in
    ((record { low = le_refl' d.box.low; high = box_interval d.kind d.box e }, low_kind d.kind d.box e), lows_in ds (All-tail (λ d. IsBox d.kind d.box) d ds h))

-- ---- forms
empty_form : (n : ℕ) → AreTermsOver n []
empty_form n = record { rise = tt; below = tt }

form_sound : (columns : ℕ) (ts : List ProgItem) (qs : List Part) (n : ℕ) → AreSound columns ts qs → AreTermsOver columns (form_for ts (forms_of qs) n).terms
form_sound columns [] [] n s = empty_form columns
form_sound columns [] (q ∷ qs) n s = absurd s
form_sound columns (t ∷ ts) [] n s = absurd s
form_sound columns (t ∷ ts) (q ∷ qs) n s = go (is_named n t.name) (form_sound columns ts qs n s.1)
  where
    go : (b : Bool) → AreTermsOver columns (form_for ts (forms_of qs) n).terms → AreTermsOver columns (cond b q.form (form_for ts (forms_of qs) n)).terms
    go true r = s.0.form
    go false r = r

rows_sound : (columns : ℕ) (ts : List ProgItem) (qs : List Part) → AreSound columns ts qs → All (λ r. AreTermsOver columns r.terms) (rows_of qs)
rows_sound columns [] [] s = All-nil (λ r. AreTermsOver columns r.terms)
rows_sound columns [] (q ∷ qs) s = absurd s
rows_sound columns (t ∷ ts) [] s = absurd s
rows_sound columns (t ∷ ts) (q ∷ qs) s = All-append (λ r. AreTermsOver columns r.terms) q.rows (rows_of qs) s.0.rows (rows_sound columns ts qs s.1)

labels_long : (columns : ℕ) (names : List Name) (ts : List ProgItem) (qs : List Part) → AreSound columns ts qs → length (labels_of names ts qs) ≡ length (rows_of qs)
labels_long columns names [] [] s = refl
labels_long columns names [] (q ∷ qs) s = absurd s
labels_long columns names (t ∷ ts) [] s = absurd s
labels_long columns names (t ∷ ts) (q ∷ qs) s =
    length-append (map (λ (r : Row). label_of names t) q.rows) (labels_of names ts qs)
    ∙ ap₂ ◌+◌ (length-map q.rows (λ (r : Row). label_of names t)) (labels_long columns names ts qs s.1)
    ∙ sym (length-append q.rows (rows_of qs))

no_equations : (columns : ℕ) (ts : List ProgItem) (qs : List Part) → AreSound columns ts qs → All (λ r. r.eq ≡ false) (rows_of qs)
no_equations columns [] [] s = All-nil (λ (r : Row). r.eq ≡ false)
no_equations columns [] (q ∷ qs) s = absurd s
no_equations columns (t ∷ ts) [] s = absurd s
no_equations columns (t ∷ ts) (q ∷ qs) s = All-append (λ (r : Row). r.eq ≡ false) q.rows (rows_of qs) s.0.no_equation (no_equations columns ts qs s.1)

-- ---- names
column_texts : (p : Program) (boxes : List Interval) (n : ℕ) → map (λ (c : Column). c.name) (columns_of p boxes n) ≡
    texts_of is_state_name 0 p.names ++ texts_of is_input_name 0 p.names ++ texts_of is_boolean_auxiliary 0 p.names ++ fresh_texts 1 n ++ texts_of is_real_auxiliary 0 p.names
column_texts p boxes n =
    let f : Column → List ℕ = λ (c : Column). c.name in
    let s : List Column = of_each is_state_name (given_column State) 0 p.names in
    let i : List Column = of_each is_input_name (given_column Input) 0 p.names in
    let b : List Column = of_each is_boolean_auxiliary bool_column 0 p.names in
    let h : List Column = map fresh_column (fresh_variables 1 n) in
    let r : List Column = of_each is_real_auxiliary (real_column boxes) 0 p.names in
    let es = each_map is_state_name (given_column State) f 0 p.names in
    let ei = each_map is_input_name (given_column Input) f 0 p.names in
    let eb = each_map is_boolean_auxiliary bool_column f 0 p.names in
    let eh : map f h ≡ fresh_texts 1 n = map-map f fresh_column (fresh_variables 1 n) in
    let er = each_map is_real_auxiliary (real_column boxes) f 0 p.names in
    let a1 : map f (s ++ i) ≡ texts_of is_state_name 0 p.names ++ texts_of is_input_name 0 p.names = map-append f s i ∙ ap₂ ◌++◌ es ei in
    let a2 : map f (s ++ i ++ b) ≡ texts_of is_state_name 0 p.names ++ texts_of is_input_name 0 p.names ++ texts_of is_boolean_auxiliary 0 p.names = map-append f (s ++ i) b ∙ ap₂ ◌++◌ a1 eb in
    let a3 : map f (s ++ i ++ b ++ h) ≡ texts_of is_state_name 0 p.names ++ texts_of is_input_name 0 p.names ++ texts_of is_boolean_auxiliary 0 p.names ++ fresh_texts 1 n = map-append f (s ++ i ++ b) h ∙ ap₂ ◌++◌ a2 eh in
    map-append f (s ++ i ++ b ++ h) r ∙ ap₂ ◌++◌ a3 er

real_variable : (r : Role) (d : Kind) → (is_auxiliary r && not (is_boolean d)) ≡ true → has_column r ≡ true
real_variable role.State d e = absurd (cc)
real_variable role.Input d e = absurd (cc)
real_variable role.Output d e = absurd (cc)
real_variable role.Parameter d e = absurd (cc)
real_variable role.Aux d e = refl

fresh_boxed : (k n : ℕ) → All (λ (v : Variable). IsBox v.kind unit) (fresh_variables k n)
fresh_boxed k zero = All-nil (λ (v : Variable). IsBox v.kind unit)
fresh_boxed k (suc n) = All-cons (λ (v : Variable). IsBox v.kind unit) (record { name = fresh_name k; kind = kind.Bool }) (fresh_variables (suc k) n) (refl, refl) (fresh_boxed (suc k) n)

-- ---- the whole
module _ (p : Program) (o : Order) (S : System) (g : IsProgram p) (q : IsOrder p o) (b : IsBuilt p (intervals p o) S) where
  state_boxes : All (λ (d : Boxed). IsBox d.kind d.box) (automaton_of p).states
  state_boxes = subst (All (λ (d : Boxed). IsBox d.kind d.box)) (each_kept is_state_name boxed_of 0 p.names)
      (all_each (λ (d : Boxed). IsBox d.kind d.box) is_state_name (λ n x. boxed_of x) 0 p.names (λ n j x e s h. state_box x.role x (stands_all (λ x. KeepsRole x.role x) p.names j x g.roles s) h))

  input_boxes : All (λ (d : Boxed). IsBox d.kind d.box) (automaton_of p).inputs
  input_boxes = subst (All (λ (d : Boxed). IsBox d.kind d.box)) (each_kept is_input_name boxed_of 0 p.names)
      (all_each (λ (d : Boxed). IsBox d.kind d.box) is_input_name (λ n x. boxed_of x) 0 p.names (λ n j x e s h. input_box x.role x (stands_all (λ x. KeepsRole x.role x) p.names j x g.roles s) h))

  -- the interval of a real auxiliary has a number in it
  real_box : (n j : ℕ) (x : Name) → n ≡ 0 + j → Stands p.names j x → is_real_auxiliary x ≡ true → IsInterval (box_at (intervals p o) n)
  real_box n j x e s h =
      let xs : List Number = map (λ (d : Boxed). d.box.low) (automaton_of p).states in
      let us : List Number = map (λ (d : Boxed). d.box.low) (automaton_of p).inputs in
      let ix : AreIn (automaton_of p).states xs = lows_in (automaton_of p).states state_boxes in
      let iu : AreIn (automaton_of p).inputs us = lows_in (automaton_of p).inputs input_boxes in
      let w = valued p o S g q b xs us ix iu in
      let i : Within (box_at (intervals p o) n) (w n) =
      within p o S g q b w (takes p o S g q b xs us ix iu w (is_valued p o S g q b xs us ix iu)) n (subst (λ (i : ℕ). NameAt p.names i IsVariable) (omega arith) (stands_as IsVariable p.names j x s (real_variable x.role x.kind h))) in
      le_trans (box_at (intervals p o) n).low (w n) (box_at (intervals p o) n).high i.low i.high

  all_columns : (P : Column → Type 0) → All P (of_each is_state_name (given_column State) 0 p.names) → All P (of_each is_input_name (given_column Input) 0 p.names) → All P (of_each is_boolean_auxiliary bool_column 0 p.names) →
      All P (map fresh_column (fresh_variables 1 (count_of b.parts))) → All P (of_each is_real_auxiliary (real_column (intervals p o)) 0 p.names) → All P S.columns
  all_columns P s i c f r =
      let si = All-append P (of_each is_state_name (given_column State) 0 p.names) (of_each is_input_name (given_column Input) 0 p.names) s i in
      let sic = All-append P (of_each is_state_name (given_column State) 0 p.names ++ of_each is_input_name (given_column Input) 0 p.names) (of_each is_boolean_auxiliary bool_column 0 p.names) si c in
      let sicf = All-append P (of_each is_state_name (given_column State) 0 p.names ++ of_each is_input_name (given_column Input) 0 p.names ++ of_each is_boolean_auxiliary bool_column 0 p.names) (map fresh_column (fresh_variables 1 (count_of b.parts))) sic f in
      subst (All P) (sym b.columns) (All-append P (of_each is_state_name (given_column State) 0 p.names ++ of_each is_input_name (given_column Input) 0 p.names ++ of_each is_boolean_auxiliary bool_column 0 p.names ++ map fresh_column (fresh_variables 1 (count_of b.parts)))
      (of_each is_real_auxiliary (real_column (intervals p o)) 0 p.names) sicf r)

  columns_boxed : All (λ c. IsBox c.kind c.bounds) S.columns
  columns_boxed = all_columns (λ c. IsBox c.kind c.bounds)
      (all_each (λ c. IsBox c.kind c.bounds) is_state_name (given_column State) 0 p.names (λ n j x e s h. state_box x.role x (stands_all (λ x. KeepsRole x.role x) p.names j x g.roles s) h))
      (all_each (λ c. IsBox c.kind c.bounds) is_input_name (given_column Input) 0 p.names (λ n j x e s h. input_box x.role x (stands_all (λ x. KeepsRole x.role x) p.names j x g.roles s) h))
      (all_each (λ c. IsBox c.kind c.bounds) is_boolean_auxiliary bool_column 0 p.names (λ n j x e s h. (refl, refl)))
      (All-map (λ (c : Column). IsBox c.kind c.bounds) fresh_column (fresh_variables 1 (count_of b.parts)) (fresh_boxed 1 (count_of b.parts)))
      (all_each (λ c. IsBox c.kind c.bounds) is_real_auxiliary (real_column (intervals p o)) 0 p.names (λ n j x e s h. real_box n j x e s h))

  abbrev HaveRole : ColumnRole → List Column → Type 0
  HaveRole r cs = All (λ c. c.role ≡ r) cs

  roles_state : HaveRole State (of_each is_state_name (given_column State) 0 p.names)
  roles_state = all_each (λ c. c.role ≡ State) is_state_name (given_column State) 0 p.names (λ n j x e s h. refl)

  roles_input : HaveRole Input (of_each is_input_name (given_column Input) 0 p.names)
  roles_input = all_each (λ c. c.role ≡ Input) is_input_name (given_column Input) 0 p.names (λ n j x e s h. refl)

  roles_bool : HaveRole D (of_each is_boolean_auxiliary bool_column 0 p.names)
  roles_bool = all_each (λ c. c.role ≡ D) is_boolean_auxiliary bool_column 0 p.names (λ n j x e s h. refl)

  roles_fresh : HaveRole D (map fresh_column (fresh_variables 1 (count_of b.parts)))
  roles_fresh = All-map (λ c. c.role ≡ D) fresh_column (fresh_variables 1 (count_of b.parts)) (λ i v l. refl)

  roles_real : HaveRole Z (of_each is_real_auxiliary (real_column (intervals p o)) 0 p.names)
  roles_real = all_each (λ c. c.role ≡ Z) is_real_auxiliary (real_column (intervals p o)) 0 p.names (λ n j x e s h. refl)

  next_count : length S.next ≡ states S.columns
  next_count = ap length b.next ∙ length-map (places is_state p) (form_for p.items (forms_of b.parts))
      ∙ ap length (places_each is_state 0 p.names) ∙ length_each is_state_name own_place (given_column State) 0 p.names
      ∙ sym (five_states _ _ _ _ _ roles_state roles_input roles_bool roles_fresh roles_real) ∙ ap states (sym b.columns)

  names_are : 1 + count_of b.parts ≤ 2 ^ 64 → Differ (names S)
  names_are l =
      let c : map (λ (c : Column). c.name) S.columns ≡ texts_of is_state_name 0 p.names ++ texts_of is_input_name 0 p.names ++ texts_of is_boolean_auxiliary 0 p.names ++ fresh_texts 1 (count_of b.parts) ++ texts_of is_real_auxiliary 0 p.names =
      ap (map (λ (c : Column). c.name)) b.columns ∙ column_texts p (intervals p o) (count_of b.parts) in
      let y : map (λ (o : Output). o.name) S.outputs ≡ texts_of is_output_name 0 p.names =
      ap (map (λ (o : Output). o.name)) b.outputs ∙ each_map is_output_name (output_with p.items (forms_of b.parts)) (λ (o : Output). o.name) 0 p.names in
      subst Differ (sym (ap₂ ◌++◌ c y)) (names_differ p.names (count_of b.parts) l g.texts g.spelled)

  pub lawful_system : AreSound (length S.columns) p.items b.parts → S.weight ≡ p.weight → p.weight < 2 ^ 32 → IsSystem S
  lawful_system s w l =
      let f : count_of b.parts ≤ items_weight p.items = few_fresh (length S.columns) p.items b.parts s in
      let e : p.weight ≡ names_weight p.names + items_weight p.items = g.weight in
      record {
        order = subst InOrder (sym b.columns) (five_in_order _ _ _ _ _ roles_state roles_input roles_bool roles_fresh roles_real);
        boxes = columns_boxed;
        differ = names_are (omega arith);
        each = next_count;
        next = subst (All (λ f. AreTermsOver (length S.columns) f.terms)) (sym b.next) (All-map (λ (f : Affine). AreTermsOver (length S.columns) f.terms) (form_for p.items (forms_of b.parts)) (places is_state p) (λ i n k. form_sound (length S.columns) p.items b.parts (get_or (places is_state p) i n) s));
        outputs = subst (All (λ (o : Output). AreTermsOver (length S.columns) o.form.terms)) (sym b.outputs) (all_each (λ (o : Output). AreTermsOver (length S.columns) o.form.terms) is_output_name (output_with p.items (forms_of b.parts)) 0 p.names (λ n j x e k h. form_sound (length S.columns) p.items b.parts n s));
        rows = subst (All (λ r. AreTermsOver (length S.columns) r.terms)) (sym b.rows) (rows_sound (length S.columns) p.items b.parts s);
        labelled = ap length b.labels ∙ labels_long (length S.columns) p.names p.items b.parts s ∙ sym (ap length b.rows);
        no_equation = subst (All (λ (r : Row). r.eq ≡ false)) (sym b.rows) (no_equations (length S.columns) p.items b.parts s);
        few_columns = few_all;
        few_rows = rw (ap length b.rows, w) (few_rows p (length S.columns) b.parts g s);
      }
    where
      few_all : length S.columns ≤ S.weight
      few_all =
          let c : length S.columns ≡ length (front p) + (count_of b.parts + length (behind p)) = columns_long p o S g q b in
          let n : length (front p) + length (behind p) ≡ names_weight p.names = columns_count p in
          let f : count_of b.parts ≤ items_weight p.items = few_fresh (length S.columns) p.items b.parts s in
          let e : p.weight ≡ names_weight p.names + items_weight p.items = g.weight in
          omega arith
