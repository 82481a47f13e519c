-- A stacked problem is a problem: its boxes, its rows, its branch columns.
use Rattle.std.proofs.Common.{◌≡◌, ℕ, zero, suc, ◌+◌, ◌*◌, ◌<◌, ◌≤◌, List, [], ◌∷◌, ◌++◌, length, map, drop, Bool, true, false, cond, ◌&&◌, refl, sym, ◌∙◌, ap, ap₂, subst, arith, append_assoc}
use Rattle.std.proofs.Math.Nat.{suc-mul, mul-le-mul_right}
use Rattle.std.proofs.Math.Seq.{drop-append_seam}
use Rattle.std.proofs.lemmas.List.{length-append, length-map}
use Rattle.std.proofs.lemmas.List.Elements.{recursion_from_All, All-from_recursion}
use Rattle.std.specs.List.{AllByRecursion}
use Rattle.hys_number.specs.Number.{Number}
use Rattle.hys_number.specs.Ops.{whole, neg}
use Rattle.hys_number.proofs.Inverse.{zero_not_one}
use Rattle.hys_number.proofs.Order.{le_refl'}
use Rattle.hys_number.proofs.Ring.{by_ring, minus}
use Rattle.hys_number.proofs.Ring.{v as unknown, k as numeral}
use Rattle.hys_lin.specs.Sums.{AreTerms, EachColumn, IsInterval, IsUnit}
use Rattle.hys_lin.specs.Over.{AreTermsOver}
use Rattle.hys_lin.specs.Ranges.{box_at}
use Rattle.hys_lin.specs.Problem.{Rise, IsBranch, IsProblem}
use Rattle.hys_lin.specs.declared.form.Term.{Term}
use Rattle.hys_lin.specs.declared.form.Affine.{Affine}
use Rattle.hys_lin.specs.declared.form.Row.{Row}
use Rattle.hys_lin.specs.declared.form.Interval.{Interval}
use Rattle.hys_lin.specs.declared.problem.Problem.{Problem}
use Rattle.hys_relax.proofs.Nodes.{zero_one}
use Rattle.hys_sys.specs.System.{IsSystem, IsBox, InOrder, rank, states, one_if_state}
use Rattle.hys_sys.specs.declared.system.ColumnRole.{ColumnRole}
use Rattle.hys_sys.specs.declared.system.ColumnRole.TheVariants.{State, Input, D, Z}
use Rattle.hys_sys.specs.declared.system.Kind2.{Kind2}
use Rattle.hys_sys.specs.declared.system.Kind2.TheVariants as kind
use Rattle.hys_sys.specs.declared.system.Column.{Column}
use Rattle.hys_sys.specs.declared.system.System.{System}
use Rattle.hys_stack.specs.declared.request.Request.{Request}
use Rattle.hys_stack.proofs.Chains.{long_step}
use Rattle.hys_stack.specs.Requests.{state_columns, is_state, AreStarts, IsRequestOf}
use Rattle.hys_stack.specs.Stacking.{each_step, offset, bounds_of, only, step_boxes, stacked_boxes, moved, opposite, moved_row, equations, step_rows, stacked_rows, is_bool, is_branch_role, branch_columns, step_branch, stacked_branch, IsStacked}

-- ---- states come first
none_states : (c : Column) (cs : List Column) → is_state c.role ≡ false → AllByRecursion (λ d. rank c.role ≤ rank d.role) cs → AllByRecursion (λ d. is_state d.role ≡ false) cs
none_states c [] e h = tt
none_states c (d ∷ cs) e h = (go c.role d.role e h.0, none_states c cs e h.1)
  where
    go : (a b : ColumnRole) → is_state a ≡ false → rank a ≤ rank b → is_state b ≡ false
    go State b e l = absurd (let n : true ≡ false = e in cc)
    go a Input e l = refl
    go a D e l = refl
    go a Z e l = refl
    go Input State e l = absurd (omega (arith, l))
    go D State e l = absurd (omega (arith, l))
    go Z State e l = absurd (omega (arith, l))

no_state_columns : (cs : List Column) → AllByRecursion (λ d. is_state d.role ≡ false) cs → state_columns cs ≡ []
no_state_columns [] h = refl
no_state_columns (c ∷ cs) h = rw h.0 (no_state_columns cs h.1)

pub states_first : (cs : List Column) → InOrder cs → (os : List Column) × (cs ≡ state_columns cs ++ os) × AllByRecursion (λ d. is_state d.role ≡ false) os
states_first [] h = ([], refl, tt)
states_first (c ∷ cs) h = go (is_state c.role) refl (states_first cs h.1)
  where
    go : (b : Bool) → is_state c.role ≡ b → ((os : List Column) × (cs ≡ state_columns cs ++ os) × AllByRecursion (λ d. is_state d.role ≡ false) os) →
        (os : List Column) × ((c ∷ cs) ≡ cond b (c ∷ state_columns cs) (state_columns cs) ++ os) × AllByRecursion (λ d. is_state d.role ≡ false) os
    go true e (os, q, n) = (os, ap (λ (xs : List Column). c ∷ xs) q, n)
    go false e (os, q, n) =
        let none : AllByRecursion (λ d. is_state d.role ≡ false) cs = none_states c cs e (recursion_from_All (λ d. rank c.role ≤ rank d.role) cs h.0) in
        (c ∷ cs, ap (λ (xs : List Column). xs ++ c ∷ cs) (sym (no_state_columns cs none)), (e, none))

pub states_counted : (cs : List Column) → states cs ≡ length (state_columns cs)
states_counted [] = refl
states_counted (c ∷ cs) = go c.role (states_counted cs)
  where
    go : (role : ColumnRole) → states cs ≡ length (state_columns cs) → one_if_state role + states cs ≡ length (cond (is_state role) (c ∷ state_columns cs) (state_columns cs))
    go State e = omega (arith, e)
    go Input e = omega (arith, e)
    go D e = omega (arith, e)
    go Z e = omega (arith, e)

pub starts_long : (cs : List Column) (xs : List Number) → AreStarts cs xs → length xs ≡ length cs
starts_long [] [] h = refl
starts_long [] (a ∷ as') h = absurd h
starts_long (c ∷ cs) [] h = absurd h
starts_long (c ∷ cs) (a ∷ as') h = ap suc (starts_long cs as' h.1)

-- ---- boxes
units_ordered : (i : Interval) → IsUnit i → IsInterval i
units_ordered i h = let both : (i.low ≡ whole 0) × (i.high ≡ whole 1) = h in rw (both.0, both.1) zero_one

box_ordered : (K : Kind2) (i : Interval) → IsBox K i → IsInterval i
box_ordered kind.Real i h = h
box_ordered kind.Bool i h = units_ordered i h

-- what is said of the columns of a system
abbrev pub HaveBoxes : List Column → Type 0
HaveBoxes = AllByRecursion (λ c. IsBox c.kind c.bounds)

bounds_ordered : (cs : List Column) → HaveBoxes cs → AllByRecursion IsInterval (bounds_of cs)
bounds_ordered [] h = tt
bounds_ordered (c ∷ cs) h = (box_ordered c.kind c.bounds h.0, bounds_ordered cs h.1)

onlys_ordered : (xs : List Number) → AllByRecursion IsInterval (map only xs)
onlys_ordered [] = tt
onlys_ordered (x ∷ xs) = (le_refl' x, onlys_ordered xs)

pub every_append : {X : Type 0} (P : X → Type 0) (xs ys : List X) → AllByRecursion P xs → AllByRecursion P ys → AllByRecursion P (xs ++ ys)
every_append P [] ys h k = k
every_append P (x ∷ xs) ys h k = (h.0, every_append P xs ys h.1 k)

pub every_drop : {X : Type 0} (P : X → Type 0) (n : ℕ) (xs : List X) → AllByRecursion P xs → AllByRecursion P (drop n xs)
every_drop P zero xs h = h
every_drop P (suc n) [] h = tt
every_drop P (suc n) (x ∷ xs) h = every_drop P n xs h.1

every_state : (P : Column → Type 0) (cs : List Column) → AllByRecursion P cs → AllByRecursion P (state_columns cs)
every_state P [] h = tt
every_state P (c ∷ cs) h = go (is_state c.role) (every_state P cs h.1)
  where
    go : (b : Bool) → AllByRecursion P (state_columns cs) → AllByRecursion P (cond b (c ∷ state_columns cs) (state_columns cs))
    go true k = (h.0, k)
    go false k = k

pub each_every : {X : Type 0} (P : X → Type 0) (f : ℕ → List X) (t n : ℕ) → ((s : ℕ) → t ≤ s → s < t + n → AllByRecursion P (f s)) → AllByRecursion P (each_step t n f)
each_every P f t zero h = tt
each_every P f t (suc n) h = every_append P (f t) (each_step (suc t) n f) (h t (omega arith) (omega arith)) (each_every P f (suc t) n (λ s a b. h s (omega (arith, a)) (omega (arith, b))))

step_ordered : (S : System) (r : Request) → HaveBoxes S.columns → (t : ℕ) → AllByRecursion IsInterval (step_boxes S r t)
step_ordered S r h zero = every_append IsInterval (map only r.start) (bounds_of (drop (length r.start) S.columns)) (onlys_ordered r.start)
    (bounds_ordered (drop (length r.start) S.columns) (every_drop (λ (c : Column). IsBox c.kind c.bounds) (length r.start) S.columns h))
step_ordered S r h (suc t) = bounds_ordered S.columns h

pub boxes_ordered : (S : System) (r : Request) → HaveBoxes S.columns → AllByRecursion IsInterval (stacked_boxes S r)
boxes_ordered S r h = every_append IsInterval (each_step 0 r.horizon (step_boxes S r)) (bounds_of (state_columns S.columns))
    (each_every IsInterval (step_boxes S r) 0 r.horizon (λ s a b. step_ordered S r h s))
    (bounds_ordered (state_columns S.columns) (every_state (λ (c : Column). IsBox c.kind c.bounds) S.columns h))

-- ---- lengths
pub each_long : {X : Type 0} (f : ℕ → List X) (m t n : ℕ) → ((s : ℕ) → length (f s) ≡ m) → length (each_step t n f) ≡ n * m
each_long f m t zero h = omega arith
each_long f m t (suc n) h = length-append (f t) (each_step (suc t) n f) ∙ ap₂ ◌+◌ (h t) (each_long f m (suc t) n h) ∙ omega (arith, suc-mul n m)

-- ---- rows
moved_above : (j n : ℕ) (ts : List Term) → EachColumn (λ c. j < c) ts → EachColumn (λ c. n + j < c) (moved n ts)
moved_above j n [] h = tt
moved_above j n (t ∷ ts) h = (omega (arith, h.0), moved_above j n ts h.1)

moved_rise : (n : ℕ) (ts : List Term) → AreTerms ts → AreTerms (moved n ts)
moved_rise n [] h = tt
moved_rise n (t ∷ ts) h = (h.0, moved_above t.column n ts h.1, moved_rise n ts h.2)

moved_below : (m n l : ℕ) (ts : List Term) → n + m ≤ l → EachColumn (λ c. c < m) ts → EachColumn (λ c. c < l) (moved n ts)
moved_below m n l [] e h = tt
moved_below m n l (t ∷ ts) e h = (omega (arith, e, h.0), moved_below m n l ts e h.1)

opposite_each : (P : ℕ → Type 0) (ts : List Term) → EachColumn P ts → EachColumn P (opposite ts)
opposite_each P [] h = tt
opposite_each P (t ∷ ts) h = (h.0, opposite_each P ts h.1)

opposite_rise : (ts : List Term) → AreTerms ts → AreTerms (opposite ts)
opposite_rise [] h = tt
opposite_rise (t ∷ ts) h = (λ e. h.0 (back t.factor ∙ ap neg e ∙ by_ring [] (minus (numeral 0)) (numeral 0) refl), opposite_each (λ c. t.column < c) ts h.1, opposite_rise ts h.2)
  where
    back : (a : Number) → a ≡ neg (neg a)
    back a = by_ring (a ∷ []) (unknown 0) (minus (minus (unknown 0))) refl

each_append : (P : ℕ → Type 0) (ts us : List Term) → EachColumn P ts → EachColumn P us → EachColumn P (ts ++ us)
each_append P [] us h m = m
each_append P (t ∷ ts) us h m = (h.0, each_append P ts us h.1 m)

rise_behind : (ts : List Term) (n : ℕ) (a : Number) → ¬ (a ≡ whole 0) → AreTerms ts → EachColumn (λ c. c < n) ts → AreTerms (ts ++ record { column = n; factor = a } ∷ [])
rise_behind [] n a d h l = (d, tt, tt)
rise_behind (t ∷ ts) n a d h l = (h.0, each_append (λ c. t.column < c) ts (record { column = n; factor = a } ∷ []) h.1 (l.0, tt), rise_behind ts n a d h.2 l.1)

abbrev pub Over : ℕ → Row → Type 0
Over l r = AreTermsOver l r.terms

moved_over : (m n l : ℕ) (rs : List Row) → n + m ≤ l → AllByRecursion (Over m) rs → AllByRecursion (Over l) (map (moved_row n) rs)
moved_over m n l [] e h = tt
moved_over m n l (r ∷ rs) e h = (record { rise = moved_rise n r.terms h.0.rise; below = moved_below m n l r.terms e h.0.below }, moved_over m n l rs e h.1)

equations_over : (m n j l : ℕ) (fs : List Affine) → n + m ≤ j → j + length fs ≤ l → AllByRecursion (λ f. AreTermsOver m f.terms) fs → AllByRecursion (Over l) (equations n j fs)
equations_over m n j l [] a b h = tt
equations_over m n j l (f ∷ fs) a b h = (
  record {
    rise = rise_behind (moved n (opposite f.terms)) j (whole 1) one_isnt (moved_rise n (opposite f.terms) (opposite_rise f.terms h.0.rise)) (moved_below m n j (opposite f.terms) a (opposite_each (λ c. c < m) f.terms h.0.below));
    below = each_append (λ c. c < l) (moved n (opposite f.terms)) (record { column = j; factor = whole 1 } ∷ [])
        (moved_below m n l (opposite f.terms) (omega (arith, a, b)) (opposite_each (λ c. c < m) f.terms h.0.below)) (omega (arith, b), tt);
  },
  equations_over m n (suc j) l fs (omega (arith, a)) (omega (arith, b)) h.1,
)
  where
    one_isnt : ¬ (whole 1 ≡ whole 0)
    one_isnt e = zero_not_one (sym e)

pub rows_over : (S : System) (n l : ℕ) → AllByRecursion (Over (length S.columns)) S.rows → AllByRecursion (λ f. AreTermsOver (length S.columns) f.terms) S.next →
    n * length S.columns + length S.next ≤ l → AllByRecursion (Over l) (stacked_rows S n)
rows_over S n l h g e = each_every (Over l) (step_rows S) 0 n (λ t a b.
    let m : suc t * length S.columns ≤ n * length S.columns = mul-le-mul_right (length S.columns) (let q : suc t ≤ n = omega (arith, b) in q) in
    every_append (Over l) (map (moved_row (offset S t)) S.rows) (equations (offset S t) (offset S (suc t)) S.next)
    (moved_over (length S.columns) (offset S t) l S.rows (omega (arith, e, m, suc-mul t (length S.columns))) h)
    (equations_over (length S.columns) (offset S t) (offset S (suc t)) l S.next (omega (arith, suc-mul t (length S.columns))) (omega (arith, e, m)) g))

-- ---- branch columns
branch_from : (n : ℕ) (cs : List Column) → AllByRecursion (λ c. n ≤ c) (branch_columns n cs)
branch_from n cs = weaker n n cs (omega arith)
  where
    weaker : (m n : ℕ) (cs : List Column) → m ≤ n → AllByRecursion (λ c. m ≤ c) (branch_columns n cs)
    weaker m n [] l = tt
    weaker m n (c ∷ cs) l = go (is_bool c.kind && is_branch_role c.role) (weaker m (suc n) cs (omega (arith, l)))
      where
        go : (b : Bool) → AllByRecursion (λ c. m ≤ c) (branch_columns (suc n) cs) → AllByRecursion (λ c. m ≤ c) (cond b (n ∷ branch_columns (suc n) cs) (branch_columns (suc n) cs))
        go true h = (l, h)
        go false h = h

branch_below : (m n : ℕ) (cs : List Column) → n + length cs ≤ m → AllByRecursion (λ c. c < m) (branch_columns n cs)
branch_below m n [] l = tt
branch_below m n (c ∷ cs) l = go (is_bool c.kind && is_branch_role c.role) (branch_below m (suc n) cs (omega (arith, l)))
  where
    go : (b : Bool) → AllByRecursion (λ c. c < m) (branch_columns (suc n) cs) → AllByRecursion (λ c. c < m) (cond b (n ∷ branch_columns (suc n) cs) (branch_columns (suc n) cs))
    go true h = (omega (arith, l), h)
    go false h = h

pub every_weaker : (P Q : ℕ → Type 0) (xs : List ℕ) → ((c : ℕ) → P c → Q c) → AllByRecursion P xs → AllByRecursion Q xs
every_weaker P Q [] f h = tt
every_weaker P Q (x ∷ xs) f h = (f x h.0, every_weaker P Q xs f h.1)

branch_rise : (n : ℕ) (cs : List Column) → Rise (branch_columns n cs)
branch_rise n [] = tt
branch_rise n (c ∷ cs) = go (is_bool c.kind && is_branch_role c.role) (branch_rise (suc n) cs)
  where
    go : (b : Bool) → Rise (branch_columns (suc n) cs) → Rise (cond b (n ∷ branch_columns (suc n) cs) (branch_columns (suc n) cs))
    go true h = (All-from_recursion (λ d. n < d) (branch_columns (suc n) cs) (every_weaker (λ d. suc n ≤ d) (λ d. n < d) (branch_columns (suc n) cs) (λ d l. omega (arith, l)) (branch_from (suc n) cs)), h)
    go false h = h

rise_append : (m : ℕ) (xs ys : List ℕ) → Rise xs → Rise ys → AllByRecursion (λ c. c < m) xs → AllByRecursion (λ c. m ≤ c) ys → Rise (xs ++ ys)
rise_append m [] ys h k a b = k
rise_append m (x ∷ xs) ys h k a b = (
  All-from_recursion (λ d. x < d) (xs ++ ys) (every_append (λ d. x < d) xs ys (recursion_from_All (λ d. x < d) xs h.0) (every_weaker (λ d. m ≤ d) (λ d. x < d) ys (λ d l. omega (arith, l, a.0)) b)),
  rise_append m xs ys h.1 k a.1 b,
)

steps_from : (S : System) (n t m : ℕ) → m ≤ offset S t → AllByRecursion (λ c. m ≤ c) (each_step t n (step_branch S))
steps_from S zero t m l = tt
steps_from S (suc n) t m l = every_append (λ c. m ≤ c) (step_branch S t) (each_step (suc t) n (step_branch S))
    (every_weaker (λ c. offset S t ≤ c) (λ c. m ≤ c) (step_branch S t) (λ c a. omega (arith, a, l)) (branch_from (offset S t) S.columns))
    (steps_from S n (suc t) m (omega (arith, l, suc-mul t (length S.columns))))

steps_rise : (S : System) (n t : ℕ) → Rise (each_step t n (step_branch S))
steps_rise S zero t = tt
steps_rise S (suc n) t = rise_append (offset S (suc t)) (step_branch S t) (each_step (suc t) n (step_branch S)) (branch_rise (offset S t) S.columns) (steps_rise S n (suc t))
    (branch_below (offset S (suc t)) (offset S t) S.columns (omega (arith, suc-mul t (length S.columns)))) (steps_from S n (suc t) (offset S (suc t)) (omega arith))

-- the box of each branch column is 0 to 1
abbrev pub UnitWhere : Bool → Interval → Type 0
UnitWhere true i = IsUnit i
UnitWhere false i = Unit {0}

abbrev pub AreUnits : List Column → List Interval → Type 0
AreUnits [] is = Unit {0}
AreUnits (c ∷ cs) [] = ⊥
AreUnits (c ∷ cs) (i ∷ is) = UnitWhere (is_bool c.kind && is_branch_role c.role) i × AreUnits cs is

units_at : (n : ℕ) (cs : List Column) (is : List Interval) (f : ℕ → Interval) → AreUnits cs is → ((i : ℕ) → i < length is → f (n + i) ≡ box_at is i) → AllByRecursion (λ c. IsUnit (f c)) (branch_columns n cs)
units_at n [] is f u h = tt
units_at n (c ∷ cs) [] f u h = absurd u
units_at n (c ∷ cs) (i ∷ is) f u h = go (is_bool c.kind && is_branch_role c.role) u.0
    (units_at (suc n) cs is f u.1 (λ j l. let q : suc n + j ≡ n + suc j = omega arith in ap f q ∙ h (suc j) (omega (arith, l))))
  where
    here : f n ≡ i
    here = let q : n ≡ n + 0 = omega arith in ap f q ∙ h 0 (omega arith)

    go : (b : Bool) → UnitWhere b i → AllByRecursion (λ c. IsUnit (f c)) (branch_columns (suc n) cs) → AllByRecursion (λ c. IsUnit (f c)) (cond b (n ∷ branch_columns (suc n) cs) (branch_columns (suc n) cs))
    go true w m = (subst IsUnit (sym here) w, m)
    go false w m = m

unit_bounds : (cs : List Column) → HaveBoxes cs → AreUnits cs (bounds_of cs)
unit_bounds [] h = tt
unit_bounds (c ∷ cs) h = (go c.kind (is_branch_role c.role) h.0, unit_bounds cs h.1)
  where
    go : (K : Kind2) (b : Bool) → IsBox K c.bounds → UnitWhere (is_bool K && b) c.bounds
    go kind.Real b h = tt
    go kind.Bool true h = h
    go kind.Bool false h = tt

-- states are no branch columns, so their boxes at the first step are free
unit_front : (cs os : List Column) (is js : List Interval) → length is ≡ length cs → AllByRecursion (λ c. is_state c.role ≡ true) cs → AreUnits os js → AreUnits (cs ++ os) (is ++ js)
unit_front [] os [] js l h u = u
unit_front [] os (i ∷ is) js l h u = absurd (omega (arith, l))
unit_front (c ∷ cs) os [] js l h u = absurd (omega (arith, l))
unit_front (c ∷ cs) os (i ∷ is) js l h u = (go c.kind c.role h.0, unit_front cs os is js (omega (arith, l)) h.1 u)
  where
    go : (K : Kind2) (role : ColumnRole) → is_state role ≡ true → UnitWhere (is_bool K && is_branch_role role) i
    go kind.Real role e = tt
    go kind.Bool State e = tt
    go kind.Bool Input e = absurd (let q : false ≡ true = e in cc)
    go kind.Bool D e = absurd (let q : false ≡ true = e in cc)
    go kind.Bool Z e = absurd (let q : false ≡ true = e in cc)

states_are_states : (cs : List Column) → AllByRecursion (λ c. is_state c.role ≡ true) (state_columns cs)
states_are_states [] = tt
states_are_states (c ∷ cs) = go (is_state c.role) refl (states_are_states cs)
  where
    go : (b : Bool) → is_state c.role ≡ b → AllByRecursion (λ c. is_state c.role ≡ true) (state_columns cs) → AllByRecursion (λ c. is_state c.role ≡ true) (cond b (c ∷ state_columns cs) (state_columns cs))
    go true e h = (e, h)
    go false e h = h

every_part : {X : Type 0} (P : X → Type 0) (xs ys : List X) → AllByRecursion P (xs ++ ys) → AllByRecursion P ys
every_part P [] ys h = h
every_part P (x ∷ xs) ys h = every_part P xs ys h.1

step_units : (S : System) (r : Request) → InOrder S.columns → HaveBoxes S.columns → AreStarts (state_columns S.columns) r.start → (t : ℕ) → AreUnits S.columns (step_boxes S r t)
step_units S r o h s zero =
    let split = states_first S.columns o in
    let long : length r.start ≡ length (state_columns S.columns) = starts_long (state_columns S.columns) r.start s in
    let behind : drop (length r.start) S.columns ≡ split.0 = ap (drop (length r.start)) split.1 ∙ ap (λ n. drop n (state_columns S.columns ++ split.0)) long ∙ drop-append_seam (state_columns S.columns) split.0 in
    let others : HaveBoxes split.0 = every_part (λ (c : Column). IsBox c.kind c.bounds) (state_columns S.columns) split.0 (subst HaveBoxes split.1 h) in
    subst (λ os. AreUnits S.columns (map only r.start ++ bounds_of os)) (sym behind)
    (subst (λ cs. AreUnits cs (map only r.start ++ bounds_of split.0)) (sym split.1)
    (unit_front (state_columns S.columns) split.0 (map only r.start) (bounds_of split.0) (length-map r.start only ∙ long) (states_are_states S.columns) (unit_bounds split.0 others)))
step_units S r o h s (suc t) = unit_bounds S.columns h

box_front : (is js : List Interval) (i : ℕ) → i < length is → box_at (is ++ js) i ≡ box_at is i
box_front [] js i l = absurd (omega arith)
box_front (x ∷ is) js zero l = refl
box_front (x ∷ is) js (suc i) l = box_front is js i (omega (arith, l))

box_behind : (is js : List Interval) (i n : ℕ) → n ≡ length is + i → box_at (is ++ js) n ≡ box_at js i
box_behind [] js i n e = let q : n ≡ i = omega (arith, e) in ap (box_at js) q
box_behind (x ∷ is) js i zero e = absurd (omega (arith, e))
box_behind (x ∷ is) js i (suc n) e = box_behind is js i n (omega (arith, e))

steps_units : (S : System) (r : Request) (last : List Interval) (n t : ℕ) (f : ℕ → Interval) → ((s : ℕ) → length (step_boxes S r s) ≡ length S.columns) →
    ((s : ℕ) → AreUnits S.columns (step_boxes S r s)) → ((i : ℕ) → f (offset S t + i) ≡ box_at (each_step t n (step_boxes S r) ++ last) i) →
    AllByRecursion (λ c. IsUnit (f c)) (each_step t n (step_branch S))
steps_units S r last zero t f l u h = tt
steps_units S r last (suc n) t f l u h = every_append (λ c. IsUnit (f c)) (step_branch S t) (each_step (suc t) n (step_branch S))
    (units_at (offset S t) S.columns (step_boxes S r t) f (u t) (λ i m. grouped i ∙ box_front (step_boxes S r t) rest i m))
    (steps_units S r last n (suc t) f l u (λ i. let q : offset S (suc t) + i ≡ offset S t + (length (step_boxes S r t) + i) = omega (arith, suc-mul t (length S.columns), l t) in
    ap f q ∙ grouped (length (step_boxes S r t) + i) ∙ box_behind (step_boxes S r t) rest i (length (step_boxes S r t) + i) refl))
  where
    rest : List Interval
    rest = each_step (suc t) n (step_boxes S r) ++ last

    grouped : (i : ℕ) → f (offset S t + i) ≡ box_at (step_boxes S r t ++ rest) i
    grouped i = h i ∙ ap (λ is. box_at is i) (append_assoc (step_boxes S r t) (each_step (suc t) n (step_boxes S r)) last)

steps_below : (S : System) (n l : ℕ) → n * length S.columns ≤ l → AllByRecursion (λ c. c < l) (stacked_branch S n)
steps_below S n l e = each_every (λ c. c < l) (step_branch S) 0 n (λ t a b.
    let m : suc t * length S.columns ≤ n * length S.columns = mul-le-mul_right (length S.columns) (let q : suc t ≤ n = omega (arith, b) in q) in
    branch_below l (offset S t) S.columns (omega (arith, m, e, suc-mul t (length S.columns))))

branches : (p : List Interval) (cs : List ℕ) → AllByRecursion (λ c. c < length p) cs → AllByRecursion (λ c. IsUnit (box_at p c)) cs → AllByRecursion (IsBranch p) cs
branches p [] h u = tt
branches p (c ∷ cs) h u = (record { below = h.0; unit = u.0 }, branches p cs h.1 u.1)

pub states_few : (cs : List Column) → length (state_columns cs) ≤ length cs
states_few [] = omega arith
states_few (c ∷ cs) = go (is_state c.role) (states_few cs)
  where
    go : (b : Bool) → length (state_columns cs) ≤ length cs → length (cond b (c ∷ state_columns cs) (state_columns cs)) ≤ suc (length cs)
    go true h = omega (arith, h)
    go false h = omega (arith, h)

pub start_few : (S : System) (r : Request) → IsRequestOf S r → length r.start ≤ length S.columns
start_few S r q = omega (arith, starts_long (state_columns S.columns) r.start q.start, states_few S.columns)

pub boxes_long : (S : System) (r : Request) → IsRequestOf S r → length (stacked_boxes S r) ≡ r.horizon * length S.columns + length (state_columns S.columns)
boxes_long S r q = length-append (each_step 0 r.horizon (step_boxes S r)) (bounds_of (state_columns S.columns))
    ∙ ap₂ ◌+◌ (each_long (step_boxes S r) (length S.columns) 0 r.horizon (long_step S r (start_few S r q))) (length-map (state_columns S.columns) (λ (c : Column). c.bounds))

-- a stacked problem is a problem
pub is_problem : (S : System) (r : Request) (p : Problem) → IsSystem S → IsRequestOf S r → IsStacked S r p → IsProblem p
is_problem S r p s q k = record {
  boxes = All-from_recursion IsInterval p.boxes (subst (AllByRecursion IsInterval) (sym k.boxes) (boxes_ordered S r have));
  rows = All-from_recursion (Over (length p.boxes)) p.rows (subst (AllByRecursion (Over (length p.boxes))) (sym k.rows) rows);
  cost = k.terms;
  rise = subst Rise (sym k.branch) (steps_rise S r.horizon 0);
  branch = All-from_recursion (IsBranch p.boxes) p.branch (subst (AllByRecursion (IsBranch p.boxes)) (sym k.branch) marks);
}
  where
    have : HaveBoxes S.columns
    have = recursion_from_All (λ (c : Column). IsBox c.kind c.bounds) S.columns s.boxes

    long : length p.boxes ≡ r.horizon * length S.columns + length (state_columns S.columns)
    long = ap length k.boxes ∙ boxes_long S r q

    rows : AllByRecursion (Over (length p.boxes)) (stacked_rows S r.horizon)
    rows = rows_over S r.horizon (length p.boxes) (recursion_from_All (Over (length S.columns)) S.rows s.rows)
        (recursion_from_All (λ (f : Affine). AreTermsOver (length S.columns) f.terms) S.next s.next) (omega (arith, long, s.each, states_counted S.columns))

    marks : AllByRecursion (IsBranch p.boxes) (stacked_branch S r.horizon)
    marks = branches p.boxes (stacked_branch S r.horizon) (steps_below S r.horizon (length p.boxes) (omega (arith, long)))
        (subst (λ is. AllByRecursion (λ c. IsUnit (box_at is c)) (stacked_branch S r.horizon)) (sym k.boxes)
        (steps_units S r (bounds_of (state_columns S.columns)) r.horizon 0 (box_at (stacked_boxes S r)) (long_step S r (start_few S r q)) (step_units S r s.order have q.start)
        (λ i. let z : offset S 0 + i ≡ i = omega arith in ap (box_at (stacked_boxes S r)) z)))
