-- The intervals along an order hold what the names take.
use Rattle.std.proofs.Common.{◌≡◌, ℕ, zero, suc, ◌+◌, ◌<◌, List, [], ◌∷◌, Bool, true, false, cond, length, set, length-set, get_or-set_same, get_or-set_other, refl, sym, ◌∙◌, subst, arith, inl, inr, ◌⊎◌, IsTrue, ℤ, pos, negsuc, Option, Some, None}
use Rattle.std.proofs.lemmas.Bool.{cases_eq}
use Rattle.std.specs.Ordering.{is_le}
use Rattle.hys_number.specs.Number.{Number}
use Rattle.hys_number.specs.Ops.{whole, ◌≤ₙ◌, ◌<ₙ◌, ◌*ₙ◌}
use Rattle.hys_number.proofs.Order.{le_refl', le_trans, le_of_lt, le_total, add-le-add, mul-le-mul_left, mul-le-mul_left_neg, at_least_zero, below_zero}
use Rattle.hys_number.proofs.Field.{add_comm, ratios}
use Rattle.hys_number.proofs.Laws.{whole-ratio}
use Rattle.hys_frac.specs.Compare.{number_cmp}
use Rattle.hys_frac.proofs.Comparisons.{is_le-cmp}
use Rattle.hys_lin.specs.declared.form.Affine.{Affine}
use Rattle.hys_lin.specs.declared.form.Interval.{Interval}
use Rattle.hys_lin.specs.declared.form.Term.{Term}
use Rattle.hys_lin.specs.Bits.{bit}
use Rattle.hys_lin.specs.Operations.{sum_by}
use Rattle.hys_lin.specs.Ranges.{box_at, end_by_sign, end_at}
use Rattle.hys_lin.specs.Sums.{Assignment, sum_of, value, Within, EachColumn}
use Rattle.hys_formula.specs.Formulas.{tree_of, truth}
use Rattle.hys_prog.specs.declared.program.Name.{Name}
use Rattle.hys_prog.specs.declared.program.Role.{Role}
use Rattle.hys_prog.specs.declared.program.Role.TheVariants.{State, Input, Output, Parameter, Aux}
use Rattle.hys_prog.specs.declared.program.Body.{Body}
use Rattle.hys_prog.specs.declared.program.Body.TheVariants.{Guard, Choice, Logic, Linear, NextBool, NextReal, OutBool, OutReal, MustHold, MustMost, MustZero}
use Rattle.hys_prog.specs.declared.program.ProgItem.{ProgItem}
use Rattle.hys_prog.specs.declared.program.Program.{Program}
use Rattle.hys_prog.specs.declared.program.Order.{Order}
use Rattle.hys_prog.specs.Programs.{IsProgram, EachItem, NameAt, BodyOver, IsVariable, Suits, Named, definitions, is_named, has_column}
use Rattle.hys_prog.specs.Steps.{Legal, Case, CaseOf, OfName, EachNameFrom, InBox, places, is_auxiliary, is_given, is_parameter}
use Rattle.hys_prog.specs.Orders.{HasTerm, MentionedIn, SomeItem, Leads, IsIn, IsFirst, IsReady, IsOrderAfter, IsOrder}
use Rattle.hys_prog.proofs.Defined.{name_below, some_named}
use Rattle.hys_prog.proofs.Names.{IsAuxiliary, name_map, name_both, name_never, place_of, aux_at, aux_named}
use Rattle.hys_prog.proofs.Members.{each_of, first_in, first_holds}
use Rattle.hys_bound.specs.Ranges.{range, least, greatest, hull, unit, defined_interval, interval_at, place_in, with_interval, found, declared, declared_interval, intervals}
use Rattle.hys_bound.specs.Values.{TakesValues, HoldsValues, has_value}
use Rattle.hys_bound.proofs.Turns.{declared_count}

-- ---- the hull
chosen : (a b : Number) → ((is_le (number_cmp a b) ≡ true) × (a ≤ₙ b)) ⊎ ((is_le (number_cmp a b) ≡ false) × (b ≤ₙ a))
chosen a b = go (is_le (number_cmp a b)) refl
  where
    go : (t : Bool) → is_le (number_cmp a b) ≡ t → ((is_le (number_cmp a b) ≡ true) × (a ≤ₙ b)) ⊎ ((is_le (number_cmp a b) ≡ false) × (b ≤ₙ a))
    go true e = inl (e, (is_le-cmp a b).0 e)
    go false e = inr (e, other (le_total a b))
      where
        other : (a ≤ₙ b) ⊎ (b <ₙ a) → b ≤ₙ a
        other (inl h) = let k = (is_le-cmp a b).1 h in absurd (cc)
        other (inr h) = le_of_lt b a h

least_below : (a b : Number) → (least a b ≤ₙ a) × (least a b ≤ₙ b)
least_below a b = go (chosen a b)
  where
    go : ((is_le (number_cmp a b) ≡ true) × (a ≤ₙ b)) ⊎ ((is_le (number_cmp a b) ≡ false) × (b ≤ₙ a)) → (least a b ≤ₙ a) × (least a b ≤ₙ b)
    go (inl h) = rw h.0 (le_refl' a, h.1)
    go (inr h) = rw h.0 (h.1, le_refl' b)

greatest_above : (a b : Number) → (a ≤ₙ greatest a b) × (b ≤ₙ greatest a b)
greatest_above a b = go (chosen a b)
  where
    go : ((is_le (number_cmp a b) ≡ true) × (a ≤ₙ b)) ⊎ ((is_le (number_cmp a b) ≡ false) × (b ≤ₙ a)) → (a ≤ₙ greatest a b) × (b ≤ₙ greatest a b)
    go (inl h) = rw h.0 (h.1, le_refl' b)
    go (inr h) = rw h.0 (le_refl' a, h.1)

hull_left : (i j : Interval) (x : Number) → Within i x → Within (hull i j) x
hull_left i j x h = record {
  low = le_trans (least i.low j.low) i.low x (least_below i.low j.low).0 h.low;
  high = le_trans x i.high (greatest i.high j.high) h.high (greatest_above i.high j.high).0;
}

hull_right : (i j : Interval) (x : Number) → Within j x → Within (hull i j) x
hull_right i j x h = record {
  low = le_trans (least i.low j.low) j.low x (least_below i.low j.low).1 h.low;
  high = le_trans x j.high (greatest i.high j.high) h.high (greatest_above i.high j.high).1;
}

-- ---- a form, of whose columns alone it is known that they are within their boxes
product_around : (f : Number) (i : Interval) (x : Number) → Within i x → (f *ₙ end_by_sign false f.num i ≤ₙ f *ₙ x) × (f *ₙ x ≤ₙ f *ₙ end_by_sign true f.num i)
product_around f i x w = go f.num refl
  where
    go : (z : ℤ) → f.num ≡ z → (f *ₙ end_by_sign false z i ≤ₙ f *ₙ x) × (f *ₙ x ≤ₙ f *ₙ end_by_sign true z i)
    go (pos n) e = (mul-le-mul_left f i.low x (at_least_zero f n e) w.low, mul-le-mul_left f x i.high (at_least_zero f n e) w.high)
    go (negsuc n) e = (mul-le-mul_left_neg f x i.high (le_of_lt f (whole 0) (below_zero f n e)) w.high, mul-le-mul_left_neg f i.low x (le_of_lt f (whole 0) (below_zero f n e)) w.low)

abbrev pub AreWithin : List Interval → Assignment → (ℕ → Type 0) → Type 0
AreWithin boxes w P = (c : ℕ) → P c → Within (box_at boxes c) (w c)

ends_around : (boxes : List Interval) (w : Assignment) (ts : List Term) → AreWithin boxes w (λ c. HasTerm c ts) →
    (sum_by ts (end_at false boxes) ≤ₙ sum_of ts w) × (sum_of ts w ≤ₙ sum_by ts (end_at true boxes))
ends_around boxes w [] h = (le_refl' (whole 0), le_refl' (whole 0))
ends_around boxes w (t ∷ ts) h =
    let p : (t.factor *ₙ end_at false boxes t ≤ₙ t.factor *ₙ w t.column) × (t.factor *ₙ w t.column ≤ₙ t.factor *ₙ end_at true boxes t) = product_around t.factor (box_at boxes t.column) (w t.column) (h t.column (inl refl)) in
    let q : (sum_by ts (end_at false boxes) ≤ₙ sum_of ts w) × (sum_of ts w ≤ₙ sum_by ts (end_at true boxes)) = ends_around boxes w ts (λ c i. h c (inr i)) in
    (add-le-add _ _ _ _ p.0 q.0, add-le-add _ _ _ _ p.1 q.1)

pub form_within : (boxes : List Interval) (w : Assignment) (f : Affine) → AreWithin boxes w (λ c. HasTerm c f.terms) → Within (range boxes f) (value f w)
unfolding value
form_within boxes w f h =
    let q : (sum_by f.terms (end_at false boxes) ≤ₙ sum_of f.terms w) × (sum_of f.terms w ≤ₙ sum_by f.terms (end_at true boxes)) = ends_around boxes w f.terms h in
    record {
      low = rw (add_comm f.constant (sum_by f.terms (end_at false boxes))) (add-le-add _ _ _ _ q.0 (le_refl' f.constant));
      high = rw (add_comm f.constant (sum_by f.terms (end_at true boxes))) (add-le-add _ _ _ _ q.1 (le_refl' f.constant));
    }

-- ---- the body that defines an auxiliary
above : 0 < 1
above = omega arith

zero_one : whole 0 ≤ₙ whole 1
zero_one = rw (whole-ratio 0 1 above, whole-ratio 1 1 above) (simp (ratios, above) (omega arith))

unit_one : (a : Number) → a ≡ whole 1 → Within unit a
unit_one a e = rw e (record { low = zero_one; high = le_refl' (whole 1) })

unit_zero : (a : Number) → a ≡ whole 0 → Within unit a
unit_zero a e = rw e (record { low = le_refl' (whole 0); high = zero_one })

unit_bit : (a : Number) (b : Bool) → a ≡ bit b → Within unit a
unit_bit a true e = unit_one a e
unit_bit a false e = unit_zero a e

hull_cond : (i j : Interval) (a b x : Number) (t : Bool) → Within i a → Within j b → x ≡ cond t a b → Within (hull i j) x
hull_cond i j a b x true h k e = rw e (hull_left i j a h)
hull_cond i j a b x false h k e = rw e (hull_right i j b k)

columns_over : (names : List Name) (c : ℕ) (ts : List Term) → EachColumn (λ n. NameAt names n IsVariable) ts → HasTerm c ts → NameAt names c IsVariable
columns_over names c [] h i = absurd i
columns_over names c (t ∷ ts) h (inl e) = subst (λ (n : ℕ). NameAt names n IsVariable) e h.0
columns_over names c (t ∷ ts) h (inr i) = columns_over names c ts h.1 i

-- an auxiliary has no body that defines another name
no_aux : (b : Body) (names : List Name) (n : ℕ) → ((x : Name) → Suits b x → is_auxiliary x.role ≡ false) → NameAt names n (Suits b) → NameAt names n IsAuxiliary → ⊥
no_aux b names n f h a = name_never (λ (x : Name). Suits b x × IsAuxiliary x) names n (λ x k. let e = f x k.0 in let d = k.1 in absurd (cc)) (name_both (Suits b) IsAuxiliary names n h a)

body_within : (names : List Name) (boxes : List Interval) (w : Assignment) (n : ℕ) (b : Body) → BodyOver names b → NameAt names n (Suits b) → NameAt names n IsAuxiliary → Case w n b → AreWithin boxes w (λ c. NameAt names c IsVariable × MentionedIn c b) → Within (defined_interval boxes b) (w n)
body_within names boxes w n (Guard f e) o s a (inl k) h = unit_one (w n) k.1
body_within names boxes w n (Guard f e) o s a (inr k) h = unit_zero (w n) k.1
body_within names boxes w n (Choice l f g) o s a k h = hull_cond (range boxes f) (range boxes g) (value f w) (value g w) (w n) (truth (tree_of l) w)
    (form_within boxes w f (λ c i. h c (columns_over names c f.terms o.1.1 i, inr (inl i))))
    (form_within boxes w g (λ c i. h c (columns_over names c g.terms o.2.1 i, inr (inr i)))) k
body_within names boxes w n (Logic l) o s a k h = unit_bit (w n) (truth (tree_of l) w) k
body_within names boxes w n (Linear f) o s a k h = rw k (form_within boxes w f (λ c i. h c (columns_over names c f.terms o.1 i, i)))
body_within names boxes w n (NextBool l) o s a k h = absurd (no_aux (NextBool l) names n (λ x q. rw q.0 refl) s a)
body_within names boxes w n (NextReal f) o s a k h = absurd (no_aux (NextReal f) names n (λ x q. rw q.0 refl) s a)
body_within names boxes w n (OutBool l) o s a k h = absurd (no_aux (OutBool l) names n (λ x q. rw q.0 refl) s a)
body_within names boxes w n (OutReal f) o s a k h = absurd (no_aux (OutReal f) names n (λ x q. rw q.0 refl) s a)
body_within names boxes w n (MustHold l) o s a k h = absurd (no_aux (MustHold l) names n (λ x q. absurd q) s a)
body_within names boxes w n (MustMost f) o s a k h = absurd (no_aux (MustMost f) names n (λ x q. absurd q) s a)
body_within names boxes w n (MustZero f) o s a k h = absurd (no_aux (MustZero f) names n (λ x q. absurd q) s a)

-- of the items the first that defines the name
item_within : (names : List Name) (boxes : List Interval) (w : Assignment) (n : ℕ) (ts : List ProgItem) → 0 < definitions n ts → EachItem (λ t. BodyOver names t.body) ts → EachItem (λ t. Named names t.name t.body) ts → EachItem (CaseOf w) ts → NameAt names n IsAuxiliary →
    AreWithin boxes w (λ c. NameAt names c IsVariable × SomeItem (λ t. (t.name ≡ Some n) × MentionedIn c t.body) ts) → Within (interval_at boxes ts (place_in ts n)) (w n)
item_within names boxes w n [] d o s k a h = absurd (omega arith)
item_within names boxes w n (t ∷ ts) d o s k a h = go (λ l. item_within names boxes w n ts l o.1 s.1 k.1 a (λ c i. h c (i.0, inr i.1))) (is_named n t.name) refl d
  where
    here : (m : Option ℕ) → t.name ≡ m → m ≡ Some n → Named names m t.body → OfName (λ n. Case w n t.body) m → Within (defined_interval boxes t.body) (w n)
    here None q e s k = absurd (cc)
    here (Some m) q e s k =
        let f : m ≡ n = cc in
        body_within names boxes w n t.body o.0 (subst (λ (n : ℕ). NameAt names n (Suits t.body)) f s) a (subst (λ (n : ℕ). Case w n t.body) f k) (λ c i. h c (i.0, inl (q ∙ e, i.1)))

    go : (0 < definitions n ts → Within (interval_at boxes ts (place_in ts n)) (w n)) → (b : Bool) → is_named n t.name ≡ b → 0 < cond b 1 0 + definitions n ts → Within (interval_at boxes (t ∷ ts) (cond b 0 (suc (place_in ts n)))) (w n)
    go later true e d = here t.name refl (some_named n t.name e) s.0 k.0
    go later false e d = later (omega arith)

-- ---- along the order
abbrev HasValue : Name → Type 0
HasValue x = has_value x.role ≡ true

-- the numbers of all names but outputs and the auxiliaries that aren't taken are in their intervals
record AreInside (p : Program) (w : Assignment) (taken : List ℕ) (boxes : List Interval) : Type 0 where
  count : length boxes ≡ length p.names
  inside : (n : ℕ) → NameAt p.names n HasValue → (NameAt p.names n IsAuxiliary → IsIn n taken) → Within (box_at boxes n) (w n)

role_inside : (r : Role) (x : Name) (a : Number) → (IsTrue (is_parameter r) → a ≡ x.value) → (IsTrue (is_given r) → InBox x a) → has_value r ≡ true → ¬ (is_auxiliary r ≡ true) → Within (declared_interval r x) a
role_inside State x a v b h n = (b refl).0
role_inside Input x a v b h n = (b refl).0
role_inside Output x a v b h n = absurd (cc)
role_inside Parameter x a v b h n = rw (v refl) (record { low = le_refl' x.value; high = le_refl' x.value })
role_inside Aux x a v b h n = absurd (n refl)

declared_inside : (w : Assignment) (k : ℕ) (xs : List Name) → EachNameFrom k (λ n x. IsTrue (is_parameter x.role) → w n ≡ x.value) xs → EachNameFrom k (λ n x. IsTrue (is_given x.role) → InBox x (w n)) xs → (i n : ℕ) → n ≡ k + i → NameAt xs i HasValue → (NameAt xs i IsAuxiliary → ⊥) → Within (box_at (declared xs) i) (w n)
declared_inside w k [] v b i n e h a = absurd h
declared_inside w k (x ∷ xs) v b zero n e h a = let q : n ≡ k = omega arith in rw q (role_inside x.role x (w k) v.0 b.0 h a)
declared_inside w k (x ∷ xs) v b (suc i) n e h a = declared_inside w (suc k) xs v.1 b.1 i n (omega arith) h a

inside_start : (p : Program) (w : Assignment) → TakesValues p w → AreInside p w [] (declared p.names)
inside_start p w t = record { count = declared_count p.names; inside = λ n h a. declared_inside w 0 p.names t.parameters t.boxes n n (omega arith) h a }

variable_has : (r : Role) → has_column r ≡ true → has_value r ≡ true
variable_has State e = refl
variable_has Input e = refl
variable_has Output e = absurd (cc)
variable_has Parameter e = absurd (cc)
variable_has Aux e = refl

inside_more : (p : Program) (w : Assignment) (taken : List ℕ) (boxes : List Interval) (n : ℕ) → IsProgram p → EachItem (CaseOf w) p.items → IsFirst (IsReady p taken) n (places is_auxiliary p) → AreInside p w taken boxes → AreInside p w (n ∷ taken) (with_interval p.items n boxes)
inside_more p w taken boxes n g k f h = record { count = length-set boxes n r ∙ h.count; inside = λ m v a. go m v a (cases_eq m n) }
  where
    r : Interval
    r = interval_at boxes p.items (place_in p.items n)

    is_aux : IsIn n (places is_auxiliary p)
    is_aux = first_in (IsReady p taken) (places is_auxiliary p) n f

    reached : AreWithin boxes w (λ c. NameAt p.names c IsVariable × Leads p n c)
    reached c i = h.inside c (name_map IsVariable HasValue p.names c (λ x v. variable_has x.role v) i.0)
        (λ a. each_of (λ m. Leads p n m → IsIn m taken) (places is_auxiliary p) c (first_holds (IsReady p taken) (places is_auxiliary p) n f).1 (place_of is_auxiliary 0 c c p.names (omega arith) a) i.1)

    held : Within r (w n)
    held = let d = g.once n (aux_named p n is_aux) in item_within p.names boxes w n p.items (omega arith) g.bodies g.named k (aux_at p n is_aux) reached

    go : (m : ℕ) → NameAt p.names m HasValue → (NameAt p.names m IsAuxiliary → IsIn m (n ∷ taken)) → (m ≡ n) ⊎ (m ≡ n → ⊥) → Within (box_at (set boxes n r) m) (w m)
    go m v a (inl e) =
        let b : n < length p.names = name_below IsAuxiliary p.names n (aux_at p n is_aux) in
        let c : n < length boxes = (let q = h.count in omega arith) in
        rw (e, get_or-set_same boxes n r (record { low = whole 0; high = whole 0 }) c) held
    go m v a (inr e) = rw (get_or-set_other boxes n m r (record { low = whole 0; high = whole 0 }) e) (h.inside m v (λ i. before (a i)))
      where
        before : IsIn m (n ∷ taken) → IsIn m taken
        before (inl q) = absurd (e (sym q))
        before (inr i) = i

inside_end : (p : Program) (w : Assignment) (taken ns : List ℕ) (boxes : List Interval) → IsProgram p → EachItem (CaseOf w) p.items → IsOrderAfter p taken ns → AreInside p w taken boxes → (n : ℕ) → NameAt p.names n HasValue → Within (box_at (found p.items ns boxes) n) (w n)
inside_end p w taken [] boxes g k o h n v = h.inside n v (λ a. each_of (λ n. IsIn n taken) (places is_auxiliary p) n o (place_of is_auxiliary 0 n n p.names (omega arith) a))
inside_end p w taken (m ∷ ns) boxes g k o h n v = inside_end p w (m ∷ taken) ns (with_interval p.items m boxes) g k o.1 (inside_more p w taken boxes m g k o.0 h) n v

each_within : (boxes : List Interval) (w : Assignment) (k : ℕ) (xs : List Name) → ((i n : ℕ) → n ≡ k + i → NameAt xs i HasValue → Within (box_at boxes n) (w n)) → EachNameFrom k (λ n x. IsTrue (has_value x.role) → Within (box_at boxes n) (w n)) xs
each_within boxes w k [] f = tt
each_within boxes w k (x ∷ xs) f = (λ v. f 0 k (omega arith) v, each_within boxes w (suc k) xs (λ i n e v. f (suc i) n (omega arith) v))

-- the intervals hold what the names take
pub intervals_hold : (p : Program) (o : Order) (boxes : List Interval) → IsProgram p → IsOrder p o → boxes ≡ intervals p o → HoldsValues p boxes
intervals_hold p o boxes g q e w t = rw e (each_within (intervals p o) w 0 p.names (λ i n e v. let f : i ≡ n = omega arith in inside_end p w [] o.names (declared p.names) g t.cases q (inside_start p w t) n (subst (λ (i : ℕ). NameAt p.names i HasValue) f v)))

-- a legal step is one for states and inputs within bounds
pub legal_takes : (p : Program) (x u : List Number) (w : Assignment) (x' y : List Number) → Legal p x u w x' y → TakesValues p w
legal_takes p x u w x' y h = record { parameters = h.step.parameters; boxes = h.boxes; cases = h.step.cases }
