-- The intervals along an order are the only ones that are those of the definitions over themselves.
use Rattle.std.proofs.Common.{◌≡◌, ℕ, zero, suc, ◌+◌, ◌<◌, ◌≤◌, List, [], ◌∷◌, Bool, true, false, cond, length, set, length-set, get_or-set_same, get_or-set_other, refl, sym, ◌∙◌, ap, ap₂, subst, arith, inl, inr, ◌⊎◌, Some}
use Rattle.std.specs.Prelude.{◌↔◌}
use Rattle.std.proofs.lemmas.List.{ext_get_or}
use Rattle.hys_number.specs.Number.{Number}
use Rattle.hys_number.specs.Ops.{whole, ◌+ₙ◌, ◌*ₙ◌}
use Rattle.hys_lin.specs.declared.form.Affine.{Affine}
use Rattle.hys_lin.specs.declared.form.Interval.{Interval}
use Rattle.hys_lin.specs.declared.form.Term.{Term}
use Rattle.hys_lin.specs.Operations.{sum_by}
use Rattle.hys_lin.specs.Ranges.{box_at, end_by_sign, end_at}
use Rattle.hys_prog.specs.declared.program.Name.{Name}
use Rattle.hys_prog.specs.declared.program.Body.{Body}
use Rattle.hys_prog.specs.declared.program.Body.TheVariants.{Guard, Choice, Logic, Linear, NextBool, NextReal, OutBool, OutReal, MustHold, MustMost, MustZero}
use Rattle.hys_prog.specs.declared.program.ProgItem.{ProgItem}
use Rattle.hys_prog.specs.declared.program.Program.{Program}
use Rattle.hys_prog.specs.declared.program.Order.{Order}
use Rattle.hys_prog.specs.Programs.{NameAt, is_named}
use Rattle.hys_prog.specs.Steps.{EachNameFrom, places, is_auxiliary}
use Rattle.hys_prog.specs.Orders.{HasTerm, MentionedIn, SomeItem, Leads, IsIn, IsFirst, IsReady, IsOrderAfter, IsOrder}
use Rattle.hys_prog.proofs.Defined.{name_below, some_named}
use Rattle.hys_prog.proofs.Names.{IsAuxiliary, name_map, name_both, name_never, place_of, aux_at}
use Rattle.hys_prog.proofs.Members.{each_of, none_in, first_in, first_holds}
use Rattle.hys_bound.specs.Ranges.{range, hull, defined_interval, interval_at, place_in, with_interval, found, declared, declared_interval, intervals}
use Rattle.hys_bound.specs.Fixed.{own_interval, AreFixed}
use Rattle.hys_bound.proofs.Turns.{declared_count}

abbrev Same : List Interval → List Interval → ℕ → Type 0
Same a b c = box_at a c ≡ box_at b c

-- ---- what the interval of a definition depends on
ends_same : (up : Bool) (a b : List Interval) (ts : List Term) → ((c : ℕ) → HasTerm c ts → Same a b c) → sum_by ts (end_at up a) ≡ sum_by ts (end_at up b)
ends_same up a b [] f = refl
ends_same up a b (t ∷ ts) f = ap₂ (λ (x y : Number). x +ₙ y) (ap (λ (i : Interval). t.factor *ₙ end_by_sign up t.factor.num i) (f t.column (inl refl))) (ends_same up a b ts (λ c i. f c (inr i)))

range_same : (a b : List Interval) (f : Affine) → ((c : ℕ) → HasTerm c f.terms → Same a b c) → range a f ≡ range b f
range_same a b f h = ap₂ (λ (x y : Number). record { low = f.constant +ₙ x; high = f.constant +ₙ y }) (ends_same false a b f.terms h) (ends_same true a b f.terms h)

body_same : (a b : List Interval) (x : Body) → ((c : ℕ) → MentionedIn c x → Same a b c) → defined_interval a x ≡ defined_interval b x
body_same a b (Guard f e) h = refl
body_same a b (Choice l f g) h = ap₂ hull (range_same a b f (λ c i. h c (inr (inl i)))) (range_same a b g (λ c i. h c (inr (inr i))))
body_same a b (Logic l) h = refl
body_same a b (Linear f) h = range_same a b f h
body_same a b (NextBool l) h = refl
body_same a b (NextReal f) h = refl
body_same a b (OutBool l) h = refl
body_same a b (OutReal f) h = refl
body_same a b (MustHold l) h = refl
body_same a b (MustMost f) h = refl
body_same a b (MustZero f) h = refl

item_same : (a b : List Interval) (n : ℕ) (ts : List ProgItem) → ((c : ℕ) → SomeItem (λ t. (t.name ≡ Some n) × MentionedIn c t.body) ts → Same a b c) → interval_at a ts (place_in ts n) ≡ interval_at b ts (place_in ts n)
item_same a b n [] h = refl
item_same a b n (t ∷ ts) h = go (is_named n t.name) refl (item_same a b n ts (λ c i. h c (inr i)))
  where
    go : (q : Bool) → is_named n t.name ≡ q → interval_at a ts (place_in ts n) ≡ interval_at b ts (place_in ts n) → interval_at a (t ∷ ts) (cond q 0 (suc (place_in ts n))) ≡ interval_at b (t ∷ ts) (cond q 0 (suc (place_in ts n)))
    go true e r = body_same a b t.body (λ c i. h c (inl (some_named n t.name e, i)))
    go false e r = r

-- ---- names by their places
abbrev Stands : List Name → ℕ → Name → Type 0
Stands xs i x = NameAt xs i (λ y. y ≡ x)

each_name : (P : ℕ → Name → Type 0) (k : ℕ) (xs : List Name) → ((i n : ℕ) (x : Name) → n ≡ k + i → Stands xs i x → P n x) → EachNameFrom k P xs
each_name P k [] f = tt
each_name P k (x ∷ xs) f = (f 0 k x (omega arith) refl, each_name P (suc k) xs (λ i n y e s. f (suc i) n y (omega arith) s))

at_name : (P : ℕ → Name → Type 0) (k i n : ℕ) (xs : List Name) (x : Name) → EachNameFrom k P xs → n ≡ k + i → Stands xs i x → P n x
at_name P k i n [] x h e s = absurd s
at_name P k zero n (y ∷ xs) x h e s = let q : k ≡ n = omega arith in subst (λ (z : Name). P n z) s (subst (λ (m : ℕ). P m y) q h.0)
at_name P k (suc i) n (y ∷ xs) x h e s = at_name P (suc k) i n xs x h.1 (omega arith) s

declared_at : (xs : List Name) (i : ℕ) (x : Name) → Stands xs i x → box_at (declared xs) i ≡ declared_interval x.role x
declared_at [] i x s = absurd s
declared_at (y ∷ xs) zero x s = ap (λ (z : Name). declared_interval z.role z) s
declared_at (y ∷ xs) (suc i) x s = declared_at xs i x s

name_or_past : (xs : List Name) (i : ℕ) → ((x : Name) × Stands xs i x) ⊎ (length xs ≤ i)
name_or_past [] i = inr (omega arith)
name_or_past (x ∷ xs) zero = inl (x, refl)
name_or_past (x ∷ xs) (suc i) = go (name_or_past xs i)
  where
    go : ((y : Name) × Stands xs i y) ⊎ (length xs ≤ i) → ((y : Name) × Stands (x ∷ xs) (suc i) y) ⊎ (length (x ∷ xs) ≤ suc i)
    go (inl s) = inl s
    go (inr e) = inr (omega arith)

box_past : (a : List Interval) (i : ℕ) → length a ≤ i → box_at a i ≡ record { low = whole 0; high = whole 0 }
box_past [] zero e = refl
box_past [] (suc i) e = refl
box_past (x ∷ a) zero e = absurd (omega arith)
box_past (x ∷ a) (suc i) e = box_past a i (omega arith)

is_aux : (p : Program) (n : ℕ) (x : Name) → Stands p.names n x → is_auxiliary x.role ≡ true → IsIn n (places is_auxiliary p)
is_aux p n x s e = place_of is_auxiliary 0 n n p.names (omega arith) (name_map (λ (y : Name). y ≡ x) IsAuxiliary p.names n (λ y q. rw q e) s)

not_aux : (p : Program) (n : ℕ) (x : Name) → Stands p.names n x → is_auxiliary x.role ≡ false → IsIn n (places is_auxiliary p) → ⊥
not_aux p n x s e i = name_never (λ (y : Name). (y ≡ x) × IsAuxiliary y) p.names n (λ y k. let d : is_auxiliary y.role ≡ false = rw k.0 e in let f = k.1 in absurd (cc)) (name_both (λ (y : Name). y ≡ x) IsAuxiliary p.names n s (aux_at p n i))

-- ---- along the order
-- the interval of an auxiliary is its own, and all auxiliaries that its definition mentions are taken
record IsSettled (p : Program) (taken : List ℕ) (boxes : List Interval) (n : ℕ) : Type 0 where
  reach : (c : ℕ) → IsIn c (places is_auxiliary p) → Leads p n c → IsIn c taken
  own : box_at boxes n ≡ interval_at boxes p.items (place_in p.items n)

record AreSettled (p : Program) (taken : List ℕ) (boxes : List Interval) : Type 0 where
  count : length boxes ≡ length p.names
  settled : (n : ℕ) → IsIn n taken → IsSettled p taken boxes n

settle_more : (p : Program) (taken : List ℕ) (boxes : List Interval) (m : ℕ) → IsFirst (IsReady p taken) m (places is_auxiliary p) → AreSettled p taken boxes → AreSettled p (m ∷ taken) (with_interval p.items m boxes)
settle_more p taken boxes m f h = record { count = length-set boxes m r ∙ h.count; settled = go }
  where
    r : Interval
    r = interval_at boxes p.items (place_in p.items m)

    others : Interval
    others = record { low = whole 0; high = whole 0 }

    aux : IsIn m (places is_auxiliary p)
    aux = first_in (IsReady p taken) (places is_auxiliary p) m f

    ready : IsReady p taken m
    ready = first_holds (IsReady p taken) (places is_auxiliary p) m f

    kept : (c : ℕ) → (c ≡ m → ⊥) → Same boxes (set boxes m r) c
    kept c d = sym (get_or-set_other boxes m c r others d)

    same : (n : ℕ) → ((c : ℕ) → IsIn c (places is_auxiliary p) → Leads p n c → IsIn c taken) → interval_at boxes p.items (place_in p.items n) ≡ interval_at (set boxes m r) p.items (place_in p.items n)
    same n g = item_same boxes (set boxes m r) n p.items (λ c l. kept c (λ e. none_in taken m ready.0 (g m aux (subst (λ (z : ℕ). Leads p n z) e l))))

    reached : (c : ℕ) → IsIn c (places is_auxiliary p) → Leads p m c → IsIn c taken
    reached c i l = each_of (λ c. Leads p m c → IsIn c taken) (places is_auxiliary p) c ready.1 i l

    go : (n : ℕ) → IsIn n (m ∷ taken) → IsSettled p (m ∷ taken) (set boxes m r) n
    go n (inl e) =
        let b : m < length p.names = name_below IsAuxiliary p.names m (aux_at p m aux) in
        let d : m < length boxes = (let q = h.count in omega arith) in
        subst (IsSettled p (m ∷ taken) (set boxes m r)) e (record { reach = λ c i l. inr (reached c i l); own = get_or-set_same boxes m r others d ∙ same m reached })
    go n (inr i) =
        let s = h.settled n i in
        let d : n ≡ m → ⊥ = λ e. none_in taken m ready.0 (subst (λ (z : ℕ). IsIn z taken) e i) in
        record { reach = λ c j l. inr (s.reach c j l); own = sym (kept n d) ∙ s.own ∙ same n s.reach }

settle_end : (p : Program) (taken ns : List ℕ) (boxes : List Interval) → IsOrderAfter p taken ns → AreSettled p taken boxes → (n : ℕ) → IsIn n (places is_auxiliary p) → box_at (found p.items ns boxes) n ≡ interval_at (found p.items ns boxes) p.items (place_in p.items n)
settle_end p taken [] boxes o h n i = (h.settled n (each_of (λ n. IsIn n taken) (places is_auxiliary p) n o i)).own
settle_end p taken (m ∷ ns) boxes o h n i = settle_end p (m ∷ taken) ns (with_interval p.items m boxes) o.1 (settle_more p taken boxes m o.0 h) n i

other_kept : (p : Program) (taken ns : List ℕ) (boxes : List Interval) (n : ℕ) → IsOrderAfter p taken ns → (IsIn n (places is_auxiliary p) → ⊥) → box_at (found p.items ns boxes) n ≡ box_at boxes n
other_kept p taken [] boxes n o d = refl
other_kept p taken (m ∷ ns) boxes n o d =
    let r = interval_at boxes p.items (place_in p.items m) in
    let e : n ≡ m → ⊥ = λ q. d (subst (λ (z : ℕ). IsIn z (places is_auxiliary p)) (sym q) (first_in (IsReady p taken) (places is_auxiliary p) m o.0)) in
    other_kept p (m ∷ taken) ns (with_interval p.items m boxes) n o.1 d ∙ get_or-set_other boxes m n r (record { low = whole 0; high = whole 0 }) e

found_count : (items : List ProgItem) (ns : List ℕ) (boxes : List Interval) → length (found items ns boxes) ≡ length boxes
found_count items [] boxes = refl
found_count items (m ∷ ns) boxes = found_count items ns (with_interval items m boxes) ∙ length-set boxes m (interval_at boxes items (place_in items m))

intervals_fixed : (p : Program) (o : Order) → IsOrder p o → AreFixed p (intervals p o)
intervals_fixed p o q = record { count = found_count p.items o.names (declared p.names) ∙ declared_count p.names; own = each_name (λ n x. box_at (intervals p o) n ≡ own_interval (intervals p o) p n x) 0 p.names here }
  where
    start : AreSettled p [] (declared p.names)
    start = record { count = declared_count p.names; settled = λ n i. absurd i }

    here : (i n : ℕ) (x : Name) → n ≡ 0 + i → Stands p.names i x → box_at (intervals p o) n ≡ own_interval (intervals p o) p n x
    here i n x e s = go (subst (λ (z : ℕ). Stands p.names z x) f s) (is_auxiliary x.role) refl
      where
        f : i ≡ n
        f = omega arith

        go : Stands p.names n x → (b : Bool) → is_auxiliary x.role ≡ b → box_at (intervals p o) n ≡ cond b (interval_at (intervals p o) p.items (place_in p.items n)) (declared_interval x.role x)
        go s true a = settle_end p [] o.names (declared p.names) q start n (is_aux p n x s a)
        go s false a = other_kept p [] o.names (declared p.names) n q (not_aux p n x s a) ∙ declared_at p.names n x s

-- ---- there are no others
own_other : (p : Program) (a : List Interval) (n : ℕ) (x : Name) → AreFixed p a → Stands p.names n x → is_auxiliary x.role ≡ false → box_at a n ≡ declared_interval x.role x
own_other p a n x h s e = go (is_auxiliary x.role) e (at_name (λ n x. box_at a n ≡ own_interval a p n x) 0 n n p.names x h.own (omega arith) s)
  where
    go : (b : Bool) → b ≡ false → box_at a n ≡ cond b (interval_at a p.items (place_in p.items n)) (declared_interval x.role x) → box_at a n ≡ declared_interval x.role x
    go true e q = absurd (cc)
    go false e q = q

own_defined : (p : Program) (a : List Interval) (n : ℕ) → AreFixed p a → IsIn n (places is_auxiliary p) → box_at a n ≡ interval_at a p.items (place_in p.items n)
own_defined p a n h i = go (name_or_past p.names n)
  where
    of : (x : Name) (b : Bool) → is_auxiliary x.role ≡ b → Stands p.names n x → box_at a n ≡ cond b (interval_at a p.items (place_in p.items n)) (declared_interval x.role x) → box_at a n ≡ interval_at a p.items (place_in p.items n)
    of x true e s q = q
    of x false e s q = absurd (not_aux p n x s e i)

    go : ((x : Name) × Stands p.names n x) ⊎ (length p.names ≤ n) → box_at a n ≡ interval_at a p.items (place_in p.items n)
    go (inl s) = of s.0 (is_auxiliary s.0.role) refl s.1 (at_name (λ n x. box_at a n ≡ own_interval a p n x) 0 n n p.names s.0 h.own (omega arith) s.1)
    go (inr e) = let b : n < length p.names = name_below IsAuxiliary p.names n (aux_at p n i) in absurd (omega arith)

agree_at : (p : Program) (a b : List Interval) (c : ℕ) → AreFixed p a → AreFixed p b → (IsIn c (places is_auxiliary p) → Same a b c) → Same a b c
agree_at p a b c h k f = go (name_or_past p.names c)
  where
    of : (x : Name) (t : Bool) → is_auxiliary x.role ≡ t → Stands p.names c x → Same a b c
    of x true e s = f (is_aux p c x s e)
    of x false e s = own_other p a c x h s e ∙ sym (own_other p b c x k s e)

    go : ((x : Name) × Stands p.names c x) ⊎ (length p.names ≤ c) → Same a b c
    go (inl s) = of s.0 (is_auxiliary s.0.role) refl s.1
    go (inr e) =
        let l : length a ≤ c = (let q = h.count in omega arith) in
        let m : length b ≤ c = (let q = k.count in omega arith) in
        box_past a c l ∙ sym (box_past b c m)

agree_end : (p : Program) (a b : List Interval) (taken ns : List ℕ) → AreFixed p a → AreFixed p b → IsOrderAfter p taken ns → ((n : ℕ) → IsIn n taken → Same a b n) → (n : ℕ) → IsIn n (places is_auxiliary p) → Same a b n
agree_end p a b taken [] h k o f n i = f n (each_of (λ n. IsIn n taken) (places is_auxiliary p) n o i)
agree_end p a b taken (m ∷ ns) h k o f n i = agree_end p a b (m ∷ taken) ns h k o.1 more n i
  where
    aux : IsIn m (places is_auxiliary p)
    aux = first_in (IsReady p taken) (places is_auxiliary p) m o.0

    reached : (c : ℕ) → Leads p m c → Same a b c
    reached c l = agree_at p a b c h k (λ j. f c (each_of (λ c. Leads p m c → IsIn c taken) (places is_auxiliary p) c (first_holds (IsReady p taken) (places is_auxiliary p) m o.0).1 j l))

    more : (n : ℕ) → IsIn n (m ∷ taken) → Same a b n
    more n (inl e) = subst (Same a b) e (own_defined p a m h aux ∙ item_same a b m p.items reached ∙ sym (own_defined p b m k aux))
    more n (inr j) = f n j

pub fixed_exactly : (p : Program) (o : Order) (boxes : List Interval) → IsOrder p o → AreFixed p boxes ↔ (boxes ≡ intervals p o)
fixed_exactly p o boxes q = (there, λ e. rw e (intervals_fixed p o q))
  where
    there : AreFixed p boxes → boxes ≡ intervals p o
    there h =
        let k = intervals_fixed p o q in
        ext_get_or (record { low = whole 0; high = whole 0 }) boxes (intervals p o) (h.count ∙ sym k.count) (λ i l. agree_at p boxes (intervals p o) i h k (agree_end p boxes (intervals p o) [] o.names h k q (λ n j. absurd j) i))
