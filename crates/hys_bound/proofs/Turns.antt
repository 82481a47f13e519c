-- Intervals along an order.
use Rattle.std.proofs.Common.{◌≡◌, ℕ, zero, suc, ◌+◌, ◌<◌, ◌≤◌, List, [], ◌∷◌, ◌++◌, Option, Some, None, Bool, true, false, cond, length, get_or, set, length-set, drop, refl, sym, ◌∙◌, ap, subst, arith, add-one}
use Rattle.std.proofs.lemmas.Grind.{get_or_default_zero}
use Rattle.std.proofs.lemmas.List.{drop_all}
use Rattle.hys_number.specs.Ops.{fits}
use Rattle.hys_lin.specs.declared.form.Interval.{Interval}
use Rattle.hys_lin.specs.declared.form.Term.{Term}
use Rattle.hys_lin.specs.declared.lost.Lost.{Lost}
use Rattle.hys_lin.specs.Operations.{first_lost, outcome}
use Rattle.hys_lin.specs.Sums.{EachColumn}
use Rattle.hys_prog.specs.declared.program.Name.{Name}
use Rattle.hys_prog.specs.declared.program.Body.{Body}
use Rattle.hys_prog.specs.declared.program.Body.TheVariants.{Guard, Choice, Logic, Linear, NextBool, NextReal, OutBool, OutReal, MustHold, MustMost, MustZero}
use Rattle.hys_prog.specs.declared.program.ProgItem.{ProgItem}
use Rattle.hys_prog.specs.declared.program.Program.{Program}
use Rattle.hys_prog.specs.declared.program.Order.{Order}
use Rattle.hys_prog.specs.Programs.{IsProgram, EachItem, NameAt, BodyOver, IsVariable, definitions, is_named, is_defined}
use Rattle.hys_prog.specs.Steps.{places, is_auxiliary}
use Rattle.hys_prog.specs.Orders.{IsReady, IsOrderAfter, IsOrder}
use Rattle.hys_prog.specs.Places.{ItemAt, Defines, ArePlaces}
use Rattle.hys_prog.proofs.Defined.{name_below}
use Rattle.hys_prog.proofs.Names.{aux_named, named_some, at_count, place_within}
use Rattle.hys_prog.proofs.Members.{first_in}
use Rattle.std.proofs.Common.{Ok, Err, Result, Vec, Global}
use Rattle.std.specs.Result.{IsErrAnd}
use Rattle.hys_bound.specs.Answers.{Judged}
use Rattle.hys_bound.specs.declared.fault.BoundFault.{BoundFault}
use Rattle.hys_bound.specs.declared.fault.BoundFault.TheVariants.{Range, Memory}
use Rattle.hys_bound.specs.Ranges.{EachAsked, Placed, all_at, first_unfit, asked, asked_at, defined_interval, interval_at, place_in, with_interval, found, numbers_along, declared}

-- ---- the first that doesn't fit
pub unfit_none : (k : ℕ) (os : List Lost) → first_lost os ≡ None → first_unfit (all_at k os) ≡ None
unfit_none k [] e = refl
unfit_none k (o ∷ os) e = go (fits (outcome o)) e (unfit_none k os)
  where
    go : (b : Bool) → cond b (first_lost os) (Some o) ≡ None → (first_lost os ≡ None → first_unfit (all_at k os) ≡ None) → cond b (first_unfit (all_at k os)) (Some (record { item = k; what = o })) ≡ None
    go true e f = f e
    go false e f = absurd (cc)

pub unfit_some : (k : ℕ) (os : List Lost) (l : Lost) → first_lost os ≡ Some l → first_unfit (all_at k os) ≡ Some (record { item = k; what = l })
unfit_some k [] l e = absurd (cc)
unfit_some k (o ∷ os) l e = go (fits (outcome o)) e (unfit_some k os l)
  where
    go : (b : Bool) → cond b (first_lost os) (Some o) ≡ Some l → (first_lost os ≡ Some l → first_unfit (all_at k os) ≡ Some (record { item = k; what = l })) → cond b (first_unfit (all_at k os)) (Some (record { item = k; what = o })) ≡ Some (record { item = k; what = l })
    go true e f = f e
    go false e f = let q : o ≡ l = cc in rw q refl

pub unfit_after : (os qs : List Placed) → first_unfit os ≡ None → first_unfit (os ++ qs) ≡ first_unfit qs
unfit_after [] qs e = refl
unfit_after (o ∷ os) qs e = go (fits (outcome o.what)) (first_unfit os) (first_unfit (os ++ qs)) e (unfit_after os qs)
  where
    go : (b : Bool) (x y : Option Placed) → cond b x (Some o) ≡ None → (x ≡ None → y ≡ first_unfit qs) → cond b y (Some o) ≡ first_unfit qs
    go true x y e h = h e
    go false x y e h = absurd (cc)

pub unfit_before : (os qs : List Placed) (l : Placed) → first_unfit os ≡ Some l → first_unfit (os ++ qs) ≡ Some l
unfit_before [] qs l e = absurd (cc)
unfit_before (o ∷ os) qs l e = go (fits (outcome o.what)) (first_unfit os) (first_unfit (os ++ qs)) e (unfit_before os qs l)
  where
    go : (b : Bool) (x y : Option Placed) → cond b x (Some o) ≡ Some l → (x ≡ Some l → y ≡ Some l) → cond b y (Some o) ≡ Some l
    go true x y e h = h e
    go false x y e h = e

-- ---- the item at a place
pub interval_there : (boxes : List Interval) (ts : List ProgItem) (k : ℕ) (t : ProgItem) → k < length ts → t ≡ get_or ts k t → defined_interval boxes t.body ≡ interval_at boxes ts k
interval_there boxes [] k t b e = absurd (omega arith)
interval_there boxes (x ∷ ts) zero t b e = ap (λ (y : ProgItem). defined_interval boxes y.body) e
interval_there boxes (x ∷ ts) (suc k) t b e = interval_there boxes ts k t (omega arith) e

pub asked_there : (boxes : List Interval) (ts : List ProgItem) (k : ℕ) (t : ProgItem) → k < length ts → t ≡ get_or ts k t → asked boxes t.body ≡ asked_at boxes ts k
asked_there boxes [] k t b e = absurd (omega arith)
asked_there boxes (x ∷ ts) zero t b e = ap (λ (y : ProgItem). asked boxes y.body) e
asked_there boxes (x ∷ ts) (suc k) t b e = asked_there boxes ts k t (omega arith) e

-- ---- the one item that defines a name
pub the_place : (n : ℕ) (ts : List ProgItem) (k : ℕ) → definitions n ts ≡ 1 → ItemAt ts k (Defines n) → k ≡ place_in ts n
the_place n [] k d h = absurd h
the_place n (t ∷ ts) zero d h = rw (named_some n t.name h) refl
the_place n (t ∷ ts) (suc k) d h = go (is_named n t.name) d (at_count n ts k h) (λ e. the_place n ts k e h)
  where
    go : (b : Bool) → cond b 1 0 + definitions n ts ≡ 1 → 0 < definitions n ts → (definitions n ts ≡ 1 → k ≡ place_in ts n) → suc k ≡ cond b 0 (suc (place_in ts n))
    go true d l f = absurd (omega arith)
    go false d l f = ap suc (f (omega arith))

-- ---- names of the order are auxiliaries
order_defined : (p : Program) (taken ns : List ℕ) (k : ℕ) → IsOrderAfter p taken ns → k < length ns → NameAt p.names (get_or ns k 0) (λ x. is_defined x.role ≡ true)
order_defined p taken [] k h b = absurd (omega arith)
order_defined p taken (n ∷ ns) zero h b = aux_named p n (first_in (IsReady p taken) (places is_auxiliary p) n h.0)
order_defined p taken (n ∷ ns) (suc k) h b = order_defined p (n ∷ taken) ns k h.1 (omega arith)

-- what is known of a name of the order: it is a name, and the item that defines it stands at its place
pub record Here (p : Program) (n k : ℕ) : Type 0 where
  pub name : n < length p.names
  pub place : k ≡ place_in p.items n
  pub within : k < length p.items

pub here : (p : Program) (o : Order) (ps : List ℕ) (i : ℕ) → IsProgram p → IsOrder p o → ArePlaces p ps → i < length o.names → Here p (get_or o.names i 0) (get_or ps (get_or o.names i 0) 0)
here p o ps i h q a b =
    let d = order_defined p [] o.names i q b in
    let n : ℕ = get_or o.names i 0 in
    record {
      name = name_below (λ (x : Name). is_defined x.role ≡ true) p.names n d;
      place = the_place n p.items (get_or ps n 0) (h.once n d) (a n d);
      within = place_within n p.items (get_or ps n 0) (a n d);
    }

-- ---- the forms' columns are names
columns_below : (names : List Name) (c : ℕ) (ts : List Term) → length names ≡ c → EachColumn (λ n. NameAt names n IsVariable) ts → EachColumn (λ n. n < c) ts
columns_below names c [] e h = tt
columns_below names c (t ∷ ts) e h = (let b = name_below IsVariable names t.column h.0 in omega arith, columns_below names c ts e h.1)

asked_below : (names : List Name) (c : ℕ) (b : Body) → length names ≡ c → BodyOver names b → EachAsked (λ n. n < c) b
asked_below names c (Guard f e) q h = columns_below names c f.terms q h.0.1
asked_below names c (Choice l a b) q h = (columns_below names c a.terms q h.1.1, columns_below names c b.terms q h.2.1)
asked_below names c (Logic l) q h = tt
asked_below names c (Linear f) q h = columns_below names c f.terms q h.1
asked_below names c (NextBool l) q h = tt
asked_below names c (NextReal f) q h = tt
asked_below names c (OutBool l) q h = tt
asked_below names c (OutReal f) q h = tt
asked_below names c (MustHold l) q h = tt
asked_below names c (MustMost f) q h = tt
asked_below names c (MustZero f) q h = tt

pub items_below : (names : List Name) (c : ℕ) (ts : List ProgItem) → length names ≡ c → EachItem (λ t. BodyOver names t.body) ts → EachItem (λ t. EachAsked (λ n. n < c) t.body) ts
items_below names c [] e h = tt
items_below names c (t ∷ ts) e h = (asked_below names c t.body e h.0, items_below names c ts e h.1)

-- ---- one turn
pub record Onward (items : List ProgItem) (order : List ℕ) (start boxes : List Interval) (rest : List ℕ) : Type 0 where
  pub kept : length boxes ≡ length start
  pub goal_is : found items order start ≡ found items rest boxes
  pub numbers : first_unfit (numbers_along items order start) ≡ first_unfit (numbers_along items rest boxes)

pub onward_start : (items : List ProgItem) (order : List ℕ) (start : List Interval) → Onward items order start start order
onward_start items order start = record { kept = refl; goal_is = refl; numbers = refl }

drop_next : (ns : List ℕ) (i n : ℕ) → i < length ns → n ≡ get_or ns i 0 → drop i ns ≡ n ∷ drop (suc i) ns
drop_next [] i n b e = absurd (omega arith)
drop_next (x ∷ ns) zero n b e = ap (λ (y : ℕ). y ∷ ns) (sym e)
drop_next (x ∷ ns) (suc i) n b e = drop_next ns i n (omega arith) e

pub drop_here : (ns : List ℕ) (i n : ℕ) → i < length ns → n ≡ get_or ns i 0 → drop i ns ≡ n ∷ drop (i + 1) ns
drop_here ns i n b e = rw add-one (drop_next ns i n b e)

pub onward_more : (items : List ProgItem) (order : List ℕ) (start boxes : List Interval) (i n k : ℕ) (r : Interval) → Onward items order start boxes (drop i order) → i < length order → n ≡ get_or order i 0 → k ≡ place_in items n → r ≡ interval_at boxes items k → first_unfit (all_at k (asked_at boxes items k)) ≡ None → Onward items order start (set boxes n r) (drop (i + 1) order)
onward_more items order start boxes i n k r h b e p v f =
    let d = drop_here order i n b e in
    let g : set boxes n r ≡ with_interval items n boxes = ap (λ (z : Interval). set boxes n z) (v ∙ ap (λ (z : ℕ). interval_at boxes items z) p) in
    let u = subst (λ (z : ℕ). first_unfit (all_at z (asked_at boxes items z)) ≡ None) p f in
    record {
      kept = length-set boxes n r ∙ h.kept;
      goal_is = h.goal_is ∙ ap (λ (ns : List ℕ). found items ns boxes) d ∙ ap (λ (bs : List Interval). found items (drop (i + 1) order) bs) (sym g);
      numbers = h.numbers ∙ ap (λ (ns : List ℕ). first_unfit (numbers_along items ns boxes)) d ∙ unfit_after (all_at (place_in items n) (asked_at boxes items (place_in items n))) (numbers_along items (drop (i + 1) order) (with_interval items n boxes)) u ∙ ap (λ (bs : List Interval). first_unfit (numbers_along items (drop (i + 1) order) bs)) (sym g);
    }

pub onward_lost : (items : List ProgItem) (order : List ℕ) (start boxes : List Interval) (i n k : ℕ) (l : Placed) → Onward items order start boxes (drop i order) → i < length order → n ≡ get_or order i 0 → k ≡ place_in items n → first_unfit (all_at k (asked_at boxes items k)) ≡ Some l → first_unfit (numbers_along items order start) ≡ Some l
onward_lost items order start boxes i n k l h b e p f =
    let d = drop_here order i n b e in
    let u = subst (λ (z : ℕ). first_unfit (all_at z (asked_at boxes items z)) ≡ Some l) p f in
    h.numbers ∙ ap (λ (ns : List ℕ). first_unfit (numbers_along items ns boxes)) d ∙ unfit_before (all_at (place_in items n) (asked_at boxes items (place_in items n))) (numbers_along items (drop (i + 1) order) (with_interval items n boxes)) l u

pub onward_end : (items : List ProgItem) (order : List ℕ) (start boxes : List Interval) (i : ℕ) → Onward items order start boxes (drop i order) → length order ≤ i → (boxes ≡ found items order start) × (first_unfit (numbers_along items order start) ≡ None)
onward_end items order start boxes i h b =
    let d = drop_all i order b in
    (sym (h.goal_is ∙ ap (λ (ns : List ℕ). found items ns boxes) d), h.numbers ∙ ap (λ (ns : List ℕ). first_unfit (numbers_along items ns boxes)) d)

pub declared_count : (xs : List Name) → length (declared xs) ≡ length xs
declared_count [] = refl
declared_count (x ∷ xs) = ap suc (declared_count xs)

-- ---- the forms of a body
pub lost_after : (os qs : List Lost) → first_lost os ≡ None → first_lost (os ++ qs) ≡ first_lost qs
lost_after [] qs e = refl
lost_after (o ∷ os) qs e = go (fits (outcome o)) (first_lost os) (first_lost (os ++ qs)) e (lost_after os qs)
  where
    go : (b : Bool) (x y : Option Lost) → cond b x (Some o) ≡ None → (x ≡ None → y ≡ first_lost qs) → cond b y (Some o) ≡ first_lost qs
    go true x y e h = h e
    go false x y e h = absurd (cc)

pub lost_before : (os qs : List Lost) (l : Lost) → first_lost os ≡ Some l → first_lost (os ++ qs) ≡ Some l
lost_before [] qs l e = absurd (cc)
lost_before (o ∷ os) qs l e = go (fits (outcome o)) (first_lost os) (first_lost (os ++ qs)) e (lost_before os qs l)
  where
    go : (b : Bool) (x y : Option Lost) → cond b x (Some o) ≡ Some l → (x ≡ Some l → y ≡ Some l) → cond b y (Some o) ≡ Some l
    go true x y e h = h e
    go false x y e h = e

-- ---- the facts of one turn, by what the code holds
pub record Turn (p : Program) (n k boxes : ℕ) : Type 0 where
  pub place : k ≡ place_in p.items n
  pub within : k < length p.items
  pub name : n < length p.names
  pub below : EachItem (λ t. EachAsked (λ c. c < boxes) t.body) p.items

pub turn : (p : Program) (o : Order) (ps ns : List ℕ) (i k boxes : ℕ) → IsProgram p → IsOrder p o → ArePlaces p ps → length ps ≡ length p.names → ns ≡ o.names → i < length ns → k ≡ get_or ps (get_or ns i 0) k → boxes ≡ length (declared p.names) → Turn p (get_or ns i 0) k boxes
turn p o ps ns i k boxes h q a l e b f s = go ns (sym e) b f
  where
    go : (ns : List ℕ) → o.names ≡ ns → i < length ns → k ≡ get_or ps (get_or ns i 0) k → Turn p (get_or ns i 0) k boxes
    go ns e b f =
        let u : i < length o.names = rw e b in
        let r : Here p (get_or ns i 0) (get_or ps (get_or ns i 0) 0) = subst (λ (xs : List ℕ). Here p (get_or xs i 0) (get_or ps (get_or xs i 0) 0)) e (here p o ps i h q a u) in
        let v : get_or ns i 0 < length ps = rw l r.name in
        let w : k ≡ get_or ps (get_or ns i 0) 0 = f ∙ get_or_default_zero ps (get_or ns i 0) k v in
        record { place = w ∙ r.place; within = rw w r.within; name = r.name; below = items_below p.names boxes p.items (sym (s ∙ declared_count p.names)) h.bodies }

pub judged_on : (os qs : List Placed) (f : BoundFault) → Judged {X = Interval} os (Err f) → ((l : Placed) → first_unfit os ≡ Some l → first_unfit qs ≡ Some l) → Judged {X = Vec Interval Global} qs (Err f)
judged_on os qs (Range k l) h g = g (record { item = k; what = l }) h
judged_on os qs Memory h g = tt

pub named_below : (p : Program) (o : Order) (ns : List ℕ) (i c : ℕ) → IsProgram p → IsOrder p o → ns ≡ o.names → i < length ns → c ≡ length p.names → get_or ns i 0 < c
named_below p o ns i c h q e b l = go ns (sym e) b
  where
    go : (ns : List ℕ) → o.names ≡ ns → i < length ns → get_or ns i 0 < c
    go ns e b =
        let u : i < length o.names = rw e b in
        let d = name_below (λ (x : Name). is_defined x.role ≡ true) p.names (get_or o.names i 0) (order_defined p [] o.names i q u) in
        let g : get_or o.names i 0 ≡ get_or ns i 0 = ap (λ (xs : List ℕ). get_or xs i 0) e in
        omega arith

pub judged_err : (os : List Placed) (r : Result (Vec Interval Global) BoundFault) (f : BoundFault) → IsErrAnd r (λ e. e ≡ f) → Judged {X = Vec Interval Global} os (Err f) → Judged os r
judged_err os (Ok x) f h j = absurd h
judged_err os (Err e) f h j = subst (λ (z : BoundFault). Judged {X = Vec Interval Global} os (Err z)) (sym h) j
