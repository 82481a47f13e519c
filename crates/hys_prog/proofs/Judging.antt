-- The stops of a step over its assignment, and legal steps.
use Rattle.std.proofs.Common.{◌≡◌, ℕ, zero, suc, ◌+◌, List, [], ◌∷◌, ◌++◌, Option, Some, None, Bool, true, false, cond, map, length, refl, sym, ◌∙◌, ap, ap₂, subst, arith, inl, inr, ◌⊎◌, ◌||◌, Result, Ok, Err}
use Rattle.std.proofs.lemmas.List.{append_assoc}
use Rattle.std.specs.Prelude.{IsTrue, IfOk, ◌↔◌}
use Rattle.hys_number.specs.Number.{Number}
use Rattle.hys_number.specs.Ops.{whole, ◌≤ₙ◌, ◌<ₙ◌}
use Rattle.hys_number.proofs.Order.{lt_of_le-lt, lt_of_lt-le, lt_irrefl}
use Rattle.hys_lin.specs.declared.lost.Lost.{Lost}
use Rattle.hys_lin.specs.Sums.{Assignment, at, value}
use Rattle.hys_prog.specs.declared.program.Role.{Role}
use Rattle.hys_prog.specs.declared.program.Role.TheVariants.{State, Input, Output, Parameter, Aux}
use Rattle.hys_prog.specs.declared.program.Name.{Name}
use Rattle.hys_prog.specs.declared.program.Body.{Body}
use Rattle.hys_prog.specs.declared.program.Body.TheVariants.{Guard, Choice, Logic, Linear, NextBool, NextReal, OutBool, OutReal, MustHold, MustMost, MustZero}
use Rattle.hys_prog.specs.declared.program.ProgItem.{ProgItem}
use Rattle.hys_prog.specs.declared.program.Program.{Program}
use Rattle.hys_prog.specs.declared.program.Order.{Order}
use Rattle.hys_prog.specs.declared.stop.Stop.{Stop}
use Rattle.hys_prog.specs.declared.stop.Stop.TheVariants.{Bounds, Gap, Must, Range}
use Rattle.hys_prog.specs.declared.stop.StepFault.{StepFault}
use Rattle.hys_prog.specs.declared.stop.Stepped.{Stepped}
use Rattle.hys_prog.specs.Programs.{IsProgram, EachItem, NameAt, Named, Suits, IsVariable, has_column, is_named, is_must, is_defined, definitions}
use Rattle.hys_prog.specs.Steps.{places, is_auxiliary, is_state, is_output, is_input, is_given, InBox, InGap, GapAt, Demand, DemandOf, Next, NextOf, OfName, EachNameFrom, Step, Legal}
use Rattle.hys_prog.specs.Orders.{IsOrder, IsIn}
use Rattle.hys_prog.specs.Places.{Defines}
use Rattle.hys_prog.specs.Stops.{Check, IsValued, Judged, first_stop, at_most, equals, in_box, one, no_gap, fitting, form_fits, body_checks, boxes_from, checks_of, checks_along, demands_from, stops, number_of, number_in, numbers_in, Keeps, IsLawful, IsStepped, IsMet, AllFit}
use Rattle.hys_prog.specs.Walk.{Gives, found_checks, started, exact, walk_checks, after_checks}
use Rattle.hys_prog.proofs.Defined.{at_item, each_at, some_named}
use Rattle.hys_prog.proofs.Deciding.{most_yes, yes_most, equal_yes, yes_equal, or_parts, or_left, or_right, box_yes, yes_box, sides}
use Rattle.hys_prog.proofs.Names.{name_map}
use Rattle.hys_prog.proofs.Placing.{first_at, in_part, state_defined, output_defined}
use Rattle.hys_prog.proofs.Walking.{checks_here, started_count}
use Rattle.hys_prog.proofs.Reading.{AllRead, Same, same_along, same_demands, same_numbers, all_read, named_suits}
use Rattle.hys_prog.proofs.Assigning.{is_fixed, found_same, in_order}
use Rattle.hys_prog.proofs.Valuing.{Stands, once_here, number_here, each_of, cases_follow, started_agrees, valued_exact, exact_valued}

-- ---- the checks are those of each valued assignment
boxes_same : (part : Role → Bool) (v w : Assignment) (k : ℕ) (ks : List Name) → ((m : ℕ) → NameAt ks m (λ x. part x.role ≡ true) → v (k + m) ≡ w (k + m)) → boxes_from k part v ks ≡ boxes_from k part w ks
boxes_same part v w k [] f = refl
boxes_same part v w k (y ∷ ks) f = ap₂ (λ (xs ys : List Check). xs ++ ys) (go (part y.role) (λ e. let z : k + 0 ≡ k = omega arith in ap v (sym z) ∙ f 0 e ∙ ap w z)) (boxes_same part v w (suc k) ks (λ m e. let z : suc k + m ≡ k + suc m = omega arith in ap v z ∙ f (suc m) e ∙ ap w (sym z)))
  where
    go : (b : Bool) → (b ≡ true → v k ≡ w k) → cond b (one (in_box y (v k)) (Bounds k)) [] ≡ cond b (one (in_box y (w k)) (Bounds k)) []
    go true f = ap (λ (a : Number). one (in_box y a) (Bounds k)) (f refl)
    go false f = refl

not_output : (r : Role) → has_column r ≡ true → is_output r ≡ false
not_output State e = refl
not_output Input e = refl
not_output Output e = absurd (cc)
not_output Parameter e = refl
not_output Aux e = refl

state_fixed : (r : Role) → is_state r ≡ true → is_fixed r ≡ true
state_fixed State e = refl
state_fixed Input e = refl
state_fixed Output e = absurd (cc)
state_fixed Parameter e = refl
state_fixed Aux e = absurd (cc)

input_fixed : (r : Role) → is_input r ≡ true → is_fixed r ≡ true
input_fixed State e = refl
input_fixed Input e = refl
input_fixed Output e = absurd (cc)
input_fixed Parameter e = refl
input_fixed Aux e = absurd (cc)

aux_output : (r : Role) → is_auxiliary r ≡ true → is_output r ≡ false
aux_output State e = refl
aux_output Input e = refl
aux_output Output e = absurd (cc)
aux_output Parameter e = refl
aux_output Aux e = refl

six : (a b c d e f : List Check) → (a ++ b) ++ (c ++ (d ++ (e ++ f))) ≡ a ++ (b ++ (c ++ (d ++ (e ++ f))))
six a b c d e f = append_assoc a b (c ++ (d ++ (e ++ f)))

-- over the exact values all bodies read the same as over a valued assignment
exact_reads : (p : Program) (o : Order) (x u : List Number) (w : Assignment) → IsProgram p → IsOrder p o → IsValued p x u w → AllRead (Same (at (exact p o x u)) w) p.items
exact_reads p o x u w h q v = all_read (Same (at (exact p o x u)) w) p.names p.items h.bodies (λ m i. valued_exact p o x u w h q v m (name_map IsVariable (λ (x : Name). is_output x.role ≡ false) p.names m (λ x e. not_output x.role e) i))

boxes_started : (part : Role → Bool) (p : Program) (x u : List Number) (w : Assignment) → ((r : Role) → part r ≡ true → is_fixed r ≡ true) → IsValued p x u w → boxes_from 0 part (at (started p.names x u)) p.names ≡ boxes_from 0 part w p.names
boxes_started part p x u w d v = boxes_same part (at (started p.names x u)) w 0 p.names (λ m e. let z : 0 + m ≡ m = omega arith in ap (at (started p.names x u)) z ∙ started_agrees p x u w v m (inl (name_map (λ (x : Name). part x.role ≡ true) (λ (x : Name). is_fixed x.role ≡ true) p.names m (λ x e. d x.role e) e)) ∙ ap w (sym z))

pub walk_stops : (p : Program) (o : Order) (x u : List Number) (w : Assignment) → IsProgram p → IsOrder p o → IsValued p x u w → walk_checks p o x u ≡ stops p o w
walk_stops p o x u w h q v =
    let s = started p.names x u in
    let e = exact p o x u in
    let r = exact_reads p o x u w h q v in
    ap₂ (λ (a b : List Check). (a ++ b) ++ (found_checks p.items o.names s ++ after_checks p e)) (boxes_started is_state p x u w state_fixed v) (boxes_started is_input p x u w input_fixed v)
    ∙ ap₂ (λ (a b : List Check). (boxes_from 0 is_state w p.names ++ boxes_from 0 is_input w p.names) ++ (a ++ (b ++ (checks_along (at e) p.items (places is_state p) ++ checks_along (at e) p.items (places is_output p)))))
    (found_same p [] o.names s w h q (started_count p.names 0 0 x u) (cases_follow p w h v.cases) (started_agrees p x u w v)) (same_demands (at e) w 0 p.items r)
    ∙ ap₂ (λ (a b : List Check). (boxes_from 0 is_state w p.names ++ boxes_from 0 is_input w p.names) ++ (checks_along w p.items o.names ++ (demands_from 0 w p.items ++ (a ++ b))))
    (same_along (at e) w p.items (places is_state p) r) (same_along (at e) w p.items (places is_output p) r)
    ∙ six (boxes_from 0 is_state w p.names) (boxes_from 0 is_input w p.names) (checks_along w p.items o.names) (demands_from 0 w p.items) (checks_along w p.items (places is_state p)) (checks_along w p.items (places is_output p))

-- ---- lawful checks
pub none_lawful : (cs : List Check) → first_stop cs ≡ None → IsLawful cs
none_lawful [] e = tt
none_lawful (c ∷ cs) e = go c.passes e (none_lawful cs)
  where
    holds : (s : Stop) → Keeps true s
    holds (Bounds n) = refl
    holds (Gap k) = refl
    holds (Must k) = refl
    holds (Range k l) = tt

    go : (b : Bool) → cond b (first_stop cs) (Some c.stop) ≡ None → (first_stop cs ≡ None → IsLawful cs) → Keeps b c.stop × IsLawful cs
    go true e f = (holds c.stop, f e)
    go false e f = absurd (cc)

lawful_parts : (xs ys : List Check) → IsLawful (xs ++ ys) → IsLawful xs × IsLawful ys
lawful_parts [] ys h = (tt, h)
lawful_parts (c ∷ xs) ys h = let r = lawful_parts xs ys h.1 in ((h.0, r.0), r.1)

lawful_both : (xs ys : List Check) → IsLawful xs → IsLawful ys → IsLawful (xs ++ ys)
lawful_both [] ys h k = k
lawful_both (c ∷ xs) ys h k = (h.0, lawful_both xs ys h.1 k)

lawful_fits : (k : ℕ) (os : List Lost) → IsLawful (fitting k os)
lawful_fits k [] = tt
lawful_fits k (o ∷ os) = (tt, lawful_fits k os)

-- ---- boxes
lawful_boxes : (w : Assignment) (k : ℕ) (ks : List Name) → IsLawful (boxes_from k is_state w ks) → IsLawful (boxes_from k is_input w ks) → EachNameFrom k (λ n x. IsTrue (is_given x.role) → InBox x (w n)) ks
lawful_boxes w k [] h i = tt
lawful_boxes w k (y ∷ ks) h i =
    let c = one (in_box y (w k)) (Bounds k) in
    let s = lawful_parts (cond (is_state y.role) c []) (boxes_from (suc k) is_state w ks) h in
    let t = lawful_parts (cond (is_input y.role) c []) (boxes_from (suc k) is_input w ks) i in
    (λ g. go y.role g s.0 t.0, lawful_boxes w (suc k) ks s.1 t.1)
  where
    go : (r : Role) → is_given r ≡ true → IsLawful (cond (is_state r) (one (in_box y (w k)) (Bounds k)) []) → IsLawful (cond (is_input r) (one (in_box y (w k)) (Bounds k)) []) → InBox y (w k)
    go State g s t = box_yes y (w k) s.0
    go Input g s t = box_yes y (w k) t.0
    go Output g s t = absurd (cc)
    go Parameter g s t = absurd (cc)
    go Aux g s t = absurd (cc)

boxes_lawful : (part : Role → Bool) (w : Assignment) (k : ℕ) (ks : List Name) → ((r : Role) → part r ≡ true → is_given r ≡ true) → EachNameFrom k (λ n x. IsTrue (is_given x.role) → InBox x (w n)) ks → IsLawful (boxes_from k part w ks)
boxes_lawful part w k [] d h = tt
boxes_lawful part w k (y ∷ ks) d h = lawful_both (cond (part y.role) (one (in_box y (w k)) (Bounds k)) []) (boxes_from (suc k) part w ks) (go (part y.role) (λ e. h.0 (d y.role e))) (boxes_lawful part w (suc k) ks d h.1)
  where
    go : (b : Bool) → (b ≡ true → InBox y (w k)) → IsLawful (cond b (one (in_box y (w k)) (Bounds k)) [])
    go true f = (yes_box y (w k) (f refl), tt)
    go false f = tt

state_given : (r : Role) → is_state r ≡ true → is_given r ≡ true
state_given State e = refl
state_given Input e = refl
state_given Output e = absurd (cc)
state_given Parameter e = absurd (cc)
state_given Aux e = absurd (cc)

input_given : (r : Role) → is_input r ≡ true → is_given r ≡ true
input_given State e = refl
input_given Input e = refl
input_given Output e = absurd (cc)
input_given Parameter e = absurd (cc)
input_given Aux e = absurd (cc)

-- ---- demands
pub lawful_demand : (w : Assignment) (k : ℕ) (b : Body) → IsLawful (cond (is_must b) (body_checks w k b) []) → DemandOf w b
lawful_demand w k (Guard f e) h = tt
lawful_demand w k (Choice l a b) h = tt
lawful_demand w k (Logic l) h = tt
lawful_demand w k (Linear f) h = tt
lawful_demand w k (NextBool l) h = tt
lawful_demand w k (NextReal f) h = tt
lawful_demand w k (OutBool l) h = tt
lawful_demand w k (OutReal f) h = tt
lawful_demand w k (MustHold l) h = h.0
lawful_demand w k (MustMost f) h = most_yes (value f w) (whole 0) (lawful_parts (form_fits w k f) (one (at_most (value f w) (whole 0)) (Must k)) h).1.0
lawful_demand w k (MustZero f) h = equal_yes (value f w) (whole 0) (lawful_parts (form_fits w k f) (one (equals (value f w) (whole 0)) (Must k)) h).1.0

lawful_demands : (w : Assignment) (k : ℕ) (ts : List ProgItem) → IsLawful (demands_from k w ts) → EachItem (Demand w) ts
lawful_demands w k [] h = tt
lawful_demands w k (t ∷ ts) h = let r = lawful_parts (cond (is_must t.body) (body_checks w k t.body) []) (demands_from (suc k) w ts) h in (lawful_demand w k t.body r.0, lawful_demands w (suc k) ts r.1)

pub demand_lawful : (w : Assignment) (k : ℕ) (b : Body) → DemandOf w b → IsLawful (cond (is_must b) (body_checks w k b) [])
demand_lawful w k (Guard f e) h = tt
demand_lawful w k (Choice l a b) h = tt
demand_lawful w k (Logic l) h = tt
demand_lawful w k (Linear f) h = tt
demand_lawful w k (NextBool l) h = tt
demand_lawful w k (NextReal f) h = tt
demand_lawful w k (OutBool l) h = tt
demand_lawful w k (OutReal f) h = tt
demand_lawful w k (MustHold l) h = (h, tt)
demand_lawful w k (MustMost f) h = lawful_both (form_fits w k f) (one (at_most (value f w) (whole 0)) (Must k)) (lawful_fits k _) (yes_most (value f w) (whole 0) h, tt)
demand_lawful w k (MustZero f) h = lawful_both (form_fits w k f) (one (equals (value f w) (whole 0)) (Must k)) (lawful_fits k _) (yes_equal (value f w) (whole 0) h, tt)

demands_lawful : (w : Assignment) (k : ℕ) (ts : List ProgItem) → EachItem (Demand w) ts → IsLawful (demands_from k w ts)
demands_lawful w k [] h = tt
demands_lawful w k (t ∷ ts) h = lawful_both (cond (is_must t.body) (body_checks w k t.body) []) (demands_from (suc k) w ts) (demand_lawful w k t.body h.0) (demands_lawful w (suc k) ts h.1)

-- ---- gaps
pub gap_shut : (k : ℕ) (e g : Number) → IsLawful (no_gap k e g) → (whole 0 <ₙ g) × (g <ₙ e) → ⊥
gap_shut k e g h i = go (or_parts (at_most g (whole 0)) (at_most e g) h.0)
  where
    go : (at_most g (whole 0) ≡ true) ⊎ (at_most e g ≡ true) → ⊥
    go (inl m) = lt_irrefl g (lt_of_le-lt g (whole 0) g (most_yes g (whole 0) m) i.0)
    go (inr m) = lt_irrefl g (lt_of_lt-le g e g i.1 (most_yes e g m))

pub gap_open : (k : ℕ) (e g : Number) → ((whole 0 <ₙ g) × (g <ₙ e) → ⊥) → IsLawful (no_gap k e g)
gap_open k e g f = (go (sides g (whole 0)) (sides e g), tt)
  where
    go : ((g ≤ₙ whole 0) × (at_most g (whole 0) ≡ true)) ⊎ ((whole 0 <ₙ g) × (at_most g (whole 0) ≡ false)) → ((e ≤ₙ g) × (at_most e g ≡ true)) ⊎ ((g <ₙ e) × (at_most e g ≡ false)) → at_most g (whole 0) || at_most e g ≡ true
    go (inl a) b = or_left (at_most g (whole 0)) (at_most e g) a.1
    go (inr a) (inl b) = or_right (at_most g (whole 0)) (at_most e g) b.1
    go (inr a) (inr b) = absurd (f (a.0, b.0))

lawful_gap : (w : Assignment) (k : ℕ) (b : Body) → IsLawful (body_checks w k b) → GapAt w b → ⊥
lawful_gap w k (Guard f e) h i = gap_shut k e (value f w) (lawful_parts (form_fits w k f) (no_gap k e (value f w)) h).1 i
lawful_gap w k (Choice l a b) h i = i
lawful_gap w k (Logic l) h i = i
lawful_gap w k (Linear f) h i = i
lawful_gap w k (NextBool l) h i = i
lawful_gap w k (NextReal f) h i = i
lawful_gap w k (OutBool l) h i = i
lawful_gap w k (OutReal f) h i = i
lawful_gap w k (MustHold l) h i = i
lawful_gap w k (MustMost f) h i = i
lawful_gap w k (MustZero f) h i = i

gap_lawful : (w : Assignment) (k : ℕ) (b : Body) → (GapAt w b → ⊥) → is_must b ≡ false → IsLawful (body_checks w k b)
gap_lawful w k (Guard f e) h i = lawful_both (form_fits w k f) (no_gap k e (value f w)) (lawful_fits k _) (gap_open k e (value f w) h)
gap_lawful w k (Choice l a b) h i = lawful_fits k _
gap_lawful w k (Logic l) h i = tt
gap_lawful w k (Linear f) h i = lawful_fits k _
gap_lawful w k (NextBool l) h i = tt
gap_lawful w k (NextReal f) h i = lawful_fits k _
gap_lawful w k (OutBool l) h i = tt
gap_lawful w k (OutReal f) h i = lawful_fits k _
gap_lawful w k (MustHold l) h i = absurd (cc)
gap_lawful w k (MustMost f) h i = absurd (cc)
gap_lawful w k (MustZero f) h i = absurd (cc)

-- ---- items that define names
pub first_here : (p : Program) (w : Assignment) (k n : ℕ) (t : ProgItem) → IsProgram p → Stands p k t → t.name ≡ Some n → checks_of w n 0 p.items ≡ body_checks w k t.body
first_here p w k n t h s e = checks_here w n p.items k t (first_at n p.items k (once_here p k n t h s e) (at_item (Defines n) p.items k t e s.below s.is)) s.is

along_lawful : (w : Assignment) (ts : List ProgItem) (ns : List ℕ) (n : ℕ) → IsLawful (checks_along w ts ns) → IsIn n ns → IsLawful (checks_of w n 0 ts)
along_lawful w ts [] n h i = absurd i
along_lawful w ts (m ∷ ns) n h (inl e) = subst (λ (k : ℕ). IsLawful (checks_of w k 0 ts)) e (lawful_parts (checks_of w m 0 ts) (checks_along w ts ns) h).0
along_lawful w ts (m ∷ ns) n h (inr i) = along_lawful w ts ns n (lawful_parts (checks_of w m 0 ts) (checks_along w ts ns) h).1 i

must_gap : (w : Assignment) (b : Body) → is_must b ≡ true → GapAt w b → ⊥
must_gap w (Guard f e) q i = absurd (cc)
must_gap w (Choice l a b) q i = i
must_gap w (Logic l) q i = i
must_gap w (Linear f) q i = i
must_gap w (NextBool l) q i = i
must_gap w (NextReal f) q i = i
must_gap w (OutBool l) q i = i
must_gap w (OutReal f) q i = i
must_gap w (MustHold l) q i = i
must_gap w (MustMost f) q i = i
must_gap w (MustZero f) q i = i

aux_role : (r : Role) → r ≡ Aux → is_auxiliary r ≡ true
aux_role r e = rw e refl

gap_aux : (w : Assignment) (b : Body) (x : Name) → GapAt w b → Suits b x → is_auxiliary x.role ≡ true
gap_aux w (Guard f e) x i s = aux_role x.role s.0
gap_aux w (Choice l a b) x i s = absurd i
gap_aux w (Logic l) x i s = absurd i
gap_aux w (Linear f) x i s = absurd i
gap_aux w (NextBool l) x i s = absurd i
gap_aux w (NextReal f) x i s = absurd i
gap_aux w (OutBool l) x i s = absurd i
gap_aux w (OutReal f) x i s = absurd i
gap_aux w (MustHold l) x i s = absurd i
gap_aux w (MustMost f) x i s = absurd i
gap_aux w (MustZero f) x i s = absurd i

lawful_no_gap : (p : Program) (o : Order) (w : Assignment) → IsProgram p → IsOrder p o → IsLawful (checks_along w p.items o.names) → EachItem (λ t. ¬ (InGap w t)) p.items
lawful_no_gap p o w h q l = each_of (λ (t : ProgItem). ¬ (InGap w t)) p.items (λ k t b e i. go k t (record { below = b; is = e }) t.name refl (each_at (λ (t : ProgItem). Named p.names t.name t.body) p.items k t h.named b e) i)
  where
    go : (k : ℕ) (t : ProgItem) → Stands p k t → (m : Option ℕ) → t.name ≡ m → Named p.names m t.body → InGap w t → ⊥
    go k t s None e d i = must_gap w t.body d i
    go k t s (Some n) e d i =
        let a = name_map (Suits t.body) (λ (x : Name). is_auxiliary x.role ≡ true) p.names n (λ x c. gap_aux w t.body x i c) d in
        lawful_gap w k t.body (subst IsLawful (first_here p w k n t h s e) (along_lawful w p.items o.names n l (in_order p o n q a))) i

suits_must : (xs : List Name) (n : ℕ) (b : Body) → NameAt xs n (Suits b) → is_must b ≡ false
suits_must [] n b h = absurd h
suits_must (x ∷ xs) (suc n) b h = suits_must xs n b h
suits_must (x ∷ xs) zero (Guard f e) h = refl
suits_must (x ∷ xs) zero (Choice l a b) h = refl
suits_must (x ∷ xs) zero (Logic l) h = refl
suits_must (x ∷ xs) zero (Linear f) h = refl
suits_must (x ∷ xs) zero (NextBool l) h = refl
suits_must (x ∷ xs) zero (NextReal f) h = refl
suits_must (x ∷ xs) zero (OutBool l) h = refl
suits_must (x ∷ xs) zero (OutReal f) h = refl
suits_must (x ∷ xs) zero (MustHold l) h = absurd h
suits_must (x ∷ xs) zero (MustMost f) h = absurd h
suits_must (x ∷ xs) zero (MustZero f) h = absurd h

of_lawful : (names : List Name) (w : Assignment) (n k : ℕ) (ts : List ProgItem) → EachItem (λ t. ¬ (InGap w t)) ts → EachItem (λ t. Named names t.name t.body) ts → IsLawful (checks_of w n k ts)
of_lawful names w n k [] h d = tt
of_lawful names w n k (t ∷ ts) h d = go (is_named n t.name) refl (of_lawful names w n (suc k) ts h.1 d.1)
  where
    go : (b : Bool) → is_named n t.name ≡ b → IsLawful (checks_of w n (suc k) ts) → IsLawful (cond b (body_checks w k t.body) (checks_of w n (suc k) ts))
    go true e r = gap_lawful w k t.body h.0 (suits_must names n t.body (named_suits names n t.name t.body (some_named n t.name e) d.0))
    go false e r = r

each_lawful : (p : Program) (w : Assignment) (ns : List ℕ) → IsProgram p → EachItem (λ t. ¬ (InGap w t)) p.items → IsLawful (checks_along w p.items ns)
each_lawful p w [] h g = tt
each_lawful p w (n ∷ ns) h g = lawful_both (checks_of w n 0 p.items) (checks_along w p.items ns) (of_lawful p.names w n 0 p.items g h.named) (each_lawful p w ns h g)

-- ---- next values and outputs
abbrev after_of : Program → Assignment → Assignment
after_of p w n = number_in w n p.items

next_case : (w after : Assignment) (n : ℕ) (b : Body) → after n ≡ number_of w b → Next w after n b
next_case w after n (Guard f e) h = tt
next_case w after n (Choice l a b) h = tt
next_case w after n (Logic l) h = tt
next_case w after n (Linear f) h = tt
next_case w after n (NextBool l) h = h
next_case w after n (NextReal f) h = h
next_case w after n (OutBool l) h = h
next_case w after n (OutReal f) h = h
next_case w after n (MustHold l) h = tt
next_case w after n (MustMost f) h = tt
next_case w after n (MustZero f) h = tt

all_next : (p : Program) (w : Assignment) → IsProgram p → EachItem (NextOf w (after_of p w)) p.items
all_next p w h = each_of (NextOf w (after_of p w)) p.items (λ k t b e. go k t (record { below = b; is = e }) t.name refl)
  where
    go : (k : ℕ) (t : ProgItem) → Stands p k t → (m : Option ℕ) → t.name ≡ m → OfName (λ n. Next w (after_of p w) n t.body) m
    go k t s None e = tt
    go k t s (Some n) e = next_case w (after_of p w) n t.body (number_here p w k n t h s e)

mapped : (p : Program) (w : Assignment) (ns : List ℕ) → map (after_of p w) ns ≡ numbers_in w p.items ns
mapped p w [] = refl
mapped p w (n ∷ ns) = ap (λ (xs : List Number). number_in w n p.items ∷ xs) (mapped p w ns)

-- ---- legal steps
pub lawful_legal : (p : Program) (o : Order) (x u : List Number) (w : Assignment) → IsProgram p → IsOrder p o → IsValued p x u w → IsLawful (stops p o w) → Legal p x u w (numbers_in w p.items (places is_state p)) (numbers_in w p.items (places is_output p))
lawful_legal p o x u w h q v l =
    let after = checks_along w p.items (places is_state p) ++ checks_along w p.items (places is_output p) in
    let a = lawful_parts (boxes_from 0 is_state w p.names) (boxes_from 0 is_input w p.names ++ (checks_along w p.items o.names ++ (demands_from 0 w p.items ++ after))) l in
    let b = lawful_parts (boxes_from 0 is_input w p.names) (checks_along w p.items o.names ++ (demands_from 0 w p.items ++ after)) a.1 in
    let c = lawful_parts (checks_along w p.items o.names) (demands_from 0 w p.items ++ after) b.1 in
    let d = lawful_parts (demands_from 0 w p.items) after c.1 in
    record {
      step = record { parameters = v.parameters; states = v.states; inputs = v.inputs; cases = v.cases; after = after_of p w; next = all_next p w h; end = mapped p w (places is_state p); outputs = mapped p w (places is_output p) };
      boxes = lawful_boxes w 0 p.names a.0 b.0;
      demands = lawful_demands w 0 p.items d.0;
      no_gap = lawful_no_gap p o w h q c.0;
    }

pub legal_lawful : (p : Program) (o : Order) (x u : List Number) (w : Assignment) (x' y : List Number) → IsProgram p → Legal p x u w x' y → IsLawful (stops p o w)
legal_lawful p o x u w x' y h l =
    let next = checks_along w p.items (places is_state p) in
    let out = checks_along w p.items (places is_output p) in
    let along = checks_along w p.items o.names in
    let must = demands_from 0 w p.items in
    let g = l.no_gap in
    lawful_both (boxes_from 0 is_state w p.names) (boxes_from 0 is_input w p.names ++ (along ++ (must ++ (next ++ out)))) (boxes_lawful is_state w 0 p.names state_given l.boxes)
    (lawful_both (boxes_from 0 is_input w p.names) (along ++ (must ++ (next ++ out))) (boxes_lawful is_input w 0 p.names input_given l.boxes)
    (lawful_both along (must ++ (next ++ out)) (each_lawful p w o.names h g)
    (lawful_both must (next ++ out) (demands_lawful w 0 p.items l.demands)
    (lawful_both next out (each_lawful p w (places is_state p) h g) (each_lawful p w (places is_output p) h g)))))

pub given_step : (p : Program) (x u : List Number) (w : Assignment) → IsProgram p → IsValued p x u w → Step p x u w (numbers_in w p.items (places is_state p)) (numbers_in w p.items (places is_output p))
given_step p x u w h v = record {
  parameters = v.parameters;
  states = v.states;
  inputs = v.inputs;
  cases = v.cases;
  after = after_of p w;
  next = all_next p w h;
  end = mapped p w (places is_state p);
  outputs = mapped p w (places is_output p);
}

-- ---- what the walk gives
pub judged_stops : (p : Program) (o : Order) (x u : List Number) (r : Result Stepped StepFault) → IsProgram p → IsOrder p o → Judged (walk_checks p o x u) r → (w : Assignment) → IsValued p x u w → Judged (stops p o w) r
judged_stops p o x u r h q j w v = subst (λ (cs : List Check). Judged cs r) (walk_stops p o x u w h q v) j

pub walk_stepped : (p : Program) (o : Order) (x u : List Number) (r : Result Stepped StepFault) → IsProgram p → IsOrder p o → length x ≡ length (places is_state p) → length u ≡ length (places is_input p) → IfOk r (λ s. Gives p (at (exact p o x u)) s) → Judged (walk_checks p o x u) r → IfOk r (λ s. IsStepped p x u s)
walk_stepped p o x u (Err f) h q l m g j = tt
walk_stepped p o x u (Ok s) h q l m g j =
    let w = at (exact p o x u) in
    let v = exact_valued p o x u h q l m in
    let z = subst (λ (cs : List Check). first_stop cs ≡ None) (walk_stops p o x u w h q v) j in
    let y = lawful_legal p o x u w h q v (none_lawful (stops p o w) z) in
    record { values = w; legal = rw (g.next, g.outputs) y; aux = g.aux }

-- ---- no check fails
pub lawful_fit : (cs : List Check) → first_stop cs ≡ None → AllFit cs
lawful_fit [] e = tt
lawful_fit (c ∷ cs) e = go c.passes e (lawful_fit cs)
  where
    holds : (s : Stop) → IsMet true s
    holds (Bounds n) = tt
    holds (Gap k) = tt
    holds (Must k) = tt
    holds (Range k l) = refl

    go : (b : Bool) → cond b (first_stop cs) (Some c.stop) ≡ None → (first_stop cs ≡ None → AllFit cs) → IsMet b c.stop × AllFit cs
    go true e f = (holds c.stop, f e)
    go false e f = absurd (cc)

pub fit_none : (cs : List Check) → IsLawful cs → AllFit cs → first_stop cs ≡ None
fit_none [] h k = refl
fit_none (c ∷ cs) h k = rw (go c.passes c.stop h.0 k.0) (fit_none cs h.1 k.1)
  where
    go : (b : Bool) (s : Stop) → Keeps b s → IsMet b s → b ≡ true
    go b (Bounds n) h k = h
    go b (Gap i) h k = h
    go b (Must i) h k = h
    go b (Range i l) h k = k

pub none_fails : (cs : List Check) → (first_stop cs ≡ None) ↔ (IsLawful cs × AllFit cs)
none_fails cs = (λ e. (none_lawful cs e, lawful_fit cs e), λ h. fit_none cs h.0 h.1)

-- ---- the next values and the outputs of a step
not_aux : (r : Role) → r ≡ Aux → is_auxiliary r ≡ false → ⊥
not_aux r e f = let q = rw e at f in absurd (cc)

next_number : (w after : Assignment) (n : ℕ) (b : Body) (x : Name) → Suits b x → is_auxiliary x.role ≡ false → Next w after n b → after n ≡ number_of w b
next_number w after n (Guard f e) x s a h = absurd (not_aux x.role s.0 a)
next_number w after n (Choice l c d) x s a h = absurd (not_aux x.role s.0 a)
next_number w after n (Logic l) x s a h = absurd (not_aux x.role s.0 a)
next_number w after n (Linear f) x s a h = absurd (not_aux x.role s.0 a)
next_number w after n (NextBool l) x s a h = h
next_number w after n (NextReal f) x s a h = h
next_number w after n (OutBool l) x s a h = h
next_number w after n (OutReal f) x s a h = h
next_number w after n (MustHold l) x s a h = absurd s
next_number w after n (MustMost f) x s a h = absurd s
next_number w after n (MustZero f) x s a h = absurd s

suits_both : (Q : Name → Type 0) (xs : List Name) (n : ℕ) (b : Body) → NameAt xs n (Suits b) → NameAt xs n Q → (x : Name) × Suits b x × Q x
suits_both Q [] n b h a = absurd h
suits_both Q (x ∷ xs) zero b h a = (x, h, a)
suits_both Q (x ∷ xs) (suc n) b h a = suits_both Q xs n b h a

next_of : (w after : Assignment) (n : ℕ) (o : Option ℕ) (b : Body) → o ≡ Some n → OfName (λ m. Next w after m b) o → Next w after n b
next_of w after n None b e h = absurd (cc)
next_of w after n (Some m) b e h = let q : m ≡ n = cc in subst (λ (i : ℕ). Next w after i b) q h

next_in : (names : List Name) (w after : Assignment) (n : ℕ) (ts : List ProgItem) → EachItem (NextOf w after) ts → EachItem (λ t. Named names t.name t.body) ts → NameAt names n (λ x. is_auxiliary x.role ≡ false) → definitions n ts ≡ 1 → after n ≡ number_in w n ts
next_in names w after n [] h k a d = absurd (omega arith)
next_in names w after n (t ∷ ts) h k a d = go (is_named n t.name) refl d (λ e. next_in names w after n ts h.1 k.1 a e)
  where
    go : (b : Bool) → is_named n t.name ≡ b → cond b 1 0 + definitions n ts ≡ 1 → (definitions n ts ≡ 1 → after n ≡ number_in w n ts) → after n ≡ cond b (number_of w t.body) (number_in w n ts)
    go true e d f =
        let q = some_named n t.name e in
        let s = suits_both (λ (x : Name). is_auxiliary x.role ≡ false) names n t.body (named_suits names n t.name t.body q k.0) a in
        next_number w after n t.body s.0 s.1 s.2 (next_of w after n t.name t.body q h.0)
    go false e d f = f (omega arith)

state_other : (r : Role) → is_state r ≡ true → is_auxiliary r ≡ false
state_other State e = refl
state_other Input e = refl
state_other Output e = refl
state_other Parameter e = refl
state_other Aux e = absurd (cc)

output_other : (r : Role) → is_output r ≡ true → is_auxiliary r ≡ false
output_other State e = refl
output_other Input e = refl
output_other Output e = refl
output_other Parameter e = refl
output_other Aux e = absurd (cc)

after_numbers : (part : Role → Bool) (p : Program) (w after : Assignment) → ((r : Role) → part r ≡ true → is_auxiliary r ≡ false) → ((r : Role) → part r ≡ true → is_defined r ≡ true) → IsProgram p → EachItem (NextOf w after) p.items →
    (ns : List ℕ) → ((n : ℕ) → IsIn n ns → NameAt p.names n (λ x. part x.role ≡ true)) → map after ns ≡ numbers_in w p.items ns
after_numbers part p w after d e h k [] f = refl
after_numbers part p w after d e h k (n ∷ ns) f =
    let i = f n (inl refl) in
    let g = next_in p.names w after n p.items k h.named (name_map (λ (x : Name). part x.role ≡ true) (λ (x : Name). is_auxiliary x.role ≡ false) p.names n (λ x q. d x.role q) i) (h.once n (name_map (λ (x : Name). part x.role ≡ true) (λ (x : Name). is_defined x.role ≡ true) p.names n (λ x q. e x.role q) i)) in
    ap₂ (λ (a : Number) (xs : List Number). a ∷ xs) g (after_numbers part p w after d e h k ns (λ m j. f m (inr j)))

pub step_numbers : (p : Program) (x u : List Number) (w : Assignment) (x' y : List Number) → IsProgram p → Step p x u w x' y → (x' ≡ numbers_in w p.items (places is_state p)) × (y ≡ numbers_in w p.items (places is_output p))
step_numbers p x u w x' y h s = (
  sym s.end ∙ after_numbers is_state p w s.after state_other state_defined h s.next (places is_state p) (λ n i. in_part is_state p n i),
  sym s.outputs ∙ after_numbers is_output p w s.after output_other output_defined h s.next (places is_output p) (λ n i. in_part is_output p n i),
)

-- ---- one assignment and one step
pub one_assignment : (p : Program) (o : Order) (x u : List Number) (v w : Assignment) → IsProgram p → IsOrder p o → IsValued p x u v → IsValued p x u w → (n : ℕ) → NameAt p.names n (λ k. is_output k.role ≡ false) → v n ≡ w n
one_assignment p o x u v w h q a b n i = sym (valued_exact p o x u v h q a n i) ∙ valued_exact p o x u w h q b n i

pub step_valued : (p : Program) (x u : List Number) (w : Assignment) (x' y : List Number) → Step p x u w x' y → IsValued p x u w
step_valued p x u w x' y s = record { parameters = s.parameters; states = s.states; inputs = s.inputs; cases = s.cases }

pub one_step : (p : Program) (o : Order) (x u : List Number) (v w : Assignment) (x' x'' y y' : List Number) → IsProgram p → IsOrder p o → Step p x u v x' y → Step p x u w x'' y' → (x' ≡ x'') × (y ≡ y')
one_step p o x u v w x' x'' y y' h q s t =
    let a = step_numbers p x u v x' y h s in
    let b = step_numbers p x u w x'' y' h t in
    let r = all_read (Same v w) p.names p.items h.bodies (λ m i. one_assignment p o x u v w h q (step_valued p x u v x' y s) (step_valued p x u w x'' y' t) m (name_map IsVariable (λ (x : Name). is_output x.role ≡ false) p.names m (λ x e. not_output x.role e) i)) in
    (a.0 ∙ same_numbers v w p.items (places is_state p) r ∙ sym b.0, a.1 ∙ same_numbers v w p.items (places is_output p) r ∙ sym b.1)

pub legal_exactly : (p : Program) (o : Order) (x u : List Number) (w : Assignment) → IsProgram p → IsOrder p o → IsValued p x u w → IsLawful (stops p o w) ↔ Legal p x u w (numbers_in w p.items (places is_state p)) (numbers_in w p.items (places is_output p))
legal_exactly p o x u w h q v = (λ l. lawful_legal p o x u w h q v l, λ l. legal_lawful p o x u w (numbers_in w p.items (places is_state p)) (numbers_in w p.items (places is_output p)) h l)
