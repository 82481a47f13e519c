-- The partial values of a step, and first stops.
use Rattle.std.proofs.Common.{◌≡◌, ℕ, suc, List, [], ◌∷◌, ◌++◌, Option, Some, None, Bool, true, false, cond, length, refl, sym, ◌∙◌, ap, subst, inl, inr, ◌⊎◌, Result, Ok, Err}
use Rattle.std.specs.Prelude.{IsTrue, ◌↔◌}
use Rattle.std.specs.List.{AllByRecursion}
use Rattle.hys_number.specs.Number.{Number}
use Rattle.hys_number.specs.Ops.{whole, fits}
use Rattle.hys_lin.specs.declared.lost.Lost.{Lost}
use Rattle.hys_lin.specs.Operations.{outcome}
use Rattle.hys_lin.specs.Sums.{Assignment, at, value}
use Rattle.hys_formula.specs.Formulas.{tree_of, truth}
use Rattle.hys_prog.specs.declared.program.Role.{Role}
use Rattle.hys_prog.specs.declared.program.Role.TheVariants.{State, Input, Output, Parameter, Aux}
use Rattle.hys_prog.specs.declared.program.Name.{Name}
use Rattle.hys_prog.specs.declared.program.Body.{Body}
use Rattle.hys_prog.specs.declared.program.Body.TheVariants.{Guard, Choice, Logic, Linear, NextBool, NextReal, OutBool, OutReal, MustHold, MustMost, MustZero}
use Rattle.hys_prog.specs.declared.program.ProgItem.{ProgItem}
use Rattle.hys_prog.specs.declared.program.Program.{Program}
use Rattle.hys_prog.specs.declared.program.Order.{Order}
use Rattle.hys_prog.specs.declared.stop.Stop.{Stop}
use Rattle.hys_prog.specs.declared.stop.Stop.TheVariants.{Bounds, Must}
use Rattle.hys_prog.specs.declared.stop.StepFault.{StepFault}
use Rattle.hys_prog.specs.declared.stop.StepFault.TheVariants.{Stop as Stopped, Memory}
use Rattle.hys_prog.specs.declared.stop.Stepped.{Stepped}
use Rattle.hys_prog.specs.Programs.{IsProgram, EachItem, NameAt, Named, Suits, is_must, is_named, is_defined}
use Rattle.hys_prog.specs.Steps.{places, is_auxiliary, is_state, is_output, is_input}
use Rattle.hys_prog.specs.Orders.{IsOrder, IsIn}
use Rattle.hys_prog.specs.Stops.{Check, GivenWhere, IsValued, Judged, first_stop, at_most, equals, in_box, one, no_gap, fitting, form_fits, evaluating, body_checks, boxes_from, box_checks, checks_of, checks_along, part_checks, part_numbers, demand_checks, demands_from, stops, AllFit}
use Rattle.hys_prog.specs.Walk.{exact, walk_checks}
use Rattle.hys_prog.specs.Fitting.{BodyFits, FittingStep, FailsFirst, IsFirstStop}
use Rattle.hys_prog.proofs.Defined.{each_at}
use Rattle.hys_prog.proofs.Assigning.{split_name, part_in, in_order}
use Rattle.hys_prog.proofs.Valuing.{Stands, suits_defined, each_of, exact_valued}
use Rattle.hys_prog.proofs.Judging.{first_here, none_lawful, lawful_fit, fit_none, walk_stops, lawful_legal, legal_lawful, step_valued}

-- ---- lists of checks
fit_parts : (xs ys : List Check) → AllFit (xs ++ ys) → AllFit xs × AllFit ys
fit_parts [] ys h = (tt, h)
fit_parts (c ∷ xs) ys h = let r = fit_parts xs ys h.1 in ((h.0, r.0), r.1)

fit_both : (xs ys : List Check) → AllFit xs → AllFit ys → AllFit (xs ++ ys)
fit_both [] ys h k = k
fit_both (c ∷ xs) ys h k = (h.0, fit_both xs ys h.1 k)

fits_all : (k : ℕ) (os : List Lost) → AllFit (fitting k os) → AllByRecursion (λ o. IsTrue (fits (outcome o))) os
fits_all k [] h = tt
fits_all k (o ∷ os) h = (h.0, fits_all k os h.1)

all_fits : (k : ℕ) (os : List Lost) → AllByRecursion (λ o. IsTrue (fits (outcome o))) os → AllFit (fitting k os)
all_fits k [] h = tt
all_fits k (o ∷ os) h = (h.0, all_fits k os h.1)

-- ---- bodies
body_fit : (w : Assignment) (k : ℕ) (b : Body) → AllFit (body_checks w k b) → BodyFits w b
body_fit w k (Guard f e) h = fits_all k (evaluating w f) (fit_parts (form_fits w k f) (no_gap k e (value f w)) h).0
body_fit w k (Choice l a b) h = fits_all k (evaluating w (cond (truth (tree_of l) w) a b)) h
body_fit w k (Logic l) h = tt
body_fit w k (Linear f) h = fits_all k (evaluating w f) h
body_fit w k (NextBool l) h = tt
body_fit w k (NextReal f) h = fits_all k (evaluating w f) h
body_fit w k (OutBool l) h = tt
body_fit w k (OutReal f) h = fits_all k (evaluating w f) h
body_fit w k (MustHold l) h = tt
body_fit w k (MustMost f) h = fits_all k (evaluating w f) (fit_parts (form_fits w k f) (one (at_most (value f w) (whole 0)) (Must k)) h).0
body_fit w k (MustZero f) h = fits_all k (evaluating w f) (fit_parts (form_fits w k f) (one (equals (value f w) (whole 0)) (Must k)) h).0

fit_body : (w : Assignment) (k : ℕ) (b : Body) → BodyFits w b → AllFit (body_checks w k b)
fit_body w k (Guard f e) h = fit_both (form_fits w k f) (no_gap k e (value f w)) (all_fits k (evaluating w f) h) (tt, tt)
fit_body w k (Choice l a b) h = all_fits k (evaluating w (cond (truth (tree_of l) w) a b)) h
fit_body w k (Logic l) h = tt
fit_body w k (Linear f) h = all_fits k (evaluating w f) h
fit_body w k (NextBool l) h = tt
fit_body w k (NextReal f) h = all_fits k (evaluating w f) h
fit_body w k (OutBool l) h = tt
fit_body w k (OutReal f) h = all_fits k (evaluating w f) h
fit_body w k (MustHold l) h = (tt, tt)
fit_body w k (MustMost f) h = fit_both (form_fits w k f) (one (at_most (value f w) (whole 0)) (Must k)) (all_fits k (evaluating w f) h) (tt, tt)
fit_body w k (MustZero f) h = fit_both (form_fits w k f) (one (equals (value f w) (whole 0)) (Must k)) (all_fits k (evaluating w f) h) (tt, tt)

abbrev Fit : Assignment → ProgItem → Type 0
Fit w t = BodyFits w t.body

-- ---- from items to checks
of_fit : (w : Assignment) (n k : ℕ) (ts : List ProgItem) → EachItem (Fit w) ts → AllFit (checks_of w n k ts)
of_fit w n k [] h = tt
of_fit w n k (t ∷ ts) h = go (is_named n t.name) (of_fit w n (suc k) ts h.1)
  where
    go : (b : Bool) → AllFit (checks_of w n (suc k) ts) → AllFit (cond b (body_checks w k t.body) (checks_of w n (suc k) ts))
    go true r = fit_body w k t.body h.0
    go false r = r

along_fit : (w : Assignment) (ts : List ProgItem) (ns : List ℕ) → EachItem (Fit w) ts → AllFit (checks_along w ts ns)
along_fit w ts [] h = tt
along_fit w ts (n ∷ ns) h = fit_both (checks_of w n 0 ts) (checks_along w ts ns) (of_fit w n 0 ts h) (along_fit w ts ns h)

demands_fit : (w : Assignment) (k : ℕ) (ts : List ProgItem) → EachItem (Fit w) ts → AllFit (demands_from k w ts)
demands_fit w k [] h = tt
demands_fit w k (t ∷ ts) h = fit_both (demand_checks w k t.body) (demands_from (suc k) w ts) (go (is_must t.body)) (demands_fit w (suc k) ts h.1)
  where
    go : (b : Bool) → AllFit (cond b (body_checks w k t.body) [])
    go true = fit_body w k t.body h.0
    go false = tt

boxes_fit : (part : Role → Bool) (w : Assignment) (k : ℕ) (xs : List Name) → AllFit (boxes_from k part w xs)
boxes_fit part w k [] = tt
boxes_fit part w k (x ∷ xs) = fit_both (box_checks part k x (w k)) (boxes_from (suc k) part w xs) (go (part x.role)) (boxes_fit part w (suc k) xs)
  where
    go : (b : Bool) → AllFit (cond b (one (in_box x (w k)) (Bounds k)) [])
    go true = (tt, tt)
    go false = tt

fit_stops : (p : Program) (o : Order) (w : Assignment) → EachItem (Fit w) p.items → AllFit (stops p o w)
fit_stops p o w h =
    let after = part_checks is_state p w ++ part_checks is_output p w in
    let along = checks_along w p.items o.names in
    let must = demands_from 0 w p.items in
    let given = boxes_from 0 is_input w p.names in
    fit_both (boxes_from 0 is_state w p.names) (given ++ (along ++ (must ++ after))) (boxes_fit is_state w 0 p.names)
    (fit_both given (along ++ (must ++ after)) (boxes_fit is_input w 0 p.names)
    (fit_both along (must ++ after) (along_fit w p.items o.names h)
    (fit_both must after (demands_fit w 0 p.items h)
    (fit_both (part_checks is_state p w) (part_checks is_output p w) (along_fit w p.items (places is_state p) h) (along_fit w p.items (places is_output p) h)))))

-- ---- from checks to items
fit_along : (w : Assignment) (ts : List ProgItem) (ns : List ℕ) (n : ℕ) → AllFit (checks_along w ts ns) → IsIn n ns → AllFit (checks_of w n 0 ts)
fit_along w ts [] n h i = absurd i
fit_along w ts (m ∷ ns) n h (inl e) = subst (λ (k : ℕ). AllFit (checks_of w k 0 ts)) e (fit_parts (checks_of w m 0 ts) (checks_along w ts ns) h).0
fit_along w ts (m ∷ ns) n h (inr i) = fit_along w ts ns n (fit_parts (checks_of w m 0 ts) (checks_along w ts ns) h).1 i

fit_demands : (w : Assignment) (k : ℕ) (ts : List ProgItem) → AllFit (demands_from k w ts) → EachItem (λ t. is_must t.body ≡ true → BodyFits w t.body) ts
fit_demands w k [] h = tt
fit_demands w k (t ∷ ts) h =
    let r = fit_parts (demand_checks w k t.body) (demands_from (suc k) w ts) h in
    (λ e. body_fit w k t.body (go (is_must t.body) e r.0), fit_demands w (suc k) ts r.1)
  where
    go : (b : Bool) → b ≡ true → AllFit (cond b (body_checks w k t.body) []) → AllFit (body_checks w k t.body)
    go true e r = r
    go false e r = absurd (cc)

defined_kinds : (r : Role) → is_defined r ≡ true → (is_auxiliary r ≡ true) ⊎ ((is_state r ≡ true) ⊎ (is_output r ≡ true))
defined_kinds State e = inr (inl refl)
defined_kinds Input e = absurd (cc)
defined_kinds Output e = inr (inr refl)
defined_kinds Parameter e = absurd (cc)
defined_kinds Aux e = inl refl

stops_fit : (p : Program) (o : Order) (w : Assignment) → IsProgram p → IsOrder p o → AllFit (stops p o w) → EachItem (Fit w) p.items
stops_fit p o w h q l = each_of (Fit w) p.items (λ k t b e. go k t (record { below = b; is = e }) t.name refl (each_at (λ (t : ProgItem). Named p.names t.name t.body) p.items k t h.named b e))
  where
    after : List Check
    after = part_checks is_state p w ++ part_checks is_output p w

    given : AllFit (boxes_from 0 is_input w p.names ++ (checks_along w p.items o.names ++ (demands_from 0 w p.items ++ after)))
    given = (fit_parts (boxes_from 0 is_state w p.names) (boxes_from 0 is_input w p.names ++ (checks_along w p.items o.names ++ (demands_from 0 w p.items ++ after))) l).1

    found : AllFit (checks_along w p.items o.names) × AllFit (demands_from 0 w p.items ++ after)
    found = fit_parts (checks_along w p.items o.names) (demands_from 0 w p.items ++ after) (fit_parts (boxes_from 0 is_input w p.names) (checks_along w p.items o.names ++ (demands_from 0 w p.items ++ after)) given).1

    demanded : AllFit (demands_from 0 w p.items) × AllFit after
    demanded = fit_parts (demands_from 0 w p.items) after found.1

    ended : AllFit (part_checks is_state p w) × AllFit (part_checks is_output p w)
    ended = fit_parts (part_checks is_state p w) (part_checks is_output p w) demanded.1

    here : (k n : ℕ) (t : ProgItem) → Stands p k t → t.name ≡ Some n → (ns : List ℕ) → IsIn n ns → AllFit (checks_along w p.items ns) → BodyFits w t.body
    here k n t s e ns i f = body_fit w k t.body (subst AllFit (first_here p w k n t h s e) (fit_along w p.items ns n f i))

    of_part : (k n : ℕ) (t : ProgItem) → Stands p k t → t.name ≡ Some n → NameAt p.names n (λ x. is_auxiliary x.role ≡ true) ⊎ NameAt p.names n (λ x. (is_state x.role ≡ true) ⊎ (is_output x.role ≡ true)) → BodyFits w t.body
    of_part k n t s e (inl a) = here k n t s e o.names (in_order p o n q a) found.0
    of_part k n t s e (inr a) = of_end (split_name (λ (x : Name). (is_state x.role ≡ true) ⊎ (is_output x.role ≡ true)) (λ (x : Name). is_state x.role ≡ true) (λ (x : Name). is_output x.role ≡ true) p.names n (λ x c. c) a)
      where
        of_end : NameAt p.names n (λ x. is_state x.role ≡ true) ⊎ NameAt p.names n (λ x. is_output x.role ≡ true) → BodyFits w t.body
        of_end (inl c) = here k n t s e (places is_state p) (part_in is_state p n c) ended.0
        of_end (inr c) = here k n t s e (places is_output p) (part_in is_output p n c) ended.1

    go : (k : ℕ) (t : ProgItem) → Stands p k t → (m : Option ℕ) → t.name ≡ m → Named p.names m t.body → BodyFits w t.body
    go k t s None e d = each_at (λ (t : ProgItem). is_must t.body ≡ true → BodyFits w t.body) p.items k t (fit_demands w 0 p.items demanded.0) s.below s.is d
    go k t s (Some n) e d = of_part k n t s e (split_name (Suits t.body) (λ (x : Name). is_auxiliary x.role ≡ true) (λ (x : Name). (is_state x.role ≡ true) ⊎ (is_output x.role ≡ true)) p.names n (λ x c. defined_kinds x.role (suits_defined t.body x c)) d)

-- ---- one or the other
pub nothing_stops : (p : Program) (o : Order) (x u : List Number) (w : Assignment) → IsProgram p → IsOrder p o → IsValued p x u w → (first_stop (stops p o w) ≡ None) ↔ FittingStep p x u
nothing_stops p o x u w h q v = (there, back)
  where
    there : first_stop (stops p o w) ≡ None → FittingStep p x u
    there e = record {
      values = w;
      next = part_numbers is_state p w;
      outputs = part_numbers is_output p w;
      legal = lawful_legal p o x u w h q v (none_lawful (stops p o w) e);
      fit = stops_fit p o w h q (lawful_fit (stops p o w) e);
    }

    back : FittingStep p x u → first_stop (stops p o w) ≡ None
    back s =
        let e = sym (walk_stops p o x u s.values h q (step_valued p x u s.values s.next s.outputs s.legal.step)) ∙ walk_stops p o x u w h q v in
        subst (λ (cs : List Check). first_stop cs ≡ None) e (fit_none (stops p o s.values) (legal_lawful p o x u s.values s.next s.outputs h s.legal) (fit_stops p o s.values s.fit))

pub given_where : (p : Program) (o : Order) (x u : List Number) (r : Result Stepped StepFault) → IsProgram p → IsOrder p o → length x ≡ length (places is_state p) → length u ≡ length (places is_input p) → Judged (walk_checks p o x u) r → GivenWhere (FittingStep p x u) r
given_where p o x u r h q l m j = go r (subst (λ (cs : List Check). Judged cs r) (walk_stops p o x u w h q v) j)
  where
    w : Assignment
    w = at (exact p o x u)

    v : IsValued p x u w
    v = exact_valued p o x u h q l m

    go : (r : Result Stepped StepFault) → Judged (stops p o w) r → GivenWhere (FittingStep p x u) r
    go (Ok s) j = (nothing_stops p o x u w h q v).0 j
    go (Err (Stopped s)) j = λ f. let e = (nothing_stops p o x u w h q v).1 f in absurd (cc)
    go (Err Memory) j = tt

-- ---- first stops
some_fails : (cs : List Check) (s : Stop) → first_stop cs ≡ Some s → FailsFirst cs s
some_fails [] s e = absurd (cc)
some_fails (c ∷ cs) s e = go c.passes refl e (some_fails cs s)
  where
    go : (b : Bool) → c.passes ≡ b → cond b (first_stop cs) (Some c.stop) ≡ Some s → (first_stop cs ≡ Some s → FailsFirst cs s) → FailsFirst (c ∷ cs) s
    go true p e f = let r = f e in record { before = c ∷ r.before; check = r.check; after = r.after; whole = ap (λ (xs : List Check). c ∷ xs) r.whole; passed = (p, r.passed); fails = r.fails; is = r.is }
    go false p e f = let i : c.stop ≡ s = cc in record { before = []; check = c; after = cs; whole = refl; passed = tt; fails = p; is = i }

fails_some : (xs : List Check) (c : Check) (ys : List Check) (s : Stop) → AllByRecursion (λ c. c.passes ≡ true) xs → c.passes ≡ false → c.stop ≡ s → first_stop (xs ++ c ∷ ys) ≡ Some s
fails_some [] c ys s p f i = rw (f, i) refl
fails_some (x ∷ xs) c ys s p f i = rw p.0 (fails_some xs c ys s p.1 f i)

none_passes : (cs : List Check) → first_stop cs ≡ None → AllByRecursion (λ c. c.passes ≡ true) cs
none_passes [] e = tt
none_passes (c ∷ cs) e = go c.passes e (none_passes cs)
  where
    go : (b : Bool) → cond b (first_stop cs) (Some c.stop) ≡ None → (first_stop cs ≡ None → AllByRecursion (λ c. c.passes ≡ true) cs) → (b ≡ true) × AllByRecursion (λ c. c.passes ≡ true) cs
    go true e f = (refl, f e)
    go false e f = absurd (cc)

passes_none : (cs : List Check) → AllByRecursion (λ c. c.passes ≡ true) cs → first_stop cs ≡ None
passes_none [] h = refl
passes_none (c ∷ cs) h = rw h.0 (passes_none cs h.1)

pub is_first_stop : (cs : List Check) → IsFirstStop cs
is_first_stop cs = record {
  some = λ s. (some_fails cs s, λ f. subst (λ (xs : List Check). first_stop xs ≡ Some s) (sym f.whole) (fails_some f.before f.check f.after s f.passed f.fails f.is));
  none = (none_passes cs, passes_none cs);
}
