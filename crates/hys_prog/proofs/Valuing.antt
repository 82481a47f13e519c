-- Assignments that are valued: given by the parameters, the states and the inputs, and by the definitions.
use Rattle.std.proofs.Common.{◌≡◌, ℕ, zero, suc, ◌+◌, ◌<◌, List, [], ◌∷◌, Option, Some, None, Bool, true, false, cond, drop, map, length, get_or, refl, sym, ◌∙◌, ap, ap₂, subst, arith, inl, inr, ◌⊎◌}
use Rattle.std.proofs.Math.Seq.{drop-cons}
use Rattle.std.proofs.lemmas.List.{drop_all}
use Rattle.std.specs.Prelude.{IsTrue}
use Rattle.hys_number.specs.Number.{Number}
use Rattle.hys_number.specs.Ops.{whole, ◌≤ₙ◌, ◌<ₙ◌}
use Rattle.hys_lin.specs.declared.form.Affine.{Affine}
use Rattle.hys_lin.specs.Bits.{bit}
use Rattle.hys_lin.specs.Sums.{Assignment, at, value}
use Rattle.hys_formula.specs.Formulas.{tree_of, truth}
use Rattle.hys_prog.specs.declared.program.Role.{Role}
use Rattle.hys_prog.specs.declared.program.Role.TheVariants.{State, Input, Output, Parameter, Aux}
use Rattle.hys_prog.specs.declared.program.Name.{Name}
use Rattle.hys_prog.specs.declared.program.Body.{Body}
use Rattle.hys_prog.specs.declared.program.Body.TheVariants.{Guard, Choice, Logic, Linear, NextBool, NextReal, OutBool, OutReal, MustHold, MustMost, MustZero}
use Rattle.hys_prog.specs.declared.program.ProgItem.{ProgItem}
use Rattle.hys_prog.specs.declared.program.Program.{Program}
use Rattle.hys_prog.specs.declared.program.Order.{Order}
use Rattle.hys_prog.specs.Programs.{IsProgram, EachItem, NameAt, Named, Suits, is_named, is_defined, definitions}
use Rattle.hys_prog.specs.Steps.{places, places_from, is_auxiliary, is_state, is_output, is_input, is_parameter, Case, CaseOf, GuardCase, OfName, EachNameFrom}
use Rattle.hys_prog.specs.Orders.{IsOrder}
use Rattle.hys_prog.specs.Places.{Defines}
use Rattle.hys_prog.specs.Stops.{IsValued, at_most, number_of, number_in}
use Rattle.hys_prog.specs.Walk.{started, started_from, first_value, advanced, exact}
use Rattle.hys_prog.proofs.Defined.{some_named, at_item, each_at}
use Rattle.hys_prog.proofs.Deciding.{yes_most, no_most, sides}
use Rattle.hys_prog.proofs.Names.{name_map}
use Rattle.hys_prog.proofs.Placing.{first_at}
use Rattle.hys_prog.proofs.Walking.{first_number, started_count}
use Rattle.hys_prog.proofs.Reading.{IsAuxBody, aux_suits, named_suits}
use Rattle.hys_prog.proofs.Assigning.{is_fixed, Is, Follows, Agrees, found_agrees, found_follows, fixed_kept}

-- ---- the case of a body
guard_number : (w : Assignment) (n : ℕ) (g : Number) → GuardCase w n g → w n ≡ bit (at_most g (whole 0))
guard_number w n g (inl h) = h.1 ∙ ap bit (sym (yes_most g (whole 0) h.0))
guard_number w n g (inr h) = h.1 ∙ ap bit (sym (no_most g (whole 0) h.0))

number_guard : (w : Assignment) (n : ℕ) (g : Number) → w n ≡ bit (at_most g (whole 0)) → GuardCase w n g
number_guard w n g e = go (sides g (whole 0))
  where
    go : ((g ≤ₙ whole 0) × (at_most g (whole 0) ≡ true)) ⊎ ((whole 0 <ₙ g) × (at_most g (whole 0) ≡ false)) → GuardCase w n g
    go (inl h) = inl (h.0, e ∙ ap bit h.1)
    go (inr h) = inr (h.0, e ∙ ap bit h.1)

chosen_value : (w : Assignment) (c : Bool) (a b : Affine) → cond c (value a w) (value b w) ≡ value (cond c a b) w
chosen_value w true a b = refl
chosen_value w false a b = refl

clash_role : (r s : Role) → r ≡ s → is_auxiliary s ≡ false → is_auxiliary r ≡ true → ⊥
clash_role r s e f g = let q = rw e at g in absurd (cc)

pub case_number : (w : Assignment) (n : ℕ) (b : Body) → IsAuxBody b → Case w n b → w n ≡ number_of w b
case_number w n (Guard f e) s h = guard_number w n (value f w) h
case_number w n (Choice l a b) s h = h ∙ chosen_value w (truth (tree_of l) w) a b
case_number w n (Logic l) s h = h
case_number w n (Linear f) s h = h
case_number w n (NextBool l) s h = absurd (clash_role s.0.role State s.1.0 refl s.2)
case_number w n (NextReal f) s h = absurd (clash_role s.0.role State s.1.0 refl s.2)
case_number w n (OutBool l) s h = absurd (clash_role s.0.role Output s.1.0 refl s.2)
case_number w n (OutReal f) s h = absurd (clash_role s.0.role Output s.1.0 refl s.2)
case_number w n (MustHold l) s h = absurd (s.1)
case_number w n (MustMost f) s h = absurd (s.1)
case_number w n (MustZero f) s h = absurd (s.1)

aux_role : (r : Role) → r ≡ Aux → is_auxiliary r ≡ true
aux_role r e = rw e refl

number_case : (p : Program) (w : Assignment) (n : ℕ) (b : Body) → NameAt p.names n (Suits b) → (Is is_auxiliary p n → w n ≡ number_of w b) → Case w n b
number_case p w n (Guard f e) s h = number_guard w n (value f w) (h (name_map (Suits (Guard f e)) (λ (x : Name). is_auxiliary x.role ≡ true) p.names n (λ x q. aux_role x.role q.0) s))
number_case p w n (Choice l a b) s h = h (name_map (Suits (Choice l a b)) (λ (x : Name). is_auxiliary x.role ≡ true) p.names n (λ x q. aux_role x.role q.0) s) ∙ sym (chosen_value w (truth (tree_of l) w) a b)
number_case p w n (Logic l) s h = h (name_map (Suits (Logic l)) (λ (x : Name). is_auxiliary x.role ≡ true) p.names n (λ x q. aux_role x.role q.0) s)
number_case p w n (Linear f) s h = h (name_map (Suits (Linear f)) (λ (x : Name). is_auxiliary x.role ≡ true) p.names n (λ x q. aux_role x.role q.0) s)
number_case p w n (NextBool l) s h = tt
number_case p w n (NextReal f) s h = tt
number_case p w n (OutBool l) s h = tt
number_case p w n (OutReal f) s h = tt
number_case p w n (MustHold l) s h = tt
number_case p w n (MustMost f) s h = tt
number_case p w n (MustZero f) s h = tt

-- ---- of all items
pub case_of : (w : Assignment) (n : ℕ) (o : Option ℕ) (b : Body) → o ≡ Some n → OfName (λ m. Case w m b) o → Case w n b
case_of w n None b e h = absurd (cc)
case_of w n (Some m) b e h = let q : m ≡ n = cc in subst (λ (i : ℕ). Case w i b) q h

follows_in : (names : List Name) (w : Assignment) (n : ℕ) (ts : List ProgItem) → EachItem (CaseOf w) ts → EachItem (λ t. Named names t.name t.body) ts → NameAt names n (λ x. is_auxiliary x.role ≡ true) → definitions n ts ≡ 1 → w n ≡ number_in w n ts
follows_in names w n [] h k a d = absurd (omega arith)
follows_in names w n (t ∷ ts) h k a d = go (is_named n t.name) refl d (λ e. follows_in names w n ts h.1 k.1 a e)
  where
    go : (b : Bool) → is_named n t.name ≡ b → cond b 1 0 + definitions n ts ≡ 1 → (definitions n ts ≡ 1 → w n ≡ number_in w n ts) → w n ≡ cond b (number_of w t.body) (number_in w n ts)
    go true e d f =
        let q = some_named n t.name e in
        case_number w n t.body (aux_suits names n t.body (named_suits names n t.name t.body q k.0) a) (case_of w n t.name t.body q h.0)
    go false e d f = f (omega arith)

aux_defined : (r : Role) → is_auxiliary r ≡ true → is_defined r ≡ true
aux_defined State e = absurd (cc)
aux_defined Input e = absurd (cc)
aux_defined Output e = absurd (cc)
aux_defined Parameter e = absurd (cc)
aux_defined Aux e = refl

pub cases_follow : (p : Program) (w : Assignment) → IsProgram p → EachItem (CaseOf w) p.items → Follows p w
cases_follow p w h c n a = follows_in p.names w n p.items c h.named a (h.once n (name_map (λ (x : Name). is_auxiliary x.role ≡ true) (λ (x : Name). is_defined x.role ≡ true) p.names n (λ x e. aux_defined x.role e) a))

role_defined : (r s : Role) → r ≡ s → is_defined s ≡ true → is_defined r ≡ true
role_defined r s e f = rw e f

pub suits_defined : (b : Body) (x : Name) → Suits b x → is_defined x.role ≡ true
suits_defined (Guard f e) x h = role_defined x.role Aux h.0 refl
suits_defined (Choice l a b) x h = role_defined x.role Aux h.0 refl
suits_defined (Logic l) x h = role_defined x.role Aux h.0 refl
suits_defined (Linear f) x h = role_defined x.role Aux h.0 refl
suits_defined (NextBool l) x h = role_defined x.role State h.0 refl
suits_defined (NextReal f) x h = role_defined x.role State h.0 refl
suits_defined (OutBool l) x h = role_defined x.role Output h.0 refl
suits_defined (OutReal f) x h = role_defined x.role Output h.0 refl
suits_defined (MustHold l) x h = absurd h
suits_defined (MustMost f) x h = absurd h
suits_defined (MustZero f) x h = absurd h

-- the item at a place, and the name that it defines
pub record Stands (p : Program) (k : ℕ) (t : ProgItem) : Type 0 where
  pub below : k < length p.items
  pub is : t ≡ get_or p.items k t

pub suits_here : (p : Program) (k n : ℕ) (t : ProgItem) → IsProgram p → Stands p k t → t.name ≡ Some n → NameAt p.names n (Suits t.body)
suits_here p k n t h s e = named_suits p.names n t.name t.body e (each_at (λ (t : ProgItem). Named p.names t.name t.body) p.items k t h.named s.below s.is)

pub once_here : (p : Program) (k n : ℕ) (t : ProgItem) → IsProgram p → Stands p k t → t.name ≡ Some n → definitions n p.items ≡ 1
once_here p k n t h s e = h.once n (name_map (Suits t.body) (λ (x : Name). is_defined x.role ≡ true) p.names n (λ x q. suits_defined t.body x q) (suits_here p k n t h s e))

pub number_here : (p : Program) (w : Assignment) (k n : ℕ) (t : ProgItem) → IsProgram p → Stands p k t → t.name ≡ Some n → number_in w n p.items ≡ number_of w t.body
number_here p w k n t h s e = first_number w n p.items k t (first_at n p.items k (once_here p k n t h s e) (at_item (Defines n) p.items k t e s.below s.is)) s.is

pub each_of : (P : ProgItem → Type 0) (ts : List ProgItem) → ((k : ℕ) (t : ProgItem) → k < length ts → t ≡ get_or ts k t → P t) → EachItem P ts
each_of P [] f = tt
each_of P (t ∷ ts) f = (f 0 t (omega arith) refl, each_of P ts (λ k u b e. f (suc k) u (omega arith) e))

pub follow_cases : (p : Program) (w : Assignment) → IsProgram p → Follows p w → EachItem (CaseOf w) p.items
follow_cases p w h f = each_of (CaseOf w) p.items (λ k t b e. go k t b e t.name refl)
  where
    go : (k : ℕ) (t : ProgItem) → k < length p.items → t ≡ get_or p.items k t → (o : Option ℕ) → t.name ≡ o → OfName (λ n. Case w n t.body) o
    go k t b e None q = tt
    go k t b e (Some n) q = let s : Stands p k t = record { below = b; is = e } in number_case p w n t.body (suits_here p k n t h s q) (λ a. f n a ∙ number_here p w k n t h s q)

-- ---- the given values
next_given : (x : List Number) (i : ℕ) (a : Number) (rest : List Number) → a ∷ rest ≡ drop i x → (a ≡ at x i) × (rest ≡ drop (suc i) x)
next_given [] zero a rest e = absurd (cc)
next_given [] (suc i) a rest e = absurd (cc)
next_given (b ∷ x) zero a rest e = (cc, cc)
next_given (b ∷ x) (suc i) a rest e = next_given x i a rest e

abbrev Parameters : Assignment → ℕ → List Name → Type 0
Parameters w k ks = EachNameFrom k (λ n x. IsTrue (is_parameter x.role) → w n ≡ x.value) ks

pub valued_fixed : (w : Assignment) (ks : List Name) (k i j : ℕ) (x u : List Number) → Parameters w k ks → map w (places_from k is_state ks) ≡ drop i x → map w (places_from k is_input ks) ≡ drop j u →
    (m : ℕ) → NameAt ks m (λ x. is_fixed x.role ≡ true) → w (k + m) ≡ at (started_from ks i j x u) m
valued_fixed w [] k i j x u h s t m f = absurd f
valued_fixed w (y ∷ ks) k i j x u h s t zero f = let z : k + 0 ≡ k = omega arith in rw z (go y.role f h.0 s t)
  where
    go : (r : Role) → is_fixed r ≡ true → (IsTrue (is_parameter r) → w k ≡ y.value) → map w (cond (is_state r) (k ∷ places_from (suc k) is_state ks) (places_from (suc k) is_state ks)) ≡ drop i x → map w (cond (is_input r) (k ∷ places_from (suc k) is_input ks) (places_from (suc k) is_input ks)) ≡ drop j u → w k ≡ first_value r y (at x i) (at u j)
    go State f q s t = (next_given x i (w k) (map w (places_from (suc k) is_state ks)) s).0
    go Input f q s t = (next_given u j (w k) (map w (places_from (suc k) is_input ks)) t).0
    go Output f q s t = absurd (cc)
    go Parameter f q s t = q refl
    go Aux f q s t = absurd (cc)
valued_fixed w (y ∷ ks) k i j x u h s t (suc m) f =
    let z : k + suc m ≡ suc k + m = omega arith in
    rw z (valued_fixed w ks (suc k) (advanced i (is_state y.role)) (advanced j (is_input y.role)) x u h.1 (go (is_state y.role) x i (places_from (suc k) is_state ks) s) (go (is_input y.role) u j (places_from (suc k) is_input ks) t) m f)
  where
    go : (b : Bool) (x : List Number) (i : ℕ) (ns : List ℕ) → map w (cond b (k ∷ ns) ns) ≡ drop i x → map w ns ≡ drop (advanced i b) x
    go true x i ns s = (next_given x i (w k) (map w ns) s).1
    go false x i ns s = s

pub fixed_parameters : (w : Assignment) (ks : List Name) (k i j : ℕ) (x u : List Number) → ((m : ℕ) → NameAt ks m (λ x. is_fixed x.role ≡ true) → w (k + m) ≡ at (started_from ks i j x u) m) → Parameters w k ks
fixed_parameters w [] k i j x u f = tt
fixed_parameters w (y ∷ ks) k i j x u f = (go y.role (λ q. let z : k + 0 ≡ k = omega arith in ap w (sym z) ∙ f 0 q), fixed_parameters w ks (suc k) (advanced i (is_state y.role)) (advanced j (is_input y.role)) x u (λ m q. let z : suc k + m ≡ k + suc m = omega arith in ap w z ∙ f (suc m) q))
  where
    go : (r : Role) → (is_fixed r ≡ true → w k ≡ first_value r y (at x i) (at u j)) → IsTrue (is_parameter r) → w k ≡ y.value
    go State h e = absurd (cc)
    go Input h e = absurd (cc)
    go Output h e = absurd (cc)
    go Parameter h e = h refl
    go Aux h e = absurd (cc)

-- the names of a part have the given numbers, in order of declaration
abbrev Has : Assignment → (Role → Bool) → List Name → ℕ → ℕ → List Number → Type 0
Has w part ks k i x = length x ≡ i + length (places_from k part ks) → map w (places_from k part ks) ≡ drop i x

fixed_part : (part : Role → Bool) (w : Assignment) (k i : ℕ) (y : Name) (ks : List Name) (x : List Number) → (part y.role ≡ true → w k ≡ at x i) → Has w part ks (suc k) (advanced i (part y.role)) x → Has w part (y ∷ ks) k i x
fixed_part part w k i y ks x f h l = go (part y.role) f h l
  where
    go : (b : Bool) → (b ≡ true → w k ≡ at x i) → Has w part ks (suc k) (advanced i b) x → length x ≡ i + length (cond b (k ∷ places_from (suc k) part ks) (places_from (suc k) part ks)) → map w (cond b (k ∷ places_from (suc k) part ks) (places_from (suc k) part ks)) ≡ drop i x
    go true f h l = ap₂ (λ (a : Number) (r : List Number). a ∷ r) (f refl) (h (omega arith)) ∙ sym (drop-cons x i (whole 0) (omega arith))
    go false f h l = h l

pub fixed_states : (w : Assignment) (ks : List Name) (k i j : ℕ) (x u : List Number) → ((m : ℕ) → NameAt ks m (λ x. is_fixed x.role ≡ true) → w (k + m) ≡ at (started_from ks i j x u) m) → Has w is_state ks k i x
fixed_states w [] k i j x u f = λ l. sym (drop_all i x (omega arith))
fixed_states w (y ∷ ks) k i j x u f = fixed_part is_state w k i y ks x (go y.role (λ q. let z : k + 0 ≡ k = omega arith in ap w (sym z) ∙ f 0 q)) (fixed_states w ks (suc k) (advanced i (is_state y.role)) (advanced j (is_input y.role)) x u (λ m q. let z : suc k + m ≡ k + suc m = omega arith in ap w z ∙ f (suc m) q))
  where
    go : (r : Role) → (is_fixed r ≡ true → w k ≡ first_value r y (at x i) (at u j)) → is_state r ≡ true → w k ≡ at x i
    go State h e = h refl
    go Input h e = absurd (cc)
    go Output h e = absurd (cc)
    go Parameter h e = absurd (cc)
    go Aux h e = absurd (cc)

pub fixed_inputs : (w : Assignment) (ks : List Name) (k i j : ℕ) (x u : List Number) → ((m : ℕ) → NameAt ks m (λ x. is_fixed x.role ≡ true) → w (k + m) ≡ at (started_from ks i j x u) m) → Has w is_input ks k j u
fixed_inputs w [] k i j x u f = λ l. sym (drop_all j u (omega arith))
fixed_inputs w (y ∷ ks) k i j x u f = fixed_part is_input w k j y ks u (go y.role (λ q. let z : k + 0 ≡ k = omega arith in ap w (sym z) ∙ f 0 q)) (fixed_inputs w ks (suc k) (advanced i (is_state y.role)) (advanced j (is_input y.role)) x u (λ m q. let z : suc k + m ≡ k + suc m = omega arith in ap w z ∙ f (suc m) q))
  where
    go : (r : Role) → (is_fixed r ≡ true → w k ≡ first_value r y (at x i) (at u j)) → is_input r ≡ true → w k ≡ at u j
    go State h e = absurd (cc)
    go Input h e = h refl
    go Output h e = absurd (cc)
    go Parameter h e = absurd (cc)
    go Aux h e = absurd (cc)

-- ---- the assignment
none_taken : (p : Program) (v w : Assignment) → ((n : ℕ) → Is is_fixed p n → v n ≡ w n) → Agrees p [] v w
none_taken p v w f n (inl h) = f n h
none_taken p v w f n (inr h) = absurd h

pub started_agrees : (p : Program) (x u : List Number) (w : Assignment) → IsValued p x u w → Agrees p [] (at (started p.names x u)) w
started_agrees p x u w v = none_taken p (at (started p.names x u)) w (λ n f. let z : 0 + n ≡ n = omega arith in sym (valued_fixed w p.names 0 0 0 x u v.parameters v.states v.inputs n f) ∙ ap w z)

-- a valued assignment has the exact values
pub valued_exact : (p : Program) (o : Order) (x u : List Number) (w : Assignment) → IsProgram p → IsOrder p o → IsValued p x u w → (n : ℕ) → NameAt p.names n (λ x. is_output x.role ≡ false) → at (exact p o x u) n ≡ w n
valued_exact p o x u w h q v = found_agrees p [] o.names (started p.names x u) w h q (started_count p.names 0 0 x u) (cases_follow p w h v.cases) (started_agrees p x u w v)

-- the exact values are a valued assignment
pub exact_valued : (p : Program) (o : Order) (x u : List Number) → IsProgram p → IsOrder p o → length x ≡ length (places is_state p) → length u ≡ length (places is_input p) → IsValued p x u (at (exact p o x u))
exact_valued p o x u h q l m =
    let w = at (exact p o x u) in
    let f : (n : ℕ) → NameAt p.names n (λ x. is_fixed x.role ≡ true) → w (0 + n) ≡ at (started p.names x u) n = (λ n a. let z : 0 + n ≡ n = omega arith in ap w z ∙ fixed_kept p [] o.names (started p.names x u) n q a) in
    record {
      parameters = fixed_parameters w p.names 0 0 0 x u f;
      states = fixed_states w p.names 0 0 0 x u f (omega arith);
      inputs = fixed_inputs w p.names 0 0 0 x u f (omega arith);
      cases = follow_cases p w h (found_follows p o (started p.names x u) h q (started_count p.names 0 0 x u));
    }
