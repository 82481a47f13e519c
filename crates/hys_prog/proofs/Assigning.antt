-- The assignment of a step: along an order there is one, and no other.
use Rattle.std.proofs.Common.{◌≡◌, ℕ, zero, suc, ◌+◌, ◌<◌, List, [], ◌∷◌, ◌++◌, Bool, true, false, cond, length, set, refl, sym, ◌∙◌, ap₂, subst, arith, inl, inr, ◌⊎◌, get_or-set_same, get_or-set_other, length-set}
use Rattle.std.proofs.lemmas.Bool.{cases_eq}
use Rattle.std.specs.List.{AllByRecursion}
use Rattle.hys_number.specs.Number.{Number}
use Rattle.hys_number.specs.Ops.{whole}
use Rattle.hys_lin.specs.Sums.{Assignment, at}
use Rattle.hys_prog.specs.declared.program.Role.{Role}
use Rattle.hys_prog.specs.declared.program.Role.TheVariants.{State, Input, Output, Parameter, Aux}
use Rattle.hys_prog.specs.declared.program.Name.{Name}
use Rattle.hys_prog.specs.declared.program.ProgItem.{ProgItem}
use Rattle.hys_prog.specs.declared.program.Program.{Program}
use Rattle.hys_prog.specs.declared.program.Order.{Order}
use Rattle.hys_prog.specs.Programs.{IsProgram, NameAt, IsVariable, has_column}
use Rattle.hys_prog.specs.Steps.{places, places_from, is_auxiliary, is_output}
use Rattle.hys_prog.specs.Orders.{IsIn, IsNone, IsFirst, IsReady, IsOrderAfter, IsOrder, Leads}
use Rattle.hys_prog.specs.Stops.{Check, checks_along, number_in}
use Rattle.hys_prog.specs.Walk.{found, found_checks, with_found}
use Rattle.hys_prog.proofs.Defined.{name_below}
use Rattle.hys_prog.proofs.Placing.{order_auxiliary}
use Rattle.hys_prog.proofs.Reading.{ReadsFor, Same, same_number_in, same_checks_of, each_reads}

-- ---- names
-- a state, an input or a parameter
abbrev pub is_fixed : Role → Bool
is_fixed State = true
is_fixed Input = true
is_fixed Output = false
is_fixed Parameter = true
is_fixed Aux = false

abbrev pub Is : (Role → Bool) → Program → ℕ → Type 0
Is part p n = NameAt p.names n (λ x. part x.role ≡ true)

variable_kinds : (r : Role) → has_column r ≡ true → (is_fixed r ≡ true) ⊎ (is_auxiliary r ≡ true)
variable_kinds State e = inl refl
variable_kinds Input e = inl refl
variable_kinds Output e = absurd (cc)
variable_kinds Parameter e = absurd (cc)
variable_kinds Aux e = inr refl

other_kinds : (r : Role) → is_output r ≡ false → (is_fixed r ≡ true) ⊎ (is_auxiliary r ≡ true)
other_kinds State e = inl refl
other_kinds Input e = inl refl
other_kinds Output e = absurd (cc)
other_kinds Parameter e = inl refl
other_kinds Aux e = inr refl

not_both : (r : Role) → is_fixed r ≡ true → is_auxiliary r ≡ true → ⊥
not_both State e f = absurd (cc)
not_both Input e f = absurd (cc)
not_both Output e f = absurd (cc)
not_both Parameter e f = absurd (cc)
not_both Aux e f = absurd (cc)

pub split_name : (P Q R : Name → Type 0) (xs : List Name) (n : ℕ) → ((x : Name) → P x → Q x ⊎ R x) → NameAt xs n P → NameAt xs n Q ⊎ NameAt xs n R
split_name P Q R [] n f h = absurd h
split_name P Q R (x ∷ xs) zero f h = f x h
split_name P Q R (x ∷ xs) (suc n) f h = split_name P Q R xs n f h

clash_name : (P Q : Name → Type 0) (xs : List Name) (n : ℕ) → ((x : Name) → P x → Q x → ⊥) → NameAt xs n P → NameAt xs n Q → ⊥
clash_name P Q [] n f h k = h
clash_name P Q (x ∷ xs) zero f h k = f x h k
clash_name P Q (x ∷ xs) (suc n) f h k = clash_name P Q xs n f h k

pub fixed_not_aux : (p : Program) (n : ℕ) → Is is_fixed p n → Is is_auxiliary p n → ⊥
fixed_not_aux p n = clash_name (λ (x : Name). is_fixed x.role ≡ true) (λ (x : Name). is_auxiliary x.role ≡ true) p.names n (λ x a b. not_both x.role a b)

pub variable_split : (p : Program) (n : ℕ) → NameAt p.names n IsVariable → Is is_fixed p n ⊎ Is is_auxiliary p n
variable_split p n = split_name IsVariable (λ (x : Name). is_fixed x.role ≡ true) (λ (x : Name). is_auxiliary x.role ≡ true) p.names n (λ x e. variable_kinds x.role e)

pub other_split : (p : Program) (n : ℕ) → NameAt p.names n (λ x. is_output x.role ≡ false) → Is is_fixed p n ⊎ Is is_auxiliary p n
other_split p n = split_name (λ (x : Name). is_output x.role ≡ false) (λ (x : Name). is_fixed x.role ≡ true) (λ (x : Name). is_auxiliary x.role ≡ true) p.names n (λ x e. other_kinds x.role e)

-- a name with a role of the part stands among its places
stands : (part : Role → Bool) (k n : ℕ) (xs : List Name) → NameAt xs n (λ x. part x.role ≡ true) → IsIn (k + n) (places_from k part xs)
stands part k n [] h = absurd h
stands part k zero (x ∷ xs) h = rw h (inl (omega arith))
stands part k (suc n) (x ∷ xs) h = go (part x.role) (let e : suc k + n ≡ k + suc n = omega arith in subst (λ (i : ℕ). IsIn i (places_from (suc k) part xs)) e (stands part (suc k) n xs h))
  where
    go : (b : Bool) → IsIn (k + suc n) (places_from (suc k) part xs) → IsIn (k + suc n) (cond b (k ∷ places_from (suc k) part xs) (places_from (suc k) part xs))
    go true i = inr i
    go false i = i

pub part_in : (part : Role → Bool) (p : Program) (n : ℕ) → Is part p n → IsIn n (places part p)
part_in part p n h = let e : 0 + n ≡ n = omega arith in subst (λ (i : ℕ). IsIn i (places part p)) e (stands part 0 n p.names h)

pub all_in : (P : ℕ → Type 0) (ns : List ℕ) (n : ℕ) → AllByRecursion P ns → IsIn n ns → P n
all_in P [] n h i = absurd i
all_in P (m ∷ ns) n h (inl e) = subst P e h.0
all_in P (m ∷ ns) n h (inr i) = all_in P ns n h.1 i

first_has : (P : ℕ → Type 0) (n : ℕ) (ms : List ℕ) → IsFirst P n ms → P n
first_has P n [] h = absurd h
first_has P n (m ∷ ms) (inl h) = subst P h.1 h.0
first_has P n (m ∷ ms) (inr h) = first_has P n ms h.1

-- ---- what is known when some auxiliaries are taken
abbrev pub IsKnown : Program → List ℕ → ℕ → Type 0
IsKnown p taken n = Is is_fixed p n ⊎ IsIn n taken

abbrev pub Agrees : Program → List ℕ → Assignment → Assignment → Type 0
Agrees p taken v w = (n : ℕ) → IsKnown p taken n → v n ≡ w n

-- a name of the order reads what is known when those before it are taken
pub ready_reads : (p : Program) (taken : List ℕ) (n : ℕ) (v w : Assignment) → IsProgram p → IsReady p taken n → Is is_auxiliary p n → Agrees p taken v w → ReadsFor (Same v w) n p.items
ready_reads p taken n v w h r a g = each_reads (Same v w) p.names n p.items h.bodies h.named a (λ m i l. go m l (variable_split p m i))
  where
    go : (m : ℕ) → Leads p n m → Is is_fixed p m ⊎ Is is_auxiliary p m → v m ≡ w m
    go m l (inl f) = g m (inl f)
    go m l (inr x) = g m (inr (all_in (λ m. Leads p n m → IsIn m taken) (places is_auxiliary p) m r.1 (part_in is_auxiliary p m x) l))

-- each auxiliary has the number that its definition gives
abbrev pub Follows : Program → Assignment → Type 0
Follows p w = (n : ℕ) → Is is_auxiliary p n → w n ≡ number_in w n p.items

pub set_agrees : (p : Program) (taken : List ℕ) (n : ℕ) (vs : List Number) (a : Number) (w : Assignment) → n < length vs → a ≡ w n → Agrees p taken (at vs) w → Agrees p (n ∷ taken) (at (set vs n a)) w
set_agrees p taken n vs a w b e g m k = go (cases_eq m n)
  where
    less : (m ≡ n → ⊥) → IsKnown p (n ∷ taken) m → IsKnown p taken m
    less f (inl x) = inl x
    less f (inr (inl x)) = absurd (f (sym x))
    less f (inr (inr x)) = inr x

    go : (m ≡ n) ⊎ (m ≡ n → ⊥) → at (set vs n a) m ≡ w m
    go (inl q) = subst (λ (i : ℕ). at (set vs n a) i ≡ w i) (sym q) (get_or-set_same vs n a (whole 0) b ∙ e)
    go (inr f) = get_or-set_other vs n m a (whole 0) f ∙ g m (less f k)

-- what is found along an order agrees with each assignment that follows the definitions
pub found_agrees : (p : Program) (taken ns : List ℕ) (vs : List Number) (w : Assignment) → IsProgram p → IsOrderAfter p taken ns → length vs ≡ length p.names → Follows p w → Agrees p taken (at vs) w →
    (n : ℕ) → NameAt p.names n (λ x. is_output x.role ≡ false) → at (found p.items ns vs) n ≡ w n
found_agrees p taken [] vs w h q l f g n i = go (other_split p n i)
  where
    go : Is is_fixed p n ⊎ Is is_auxiliary p n → at vs n ≡ w n
    go (inl x) = g n (inl x)
    go (inr x) = g n (inr (all_in (λ n. IsIn n taken) (places is_auxiliary p) n q (part_in is_auxiliary p n x)))
found_agrees p taken (m ∷ ns) vs w h q l f g n i =
    let a : Is is_auxiliary p m = order_auxiliary p taken (m ∷ ns) m q (inl refl) in
    let r = first_has (IsReady p taken) m (places is_auxiliary p) q.0 in
    let b = name_below (λ (x : Name). is_auxiliary x.role ≡ true) p.names m a in
    let e = same_number_in (at vs) w m p.items (ready_reads p taken m (at vs) w h r a g) ∙ sym (f m a) in
    found_agrees p (m ∷ taken) ns (with_found p.items m vs) w h q.1 (length-set vs m (number_in (at vs) m p.items) ∙ l) f (set_agrees p taken m vs (number_in (at vs) m p.items) w (omega arith) e g) n i

-- and so do the checks
pub found_same : (p : Program) (taken ns : List ℕ) (vs : List Number) (w : Assignment) → IsProgram p → IsOrderAfter p taken ns → length vs ≡ length p.names → Follows p w → Agrees p taken (at vs) w → found_checks p.items ns vs ≡ checks_along w p.items ns
found_same p taken [] vs w h q l f g = refl
found_same p taken (m ∷ ns) vs w h q l f g =
    let a : Is is_auxiliary p m = order_auxiliary p taken (m ∷ ns) m q (inl refl) in
    let r = ready_reads p taken m (at vs) w h (first_has (IsReady p taken) m (places is_auxiliary p) q.0) a g in
    let b = name_below (λ (x : Name). is_auxiliary x.role ≡ true) p.names m a in
    let e = same_number_in (at vs) w m p.items r ∙ sym (f m a) in
    ap₂ (λ (xs ys : List Check). xs ++ ys) (same_checks_of (at vs) w m 0 p.items r)
    (found_same p (m ∷ taken) ns (with_found p.items m vs) w h q.1 (length-set vs m (number_in (at vs) m p.items) ∙ l) f (set_agrees p taken m vs (number_in (at vs) m p.items) w (omega arith) e g))

-- ---- the found values follow the definitions
in_none : (m n : ℕ) (taken : List ℕ) → IsIn m taken → IsNone n taken → n ≡ m → ⊥
in_none m n [] i h e = i
in_none m n (k ∷ taken) (inl q) h e = h.0 (q ∙ sym e)
in_none m n (k ∷ taken) (inr i) h e = in_none m n taken i h.1 e

pub taken_later : (p : Program) (taken ns : List ℕ) (m : ℕ) → IsOrderAfter p taken ns → IsIn m taken → IsNone m ns
taken_later p taken [] m q i = tt
taken_later p taken (n ∷ ns) m q i = (in_none m n taken i (first_has (IsReady p taken) n (places is_auxiliary p) q.0).0, taken_later p (n ∷ taken) ns m q.1 (inr i))

fixed_later : (p : Program) (taken ns : List ℕ) (m : ℕ) → IsOrderAfter p taken ns → Is is_fixed p m → IsNone m ns
fixed_later p taken [] m q i = tt
fixed_later p taken (n ∷ ns) m q i = (λ e. fixed_not_aux p m i (subst (λ (k : ℕ). Is is_auxiliary p k) e (order_auxiliary p taken (n ∷ ns) n q (inl refl))), fixed_later p (n ∷ taken) ns m q.1 i)

kept : (items : List ProgItem) (ns : List ℕ) (vs : List Number) (m : ℕ) → IsNone m ns → at (found items ns vs) m ≡ at vs m
kept items [] vs m h = refl
kept items (n ∷ ns) vs m h = kept items ns (with_found items n vs) m h.1 ∙ get_or-set_other vs n m (number_in (at vs) n items) (whole 0) (λ e. h.0 (sym e))

known_kept : (p : Program) (taken ns : List ℕ) (vs : List Number) → IsOrderAfter p taken ns → Agrees p taken (at vs) (at (found p.items ns vs))
known_kept p taken ns vs q m (inl x) = sym (kept p.items ns vs m (fixed_later p taken ns m q x))
known_kept p taken ns vs q m (inr x) = sym (kept p.items ns vs m (taken_later p taken ns m q x))

pub fixed_kept : (p : Program) (taken ns : List ℕ) (vs : List Number) (m : ℕ) → IsOrderAfter p taken ns → Is is_fixed p m → at (found p.items ns vs) m ≡ at vs m
fixed_kept p taken ns vs m q x = kept p.items ns vs m (fixed_later p taken ns m q x)

found_number : (p : Program) (taken ns : List ℕ) (vs : List Number) (n : ℕ) → IsProgram p → IsOrderAfter p taken ns → length vs ≡ length p.names → IsIn n ns → at (found p.items ns vs) n ≡ number_in (at (found p.items ns vs)) n p.items
found_number p taken [] vs n h q l i = absurd i
found_number p taken (m ∷ ns) vs n h q l (inr i) = found_number p (m ∷ taken) ns (with_found p.items m vs) n h q.1 (length-set vs m (number_in (at vs) m p.items) ∙ l) i
found_number p taken (m ∷ ns) vs n h q l (inl e) =
    let v = at (found p.items ns (with_found p.items m vs)) in
    let a : Is is_auxiliary p m = order_auxiliary p taken (m ∷ ns) m q (inl refl) in
    let b = name_below (λ (x : Name). is_auxiliary x.role ≡ true) p.names m a in
    let r = ready_reads p taken m (at vs) v h (first_has (IsReady p taken) m (places is_auxiliary p) q.0) a (known_kept p taken (m ∷ ns) vs q) in
    subst (λ (k : ℕ). v k ≡ number_in v k p.items) e
    (kept p.items ns (with_found p.items m vs) m (taken_later p (m ∷ taken) ns m q.1 (inl refl))
    ∙ get_or-set_same vs m (number_in (at vs) m p.items) (whole 0) (omega arith) ∙ same_number_in (at vs) v m p.items r)

ordered : (p : Program) (taken ns : List ℕ) (n : ℕ) → IsOrderAfter p taken ns → IsIn n (places is_auxiliary p) → IsIn n taken ⊎ IsIn n ns
ordered p taken [] n q i = inl (all_in (λ n. IsIn n taken) (places is_auxiliary p) n q i)
ordered p taken (m ∷ ns) n q i = go (ordered p (m ∷ taken) ns n q.1 i)
  where
    go : IsIn n (m ∷ taken) ⊎ IsIn n ns → IsIn n taken ⊎ IsIn n (m ∷ ns)
    go (inl (inl e)) = inr (inl e)
    go (inl (inr j)) = inl j
    go (inr j) = inr (inr j)

pub in_order : (p : Program) (o : Order) (n : ℕ) → IsOrder p o → Is is_auxiliary p n → IsIn n o.names
in_order p o n q a = go (ordered p [] o.names n q (part_in is_auxiliary p n a))
  where
    go : IsIn n [] ⊎ IsIn n o.names → IsIn n o.names
    go (inl i) = absurd i
    go (inr i) = i

pub found_follows : (p : Program) (o : Order) (vs : List Number) → IsProgram p → IsOrder p o → length vs ≡ length p.names → Follows p (at (found p.items o.names vs))
found_follows p o vs h q l n a = found_number p [] o.names vs n h q l (in_order p o n q a)
