-- The columns of names are a placing.
use Rattle.std.proofs.Common.{◌≡◌, ℕ, zero, suc, ◌+◌, ◌-◌, ◌<◌, ◌≤◌, List, [], ◌∷◌, ◌++◌, Bool, true, false, cond, not, ◌&&◌, length, get_or, refl, sym, ◌∙◌, ap, arith, subst, inl, inr, ◌⊎◌, length-append}
use Rattle.std.proofs.lemmas.Bool.{cases_lt}
use Rattle.std.proofs.lemmas.List.{get_or_append_left, get_or-append-add}
use Rattle.hys_ast.specs.declared.source.Kind.{Kind}
use Rattle.hys_ast.specs.declared.source.Kind.TheVariants as kind
use Rattle.hys_prog.specs.declared.program.Name.{Name}
use Rattle.hys_prog.specs.declared.program.Program.{Program}
use Rattle.hys_prog.specs.declared.program.Role.{Role}
use Rattle.hys_prog.specs.declared.program.Role.TheVariants.{State, Input, Output, Parameter, Aux}
use Rattle.hys_prog.specs.Steps.{places, is_state, is_input, is_auxiliary}
use Rattle.hys_logic.specs.Literals.{column_in}
use Rattle.hys_exact.specs.Columns.{IsPlacing, of_each, own_place, is_state_name, is_input_name, is_boolean, is_boolean_auxiliary, is_real_auxiliary, front, behind}
use Rattle.hys_exact.proofs.Names.{places_each}
use Rattle.hys_mld.specs.declared.placing.Free.{Free}
use Rattle.hys_mld.specs.Placing.{taken, freed, after_name, after_names, placed_from, nowhere, counts, start_of, placing_of}

-- ---- one sort of names
-- the names of the sort take its free column, and no others do
pub record IsSort (t : Name → Bool) (free : Free → ℕ) : Type 0 where
  pub here : (x : Name) (s : Free) → t x ≡ true → taken x.role x.kind s ≡ free s
  pub next : (x : Name) (s : Free) → free (after_name x s) ≡ cond (t x) (suc (free s)) (free s)

state_sort : (r : Role) (d : Kind) (s : Free) → (is_state r ≡ true → taken r d s ≡ s.state) × ((freed r d s).state ≡ cond (is_state r) (suc s.state) s.state)
state_sort State d s = (λ e. refl, refl)
state_sort Input d s = (λ e. absurd (cc), refl)
state_sort Output d s = (λ e. absurd (cc), refl)
state_sort Parameter d s = (λ e. absurd (cc), refl)
state_sort Aux kind.Real s = (λ e. absurd (cc), refl)
state_sort Aux kind.Bool s = (λ e. absurd (cc), refl)

input_sort : (r : Role) (d : Kind) (s : Free) → (is_input r ≡ true → taken r d s ≡ s.input) × ((freed r d s).input ≡ cond (is_input r) (suc s.input) s.input)
input_sort State d s = (λ e. absurd (cc), refl)
input_sort Input d s = (λ e. refl, refl)
input_sort Output d s = (λ e. absurd (cc), refl)
input_sort Parameter d s = (λ e. absurd (cc), refl)
input_sort Aux kind.Real s = (λ e. absurd (cc), refl)
input_sort Aux kind.Bool s = (λ e. absurd (cc), refl)

boolean_sort : (r : Role) (d : Kind) (s : Free) → ((is_auxiliary r && is_boolean d) ≡ true → taken r d s ≡ s.boolean) × ((freed r d s).boolean ≡ cond (is_auxiliary r && is_boolean d) (suc s.boolean) s.boolean)
boolean_sort State d s = (λ e. absurd (cc), refl)
boolean_sort Input d s = (λ e. absurd (cc), refl)
boolean_sort Output d s = (λ e. absurd (cc), refl)
boolean_sort Parameter d s = (λ e. absurd (cc), refl)
boolean_sort Aux kind.Real s = (λ e. absurd (cc), refl)
boolean_sort Aux kind.Bool s = (λ e. refl, refl)

real_sort : (r : Role) (d : Kind) (s : Free) → ((is_auxiliary r && not (is_boolean d)) ≡ true → taken r d s ≡ s.real) × ((freed r d s).real ≡ cond (is_auxiliary r && not (is_boolean d)) (suc s.real) s.real)
real_sort State d s = (λ e. absurd (cc), refl)
real_sort Input d s = (λ e. absurd (cc), refl)
real_sort Output d s = (λ e. absurd (cc), refl)
real_sort Parameter d s = (λ e. absurd (cc), refl)
real_sort Aux kind.Real s = (λ e. refl, refl)
real_sort Aux kind.Bool s = (λ e. absurd (cc), refl)

pub states : IsSort is_state_name (λ s. s.state)
states = record { here = λ x s. (state_sort x.role x.kind s).0; next = λ x s. (state_sort x.role x.kind s).1 }

pub inputs : IsSort is_input_name (λ s. s.input)
inputs = record { here = λ x s. (input_sort x.role x.kind s).0; next = λ x s. (input_sort x.role x.kind s).1 }

pub booleans : IsSort is_boolean_auxiliary (λ s. s.boolean)
booleans = record { here = λ x s. (boolean_sort x.role x.kind s).0; next = λ x s. (boolean_sort x.role x.kind s).1 }

pub reals : IsSort is_real_auxiliary (λ s. s.real)
reals = record { here = λ x s. (real_sort x.role x.kind s).0; next = λ x s. (real_sort x.role x.kind s).1 }

-- how far the free column of the sort has moved
pub sort_length : (t : Name → Bool) (free : Free → ℕ) → IsSort t free → (k : ℕ) (s : Free) (xs : List Name) → free (after_names s xs) ≡ free s + length (of_each t own_place k xs)
sort_length t free a k s [] = omega arith
sort_length t free a k s (x ∷ xs) = go (t x) (free (after_name x s)) (of_each t own_place (suc k) xs) (a.next x s) (sort_length t free a (suc k) (after_name x s) xs)
  where
    go : (b : Bool) (m : ℕ) (ns : List ℕ) → m ≡ cond b (suc (free s)) (free s) → free (after_names (after_name x s) xs) ≡ m + length ns →
        free (after_names (after_name x s) xs) ≡ free s + length (cond b (k ∷ ns) ns)
    go true m ns e f = omega arith
    go false m ns e f = omega arith

-- the names of the sort stand one after another
pub sort_at : (t : Name → Bool) (free : Free → ℕ) → IsSort t free → (k : ℕ) (s : Free) (xs : List Name) (i : ℕ) → i < length (of_each t own_place k xs) →
    (j : ℕ) × (get_or (of_each t own_place k xs) i 0 ≡ k + j) × (get_or (placed_from s xs) j 0 ≡ free s + i)
sort_at t free a k s [] i l = absurd (omega arith)
sort_at t free a k s (x ∷ xs) i l = go (t x) refl i l (λ i l. sort_at t free a (suc k) (after_name x s) xs i l)
  where
    Found : Bool → ℕ → Type 0
    Found b i = (j : ℕ) × (get_or (cond b (k ∷ of_each t own_place (suc k) xs) (of_each t own_place (suc k) xs)) i 0 ≡ k + j) × (get_or (taken x.role x.kind s ∷ placed_from (after_name x s) xs) j 0 ≡ free s + i)

    Later : ℕ → Type 0
    Later i = (j : ℕ) × (get_or (of_each t own_place (suc k) xs) i 0 ≡ suc k + j) × (get_or (placed_from (after_name x s) xs) j 0 ≡ free (after_name x s) + i)

    go : (b : Bool) → t x ≡ b → (i : ℕ) → i < length (cond b (k ∷ of_each t own_place (suc k) xs) (of_each t own_place (suc k) xs)) → ((i : ℕ) → i < length (of_each t own_place (suc k) xs) → Later i) → Found b i
    go true e zero l f = let h : taken x.role x.kind s ≡ free s = a.here x s e in (0, omega arith, omega arith)
    go true e (suc i) l f =
        let r : Later i = f i (omega arith) in
        let n : free (after_name x s) ≡ suc (free s) = subst (λ (b : Bool). free (after_name x s) ≡ cond b (suc (free s)) (free s)) e (a.next x s) in
        let c : get_or (of_each t own_place (suc k) xs) i 0 ≡ suc k + r.0 = r.1 in
        let d : get_or (placed_from (after_name x s) xs) r.0 0 ≡ free (after_name x s) + i = r.2 in
        (suc r.0, omega arith, omega arith)
    go false e i l f =
        let r : Later i = f i l in
        let n : free (after_name x s) ≡ free s = subst (λ (b : Bool). free (after_name x s) ≡ cond b (suc (free s)) (free s)) e (a.next x s) in
        let c : get_or (of_each t own_place (suc k) xs) i 0 ≡ suc k + r.0 = r.1 in
        let d : get_or (placed_from (after_name x s) xs) r.0 0 ≡ free (after_name x s) + i = r.2 in
        (suc r.0, omega arith, omega arith)

-- the column of a name of the sort
pub sort_column : (t : Name → Bool) (free : Free → ℕ) → IsSort t free → (s : Free) (xs : List Name) (i : ℕ) → i < length (of_each t own_place 0 xs) →
    get_or (placed_from s xs) (get_or (of_each t own_place 0 xs) i 0) 0 ≡ free s + i
sort_column t free a s xs i l =
    let r : (j : ℕ) × (get_or (of_each t own_place 0 xs) i 0 ≡ 0 + j) × (get_or (placed_from s xs) j 0 ≡ free s + i) = sort_at t free a 0 s xs i l in
    let e : get_or (of_each t own_place 0 xs) i 0 ≡ r.0 = (let z : get_or (of_each t own_place 0 xs) i 0 ≡ 0 + r.0 = r.1 in omega arith) in
    rw e r.2

-- ---- all sorts
pub placed_long : (s : Free) (xs : List Name) → length (placed_from s xs) ≡ length xs
placed_long s [] = refl
placed_long s (x ∷ xs) = ap suc (placed_long (after_name x s) xs)

-- the places of states and of inputs, and how many names of each sort there are
pub state_places : (p : Program) → places is_state p ≡ of_each is_state_name own_place 0 p.names
state_places p = places_each is_state 0 p.names

pub input_places : (p : Program) → places is_input p ≡ of_each is_input_name own_place 0 p.names
input_places p = places_each is_input 0 p.names

sort_count : (t : Name → Bool) (free : Free → ℕ) → IsSort t free → (xs : List Name) → free nowhere ≡ 0 → free (counts xs) ≡ length (of_each t own_place 0 xs)
sort_count t free a xs e = let l : free (after_names nowhere xs) ≡ free nowhere + length (of_each t own_place 0 xs) = sort_length t free a 0 nowhere xs in omega arith

pub state_count : (p : Program) → (counts p.names).state ≡ length (places is_state p)
state_count p = sort_count is_state_name (λ s. s.state) states p.names refl ∙ ap length (sym (state_places p))

pub input_count : (p : Program) → (counts p.names).input ≡ length (places is_input p)
input_count p = sort_count is_input_name (λ s. s.input) inputs p.names refl ∙ ap length (sym (input_places p))

pub boolean_count : (p : Program) → (counts p.names).boolean ≡ length (of_each is_boolean_auxiliary own_place 0 p.names)
boolean_count p = sort_count is_boolean_auxiliary (λ s. s.boolean) booleans p.names refl

pub real_count : (p : Program) → (counts p.names).real ≡ length (behind p)
real_count p = sort_count is_real_auxiliary (λ s. s.real) reals p.names refl

pub front_count : (p : Program) → length (front p) ≡ (counts p.names).state + (counts p.names).input + (counts p.names).boolean
front_count p =
    let e : length (front p) ≡ length (places is_state p ++ places is_input p) + length (of_each is_boolean_auxiliary own_place 0 p.names) = length-append (places is_state p ++ places is_input p) (of_each is_boolean_auxiliary own_place 0 p.names) in
    let f : length (places is_state p ++ places is_input p) ≡ length (places is_state p) + length (places is_input p) = length-append (places is_state p) (places is_input p) in
    let a = state_count p in
    let b = input_count p in
    let c = boolean_count p in
    omega arith

-- an entry of three lists one behind the other
third_of : (xs ys zs : List ℕ) (i : ℕ) → i < length ((xs ++ ys) ++ zs) →
    ((i < length xs) × (get_or ((xs ++ ys) ++ zs) i 0 ≡ get_or xs i 0)) ⊎
    (((j : ℕ) × (i ≡ length xs + j) × (j < length ys) × (get_or ((xs ++ ys) ++ zs) i 0 ≡ get_or ys j 0)) ⊎
    ((j : ℕ) × (i ≡ length xs + length ys + j) × (j < length zs) × (get_or ((xs ++ ys) ++ zs) i 0 ≡ get_or zs j 0)))
third_of xs ys zs i l = go (cases_lt i (length xs)) (cases_lt i (length (xs ++ ys)))
  where
    whole : length ((xs ++ ys) ++ zs) ≡ length (xs ++ ys) + length zs
    whole = length-append (xs ++ ys) zs

    two : length (xs ++ ys) ≡ length xs + length ys
    two = length-append xs ys

    go : (i < length xs) ⊎ (length xs ≤ i) → (i < length (xs ++ ys)) ⊎ (length (xs ++ ys) ≤ i) →
        ((i < length xs) × (get_or ((xs ++ ys) ++ zs) i 0 ≡ get_or xs i 0)) ⊎
        (((j : ℕ) × (i ≡ length xs + j) × (j < length ys) × (get_or ((xs ++ ys) ++ zs) i 0 ≡ get_or ys j 0)) ⊎
        ((j : ℕ) × (i ≡ length xs + length ys + j) × (j < length zs) × (get_or ((xs ++ ys) ++ zs) i 0 ≡ get_or zs j 0)))
    go (inl a) b = let t = two in inl (a, get_or_append_left (xs ++ ys) zs 0 i (omega arith) ∙ get_or_append_left xs ys 0 i a)
    go (inr a) (inl b) =
        let t = two in
        let e : i ≡ length xs + (i - length xs) = omega arith in
        inr (inl (i - length xs, e, omega arith, get_or_append_left (xs ++ ys) zs 0 i b ∙ (ap (λ (m : ℕ). get_or (xs ++ ys) m 0) e ∙ get_or-append-add xs ys (i - length xs) 0)))
    go (inr a) (inr b) =
        let t = two in
        let w = whole in
        let e : i ≡ length (xs ++ ys) + (i - length (xs ++ ys)) = omega arith in
        inr (inr (i - length (xs ++ ys), omega arith, omega arith, ap (λ (m : ℕ). get_or ((xs ++ ys) ++ zs) m 0) e ∙ get_or-append-add (xs ++ ys) zs (i - length (xs ++ ys)) 0))

pub is_placing : (p : Program) (fresh : ℕ) → IsPlacing p fresh (placing_of p fresh)
is_placing p fresh = record { long = placed_long (start_of (counts p.names) fresh) p.names; before = before; after = after }
  where
    start : Free
    start = start_of (counts p.names) fresh

    column : (n m i : ℕ) → n ≡ m → get_or (placed_from (start_of (counts p.names) fresh) p.names) m 0 ≡ i → column_in (placing_of p fresh) n ≡ i
    column n m i e f = rw e f

    before : (i : ℕ) → i < length (front p) → column_in (placing_of p fresh) (get_or (front p) i 0) ≡ i
    before i l = go (third_of (places is_state p) (places is_input p) (of_each is_boolean_auxiliary own_place 0 p.names) i l)
      where
        go : ((i < length (places is_state p)) × (get_or (front p) i 0 ≡ get_or (places is_state p) i 0)) ⊎
            (((j : ℕ) × (i ≡ length (places is_state p) + j) × (j < length (places is_input p)) × (get_or (front p) i 0 ≡ get_or (places is_input p) j 0)) ⊎
            ((j : ℕ) × (i ≡ length (places is_state p) + length (places is_input p) + j) × (j < length (of_each is_boolean_auxiliary own_place 0 p.names)) × (get_or (front p) i 0 ≡ get_or (of_each is_boolean_auxiliary own_place 0 p.names) j 0))) →
            column_in (placing_of p fresh) (get_or (front p) i 0) ≡ i
        go (inl h) = column (get_or (front p) i 0) (get_or (of_each is_state_name own_place 0 p.names) i 0) i (h.1 ∙ ap (λ (ns : List ℕ). get_or ns i 0) (state_places p)) (sort_column is_state_name (λ s. s.state) states (start_of (counts p.names) fresh) p.names i (rw (sym (state_places p)) h.0) ∙ (let z : 0 + i ≡ i = omega arith in z))
        go (inr (inl h)) =
            let c : (counts p.names).state ≡ length (places is_state p) = state_count p in
            let q : i ≡ length (places is_state p) + h.0 = h.1 in
            let e : (counts p.names).state + h.0 ≡ i = omega arith in
            column (get_or (front p) i 0) (get_or (of_each is_input_name own_place 0 p.names) h.0 0) i (h.3 ∙ ap (λ (ns : List ℕ). get_or ns h.0 0) (input_places p)) (sort_column is_input_name (λ s. s.input) inputs (start_of (counts p.names) fresh) p.names h.0 (rw (sym (input_places p)) h.2) ∙ e)
        go (inr (inr h)) =
            let c : (counts p.names).state ≡ length (places is_state p) = state_count p in
            let d : (counts p.names).input ≡ length (places is_input p) = input_count p in
            let q : i ≡ length (places is_state p) + length (places is_input p) + h.0 = h.1 in
            let e : ((counts p.names).state + (counts p.names).input) + h.0 ≡ i = omega arith in
            column (get_or (front p) i 0) (get_or (of_each is_boolean_auxiliary own_place 0 p.names) h.0 0) i h.3 (sort_column is_boolean_auxiliary (λ s. s.boolean) booleans (start_of (counts p.names) fresh) p.names h.0 h.2 ∙ e)

    after : (i : ℕ) → i < length (behind p) → column_in (placing_of p fresh) (get_or (behind p) i 0) ≡ length (front p) + (fresh + i)
    after i l =
        let f : length (front p) ≡ (counts p.names).state + (counts p.names).input + (counts p.names).boolean = front_count p in
        let e : ((counts p.names).state + (counts p.names).input + (counts p.names).boolean + fresh) + i ≡ length (front p) + (fresh + i) = omega arith in
        sort_column is_real_auxiliary (λ s. s.real) reals (start_of (counts p.names) fresh) p.names i l ∙ e
