-- The columns of a system that is arranged for an automaton, and the numbers of one step.
use Rattle.std.proofs.Common.{◌≡◌, ◌↔◌, ℕ, zero, suc, ◌<◌, List, [], ◌∷◌, ◌++◌, length, map, take, filter, Bool, true, false, not, cond, ◌&&◌, refl, sym, ◌∙◌, ap, ap₂, subst, arith, HoldsAt}
use Rattle.std.proofs.Math.Seq.{take-append_seam}
use Rattle.std.specs.List.{AllByRecursion}
use Rattle.hys_number.specs.Number.{Number}
use Rattle.hys_number.proofs.Order.{le_antisymm, le_refl'}
use Rattle.hys_lin.specs.Sums.{at, Within}
use Rattle.hys_sys.specs.Solution.{IsOfKind}
use Rattle.hys_sys.specs.Exact.{Automaton, Boxed, Variable, AreIn, column_of, variable_of, is_bool as is_boolean, reals}
use Rattle.hys_sys.specs.declared.system.ColumnRole.{ColumnRole}
use Rattle.hys_sys.specs.declared.system.ColumnRole.TheVariants.{State, Input, D}
use Rattle.hys_sys.specs.declared.system.Kind2.{Kind2}
use Rattle.hys_sys.specs.declared.system.Kind2.TheVariants as kind
use Rattle.hys_sys.specs.declared.system.Column.{Column}
use Rattle.hys_stack.specs.Requests.{state_columns, is_state, IsStart, AreStarts}
use Rattle.hys_stack.specs.Stacking.{bounds_of, only, is_bool, is_branch_role}
use Rattle.hys_stack.specs.Trajectories.{AreWithin, AreOfKinds}
use Rattle.hys_stack.proofs.Blocks.{InEach, AreBits, BitWhere}

-- ---- states
pub states_of : (ds : List Boxed) (cs : List Column) → AllByRecursion (λ c. is_state c.role ≡ false) cs → state_columns (map (column_of State) ds ++ cs) ≡ map (column_of State) ds
states_of [] [] h = refl
states_of [] (c ∷ cs) h = rw h.0 (states_of [] cs h.1)
states_of (d ∷ ds) cs h = ap (λ xs. column_of State d ∷ xs) (states_of ds cs h)

pub inputs_arent : (ds : List Boxed) → AllByRecursion (λ c. is_state c.role ≡ false) (map (column_of Input) ds)
inputs_arent [] = tt
inputs_arent (d ∷ ds) = (refl, inputs_arent ds)

pub others_arent : (role : ColumnRole) (cs : List Column) → is_state role ≡ false → AllByRecursion (λ c. c.role ≡ role) cs → AllByRecursion (λ c. is_state c.role ≡ false) cs
others_arent role [] e h = tt
others_arent role (c ∷ cs) e h = (ap is_state h.0 ∙ e, others_arent role cs e h.1)

pub every_behind : (P : Column → Type 0) (xs ys : List Column) → AllByRecursion P xs → AllByRecursion P ys → AllByRecursion P (xs ++ ys)
every_behind P [] ys h k = k
every_behind P (x ∷ xs) ys h k = (h.0, every_behind P xs ys h.1 k)

pub every_front : (P : Column → Type 0) (xs ys : List Column) → AllByRecursion P (xs ++ ys) → AllByRecursion P xs × AllByRecursion P ys
every_front P [] ys h = (tt, h)
every_front P (x ∷ xs) ys h = let p : AllByRecursion P xs × AllByRecursion P ys = every_front P xs ys h.1 in ((h.0, p.0), p.1)

-- ---- the boxes of the first step
only_is : (a b : Number) → Within (only a) b → b ≡ a
only_is a b w = le_antisymm b a w.high w.low

next_boxes : (m : Column) (ms os : List Column) (s : Number) (start : List Number) (a : Number) (b : List Number) → IsStart m s →
    (InEach (map only start ++ bounds_of os) b ↔ (InEach (bounds_of (ms ++ os)) b × (take (length start) b ≡ start))) →
    (Within (only s) a × InEach (map only start ++ bounds_of os) b) ↔ ((Within m.bounds a × InEach (bounds_of (ms ++ os)) b) × ((a ∷ take (length start) b) ≡ (s ∷ start)))
next_boxes m ms os s start a b h rest = (
  λ e. let q : a ≡ s = only_is s a e.0 in ((subst (Within m.bounds) (sym q) h.within, (rest.0 e.1).0), ap₂ (λ (x : Number) (xs : List Number). x ∷ xs) q (rest.0 e.1).1),
  λ e. let q : a ≡ s = cc in let qs : take (length start) b ≡ start = cc in
      (subst (Within (only s)) (sym q) (record { low = le_refl' s; high = le_refl' s }), rest.1 (e.0.1, qs)),
)

pub first_boxes : (ms os : List Column) (start b : List Number) → AreStarts ms start →
    InEach (map only start ++ bounds_of os) b ↔ (InEach (bounds_of (ms ++ os)) b × (take (length start) b ≡ start))
first_boxes [] os [] b h = (λ e. (e, refl), λ e. e.0)
first_boxes [] os (s ∷ start) b h = absurd h
first_boxes (m ∷ ms) os [] b h = absurd h
first_boxes (m ∷ ms) os (s ∷ start) [] h = (λ e. absurd e, λ e. absurd e.0)
first_boxes (m ∷ ms) os (s ∷ start) (a ∷ b) h = next_boxes m ms os s start a b h.0 (first_boxes ms os start b h.1)

-- ---- states and inputs in their boxes
pub starts_are : (ds : List Boxed) (xs : List Number) → AreStarts (map (column_of State) ds) xs ↔ AreIn ds xs
starts_are [] [] = (λ h. tt, λ h. tt)
starts_are [] (a ∷ as') = (λ h. absurd h, λ h. absurd h)
starts_are (d ∷ ds) [] = (λ h. absurd h, λ h. absurd h)
starts_are (d ∷ ds) (a ∷ as') = (λ h. ((h.0.within, h.0.kind), (starts_are ds as').0 h.1), λ h. (record { within = h.0.0; kind = h.0.1 }, (starts_are ds as').1 h.1))

pub in_of : (role : ColumnRole) (ds : List Boxed) (xs : List Number) → InEach (bounds_of (map (column_of role) ds)) xs → AreOfKinds ds xs → AreIn ds xs
in_of role [] [] h k = tt
in_of role [] (a ∷ as') h k = absurd h
in_of role (d ∷ ds) [] h k = absurd h
in_of role (d ∷ ds) (a ∷ as') h k = ((h.0, k.0), in_of role ds as' h.1 k.1)

pub kinds_in : (ds : List Boxed) (xs : List Number) → AreIn ds xs → AreOfKinds ds xs
kinds_in [] [] h = tt
kinds_in [] (a ∷ as') h = absurd h
kinds_in (d ∷ ds) [] h = absurd h
kinds_in (d ∷ ds) (a ∷ as') h = (h.0.1, kinds_in ds as' h.1)

pub long_in : (ds : List Boxed) (xs : List Number) → AreIn ds xs → length xs ≡ length ds
long_in [] [] h = refl
long_in [] (a ∷ as') h = absurd h
long_in (d ∷ ds) [] h = absurd h
long_in (d ∷ ds) (a ∷ as') h = ap suc (long_in ds as' h.1)

pub long_kinds : (ds : List Boxed) (xs : List Number) → AreOfKinds ds xs → length xs ≡ length ds
long_kinds [] [] h = refl
long_kinds [] (a ∷ as') h = absurd h
long_kinds (d ∷ ds) [] h = absurd h
long_kinds (d ∷ ds) (a ∷ as') h = ap suc (long_kinds ds as' h.1)

pub within_are : (ds : List Boxed) (xs : List Number) → InEach (bounds_of (map (column_of State) ds)) xs ↔ AreWithin ds xs
within_are [] [] = (λ h. tt, λ h. tt)
within_are [] (a ∷ as') = (λ h. absurd h, λ h. absurd h)
within_are (d ∷ ds) [] = (λ h. absurd h, λ h. absurd h)
within_are (d ∷ ds) (a ∷ as') = (λ h. (h.0, (within_are ds as').0 h.1), λ h. (h.0, (within_are ds as').1 h.1))

-- ---- kinds
-- each number is of its column's kind
abbrev pub AreKinds : List Column → List Number → Type 0
AreKinds [] xs = Unit {0}
AreKinds (c ∷ cs) [] = Unit {0}
AreKinds (c ∷ cs) (a ∷ as') = IsOfKind c.kind a × AreKinds cs as'

pub kinds_split : (cs ds : List Column) (xs ys : List Number) → length xs ≡ length cs → AreKinds (cs ++ ds) (xs ++ ys) ↔ (AreKinds cs xs × AreKinds ds ys)
kinds_split [] ds [] ys l = (λ h. (tt, h), λ h. h.1)
kinds_split [] ds (a ∷ as') ys l = absurd (omega arith)
kinds_split (c ∷ cs) ds [] ys l = absurd (omega arith)
kinds_split (c ∷ cs) ds (a ∷ as') ys l =
    let rest : AreKinds (cs ++ ds) (as' ++ ys) ↔ (AreKinds cs as' × AreKinds ds ys) = kinds_split cs ds as' ys (omega arith) in
    (λ h. ((h.0, (rest.0 h.1).0), (rest.0 h.1).1), λ h. (h.0.0, rest.1 (h.0.1, h.1)))

pub bits_split : (cs ds : List Column) (xs ys : List Number) → length xs ≡ length cs → AreBits (cs ++ ds) (xs ++ ys) → AreBits cs xs × AreBits ds ys
bits_split [] ds [] ys l h = (tt, h)
bits_split [] ds (a ∷ as') ys l h = absurd (omega arith)
bits_split (c ∷ cs) ds [] ys l h = absurd (omega arith)
bits_split (c ∷ cs) ds (a ∷ as') ys l h =
    let rest : AreBits cs as' × AreBits ds ys = bits_split cs ds as' ys (omega arith) h.1 in ((h.0, rest.0), rest.1)

pub state_kinds : (ds : List Boxed) (xs : List Number) → AreOfKinds ds xs → AreKinds (map (column_of State) ds) xs
state_kinds [] xs h = tt
state_kinds (d ∷ ds) [] h = tt
state_kinds (d ∷ ds) (a ∷ as') h = (h.0, state_kinds ds as' h.1)

kind_of_bit : (K : Kind2) (a : Number) → BitWhere (is_bool K && true) a → IsOfKind K a
kind_of_bit kind.Real a h = tt
kind_of_bit kind.Bool a h = h

pub input_kinds : (ds : List Boxed) (xs : List Number) → length xs ≡ length ds → AreBits (map (column_of Input) ds) xs → AreOfKinds ds xs × AreKinds (map (column_of Input) ds) xs
input_kinds [] [] l h = (tt, tt)
input_kinds [] (a ∷ as') l h = absurd (omega arith)
input_kinds (d ∷ ds) [] l h = absurd (omega arith)
input_kinds (d ∷ ds) (a ∷ as') l h =
    let rest : AreOfKinds ds as' × AreKinds (map (column_of Input) ds) as' = input_kinds ds as' (omega arith) h.1 in
    let here : IsOfKind d.kind a = kind_of_bit d.kind a h.0 in ((here, rest.0), (here, rest.1))

-- real columns have any number
real_of : (K : Kind2) (a : Number) → is_boolean K ≡ false → IsOfKind K a
real_of kind.Real a e = tt
real_of kind.Bool a e = absurd (let n : true ≡ false = e in cc)

filtered : (as' : List Variable) → AllByRecursion (λ (a : Variable). is_boolean a.kind ≡ false) (filter (λ (a : Variable). not (is_boolean a.kind)) as')
filtered [] = tt
filtered (a ∷ as') = go (is_boolean a.kind) refl (filtered as')
  where
    go : (b : Bool) → is_boolean a.kind ≡ b → AllByRecursion (λ (x : Variable). is_boolean x.kind ≡ false) (filter (λ (x : Variable). not (is_boolean x.kind)) as') →
        AllByRecursion (λ (x : Variable). is_boolean x.kind ≡ false) (cond (not b) (a ∷ filter (λ (x : Variable). not (is_boolean x.kind)) as') (filter (λ (x : Variable). not (is_boolean x.kind)) as'))
    go true e h = h
    go false e h = (e, h)

all_real : (cs : List Column) (as' : List Variable) → map variable_of cs ≡ as' → AllByRecursion (λ (a : Variable). is_boolean a.kind ≡ false) as' → AllByRecursion (λ c. is_boolean c.kind ≡ false) cs
all_real [] as' e h = tt
all_real (c ∷ cs) [] e h = absurd (cc)
all_real (c ∷ cs) (a ∷ as') e h = let q : variable_of c ≡ a = cc in let qs : map variable_of cs ≡ as' = cc in (ap (λ (x : Variable). is_boolean x.kind) q ∙ h.0, all_real cs as' qs h.1)

pub real_kinds : (A : Automaton) (cs : List Column) (xs : List Number) → map variable_of cs ≡ reals A → AreKinds cs xs
real_kinds A cs xs e = go cs xs (all_real cs (reals A) e (filtered A.auxiliaries))
  where
    go : (ds : List Column) (ys : List Number) → AllByRecursion (λ c. is_boolean c.kind ≡ false) ds → AreKinds ds ys
    go [] ys h = tt
    go (d ∷ ds) [] h = tt
    go (d ∷ ds) (y ∷ ys) h = (real_of d.kind y h.0, go ds ys h.1)

-- columns of role D, and behind them columns that any number is of the kind of
pub tail_kinds : (cs ds : List Column) (xs : List Number) → AllByRecursion (λ c. c.role ≡ D) cs → ((ys : List Number) → AreKinds ds ys) → AreBits (cs ++ ds) xs → AreKinds (cs ++ ds) xs
tail_kinds [] ds xs r f h = f xs
tail_kinds (c ∷ cs) ds [] r f h = tt
tail_kinds (c ∷ cs) ds (a ∷ as') r f h = (kind_of_bit c.kind a (subst (λ role. BitWhere (is_bool c.kind && is_branch_role role) a) r.0 h.0), tail_kinds cs ds as' r.1 f h.1)

-- by places
pub kinds_at : (cs : List Column) (xs : List Number) → length xs ≡ length cs → AreKinds cs xs → (i : ℕ) → i < length cs → HoldsAt (λ c. IsOfKind c.kind (at xs i)) cs i
kinds_at [] xs l h i m = absurd (omega arith)
kinds_at (c ∷ cs) [] l h i m = absurd (omega arith)
kinds_at (c ∷ cs) (a ∷ as') l h zero m = λ d. h.0
kinds_at (c ∷ cs) (a ∷ as') l h (suc i) m = λ d. kinds_at cs as' (omega arith) h.1 i (omega arith) d

pub kinds_from : (cs : List Column) (xs : List Number) → ((i : ℕ) → i < length cs → HoldsAt (λ c. IsOfKind c.kind (at xs i)) cs i) → AreKinds cs xs
kinds_from [] xs h = tt
kinds_from (c ∷ cs) [] h = tt
kinds_from (c ∷ cs) (a ∷ as') h = (h 0 (omega arith) c, kinds_from cs as' (λ i m d. h (suc i) (omega arith) d))

bit_of_kind : (K : Kind2) (b : Bool) (a : Number) → IsOfKind K a → BitWhere (is_bool K && b) a
bit_of_kind kind.Real b a h = tt
bit_of_kind kind.Bool true a h = h
bit_of_kind kind.Bool false a h = tt

pub bits_of_kinds : (cs : List Column) (xs : List Number) → AreKinds cs xs → AreBits cs xs
bits_of_kinds [] xs h = tt
bits_of_kinds (c ∷ cs) [] h = tt
bits_of_kinds (c ∷ cs) (a ∷ as') h = (bit_of_kind c.kind (is_branch_role c.role) a h.0, bits_of_kinds cs as' h.1)

pub in_each_from : (cs : List Column) (xs : List Number) → length xs ≡ length cs → ((i : ℕ) → i < length cs → HoldsAt (λ c. Within c.bounds (at xs i)) cs i) → InEach (bounds_of cs) xs
in_each_from [] [] l h = tt
in_each_from [] (a ∷ as') l h = absurd (omega arith)
in_each_from (c ∷ cs) [] l h = absurd (omega arith)
in_each_from (c ∷ cs) (a ∷ as') l h = (h 0 (omega arith) c, in_each_from cs as' (omega arith) (λ i m d. h (suc i) (omega arith) d))

-- ---- lists
pub same_parts : (xs xs' ys ys' : List Number) → length xs ≡ length xs' → xs ++ ys ≡ xs' ++ ys' → (xs ≡ xs') × (ys ≡ ys')
same_parts [] [] ys ys' l e = (refl, e)
same_parts [] (a ∷ as') ys ys' l e = absurd (omega arith)
same_parts (a ∷ as') [] ys ys' l e = absurd (omega arith)
same_parts (a ∷ as') (b ∷ bs) ys ys' l e =
    let q : a ≡ b = cc in let rest : (as' ≡ bs) × (ys ≡ ys') = same_parts as' bs ys ys' (omega arith) (let m : as' ++ ys ≡ bs ++ ys' = cc in m) in
    (ap₂ (λ (x : Number) (xs : List Number). x ∷ xs) q rest.0, rest.1)

pub front_of : (xs ys : List Number) (n : ℕ) → length xs ≡ n → take n (xs ++ ys) ≡ xs
front_of xs ys n l = ap (λ m. take m (xs ++ ys)) (sym l) ∙ take-append_seam xs ys
