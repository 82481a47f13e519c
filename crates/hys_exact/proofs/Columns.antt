-- The columns of a built system: an entry for each name with a column, and its arrangement.
use Rattle.std.proofs.Common.{◌≡◌, ℕ, zero, suc, ◌<◌, List, [], ◌∷◌, ◌++◌, Bool, true, false, cond, not, ◌&&◌, length, get_or, map, refl, sym, ◌∙◌, ap, ap₂, arith, subst, append_assoc}
use Rattle.std.specs.Prelude.{filter}
use Rattle.std.specs.List.{All}
use Rattle.std.proofs.lemmas.List.{map-append, length-map}
use Rattle.std.proofs.lemmas.List.Elements.{All-nil, All-cons, All-append, All-map}
use Rattle.hys_number.specs.Ops.{whole}
use Rattle.hys_lin.specs.declared.form.Interval.{Interval}
use Rattle.hys_ast.specs.declared.source.Kind.{Kind}
use Rattle.hys_ast.specs.declared.source.Kind.TheVariants as source
use Rattle.hys_prog.specs.declared.program.Role.{Role}
use Rattle.hys_prog.specs.declared.program.Role.TheVariants as role
use Rattle.hys_prog.specs.declared.program.Name.{Name}
use Rattle.hys_prog.specs.declared.program.Program.{Program}
use Rattle.hys_prog.specs.Steps.{places, is_state, is_input, is_auxiliary}
use Rattle.hys_prog.specs.Example.{start}
use Rattle.hys_bound.specs.Ranges.{unit}
use Rattle.hys_sys.specs.declared.system.ColumnRole.TheVariants.{State, Input, D, Z}
use Rattle.hys_sys.specs.declared.system.Kind2.TheVariants as kind
use Rattle.hys_sys.specs.declared.system.Column.{Column}
use Rattle.hys_sys.specs.declared.system.System.{System}
use Rattle.hys_sys.specs.Exact.{Variable, Arranged, column_of, output_of, fresh_variables, is_bool, bools, reals}
use Rattle.hys_sys.specs.Exact.{variable_of as column_variable}
use Rattle.hys_exact.specs.Automata.{kind_of, boxed_of, variable_of, automaton_of}
use Rattle.hys_exact.specs.Columns.{of_each, own_place, is_state_name, is_input_name, is_boolean, is_boolean_auxiliary, is_real_auxiliary, front, behind, given_column, bool_column, fresh_column, real_column, columns_of}
use Rattle.hys_exact.specs.Parts.{count_of}
use Rattle.hys_exact.specs.Built.{IsBuilt, is_output_name, output_with}
use Rattle.hys_exact.proofs.Names.{each_map, each_kept, each_places, places_each, Stands}
use Rattle.hys_exact.proofs.Places.{spread}

-- ---- the column of a name
abbrev no_name : Name
no_name = record {
  text = [];
  role = role.Output;
  kind = source.Real;
  place = start;
  bounds = record { low = whole 0; high = whole 0 };
  value = whole 0;
}

-- a name without a column has any
abbrev pub column_by : Role → Kind → List Interval → ℕ → Name → Column
column_by role.State d boxes n x = given_column State n x
column_by role.Input d boxes n x = given_column Input n x
column_by role.Output d boxes n x = bool_column n x
column_by role.Parameter d boxes n x = bool_column n x
column_by role.Aux source.Bool boxes n x = bool_column n x
column_by role.Aux source.Real boxes n x = real_column boxes n x

pub name_column : Program → List Interval → ℕ → Column
name_column p boxes n = column_by (get_or p.names n no_name).role (get_or p.names n no_name).kind boxes n (get_or p.names n no_name)

stands_is : (xs : List Name) (n : ℕ) (x : Name) → Stands xs n x → get_or xs n no_name ≡ x
stands_is [] n x h = absurd h
stands_is (y ∷ xs) zero x h = sym h
stands_is (y ∷ xs) (suc n) x h = stands_is xs n x h

pub column_is : (p : Program) (boxes : List Interval) (n : ℕ) (x : Name) → Stands p.names n x → name_column p boxes n ≡ column_by x.role x.kind boxes n x
unfolding name_column
column_is p boxes n x h = ap (λ (y : Name). column_by y.role y.kind boxes n y) (stands_is p.names n x h)

state_column : (r : Role) (d : Kind) (boxes : List Interval) (n : ℕ) (x : Name) → is_state r ≡ true → column_by r d boxes n x ≡ given_column State n x
state_column role.State d boxes n x e = refl
state_column role.Input d boxes n x e = absurd (cc)
state_column role.Output d boxes n x e = absurd (cc)
state_column role.Parameter d boxes n x e = absurd (cc)
state_column role.Aux d boxes n x e = absurd (cc)

input_column : (r : Role) (d : Kind) (boxes : List Interval) (n : ℕ) (x : Name) → is_input r ≡ true → column_by r d boxes n x ≡ given_column Input n x
input_column role.State d boxes n x e = absurd (cc)
input_column role.Input d boxes n x e = refl
input_column role.Output d boxes n x e = absurd (cc)
input_column role.Parameter d boxes n x e = absurd (cc)
input_column role.Aux d boxes n x e = absurd (cc)

boolean_column : (r : Role) (d : Kind) (boxes : List Interval) (n : ℕ) (x : Name) → (is_auxiliary r && is_boolean d) ≡ true → column_by r d boxes n x ≡ bool_column n x
boolean_column role.State d boxes n x e = absurd (cc)
boolean_column role.Input d boxes n x e = absurd (cc)
boolean_column role.Output d boxes n x e = absurd (cc)
boolean_column role.Parameter d boxes n x e = absurd (cc)
boolean_column role.Aux source.Bool boxes n x e = refl
boolean_column role.Aux source.Real boxes n x e = absurd (cc)

other_column : (r : Role) (d : Kind) (boxes : List Interval) (n : ℕ) (x : Name) → (is_auxiliary r && not (is_boolean d)) ≡ true → column_by r d boxes n x ≡ real_column boxes n x
other_column role.State d boxes n x e = absurd (cc)
other_column role.Input d boxes n x e = absurd (cc)
other_column role.Output d boxes n x e = absurd (cc)
other_column role.Parameter d boxes n x e = absurd (cc)
other_column role.Aux source.Bool boxes n x e = absurd (cc)
other_column role.Aux source.Real boxes n x e = refl

-- ---- all columns
pub fresh_columns : ℕ → List Column
fresh_columns n = map fresh_column (fresh_variables 1 n)

joined_lists : (a b c d e : List Column) → a ++ b ++ c ++ d ++ e ≡ (a ++ b ++ c) ++ (d ++ e)
joined_lists a b c d e = append_assoc (a ++ b ++ c) d e

pub columns_spread : (p : Program) (boxes : List Interval) (n : ℕ) → columns_of p boxes n ≡ spread (front p) (behind p) (name_column p boxes) (fresh_columns n)
unfolding fresh_columns
columns_spread p boxes n =
    let g : ℕ → Column = name_column p boxes in
    let s : of_each is_state_name (given_column State) 0 p.names ≡ map g (places is_state p) =
    each_places is_state_name (given_column State) g 0 p.names (λ m j x e i h. sym (column_is p boxes m x (subst (λ (k : ℕ). Stands p.names k x) (omega arith) i) ∙ state_column x.role x.kind boxes m x h)) ∙ ap (map g) (sym (places_each is_state 0 p.names)) in
    let u : of_each is_input_name (given_column Input) 0 p.names ≡ map g (places is_input p) =
    each_places is_input_name (given_column Input) g 0 p.names (λ m j x e i h. sym (column_is p boxes m x (subst (λ (k : ℕ). Stands p.names k x) (omega arith) i) ∙ input_column x.role x.kind boxes m x h)) ∙ ap (map g) (sym (places_each is_input 0 p.names)) in
    let b : of_each is_boolean_auxiliary bool_column 0 p.names ≡ map g (of_each is_boolean_auxiliary own_place 0 p.names) =
    each_places is_boolean_auxiliary bool_column g 0 p.names (λ m j x e i h. sym (column_is p boxes m x (subst (λ (k : ℕ). Stands p.names k x) (omega arith) i) ∙ boolean_column x.role x.kind boxes m x h)) in
    let r : of_each is_real_auxiliary (real_column boxes) 0 p.names ≡ map g (behind p) =
    each_places is_real_auxiliary (real_column boxes) g 0 p.names (λ m j x e i h. sym (column_is p boxes m x (subst (λ (k : ℕ). Stands p.names k x) (omega arith) i) ∙ other_column x.role x.kind boxes m x h)) in
    let f : map g (front p) ≡ map g (places is_state p) ++ map g (places is_input p) ++ map g (of_each is_boolean_auxiliary own_place 0 p.names) =
    map-append g (places is_state p ++ places is_input p) (of_each is_boolean_auxiliary own_place 0 p.names) ∙ ap (λ xs. xs ++ map g (of_each is_boolean_auxiliary own_place 0 p.names)) (map-append g (places is_state p) (places is_input p)) in
    rw (s, u, b, r, f) (joined_lists (map g (places is_state p)) (map g (places is_input p)) (map g (of_each is_boolean_auxiliary own_place 0 p.names)) (map fresh_column (fresh_variables 1 n)) (map g (behind p)))

-- ---- the arrangement
kinds_kept : (t : Bool → Bool) (k : Kind) → t (is_boolean k) ≡ t (is_bool (kind_of k))
kinds_kept t source.Bool = refl
kinds_kept t source.Real = refl

-- the auxiliaries of a kind, with this kind
auxiliaries_kept : (t : Bool → Bool) (k : ℕ) (xs : List Name) →
    of_each (λ x. is_auxiliary x.role && t (is_boolean x.kind)) (λ n x. variable_of x) k xs ≡ filter (λ (a : Variable). t (is_bool a.kind)) (map variable_of (filter (λ x. is_auxiliary x.role) xs))
auxiliaries_kept t k [] = refl
auxiliaries_kept t k (x ∷ xs) = go (is_auxiliary x.role) (t (is_boolean x.kind)) (kinds_kept t x.kind) (auxiliaries_kept t (suc k) xs)
  where
    Rest : List Variable
    Rest = of_each (λ x. is_auxiliary x.role && t (is_boolean x.kind)) (λ n x. variable_of x) (suc k) xs

    Kept : List Variable
    Kept = filter (λ (a : Variable). t (is_bool a.kind)) (map variable_of (filter (λ x. is_auxiliary x.role) xs))

    go : (a b : Bool) → b ≡ t (is_bool (kind_of x.kind)) → Rest ≡ Kept →
        cond (a && b) (variable_of x ∷ Rest) Rest ≡ filter (λ (a : Variable). t (is_bool a.kind)) (map variable_of (cond a (x ∷ filter (λ x. is_auxiliary x.role) xs) (filter (λ x. is_auxiliary x.role) xs)))
    go true true e h = rw (← e) (ap (λ ys. variable_of x ∷ ys) h)
    go true false e h = rw (← e) h
    go false b e h = h

-- with the kind that the test says
as_kind : (t : Name → Bool) (f g : ℕ → Name → Variable) (k : ℕ) (xs : List Name) → ((n : ℕ) (x : Name) → t x ≡ true → f n x ≡ g n x) → of_each t f k xs ≡ of_each t g k xs
as_kind t f g k [] h = refl
as_kind t f g k (x ∷ xs) h = go (t x) refl (as_kind t f g (suc k) xs h)
  where
    go : (b : Bool) → t x ≡ b → of_each t f (suc k) xs ≡ of_each t g (suc k) xs → cond b (f k x ∷ of_each t f (suc k) xs) (of_each t f (suc k) xs) ≡ cond b (g k x ∷ of_each t g (suc k) xs) (of_each t g (suc k) xs)
    go true q e = ap₂ ◌∷◌ (h k x q) e
    go false q e = e

bool_kind : (a : Bool) (k : Kind) → (a && is_boolean k) ≡ true → kind.Bool ≡ kind_of k
bool_kind true source.Bool e = refl
bool_kind true source.Real e = absurd (cc)
bool_kind false k e = absurd (cc)

real_kind : (a : Bool) (k : Kind) → (a && not (is_boolean k)) ≡ true → kind.Real ≡ kind_of k
real_kind true source.Real e = refl
real_kind true source.Bool e = absurd (cc)
real_kind false k e = absurd (cc)

pub bools_each : (p : Program) → of_each is_boolean_auxiliary (λ n x. variable_of x) 0 p.names ≡ bools (automaton_of p)
bools_each p = auxiliaries_kept (λ b. b) 0 p.names

pub reals_each : (p : Program) → of_each is_real_auxiliary (λ n x. variable_of x) 0 p.names ≡ reals (automaton_of p)
reals_each p = auxiliaries_kept not 0 p.names

all_each : {X : Type 0} (P : X → Type 0) (t : Name → Bool) (f : ℕ → Name → X) (k : ℕ) (xs : List Name) → ((n : ℕ) (x : Name) → P (f n x)) → All P (of_each t f k xs)
all_each P t f k [] h = All-nil P
all_each P t f k (x ∷ xs) h = go (t x) (all_each P t f (suc k) xs h)
  where
    go : (b : Bool) → All P (of_each t f (suc k) xs) → All P (cond b (f k x ∷ of_each t f (suc k) xs) (of_each t f (suc k) xs))
    go true a = All-cons P (f k x) (of_each t f (suc k) xs) (h k x) a
    go false a = a

fresh_length : (k n : ℕ) → length (fresh_variables k n) ≡ n
fresh_length k zero = refl
fresh_length k (suc n) = ap suc (fresh_length (suc k) n)

pub fresh_count : (n : ℕ) → length (fresh_columns n) ≡ n
unfolding fresh_columns
fresh_count n = length-map (fresh_variables 1 n) fresh_column ∙ fresh_length 1 n

fresh_again : (k n : ℕ) → map column_variable (map fresh_column (fresh_variables k n)) ≡ fresh_variables k n
fresh_again k zero = refl
fresh_again k (suc n) = ap₂ ◌∷◌ refl (fresh_again (suc k) n)

pub arranged : (p : Program) (boxes : List Interval) (S : System) → IsBuilt p boxes S → Arranged (automaton_of p) S
unfolding fresh_columns
arranged p boxes S b =
    let n : ℕ = count_of b.parts in
    let s : of_each is_state_name (given_column State) 0 p.names ≡ map (column_of State) (automaton_of p).states = sym (each_map is_state_name (λ n x. boxed_of x) (column_of State) 0 p.names) ∙ ap (map (column_of State)) (each_kept is_state_name boxed_of 0 p.names) in
    let u : of_each is_input_name (given_column Input) 0 p.names ≡ map (column_of Input) (automaton_of p).inputs = sym (each_map is_input_name (λ n x. boxed_of x) (column_of Input) 0 p.names) ∙ ap (map (column_of Input)) (each_kept is_input_name boxed_of 0 p.names) in
    let c : length (fresh_columns n) ≡ n = fresh_count n in
    record {
      name = b.name;
      outputs = ap (map output_of) b.outputs ∙ each_map is_output_name (output_with p.items _) output_of 0 p.names ∙ each_kept is_output_name variable_of 0 p.names;
      bool_columns = of_each is_boolean_auxiliary bool_column 0 p.names;
      fresh_columns = fresh_columns n;
      real_columns = of_each is_real_auxiliary (real_column boxes) 0 p.names;
      columns = b.columns ∙ ap₂ (λ x y. x ++ y ++ of_each is_boolean_auxiliary bool_column 0 p.names ++ map fresh_column (fresh_variables 1 n) ++ of_each is_real_auxiliary (real_column boxes) 0 p.names) s u;
      bools_are = each_map is_boolean_auxiliary bool_column column_variable 0 p.names
          ∙ as_kind is_boolean_auxiliary (λ n x. column_variable (bool_column n x)) (λ n x. variable_of x) 0 p.names (λ n x h. ap (λ k. record { name = x.text; kind = k }) (bool_kind (is_auxiliary x.role) x.kind h))
          ∙ bools_each p;
      reals_are = each_map is_real_auxiliary (real_column boxes) column_variable 0 p.names
          ∙ as_kind is_real_auxiliary (λ n x. column_variable (real_column boxes n x)) (λ n x. variable_of x) 0 p.names (λ n x h. ap (λ k. record { name = x.text; kind = k }) (real_kind (is_auxiliary x.role) x.kind h))
          ∙ reals_each p;
      d = All-append (λ c. c.role ≡ D) (of_each is_boolean_auxiliary bool_column 0 p.names) (map fresh_column (fresh_variables 1 n)) (all_each (λ c. c.role ≡ D) is_boolean_auxiliary bool_column 0 p.names (λ n x. refl)) (All-map (λ c. c.role ≡ D) fresh_column (fresh_variables 1 n) (λ i v l. refl));
      z = all_each (λ c. c.role ≡ Z) is_real_auxiliary (real_column boxes) 0 p.names (λ n x. refl);
      fresh_are = fresh_again 1 n ∙ ap (fresh_variables 1) (sym c);
    }

-- ---- fresh columns
fresh_entry : (k n j : ℕ) (d : Column) → j < n → ((get_or (map fresh_column (fresh_variables k n)) j d).kind ≡ kind.Bool) × ((get_or (map fresh_column (fresh_variables k n)) j d).bounds ≡ unit)
fresh_entry k zero j d l = absurd (omega arith)
fresh_entry k (suc n) zero d l = (refl, refl)
fresh_entry k (suc n) (suc j) d l = fresh_entry (suc k) n j d (omega arith)

-- a fresh column is Boolean, with the box 0 to 1
pub fresh_is : (n j : ℕ) (d : Column) → j < n → ((get_or (fresh_columns n) j d).kind ≡ kind.Bool) × ((get_or (fresh_columns n) j d).bounds ≡ unit)
unfolding fresh_columns
fresh_is n j d l = fresh_entry 1 n j d l
