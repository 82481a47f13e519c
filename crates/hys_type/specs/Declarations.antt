-- The checks of declarations: each name once, values of parameters, and boxes.
use Rattle.std.specs.Prelude.{◌≡◌, ℕ, List, [], ◌∷◌, ◌++◌, Option, Some, None, Bool, true, false, not, map, cond, filter, nat_lt, length}
use Rattle.std.specs.Str.{bytes_eq}
use Rattle.std.specs.List.{list_any}
use Rattle.std.specs.declared.cmp.Ordering.{Ordering}
use Rattle.std.specs.declared.cmp.Ordering.TheVariants.{Less, Equal, Greater}
use Rattle.hys_number.specs.Number.{Number}
use Rattle.hys_number.specs.Ops.{whole}
use Rattle.hys_frac.specs.Compare.{number_cmp}
use Rattle.hys_lin.specs.declared.form.Interval.{Interval}
use Rattle.hys_ast.specs.declared.place.Place.{Place}
use Rattle.hys_ast.specs.declared.source.Kind.{Kind}
use Rattle.hys_ast.specs.declared.source.Kind.TheVariants as kind
use Rattle.hys_ast.specs.Tree.{Tree, Decl}
use Rattle.hys_ast.specs.Tree as tree
use Rattle.hys_meaning.specs.Values.{Assignment, value, given}
use Rattle.hys_meaning.specs.Names.{is_parameter}
use Rattle.hys_meaning.specs.Typed.{has_box}
use Rattle.hys_type.specs.Sorts.{Sort, is_real, is_bool}
use Rattle.hys_type.specs.Faults.{Check, check}
use Rattle.hys_type.specs.Constants.{known_values, known_sort, constant_sort, constant_checks, HasLiterals}
use Rattle.hys_type.specs.declared.constant.Constant.{Constant}
use Rattle.hys_type.specs.declared.constant.Known.{Known}
use Rattle.hys_type.specs.declared.fault.TypeFault.TheVariants as fault

-- ---- names
-- at most 200 names are declared
abbrev pub most_names : ℕ
most_names = 200

-- the name differs from those before, and there aren't too many
abbrev pub name_checks : List Decl → Decl → List Check
name_checks before d =
    check (not (list_any (λ m. bytes_eq d.name m.name) before)) (fault.Twice d.place)
    ∷ check (nat_lt (length before) most_names) fault.Limit ∷ []

-- ---- expressions
abbrev pub place_of : Tree → Place
place_of (tree.Number text p) = p
place_of (tree.Name n p) = p
place_of (tree.Truth b p) = p
place_of (tree.Cast n p) = p
place_of (tree.Unary op a p) = p
place_of (tree.Binary op a b p) = p

abbrev pub is_of_kind : Kind → Sort → Bool
is_of_kind kind.Real s = is_real s
is_of_kind kind.Bool s = is_bool s

-- a constant of the kind stands at the place
abbrev pub kind_checks : Kind → Constant → Place → List Check
kind_checks k c p = check (is_of_kind k (constant_sort c)) (fault.Kind p) ∷ []

-- a constant expression of the kind
abbrev pub constant_of_kind : Kind → List Known → Tree → List Check
constant_of_kind k ks e = constant_checks ks e ++ check (is_of_kind k (known_sort ks e)) (fault.Kind (place_of e)) ∷ []

abbrev pub if_some : {A : Type 0} → (A → List Check) → Option A → List Check
if_some f (Some a) = f a
if_some f None = []

abbrev pub is_given : Option Tree → Bool
is_given (Some e) = true
is_given None = false

-- ---- what is known
-- a declared name that is no parameter
abbrev pub other : Decl → Known
other d = record { text = d.name; kind = d.kind; value = None }

abbrev pub others : List Decl → List Known
others ds = map other (filter (λ d. not (is_parameter d.section)) ds)

abbrev pub given_value : Kind → Assignment → Option Tree → Option Number
given_value k w (Some e) = Some (given k w e)
given_value k w None = None

-- one parameter more, whose value is that under the known ones
abbrev pub with_parameter : List Known → Decl → List Known
with_parameter ks d = cond (is_parameter d.section)
    (ks ++ record { text = d.name; kind = d.kind; value = given_value d.kind (known_values ks) d.value } ∷ []) ks

abbrev pub with_parameters : List Known → List Decl → List Known
with_parameters ks [] = ks
with_parameters ks (d ∷ ds) = with_parameters (with_parameter ks d) ds

-- all names that are no parameters, and the parameters among some declarations
abbrev pub known : List Decl → List Decl → List Known
known all ds = with_parameters (others all) ds

-- ---- values and boxes
-- a parameter has a value of its kind
abbrev pub parameter_checks : List Known → Decl → List Check
parameter_checks ks d = cond (is_parameter d.section)
    (check (is_given d.value) (fault.NoValue d.place) ∷ if_some (constant_of_kind d.kind ks) d.value) []

-- a value names parameters that are declared before its own
abbrev pub value_checks : List Decl → List Decl → Decl → List Check
value_checks all before d = parameter_checks (known all before) d

abbrev pub at_most : Ordering → Bool
at_most Less = true
at_most Equal = true
at_most Greater = false

-- the low end is at most the high one
abbrev pub ends_checks : Number → Number → Place → List Check
ends_checks low high p = check (at_most (number_cmp low high)) (fault.EmptyBounds p low high) ∷ []

-- both ends are real and constant
abbrev pub bounds_checks : List Known → Tree → Tree → Place → List Check
bounds_checks ks low high p =
    constant_of_kind kind.Real ks low
    ++ (constant_of_kind kind.Real ks high
    ++ ends_checks (value (known_values ks) low) (value (known_values ks) high) p)

-- the ends are the values of the two expressions
abbrev pub AreEnds : List Known → Tree → Tree → Interval → Type 0
AreEnds ks low high i = (i.low ≡ value (known_values ks) low) × (i.high ≡ value (known_values ks) high)

abbrev pub given_bounds_checks : List Known → Option Tree → Option Tree → Place → List Check
given_bounds_checks ks (Some low) (Some high) p = bounds_checks ks low high p
given_bounds_checks ks (Some low) None p = check false (fault.NoBounds p) ∷ []
given_bounds_checks ks None high p = check false (fault.NoBounds p) ∷ []

-- a real state or input has bounds
abbrev pub box_checks : List Known → Decl → List Check
box_checks ks d = cond (has_box d) (given_bounds_checks ks d.low d.high d.place) []

-- the box of a real state or input is that of its bounds
abbrev pub end_value : List Known → Option Tree → Number
end_value ks (Some e) = value (known_values ks) e
end_value ks None = whole 0

-- the box of any other name
abbrev pub usual_box : Kind → Interval
usual_box kind.Real = record { low = whole 0; high = whole 0 }
usual_box kind.Bool = record { low = whole 0; high = whole 1 }

abbrev pub box_of : List Known → Decl → Interval
box_of ks d = cond (has_box d) (record { low = end_value ks d.low; high = end_value ks d.high }) (usual_box d.kind)

-- ---- literals
abbrev pub HaveLiterals : Option Tree → Type 0
HaveLiterals (Some e) = HasLiterals e
HaveLiterals None = Unit {0}

abbrev pub HasValueLiterals : Decl → Type 0
HasValueLiterals d = HaveLiterals d.value

abbrev pub HasBoundLiterals : Decl → Type 0
HasBoundLiterals d = HaveLiterals d.low × HaveLiterals d.high
