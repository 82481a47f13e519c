-- What may stop a step, in the order in which it is looked for, over an assignment of exact numbers.
use Rattle.std.specs.Prelude.{◌≡◌, ℕ, suc, List, [], ◌∷◌, ◌++◌, Option, Some, None, Bool, true, cond, ◌&&◌, ◌||◌, map, IsTrue, Result, Ok, Err}
use Rattle.std.specs.Ordering.{is_le}
use Rattle.hys_number.specs.Number.{Number}
use Rattle.hys_number.specs.Ops.{whole, fits}
use Rattle.hys_frac.specs.Compare.{number_cmp, parts_eq}
use Rattle.hys_lin.specs.Bits.{bit}
use Rattle.hys_lin.specs.Sums.{Assignment, value}
use Rattle.hys_lin.specs.Operations.{valuing, outcome}
use Rattle.hys_lin.specs.declared.form.Affine.{Affine}
use Rattle.hys_lin.specs.declared.lost.Lost.{Lost}
use Rattle.hys_ast.specs.declared.source.Kind.{Kind}
use Rattle.hys_ast.specs.declared.source.Kind.TheVariants as kind
use Rattle.hys_formula.specs.Formulas.{tree_of, truth}
use Rattle.hys_prog.specs.declared.program.Role.{Role}
use Rattle.hys_prog.specs.declared.program.Name.{Name}
use Rattle.hys_prog.specs.declared.program.Body.{Body}
use Rattle.hys_prog.specs.declared.program.Body.TheVariants.{Guard, Choice, Logic, Linear, NextBool, NextReal, OutBool, OutReal, MustHold, MustMost, MustZero}
use Rattle.hys_prog.specs.declared.program.ProgItem.{ProgItem}
use Rattle.hys_prog.specs.declared.program.Program.{Program}
use Rattle.hys_prog.specs.declared.program.Order.{Order}
use Rattle.hys_prog.specs.declared.stop.Stop.{Stop}
use Rattle.hys_prog.specs.declared.stop.Stop.TheVariants.{Bounds, Gap, Must, Range}
use Rattle.hys_prog.specs.declared.stop.StepFault.{StepFault}
use Rattle.hys_prog.specs.declared.stop.StepFault.TheVariants.{Stop as Stopped, Memory}
use Rattle.hys_prog.specs.declared.stop.Stepped.{Stepped}
use Rattle.hys_prog.specs.Programs.{EachItem, is_must, is_named}
use Rattle.hys_prog.specs.Steps.{places, is_parameter, is_state, is_input, is_output, is_auxiliary, EachNameFrom, CaseOf, Legal}

-- ---- valued assignments
-- The assignment has the parameters' values, x on the states and u on the inputs, and the case of each auxiliary
-- holds. Numbers are exact, so it doesn't matter whether they fit.
pub record IsValued (p : Program) (x u : List Number) (w : Assignment) : Type 0 where
  pub parameters : EachNameFrom 0 (λ n k. IsTrue (is_parameter k.role) → w n ≡ k.value) p.names
  pub states : map w (places is_state p) ≡ x
  pub inputs : map w (places is_input p) ≡ u
  pub cases : EachItem (CaseOf w) p.items

-- ---- tests on numbers
abbrev pub at_most : Number → Number → Bool
at_most a b = is_le (number_cmp a b)

abbrev pub equals : Number → Number → Bool
equals a b = parts_eq a b

-- the number is 0 or 1 where the kind is Boolean
abbrev pub of_kind : Kind → Number → Bool
of_kind kind.Real a = true
of_kind kind.Bool a = equals a (whole 0) || equals a (whole 1)

-- the number is in the name's box, and is 0 or 1 where the name is Boolean
abbrev pub in_box : Name → Number → Bool
in_box k a = at_most k.bounds.low a && at_most a k.bounds.high && of_kind k.kind a

-- ---- what a body asks for
-- the products and partial sums of a form's value, from the constant
abbrev pub evaluating : Assignment → Affine → List Lost
evaluating w f = valuing f w

-- the number that a body gives its name, or that it demands something of; of a guard the truth of its comparison
abbrev pub number_of : Assignment → Body → Number
number_of w (Guard f e) = bit (at_most (value f w) (whole 0))
number_of w (Choice l a b) = value (cond (truth (tree_of l) w) a b) w
number_of w (Logic l) = bit (truth (tree_of l) w)
number_of w (Linear f) = value f w
number_of w (NextBool l) = bit (truth (tree_of l) w)
number_of w (NextReal f) = value f w
number_of w (OutBool l) = bit (truth (tree_of l) w)
number_of w (OutReal f) = value f w
number_of w (MustHold l) = bit (truth (tree_of l) w)
number_of w (MustMost f) = value f w
number_of w (MustZero f) = value f w

-- ---- checks
-- a test, and the stop where it fails
pub record Check : Type 0 where
  pub passes : Bool
  pub stop : Stop

-- the stop of the first check that fails, if one does
abbrev pub first_stop : List Check → Option Stop
first_stop [] = None
first_stop (c ∷ cs) = cond c.passes (first_stop cs) (Some c.stop)

-- each operation's outcome fits
abbrev pub fitting : ℕ → List Lost → List Check
fitting k [] = []
fitting k (o ∷ os) = record { passes = fits (outcome o); stop = Range k o } ∷ fitting k os

abbrev pub one : Bool → Stop → List Check
one b s = record { passes = b; stop = s } ∷ []

-- the products and partial sums of a form fit
abbrev pub form_fits : Assignment → ℕ → Affine → List Check
form_fits w k f = fitting k (evaluating w f)

-- a guard number is at most 0 or at least its tolerance
abbrev pub no_gap : ℕ → Number → Number → List Check
no_gap k e g = one (at_most g (whole 0) || at_most e g) (Gap k)

-- a guard number is computed, and then it isn't in its gap
abbrev pub guard_checks : Assignment → ℕ → Affine → Number → List Check
guard_checks w k f e = form_fits w k f ++ no_gap k e (value f w)

-- a form is computed, and then it is at most 0
abbrev pub most_checks : Assignment → ℕ → Affine → List Check
most_checks w k f = form_fits w k f ++ one (at_most (value f w) (whole 0)) (Must k)

-- a form is computed, and then it is 0
abbrev pub zero_checks : Assignment → ℕ → Affine → List Check
zero_checks w k f = form_fits w k f ++ one (equals (value f w) (whole 0)) (Must k)

-- of a body at the place: its numbers fit, of a choice those of the chosen form alone; then a guard number isn't in
-- its gap, and a demand holds
abbrev pub body_checks : Assignment → ℕ → Body → List Check
body_checks w k (Guard f e) = guard_checks w k f e
body_checks w k (Choice l a b) = form_fits w k (cond (truth (tree_of l) w) a b)
body_checks w k (Logic l) = []
body_checks w k (Linear f) = form_fits w k f
body_checks w k (NextBool l) = []
body_checks w k (NextReal f) = form_fits w k f
body_checks w k (OutBool l) = []
body_checks w k (OutReal f) = form_fits w k f
body_checks w k (MustHold l) = one (truth (tree_of l) w) (Must k)
body_checks w k (MustMost f) = most_checks w k f
body_checks w k (MustZero f) = zero_checks w k f

-- ---- of a program
-- the name at the place is in its box, where its role is of the part
abbrev pub box_checks : (Role → Bool) → ℕ → Name → Number → List Check
box_checks part n k a = cond (part k.role) (one (in_box k a) (Bounds n)) []

-- each name with a role of the part is in its box, in order of declaration
abbrev pub boxes_from : ℕ → (Role → Bool) → Assignment → List Name → List Check
boxes_from n part w [] = []
boxes_from n part w (k ∷ ks) = box_checks part n k (w n) ++ boxes_from (suc n) part w ks

-- the checks of the first item from place k on that defines the name
abbrev pub checks_of : Assignment → ℕ → ℕ → List ProgItem → List Check
checks_of w n k [] = []
checks_of w n k (t ∷ ts) = cond (is_named n t.name) (body_checks w k t.body) (checks_of w n (suc k) ts)

-- the checks of the definitions of names, in the order of the list
abbrev pub checks_along : Assignment → List ProgItem → List ℕ → List Check
checks_along w items [] = []
checks_along w items (n ∷ ns) = checks_of w n 0 items ++ checks_along w items ns

-- the checks of a body that demands something
abbrev pub demand_checks : Assignment → ℕ → Body → List Check
demand_checks w k b = cond (is_must b) (body_checks w k b) []

-- the checks of the items that demand something, in source order
abbrev pub demands_from : ℕ → Assignment → List ProgItem → List Check
demands_from k w [] = []
demands_from k w (t ∷ ts) = demand_checks w k t.body ++ demands_from (suc k) w ts

-- the checks of the definitions of the names with a role of the part
abbrev pub part_checks : (Role → Bool) → Program → Assignment → List Check
part_checks part p w = checks_along w p.items (places part p)

-- All that may stop a step: the boxes of the states and then of the inputs, the auxiliaries in the order of
-- definition, the demands, the next values, and the outputs.
abbrev pub stops : Program → Order → Assignment → List Check
stops p o w =
    boxes_from 0 is_state w p.names ++ (boxes_from 0 is_input w p.names ++ (checks_along w p.items o.names ++
    (demands_from 0 w p.items ++
    (part_checks is_state p w ++ part_checks is_output p w))))

-- ---- what is answered
-- the stop is that of the first check that fails; want of memory is free
abbrev pub Faulted : List Check → StepFault → Type 0
Faulted cs (Stopped s) = first_stop cs ≡ Some s
Faulted cs Memory = Unit {0}

-- an answer is given exactly where no check fails, and else the stop of the first that does
abbrev pub Judged : {X : Type 0} → List Check → Result X StepFault → Type 0
Judged cs (Ok x) = first_stop cs ≡ None
Judged cs (Err f) = Faulted cs f

-- so over each assignment that the values of states and inputs allow
abbrev pub JudgedByStops : {X : Type 0} → Program → Order → List Number → List Number → Result X StepFault → Type 0
JudgedByStops p o x u r = (w : Assignment) → IsValued p x u w → Judged (stops p o w) r

-- the answer is given where the property holds, and a stop where it doesn't; want of memory is free
abbrev pub GivenWhere : {X : Type 0} → Type 0 → Result X StepFault → Type 0
GivenWhere P (Ok x) = P
GivenWhere P (Err (Stopped s)) = ¬ P
GivenWhere P (Err Memory) = Unit {0}

-- the number that the first item that defines the name gives it
abbrev pub number_in : Assignment → ℕ → List ProgItem → Number
number_in w n [] = whole 0
number_in w n (t ∷ ts) = cond (is_named n t.name) (number_of w t.body) (number_in w n ts)

-- the numbers that the items give to names
abbrev pub numbers_in : Assignment → List ProgItem → List ℕ → List Number
numbers_in w items [] = []
numbers_in w items (n ∷ ns) = number_in w n items ∷ numbers_in w items ns

-- those that they give to the names with a role of the part
abbrev pub part_numbers : (Role → Bool) → Program → Assignment → List Number
part_numbers part p w = numbers_in w p.items (places part p)

-- ---- checks that aren't of numbers that must fit
abbrev pub Keeps : Bool → Stop → Type 0
Keeps b (Bounds n) = b ≡ true
Keeps b (Gap k) = b ≡ true
Keeps b (Must k) = b ≡ true
Keeps b (Range k l) = Unit {0}

-- no check fails but those of numbers that must fit
abbrev pub IsLawful : List Check → Type 0
IsLawful [] = Unit {0}
IsLawful (c ∷ cs) = Keeps c.passes c.stop × IsLawful cs

-- what a step gives: a legal step over some assignment, with the values of the auxiliaries
pub record IsStepped (p : Program) (x u : List Number) (r : Stepped) : Type 0 where
  pub values : Assignment
  pub legal : Legal p x u values r.next r.outputs
  pub aux : r.aux ≡ map values (places is_auxiliary p)

abbrev pub IsMet : Bool → Stop → Type 0
IsMet b (Bounds n) = Unit {0}
IsMet b (Gap k) = Unit {0}
IsMet b (Must k) = Unit {0}
IsMet b (Range k l) = b ≡ true

-- each number that must fit does
abbrev pub AllFit : List Check → Type 0
AllFit [] = Unit {0}
AllFit (c ∷ cs) = IsMet c.passes c.stop × AllFit cs
