-- Exactness of a system for an automaton: its rows have a solution exactly where the automaton has a legal
-- step, there is one of each, and they agree. The relation of legal steps is a parameter, so that it may be
-- that of a source's tree or of a program.
use Rattle.std.specs.Prelude.{◌≡◌, ◌↔◌, ℕ, zero, suc, ◌<◌, List, [], ◌∷◌, ◌++◌, length, map, filter, All, HoldsAt, Bool, true, false, not, codes}
use Rattle.std.specs.Fmt.{decimal}
use Rattle.hys_number.specs.Number.{Number}
use Rattle.hys_lin.specs.Sums.{at, value, Within}
use Rattle.hys_lin.specs.declared.form.Interval.{Interval}
use Rattle.hys_sys.specs.declared.system.ColumnRole.{ColumnRole}
use Rattle.hys_sys.specs.declared.system.ColumnRole.TheVariants.{State, Input, D, Z}
use Rattle.hys_sys.specs.declared.system.Kind2.{Kind2}
use Rattle.hys_sys.specs.declared.system.Kind2.TheVariants as kind
use Rattle.hys_sys.specs.declared.system.Column.{Column}
use Rattle.hys_sys.specs.declared.system.Output.{Output}
use Rattle.hys_sys.specs.declared.system.System.{System}
use Rattle.hys_sys.specs.Solution.{IsOfKind, Solution}

-- ---- automata
-- a name with its kind
pub record Variable : Type 0 where
  pub name : List ℕ
  pub kind : Kind2

-- a state or an input, with its box
pub record Boxed : Type 0 where
  pub name : List ℕ
  pub kind : Kind2
  pub box : Interval

-- what an automaton declares, each in the order of declaration
pub record Automaton : Type 0 where
  pub name : List ℕ
  pub states : List Boxed
  pub inputs : List Boxed
  pub auxiliaries : List Variable
  pub outputs : List Variable

-- a number for each name
abbrev pub Named : Type 0
Named = List ℕ → Number

-- from the state x with the input u, by an assignment to the names, to the next state and the outputs
abbrev pub Steps : Type 1
Steps = List Number → List Number → Named → List Number → List Number → Type 0

-- a number for each, in its box, and 0 or 1 where the kind is Boolean
abbrev pub AreIn : List Boxed → List Number → Type 0
AreIn [] [] = Unit {0}
AreIn [] (a ∷ as') = ⊥
AreIn (d ∷ ds) [] = ⊥
AreIn (d ∷ ds) (a ∷ as') = (Within d.box a × IsOfKind d.kind a) × AreIn ds as'

-- ---- the columns of a system for an automaton
abbrev pub is_bool : Kind2 → Bool
is_bool kind.Real = false
is_bool kind.Bool = true

-- the auxiliaries of a kind
abbrev pub bools : Automaton → List Variable
bools A = filter (λ (a : Variable). is_bool a.kind) A.auxiliaries

abbrev pub reals : Automaton → List Variable
reals A = filter (λ (a : Variable). not (is_bool a.kind)) A.auxiliaries

abbrev pub values : Named → List Variable → List Number
values w as' = map (λ (a : Variable). w a.name) as'

-- the column of a state or an input
abbrev pub column_of : ColumnRole → Boxed → Column
column_of r d = record { name = d.name; role = r; kind = d.kind; bounds = d.box }

abbrev pub variable_of : Column → Variable
variable_of c = record { name = c.name; kind = c.kind }

abbrev pub output_of : Output → Variable
output_of o = record { name = o.name; kind = o.kind }

-- the name of the fresh column with this number
abbrev pub fresh_name : ℕ → List ℕ
fresh_name k = codes "#" ++ decimal k

-- so many fresh columns from a number on, all Boolean
abbrev pub fresh_variables : ℕ → ℕ → List Variable
fresh_variables k zero = []
fresh_variables k (suc n) = record { name = fresh_name k; kind = kind.Bool } ∷ fresh_variables (suc k) n

-- The columns stand in the order of states, inputs, Boolean auxiliaries, fresh columns and real auxiliaries.
-- Fresh columns are Boolean and named `#1`, `#2` and on.
pub record Arranged (A : Automaton) (S : System) : Type 0 where
  pub name : S.name ≡ A.name
  pub outputs : map output_of S.outputs ≡ A.outputs
  pub bool_columns : List Column
  pub fresh_columns : List Column
  pub real_columns : List Column
  pub columns : S.columns ≡ map (column_of State) A.states ++ map (column_of Input) A.inputs ++ bool_columns ++ fresh_columns ++ real_columns
  pub bools_are : map variable_of bool_columns ≡ bools A
  pub reals_are : map variable_of real_columns ≡ reals A
  pub d : All (λ c. c.role ≡ D) (bool_columns ++ fresh_columns)
  pub z : All (λ c. c.role ≡ Z) real_columns
  pub fresh_are : map variable_of fresh_columns ≡ fresh_variables 1 (length fresh_columns)

-- ---- exactness
-- a solution that begins with the state and the input
pub record From (S : System) (x u v : List Number) : Type 0 where
  pub solution : Solution S v
  pub rest : List Number
  pub begins : v ≡ (x ++ u) ++ rest

-- The fields `same` to `outputs` speak of the solution and the step together: v is w on each auxiliary,
-- with the numbers of the fresh columns between, and is within the boxes of all columns.
pub record ExactAt (A : Automaton) (Step : Steps) (S : System) (x u : List Number) : Type 0 where
  pub solvable : (w : Named) (x' y : List Number) → Step x u w x' y → (v : List Number) × From S x u v
  pub steps : (v : List Number) → From S x u v → (w : Named) × (x' : List Number) × (y : List Number) × Step x u w x' y
  pub one : (v v' : List Number) → From S x u v → From S x u v' → v ≡ v'
  pub one_step : (w w' : Named) (x' x'' y y' : List Number) → Step x u w x' y → Step x u w' x'' y' → values w A.auxiliaries ≡ values w' A.auxiliaries
  pub same : (v : List Number) (w : Named) (x' y : List Number) → From S x u v → Step x u w x' y → (fresh : List Number) × (v ≡ (x ++ u) ++ values w (bools A) ++ fresh ++ values w (reals A))
  pub boxes : (v : List Number) → From S x u v → (i : ℕ) → i < length S.columns → HoldsAt (λ c. Within c.bounds (at v i)) S.columns i
  pub next : (v : List Number) (w : Named) (x' y : List Number) → From S x u v → Step x u w x' y → map (λ f. value f (at v)) S.next ≡ x'
  pub outputs : (v : List Number) (w : Named) (x' y : List Number) → From S x u v → Step x u w x' y → map (λ (o : Output). value o.form (at v)) S.outputs ≡ y

-- from every state and input in their boxes
pub record Exact (A : Automaton) (Step : Steps) (S : System) : Type 0 where
  pub arranged : Arranged A S
  pub at_each : (x u : List Number) → AreIn A.states x → AreIn A.inputs u → ExactAt A Step S x u

-- ---- relations of steps
-- two relations have the same steps
abbrev pub AreSameSteps : Steps → Steps → Type 0
AreSameSteps legal other = (x u : List Number) (w : Named) (next y : List Number) → legal x u w next y ↔ other x u w next y

-- a system that is exact for the one is exact for the other
abbrev pub IsExactAlike : Steps → Steps → Type 0
IsExactAlike legal other = (A : Automaton) (S : System) → Exact A legal S → Exact A other S
