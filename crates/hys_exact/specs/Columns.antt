-- The columns of a program's system: those of its states, inputs and Boolean auxiliaries, fresh ones, and those of
-- its real auxiliaries.
use Rattle.std.specs.Prelude.{◌≡◌, ℕ, suc, ◌+◌, ◌<◌, List, [], ◌∷◌, ◌++◌, Bool, true, false, cond, not, ◌&&◌, length, map}
use Rattle.std.proofs.Common.{get_or}
use Rattle.hys_lin.specs.declared.form.Interval.{Interval}
use Rattle.hys_lin.specs.Ranges.{box_at}
use Rattle.hys_ast.specs.declared.source.Kind.{Kind}
use Rattle.hys_ast.specs.declared.source.Kind.TheVariants as source
use Rattle.hys_prog.specs.declared.program.Name.{Name}
use Rattle.hys_prog.specs.declared.program.Program.{Program}
use Rattle.hys_prog.specs.Steps.{places, is_state, is_input, is_auxiliary}
use Rattle.hys_bound.specs.Ranges.{unit}
use Rattle.hys_logic.specs.Literals.{column_in}
use Rattle.hys_sys.specs.declared.system.ColumnRole.{ColumnRole}
use Rattle.hys_sys.specs.declared.system.ColumnRole.TheVariants.{State, Input, D, Z}
use Rattle.hys_sys.specs.declared.system.Kind2.TheVariants as kind
use Rattle.hys_sys.specs.declared.system.Column.{Column}
use Rattle.hys_sys.specs.Exact.{Variable, column_of, fresh_variables}
use Rattle.hys_exact.specs.Automata.{boxed_of}

-- ---- names
abbrev pub is_boolean : Kind → Bool
is_boolean source.Real = false
is_boolean source.Bool = true

abbrev pub is_boolean_auxiliary : Name → Bool
is_boolean_auxiliary x = is_auxiliary x.role && is_boolean x.kind

abbrev pub is_real_auxiliary : Name → Bool
is_real_auxiliary x = is_auxiliary x.role && not (is_boolean x.kind)

abbrev pub is_state_name : Name → Bool
is_state_name x = is_state x.role

abbrev pub is_input_name : Name → Bool
is_input_name x = is_input x.role

-- what the function gives for each name that passes the test, and its place; the first name has place n
abbrev pub of_each : {X : Type 0} → (Name → Bool) → (ℕ → Name → X) → ℕ → List Name → List X
of_each test f n [] = []
of_each test f n (x ∷ xs) = cond (test x) (f n x ∷ of_each test f (suc n) xs) (of_each test f (suc n) xs)

abbrev pub own_place : ℕ → Name → ℕ
own_place n x = n

-- the names before the fresh columns, and those behind them
abbrev pub front : Program → List ℕ
front p = places is_state p ++ places is_input p ++ of_each is_boolean_auxiliary own_place 0 p.names

abbrev pub behind : Program → List ℕ
behind p = of_each is_real_auxiliary own_place 0 p.names

-- The list has the column of each name that has one: those in front in their order, then so many fresh columns, then
-- those behind. What stands at the place of another name means nothing.
pub record IsPlacing (p : Program) (fresh : ℕ) (columns : List ℕ) : Type 0 where
  pub long : length columns ≡ length p.names
  pub before : (i : ℕ) → i < length (front p) → column_in columns (get_or (front p) i 0) ≡ i
  pub after : (i : ℕ) → i < length (behind p) → column_in columns (get_or (behind p) i 0) ≡ length (front p) + (fresh + i)

-- ---- columns
-- the column of a state or an input has its declared box
abbrev pub given_column : ColumnRole → ℕ → Name → Column
given_column r n x = column_of r (boxed_of x)

abbrev pub bool_column : ℕ → Name → Column
bool_column n x = record { name = x.text; role = D; kind = kind.Bool; bounds = unit }

abbrev pub fresh_column : Variable → Column
fresh_column v = record { name = v.name; role = D; kind = v.kind; bounds = unit }

-- the box of a real auxiliary is its interval
abbrev pub real_column : List Interval → ℕ → Name → Column
real_column boxes n x = record { name = x.text; role = Z; kind = kind.Real; bounds = box_at boxes n }

-- fresh columns are named `#1`, `#2` and on
abbrev pub columns_of : Program → List Interval → ℕ → List Column
columns_of p boxes fresh =
    of_each is_state_name (given_column State) 0 p.names ++
    of_each is_input_name (given_column Input) 0 p.names ++
    of_each is_boolean_auxiliary bool_column 0 p.names ++
    map fresh_column (fresh_variables 1 fresh) ++
    of_each is_real_auxiliary (real_column boxes) 0 p.names
