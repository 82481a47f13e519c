-- The stacked problem of a system and a request. With C columns and N steps, stacked column t * C + c is column c
-- at step t, and N * C + i is state i after the last step. So state i after step t is always (t + 1) * C + i.
use Rattle.std.specs.Prelude.{◌≡◌, ℕ, zero, suc, ◌+◌, ◌*◌, List, [], ◌∷◌, ◌++◌, length, map, drop, Bool, true, false, cond, ◌&&◌}
use Rattle.hys_number.specs.Number.{Number}
use Rattle.hys_number.specs.Ops.{◌+ₙ◌, ◌*ₙ◌, whole, neg}
use Rattle.hys_number.specs.Sums.{sum_to}
use Rattle.hys_lin.specs.Sums.{Assignment, value}
use Rattle.hys_lin.specs.Over.{AreTermsOver}
use Rattle.hys_lin.specs.declared.form.Term.{Term}
use Rattle.hys_lin.specs.declared.form.Affine.{Affine}
use Rattle.hys_lin.specs.declared.form.Row.{Row}
use Rattle.hys_lin.specs.declared.form.Interval.{Interval}
use Rattle.hys_lin.specs.declared.problem.Problem.{Problem}
use Rattle.hys_sys.specs.declared.system.ColumnRole.{ColumnRole}
use Rattle.hys_sys.specs.declared.system.ColumnRole.TheVariants.{State, Input, D, Z}
use Rattle.hys_sys.specs.declared.system.Kind2.{Kind2}
use Rattle.hys_sys.specs.declared.system.Kind2.TheVariants as kind
use Rattle.hys_sys.specs.declared.system.Column.{Column}
use Rattle.hys_sys.specs.declared.system.Output.{Output}
use Rattle.hys_sys.specs.declared.system.System.{System}
use Rattle.hys_stack.specs.Requests.{state_columns}
use Rattle.hys_stack.specs.declared.request.Request.{Request}

-- a list for each of n steps from step t on, one after the other
abbrev pub each_step : {X : Type 0} → ℕ → ℕ → (ℕ → List X) → List X
each_step t zero f = []
each_step t (suc n) f = f t ++ each_step (suc t) n f

-- the stacked column of a system's first column at step t
abbrev pub offset : System → ℕ → ℕ
offset S t = t * length S.columns

-- ---- boxes
abbrev pub bounds_of : List Column → List Interval
bounds_of cs = map (λ (c : Column). c.bounds) cs

abbrev pub only : Number → Interval
only a = record { low = a; high = a }

-- at step 0 each state has its start alone
abbrev pub step_boxes : System → Request → ℕ → List Interval
step_boxes S r zero = map only r.start ++ bounds_of (drop (length r.start) S.columns)
step_boxes S r (suc t) = bounds_of S.columns

abbrev pub stacked_boxes : System → Request → List Interval
stacked_boxes S r = each_step 0 r.horizon (step_boxes S r) ++ bounds_of (state_columns S.columns)

-- ---- rows
-- the terms with their columns moved on by k
abbrev pub moved : ℕ → List Term → List Term
moved k [] = []
moved k (t ∷ ts) = record { column = k + t.column; factor = t.factor } ∷ moved k ts

abbrev pub opposite : List Term → List Term
opposite [] = []
opposite (t ∷ ts) = record { column = t.column; factor = neg t.factor } ∷ opposite ts

abbrev pub moved_row : ℕ → Row → Row
moved_row k r = record { terms = moved k r.terms; bound = r.bound; eq = r.eq }

-- the next state, in column n, without the terms of its form from column k on, equals the form's constant
abbrev pub equation : ℕ → ℕ → Affine → Row
equation k n f = record { terms = moved k (opposite f.terms) ++ record { column = n; factor = whole 1 } ∷ []; bound = f.constant; eq = true }

-- for each form, with the next states in the columns from n on
abbrev pub equations : ℕ → ℕ → List Affine → List Row
equations k n [] = []
equations k n (f ∷ fs) = equation k n f ∷ equations k (suc n) fs

abbrev pub step_rows : System → ℕ → List Row
step_rows S t = map (moved_row (offset S t)) S.rows ++ equations (offset S t) (offset S (suc t)) S.next

abbrev pub stacked_rows : System → ℕ → List Row
stacked_rows S n = each_step 0 n (step_rows S)

-- ---- branch columns
abbrev pub is_branch_role : ColumnRole → Bool
is_branch_role State = false
is_branch_role Input = true
is_branch_role D = true
is_branch_role Z = false

abbrev pub is_bool : Kind2 → Bool
is_bool kind.Real = false
is_bool kind.Bool = true

-- the Boolean inputs and auxiliaries among the columns, the first of which is stacked column k
abbrev pub branch_columns : ℕ → List Column → List ℕ
branch_columns k [] = []
branch_columns k (c ∷ cs) = cond (is_bool c.kind && is_branch_role c.role) (k ∷ branch_columns (suc k) cs) (branch_columns (suc k) cs)

abbrev pub step_branch : System → ℕ → List ℕ
step_branch S t = branch_columns (offset S t) S.columns

abbrev pub stacked_branch : System → ℕ → List ℕ
stacked_branch S n = each_step 0 n (step_branch S)

-- ---- cost
-- the sum of weight times number, over the columns from k on
abbrev pub weighted : List Number → ℕ → Assignment → Number
weighted [] k v = whole 0
weighted (w ∷ ws) k v = w *ₙ v k +ₙ weighted ws (suc k) v

-- the sum of weight times value over the outputs
abbrev pub weighted_outputs : List Number → List Output → Assignment → Number
weighted_outputs ws [] v = whole 0
weighted_outputs [] (o ∷ os) v = whole 0
weighted_outputs (w ∷ ws) (o ∷ os) v = w *ₙ value o.form v +ₙ weighted_outputs ws os v

-- the cost of the step whose first column is k
abbrev pub step_cost : System → Request → ℕ → Assignment → Number
step_cost S r k v = weighted r.step_cost k v +ₙ weighted_outputs r.output_cost S.outputs (λ c. v (k + c))

abbrev pub stacked_cost : System → Request → Assignment → Number
stacked_cost S r v = sum_to r.horizon (λ t. step_cost S r (offset S t) v) +ₙ weighted r.final_cost (offset S r.horizon) v

-- ---- the problem
-- the cost's terms rise and have no factor 0, so that its value under every assignment says which they are
pub record IsStacked (S : System) (r : Request) (p : Problem) : Type 0 where
  pub boxes : p.boxes ≡ stacked_boxes S r
  pub rows : p.rows ≡ stacked_rows S r.horizon
  pub branch : p.branch ≡ stacked_branch S r.horizon
  pub terms : AreTermsOver (length p.boxes) p.cost.terms
  pub cost : (v : Assignment) → value p.cost v ≡ stacked_cost S r v
