-- Requests for a system.
use Rattle.std.specs.Prelude.{◌≡◌, ℕ, ◌*◌, ◌≤◌, List, [], ◌∷◌, length, Bool, true, false, nat_eq, cond}
use Rattle.hys_number.specs.Number.{Number}
use Rattle.hys_number.specs.Ops.{whole}
use Rattle.hys_lin.specs.Sums.{Within}
use Rattle.hys_sys.specs.Solution.{IsOfKind}
use Rattle.hys_sys.specs.System.{states}
use Rattle.hys_sys.specs.declared.system.ColumnRole.{ColumnRole}
use Rattle.hys_sys.specs.declared.system.ColumnRole.TheVariants.{State, Input, D, Z}
use Rattle.hys_sys.specs.declared.system.Column.{Column}
use Rattle.hys_sys.specs.declared.system.System.{System}
use Rattle.hys_stack.specs.declared.request.Request.{Request}

-- ---- states and fresh columns
abbrev pub is_state : ColumnRole → Bool
is_state State = true
is_state Input = false
is_state D = false
is_state Z = false

-- the columns of states, in their order
abbrev pub state_columns : List Column → List Column
state_columns [] = []
state_columns (c ∷ cs) = cond (is_state c.role) (c ∷ state_columns cs) (state_columns cs)

-- the text begins with the sign `#`, as the names of fresh columns do
abbrev pub is_fresh : List ℕ → Bool
is_fresh [] = false
is_fresh (b ∷ bs) = nat_eq b 35

-- ---- what a request for a system keeps
-- the number may be the start of the state: it is in the box, and 0 or 1 where the state is Boolean
pub record IsStart (c : Column) (a : Number) : Type 0 where
  pub within : Within c.bounds a
  pub kind : IsOfKind c.kind a

-- one such number for each state
abbrev pub AreStarts : List Column → List Number → Type 0
AreStarts [] [] = Unit {0}
AreStarts [] (a ∷ as') = ⊥
AreStarts (c ∷ cs) [] = ⊥
AreStarts (c ∷ cs) (a ∷ as') = IsStart c a × AreStarts cs as'

-- one weight for each column, 0 where its name begins with `#`
abbrev pub AreWeights : List Column → List Number → Type 0
AreWeights [] [] = Unit {0}
AreWeights [] (a ∷ as') = ⊥
AreWeights (c ∷ cs) [] = ⊥
AreWeights (c ∷ cs) (a ∷ as') = (is_fresh c.name ≡ true → a ≡ whole 0) × AreWeights cs as'

-- the most steps, the most nodes, and the most that they come to with the weight of a system
abbrev pub most_steps : ℕ
most_steps = 50

abbrev pub most_nodes : ℕ
most_nodes = 500000

abbrev pub most_stacked : ℕ
most_stacked = 600

abbrev pub most_work : ℕ
most_work = 500000

pub record IsRequestOf (S : System) (r : Request) : Type 0 where
  pub start : AreStarts (state_columns S.columns) r.start
  pub step_cost : AreWeights S.columns r.step_cost
  pub output_cost : length r.output_cost ≡ length S.outputs
  pub final_cost : length r.final_cost ≡ states S.columns
  pub some_steps : 1 ≤ r.horizon
  pub few_steps : r.horizon ≤ most_steps
  pub some_nodes : 1 ≤ r.nodes
  pub few_nodes : r.nodes ≤ most_nodes
  pub small : r.horizon * S.weight ≤ most_stacked
  pub little_work : r.nodes * (r.horizon * S.weight) ≤ most_work
