-- A worked table: the program of a state x and a guard d, at the guard's edge.
use Rattle.std.specs.Prelude.{ℕ, List, [], ◌∷◌, codes}
use Rattle.hys_number.specs.Ops.{whole}
use Rattle.hys_sim.specs.Runs.{Transition}

-- the start 5, with a blank in the header, and two records of inputs
abbrev pub start_table : List ℕ
start_table = codes "step, x\n0,5\n"

abbrev pub inputs_table : List ℕ
inputs_table = codes "step\r\n0\r\n1.0"

-- the state 5 keeps its value, and d is 1
abbrev pub edge : Transition
edge = record {
  state = whole 5 ∷ [];
  input = [];
  stepped = record { aux = whole 1 ∷ []; outputs = []; next = whole 5 ∷ [] };
}
