-- A step from a state through an input, and no other.
use Rattle.std.specs.Prelude.{◌≡◌, List, map}
use Rattle.hys_number.specs.Number.{Number}
use Rattle.hys_ast.specs.Tree.{Source}
use Rattle.hys_meaning.specs.Values.{Assignment}
use Rattle.hys_meaning.specs.Names.{names, texts, is_auxiliary}
use Rattle.hys_meaning.specs.Steps.{Legal, Run}

-- there is a legal step, with these auxiliaries, next states and outputs, and each legal step has them
pub record OneStep (tolerance : Number) (s : Source) (x u auxiliaries x' y : List Number) : Type 0 where
  pub w : Assignment
  pub legal : Legal tolerance s x u w x' y
  pub auxiliary : map w (texts is_auxiliary (names s)) ≡ auxiliaries
  pub only : (v : Assignment) (z q : List Number) → Legal tolerance s x u v z q → (map v (texts is_auxiliary (names s)) ≡ auxiliaries) × (z ≡ x') × (q ≡ y)

-- legal steps lead from a state through these inputs to a last state
abbrev pub RunsTo : Number → Source → List Number → List (List Number) → List Number → Type 0
RunsTo tolerance s start inputs last = (steps : List (Assignment × List Number)) × Run tolerance s start inputs steps last
