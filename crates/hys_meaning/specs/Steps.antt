-- One step of the automaton of a source, and runs of steps.
use Rattle.std.specs.Prelude.{◌≡◌, ℕ, List, [], ◌∷◌, Option, Some, None, Bool, ◌||◌, ◌⊎◌, map, cond, IsTrue}
use Rattle.std.specs.List.{AllByRecursion}
use Rattle.hys_number.specs.Number.{Number}
use Rattle.hys_number.specs.Ops.{whole, ◌≤ₙ◌, ◌<ₙ◌}
use Rattle.hys_ast.specs.declared.tree.BinaryOp.{BinaryOp}
use Rattle.hys_ast.specs.declared.tree.BinaryOp.TheVariants as binary
use Rattle.hys_ast.specs.declared.source.Section.{Section}
use Rattle.hys_ast.specs.declared.source.Kind.TheVariants as kind
use Rattle.hys_ast.specs.Tree.{Tree, Item, Source}
use Rattle.hys_ast.specs.Tree as tree
use Rattle.hys_lin.specs.Bits.{bit, IsBit}
use Rattle.hys_meaning.specs.Values.{Assignment, value, truth, given, guard_number}
use Rattle.hys_meaning.specs.Bodies.{Body}
use Rattle.hys_meaning.specs.Bodies as body
use Rattle.hys_meaning.specs.Names.{Name, names, look, texts, is_state, is_input, is_output, is_parameter}

-- ---- the case of an item
-- the name is 1 where the guard number is at most 0, else 0
abbrev pub GuardCase : Assignment → List ℕ → Number → Type 0
GuardCase w n g = ((g ≤ₙ whole 0) × (w n ≡ whole 1)) ⊎ ((whole 0 <ₙ g) × (w n ≡ whole 0))

-- the value of an ELSE, or 0 where there is none
abbrev pub else_value : Assignment → Option Tree → Number
else_value w (Some e) = value w e
else_value w None = whole 0

-- what a right side says of the auxiliary at its left
abbrev pub Case : Assignment → List ℕ → Body → Type 0
Case w n (body.Guard e t) = GuardCase w n (guard_number w e)
Case w n (body.Choice a b c) = w n ≡ cond (truth w a) (value w b) (else_value w c)
Case w n (body.Logic e) = w n ≡ bit (truth w e)
Case w n (body.Linear e) = w n ≡ value w e
Case w n (body.NextBool e) = Unit {0}
Case w n (body.NextReal e) = Unit {0}
Case w n (body.Output e) = Unit {0}
Case w n (body.Must e) = Unit {0}
Case w n body.Nothing = Unit {0}

-- a property of the name at the left, where there is one
abbrev pub OfLeft : (List ℕ → Type 0) → Option (List ℕ) → Type 0
OfLeft P (Some n) = P n
OfLeft P None = Unit {0}

abbrev pub CaseOf : Assignment → Item → Type 0
CaseOf w i = OfLeft (λ n. Case w n (body.body i)) i.name

-- ---- next values and outputs
abbrev pub output_value : Option Name → Assignment → Tree → Number
output_value (Some n) w e = given n.kind w e
output_value None w e = whole 0

-- what a right side says of the next value or the output at its left, which `after` has
abbrev pub Next : List Name → Assignment → Assignment → List ℕ → Body → Type 0
Next ns w after n (body.Guard e t) = Unit {0}
Next ns w after n (body.Choice a b c) = Unit {0}
Next ns w after n (body.Logic e) = Unit {0}
Next ns w after n (body.Linear e) = Unit {0}
Next ns w after n (body.NextBool e) = after n ≡ bit (truth w e)
Next ns w after n (body.NextReal e) = after n ≡ value w e
Next ns w after n (body.Output e) = after n ≡ output_value (look ns n) w e
Next ns w after n (body.Must e) = Unit {0}
Next ns w after n body.Nothing = Unit {0}

abbrev pub NextOf : List Name → Assignment → Assignment → Item → Type 0
NextOf ns w after i = OfLeft (λ n. Next ns w after n (body.body i)) i.name

-- ---- a step
-- The assignment w has the parameters' values, x on the states and u on the inputs, and the case
-- of each auxiliary holds of it; x' and y are the next states and the outputs. There is no order
-- of definition in it.
pub record Step (s : Source) (x u : List Number) (w : Assignment) (x' y : List Number) : Type 0 where
  pub parameters : AllByRecursion (λ n. IsTrue (is_parameter n.section) → w n.text ≡ n.value) (names s)
  pub states : map w (texts is_state (names s)) ≡ x
  pub inputs : map w (texts is_input (names s)) ≡ u
  pub cases : AllByRecursion (CaseOf w) s.items
  pub after : Assignment
  pub next : AllByRecursion (NextOf (names s) w after) s.items
  pub end : map after (texts is_state (names s)) ≡ x'
  pub outputs : map after (texts is_output (names s)) ≡ y

-- ---- a legal step
abbrev pub GapOf : Number → Number → Type 0
GapOf tolerance g = (whole 0 <ₙ g) × (g <ₙ tolerance)

-- the tolerance of a guard is its own where it has one
abbrev pub tolerance_of : Number → Assignment → Option Tree → Number
tolerance_of tolerance w (Some e) = value w e
tolerance_of tolerance w None = tolerance

abbrev pub GapAt : Number → Assignment → Body → Type 0
GapAt tolerance w (body.Guard e t) = GapOf (tolerance_of tolerance w t) (guard_number w e)
GapAt tolerance w (body.Choice a b c) = ⊥
GapAt tolerance w (body.Logic e) = ⊥
GapAt tolerance w (body.Linear e) = ⊥
GapAt tolerance w (body.NextBool e) = ⊥
GapAt tolerance w (body.NextReal e) = ⊥
GapAt tolerance w (body.Output e) = ⊥
GapAt tolerance w (body.Must e) = ⊥
GapAt tolerance w body.Nothing = ⊥

-- the item's guard number is above 0 and below its tolerance
abbrev pub InGap : Number → Assignment → Item → Type 0
InGap tolerance w i = GapAt tolerance w (body.body i)

-- the number is in the name's box, and is 0 or 1 where the name is Boolean
abbrev pub InBox : Assignment → Name → Type 0
InBox w n = (n.low ≤ₙ w n.text) × (w n.text ≤ₙ n.high) × (n.kind ≡ kind.Bool → IsBit (w n.text))

abbrev pub is_given : Section → Bool
is_given s = is_state s || is_input s

abbrev pub Compares : BinaryOp → Number → Number → Type 0 → Type 0
Compares binary.Most a b other = a ≤ₙ b
Compares binary.Least a b other = b ≤ₙ a
Compares binary.Equal a b other = a ≡ b
Compares binary.Add a b other = other
Compares binary.Sub a b other = other
Compares binary.Mul a b other = other
Compares binary.Div a b other = other
Compares binary.And a b other = other
Compares binary.Or a b other = other
Compares binary.Iff a b other = other
Compares binary.Then a b other = other
Compares binary.From a b other = other

-- a comparison that holds, or a formula that is true
abbrev pub Holds : Assignment → Tree → Type 0
Holds w (tree.Number text p) = IsTrue (truth w (tree.Number text p))
Holds w (tree.Name n p) = IsTrue (truth w (tree.Name n p))
Holds w (tree.Truth b p) = IsTrue (truth w (tree.Truth b p))
Holds w (tree.Cast n p) = IsTrue (truth w (tree.Cast n p))
Holds w (tree.Unary op a p) = IsTrue (truth w (tree.Unary op a p))
Holds w (tree.Binary op a b p) = Compares op (value w a) (value w b) (IsTrue (truth w (tree.Binary op a b p)))

abbrev pub DemandOf : Assignment → Body → Type 0
DemandOf w (body.Guard e t) = Unit {0}
DemandOf w (body.Choice a b c) = Unit {0}
DemandOf w (body.Logic e) = Unit {0}
DemandOf w (body.Linear e) = Unit {0}
DemandOf w (body.NextBool e) = Unit {0}
DemandOf w (body.NextReal e) = Unit {0}
DemandOf w (body.Output e) = Unit {0}
DemandOf w (body.Must e) = Holds w e
DemandOf w body.Nothing = Unit {0}

-- the demand of a MUST item holds
abbrev pub Demand : Assignment → Item → Type 0
Demand w i = DemandOf w (body.body i)

-- States and inputs lie in their boxes, each MUST item holds, and no guard number is in its gap.
-- The next states may lie outside their boxes.
pub record Legal (tolerance : Number) (s : Source) (x u : List Number) (w : Assignment) (x' y : List Number) : Type 0 where
  pub step : Step s x u w x' y
  pub boxes : AllByRecursion (λ n. IsTrue (is_given n.section) → InBox w n) (names s)
  pub demands : AllByRecursion (Demand w) s.items
  pub no_gap : AllByRecursion (λ i. ¬ (InGap tolerance w i)) s.items

-- ---- runs
-- legal steps from one state through the inputs to another, each from the state that the one
-- before reached; in the lists stand the assignment and the outputs of each
pub data Run (tolerance : Number) (s : Source) : List Number → List (List Number) → List (Assignment × List Number) → List Number → Type 0 where
  ended : {x : List Number} → Run tolerance s x [] [] x
  stepped : {x u x' y end : List Number} {us : List (List Number)} {w : Assignment} {steps : List (Assignment × List Number)} →
      Legal tolerance s x u w x' y → Run tolerance s x' us steps end → Run tolerance s x (u ∷ us) ((w, y) ∷ steps) end

-- no step is legal from the state with the input
abbrev pub Stuck : Number → Source → List Number → List Number → Type 0
Stuck tolerance s x u = (w : Assignment) (x' y : List Number) → ¬ (Legal tolerance s x u w x' y)
