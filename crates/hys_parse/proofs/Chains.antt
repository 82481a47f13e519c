-- A chain of operators, read by a loop.
use Rattle.std.proofs.Common.{◌≡◌, ℕ, zero, suc, ◌<◌, ◌≤◌, true, false, List, length, Some, None, Ok, refl, ◌∙◌, arith}
use Rattle.hys_ast.specs.declared.place.Place.{Place}
use Rattle.hys_ast.specs.declared.lexeme.Lexeme.{Lexeme}
use Rattle.hys_ast.specs.declared.tree.BinaryOp.{BinaryOp}
use Rattle.hys_ast.specs.declared.level.Level.{Level}
use Rattle.hys_ast.specs.Operators.{groups}
use Rattle.hys_ast.specs.Tree.{Tree}
use Rattle.hys_ast.specs.Tree as tree
use Rattle.hys_parse.specs.declared.stop.Stop.{Stop}
use Rattle.hys_parse.specs.declared.stop.Stop.TheVariants as stop
use Rattle.hys_parse.specs.Reading.{Read, Fails, joint, tail_at, binary_at}

-- What is left to read is read behind a, with fuel for each lexeme that is left.
pub record Upto (n : Level) (operand : List Lexeme → Read Tree) (ts : List Lexeme) (a : Tree) (rest : List Lexeme) : Type 0 where
  pub fuel : ℕ
  pub enough : length rest ≤ fuel
  pub same : binary_at n operand ts ≡ tail_at n operand fuel a rest

pub starts : (n : Level) (operand : List Lexeme → Read Tree) (ts rest : List Lexeme) (a : Tree) → operand ts ≡ Ok (a, rest) → Upto n operand ts a rest
unfolding binary_at
starts n operand ts rest a e = record { fuel = length rest; enough = omega arith; same = rw e refl }

pub starts_not : (s : Stop) (n : Level) (operand : List Lexeme → Read Tree) (ts : List Lexeme) → Fails s (operand ts) → Fails s (binary_at n operand ts)
unfolding binary_at
starts_not stop.Memory n operand ts e = tt
starts_not (stop.Left k) n operand ts e = rw e refl

pub step : (n : Level) (operand : List Lexeme → Read Tree) (fuel : ℕ) (a b : Tree) (rest next more : List Lexeme) (op : BinaryOp) (place : Place) → joint n rest ≡ Some (op, place, next) →
    operand next ≡ Ok (b, more) → groups n ≡ true → tail_at n operand (suc fuel) a rest ≡ tail_at n operand fuel (tree.Binary op a b place) more
unfolding tail_at
step n operand fuel a b rest next more op place j e g = rw (j, e, g) refl

pub goes_on : (n : Level) (operand : List Lexeme → Read Tree) (ts : List Lexeme) (a b : Tree) (rest next more : List Lexeme) (op : BinaryOp) (place : Place) → joint n rest ≡ Some (op, place, next) →
    operand next ≡ Ok (b, more) → length more < length rest → groups n ≡ true → Upto n operand ts a rest → Upto n operand ts (tree.Binary op a b place) more
goes_on n operand ts a b rest next more op place j e less g upto = go upto.fuel upto.enough upto.same
  where
    go : (fuel : ℕ) → length rest ≤ fuel → binary_at n operand ts ≡ tail_at n operand fuel a rest → Upto n operand ts (tree.Binary op a b place) more
    go zero enough same = absurd (omega arith)
    go (suc fuel) enough same = record { fuel = fuel; enough = omega arith; same = same ∙ step n operand fuel a b rest next more op place j e g }

fails : (s : Stop) (n : Level) (operand : List Lexeme → Read Tree) (fuel : ℕ) (a : Tree) (rest next : List Lexeme) (op : BinaryOp) (place : Place) → joint n rest ≡ Some (op, place, next) →
    Fails s (operand next) → Fails s (tail_at n operand (suc fuel) a rest)
unfolding tail_at
fails stop.Memory n operand fuel a rest next op place j e = tt
fails (stop.Left k) n operand fuel a rest next op place j e = rw (j, e) refl

along : (s : Stop) {A : Type 0} (x y : Read A) → x ≡ y → Fails s y → Fails s x
along stop.Memory x y e f = tt
along (stop.Left k) x y e f = e ∙ f

pub goes_not : (s : Stop) (n : Level) (operand : List Lexeme → Read Tree) (ts : List Lexeme) (a : Tree) (rest next : List Lexeme) (op : BinaryOp) (place : Place) → joint n rest ≡ Some (op, place, next) →
    length next < length rest → Fails s (operand next) → Upto n operand ts a rest → Fails s (binary_at n operand ts)
goes_not s n operand ts a rest next op place j less e upto = go upto.fuel upto.enough upto.same
  where
    go : (fuel : ℕ) → length rest ≤ fuel → binary_at n operand ts ≡ tail_at n operand fuel a rest → Fails s (binary_at n operand ts)
    go zero enough same = absurd (omega arith)
    go (suc fuel) enough same = along s (binary_at n operand ts) (tail_at n operand (suc fuel) a rest) same (fails s n operand fuel a rest next op place j e)

pub single : (n : Level) (operand : List Lexeme → Read Tree) (fuel : ℕ) (a b : Tree) (rest next more : List Lexeme) (op : BinaryOp) (place : Place) → joint n rest ≡ Some (op, place, next) →
    operand next ≡ Ok (b, more) → groups n ≡ false → tail_at n operand (suc fuel) a rest ≡ Ok (tree.Binary op a b place, more)
unfolding tail_at
single n operand fuel a b rest next more op place j e g = rw (j, e, g) refl

pub ends_once : (n : Level) (operand : List Lexeme → Read Tree) (ts : List Lexeme) (a b : Tree) (rest next more : List Lexeme) (op : BinaryOp) (place : Place) → joint n rest ≡ Some (op, place, next) →
    operand next ≡ Ok (b, more) → length next < length rest → groups n ≡ false → Upto n operand ts a rest → binary_at n operand ts ≡ Ok (tree.Binary op a b place, more)
ends_once n operand ts a b rest next more op place j e less g upto = go upto.fuel upto.enough upto.same
  where
    go : (fuel : ℕ) → length rest ≤ fuel → binary_at n operand ts ≡ tail_at n operand fuel a rest → binary_at n operand ts ≡ Ok (tree.Binary op a b place, more)
    go zero enough same = absurd (omega arith)
    go (suc fuel) enough same = same ∙ single n operand fuel a b rest next more op place j e g

pub stays : (n : Level) (operand : List Lexeme → Read Tree) (fuel : ℕ) (a : Tree) (rest : List Lexeme) → joint n rest ≡ None → tail_at n operand fuel a rest ≡ Ok (a, rest)
unfolding tail_at
stays n operand zero a rest j = refl
stays n operand (suc fuel) a rest j = rw j refl

pub ends : (n : Level) (operand : List Lexeme → Read Tree) (ts : List Lexeme) (a : Tree) (rest : List Lexeme) → joint n rest ≡ None → Upto n operand ts a rest → binary_at n operand ts ≡ Ok (a, rest)
ends n operand ts a rest j upto = upto.same ∙ stays n operand upto.fuel a rest j
