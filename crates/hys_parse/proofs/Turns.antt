-- Turns taken by a loop.
use Rattle.std.proofs.Common.{◌≡◌, ℕ, zero, suc, ◌<◌, Bool, true, false, List, length, Ok, refl, ◌∙◌, arith}
use Rattle.hys_ast.specs.declared.lexeme.Lexeme.{Lexeme}
use Rattle.hys_parse.specs.declared.stop.Stop.{Stop}
use Rattle.hys_parse.specs.declared.stop.Stop.TheVariants as stop
use Rattle.hys_parse.specs.Reading.{Read, Fails}
use Rattle.hys_parse.specs.Sections.{Turn, turns, all_turns}

-- What all turns give is what those give that are still to be taken.
pub record Upto {A : Type 0} (turn : A → List Lexeme → Turn A) (first : A) (all : List Lexeme) (a : A) (ts : List Lexeme) : Type 0 where
  pub fuel : ℕ
  pub enough : length ts < fuel
  pub same : all_turns turn first all ≡ turns turn fuel a ts

pub starts : {A : Type 0} (turn : A → List Lexeme → Turn A) (a : A) (ts : List Lexeme) → Upto turn a ts a ts
unfolding all_turns
starts turn a ts = record { fuel = suc (length ts); enough = omega arith; same = refl }

step : {A : Type 0} (turn : A → List Lexeme → Turn A) (fuel : ℕ) (a b : A) (ts next : List Lexeme) (more : Bool) → turn a ts ≡ Ok (b, more, next) → more ≡ true → turns turn (suc fuel) a ts ≡ turns turn fuel b next
unfolding turns
step turn fuel a b ts next more t e = rw (t, e) refl

pub goes_on : {A : Type 0} (turn : A → List Lexeme → Turn A) (first : A) (all : List Lexeme) (a b : A) (ts next : List Lexeme) (more : Bool) → turn a ts ≡ Ok (b, more, next) → more ≡ true → length next < length ts →
    Upto turn first all a ts → Upto turn first all b next
goes_on {A} turn first all a b ts next more t e less upto = go upto.fuel upto.enough upto.same
  where
    go : (fuel : ℕ) → length ts < fuel → all_turns turn first all ≡ turns turn fuel a ts → Upto turn first all b next
    go zero enough same = absurd (omega arith)
    go (suc fuel) enough same = record { fuel = fuel; enough = omega arith; same = same ∙ step turn fuel a b ts next more t e }

along : (s : Stop) {A : Type 0} (x y : Read A) → x ≡ y → Fails s y → Fails s x
along stop.Memory x y e f = tt
along (stop.Left k) x y e f = e ∙ f

fails : {A : Type 0} (s : Stop) (turn : A → List Lexeme → Turn A) (fuel : ℕ) (a : A) (ts : List Lexeme) → Fails s (turn a ts) → Fails s (turns turn (suc fuel) a ts)
unfolding turns
fails stop.Memory turn fuel a ts e = tt
fails (stop.Left k) turn fuel a ts e = rw e refl

pub goes_not : {A : Type 0} (s : Stop) (turn : A → List Lexeme → Turn A) (first : A) (all : List Lexeme) (a : A) (ts : List Lexeme) → Fails s (turn a ts) → Upto turn first all a ts → Fails s (all_turns turn first all)
goes_not {A} s turn first all a ts e upto = go upto.fuel upto.enough upto.same
  where
    go : (fuel : ℕ) → length ts < fuel → all_turns turn first all ≡ turns turn fuel a ts → Fails s (all_turns turn first all)
    go zero enough same = absurd (omega arith)
    go (suc fuel) enough same = along s (all_turns turn first all) (turns turn (suc fuel) a ts) same (fails s turn fuel a ts e)

pub last : {A : Type 0} (turn : A → List Lexeme → Turn A) (fuel : ℕ) (a b : A) (ts next : List Lexeme) (more : Bool) → turn a ts ≡ Ok (b, more, next) → more ≡ false → turns turn (suc fuel) a ts ≡ Ok (b, next)
unfolding turns
last turn fuel a b ts next more t e = rw (t, e) refl

pub ends : {A : Type 0} (turn : A → List Lexeme → Turn A) (first : A) (all : List Lexeme) (a b : A) (ts next : List Lexeme) (more : Bool) → turn a ts ≡ Ok (b, more, next) → more ≡ false →
    Upto turn first all a ts → all_turns turn first all ≡ Ok (b, next)
ends {A} turn first all a b ts next more t e upto = go upto.fuel upto.enough upto.same
  where
    go : (fuel : ℕ) → length ts < fuel → all_turns turn first all ≡ turns turn fuel a ts → all_turns turn first all ≡ Ok (b, next)
    go zero enough same = absurd (omega arith)
    go (suc fuel) enough same = same ∙ last turn fuel a b ts next more t e

-- the first turn of some, and the last one
pub first_turn : {A : Type 0} (turn : A → List Lexeme → Turn A) (fuel : ℕ) (a b : A) (ts next : List Lexeme) (r : Read A) → turn a ts ≡ Ok (b, true, next) → length ts < fuel → length next < length ts →
    ((left : ℕ) → length next < left → turns turn left b next ≡ r) → turns turn fuel a ts ≡ r
first_turn turn zero a b ts next r t enough less later = absurd (omega arith)
first_turn turn (suc fuel) a b ts next r t enough less later = step turn fuel a b ts next true t refl ∙ later fuel (omega arith)

pub last_turn : {A : Type 0} (turn : A → List Lexeme → Turn A) (fuel : ℕ) (a b : A) (ts next : List Lexeme) → turn a ts ≡ Ok (b, false, next) → 0 < fuel → turns turn fuel a ts ≡ Ok (b, next)
last_turn turn zero a b ts next t enough = absurd (omega arith)
last_turn turn (suc fuel) a b ts next t enough = last turn fuel a b ts next false t refl
