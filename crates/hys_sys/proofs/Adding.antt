use Rattle.std.proofs.Common.{◌≡◌, ℕ, zero, suc, ◌<◌, List, [], ◌∷◌, length, map, HoldsAt, refl, sym, ◌∙◌, ap, ap₂, subst, arith}
use Rattle.hys_number.specs.Number.{Number}
use Rattle.hys_number.specs.Ops.{◌+ₙ◌, ◌*ₙ◌, whole}
use Rattle.hys_number.proofs.Field.{mul_comm, mul_one, add_zero}
use Rattle.hys_lin.specs.Sums.{at, value, Within}
use Rattle.hys_lin.specs.declared.form.Affine.{Affine}
use Rattle.hys_sys.specs.Solution.{Solution, IsOfKind}
use Rattle.hys_sys.specs.Exact.{AreIn, From, Arranged, ExactAt, Exact}
use Rattle.hys_sys.specs.Sum.{sum_automaton, sum_system, SumStep}

-- v is x and u
from_is : (a b : Number) (v : List Number) → From sum_system (a ∷ []) (b ∷ []) v → v ≡ a ∷ b ∷ []
from_is a b v f = go f.rest f.begins
  where
    go : (rest : List Number) → v ≡ a ∷ b ∷ rest → v ≡ a ∷ b ∷ []
    go [] e = e
    go (r ∷ rs) e = absurd (let m : length v ≡ 2 = f.solution.long in let n : length v ≡ suc (suc (suc (length rs))) = ap length e in omega arith)

kinds_are : (a b : Number) (i : ℕ) → i < 2 → HoldsAt (λ c. IsOfKind c.kind (at (a ∷ b ∷ []) i)) sum_system.columns i
kinds_are a b zero l d = tt
kinds_are a b (suc zero) l d = tt
kinds_are a b (suc (suc i)) l d = absurd (omega arith)

solution_is : (a b : Number) → Solution sum_system (a ∷ b ∷ [])
solution_is a b = record { long = refl; rows = tt; kinds = kinds_are a b }

boxes_are : (a b : Number) → AreIn sum_automaton.states (a ∷ []) → AreIn sum_automaton.inputs (b ∷ []) → (i : ℕ) → i < 2 → HoldsAt (λ c. Within c.bounds (at (a ∷ b ∷ []) i)) sum_system.columns i
boxes_are a b p q zero l d = p.0.0
boxes_are a b p q (suc zero) l d = q.0.0
boxes_are a b p q (suc (suc i)) l d = absurd (omega arith)

value_is : (a b : Number) → whole 1 *ₙ a +ₙ (whole 1 *ₙ b +ₙ whole 0) +ₙ whole 0 ≡ a +ₙ b
value_is a b = add_zero _ ∙ ap₂ ◌+ₙ◌ (mul_comm (whole 1) a ∙ mul_one a) (add_zero _ ∙ mul_comm (whole 1) b ∙ mul_one b)

next_is : (a b : Number) → map (λ (f : Affine). value f (at (a ∷ b ∷ []))) sum_system.next ≡ (a +ₙ b) ∷ []
unfolding value
next_is a b = ap (λ (n : Number). n ∷ []) (value_is a b)

sum_at : (a b : Number) → AreIn sum_automaton.states (a ∷ []) → AreIn sum_automaton.inputs (b ∷ []) → ExactAt sum_automaton SumStep sum_system (a ∷ []) (b ∷ [])
sum_at a b p q = record {
  solvable = λ w x' y s. (a ∷ b ∷ [], record { solution = solution_is a b; rest = []; begins = refl });
  steps = λ v f. ((λ n. whole 0), (a +ₙ b) ∷ [], [], record { state = a; input = b; x_is = refl; u_is = refl; states = p; inputs = q; next = refl; outputs = refl });
  one = λ v v' f g. from_is a b v f ∙ sym (from_is a b v' g);
  one_step = λ w w' x' x'' y y' s t. refl;
  same = λ v w x' y f s. ([], from_is a b v f);
  boxes = λ v f i l. subst (λ (z : List Number). HoldsAt (λ c. Within c.bounds (at z i)) sum_system.columns i) (sym (from_is a b v f)) (boxes_are a b p q i l);
  next = λ v w x' y f s. ap (λ (z : List Number). map (λ (f : Affine). value f (at z)) sum_system.next) (from_is a b v f) ∙ next_is a b ∙ after a b s.state s.input x' s.x_is s.u_is s.next;
  outputs = λ v w x' y f s. sym s.outputs;
}
  where
    after : (a b c d : Number) (x' : List Number) → a ∷ [] ≡ c ∷ [] → b ∷ [] ≡ d ∷ [] → x' ≡ (c +ₙ d) ∷ [] → (a +ₙ b) ∷ [] ≡ x'
    after a b c d x' e h i = let m : a ≡ c = cc in let n : b ≡ d = cc in ap (λ (z : Number). z ∷ []) (ap₂ ◌+ₙ◌ m n) ∙ sym i

at_each : (x u : List Number) → AreIn sum_automaton.states x → AreIn sum_automaton.inputs u → ExactAt sum_automaton SumStep sum_system x u
at_each [] u p q = absurd p
at_each (a ∷ c ∷ x) u p q = absurd p.1
at_each (a ∷ []) [] p q = absurd q
at_each (a ∷ []) (b ∷ c ∷ u) p q = absurd q.1
at_each (a ∷ []) (b ∷ []) p q = sum_at a b p q

arranged : Arranged sum_automaton sum_system
arranged = record {
  name = refl;
  outputs = refl;
  bool_columns = [];
  fresh_columns = [];
  real_columns = [];
  columns = refl;
  bools_are = refl;
  reals_are = refl;
  d = λ k c l. absurd (omega arith);
  z = λ k c l. absurd (omega arith);
  fresh_are = refl;
}

pub sum_exact : Exact sum_automaton SumStep sum_system
sum_exact = record { arranged = arranged; at_each = at_each }
