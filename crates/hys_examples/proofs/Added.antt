-- The system of x = x + u is exact for it.
use Rattle.std.proofs.Common.{◌≡◌, ℕ, zero, suc, ◌<◌, List, [], ◌∷◌, codes, length, map, HoldsAt, refl, sym, ◌∙◌, ap, ap₂, subst, arith, cond, bytes_eq}
use Rattle.hys_number.specs.Number.{Number}
use Rattle.hys_number.specs.Ops.{◌+ₙ◌, ◌*ₙ◌, neg, whole}
use Rattle.hys_number.proofs.Field.{add_zero, mul_comm, mul_one}
use Rattle.hys_lin.specs.Sums.{at, value, Within}
use Rattle.hys_lin.specs.declared.form.Affine.{Affine}
use Rattle.hys_lin.specs.declared.form.Interval.{Interval}
use Rattle.hys_meaning.specs.Values.{Assignment, literal}
use Rattle.hys_meaning.specs.Steps.{Legal}
use Rattle.hys_sys.specs.declared.system.ColumnRole.TheVariants.{State, Input}
use Rattle.hys_sys.specs.declared.system.Kind2.TheVariants as kind
use Rattle.hys_sys.specs.declared.system.Column.{Column}
use Rattle.hys_sys.specs.Solution.{Solution, IsOfKind}
use Rattle.hys_sys.specs.Exact.{AreIn, From, Arranged, ExactAt}
use Rattle.hys_compile.specs.Automaton.{automaton_of, IsExactFor}
use Rattle.hys_examples.specs.Sources.{summed}
use Rattle.hys_examples.specs.Systems.{summed_system}
use Rattle.hys_examples.proofs.Numbers.{head_same, never, real_not_bool, literal-1, whole-is, decides, zero_is, ten_is}

one_is : literal (codes "1") ≡ whole 1
one_is = rw (literal-1, whole-is 1) (simp decides (omega arith))

next_is : (a b : Number) → whole 1 *ₙ a +ₙ (whole 1 *ₙ b +ₙ whole 0) +ₙ whole 0 ≡ a +ₙ b
next_is a b = add_zero _ ∙ ap₂ ◌+ₙ◌ (mul_comm (whole 1) a ∙ mul_one a) (add_zero _ ∙ mul_comm (whole 1) b ∙ mul_one b)

-- ---- steps
abbrev two : Number → Number → Assignment
two a b n = cond (bytes_eq n (codes "x")) a b

legal_two : (tolerance a b : Number) → AreIn (automaton_of summed).states (a ∷ []) → AreIn (automaton_of summed).inputs (b ∷ []) → Legal tolerance summed (a ∷ []) (b ∷ []) (two a b) ((a +ₙ b) ∷ []) []
legal_two tolerance a b x u = record {
  step = record {
    parameters = (λ k. never k, (λ k. never k, tt));
    states = refl;
    inputs = refl;
    cases = (tt, tt);
    after = λ n. a +ₙ b;
    next = (refl, tt);
    end = refl;
    outputs = refl;
  };
  boxes = (λ k. (x.0.0.low, x.0.0.high, λ e. real_not_bool e), (λ k. (u.0.0.low, u.0.0.high, λ e. real_not_bool e), tt));
  demands = (tt, tt);
  no_gap = (λ k. k, tt);
}

-- what every step says
record Told (a b : Number) (x' y : List Number) : Type 0 where
  next : x' ≡ (a +ₙ b) ∷ []
  outputs : y ≡ []

told : (tolerance a b : Number) (w : Assignment) (x' y : List Number) → Legal tolerance summed (a ∷ []) (b ∷ []) w x' y → Told a b x' y
told tolerance a b w x' y h =
    let x : w (codes "x") ≡ a = head_same h.step.states in
    let u : w (codes "u") ≡ b = head_same h.step.inputs in
    let next = h.step.next.0 in
    record { next = sym h.step.end ∙ ap (λ z. z ∷ []) (rw (x, u) at next); outputs = sym h.step.outputs }

-- ---- solutions
from_is : (a b : Number) (v : List Number) → From summed_system (a ∷ []) (b ∷ []) v → v ≡ a ∷ b ∷ []
from_is a b v f = go f.rest f.begins
  where
    go : (rest : List Number) → v ≡ a ∷ b ∷ rest → v ≡ a ∷ b ∷ []
    go [] e = e
    go (r ∷ rs) e = absurd (let m : length v ≡ 2 = f.solution.long in let n : length v ≡ suc (suc (suc (length rs))) = ap length e in omega arith)

kinds_are : (a b : Number) (i : ℕ) → i < 2 → HoldsAt (λ c. IsOfKind c.kind (at (a ∷ b ∷ []) i)) summed_system.columns i
kinds_are a b zero l d = tt
kinds_are a b (suc zero) l d = tt
kinds_are a b (suc (suc i)) l d = absurd (omega arith)

solution_is : (a b : Number) → Solution summed_system (a ∷ b ∷ [])
solution_is a b = record { long = refl; rows = tt; kinds = kinds_are a b }

boxes_are : (a b : Number) → AreIn (automaton_of summed).states (a ∷ []) → AreIn (automaton_of summed).inputs (b ∷ []) → (i : ℕ) → i < 2 → HoldsAt (λ c. Within c.bounds (at (a ∷ b ∷ []) i)) summed_system.columns i
boxes_are a b x u zero l d = record { low = rw (← zero_is) x.0.0.low; high = rw (← ten_is) x.0.0.high }
boxes_are a b x u (suc zero) l d = record { low = rw (← one_is) u.0.0.low; high = rw (← one_is) u.0.0.high }
boxes_are a b x u (suc (suc i)) l d = absurd (omega arith)

next_values : (a b : Number) → map (λ (f : Affine). value f (at (a ∷ b ∷ []))) summed_system.next ≡ (a +ₙ b) ∷ []
unfolding value
next_values a b = ap (λ z. z ∷ []) (next_is a b)

exact_at : (tolerance a b : Number) → AreIn (automaton_of summed).states (a ∷ []) → AreIn (automaton_of summed).inputs (b ∷ []) → ExactAt (automaton_of summed) (Legal tolerance summed) summed_system (a ∷ []) (b ∷ [])
exact_at tolerance a b x u = record {
  solvable = λ w x' y t. (a ∷ b ∷ [], record { solution = solution_is a b; rest = []; begins = refl });
  steps = λ v f. (two a b, (a +ₙ b) ∷ [], [], legal_two tolerance a b x u);
  one = λ v v' f g. from_is a b v f ∙ sym (from_is a b v' g);
  one_step = λ w w' x' x'' y y' s t. refl;
  same = λ v w x' y f s. ([], from_is a b v f);
  boxes = λ v f i l. subst (λ (z : List Number). HoldsAt (λ c. Within c.bounds (at z i)) summed_system.columns i) (sym (from_is a b v f)) (boxes_are a b x u i l);
  next = λ v w x' y f t. ap (λ (z : List Number). map (λ (f : Affine). value f (at z)) summed_system.next) (from_is a b v f) ∙ next_values a b ∙ sym (told tolerance a b w x' y t).next;
  outputs = λ v w x' y f t. sym (told tolerance a b w x' y t).outputs;
}

at_each : (tolerance : Number) (x u : List Number) → AreIn (automaton_of summed).states x → AreIn (automaton_of summed).inputs u → ExactAt (automaton_of summed) (Legal tolerance summed) summed_system x u
at_each tolerance [] u h k = absurd h
at_each tolerance (a ∷ c ∷ x) u h k = absurd h.1
at_each tolerance (a ∷ []) [] h k = absurd k
at_each tolerance (a ∷ []) (b ∷ c ∷ u) h k = absurd k.1
at_each tolerance (a ∷ []) (b ∷ []) h k = exact_at tolerance a b h k

-- the columns, by the ends of their boxes
abbrev columns : Interval → Interval → List Column
columns i j = record { name = codes "x"; role = State; kind = kind.Real; bounds = i } ∷ record { name = codes "u"; role = Input; kind = kind.Real; bounds = j } ∷ []

abbrev interval : Number → Number → Interval
interval low high = record { low = low; high = high }

arranged : Arranged (automaton_of summed) summed_system
arranged = record {
  name = refl;
  outputs = refl;
  bool_columns = [];
  fresh_columns = [];
  real_columns = [];
  columns = ap₂ columns (ap₂ interval (sym zero_is) (sym ten_is)) (ap₂ interval (ap neg (sym one_is)) (sym one_is));
  bools_are = refl;
  reals_are = refl;
  d = λ k c l. absurd (omega arith);
  z = λ k c l. absurd (omega arith);
  fresh_are = refl;
}

pub summed_exact : (tolerance : Number) → IsExactFor tolerance summed summed_system
summed_exact tolerance = record { arranged = arranged; at_each = at_each tolerance }
