-- The system of x = x + 3a + 2b with 3a + 2b <= 4 is exact for it.
use Rattle.std.proofs.Common.{◌≡◌, ℕ, zero, suc, ◌<◌, List, [], ◌∷◌, codes, length, map, HoldsAt, refl, sym, ◌∙◌, ap, ap₂, subst, subst₂, arith, cond, bytes_eq}
use Rattle.hys_number.specs.Number.{Number}
use Rattle.hys_number.specs.Ops.{◌+ₙ◌, ◌*ₙ◌, ◌≤ₙ◌, whole}
use Rattle.hys_number.proofs.Field.{add_zero, add_assoc, mul_comm, mul_one}
use Rattle.hys_lin.specs.Sums.{at, value, Holds, Within}
use Rattle.hys_lin.specs.declared.form.Affine.{Affine}
use Rattle.hys_lin.specs.Bits.{IsBit}
use Rattle.hys_meaning.specs.Values.{Assignment, literal}
use Rattle.hys_meaning.specs.Steps.{Legal}
use Rattle.hys_sys.specs.declared.system.ColumnRole.TheVariants.{State}
use Rattle.hys_sys.specs.declared.system.Kind2.TheVariants as kind
use Rattle.hys_sys.specs.declared.system.Column.{Column}
use Rattle.hys_sys.specs.Solution.{Solution, IsOfKind}
use Rattle.hys_sys.specs.Exact.{AreIn, From, Arranged, ExactAt}
use Rattle.hys_compile.specs.Automaton.{automaton_of, IsExactFor}
use Rattle.hys_examples.specs.Sources.{casting}
use Rattle.hys_examples.specs.Systems.{casting_system}
use Rattle.hys_examples.proofs.Numbers.{head_same, place_same, never, real_not_bool, zero_is, two_is, three_is, four_is, ten_is}

-- ---- numbers
abbrev weight : Number → Number → Number
weight p q = literal (codes "3") *ₙ p +ₙ literal (codes "2") *ₙ q

abbrev moved : Number → Number → Number → Number
moved a p q = a +ₙ literal (codes "3") *ₙ p +ₙ literal (codes "2") *ₙ q

row_is : (p q : Number) → whole 3 *ₙ p +ₙ (whole 2 *ₙ q +ₙ whole 0) ≡ weight p q
row_is p q = rw (three_is, two_is) (ap (λ z. whole 3 *ₙ p +ₙ z) (add_zero (whole 2 *ₙ q)))

next_is : (a p q : Number) → whole 1 *ₙ a +ₙ (whole 3 *ₙ p +ₙ (whole 2 *ₙ q +ₙ whole 0)) +ₙ whole 0 ≡ moved a p q
next_is a p q = add_zero _ ∙ ap₂ ◌+ₙ◌ (mul_comm (whole 1) a ∙ mul_one a) (row_is p q) ∙ sym (add_assoc a (literal (codes "3") *ₙ p) (literal (codes "2") *ₙ q))

-- ---- steps
abbrev three : Number → Number → Number → Assignment
three a p q n = cond (bytes_eq n (codes "x")) a (cond (bytes_eq n (codes "a")) p q)

legal_three : (tolerance a p q : Number) → AreIn (automaton_of casting).states (a ∷ []) → AreIn (automaton_of casting).inputs (p ∷ q ∷ []) → weight p q ≤ₙ literal (codes "4") →
    Legal tolerance casting (a ∷ []) (p ∷ q ∷ []) (three a p q) (moved a p q ∷ []) []
legal_three tolerance a p q x u d = record {
  step = record {
    parameters = (λ k. never k, (λ k. never k, (λ k. never k, tt)));
    states = refl;
    inputs = refl;
    cases = (tt, (tt, tt));
    after = λ n. moved a p q;
    next = (refl, (tt, tt));
    end = refl;
    outputs = refl;
  };
  boxes = (λ k. (x.0.0.low, x.0.0.high, λ e. real_not_bool e), (λ k. (u.0.0.low, u.0.0.high, λ e. u.0.1), (λ k. (u.1.0.0.low, u.1.0.0.high, λ e. u.1.0.1), tt)));
  demands = (tt, (d, tt));
  no_gap = (λ k. k, (λ k. k, tt));
}

-- what every step says
record Told (a p q : Number) (x' y : List Number) : Type 0 where
  weighs : weight p q ≤ₙ literal (codes "4")
  next : x' ≡ moved a p q ∷ []
  outputs : y ≡ []

told : (tolerance a p q : Number) (w : Assignment) (x' y : List Number) → Legal tolerance casting (a ∷ []) (p ∷ q ∷ []) w x' y → Told a p q x' y
told tolerance a p q w x' y h =
    let x : w (codes "x") ≡ a = head_same h.step.states in
    let m : w (codes "a") ≡ p = place_same 0 h.step.inputs in
    let n : w (codes "b") ≡ q = place_same 1 h.step.inputs in
    let d = h.demands.1.0 in
    let next = h.step.next.0 in
    record { weighs = rw (m, n) at d; next = sym h.step.end ∙ ap (λ z. z ∷ []) (rw (x, m, n) at next); outputs = sym h.step.outputs }

-- ---- solutions
from_is : (a p q : Number) (v : List Number) → From casting_system (a ∷ []) (p ∷ q ∷ []) v → v ≡ a ∷ p ∷ q ∷ []
from_is a p q v f = go f.rest f.begins
  where
    go : (rest : List Number) → v ≡ a ∷ p ∷ q ∷ rest → v ≡ a ∷ p ∷ q ∷ []
    go [] e = e
    go (r ∷ rs) e = absurd (let m : length v ≡ 3 = f.solution.long in let n : length v ≡ suc (suc (suc (suc (length rs)))) = ap length e in omega arith)

kinds_are : (a p q : Number) → IsBit p → IsBit q → (i : ℕ) → i < 3 → HoldsAt (λ c. IsOfKind c.kind (at (a ∷ p ∷ q ∷ []) i)) casting_system.columns i
kinds_are a p q b c zero l d = tt
kinds_are a p q b c (suc zero) l d = b
kinds_are a p q b c (suc (suc zero)) l d = c
kinds_are a p q b c (suc (suc (suc i))) l d = absurd (omega arith)

solution_is : (a p q : Number) → IsBit p → IsBit q → weight p q ≤ₙ literal (codes "4") → Solution casting_system (a ∷ p ∷ q ∷ [])
unfolding Holds
solution_is a p q b c d = record { long = refl; rows = (subst₂ ◌≤ₙ◌ (sym (row_is p q)) four_is d, tt); kinds = kinds_are a p q b c }

weighs_of : (a p q : Number) → Solution casting_system (a ∷ p ∷ q ∷ []) → weight p q ≤ₙ literal (codes "4")
unfolding Holds
weighs_of a p q s = subst₂ ◌≤ₙ◌ (row_is p q) (sym four_is) s.rows.0

boxes_are : (a p q : Number) → AreIn (automaton_of casting).states (a ∷ []) → AreIn (automaton_of casting).inputs (p ∷ q ∷ []) → (i : ℕ) → i < 3 → HoldsAt (λ c. Within c.bounds (at (a ∷ p ∷ q ∷ []) i)) casting_system.columns i
boxes_are a p q x u zero l d = record { low = rw (← zero_is) x.0.0.low; high = rw (← ten_is) x.0.0.high }
boxes_are a p q x u (suc zero) l d = record { low = u.0.0.low; high = u.0.0.high }
boxes_are a p q x u (suc (suc zero)) l d = record { low = u.1.0.0.low; high = u.1.0.0.high }
boxes_are a p q x u (suc (suc (suc i))) l d = absurd (omega arith)

next_values : (a p q : Number) → map (λ (f : Affine). value f (at (a ∷ p ∷ q ∷ []))) casting_system.next ≡ moved a p q ∷ []
unfolding value
next_values a p q = ap (λ z. z ∷ []) (next_is a p q)

exact_at : (tolerance a p q : Number) → AreIn (automaton_of casting).states (a ∷ []) → AreIn (automaton_of casting).inputs (p ∷ q ∷ []) → ExactAt (automaton_of casting) (Legal tolerance casting) casting_system (a ∷ []) (p ∷ q ∷ [])
exact_at tolerance a p q x u = record {
  solvable = λ w x' y t. (a ∷ p ∷ q ∷ [], record { solution = solution_is a p q u.0.1 u.1.0.1 (told tolerance a p q w x' y t).weighs; rest = []; begins = refl });
  steps = λ v f. (three a p q, moved a p q ∷ [], [], legal_three tolerance a p q x u (weighs_of a p q (subst (Solution casting_system) (from_is a p q v f) f.solution)));
  one = λ v v' f g. from_is a p q v f ∙ sym (from_is a p q v' g);
  one_step = λ w w' x' x'' y y' s t. refl;
  same = λ v w x' y f s. ([], from_is a p q v f);
  boxes = λ v f i l. subst (λ (z : List Number). HoldsAt (λ c. Within c.bounds (at z i)) casting_system.columns i) (sym (from_is a p q v f)) (boxes_are a p q x u i l);
  next = λ v w x' y f t. ap (λ (z : List Number). map (λ (f : Affine). value f (at z)) casting_system.next) (from_is a p q v f) ∙ next_values a p q ∙ sym (told tolerance a p q w x' y t).next;
  outputs = λ v w x' y f t. sym (told tolerance a p q w x' y t).outputs;
}

at_each : (tolerance : Number) (x u : List Number) → AreIn (automaton_of casting).states x → AreIn (automaton_of casting).inputs u → ExactAt (automaton_of casting) (Legal tolerance casting) casting_system x u
at_each tolerance [] u h k = absurd h
at_each tolerance (a ∷ c ∷ x) u h k = absurd h.1
at_each tolerance (a ∷ []) [] h k = absurd k
at_each tolerance (a ∷ []) (p ∷ []) h k = absurd k.1
at_each tolerance (a ∷ []) (p ∷ q ∷ c ∷ u) h k = absurd k.1.1
at_each tolerance (a ∷ []) (p ∷ q ∷ []) h k = exact_at tolerance a p q h k

pub box_of : (n : List ℕ) (low high low' high' : Number) → low ≡ low' → high ≡ high' → (rest : List Column) →
    record { name = n; role = State; kind = kind.Real; bounds = record { low = low; high = high } } ∷ rest ≡ record { name = n; role = State; kind = kind.Real; bounds = record { low = low'; high = high' } } ∷ rest
box_of n low high low' high' e f rest = ap₂ (λ l h. record { name = n; role = State; kind = kind.Real; bounds = record { low = l; high = h } } ∷ rest) e f

arranged : Arranged (automaton_of casting) casting_system
arranged = record {
  name = refl;
  outputs = refl;
  bool_columns = [];
  fresh_columns = [];
  real_columns = [];
  columns = box_of (codes "x") (whole 0) (whole 10) _ _ (sym zero_is) (sym ten_is) _;
  bools_are = refl;
  reals_are = refl;
  d = λ k c l. absurd (omega arith);
  z = λ k c l. absurd (omega arith);
  fresh_are = refl;
}

pub casting_exact : (tolerance : Number) → IsExactFor tolerance casting casting_system
casting_exact tolerance = record { arranged = arranged; at_each = at_each tolerance }
