-- The system of the guard d = x >= 5 is exact for its source.
use Rattle.std.proofs.Common.{◌≡◌, ℕ, zero, suc, ◌<◌, ◌↔◌, List, [], ◌∷◌, codes, pos, length, map, HoldsAt, refl, sym, ◌∙◌, ap, subst, arith, ◌⊎◌, inl, inr, true, false}
use Rattle.std.proofs.lemmas.List.Elements.{All-nil, All-cons}
use Rattle.hys_number.specs.Number.{Number, make}
use Rattle.hys_number.specs.Ops.{◌+ₙ◌, ◌-ₙ◌, ◌*ₙ◌, neg, ◌≤ₙ◌, ◌<ₙ◌, whole}
use Rattle.hys_number.proofs.Field.{parts, parts_of, add_zero, mul_comm, mul_one, not-le}
use Rattle.hys_lin.specs.Sums.{at, value, Holds, Within}
use Rattle.hys_lin.specs.declared.form.Affine.{Affine}
use Rattle.hys_lin.specs.Bits.{IsBit}
use Rattle.hys_meaning.specs.Values.{Assignment, literal}
use Rattle.hys_meaning.specs.Steps.{Legal, GuardCase, GapOf}
use Rattle.hys_sys.specs.declared.system.ColumnRole.TheVariants.{D}
use Rattle.hys_sys.specs.declared.system.Column.{Column}
use Rattle.hys_sys.specs.Solution.{Solution, IsOfKind}
use Rattle.hys_sys.specs.Exact.{AreIn, From, Arranged, ExactAt}
use Rattle.hys_compile.specs.Automaton.{automaton_of, IsExactFor}
use Rattle.hys_examples.specs.Sources.{guarded, tolerance}
use Rattle.hys_examples.specs.Systems.{bool_column, guarded_system}
use Rattle.hys_examples.proofs.Numbers.{literal-0, literal-5, literal-10, whole-is, over-is, decides, bit_low, bit_high, zero_is, ten_is}
use Rattle.hys_examples.proofs.Guarded.{at_x, legal_by, told_by}
use Rattle.hys_examples.proofs.Weighed.{box_of}

-- ---- the rows
-- the sums of the two rows
abbrev lower : Number → Number → Number
lower a d = neg (whole 1) *ₙ a +ₙ (whole 5 *ₙ d +ₙ whole 0)

abbrev upper : Number → Number → Number
upper a d = whole 1 *ₙ a +ₙ (neg (make (pos 5001) 1000) *ₙ d +ₙ whole 0)

abbrev Rows : Number → Number → Type 0
Rows a d = (lower a d ≤ₙ whole 0) × (upper a d ≤ₙ make (pos 4999) 1000)

-- the guard number
abbrev guard : Number → Number
guard a = literal (codes "5") -ₙ a

rows_on : (a : Number) → a ≤ₙ literal (codes "10") → Rows a (whole 1) ↔ (guard a ≤ₙ whole 0)
rows_on a = elim (parts_of a) [ parts p n d h e ↦ rw (e, literal-5, literal-10, whole-is 1, whole-is 5, whole-is 0, over-is 5001 1000 (omega arith), over-is 4999 1000 (omega arith)) (simp decides (omega arith)) ]

rows_off : (a : Number) → literal (codes "0") ≤ₙ a → Rows a (whole 0) ↔ (tolerance ≤ₙ guard a)
rows_off a = elim (parts_of a) [ parts p n d h e ↦ rw (e, literal-5, literal-0, whole-is 1, whole-is 5, whole-is 0, over-is 5001 1000 (omega arith), over-is 4999 1000 (omega arith), over-is 1 1000 (omega arith)) (simp decides (omega arith)) ]

-- a guard number that is at least the tolerance is above 0
far_above : (g : Number) → tolerance ≤ₙ g → whole 0 <ₙ g
far_above g = elim (parts_of g) [ parts p n d h e ↦ rw (e, whole-is 0, over-is 1 1000 (omega arith)) (simp decides (omega arith)) ]

not_below : (t g : Number) → ¬ (g <ₙ t) → t ≤ₙ g
not_below t g = elim (parts_of t) [ parts p n d h e ↦ elim (parts_of g) [ parts p' n' d' h' e' ↦ rw (e, e') (simp decides (omega arith)) ] ]

-- what a truth value with which the rows hold says of the guard number, and the other way round
Decided : Number → Number → Type 0
Decided a d = ((guard a ≤ₙ whole 0) × (d ≡ whole 1)) ⊎ ((tolerance ≤ₙ guard a) × (d ≡ whole 0))

decided : (a d : Number) → literal (codes "0") ≤ₙ a → a ≤ₙ literal (codes "10") → IsBit d → Rows a d → Decided a d
unfolding Decided
decided a d l h (inl e) r = inr ((rows_off a l).0 (subst (Rows a) e r), e)
decided a d l h (inr e) r = inl ((rows_on a h).0 (subst (Rows a) e r), e)

rows_of : (a d : Number) → literal (codes "0") ≤ₙ a → a ≤ₙ literal (codes "10") → Decided a d → Rows a d
unfolding Decided
rows_of a d l h (inl c) = subst (Rows a) (sym c.1) ((rows_on a h).1 c.0)
rows_of a d l h (inr c) = subst (Rows a) (sym c.1) ((rows_off a l).1 c.0)

bit_of : (a d : Number) → Decided a d → IsBit d
unfolding Decided
bit_of a d (inl c) = inr c.1
bit_of a d (inr c) = inl c.1

not_both : (a : Number) → guard a ≤ₙ whole 0 → tolerance ≤ₙ guard a → ⊥
not_both a h k = (not-le _ _).1 (far_above (guard a) k) h

same_truth : (a d d' : Number) → Decided a d → Decided a d' → d ≡ d'
unfolding Decided
same_truth a d d' (inl c) (inl e) = c.1 ∙ sym e.1
same_truth a d d' (inl c) (inr e) = absurd (not_both a c.0 e.0)
same_truth a d d' (inr c) (inl e) = absurd (not_both a e.0 c.0)
same_truth a d d' (inr c) (inr e) = c.1 ∙ sym e.1

-- ---- steps
case_of : (a d : Number) (w : Assignment) → w (codes "d") ≡ d → Decided a d → GuardCase w (codes "d") (guard a)
unfolding Decided
case_of a d w e (inl c) = inl (c.0, e ∙ c.1)
case_of a d w e (inr c) = inr (far_above (guard a) c.0, e ∙ c.1)

no_gap : (a d : Number) → Decided a d → ¬ (GapOf tolerance (guard a))
unfolding Decided
no_gap a d (inl c) k = (not-le _ _).1 k.0 c.0
no_gap a d (inr c) k = (not-le _ _).1 k.1 c.0

decided_by : (a : Number) (w : Assignment) → GuardCase w (codes "d") (guard a) → ¬ (GapOf tolerance (guard a)) → Decided a (w (codes "d"))
unfolding Decided
decided_by a w (inl c) k = inl c
decided_by a w (inr c) k = inr (not_below tolerance (guard a) (λ l. k (c.0, l)), c.1)

legal_at : (a d : Number) → literal (codes "0") ≤ₙ a → a ≤ₙ literal (codes "10") → Decided a d → Legal tolerance guarded (a ∷ []) [] (at_x a d) (a ∷ []) []
unfolding at_x
legal_at a d l h c = legal_by _ a d l h (case_of a d (at_x a d) refl c) (no_gap a d c)

-- what every step says
step_says : (a : Number) (w : Assignment) (x' y : List Number) → Legal tolerance guarded (a ∷ []) [] w x' y → Decided a (w (codes "d")) × (x' ≡ a ∷ []) × (y ≡ [])
step_says a w x' y k =
    let t = told_by _ a w x' y k in
    let case = t.told in
    let gap = t.gap in
    (decided_by a w (rw t.state at case) (rw t.state at gap), t.next, t.outputs)

-- ---- solutions
-- v is x and a truth value
record Pair (a : Number) (v : List Number) : Type 0 where
  truth : Number
  is : v ≡ a ∷ truth ∷ []

pair_of : (a : Number) (v : List Number) → From guarded_system (a ∷ []) [] v → Pair a v
pair_of a v f = go f.rest f.begins
  where
    go : (rest : List Number) → v ≡ a ∷ rest → Pair a v
    go [] e = absurd (let m : length v ≡ 2 = f.solution.long in let n : length v ≡ 1 = ap length e in omega arith)
    go (d ∷ []) e = record { truth = d; is = e }
    go (d ∷ c ∷ rest) e = absurd (let m : length v ≡ 2 = f.solution.long in let n : length v ≡ suc (suc (suc (length rest))) = ap length e in omega arith)

kinds_are : (a d : Number) → IsBit d → (i : ℕ) → i < 2 → HoldsAt (λ c. IsOfKind c.kind (at (a ∷ d ∷ []) i)) guarded_system.columns i
kinds_are a d b zero l c = tt
kinds_are a d b (suc zero) l c = b
kinds_are a d b (suc (suc i)) l c = absurd (omega arith)

solution_is : (a d : Number) → IsBit d → Rows a d → Solution guarded_system (a ∷ d ∷ [])
unfolding Holds
solution_is a d b r = record { long = refl; rows = (r.0, (r.1, tt)); kinds = kinds_are a d b }

solution_says : (a d : Number) → literal (codes "0") ≤ₙ a → a ≤ₙ literal (codes "10") → Solution guarded_system (a ∷ d ∷ []) → Decided a d
unfolding Holds
solution_says a d l h s = decided a d l h (s.kinds 1 (omega arith) (bool_column (codes "d") D)) (s.rows.0, s.rows.1.0)

bit_within : (d : Number) → IsBit d → Within (bool_column (codes "d") D).bounds d
bit_within d (inl e) = record { low = subst (λ z. whole 0 ≤ₙ z) (sym e) (bit_low false); high = subst (λ z. z ≤ₙ whole 1) (sym e) (bit_high false) }
bit_within d (inr e) = record { low = subst (λ z. whole 0 ≤ₙ z) (sym e) (bit_low true); high = subst (λ z. z ≤ₙ whole 1) (sym e) (bit_high true) }

boxes_are : (a d : Number) → literal (codes "0") ≤ₙ a → a ≤ₙ literal (codes "10") → IsBit d → (i : ℕ) → i < 2 → HoldsAt (λ c. Within c.bounds (at (a ∷ d ∷ []) i)) guarded_system.columns i
boxes_are a d l h b zero k c = record { low = rw (← zero_is) l; high = rw (← ten_is) h }
boxes_are a d l h b (suc zero) k c = bit_within d b
boxes_are a d l h b (suc (suc i)) k c = absurd (omega arith)

next_is : (a : Number) → whole 1 *ₙ a +ₙ whole 0 +ₙ whole 0 ≡ a
next_is a = add_zero _ ∙ add_zero _ ∙ mul_comm (whole 1) a ∙ mul_one a

next_values : (a d : Number) → map (λ (f : Affine). value f (at (a ∷ d ∷ []))) guarded_system.next ≡ a ∷ []
unfolding value
next_values a d = ap (λ z. z ∷ []) (next_is a)

module _ (a : Number) (l : literal (codes "0") ≤ₙ a) (h : a ≤ₙ literal (codes "10")) where
  says : (v : List Number) (f : From guarded_system (a ∷ []) [] v) → Decided a (pair_of a v f).truth
  says v f = solution_says a (pair_of a v f).truth l h (subst (Solution guarded_system) (pair_of a v f).is f.solution)

  exact_at : ExactAt (automaton_of guarded) (Legal tolerance guarded) guarded_system (a ∷ []) []
  exact_at = record {
    solvable = λ w x' y t. let c = (step_says a w x' y t).0 in (a ∷ w (codes "d") ∷ [], record { solution = solution_is a (w (codes "d")) (bit_of a _ c) (rows_of a _ l h c); rest = w (codes "d") ∷ []; begins = refl });
    steps = λ v f. (at_x a (pair_of a v f).truth, a ∷ [], [], legal_at a (pair_of a v f).truth l h (says v f));
    one = λ v v' f g. (pair_of a v f).is ∙ ap (λ d. a ∷ d ∷ []) (same_truth a _ _ (says v f) (says v' g)) ∙ sym (pair_of a v' g).is;
    one_step = λ w w' x' x'' y y' s t. ap (λ d. d ∷ []) (same_truth a _ _ (step_says a w x' y s).0 (step_says a w' x'' y' t).0);
    same = λ v w x' y f s. ([], (pair_of a v f).is ∙ ap (λ d. a ∷ d ∷ []) (same_truth a _ _ (says v f) (step_says a w x' y s).0));
    boxes = λ v f i k. subst (λ (z : List Number). HoldsAt (λ c. Within c.bounds (at z i)) guarded_system.columns i) (sym (pair_of a v f).is) (boxes_are a _ l h (bit_of a _ (says v f)) i k);
    next = λ v w x' y f t. ap (λ (z : List Number). map (λ (f : Affine). value f (at z)) guarded_system.next) (pair_of a v f).is ∙ next_values a _ ∙ sym (step_says a w x' y t).1;
    outputs = λ v w x' y f t. sym (step_says a w x' y t).2;
  }

at_each : (x u : List Number) → AreIn (automaton_of guarded).states x → AreIn (automaton_of guarded).inputs u → ExactAt (automaton_of guarded) (Legal tolerance guarded) guarded_system x u
at_each [] u h k = absurd h
at_each (a ∷ c ∷ x) u h k = absurd h.1
at_each (a ∷ []) (c ∷ u) h k = absurd k
at_each (a ∷ []) [] h k = exact_at a h.0.0.low h.0.0.high

arranged : Arranged (automaton_of guarded) guarded_system
arranged = record {
  name = refl;
  outputs = refl;
  bool_columns = bool_column (codes "d") D ∷ [];
  fresh_columns = [];
  real_columns = [];
  columns = box_of (codes "x") (whole 0) (whole 10) _ _ (sym zero_is) (sym ten_is) _;
  bools_are = refl;
  reals_are = refl;
  d = All-cons (λ (c : Column). c.role ≡ D) (bool_column (codes "d") D) [] refl (All-nil (λ (c : Column). c.role ≡ D));
  z = λ k c l. absurd (omega arith);
  fresh_are = refl;
}

pub guarded_exact : IsExactFor tolerance guarded guarded_system
guarded_exact = record { arranged = arranged; at_each = at_each }
