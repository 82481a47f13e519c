-- The steps of the two guards.
use Rattle.std.proofs.Common.{◌≡◌, ℕ, List, [], ◌∷◌, codes, refl, sym, ◌∙◌, ap, cond, inl, inr}
use Rattle.std.specs.Str.{bytes_eq}
use Rattle.hys_number.specs.Number.{Number}
use Rattle.hys_number.specs.Ops.{◌≤ₙ◌, ◌<ₙ◌, whole}
use Rattle.hys_number.proofs.Field.{not-le}
use Rattle.hys_ast.specs.Tree.{Tree}
use Rattle.hys_meaning.specs.Values.{Assignment, literal, guard_number}
use Rattle.hys_meaning.specs.Steps.{Legal, GuardCase, GapOf}
use Rattle.hys_examples.specs.Sources.{guarded, always, guarded_by, tolerance, n_over}
use Rattle.hys_examples.specs.OneStep.{OneStep}
use Rattle.hys_examples.proofs.Numbers.{head_same, never, real_not_bool, in_low, in_high, edge, above, below, far_low, far_high, far, not_below, three_low, three_high, within}

unfoldable pub at_x : Number → Number → Assignment
at_x a b n = cond (bytes_eq n (codes "x")) a b

pub legal_by : (e : Tree) (a b : Number) → literal (codes "0") ≤ₙ a → a ≤ₙ literal (codes "10") → GuardCase (at_x a b) (codes "d") (guard_number (at_x a b) e) → ¬ (GapOf tolerance (guard_number (at_x a b) e)) →
    Legal tolerance (guarded_by e) (a ∷ []) [] (at_x a b) (a ∷ []) []
unfolding at_x
legal_by e a b l h c g = record {
  step = record {
    parameters = (λ t. never t, (λ t. never t, tt));
    states = refl;
    inputs = refl;
    cases = (c, (tt, tt));
    after = at_x a a;
    next = (tt, (refl, tt));
    end = refl;
    outputs = refl;
  };
  boxes = (λ t. (l, h, λ k. real_not_bool k), (λ t. never t, tt));
  demands = (tt, (tt, tt));
  no_gap = (g, (λ t. t, tt));
}

pub record Told (e : Tree) (a : Number) (w : Assignment) (x' y : List Number) : Type 0 where
  pub state : w (codes "x") ≡ a
  pub low : literal (codes "0") ≤ₙ a
  pub high : a ≤ₙ literal (codes "10")
  pub told : GuardCase w (codes "d") (guard_number w e)
  pub gap : ¬ (GapOf tolerance (guard_number w e))
  pub next : x' ≡ a ∷ []
  pub outputs : y ≡ []

pub told_by : (e : Tree) (a : Number) (w : Assignment) (x' y : List Number) → Legal tolerance (guarded_by e) (a ∷ []) [] w x' y → Told e a w x' y
told_by e a w x' y h =
    let x : w (codes "x") ≡ a = head_same h.step.states in
    let b = h.boxes.0 refl in
    record {
      state = x;
      low = rw (← x) b.0;
      high = rw (← x) b.1;
      told = h.step.cases.0;
      gap = h.no_gap.0;
      next = sym h.step.end ∙ ap (λ c. c ∷ []) (h.step.next.1.0 ∙ x);
      outputs = sym h.step.outputs;
    }

-- what the guard number decides
pub true_of : (w : Assignment) (n : List ℕ) (g : Number) → GuardCase w n g → g ≤ₙ whole 0 → w n ≡ whole 1
true_of w n g (inl c) h = c.1
true_of w n g (inr c) h = absurd ((not-le g (whole 0)).1 c.0 h)

pub false_of : (w : Assignment) (n : List ℕ) (g : Number) → GuardCase w n g → whole 0 <ₙ g → w n ≡ whole 0
false_of w n g (inl c) h = absurd ((not-le g (whole 0)).1 h c.0)
false_of w n g (inr c) h = c.1

pub at_edge : OneStep tolerance guarded (whole 5 ∷ []) [] (whole 1 ∷ []) (whole 5 ∷ []) []
unfolding at_x
at_edge = record {
  w = at_x (whole 5) (whole 1);
  legal = legal_by _ (whole 5) (whole 1) in_low in_high (inl (edge, refl)) (λ k. (not-le _ _).1 k.0 edge);
  auxiliary = refl;
  only = λ w x' y h. let t = told_by _ (whole 5) w x' y h in (ap (λ b. b ∷ []) (true_of w (codes "d") _ t.told (rw t.state edge)), t.next, t.outputs);
}

pub in_gap : (w : Assignment) (x' y : List Number) → ¬ (Legal tolerance guarded (n_over 9999 2000 ∷ []) [] w x' y)
in_gap w x' y h = let t = told_by _ (n_over 9999 2000) w x' y h in t.gap (rw t.state above, rw t.state below)

pub at_tolerance : OneStep tolerance guarded (n_over 4999 1000 ∷ []) [] (whole 0 ∷ []) (n_over 4999 1000 ∷ []) []
unfolding at_x
at_tolerance = record {
  w = at_x (n_over 4999 1000) (whole 0);
  legal = legal_by _ (n_over 4999 1000) (whole 0) far_low far_high (inr (far, refl)) (λ k. (not-le _ _).1 k.1 not_below);
  auxiliary = refl;
  only = λ w x' y h. let t = told_by _ (n_over 4999 1000) w x' y h in (ap (λ b. b ∷ []) (false_of w (codes "d") _ t.told (rw t.state far)), t.next, t.outputs);
}

pub always_at_three : OneStep tolerance always (whole 3 ∷ []) [] (whole 1 ∷ []) (whole 3 ∷ []) []
unfolding at_x
always_at_three = record {
  w = at_x (whole 3) (whole 1);
  legal = legal_by _ (whole 3) (whole 1) three_low three_high (inl (within (whole 3) three_high, refl)) (λ k. (not-le _ _).1 k.0 (within (whole 3) three_high));
  auxiliary = refl;
  only = λ w x' y h. let t = told_by _ (whole 3) w x' y h in (ap (λ b. b ∷ []) (true_of w (codes "d") _ t.told (rw t.state (within (whole 3) three_high))), t.next, t.outputs);
}

pub always_true : (a : Number) (w : Assignment) (x' y : List Number) → Legal tolerance always (a ∷ []) [] w x' y → w (codes "d") ≡ whole 1
always_true a w x' y h = let t = told_by _ a w x' y h in true_of w (codes "d") _ t.told (rw t.state (within a t.high))
