-- Steps by x = x + u.
use Rattle.std.proofs.Common.{◌≡◌, List, [], ◌∷◌, codes, refl, sym, ◌∙◌, ap, arith, cond, inl, inr}
use Rattle.std.specs.Str.{bytes_eq}
use Rattle.hys_number.specs.Number.{Number}
use Rattle.hys_number.specs.Ops.{◌+ₙ◌, neg, ◌≤ₙ◌, whole}
use Rattle.hys_number.proofs.Field.{not-le}
use Rattle.hys_ast.specs.Tree.{Item}
use Rattle.hys_meaning.specs.Values.{Assignment, literal}
use Rattle.hys_meaning.specs.Steps.{Legal, Run, stepped, ended}
use Rattle.hys_meaning.specs.Accepted.{Accepted}
use Rattle.hys_examples.specs.Sources.{summing, summed, demanding, tolerance}
use Rattle.hys_examples.specs.OneStep.{OneStep}
use Rattle.hys_examples.proofs.Numbers.{head_same, never, real_not_bool, zero_ten, low_of, four_high, ten_high, in_high, eleven_high, one_low, one_high, sum_of, four_five, five_five, five_six, ends}
use Rattle.hys_examples.proofs.Ruled.{not_circular}

at_x : Number → Number → Assignment
at_x a b n = cond (bytes_eq n (codes "x")) a b

legal_sum : (a b c : Number) → literal (codes "0") ≤ₙ a → a ≤ₙ literal (codes "10") → neg (literal (codes "1")) ≤ₙ b → b ≤ₙ literal (codes "1") → c ≡ a +ₙ b →
    Legal tolerance summed (a ∷ []) (b ∷ []) (at_x a b) (c ∷ []) []
unfolding at_x
legal_sum a b c l h l' h' e = record {
  step = record {
    parameters = (λ t. never t, (λ t. never t, tt));
    states = refl;
    inputs = refl;
    cases = (tt, tt);
    after = at_x c c;
    next = (e, tt);
    end = refl;
    outputs = refl;
  };
  boxes = (λ t. (l, h, λ k. real_not_bool k), (λ t. (l', h', λ k. real_not_bool k), tt));
  demands = (tt, tt);
  no_gap = (λ t. t, tt);
}

legal_demand : (a b c : Number) → literal (codes "0") ≤ₙ a → a ≤ₙ literal (codes "10") → neg (literal (codes "1")) ≤ₙ b → b ≤ₙ literal (codes "1") → c ≡ a +ₙ b → a ≤ₙ literal (codes "5") →
    Legal tolerance demanding (a ∷ []) (b ∷ []) (at_x a b) (c ∷ []) []
unfolding at_x
legal_demand a b c l h l' h' e d = record {
  step = record {
    parameters = (λ t. never t, (λ t. never t, tt));
    states = refl;
    inputs = refl;
    cases = (tt, (tt, tt));
    after = at_x c c;
    next = (e, (tt, tt));
    end = refl;
    outputs = refl;
  };
  boxes = (λ t. (l, h, λ k. real_not_bool k), (λ t. (l', h', λ k. real_not_bool k), tt));
  demands = (tt, (d, tt));
  no_gap = (λ t. t, (λ t. t, tt));
}

-- what a step of either source tells
record Told (a b : Number) (v : Assignment) (z q : List Number) : Type 0 where
  high : a ≤ₙ literal (codes "10")
  next : z ≡ (a +ₙ b) ∷ []
  outputs : q ≡ []

told_sum : (more : List Item) (a b : Number) (v : Assignment) (z q : List Number) → Legal tolerance (summing more) (a ∷ []) (b ∷ []) v z q → Told a b v z q
told_sum more a b v z q h =
    let x : v (codes "x") ≡ a = head_same h.step.states in
    let u : v (codes "u") ≡ b = head_same h.step.inputs in
    let box = h.boxes.0 refl in
    let next = h.step.next.0 in
    record { high = rw (← x) box.1; next = sym h.step.end ∙ ap (λ d. d ∷ []) (rw (← x, ← u) next); outputs = sym h.step.outputs }

one_sum : (more : List Item) (a b : Number) (w : Assignment) → Legal tolerance (summing more) (a ∷ []) (b ∷ []) w ((a +ₙ b) ∷ []) [] →
    OneStep tolerance (summing more) (a ∷ []) (b ∷ []) [] ((a +ₙ b) ∷ []) []
one_sum more a b w h = record { w = w; legal = h; auxiliary = refl; only = λ v z q k. let t = told_sum more a b v z q k in (refl, t.next, t.outputs) }

pub leaves : OneStep tolerance summed (whole 10 ∷ []) (whole 1 ∷ []) [] (whole 11 ∷ []) []
leaves = rw (sum_of 10 1) (one_sum [] (whole 10) (whole 1) _ (legal_sum (whole 10) (whole 1) _ (low_of 10) ten_high one_low one_high refl))

pub outside : (w : Assignment) (z q : List Number) → ¬ (Legal tolerance summed (whole 11 ∷ []) (whole 0 ∷ []) w z q)
outside w z q h = (not-le _ _).1 eleven_high (told_sum [] (whole 11) (whole 0) w z q h).high

first_legal : Legal tolerance demanding (whole 4 ∷ []) (whole 1 ∷ []) (at_x (whole 4) (whole 1)) ((whole 4 +ₙ whole 1) ∷ []) []
first_legal = legal_demand (whole 4) (whole 1) _ (low_of 4) four_high one_low one_high refl four_five

second_legal : Legal tolerance demanding (whole 5 ∷ []) (whole 1 ∷ []) (at_x (whole 5) (whole 1)) ((whole 5 +ₙ whole 1) ∷ []) []
second_legal = legal_demand (whole 5) (whole 1) _ (low_of 5) in_high one_low one_high refl five_five

pub first : OneStep tolerance demanding (whole 4 ∷ []) (whole 1 ∷ []) [] (whole 5 ∷ []) []
first = rw (sum_of 4 1) (one_sum _ (whole 4) (whole 1) _ first_legal)

pub second : OneStep tolerance demanding (whole 5 ∷ []) (whole 1 ∷ []) [] (whole 6 ∷ []) []
second = rw (sum_of 5 1) (one_sum _ (whole 5) (whole 1) _ second_legal)

pub broken : (w : Assignment) (z q : List Number) → ¬ (Legal tolerance demanding (whole 6 ∷ []) (whole 1 ∷ []) w z q)
broken w z q h = let d = h.demands.1.0 in let x : w (codes "x") ≡ whole 6 = head_same h.step.states in (not-le _ _).1 five_six (rw (← x) d)

first_step : Legal tolerance demanding (whole 4 ∷ []) (whole 1 ∷ []) (at_x (whole 4) (whole 1)) (whole 5 ∷ []) []
first_step = rw (sum_of 4 1) first_legal

second_step : Legal tolerance demanding (whole 5 ∷ []) (whole 1 ∷ []) (at_x (whole 5) (whole 1)) (whole 6 ∷ []) []
second_step = rw (sum_of 5 1) second_legal

pub run : (steps : List (Assignment × List Number)) × Run tolerance demanding (whole 4 ∷ []) ((whole 1 ∷ []) ∷ (whole 1 ∷ []) ∷ []) steps (whole 6 ∷ [])
run = ((at_x (whole 4) (whole 1), []) ∷ (at_x (whole 5) (whole 1), []) ∷ [], stepped first_step (stepped second_step ended))

pub summed_accepted : Accepted summed
summed_accepted = record {
  rules = record {
    declared = refl;
    values = (λ t. t, (λ t. t, tt));
    typed = record { values = (tt, (tt, tt)); boxes = ((tt, tt), (((refl, tt), tt), tt)); items = ((refl, (refl, refl, tt)), tt) };
    bounded = (λ t. zero_ten, (λ t. ends, tt));
    defined = (λ t. refl, (λ t. never t, tt));
    orders = not_circular summed (λ n m h k. elim k [ inl p ↦ p.1 | inr q ↦ q ]);
  };
  limits = record { names = omega arith; expression = (omega arith, (omega arith, (omega arith, (omega arith, (omega arith, tt))))); nodes = omega arith };
}

pub demanding_accepted : Accepted demanding
demanding_accepted = record {
  rules = record {
    declared = refl;
    values = (λ t. t, (λ t. t, tt));
    typed = record { values = (tt, (tt, tt)); boxes = ((tt, tt), (((refl, tt), tt), tt)); items = ((refl, (refl, refl, tt)), ((refl, inr (refl, refl, tt)), tt)) };
    bounded = (λ t. zero_ten, (λ t. ends, tt));
    defined = (λ t. refl, (λ t. never t, tt));
    orders = not_circular demanding (λ n m h k. elim k [ inl p ↦ p.1 | inr q ↦ elim q [ inl p ↦ p.1 | inr r ↦ r ] ]);
  };
  limits = record { names = omega arith; expression = (omega arith, (omega arith, (omega arith, (omega arith, (omega arith, (omega arith, tt)))))); nodes = omega arith };
}
