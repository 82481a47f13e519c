-- The steps of a guard with a tolerance of its own, and of one without a name.
use Rattle.std.proofs.Common.{◌≡◌, ◌<◌, ℕ, List, [], ◌∷◌, codes, refl, sym, ◌∙◌, ap, ap₂, subst, arith, cond, inl, inr, true, pos, ◌&&◌, ◌+◌, ◌^◌, map}
use Rattle.std.specs.Str.{bytes_eq}
use Rattle.std.proofs.lemmas.Fmt.{decimal-digits_of}
use Rattle.std.specs.Int.Digits.{digits_of}
use Rattle.std.specs.Float.Numeral.{scan_numeral}
use Rattle.hys_number.specs.Number.{Number, make}
use Rattle.hys_number.specs.Gcd.{gcd}
use Rattle.hys_number.specs.Ops.{◌+ₙ◌, ◌-ₙ◌, ◌*ₙ◌, ◌/ₙ◌, neg, inverse, ◌≤ₙ◌, ◌<ₙ◌, whole}
use Rattle.hys_number.proofs.Field.{not-le}
use Rattle.hys_lin.specs.Bits.{bit, is_one}
use Rattle.hys_meaning.specs.Values.{Assignment, literal}
use Rattle.hys_meaning.specs.Steps.{Legal, Stuck, GuardCase, GapOf}
use Rattle.hys_meaning.specs.Unfolded.{unfolded, guard_name}
use Rattle.hys_meaning.specs.Circular.{Circular, Leads}
use Rattle.hys_examples.specs.Sources.{tolerance, n_over}
use Rattle.hys_examples.specs.Last.{own, inner, inner_by, with_all, everywhere, everywhere_by, through_guard, through_by, LastForm}
use Rattle.hys_examples.specs.OneStep.{OneStep}
use Rattle.hys_examples.proofs.Numbers.{head_same, never, real_not_bool, decides, literal-0, literal-4, literal-5, literal-10, whole-is, over-is, in_low, in_high, edge, four_high, low_of, bit_low, bit_high, bit_is}
use Rattle.hys_examples.proofs.Guarded.{at_x, true_of, false_of}

-- ---- numbers
half_is : literal (codes "1") /ₙ literal (codes "2") ≡ make (pos 1) 2
unfolding literal scan_numeral ◌*ₙ◌ inverse make gcd
half_is = refl

positive-4 : 0 < 4
positive-4 = omega arith

gap_above : whole 0 <ₙ literal (codes "5") -ₙ make (pos 19) 4
gap_above = rw (literal-5, whole-is 0, over-is 19 4 (omega arith)) (simp (decides, positive-4) (omega arith))

gap_below : literal (codes "5") -ₙ make (pos 19) 4 <ₙ make (pos 1) 2
gap_below = rw (literal-5, over-is 19 4 (omega arith), over-is 1 2 (omega arith)) (simp (decides, positive-4) (omega arith))

far_low : literal (codes "0") ≤ₙ make (pos 9) 2
far_low = rw (literal-0, over-is 9 2 (omega arith)) (simp decides (omega arith))

far_high : make (pos 9) 2 ≤ₙ literal (codes "10")
far_high = rw (literal-10, over-is 9 2 (omega arith)) (simp decides (omega arith))

far : whole 0 <ₙ literal (codes "5") -ₙ make (pos 9) 2
far = rw (literal-5, whole-is 0, over-is 9 2 (omega arith)) (simp decides (omega arith))

far_enough : make (pos 1) 2 ≤ₙ literal (codes "5") -ₙ make (pos 9) 2
far_enough = rw (literal-5, over-is 1 2 (omega arith), over-is 9 2 (omega arith)) (simp decides (omega arith))

four_edge : whole 4 -ₙ literal (codes "4") ≤ₙ whole 0
four_edge = rw (literal-4, whole-is 4, whole-is 0) (simp decides (omega arith))

over_four : whole 0 <ₙ make (pos 8001) 2000 -ₙ literal (codes "4")
over_four = rw (literal-4, whole-is 0, over-is 8001 2000 (omega arith)) (simp decides (omega arith))

little_over : make (pos 8001) 2000 -ₙ literal (codes "4") <ₙ make (pos 1) 1000
little_over = rw (literal-4, over-is 8001 2000 (omega arith), over-is 1 1000 (omega arith)) (simp decides (omega arith))

-- ---- the guard x >= 5 with the tolerance 1/2
abbrev g : Number → Number
g a = literal (codes "5") -ₙ a

abbrev tolerated : Number
tolerated = literal (codes "1") /ₙ literal (codes "2")

legal_own : (a b : Number) → literal (codes "0") ≤ₙ a → a ≤ₙ literal (codes "10") → GuardCase (at_x a b) (codes "d") (g a) → ¬ (GapOf tolerated (g a)) →
    Legal tolerance (unfolded own) (a ∷ []) [] (at_x a b) (a ∷ []) []
unfolding at_x
legal_own a b l h c k = record {
  step = record {
    parameters = (λ t. never t, (λ t. never t, tt));
    states = refl;
    inputs = refl;
    cases = (c, (tt, tt));
    after = at_x a a;
    next = (tt, (refl, tt));
    end = refl;
    outputs = refl;
  };
  boxes = (λ t. (l, h, λ q. real_not_bool q), (λ t. never t, tt));
  demands = (tt, (tt, tt));
  no_gap = (k, (λ t. t, tt));
}

record Told (a : Number) (w : Assignment) (x' y : List Number) : Type 0 where
  told : GuardCase w (codes "d") (g a)
  gap : ¬ (GapOf tolerated (g a))
  next : x' ≡ a ∷ []
  outputs : y ≡ []

told_own : (a : Number) (w : Assignment) (x' y : List Number) → Legal tolerance (unfolded own) (a ∷ []) [] w x' y → Told a w x' y
told_own a w x' y h =
    let x : w (codes "x") ≡ a = head_same h.step.states in
    let c : GuardCase w (codes "d") (g (w (codes "x"))) = h.step.cases.0 in
    let k : ¬ (GapOf tolerated (g (w (codes "x")))) = h.no_gap.0 in
    record {
      told = rw x at c;
      gap = rw x at k;
      next = sym h.step.end ∙ ap (λ z. z ∷ []) (h.step.next.1.0 ∙ x);
      outputs = sym h.step.outputs;
    }

pub own_edge : OneStep tolerance (unfolded own) (whole 5 ∷ []) [] (whole 1 ∷ []) (whole 5 ∷ []) []
unfolding at_x
own_edge = record {
  w = at_x (whole 5) (whole 1);
  legal = legal_own (whole 5) (whole 1) in_low in_high (inl (edge, refl)) (λ k. (not-le _ _).1 k.0 edge);
  auxiliary = refl;
  only = λ w x' y h. let t = told_own (whole 5) w x' y h in (ap (λ b. b ∷ []) (true_of w (codes "d") _ t.told edge), t.next, t.outputs);
}

pub own_gap : Stuck tolerance (unfolded own) (n_over 19 4 ∷ []) []
own_gap w x' y h = let t = told_own (n_over 19 4) w x' y h in t.gap (gap_above, rw half_is gap_below)

pub own_far : OneStep tolerance (unfolded own) (n_over 9 2 ∷ []) [] (whole 0 ∷ []) (n_over 9 2 ∷ []) []
unfolding at_x
own_far = record {
  w = at_x (n_over 9 2) (whole 0);
  legal = legal_own (n_over 9 2) (whole 0) far_low far_high (inr (far, refl)) (λ k. (not-le _ _).1 k.1 (rw half_is far_enough));
  auxiliary = refl;
  only = λ w x' y h. let t = told_own (n_over 9 2) w x' y h in (ap (λ b. b ∷ []) (false_of w (codes "d") _ t.told far), t.next, t.outputs);
}

-- ---- the guard x <= 4 within a formula
abbrev numbers : Number → Number → Number → Number → Assignment
numbers x a d k n = cond (bytes_eq n (codes "x")) x (cond (bytes_eq n (codes "a")) a (cond (bytes_eq n (codes "d")) d k))

one_is : is_one (whole 1) ≡ true
unfolding is_one whole make gcd
one_is = refl

named_edge : OneStep tolerance (inner_by (codes "@1")) (whole 4 ∷ []) (whole 1 ∷ []) (whole 1 ∷ whole 1 ∷ []) (whole 4 ∷ []) []
named_edge = record {
  w = numbers (whole 4) (whole 1) (whole 1) (whole 1);
  legal = record {
    step = record {
      parameters = (λ t. never t, (λ t. never t, (λ t. never t, (λ t. never t, tt))));
      states = refl;
      inputs = refl;
      cases = (inl (four_edge, refl), (rw one_is refl, (tt, tt)));
      after = λ n. whole 4;
      next = (tt, (tt, (refl, tt)));
      end = refl;
      outputs = refl;
    };
    boxes = (λ t. (low_of 4, four_high, λ q. real_not_bool q), (λ t. (bit_low true, bit_high true, λ q. bit_is true), (λ t. never t, (λ t. never t, tt))));
    demands = (tt, (tt, (tt, tt)));
    no_gap = (λ k. (not-le _ _).1 k.0 four_edge, (λ t. t, (λ t. t, tt)));
  };
  auxiliary = refl;
  only = λ w x' y h.
      let ex : w (codes "x") ≡ whole 4 = head_same h.step.states in
      let ea : w (codes "a") ≡ whole 1 = head_same h.step.inputs in
      let c : GuardCase w (codes "@1") (w (codes "x") -ₙ literal (codes "4")) = h.step.cases.0 in
      let k : w (codes "@1") ≡ whole 1 = true_of w (codes "@1") _ (rw ex at c) four_edge in
      let e : w (codes "d") ≡ bit (is_one (w (codes "a")) && is_one (w (codes "@1"))) = h.step.cases.1.0 in
      let d : w (codes "d") ≡ whole 1 = rw (ea, k, one_is) at e in
      (ap₂ (λ p q. p ∷ q ∷ []) d k, sym h.step.end ∙ ap (λ z. z ∷ []) (h.step.next.1.1.0 ∙ ex), sym h.step.outputs);
}

named_gap : Stuck tolerance (inner_by (codes "@1")) (n_over 8001 2000 ∷ []) (whole 1 ∷ [])
named_gap w x' y h =
    let ex : w (codes "x") ≡ n_over 8001 2000 = head_same h.step.states in
    let k : ¬ (GapOf tolerance (w (codes "x") -ₙ literal (codes "4"))) = h.no_gap.0 in
    (rw ex at k) (over_four, little_over)

-- ---- the texts of the names
text_of : (k : ℕ) → 0 < k → k < 2 ^ 64 → guard_name k ≡ 64 ∷ map (λ d. 48 + d) (digits_of 10 k)
text_of k h l = ap (λ ds. 64 ∷ ds) (decimal-digits_of k h l)

first : guard_name 1 ≡ codes "@1"
first = text_of 1 (omega arith) (omega arith)

second : guard_name 2 ≡ codes "@2"
second = text_of 2 (omega arith) (omega arith)

third : guard_name 3 ≡ codes "@3"
third = text_of 3 (omega arith) (omega arith)

fourth : guard_name 4 ≡ codes "@4"
fourth = text_of 4 (omega arith) (omega arith)

inner_named : unfolded inner ≡ inner_by (codes "@1")
inner_named = ap inner_by first

all_named : (unfolded (with_all everywhere)).items ≡ everywhere_by (codes "@1") (codes "@2") (codes "@3") (codes "@4")
all_named =
    ap₂ (λ a b. everywhere_by a b (guard_name 3) (guard_name 4)) first second
    ∙ ap₂ (λ c d. everywhere_by (codes "@1") (codes "@2") c d) third fourth

pub inner_edge : OneStep tolerance (unfolded inner) (whole 4 ∷ []) (whole 1 ∷ []) (whole 1 ∷ whole 1 ∷ []) (whole 4 ∷ []) []
inner_edge = subst (λ s. OneStep tolerance s (whole 4 ∷ []) (whole 1 ∷ []) (whole 1 ∷ whole 1 ∷ []) (whole 4 ∷ []) []) (sym inner_named) named_edge

pub inner_gap : Stuck tolerance (unfolded inner) (n_over 8001 2000 ∷ []) (whole 1 ∷ [])
inner_gap = subst (λ s. Stuck tolerance s (n_over 8001 2000 ∷ []) (whole 1 ∷ [])) (sym inner_named) named_gap

-- ---- names, weights, tolerances, circles
half_positive : whole 0 <ₙ tolerated
half_positive = rw (half_is, whole-is 0, over-is 1 2 (omega arith)) (simp decides (omega arith))

not_zero : ¬ (literal (codes "2") ≡ whole 0)
unfolding literal scan_numeral whole make gcd
not_zero e = let f = ap (λ (x : Number). x.num) e in absurd (cc)

zero_not_positive : ¬ (whole 0 <ₙ literal (codes "0"))
zero_not_positive h = (not-le _ _).1 h (rw (literal-0, whole-is 0) (simp decides (omega arith)))

not_nothing : ¬ (whole 1 -ₙ whole 0 ≡ whole 0)
unfolding ◌+ₙ◌ neg whole make gcd
not_nothing e = let f = ap (λ (x : Number). x.num) e in absurd (cc)

not_one : ¬ (whole 1 ≡ whole 0)
unfolding whole make gcd
not_one e = let f = ap (λ (x : Number). x.num) e in absurd (cc)

circle : Circular (through_by (codes "@1")) (codes "d" ∷ codes "@1" ∷ codes "z" ∷ [])
circle = ((refl, (refl, (refl, tt))), refl, (inr (inl (refl, refl)), (inl (refl, not_nothing), inr (inr (inl (refl, not_one))))))

through_named : unfolded through_guard ≡ through_by (codes "@1")
through_named = ap through_by first

no_mention : ¬ (Leads (through_by (codes "@1")) (codes "d") (codes "z"))
no_mention k = elim k [ inl p ↦ never p.0 | inr q ↦ elim q [ inl p ↦ never p.1 | inr r ↦ elim r [ inl p ↦ never p.0 | inr s ↦ s ] ] ]

pub last_form : LastForm
last_form = record {
  inner_named = inner_named;
  inner_weight = refl;
  all_named = all_named;
  tolerance_typed = record { values = (tt, (tt, tt)); boxes = ((tt, tt), ((tt, tt), tt)); items = ((refl, ((refl, refl, tt), ((tt, tt, (λ n. refl, not_zero)), half_positive))), ((refl, refl), tt)) };
  zero_refused = λ t. zero_not_positive t.items.0.1.1.1;
  comparison_refused = λ t. t.items.0.1.1.0.2;
  no_mention = subst (λ s. ¬ (Leads s (codes "d") (codes "z"))) (sym through_named) no_mention;
  circle = subst (λ s. Circular s (codes "d" ∷ codes "@1" ∷ codes "z" ∷ [])) (sym through_named) circle;
}
