-- The steps of the thermostat.
use Rattle.std.proofs.Common.{◌≡◌, ℕ, ◌≤◌, List, [], ◌∷◌, codes, refl, sym, ◌∙◌, ap, arith, subst, Bool, true, false, cond, not, ◌||◌, inl, inr}
use Rattle.std.specs.Str.{bytes_eq}
use Rattle.std.proofs.lemmas.Slice.Eq.{bytes_eq-Decides}
use Rattle.hys_number.specs.Number.{Number}
use Rattle.hys_number.specs.Ops.{◌+ₙ◌, ◌-ₙ◌, ◌*ₙ◌, whole}
use Rattle.hys_number.proofs.Field.{not-le, add_neg}
use Rattle.hys_meaning.specs.Names.{names}
use Rattle.hys_lin.specs.Bits.{bit, is_one}
use Rattle.hys_meaning.specs.Values.{Assignment, literal}
use Rattle.hys_meaning.specs.Circular.{IsAuxiliary}
use Rattle.hys_meaning.specs.Steps.{Legal, Run, stepped, ended, GuardCase, GapOf}
use Rattle.hys_meaning.specs.Accepted.{Accepted}
use Rattle.hys_examples.specs.Sources.{thermostat, tolerance, n_over}
use Rattle.hys_examples.specs.OneStep.{OneStep}
use Rattle.hys_examples.proofs.Numbers.{head_same, place_same, never, real_not_bool, bit-true, bit_low, bit_high, bit_is, warm, twenty_not_hot, twenty_far, twenty_not_cold, twenty_far_up, hot_now, not_cold, far_up, next_22, next_118, cool, below_60, below_55, zero_outside, box_of_T, box_outside}
use Rattle.hys_examples.proofs.Guarded.{true_of, false_of}
use Rattle.hys_examples.proofs.Ruled.{not_circular, not_that}

-- the next temperature, where it is 0 outside and the heating is on
abbrev next_of : Number → Number
next_of T = literal (codes "0.8") *ₙ T +ₙ (literal (codes "1") -ₙ literal (codes "0.8")) *ₙ (whole 0 +ₙ whole 30)

-- switched on at T, with 0 outside
abbrev numbers : Number → Number → Number → Assignment
numbers T hot cold n =
    cond (bytes_eq n (codes "T")) T (
    cond (bytes_eq n (codes "on")) (whole 1) (
    cond (bytes_eq n (codes "amb")) (whole 0) (
    cond (bytes_eq n (codes "a")) (literal (codes "0.8")) (
    cond (bytes_eq n (codes "b")) (literal (codes "1") -ₙ literal (codes "0.8")) (
    cond (bytes_eq n (codes "hot")) hot (
    cond (bytes_eq n (codes "cold")) cold (whole 30)))))))

abbrev afterwards : Number → Number → Number → Assignment
afterwards T on y n = cond (bytes_eq n (codes "T")) T (cond (bytes_eq n (codes "on")) on y)

legal_heating : (k : ℕ) (p q : Bool) (z : Number) → k ≤ 55 →
    GuardCase (λ n. bit p) (codes "hot") (literal (codes "22") -ₙ whole k) → GuardCase (λ n. bit q) (codes "cold") (whole k -ₙ literal (codes "18")) →
    ¬ (GapOf tolerance (literal (codes "22") -ₙ whole k)) → ¬ (GapOf tolerance (whole k -ₙ literal (codes "18"))) → z ≡ next_of (whole k) →
    Legal tolerance thermostat (whole k ∷ whole 1 ∷ []) (whole 0 ∷ []) (numbers (whole k) (bit p) (bit q)) (z ∷ bit (q || not p) ∷ []) (whole k ∷ [])
legal_heating k p q z m hot cold g g' e = record {
  step = record {
    parameters = (λ t. never t, (λ t. never t, (λ t. never t, (λ t. never t, (λ t. refl, (λ t. refl, (λ t. never t, (λ t. never t, (λ t. never t, tt)))))))));
    states = refl;
    inputs = refl;
    cases = (hot, (cold, (rw (bit-true true, warm) refl, (tt, (tt, (tt, (tt, tt)))))));
    after = afterwards z (bit (q || not p)) (whole k);
    next = (tt, (tt, (tt, (rw (bit-true q, bit-true true, bit-true p) refl, (e, (refl, (tt, tt)))))));
    end = refl;
    outputs = refl;
  };
  boxes = (
    λ t. (cool k, below_60 k m, λ r. real_not_bool r),
    (
      λ t. (bit_low true, bit_high true, λ r. bit_is true),
      (
        λ t. (cool 0, zero_outside, λ r. real_not_bool r),
        (λ t. never t, (λ t. never t, (λ t. never t, (λ t. never t, (λ t. never t, (λ t. never t, tt)))))),
      ),
    ),
  );
  demands = (tt, (tt, (tt, (tt, (tt, (tt, (below_55 k m, tt)))))));
  no_gap = (g, (g', (λ t. t, (λ t. t, (λ t. t, (λ t. t, (λ t. t, tt)))))));
}

record Told (T : Number) (v : Assignment) (z q : List Number) : Type 0 where
  hot : GuardCase v (codes "hot") (literal (codes "22") -ₙ T)
  cold : GuardCase v (codes "cold") (T -ₙ literal (codes "18"))
  heat : v (codes "heat") ≡ whole 30
  next : z ≡ next_of T ∷ bit (is_one (v (codes "cold")) || not (is_one (v (codes "hot")))) ∷ []
  outputs : q ≡ T ∷ []

told_heating : (T : Number) (v : Assignment) (z q : List Number) → Legal tolerance thermostat (T ∷ whole 1 ∷ []) (whole 0 ∷ []) v z q → Told T v z q
told_heating T v z q h =
    let s = h.step in
    let t : v (codes "T") ≡ T = place_same 0 s.states in
    let on : v (codes "on") ≡ whole 1 = place_same 1 s.states in
    let amb : v (codes "amb") ≡ whole 0 = head_same s.inputs in
    let a : v (codes "a") ≡ literal (codes "0.8") = s.parameters.1.1.1.1.0 refl in
    let b : v (codes "b") ≡ literal (codes "1") -ₙ literal (codes "0.8") = s.parameters.1.1.1.1.1.0 refl in
    let hot = s.cases.0 in
    let cold = s.cases.1.0 in
    let heats = s.cases.1.1.0 in
    let heat : v (codes "heat") ≡ whole 30 = rw (on, bit-true true, warm) at heats in
    let on_next = s.next.1.1.1.0 in
    let T_next = s.next.1.1.1.1.0 in
    let y = s.next.1.1.1.1.1.0 in
    let on_now = rw (on, bit-true true) at on_next in
    let T_now = rw (a, b, t, amb, heat) at T_next in
    record {
      hot = rw (← t) hot;
      cold = rw (← t) cold;
      heat = heat;
      next = sym s.end ∙ (ap (λ d. d ∷ s.after (codes "on") ∷ []) T_now ∙ ap (λ d. next_of T ∷ d ∷ []) on_now);
      outputs = sym s.outputs ∙ ap (λ d. d ∷ []) (y ∙ t);
    }

first_legal : Legal tolerance thermostat (whole 20 ∷ whole 1 ∷ []) (whole 0 ∷ []) (numbers (whole 20) (whole 0) (whole 0)) (whole 22 ∷ whole 1 ∷ []) (whole 20 ∷ [])
first_legal = legal_heating 20 false false (whole 22) (omega arith) (inr (twenty_not_hot, refl)) (inr (twenty_not_cold, refl)) (λ g. (not-le _ _).1 g.1 twenty_far) (λ g. (not-le _ _).1 g.1 twenty_far_up) (sym next_22)

second_legal : Legal tolerance thermostat (whole 22 ∷ whole 1 ∷ []) (whole 0 ∷ []) (numbers (whole 22) (whole 1) (whole 0)) (n_over 118 5 ∷ whole 0 ∷ []) (whole 22 ∷ [])
second_legal = legal_heating 22 true false (n_over 118 5) (omega arith) (inl (hot_now, refl)) (inr (not_cold, refl)) (λ g. (not-le _ _).1 g.0 hot_now) (λ g. (not-le _ _).1 g.1 far_up) (sym next_118)

pub first : OneStep tolerance thermostat (whole 20 ∷ whole 1 ∷ []) (whole 0 ∷ []) (whole 0 ∷ whole 0 ∷ whole 30 ∷ []) (whole 22 ∷ whole 1 ∷ []) (whole 20 ∷ [])
first = record {
  w = numbers (whole 20) (whole 0) (whole 0);
  legal = first_legal;
  auxiliary = refl;
  only = λ v z q h.
      let t = told_heating (whole 20) v z q h in
      let hot : v (codes "hot") ≡ whole 0 = false_of v (codes "hot") _ t.hot twenty_not_hot in
      let cold : v (codes "cold") ≡ whole 0 = false_of v (codes "cold") _ t.cold twenty_not_cold in
      let next = t.next in
      (rw (hot, cold, t.heat) refl, rw (hot, cold, bit-true false, next_22) at next, t.outputs);
}

pub second : OneStep tolerance thermostat (whole 22 ∷ whole 1 ∷ []) (whole 0 ∷ []) (whole 1 ∷ whole 0 ∷ whole 30 ∷ []) (n_over 118 5 ∷ whole 0 ∷ []) (whole 22 ∷ [])
second = record {
  w = numbers (whole 22) (whole 1) (whole 0);
  legal = second_legal;
  auxiliary = refl;
  only = λ v z q h.
      let t = told_heating (whole 22) v z q h in
      let hot : v (codes "hot") ≡ whole 1 = true_of v (codes "hot") _ t.hot hot_now in
      let cold : v (codes "cold") ≡ whole 0 = false_of v (codes "cold") _ t.cold not_cold in
      let next = t.next in
      (rw (hot, cold, t.heat) refl, rw (hot, cold, bit-true true, bit-true false, next_118) at next, t.outputs);
}

pub run : (steps : List (Assignment × List Number)) × Run tolerance thermostat (whole 20 ∷ whole 1 ∷ []) ((whole 0 ∷ []) ∷ (whole 0 ∷ []) ∷ []) steps (n_over 118 5 ∷ whole 0 ∷ [])
run = ((numbers (whole 20) (whole 0) (whole 0), whole 20 ∷ []) ∷ (numbers (whole 22) (whole 1) (whole 0), whole 22 ∷ []) ∷ [], stepped first_legal (stepped second_legal ended))

-- no guard and no choice has an AUX name
by_state : (m : List ℕ) → IsAuxiliary (names thermostat) m → bytes_eq (codes "T") m ≡ false
by_state m h = not_that _ refl (bytes_eq (codes "T") m) _ h

pub thermostat_accepted : Accepted thermostat
thermostat_accepted = record {
  rules = record {
    declared = refl;
    values = (λ t. t, (λ t. t, (λ t. t, (λ t. t, (λ t. refl, (λ t. refl, (λ t. t, (λ t. t, (λ t. t, tt)))))))));
    typed = record {
      values = (tt, (tt, (tt, (tt, (tt, ((tt, refl, tt), (tt, (tt, (tt, tt)))))))));
      boxes = (((refl, tt), tt), ((tt, tt), (((refl, tt), tt), ((tt, tt), ((tt, tt), ((tt, tt), ((tt, tt), ((tt, tt), ((tt, tt), tt)))))))));
      items = (
        (refl, ((refl, refl, tt), tt)),
        (
          (refl, ((refl, refl, tt), tt)),
          (
            (refl, (refl, tt, tt)),
            (
              (refl, (refl, refl, (refl, refl, (refl, refl)))),
              (
                (refl, ((refl, refl, inl (λ n. refl)), (refl, (refl, refl, tt), inl (λ n. refl)), tt)),
                (
                  (refl, refl),
                  ((refl, inr (refl, refl, tt)), tt),
                ),
              ),
            ),
          ),
        ),
      );
    };
    bounded = (λ t. box_of_T, (λ t. never t, (λ t. box_outside, (λ t. never t, (λ t. never t, (λ t. never t, (λ t. never t, (λ t. never t, (λ t. never t, tt)))))))));
    defined = (λ t. refl, (λ t. refl, (λ t. never t, (λ t. refl, (λ t. never t, (λ t. never t, (λ t. refl, (λ t. refl, (λ t. refl, tt)))))))));
    orders = not_circular thermostat (λ n m h k. elim k [
      | inl p ↦ p.1 (ap (λ b. whole 0 -ₙ cond b (whole 1) (whole 0)) (by_state m h) ∙ add_neg (whole 0))
      | inr q ↦ elim q [
        | inl p ↦ p.1 (ap (λ b. cond b (whole 1) (whole 0) -ₙ whole 0) (by_state m h) ∙ add_neg (whole 0))
        | inr r ↦ elim r [
          | inl p ↦ elim p.1 [
            | inl c ↦ never (subst (IsAuxiliary (names thermostat)) ((bytes_eq-Decides m (codes "on")).0 c) h)
            | inr f ↦ elim f [ inl g ↦ g refl | inr g ↦ g refl ]
          ]
          | inr s ↦ elim s [ inl p ↦ p.1 | inr s ↦ elim s [ inl p ↦ p.1 | inr s ↦ elim s [ inl p ↦ p.1 | inr s ↦ elim s [ inl p ↦ p.1 | inr s ↦ s ] ] ] ]
        ]
      ]
    ]);
  };
  limits = record {
    names = omega arith;
    expression = (omega arith, (omega arith, (omega arith, (omega arith, (omega arith, (omega arith, (omega arith, (omega arith, (omega arith, (omega arith, (omega arith, (omega arith, (omega arith, (omega arith, (omega arith, tt)))))))))))))));
    nodes = omega arith;
  };
}
