-- Casts, numbers and connectives; what cancels; parameters.
use Rattle.std.proofs.Common.{◌≡◌, List, [], ◌∷◌, codes, refl, sym, ◌∙◌, ap, arith, subst, map, true, false, cond, ◌⊎◌, inl, inr}
use Rattle.std.specs.Str.{bytes_eq}
use Rattle.hys_number.specs.Number.{Number}
use Rattle.hys_number.specs.Ops.{◌+ₙ◌, ◌-ₙ◌, ◌<ₙ◌, whole}
use Rattle.hys_number.proofs.Field.{not-le, add_neg, add_zero}
use Rattle.hys_number.proofs.Order.{lt_irrefl}
use Rattle.hys_number.proofs.Inverse.{zero_not_one}
use Rattle.hys_ast.specs.declared.tree.BinaryOp.TheVariants as binary
use Rattle.hys_meaning.specs.Values.{Assignment}
use Rattle.hys_meaning.specs.Names.{names}
use Rattle.hys_meaning.specs.Typed.{Typed}
use Rattle.hys_meaning.specs.Circular.{Circular}
use Rattle.hys_meaning.specs.Steps.{Legal}
use Rattle.hys_meaning.specs.Accepted.{Accepted}
use Rattle.hys_examples.specs.Trees.{both, number}
use Rattle.hys_examples.specs.Sources.{casting, choosing, boxed_by, cancelled, kept, too_early, bounded_later, tolerance, n_over}
use Rattle.hys_examples.specs.OneStep.{OneStep}
use Rattle.hys_examples.proofs.Numbers.{head_same, place_same, never, real_not_bool, zero_ten, zero_one, zero_high, low_of, bit_low, bit_high, bit_is, literal-small, three_tenths, three_more, three_of_four, five_of_four, half_below, half_above}
use Rattle.hys_examples.proofs.Ruled.{not_circular, not_that}

abbrev switched : Assignment
switched n = cond (bytes_eq n (codes "x")) (whole 0) (cond (bytes_eq n (codes "a")) (whole 1) (whole 0))

legal_cast : Legal tolerance casting (whole 0 ∷ []) (whole 1 ∷ whole 0 ∷ []) switched (whole 3 ∷ []) []
legal_cast = record {
  step = record {
    parameters = (λ k. never k, (λ k. never k, (λ k. never k, tt)));
    states = refl;
    inputs = refl;
    cases = (tt, (tt, tt));
    after = λ n. whole 3;
    next = (sym three_more, (tt, tt));
    end = refl;
    outputs = refl;
  };
  boxes = (λ k. (low_of 0, zero_high, λ q. real_not_bool q), (λ k. (bit_low true, bit_high true, λ q. bit_is true), (λ k. (bit_low false, bit_high false, λ q. bit_is false), tt)));
  demands = (tt, (three_of_four, tt));
  no_gap = (λ k. k, (λ k. k, tt));
}

pub one : OneStep tolerance casting (whole 0 ∷ []) (whole 1 ∷ whole 0 ∷ []) [] (whole 3 ∷ []) []
one = record {
  w = switched;
  legal = legal_cast;
  auxiliary = refl;
  only = λ v z q h.
      let x : v (codes "x") ≡ whole 0 = head_same h.step.states in
      let a : v (codes "a") ≡ whole 1 = place_same 0 h.step.inputs in
      let b : v (codes "b") ≡ whole 0 = place_same 1 h.step.inputs in
      let next = h.step.next.0 in
      (refl, sym h.step.end ∙ ap (λ d. d ∷ []) (rw (x, a, b, three_more) at next), sym h.step.outputs);
}

pub not_both : (w : Assignment) (z q : List Number) → ¬ (Legal tolerance casting (whole 0 ∷ []) (whole 1 ∷ whole 1 ∷ []) w z q)
not_both w z q h =
    let a : w (codes "a") ≡ whole 1 = place_same 0 h.step.inputs in
    let b : w (codes "b") ≡ whole 1 = place_same 1 h.step.inputs in
    let d = h.demands.1.0 in
    (not-le _ _).1 five_of_four (rw (a, b) at d)

half_is_no_bit : (n_over 1 2 ≡ whole 0) ⊎ (n_over 1 2 ≡ whole 1) → ⊥
half_is_no_bit (inl e) = lt_irrefl (whole 0) (subst (λ a. whole 0 <ₙ a) e half_above)
half_is_no_bit (inr e) = lt_irrefl (whole 1) (subst (λ a. a <ₙ whole 1) e half_below)

pub between : (w : Assignment) (z q : List Number) → ¬ (Legal tolerance choosing (whole 3 ∷ []) (n_over 1 2 ∷ whole 0 ∷ []) w z q)
between w z q h =
    let a : w (codes "a") ≡ n_over 1 2 = place_same 0 h.step.inputs in
    let d = (h.boxes.1.0 refl).2 refl in
    half_is_no_bit (rw a at d)

pub sum : map (λ n. n.high) (names (boxed_by (both binary.Add (number (codes "0.1")) (number (codes "0.2"))))) ≡ n_over 3 10 ∷ []
sum = ap (λ d. d ∷ []) three_tenths

pub small : map (λ n. n.high) (names (boxed_by (number (codes "1e-18")))) ≡ n_over 1 1000000000000000000 ∷ []
small = ap (λ d. d ∷ []) literal-small

pub casting_accepted : Accepted casting
casting_accepted = record {
  rules = record {
    declared = refl;
    values = (λ t. t, (λ t. t, (λ t. t, tt)));
    typed = record {
      values = (tt, (tt, (tt, tt)));
      boxes = ((tt, tt), ((tt, tt), ((tt, tt), tt)));
      items = ((refl, ((refl, (tt, refl, inl (λ n. refl)), tt), (tt, refl, inl (λ n. refl)), tt)), ((refl, inr (refl, ((tt, refl, inl (λ n. refl)), (tt, refl, inl (λ n. refl)), tt), tt)), tt));
    };
    bounded = (λ t. zero_ten, (λ t. never t, (λ t. never t, tt)));
    defined = (λ t. refl, (λ t. never t, (λ t. never t, tt)));
    orders = not_circular casting (λ n m h k. elim k [ inl p ↦ p.1 | inr q ↦ elim q [ inl p ↦ p.1 | inr r ↦ r ] ]);
  };
  limits = record { names = omega arith; expression = (omega arith, (omega arith, (omega arith, (omega arith, tt)))); nodes = omega arith };
}

-- what is left of z - z + u has no AUX name
none_left : (b : Number) → b -ₙ b +ₙ whole 0 ≡ whole 0
none_left b = rw (add_neg b) (add_zero (whole 0))

pub cancelled_accepted : Accepted cancelled
cancelled_accepted = record {
  rules = record {
    declared = refl;
    values = (λ t. t, (λ t. t, tt));
    typed = record { values = (tt, (tt, tt)); boxes = ((tt, tt), ((tt, tt), tt)); items = ((refl, ((refl, refl, tt), refl, tt)), tt) };
    bounded = (λ t. zero_one, (λ t. never t, tt));
    defined = (λ t. never t, (λ t. refl, tt));
    orders = not_circular cancelled (λ n m h k. elim k [
      | inl p ↦ p.1 (ap (λ b. cond (bytes_eq (codes "z") m) (whole 1) (whole 0) -ₙ cond (bytes_eq (codes "z") m) (whole 1) (whole 0) +ₙ cond b (whole 1) (whole 0)) (not_that _ refl (bytes_eq (codes "u") m) _ h)
          ∙ none_left (cond (bytes_eq (codes "z") m) (whole 1) (whole 0)))
      | inr q ↦ q
    ]);
  };
  limits = record { names = omega arith; expression = (omega arith, (omega arith, (omega arith, tt))); nodes = omega arith };
}

pub kept_circular : Circular kept (codes "z" ∷ [])
kept_circular = ((refl, tt), refl, inl (refl, λ e. zero_not_one (sym e ∙ add_zero (whole 1))))

pub early : ¬ (Typed too_early)
early t = never t.values.0

pub later : Accepted bounded_later
later = record {
  rules = record {
    declared = refl;
    values = (λ t. t, (λ t. refl, tt));
    typed = record { values = (tt, (tt, tt)); boxes = ((tt, refl), ((tt, tt), tt)); items = ((refl, refl), tt) };
    bounded = (λ t. zero_one, (λ t. never t, tt));
    defined = (λ t. refl, (λ t. never t, tt));
    orders = not_circular bounded_later (λ n m h k. elim k [ inl p ↦ p.1 | inr q ↦ q ]);
  };
  limits = record { names = omega arith; expression = (omega arith, (omega arith, (omega arith, (omega arith, tt)))); nodes = omega arith };
}
