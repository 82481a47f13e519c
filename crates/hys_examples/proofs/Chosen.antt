-- The steps of a choice without ELSE.
use Rattle.std.proofs.Common.{◌≡◌, ℕ, List, [], ◌∷◌, codes, refl, sym, ◌∙◌, ap, arith, subst, Bool, true, false, cond, not, ◌||◌, inl, inr}
use Rattle.std.specs.Str.{bytes_eq}
use Rattle.std.proofs.lemmas.Slice.Eq.{bytes_eq-Decides}
use Rattle.hys_number.specs.Number.{Number}
use Rattle.hys_number.specs.Ops.{◌+ₙ◌, ◌*ₙ◌, ◌≤ₙ◌, whole}
use Rattle.hys_meaning.specs.Names.{names}
use Rattle.hys_lin.specs.Bits.{bit}
use Rattle.hys_meaning.specs.Values.{Assignment, literal}
use Rattle.hys_meaning.specs.Circular.{IsAuxiliary}
use Rattle.hys_meaning.specs.Steps.{Legal}
use Rattle.hys_meaning.specs.Accepted.{Accepted}
use Rattle.hys_examples.specs.Sources.{choosing, tolerance}
use Rattle.hys_examples.specs.OneStep.{OneStep}
use Rattle.hys_examples.proofs.Numbers.{head_same, place_same, never, real_not_bool, zero_ten, three_low, three_high, bit-true, bit_low, bit_high, bit_is, twice_three, nothing_plus_twice}
use Rattle.hys_examples.proofs.Ruled.{not_circular, not_that}

abbrev numbers : Number → Number → Number → Number → Assignment
numbers x a b z n = cond (bytes_eq n (codes "x")) x (cond (bytes_eq n (codes "a")) a (cond (bytes_eq n (codes "b")) b z))

abbrev chosen : Bool → Bool → Number → Number
chosen s t x = cond (cond s (not t) (not (not t))) (literal (codes "2") *ₙ x) (whole 0)

legal_choice : (x z : Number) (s t : Bool) → literal (codes "0") ≤ₙ x → x ≤ₙ literal (codes "10") → z ≡ chosen s t x →
    Legal tolerance choosing (x ∷ []) (bit s ∷ bit t ∷ []) (numbers x (bit s) (bit t) z) (x ∷ []) []
legal_choice x z s t l h e = record {
  step = record {
    parameters = (λ k. never k, (λ k. never k, (λ k. never k, (λ k. never k, tt))));
    states = refl;
    inputs = refl;
    cases = (rw (bit-true s, bit-true t) e, (tt, tt));
    after = λ n. x;
    next = (tt, (refl, tt));
    end = refl;
    outputs = refl;
  };
  boxes = (λ k. (l, h, λ q. real_not_bool q), (λ k. (bit_low s, bit_high s, λ q. bit_is s), (λ k. (bit_low t, bit_high t, λ q. bit_is t), (λ k. never k, tt))));
  demands = (tt, (tt, tt));
  no_gap = (λ k. k, (λ k. k, tt));
}

one_choice : (x z : Number) (s t : Bool) → literal (codes "0") ≤ₙ x → x ≤ₙ literal (codes "10") → z ≡ chosen s t x →
    OneStep tolerance choosing (x ∷ []) (bit s ∷ bit t ∷ []) (z ∷ []) (x ∷ []) []
one_choice x z s t l h e = record {
  w = numbers x (bit s) (bit t) z;
  legal = legal_choice x z s t l h e;
  auxiliary = refl;
  only = λ v y q k.
      let ex : v (codes "x") ≡ x = head_same k.step.states in
      let ea : v (codes "a") ≡ bit s = place_same 0 k.step.inputs in
      let eb : v (codes "b") ≡ bit t = place_same 1 k.step.inputs in
      let case = k.step.cases.0 in
      let c = rw (ex, ea, eb, bit-true s, bit-true t, ← e) at case in
      (ap (λ d. d ∷ []) c, sym k.step.end ∙ ap (λ d. d ∷ []) (k.step.next.1.0 ∙ ex), sym k.step.outputs);
}

pub holds : OneStep tolerance choosing (whole 3 ∷ []) (whole 1 ∷ whole 0 ∷ []) (whole 6 ∷ []) (whole 3 ∷ []) []
holds = one_choice (whole 3) (whole 6) true false three_low three_high twice_three

pub fails : OneStep tolerance choosing (whole 3 ∷ []) (whole 1 ∷ whole 1 ∷ []) (whole 0 ∷ []) (whole 3 ∷ []) []
fails = one_choice (whole 3) (whole 0) true true three_low three_high refl

-- the condition has no AUX name
either_input : (m : List ℕ) → IsAuxiliary (names choosing) m → (b c : Bool) → (b ≡ true → m ≡ codes "a") → (c ≡ true → m ≡ codes "b") → (b || c) ≡ true → ⊥
either_input m h true c f g e = never (subst (IsAuxiliary (names choosing)) (f refl) h)
either_input m h false true f g e = never (subst (IsAuxiliary (names choosing)) (g refl) h)
either_input m h false false f g e = never e

pub choosing_accepted : Accepted choosing
choosing_accepted = record {
  rules = record {
    declared = refl;
    values = (λ t. t, (λ t. t, (λ t. t, (λ t. t, tt))));
    typed = record {
      values = (tt, (tt, (tt, (tt, tt))));
      boxes = ((tt, tt), ((tt, tt), ((tt, tt), ((tt, tt), tt))));
      items = ((refl, ((refl, refl, (refl, refl)), (tt, refl, inl (λ n. refl)), tt)), ((refl, refl), tt));
    };
    bounded = (λ t. zero_ten, (λ t. never t, (λ t. never t, (λ t. never t, tt))));
    defined = (λ t. refl, (λ t. never t, (λ t. never t, (λ t. refl, tt))));
    orders = not_circular choosing (λ n m h k. elim k [
      | inl p ↦ elim p.1 [
        | inl q ↦ either_input m h (bytes_eq m (codes "a")) (bytes_eq m (codes "b")) (λ e. (bytes_eq-Decides m (codes "a")).0 e) (λ e. (bytes_eq-Decides m (codes "b")).0 e) q
        | inr q ↦ elim q [
          | inl f ↦ f (ap (λ b. whole 0 *ₙ whole 0 +ₙ literal (codes "2") *ₙ cond b (whole 1) (whole 0)) (not_that _ refl (bytes_eq (codes "x") m) _ h) ∙ nothing_plus_twice (literal (codes "2")))
          | inr r ↦ r
        ]
      ]
      | inr q ↦ elim q [ inl p ↦ p.1 | inr r ↦ r ]
    ]);
  };
  limits = record { names = omega arith; expression = (omega arith, (omega arith, (omega arith, (omega arith, (omega arith, tt))))); nodes = omega arith };
}
