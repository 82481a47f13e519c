-- Which sources the rules accept.
use Rattle.std.proofs.Common.{◌≡◌, ℕ, List, [], ◌∷◌, codes, refl, sym, ◌∙◌, ap, arith, Bool, true, false, cond, inl, inr, IsTrue, Option, Some}
use Rattle.std.specs.Str.{bytes_eq}
use Rattle.hys_number.specs.Ops.{◌-ₙ◌, whole}
use Rattle.hys_number.proofs.Field.{not-le, add_neg}
use Rattle.hys_number.proofs.Order.{le_refl'}
use Rattle.hys_number.proofs.Inverse.{zero_not_one}
use Rattle.hys_ast.specs.Tree.{Source}
use Rattle.hys_meaning.specs.Values.{literal}
use Rattle.hys_meaning.specs.Names.{Name, names, is_auxiliary}
use Rattle.hys_meaning.specs.Typed.{Typed, Bounded, DeclaredOnce, DefinedOnce, HaveValues, any_kind, is_left}
use Rattle.hys_meaning.specs.Circular.{Circular, Leads, IsAuxiliary}
use Rattle.hys_meaning.specs.Accepted.{Accepted, WithinLimits}
use Rattle.hys_examples.specs.Sources.{guarded, always, led_round, led_to_itself, boxed, two_names, by_zero, of_two_kinds, doubled}
use Rattle.hys_examples.proofs.Numbers.{never, two_three, zero_ten, zero_one}

-- where no definition mentions an AUX name, no list is circular
pub not_circular : (s : Source) → ((n m : List ℕ) → IsAuxiliary (names s) m → ¬ (Leads s n m)) → (ns : List (List ℕ)) → ¬ (Circular s ns)
not_circular s f [] h = h
not_circular s f (n ∷ []) h = f n n h.0.0 h.2
not_circular s f (n ∷ m ∷ ns) h = f n m h.0.1.0 h.2.0

-- a name that is found before any other, and is no AUX name, is not the one that is looked for
pub not_that : (k : Name) → is_auxiliary k.section ≡ false → (b : Bool) (rest : Option Name) → IsTrue (is_left is_auxiliary any_kind (cond b (Some k) rest)) → b ≡ false
not_that k e true rest h = never (rw e at h)
not_that k e false rest h = refl

-- ---- cycles
pub round : Circular led_round (codes "d1" ∷ codes "d2" ∷ [])
round = ((refl, (refl, tt)), refl, (inl (refl, refl), inr (inl (refl, refl))))

pub itself : Circular led_to_itself (codes "d" ∷ [])
itself = ((refl, tt), refl, inl (refl, refl))

pub round_typed : Typed led_round × Bounded led_round × DeclaredOnce led_round × HaveValues led_round × DefinedOnce led_round × WithinLimits led_round
round_typed = (
  record { values = (tt, (tt, tt)); boxes = ((tt, tt), ((tt, tt), tt)); items = ((refl, refl), ((refl, (refl, refl)), tt)) },
  (λ t. never t, (λ t. never t, tt)),
  refl,
  (λ t. t, (λ t. t, tt)),
  (λ t. refl, (λ t. refl, tt)),
  record { names = omega arith; expression = (omega arith, (omega arith, tt)); nodes = omega arith },
)

-- ---- boxes
pub single : Accepted (boxed (codes "3"))
single = record {
  rules = record {
    declared = refl;
    values = (λ t. t, tt);
    typed = record { values = (tt, tt); boxes = ((tt, tt), tt); items = ((refl, refl), tt) };
    bounded = (λ t. le_refl' (literal (codes "3")), tt);
    defined = (λ t. refl, tt);
    orders = not_circular (boxed (codes "3")) (λ n m h k. elim k [ inl p ↦ p.1 | inr q ↦ q ]);
  };
  limits = record { names = omega arith; expression = (omega arith, (omega arith, (omega arith, tt))); nodes = omega arith };
}

pub empty_refused : ¬ (Bounded (boxed (codes "2")))
empty_refused b = (not-le (literal (codes "3")) (literal (codes "2"))).1 two_three (b.0 refl)

-- ---- expressions
pub product_refused : ¬ (Typed two_names)
product_refused t = elim t.items.0.1.2 [ inl f ↦ zero_not_one (sym (f (codes "x"))) | inr f ↦ zero_not_one (sym (f (codes "y"))) ]

pub divisor_refused : ¬ (Typed by_zero)
divisor_refused t = t.items.0.1.2.1 (add_neg (literal (codes "2")))

pub kind_refused : ¬ (Typed of_two_kinds)
kind_refused t = never t.items.0.1.0

pub doubled_accepted : Accepted doubled
doubled_accepted = record {
  rules = record {
    declared = refl;
    values = (λ t. t, (λ t. t, (λ t. t, tt)));
    typed = record { values = (tt, (tt, (tt, tt))); boxes = ((tt, tt), ((tt, tt), ((tt, tt), tt))); items = ((refl, (refl, tt, inr (λ n. refl))), tt) };
    bounded = (λ t. zero_ten, (λ t. zero_one, (λ t. never t, tt)));
    defined = (λ t. refl, (λ t. never t, (λ t. never t, tt)));
    orders = not_circular doubled (λ n m h k. elim k [ inl p ↦ p.1 | inr q ↦ q ]);
  };
  limits = record { names = omega arith; expression = (omega arith, (omega arith, (omega arith, (omega arith, (omega arith, tt))))); nodes = omega arith };
}

-- ---- guards
pub guarded_accepted : Accepted guarded
guarded_accepted = record {
  rules = record {
    declared = refl;
    values = (λ t. t, (λ t. t, tt));
    typed = record { values = (tt, (tt, tt)); boxes = ((tt, tt), ((tt, tt), tt)); items = ((refl, ((refl, refl, tt), tt)), ((refl, refl), tt)) };
    bounded = (λ t. zero_ten, (λ t. never t, tt));
    defined = (λ t. refl, (λ t. refl, tt));
    orders = not_circular guarded (λ n m h k. elim k [
      | inl p ↦ p.1 (ap (λ b. whole 0 -ₙ cond b (whole 1) (whole 0)) (not_that _ refl (bytes_eq (codes "x") m) _ h) ∙ add_neg (whole 0))
      | inr q ↦ elim q [ inl p ↦ p.1 | inr r ↦ r ]
    ]);
  };
  limits = record { names = omega arith; expression = (omega arith, (omega arith, (omega arith, (omega arith, tt)))); nodes = omega arith };
}

pub always_accepted : Accepted always
always_accepted = record {
  rules = record {
    declared = refl;
    values = (λ t. t, (λ t. t, tt));
    typed = record { values = (tt, (tt, tt)); boxes = ((tt, tt), ((tt, tt), tt)); items = ((refl, ((refl, refl, tt), tt)), ((refl, refl), tt)) };
    bounded = (λ t. zero_ten, (λ t. never t, tt));
    defined = (λ t. refl, (λ t. refl, tt));
    orders = not_circular always (λ n m h k. elim k [
      | inl p ↦ p.1 (ap (λ b. cond b (whole 1) (whole 0) -ₙ whole 0) (not_that _ refl (bytes_eq (codes "x") m) _ h) ∙ add_neg (whole 0))
      | inr q ↦ elim q [ inl p ↦ p.1 | inr r ↦ r ]
    ]);
  };
  limits = record { names = omega arith; expression = (omega arith, (omega arith, (omega arith, (omega arith, tt)))); nodes = omega arith };
}

pub round_refused : ¬ (Accepted led_round)
round_refused a = a.rules.orders (codes "d1" ∷ codes "d2" ∷ []) round

pub itself_refused : ¬ (Accepted led_to_itself)
itself_refused a = a.rules.orders (codes "d" ∷ []) itself
