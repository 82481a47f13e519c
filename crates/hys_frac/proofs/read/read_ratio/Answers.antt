use Rattle.std.proofs.Common.{◌≡◌, ◌^◌, ◌<◌, ◌≤◌, ◌&&◌, ℕ, zero, suc, List, Bool, true, false, pos, to_z, unsigned_abs, length, arith, tests, refl, ◌∙◌, sym, ap, ap₂, subst, nat_eq, nat_lt, IsTrue}
use mir.Syntax.{w128}
use borrow.Author.Differences.{ints}
use Rattle.std.specs.Str.Parse.{digits_value}
use Rattle.std.specs.Float.Numeral.{digits_len}
use Rattle.hys_number.specs.Number.{Number, make}
use Rattle.hys_number.specs.Ops.{fits}
use Rattle.hys_frac.specs.Read.{ratio_reading}
use Rattle.hys_frac.proofs.Powers.{wide_is}
use Rattle.hys_number.proofs.Bools.{lt_true, lt_false, eq_true, eq_false, all_true, or_true, or_false, not_true}
use Rattle.hys_frac.proofs.Readings.{as_long, as_ok, as_range, front, ratio_form, all_digits, short_room, short_digits}
use Rattle.std.proofs.Common.{inl, inr}
use Rattle.hys_frac.proofs.read.read_ratio.Goals as goal
use Rattle.hys_frac.proofs.read.read_ratio.Goals.{then-is_empty-via-then-is_empty, then-is_empty-via-else-is_empty+then-digits_end-below, then-is_empty-via-else-is_empty+else-digits_end-below+then-all_zero}
use Rattle.hys_frac.proofs.read.read_ratio.Goals.{then-above-gt32-via-then-above-gt32, then-above-gt32-via-else-above-gt32+then-below-gt32}

pub all_zero-requires : goal.all_zero-requires
all_zero-requires c = all_digits c.args.below.now (omega (arith, c.digits_end.ensures.end, c.if-digits_end-below.false))

no_more : (n : ℕ) (r : Bool) → r ≡ nat_eq n 0 → r ≡ true → n ≤ 0
no_more n r e f = grind (arith, tests)

at_most : (n : ℕ) → n ≡ 0 → n ≤ 0
at_most n e = omega arith

pub returns-then-is_empty : goal.returns-then-is_empty
returns-then-is_empty c = elim c.then-is_empty.branch [
  | then-is_empty-via-then-is_empty w ↦ ratio_form c.args.above.now c.args.below.now (inl (lt_false _ _ (no_more _ _ c.is_empty.ensures w.if-is_empty.true)))
  | then-is_empty-via-else-is_empty+then-digits_end-below w ↦ ratio_form c.args.above.now c.args.below.now (inr (inl (eq_false _ _ (λ e. w.if-digits_end-below.true (front _ c.args.below.now w.digits_end.ensures.end ∙ e)))))
  | then-is_empty-via-else-is_empty+else-digits_end-below+then-all_zero w ↦ ratio_form c.args.above.now c.args.below.now (inr (inr (lt_false _ _ (at_most _ (w.all_zero.ensures.0 w.if-all_zero.true)))))
]

more : (n : ℕ) (r : Bool) → r ≡ nat_eq n 0 → r ≡ false → 0 < n
more n r e f = grind (arith, tests)

positive : (n : ℕ) → (n ≡ 0 → ⊥) → 0 < n
positive zero h = absurd (h refl)
positive (suc n) h = omega arith

some : (above below : List ℕ) (r q : Bool) (d : ℕ) → r ≡ nat_eq (length above) 0 → r ≡ false → d ≡ digits_len below → d ≡ length below → (digits_value 10 below ≡ 0 → IsTrue q) → q ≡ false →
    nat_lt 0 (length above) && (nat_eq (digits_len below) (length below) && nat_lt 0 (digits_value 10 below)) ≡ true
some above below r q d e f i j z w = all_true _ _ _ (lt_true _ _ (more (length above) r e f)) (eq_true _ _ (sym i ∙ j)) (lt_true _ _ (positive (digits_value 10 below) (λ x. absurd (cc (z x)))))

pub returns-then-above-gt32 : goal.returns-then-above-gt32
unfolding ratio_reading
returns-then-above-gt32 c = as_long _ _ _ (some _ _ _ _ _ c.is_empty.ensures c.if-is_empty.false (front _ c.args.below.now c.digits_end.ensures.end) c.if-digits_end-below.false c.all_zero.ensures.1 c.if-all_zero.false) (elim c.then-above-gt32.branch [
  | then-above-gt32-via-then-above-gt32 w ↦ or_true _ _ (inl (lt_true _ _ w.if-above-gt32.true))
  | then-above-gt32-via-else-above-gt32+then-below-gt32 w ↦ or_true _ _ (inr (lt_true _ _ w.if-below-gt32.true))
])

pub number-requires-clause-room : goal.number-requires-clause-room
number-requires-clause-room c = short_room _ c.if-above-gt32.false

pub number-requires-2-clause-digits : goal.number-requires-2-clause-digits
number-requires-2-clause-digits c = all_digits c.args.below.now (omega (arith, c.digits_end.ensures.end, c.if-digits_end-below.false))

pub number-requires-2-clause-room : goal.number-requires-2-clause-room
number-requires-2-clause-room c = short_room _ c.if-below-gt32.false

pub overflow_cast-number : goal.overflow_cast-number
overflow_cast-number c =
    let l : digits_value 10 c.args.above.now < 10 ^ 36 = short_digits c.args.above.now c.requires c.if-above-gt32.false in
    omega (arith, ints, c.number.ensures)

pub overflow_cast-number-2 : goal.overflow_cast-number-2
overflow_cast-number-2 c =
    let m : digits_value 10 c.args.below.now < 10 ^ 36 = short_digits c.args.below.now (all_digits c.args.below.now (omega (arith, c.digits_end.ensures.end, c.if-digits_end-below.false))) c.if-below-gt32.false in
    omega (arith, ints, c.number-2.ensures)

pub reduce-requires-clause-above : goal.reduce-requires-clause-above
reduce-requires-clause-above c =
    let m : digits_value 10 c.args.below.now < 10 ^ 36 = short_digits c.args.below.now (all_digits c.args.below.now (omega (arith, c.digits_end.ensures.end, c.if-digits_end-below.false))) c.if-below-gt32.false in
    let z : 0 < digits_value 10 c.args.below.now = positive _ (λ x. absurd (cc (c.all_zero.ensures.1 x))) in
    rw (wide_is c.number-2.result (omega (arith, c.number-2.ensures))) (omega (arith, ints, c.number-2.ensures))

pub reduce-requires-clause-below : goal.reduce-requires-clause-below
reduce-requires-clause-below c =
    let l : digits_value 10 c.args.above.now < 10 ^ 36 = short_digits c.args.above.now c.requires c.if-above-gt32.false in
    rw (wide_is c.number.result (omega (arith, c.number.ensures))) (omega (arith, c.number.ensures))

pub returns-in-Some : goal.returns-in-Some
unfolding ratio_reading
returns-in-Some c =
    let l : digits_value 10 c.args.above.now < 10 ^ 36 = short_digits c.args.above.now c.requires c.if-above-gt32.false in
    let m : digits_value 10 c.args.below.now < 10 ^ 36 = short_digits c.args.below.now (all_digits c.args.below.now (omega (arith, c.digits_end.ensures.end, c.if-digits_end-below.false))) c.if-below-gt32.false in
    let e : make (to_z w128 c.number.result) (unsigned_abs (to_z w128 c.number-2.result)) ≡ make (pos (digits_value 10 c.args.above.now)) (digits_value 10 c.args.below.now) =
    ap₂ make (wide_is c.number.result (omega (arith, c.number.ensures)) ∙ ap pos c.number.ensures) (ap unsigned_abs (wide_is c.number-2.result (omega (arith, c.number-2.ensures))) ∙ c.number-2.ensures) in
    as_ok _ _ _ _ (some _ _ _ _ _ c.is_empty.ensures c.if-is_empty.false (front _ c.args.below.now c.digits_end.ensures.end) c.if-digits_end-below.false c.all_zero.ensures.1 c.if-all_zero.false) (or_false _ _ (lt_false _ _ c.if-above-gt32.false) (lt_false _ _ c.if-below-gt32.false)) (c.in-Some.ensures.value ∙ e) (subst (λ (a : Number). fits a ≡ true) e (c.in-Some.ensures.fits.0 refl))

pub returns-in-None : goal.returns-in-None
unfolding ratio_reading
returns-in-None c =
    let l : digits_value 10 c.args.above.now < 10 ^ 36 = short_digits c.args.above.now c.requires c.if-above-gt32.false in
    let m : digits_value 10 c.args.below.now < 10 ^ 36 = short_digits c.args.below.now (all_digits c.args.below.now (omega (arith, c.digits_end.ensures.end, c.if-digits_end-below.false))) c.if-below-gt32.false in
    let e : make (to_z w128 c.number.result) (unsigned_abs (to_z w128 c.number-2.result)) ≡ make (pos (digits_value 10 c.args.above.now)) (digits_value 10 c.args.below.now) =
    ap₂ make (wide_is c.number.result (omega (arith, c.number.ensures)) ∙ ap pos c.number.ensures) (ap unsigned_abs (wide_is c.number-2.result (omega (arith, c.number-2.ensures))) ∙ c.number-2.ensures) in
    as_range _ _ _ (some _ _ _ _ _ c.is_empty.ensures c.if-is_empty.false (front _ c.args.below.now c.digits_end.ensures.end) c.if-digits_end-below.false c.all_zero.ensures.1 c.if-all_zero.false) (or_false _ _ (lt_false _ _ c.if-above-gt32.false) (lt_false _ _ c.if-below-gt32.false)) (subst (λ (a : Number). fits a ≡ false) e (not_true _ (λ t. absurd (cc (c.in-None.ensures.fits.1 t)))))
