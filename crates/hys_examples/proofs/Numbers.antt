-- What the literals of the sources say, and lists of one element.
use Rattle.std.proofs.Common.{◌≡◌, ℕ, ◌<◌, ◌≤◌, ◌*◌, ◌+◌, List, [], ◌∷◌, codes, pos, refl, ap, arith, get_or, Bool, true, false, cond, subst, inl, inr}
use Rattle.std.specs.Float.Numeral.{scan_numeral}
use Rattle.hys_number.specs.Number.{Number, make}
use Rattle.hys_number.specs.Ops.{◌+ₙ◌, ◌-ₙ◌, ◌*ₙ◌, neg, ◌≤ₙ◌, ◌<ₙ◌, whole}
use Rattle.hys_number.proofs.Laws.{ratio, whole-ratio}
use Rattle.hys_number.proofs.Inverse.{make-ratio}
use Rattle.hys_number.proofs.Field.{ratios, Parts, parts, parts_of, mul_zero, add_zero}
use Rattle.hys_number.proofs.Order.{le_refl'}
use Rattle.hys_number.specs.Gcd.{gcd}
use Rattle.hys_ast.specs.declared.source.Kind.{Kind}
use Rattle.hys_ast.specs.declared.source.Kind.TheVariants as kind
use Rattle.hys_lin.specs.Bits.{bit, IsBit, is_one}
use Rattle.hys_meaning.specs.Values.{literal}

pub literal-0 : literal (codes "0") ≡ ratio 0 0 1
unfolding literal scan_numeral
literal-0 = make-ratio (pos 0) 1 (omega arith)

pub literal-1 : literal (codes "1") ≡ ratio 1 0 1
unfolding literal scan_numeral
literal-1 = make-ratio (pos 1) 1 (omega arith)

pub literal-2 : literal (codes "2") ≡ ratio 2 0 1
unfolding literal scan_numeral
literal-2 = make-ratio (pos 2) 1 (omega arith)

pub literal-3 : literal (codes "3") ≡ ratio 3 0 1
unfolding literal scan_numeral
literal-3 = make-ratio (pos 3) 1 (omega arith)

pub literal-4 : literal (codes "4") ≡ ratio 4 0 1
unfolding literal scan_numeral
literal-4 = make-ratio (pos 4) 1 (omega arith)

pub literal-tenth : literal (codes "0.1") ≡ ratio 1 0 10
unfolding literal scan_numeral
literal-tenth = make-ratio (pos 1) 10 (omega arith)

pub literal-fifth : literal (codes "0.2") ≡ ratio 2 0 10
unfolding literal scan_numeral
literal-fifth = make-ratio (pos 2) 10 (omega arith)

pub literal-small : literal (codes "1e-18") ≡ make (pos 1) 1000000000000000000
unfolding literal scan_numeral
literal-small = refl

pub literal-5 : literal (codes "5") ≡ ratio 5 0 1
unfolding literal scan_numeral
literal-5 = make-ratio (pos 5) 1 (omega arith)

pub literal-10 : literal (codes "10") ≡ ratio 10 0 1
unfolding literal scan_numeral
literal-10 = make-ratio (pos 10) 1 (omega arith)

pub literal-18 : literal (codes "18") ≡ ratio 18 0 1
unfolding literal scan_numeral
literal-18 = make-ratio (pos 18) 1 (omega arith)

pub literal-22 : literal (codes "22") ≡ ratio 22 0 1
unfolding literal scan_numeral
literal-22 = make-ratio (pos 22) 1 (omega arith)

pub literal-30 : literal (codes "30") ≡ ratio 30 0 1
unfolding literal scan_numeral
literal-30 = make-ratio (pos 30) 1 (omega arith)

pub literal-55 : literal (codes "55") ≡ ratio 55 0 1
unfolding literal scan_numeral
literal-55 = make-ratio (pos 55) 1 (omega arith)

pub literal-60 : literal (codes "60") ≡ ratio 60 0 1
unfolding literal scan_numeral
literal-60 = make-ratio (pos 60) 1 (omega arith)

pub literal-four_fifths : literal (codes "0.8") ≡ ratio 8 0 10
unfolding literal scan_numeral
literal-four_fifths = make-ratio (pos 8) 10 (omega arith)

pub literal-20 : literal (codes "20") ≡ ratio 20 0 1
unfolding literal scan_numeral
literal-20 = make-ratio (pos 20) 1 (omega arith)

pub head_same : {a b : Number} → a ∷ [] ≡ b ∷ [] → a ≡ b
head_same {a = a} e = ap (λ xs. get_or xs 0 a) e

pub place_same : {xs ys : List Number} (i : ℕ) → xs ≡ ys → get_or xs i (whole 0) ≡ get_or ys i (whole 0)
place_same i e = ap (λ zs. get_or zs i (whole 0)) e

pub whole-is : (k : ℕ) → whole k ≡ ratio (k * 1) 0 1
whole-is k = whole-ratio k 1 (omega arith)

-- what is told of a test that fails
pub never : {A : Type 0} → false ≡ true → A
never e = absurd (subst (λ b. cond b ⊥ (Unit {0})) e tt)

pub positive-1 : 0 < 1
positive-1 = omega arith

pub positive-2 : 0 < 2
positive-2 = omega arith

pub positive-5 : 0 < 5
positive-5 = omega arith

pub positive-10 : 0 < 10
positive-10 = omega arith

pub positive-1000 : 0 < 1000
positive-1000 = omega arith

pub positive-2000 : 0 < 2000
positive-2000 = omega arith

-- what decides an inequality of fractions
pub ruleset decides = (ratios, positive-1, positive-2, positive-5, positive-10, positive-1000, positive-2000)

pub over-is : (n d : ℕ) → 0 < d → make (pos n) d ≡ ratio n 0 d
over-is n d h = make-ratio (pos n) d h

is_real_kind : Kind → Type 0
is_real_kind kind.Real = Unit {0}
is_real_kind kind.Bool = ⊥

pub real_not_bool : {A : Type 0} → kind.Real ≡ kind.Bool → A
unfolding is_real_kind
real_not_bool e = absurd (subst is_real_kind e tt)

-- ---- the guard at 5, and its box
pub in_low : literal (codes "0") ≤ₙ whole 5
in_low = rw (literal-0, whole-is 5) (simp decides (omega arith))

pub in_high : whole 5 ≤ₙ literal (codes "10")
in_high = rw (literal-10, whole-is 5) (simp decides (omega arith))

pub edge : literal (codes "5") -ₙ whole 5 ≤ₙ whole 0
edge = rw (literal-5, whole-is 5, whole-is 0) (simp decides (omega arith))

pub above : whole 0 <ₙ literal (codes "5") -ₙ make (pos 9999) 2000
above = rw (literal-5, whole-is 0, over-is 9999 2000 (omega arith)) (simp decides (omega arith))

pub below : literal (codes "5") -ₙ make (pos 9999) 2000 <ₙ make (pos 1) 1000
below = rw (literal-5, over-is 9999 2000 (omega arith), over-is 1 1000 (omega arith)) (simp decides (omega arith))

pub far_low : literal (codes "0") ≤ₙ make (pos 4999) 1000
far_low = rw (literal-0, over-is 4999 1000 (omega arith)) (simp decides (omega arith))

pub far_high : make (pos 4999) 1000 ≤ₙ literal (codes "10")
far_high = rw (literal-10, over-is 4999 1000 (omega arith)) (simp decides (omega arith))

pub far : whole 0 <ₙ literal (codes "5") -ₙ make (pos 4999) 1000
far = rw (literal-5, whole-is 0, over-is 4999 1000 (omega arith)) (simp decides (omega arith))

pub not_below : make (pos 1) 1000 ≤ₙ literal (codes "5") -ₙ make (pos 4999) 1000
not_below = rw (literal-5, over-is 1 1000 (omega arith), over-is 4999 1000 (omega arith)) (simp decides (omega arith))

pub three_low : literal (codes "0") ≤ₙ whole 3
three_low = rw (literal-0, whole-is 3) (simp decides (omega arith))

pub three_high : whole 3 ≤ₙ literal (codes "10")
three_high = rw (literal-10, whole-is 3) (simp decides (omega arith))

-- x in its box is at most 20
pub within : (a : Number) → a ≤ₙ literal (codes "10") → a -ₙ literal (codes "20") ≤ₙ whole 0
within a h = elim (parts_of a) [ parts p n d k e ↦ rw (e, literal-20, whole-is 0) (simp decides (let g : ratio p n d ≤ₙ ratio 10 0 1 = rw (← e, ← literal-10) h in let f = simp decides at g in omega arith)) ]

-- ---- boxes
pub zero_ten : literal (codes "0") ≤ₙ literal (codes "10")
zero_ten = rw (literal-0, literal-10) (simp decides (omega arith))

pub zero_one : literal (codes "0") ≤ₙ literal (codes "1")
zero_one = rw (literal-0, literal-1) (simp decides (omega arith))

pub two_three : literal (codes "2") <ₙ literal (codes "3")
two_three = rw (literal-2, literal-3) (simp decides (omega arith))

-- ---- x = x + u
pub low_of : (k : ℕ) → literal (codes "0") ≤ₙ whole k
low_of k = rw (literal-0, whole-is k) (simp decides (omega arith))

pub four_high : whole 4 ≤ₙ literal (codes "10")
four_high = rw (literal-10, whole-is 4) (simp decides (omega arith))

pub ten_high : whole 10 ≤ₙ literal (codes "10")
ten_high = rw (literal-10, whole-is 10) (simp decides (omega arith))

pub eleven_high : literal (codes "10") <ₙ whole 11
eleven_high = rw (literal-10, whole-is 11) (simp decides (omega arith))

pub one_low : neg (literal (codes "1")) ≤ₙ whole 1
one_low = rw (literal-1, whole-is 1) (simp decides (omega arith))

pub one_high : whole 1 ≤ₙ literal (codes "1")
one_high = rw (literal-1, whole-is 1) (simp decides (omega arith))

pub sum_of : (a b : ℕ) → whole (a + b) ≡ whole a +ₙ whole b
sum_of a b = rw (whole-is (a + b), whole-is a, whole-is b) (simp decides (omega arith))

pub four_five : whole 4 ≤ₙ literal (codes "5")
four_five = rw (literal-5, whole-is 4) (simp decides (omega arith))

pub five_five : whole 5 ≤ₙ literal (codes "5")
five_five = rw (literal-5, whole-is 5) (simp decides (omega arith))

pub five_six : literal (codes "5") <ₙ whole 6
five_six = rw (literal-5, whole-is 6) (simp decides (omega arith))

pub ends : neg (literal (codes "1")) ≤ₙ literal (codes "1")
ends = rw literal-1 (simp decides (omega arith))

-- ---- truths
pub one_is_one : is_one (whole 1) ≡ true
unfolding is_one whole make gcd
one_is_one = refl

pub zero_is_not_one : is_one (whole 0) ≡ false
unfolding is_one whole make gcd
zero_is_not_one = refl

pub bit-true : (b : Bool) → is_one (bit b) ≡ b
bit-true true = one_is_one
bit-true false = zero_is_not_one

pub bit_low : (b : Bool) → whole 0 ≤ₙ bit b
bit_low true = rw (whole-is 0, whole-is 1) (simp decides (omega arith))
bit_low false = le_refl' (whole 0)

pub bit_high : (b : Bool) → bit b ≤ₙ whole 1
bit_high true = le_refl' (whole 1)
bit_high false = rw (whole-is 0, whole-is 1) (simp decides (omega arith))

pub bit_is : (b : Bool) → IsBit (bit b)
bit_is true = inr refl
bit_is false = inl refl

-- ---- twice x
pub twice_three : whole 6 ≡ literal (codes "2") *ₙ whole 3
twice_three = rw (literal-2, whole-is 6, whole-is 3) (simp decides (omega arith))

pub nothing_plus_twice : (a : Number) → whole 0 *ₙ whole 0 +ₙ a *ₙ whole 0 ≡ whole 0
nothing_plus_twice a = rw (mul_zero (whole 0), mul_zero a) (add_zero (whole 0))

-- ---- the thermostat
pub warm : literal (codes "30") ≡ whole 30
warm = rw (literal-30, whole-is 30) (simp decides (omega arith))

pub none : literal (codes "0") ≡ whole 0
none = rw (literal-0, whole-is 0) (simp decides (omega arith))

pub twenty_not_hot : whole 0 <ₙ literal (codes "22") -ₙ whole 20
twenty_not_hot = rw (literal-22, whole-is 0, whole-is 20) (simp decides (omega arith))

pub twenty_far : make (pos 1) 1000 ≤ₙ literal (codes "22") -ₙ whole 20
twenty_far = rw (literal-22, over-is 1 1000 (omega arith), whole-is 20) (simp decides (omega arith))

pub twenty_not_cold : whole 0 <ₙ whole 20 -ₙ literal (codes "18")
twenty_not_cold = rw (literal-18, whole-is 0, whole-is 20) (simp decides (omega arith))

pub twenty_far_up : make (pos 1) 1000 ≤ₙ whole 20 -ₙ literal (codes "18")
twenty_far_up = rw (literal-18, over-is 1 1000 (omega arith), whole-is 20) (simp decides (omega arith))

pub hot_now : literal (codes "22") -ₙ whole 22 ≤ₙ whole 0
hot_now = rw (literal-22, whole-is 0, whole-is 22) (simp decides (omega arith))

pub not_cold : whole 0 <ₙ whole 22 -ₙ literal (codes "18")
not_cold = rw (literal-18, whole-is 0, whole-is 22) (simp decides (omega arith))

pub far_up : make (pos 1) 1000 ≤ₙ whole 22 -ₙ literal (codes "18")
far_up = rw (literal-18, over-is 1 1000 (omega arith), whole-is 22) (simp decides (omega arith))

pub next_22 : literal (codes "0.8") *ₙ whole 20 +ₙ (literal (codes "1") -ₙ literal (codes "0.8")) *ₙ (whole 0 +ₙ whole 30) ≡ whole 22
next_22 = rw (literal-four_fifths, literal-1, whole-is 20, whole-is 0, whole-is 30, whole-is 22) (simp decides (omega arith))

pub next_118 : literal (codes "0.8") *ₙ whole 22 +ₙ (literal (codes "1") -ₙ literal (codes "0.8")) *ₙ (whole 0 +ₙ whole 30) ≡ make (pos 118) 5
next_118 = rw (literal-four_fifths, literal-1, whole-is 22, whole-is 0, whole-is 30, over-is 118 5 (omega arith)) (simp decides (omega arith))

-- k lies in the box of the temperature and in that of the air outside
pub cool : (k : ℕ) → neg (literal (codes "10")) ≤ₙ whole k
cool k = rw (literal-10, whole-is k) (simp decides (omega arith))

pub below_60 : (k : ℕ) → k ≤ 55 → whole k ≤ₙ literal (codes "60")
below_60 k h = rw (literal-60, whole-is k) (simp decides (omega arith))

pub below_55 : (k : ℕ) → k ≤ 55 → whole k ≤ₙ literal (codes "55")
below_55 k h = rw (literal-55, whole-is k) (simp decides (omega arith))

pub zero_outside : whole 0 ≤ₙ literal (codes "30")
zero_outside = rw (literal-30, whole-is 0) (simp decides (omega arith))

pub box_of_T : neg (literal (codes "10")) ≤ₙ literal (codes "60")
box_of_T = rw (literal-10, literal-60) (simp decides (omega arith))

pub box_outside : neg (literal (codes "10")) ≤ₙ literal (codes "30")
box_outside = rw (literal-10, literal-30) (simp decides (omega arith))

-- ---- casts
pub three_tenths : literal (codes "0.1") +ₙ literal (codes "0.2") ≡ make (pos 3) 10
three_tenths = rw (literal-tenth, literal-fifth, over-is 3 10 (omega arith)) (simp decides (omega arith))

pub three_more : whole 0 +ₙ literal (codes "3") *ₙ whole 1 +ₙ literal (codes "2") *ₙ whole 0 ≡ whole 3
three_more = rw (literal-3, literal-2, whole-is 0, whole-is 1, whole-is 3) (simp decides (omega arith))

pub three_of_four : literal (codes "3") *ₙ whole 1 +ₙ literal (codes "2") *ₙ whole 0 ≤ₙ literal (codes "4")
three_of_four = rw (literal-3, literal-2, literal-4, whole-is 0, whole-is 1) (simp decides (omega arith))

pub five_of_four : literal (codes "4") <ₙ literal (codes "3") *ₙ whole 1 +ₙ literal (codes "2") *ₙ whole 1
five_of_four = rw (literal-3, literal-2, literal-4, whole-is 1) (simp decides (omega arith))

pub zero_high : whole 0 ≤ₙ literal (codes "10")
zero_high = rw (literal-10, whole-is 0) (simp decides (omega arith))

pub half_below : make (pos 1) 2 <ₙ whole 1
half_below = rw (over-is 1 2 (omega arith), whole-is 1) (simp decides (omega arith))

pub half_above : whole 0 <ₙ make (pos 1) 2
half_above = rw (over-is 1 2 (omega arith), whole-is 0) (simp decides (omega arith))

-- ---- literals that are whole numbers
pub zero_is : literal (codes "0") ≡ whole 0
zero_is = rw (literal-0, whole-is 0) (simp decides (omega arith))

pub two_is : literal (codes "2") ≡ whole 2
two_is = rw (literal-2, whole-is 2) (simp decides (omega arith))

pub three_is : literal (codes "3") ≡ whole 3
three_is = rw (literal-3, whole-is 3) (simp decides (omega arith))

pub four_is : literal (codes "4") ≡ whole 4
four_is = rw (literal-4, whole-is 4) (simp decides (omega arith))

pub five_is : literal (codes "5") ≡ whole 5
five_is = rw (literal-5, whole-is 5) (simp decides (omega arith))

pub ten_is : literal (codes "10") ≡ whole 10
ten_is = rw (literal-10, whole-is 10) (simp decides (omega arith))
