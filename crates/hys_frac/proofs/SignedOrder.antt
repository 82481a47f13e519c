-- The order of two ratios by their signs, and then by the sizes of their parts.
use Rattle.std.proofs.Common.{◌≡◌, ℕ, ◌+◌, ◌*◌, ◌<◌, ◌^◌, ℤ, pos, negsuc, ◌-ℤ◌, ◌<ℤ◌, int_lt, unsigned_abs, refl, ◌∙◌, ap, ap₂, subst, subst₂, true, false, arith, mul-pos, FitsSigned, to_z, of_z, to_z-of_z, Less, Equal, Greater, Ordering}
use Rattle.std.specs.Ordering.{MatchOrdering, nat_cmp}
use mir.Syntax.{w128}
use borrow.Author.Differences.{ints, up, down}
use Rattle.hys_number.specs.Number.{Number, make}
use Rattle.hys_number.specs.Ops.{◌<ₙ◌, ◌/ₙ◌, int}
use Rattle.hys_number.proofs.Laws.{same-ratio, lt-ratio}
use Rattle.hys_number.proofs.Inverse.{make-ratio, made_positive, made_negative, made_quotient}
use Rattle.hys_frac.proofs.Fracs.{negated}
use Rattle.hys_frac.proofs.QuotientOrder.{alike, nat_ranks}

-- the order of two numbers, as `MatchOrdering` says it
abbrev Ranked : Ordering → Number → Number → Type 0
Ranked o q r = MatchOrdering o (q <ₙ r) (q ≡ r) (r <ₙ q)

carried : {A B C D E F : Type 0} (o : Ordering) → MatchOrdering o A B C → (A → D) → (B → E) → (C → F) → MatchOrdering o D E F
carried Less h f g k = f h
carried Equal h f g k = g h
carried Greater h f g k = k h

ranked : (x z : ℤ) (y w : ℕ) (o : Ordering) → 0 < y → 0 < w → o ≡ nat_cmp (up x * w + down z * y) (up z * y + down x * w) → Ranked o (make x y) (make z w)
ranked x z y w o p q e = rw (make-ratio x y p, make-ratio z w q, e)
    (carried (nat_cmp (up x * w + down z * y) (up z * y + down x * w)) (nat_ranks (up x * w + down z * y) (up z * y + down x * w))
    (lt-ratio (up x) (down x) y (up z) (down z) w p q).1 (same-ratio (up x) (down x) y (up z) (down z) w p q).1
    (λ l. (lt-ratio (up z) (down z) w (up x) (down x) y q p).1 (omega arith)))

-- the sign and the size of a number, as the code tests and takes them
record Below (z : ℤ) : Type 0 where
  nothing : up z ≡ 0
  size : unsigned_abs z ≡ down z
  some : 0 < down z

is_below : (z : ℤ) → FitsSigned w128 z → int_lt (to_z w128 (of_z w128 z)) (pos 0) ≡ true → Below z
is_below z f t = go z (subst (λ (x : ℤ). int_lt x (pos 0) ≡ true) (to_z-of_z f) t)
  where
    go : (z : ℤ) → int_lt z (pos 0) ≡ true → Below z
    go (pos n) t = absurd (omega (arith, ints))
    go (negsuc n) t = record { nothing = refl; size = refl; some = omega arith }

is_above : (z : ℤ) → FitsSigned w128 z → int_lt (to_z w128 (of_z w128 z)) (pos 0) ≡ false → (down z ≡ 0) × (unsigned_abs z ≡ up z)
is_above z f t = go z (subst (λ (x : ℤ). int_lt x (pos 0) ≡ false) (to_z-of_z f) t)
  where
    go : (z : ℤ) → int_lt z (pos 0) ≡ false → (down z ≡ 0) × (unsigned_abs z ≡ up z)
    go (pos n) t = (refl, refl)
    go (negsuc n) t = absurd (omega (arith, ints))

pub both_below : (x z : ℤ) (y w u v : ℕ) (o : Ordering) → 0 < y → 0 < w → FitsSigned w128 x → FitsSigned w128 z →
    int_lt (to_z w128 (of_z w128 x)) (pos 0) ≡ true → int_lt (to_z w128 (of_z w128 z)) (pos 0) ≡ true →
    u ≡ unsigned_abs (to_z w128 (of_z w128 z)) → v ≡ unsigned_abs (to_z w128 (of_z w128 x)) → o ≡ nat_cmp (u * y) (v * w) → Ranked o (make x y) (make z w)
both_below x z y w u v o p q f g s t i j e =
    let a : Below x = is_below x f s in
    let b : Below z = is_below z g t in
    let m : u ≡ down z = i ∙ ap unsigned_abs (to_z-of_z g) ∙ b.size in
    let n : v ≡ down x = j ∙ ap unsigned_abs (to_z-of_z f) ∙ a.size in
    ranked x z y w o p q (rw (a.nothing, b.nothing) (e ∙ ap₂ nat_cmp (ap (λ (k : ℕ). k * y) m) (ap (λ (k : ℕ). k * w) n)
    ∙ alike (down z * y) (down x * w) (0 * w + down z * y) (0 * y + down x * w) (λ l. omega arith) (λ l. omega arith) (λ l. omega arith)))

pub both_above : (x z : ℤ) (y w u v : ℕ) (o : Ordering) → 0 < y → 0 < w → FitsSigned w128 x → FitsSigned w128 z →
    int_lt (to_z w128 (of_z w128 x)) (pos 0) ≡ false → int_lt (to_z w128 (of_z w128 z)) (pos 0) ≡ false →
    u ≡ unsigned_abs (to_z w128 (of_z w128 x)) → v ≡ unsigned_abs (to_z w128 (of_z w128 z)) → o ≡ nat_cmp (u * w) (v * y) → Ranked o (make x y) (make z w)
both_above x z y w u v o p q f g s t i j e =
    let a : (down x ≡ 0) × (unsigned_abs x ≡ up x) = is_above x f s in
    let b : (down z ≡ 0) × (unsigned_abs z ≡ up z) = is_above z g t in
    let m : u ≡ up x = i ∙ ap unsigned_abs (to_z-of_z f) ∙ a.1 in
    let n : v ≡ up z = j ∙ ap unsigned_abs (to_z-of_z g) ∙ b.1 in
    ranked x z y w o p q (rw (a.0, b.0) (e ∙ ap₂ nat_cmp (ap (λ (k : ℕ). k * w) m) (ap (λ (k : ℕ). k * y) n) ∙ alike (up x * w) (up z * y) (up x * w + 0 * y) (up z * y + 0 * w) (λ l. omega arith) (λ l. omega arith) (λ l. omega arith)))

pub apart : (x z : ℤ) (y w : ℕ) → 0 < y → 0 < w → FitsSigned w128 x → FitsSigned w128 z →
    int_lt (to_z w128 (of_z w128 x)) (pos 0) ≡ true → int_lt (to_z w128 (of_z w128 z)) (pos 0) ≡ false → make x y <ₙ make z w
apart x z y w p q f g s t =
    let a : Below x = is_below x f s in
    let b : (down z ≡ 0) × (unsigned_abs z ≡ up z) = is_above z g t in
    rw (make-ratio x y p, make-ratio z w q) ((lt-ratio (up x) (down x) y (up z) (down z) w p q).1
    (omega (arith, ap (λ (k : ℕ). k * w) a.nothing, ap (λ (k : ℕ). k * y) b.0, mul-pos {m = down x} {n = w} a.some q)))

-- ---- the sign of a divisor goes above
pub sign_moved : (num den : ℤ) (u : ℕ) → unsigned_abs num < 2 ^ 127 → int_lt (to_z w128 (of_z w128 den)) (pos 0) ≡ true → FitsSigned w128 num → FitsSigned w128 den →
    u ≡ unsigned_abs (to_z w128 (of_z w128 den)) → make (to_z w128 (of_z w128 (pos 0 -ℤ to_z w128 (of_z w128 num)))) u ≡ int num /ₙ int den
sign_moved num den u a t f g e =
    let n : int_lt den (pos 0) ≡ true = subst (λ (x : ℤ). int_lt x (pos 0) ≡ true) (to_z-of_z g) t in
    let l : den <ℤ pos 0 = omega (arith, ints) in
    ap₂ make (negated num a f) (e ∙ ap unsigned_abs (to_z-of_z g)) ∙ made_negative num den l ∙ made_quotient num den

pub sign_kept : (num den : ℤ) (u : ℕ) → ¬ (den ≡ pos 0) → int_lt (to_z w128 (of_z w128 den)) (pos 0) ≡ false → FitsSigned w128 num → FitsSigned w128 den →
    u ≡ unsigned_abs (to_z w128 (of_z w128 den)) → make (to_z w128 (of_z w128 num)) u ≡ int num /ₙ int den
sign_kept num den u z t f g e =
    let n : int_lt den (pos 0) ≡ false = subst (λ (x : ℤ). int_lt x (pos 0) ≡ false) (to_z-of_z g) t in
    let l : pos 0 <ℤ den = omega (arith, ints) in
    ap₂ make (to_z-of_z f) (e ∙ ap unsigned_abs (to_z-of_z g)) ∙ made_positive num den l ∙ made_quotient num den

-- ---- the quotients themselves
pub both_quotients : (x z : ℤ) (y w : ℕ) (q r : Number) (o : Ordering) → FitsSigned w128 x → FitsSigned w128 z → make x y ≡ q → make z w ≡ r →
    Ranked o (make (to_z w128 (of_z w128 x)) y) (make (to_z w128 (of_z w128 z)) w) → Ranked o q r
both_quotients x z y w q r o f g e i h = subst₂ (λ (q r : Number). Ranked o q r) (ap (λ (n : ℤ). make n y) (to_z-of_z f) ∙ e) (ap (λ (n : ℤ). make n w) (to_z-of_z g) ∙ i) h
