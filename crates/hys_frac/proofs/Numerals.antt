use Rattle.std.proofs.Common.{◌≡◌, ℕ, zero, suc, ◌+◌, ◌-◌, ◌*◌, ◌^◌, ◌<◌, ◌≤◌, List, [], ◌∷◌, ◌++◌, length, take, drop, get_or, Bool, true, false, cond, refl, ◌∙◌, ap, subst, arith, tests, add-one, mul-le-mul_right, mul-le-mul_left}
use Rattle.std.proofs.Math.Seq.{drop-cons}
use Rattle.std.proofs.Math.Nat.{pow-succ'}
use Rattle.std.proofs.lemmas.Nat.{pow-add}
use Rattle.std.specs.Char.{is_ascii_digit, digit_value}
use Rattle.std.specs.Str.Parse.{AllDigits, digits_value_after}
use Rattle.std.specs.Float.Numeral.{digits_len}
use Rattle.std.specs.Int.{IsInRange}
use Rattle.std.proofs.lemmas.Str.{digit_value_digit}
use Rattle.std.proofs.lemmas.Str.Parse.{digit_from_value}

pub power_pos : (n : ℕ) → 0 < 10 ^ n
power_pos zero = omega arith
power_pos (suc n) = rw (pow-succ' 10 n) (omega (arith, power_pos n))

pub power_grows : (m n : ℕ) → m ≤ n → 10 ^ m ≤ 10 ^ n
power_grows m n h = rw (split, pow-add 10 m (n - m)) (omega (arith, mul-le-mul_left (10 ^ m) (power_pos (n - m))))
  where
    split : n ≡ m + (n - m)
    split = omega arith

pub drop_here : (ds : List ℕ) (i : ℕ) → i < length ds → drop i ds ≡ get_or ds i 0 ∷ drop (i + 1) ds
drop_here ds i h = rw (add-one, drop-cons ds i 0 h) refl

-- one more digit
pub record Step (v d : ℕ) (ds rest : List ℕ) : Type 0 where
  pub low : 48 ≤ d
  pub digits : AllDigits 10 rest
  pub value : digits_value_after 10 v ds ≡ digits_value_after 10 (v * 10 + (d - 48)) rest
  pub room : (v * 10 + (d - 48) + 1) * 10 ^ length rest ≤ 10 ^ 36
  pub small : v * 10 + (d - 48) + 1 ≤ 10 ^ 36

at_least_factor : (x y k : ℕ) → 0 < y → x * y ≤ k → x ≤ k
at_least_factor x y k h e = omega (arith, mul-le-mul_left x h)

digit_is : (d : ℕ) → digit_value d < 10 → (48 ≤ d) × (digit_value d ≡ d - 48) × (d - 48 < 10)
digit_is d h = let r : IsInRange 48 57 d = digit_from_value d h in let e : digit_value d + 48 ≡ d = digit_value_digit d r in (omega arith, omega arith, omega arith)

pub digit_step : (v d : ℕ) (ds rest : List ℕ) → ds ≡ d ∷ rest → AllDigits 10 ds → (v + 1) * 10 ^ length ds ≤ 10 ^ 36 → Step v d ds rest
digit_step v d ds rest e h k =
    let g : AllDigits 10 (d ∷ rest) = subst (AllDigits 10) e h in
    let p : (48 ≤ d) × (digit_value d ≡ d - 48) × (d - 48 < 10) = digit_is d g.0 in
    let l : (v + 1) * 10 ^ length (d ∷ rest) ≤ 10 ^ 36 = subst (λ (xs : List ℕ). (v + 1) * 10 ^ length xs ≤ 10 ^ 36) e k in
    let m : (v + 1) * (10 * 10 ^ length rest) ≤ 10 ^ 36 = subst (λ (x : ℕ). (v + 1) * x ≤ 10 ^ 36) (pow-succ' 10 (length rest)) l in
    let room : (v * 10 + (d - 48) + 1) * 10 ^ length rest ≤ 10 ^ 36 = roomy v (d - 48) (10 ^ length rest) p.2 m in
    record { low = p.0; digits = g.1; value = ap (digits_value_after 10 v) e ∙ ap (λ (x : ℕ). digits_value_after 10 (v * 10 + x) rest) p.1; room = room; small = at_least_factor _ (10 ^ length rest) _ (power_pos (length rest)) room }
  where
    roomy : (v x y : ℕ) → x < 10 → (v + 1) * (10 * y) ≤ 10 ^ 36 → (v * 10 + x + 1) * y ≤ 10 ^ 36
    roomy v x y h m = omega (arith, mul-le-mul_right {m = v * 10 + x + 1} {n = (v + 1) * 10} y (omega arith))

pub digits_append : (v : ℕ) (a b : List ℕ) → digits_value_after 10 v (a ++ b) ≡ digits_value_after 10 (digits_value_after 10 v a) b
digits_append v [] b = refl
digits_append v (c ∷ cs) b = digits_append (v * 10 + digit_value c) cs b

-- digits that begin with a positive number are not 0
pub digits_positive : (v : ℕ) (ds : List ℕ) → 0 < v → 0 < digits_value_after 10 v ds
digits_positive v [] h = h
digits_positive v (c ∷ cs) h = digits_positive (v * 10 + digit_value c) cs (omega arith)

in_range : (x : ℕ) → is_ascii_digit x ≡ true → IsInRange 48 57 x
in_range x e = grind (arith, tests)

pub digits_at_front : (xs : List ℕ) (n : ℕ) → n ≤ digits_len xs → AllDigits 10 (take n xs)
digits_at_front xs zero h = tt
digits_at_front [] (suc n) h = tt
digits_at_front (x ∷ xs) (suc n) h = go (digits_at_front xs n) (is_ascii_digit x) refl h
  where
    go : (n ≤ digits_len xs → AllDigits 10 (take n xs)) → (b : Bool) → is_ascii_digit x ≡ b → suc n ≤ cond b (1 + digits_len xs) 0 → (digit_value x < 10) × AllDigits 10 (take n xs)
    go rest true e k = let r : IsInRange 48 57 x = in_range x e in (omega (arith, digit_value_digit x r), rest (omega arith))
    go rest false e k = absurd (omega arith)
