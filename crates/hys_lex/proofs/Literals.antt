-- The longest literal that a text begins with: the longest mantissa, and the longest exponent after it.
use Rattle.std.proofs.Common.{◌≡◌, ◌<◌, ◌≤◌, ◌+◌, ◌-◌, ◌⊎◌, ℕ, zero, suc, List, [], ◌∷◌, ◌++◌, length, get_or, take, drop, Bool, true, false, refl, sym, ◌∙◌, ap, subst, arith, inl, inr, length-append, length-drop}
use Rattle.std.proofs.lemmas.List.{get_or-take, length-take-le, drop_more, get_or-drop, get_or_append_left, get_or_at, get_or-append-add, take-take, append_cancel_left, take_more}
use Rattle.std.proofs.lemmas.Bool.{cases_lt, cases_eq}
use Rattle.std.proofs.lemmas.Bool.Decides.{nat_tests}
use Rattle.std.proofs.lemmas.List.Sums.{prefix_len_passes, prefix_len-le-length}
use Rattle.std.proofs.Math.Seq.{take-add, take-append_seam}
use Rattle.std.specs.List.{AllPass, prefix_len}
use Rattle.hys_lex.specs.Bytes.{is_digit, is_exponent_mark, is_plus_or_minus}
use Rattle.hys_lex.specs.Pieces.{IsLongest, IsDigits, IsPointed, IsMantissa, IsExponent, IsLiteral}
use Rattle.hys_lex.proofs.Runs.{front_passes, front_most, run_most, reads}

-- where a number with a point stands at the front, its parts are the longest runs of digits
record PointedAt (text : List ℕ) (m : ℕ) : Type 0 where
  whole : ℕ
  part : ℕ
  whole_is : whole ≡ prefix_len is_digit text
  point : get_or text whole 0 ≡ 46
  part_is : part ≤ prefix_len is_digit (drop (whole + 1) text)
  some_digit : 0 < whole + part
  sum : m ≡ whole + 1 + part

pointed_at : (text : List ℕ) (m : ℕ) → m ≤ length text → IsPointed (take m text) → PointedAt text m
pointed_at text m within p =
    let w = length p.whole in
    let s : List ℕ = p.whole ++ (46 ∷ p.part) in
    let sum : m ≡ w + 1 + length p.part = omega (arith, length-take-le m text within, ap length p.joined, length-append p.whole (46 ∷ p.part)) in
    let D : ℕ → Type 0 = λ b. is_digit b ≡ true in
    let whole_digit : (k : ℕ) → k < w → is_digit (get_or text k 0) ≡ true = λ k h.
    let is : get_or text k 0 ≡ get_or p.whole k 0 = reads text s m p.joined k (omega arith) ∙ get_or_append_left p.whole (46 ∷ p.part) 0 k h in
    subst D (sym is) (p.whole_digits k 0 h) in
    let low : w ≤ prefix_len is_digit text = run_most is_digit text w (omega arith) whole_digit in
    let point : get_or text w 0 ≡ 46 = reads text s m p.joined w (omega arith) ∙ get_or_at p.whole 46 p.part 0 w refl in
    let high : prefix_len is_digit text ≤ w = elim (cases_lt w (prefix_len is_digit text)) [
      | inl less ↦ let yes : is_digit 46 ≡ true = subst D point (prefix_len_passes is_digit text w 0 less) in absurd (cc)
      | inr more ↦ more
    ] in
    let part_digit : (k : ℕ) → k < length p.part → is_digit (get_or (drop (w + 1) text) k 0) ≡ true = λ k h.
    let is : get_or (drop (w + 1) text) k 0 ≡ get_or p.part k 0 =
    get_or-drop (w + 1) text k 0 ∙ reads text s m p.joined (w + 1 + k) (omega arith) ∙ ap (λ i. get_or s i 0) (omega arith) ∙ get_or-append-add p.whole (46 ∷ p.part) (suc k) 0 in
    subst D (sym is) (p.part_digits k 0 h) in
    record {
      whole = w;
      part = length p.part;
      whole_is = omega arith;
      point = point;
      part_is = run_most is_digit (drop (w + 1) text) (length p.part) (omega (arith, length-drop (w + 1) text)) part_digit;
      some_digit = p.some_digit;
      sum = sum;
    }

digits_found : (text : List ℕ) → 0 < prefix_len is_digit text → IsDigits (take (prefix_len is_digit text) text)
digits_found text some = (omega (arith, length-take-le (prefix_len is_digit text) text (prefix_len-le-length is_digit text)), front_passes is_digit text)

digits_most : (text : List ℕ) (m : ℕ) → m ≤ length text → IsDigits (take m text) → m ≤ prefix_len is_digit text
digits_most text m within d = front_most is_digit text m within d.1

-- no point after the digits
pub mantissa_whole : (text : List ℕ) → (get_or text (prefix_len is_digit text) 0 ≡ 46 → ⊥) → IsLongest IsMantissa text (prefix_len is_digit text)
mantissa_whole text no_point = record {
  within = prefix_len-le-length is_digit text;
  found = λ some. inl (digits_found text some);
  most = λ m within mantissa. elim mantissa [
    | inl d ↦ digits_most text m within d
    | inr p ↦ let at : PointedAt text m = pointed_at text m within p in
        absurd (no_point (ap (λ i. get_or text i 0) (sym at.whole_is) ∙ at.point))
  ];
}

-- a point with no digit on either side
pub mantissa_none : (text : List ℕ) → prefix_len is_digit text ≡ 0 → prefix_len is_digit (drop (prefix_len is_digit text + 1) text) ≡ 0 → IsLongest IsMantissa text 0
mantissa_none text whole part = record {
  within = omega arith;
  found = λ some. absurd (omega arith);
  most = λ m within mantissa. elim mantissa [
    | inl d ↦ omega (arith, digits_most text m within d, whole)
    | inr p ↦ let at : PointedAt text m = pointed_at text m within p in
        let same : prefix_len is_digit (drop (at.whole + 1) text) ≡ 0 = ap (λ i. prefix_len is_digit (drop (i + 1) text)) at.whole_is ∙ part in
        absurd (omega (arith, at.part_is, at.some_digit, at.whole_is, whole, same))
  ];
}

pub mantissa_pointed : (text : List ℕ) (whole part : ℕ) → whole ≡ prefix_len is_digit text → whole < length text → get_or text whole 0 ≡ 46 → part ≡ prefix_len is_digit (drop (whole + 1) text) → 0 < whole + part →
    IsLongest IsMantissa text (whole + 1 + part)
mantissa_pointed text whole part whole_is inside point part_is some =
    let rest = drop (whole + 1) text in
    let fits : part ≤ length rest = omega (arith, part_is, prefix_len-le-length is_digit rest) in
    let P : ℕ → Type 0 = λ n. AllPass is_digit (take n text) in
    let Q : ℕ → Type 0 = λ n. AllPass is_digit (take n rest) in
    let split : take (whole + 1 + part) text ≡ take whole text ++ (46 ∷ take part rest) =
    ap (λ n. take n text) (omega arith) ∙ take-add whole (suc part) text ∙ ap (λ xs. take whole text ++ take (suc part) xs) (drop_more text whole 0 inside ∙ ap (λ b. b ∷ rest) point) in
    record {
      within = omega (arith, fits, length-drop (whole + 1) text);
      found = λ h. inr (record {
        whole = take whole text;
        part = take part rest;
        whole_digits = subst P (sym whole_is) (front_passes is_digit text);
        part_digits = subst Q (sym part_is) (front_passes is_digit rest);
        some_digit = omega (arith, some, length-take-le whole text (omega arith), length-take-le part rest fits);
        joined = split;
      });
      most = λ m within mantissa. elim mantissa [
        | inl d ↦ omega (arith, digits_most text m within d, whole_is)
        | inr p ↦ let at : PointedAt text m = pointed_at text m within p in
            let same : prefix_len is_digit (drop (at.whole + 1) text) ≡ part = ap (λ i. prefix_len is_digit (drop (i + 1) text)) (at.whole_is ∙ sym whole_is) ∙ sym part_is in
            omega (arith, at.sum, at.part_is, at.whole_is, whole_is, same)
      ];
    }

-- an exponent at the front, by where its digits begin
record ExponentAt (text : List ℕ) (m : ℕ) : Type 0 where
  front : ℕ
  digits : ℕ
  marked : is_exponent_mark (get_or text 0 0) ≡ true
  signed : (front ≡ 2) × (is_plus_or_minus (get_or text 1 0) ≡ true) ⊎ (front ≡ 1) × (is_plus_or_minus (get_or text 1 0) ≡ false)
  some_digit : 0 < digits
  digits_are : digits ≤ prefix_len is_digit (drop front text)
  sum : m ≡ front + digits

digit-unsigned : (b : ℕ) → is_digit b ≡ true → is_plus_or_minus b ≡ false
digit-unsigned b h = grind (arith, nat_tests)

digit-unmarked : (b : ℕ) → is_digit b ≡ true → is_exponent_mark b ≡ false
digit-unmarked b h = grind (arith, nat_tests)

-- the digits of a power that stand from a place on
power_digits : (text power : List ℕ) (start m : ℕ) → m ≤ length text → m ≡ start + length power → AllPass is_digit power → ((k : ℕ) → k < length power → get_or text (start + k) 0 ≡ get_or power k 0) →
    length power ≤ prefix_len is_digit (drop start text)
power_digits text power start m within sum digits read =
    run_most is_digit (drop start text) (length power) (omega (arith, length-drop start text))
    (λ k h. let D : ℕ → Type 0 = λ b. is_digit b ≡ true in subst D (sym (get_or-drop start text k 0 ∙ read k h)) (digits k 0 h))

exponent_at : (text : List ℕ) (m : ℕ) → m ≤ length text → IsExponent (take m text) → ExponentAt text m
exponent_at text m within x = elim x.signed [
  | inl e ↦
      let s : List ℕ = x.mark ∷ x.power in
      let joined : take m text ≡ s = x.joined ∙ ap (λ g. x.mark ∷ (g ++ x.power)) e in
      let sum : m ≡ 1 + length x.power = omega (arith, length-take-le m text within, ap length joined) in
      let D : ℕ → Type 0 = λ b. is_digit b ≡ true in
      let M : ℕ → Type 0 = λ b. is_exponent_mark b ≡ true in
      let read : (k : ℕ) → k < length x.power → get_or text (1 + k) 0 ≡ get_or x.power k 0 = λ k h. let step : 1 + k ≡ suc k = omega arith in reads text s m joined (1 + k) (omega arith) ∙ ap (λ i. get_or s i 0) step in
      record {
        front = 1;
        digits = length x.power;
        marked = subst M (sym (reads text s m joined 0 (omega arith))) x.marked;
        signed = inr (refl, digit-unsigned (get_or text 1 0) (subst D (sym (read 0 x.digits.0)) (x.digits.1 0 0 x.digits.0)));
        some_digit = x.digits.0;
        digits_are = power_digits text x.power 1 m within sum x.digits.1 read;
        sum = sum;
      }
  | inr e ↦ elim e [ inl p ↦ with_sign text m 43 within x p refl | inr p ↦ with_sign text m 45 within x p refl ]
]
  where
    with_sign : (text : List ℕ) (m sign : ℕ) → m ≤ length text → (x : IsExponent (take m text)) → x.sign ≡ sign ∷ [] → is_plus_or_minus sign ≡ true → ExponentAt text m
    with_sign text m sign within x e is_sign =
        let s : List ℕ = x.mark ∷ (sign ∷ x.power) in
        let joined : take m text ≡ s = x.joined ∙ ap (λ g. x.mark ∷ (g ++ x.power)) e in
        let sum : m ≡ 2 + length x.power = omega (arith, length-take-le m text within, ap length joined) in
        let M : ℕ → Type 0 = λ b. is_exponent_mark b ≡ true in
        let S : ℕ → Type 0 = λ b. is_plus_or_minus b ≡ true in
        let read : (k : ℕ) → k < length x.power → get_or text (2 + k) 0 ≡ get_or x.power k 0 = λ k h. let step : 2 + k ≡ suc (suc k) = omega arith in reads text s m joined (2 + k) (omega arith) ∙ ap (λ i. get_or s i 0) step in
        record {
          front = 2;
          digits = length x.power;
          marked = subst M (sym (reads text s m joined 0 (omega arith))) x.marked;
          signed = inl (refl, subst S (sym (reads text s m joined 1 (omega arith))) is_sign);
          some_digit = x.digits.0;
          digits_are = power_digits text x.power 2 m within sum x.digits.1 read;
          sum = sum;
        }

pub exponent_none : (text : List ℕ) → is_exponent_mark (get_or text 0 0) ≡ false → IsLongest IsExponent text 0
exponent_none text unmarked = record {
  within = omega arith;
  found = λ some. absurd (omega arith);
  most = λ m within x. let at : ExponentAt text m = exponent_at text m within x in absurd (cc (at.marked));
}

-- where the digits of an exponent begin
pub record PowerStart (text : List ℕ) (start : ℕ) : Type 0 where
  pub signed : is_plus_or_minus (get_or text 1 0) ≡ true → start ≡ 2
  pub plain : is_plus_or_minus (get_or text 1 0) ≡ false → start ≡ 1

one_front : (text : List ℕ) (start m : ℕ) → PowerStart text start → (at : ExponentAt text m) → at.front ≡ start
one_front text start m s at = elim at.signed [ inl h ↦ h.0 ∙ sym (s.signed h.1) | inr h ↦ h.0 ∙ sym (s.plain h.1) ]

at_most : (text : List ℕ) (start m : ℕ) → PowerStart text start → m ≤ length text → IsExponent (take m text) → (m ≤ start + prefix_len is_digit (drop start text)) × (0 < prefix_len is_digit (drop start text))
at_most text start m s within x =
    let at : ExponentAt text m = exponent_at text m within x in
    let same : at.front ≡ start = one_front text start m s at in
    let digits : prefix_len is_digit (drop at.front text) ≡ prefix_len is_digit (drop start text) = ap (λ i. prefix_len is_digit (drop i text)) same in
    (omega (arith, at.sum, at.digits_are, same, digits), omega (arith, at.some_digit, at.digits_are, digits))

pub exponent_bare : (text : List ℕ) (start : ℕ) → PowerStart text start → prefix_len is_digit (drop start text) ≡ 0 → IsLongest IsExponent text 0
exponent_bare text start s none = record {
  within = omega arith;
  found = λ some. absurd (omega arith);
  most = λ m within x. absurd (omega (arith, (at_most text start m s within x).1, none));
}

sign_is : (b : ℕ) → is_plus_or_minus b ≡ true → (b ∷ [] ≡ 43 ∷ []) ⊎ (b ∷ [] ≡ 45 ∷ [])
sign_is b h = elim (cases_eq b 43) [ inl e ↦ inl (ap (λ x. x ∷ []) e) | inr other ↦ let e : b ≡ 45 = grind (arith, nat_tests) in inr (ap (λ x. x ∷ []) e) ]

pub exponent_found : (text : List ℕ) (start digits : ℕ) → is_exponent_mark (get_or text 0 0) ≡ true → PowerStart text start → start ≤ length text → digits ≡ prefix_len is_digit (drop start text) → 0 < digits →
    IsLongest IsExponent text (start + digits)
exponent_found text start digits marked s inside digits_are some =
    record {
      within = omega (arith, fits);
      found = λ h. found (is_plus_or_minus (get_or text 1 0)) refl;
      most = λ m within x. omega (arith, (at_most text start m s within x).0, digits_are);
    }
  where
    rest : List ℕ
    rest = drop start text

    fits : start + digits ≤ length text
    fits = omega (arith, digits_are, inside, prefix_len-le-length is_digit (drop start text), length-drop start text)

    power : IsDigits (take digits (drop start text))
    power =
        let P : ℕ → Type 0 = λ n. AllPass is_digit (take n (drop start text)) in
        (omega (arith, some, fits, length-drop start text, length-take-le digits (drop start text) (omega (arith, fits, length-drop start text))), subst P (sym digits_are) (front_passes is_digit (drop start text)))

    split : (front : List ℕ) → take start text ≡ front → take (start + digits) text ≡ front ++ take digits (drop start text)
    split front e = take-add start digits text ∙ ap (λ xs. xs ++ take digits (drop start text)) e

    found : (b : Bool) → is_plus_or_minus (get_or text 1 0) ≡ b → IsExponent (take (start + digits) text)
    found true e =
        let two : start ≡ 2 = s.signed e in
        let inside_2 : 1 < length text = omega arith in
        let inside_1 : 0 < length text = omega arith in
        let front : take start text ≡ get_or text 0 0 ∷ (get_or text 1 0 ∷ []) = ap (λ n. take n text) two ∙ take_more text 1 0 inside_2 ∙ ap (λ xs. xs ++ (get_or text 1 0 ∷ [])) (take_more text 0 0 inside_1) in
        record {
          mark = get_or text 0 0;
          sign = get_or text 1 0 ∷ [];
          power = take digits (drop start text);
          marked = marked;
          signed = inr (sign_is (get_or text 1 0) e);
          digits = power;
          joined = split _ front;
        }
    found false e =
        let one : start ≡ 1 = s.plain e in
        let inside_1 : 0 < length text = omega arith in
        let front : take start text ≡ get_or text 0 0 ∷ [] = ap (λ n. take n text) one ∙ take_more text 0 0 inside_1 in
        record {
          mark = get_or text 0 0;
          sign = [];
          power = take digits (drop start text);
          marked = marked;
          signed = inl refl;
          digits = power;
          joined = split _ front;
        }

point_or_digit : (part : List ℕ) → AllPass is_digit part → (n : ℕ) → n < 1 + length part → is_exponent_mark (get_or (46 ∷ part) n 0) ≡ false
point_or_digit part digits zero h = refl
point_or_digit part digits (suc n) h = digit-unmarked (get_or part n 0) (digits n 0 (omega arith))

mantissa_unmarked : (bytes : List ℕ) → IsMantissa bytes → (k : ℕ) → k < length bytes → is_exponent_mark (get_or bytes k 0) ≡ false
mantissa_unmarked bytes mantissa k h = elim mantissa [ inl d ↦ digit-unmarked (get_or bytes k 0) (d.1 k 0 h) | inr p ↦ pointed bytes p k h ]
  where
    pointed : (bytes : List ℕ) → IsPointed bytes → (k : ℕ) → k < length bytes → is_exponent_mark (get_or bytes k 0) ≡ false
    pointed bytes p k h =
        let E : ℕ → Type 0 = λ b. is_exponent_mark b ≡ false in
        let same : get_or bytes k 0 ≡ get_or (p.whole ++ (46 ∷ p.part)) k 0 = ap (λ xs. get_or xs k 0) p.joined in
        let size : length bytes ≡ length p.whole + 1 + length p.part = omega (arith, ap length p.joined, length-append p.whole (46 ∷ p.part)) in
        subst E (sym same)
        (elim (cases_lt k (length p.whole)) [
          | inl less ↦ subst E (sym (get_or_append_left p.whole (46 ∷ p.part) 0 k less)) (digit-unmarked (get_or p.whole k 0) (p.whole_digits k 0 less))
          | inr more ↦ after p k more (omega arith)
        ])
      where
        after : {bytes : List ℕ} (p : IsPointed bytes) (k : ℕ) → length p.whole ≤ k → k < length p.whole + 1 + length p.part → is_exponent_mark (get_or (p.whole ++ (46 ∷ p.part)) k 0) ≡ false
        after p k more less =
            let E : ℕ → Type 0 = λ b. is_exponent_mark b ≡ false in
            let n : ℕ = k - length p.whole in
            let at : get_or (p.whole ++ (46 ∷ p.part)) k 0 ≡ get_or (46 ∷ p.part) (k - length p.whole) 0 =
            ap (λ i. get_or (p.whole ++ (46 ∷ p.part)) i 0) (omega arith) ∙ get_or-append-add p.whole (46 ∷ p.part) (k - length p.whole) 0 in
            subst E (sym at) (point_or_digit p.part p.part_digits (k - length p.whole) (omega arith))

pub mantissa_some : (bytes : List ℕ) → IsMantissa bytes → 0 < length bytes
mantissa_some bytes mantissa = elim mantissa [ inl d ↦ d.0 | inr p ↦ omega (arith, ap length p.joined, length-append p.whole (46 ∷ p.part), p.some_digit) ]

-- a literal's mantissa stands at the front
front_mantissa : (text : List ℕ) (n : ℕ) → n ≤ length text → (l : IsLiteral (take n text)) → take (length l.mantissa) text ≡ l.mantissa
front_mantissa text n within l =
    let fits : length l.mantissa ≤ n = omega (arith, length-take-le n text within, ap length l.joined, length-append l.mantissa l.exponent) in
    sym (take-take (length l.mantissa) n text fits) ∙ ap (take (length l.mantissa)) l.joined ∙ take-append_seam l.mantissa l.exponent

pub literal_none : (text : List ℕ) → IsLongest IsMantissa text 0 → IsLongest IsLiteral text 0
literal_none text none = record {
  within = omega arith;
  found = λ some. absurd (omega arith);
  most = λ n within l.
      let fits : length l.mantissa ≤ length text = omega (arith, length-take-le n text within, ap length l.joined, length-append l.mantissa l.exponent) in
      absurd (omega (arith, none.most (length l.mantissa) fits (subst IsMantissa (sym (front_mantissa text n within l)) l.number), mantissa_some l.mantissa l.number));
}

pub literal_joined : (text : List ℕ) (m e : ℕ) → IsLongest IsMantissa text m → 0 < m → IsLongest IsExponent (drop m text) e → IsLongest IsLiteral text (m + e)
literal_joined text m e a some x = record {
  within = omega (arith, a.within, x.within, length-drop m text);
  found = λ h. record {
    mantissa = take m text;
    exponent = take e (drop m text);
    number = a.found some;
    power = elim (cases_lt 0 e) [ inl more ↦ inr (x.found more) | inr none ↦ let zero_is : e ≡ 0 = omega arith in inl (ap (λ n. take n (drop m text)) zero_is) ];
    joined = take-add m e text;
  };
  most = λ n within l. most n within l;
}
  where
    most : (n : ℕ) → n ≤ length text → IsLiteral (take n text) → n ≤ m + e
    most n within l =
        let size : n ≡ length l.mantissa + length l.exponent = omega (arith, length-take-le n text within, ap length l.joined, length-append l.mantissa l.exponent) in
        let low : length l.mantissa ≤ m = a.most (length l.mantissa) (omega arith) (subst IsMantissa (sym (front_mantissa text n within l)) l.number) in
        elim l.power [ inl none ↦ omega (arith, ap length none) | inr power ↦ with_power n within l power size low ]
      where
        with_power : (n : ℕ) → n ≤ length text → (l : IsLiteral (take n text)) → IsExponent l.exponent → n ≡ length l.mantissa + length l.exponent → length l.mantissa ≤ m → n ≤ m + e
        with_power n within l power size low =
            let k = length l.mantissa in
            let longer : 0 < length l.exponent = omega (arith, ap length power.joined) in
            let mark : get_or text k 0 ≡ power.mark = reads text (l.mantissa ++ l.exponent) n l.joined k (omega arith) ∙ ap (λ xs. get_or (l.mantissa ++ xs) k 0) power.joined ∙ get_or_at l.mantissa power.mark (power.sign ++ power.power) 0 k refl in
            elim (cases_lt k m) [
              | inl less ↦
                  let no : is_exponent_mark (get_or (take m text) k 0) ≡ false = mantissa_unmarked (take m text) (a.found some) k (omega (arith, length-take-le m text a.within)) in
                  let E : ℕ → Type 0 = λ b. is_exponent_mark b ≡ false in
                  let no_mark : is_exponent_mark power.mark ≡ false = subst E (get_or-take m text k 0 less ∙ mark) no in
                  absurd (cc power.marked)
              | inr more ↦
                  let same : length l.mantissa ≡ m = omega arith in
                  let front : take m text ≡ l.mantissa = ap (λ j. take j text) (sym same) ∙ front_mantissa text n within l in
                  let sum : n ≡ m + length l.exponent = omega arith in
                  let split : l.mantissa ++ take (length l.exponent) (drop m text) ≡ l.mantissa ++ l.exponent =
                  ap (λ xs. xs ++ take (length l.exponent) (drop m text)) (sym front) ∙ sym (take-add m (length l.exponent) text) ∙ ap (λ j. take j text) (sym sum) ∙ l.joined in
                  let rest : take (length l.exponent) (drop m text) ≡ l.exponent = append_cancel_left l.mantissa _ _ split in
                  omega (arith, x.most (length l.exponent) (omega (arith, length-drop m text)) (subst IsExponent (sym rest) power))
            ]
