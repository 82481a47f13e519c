-- what is written is read back
use Rattle.std.proofs.Common.{◌≡◌, ◌+◌, ◌*◌, ◌^◌, ◌<◌, ◌≤◌, ◌&&◌, ℕ, suc, ℤ, pos, negsuc, neg_ℤ, unsigned_abs, List, [], ◌∷◌, ◌++◌, Bool, true, false, cond, length, take, drop, arith, tests, refl, ◌∙◌, sym, ap, ap₂, subst, nat_eq, nat_lt, slice_index, Ok, Err, IsTrue, append-nil}
use Rattle.std.specs.Fmt.{decimal, signed_decimal}
use Rattle.std.specs.Char.{is_ascii_digit, digit_value}
use Rattle.std.specs.Int.{IsInRange}
use Rattle.std.specs.Str.Parse.{AllDigits, digits_value, IsNumeral}
use Rattle.std.specs.Float.Numeral.{Parts, scan_numeral, digits_len, has_digits}
use Rattle.std.proofs.lemmas.Fmt.{decimal_is_IsNumeral, length-decimal-le}
use Rattle.std.proofs.lemmas.Float.Parse.{scan_numeral-text_of}
use Rattle.std.proofs.lemmas.Str.Parse.{digit_from_value}
use Rattle.hys_number.specs.Gcd.{gcd}
use Rattle.hys_number.specs.Number.{Number, make, make-parts, make_reduced}
use Rattle.hys_frac.proofs.Fracs.{fits_yes}
use Rattle.hys_number.specs.Ops.{neg, fits}
use Rattle.hys_frac.specs.Read.{judged, literal_value, literal_reading, ratio_reading, unsigned_reading, turned, reading}
use Rattle.hys_frac.specs.Written.{number_text}
use Rattle.hys_frac.specs.declared.read.FracFault.TheVariants.{Form}
use Rattle.hys_number.proofs.Bools.{lt_true, lt_false, eq_true, eq_false, all_true, both_true, or_false}
use Rattle.hys_frac.proofs.Readings.{as_ok}

digit_is : (c : ℕ) → digit_value c < 10 → (is_ascii_digit c ≡ true) × (48 ≤ c)
digit_is c h = let r : IsInRange 48 57 c = digit_from_value c h in (in_range c r.0 r.1, r.0)
  where
    in_range : (c : ℕ) → 48 ≤ c → c ≤ 57 → is_ascii_digit c ≡ true
    in_range c h k = grind (arith, tests)

len_of : (ds rest : List ℕ) → AllDigits 10 ds → digits_len rest ≡ 0 → digits_len (ds ++ rest) ≡ length ds
len_of [] rest h e = e
len_of (c ∷ cs) rest h e = ap (λ (b : Bool). cond b (1 + digits_len (cs ++ rest)) 0) (digit_is c h.0).0 ∙ one (digits_len (cs ++ rest)) (length cs) (len_of cs rest h.1 e)
  where
    one : (x y : ℕ) → x ≡ y → 1 + x ≡ suc y
    one x y e = omega arith

at_end : (ds : List ℕ) → slice_index ds (length ds) ≡ 0
at_end [] = refl
at_end (c ∷ cs) = at_end cs

at_slash : (ds rest : List ℕ) → slice_index (ds ++ 47 ∷ rest) (length ds) ≡ 47
at_slash [] rest = refl
at_slash (c ∷ cs) rest = at_slash cs rest

take_of : (ds rest : List ℕ) → take (length ds) (ds ++ rest) ≡ ds
take_of [] rest = refl
take_of (c ∷ cs) rest = ap (λ (xs : List ℕ). c ∷ xs) (take_of cs rest)

drop_suc : (ds : List ℕ) (x : ℕ) (rest : List ℕ) → drop (suc (length ds)) (ds ++ x ∷ rest) ≡ rest
drop_suc [] x rest = refl
drop_suc (c ∷ cs) x rest = drop_suc cs x rest

drop_of : (ds : List ℕ) (x : ℕ) (rest : List ℕ) → drop (length ds + 1) (ds ++ x ∷ rest) ≡ rest
drop_of ds x rest = ap (λ (k : ℕ). drop k (ds ++ x ∷ rest)) (next (length ds)) ∙ drop_suc ds x rest
  where
    next : (k : ℕ) → k + 1 ≡ suc k
    next k = omega arith

unfoldable pub plain_parts : List ℕ → Parts
plain_parts ds = record { whole = ds; point = false; fraction = []; exponent_negative = false; exponent = []; len = length ds }

pub scanned : (ds : List ℕ) → AllDigits 10 ds → scan_numeral ds ≡ plain_parts ds
unfolding plain_parts
scanned ds h = ap scan_numeral (sym (append-nil ds)) ∙ scan_numeral-text_of (plain_parts ds) (record {
  whole_digits = h;
  fraction_digits = tt;
  exponent_digits = tt;
  no_point = λ e. refl;
  no_exponent = λ e. refl;
  len_is = ap length (sym (append-nil ds));
})

alone : (ds : List ℕ) → AllDigits 10 ds → digits_len ds ≡ length ds
alone ds h = sym (ap digits_len (append-nil ds)) ∙ len_of ds [] h refl

literal_read : (ds : List ℕ) (n : ℕ) → AllDigits 10 ds → 0 < length ds → length ds ≤ 32 → digits_value 10 ds ≡ n → fits (make (pos n) 1) ≡ true → literal_reading ds ≡ Ok (make (pos n) 1)
unfolding literal_reading plain_parts
literal_read ds n h s l v f = sym (subst (λ (p : Parts). Ok (make (pos n) 1) ≡ cond (has_digits p && nat_eq p.len (length ds)) (judged (nat_lt 32 (length ds)) (literal_value p)) (Err Form)) (sym (scanned ds h))
    (as_ok _ _ (literal_value (plain_parts ds)) (make (pos n) 1) (both_true _ _ (lt_true 0 (length ds + 0) (omega arith)) (eq_true (length ds) (length ds) refl)) (lt_false 32 (length ds) l) val (subst (λ (x : Number). fits x ≡ true) val f)))
  where
    one : (x : ℕ) → x ≡ x * 10 ^ 0
    one x = omega arith

    val : make (pos n) 1 ≡ literal_value (plain_parts ds)
    val = ap (λ (x : ℕ). make (pos x) 1) (sym v ∙ ap (digits_value 10) (sym (append-nil ds)) ∙ one (digits_value 10 (ds ++ [])))

whole_read : (ds : List ℕ) (n : ℕ) → AllDigits 10 ds → 0 < length ds → length ds ≤ 32 → digits_value 10 ds ≡ n → fits (make (pos n) 1) ≡ true → unsigned_reading ds ≡ Ok (make (pos n) 1)
unfolding unsigned_reading
whole_read ds n h s l v f =
    let z : slice_index ds (digits_len ds) ≡ 0 = ap (slice_index ds) (alone ds h) ∙ at_end ds in
    ap (λ (b : Bool). cond b (ratio_reading (take (digits_len ds) ds) (drop (digits_len ds + 1) ds)) (literal_reading ds)) (eq_false (slice_index ds (digits_len ds)) 47 (λ e. absurd (omega arith))) ∙ literal_read ds n h s l v f

ratio_ok : (xs bs : List ℕ) (n d : ℕ) → AllDigits 10 bs → 0 < length xs → length xs ≤ 32 → length bs ≤ 32 → digits_value 10 xs ≡ n → digits_value 10 bs ≡ d → 0 < d → fits (make (pos n) d) ≡ true → ratio_reading xs bs ≡ Ok (make (pos n) d)
unfolding ratio_reading
ratio_ok xs bs n d h s l m v w k f =
    let val : make (pos n) d ≡ make (pos (digits_value 10 xs)) (digits_value 10 bs) = ap₂ (λ (x y : ℕ). make (pos x) y) (sym v) (sym w) in
    sym (as_ok _ _ (make (pos (digits_value 10 xs)) (digits_value 10 bs)) (make (pos n) d) (all_true _ _ _ (lt_true 0 (length xs) s) (eq_true (digits_len bs) (length bs) (alone bs h)) (lt_true 0 (digits_value 10 bs) (omega arith))) (or_false _ _ (lt_false 32 (length xs) l) (lt_false 32 (length bs) m)) val (subst (λ (x : Number). fits x ≡ true) val f))

ratio_read : (xs bs : List ℕ) (n d : ℕ) → AllDigits 10 xs → AllDigits 10 bs → 0 < length xs → length xs ≤ 32 → length bs ≤ 32 → digits_value 10 xs ≡ n → digits_value 10 bs ≡ d → 0 < d → fits (make (pos n) d) ≡ true →
    unsigned_reading (xs ++ 47 ∷ bs) ≡ Ok (make (pos n) d)
unfolding unsigned_reading
ratio_read xs bs n d g h s l m v w k f =
    ap (λ (x : ℕ). cond (nat_eq (slice_index (xs ++ 47 ∷ bs) x) 47) (ratio_reading (take x (xs ++ 47 ∷ bs)) (drop (x + 1) (xs ++ 47 ∷ bs))) (literal_reading (xs ++ 47 ∷ bs))) (len_of xs (47 ∷ bs) g refl)
    ∙ ap (λ (b : Bool). cond b (ratio_reading (take (length xs) (xs ++ 47 ∷ bs)) (drop (length xs + 1) (xs ++ 47 ∷ bs))) (literal_reading (xs ++ 47 ∷ bs))) (eq_true (slice_index (xs ++ 47 ∷ bs) (length xs)) 47 (at_slash xs bs))
    ∙ ap₂ ratio_reading (take_of xs (47 ∷ bs)) (drop_of xs 47 bs) ∙ ratio_ok xs bs n d h s l m v w k f

-- the text of a number without its sign
unfoldable body : Bool → ℕ → ℕ → List ℕ
body true n d = decimal n
body false n d = decimal n ++ 47 ∷ decimal d

short_decimal : (n : ℕ) → n < 2 ^ 63 → length (decimal n) ≤ 32
short_decimal n h = length-decimal-le 32 n (omega arith) (omega arith) (omega arith)

body_read : (b : Bool) (n d : ℕ) → nat_eq d 1 ≡ b → n < 2 ^ 63 → d < 2 ^ 63 → 0 < d → fits (make (pos n) d) ≡ true → unsigned_reading (body b n d) ≡ Ok (make (pos n) d)
unfolding body
body_read true n d e h l k f =
    let p : IsNumeral 10 (decimal n) × (digits_value 10 (decimal n) ≡ n) = decimal_is_IsNumeral n (omega arith) in
    let q : d ≡ 1 = grind (arith, tests) in
    rw q (whole_read (decimal n) n p.0.1 p.0.0 (short_decimal n h) p.1 (subst (λ (x : ℕ). fits (make (pos n) x) ≡ true) q f))
body_read false n d e h l k f =
    let p : IsNumeral 10 (decimal n) × (digits_value 10 (decimal n) ≡ n) = decimal_is_IsNumeral n (omega arith) in
    let q : IsNumeral 10 (decimal d) × (digits_value 10 (decimal d) ≡ d) = decimal_is_IsNumeral d (omega arith) in
    ratio_read (decimal n) (decimal d) n d p.0.1 q.0.1 p.0.0 (short_decimal n h) (short_decimal d l) p.1 q.1 k f

starts : (ds rest : List ℕ) → AllDigits 10 ds → 0 < length ds → reading (ds ++ rest) ≡ unsigned_reading (ds ++ rest)
unfolding reading
starts [] rest h s = absurd (omega arith)
starts (c ∷ cs) rest h s =
    let l : 48 ≤ c = (digit_is c h.0).1 in
    ap₂ (λ (a b : Bool). turned a (unsigned_reading (cond b (cs ++ rest) (c ∷ cs ++ rest)))) (eq_false c 45 (λ e. absurd (omega arith))) (or_false _ _ (eq_false c 45 (λ e. absurd (omega arith))) (eq_false c 43 (λ e. absurd (omega arith))))

body_starts : (b : Bool) (n d : ℕ) → n < 2 ^ 63 → reading (body b n d) ≡ unsigned_reading (body b n d)
unfolding body
body_starts true n d h = let p : IsNumeral 10 (decimal n) × (digits_value 10 (decimal n) ≡ n) = decimal_is_IsNumeral n (omega arith) in subst (λ (t : List ℕ). reading t ≡ unsigned_reading t) (append-nil (decimal n)) (starts (decimal n) [] p.0.1 p.0.0)
body_starts false n d h = let p : IsNumeral 10 (decimal n) × (digits_value 10 (decimal n) ≡ n) = decimal_is_IsNumeral n (omega arith) in starts (decimal n) (47 ∷ decimal d) p.0.1 p.0.0

minus_read : (t : List ℕ) → reading (45 ∷ t) ≡ turned true (unsigned_reading t)
unfolding reading
minus_read t = refl

unfoldable text_at : ℤ → ℕ → List ℕ
text_at z d = cond (nat_eq d 1) (signed_decimal z) (signed_decimal z ++ 47 ∷ decimal d)

text_pos : (b : Bool) (n d : ℕ) → cond b (decimal n) (decimal n ++ 47 ∷ decimal d) ≡ body b n d
unfolding body
text_pos true n d = refl
text_pos false n d = refl

text_neg : (b : Bool) (m d : ℕ) → cond b (45 ∷ decimal (suc m)) (45 ∷ (decimal (suc m) ++ 47 ∷ decimal d)) ≡ 45 ∷ body b (suc m) d
unfolding body
text_neg true m d = refl
text_neg false m d = refl

fits_pos : (n d : ℕ) → 0 < d → gcd n d ≡ 1 → n < 2 ^ 63 → d < 2 ^ 63 → fits (make (pos n) d) ≡ true
fits_pos n d k r h l = let p : ((make (pos n) d).num ≡ pos n) × ((make (pos n) d).den ≡ d) = make_reduced (pos n) d k r in fits_yes (make (pos n) d) (rw p.0 h) (rw p.1 l)

neg_made : (m d : ℕ) → 0 < d → gcd (suc m) d ≡ 1 → neg (make (pos (suc m)) d) ≡ make (negsuc m) d
unfolding neg
neg_made m d k r = let p : ((make (pos (suc m)) d).num ≡ pos (suc m)) × ((make (pos (suc m)) d).den ≡ d) = make_reduced (pos (suc m)) d k r in ap₂ (λ (z : ℤ) (x : ℕ). make (neg_ℤ z) x) p.0 p.1

read_at : (z : ℤ) (d : ℕ) → 0 < d → gcd (unsigned_abs z) d ≡ 1 → unsigned_abs z < 2 ^ 63 → d < 2 ^ 63 → reading (text_at z d) ≡ Ok (make z d)
unfolding text_at
read_at (pos n) d k r h l = ap reading (text_pos (nat_eq d 1) n d) ∙ body_starts (nat_eq d 1) n d h ∙ body_read (nat_eq d 1) n d refl h l k (fits_pos n d k r h l)
read_at (negsuc m) d k r h l = ap reading (text_neg (nat_eq d 1) m d) ∙ minus_read (body (nat_eq d 1) (suc m) d) ∙ ap (turned true) (body_read (nat_eq d 1) (suc m) d refl h l k (fits_pos (suc m) d k r h l)) ∙ ap Ok (neg_made m d k r)

fits_bounds : (a : Number) → fits a ≡ true → (unsigned_abs a.num < 2 ^ 63) × (a.den < 2 ^ 63)
unfolding fits
fits_bounds a e = (grind (arith, tests), grind (arith, tests))

pub read_back : (a : Number) → IsTrue (fits a) → reading (number_text a) ≡ Ok a
unfolding number_text text_at
read_back a f = let b : (unsigned_abs a.num < 2 ^ 63) × (a.den < 2 ^ 63) = fits_bounds a f in read_at a.num a.den a.positive a.reduced b.0 b.1 ∙ ap Ok (make-parts a)
