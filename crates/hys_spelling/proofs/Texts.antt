-- Which texts are read as numbers.
use Rattle.std.proofs.Common.{◌≡◌, ◌≢◌, ◌↔◌, ◌<◌, ◌+◌, ◌*◌, ◌⊎◌, ℕ, suc, List, [], ◌∷◌, ◌++◌, length, get_or, take, drop, Bool, true, false, cond, ◌&&◌, ◌||◌, nat_eq, slice_index, refl, sym, ◌∙◌, ap, ap₂, subst, arith, inl, inr, Ok, Err, Result, append-nil, not, true≢false, All}
use Rattle.std.proofs.lemmas.List.{take_all, get_or_at, take-append-drop, drop_more}
use Rattle.std.proofs.Math.Seq.{take-append_seam, drop-append-add}
use Rattle.std.proofs.lemmas.Bool.{cases_Bool, cases_eq, cases_lt}
use Rattle.std.proofs.lemmas.Bool.Decides.{nat_tests}
use Rattle.std.proofs.lemmas.List.Sums.{AllPass-from_list_all}
use Rattle.std.proofs.lemmas.List.Elements.{All-head, All-tail, All-cons}
use Rattle.std.proofs.lemmas.Str.{digit_value_digit}
use Rattle.std.specs.Char.{digit_value}
use Rattle.std.specs.Int.{IsInRange}
use Rattle.std.specs.List.{AllPass, prefix_len, list_all}
use Rattle.std.specs.Str.Parse.{digits_value, digits_value_after}
use Rattle.std.specs.Float.Numeral.{scan_numeral, has_digits, digits_len}
use Rattle.hys_number.specs.Number.{Number, make}
use Rattle.hys_number.specs.Ops.{fits, neg}
use Rattle.hys_number.specs.Gcd.{gcd}
use Rattle.hys_number.proofs.Bools.{lt_true, lt_false, eq_true, eq_false, or_false, all_true, and_both}
use Rattle.hys_frac.specs.Read.{judged, literal_reading, ratio_reading, unsigned_reading, turned, reading}
use Rattle.hys_frac.specs.declared.read.FracFault.{FracFault}
use Rattle.hys_frac.specs.declared.read.FracFault.TheVariants.{Form, Long, Range}
use Rattle.hys_frac.proofs.Numerals.{digits_positive}
use Rattle.hys_frac.proofs.Readings.{ratio_form}
use Rattle.hys_lex.specs.Bytes.{is_digit, begins_literal}
use Rattle.hys_lex.specs.Pieces.{IsLongest, IsDigits, IsLiteral}
use Rattle.hys_lex.proofs.Runs.{front_passes}
use Rattle.hys_spelling.specs.Spelling.{is_zero_digit, IsQuotient, IsNumberText, literal_number, quotient_number, unsigned_number, text_number, some_number_texts, other_texts}
use Rattle.hys_spelling.proofs.Scanned.{scanned_len, longest_scan, no_run, within}
use Rattle.hys_spelling.proofs.Spelled.{literal_alone, literal_unsigned, literal_begins, signless}

-- a judged number isn't refused for its form
judged_formed : (long : Bool) (a : Number) → judged long a ≢ Err Form
judged_formed true a e = absurd (cc)
judged_formed false a e = fitting (fits a) e
  where
    fitting : (b : Bool) → cond b (Ok a) (Err Range) ≢ Err Form
    fitting true e = absurd (cc)
    fitting false e = absurd (cc)

-- ---- literals
found_literal : (text : List ℕ) → 0 < length text → has_digits (scan_numeral text) && nat_eq (scan_numeral text).len (length text) ≡ true → IsLiteral text
unfolding scanned_len
found_literal text some h =
    let both : (has_digits (scan_numeral text) ≡ true) × (nat_eq (scan_numeral text).len (length text) ≡ true) = and_both _ _ h in
    let size : (scan_numeral text).len ≡ length text = same (scan_numeral text).len (length text) both.1 in
    let whole : scanned_len text ≡ length text = ap (λ b. cond b (scan_numeral text).len 0) both.0 ∙ size in
    let longest : IsLongest IsLiteral text (scanned_len text) = longest_scan text in
    subst IsLiteral (ap (λ n. take n text) whole ∙ take_all (length text) text (omega arith)) (longest.found (omega arith))
  where
    same : (m n : ℕ) → nat_eq m n ≡ true → m ≡ n
    same m n h = grind (arith, nat_tests)

literal_from : (text : List ℕ) → literal_reading text ≢ Err Form → IsLiteral text
unfolding literal_reading scan_numeral
literal_from [] h = absurd (h refl)
literal_from (c ∷ cs) h = elim (cases_Bool (has_digits (scan_numeral (c ∷ cs)) && nat_eq (scan_numeral (c ∷ cs)).len (length (c ∷ cs)))) [
  | inl e ↦ found_literal (c ∷ cs) (omega arith) e
  | inr e ↦ absurd (h (ap (λ b. cond b (literal_number (c ∷ cs)) (Err Form)) e))
]

pub literals_exact : (text : List ℕ) → (literal_reading text ≢ Err Form) ↔ IsLiteral text
literals_exact text = (literal_from text, λ l e. judged_formed _ _ (sym (literal_alone text l) ∙ e))

-- ---- quotients
abbrev Digit : ℕ → Type 0
Digit b = is_digit b ≡ true

abbrev Zero : ℕ → Type 0
Zero b = is_zero_digit b ≡ true

digit_size : (c : ℕ) → is_digit c ≡ true → digit_value c + 48 ≡ c
digit_size c h = digit_value_digit c (within c h)
  where
    within : (c : ℕ) → is_digit c ≡ true → IsInRange 48 57 c
    within c h = grind (arith, nat_tests)

zero_digit : (c : ℕ) → is_zero_digit c ≡ true → c ≡ 48
zero_digit c h = grind (arith, nat_tests)

-- digits are worth 0 exactly where all are 0
zeros_value : (ds : List ℕ) → AllPass is_zero_digit ds → digits_value 10 ds ≡ 0
zeros_value [] h = refl
zeros_value (c ∷ cs) h = ap (λ x. digits_value_after 10 (0 * 10 + digit_value x) cs) (zero_digit c (All-head Zero c cs h)) ∙ zeros_value cs (All-tail Zero c cs h)

value_zeros : (ds : List ℕ) → AllPass is_digit ds → digits_value 10 ds ≡ 0 → AllPass is_zero_digit ds
value_zeros [] h e = λ k d l. absurd (omega arith)
value_zeros (c ∷ cs) h e =
    let size : digit_value c + 48 ≡ c = digit_size c (All-head Digit c cs h) in
    elim (cases_lt 0 (0 * 10 + digit_value c)) [
      | inl more ↦ absurd (omega (arith, digits_positive (0 * 10 + digit_value c) cs more, e))
      | inr none ↦
          let nothing : 0 * 10 + digit_value c ≡ 0 = omega arith in
          let is : is_zero_digit c ≡ true = eq_true c 48 (omega arith) in
          All-cons Zero c cs is (value_zeros cs (All-tail Digit c cs h) (sym (ap (λ x. digits_value_after 10 x cs) nothing) ∙ e))
    ]

-- digits before a byte that is none
digits_front : (ds rest : List ℕ) → AllPass is_digit ds → is_digit (get_or rest 0 0) ≡ false → prefix_len is_digit (ds ++ rest) ≡ length ds
digits_front [] rest h e = no_run is_digit rest e
digits_front (c ∷ cs) rest h e = ap (λ b. cond b (1 + prefix_len is_digit (cs ++ rest)) 0) (All-head Digit c cs h) ∙ one (prefix_len is_digit (cs ++ rest)) (length cs) (digits_front cs rest (All-tail Digit c cs h) e)
  where
    one : (x y : ℕ) → x ≡ y → 1 + x ≡ suc y
    one x y e = omega arith

all_digits : (ds : List ℕ) → prefix_len is_digit ds ≡ length ds → AllPass is_digit ds
all_digits ds e = subst (AllPass is_digit) (ap (λ n. take n ds) e ∙ take_all (length ds) ds (omega arith)) (front_passes is_digit ds)

no_digits_worth : (ds : List ℕ) → 0 < digits_value 10 ds → 0 < length ds
no_digits_worth [] h = absurd (omega arith)
no_digits_worth (c ∷ cs) h = omega arith

-- what the reader of quotients asks of the two texts
Parts : List ℕ → List ℕ → Type 0
Parts above below = (0 < length above) × (digits_len below ≡ length below) × (0 < digits_value 10 below)

ratio_from : (above below : List ℕ) → ratio_reading above below ≢ Err Form → Parts above below
unfolding Parts
ratio_from above below h = elim (cases_lt 0 (length above)) [
  | inr short ↦ absurd (h (sym (ratio_form above below (inl (lt_false 0 (length above) short)))))
  | inl some ↦ elim (cases_eq (digits_len below) (length below)) [
    | inr other ↦ absurd (h (sym (ratio_form above below (inr (inl (eq_false (digits_len below) (length below) other))))))
    | inl all ↦ elim (cases_lt 0 (digits_value 10 below)) [
      | inr none ↦ absurd (h (sym (ratio_form above below (inr (inr (lt_false 0 (digits_value 10 below) none))))))
      | inl more ↦ (some, all, more)
    ]
  ]
]

ratio_judged : (above below : List ℕ) → Parts above below → ratio_reading above below ≡ quotient_number above below
unfolding Parts ratio_reading
ratio_judged above below p = ap (λ b. cond b (quotient_number above below) (Err Form)) (all_true _ _ _ (lt_true 0 (length above) p.0) (eq_true (digits_len below) (length below) p.1) (lt_true 0 (digits_value 10 below) p.2))

quotient_parts : (text : List ℕ) → get_or text (prefix_len is_digit text) 0 ≡ 47 → Parts (take (prefix_len is_digit text) text) (drop (prefix_len is_digit text + 1) text) → IsQuotient text
unfolding Parts
quotient_parts text slash p =
    let w = prefix_len is_digit text in
    let below = drop (w + 1) text in
    let digits : AllPass is_digit below = all_digits below p.1 in
    record {
      above = take w text;
      below = below;
      above_digits = (p.0, front_passes is_digit text);
      below_digits = (no_digits_worth below p.2, digits);
      not_zero = λ zeros. omega (arith, zeros_value below zeros, p.2);
      joined = sym (take-append-drop w text) ∙ ap (λ xs. take w text ++ xs) (drop_more text w 0 (within text w (omega arith)) ∙ ap (λ b. b ∷ below) slash);
    }

parts_of : (text : List ℕ) → (q : IsQuotient text) → Parts q.above q.below
unfolding Parts
parts_of text q = (
  q.above_digits.0,
  ap digits_len (sym (append-nil q.below)) ∙ digits_front q.below [] q.below_digits.1 refl,
  elim (cases_lt 0 (digits_value 10 q.below)) [
    | inl more ↦ more
    | inr none ↦ absurd (q.not_zero (value_zeros q.below q.below_digits.1 (omega arith)))
  ],
)

quotient_split : (above below : List ℕ) → AllPass is_digit above → unsigned_reading (above ++ (47 ∷ below)) ≡ ratio_reading above below
unfolding unsigned_reading
quotient_split above below h =
    let t = above ++ (47 ∷ below) in
    ap (λ n. cond (nat_eq (slice_index t n) 47) (ratio_reading (take n t) (drop (n + 1) t)) (literal_reading t)) (digits_front above (47 ∷ below) h refl)
    ∙ ap (λ b. cond b (ratio_reading (take (length above) t) (drop (length above + 1) t)) (literal_reading t)) (eq_true (slice_index t (length above)) 47 (get_or_at above 47 below 0 (length above) refl))
    ∙ ap₂ ratio_reading (take-append_seam above (47 ∷ below)) (drop-append-add above (47 ∷ below) 1)

quotient_read : (text : List ℕ) → (q : IsQuotient text) → unsigned_reading text ≡ ratio_reading q.above q.below
quotient_read text q = ap unsigned_reading q.joined ∙ quotient_split q.above q.below q.above_digits.1

-- ---- without a sign
unsigned_from : (text : List ℕ) → unsigned_reading text ≢ Err Form → IsLiteral text ⊎ IsQuotient text
unfolding unsigned_reading
unsigned_from text h =
    let w = prefix_len is_digit text in
    let above = take w text in
    let below = drop (w + 1) text in
    elim (cases_eq (get_or text w 0) 47) [
      | inl slash ↦ inr (quotient_parts text slash (ratio_from above below (λ e. h (ap (λ b. cond b (ratio_reading above below) (literal_reading text)) (eq_true (get_or text w 0) 47 slash) ∙ e))))
      | inr other ↦ inl (literal_from text (λ e. h (ap (λ b. cond b (ratio_reading above below) (literal_reading text)) (eq_false (get_or text w 0) 47 other) ∙ e)))
    ]

unsigned_valued : (text : List ℕ) → (u : IsLiteral text ⊎ IsQuotient text) → unsigned_reading text ≡ unsigned_number text u
unsigned_valued text (inl l) = literal_unsigned text l
unsigned_valued text (inr q) = quotient_read text q ∙ ratio_judged q.above q.below (parts_of text q)

unsigned_formed : (text : List ℕ) → (u : IsLiteral text ⊎ IsQuotient text) → unsigned_number text u ≢ Err Form
unsigned_formed text (inl l) e = judged_formed _ _ e
unsigned_formed text (inr q) e = judged_formed _ _ e

begins : (text : List ℕ) → IsLiteral text ⊎ IsQuotient text → begins_literal (get_or text 0 0) ≡ true
begins text (inl l) = literal_begins text l
begins text (inr q) = ap (λ xs. begins_literal (get_or xs 0 0)) q.joined ∙ first q.above q.below q.above_digits
  where
    digit_begins : (b : ℕ) → is_digit b ≡ true → begins_literal b ≡ true
    digit_begins b h = rw h

    first : (above below : List ℕ) → IsDigits above → begins_literal (get_or (above ++ (47 ∷ below)) 0 0) ≡ true
    first [] below d = absurd (omega (arith, d.0))
    first (c ∷ cs) below d = digit_begins c (All-head Digit c cs d.1)

-- ---- signs
turned_formed : (b : Bool) (r : Result Number FracFault) → r ≢ Err Form → turned b r ≢ Err Form
turned_formed true (Ok a) h e = absurd (cc)
turned_formed true (Err f) h e = h e
turned_formed false r h e = h e

-- a text that begins with a sign
signed_reading : (c : ℕ) (cs : List ℕ) (b : Bool) → nat_eq c 45 ≡ b → b || nat_eq c 43 ≡ true → reading (c ∷ cs) ≡ turned b (unsigned_reading cs)
unfolding reading
signed_reading c cs b e h = ap₂ (λ (x y : Bool). turned x (unsigned_reading (cond y cs (c ∷ cs)))) e (ap (λ x. x || nat_eq c 43) e ∙ h)

plain_reading : (c : ℕ) (cs : List ℕ) → nat_eq c 45 ≡ false → nat_eq c 43 ≡ false → reading (c ∷ cs) ≡ unsigned_reading (c ∷ cs)
unfolding reading
plain_reading c cs e h = ap₂ (λ (x y : Bool). turned x (unsigned_reading (cond y cs (c ∷ cs)))) e (or_false _ _ e h)

number_from : (text : List ℕ) → reading text ≢ Err Form → IsNumberText text
unfolding reading
number_from [] h = record { sign = []; rest = []; signed = inl refl; number = unsigned_from [] h; joined = refl }
number_from (c ∷ cs) h = elim (cases_eq c 45) [
  | inl e ↦
      let is : reading (c ∷ cs) ≡ turned true (unsigned_reading cs) = signed_reading c cs true (eq_true c 45 e) refl in
      record { sign = 45 ∷ []; rest = cs; signed = inr (inr refl); number = unsigned_from cs (λ f. h (is ∙ ap (turned true) f)); joined = ap (λ x. x ∷ cs) e }
  | inr no_minus ↦ elim (cases_eq c 43) [
    | inl e ↦
        let is : reading (c ∷ cs) ≡ unsigned_reading cs = signed_reading c cs false (eq_false c 45 no_minus) (eq_true c 43 e) in
        record { sign = 43 ∷ []; rest = cs; signed = inr (inl refl); number = unsigned_from cs (λ f. h (is ∙ f)); joined = ap (λ x. x ∷ cs) e }
    | inr no_plus ↦
        let is : reading (c ∷ cs) ≡ unsigned_reading (c ∷ cs) = plain_reading c cs (eq_false c 45 no_minus) (eq_false c 43 no_plus) in
        record { sign = []; rest = c ∷ cs; signed = inl refl; number = unsigned_from (c ∷ cs) (λ f. h (is ∙ f)); joined = refl }
  ]
]

pub number_valued : (text : List ℕ) → (n : IsNumberText text) → reading text ≡ text_number text n
number_valued text n = ap reading n.joined ∙ valued n.sign n.rest n.signed n.number
  where
    valued : (sign rest : List ℕ) → (sign ≡ []) ⊎ (sign ≡ 43 ∷ []) ⊎ (sign ≡ 45 ∷ []) → (u : IsLiteral rest ⊎ IsQuotient rest) → reading (sign ++ rest) ≡ turned (nat_eq (slice_index sign 0) 45) (unsigned_number rest u)
    valued sign rest which u = elim which [
      | inl s ↦ rw s (signless rest (begins rest u) ∙ unsigned_valued rest u)
      | inr t ↦ elim t [
        | inl s ↦ rw s (signed_reading 43 rest false refl refl ∙ unsigned_valued rest u)
        | inr s ↦ rw s (signed_reading 45 rest true refl refl ∙ ap (turned true) (unsigned_valued rest u))
      ]
    ]

number_formed : (text : List ℕ) → IsNumberText text → reading text ≢ Err Form
number_formed text n e = turned_formed (nat_eq (slice_index n.sign 0) 45) (unsigned_number n.rest n.number) (unsigned_formed n.rest n.number) (sym (number_valued text n) ∙ e)

pub number_texts : (text : List ℕ) → (reading text ≢ Err Form) ↔ IsNumberText text
number_texts text = (number_from text, number_formed text)

-- ---- examples
has_form : Result Number FracFault → Bool
has_form (Ok a) = true
has_form (Err Form) = false
has_form (Err Long) = true
has_form (Err Range) = true

is_formed : List ℕ → Bool
is_formed text = has_form (reading text)

is_other : List ℕ → Bool
is_other text = not (is_formed text)

formed_texts : list_all is_formed some_number_texts ≡ true
unfolding is_formed has_form reading unsigned_reading ratio_reading literal_reading scan_numeral fits make gcd neg
formed_texts = refl

unformed_texts : list_all is_other other_texts ≡ true
unfolding is_other is_formed has_form reading unsigned_reading ratio_reading literal_reading scan_numeral fits make gcd neg
unformed_texts = refl

pub are_number_texts : All IsNumberText some_number_texts
unfolding is_formed has_form
are_number_texts k d l = number_from _ (λ e. true≢false (sym (AllPass-from_list_all is_formed some_number_texts formed_texts k d l) ∙ ap has_form e))

pub are_none : All (λ t. IsNumberText t → ⊥) other_texts
unfolding is_other is_formed has_form
are_none k d l n = number_formed _ n (form_only _ (AllPass-from_list_all is_other other_texts unformed_texts k d l))
  where
    form_only : (r : Result Number FracFault) → not (has_form r) ≡ true → r ≡ Err Form
    form_only (Ok a) h = absurd (cc)
    form_only (Err Form) h = refl
    form_only (Err Long) h = absurd (cc)
    form_only (Err Range) h = absurd (cc)
