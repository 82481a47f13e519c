use Rattle.std.proofs.Common.{◌≡◌, ◌&&◌, ℕ, List, false, cond, length, refl, ◌∙◌, sym, subst, nat_eq, nat_lt, Ok, Err}
use Rattle.std.specs.Float.Numeral.{Parts, scan_numeral, has_digits}
use Rattle.hys_frac.specs.Read.{judged, literal_value, literal_reading}
use Rattle.hys_frac.specs.declared.read.FracFault.TheVariants.{Form, Long, Range}
use Rattle.hys_number.proofs.Bools.{lt_true, lt_false, eq_true, eq_false, both_true, either_false, not_true}
use Rattle.hys_frac.proofs.Readings.{as_form, as_long, as_ok, as_range}
use Rattle.std.proofs.Common.{inl, inr}
use Rattle.hys_frac.proofs.read.read_literal.Goals as goal
use Rattle.hys_frac.proofs.read.read_literal.Goals.{then-not-has_digits-via-then-not-has_digits, then-not-has_digits-via-else-not-has_digits+then-len-text}

-- the scanned parts are those of the text
moved : (P : Parts → Type 0) (p : Parts) (text : List ℕ) → p ≡ scan_numeral text → P p → P (scan_numeral text)
moved P p text e h = subst P e h

pub returns-then-not-has_digits : goal.returns-then-not-has_digits
unfolding literal_reading
returns-then-not-has_digits c = elim c.then-not-has_digits.branch [
  | then-not-has_digits-via-then-not-has_digits w ↦ as_form _ _ (either_false _ _ (inl (moved (λ (p : Parts). has_digits p ≡ false) _ _ c.scan-numeral.ensures.parts (sym c.has_digits.ensures ∙ not_true _ (λ e. absurd (cc))))))
  | then-not-has_digits-via-else-not-has_digits+then-len-text w ↦ as_form _ _ (either_false _ _ (inr (moved (λ (p : Parts). nat_eq p.len (length c.args.text.now) ≡ false) _ _ c.scan-numeral.ensures.parts (eq_false _ _ (λ e. w.if-len-text.true (w.len.ensures ∙ e))))))
]

pub returns-then-text-gt32 : goal.returns-then-text-gt32
unfolding literal_reading
returns-then-text-gt32 c = moved (λ (p : Parts). Err Long ≡ cond (has_digits p && nat_eq p.len (length c.args.text.now)) (judged (nat_lt 32 (length c.args.text.now)) (literal_value p)) (Err Form)) _ _ c.scan-numeral.ensures.parts
    (as_long _ _ _ (both_true _ _ (sym c.has_digits.ensures ∙ c.if-not-has_digits.false) (eq_true _ _ (sym c.len.ensures ∙ c.if-len-text.false))) (lt_true _ _ c.if-text-gt32.true))

pub returns-in-Some : goal.returns-in-Some
unfolding literal_reading
returns-in-Some c = moved (λ (p : Parts). Ok c.in-Some.number ≡ cond (has_digits p && nat_eq p.len (length c.args.text.now)) (judged (nat_lt 32 (length c.args.text.now)) (literal_value p)) (Err Form)) _ _ c.scan-numeral.ensures.parts
    (as_ok _ _ _ _ (both_true _ _ (sym c.has_digits.ensures ∙ c.if-not-has_digits.false) (eq_true _ _ (sym c.len.ensures ∙ c.if-len-text.false))) (lt_false _ _ c.if-text-gt32.false) c.in-Some.ensures.value (c.in-Some.ensures.fits.0 refl))

pub returns-in-None : goal.returns-in-None
unfolding literal_reading
returns-in-None c = moved (λ (p : Parts). Err Range ≡ cond (has_digits p && nat_eq p.len (length c.args.text.now)) (judged (nat_lt 32 (length c.args.text.now)) (literal_value p)) (Err Form)) _ _ c.scan-numeral.ensures.parts
    (as_range _ _ _ (both_true _ _ (sym c.has_digits.ensures ∙ c.if-not-has_digits.false) (eq_true _ _ (sym c.len.ensures ∙ c.if-len-text.false))) (lt_false _ _ c.if-text-gt32.false) (not_true _ (λ e. absurd (cc (c.in-None.ensures.fits.1 e)))))
