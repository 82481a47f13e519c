use Rattle.std.proofs.Common.{◌≡◌, ℕ, List, arith, sym, ◌∙◌, false, get_or}
use Rattle.std.proofs.lemmas.Bool.Decides.{nat_tests}
use Rattle.hys_lex.specs.Bytes.{is_blank, is_letter, is_digit, begins_literal}
use Rattle.hys_lex.specs.Pieces.{Blank}
use Rattle.hys_lex.proofs.Opening.{mark_class, class, Mark}
use Rattle.hys_lex.proofs.Matches.{blank_match, sign_match, no_sign}
use Rattle.hys_lex.proofs.piece.piece.Goals as goal

pub returns-then-is_blank : goal.returns-then-is_blank
returns-then-is_blank c = (Blank, tt, blank_match c.args.text.now (sym c.is_blank.ensures ∙ c.if-is_blank.true))

other : (b : ℕ) → is_digit b ≡ false → (b ≡ 46 → ⊥) → begins_literal b ≡ false
other b digit point = grind (arith, nat_tests)

-- what is left after every other class begins with a sign, if with anything
mark : (text : List ℕ) → is_blank (get_or text 0 0) ≡ false → is_letter (get_or text 0 0) ≡ false → is_digit (get_or text 0 0) ≡ false → (get_or text 0 0 ≡ 46 → ⊥) → (get_or text 0 0 ≡ 47 → ⊥) → class (get_or text 0 0) ≡ Mark
mark text blank letter digit point slash = mark_class (get_or text 0 0) blank letter (other (get_or text 0 0) digit point) slash

pub returns-then-len-eq0 : goal.returns-then-len-eq0
returns-then-len-eq0 c =
    let text = c.args.text.now in
    no_sign text (mark text (sym c.is_blank.ensures ∙ c.if-is_blank.false) (sym c.is_letter.ensures ∙ c.if-is_letter.false) (sym c.is_digit.ensures ∙ c.if-is_digit.false) c.if-first-eq46.false c.if-first-eq47.false)
    c.requires (rw c.if-len-eq0.true at c.sign-k.ensures.most)

pub returns : goal.returns
returns c =
    let text = c.args.text.now in (
      sign_match text _ _ (mark text (sym c.is_blank.ensures ∙ c.if-is_blank.false) (sym c.is_letter.ensures ∙ c.if-is_letter.false) (sym c.is_digit.ensures ∙ c.if-is_digit.false) c.if-first-eq46.false c.if-first-eq47.false)
          c.sign-k.ensures.within (c.sign-k.ensures.found (omega arith)) c.sign-k.ensures.most,
      tt,
    )
