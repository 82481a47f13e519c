use Rattle.std.proofs.Common.{◌≡◌, arith, sym, get_or, drop, ◌+◌, ◌∙◌, ap, subst, ℕ}
use Rattle.std.specs.List.{prefix_len}
use Rattle.std.proofs.lemmas.List.{take_rest, get_or_past}
use Rattle.hys_lex.specs.Bytes.{is_digit}
use Rattle.hys_lex.specs.Pieces.{IsLongest, IsMantissa}
use Rattle.hys_lex.proofs.Literals.{mantissa_whole, mantissa_none, mantissa_pointed}
use Rattle.hys_lex.proofs.literal.mantissa_len.Goals as goal
use Rattle.hys_lex.proofs.literal.mantissa_len.Goals.{then-whole-text-via-then-whole-text, then-whole-text-via-else-whole-text+then-text-whole-ne46}

pub returns-then-whole-text : goal.returns-then-whole-text
returns-then-whole-text c =
    let text = c.args.text.now in
    let P : ℕ → Type 0 = λ n. IsLongest IsMantissa text n in
    let is = c.digits_len-whole.ensures.value in
    subst P (sym is)
    (mantissa_whole text
    (λ point. elim c.then-whole-text.branch [ then-whole-text-via-then-whole-text w ↦ let past : get_or text (prefix_len is_digit text) 0 ≡ 0 = get_or_past text (prefix_len is_digit text) 0 (omega (arith, w.if-whole-text.true, is)) in absurd (cc) | then-whole-text-via-else-whole-text+then-text-whole-ne46 w ↦ w.if-text-whole-ne46.true (ap (λ i. get_or text i 0) is ∙ point) ]))

pub returns-then-whole-part-eq0 : goal.returns-then-whole-part-eq0
returns-then-whole-part-eq0 c =
    let text = c.args.text.now in
    let part : c.digits_len-part.result ≡ prefix_len is_digit (drop (c.digits_len-whole.result + 1) text) = rw take_rest at c.digits_len-part.ensures.value in
    mantissa_none text (omega (arith, c.digits_len-whole.ensures.value)) (ap (λ i. prefix_len is_digit (drop (i + 1) text)) (sym c.digits_len-whole.ensures.value) ∙ sym part ∙ omega arith)

pub returns : goal.returns
returns c =
    let text = c.args.text.now in
    let part : c.digits_len-part.result ≡ prefix_len is_digit (drop (c.digits_len-whole.result + 1) text) = rw take_rest at c.digits_len-part.ensures.value in
    mantissa_pointed text _ _ c.digits_len-whole.ensures.value (omega arith) c.if-text-whole-ne46.false part (omega arith)
