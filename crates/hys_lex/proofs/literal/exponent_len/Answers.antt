use Rattle.std.proofs.Common.{◌≡◌, arith, sym, drop, ◌∙◌}
use Rattle.std.specs.List.{prefix_len}
use Rattle.std.proofs.lemmas.List.{take_rest}
use Rattle.hys_lex.specs.Bytes.{is_digit}
use Rattle.hys_lex.proofs.Literals.{PowerStart, exponent_bare, exponent_found}
use Rattle.hys_lex.proofs.literal.exponent_len.Goals as goal

pub returns-then-digits-eq0 : goal.returns-then-digits-eq0
returns-then-digits-eq0 c =
    let text = c.args.text.now in
    let start : PowerStart text c.power_start-start.result = record { signed = c.power_start-start.ensures.signed; plain = c.power_start-start.ensures.plain } in
    let digits : c.digits_len-digits.result ≡ prefix_len is_digit (drop c.power_start-start.result text) = rw take_rest at c.digits_len-digits.ensures.value in
    exponent_bare text _ start (sym digits ∙ c.if-digits-eq0.true)

pub returns : goal.returns
returns c =
    let text = c.args.text.now in
    let start : PowerStart text c.power_start-start.result = record { signed = c.power_start-start.ensures.signed; plain = c.power_start-start.ensures.plain } in
    let digits : c.digits_len-digits.result ≡ prefix_len is_digit (drop c.power_start-start.result text) = rw take_rest at c.digits_len-digits.ensures.value in
    exponent_found text _ _ (sym c.is_exponent_mark.ensures ∙ c.if-not-is_exponent_mark.false) start c.power_start-start.ensures.within digits (omega arith)
