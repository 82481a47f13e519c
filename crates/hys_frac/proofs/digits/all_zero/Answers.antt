use Rattle.std.proofs.Common.{arith, ◌≡◌, ◌<◌, ℕ, List, ◌∷◌, ◌+◌, ◌*◌, ◌∙◌, ap, sym, subst}
use Rattle.std.specs.Char.{digit_value}
use Rattle.std.specs.Str.Parse.{AllDigits, digits_value}
use Rattle.std.specs.Int.{IsInRange}
use Rattle.std.proofs.lemmas.Str.{digit_value_digit}
use Rattle.std.proofs.lemmas.Str.Parse.{digit_from_value}
use Rattle.hys_frac.proofs.Numerals.{drop_here, digits_positive}
use Rattle.hys_frac.proofs.digits.all_zero.Goals as goal

not_zero : (all ds rest : List ℕ) (d : ℕ) → ds ≡ d ∷ rest → AllDigits 10 ds → digits_value 10 ds ≡ digits_value 10 all → (d ≡ 48 → ⊥) → 0 < digits_value 10 all
not_zero all ds rest d e h v n =
    let g : AllDigits 10 (d ∷ rest) = subst (AllDigits 10) e h in
    let r : IsInRange 48 57 d = digit_from_value d g.0 in
    let q : digit_value d + 48 ≡ d = digit_value_digit d r in
    let p : 0 < 0 * 10 + digit_value d = grind arith in
    subst (λ (x : ℕ). 0 < x) (sym (ap (digits_value 10) e) ∙ v) (digits_positive (0 * 10 + digit_value d) rest p)

pub returns-then-digit-ne48 : goal.returns-then-digit-ne48
returns-then-digit-ne48 c =
    let p : 0 < digits_value 10 c.args.digits.now = not_zero c.args.digits.now _ _ _ (drop_here _ _ c.loop-digit-test.true) c.loop-digit.invariant.digits c.loop-digit.invariant.value c.if-digit-ne48.true in
    (λ t. absurd (cc), λ e. absurd (omega arith))
