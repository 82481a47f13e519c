use Rattle.std.proofs.Common.{◌-◌, ◌≤◌, ℕ, List, length, take, drop, arith}
use Rattle.std.specs.Float.Numeral.{digits_len}
use Rattle.hys_frac.proofs.Numerals.{digits_at_front}
use Rattle.hys_frac.proofs.numeral.Numeral.with_exponent.Goals as goal
use Rattle.std.proofs.lemmas.List.{length-take}

short : (n : ℕ) (xs : List ℕ) → length (take n xs) ≤ n
short n xs = omega (arith, length-take n xs)

pub invariant_of-result-2 : goal.invariant_of-result-2
invariant_of-result-2 c =
    let n : ℕ = c.digits_end-len.result - c.find_exponent-start.result in
    let l : c.digits_end-len.result - c.find_exponent-start.result ≤ digits_len (drop c.find_exponent-start.result c.args.text.now) = omega (arith, c.digits_end-len.ensures.end) in
    (c.requires.digits.0, c.requires.digits.1, digits_at_front _ _ l, omega (arith, short (c.digits_end-len.result - c.find_exponent-start.result) (drop c.find_exponent-start.result c.args.text.now), c.find_exponent-start.ensures.start, c.requires.taken))
