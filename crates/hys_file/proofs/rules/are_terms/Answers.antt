use Rattle.std.proofs.Common.{◌≡◌, ℕ, ◌<◌, ◌&&◌, true, false, length, nat_le, nat_lt, rules, subst, arith}
use Rattle.hys_file.specs.Reading.{is_zero}
use Rattle.hys_file.proofs.Kept.{terms_next}
use Rattle.hys_file.proofs.rules.are_terms.Goals as goal

pub loop-term-preserved : goal.loop-term-preserved
loop-term-preserved c =
    let within : c.loop-term.term-index < length c.args.terms.now = omega arith in
    let allowed : nat_le c.loop-term.before.least c.term-item.result.column && nat_lt c.term-item.result.column c.loop-term.before.columns ≡ true = search rules in
    let factor : is_zero c.term-item.result.factor ≡ false = search rules in (
      c.loop-term.invariant.0,
      terms_next c.args.columns c.loop-term.before.least c.loop-term.term-index c.args.terms.now c.term-item.result within c.term-item.is
          (subst (λ (n : ℕ). nat_le c.loop-term.before.least c.term-item.result.column && nat_lt c.term-item.result.column n ≡ true) c.loop-term.invariant.0 allowed) factor c.loop-term.invariant.1,
    )
