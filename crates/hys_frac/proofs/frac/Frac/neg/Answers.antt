use Rattle.std.proofs.Common.{◌≡◌, ℤ, pos, ◌-ℤ◌, unsigned_abs, neg_ℤ, arith, rules, FitsSigned, to_z, of_z, w64}
use Rattle.std.proofs.lemmas.Int.{ints}
use Rattle.hys_number.specs.Number.{Number, make}
use Rattle.hys_frac.specs.Frac.{IsReduced}
use Rattle.hys_number.specs.Ops.{neg}
use Rattle.hys_frac.proofs.Fracs.{parts_is, neg_make}
use Rattle.hys_frac.proofs.frac.Frac.neg.Goals as goal

made : (q : Number) (num den : ℤ) → FitsSigned w64 num → FitsSigned w64 den → make num (unsigned_abs den) ≡ q → IsReduced num den →
    make (to_z w64 (of_z w64 (pos 0 -ℤ to_z w64 (of_z w64 num)))) (unsigned_abs (to_z w64 (of_z w64 den))) ≡ neg q
made q num den f g e h =
    let p : (q.num ≡ num) × (pos q.den ≡ den) = parts_is q num den e h in
    let n : to_z w64 (of_z w64 (pos 0 -ℤ to_z w64 (of_z w64 num))) ≡ neg_ℤ q.num = omega (arith, ints, h.below) in
    let d : unsigned_abs (to_z w64 (of_z w64 den)) ≡ q.den = omega (arith, ints, p.1) in
    rw (n, d) (neg_make q)

pub returns : goal.returns
returns c = made c.args.self c.self.inside.num c.self.inside.den (search rules) (search rules) c.self.view_is c.self.invariant
