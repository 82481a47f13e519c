-- What the names of the program of two auxiliaries take.
use Rattle.std.proofs.Common.{◌<◌, ◌≤◌, ◌+◌, ◌*◌, refl, ap, arith}
use Rattle.hys_number.specs.Gcd.{gcd}
use Rattle.hys_number.specs.Number.{Number, make}
use Rattle.hys_number.specs.Ops.{whole, ◌≤ₙ◌, ◌+ₙ◌, ◌*ₙ◌}
use Rattle.hys_number.proofs.Laws.{whole-ratio, le-ratio}
use Rattle.hys_number.proofs.Field.{ratios}
use Rattle.hys_lin.specs.Sums.{value}
use Rattle.hys_prog.specs.Example.{crossed}
use Rattle.hys_bound.specs.Values.{TakesValues}
use Rattle.hys_bound.specs.Example.{of_three}

above : 0 < 1
above = omega arith

least_four : whole 0 ≤ₙ whole 4
least_four = rw (whole-ratio 0 1 above, whole-ratio 4 1 above) (simp (ratios, above) (omega arith))

four_ten : whole 4 ≤ₙ whole 10
four_ten = rw (whole-ratio 4 1 above, whole-ratio 10 1 above) (simp (ratios, above) (omega arith))

eleven_ten : whole 11 ≤ₙ whole 10 → ⊥
eleven_ten h =
    let q = rw (whole-ratio 11 1 above, whole-ratio 10 1 above) at h in
    let k : 11 * 1 * 1 + 0 * 1 ≤ 10 * 1 * 1 + 0 * 1 = (le-ratio (11 * 1) 0 1 (10 * 1) 0 1 above above).0 q in
    absurd (omega arith)

pub takes : TakesValues (crossed 0) (of_three (whole 4) (whole 9) (whole 8))
unfolding value whole make gcd ◌+ₙ◌ ◌*ₙ◌
takes = record {
  parameters = ((λ e. absurd (cc)), ((λ e. absurd (cc)), ((λ e. absurd (cc)), tt)));
  boxes = ((λ e. (record { low = least_four; high = four_ten }, tt)), ((λ e. absurd (cc)), ((λ e. absurd (cc)), tt)));
  cases = (refl, (refl, (tt, tt)));
}

pub other_case : TakesValues (crossed 0) (of_three (whole 4) (whole 8) (whole 8)) → ⊥
unfolding value whole make gcd ◌+ₙ◌ ◌*ₙ◌
other_case t = let e = ap (λ (a : Number). a.num) t.cases.0 in absurd (cc)

pub outside : TakesValues (crossed 0) (of_three (whole 11) (whole 23) (whole 22)) → ⊥
outside t = eleven_ten ((t.boxes.0 refl).0.high)
