-- The worked problem's bounds.
use Rattle.std.proofs.Common.{◌≡◌, ℕ, ◌<◌, ◌∙◌, pos, refl, sym, ap, arith, [], ◌∷◌}
use Rattle.std.specs.List.{AllByRecursion}
use Rattle.std.proofs.lemmas.List.Elements.{All-from_recursion}
use Rattle.hys_number.specs.Number.{Number, make}
use Rattle.hys_number.specs.Gcd.{gcd}
use Rattle.hys_number.specs.Ops.{◌+ₙ◌, ◌*ₙ◌, ◌≤ₙ◌, neg, whole, fits}
use Rattle.hys_number.proofs.Order.{le_refl'}
use Rattle.hys_number.proofs.Laws.{whole-ratio}
use Rattle.hys_number.proofs.Field.{neg_neg}
use Rattle.hys_number.proofs.Ring.{by_ring, k, minus}
use Rattle.hys_number.proofs.Scale.{overs}
use Rattle.hys_lin.specs.Ranges.{box_at}
use Rattle.hys_lin.specs.Problem.{IsProblem, IsBranch}
use Rattle.hys_lin.specs.Sums.{IsInterval, IsUnit}
use Rattle.hys_lin.specs.Over.{AreTermsOver}
use Rattle.hys_lin.specs.declared.form.Row.{Row}
use Rattle.hys_relax.specs.Worked.{worked}
use Rattle.hys_relax.specs.Laws.{WorkedBounds}
use Rattle.hys_relax.proofs.Nodes.{zero_one}

zero_ten : whole 0 ≤ₙ whole 10
zero_ten = let h : 0 < 1 = omega arith in rw (whole-ratio 0 1 h, whole-ratio 10 1 h) (simp (overs, h) (omega arith))

one_not : whole 1 ≡ whole 0 → ⊥
unfolding whole make gcd
one_not e = let n : pos 1 ≡ pos 0 = ap (λ (x : Number). x.num) e in absurd (cc)

two_not : whole 2 ≡ whole 0 → ⊥
unfolding whole make gcd
two_not e = let n : pos 2 ≡ pos 0 = ap (λ (x : Number). x.num) e in absurd (cc)

three_not : whole 3 ≡ whole 0 → ⊥
unfolding whole make gcd
three_not e = let n : pos 3 ≡ pos 0 = ap (λ (x : Number). x.num) e in absurd (cc)

neg_not : (a : Number) → (a ≡ whole 0 → ⊥) → neg a ≡ whole 0 → ⊥
neg_not a h e = h (sym (neg_neg a) ∙ ap neg e ∙ by_ring [] (minus (k 0)) (k 0) refl)

unit : (c : ℕ) → c < 4 → IsUnit (box_at worked.boxes c) → IsBranch worked.boxes c
unit c l u = record { below = l; unit = u }

worked_rows : AllByRecursion (λ (r : Row). AreTermsOver 4 r.terms) worked.rows
worked_rows = (
  record { rise = (three_not, (omega arith, tt), (two_not, tt, tt)); below = (omega arith, (omega arith, tt)) },
  (
    record {
      rise = (neg_not (whole 1) one_not, (omega arith, (omega arith, (omega arith, tt))), (neg_not (whole 3) three_not, (omega arith, (omega arith, tt)), (neg_not (whole 2) two_not, (omega arith, tt), (one_not, tt, tt))));
      below = (omega arith, (omega arith, (omega arith, (omega arith, tt))));
    },
    tt,
  ),
)

pub worked_problem : IsProblem worked
worked_problem = record {
  boxes = All-from_recursion IsInterval worked.boxes (le_refl' (whole 0), (zero_one, (zero_one, (zero_ten, tt))));
  rows = All-from_recursion (λ (r : Row). AreTermsOver 4 r.terms) worked.rows worked_rows;
  cost = record { rise = (neg_not (whole 1) one_not, tt, tt); below = (omega arith, tt) };
  rise = (All-from_recursion (λ (d : ℕ). 1 < d) (2 ∷ []) (omega arith, tt), (All-from_recursion (λ (d : ℕ). 2 < d) [] tt, tt));
  branch = All-from_recursion (IsBranch worked.boxes) worked.branch (unit 1 (omega arith) (refl, refl), (unit 2 (omega arith) (refl, refl), tt));
}

pub worked_bounds : WorkedBounds
unfolding ◌+ₙ◌ ◌*ₙ◌ neg whole make gcd fits
worked_bounds = record {
  is_problem = worked_problem;
  plain = refl;
  root = refl;
  root_by_equation = refl;
  without = refl;
  with_first = refl;
  one_alone = refl;
  both = refl;
  lost = refl;
  lost_first = refl;
  lost_end = refl;
  fits = refl;
}
