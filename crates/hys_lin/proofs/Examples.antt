-- Which columns of the small problem may be branched.
use Rattle.std.proofs.Common.{◌≡◌, ℕ, List, arith}
use Rattle.std.specs.Prelude.{All}
use Rattle.std.proofs.lemmas.List.Elements.{All-from_recursion}
use Rattle.hys_number.specs.Ops.{◌≤ₙ◌, whole}
use Rattle.hys_number.proofs.Signs.{neg_is_zero, whole-same, whole-le}
use Rattle.hys_lin.specs.Example.{branching}
use Rattle.hys_lin.specs.Over.{AreTermsOver}
use Rattle.hys_lin.specs.Problem.{IsProblem, IsBranch, Rise}
use Rattle.hys_lin.specs.Sums.{IsInterval}
use Rattle.hys_lin.specs.declared.form.Row.{Row}

one_is_none : ¬ (whole 1 ≡ whole 0)
one_is_none e = absurd (omega (arith, (whole-same 1 0).0 e))

two_is_none : ¬ (whole 2 ≡ whole 0)
two_is_none e = absurd (omega (arith, (whole-same 2 0).0 e))

pub four_not_one : ¬ (whole 4 ≡ whole 1)
four_not_one e = absurd (omega (arith, (whole-same 4 1).0 e))

low : (n : ℕ) → whole 0 ≤ₙ whole n
low n = (whole-le 0 n).1 (omega arith)

-- all but the columns to be branched
pub lawful : (columns : List ℕ) → Rise columns → All (IsBranch (branching columns).boxes) columns → IsProblem (branching columns)
lawful columns r b = record {
  boxes = All-from_recursion IsInterval (branching columns).boxes (low 1, (low 4, (low 1, tt)));
  rows = All-from_recursion (λ (r : Row). AreTermsOver 3 r.terms) (branching columns).rows (record { rise = (one_is_none, (omega arith, tt), (two_is_none, tt, tt)); below = (omega arith, (omega arith, tt)) }, tt);
  cost = record { rise = (one_is_none, (omega arith, tt), (λ e. one_is_none (neg_is_zero (whole 1) e), tt, tt)); below = (omega arith, (omega arith, tt)) };
  rise = r;
  branch = b;
}
