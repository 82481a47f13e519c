-- The worked problems are problems.
use Rattle.std.proofs.Common.{◌≡◌, ℕ, ◌<◌, refl, ap, arith, pos, negsuc, []}
use Rattle.std.proofs.lemmas.List.Elements.{All-from_recursion}
use Rattle.hys_number.specs.Number.{Number, make}
use Rattle.hys_number.specs.Ops.{◌+ₙ◌, ◌*ₙ◌, ◌≤ₙ◌, neg, inverse, whole}
use Rattle.hys_number.specs.Gcd.{gcd}
use Rattle.hys_lin.specs.Over.{AreTermsOver}
use Rattle.hys_lin.specs.Problem.{IsProblem, IsBranch}
use Rattle.hys_lin.specs.Sums.{IsInterval}
use Rattle.hys_lin.specs.declared.form.Row.{Row}
use Rattle.hys_simplex.specs.Worked.{decay, step_row, decaying, equated}
use Rattle.hys_simplex.proofs.Decide.{le_yes}
use Rattle.hys_dual.specs.Cases.{bare, barred}

-- ---- numbers
zero_one : whole 0 ≤ₙ whole 1
unfolding whole make gcd ◌+ₙ◌ neg
zero_one = le_yes (whole 0) (whole 1) refl

below_signed : neg (whole 1) ≤ₙ whole 1
unfolding whole make gcd ◌+ₙ◌ neg
below_signed = le_yes (neg (whole 1)) (whole 1) refl

below_wide : neg (whole 10) ≤ₙ whole 10
unfolding whole make gcd ◌+ₙ◌ neg
below_wide = le_yes (neg (whole 10)) (whole 10) refl

below_bare : neg (whole 2) ≤ₙ whole 3
unfolding whole make gcd ◌+ₙ◌ neg
below_bare = le_yes (neg (whole 2)) (whole 3) refl

one_itself : whole 1 ≤ₙ whole 1
unfolding whole make gcd ◌+ₙ◌ neg
one_itself = le_yes (whole 1) (whole 1) refl

one_not : whole 1 ≡ whole 0 → ⊥
unfolding whole make gcd
one_not e = let n : pos 1 ≡ pos 0 = ap (λ (x : Number). x.num) e in absurd (cc)

two_not : whole 2 ≡ whole 0 → ⊥
unfolding whole make gcd
two_not e = let n : pos 2 ≡ pos 0 = ap (λ (x : Number). x.num) e in absurd (cc)

minus_one_not : neg (whole 1) ≡ whole 0 → ⊥
unfolding whole make gcd neg
minus_one_not e = let n : negsuc 0 ≡ pos 0 = ap (λ (x : Number). x.num) e in absurd (cc)

decay_not : decay ≡ whole 0 → ⊥
unfolding whole make gcd neg ◌*ₙ◌ inverse
decay_not e = let n : negsuc 123456788 ≡ pos 0 = ap (λ (x : Number). x.num) e in absurd (cc)

-- ---- the decaying state
step_terms : (t : ℕ) → t < 3 → AreTermsOver 7 (step_row t).terms
step_terms t l = record {
  rise = (decay_not, (omega arith, (omega arith, tt)), (minus_one_not, (omega arith, tt), (one_not, tt, tt)));
  below = (omega arith, (omega arith, (omega arith, tt)));
}

pub decaying_is : IsProblem decaying
decaying_is = record {
  boxes = All-from_recursion IsInterval decaying.boxes (one_itself, (below_signed, (below_wide, (below_signed, (below_wide, (below_signed, (below_wide, tt)))))));
  rows = All-from_recursion (λ (r : Row). AreTermsOver 7 r.terms) decaying.rows (step_terms 0 (omega arith), (step_terms 1 (omega arith), (step_terms 2 (omega arith), tt)));
  cost = record { rise = (one_not, tt, tt); below = (omega arith, tt) };
  rise = tt;
  branch = All-from_recursion (IsBranch decaying.boxes) [] tt;
}

-- ---- the small problems
pub equated_is : IsProblem equated
equated_is = record {
  boxes = All-from_recursion IsInterval equated.boxes (zero_one, (zero_one, tt));
  rows = All-from_recursion (λ (r : Row). AreTermsOver 2 r.terms) equated.rows (
    record { rise = (two_not, (omega arith, tt), (minus_one_not, tt, tt)); below = (omega arith, (omega arith, tt)) },
    (record { rise = (minus_one_not, (omega arith, tt), (minus_one_not, tt, tt)); below = (omega arith, (omega arith, tt)) }, tt),
  );
  cost = record { rise = (one_not, tt, tt); below = (omega arith, tt) };
  rise = tt;
  branch = All-from_recursion (IsBranch equated.boxes) [] tt;
}

pub bare_is : IsProblem bare
bare_is = record {
  boxes = All-from_recursion IsInterval bare.boxes (zero_one, (below_bare, tt));
  rows = All-from_recursion (λ (r : Row). AreTermsOver 2 r.terms) [] tt;
  cost = record { rise = (minus_one_not, (omega arith, tt), (two_not, tt, tt)); below = (omega arith, (omega arith, tt)) };
  rise = tt;
  branch = All-from_recursion (IsBranch bare.boxes) [] tt;
}

pub barred_is : IsProblem barred
barred_is = record {
  boxes = All-from_recursion IsInterval barred.boxes (zero_one, tt);
  rows = All-from_recursion (λ (r : Row). AreTermsOver 1 r.terms) barred.rows (record { rise = (one_not, tt, tt); below = (omega arith, tt) }, tt);
  cost = record { rise = (one_not, tt, tt); below = (omega arith, tt) };
  rise = tt;
  branch = All-from_recursion (IsBranch barred.boxes) [] tt;
}
