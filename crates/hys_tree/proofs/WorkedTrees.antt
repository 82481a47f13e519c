-- The worked tree shows its claim.
use Rattle.std.proofs.Common.{◌≡◌, ℕ, suc, zero, ◌<◌, refl, arith, [], ◌∷◌, true, false, inl, inr, subst, sym}
use Rattle.hys_number.specs.Number.{make}
use Rattle.hys_number.specs.Gcd.{gcd}
use Rattle.hys_number.specs.Ops.{◌+ₙ◌, ◌*ₙ◌, ◌≤ₙ◌, ◌<ₙ◌, neg, whole, fits}
use Rattle.hys_number.proofs.Order.{le_refl'}
use Rattle.hys_lin.specs.Bits.{IsBit}
use Rattle.hys_lin.specs.Ranges.{box_at}
use Rattle.hys_lin.specs.Sums.{at, value, Holds, Within}
use Rattle.hys_relax.specs.Node.{StackedSolution, is_branch}
use Rattle.hys_relax.proofs.Examples.{worked_bounds, worked_problem}
use Rattle.hys_relax.specs.Worked.{worked}
use Rattle.hys_relax.proofs.Nodes.{zero_one, there}
use Rattle.hys_tree.specs.Certificate.{Certificate, cost, never, fork}
use Rattle.hys_tree.specs.Worked.{worked_places, worked_claim, with_pairs}
use Rattle.hys_tree.specs.Shows.{Shows}
use Rattle.hys_tree.specs.Fits.{Fits}
use Rattle.hys_tree.specs.Laws.{WorkedTree}
use Rattle.hys_relax.specs.Worked.{on_equation, on_demand}

abbrev worked_certificate : Certificate
worked_certificate = fork 1 (cost (with_pairs on_equation) 1) (fork 2 (cost (with_pairs on_equation) 2) (never (with_pairs on_demand) 2))

pub worked_fits : Fits worked worked_places worked_claim
unfolding ◌+ₙ◌ ◌*ₙ◌ neg whole make gcd fits
worked_fits = record {
  tree = worked_certificate;
  preordered = refl;
  fits = (refl, (refl, refl));
  claim = record { rows = (refl, (refl, tt)); cost = refl };
}

-- ---- the bounds
three_two : neg (whole 3) ≤ₙ neg (whole 2)
unfolding neg whole make gcd ◌≤ₙ◌
three_two = omega arith

zero_below_one : whole 0 <ₙ whole 1
unfolding whole make gcd ◌<ₙ◌
zero_below_one = omega arith

-- ---- the point
inside : (c : ℕ) → c < 4 → Within (box_at worked.boxes c) (at (whole 0 ∷ whole 1 ∷ whole 0 ∷ whole 3 ∷ []) c)
unfolding whole make gcd ◌≤ₙ◌
inside zero h = record { low = omega arith; high = omega arith }
inside (suc zero) h = record { low = omega arith; high = omega arith }
inside (suc (suc zero)) h = record { low = omega arith; high = omega arith }
inside (suc (suc (suc zero))) h = record { low = omega arith; high = omega arith }
inside (suc (suc (suc (suc n)))) h = absurd (omega arith)

false_true : false ≡ true → ⊥
false_true e = absurd (cc)

bits : (c : ℕ) → is_branch worked c ≡ true → IsBit (at (whole 0 ∷ whole 1 ∷ whole 0 ∷ whole 3 ∷ []) c)
bits zero h = absurd (false_true h)
bits (suc zero) h = inr refl
bits (suc (suc zero)) h = inl refl
bits (suc (suc (suc zero))) h = absurd (false_true h)
bits (suc (suc (suc (suc n)))) h = let l : suc (suc (suc (suc n))) < 4 = there worked worked_problem (suc (suc (suc (suc n)))) h in absurd (omega arith)

solution : StackedSolution worked (whole 0 ∷ whole 1 ∷ whole 0 ∷ whole 3 ∷ [])
unfolding Holds ◌+ₙ◌ ◌*ₙ◌ ◌≤ₙ◌ neg whole make gcd
solution = record { long = refl; inside = inside; bits = bits; rows = (omega arith, (refl, tt)) }

solved : value worked.cost (at (whole 0 ∷ whole 1 ∷ whole 0 ∷ whole 3 ∷ [])) ≡ neg (whole 3)
unfolding value ◌+ₙ◌ ◌*ₙ◌ neg whole make gcd
solved = refl

pub worked_shows : Shows worked worked_places worked_claim
worked_shows = record {
  tree = worked_certificate;
  preordered = refl;
  shows = (
    record { branch = refl; free = refl },
    record { depth = omega arith; lawful = ((omega arith, tt), tt); keeps = subst (λ z. neg (whole 3) ≤ₙ z) (sym worked_bounds.without) three_two },
    (
      record { branch = refl; free = refl },
      record { depth = omega arith; lawful = ((omega arith, tt), tt); keeps = subst (λ z. neg (whole 3) ≤ₙ z) (sym worked_bounds.one_alone) (le_refl' (neg (whole 3))) },
      record { depth = omega arith; lawful = ((omega arith, zero_one), tt); above = subst (λ z. whole 0 <ₙ z) (sym worked_bounds.both) zero_below_one },
    ),
  );
  claim = record { solution = solution; cost = solved };
}

pub worked_tree : WorkedTree
worked_tree = record { shows = worked_shows; fits = worked_fits }
