-- What the relaxation of a node came to.
use Rattle.std.specs.Prelude.{◌≡◌, ℕ, List}
use Rattle.hys_lin.specs.declared.problem.Problem.{Problem}
use Rattle.hys_relax.specs.declared.fixing.Fixing.{Fixing}
use Rattle.hys_dual.specs.Relaxing.{IsLeast, IsNever, IsStuck, IsPointAfter, EndsAfter}
use Rattle.hys_dual.specs.Bounding.{IsBoundAt}
use Rattle.hys_dual.specs.declared.relaxed.Relaxed.{Relaxed}
use Rattle.hys_search.specs.declared.outcome.Outcome.{Outcome}
use Rattle.hys_search.specs.declared.outcome.Outcome.TheVariants.{Least, Never, Stuck}
use Rattle.hys_search.specs.Branching.{cost_at, IsChosen}

-- the relaxation's answer, with the cost of its point and the column to be branched, or with the bound of its multipliers where that fits
abbrev pub IsOutcome : Problem → List Fixing → Outcome → Type 0
IsOutcome p fs (Least x z m c) = IsLeast p fs x.values m.pairs × (cost_at p x ≡ z) × IsChosen p x c
IsOutcome p fs (Never m) = IsNever p fs m.pairs
IsOutcome p fs (Stuck r m b) = IsStuck p fs r m.pairs × IsBoundAt p fs m.pairs b

-- a point is that of the status after the path
abbrev pub IsPointOf : Problem → List Fixing → List (ℕ × ℕ) → Outcome → Type 0
IsPointOf p fs path (Least x z m c) = IsPointAfter p fs path x.values
IsPointOf p fs path (Never m) = Unit {0}
IsPointOf p fs path (Stuck r m b) = Unit {0}

-- whatever path the relaxation's answer is after, a point of the outcome is that of the status after it
abbrev pub KeepsPoint : Problem → List Fixing → Relaxed → Outcome → Type 0
KeepsPoint p fs relaxed o = (path : List (ℕ × ℕ)) → EndsAfter p fs path relaxed → IsPointOf p fs path o
