use Rattle.std.proofs.Common.{ℕ, ◌<◌, [], ◌∷◌, refl, arith}
use Rattle.std.proofs.lemmas.List.Elements.{All-from_recursion}
use Rattle.hys_lin.specs.Example.{branching}
use Rattle.hys_lin.specs.Problem.{IsBranch}
use Rattle.hys_lin.proofs.Examples.{lawful}
use Rattle.hys_lin.proofs.laws.lawful_branches.Goals as goal

pub returns-clause-both : goal.returns-clause-both
returns-clause-both c =
    lawful (0 ∷ 2 ∷ []) (All-from_recursion (λ (d : ℕ). 0 < d) (2 ∷ []) (omega arith, tt), (All-from_recursion (λ (d : ℕ). 2 < d) [] tt, tt))
    (All-from_recursion (IsBranch (branching []).boxes) (0 ∷ 2 ∷ []) (record { below = omega arith; unit = (refl, refl) }, (record { below = omega arith; unit = (refl, refl) }, tt)))

pub returns-clause-none : goal.returns-clause-none
returns-clause-none c = lawful [] tt (All-from_recursion (IsBranch (branching []).boxes) [] tt)
