use Rattle.std.proofs.Common.{ℕ, ◌<◌, [], ◌∷◌, arith}
use Rattle.std.proofs.lemmas.List.Elements.{All-head, All-tail}
use Rattle.hys_lin.specs.Example.{branching}
use Rattle.hys_lin.specs.Problem.{IsBranch, IsProblem}
use Rattle.hys_lin.proofs.Examples.{four_not_one}
use Rattle.hys_lin.proofs.laws.unlawful_branches.Goals as goal

pub returns-clause-wide : goal.returns-clause-wide
returns-clause-wide c = λ p. four_not_one (IsBranch.unit (All-head (IsBranch (branching []).boxes) 1 [] (IsProblem.branch p))).1

pub returns-clause-falling : goal.returns-clause-falling
returns-clause-falling c = λ p. let l : 2 < 0 = All-head (λ (d : ℕ). 2 < d) 0 [] (IsProblem.rise p).0 in absurd (omega arith)

pub returns-clause-twice : goal.returns-clause-twice
returns-clause-twice c = λ p. let l : 0 < 0 = All-head (λ (d : ℕ). 0 < d) 0 [] (IsProblem.rise p).0 in absurd (omega arith)

pub returns-clause-beyond : goal.returns-clause-beyond
returns-clause-beyond c = λ p. let l : 3 < 3 = IsBranch.below (All-head (IsBranch (branching []).boxes) 3 [] (All-tail (IsBranch (branching []).boxes) 0 (3 ∷ []) (IsProblem.branch p))) in absurd (omega arith)
