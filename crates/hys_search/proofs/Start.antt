-- What holds before the first step.
use Rattle.std.proofs.Common.{◌≡◌, ℕ, ◌<◌, ◌≤◌, List, [], ◌∷◌, length, refl, sym, ap, subst, arith, None}
use Rattle.hys_number.proofs.Order.{le_refl'}
use Rattle.hys_search.specs.declared.nodes.Standing.TheVariants.{Waits}
use Rattle.hys_dual.specs.Relaxing.{IsWarm}
use Rattle.hys_dual.specs.declared.warm.Warm.{Warm}
use Rattle.hys_lin.specs.Problem.{IsProblem}
use Rattle.hys_lin.specs.declared.problem.Problem.{Problem}
use Rattle.hys_relax.specs.Bound.{plain_bound}
use Rattle.hys_relax.specs.BoundSum.{BoundFits}
use Rattle.hys_relax.specs.Node.{IsNode}
use Rattle.hys_relax.specs.declared.fixing.Fixing.{Fixing}
use Rattle.hys_search.specs.Core.{Holds, start}
use Rattle.hys_search.specs.Nodes.{no_node, path, shape, sum_below, weigh}
use Rattle.hys_search.specs.Standings.{Certifies, NodeHolds, Stands, nothing}

path_start : path (no_node ∷ []) 0 ≡ []
unfolding path
path_start = refl

once_start : (f : ℕ → ℕ) → weigh f (shape (no_node ∷ [])) ≡ sum_below f 1
unfolding shape
once_start f = omega arith

is_first : (j : ℕ) → j < 1 → 0 ≡ j
is_first j l = omega arith

pub start_holds : (P : Problem) (n : ℕ) (w : Warm) → IsProblem P → n ≤ 500000 → BoundFits P [] [] → IsWarm P [] w → Holds (start P n w)
start_holds P n w s l b r =
    let c : Certifies P (record { multipliers = nothing; depth = 0; bound = plain_bound P }) [] = record {
      within = omega arith;
      rise = tt;
      lawful = tt;
      bound = refl;
      sum_fits = b;
      least = le_refl' (plain_bound P);
    } in
    let h : NodeHolds P (start P n w).certificates [] None (no_node ∷ []) 0 = subst (λ (fs : List Fixing). Stands P (start P n w).certificates [] None (no_node ∷ []) 0 0 fs Waits) (sym path_start) (omega arith, c) in
    record {
      sound = s;
      rooted = omega arith;
      root = refl;
      parents = λ j a b. absurd (omega arith);
      apart = λ j b. subst (λ j. IsNode P (path (no_node ∷ []) j)) (is_first j b) (subst (IsNode P) (sym path_start) tt);
      each = λ j b. subst (λ j. NodeHolds P (start P n w).certificates [] None (no_node ∷ []) j) (is_first j b) h;
      once = once_start;
      queued = refl;
      entered = ap (λ (fs : List Fixing). record { depth = length fs; bound = plain_bound P } ∷ []) (sym path_start);
      best = tt;
      counted = omega arith;
      doubled = omega arith;
      kept_to = omega arith;
      limited = l;
      warm_there = omega arith;
      warmed = subst (λ (z : List Fixing). IsWarm P z w) (sym path_start) r;
    }
