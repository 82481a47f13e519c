-- Ruled paths: what holds of each tableau on them, and that they are shorter than the number of statuses.
use Rattle.std.proofs.Common.{◌≡◌, ℕ, zero, suc, ◌+◌, ◌*◌, ◌^◌, ◌<◌, ◌≤◌, refl, sym, ◌∙◌, ap, ap₂, subst, arith, List, [], ◌∷◌, ◌++◌, length, take}
use Rattle.hys_number.specs.Number.{Number}
use Rattle.hys_number.specs.Ops.{◌+ₙ◌, ◌*ₙ◌, neg, ◌≤ₙ◌, whole}
use Rattle.hys_number.proofs.Order.{le_trans}
use Rattle.hys_number.proofs.Ring.{by_ring, minus}
use Rattle.hys_number.proofs.Ring.{k as num}
use native.Mathlib.Numerals.{unary_clauses}
use Rattle.std.proofs.Math.Nat.{pow-succ'}
use Rattle.hys_number.proofs.Sums.{sum_to-same}
use Rattle.hys_lin.specs.Sums.{Within}
use Rattle.hys_relax.specs.Node.{Boxes}
use Rattle.hys_relax.specs.LinearProgram.{LinearProgram}
use Rattle.hys_relax.specs.Bound.{bound_of, reduced_cost, least_product}
use Rattle.hys_relax.proofs.Duality.{bound_grows}
use Rattle.hys_simplex.specs.Tableau.{Tableau, start, pivot, after, ArePivots, IsOf, cost_multiplier}
use Rattle.hys_simplex.specs.Status.{Rises, IsDualFeasible, IsSameStatus, status_value, raised}
use Rattle.hys_simplex.specs.Rule.{IsRuled}
use Rattle.hys_simplex.specs.Path.{RulesPath, IsRun, status_count}
use Rattle.hys_simplex.proofs.Relations.{IsOrdered, raised_cost, SameEnds}
use Rattle.hys_simplex.proofs.Places.{start_of, coef_basic}
use Rattle.hys_simplex.proofs.Measure.{power}
use Rattle.hys_simplex.proofs.Chain.{IsChain, never_twice, chain_ends, base}
use Rattle.hys_simplex.proofs.Paths.{bound_not_lowered}
use Rattle.hys_simplex.proofs.Ranges.{stands, test_yes, test_is}
use Rattle.hys_simplex.proofs.Rules.{ruled_of, ruled_cell, pivot_rises, pivot_feasible}

-- ---- one pivot
pub start_feasible : (P : LinearProgram) → IsDualFeasible P (start P)
start_feasible P j i lj li e f = absurd (omega arith)

pub pivot_bound : (P : LinearProgram) (B : Boxes) (T : Tableau) (r c : ℕ) → IsOf P T → IsOrdered P.columns B → IsRuled P B T r c →
    bound_of P B (cost_multiplier P T) ≤ₙ bound_of P B (cost_multiplier P (pivot T r c))
pivot_bound P B T r c o b h = bound_not_lowered P B T (pivot T r c) (status_value P B T) (status_value P B (pivot T r c)) o (ruled_of P B T r c o h) (stands P B T o) (stands P B (pivot T r c) (ruled_of P B T r c o h))
    (pivot_rises P B T r c o b h)

-- ---- paths over the boxes of several levels
pub record Kept (P : LinearProgram) (T : Tableau) : Type 0 where
  pub of : IsOf P T
  pub feasible : IsDualFeasible P T

pub path_kept : (P : LinearProgram) (level : ℕ → Boxes) (from top : ℕ) (T : Tableau) (ps : List (ℕ × ℕ)) → ((k : ℕ) → IsOrdered P.columns (level k)) → RulesPath P level from top T ps → Kept P T → Kept P (after T ps)
path_kept P level from top T [] b h s = s
path_kept P level from top T (p ∷ ps) b h s = path_kept P level h.0 top (pivot T p.0 p.1) ps b h.4
    (record { of = ruled_of P (level h.0) T p.0 p.1 s.of h.3; feasible = pivot_feasible P (level h.0) T p.0 p.1 s.of (b h.0) h.3 s.feasible })

pub path_pivots : (P : LinearProgram) (level : ℕ → Boxes) (from top : ℕ) (T : Tableau) (ps : List (ℕ × ℕ)) → RulesPath P level from top T ps → IsOf P T → ArePivots T ps
path_pivots P level from top T [] h o = tt
path_pivots P level from top T (p ∷ ps) h o = (
  rw o.tall h.3.leaving.row,
  rw o.wide h.3.entering.column,
  ruled_cell P (level h.0) T p.0 p.1 h.3,
  path_pivots P level h.0 top (pivot T p.0 p.1) ps h.4 (ruled_of P (level h.0) T p.0 p.1 o h.3),
)

-- a deeper level has smaller boxes
abbrev pub AreNested : ℕ → (ℕ → Boxes) → Type 0
AreNested n level = (k m : ℕ) → k ≤ m → (j : ℕ) → j < n → Within (level k j) (level m j).low × Within (level k j) (level m j).high

level_bound : (P : LinearProgram) (level : ℕ → Boxes) (y : ℕ → Number) (k m : ℕ) → AreNested P.columns level → k ≤ m → bound_of P (level k) y ≤ₙ bound_of P (level m) y
level_bound P level y k m n l = bound_grows P (level k) (level m) y (λ j q. (n k m l j q).0) (λ j q. (n k m l j q).1)

-- the bound of the cost row's multipliers never falls on the way
pub path_bound : (P : LinearProgram) (level : ℕ → Boxes) (from top : ℕ) (T : Tableau) (ps : List (ℕ × ℕ)) (z : Number) → ((k : ℕ) → IsOrdered P.columns (level k)) → AreNested P.columns level → from ≤ top →
    RulesPath P level from top T ps → IsOf P T → z ≤ₙ bound_of P (level from) (cost_multiplier P T) → z ≤ₙ bound_of P (level top) (cost_multiplier P (after T ps))
path_bound P level from top T [] z b n l h o e = le_trans z (bound_of P (level from) (cost_multiplier P T)) _ e (level_bound P level (cost_multiplier P T) from top n l)
path_bound P level from top T (p ∷ ps) z b n l h o e = path_bound P level h.0 top (pivot T p.0 p.1) ps z b n h.2 h.4 (ruled_of P (level h.0) T p.0 p.1 o h.3)
    (le_trans z (bound_of P (level h.0) (cost_multiplier P T)) _
    (le_trans z (bound_of P (level from) (cost_multiplier P T)) _ e (level_bound P level (cost_multiplier P T) from h.0 n h.1))
    (pivot_bound P (level h.0) T p.0 p.1 o (b h.0) h.3))

-- at the start the multipliers are 0
pub bound_same : (P : LinearProgram) (B : Boxes) (y z : ℕ → Number) → ((i : ℕ) → i < P.rows → y i ≡ z i) → bound_of P B y ≡ bound_of P B z
bound_same P B y z h = ap₂ ◌+ₙ◌ (ap (λ s. P.constant +ₙ neg s) (sum_to-same P.rows (λ i. y i *ₙ P.bound i) (λ i. z i *ₙ P.bound i) (λ i l. ap (λ s. s *ₙ P.bound i) (h i l))))
    (sum_to-same P.columns (λ j. least_product (reduced_cost P y j) (B j)) (λ j. least_product (reduced_cost P z j) (B j))
    (λ j l. ap (λ s. least_product (P.cost j +ₙ s) (B j)) (sum_to-same P.rows (λ i. y i *ₙ P.factor i j) (λ i. z i *ₙ P.factor i j) (λ i m. ap (λ s. s *ₙ P.factor i j) (h i m)))))

pub start_multiplier : (P : LinearProgram) (i : ℕ) → i < P.rows → cost_multiplier P (start P) i ≡ whole 0
start_multiplier P i l = ap neg (coef_basic P (start P) (start_of P) P.rows i (omega arith) (omega arith) (λ e. absurd (omega (arith, e)))) ∙ by_ring [] (minus (num 0)) (num 0) refl

-- ---- runs over the same boxes
pub run_kept : (P : LinearProgram) (B : Boxes) (T : Tableau) (ps : List (ℕ × ℕ)) (i : ℕ) → IsOrdered P.columns B → IsRun P B T ps → Kept P T → Kept P (after T (take i ps))
run_kept P B T [] zero b h s = s
run_kept P B T [] (suc i) b h s = s
run_kept P B T (p ∷ ps) zero b h s = s
run_kept P B T (p ∷ ps) (suc i) b h s = run_kept P B (pivot T p.0 p.1) ps i b h.1
    (record { of = ruled_of P B T p.0 p.1 s.of h.0; feasible = pivot_feasible P B T p.0 p.1 s.of b h.0 s.feasible })

run_rises : (P : LinearProgram) (B : Boxes) (T : Tableau) (ps : List (ℕ × ℕ)) (i : ℕ) → IsOrdered P.columns B → IsRun P B T ps → Kept P T → i < length ps →
    Rises (suc P.columns) (raised_cost P (status_value P B (after T (take i ps)))) (raised_cost P (status_value P B (after T (take (suc i) ps))))
run_rises P B T [] i b h s l = absurd (omega arith)
run_rises P B T (p ∷ ps) zero b h s l = subst (λ z. Rises (suc P.columns) (raised_cost P (status_value P B T)) (raised_cost P (status_value P B (after (pivot T p.0 p.1) z)))) (none ps) (pivot_rises P B T p.0 p.1 s.of b h.0)
  where
    none : (xs : List (ℕ × ℕ)) → [] ≡ take 0 xs
    none [] = refl
    none (x ∷ xs) = refl
run_rises P B T (p ∷ ps) (suc i) b h s l = run_rises P B (pivot T p.0 p.1) ps i b h.1
    (record { of = ruled_of P B T p.0 p.1 s.of h.0; feasible = pivot_feasible P B T p.0 p.1 s.of b h.0 s.feasible }) (omega arith)

pub run_chain : (P : LinearProgram) (B : Boxes) (T : Tableau) (ps : List (ℕ × ℕ)) → IsOrdered P.columns B → IsRun P B T ps → Kept P T →
    IsChain P B (length ps) (λ i. after T (take i ps)) (λ i. status_value P B (after T (take i ps)))
run_chain P B T ps b h s = record {
  of = λ i l. (run_kept P B T ps i b h s).of;
  status = λ i l. stands P B (after T (take i ps)) (run_kept P B T ps i b h s).of;
  rises = λ i l. run_rises P B T ps i b h s l;
}

same_ends : (P : LinearProgram) (T T' : Tableau) → IsSameStatus P T T' → SameEnds P T T'
same_ends P T T' h = record {
  basics = h.basics;
  ends = λ j j' l l' m e. (
    λ q. test_yes (suc P.columns) (raised P T' j') (sym (h.ends j j' l l' m e) ∙ test_is (suc P.columns) (raised P T j) q),
    λ q. test_yes (suc P.columns) (raised P T j) (h.ends j j' l l' m e ∙ test_is (suc P.columns) (raised P T' j') q),
  );
}

-- no status comes twice
pub run_never_twice : (P : LinearProgram) (B : Boxes) (T : Tableau) (ps : List (ℕ × ℕ)) → IsOrdered P.columns B → IsRun P B T ps → Kept P T → (i j : ℕ) → i < j → j ≤ length ps →
    IsSameStatus P (after T (take i ps)) (after T (take j ps)) → ⊥
run_never_twice P B T ps b h s i j l m e = never_twice P B (length ps) (λ i. after T (take i ps)) (λ i. status_value P B (after T (take i ps))) (run_chain P B T ps b h s) i j l m (same_ends P _ _ e)

power_is : (b n : ℕ) → power b n ≡ b ^ n
power_is b zero = simp unary_clauses refl
power_is b (suc n) = ap (λ z. b * z) (power_is b n) ∙ sym (pow-succ' b n)

pub run_ends : (P : LinearProgram) (B : Boxes) (T : Tableau) (ps : List (ℕ × ℕ)) → IsOrdered P.columns B → IsRun P B T ps → Kept P T → length ps < status_count P
run_ends P B T ps b h s = subst (λ z. length ps < z) (power_is (base P) (P.rows + P.columns)) (chain_ends P B (length ps) (λ i. after T (take i ps)) (λ i. status_value P B (after T (take i ps))) (run_chain P B T ps b h s))

-- ---- one pivot more
pub after_append : (T : Tableau) (ps qs : List (ℕ × ℕ)) → after T (ps ++ qs) ≡ after (after T ps) qs
after_append T [] qs = refl
after_append T (p ∷ ps) qs = after_append (pivot T p.0 p.1) ps qs

pub run_append : (P : LinearProgram) (B : Boxes) (T : Tableau) (ps qs : List (ℕ × ℕ)) → IsRun P B T ps → IsRun P B (after T ps) qs → IsRun P B T (ps ++ qs)
run_append P B T [] qs h r = r
run_append P B T (p ∷ ps) qs h r = (h.0, run_append P B (pivot T p.0 p.1) ps qs h.1 r)

pub run_grows : (P : LinearProgram) (B : Boxes) (T : Tableau) (ps : List (ℕ × ℕ)) (r c : ℕ) → IsRun P B T ps → IsRuled P B (after T ps) r c → IsRun P B T (ps ++ (r, c) ∷ [])
run_grows P B T ps r c h q = run_append P B T ps ((r, c) ∷ []) h (q, tt)
