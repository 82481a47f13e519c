-- The rule, given by functions, is that of the relations.
use Rattle.std.proofs.Common.{◌≡◌, ℕ, suc, ◌<◌, inl, inr, refl, sym, ◌∙◌, ap, subst, arith, Bool, true, false, if◌then◌else◌, [], ◌∷◌}
use Rattle.hys_number.specs.Number.{Number}
use Rattle.hys_number.specs.Ops.{◌*ₙ◌, ◌-ₙ◌, neg, ◌<ₙ◌, whole}
use Rattle.hys_number.proofs.Ring.{by_ring, v, k, minus, ◌⊗◌}
use Rattle.hys_relax.specs.Node.{Boxes}
use Rattle.hys_relax.specs.LinearProgram.{LinearProgram}
use Rattle.hys_simplex.specs.Tableau.{Tableau, Solves, IsOf, pivot}
use Rattle.hys_simplex.specs.Status.{IsPositive, Rises, raised, is_raised_above, basic_value, status_value, IsDualFeasible}
use Rattle.hys_simplex.specs.Rule.{raised_sign, MayEnter, IsLeaving, IsRuled, IsBlocked}
use Rattle.hys_simplex.proofs.Relations.{CanMove, IsSign, KeepsRule, NearEnd, IsOrdered, NoneEnters, raised_cost}
use Rattle.hys_simplex.proofs.Lex.{down, nothing, up, positive_same}
use Rattle.hys_simplex.proofs.Lex.{raised_sign as sign_case}
use Rattle.hys_simplex.proofs.Rising.{raised_not_null, cell_not_zero}
use Rattle.hys_simplex.proofs.Ruled.{to_one, to_minus, ruled_rises, ruled_lawful}
use Rattle.hys_simplex.proofs.Ratios.{test_is_ratio}
use Rattle.hys_simplex.proofs.Places.{pivot_of}
use Rattle.hys_simplex.proofs.Ranges.{test_is, test_down, stands, basic_is, off_sign, off_above, off_near, movable}

-- ---- the sign of a raised cost cell
pub sign_is_sign : (P : LinearProgram) (T : Tableau) (j : ℕ) → IsSign (raised_sign P T j)
sign_is_sign P T j = go (is_raised_above P T j)
  where
    go : (b : Bool) → IsSign (if b then whole 1 else neg (whole 1))
    go true = inl refl
    go false = inr refl

pub sign_up : (P : LinearProgram) (T : Tableau) (j : ℕ) → IsPositive (suc P.columns) (raised P T j) → raised_sign P T j ≡ whole 1
sign_up P T j h = ap (λ b. if b then whole 1 else neg (whole 1)) (test_is (suc P.columns) (raised P T j) h)

pub sign_down : (P : LinearProgram) (T : Tableau) (j : ℕ) → IsPositive (suc P.columns) (λ t. neg (raised P T j t)) → raised_sign P T j ≡ neg (whole 1)
sign_down P T j h = ap (λ b. if b then whole 1 else neg (whole 1)) (test_down (suc P.columns) (raised P T j) h)

pub sign_stands : (P : LinearProgram) (T : Tableau) → IsOf P T → (w : ℕ → Number) → Solves T w → (j : ℕ) → j < P.columns → IsPositive (suc P.columns) (λ t. raised_sign P T j *ₙ raised P T j t)
sign_stands P T o w s j l = elim (sign_case (suc P.columns) (raised P T j)) as (λ _. IsPositive (suc P.columns) (λ t. raised_sign P T j *ₙ raised P T j t)) [
  | nothing n ↦ absurd (raised_not_null P T o w s j l n)
  | up h ↦ subst (λ z. IsPositive (suc P.columns) (λ t. z *ₙ raised P T j t)) (sym (sign_up P T j h)) (to_one (suc P.columns) (raised P T j) h)
  | down h ↦ subst (λ z. IsPositive (suc P.columns) (λ t. z *ₙ raised P T j t)) (sym (sign_down P T j h)) (to_minus (suc P.columns) (raised P T j) h)
]

-- the sign is the only one
pub sign_only : (P : LinearProgram) (T : Tableau) (j : ℕ) (s : Number) → IsSign s → IsPositive (suc P.columns) (λ t. s *ₙ raised P T j t) → s ≡ raised_sign P T j
sign_only P T j s (inl e) h = e ∙ sym (sign_up P T j (positive_same (suc P.columns) _ (raised P T j) (λ t l. ap (λ z. z *ₙ raised P T j t) e ∙ by_ring (raised P T j t ∷ []) (k 1 ⊗ v 0) (v 0) refl) h))
sign_only P T j s (inr e) h = e ∙ sym (sign_down P T j (positive_same (suc P.columns) _ (λ t. neg (raised P T j t)) (λ t l. ap (λ z. z *ₙ raised P T j t) e ∙ by_ring (raised P T j t ∷ []) (minus (k 1) ⊗ v 0) (minus (v 0)) refl) h))

enters : (P : LinearProgram) (B : Boxes) (T : Tableau) (r : ℕ) (side : Number) (j : ℕ) (s : Number) → CanMove P B T j → IsSign s → IsPositive (suc P.columns) (λ t. s *ₙ raised P T j t) →
    whole 0 <ₙ side *ₙ s *ₙ T.cell r j → MayEnter P B T r side j
enters P B T r side j s m q h l = record { movable = movable P B T j m; toward = subst (λ z. whole 0 <ₙ side *ₙ z *ₙ T.cell r j) (sign_only P T j s q h) l }

-- ---- the rule
pub leaving_off : (P : LinearProgram) (B : Boxes) (T : Tableau) (r : ℕ) (side near : Number) → IsOf P T → IsLeaving P B T r side near → whole 0 <ₙ side *ₙ (near -ₙ status_value P B T (T.basic r))
leaving_off P B T r side near o h = let l : r < P.rows = h.row in
    subst (λ z. whole 0 <ₙ side *ₙ (near -ₙ z)) (sym (basic_is P B T o r (omega arith))) (off_above P B (T.basic r) (basic_value P B T r) side near h.off)

pub rule_is : (P : LinearProgram) (B : Boxes) (T : Tableau) (r c : ℕ) → IsOf P T → (h : IsRuled P B T r c) → KeepsRule P B T (status_value P B T) r c h.side h.near (raised_sign P T c)
rule_is P B T r c o h = record {
  side_sign = ss;
  off = leaving_off P B T r h.side h.near o h.leaving;
  dir_sign = sign_is_sign P T c;
  stands = sign_stands P T o (status_value P B T) (stands P B T o).solves c h.entering.column;
  toward = h.entering.enters.toward;
  least = λ j s lj d m q p l test. h.entering.least j lj (enters P B T r h.side j s m q p l)
      (test_is_ratio P T r c j h.side (raised_sign P T c) s ss (sign_is_sign P T c) q h.entering.enters.toward l test);
}
  where
    ss : IsSign h.side
    ss = off_sign P B (T.basic r) (basic_value P B T r) h.side h.near h.leaving.off

pub ruled_cell : (P : LinearProgram) (B : Boxes) (T : Tableau) (r c : ℕ) → IsRuled P B T r c → ¬ (T.cell r c ≡ whole 0)
ruled_cell P B T r c h = cell_not_zero h.side (raised_sign P T c) (T.cell r c) h.entering.enters.toward

pub ruled_of : (P : LinearProgram) (B : Boxes) (T : Tableau) (r c : ℕ) → IsOf P T → IsRuled P B T r c → IsOf P (pivot T r c)
ruled_of P B T r c o h = pivot_of P T r c h.leaving.row h.entering.column (ruled_cell P B T r c h) o

pub rule_near : (P : LinearProgram) (B : Boxes) (T : Tableau) (r : ℕ) (side near : Number) → IsOf P T → IsLeaving P B T r side near → NearEnd P B T r side near
rule_near P B T r side near o h = off_near P B T o r (basic_value P B T r) side near h.row h.off

-- a pivot of the rule raises the raised cost of the status
pub pivot_rises : (P : LinearProgram) (B : Boxes) (T : Tableau) (r c : ℕ) → IsOf P T → IsOrdered P.columns B → IsRuled P B T r c →
    Rises (suc P.columns) (raised_cost P (status_value P B T)) (raised_cost P (status_value P B (pivot T r c)))
pivot_rises P B T r c o b h = ruled_rises P B T (status_value P B T) (status_value P B (pivot T r c)) r c h.side h.near (raised_sign P T c) o (stands P B T o) h.leaving.row h.entering.column
    (rule_is P B T r c o h) (rule_near P B T r h.side h.near o h.leaving) b (stands P B (pivot T r c) (ruled_of P B T r c o h))

-- and keeps the raised multipliers lawful
pub pivot_feasible : (P : LinearProgram) (B : Boxes) (T : Tableau) (r c : ℕ) → IsOf P T → IsOrdered P.columns B → IsRuled P B T r c → IsDualFeasible P T → IsDualFeasible P (pivot T r c)
pivot_feasible P B T r c o b h = ruled_lawful P B T (status_value P B T) (status_value P B (pivot T r c)) r c h.side h.near (raised_sign P T c) o (stands P B T o) h.leaving.row h.entering.column
    (rule_is P B T r c o h) (rule_near P B T r h.side h.near o h.leaving) b

-- where no column may enter
pub none_enters : (P : LinearProgram) (B : Boxes) (T : Tableau) (r : ℕ) (side near : Number) → IsOf P T → IsBlocked P B T r side near → NoneEnters P B T (status_value P B T) r side near
none_enters P B T r side near o h = record {
  side_sign = off_sign P B (T.basic r) (basic_value P B T r) side near h.leaving.off;
  at = rule_near P B T r side near o h.leaving;
  off = leaving_off P B T r side near o h.leaving;
  closed = λ j d lj m q p l. h.closed j lj (enters P B T r side j d m q p l);
}
