-- Pivots of the rule.
use Rattle.std.proofs.Common.{◌≡◌, ℕ, suc, ◌+◌, ◌-◌, ◌<◌, ◌≤◌, ◌⊎◌, inl, inr, refl, sym, ◌∙◌, ap, subst, arith, [], ◌∷◌}
use Rattle.hys_number.specs.Number.{Number}
use Rattle.hys_number.specs.Ops.{neg, whole, ◌*ₙ◌}
use Rattle.hys_number.proofs.Order.{le_total, le_antisymm}
use Rattle.hys_relax.specs.LinearProgram.{LinearProgram}
use Rattle.hys_relax.specs.Node.{Boxes}
use Rattle.hys_simplex.specs.Tableau.{Tableau, pivot, IsOf}
use Rattle.hys_simplex.specs.Status.{IsPositive, Rises, raised, IsDualFeasible}
use Rattle.hys_simplex.proofs.Relations.{StandsAtEnds, column, slack, IsSign, KeepsRule, NearEnd, low_end, high_end, slack_end, IsOrdered, raised_cost}
use Rattle.hys_simplex.proofs.Pivots.{put_at, put_else, same_place}
use Rattle.hys_simplex.proofs.Places.{pivot_of}
use Rattle.hys_simplex.proofs.Lex.{raised_sign, positive_same, down, nothing, up}
use Rattle.hys_simplex.proofs.Rising.{cell_not_zero, raised_not_null, leaving_end, sign_kept, cost_rises}
use Rattle.hys_number.proofs.Ring.{by_ring, v, k, minus, ◌⊗◌}

pub one_sign : IsSign (whole 1)
one_sign = inl refl

pub minus_sign : IsSign (neg (whole 1))
minus_sign = inr refl

pub to_one : (N : ℕ) (a : ℕ → Number) → IsPositive N a → IsPositive N (λ t. whole 1 *ₙ a t)
to_one N a = positive_same N a _ (λ t l. by_ring (a t ∷ []) (v 0) (k 1 ⊗ v 0) refl)

from_one : (N : ℕ) (a : ℕ → Number) → IsPositive N (λ t. whole 1 *ₙ a t) → IsPositive N a
from_one N a = positive_same N _ a (λ t l. by_ring (a t ∷ []) (k 1 ⊗ v 0) (v 0) refl)

pub to_minus : (N : ℕ) (a : ℕ → Number) → IsPositive N (λ t. neg (a t)) → IsPositive N (λ t. neg (whole 1) *ₙ a t)
to_minus N a = positive_same N (λ t. neg (a t)) _ (λ t l. by_ring (a t ∷ []) (minus (v 0)) (minus (k 1) ⊗ v 0) refl)

from_minus : (N : ℕ) (a : ℕ → Number) → IsPositive N (λ t. neg (whole 1) *ₙ a t) → IsPositive N (λ t. neg (a t))
from_minus N a = positive_same N _ (λ t. neg (a t)) (λ t l. by_ring (a t ∷ []) (minus (k 1) ⊗ v 0) (minus (v 0)) refl)

-- the value at a column outside
pub either_end : (P : LinearProgram) (B : Boxes) (T : Tableau) (w : ℕ → Number) → IsOf P T → StandsAtEnds P B T w → (j : ℕ) → j < P.columns → T.outside j < P.columns →
    (w (T.outside j) ≡ (B (T.outside j)).high) ⊎ (w (T.outside j) ≡ (B (T.outside j)).low)
either_end P B T w o s j lj lu = elim (raised_sign (suc P.columns) (raised P T j)) as (λ _. (w (T.outside j) ≡ (B (T.outside j)).high) ⊎ (w (T.outside j) ≡ (B (T.outside j)).low)) [
  | down h ↦ inr (s.low j lj lu h)
  | nothing n ↦ absurd (raised_not_null P T o w s.solves j lj n)
  | up h ↦ inl (s.high j lj lu h)
]

pub cases : (x n m : ℕ) → x < n + m → (x < n) ⊎ ((i : ℕ) × (i < m) × (x ≡ n + i))
cases x n m l = go (split x n)
  where
    split : (x n : ℕ) → (x < n) ⊎ (n ≤ x)
    split x n = grind arith

    go : (x < n) ⊎ (n ≤ x) → (x < n) ⊎ ((i : ℕ) × (i < m) × (x ≡ n + i))
    go (inl q) = inl q
    go (inr q) = inr (x - n, omega arith, omega arith)

module _ (P : LinearProgram) (B : Boxes) (T : Tableau) (w w' : ℕ → Number) (r c : ℕ) (side near dir : Number) (o : IsOf P T) (s : StandsAtEnds P B T w) (lr : r < P.rows) (lc : c < P.columns)
    (h : KeepsRule P B T w r c side near dir) (e : NearEnd P B T r side near) (b : IsOrdered P.columns B) where
  o' : IsOf P (pivot T r c)
  o' = pivot_of P T r c lr lc (cell_not_zero side dir (T.cell r c) h.toward) o

  kept_at : (j : ℕ) → ¬ (j ≡ c) → (pivot T r c).outside j ≡ T.outside j
  kept_at j d = put_else T.outside c (T.basic r) j d

  -- the others stand where they stood
  pub stays : StandsAtEnds P B (pivot T r c) w' → (j : ℕ) → j < P.columns → ¬ (j ≡ c) → w' (T.outside j) ≡ w (T.outside j)
  stays s' j lj d = elim (cases (T.outside j) P.columns P.rows (o.placed.outside_in j lj)) as (λ _. w' (T.outside j) ≡ w (T.outside j)) [
    | inr z ↦ ap w' z.2 ∙ s'.slacks j z.0 lj z.1 (kept_at j d ∙ z.2) ∙ sym (s.slacks j z.0 lj z.1 z.2) ∙ ap w (sym z.2)
    | inl lu ↦ elim (le_total (B (T.outside j)).high (B (T.outside j)).low) as (λ _. w' (T.outside j) ≡ w (T.outside j)) [
      | inl q ↦ fixed lu (le_antisymm (B (T.outside j)).high (B (T.outside j)).low q (b (T.outside j) lu)) (either_end P B T w o s j lj lu)
          (subst (λ z. (w' z ≡ (B z).high) ⊎ (w' z ≡ (B z).low)) (kept_at j d) (either_end P B (pivot T r c) w' o' s' j lj (rw (kept_at j d) lu)))
      | inr q ↦ elim (raised_sign (suc P.columns) (raised P T j)) as (λ _. w' (T.outside j) ≡ w (T.outside j)) [
        | down x ↦ low_at lu (from_minus (suc P.columns) _ (sign_kept P B T w r c side near dir o s.solves lr lc h j (neg (whole 1)) lj d (column lu q) minus_sign (to_minus (suc P.columns) _ x))) ∙ sym (s.low j lj lu x)
        | nothing n ↦ absurd (raised_not_null P T o w s.solves j lj n)
        | up x ↦ high_at lu (from_one (suc P.columns) _ (sign_kept P B T w r c side near dir o s.solves lr lc h j (whole 1) lj d (column lu q) one_sign (to_one (suc P.columns) _ x))) ∙ sym (s.high j lj lu x)
      ]
    ]
  ]
    where
      fixed : T.outside j < P.columns → (B (T.outside j)).high ≡ (B (T.outside j)).low → (w (T.outside j) ≡ (B (T.outside j)).high) ⊎ (w (T.outside j) ≡ (B (T.outside j)).low) →
          (w' (T.outside j) ≡ (B (T.outside j)).high) ⊎ (w' (T.outside j) ≡ (B (T.outside j)).low) → w' (T.outside j) ≡ w (T.outside j)
      fixed lu q (inl x) (inl y) = y ∙ sym x
      fixed lu q (inl x) (inr y) = y ∙ sym q ∙ sym x
      fixed lu q (inr x) (inl y) = y ∙ q ∙ sym x
      fixed lu q (inr x) (inr y) = y ∙ sym x

      low_at : T.outside j < P.columns → IsPositive (suc P.columns) (λ t. neg (raised P (pivot T r c) j t)) → w' (T.outside j) ≡ (B (T.outside j)).low
      low_at lu x = subst (λ z. w' z ≡ (B z).low) (kept_at j d) (s'.low j lj (rw (kept_at j d) lu) x)

      high_at : T.outside j < P.columns → IsPositive (suc P.columns) (raised P (pivot T r c) j) → w' (T.outside j) ≡ (B (T.outside j)).high
      high_at lu x = subst (λ z. w' z ≡ (B z).high) (kept_at j d) (s'.high j lj (rw (kept_at j d) lu) x)

  -- the one that left stands at its near end
  pub lands : StandsAtEnds P B (pivot T r c) w' → w' (T.basic r) ≡ near
  lands s' = go e
    where
      at : (pivot T r c).outside c ≡ T.basic r
      at = put_at T.outside c (T.basic r)

      out : IsPositive (suc P.columns) (λ t. neg side *ₙ raised P (pivot T r c) c t)
      out = leaving_end P B T w r c side near dir o s.solves lr lc h

      go : NearEnd P B T r side near → w' (T.basic r) ≡ near
      go (low_end lu q n) = subst (λ z. w' z ≡ (B z).low) at (s'.low c lc (rw at lu) (positive_same (suc P.columns) _ _ (λ t l. ap (λ z. neg z *ₙ raised P (pivot T r c) c t) q ∙ by_ring (raised P (pivot T r c) c t ∷ []) (minus (k 1) ⊗ v 0) (minus (v 0)) refl) out)) ∙ sym n
      go (high_end lu q n) = subst (λ z. w' z ≡ (B z).high) at (s'.high c lc (rw at lu) (positive_same (suc P.columns) _ _ (λ t l. ap (λ z. neg z *ₙ raised P (pivot T r c) c t) q ∙ by_ring (raised P (pivot T r c) c t ∷ []) (minus (minus (k 1)) ⊗ v 0) (v 0) refl) out)) ∙ sym n
      go (slack_end i li q u n) = ap w' q ∙ s'.slacks c i lc li (at ∙ q) ∙ sym n

  -- a pivot of the rule raises the status's raised cost
  pub ruled_rises : StandsAtEnds P B (pivot T r c) w' → Rises (suc P.columns) (raised_cost P w) (raised_cost P w')
  ruled_rises s' = cost_rises P B T w r c side near dir o s.solves lr lc h w' s'.solves (stays s') (lands s')

  -- and keeps the raised multipliers lawful
  pub ruled_lawful : IsDualFeasible P T → IsDualFeasible P (pivot T r c)
  ruled_lawful q j i lj li a f = elim (same_place j c) as (λ _. IsPositive (suc P.columns) (λ t. neg (raised P (pivot T r c) j t))) [
    | inr d ↦ from_minus (suc P.columns) _ (sign_kept P B T w r c side near dir o s.solves lr lc h j (neg (whole 1)) lj d (slack i li (sym (kept_at j d) ∙ a) f) minus_sign (to_minus (suc P.columns) _ (q j i lj li (sym (kept_at j d) ∙ a) f)))
    | inl d ↦ subst (λ z. IsPositive (suc P.columns) (λ t. neg (raised P (pivot T r c) z t))) (sym d)
        (positive_same (suc P.columns) (λ t. neg side *ₙ raised P (pivot T r c) c t) _ (λ t l. ap (λ z. neg z *ₙ raised P (pivot T r c) c t) (one_side d e) ∙ by_ring (raised P (pivot T r c) c t ∷ []) (minus (k 1) ⊗ v 0) (minus (v 0)) refl) (leaving_end P B T w r c side near dir o s.solves lr lc h))
  ]
    where
      basic_is : j ≡ c → T.basic r ≡ P.columns + i
      basic_is d = sym (put_at T.outside c (T.basic r)) ∙ ap (pivot T r c).outside (sym d) ∙ a

      one_side : j ≡ c → NearEnd P B T r side near → side ≡ whole 1
      one_side d (low_end lu x n) = x
      one_side d (high_end lu x n) = absurd (omega (arith, basic_is d))
      one_side d (slack_end i' li' x u n) = u (ap P.equation (index i' i (sym x ∙ basic_is d)) ∙ f)
        where
          index : (x y : ℕ) → P.columns + x ≡ P.columns + y → x ≡ y
          index x y g = omega arith
