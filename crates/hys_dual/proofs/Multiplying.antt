-- Multipliers that are read off a row, by where each slack stands.
use Rattle.std.proofs.Common.{◌≡◌, ℕ, ◌+◌, ◌<◌, ◌≤◌, inl, inr, refl, sym, ◌∙◌, ap, subst, arith, Bool, true, false, nat_eq, if◌then◌else◌, List, [], ◌∷◌}
use Rattle.hys_number.specs.Number.{Number}
use Rattle.hys_number.specs.Ops.{◌*ₙ◌, neg, whole}
use Rattle.hys_number.proofs.Bools.{eq_true, eq_false}
use Rattle.hys_number.proofs.Ring.{by_ring, v, k, minus, ◌⊗◌}
use Rattle.hys_relax.specs.LinearProgram.{LinearProgram}
use Rattle.hys_simplex.specs.Tableau.{Tableau, IsOf, coef, row_multiplier}
use Rattle.hys_simplex.proofs.Never.{coef_self}
use Rattle.hys_simplex.proofs.Pivots.{same_place}
use Rattle.hys_simplex.proofs.Places.{coef_basic, coef_outside}
use Rattle.hys_dual.specs.declared.stand.Stand.{Stand}
use Rattle.hys_dual.specs.declared.stand.Stand.TheVariants.{Basic, Outside}
use Rattle.hys_dual.specs.Ranging.{side_of}
use Rattle.hys_dual.specs.Standing.{StandsAt, stand_at, AllStand}

pub sided_up : (under : Bool) (a : Number) → under ≡ true → a ≡ side_of under *ₙ a
sided_up true a e = by_ring (a ∷ []) (v 0) (k 1 ⊗ v 0) refl
sided_up false a e = absurd (cc)

pub sided_down : (under : Bool) (a b : Number) → under ≡ false → b ≡ neg a → b ≡ side_of under *ₙ a
sided_down false a b e f = f ∙ by_ring (a ∷ []) (minus (v 0)) (minus (k 1) ⊗ v 0) refl
sided_down true a b e f = absurd (cc)

slack_stands : (P : LinearProgram) (T : Tableau) (xs : List Stand) (n i : ℕ) (s : Stand) → IsOf P T → AllStand T xs → n ≡ T.columns → i < T.rows → stand_at xs (n + i) ≡ s → StandsAt T (P.columns + i) s
slack_stands P T xs n i s o all e l q =
    let same : n + i ≡ P.columns + i = omega (arith, e, o.wide) in
    subst (λ z. StandsAt T z s) same (subst (StandsAt T (n + i)) q (all (n + i) (omega (arith, e, l))))

pub own_row : (P : LinearProgram) (T : Tableau) (xs : List Stand) (n i r other : ℕ) (under : Bool) (x a : Number) → IsOf P T → AllStand T xs → n ≡ T.columns → i < T.rows → r < T.rows →
    stand_at xs (n + i) ≡ Basic other → a ≡ (if nat_eq other r then whole 1 else whole 0) → x ≡ side_of under *ₙ a → x ≡ row_multiplier P T r (side_of under) i
own_row P T xs n i r other under x a o all e l lr q f g =
    let s : StandsAt T (P.columns + i) (Basic other) = slack_stands P T xs n i (Basic other) o all e l q in
    let lo : other ≤ P.rows = omega (arith, s.0, o.tall) in
    let lr' : r ≤ P.rows = omega (arith, lr, o.tall) in
    let c : (if nat_eq other r then whole 1 else whole 0) ≡ coef T r (P.columns + i) =
    elim (same_place other r) as (λ _. (if nat_eq other r then whole 1 else whole 0) ≡ coef T r (P.columns + i)) [
      | inl h ↦ ap (λ b. if b then whole 1 else whole 0) (eq_true other r h) ∙ sym (coef_self P T o r lr') ∙ ap (coef T r) (ap T.basic (sym h) ∙ s.1)
      | inr d ↦ ap (λ b. if b then whole 1 else whole 0) (eq_false other r d) ∙ sym (coef_basic P T o r other lr' lo (λ z. d (sym z))) ∙ ap (coef T r) s.1
    ] in
    g ∙ ap (λ z. side_of under *ₙ z) (f ∙ c)

pub own_column : (P : LinearProgram) (T : Tableau) (xs : List Stand) (n i r j : ℕ) (under : Bool) (x a : Number) → IsOf P T → AllStand T xs → n ≡ T.columns → i < T.rows → r < T.rows →
    stand_at xs (n + i) ≡ Outside j → a ≡ T.cell r j → x ≡ side_of under *ₙ a → x ≡ row_multiplier P T r (side_of under) i
own_column P T xs n i r j under x a o all e l lr q f g =
    let s : StandsAt T (P.columns + i) (Outside j) = slack_stands P T xs n i (Outside j) o all e l q in
    g ∙ ap (λ z. side_of under *ₙ z) (f ∙ sym (coef_outside P T o r j (omega (arith, lr, o.tall)) (rw (← o.wide) s.0)) ∙ ap (coef T r) s.1)
