-- Products of 0 lose nothing, so a sum may leave them out.
use Rattle.std.proofs.Common.{◌≡◌, refl, ◌∙◌, ap, Bool, true, false, cond, if◌then◌else◌, ℤ, pos, negsuc, zero, suc, Some, None, List, [], ◌∷◌}
use Rattle.hys_number.specs.Number.{Number, make}
use Rattle.hys_number.specs.Gcd.{gcd}
use Rattle.hys_number.specs.Ops.{◌+ₙ◌, ◌-ₙ◌, ◌*ₙ◌, whole, fits}
use Rattle.hys_number.proofs.Field.{add_zero}
use Rattle.hys_number.proofs.Ring.{by_ring, v, k, ◌⊗◌, ◌⊖◌}
use Rattle.hys_lin.specs.Operations.{first_lost, outcome, times, plus, minus as less, summing}
use Rattle.hys_number.proofs.Inverse.{zero_num}
use Rattle.hys_lin.specs.declared.form.Term.{Term}
use Rattle.hys_lin.specs.declared.lost.Lost.{Lost}
use Rattle.hys_lin.proofs.Summing.{lost_after}
use Rattle.hys_relax.specs.BoundSum.{not_zero, subtracting}
use Rattle.hys_relax.specs.Laws.{touched, ZerosLoseNothing}

pub zero_fits : fits (whole 0) ≡ true
unfolding fits whole make gcd
zero_fits = refl

both_fit : (a b : Lost) → fits (outcome a) ≡ true → fits (outcome b) ≡ true → first_lost (a ∷ b ∷ []) ≡ None
both_fit a b e f = go (fits (outcome a)) (fits (outcome b)) e f
  where
    go : (x y : Bool) → x ≡ true → y ≡ true → cond x (cond y None (Some b)) (Some a) ≡ None
    go true true e f = refl
    go true false e f = absurd (cc)
    go false y e f = absurd (cc)

pub zero_added : (a b s : Number) → a *ₙ b ≡ whole 0 → fits s ≡ true → first_lost (times a b ∷ plus s (a *ₙ b) ∷ []) ≡ None
zero_added a b s e f = both_fit (times a b) (plus s (a *ₙ b)) (ap fits e ∙ zero_fits) (ap (λ z. fits (s +ₙ z)) e ∙ ap fits (add_zero s) ∙ f)

pub zero_subtracted : (a b s : Number) → a *ₙ b ≡ whole 0 → fits s ≡ true → first_lost (times a b ∷ less s (a *ₙ b) ∷ []) ≡ None
zero_subtracted a b s e f = both_fit (times a b) (less s (a *ₙ b)) (ap fits e ∙ zero_fits) (ap (λ z. fits (s -ₙ z)) e ∙ ap fits (by_ring (s ∷ []) (v 0 ⊖ k 0) (v 0) refl) ∙ f)

-- ---- sums of terms without those whose number is 0
pub zero_is : (a : Number) → not_zero a.num ≡ false → a ≡ whole 0
zero_is a h = go a.num refl h
  where
    go : (z : ℤ) → a.num ≡ z → not_zero z ≡ false → a ≡ whole 0
    go (pos zero) e f = (zero_num a).0 e
    go (pos (suc n)) e f = absurd (cc)
    go (negsuc n) e f = absurd (cc)

first_two : (a b : Lost) (xs ys : List Lost) → (fits (outcome b) ≡ true → first_lost xs ≡ first_lost ys) → first_lost (a ∷ b ∷ xs) ≡ first_lost (a ∷ b ∷ ys)
first_two a b xs ys h = go (fits (outcome a)) (fits (outcome b)) refl
  where
    go : (x y : Bool) → fits (outcome b) ≡ y → cond x (cond y (first_lost xs) (Some b)) (Some a) ≡ cond x (cond y (first_lost ys) (Some b)) (Some a)
    go true true e = h e
    go true false e = refl
    go false y e = refl

times_zero : (a b : Number) → b ≡ whole 0 → a *ₙ b ≡ whole 0
times_zero a b e = ap (λ z. a *ₙ z) e ∙ by_ring (a ∷ []) (v 0 ⊗ k 0) (k 0) refl

pub left_out : (start : Number) (ts : List Term) (at : Term → Number) → fits start ≡ true → first_lost (summing start ts at) ≡ first_lost (summing start (touched at ts) at)
left_out start [] at f = refl
left_out start (t ∷ ts) at f = go (not_zero (at t).num) refl (left_out (start +ₙ t.factor *ₙ at t) ts at)
  where
    go : (b : Bool) → not_zero (at t).num ≡ b → (fits (start +ₙ t.factor *ₙ at t) ≡ true → first_lost (summing (start +ₙ t.factor *ₙ at t) ts at) ≡ first_lost (summing (start +ₙ t.factor *ₙ at t) (touched at ts) at)) →
        first_lost (summing start (t ∷ ts) at) ≡ first_lost (summing start (if b then t ∷ touched at ts else touched at ts) at)
    go true e rest = first_two (times t.factor (at t)) (plus start (t.factor *ₙ at t)) (summing (start +ₙ t.factor *ₙ at t) ts at) (summing (start +ₙ t.factor *ₙ at t) (touched at ts) at) rest
    go false e rest =
        let z : t.factor *ₙ at t ≡ whole 0 = times_zero t.factor (at t) (zero_is (at t) e) in
        let s : start +ₙ t.factor *ₙ at t ≡ start = ap (λ y. start +ₙ y) z ∙ add_zero start in
        lost_after (times t.factor (at t) ∷ plus start (t.factor *ₙ at t) ∷ []) (summing (start +ₙ t.factor *ₙ at t) ts at) (zero_added t.factor (at t) start z f)
        ∙ rest (ap fits s ∙ f) ∙ ap (λ y. first_lost (summing y (touched at ts) at)) s

pub left_out_less : (start : Number) (ts : List Term) (at : Term → Number) → fits start ≡ true → first_lost (subtracting start ts at) ≡ first_lost (subtracting start (touched at ts) at)
left_out_less start [] at f = refl
left_out_less start (t ∷ ts) at f = go (not_zero (at t).num) refl (left_out_less (start -ₙ t.factor *ₙ at t) ts at)
  where
    go : (b : Bool) → not_zero (at t).num ≡ b → (fits (start -ₙ t.factor *ₙ at t) ≡ true → first_lost (subtracting (start -ₙ t.factor *ₙ at t) ts at) ≡ first_lost (subtracting (start -ₙ t.factor *ₙ at t) (touched at ts) at)) →
        first_lost (subtracting start (t ∷ ts) at) ≡ first_lost (subtracting start (if b then t ∷ touched at ts else touched at ts) at)
    go true e rest = first_two (times t.factor (at t)) (less start (t.factor *ₙ at t)) (subtracting (start -ₙ t.factor *ₙ at t) ts at) (subtracting (start -ₙ t.factor *ₙ at t) (touched at ts) at) rest
    go false e rest =
        let z : t.factor *ₙ at t ≡ whole 0 = times_zero t.factor (at t) (zero_is (at t) e) in
        let s : start -ₙ t.factor *ₙ at t ≡ start = ap (λ y. start -ₙ y) z ∙ by_ring (start ∷ []) (v 0 ⊖ k 0) (v 0) refl in
        lost_after (times t.factor (at t) ∷ less start (t.factor *ₙ at t) ∷ []) (subtracting (start -ₙ t.factor *ₙ at t) ts at) (zero_subtracted t.factor (at t) start z f)
        ∙ rest (ap fits s ∙ f) ∙ ap (λ y. first_lost (subtracting y (touched at ts) at)) s

pub zeros_lose_nothing : ZerosLoseNothing
zeros_lose_nothing start ts at f = (left_out start ts at f, left_out_less start ts at f)
