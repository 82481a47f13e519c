use Rattle.std.proofs.Common.{◌≡◌, ℕ, ◌+◌, ◌<◌, ◌≤◌, List, [], ◌∷◌, ◌++◌, length, drop, get_or, Option, Some, None, Bool, true, false, cond, refl, sym, ◌∙◌, ap, add-one}
use Rattle.std.proofs.Math.Seq.{drop-cons}
use Rattle.std.proofs.lemmas.List.{drop_all}
use Rattle.hys_number.specs.Number.{Number}
use Rattle.hys_number.specs.Ops.{◌+ₙ◌, ◌*ₙ◌, fits}
use Rattle.hys_number.proofs.Field.{add_assoc, add_zero}
use Rattle.hys_lin.specs.declared.form.Term.{Term}
use Rattle.hys_lin.specs.declared.lost.Lost.{Lost}
use Rattle.hys_lin.specs.Sums.{Assignment, sum_of, EachColumn}
use Rattle.hys_lin.specs.Operations.{first_lost, outcome, times, plus, summing, sum_by}

-- operations that all fit stand before the first that doesn't
pub lost_after : (os qs : List Lost) → first_lost os ≡ None → first_lost (os ++ qs) ≡ first_lost qs
lost_after [] qs e = refl
lost_after (o ∷ os) qs e = go (fits (outcome o)) (first_lost os) (first_lost (os ++ qs)) e (lost_after os qs)
  where
    go : (b : Bool) (x y : Option Lost) → cond b x (Some o) ≡ None → (x ≡ None → y ≡ first_lost qs) → cond b y (Some o) ≡ first_lost qs
    go true x y e h = h e
    go false x y e h = absurd (cc)

pub lost_before : (os qs : List Lost) (l : Lost) → first_lost os ≡ Some l → first_lost (os ++ qs) ≡ Some l
lost_before [] qs l e = absurd (cc)
lost_before (o ∷ os) qs l e = go (fits (outcome o)) (first_lost os) (first_lost (os ++ qs)) e (lost_before os qs l)
  where
    go : (b : Bool) (x y : Option Lost) → cond b x (Some o) ≡ Some l → (x ≡ Some l → y ≡ Some l) → cond b y (Some o) ≡ Some l
    go true x y e h = h e
    go false x y e h = e

-- one more of what is still to be added
pub drop_here : (ts : List Term) (i : ℕ) (t : Term) → i < length ts → t ≡ get_or ts i t → drop i ts ≡ t ∷ drop (i + 1) ts
drop_here ts i t h e = rw (add-one, drop-cons ts i t h, ← e) refl

pub columns_next : (P : ℕ → Type 0) (t : Term) (ts rest : List Term) → EachColumn P ts → ts ≡ t ∷ rest → P t.column × EachColumn P rest
columns_next P t ts rest h e = rw e at h

pub value_next : (w sum next x : Number) (t : Term) (ts rest : List Term) (at : Term → Number) → w ≡ sum +ₙ sum_by ts at → ts ≡ t ∷ rest → x ≡ at t → next ≡ sum +ₙ t.factor *ₙ x →
    w ≡ next +ₙ sum_by rest at
value_next w sum next x t ts rest at h e i j = h ∙ ap (λ (us : List Term). sum +ₙ sum_by us at) e ∙ sym (add_assoc sum (t.factor *ₙ at t) (sum_by rest at)) ∙ ap (λ (z : Number). z +ₙ sum_by rest at) (ap (λ (z : Number). sum +ₙ t.factor *ₙ z) (sym i) ∙ sym j)

pub lost_next : (o : Option Lost) (sum next x : Number) (t : Term) (ts rest : List Term) (at : Term → Number) → o ≡ first_lost (summing sum ts at) → ts ≡ t ∷ rest → x ≡ at t → next ≡ sum +ₙ t.factor *ₙ x →
    None ≡ first_lost (times t.factor x ∷ plus sum (t.factor *ₙ x) ∷ []) → o ≡ first_lost (summing next rest at)
lost_next o sum next x t ts rest at h e i j k =
    h ∙ ap (λ (us : List Term). first_lost (summing sum us at)) e
    ∙ lost_after (times t.factor (at t) ∷ plus sum (t.factor *ₙ at t) ∷ []) (summing (sum +ₙ t.factor *ₙ at t) rest at) (sym (k ∙ ap (λ (z : Number). first_lost (times t.factor z ∷ plus sum (t.factor *ₙ z) ∷ [])) i))
    ∙ ap (λ (z : Number). first_lost (summing z rest at)) (ap (λ (z : Number). sum +ₙ t.factor *ₙ z) (sym i) ∙ sym j)

pub sum_by-columns : (ts : List Term) (v : Assignment) → sum_by ts (λ (t : Term). v t.column) ≡ sum_of ts v
sum_by-columns [] v = refl
sum_by-columns (t ∷ ts) v = ap (λ (z : Number). t.factor *ₙ v t.column +ₙ z) (sum_by-columns ts v)

pub sum_ended : (w sum : Number) (ts : List Term) (i : ℕ) (at : Term → Number) → w ≡ sum +ₙ sum_by (drop i ts) at → length ts ≤ i → sum ≡ w
sum_ended w sum ts i at e h = sym (e ∙ ap (λ (us : List Term). sum +ₙ sum_by us at) (drop_all i ts h) ∙ add_zero sum)
