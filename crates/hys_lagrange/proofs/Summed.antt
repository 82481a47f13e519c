-- Sums of multipliers: partial sums and the operations that are still to come.
use Rattle.std.proofs.Common.{◌≡◌, ℕ, zero, suc, ◌+◌, ◌<◌, ◌≤◌, ◌⊎◌, inl, inr, refl, sym, ◌∙◌, ap, ap₂, subst, arith, add-one, true, false, cond, nat_eq, unsigned_abs, ℤ, ◌^◌, Bool, List, [], ◌∷◌, ◌++◌, length, drop, get_or, Option, Some, None}
use Rattle.std.proofs.Math.Seq.{drop-cons}
use Rattle.std.proofs.lemmas.List.{drop_all}
use Rattle.hys_number.specs.Number.{Number}
use Rattle.hys_number.specs.Ops.{◌+ₙ◌, ◌-ₙ◌, ◌*ₙ◌, whole, fits}
use Rattle.hys_number.specs.Sums.{sum_to}
use Rattle.hys_number.proofs.Sums.{sum_to-same}
use Rattle.hys_frac.proofs.Fracs.{fits_yes}
use Rattle.hys_number.proofs.Ring.{by_ring, v, k, ◌⊕◌, ◌⊖◌, ◌⊗◌}
use Rattle.hys_lin.specs.Operations.{first_lost, times, plus, minus, sum_by, summing}
use Rattle.std.proofs.Common.{Result, Err}
use Rattle.hys_lin.specs.declared.lost.LinFault.{LinFault}
use Rattle.hys_lin.specs.declared.lost.LinFault.TheVariants.{Memory, Lost as Shown}
use Rattle.hys_lin.specs.Scaled.{coefficient, AnswersLost}
use Rattle.hys_lin.specs.declared.form.Term.{Term}
use Rattle.hys_lin.specs.declared.lost.Lost.{Lost}
use Rattle.hys_lin.proofs.Summing.{lost_after, lost_before}
use Rattle.std.specs.List.{AllByRecursion}
use Rattle.hys_lin.specs.declared.problem.Problem.{Problem}
use Rattle.hys_relax.specs.Bound.{weights, IsLawfulPair, lesser_end, least_product}
use Rattle.hys_relax.specs.BoundSum.{joined_to, subtracting, end_operations, summed_ends}
use Rattle.hys_relax.specs.Node.{Boxes}
use Rattle.hys_lin.specs.Sums.{at}
use Rattle.hys_lagrange.specs.Listed.{listed}
use Rattle.hys_lagrange.proofs.Listing.{listed_at}

pub clash : (t : Bool) → t ≡ true → t ≡ false → ⊥
clash t e f = cc

pub fits_by_parts : (a : Number) (z : ℤ) → z ≡ a.num → unsigned_abs z < 2 ^ 63 → a.den < 2 ^ 63 → fits a ≡ true
fits_by_parts a z e l m = fits_yes a (subst (λ y. unsigned_abs y < 2 ^ 63) e l) m

-- ---- products of 0
pub product_zero : (a b : Number) → b ≡ whole 0 → a *ₙ b ≡ whole 0
product_zero a b e = ap (λ z. a *ₙ z) e ∙ by_ring (a ∷ []) (v 0 ⊗ k 0) (k 0) refl

pub zero_product : (a b : Number) → a ≡ whole 0 → a *ₙ b ≡ whole 0
zero_product a b e = ap (λ z. z *ₙ b) e ∙ by_ring (b ∷ []) (k 0 ⊗ v 0) (k 0) refl

pub plus_none : (r s p : Number) → r ≡ s → p ≡ whole 0 → r ≡ s +ₙ p
plus_none r s p e f = e ∙ by_ring (s ∷ []) (v 0) (v 0 ⊕ k 0) refl ∙ ap (λ z. s +ₙ z) (sym f)

pub less_none : (r s p : Number) → r ≡ s → p ≡ whole 0 → r ≡ s -ₙ p
less_none r s p e f = e ∙ by_ring (s ∷ []) (v 0) (v 0 ⊖ k 0) refl ∙ ap (λ z. s -ₙ z) (sym f)

-- ---- the factor of a column
pub factor_here : (ts rest : List Term) (t : Term) (c : ℕ) (w : Number) → ts ≡ t ∷ rest → nat_eq t.column c ≡ true → w ≡ coefficient ts c → t.factor ≡ w
factor_here ts rest t c w e h f = sym (f ∙ ap (λ us. coefficient us c) e ∙ ap (λ b. cond b t.factor (coefficient rest c)) h)

pub factor_next : (ts rest : List Term) (t : Term) (c : ℕ) (w : Number) → ts ≡ t ∷ rest → nat_eq t.column c ≡ false → w ≡ coefficient ts c → w ≡ coefficient rest c
factor_next ts rest t c w e h f = f ∙ ap (λ us. coefficient us c) e ∙ ap (λ b. cond b t.factor (coefficient rest c)) h

pub factor_none : (ts : List Term) (i c : ℕ) (w z : Number) → length ts ≤ i → w ≡ coefficient (drop i ts) c → z ≡ whole 0 → z ≡ w
factor_none ts i c w z l f e = e ∙ sym (f ∙ ap (λ us. coefficient us c) (drop_all i ts l))

-- ---- pairs
pub pair_here : (xs : List (ℕ × Number)) (i : ℕ) (x : ℕ × Number) → i < length xs → x ≡ get_or xs i x → drop i xs ≡ x ∷ drop (i + 1) xs
pair_here xs i x h e = rw (add-one, drop-cons xs i x h, ← e) refl

pub lawful_next : (p : Problem) (xs rest : List (ℕ × Number)) (x : ℕ × Number) → AllByRecursion (IsLawfulPair p) xs → xs ≡ x ∷ rest → AllByRecursion (IsLawfulPair p) rest
lawful_next p xs rest x h e = (subst (AllByRecursion (IsLawfulPair p)) e h).1

pub lawful_first : (p : Problem) (xs rest : List (ℕ × Number)) (x : ℕ × Number) → AllByRecursion (IsLawfulPair p) xs → xs ≡ x ∷ rest → x.0 < length p.rows
lawful_first p xs rest x h e = (subst (AllByRecursion (IsLawfulPair p)) e h).0.0

pub weights_here : (xs : List (ℕ × Number)) (i : ℕ) (x : ℕ × Number) → drop i xs ≡ x ∷ drop (i + 1) xs → weights (drop i xs) ≡ record { column = x.0; factor = x.1 } ∷ weights (drop (i + 1) xs)
weights_here xs i x e = ap weights e

pub less_value_next : (w sum next x : Number) (t : Term) (ts rest : List Term) (f : Term → Number) → w ≡ sum -ₙ sum_by ts f → ts ≡ t ∷ rest → x ≡ f t → next ≡ sum -ₙ t.factor *ₙ x → w ≡ next -ₙ sum_by rest f
less_value_next w sum next x t ts rest f h e i j =
    h ∙ ap (λ us. sum -ₙ sum_by us f) e ∙ by_ring (sum ∷ (t.factor *ₙ f t) ∷ sum_by rest f ∷ []) (v 0 ⊖ (v 1 ⊕ v 2)) (v 0 ⊖ v 1 ⊖ v 2) refl
    ∙ ap (λ z. z -ₙ sum_by rest f) (ap (λ z. sum -ₙ t.factor *ₙ z) (sym i) ∙ sym j)

pub less_lost_next : (o : Option Lost) (sum next x : Number) (t : Term) (ts rest : List Term) (f : Term → Number) → o ≡ first_lost (subtracting sum ts f) → ts ≡ t ∷ rest → x ≡ f t → next ≡ sum -ₙ t.factor *ₙ x →
    None ≡ first_lost (times t.factor x ∷ minus sum (t.factor *ₙ x) ∷ []) → o ≡ first_lost (subtracting next rest f)
less_lost_next o sum next x t ts rest f h e i j q =
    h ∙ ap (λ us. first_lost (subtracting sum us f)) e
    ∙ lost_after (times t.factor (f t) ∷ minus sum (t.factor *ₙ f t) ∷ []) (subtracting (sum -ₙ t.factor *ₙ f t) rest f) (sym (q ∙ ap (λ z. first_lost (times t.factor z ∷ minus sum (t.factor *ₙ z) ∷ [])) i))
    ∙ ap (λ z. first_lost (subtracting z rest f)) (ap (λ z. sum -ₙ t.factor *ₙ z) (sym i) ∙ sym j)

pub lost_here : (o : Option Lost) (sum x : Number) (t : Term) (ts rest : List Term) (f : Term → Number) (lost : Lost) → o ≡ first_lost (summing sum ts f) → ts ≡ t ∷ rest → x ≡ f t →
    Some lost ≡ first_lost (times t.factor x ∷ plus sum (t.factor *ₙ x) ∷ []) → Some lost ≡ o
lost_here o sum x t ts rest f lost h e i q = sym (h ∙ ap (λ us. first_lost (summing sum us f)) e
    ∙ lost_before (times t.factor (f t) ∷ plus sum (t.factor *ₙ f t) ∷ []) (summing (sum +ₙ t.factor *ₙ f t) rest f) lost (sym (q ∙ ap (λ z. first_lost (times t.factor z ∷ plus sum (t.factor *ₙ z) ∷ [])) i)))

pub less_lost_here : (o : Option Lost) (sum x : Number) (t : Term) (ts rest : List Term) (f : Term → Number) (lost : Lost) → o ≡ first_lost (subtracting sum ts f) → ts ≡ t ∷ rest → x ≡ f t →
    Some lost ≡ first_lost (times t.factor x ∷ minus sum (t.factor *ₙ x) ∷ []) → Some lost ≡ o
less_lost_here o sum x t ts rest f lost h e i q = sym (h ∙ ap (λ us. first_lost (subtracting sum us f)) e
    ∙ lost_before (times t.factor (f t) ∷ minus sum (t.factor *ₙ f t) ∷ []) (subtracting (sum -ₙ t.factor *ₙ f t) rest f) lost (sym (q ∙ ap (λ z. first_lost (times t.factor z ∷ minus sum (t.factor *ₙ z) ∷ [])) i)))

pub no_more : (o : Option Lost) (sum : Number) (xs : List (ℕ × Number)) (i : ℕ) (f : Term → Number) → length xs ≤ i → o ≡ first_lost (summing sum (weights (drop i xs)) f) → None ≡ o
no_more o sum xs i f l h = sym (h ∙ ap (λ us. first_lost (summing sum (weights us) f)) (drop_all i xs l))

pub no_more_less : (o : Option Lost) (sum : Number) (xs : List (ℕ × Number)) (i : ℕ) (f : Term → Number) → length xs ≤ i → o ≡ first_lost (subtracting sum (weights (drop i xs)) f) → None ≡ o
no_more_less o sum xs i f l h = sym (h ∙ ap (λ us. first_lost (subtracting sum (weights us) f)) (drop_all i xs l))

pub sum_ended : (w sum : Number) (xs : List (ℕ × Number)) (i : ℕ) (f : Term → Number) → length xs ≤ i → w ≡ sum +ₙ sum_by (weights (drop i xs)) f → sum ≡ w
sum_ended w sum xs i f l h = sym (h ∙ ap (λ us. sum +ₙ sum_by (weights us) f) (drop_all i xs l) ∙ by_ring (sum ∷ []) (v 0 ⊕ k 0) (v 0) refl)

pub less_ended : (w sum : Number) (xs : List (ℕ × Number)) (i : ℕ) (f : Term → Number) → length xs ≤ i → w ≡ sum -ₙ sum_by (weights (drop i xs)) f → sum ≡ w
less_ended w sum xs i f l h = sym (h ∙ ap (λ us. sum -ₙ sum_by (weights us) f) (drop_all i xs l) ∙ by_ring (sum ∷ []) (v 0 ⊖ k 0) (v 0) refl)

-- ---- operations place by place
one_more : (n : ℕ) → suc n ≡ n + 1
one_more n = omega arith

pub joined_next : (n : ℕ) (f : ℕ → List Lost) → first_lost (joined_to n f) ≡ None → first_lost (f n) ≡ None → first_lost (joined_to (n + 1) f) ≡ None
joined_next n f e g = ap (λ z. first_lost (joined_to z f)) (sym (one_more n)) ∙ lost_after (joined_to n f) (f n) e ∙ g

pub joined_lost : (n j : ℕ) (f : ℕ → List Lost) (lost : Lost) → j < n → first_lost (joined_to j f) ≡ None → first_lost (f j) ≡ Some lost → first_lost (joined_to n f) ≡ Some lost
joined_lost zero j f lost l e g = absurd (omega arith)
joined_lost (suc n) j f lost l e g = elim (below_last j n l) as (λ _. first_lost (joined_to n f ++ f n) ≡ Some lost) [
  | inl q ↦ lost_before (joined_to n f) (f n) lost (joined_lost n j f lost q e g)
  | inr q ↦ lost_after (joined_to n f) (f n) (subst (λ z. first_lost (joined_to z f) ≡ None) q e) ∙ subst (λ z. first_lost (f z) ≡ Some lost) q g
]
  where
    below_last : (j n : ℕ) → j < suc n → (j < n) ⊎ (j ≡ n)
    below_last j n l = grind arith

-- ---- the ends of the boxes
pub ends_begin : (start : Number) (d : ℕ → Number) (B : Boxes) → start ≡ summed_ends start d B 0
ends_begin start d B = by_ring (start ∷ []) (v 0) (v 0 ⊕ k 0) refl

pub ends_next : (start : Number) (d : ℕ → Number) (B : Boxes) (n : ℕ) (sum next a x : Number) → sum ≡ summed_ends start d B n → next ≡ sum +ₙ a *ₙ x → a ≡ d n → x ≡ lesser_end (d n) (B n) →
    next ≡ summed_ends start d B (n + 1)
ends_next start d B n sum next a x e f ea ex =
    f ∙ ap₂ ◌+ₙ◌ e (ap₂ ◌*ₙ◌ ea ex)
    ∙ by_ring (start ∷ sum_to n (λ j. least_product (d j) (B j)) ∷ least_product (d n) (B n) ∷ []) (v 0 ⊕ v 1 ⊕ v 2) (v 0 ⊕ (v 1 ⊕ v 2)) refl
    ∙ ap (summed_ends start d B) (one_more n)

end_here : (start : Number) (d : ℕ → Number) (B : Boxes) (n : ℕ) (sum a x : Number) → sum ≡ summed_ends start d B n → a ≡ d n → x ≡ lesser_end (d n) (B n) →
    first_lost (times (d n) (lesser_end (d n) (B n)) ∷ plus (summed_ends start d B n) (least_product (d n) (B n)) ∷ []) ≡ first_lost (times a x ∷ plus sum (a *ₙ x) ∷ [])
end_here start d B n sum a x e ea ex = ap₂ (λ o q. first_lost (o ∷ q ∷ [])) (ap₂ times (sym ea) (sym ex)) (ap₂ plus (sym e) (ap₂ ◌*ₙ◌ (sym ea) (sym ex)))

end_pair : (start : Number) (d : ℕ → Number) (B : Boxes) → ℕ → List Lost
end_pair start d B j = times (d j) (lesser_end (d j) (B j)) ∷ plus (summed_ends start d B j) (least_product (d j) (B j)) ∷ []

pub ends_fit : (start : Number) (d : ℕ → Number) (B : Boxes) (n : ℕ) (sum a x : Number) → sum ≡ summed_ends start d B n → a ≡ d n → x ≡ lesser_end (d n) (B n) → first_lost (end_operations start d B n) ≡ None →
    None ≡ first_lost (times a x ∷ plus sum (a *ₙ x) ∷ []) → first_lost (end_operations start d B (n + 1)) ≡ None
unfolding end_pair
ends_fit start d B n sum a x e ea ex h g = joined_next n (end_pair start d B) h (end_here start d B n sum a x e ea ex ∙ sym g)

pub ends_lost : (start : Number) (d : ℕ → Number) (B : Boxes) (m n : ℕ) (sum a x : Number) (lost : Lost) → n < m → sum ≡ summed_ends start d B n → a ≡ d n → x ≡ lesser_end (d n) (B n) →
    first_lost (end_operations start d B n) ≡ None → Some lost ≡ first_lost (times a x ∷ plus sum (a *ₙ x) ∷ []) → Some lost ≡ first_lost (end_operations start d B m)
unfolding end_pair
ends_lost start d B m n sum a x lost l e ea ex h g = sym (joined_lost m n (end_pair start d B) lost l h (end_here start d B n sum a x e ea ex ∙ sym g))

pub ends_same : (start : Number) (d d' : ℕ → Number) (B : Boxes) (n : ℕ) → ((j : ℕ) → j < n → d j ≡ d' j) → summed_ends start d B n ≡ summed_ends start d' B n
ends_same start d d' B n h = ap (λ s. start +ₙ s) (sum_to-same n (λ j. least_product (d j) (B j)) (λ j. least_product (d' j) (B j)) (λ j l. ap (λ z. least_product z (B j)) (h j l)))

pub joined_same : (n : ℕ) (f g : ℕ → List Lost) → ((j : ℕ) → j < n → f j ≡ g j) → joined_to n f ≡ joined_to n g
joined_same zero f g h = refl
joined_same (suc n) f g h = ap₂ ◌++◌ (joined_same n f g (λ j l. h j (omega arith))) (h n (omega arith))

pub end_operations_same : (start : Number) (d d' : ℕ → Number) (B : Boxes) (n : ℕ) → ((j : ℕ) → j < n → d j ≡ d' j) → end_operations start d B n ≡ end_operations start d' B n
unfolding end_pair
end_operations_same start d d' B n h = joined_same n (end_pair start d B) (end_pair start d' B)
    (λ j l. ap₂ (λ z s. times z (lesser_end z (B j)) ∷ plus s (least_product z (B j)) ∷ []) (h j l) (ends_same start d d' B j (λ i m. h i (omega (arith, l, m)))))

-- ---- answers
pub answers_lost : {U : Type 0} (r : Result U LinFault) (l : Lost) (os : List Lost) → r ≡ Err (Shown l) → first_lost os ≡ Some l → AnswersLost r os
answers_lost r l os i h = subst (λ x. AnswersLost x os) (sym i) h

-- ---- the whole sum: coefficients, the constant, the ends
pub whole_lost : (os qs rs : List Lost) → first_lost os ≡ None → first_lost qs ≡ None → first_lost (os ++ qs ++ rs) ≡ first_lost rs
whole_lost os qs rs e f = lost_after (os ++ qs) rs (lost_after os qs e ∙ f)

pub second_lost : (os qs rs : List Lost) (l : Lost) → first_lost os ≡ None → Some l ≡ first_lost qs → first_lost (os ++ qs ++ rs) ≡ Some l
second_lost os qs rs l e f = lost_before (os ++ qs) rs l (lost_after os qs e ∙ sym f)

pub coefficients_read : (n : ℕ) (d : ℕ → Number) (xs : List Number) → xs ≡ listed n d → (j : ℕ) → j < n → at xs j ≡ d j
coefficients_read n d xs e j l = ap (λ ys. at ys j) e ∙ listed_at n d j (whole 0) l

pub ends_are : (n m : ℕ) (start start' : Number) (d : ℕ → Number) (B : Boxes) (xs : List Number) → ((j : ℕ) → j < n → at xs j ≡ d j) → m ≡ n → start ≡ start' → end_operations start (at xs) B m ≡ end_operations start' d B n
ends_are n m start start' d B xs e f g = end_operations_same start (at xs) d B m (λ j l. e j (rw (← f) l)) ∙ ap₂ (λ s k. end_operations s d B k) g f

pub sums_are : (n m : ℕ) (start start' : Number) (d : ℕ → Number) (B : Boxes) (xs : List Number) → ((j : ℕ) → j < n → at xs j ≡ d j) → m ≡ n → start ≡ start' → summed_ends start (at xs) B m ≡ summed_ends start' d B n
sums_are n m start start' d B xs e f g = ends_same start (at xs) d B m (λ j l. e j (rw (← f) l)) ∙ ap₂ (λ s k. summed_ends s d B k) g f

pub answers_first : (T : Type 0) {U : Type 0} (r : Result U LinFault) (fault : LinFault) (os qs rs : List Lost) → r ≡ Err fault → AnswersLost {T = T} (Err fault) os → AnswersLost r (os ++ qs ++ rs)
answers_first T r (Shown l) os qs rs i h = subst (λ x. AnswersLost x (os ++ qs ++ rs)) (sym i) (lost_before (os ++ qs) rs l (lost_before os qs l h))
answers_first T r Memory os qs rs i h = subst (λ x. AnswersLost x (os ++ qs ++ rs)) (sym i) tt

-- nothing is lost where nothing is lost at each place
pub joined_none : (n : ℕ) (f : ℕ → List Lost) → ((j : ℕ) → first_lost (f j) ≡ None) → first_lost (joined_to n f) ≡ None
joined_none zero f h = refl
joined_none (suc n) f h = lost_after (joined_to n f) (f n) (joined_none n f h) ∙ h n
