-- The coefficients and the constant of a cost.
use Rattle.std.proofs.Common.{◌≡◌, ℕ, zero, suc, ◌+◌, ◌<◌, ◌≤◌, List, [], ◌∷◌, ◌++◌, length, drop, set, get_or, Option, Some, None, inl, inr, true, cond, refl, sym, ◌∙◌, ap, ap₂, subst, arith, add-one, append_assoc}
use Rattle.std.proofs.Math.Seq.{drop-cons}
use Rattle.std.specs.Prelude.{nat_eq}
use Rattle.std.proofs.Math.Nat.{suc-mul}
use Rattle.std.proofs.lemmas.List.{length-set, get_or_read, get_or-set_other, drop_all}
use Rattle.hys_number.specs.Number.{Number}
use Rattle.hys_number.specs.Ops.{◌+ₙ◌, ◌*ₙ◌, whole}
use Rattle.hys_number.specs.Sums.{sum_to}
use Rattle.hys_number.proofs.Sums.{sum_to-same}
use Rattle.hys_number.proofs.Field.{add_assoc, add_zero}
use Rattle.hys_number.proofs.Ring.{by_ring, v, k, ◌⊕◌, ◌⊗◌}
use Rattle.hys_lin.specs.Sums.{Assignment, at, sum_of, value, AreTerms, EachColumn}
use Rattle.hys_lin.specs.Over.{AreTermsOver}
use Rattle.hys_lin.specs.Scaled.{coefficient, kept}
use Rattle.hys_lin.specs.Operations.{first_lost, times, plus}
use Rattle.hys_lin.specs.declared.form.Term.{Term}
use Rattle.hys_lin.specs.declared.lost.Lost.{Lost}
use Rattle.hys_lin.proofs.Multiples.{sum_kept, each_kept, are_kept}
use Rattle.hys_lin.proofs.Summing.{lost_after, lost_before}
use Rattle.hys_relax.proofs.Dense.{dense_sum, coefficient_none, own_column, other_column}
use Rattle.hys_relax.proofs.Sums.{sum_linear}
use Rattle.hys_relax.specs.Bound.{lesser_end, least_product}
use Rattle.hys_relax.specs.BoundSum.{end_operations, summed_ends}
use Rattle.std.proofs.lemmas.Bool.{cases_lt}
use Rattle.hys_lin.specs.Ranges.{box_at}
use Rattle.hys_lin.specs.declared.form.Interval.{Interval}
use Rattle.hys_sys.specs.declared.system.Output.{Output}
use Rattle.hys_sys.specs.declared.system.System.{System}
use Rattle.hys_stack.specs.declared.request.Request.{Request}
use Rattle.hys_stack.specs.Stacking.{each_step, offset, weighted, weighted_outputs, step_cost, stacked_cost}
use Rattle.hys_stack.specs.Numbers.{term_operations, form_operations, add_form, output_operations, add_outputs, add_constants, step_coefficients, constant_after, cost_constant, cost_coefficients}
use Rattle.hys_stack.specs.Terms.{terms_from}

-- ---- one form added
pub form_long : (w : Number) (ts : List Term) (j : ℕ) (fs : List Number) → length (add_form w ts j fs) ≡ length fs
form_long w ts j [] = refl
form_long w ts j (a ∷ as') = ap suc (form_long w ts (suc j) as')

pub form_none : (w : Number) (j : ℕ) (fs : List Number) → add_form w [] j fs ≡ fs
form_none w j [] = refl
form_none w j (a ∷ as') = ap₂ (λ (x : Number) (xs : List Number). x ∷ xs) (by_ring (a ∷ w ∷ []) (v 0 ⊕ v 1 ⊗ k 0) (v 0) refl) (form_none w (suc j) as')

-- a term whose column is before the first adds nothing
form_below : (w : Number) (t : Term) (ts : List Term) (j : ℕ) (fs : List Number) → t.column < j → add_form w (t ∷ ts) j fs ≡ add_form w ts j fs
form_below w t ts j [] l = refl
form_below w t ts j (a ∷ as') l = ap₂ (λ (x : Number) (xs : List Number). x ∷ xs)
    (ap (λ b. a +ₙ w *ₙ cond b t.factor (coefficient ts j)) (other_column t.column j (λ e. absurd (omega (arith, e, l))))) (form_below w t ts (suc j) as' (omega (arith, l)))

form_set : (w : Number) (t : Term) (ts : List Term) (j i : ℕ) (fs : List Number) → t.column ≡ j + i → i < length fs → EachColumn (λ c. t.column < c) ts →
    add_form w ts j (set fs i (at fs i +ₙ w *ₙ t.factor)) ≡ add_form w (t ∷ ts) j fs
form_set w t ts j i [] e l h = absurd (omega arith)
form_set w t ts j zero (a ∷ as') e l h =
    let q : t.column ≡ j = omega (arith, e) in
    ap₂ (λ (x : Number) (xs : List Number). x ∷ xs)
    (ap (λ z. (a +ₙ w *ₙ t.factor) +ₙ w *ₙ z) (ap (coefficient ts) (sym q) ∙ coefficient_none ts t.column h)
    ∙ by_ring (a ∷ w ∷ t.factor ∷ []) (v 0 ⊕ v 1 ⊗ v 2 ⊕ v 1 ⊗ k 0) (v 0 ⊕ v 1 ⊗ v 2) refl
    ∙ ap (λ b. a +ₙ w *ₙ cond b t.factor (coefficient ts j)) (sym (subst (λ m. nat_eq t.column m ≡ true) q (own_column t.column))))
    (sym (form_below w t ts (suc j) as' (omega (arith, q))))
form_set w t ts j (suc i) (a ∷ as') e l h = ap₂ (λ (x : Number) (xs : List Number). x ∷ xs)
    (ap (λ b. a +ₙ w *ₙ cond b t.factor (coefficient ts j)) (sym (other_column t.column j (λ q. absurd (omega (arith, e, q))))))
    (form_set w t ts (suc j) i as' (omega (arith, e)) (omega (arith, l)) h)

term_same : (w : Number) (fs gs : List Number) (ts : List Term) → EachColumn (λ c. at fs c ≡ at gs c) ts → term_operations w fs ts ≡ term_operations w gs ts
term_same w fs gs [] h = refl
term_same w fs gs (t ∷ ts) h = ap₂ (λ (x : Number) (os : List Lost). times w t.factor ∷ plus x (w *ₙ t.factor) ∷ os) h.0 (term_same w fs gs ts h.1)

-- ---- sums over places
sum_head : (n : ℕ) (f : ℕ → Number) → sum_to (suc n) f ≡ f 0 +ₙ sum_to n (λ i. f (suc i))
sum_head zero f = by_ring (f 0 ∷ []) (k 0 ⊕ v 0) (v 0 ⊕ k 0) refl
sum_head (suc n) f = ap (λ z. z +ₙ f (suc n)) (sum_head n f) ∙ by_ring (f 0 ∷ sum_to n (λ i. f (suc i)) ∷ f (suc n) ∷ []) (v 0 ⊕ v 1 ⊕ v 2) (v 0 ⊕ (v 1 ⊕ v 2)) refl

-- the weights of the columns as a sum over places
weighted_is : (ws : List Number) (n : ℕ) (f : Assignment) → weighted ws n f ≡ sum_to (length ws) (λ i. at ws i *ₙ f (n + i))
weighted_is [] n f = refl
weighted_is (w ∷ ws) n f =
    ap₂ (λ a b. w *ₙ a +ₙ b) (ap f (let q : n ≡ n + 0 = omega arith in q))
    (weighted_is ws (suc n) f ∙ sum_to-same (length ws) (λ i. at ws i *ₙ f (suc n + i)) (λ i. at ws i *ₙ f (n + suc i)) (λ i l. ap (λ m. at ws i *ₙ f m) (let q : suc n + i ≡ n + suc i = omega arith in q)))
    ∙ sym (sum_head (length ws) (λ i. at (w ∷ ws) i *ₙ f (n + i)))

form_at : (w : Number) (ts : List Term) (j i : ℕ) (fs : List Number) → i < length fs → at (add_form w ts j fs) i ≡ at fs i +ₙ w *ₙ coefficient ts (j + i)
form_at w ts j i [] l = absurd (omega arith)
form_at w ts j zero (a ∷ as') l = ap (λ m. a +ₙ w *ₙ coefficient ts m) (let q : j ≡ j + 0 = omega arith in q)
form_at w ts j (suc i) (a ∷ as') l = form_at w ts (suc j) i as' (omega (arith, l)) ∙ ap (λ m. at as' i +ₙ w *ₙ coefficient ts m) (let q : suc j + i ≡ j + suc i = omega arith in q)

pub form_weighted : (w : Number) (ts : List Term) (fs : List Number) (n : ℕ) (f : Assignment) → AreTermsOver (length fs) ts →
    weighted (add_form w ts 0 fs) n f ≡ weighted fs n f +ₙ w *ₙ sum_of ts (λ c. f (n + c))
form_weighted w ts fs n f h =
    weighted_is (add_form w ts 0 fs) n f ∙ ap (λ m. sum_to m (λ i. at (add_form w ts 0 fs) i *ₙ f (n + i))) (form_long w ts 0 fs)
    ∙ sum_to-same (length fs) (λ i. at (add_form w ts 0 fs) i *ₙ f (n + i)) (λ i. whole 1 *ₙ (at fs i *ₙ f (n + i)) +ₙ w *ₙ (coefficient ts i *ₙ f (n + i)))
    (λ i l. ap (λ z. z *ₙ f (n + i)) (form_at w ts 0 i fs l ∙ ap (λ m. at fs i +ₙ w *ₙ coefficient ts m) (let q : 0 + i ≡ i = omega arith in q))
    ∙ by_ring (at fs i ∷ w ∷ coefficient ts i ∷ f (n + i) ∷ []) ((v 0 ⊕ v 1 ⊗ v 2) ⊗ v 3) (k 1 ⊗ (v 0 ⊗ v 3) ⊕ v 1 ⊗ (v 2 ⊗ v 3)) refl)
    ∙ sum_linear (length fs) (whole 1) w (λ i. at fs i *ₙ f (n + i)) (λ i. coefficient ts i *ₙ f (n + i))
    ∙ ap₂ (λ a b. whole 1 *ₙ a +ₙ w *ₙ b) (sym (weighted_is fs n f)) (sym (dense_sum (length fs) ts (λ c. f (n + c)) h.rise h.below))
    ∙ by_ring (weighted fs n f ∷ w ∷ sum_of ts (λ c. f (n + c)) ∷ []) (k 1 ⊗ v 0 ⊕ v 1 ⊗ v 2) (v 0 ⊕ v 1 ⊗ v 2) refl

-- forms over the columns
abbrev pub AreOver : ℕ → List Output → Type 0
AreOver n [] = Unit {0}
AreOver n (o ∷ os) = AreTermsOver n o.form.terms × AreOver n os

pub outputs_long : (ws : List Number) (os : List Output) (fs : List Number) → length (add_outputs ws os fs) ≡ length fs
outputs_long ws [] fs = refl
outputs_long [] (o ∷ os) fs = refl
outputs_long (w ∷ ws) (o ∷ os) fs = outputs_long ws os (add_form w o.form.terms 0 fs) ∙ form_long w o.form.terms 0 fs

outputs_weighted : (ws : List Number) (os : List Output) (fs : List Number) (c : Number) (n : ℕ) (f : Assignment) → AreOver (length fs) os →
    weighted (add_outputs ws os fs) n f +ₙ add_constants ws os c ≡ (weighted fs n f +ₙ weighted_outputs ws os (λ i. f (n + i))) +ₙ c
unfolding value
outputs_weighted ws [] fs c n f h = by_ring (weighted fs n f ∷ c ∷ []) (v 0 ⊕ v 1) (v 0 ⊕ k 0 ⊕ v 1) refl
outputs_weighted [] (o ∷ os) fs c n f h = by_ring (weighted fs n f ∷ c ∷ []) (v 0 ⊕ v 1) (v 0 ⊕ k 0 ⊕ v 1) refl
outputs_weighted (w ∷ ws) (o ∷ os) fs c n f h =
    outputs_weighted ws os (add_form w o.form.terms 0 fs) (c +ₙ w *ₙ o.form.constant) n f (subst (λ m. AreOver m os) (sym (form_long w o.form.terms 0 fs)) h.1)
    ∙ ap (λ z. (z +ₙ weighted_outputs ws os (λ i. f (n + i))) +ₙ (c +ₙ w *ₙ o.form.constant)) (form_weighted w o.form.terms fs n f h.0)
    ∙ by_ring (weighted fs n f ∷ w ∷ sum_of o.form.terms (λ i. f (n + i)) ∷ weighted_outputs ws os (λ i. f (n + i)) ∷ c ∷ o.form.constant ∷ [])
    ((v 0 ⊕ v 1 ⊗ v 2) ⊕ v 3 ⊕ (v 4 ⊕ v 1 ⊗ v 5)) (v 0 ⊕ (v 1 ⊗ (v 2 ⊕ v 5) ⊕ v 3) ⊕ v 4) refl

weighted_behind : (xs ys : List Number) (n m : ℕ) (f : Assignment) → m ≡ n + length xs → weighted (xs ++ ys) n f ≡ weighted xs n f +ₙ weighted ys m f
weighted_behind [] ys n m f e = ap (λ z. weighted ys z f) (let q : n ≡ m = omega (arith, e) in q) ∙ by_ring (weighted ys m f ∷ []) (v 0) (k 0 ⊕ v 0) refl
weighted_behind (x ∷ xs) ys n m f e = ap (λ z. x *ₙ f n +ₙ z) (weighted_behind xs ys (suc n) m f (omega (arith, e)))
    ∙ by_ring ((x *ₙ f n) ∷ weighted xs (suc n) f ∷ weighted ys m f ∷ []) (v 0 ⊕ (v 1 ⊕ v 2)) (v 0 ⊕ v 1 ⊕ v 2) refl

-- the costs of n steps from step t on
abbrev pub costs_from : System → Request → ℕ → ℕ → Assignment → Number
costs_from S r t zero f = whole 0
costs_from S r t (suc n) f = step_cost S r (offset S t) f +ₙ costs_from S r (suc t) n f

pub costs_are : (S : System) (r : Request) (n t : ℕ) (f : Assignment) → sum_to n (λ i. step_cost S r (offset S (t + i)) f) ≡ costs_from S r t n f
costs_are S r zero t f = refl
costs_are S r (suc n) t f = sum_head n (λ i. step_cost S r (offset S (t + i)) f)
    ∙ ap₂ ◌+ₙ◌ (ap (λ m. step_cost S r (offset S m) f) (let q : t + 0 ≡ t = omega arith in q))
    (sum_to-same n (λ i. step_cost S r (offset S (t + suc i)) f) (λ i. step_cost S r (offset S (suc t + i)) f) (λ i l. ap (λ m. step_cost S r (offset S m) f) (let q : t + suc i ≡ suc t + i = omega arith in q))
    ∙ costs_are S r n (suc t) f)

steps_weighted : (S : System) (r : Request) (n t : ℕ) (c : Number) (f : Assignment) → length r.step_cost ≡ length S.columns → AreOver (length r.step_cost) S.outputs →
    weighted (each_step t n (step_coefficients S r) ++ r.final_cost) (offset S t) f +ₙ constant_after S r n c ≡ (costs_from S r t n f +ₙ weighted r.final_cost (offset S (t + n)) f) +ₙ c
steps_weighted S r zero t c f l h =
    ap (λ m. weighted r.final_cost (offset S m) f +ₙ c) (let q : t ≡ t + 0 = omega arith in q)
    ∙ by_ring (weighted r.final_cost (offset S (t + 0)) f ∷ c ∷ []) (v 0 ⊕ v 1) (k 0 ⊕ v 0 ⊕ v 1) refl
steps_weighted S r (suc n) t c f l h =
    ap (λ xs. weighted xs (offset S t) f +ₙ constant_after S r n after) (append_assoc here rest r.final_cost)
    ∙ ap (λ z. z +ₙ constant_after S r n after) (weighted_behind here (rest ++ r.final_cost) (offset S t) (offset S (suc t)) f (omega (arith, suc-mul t (length S.columns), outputs_long r.output_cost S.outputs r.step_cost, l)))
    ∙ add_assoc (weighted here (offset S t) f) (weighted (rest ++ r.final_cost) (offset S (suc t)) f) (constant_after S r n after)
    ∙ ap (λ z. weighted here (offset S t) f +ₙ z) (steps_weighted S r n (suc t) after f l h)
    ∙ ap (λ m. weighted here (offset S t) f +ₙ ((costs_from S r (suc t) n f +ₙ weighted r.final_cost (offset S m) f) +ₙ after)) (let q : suc t + n ≡ t + suc n = omega arith in q)
    ∙ by_ring (weighted here (offset S t) f ∷ costs_from S r (suc t) n f ∷ weighted r.final_cost (offset S (t + suc n)) f ∷ after ∷ []) (v 0 ⊕ (v 1 ⊕ v 2 ⊕ v 3)) (v 0 ⊕ v 3 ⊕ (v 1 ⊕ v 2)) refl
    ∙ ap (λ z. z +ₙ (costs_from S r (suc t) n f +ₙ weighted r.final_cost (offset S (t + suc n)) f)) (outputs_weighted r.output_cost S.outputs r.step_cost c (offset S t) f h)
    ∙ by_ring (step_cost S r (offset S t) f ∷ c ∷ costs_from S r (suc t) n f ∷ weighted r.final_cost (offset S (t + suc n)) f ∷ []) (v 0 ⊕ v 1 ⊕ (v 2 ⊕ v 3)) (v 0 ⊕ v 2 ⊕ v 3 ⊕ v 1) refl
  where
    here : List Number
    here = add_outputs r.output_cost S.outputs r.step_cost

    rest : List Number
    rest = each_step (suc t) n (step_coefficients S r)

    after : Number
    after = add_constants r.output_cost S.outputs c

-- ---- the terms of coefficients
pub terms_above : (j n : ℕ) (ws : List Number) → j < n → EachColumn (λ c. j < c) (terms_from n ws)
terms_above j n [] l = tt
terms_above j n (w ∷ ws) l = each_kept (λ c. j < c) n w (terms_from (suc n) ws) l (terms_above j (suc n) ws (omega (arith, l)))

terms_rise : (n : ℕ) (ws : List Number) → AreTerms (terms_from n ws)
terms_rise n [] = tt
terms_rise n (w ∷ ws) = are_kept n w (terms_from (suc n) ws) (terms_above n (suc n) ws (omega arith)) (terms_rise (suc n) ws)

terms_below : (m n : ℕ) (ws : List Number) → n + length ws ≤ m → EachColumn (λ c. c < m) (terms_from n ws)
terms_below m n [] l = tt
terms_below m n (w ∷ ws) l = each_kept (λ c. c < m) n w (terms_from (suc n) ws) (omega (arith, l)) (terms_below m (suc n) ws (omega (arith, l)))

pub terms_over : (ws : List Number) → AreTermsOver (length ws) (terms_from 0 ws)
terms_over ws = record { rise = terms_rise 0 ws; below = terms_below (length ws) 0 ws (omega arith) }

pub terms_sum : (n : ℕ) (ws : List Number) (f : Assignment) → sum_of (terms_from n ws) f ≡ weighted ws n f
terms_sum n [] f = refl
terms_sum n (w ∷ ws) f = sum_kept n w (terms_from (suc n) ws) f ∙ ap (λ z. w *ₙ f n +ₙ z) (terms_sum (suc n) ws f)

-- the stacked cost, step by step
pub stacked_is : (S : System) (r : Request) (f : Assignment) → stacked_cost S r f ≡ costs_from S r 0 r.horizon f +ₙ weighted r.final_cost (offset S r.horizon) f
stacked_is S r f = ap (λ z. z +ₙ weighted r.final_cost (offset S r.horizon) f)
    (sum_to-same r.horizon (λ i. step_cost S r (offset S i) f) (λ i. step_cost S r (offset S (0 + i)) f) (λ i m. ap (λ n. step_cost S r (offset S n) f) (let q : i ≡ 0 + i = omega arith in q)) ∙ costs_are S r r.horizon 0 f)

pub cost_value : (S : System) (r : Request) (f : Assignment) → length r.step_cost ≡ length S.columns → AreOver (length r.step_cost) S.outputs →
    value (record { terms = terms_from 0 (cost_coefficients S r); constant = cost_constant S r }) f ≡ stacked_cost S r f
unfolding value
cost_value S r f l h =
    ap (λ z. z +ₙ cost_constant S r) (terms_sum 0 (cost_coefficients S r) f ∙ ap (λ n. weighted (cost_coefficients S r) n f) (let q : 0 ≡ offset S 0 = omega arith in q))
    ∙ steps_weighted S r r.horizon 0 (whole 0) f l h
    ∙ add_zero _
    ∙ ap (λ n. costs_from S r 0 r.horizon f +ₙ weighted r.final_cost (offset S n) f) (let q : 0 + r.horizon ≡ r.horizon = omega arith in q)
    ∙ sym (stacked_is S r f)

-- one coefficient more has its term
pub terms_on : (ws : List Number) (i : ℕ) (w : Number) (old new all : List Term) → i < length ws → w ≡ get_or ws i w → old ++ terms_from i (drop i ws) ≡ all → new ≡ old ++ kept i w →
    new ++ terms_from (i + 1) (drop (i + 1) ws) ≡ all
terms_on ws i w old new all l e h q =
    let d : drop i ws ≡ w ∷ drop (i + 1) ws = rw (add-one, drop-cons ws i w l, ← e) refl in
    ap (λ ts. ts ++ terms_from (i + 1) (drop (i + 1) ws)) q ∙ append_assoc old (kept i w) (terms_from (i + 1) (drop (i + 1) ws))
    ∙ ap (λ n. old ++ (kept i w ++ terms_from n (drop (i + 1) ws))) (add-one i) ∙ ap (λ us. old ++ terms_from i us) (sym d) ∙ h

-- ---- one term more is added
drop_here : (ts : List Term) (i : ℕ) (t : Term) → i < length ts → t ≡ get_or ts i t → drop i ts ≡ t ∷ drop (i + 1) ts
drop_here ts i t h e = rw (add-one, drop-cons ts i t h, ← e) refl

read_at : (fs : List Number) (c : ℕ) (x : Number) → c < length fs → x ≡ get_or fs c x → x ≡ at fs c
read_at fs c x l e = get_or_read fs c x l e (whole 0)

module _ (w : Number) (fs : List Number) (ts : List Term) (i : ℕ) (t : Term) (x y : Number) (l : i < length ts) (e : t ≡ get_or ts i t) (h : AreTermsOver (length fs) (drop i ts)) (r : x ≡ get_or fs t.column x) (q : y ≡ x +ₙ w *ₙ t.factor) where
  split : drop i ts ≡ t ∷ drop (i + 1) ts
  split = drop_here ts i t l e

  over : AreTermsOver (length fs) (t ∷ drop (i + 1) ts)
  over = subst (AreTermsOver (length fs)) split h

  is_at : x ≡ at fs t.column
  is_at = read_at fs t.column x over.below.0 r

  written : set fs t.column y ≡ set fs t.column (at fs t.column +ₙ w *ₙ t.factor)
  written = ap (set fs t.column) (q ∙ ap (λ z. z +ₙ w *ₙ t.factor) is_at)

  pub sums_next : (all : List Number) → add_form w (drop i ts) 0 fs ≡ all → add_form w (drop (i + 1) ts) 0 (set fs t.column y) ≡ all
  sums_next all m = ap (add_form w (drop (i + 1) ts) 0) written
      ∙ form_set w t (drop (i + 1) ts) 0 t.column fs (let z : t.column ≡ 0 + t.column = omega arith in z) over.below.0 over.rise.1
      ∙ ap (λ us. add_form w us 0 fs) (sym split) ∙ m

  pub over_next : AreTermsOver (length (set fs t.column y)) (drop (i + 1) ts)
  over_next = subst (λ n. AreTermsOver n (drop (i + 1) ts)) (sym (length-set fs t.column y)) (record { rise = over.rise.2; below = over.below.1 })

  others_same : (us : List Term) → EachColumn (λ c. t.column < c) us → EachColumn (λ c. at fs c ≡ at (set fs t.column y) c) us
  others_same [] m = tt
  others_same (u ∷ us) m = (sym (get_or-set_other fs t.column u.column y (whole 0) (λ z. absurd (omega (arith, z, m.0)))), others_same us m.1)

  pub lost_next : (o : Option Lost) → first_lost (term_operations w fs (drop i ts)) ≡ o → None ≡ first_lost (times w t.factor ∷ plus x (w *ₙ t.factor) ∷ []) → first_lost (term_operations w (set fs t.column y) (drop (i + 1) ts)) ≡ o
  lost_next o m n = ap first_lost (sym (term_same w fs (set fs t.column y) (drop (i + 1) ts) (others_same (drop (i + 1) ts) over.rise.1)))
      ∙ sym (lost_after (times w t.factor ∷ plus (at fs t.column) (w *ₙ t.factor) ∷ []) (term_operations w fs (drop (i + 1) ts)) (ap (λ z. first_lost (times w t.factor ∷ plus z (w *ₙ t.factor) ∷ [])) (sym is_at) ∙ sym n))
      ∙ ap (λ us. first_lost (term_operations w fs us)) (sym split) ∙ m

pub sums_ended : (w : Number) (fs all : List Number) (ts : List Term) (i : ℕ) → length ts ≤ i → add_form w (drop i ts) 0 fs ≡ all → fs ≡ all
sums_ended w fs all ts i l h = sym (form_none w 0 fs) ∙ ap (λ us. add_form w us 0 fs) (sym (drop_all i ts l)) ∙ h

-- ---- one output more is added
module _ (ws : List Number) (os : List Output) (i : ℕ) (w : Number) (o : Output) (fs new : List Number) (c d : Number) (lw : i < length ws) (lo : i < length os) (ew : w ≡ get_or ws i w) (eo : o ≡ get_or os i o)
    (ns : new ≡ add_form w o.form.terms 0 fs) (nc : d ≡ c +ₙ w *ₙ o.form.constant) where
  weights_split : drop i ws ≡ w ∷ drop (i + 1) ws
  weights_split = rw (add-one, drop-cons ws i w lw, ← ew) refl

  outputs_split : drop i os ≡ o ∷ drop (i + 1) os
  outputs_split = rw (add-one, drop-cons os i o lo, ← eo) refl

  pub outputs_sums : (all : List Number) → add_outputs (drop i ws) (drop i os) fs ≡ all → add_outputs (drop (i + 1) ws) (drop (i + 1) os) new ≡ all
  outputs_sums all h = ap (add_outputs (drop (i + 1) ws) (drop (i + 1) os)) ns ∙ sym (ap₂ (λ us qs. add_outputs us qs fs) weights_split outputs_split) ∙ h

  pub outputs_constant : (all : Number) → add_constants (drop i ws) (drop i os) c ≡ all → add_constants (drop (i + 1) ws) (drop (i + 1) os) d ≡ all
  outputs_constant all h = ap (add_constants (drop (i + 1) ws) (drop (i + 1) os)) nc ∙ sym (ap₂ (λ us qs. add_constants us qs c) weights_split outputs_split) ∙ h

  pub outputs_lost : (l : Option Lost) → first_lost (output_operations fs c (drop i ws) (drop i os)) ≡ l → None ≡ first_lost (form_operations w fs c o.form) → first_lost (output_operations new d (drop (i + 1) ws) (drop (i + 1) os)) ≡ l
  outputs_lost l h n = ap₂ (λ gs z. first_lost (output_operations gs z (drop (i + 1) ws) (drop (i + 1) os))) ns nc
      ∙ sym (lost_after (form_operations w fs c o.form) (output_operations (add_form w o.form.terms 0 fs) (c +ₙ w *ₙ o.form.constant) (drop (i + 1) ws) (drop (i + 1) os)) (sym n))
      ∙ sym (ap₂ (λ us qs. first_lost (output_operations fs c us qs)) weights_split outputs_split) ∙ h

pub outputs_stop : (ws : List Number) (os : List Output) (i : ℕ) (w : Number) (o : Output) (fs : List Number) (c : Number) (l : Lost) (all : Option Lost) → i < length ws → i < length os → w ≡ get_or ws i w → o ≡ get_or os i o →
    first_lost (output_operations fs c (drop i ws) (drop i os)) ≡ all → Some l ≡ first_lost (form_operations w fs c o.form) → Some l ≡ all
outputs_stop ws os i w o fs c l all lw lo ew eo h n =
    let ds : drop i ws ≡ w ∷ drop (i + 1) ws = rw (add-one, drop-cons ws i w lw, ← ew) refl in
    let es : drop i os ≡ o ∷ drop (i + 1) os = rw (add-one, drop-cons os i o lo, ← eo) refl in
    sym (lost_before (form_operations w fs c o.form) (output_operations (add_form w o.form.terms 0 fs) (c +ₙ w *ₙ o.form.constant) (drop (i + 1) ws) (drop (i + 1) os)) l (sym n))
    ∙ sym (ap₂ (λ us qs. first_lost (output_operations fs c us qs)) ds es) ∙ h

pub form_stops : (w : Number) (fs : List Number) (c : Number) (ts : List Term) (z : Number) (l : Lost) → Some l ≡ first_lost (term_operations w fs ts) → Some l ≡ first_lost (term_operations w fs ts ++ times w z ∷ plus c (w *ₙ z) ∷ [])
form_stops w fs c ts z l h = sym (lost_before (term_operations w fs ts) (times w z ∷ plus c (w *ₙ z) ∷ []) l (sym h))

pub form_goes : (w : Number) (fs : List Number) (c : Number) (ts : List Term) (z : Number) (o : Option Lost) → None ≡ first_lost (term_operations w fs ts) → o ≡ first_lost (times w z ∷ plus c (w *ₙ z) ∷ []) → o ≡ first_lost (term_operations w fs ts ++ times w z ∷ plus c (w *ₙ z) ∷ [])
form_goes w fs c ts z o h e = e ∙ sym (lost_after (term_operations w fs ts) (times w z ∷ plus c (w *ₙ z) ∷ []) (sym h))

-- ---- the plain bound
pub ends_stop : (start : Number) (d : Assignment) (B : ℕ → Interval) (n i : ℕ) (l : Lost) → i < n → first_lost (end_operations start d B i) ≡ None →
    Some l ≡ first_lost (times (d i) (lesser_end (d i) (B i)) ∷ plus (summed_ends start d B i) (least_product (d i) (B i)) ∷ []) → Some l ≡ first_lost (end_operations start d B n)
ends_stop start d B zero i l m h e = absurd (omega (arith, m))
ends_stop start d B (suc n) i l m h e = elim (cases_lt i n) [
  | inl a ↦ sym (lost_before (end_operations start d B n) (times (d n) (lesser_end (d n) (B n)) ∷ plus (summed_ends start d B n) (least_product (d n) (B n)) ∷ []) l (sym (ends_stop start d B n i l a h e)))
  | inr b ↦ (let q : i ≡ n = omega (arith, m, b) in
      subst (λ j. Some l ≡ first_lost (end_operations start d B (suc j))) q
      (e ∙ sym (lost_after (end_operations start d B i) (times (d i) (lesser_end (d i) (B i)) ∷ plus (summed_ends start d B i) (least_product (d i) (B i)) ∷ []) h)))
]

pub ends_go : (start : Number) (d : Assignment) (B : ℕ → Interval) (i : ℕ) → first_lost (end_operations start d B i) ≡ None →
    None ≡ first_lost (times (d i) (lesser_end (d i) (B i)) ∷ plus (summed_ends start d B i) (least_product (d i) (B i)) ∷ []) → first_lost (end_operations start d B (i + 1)) ≡ None
ends_go start d B i h e = ap (λ n. first_lost (end_operations start d B n)) (add-one i)
    ∙ lost_after (end_operations start d B i) (times (d i) (lesser_end (d i) (B i)) ∷ plus (summed_ends start d B i) (least_product (d i) (B i)) ∷ []) h ∙ sym e

pub ends_sum : (start : Number) (d : Assignment) (B : ℕ → Interval) (i : ℕ) (x y : Number) → x ≡ summed_ends start d B i → y ≡ x +ₙ least_product (d i) (B i) → y ≡ summed_ends start d B (i + 1)
ends_sum start d B i x y h e = e ∙ ap (λ z. z +ₙ least_product (d i) (B i)) h ∙ add_assoc start (sum_to i (λ j. least_product (d j) (B j))) (least_product (d i) (B i))
    ∙ ap (summed_ends start d B) (sym (add-one i))

-- the number and the box that are read
pub read_number : (fs : List Number) (i : ℕ) (x : Number) → i < length fs → x ≡ get_or fs i x → x ≡ at fs i
read_number fs i x l e = get_or_read fs i x l e (whole 0)

pub read_box : (is : List Interval) (i : ℕ) (x : Interval) → i < length is → x ≡ get_or is i x → x ≡ box_at is i
read_box is i x l e = get_or_read is i x l e (record { low = whole 0; high = whole 0 })

pub end_read : (start : Number) (d : Assignment) (B : ℕ → Interval) (i : ℕ) (a : Number) (b : Interval) (x : Number) → a ≡ d i → b ≡ B i → x ≡ summed_ends start d B i →
    first_lost (times a (lesser_end a b) ∷ plus x (least_product a b) ∷ []) ≡ first_lost (times (d i) (lesser_end (d i) (B i)) ∷ plus (summed_ends start d B i) (least_product (d i) (B i)) ∷ [])
end_read start d B i a b x e f h = ap₂ (λ (p : Number) (q : Interval). first_lost (times p (lesser_end p q) ∷ plus x (least_product p q) ∷ [])) e f
    ∙ ap (λ z. first_lost (times (d i) (lesser_end (d i) (B i)) ∷ plus z (least_product (d i) (B i)) ∷ [])) h
