-- Coefficients from the rows: a term of a row changes the sum of its own column alone.
use Rattle.std.proofs.Common.{◌≡◌, ℕ, suc, ◌<◌, ◌≤◌, ◌+◌, ◌⊎◌, inl, inr, refl, sym, ◌∙◌, ap, ap₂, subst, arith, add-one, Bool, true, false, cond, List, [], ◌∷◌, length, drop, get_or, slice_set, replicate, zero, Option, Some, None}
use Rattle.std.specs.Prelude.{nat_eq}
use Rattle.std.proofs.Math.Seq.{drop-cons}
use Rattle.std.proofs.lemmas.List.{drop_all, length-set, get_or-set_same, get_or-set_other}
use Rattle.std.proofs.lemmas.List.Elements.{recursion_from_All}
use Rattle.std.specs.List.{AllByRecursion}
use Rattle.hys_number.specs.Number.{Number}
use Rattle.hys_number.specs.Ops.{◌+ₙ◌, ◌*ₙ◌, whole, fits}
use Rattle.hys_number.proofs.Ring.{by_ring, v, k, ◌⊕◌, ◌⊗◌}
use Rattle.hys_lin.specs.Operations.{first_lost, outcome, times, plus, summing, sum_by}
use Rattle.hys_lin.specs.Over.{AreTermsOver}
use Rattle.hys_lin.specs.Problem.{IsProblem}
use Rattle.hys_lin.specs.Scaled.{coefficient}
use Rattle.hys_lin.specs.Sums.{at, EachColumn, AreTerms}
use Rattle.hys_lin.specs.declared.form.Term.{Term}
use Rattle.hys_lin.specs.declared.form.Affine.{Affine}
use Rattle.hys_lin.specs.declared.lost.Lost.{Lost}
use Rattle.hys_lin.specs.declared.problem.Problem.{Problem}
use Rattle.hys_lin.proofs.Summing.{value_next, lost_next}
use Rattle.hys_relax.specs.Bound.{weights, IsLawfulPair}
use Rattle.hys_relax.specs.BoundSum.{coefficient_operations, summed_coefficient}
use Rattle.hys_relax.specs.LinearProgram.{row_at, factor_at}
use Rattle.hys_relax.proofs.Dense.{all_at, coefficient_none, own_column, other_column}
use Rattle.hys_relax.proofs.Zeros.{zero_added, zero_fits}
use Rattle.hys_lagrange.specs.Costs.{with_cost}
use Rattle.hys_lagrange.specs.Gathered.{AreCoefficients, AllFit, added, IsRowAdded, AreGathered}
use Rattle.hys_lagrange.specs.Listed.{listed}
use Rattle.hys_lagrange.proofs.Listing.{listed_long}
use Rattle.hys_lagrange.proofs.Summed.{product_zero, sum_ended, no_more, coefficients_read}

-- ---- operations that lose nothing
-- the sum fits where neither it nor the product is lost
pub sum_fits : (by a s : Number) → None ≡ first_lost (added by a s) → fits (s +ₙ by *ₙ a) ≡ true
sum_fits by a s h = go (fits (by *ₙ a)) (fits (s +ₙ by *ₙ a)) h
  where
    go : (x y : Bool) → None ≡ cond x (cond y None (Some (plus s (by *ₙ a)))) (Some (times by a)) → y ≡ true
    go true true e = refl
    go true false e = absurd (cc)
    go false y e = absurd (cc)

pub nothing_added : (by s : Number) → fits s ≡ true → None ≡ first_lost (added by (whole 0) s)
nothing_added by s f = sym (zero_added by (whole 0) s (product_zero by (whole 0) refl) f)

pub nothing_more : (by s : Number) → s +ₙ by *ₙ whole 0 ≡ s
nothing_more by s = by_ring (s ∷ by ∷ []) (v 0 ⊕ v 1 ⊗ k 0) (v 0) refl

-- ---- one term
same_place : (i j : ℕ) → (i ≡ j) ⊎ (¬ (i ≡ j))
same_place i j = grind arith

pub record IsTermAdded (by : Number) (ts rest : List Term) (old new : List Number) : Type 0 where
  pub fit : AllFit new
  pub value : (j : ℕ) → at new j +ₙ by *ₙ coefficient rest j ≡ at old j +ₙ by *ₙ coefficient ts j
  pub lost : (j : ℕ) → first_lost (added by (coefficient rest j) (at new j)) ≡ first_lost (added by (coefficient ts j) (at old j))

module _ (by : Number) (t : Term) (rest : List Term) (old : List Number) (sum : Number) (rise : AreTerms (t ∷ rest)) (below : t.column < length old)
    (fit : AllFit old) (is : sum ≡ at old t.column +ₙ by *ₙ t.factor) (none : None ≡ first_lost (added by t.factor (at old t.column))) where
  own : at (slice_set old t.column sum) t.column ≡ sum
  own = get_or-set_same old t.column sum (whole 0) below

  here : coefficient (t ∷ rest) t.column ≡ t.factor
  here = ap (λ b. cond b t.factor (coefficient rest t.column)) (own_column t.column)

  gone : coefficient rest t.column ≡ whole 0
  gone = coefficient_none rest t.column rise.1

  sum_fit : fits sum ≡ true
  sum_fit = ap fits is ∙ sum_fits by t.factor (at old t.column) none

  kept : (j : ℕ) → ¬ (j ≡ t.column) → at (slice_set old t.column sum) j ≡ at old j
  kept j d = get_or-set_other old t.column j sum (whole 0) d

  kept_factor : (j : ℕ) → ¬ (j ≡ t.column) → coefficient (t ∷ rest) j ≡ coefficient rest j
  kept_factor j d = ap (λ b. cond b t.factor (coefficient rest j)) (other_column t.column j (λ e. d (sym e)))

  fit_at : (j : ℕ) → (j ≡ t.column) ⊎ (¬ (j ≡ t.column)) → fits (at (slice_set old t.column sum) j) ≡ true
  fit_at j (inl e) = subst (λ i. fits (at (slice_set old t.column sum) i) ≡ true) (sym e) (ap fits own ∙ sum_fit)
  fit_at j (inr d) = ap fits (kept j d) ∙ fit j

  abbrev Values : ℕ → Type 0
  Values j = at (slice_set old t.column sum) j +ₙ by *ₙ coefficient rest j ≡ at old j +ₙ by *ₙ coefficient (t ∷ rest) j

  value_here : Values t.column
  value_here = ap₂ (λ a b. a +ₙ by *ₙ b) own gone ∙ nothing_more by sum ∙ is ∙ ap (λ b. at old t.column +ₙ by *ₙ b) (sym here)

  value_at : (j : ℕ) → (j ≡ t.column) ⊎ (¬ (j ≡ t.column)) → Values j
  value_at j (inl e) = subst Values (sym e) value_here
  value_at j (inr d) = ap₂ (λ a b. a +ₙ by *ₙ b) (kept j d) (sym (kept_factor j d))

  abbrev Losses : ℕ → Type 0
  Losses j = first_lost (added by (coefficient rest j) (at (slice_set old t.column sum) j)) ≡ first_lost (added by (coefficient (t ∷ rest) j) (at old j))

  lost_here : Losses t.column
  lost_here = ap₂ (λ a s. first_lost (added by a s)) gone own ∙ sym (nothing_added by sum sum_fit) ∙ none ∙ ap (λ a. first_lost (added by a (at old t.column))) (sym here)

  lost_at : (j : ℕ) → (j ≡ t.column) ⊎ (¬ (j ≡ t.column)) → Losses j
  lost_at j (inl e) = subst Losses (sym e) lost_here
  lost_at j (inr d) = ap₂ (λ a s. first_lost (added by a s)) (sym (kept_factor j d)) (kept j d)

  pub term_added : IsTermAdded by (t ∷ rest) rest old (slice_set old t.column sum)
  term_added = record {
    fit = λ j. fit_at j (same_place j t.column);
    value = λ j. value_at j (same_place j t.column);
    lost = λ j. lost_at j (same_place j t.column);
  }

-- ---- the terms of a row, with those that are still to be added
-- what is left to be added leads to the sums of the whole row
pub record IsLeft (by : Number) (ts : List Term) (i : ℕ) (first now : List Number) : Type 0 where
  pub long : length now ≡ length first
  pub rise : AreTerms (drop i ts)
  pub below : EachColumn (λ c. c < length now) (drop i ts)
  pub fit : AllFit now
  pub value : (j : ℕ) → at now j +ₙ by *ₙ coefficient (drop i ts) j ≡ at first j +ₙ by *ₙ coefficient ts j
  pub lost : (j : ℕ) → first_lost (added by (coefficient (drop i ts) j) (at now j)) ≡ first_lost (added by (coefficient ts j) (at first j))

pub row_begins : (by : Number) (ts : List Term) (first : List Number) → AreTerms ts → EachColumn (λ c. c < length first) ts → AllFit first → IsLeft by ts 0 first first
row_begins by ts first r b f = record { long = refl; rise = r; below = b; fit = f; value = λ j. refl; lost = λ j. refl }

set_long : (xs : List Number) (i : ℕ) (x : Number) → length (slice_set xs i x) ≡ length xs
set_long xs i x = length-set xs i x

pub row_goes_on : (by : Number) (ts rest : List Term) (i : ℕ) (first now : List Number) (t : Term) (sum a : Number) → drop i ts ≡ t ∷ rest → rest ≡ drop (i + 1) ts → a ≡ at now t.column → sum ≡ a +ₙ by *ₙ t.factor →
    None ≡ first_lost (added by t.factor a) → IsLeft by ts i first now → IsLeft by ts (i + 1) first (slice_set now t.column sum)
row_goes_on by ts rest i first now t sum a e g n s q h =
    let r : AreTerms (t ∷ rest) = subst AreTerms e h.rise in
    let b : EachColumn (λ c. c < length now) (t ∷ rest) = subst (EachColumn (λ c. c < length now)) e h.below in
    let w : IsTermAdded by (t ∷ rest) rest now (slice_set now t.column sum) =
    term_added by t rest now sum r b.0 h.fit (s ∙ ap (λ z. z +ₙ by *ₙ t.factor) n) (q ∙ ap (λ z. first_lost (added by t.factor z)) n) in
    record {
      long = set_long now t.column sum ∙ h.long;
      rise = subst AreTerms g r.2;
      below = subst (λ m. EachColumn (λ c. c < m) (drop (i + 1) ts)) (sym (set_long now t.column sum)) (subst (EachColumn (λ c. c < length now)) g b.1);
      fit = w.fit;
      value = λ j. ap (λ us. at (slice_set now t.column sum) j +ₙ by *ₙ coefficient us j) (sym g) ∙ w.value j ∙ ap (λ us. at now j +ₙ by *ₙ coefficient us j) (sym e) ∙ h.value j;
      lost = λ j. ap (λ us. first_lost (added by (coefficient us j) (at (slice_set now t.column sum) j))) (sym g) ∙ w.lost j ∙ ap (λ us. first_lost (added by (coefficient us j) (at now j))) (sym e) ∙ h.lost j;
    }

pub row_ends : (by : Number) (ts : List Term) (i : ℕ) (first now : List Number) → length ts ≤ i → IsLeft by ts i first now → IsRowAdded by ts first now
row_ends by ts i first now l h =
    let e : drop i ts ≡ [] = drop_all i ts l in
    record {
      fit = h.fit;
      value = λ j. sym (nothing_more by (at now j)) ∙ ap (λ us. at now j +ₙ by *ₙ coefficient us j) (sym e) ∙ h.value j;
      lost = λ j. nothing_added by (at now j) (h.fit j) ∙ ap (λ us. first_lost (added by (coefficient us j) (at now j))) (sym e) ∙ h.lost j;
    }

-- ---- the rows with a multiplier, one after the other
-- the number that a row has at a column
abbrev pub in_row : Problem → ℕ → Term → Number
in_row p j t = factor_at p t.column j

pub record IsGatheredTo (p : Problem) (pairs : List (ℕ × Number)) (i : ℕ) (sums : List Number) : Type 0 where
  pub long : length sums ≡ length p.boxes
  pub fit : AllFit sums
  pub lawful : AllByRecursion (IsLawfulPair p) (drop i pairs)
  pub value : (j : ℕ) → summed_coefficient p pairs j ≡ at sums j +ₙ sum_by (weights (drop i pairs)) (in_row p j)
  pub lost : (j : ℕ) → first_lost (coefficient_operations p pairs j) ≡ first_lost (summing (at sums j) (weights (drop i pairs)) (in_row p j))

pub gather_begins : (p : Problem) (pairs : List (ℕ × Number)) (sums : List Number) → length sums ≡ length p.boxes → AllFit sums → AllByRecursion (IsLawfulPair p) pairs → ((j : ℕ) → at sums j ≡ coefficient p.cost.terms j) → IsGatheredTo p pairs 0 sums
gather_begins p pairs sums l f h e = record {
  long = l;
  fit = f;
  lawful = h;
  value = λ j. ap (λ z. z +ₙ sum_by (weights pairs) (in_row p j)) (sym (e j));
  lost = λ j. ap (λ z. first_lost (summing z (weights pairs) (in_row p j))) (sym (e j));
}

pub gather_goes_on : (p : Problem) (pairs : List (ℕ × Number)) (i : ℕ) (pair : ℕ × Number) (old new : List Number) → drop i pairs ≡ pair ∷ drop (i + 1) pairs → length new ≡ length old → IsRowAdded pair.1 (row_at p pair.0).terms old new →
    IsGatheredTo p pairs i old → IsGatheredTo p pairs (i + 1) new
gather_goes_on p pairs i pair old new e l r h = record {
  long = l ∙ h.long;
  fit = r.fit;
  lawful = (subst (AllByRecursion (IsLawfulPair p)) e h.lawful).1;
  value = λ j. value_next _ (at old j) (at new j) (factor_at p pair.0 j) (record { column = pair.0; factor = pair.1 }) (weights (drop i pairs)) (weights (drop (i + 1) pairs)) (in_row p j) (h.value j) (ap weights e) refl (r.value j);
  lost = λ j. lost_next _ (at old j) (at new j) (factor_at p pair.0 j) (record { column = pair.0; factor = pair.1 }) (weights (drop i pairs)) (weights (drop (i + 1) pairs)) (in_row p j) (h.lost j) (ap weights e) refl (r.value j) (r.lost j);
}

pub gather_ends : (p : Problem) (pairs : List (ℕ × Number)) (i : ℕ) (sums : List Number) → length pairs ≤ i → IsGatheredTo p pairs i sums → AreGathered p pairs sums
gather_ends p pairs i sums l h = record {
  coefficients = record { long = h.long; each = λ j m. sum_ended _ (at sums j) pairs i (in_row p j) l (h.value j) };
  lost = λ j. sym (no_more _ (at sums j) pairs i (in_row p j) l (h.lost j));
}

-- ---- rows of a problem
pub row_over : (p : Problem) → IsProblem p → (i : ℕ) → i < length p.rows → AreTermsOver (length p.boxes) (row_at p i).terms
row_over p h i l = all_at (λ r. AreTermsOver (length p.boxes) r.terms) p.rows i (record { terms = []; bound = whole 0; eq = false }) (recursion_from_All (λ r. AreTermsOver (length p.boxes) r.terms) p.rows h.rows) l

-- what adding a row asks of its terms
pub next_row : (p : Problem) (cost : Affine) → IsProblem p → (pairs : List (ℕ × Number)) (i : ℕ) (pair : ℕ × Number) (sums : List Number) (ts : List Term) → drop i pairs ≡ pair ∷ drop (i + 1) pairs →
    IsGatheredTo (with_cost p cost) pairs i sums → ts ≡ (row_at p pair.0).terms → AreTerms ts × EachColumn (λ c. c < length sums) ts
next_row p cost h pairs i pair sums ts e g q =
    let w : AllByRecursion (IsLawfulPair (with_cost p cost)) (pair ∷ drop (i + 1) pairs) = subst (AllByRecursion (IsLawfulPair (with_cost p cost))) e g.lawful in
    let o : AreTermsOver (length p.boxes) (row_at p pair.0).terms = row_over p h pair.0 w.0.0 in
    (subst AreTerms (sym q) o.rise, subst (λ m. EachColumn (λ c. c < m) ts) (sym g.long) (subst (EachColumn (λ c. c < length p.boxes)) (sym q) o.below))

-- ---- the coefficients as a list
pub listed_are : (p : Problem) (pairs : List (ℕ × Number)) (ds : List Number) → ds ≡ listed (length p.boxes) (summed_coefficient p pairs) → AreCoefficients p pairs ds
listed_are p pairs ds e = record {
  long = ap length e ∙ listed_long (length p.boxes) (summed_coefficient p pairs);
  each = coefficients_read (length p.boxes) (summed_coefficient p pairs) ds e;
}

pub coefficients_at : (p : Problem) (pairs : List (ℕ × Number)) (ds xs : List Number) → xs ≡ ds → AreCoefficients p pairs ds → (j : ℕ) → j < length p.boxes → at xs j ≡ summed_coefficient p pairs j
coefficients_at p pairs ds xs e h j l = ap (λ ys. at ys j) e ∙ h.each j l

-- ---- factors, written from the last term to the first
zeros_at : (n j : ℕ) (z : Number) → z ≡ whole 0 → at (replicate n z) j ≡ whole 0
zeros_at zero zero z e = refl
zeros_at zero (suc j) z e = refl
zeros_at (suc n) zero z e = e
zeros_at (suc n) (suc j) z e = zeros_at n j z e

pub column_within : (n : ℕ) (ts : List Term) (i : ℕ) (t d : Term) → EachColumn (λ c. c < n) ts → i < length ts → t ≡ get_or ts i d → t.column < n
column_within n [] i t d h l e = absurd (omega arith)
column_within n (u ∷ ts) zero t d h l e = subst (λ x. x.column < n) (sym e) h.0
column_within n (u ∷ ts) (suc i) t d h l e = column_within n ts i t d h.1 (omega arith) e

pub record AreFactorsFrom (ts : List Term) (i columns : ℕ) (ds : List Number) : Type 0 where
  pub within : i ≤ length ts
  pub long : length ds ≡ columns
  pub each : (j : ℕ) → at ds j ≡ coefficient (drop i ts) j
  pub fit : AllFit ds

pub factor_written : (ts : List Term) (i columns : ℕ) (ds : List Number) (t d : Term) (a : Number) → suc i ≤ length ts → t ≡ get_or ts i d → t.column < columns → a ≡ t.factor → fits a ≡ true →
    AreFactorsFrom ts (i + 1) columns ds → AreFactorsFrom ts i columns (slice_set ds t.column a)
factor_written ts i columns ds t d a l e b g f h = record {
  within = omega (arith, h.within);
  long = set_long ds t.column a ∙ h.long;
  each = λ j. each_at j (same_place j t.column);
  fit = λ j. fit_at j (same_place j t.column);
}
  where
    there : t.column < length ds
    there = omega (arith, b, h.long)

    step : drop i ts ≡ t ∷ drop (i + 1) ts
    step = rw add-one (drop-cons ts i d l ∙ ap (λ z. z ∷ drop (suc i) ts) (sym e))

    own : at (slice_set ds t.column a) t.column ≡ a
    own = get_or-set_same ds t.column a (whole 0) there

    Is : ℕ → Type 0
    Is j = at (slice_set ds t.column a) j ≡ coefficient (drop i ts) j

    each_at : (j : ℕ) → (j ≡ t.column) ⊎ (¬ (j ≡ t.column)) → Is j
    each_at j (inl q) = subst Is (sym q) (own ∙ g ∙ sym (ap (λ us. coefficient us t.column) step ∙ ap (λ x. cond x t.factor (coefficient (drop (i + 1) ts) t.column)) (own_column t.column)))
    each_at j (inr q) = get_or-set_other ds t.column j a (whole 0) q ∙ h.each j
        ∙ sym (ap (λ us. coefficient us j) step ∙ ap (λ x. cond x t.factor (coefficient (drop (i + 1) ts) j)) (other_column t.column j (λ y. q (sym y))))

    fit_at : (j : ℕ) → (j ≡ t.column) ⊎ (¬ (j ≡ t.column)) → fits (at (slice_set ds t.column a) j) ≡ true
    fit_at j (inl q) = subst (λ i. fits (at (slice_set ds t.column a) i) ≡ true) (sym q) (ap fits own ∙ f)
    fit_at j (inr q) = ap fits (get_or-set_other ds t.column j a (whole 0) q) ∙ h.fit j

pub factors_begin : (ts : List Term) (columns : ℕ) (ds : List Number) (z : Number) → ds ≡ replicate columns z → length ds ≡ columns → z ≡ whole 0 → AreFactorsFrom ts (length ts) columns ds
factors_begin ts columns ds z e l q = record {
  within = omega arith;
  long = l;
  each = λ j. zero_at j ∙ ap (λ us. coefficient us j) (sym (drop_all (length ts) ts (omega arith)));
  fit = λ j. ap fits (zero_at j) ∙ zero_fits;
}
  where
    zero_at : (j : ℕ) → at ds j ≡ whole 0
    zero_at j = ap (λ xs. at xs j) e ∙ zeros_at columns j z q
