-- The slack basis while it is written.
use Rattle.std.proofs.Common.{◌≡◌, ◌≢◌, ℕ, zero, suc, ℤ, ◌+◌, ◌-◌, ◌^◌, ◌<◌, ◌≤◌, ◌==◌, ◌⊎◌, inl, inr, if◌then◌else◌, Bool, true, false, cond, refl, sym, ◌∙◌, ap, subst, arith, List, [], ◌∷◌, length, get_or, unsigned_abs}
use Rattle.std.specs.Prelude.{nat_eq}
use Rattle.hys_number.specs.Number.{Number}
use Rattle.hys_number.specs.Ops.{neg, whole, fits}
use Rattle.hys_number.proofs.Ring.{by_ring, k, minus}
use Rattle.hys_frac.proofs.Fracs.{fits_yes}
use Rattle.hys_lin.specs.Sums.{EachColumn}
use Rattle.hys_lin.specs.Scaled.{coefficient}
use Rattle.hys_lin.specs.declared.form.Term.{Term}
use Rattle.std.proofs.lemmas.List.Elements.{All-get_or}
use Rattle.hys_lin.specs.Over.{AreTermsOver}
use Rattle.hys_lin.specs.Problem.{IsProblem}
use Rattle.hys_lin.specs.declared.problem.Problem.{Problem}
use Rattle.hys_lin.proofs.Lists.{each_more}
use Rattle.hys_relax.specs.LinearProgram.{linear_program, row_at}
use Rattle.hys_simplex.specs.Tableau.{start}
use Rattle.hys_relax.proofs.Dense.{own_column, other_column}
use Rattle.hys_simplex.proofs.Same.{same_yes, same_no}
use Rattle.hys_simplex.proofs.Pivots.{same_place}
use Rattle.hys_tab.specs.Cells.{turned, slack_cell}

pub fits_by_parts : (a : Number) (z : ℤ) → z ≡ a.num → unsigned_abs z < 2 ^ 63 → a.den < 2 ^ 63 → fits a ≡ true
fits_by_parts a z e l m = fits_yes a (subst (λ y. unsigned_abs y < 2 ^ 63) e l) m

last_cell : (w : ℕ) (ts : List Term) (a : Number) (n : Bool) (j : ℕ) → j + 1 ≡ w → slack_cell w ts a n j ≡ a
last_cell w ts a n j e = rw (e, same_yes w) refl

inner_cell : (w : ℕ) (ts : List Term) (a : Number) (n : Bool) (j : ℕ) → j + 1 ≢ w → slack_cell w ts a n j ≡ turned n (coefficient ts j)
inner_cell w ts a n j d = rw (same_no (j + 1) w (λ q. d (sym q))) refl

turned_zero : (n : Bool) → whole 0 ≡ turned n (whole 0)
turned_zero true = by_ring [] (k 0) (minus (k 0)) refl
turned_zero false = refl

-- before any term the row has its constant alone
pub row_begins : (M N : ℕ → ℕ → Number) (w i : ℕ) (a : Number) (n : Bool) → 0 < w → N i (w - 1) ≡ a → ((b : ℕ) → b < w → b ≢ w - 1 → N i b ≡ M i b) → ((b : ℕ) → b < w → M i b ≡ whole 0) →
    (b : ℕ) → b < w → N i b ≡ slack_cell w [] a n b
row_begins M N w i a n p e o z b l = elim (same_place b (w - 1)) as (λ _. N i b ≡ slack_cell w [] a n b) [
  | inl q ↦ ap (N i) q ∙ e ∙ sym (last_cell w [] a n b (omega (arith, q)))
  | inr d ↦ o b l d ∙ z b l ∙ turned_zero n ∙ sym (inner_cell w [] a n b (λ q. d (omega (arith, q))))
]

-- with one more term in front
pub row_next : (N N' : ℕ → ℕ → Number) (w i : ℕ) (us ts : List Term) (t : Term) (a x : Number) (n : Bool) → us ≡ t ∷ ts → t.column + 1 < w → x ≡ turned n t.factor → N' i t.column ≡ x →
    ((b : ℕ) → b < w → b ≢ t.column → N' i b ≡ N i b) → ((b : ℕ) → b < w → N i b ≡ slack_cell w ts a n b) → (b : ℕ) → b < w → N' i b ≡ slack_cell w us a n b
row_next N N' w i us ts t a x n eu p ex e o h b l = subst (λ (zs : List Term). N' i b ≡ slack_cell w zs a n b) (sym eu) (elim (same_place b t.column) as (λ _. N' i b ≡ slack_cell w (t ∷ ts) a n b) [
  | inl q ↦ ap (N' i) q ∙ e ∙ ex ∙ sym (inner_cell w (t ∷ ts) a n b (λ r. absurd (omega (arith, q, r, p))) ∙ ap (turned n) (ap (λ z. cond (nat_eq t.column z) t.factor (coefficient ts z)) q ∙ ap (λ z. cond z t.factor (coefficient ts t.column)) (own_column t.column)))
  | inr d ↦ o b l d ∙ h b l ∙ same (same_place (b + 1) w) d
])
  where
    same : (b + 1 ≡ w) ⊎ (b + 1 ≢ w) → b ≢ t.column → slack_cell w ts a n b ≡ slack_cell w (t ∷ ts) a n b
    same (inl q) d = last_cell w ts a n b q ∙ sym (last_cell w (t ∷ ts) a n b q)
    same (inr r) d = inner_cell w ts a n b r ∙ sym (inner_cell w (t ∷ ts) a n b r ∙ ap (λ z. turned n (cond z t.factor (coefficient ts b))) (other_column t.column b (λ q. d (sym q))))

pub each_at : (P : ℕ → Type 0) (ts : List Term) (q : ℕ) (d : Term) → EachColumn P ts → q < length ts → P (get_or ts q d).column
each_at P [] q d h l = absurd (omega arith)
each_at P (u ∷ ts) zero d h l = h.0
each_at P (u ∷ ts) (suc q) d h l = each_at P ts q d h.1 (omega arith)

-- the first row that is still blank
pub row_blank : (M N : ℕ → ℕ → Number) (h w i : ℕ) → ((a b : ℕ) → a < h → b < w → a ≢ i → N a b ≡ M a b) → ((a b : ℕ) → i ≤ a → a < h → b < w → M a b ≡ whole 0) →
    (a b : ℕ) → i + 1 ≤ a → a < h → b < w → N a b ≡ whole 0
row_blank M N h w i o z a b l m n = o a b m n (λ e. absurd (omega (arith, e, l))) ∙ z a b (omega arith) m n

-- the rows up to one more
pub row_more : (M N R : ℕ → ℕ → Number) (h w i : ℕ) → i < h → ((b : ℕ) → b < w → N i b ≡ R i b) → ((a b : ℕ) → a < h → b < w → a ≢ i → N a b ≡ M a b) →
    ((a b : ℕ) → a < i → b < w → M a b ≡ R a b) → (a b : ℕ) → a < i + 1 → b < w → N a b ≡ R a b
row_more M N R h w i li e o f a b l m = elim (same_place a i) as (λ _. N a b ≡ R a b) [
  | inl q ↦ subst (λ z. N z b ≡ R z b) (sym q) (e b m)
  | inr d ↦ o a b (omega (arith, li, l)) m d ∙ f a b (omega (arith, l, d)) m
]

-- the cells of the slack basis
pub problem_row : (p : Problem) (a b : ℕ) → a < length p.rows → slack_cell (length p.boxes + 1) (row_at p a).terms (row_at p a).bound false b ≡ (start (linear_program p)).cell a b
problem_row p a b l = rw (same_no a (length p.rows) (λ e. absurd (omega (arith, e, l)))) (go (same_place b (length p.boxes)))
  where
    go : (b ≡ length p.boxes) ⊎ (b ≢ length p.boxes) → slack_cell (length p.boxes + 1) (row_at p a).terms (row_at p a).bound false b ≡ (if b == length p.boxes then (row_at p a).bound else coefficient (row_at p a).terms b)
    go (inl e) = last_cell (length p.boxes + 1) (row_at p a).terms (row_at p a).bound false b (ap (λ z. z + 1) e) ∙ sym (rw (e, same_yes (length p.boxes)) refl)
    go (inr d) = inner_cell (length p.boxes + 1) (row_at p a).terms (row_at p a).bound false b (λ e. d (omega (arith, e))) ∙ sym (rw (same_no b (length p.boxes) (λ q. d (sym q))) refl)

pub cost_row : (p : Problem) (b : ℕ) → slack_cell (length p.boxes + 1) p.cost.terms p.cost.constant true b ≡ (start (linear_program p)).cell (length p.rows) b
cost_row p b = rw (same_yes (length p.rows)) (go (same_place b (length p.boxes)))
  where
    go : (b ≡ length p.boxes) ⊎ (b ≢ length p.boxes) → slack_cell (length p.boxes + 1) p.cost.terms p.cost.constant true b ≡ (if b == length p.boxes then p.cost.constant else neg (coefficient p.cost.terms b))
    go (inl e) = last_cell (length p.boxes + 1) p.cost.terms p.cost.constant true b (ap (λ z. z + 1) e) ∙ sym (rw (e, same_yes (length p.boxes)) refl)
    go (inr d) = inner_cell (length p.boxes + 1) p.cost.terms p.cost.constant true b (λ e. d (omega (arith, e))) ∙ sym (rw (same_no b (length p.boxes) (λ q. d (sym q))) refl)

-- the terms of a problem's rows and of its cost lie below its columns
pub terms_below : (p : Problem) → IsProblem p → (i : ℕ) → i < length p.rows → EachColumn (λ c. c + 1 < length p.boxes + 1) (row_at p i).terms
terms_below p h i l = each_more (λ c. c < length p.boxes) (λ c. c + 1 < length p.boxes + 1) (row_at p i).terms (λ c m. omega arith)
    (All-get_or (λ r. AreTermsOver (length p.boxes) r.terms) p.rows i (record { terms = []; bound = whole 0; eq = false }) l h.rows).below

pub cost_below : (p : Problem) → IsProblem p → EachColumn (λ c. c + 1 < length p.boxes + 1) p.cost.terms
cost_below p h = each_more (λ c. c < length p.boxes) (λ c. c + 1 < length p.boxes + 1) p.cost.terms (λ c m. omega arith) h.cost.below
