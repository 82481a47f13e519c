-- A problem and its linear program: sums of terms are sums over the columns.
use Rattle.std.proofs.Common.{◌≡◌, ℕ, zero, suc, ◌<◌, ◌↔◌, refl, sym, ◌∙◌, ap, ap₂, subst, arith, Bool, true, false, cond, List, [], ◌∷◌, length, get_or, eqb, eqb→eq, T}
use Rattle.std.proofs.Math.Dec.{eqb_refl}
use Rattle.std.specs.Prelude.{nat_eq}
use Rattle.std.specs.List.{AllByRecursion}
use Rattle.std.proofs.lemmas.List.Elements.{recursion_from_All}
use Rattle.hys_number.specs.Number.{Number}
use Rattle.hys_number.specs.Ops.{◌+ₙ◌, ◌*ₙ◌, ◌-ₙ◌, whole}
use Rattle.hys_number.specs.Sums.{sum_to}
use Rattle.hys_number.proofs.Field.{add_comm}
use Rattle.hys_number.proofs.Order.{le_refl'}
use Rattle.hys_number.proofs.Ring.{by_ring, v, k, ◌⊕◌, ◌⊗◌, ◌⊖◌}
use Rattle.hys_lin.specs.Sums.{Assignment, sum_of, value, compared, Holds, HoldAll, AreTerms, EachColumn}
use Rattle.hys_lin.specs.Scaled.{coefficient}
use Rattle.hys_lin.specs.Over.{AreTermsOver}
use Rattle.hys_lin.specs.declared.form.Term.{Term}
use Rattle.hys_lin.specs.declared.form.Row.{Row}
use Rattle.hys_lin.specs.declared.problem.Problem.{Problem}
use Rattle.hys_lin.specs.Problem.{IsProblem}
use Rattle.hys_relax.specs.LinearProgram.{linear_program, row_at, row_sum, cost_of, Meets}
use Rattle.hys_relax.specs.Bound.{SignHolds, IsSigned, multiplier, AreLawful, costless}
use Rattle.hys_relax.proofs.Sums.{sum_apart, sum_zero}

pub all_at : {X : Type 0} (P : X → Type 0) (xs : List X) (i : ℕ) (d : X) → AllByRecursion P xs → i < length xs → P (get_or xs i d)
all_at P [] i d h l = absurd (omega arith)
all_at P (x ∷ xs) zero d h l = h.0
all_at P (x ∷ xs) (suc i) d h l = all_at P xs i d h.1 (omega arith)

-- ---- coefficients
pub same_column : (c j : ℕ) → nat_eq c j ≡ true → c ≡ j
same_column c j e = eqb→eq c j (subst T (sym e) tt)

pub other_column : (c j : ℕ) → ¬ (c ≡ j) → nat_eq c j ≡ false
other_column c j d = go (eqb c j) refl
  where
    go : (x : Bool) → eqb c j ≡ x → x ≡ false
    go true e = absurd (d (eqb→eq c j (subst T (sym e) tt)))
    go false e = refl

pub own_column : (c : ℕ) → nat_eq c c ≡ true
own_column c = go (eqb c c) (eqb_refl c)
  where
    go : (x : Bool) → T x → x ≡ true
    go true h = refl
    go false h = absurd h

pub coefficient_none : (ts : List Term) (c : ℕ) → EachColumn (λ d. c < d) ts → coefficient ts c ≡ whole 0
coefficient_none [] c h = refl
coefficient_none (t ∷ ts) c h = ap (λ b. cond b t.factor (coefficient ts c)) (other_column t.column c (λ e. absurd (omega (arith, e, h.0)))) ∙ coefficient_none ts c h.1

pub dense_sum : (n : ℕ) (ts : List Term) (x : Assignment) → AreTerms ts → EachColumn (λ c. c < n) ts → sum_of ts x ≡ sum_to n (λ j. coefficient ts j *ₙ x j)
dense_sum n [] x h l = sym (sum_zero n (λ j. whole 0 *ₙ x j) (λ j m. by_ring (x j ∷ []) (k 0 ⊗ v 0) (k 0) refl))
dense_sum n (t ∷ ts) x h l = ap (λ z. t.factor *ₙ x t.column +ₙ z) (dense_sum n ts x h.2 l.1) ∙ sym
    (sum_apart n t.column (whole 1) (whole 0) (λ j. coefficient ts j *ₙ x j) (λ j. whole 0) (λ j. coefficient (t ∷ ts) j *ₙ x j) l.0
    (λ j m d. ap (λ b. cond b t.factor (coefficient ts j) *ₙ x j) (other_column t.column j (λ e. d (sym e))) ∙ by_ring ((coefficient ts j *ₙ x j) ∷ []) (v 0) (k 1 ⊗ v 0 ⊕ k 0 ⊗ k 0) refl)
    ∙ ap₂ (λ b z. (whole 1 *ₙ sum_to n (λ j. coefficient ts j *ₙ x j) +ₙ whole 0 *ₙ sum_to n (λ j. whole 0)) +ₙ (cond b t.factor (coefficient ts t.column) *ₙ x t.column -ₙ (whole 1 *ₙ (z *ₙ x t.column) +ₙ whole 0 *ₙ whole 0)))
    (own_column t.column) (coefficient_none ts t.column h.1)
    ∙ by_ring (sum_to n (λ j. coefficient ts j *ₙ x j) ∷ sum_to n (λ j. whole 0) ∷ t.factor ∷ x t.column ∷ [])
    ((k 1 ⊗ v 0 ⊕ k 0 ⊗ v 1) ⊕ (v 2 ⊗ v 3 ⊖ (k 1 ⊗ (k 0 ⊗ v 3) ⊕ k 0 ⊗ k 0))) (v 2 ⊗ v 3 ⊕ v 0) refl)

pub dense_over : (n : ℕ) (ts : List Term) (x : Assignment) → AreTermsOver n ts → sum_of ts x ≡ sum_to n (λ j. coefficient ts j *ₙ x j)
dense_over n ts x h = dense_sum n ts x h.rise h.below

-- ---- rows and cost
pub row_sum_is : (p : Problem) → IsProblem p → (x : Assignment) (i : ℕ) → i < length p.rows → sum_of (row_at p i).terms x ≡ row_sum (linear_program p) i x
row_sum_is p h x i l = dense_over (length p.boxes) (row_at p i).terms x (all_at (λ r. AreTermsOver (length p.boxes) r.terms) p.rows i (record { terms = []; bound = whole 0; eq = false }) (recursion_from_All (λ r. AreTermsOver (length p.boxes) r.terms) p.rows h.rows) l)

pub cost_is : (p : Problem) → IsProblem p → (x : Assignment) → value p.cost x ≡ cost_of (linear_program p) x
unfolding value
cost_is p h x = ap (λ z. z +ₙ p.cost.constant) (dense_over (length p.boxes) p.cost.terms x h.cost) ∙ add_comm _ _

held_at : (x : Assignment) (rs : List Row) (i : ℕ) (d : Row) → HoldAll x rs → i < length rs → Holds x (get_or rs i d)
held_at x [] i d h l = absurd (omega arith)
held_at x (r ∷ rs) zero d h l = h.0
held_at x (r ∷ rs) (suc i) d h l = held_at x rs i d h.1 (omega arith)

held_all : (x : Assignment) (rs : List Row) (d : Row) → ((i : ℕ) → i < length rs → Holds x (get_or rs i d)) → HoldAll x rs
held_all x [] d h = tt
held_all x (r ∷ rs) d h = (h zero (omega arith), held_all x rs d (λ i l. h (suc i) (omega arith)))

pub meets_is : (p : Problem) → IsProblem p → (x : Assignment) → HoldAll x p.rows ↔ Meets (linear_program p) x
unfolding Holds
meets_is p h x = (
  λ m i l. subst (λ z. compared (row_at p i).eq z (row_at p i).bound) (row_sum_is p h x i l) (held_at x p.rows i (record { terms = []; bound = whole 0; eq = false }) m l),
  λ m. held_all x p.rows (record { terms = []; bound = whole 0; eq = false }) (λ i l. subst (λ z. compared (row_at p i).eq z (row_at p i).bound) (sym (row_sum_is p h x i l)) (m i l)),
)

pub costless_problem : (p : Problem) → IsProblem p → IsProblem (costless p)
costless_problem p h = record { boxes = h.boxes; rows = h.rows; cost = record { rise = tt; below = tt }; rise = h.rise; branch = h.branch }

-- ---- multipliers
pub signed : (p : Problem) (pairs : List (ℕ × Number)) → AreLawful p pairs → IsSigned (linear_program p) (multiplier pairs)
signed p [] h i l = zero_signed (row_at p i).eq
  where
    zero_signed : (q : Bool) → SignHolds q (whole 0)
    zero_signed true = tt
    zero_signed false = le_refl' (whole 0)
signed p (pair ∷ pairs) h i l = go (nat_eq pair.0 i) refl (signed p pairs h.1 i l)
  where
    go : (b : Bool) → nat_eq pair.0 i ≡ b → SignHolds (row_at p i).eq (multiplier pairs i) → SignHolds (row_at p i).eq (cond b pair.1 (multiplier pairs i))
    go true e s = subst (λ z. SignHolds (row_at p z).eq pair.1) (same_column pair.0 i e) h.0.1
    go false e s = s
