-- How the clauses of helpers are made of those of the calls that they make.
use Rattle.std.proofs.Common.{◌≡◌, ℕ, ◌<◌, List, [], ◌∷◌, ◌++◌, Bool, true, false, Result, Ok, Err, None, refl, sym, ◌∙◌, ap, subst, append_assoc, append-nil}
use Rattle.std.specs.Result.{IsErrAnd}
use Rattle.hys_number.specs.Number.{Number}
use Rattle.hys_number.specs.Ops.{neg}
use Rattle.hys_lin.specs.declared.form.Affine.{Affine}
use Rattle.hys_lin.specs.declared.form.Interval.{Interval}
use Rattle.hys_lin.specs.declared.form.Row.{Row}
use Rattle.hys_lin.specs.declared.form.Term.{Term}
use Rattle.hys_lin.specs.declared.lost.Lost.{Lost as Operation}
use Rattle.hys_lin.specs.Operations.{first_lost}
use Rattle.hys_lin.specs.Stated.{Stated, AreRows}
use Rattle.hys_lin.specs.Sums.{AreTerms}
use Rattle.hys_lin.proofs.Stated.{are-append, below-append}
use Rattle.hys_lin.proofs.Summing.{lost_after, lost_before}
use Rattle.hys_bound.specs.Ranges.{range}
use Rattle.hys_formula.specs.declared.formula.Formula.{Formula}
use Rattle.hys_formula.specs.Formulas.{FormulaTree}
use Rattle.hys_logic.specs.declared.usage.Use.TheVariants.{Define}
use Rattle.hys_logic.specs.Tables.{is_short}
use Rattle.hys_logic.specs.Uses.{fresh_count, count_if}
use Rattle.hys_guard.specs.declared.terms.Side.TheVariants.{Upper}
use Rattle.hys_guard.specs.Numbers.{guard_numbers, choice_numbers}
use Rattle.hys_guard.specs.Set.{negated}
use Rattle.hys_guard.specs.Stated.{guard_stated, copy_stated}
use Rattle.hys_guard.specs.Meanings.{AreChoice, BelowWith, BelowAll}
use Rattle.hys_guard.proofs.Lists.{negated_sum, signed_each, signed_terms}
use Rattle.hys_rows.specs.declared.fault.RowFault.{RowFault}
use Rattle.hys_rows.specs.declared.fault.RowFault.TheVariants.{Lost, Memory}
use Rattle.hys_rows.specs.Moved.{moved}
use Rattle.hys_rows.specs.Numbers.{Judged, chosen_numbers}
use Rattle.hys_rows.specs.Parts.{literal_form}
use Rattle.hys_rows.specs.Adding.{AddsRows, AddsGuard, AddsCopy, AddsChosen, AddsMost, AddsLeast}

-- ---- numbers that don't fit
lost_front : (X Y : Type 0) (os qs : List Operation) (e : RowFault) → Judged {X = X} os (Err e) → Judged {X = Y} (os ++ qs) (Err e)
lost_front X Y os qs (Lost l) h = lost_before os qs l h
lost_front X Y os qs Memory h = tt

pub judged_same : (X Y : Type 0) (os : List Operation) (r : Result Y RowFault) (e : RowFault) → IsErrAnd r (λ x. x ≡ e) → Judged {X = X} os (Err e) → Judged os r
judged_same X Y os (Ok x) e h j = absurd h
judged_same X Y os (Err (Lost l)) e h j = subst (λ (f : RowFault). Judged {X = X} os (Err f)) (sym h) j
judged_same X Y os (Err Memory) e h j = tt

pub judged_front : (X Y : Type 0) (os qs : List Operation) (r : Result Y RowFault) (e : RowFault) → IsErrAnd r (λ x. x ≡ e) → Judged {X = X} os (Err e) → Judged (os ++ qs) r
judged_front X Y os qs r e h j = judged_same Y Y (os ++ qs) r e h (lost_front X Y os qs e j)

pub judged_behind : (Y : Type 0) (os qs : List Operation) (r : Result Y RowFault) → first_lost os ≡ None → Judged qs r → Judged (os ++ qs) r
judged_behind Y os qs (Ok x) e h = lost_after os qs e ∙ h
judged_behind Y os qs (Err (Lost l)) e h = lost_after os qs e ∙ h
judged_behind Y os qs (Err Memory) e h = tt

pub guard_judged : (Y : Type 0) (boxes : List Interval) (columns : List ℕ) (f : Affine) (e : Number) (i : Interval) (r : Result Y RowFault) → i ≡ range boxes f →
    Judged (guard_numbers (moved columns f) i e) r → Judged (guard_numbers (moved columns f) (range boxes f) e) r
guard_judged Y boxes columns f e i r h j = subst (λ (x : Interval). Judged (guard_numbers (moved columns f) x e) r) h j

pub chosen_judged : (Y : Type 0) (boxes : List Interval) (columns : List ℕ) (k : ℕ) (l : Formula) (a b x : Affine) (i j : Interval) (r : Result Y RowFault) → x ≡ literal_form columns k l → i ≡ range boxes a → j ≡ range boxes b →
    Judged (choice_numbers x (moved columns a) i (moved columns b) j) r → Judged (chosen_numbers boxes columns k l a b) r
chosen_judged Y boxes columns k l a b x i j r e h g q =
    subst (λ (t : Interval). Judged (choice_numbers (literal_form columns k l) (moved columns a) (range boxes a) (moved columns b) t) r) g
    (subst (λ (t : Interval). Judged (choice_numbers (literal_form columns k l) (moved columns a) t (moved columns b) j) r) h
    (subst (λ (t : Affine). Judged (choice_numbers t (moved columns a) i (moved columns b) j) r) e q))

-- ---- rows
pub guard_added : (columns : List ℕ) (f : Affine) (i : Interval) (e : Number) (z : ℕ) (x : Affine) (old new made : List Row) → x ≡ moved columns f → new ≡ old ++ made →
    AreRows made (guard_stated x i e z) → BelowWith z x.terms made → AddsGuard columns f i e z old new
guard_added columns f i e z x old new made m g h b = (made, g, rw m at h, λ n p. (rw m at b) n p.0 p.1)

pub copy_added : (columns : List ℕ) (f : Affine) (z : ℕ) (x : Affine) (old new made : List Row) → x ≡ moved columns f → new ≡ old ++ made →
    AreRows made (copy_stated x z) → BelowWith z x.terms made → AddsCopy columns f z old new
copy_added columns f z x old new made m g h b = (made, g, rw m at h, λ n p. (rw m at b) n p.0 p.1)

pub chosen_added : (columns : List ℕ) (l a : Affine) (i : Interval) (b : Affine) (j : Interval) (z : ℕ) (x y : Affine) (old new made : List Row) → x ≡ moved columns a → y ≡ moved columns b → new ≡ old ++ made →
    AreChoice l x i y j z made → BelowAll z l x y made → AddsChosen columns l a i b j z old new
chosen_added columns l a i b j z x y old new made m k g h q = (made, g, rw (m, k) at h, λ n p. (rw (m, k) at q) n p.0 p.1 p.2 p.3)

-- rows behind rows
pub added_twice : (ss ts : List Stated) (P Q R : ℕ → Type 0) (old mid new : List Row) → ((n : ℕ) → R n → P n) → ((n : ℕ) → R n → Q n) → AddsRows ss P old mid → AddsRows ts Q mid new → AddsRows (ss ++ ts) R old new
added_twice ss ts P Q R old mid new p q a b = (
  a.0 ++ b.0,
  b.1 ∙ ap (λ (rs : List Row). rs ++ b.0) a.1 ∙ append_assoc old a.0 b.0,
  are-append a.0 b.0 ss ts a.2 b.2,
  λ n r. below-append n a.0 b.0 (a.3 n (p n r)) (b.3 n (q n r)),
)

pub most_added : (columns : List ℕ) (f x : Affine) (b : Number) (old new : List Row) → x ≡ moved columns f → AreTerms (moved columns f).terms → b ≡ neg x.constant →
    new ≡ old ++ (record { terms = x.terms; bound = b; eq = false } ∷ []) → AddsMost columns f old new
most_added columns f x b old new m t c g = (
  record { terms = (moved columns f).terms; bound = neg f.constant; eq = false } ∷ [],
  rw (c, m) at g,
  (record { terms = t; sums = λ v. refl; bounds = refl; at_most = refl }, tt),
  λ n b. (b, tt),
)

pub least_added : (columns : List ℕ) (f x : Affine) (ts : List Term) (old new : List Row) → x ≡ moved columns f → AreTerms (moved columns f).terms → ts ≡ negated x.terms →
    new ≡ old ++ (record { terms = ts; bound = x.constant; eq = false } ∷ []) → AddsLeast columns f old new
least_added columns f x ts old new m t s g = (
  record { terms = negated (moved columns f).terms; bound = f.constant; eq = false } ∷ [],
  rw (s, m) at g,
  (record { terms = signed_terms Upper (moved columns f).terms t; sums = λ v. negated_sum (moved columns f).terms v; bounds = refl; at_most = refl }, tt),
  λ n b. (signed_each (λ c. c < n) Upper (moved columns f).terms b, tt),
)

pub none_added : (P : ℕ → Type 0) (old : List Row) → AddsRows [] P old old
none_added P old = ([], sym (append-nil old), tt, λ n p. tt)

-- ---- the number of fresh columns of a formula that defines a column
count_same : (b : Bool) (z : ℕ) (f : FormulaTree) → count_if b (Define z) f ≡ count_if b (Define 0) f
count_same true z f = refl
count_same false z f = refl

pub define_count : (z : ℕ) (p : ℕ → ℕ) (f : FormulaTree) → fresh_count (Define z) p f ≡ fresh_count (Define 0) p f
define_count z p f = count_same (is_short p f) z f
