-- A form has one list of terms: columns that rise and factors that aren't 0 leave nothing free.
use Rattle.std.proofs.Common.{◌≡◌, ℕ, zero, suc, ◌+◌, ◌<◌, ◌≤◌, List, [], ◌∷◌, Bool, cond, map, length, ◌⊎◌, inl, inr, refl, sym, ◌∙◌, ap, ap₂, arith}
use Rattle.hys_number.specs.Number.{Number}
use Rattle.hys_number.specs.Ops.{whole}
use Rattle.hys_lin.specs.declared.form.Affine.{Affine}
use Rattle.hys_lin.specs.declared.form.Term.{Term}
use Rattle.hys_lin.specs.Scaled.{coefficient}
use Rattle.hys_lin.specs.Sums.{AreTerms, EachColumn}
use Rattle.hys_lin.proofs.Lists.{each_more}
use Rattle.hys_meaning.specs.Names.{Name}
use Rattle.hys_meaning.specs.Forms.{Form}
use Rattle.hys_type.specs.Translation.{HaveFactors, IsFormOf}
use Rattle.hys_type.specs.Built.{sparse}
use Rattle.hys_type.proofs.FormPlaces.{own_column, other_column}
use Rattle.hys_type.proofs.SparseForms.{no_column, sparse_is}

-- ---- terms by their factors
later_none : (j : ℕ) (ts : List Term) → EachColumn (λ c. j < c) ts → coefficient ts j ≡ whole 0
later_none j ts h = no_column j ts (each_more (λ c. j < c) (λ c. ¬ (c ≡ j)) ts (λ c k o. omega (arith, k, o)) h)

own_factor : (t : Term) (ts : List Term) → coefficient (t ∷ ts) t.column ≡ t.factor
own_factor t ts = ap (λ (b : Bool). cond b t.factor (coefficient ts t.column)) (own_column t.column)

other_factor : (t : Term) (ts : List Term) (j : ℕ) → ¬ (t.column ≡ j) → coefficient (t ∷ ts) j ≡ coefficient ts j
other_factor t ts j n = ap (λ (b : Bool). cond b t.factor (coefficient ts j)) (other_column t.column j n)

-- a column before all of the list
before_first : (t : Term) (ts : List Term) (j : ℕ) → AreTerms (t ∷ ts) → j < t.column → coefficient (t ∷ ts) j ≡ whole 0
before_first t ts j h l = later_none j (t ∷ ts) (l, each_more (λ c. t.column < c) (λ c. j < c) ts (λ c k. omega (arith, k, l)) h.1)

data Order3 (i j : ℕ) : Type 0 where
  below : i < j → Order3 i j
  equal : i ≡ j → Order3 i j
  above : j < i → Order3 i j

order3 : (i j : ℕ) → Order3 i j
order3 zero zero = equal refl
order3 zero (suc j) = below (omega arith)
order3 (suc i) zero = above (omega arith)
order3 (suc i) (suc j) = go (order3 i j)
  where
    go : Order3 i j → Order3 (suc i) (suc j)
    go (below h) = below (omega (arith, h))
    go (equal h) = equal (ap suc h)
    go (above h) = above (omega (arith, h))

abbrev of_term : ℕ → Number → Term
of_term c a = record { column = c; factor = a }

same_term : (t u : Term) → t.column ≡ u.column → t.factor ≡ u.factor → t ≡ u
same_term t u e f = ap₂ (λ (c : ℕ) (a : Number). of_term c a) e f

pub same_terms : (ts us : List Term) → AreTerms ts → AreTerms us → ((j : ℕ) → coefficient ts j ≡ coefficient us j) → ts ≡ us
same_terms [] [] h k f = refl
same_terms [] (u ∷ us) h k f = absurd (k.0 (sym (own_factor u us) ∙ sym (f u.column)))
same_terms (t ∷ ts) [] h k f = absurd (h.0 (sym (own_factor t ts) ∙ f t.column))
same_terms (t ∷ ts) (u ∷ us) h k f = go (order3 t.column u.column) (same_terms ts us h.2 k.2)
  where
    tail : t.column ≡ u.column → (j : ℕ) → coefficient ts j ≡ coefficient us j
    tail e j = by (order3 t.column j)
      where
        by : Order3 t.column j → coefficient ts j ≡ coefficient us j
        by (below l) = sym (other_factor t ts j (λ o. omega (arith, l, o))) ∙ f j ∙ other_factor u us j (λ o. omega (arith, l, o, e))
        by (equal l) = later_none j ts (each_more (λ c. t.column < c) (λ c. j < c) ts (λ c i. omega (arith, i, l)) h.1) ∙ sym (later_none j us (each_more (λ c. u.column < c) (λ c. j < c) us (λ c i. omega (arith, i, l, e)) k.1))
        by (above l) = later_none j ts (each_more (λ c. t.column < c) (λ c. j < c) ts (λ c i. omega (arith, i, l)) h.1) ∙ sym (later_none j us (each_more (λ c. u.column < c) (λ c. j < c) us (λ c i. omega (arith, i, l, e)) k.1))

    go : Order3 t.column u.column → (((j : ℕ) → coefficient ts j ≡ coefficient us j) → ts ≡ us) → t ∷ ts ≡ u ∷ us
    go (below l) rest = absurd (h.0 (sym (own_factor t ts) ∙ f t.column ∙ before_first u us t.column k l))
    go (above l) rest = absurd (k.0 (sym (own_factor u us) ∙ sym (f u.column) ∙ before_first t ts u.column h l))
    go (equal e) rest = ap₂ (λ (x : Term) (xs : List Term). x ∷ xs) (same_term t u e (sym (own_factor t ts) ∙ f t.column ∙ ap (coefficient (u ∷ us)) e ∙ own_factor u us)) (rest (tail e))

-- ---- forms
factors_same : (k : ℕ) (ns : List Name) (g : Form) (ts us : List Term) → HaveFactors k ns g ts → HaveFactors k ns g us → (j : ℕ) → k ≤ j → j < k + length ns → coefficient ts j ≡ coefficient us j
factors_same k [] g ts us h i j l m = absurd (omega (arith, l, m))
factors_same k (n ∷ ns) g ts us h i j l m = go (order3 k j) (factors_same (suc k) ns g ts us h.1 i.1 j)
  where
    go : Order3 k j → (suc k ≤ j → j < suc k + length ns → coefficient ts j ≡ coefficient us j) → coefficient ts j ≡ coefficient us j
    go (below b) rest = rest (omega (arith, b)) (omega (arith, m))
    go (equal e) rest = ap (coefficient ts) (sym e) ∙ h.0 ∙ sym i.0 ∙ ap (coefficient us) e
    go (above a) rest = absurd (omega (arith, a, l))

outside : (m j : ℕ) (ts : List Term) → EachColumn (λ c. c < m) ts → m ≤ j → coefficient ts j ≡ whole 0
outside m j ts h l = no_column j ts (each_more (λ c. c < m) (λ c. ¬ (c ≡ j)) ts (λ c k o. omega (arith, k, o, l)) h)

record Split (j m : ℕ) : Type 0 where
  it : (j < m) ⊎ (m ≤ j)

split : (j m : ℕ) → Split j m
split j m = go (order3 j m)
  where
    go : Order3 j m → Split j m
    go (below h) = record { it = inl h }
    go (equal h) = record { it = inr (omega (arith, h)) }
    go (above h) = record { it = inr (omega (arith, h)) }

all_same : (ns : List Name) (g : Form) (f h : Affine) → IsFormOf ns g f → IsFormOf ns g h → (j : ℕ) → coefficient f.terms j ≡ coefficient h.terms j
all_same ns g f h a b j = elim (split j (length ns)).it [
  | inl l ↦ factors_same 0 ns g f.terms h.terms a.factors b.factors j (omega arith) (omega (arith, l))
  | inr l ↦ outside (length ns) j f.terms a.terms.below l ∙ sym (outside (length ns) j h.terms b.terms.below l)
]

abbrev of_affine : List Term → Number → Affine
of_affine ts a = record { terms = ts; constant = a }

same_affine : (f h : Affine) → f.terms ≡ h.terms → f.constant ≡ h.constant → f ≡ h
same_affine f h e i = ap₂ of_affine e i

pub one_form : (ns : List Name) (g : Form) (f h : Affine) → IsFormOf ns g f → IsFormOf ns g h → f ≡ h
one_form ns g f h a b = same_affine f h (same_terms f.terms h.terms a.terms.rise b.terms.rise (all_same ns g f h a b)) (a.constant ∙ sym b.constant)

-- the only form
abbrev pub only : List Name → Form → Affine
only ns g = sparse (record { factors = map (λ (n : Name). g.factor n.text) ns; constant = g.constant })

pub only_form : (ns : List Name) (g : Form) (f : Affine) → IsFormOf ns g f → f ≡ only ns g
only_form ns g f a = one_form ns g f (only ns g) a (sparse_is ns g (record { factors = map (λ (n : Name). g.factor n.text) ns; constant = g.constant }) (record { factors = refl; constant = refl }))
