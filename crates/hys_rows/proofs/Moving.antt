-- Forms over names turned into forms over columns: their order, their columns and their values.
use Rattle.std.proofs.Common.{◌≡◌, ℕ, suc, ◌+◌, ◌<◌, ◌≤◌, List, [], ◌∷◌, length, drop, get_or, Bool, true, false, ltb, if◌then◌else◌, refl, sym, ◌∙◌, ap, subst, arith, ⊎_elim}
use Rattle.std.proofs.lemmas.Bool.Decides.{leb_tells}
use Rattle.hys_number.specs.Number.{Number}
use Rattle.hys_number.specs.Ops.{◌+ₙ◌, ◌*ₙ◌, whole}
use Rattle.hys_number.proofs.Field.{add_zero}
use Rattle.hys_number.proofs.Ring.{by_ring, v as var, k as num, ◌⊕◌}
use Rattle.hys_lin.specs.declared.form.Affine.{Affine}
use Rattle.hys_lin.specs.declared.form.Term.{Term}
use Rattle.hys_lin.specs.Sums.{Assignment, sum_of, value, AreTerms, EachColumn}
use Rattle.hys_lin.proofs.Lists.{each_more}
use Rattle.hys_lin.proofs.Summing.{drop_here}
use Rattle.hys_logic.specs.Literals.{column_in}
use Rattle.hys_exact.specs.Parts.{by_columns}
use Rattle.hys_rows.specs.Moved.{inserted, moved_onto, on_column, moved}

-- ---- the loop
pub item_here : (ts us : List Term) (i : ℕ) (t : Term) → ts ≡ us → i < length ts → t ≡ get_or ts i t → drop i us ≡ t ∷ drop (i + 1) us
item_here ts us i t e l r = subst (λ (xs : List Term). drop i xs ≡ t ∷ drop (i + 1) xs) e (drop_here ts i t l r)

pub moved_next : (columns : List ℕ) (now next all rest more : List Term) (t : Term) → t.column < length columns → moved_onto columns now rest ≡ moved_onto columns [] all → rest ≡ t ∷ more →
    next ≡ inserted (on_column columns t) now → moved_onto columns next more ≡ moved_onto columns [] all
moved_next columns now next all rest more t l h e n = ap (λ (xs : List Term). moved_onto columns xs more) n ∙ sym (ap (moved_onto columns now) e) ∙ h

-- ---- a term in its place
sum_inserted : (t : Term) (us : List Term) (v : Assignment) → sum_of (inserted t us) v ≡ t.factor *ₙ v t.column +ₙ sum_of us v
sum_inserted t [] v = refl
sum_inserted t (u ∷ us) v = go (ltb t.column u.column) (sum_inserted t us v)
  where
    go : (b : Bool) → sum_of (inserted t us) v ≡ t.factor *ₙ v t.column +ₙ sum_of us v → sum_of (if b then t ∷ u ∷ us else u ∷ inserted t us) v ≡ t.factor *ₙ v t.column +ₙ (u.factor *ₙ v u.column +ₙ sum_of us v)
    go true e = refl
    go false e = ap (λ (a : Number). u.factor *ₙ v u.column +ₙ a) e
        ∙ by_ring ((u.factor *ₙ v u.column) ∷ (t.factor *ₙ v t.column) ∷ sum_of us v ∷ []) (var 0 ⊕ (var 1 ⊕ var 2)) (var 1 ⊕ (var 0 ⊕ var 2)) refl

each_inserted : (P : ℕ → Type 0) (t : Term) (us : List Term) → P t.column → EachColumn P us → EachColumn P (inserted t us)
each_inserted P t [] p h = (p, tt)
each_inserted P t (u ∷ us) p h = go (ltb t.column u.column) (each_inserted P t us p h.1)
  where
    go : (b : Bool) → EachColumn P (inserted t us) → EachColumn P (if b then t ∷ u ∷ us else u ∷ inserted t us)
    go true i = (p, h)
    go false i = (h.0, i)

terms_inserted : (t : Term) (us : List Term) → ¬ (t.factor ≡ whole 0) → EachColumn (λ c. ¬ (c ≡ t.column)) us → AreTerms us → AreTerms (inserted t us)
terms_inserted t [] f a h = (f, tt, tt)
terms_inserted t (u ∷ us) f a h = go (ltb t.column u.column) refl (terms_inserted t us f a.1 h.2)
  where
    behind : u.column ≤ t.column → u.column < t.column
    behind n = ⊎_elim (λ q. let l : u.column < t.column = q.1 in l) (λ q. let m : t.column < suc u.column = q.1 in absurd (a.0 (let e : u.column ≡ t.column = omega arith in e))) (leb_tells (suc u.column) t.column)

    go : (b : Bool) → ltb t.column u.column ≡ b → AreTerms (inserted t us) → AreTerms (if b then t ∷ u ∷ us else u ∷ inserted t us)
    go true e i =
        let l : t.column < u.column = ⊎_elim (λ q. q.1) (λ q. absurd (cc)) (leb_tells (suc t.column) u.column) in
        (f, (l, each_more (λ c. u.column < c) (λ c. t.column < c) us (λ c q. omega arith) h.1), h)
    go false e i =
        let n : u.column ≤ t.column = ⊎_elim (λ q. absurd (cc)) (λ q. let m : u.column < suc t.column = q.1 in omega arith) (leb_tells (suc t.column) u.column) in
        let l : u.column < t.column = behind n in
        (h.0, each_inserted (λ c. u.column < c) t us l h.1, i)

-- ---- all terms
pub moved_each : (P : ℕ → Type 0) (columns : List ℕ) (us ts : List Term) → EachColumn P us → EachColumn (λ n. P (column_in columns n)) ts → EachColumn P (moved_onto columns us ts)
moved_each P columns us [] h k = h
moved_each P columns us (t ∷ ts) h k = moved_each P columns (inserted (on_column columns t) us) ts (each_inserted P (on_column columns t) us k.0 h) k.1

sum_moved : (columns : List ℕ) (us ts : List Term) (v : Assignment) → sum_of (moved_onto columns us ts) v ≡ sum_of ts (by_columns columns v) +ₙ sum_of us v
sum_moved columns us [] v = by_ring (sum_of us v ∷ []) (var 0) (num 0 ⊕ var 0) refl
sum_moved columns us (t ∷ ts) v = sum_moved columns (inserted (on_column columns t) us) ts v
    ∙ ap (λ (a : Number). sum_of ts (by_columns columns v) +ₙ a) (sum_inserted (on_column columns t) us v)
    ∙ by_ring ((t.factor *ₙ v (column_in columns t.column)) ∷ sum_of ts (by_columns columns v) ∷ sum_of us v ∷ []) (var 1 ⊕ (var 0 ⊕ var 2)) (var 0 ⊕ var 1 ⊕ var 2) refl

-- the moved form has the value that the form has by columns
pub moved_value : (columns : List ℕ) (f : Affine) (v : Assignment) → value (moved columns f) v ≡ value f (by_columns columns v)
unfolding value
moved_value columns f v = ap (λ (a : Number). a +ₙ f.constant) (sum_moved columns [] f.terms v ∙ add_zero (sum_of f.terms (by_columns columns v)))

-- the column is none of the names'
abbrev IsOther : List ℕ → ℕ → List Term → Type 0
IsOther columns c ts = EachColumn (λ n. ¬ (c ≡ column_in columns n)) ts

-- names with the property have different columns
abbrev pub AreApart : (ℕ → Type 0) → List ℕ → Type 0
AreApart Q columns = (n m : ℕ) → Q n → Q m → column_in columns n ≡ column_in columns m → n ≡ m

others : (Q : ℕ → Type 0) (columns : List ℕ) (n : ℕ) (ts : List Term) → AreApart Q columns → Q n → EachColumn Q ts → EachColumn (λ m. n < m) ts → IsOther columns (column_in columns n) ts
others Q columns n [] d q h l = tt
others Q columns n (t ∷ ts) d q h l = (λ e. let k : n ≡ t.column = d n t.column q h.0 e in let i : n < t.column = l.0 in omega arith, others Q columns n ts d q h.1 l.1)

terms_onto : (Q : ℕ → Type 0) (columns : List ℕ) (us ts : List Term) → AreApart Q columns → EachColumn Q ts → AreTerms ts → AreTerms us → EachColumn (λ c. IsOther columns c ts) us → AreTerms (moved_onto columns us ts)
terms_onto Q columns us [] d q h i o = i
terms_onto Q columns us (t ∷ ts) d q h i o =
    terms_onto Q columns (inserted (on_column columns t) us) ts d q.1 h.2
    (terms_inserted (on_column columns t) us h.0 (each_more (λ c. IsOther columns c (t ∷ ts)) (λ c. ¬ (c ≡ column_in columns t.column)) us (λ c p. p.0) o) i)
    (each_inserted (λ c. IsOther columns c ts) (on_column columns t) us (others Q columns t.column ts d q.0 q.1 h.1) (each_more (λ c. IsOther columns c (t ∷ ts)) (λ c. IsOther columns c ts) us (λ c p. p.1) o))

pub moved_terms : (Q : ℕ → Type 0) (columns : List ℕ) (f : Affine) → AreApart Q columns → EachColumn Q f.terms → AreTerms f.terms → AreTerms (moved columns f).terms
moved_terms Q columns f d q h = terms_onto Q columns [] f.terms d q h tt tt
