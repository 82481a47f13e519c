-- Forms with their terms alone.
use Rattle.std.proofs.Common.{◌≡◌, ℕ, zero, suc, ◌+◌, ◌<◌, ◌≤◌, List, [], ◌∷◌, ◌++◌, map, length, drop, get_or, refl, sym, ◌∙◌, ap, append_assoc, append-nil, ℤ, pos, negsuc, arith, add-one}
use Rattle.std.proofs.lemmas.List.{drop_all, length-map}
use Rattle.hys_number.specs.Number.{Number}
use Rattle.hys_number.specs.Ops.{whole}
use Rattle.hys_number.proofs.Inverse.{zero_num}
use Rattle.hys_lin.specs.declared.form.Term.{Term}
use Rattle.hys_lin.specs.declared.lost.Op.TheVariants as operation
use Rattle.hys_lin.specs.Sums.{AreTerms, EachColumn}
use Rattle.hys_lin.specs.Scaled.{coefficient, kept, kept_by}
use Rattle.hys_lin.proofs.Lists.{each_more}
use Rattle.hys_ast.specs.declared.tree.BinaryOp.TheVariants as binary
use Rattle.hys_meaning.specs.Names.{Name}
use Rattle.hys_meaning.specs.Forms.{Form, combined}
use Rattle.hys_type.specs.Dense.{IsDense, folded_form}
use Rattle.hys_type.specs.Translation.{HaveFactors, IsFormOf}
use Rattle.hys_type.specs.Built.{sparse, sparse_from}
use Rattle.hys_type.specs.declared.dense.Dense.{Dense}
use Rattle.hys_type.proofs.Walks.{drop_here}
use Rattle.hys_type.proofs.Operators.{folded_is}
use Rattle.hys_type.proofs.FormPlaces.{own_column, other_column}

-- ---- a term
-- by the numerator of the factor
data Kept (k : ℕ) (a : Number) : Type 0 where
  none : kept k a ≡ [] → a ≡ whole 0 → Kept k a
  one : kept k a ≡ record { column = k; factor = a } ∷ [] → ¬ (a ≡ whole 0) → Kept k a

kept_case : (k : ℕ) (a : Number) → Kept k a
kept_case k a = go a.num refl
  where
    some : (z : ℤ) → (z ≡ pos 0 → ⊥) → a.num ≡ z → ¬ (a ≡ whole 0)
    some z n e h = n (sym e ∙ (zero_num a).1 h)

    go : (z : ℤ) → a.num ≡ z → Kept k a
    go (pos zero) e = none (ap (λ (z : ℤ). kept_by z (record { column = k; factor = a })) e) ((zero_num a).0 e)
    go (pos (suc n)) e = one (ap (λ (z : ℤ). kept_by z (record { column = k; factor = a })) e) (some (pos (suc n)) (λ h. absurd (cc)) e)
    go (negsuc n) e = one (ap (λ (z : ℤ). kept_by z (record { column = k; factor = a })) e) (some (negsuc n) (λ h. absurd (cc)) e)

-- ---- terms
above : (k : ℕ) (xs : List Number) → EachColumn (λ c. k ≤ c) (sparse_from k xs)
above k [] = tt
above k (x ∷ xs) = go (kept_case k x) (each_more (λ c. suc k ≤ c) (λ c. k ≤ c) (sparse_from (suc k) xs) (λ c h. omega (arith, h)) (above (suc k) xs))
  where
    go : Kept k x → EachColumn (λ c. k ≤ c) (sparse_from (suc k) xs) → EachColumn (λ c. k ≤ c) (kept k x ++ sparse_from (suc k) xs)
    go (none e h) w = rw e w
    go (one e h) w = rw e (omega arith, w)

below : (k m : ℕ) (xs : List Number) → k + length xs ≤ m → EachColumn (λ c. c < m) (sparse_from k xs)
below k m [] h = tt
below k m (x ∷ xs) h = go (kept_case k x) (below (suc k) m xs (omega (arith, h)))
  where
    go : Kept k x → EachColumn (λ c. c < m) (sparse_from (suc k) xs) → EachColumn (λ c. c < m) (kept k x ++ sparse_from (suc k) xs)
    go (none e h) w = rw e w
    go (one e i) w = rw e (omega (arith, h), w)

rising : (k : ℕ) (xs : List Number) → AreTerms (sparse_from k xs)
rising k [] = tt
rising k (x ∷ xs) = go (kept_case k x) (rising (suc k) xs) (above (suc k) xs)
  where
    go : Kept k x → AreTerms (sparse_from (suc k) xs) → EachColumn (λ c. suc k ≤ c) (sparse_from (suc k) xs) → AreTerms (kept k x ++ sparse_from (suc k) xs)
    go (none e h) w a = rw e w
    go (one e h) w a = rw e (h, each_more (λ c. suc k ≤ c) (λ c. k < c) (sparse_from (suc k) xs) (λ c h. omega (arith, h)) a, w)

-- ---- factors
pub no_column : (j : ℕ) (ts : List Term) → EachColumn (λ c. ¬ (c ≡ j)) ts → coefficient ts j ≡ whole 0
no_column j [] h = refl
no_column j (t ∷ ts) h = rw (other_column t.column j h.0) (no_column j ts h.1)

behind_term : (k : ℕ) (x : Number) (xs : List Number) (j : ℕ) → suc k ≤ j → coefficient (sparse_from k (x ∷ xs)) j ≡ coefficient (sparse_from (suc k) xs) j
behind_term k x xs j h = go (kept_case k x)
  where
    go : Kept k x → coefficient (kept k x ++ sparse_from (suc k) xs) j ≡ coefficient (sparse_from (suc k) xs) j
    go (none e i) = rw e refl
    go (one e i) = rw (e, other_column k j (λ o. absurd (apart o))) refl
      where
        apart : k ≡ j → ⊥
        apart o = omega (arith, o, h)

first_factor : (k : ℕ) (x : Number) (xs : List Number) → coefficient (sparse_from k (x ∷ xs)) k ≡ x
first_factor k x xs = go (kept_case k x)
  where
    go : Kept k x → coefficient (kept k x ++ sparse_from (suc k) xs) k ≡ x
    go (none e i) = rw e (no_column k (sparse_from (suc k) xs) (each_more (λ c. suc k ≤ c) (λ c. ¬ (c ≡ k)) (sparse_from (suc k) xs) (λ c h o. omega (arith, h, o)) (above (suc k) xs)) ∙ sym i)
    go (one e i) = rw (e, own_column k) refl

-- the terms of a list of numbers have these as factors, as do others that agree from the place on
factors_of : (k : ℕ) (ns : List Name) (g : Form) (ts : List Term) → ((j : ℕ) → k ≤ j → coefficient ts j ≡ coefficient (sparse_from k (map (λ (n : Name). g.factor n.text) ns)) j) → HaveFactors k ns g ts
factors_of k [] g ts h = tt
factors_of k (n ∷ ns) g ts h =
    let xs : List Number = map (λ (n : Name). g.factor n.text) ns in
    (h k (omega arith) ∙ first_factor k (g.factor n.text) xs, factors_of (suc k) ns g ts (λ j l. h j (omega (arith, l)) ∙ behind_term k (g.factor n.text) xs j l))

pub sparse_is : (ns : List Name) (g : Form) (d : Dense) → IsDense ns g d → IsFormOf ns g (sparse d)
sparse_is ns g d h = record {
  terms = record { rise = rising 0 d.factors; below = below 0 (length ns) d.factors (omega (arith, ap length h.factors ∙ length-map ns (λ (n : Name). g.factor n.text))) };
  factors = factors_of 0 ns g (sparse_from 0 d.factors) (λ j l. ap (λ (xs : List Number). coefficient (sparse_from 0 xs) j) h.factors);
  constant = h.constant;
}

-- ---- differences
pub same_length : (ns : List Name) (f g : Form) (d e : Dense) → IsDense ns f d → IsDense ns g e → length d.factors ≡ length e.factors
same_length ns f g d e h k = ap length h.factors ∙ length-map ns (λ (n : Name). f.factor n.text) ∙ sym (length-map ns (λ (n : Name). g.factor n.text)) ∙ sym (ap length k.factors)

pub difference_is : (ns : List Name) (f g : Form) (d e : Dense) → IsDense ns f d → IsDense ns g e → IsDense ns (combined binary.Sub f g) (folded_form operation.Sub d e)
difference_is ns f g d e h k = folded_is operation.Sub ns f g (combined binary.Sub f g) d e h k refl refl

-- ---- the loop
pub sparse_here : (xs : List Number) (i : ℕ) (x : Number) (out more : List Term) → i < length xs → x ≡ get_or xs i x → more ≡ out ++ kept i x →
    out ++ sparse_from i (drop i xs) ≡ sparse_from 0 xs → more ++ sparse_from (i + 1) (drop (i + 1) xs) ≡ sparse_from 0 xs
sparse_here xs i x out more h e m w =
    ap (λ ts. ts ++ sparse_from (i + 1) (drop (i + 1) xs)) m ∙ append_assoc out (kept i x) (sparse_from (i + 1) (drop (i + 1) xs))
    ∙ ap (λ ts. out ++ ts) (ap (λ (j : ℕ). kept i x ++ sparse_from j (drop (i + 1) xs)) (add-one i) ∙ sym (ap (sparse_from i) (drop_here xs i x h e))) ∙ w

pub sparse_end : (xs : List Number) (i : ℕ) (out : List Term) → length xs ≤ i → out ++ sparse_from i (drop i xs) ≡ sparse_from 0 xs → out ≡ sparse_from 0 xs
sparse_end xs i out h w = sym (append-nil out) ∙ ap (λ ys. out ++ sparse_from i ys) (sym (drop_all i xs h)) ∙ w
