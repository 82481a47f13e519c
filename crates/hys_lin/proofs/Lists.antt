-- Terms behind terms: their columns, their order and their sum.
use Rattle.std.specs.Prelude.{◌≡◌, ℕ, ◌<◌, ◌≤◌, List, [], ◌∷◌, ◌++◌}
use Rattle.std.proofs.Common.{refl, sym, arith}
use Rattle.hys_number.specs.Ops.{◌+ₙ◌, ◌*ₙ◌}
use Rattle.hys_number.proofs.Field.{add_assoc}
use Rattle.hys_number.proofs.Ring.{by_ring, v, k, ◌⊕◌}
use Rattle.hys_lin.specs.declared.form.Term.{Term}
use Rattle.hys_lin.specs.Sums.{Assignment, sum_of, AreTerms, EachColumn}

pub each-append : (P : ℕ → Type 0) (xs ys : List Term) → EachColumn P xs → EachColumn P ys → EachColumn P (xs ++ ys)
each-append P [] ys h i = i
each-append P (t ∷ ts) ys h i = (h.0, each-append P ts ys h.1 i)

pub each_more : (P Q : ℕ → Type 0) (xs : List Term) → ((c : ℕ) → P c → Q c) → EachColumn P xs → EachColumn Q xs
each_more P Q [] f h = tt
each_more P Q (t ∷ ts) f h = (f t.column h.0, each_more P Q ts f h.1)

-- terms below a column before terms from it on
pub terms-append : (c : ℕ) (xs ys : List Term) → AreTerms xs → AreTerms ys → EachColumn (λ d. d < c) xs → EachColumn (λ d. c ≤ d) ys → AreTerms (xs ++ ys)
terms-append c [] ys h i l m = i
terms-append c (t ∷ ts) ys h i l m =
    (h.0, each-append (λ d. t.column < d) ts ys h.1 (each_more (λ d. c ≤ d) (λ d. t.column < d) ys (λ d q. let p : t.column < c = l.0 in omega arith) m), terms-append c ts ys h.2 i l.1 m)

pub sum-append : (xs ys : List Term) (w : Assignment) → sum_of (xs ++ ys) w ≡ sum_of xs w +ₙ sum_of ys w
sum-append [] ys w = by_ring (sum_of ys w ∷ []) (v 0) (k 0 ⊕ v 0) refl
sum-append (t ∷ ts) ys w = rw (sum-append ts ys w) (sym (add_assoc (t.factor *ₙ w t.column) (sum_of ts w) (sum_of ys w)))
