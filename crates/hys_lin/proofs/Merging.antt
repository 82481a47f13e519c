use Rattle.std.proofs.Common.{◌≡◌, ℕ, ◌<◌, List, [], ◌∷◌, ◌++◌, Option, Some, None, refl, sym, ap, ap₂, subst, ◌∙◌, arith, append_assoc, append-nil, Bool, true, false, cond, Ordering, Less, Equal, Greater, ◌⊎◌, inl, inr}
use Rattle.std.specs.Ordering.{nat_cmp, MatchOrdering}
use Rattle.std.specs.Cmp.{ranks}
use Rattle.hys_number.specs.Number.{Number}
use Rattle.hys_number.specs.Ops.{◌+ₙ◌, ◌*ₙ◌, whole, fits}
use Rattle.hys_number.proofs.Bools.{eq_true, eq_false}
use Rattle.hys_number.proofs.Cancel.{zero_add}
use Rattle.hys_number.proofs.Ring.{by_ring, v, k, ◌⊕◌, ◌⊗◌}
use Rattle.hys_lin.specs.declared.form.Term.{Term}
use Rattle.hys_lin.specs.declared.form.Affine.{Affine}
use Rattle.hys_lin.specs.declared.lost.Lost.{Lost}
use Rattle.hys_lin.specs.Sums.{Assignment, sum_of, value, EachColumn, AreTerms}
use Rattle.hys_lin.specs.Operations.{first_lost, times, plus}
use Rattle.hys_lin.specs.Scaled.{coefficient, scaling, adding, scaled, taken, taking, by_order, merging, merged}
use Rattle.hys_lin.proofs.Summing.{lost_after}
use Rattle.hys_lin.proofs.Lists.{each_more}
use Rattle.hys_lin.proofs.Multiples.{sum_kept, each_kept, are_kept, sum-scaled, each-scaled, are-scaled}

-- two lists lose first what their rests do
pub record SameLoss (left : List Term) (by : Number) (right xs bs : List Term) : Type 0 where
  pub lost : first_lost (adding left by right) ≡ first_lost (adding xs by bs)
  pub left_terms : AreTerms xs
  pub right_terms : AreTerms bs

-- ---- the value
sum-taken : (o : Ordering) (a b : Term) (by : Number) (rest : List Term) (f : Assignment) → MatchOrdering o (a.column < b.column) (a.column ≡ b.column) (b.column < a.column) → sum_of (taken o a by b ++ rest) f ≡
    sum_of (by_order o (a ∷ []) (a ∷ []) []) f +ₙ by *ₙ sum_of (by_order o [] (b ∷ []) (b ∷ [])) f +ₙ sum_of rest f
sum-taken Less a b by rest f h = by_ring (a.factor ∷ f a.column ∷ by ∷ sum_of rest f ∷ []) (v 0 ⊗ v 1 ⊕ v 3) (v 0 ⊗ v 1 ⊕ k 0 ⊕ v 2 ⊗ k 0 ⊕ v 3) refl
sum-taken Equal a b by rest f h = sum_kept a.column (a.factor +ₙ by *ₙ b.factor) rest f
    ∙ by_ring (a.factor ∷ f a.column ∷ by ∷ b.factor ∷ sum_of rest f ∷ []) ((v 0 ⊕ v 2 ⊗ v 3) ⊗ v 1 ⊕ v 4) (v 0 ⊗ v 1 ⊕ k 0 ⊕ v 2 ⊗ (v 3 ⊗ v 1 ⊕ k 0) ⊕ v 4) refl
    ∙ ap (λ (c : ℕ). a.factor *ₙ f a.column +ₙ whole 0 +ₙ by *ₙ (b.factor *ₙ f c +ₙ whole 0) +ₙ sum_of rest f) h
sum-taken Greater a b by rest f h = sum_kept b.column (by *ₙ b.factor) rest f
    ∙ by_ring (b.factor ∷ f b.column ∷ by ∷ sum_of rest f ∷ []) (v 2 ⊗ v 0 ⊗ v 1 ⊕ v 3) (k 0 ⊕ v 2 ⊗ (v 0 ⊗ v 1 ⊕ k 0) ⊕ v 3) refl

sum-merging : (a : Term) (xs : List Term) (rest : List Term → List Term) (by : Number) (f : Assignment) → ((bs : List Term) → sum_of (rest bs) f ≡ sum_of xs f +ₙ by *ₙ sum_of bs f) →
    (bs : List Term) → sum_of (merging a xs rest by bs) f ≡ sum_of (a ∷ xs) f +ₙ by *ₙ sum_of bs f
sum-merging a xs rest by f h [] = by_ring (sum_of (a ∷ xs) f ∷ by ∷ []) (v 0) (v 0 ⊕ v 1 ⊗ k 0) refl
sum-merging a xs rest by f h (b ∷ bs) = go (nat_cmp a.column b.column) (ranks a.column b.column) (merging a xs rest by bs) (sum-merging a xs rest by f h bs)
  where
    go : (o : Ordering) → MatchOrdering o (a.column < b.column) (a.column ≡ b.column) (b.column < a.column) → (more : List Term) → sum_of more f ≡ sum_of (a ∷ xs) f +ₙ by *ₙ sum_of bs f →
        sum_of (taken o a by b ++ by_order o (rest (b ∷ bs)) (rest bs) more) f ≡ sum_of (a ∷ xs) f +ₙ by *ₙ sum_of (b ∷ bs) f
    go Less m more e = sum-taken Less a b by (rest (b ∷ bs)) f m ∙ ap (λ (x : Number). a.factor *ₙ f a.column +ₙ whole 0 +ₙ by *ₙ whole 0 +ₙ x) (h (b ∷ bs))
        ∙ by_ring ((a.factor *ₙ f a.column) ∷ by ∷ sum_of xs f ∷ sum_of (b ∷ bs) f ∷ []) (v 0 ⊕ k 0 ⊕ v 1 ⊗ k 0 ⊕ (v 2 ⊕ v 1 ⊗ v 3)) (v 0 ⊕ v 2 ⊕ v 1 ⊗ v 3) refl
    go Equal m more e = sum-taken Equal a b by (rest bs) f m ∙ ap (λ (x : Number). a.factor *ₙ f a.column +ₙ whole 0 +ₙ by *ₙ (b.factor *ₙ f b.column +ₙ whole 0) +ₙ x) (h bs)
        ∙ by_ring ((a.factor *ₙ f a.column) ∷ by ∷ sum_of xs f ∷ sum_of bs f ∷ (b.factor *ₙ f b.column) ∷ []) (v 0 ⊕ k 0 ⊕ v 1 ⊗ (v 4 ⊕ k 0) ⊕ (v 2 ⊕ v 1 ⊗ v 3)) (v 0 ⊕ v 2 ⊕ v 1 ⊗ (v 4 ⊕ v 3)) refl
    go Greater m more e = sum-taken Greater a b by more f m ∙ ap (λ (x : Number). whole 0 +ₙ by *ₙ (b.factor *ₙ f b.column +ₙ whole 0) +ₙ x) e
        ∙ by_ring (sum_of (a ∷ xs) f ∷ by ∷ sum_of bs f ∷ (b.factor *ₙ f b.column) ∷ []) (k 0 ⊕ v 1 ⊗ (v 3 ⊕ k 0) ⊕ (v 0 ⊕ v 1 ⊗ v 2)) (v 0 ⊕ v 1 ⊗ (v 3 ⊕ v 2)) refl

pub sum-merged : (xs : List Term) (by : Number) (bs : List Term) (f : Assignment) → sum_of (merged xs by bs) f ≡ sum_of xs f +ₙ by *ₙ sum_of bs f
sum-merged [] by bs f = sum-scaled by bs f ∙ sym (zero_add (by *ₙ sum_of bs f))
sum-merged (a ∷ xs) by bs f = sum-merging a xs (merged xs by) by f (λ ys. sum-merged xs by ys f) bs

pub merged_value : (by : Number) (f g r : Affine) (w : Assignment) → r.terms ≡ merged f.terms by g.terms → r.constant ≡ f.constant +ₙ by *ₙ g.constant → value r w ≡ value f w +ₙ by *ₙ value g w
unfolding value
merged_value by f g r w e i = ap₂ (λ (ts : List Term) (a : Number). sum_of ts w +ₙ a) e i ∙ ap (λ (x : Number). x +ₙ (f.constant +ₙ by *ₙ g.constant)) (sum-merged f.terms by g.terms w)
    ∙ by_ring (sum_of f.terms w ∷ by ∷ sum_of g.terms w ∷ f.constant ∷ g.constant ∷ []) (v 0 ⊕ v 1 ⊗ v 2 ⊕ (v 3 ⊕ v 1 ⊗ v 4)) (v 0 ⊕ v 3 ⊕ v 1 ⊗ (v 2 ⊕ v 4)) refl

-- ---- the terms rise
each-merging : (P : ℕ → Type 0) (a : Term) (xs : List Term) (rest : List Term → List Term) (by : Number) → P a.column → EachColumn P xs → ((bs : List Term) → EachColumn P bs → EachColumn P (rest bs)) →
    (bs : List Term) → EachColumn P bs → EachColumn P (merging a xs rest by bs)
each-merging P a xs rest by p r h [] q = (p, r)
each-merging P a xs rest by p r h (b ∷ bs) q = go (nat_cmp a.column b.column) (merging a xs rest by bs) (each-merging P a xs rest by p r h bs q.1)
  where
    go : (o : Ordering) (more : List Term) → EachColumn P more → EachColumn P (taken o a by b ++ by_order o (rest (b ∷ bs)) (rest bs) more)
    go Less more e = (p, h (b ∷ bs) q)
    go Equal more e = each_kept P a.column (a.factor +ₙ by *ₙ b.factor) (rest bs) p (h bs q.1)
    go Greater more e = each_kept P b.column (by *ₙ b.factor) more q.0 e

each-merged : (P : ℕ → Type 0) (xs : List Term) (by : Number) (bs : List Term) → EachColumn P xs → EachColumn P bs → EachColumn P (merged xs by bs)
each-merged P [] by bs h q = each-scaled P by bs q
each-merged P (a ∷ xs) by bs h q = each-merging P a xs (merged xs by) by h.0 h.1 (λ ys i. each-merged P xs by ys h.1 i) bs q

are-merging : (a : Term) (xs : List Term) (by : Number) → AreTerms (a ∷ xs) → ((bs : List Term) → AreTerms bs → AreTerms (merged xs by bs)) → (bs : List Term) → AreTerms bs → AreTerms (merging a xs (merged xs by) by bs)
are-merging a xs by p h [] q = p
are-merging a xs by p h (b ∷ bs) q = go (nat_cmp a.column b.column) (ranks a.column b.column) (merging a xs (merged xs by) by bs) (are-merging a xs by p h bs q.2)
    (λ l. each-merging (λ d. b.column < d) a xs (merged xs by) by l (each_more _ _ xs (λ c i. omega arith) p.1) (λ ys i. each-merged (λ d. b.column < d) xs by ys (each_more _ _ xs (λ c i. omega arith) p.1) i) bs q.1)
  where
    go : (o : Ordering) → MatchOrdering o (a.column < b.column) (a.column ≡ b.column) (b.column < a.column) → (more : List Term) → AreTerms more → (b.column < a.column → EachColumn (λ d. b.column < d) more) →
        AreTerms (taken o a by b ++ by_order o (merged xs by (b ∷ bs)) (merged xs by bs) more)
    go Less m more e l = (p.0, each-merged (λ d. a.column < d) xs by (b ∷ bs) p.1 (m, each_more (λ d. b.column < d) (λ d. a.column < d) bs (λ c i. omega arith) q.1), h (b ∷ bs) q)
    go Equal m more e l = are_kept a.column (a.factor +ₙ by *ₙ b.factor) (merged xs by bs) (each-merged (λ d. a.column < d) xs by bs p.1 (each_more (λ d. b.column < d) (λ d. a.column < d) bs (λ c i. omega arith) q.1)) (h bs q.2)
    go Greater m more e l = are_kept b.column (by *ₙ b.factor) more (l m) e

pub are-merged : (xs : List Term) (by : Number) (bs : List Term) → AreTerms xs → AreTerms bs → AreTerms (merged xs by bs)
are-merged [] by bs h q = are-scaled by bs q
are-merged (a ∷ xs) by bs h q = are-merging a xs by h (λ ys i. are-merged xs by ys h.2 i) bs q

-- ---- the steps of the merge
pub merged_at : (o : Ordering) (a : Term) (xs : List Term) (by : Number) (b : Term) (ys : List Term) → o ≡ nat_cmp a.column b.column →
    merged (a ∷ xs) by (b ∷ ys) ≡ taken (nat_cmp a.column b.column) a by b ++ by_order o (merged xs by (b ∷ ys)) (merged xs by ys) (merged (a ∷ xs) by ys)
merged_at o a xs by b ys e = ap (λ (q : Ordering). taken (nat_cmp a.column b.column) a by b ++ by_order q (merged xs by (b ∷ ys)) (merged xs by ys) (merged (a ∷ xs) by ys)) (sym e)

pub items_next : (o : Ordering) (a : Term) (xs left : List Term) (by : Number) (b : Term) (ys right was now total : List Term) → left ≡ a ∷ xs → right ≡ b ∷ ys → o ≡ nat_cmp a.column b.column →
    was ++ merged left by right ≡ total → now ≡ was ++ taken (nat_cmp a.column b.column) a by b → now ++ by_order o (merged xs by right) (merged xs by ys) (merged left by ys) ≡ total
items_next o a xs left by b ys right was now total e f i h n =
    rw (e, f, n) (append_assoc was (taken (nat_cmp a.column b.column) a by b) _ ∙ ap (λ (ts : List Term). was ++ ts) (sym (merged_at o a xs by b ys i)) ∙ ap₂ (λ (x y : List Term). was ++ merged x by y) (sym e) (sym f) ∙ h)

-- a column that stands before others has nothing to do with them
coefficient_skip : (a : Term) (xs : List Term) (c : ℕ) → a.column < c → coefficient (a ∷ xs) c ≡ coefficient xs c
coefficient_skip a xs c h = ap (λ (q : Bool). cond q a.factor (coefficient xs c)) (eq_false a.column c (λ e. absurd (omega arith)))

coefficient_here : (a : Term) (xs : List Term) (c : ℕ) → a.column ≡ c → coefficient (a ∷ xs) c ≡ a.factor
coefficient_here a xs c h = ap (λ (q : Bool). cond q a.factor (coefficient xs c)) (eq_true a.column c h)

coefficient_none : (ts : List Term) (c : ℕ) → EachColumn (λ d. c < d) ts → coefficient ts c ≡ whole 0
coefficient_none [] c h = refl
coefficient_none (t ∷ ts) c h = ap (λ (q : Bool). cond q t.factor (coefficient ts c)) (eq_false t.column c (λ e. absurd (omega (arith, h.0)))) ∙ coefficient_none ts c h.1

adding_skip : (a : Term) (xs : List Term) (by : Number) (ts : List Term) → EachColumn (λ d. a.column < d) ts → adding (a ∷ xs) by ts ≡ adding xs by ts
adding_skip a xs by [] h = refl
adding_skip a xs by (t ∷ ts) h = ap₂ (λ (x : Number) (os : List Lost). times by t.factor ∷ plus x (by *ₙ t.factor) ∷ os) (coefficient_skip a xs t.column h.0) (adding_skip a xs by ts h.1)

-- a sum with 0 fits where its product does
product_alone : (by f : Number) (os : List Lost) → first_lost (times by f ∷ plus (whole 0) (by *ₙ f) ∷ os) ≡ first_lost (times by f ∷ os)
product_alone by f os = ap (λ (x : Number). cond (fits (by *ₙ f)) (cond (fits x) (first_lost os) (Some (plus (whole 0) (by *ₙ f)))) (Some (times by f))) (zero_add (by *ₙ f)) ∙ twice (fits (by *ₙ f)) (first_lost os) (Some (plus (whole 0) (by *ₙ f))) (Some (times by f))
  where
    twice : (q : Bool) (x y z : Option Lost) → cond q (cond q x y) z ≡ cond q x z
    twice true x y z = refl
    twice false x y z = refl

pub adding_none : (by : Number) (ts : List Term) → first_lost (adding [] by ts) ≡ first_lost (scaling by ts)
adding_none by [] = refl
adding_none by (t ∷ ts) = product_alone by t.factor (adding [] by ts) ∙ ap (λ (x : Option Lost). cond (fits (by *ₙ t.factor)) x (Some (times by t.factor))) (adding_none by ts)

module _ (a : Term) (xs : List Term) (by : Number) (b : Term) (ys : List Term) (p : AreTerms (a ∷ xs)) (q : AreTerms (b ∷ ys)) where
  at_equal : a.column ≡ b.column → first_lost (adding (a ∷ xs) by (b ∷ ys)) ≡ first_lost (taking Equal a by b ++ adding xs by ys)
  at_equal m = ap₂ (λ (x : Number) (os : List Lost). first_lost (times by b.factor ∷ plus x (by *ₙ b.factor) ∷ os)) (coefficient_here a xs b.column m) (adding_skip a xs by ys (each_more (λ d. b.column < d) (λ d. a.column < d) ys (λ c i. omega arith) q.1))

  at_greater : b.column < a.column → first_lost (adding (a ∷ xs) by (b ∷ ys)) ≡ first_lost (taking Greater a by b ++ adding (a ∷ xs) by ys)
  at_greater m = ap (λ (x : Number). first_lost (times by b.factor ∷ plus x (by *ₙ b.factor) ∷ adding (a ∷ xs) by ys)) (coefficient_none (a ∷ xs) b.column (m, each_more (λ d. a.column < d) (λ d. b.column < d) xs (λ c i. omega arith) p.1))
      ∙ product_alone by b.factor (adding (a ∷ xs) by ys)

  adding_next : (o : Ordering) → MatchOrdering o (a.column < b.column) (a.column ≡ b.column) (b.column < a.column) → first_lost (taking o a by b) ≡ None →
      first_lost (adding (a ∷ xs) by (b ∷ ys)) ≡ first_lost (adding (by_order o xs xs (a ∷ xs)) by (by_order o (b ∷ ys) ys ys))
  adding_next Less m e = ap first_lost (adding_skip a xs by (b ∷ ys) (m, each_more (λ d. b.column < d) (λ d. a.column < d) ys (λ c i. omega arith) q.1))
  adding_next Equal m e = at_equal m ∙ lost_after (taking Equal a by b) (adding xs by ys) e
  adding_next Greater m e = at_greater m ∙ lost_after (taking Greater a by b) (adding (a ∷ xs) by ys) e

  terms_next : (o : Ordering) → AreTerms (by_order o xs xs (a ∷ xs)) × AreTerms (by_order o (b ∷ ys) ys ys)
  terms_next Less = (p.2, q)
  terms_next Equal = (p.2, q.2)
  terms_next Greater = (p, q.2)

pub loss_next : (left : List Term) (by : Number) (right : List Term) (o : Ordering) (a : Term) (xs ls : List Term) (b : Term) (ys rs : List Term) → ls ≡ a ∷ xs → rs ≡ b ∷ ys → o ≡ nat_cmp a.column b.column →
    first_lost (taking (nat_cmp a.column b.column) a by b) ≡ None → SameLoss left by right ls rs → SameLoss left by right (by_order o xs xs ls) (by_order o rs ys ys)
loss_next left by right o a xs ls b ys rs e f i n s =
    let p : AreTerms (a ∷ xs) = subst AreTerms e s.left_terms in
    let q : AreTerms (b ∷ ys) = subst AreTerms f s.right_terms in
    rw (e, f) (record {
      lost = s.lost ∙ ap₂ (λ (x y : List Term). first_lost (adding x by y)) e f ∙ adding_next a xs by b ys p q o (subst (λ (z : Ordering). MatchOrdering z (a.column < b.column) (a.column ≡ b.column) (b.column < a.column)) (sym i) (ranks a.column b.column)) (ap (λ (z : Ordering). first_lost (taking z a by b)) i ∙ n);
      left_terms = (terms_next a xs by b ys p q o).0;
      right_terms = (terms_next a xs by b ys p q o).1;
    })

-- ---- where one list is at its end
pub merged_end : (xs : List Term) (by : Number) (ys : List Term) → (xs ≡ []) ⊎ (ys ≡ []) → merged xs by ys ≡ xs ++ scaled by ys
merged_end xs by ys (inl e) = rw e refl
merged_end [] by ys (inr e) = refl
merged_end (x ∷ xs) by ys (inr e) = rw e (sym (append-nil (x ∷ xs)))

pub adding_end : (xs : List Term) (by : Number) (ys : List Term) → (xs ≡ []) ⊎ (ys ≡ []) → first_lost (adding xs by ys) ≡ first_lost (scaling by ys)
adding_end xs by ys (inl e) = rw e (adding_none by ys)
adding_end xs by ys (inr e) = rw e refl
