-- Lists of terms of small rows.
use Rattle.std.specs.Prelude.{◌≡◌, ℕ, ◌+◌, ◌<◌, ◌≤◌, List, [], ◌∷◌, ◌++◌, length, Bool, true, false}
use Rattle.std.proofs.Common.{refl, sym, ◌∙◌, ap, ap₂, arith, subst}
use Rattle.hys_number.specs.Number.{Number}
use Rattle.hys_number.specs.Ops.{◌+ₙ◌, ◌*ₙ◌, whole}
use Rattle.hys_number.proofs.Field.{add_zero, neg_neg}
use Rattle.hys_number.proofs.Ring.{by_ring, v, k, minus, ◌⊕◌, ◌⊗◌, ◌⊖◌}
use Rattle.hys_number.proofs.Signs.{neg_is_zero, whole-same}
use Rattle.hys_lin.specs.declared.form.Term.{Term}
use Rattle.hys_lin.specs.declared.form.Affine.{Affine}
use Rattle.hys_lin.specs.Bits.{bit}
use Rattle.hys_lin.specs.Sums.{Assignment, sum_of, value, AreTerms, EachColumn}
use Rattle.hys_lin.proofs.Lists.{each-append, each_more, terms-append, sum-append}
use Rattle.hys_logic.specs.declared.literal.Literal.{Literal}
use Rattle.hys_logic.specs.declared.literal.Literal.TheVariants.{Fixed, Column}
use Rattle.hys_logic.specs.declared.row.Sign.{Sign}
use Rattle.hys_logic.specs.declared.row.Sign.TheVariants.{Plus, Minus}
use Rattle.hys_logic.specs.Literals.{column_part, constant_part, number_of, part_by, LiteralBelow}
use Rattle.hys_logic.specs.Rows.{signed, turned, own_terms, IsSum, AreOf}

-- ---- factors that aren't 0
whole_zero : (n : ℕ) → 0 < n → ¬ (whole n ≡ whole 0)
whole_zero n l e = absurd (omega (arith, (whole-same n 0).0 e))

pub signed_zero : (s : Sign) (n : ℕ) → 0 < n → ¬ (signed s (whole n) ≡ whole 0)
signed_zero Plus n l e = whole_zero n l e
signed_zero Minus n l e = whole_zero n l (neg_is_zero (whole n) e)

pub signed-one : (s : Sign) (x : Number) → signed s (whole 1) *ₙ x ≡ signed s x
signed-one Plus x = by_ring (x ∷ []) (k 1 ⊗ v 0) (v 0) refl
signed-one Minus x = by_ring (x ∷ []) (minus (k 1) ⊗ v 0) (minus (v 0)) refl

signed-two : (s : Sign) (x : Number) → signed s (whole 2) *ₙ x ≡ signed s x +ₙ signed s x
signed-two Plus x = by_ring (x ∷ []) (k 2 ⊗ v 0) (v 0 ⊕ v 0) refl
signed-two Minus x = by_ring (x ∷ []) (minus (k 2) ⊗ v 0) (minus (v 0) ⊕ minus (v 0)) refl

-- ---- the terms of two columns
pub rising_sum : (a : ℕ) (s : Sign) (b : ℕ) (t : Sign) (ts : List Term) → a < b → ts ≡ record { column = a; factor = signed s (whole 1) } ∷ record { column = b; factor = signed t (whole 1) } ∷ [] → IsSum a s b t ts
rising_sum a s b t ts l e = record {
  terms = rw e (signed_zero s 1 (omega arith), (l, tt), (signed_zero t 1 (omega arith), tt, tt));
  sums = λ w. rw (e, signed-one s (w a), signed-one t (w b)) (by_ring (signed s (w a) ∷ signed t (w b) ∷ []) (v 0 ⊕ (v 1 ⊕ k 0)) (v 0 ⊕ v 1) refl);
  below = λ n p q. rw e (p, (q, tt));
}

pub swapped_sum : (a : ℕ) (s : Sign) (b : ℕ) (t : Sign) (ts : List Term) → IsSum b t a s ts → IsSum a s b t ts
swapped_sum a s b t ts h = record {
  terms = h.terms;
  sums = λ w. h.sums w ∙ by_ring (signed s (w a) ∷ signed t (w b) ∷ []) (v 1 ⊕ v 0) (v 0 ⊕ v 1) refl;
  below = λ n p q. h.below n q p;
}

pub double_sum : (a : ℕ) (s : Sign) (ts : List Term) → ts ≡ record { column = a; factor = signed s (whole 2) } ∷ [] → IsSum a s a s ts
double_sum a s ts e = record {
  terms = rw e (signed_zero s 2 (omega arith), tt, tt);
  sums = λ w. rw (e, signed-two s (w a)) (by_ring (signed s (w a) ∷ []) (v 0 ⊕ v 0 ⊕ k 0) (v 0 ⊕ v 0) refl);
  below = λ n p q. rw e (p, tt);
}

pub gone_sum : (a : ℕ) (ts : List Term) → ts ≡ [] → IsSum a Plus a Minus ts
gone_sum a ts e = record { terms = rw e tt; sums = λ w. rw e (by_ring (w a ∷ []) (k 0) (v 0 ⊖ v 0) refl); below = λ n p q. rw e tt }

pub gone_sum' : (a : ℕ) (ts : List Term) → ts ≡ [] → IsSum a Minus a Plus ts
gone_sum' a ts e = swapped_sum a Minus a Plus ts (gone_sum a ts e)

pub same_sum : (a b : ℕ) (s t : Sign) (ts : List Term) → a ≡ b → IsSum a s a t ts → IsSum a s b t ts
same_sum a b s t ts e h = subst (λ (y : ℕ). IsSum a s y t ts) e h

-- ---- the terms of two literals
pub signed-turned : (s : Sign) (n : Bool) (x : Number) → signed (turned s n) x ≡ signed s (part_by n x)
signed-turned Plus true x = refl
signed-turned Plus false x = refl
signed-turned Minus true x = sym (neg_neg x)
signed-turned Minus false x = refl

pub signed-none : (s : Sign) → signed s (whole 0) ≡ whole 0
signed-none Plus = refl
signed-none Minus = by_ring [] (minus (k 0)) (k 0) refl

pub no_literals : (s : Sign) (b : Bool) (t : Sign) (c : Bool) (ts : List Term) → ts ≡ [] → AreOf s (Fixed b) t (Fixed c) ts
no_literals s b t c ts e = record { terms = rw e tt; sums = λ w. rw (e, signed-none s, signed-none t) (by_ring [] (k 0) (k 0 ⊕ k 0) refl); below = λ n p q. rw e tt }

pub left_literal : (s : Sign) (a : ℕ) (n : Bool) (t : Sign) (c : Bool) (ts : List Term) → ts ≡ record { column = a; factor = signed (turned s n) (whole 1) } ∷ [] → AreOf s (Column a n) t (Fixed c) ts
left_literal s a n t c ts e = record {
  terms = rw e (signed_zero (turned s n) 1 (omega arith), tt, tt);
  sums = λ w. rw (e, signed-one (turned s n) (w a), signed-turned s n (w a), signed-none t) (by_ring (signed s (part_by n (w a)) ∷ []) (v 0 ⊕ k 0) (v 0 ⊕ k 0) refl);
  below = λ m p q. rw e (p, tt);
}

pub right_literal : (s : Sign) (c : Bool) (t : Sign) (a : ℕ) (n : Bool) (ts : List Term) → ts ≡ record { column = a; factor = signed (turned t n) (whole 1) } ∷ [] → AreOf s (Fixed c) t (Column a n) ts
right_literal s c t a n ts e = record {
  terms = rw e (signed_zero (turned t n) 1 (omega arith), tt, tt);
  sums = λ w. rw (e, signed-one (turned t n) (w a), signed-turned t n (w a), signed-none s) (by_ring (signed t (part_by n (w a)) ∷ []) (v 0 ⊕ k 0) (k 0 ⊕ v 0) refl);
  below = λ m p q. rw e (q, tt);
}

pub both_literals : (s : Sign) (a : ℕ) (n : Bool) (t : Sign) (b : ℕ) (m : Bool) (ts : List Term) → IsSum a (turned s n) b (turned t m) ts → AreOf s (Column a n) t (Column b m) ts
both_literals s a n t b m ts h = record { terms = h.terms; sums = λ w. h.sums w ∙ ap₂ ◌+ₙ◌ (signed-turned s n (w a)) (signed-turned t m (w b)); below = h.below }

-- ---- a row: literals' terms and a column above them
pub terms_pushed : (xs : List Term) (t : Term) → AreTerms xs → EachColumn (λ d. d < t.column) xs → ¬ (t.factor ≡ whole 0) → AreTerms (xs ++ t ∷ [])
terms_pushed xs t h l n = terms-append t.column xs (t ∷ []) h (n, tt, tt) l (omega arith, tt)

pub sum_pushed : (xs : List Term) (t : Term) (w : Assignment) → sum_of (xs ++ t ∷ []) w ≡ sum_of xs w +ₙ t.factor *ₙ w t.column
sum_pushed xs t w = sum-append xs (t ∷ []) w ∙ ap (λ y. sum_of xs w +ₙ y) (add_zero (t.factor *ₙ w t.column))

pub own_sum : (xs new : List Term) (s : Sign) (c : ℕ) (w : Assignment) → new ≡ xs ++ record { column = c; factor = signed s (whole 1) } ∷ [] → sum_of new w ≡ sum_of xs w +ₙ signed s (w c)
own_sum xs new s c w e = rw e (sum_pushed xs (record { column = c; factor = signed s (whole 1) }) w ∙ ap (λ y. sum_of xs w +ₙ y) (signed-one s (w c)))

pub pushed_below : (xs : List Term) (t : Term) (n : ℕ) → EachColumn (λ d. d < t.column) xs → t.column < n → EachColumn (λ d. d < n) (xs ++ t ∷ [])
pushed_below xs t n h l = each-append (λ d. d < n) xs (t ∷ []) (each_more (λ d. d < t.column) (λ d. d < n) xs (λ d p. omega arith) h) (l, tt)

-- ---- a literal as a form
pub own_value : (l : Literal) (f : Affine) (w : Assignment) → f.terms ≡ own_terms l → f.constant ≡ constant_part l → value f w ≡ number_of l w
unfolding value
own_value (Fixed b) f w e h = rw (e, h) refl
own_value (Column c n) f w e h = rw (e, h, signed-one (turned Plus n) (w c), signed-turned Plus n (w c)) (by_ring (part_by n (w c) ∷ bit n ∷ []) (v 0 ⊕ k 0 ⊕ v 1) (v 0 ⊕ v 1) refl)

pub own_sorted : (l : Literal) → AreTerms (own_terms l) × (length (own_terms l) ≤ 1)
own_sorted (Fixed b) = (tt, omega arith)
own_sorted (Column c n) = ((signed_zero (turned Plus n) 1 (omega arith), tt, tt), omega arith)

-- ---- the whole row
pub row_terms : (xs new : List Term) (s : Sign) (a : Literal) (t : Sign) (b : Literal) (u : Sign) (c : ℕ) (own : Term) → AreOf s a t b xs → LiteralBelow c a → LiteralBelow c b →
    own ≡ record { column = c; factor = signed u (whole 1) } → new ≡ xs ++ own ∷ [] → AreTerms new
row_terms xs new s a t b u c own h p q o e = rw (e, o) (terms_pushed xs (record { column = c; factor = signed u (whole 1) }) h.terms (h.below c p q) (signed_zero u 1 (omega arith)))

pub row_sums : (xs new : List Term) (s : Sign) (a : Literal) (t : Sign) (b : Literal) (u : Sign) (c : ℕ) (own : Term) → AreOf s a t b xs →
    own ≡ record { column = c; factor = signed u (whole 1) } → new ≡ xs ++ own ∷ [] → (w : Assignment) → sum_of new w ≡ signed s (column_part a w) +ₙ signed t (column_part b w) +ₙ signed u (w c)
row_sums xs new s a t b u c own h o e w = own_sum xs new u c w (e ∙ ap (λ y. xs ++ y ∷ []) o) ∙ ap (λ y. y +ₙ signed u (w c)) (h.sums w)

pub row_below : (xs new : List Term) (s : Sign) (a : Literal) (t : Sign) (b : Literal) (u : Sign) (c : ℕ) (own : Term) → AreOf s a t b xs → LiteralBelow c a → LiteralBelow c b →
    own ≡ record { column = c; factor = signed u (whole 1) } → new ≡ xs ++ own ∷ [] → EachColumn (λ d. d < c + 1) new
row_below xs new s a t b u c own h p q o e = rw (e, o) (pushed_below xs (record { column = c; factor = signed u (whole 1) }) (c + 1) (h.below c p q) (omega arith))
