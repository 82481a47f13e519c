-- The new number of a cell, case by case, and rows and tables while they are written.
use Rattle.std.proofs.Common.{◌≡◌, ◌≢◌, ℕ, ◌+◌, ◌*◌, ◌/◌, ◌<◌, ◌≤◌, ◌&&◌, ◌↔◌, ◌⊎◌, inl, inr, Bool, true, false, IsTrue, IsSome, IfSome, refl, sym, ◌∙◌, ap, ap₂, subst, arith, Option, Some, None, [], ◌∷◌}
use Rattle.std.proofs.lemmas.Nat.{div-mul-add}
use Rattle.hys_number.specs.Number.{Number}
use Rattle.hys_number.specs.Ops.{◌*ₙ◌, ◌-ₙ◌, ◌/ₙ◌, neg, inverse, whole, fits}
use Rattle.hys_number.proofs.Field.{mul_assoc}
use Rattle.hys_number.proofs.Ring.{by_ring, v, k, minus, ◌⊗◌, ◌⊖◌}
use Rattle.hys_relax.proofs.Zeros.{zero_fits}
use Rattle.hys_simplex.specs.Tableau.{pivoted}
use Rattle.hys_simplex.specs.Unfit.{subtracted}
use Rattle.hys_simplex.proofs.Same.{same_yes, same_no}
use Rattle.hys_simplex.proofs.Pivots.{cell_rc, cell_c, cell_other}
use Rattle.hys_tab.specs.Cells.{fits_under, IsOther, row, column}

-- ---- a number less a multiple
pub less_none : (f a d x : Number) → d ≢ whole 0 → (IsSome {T = Number} None ↔ ((d ≢ whole 0) × IsTrue (fits (f *ₙ a /ₙ d)))) →
    (IsSome {T = Number} None ↔ (IsTrue (fits (f *ₙ (a /ₙ d))) × IsTrue (fits x)))
less_none f a d x n h = (λ s. absurd (cc), λ t. h.1 (n, subst (λ z. IsTrue (fits z)) (sym (mul_assoc f a (inverse d))) t.0))

pub less_value : (f a d old p : Number) (o : Option Number) → p ≡ f *ₙ a /ₙ d → IfSome o (λ r. r ≡ old -ₙ p) → IfSome o (λ x. x ≡ old -ₙ f *ₙ (a /ₙ d))
less_value f a d old p o e = subst (λ z. IfSome o (λ x. x ≡ old -ₙ z)) (e ∙ mul_assoc f a (inverse d))

pub less_fits : (f a d old p : Number) (o : Option Number) → p ≡ f *ₙ a /ₙ d → (IsSome (Some p) ↔ ((d ≢ whole 0) × IsTrue (fits (f *ₙ a /ₙ d)))) → (IsSome o ↔ IsTrue (fits (old -ₙ p))) →
    (IsSome o ↔ (IsTrue (fits (f *ₙ (a /ₙ d))) × IsTrue (fits (old -ₙ f *ₙ (a /ₙ d)))))
less_fits f a d old p o e h s =
    let w : p ≡ f *ₙ (a /ₙ d) = e ∙ mul_assoc f a (inverse d) in
    (λ x. (subst (λ z. IsTrue (fits z)) (mul_assoc f a (inverse d)) (h.0 refl).1, subst (λ z. IsTrue (fits (old -ₙ z))) w (s.0 x)), λ t. s.1 (subst (λ z. IsTrue (fits (old -ₙ z))) (sym w) t.1))

-- ---- the cases of a new cell
pub corner_is : (M : ℕ → ℕ → Number) (r c i j : ℕ) (one d : Number) → one ≡ whole 1 → i ≡ r → j ≡ c → d ≡ M r c → one /ₙ d ≡ pivoted M r c i j
corner_is M r c i j one d a e f g = ap₂ (λ y z. y /ₙ z) a g ∙ by_ring (inverse (M r c) ∷ []) (k 1 ⊗ v 0) (v 0) refl ∙ sym (ap₂ (pivoted M r c) e f ∙ cell_rc M r c)

pub corner_value : (M : ℕ → ℕ → Number) (r c i j : ℕ) (one d : Number) (o : Option Number) → one ≡ whole 1 → i ≡ r → j ≡ c → d ≡ M r c → IfSome o (λ x. x ≡ one /ₙ d) → IfSome o (λ x. x ≡ pivoted M r c i j)
corner_value M r c i j one d o a e f g = subst (λ z. IfSome o (λ x. x ≡ z)) (corner_is M r c i j one d a e f g)

-- in the pivot's row or column nothing is subtracted
pub fits_in_row : (M : ℕ → ℕ → Number) (r c i j : ℕ) → i ≡ r → fits_under M r c i j ≡ fits (pivoted M r c i j)
fits_in_row M r c i j e = subst (λ z. fits_under M r c z j ≡ fits (pivoted M r c z j)) (sym e) (rw (same_yes r) refl)

pub fits_in_column : (M : ℕ → ℕ → Number) (r c i j : ℕ) → i ≢ r → j ≡ c → fits_under M r c i j ≡ fits (pivoted M r c i j)
fits_in_column M r c i j d e = subst (λ z. fits_under M r c i z ≡ fits (pivoted M r c i z)) (sym e) (rw (same_no i r (λ q. d (sym q)), same_yes c) refl)

pub fits_apart : (M : ℕ → ℕ → Number) (r c i j : ℕ) → i ≢ r → j ≢ c → fits_under M r c i j ≡ (fits (subtracted M r c i j) && fits (pivoted M r c i j))
fits_apart M r c i j d d' = rw (same_no i r (λ q. d (sym q)), same_no j c (λ q. d' (sym q))) refl

pub corner_fits : (M : ℕ → ℕ → Number) (r c i j : ℕ) (one d : Number) (o : Option Number) → one ≡ whole 1 → i ≡ r → j ≡ c → d ≡ M r c → M r c ≢ whole 0 →
    (IsSome o ↔ ((d ≢ whole 0) × IsTrue (fits (one /ₙ d)))) → (IsSome o ↔ IsTrue (fits_under M r c i j))
corner_fits M r c i j one d o a e f g n h =
    let w : fits (one /ₙ d) ≡ fits_under M r c i j = ap fits (corner_is M r c i j one d a e f g) ∙ sym (fits_in_row M r c i j e) in
    (λ s. sym w ∙ (h.0 s).1, λ t. h.1 (subst (λ z. z ≢ whole 0) (sym g) n, w ∙ t))

neg_some : (p : Number) → p ≢ whole 0 → neg p ≢ whole 0
neg_some p h e = h (by_ring (p ∷ []) (v 0) (minus (minus (v 0))) refl ∙ ap neg e ∙ by_ring [] (minus (k 0)) (k 0) refl)

pub column_fits : (M : ℕ → ℕ → Number) (r c i j : ℕ) (d q old : Number) (o : Option Number) → i ≢ r → j ≡ c → d ≡ M r c → q ≡ neg d → old ≡ M i j → M r c ≢ whole 0 →
    (IsSome o ↔ ((q ≢ whole 0) × IsTrue (fits (old /ₙ q)))) → (IsSome o ↔ IsTrue (fits_under M r c i j))
column_fits M r c i j d q old o e f g m a n h =
    let s : old /ₙ q ≡ pivoted M r c i j = ap₂ (λ x y. x /ₙ y) (a ∙ ap (M i) f) (m ∙ ap neg g) ∙ sym (ap (pivoted M r c i) f ∙ cell_c M r c i e) in
    let w : fits (old /ₙ q) ≡ fits_under M r c i j = ap fits s ∙ sym (fits_in_column M r c i j e f) in
    (λ s. sym w ∙ (h.0 s).1, λ t. h.1 (subst (λ z. z ≢ whole 0) (sym m) (neg_some d (subst (λ z. z ≢ whole 0) (sym g) n)), w ∙ t))

-- a cell stays where the pivot's column has 0 in its row, or the pivot's row in its column
both : (a b : Bool) → a ≡ true → b ≡ true → (a && b) ≡ true
both true true e f = refl
both true false e f = f
both false b e f = e

pub data IsStill (M : ℕ → ℕ → Number) (r c i j : ℕ) : Type 0 where
  still : pivoted M r c i j ≡ M i j → (fits (M i j) ≡ true → fits_under M r c i j ≡ true) → IsStill M r c i j

subtracts_none : (M : ℕ → ℕ → Number) (r c i j : ℕ) → i ≢ r → j ≢ c → subtracted M r c i j ≡ whole 0 → IsStill M r c i j
subtracts_none M r c i j d d' z =
    let e : pivoted M r c i j ≡ M i j = cell_other M r c i j d d' ∙ ap (λ y. M i j -ₙ y) z ∙ by_ring (M i j ∷ []) (v 0 ⊖ k 0) (v 0) refl in
    still e (λ f. fits_apart M r c i j d d' ∙ both _ _ (ap fits z ∙ zero_fits) (ap fits e ∙ f))

pub still_across : (M : ℕ → ℕ → Number) (r c i j : ℕ) → i ≢ r → j ≢ c → M r j ≡ whole 0 → IsStill M r c i j
still_across M r c i j d d' z = subtracts_none M r c i j d d' (ap (λ y. M i c *ₙ (y /ₙ M r c)) z ∙ by_ring (M i c ∷ inverse (M r c) ∷ []) (v 0 ⊗ (k 0 ⊗ v 1)) (k 0) refl)

same_or : (a b : ℕ) → (a ≡ b) ⊎ (a ≢ b)
same_or a b = grind arith

pub still_down : (M : ℕ → ℕ → Number) (r c i j : ℕ) → i ≢ r → M i c ≡ whole 0 → IsStill M r c i j
still_down M r c i j d z = elim (same_or j c) as (λ _. IsStill M r c i j) [
  | inl e ↦ let s : pivoted M r c i j ≡ M i j = ap (pivoted M r c i) e ∙ cell_c M r c i d ∙ ap (λ y. y /ₙ neg (M r c)) z ∙ by_ring (inverse (neg (M r c)) ∷ []) (k 0 ⊗ v 0) (k 0) refl ∙ sym (ap (M i) e ∙ z) in
      still s (λ f. fits_in_column M r c i j d e ∙ ap fits s ∙ f)
  | inr d' ↦ subtracts_none M r c i j d d' (ap (λ y. y *ₙ (M r j /ₙ M r c)) z ∙ by_ring ((M r j /ₙ M r c) ∷ []) (k 0 ⊗ v 0) (k 0) refl)
]

pub across_value : (M : ℕ → ℕ → Number) (r c i j : ℕ) (old across : Number) → i ≢ r → j ≢ c → across ≡ M r j → across ≡ whole 0 → old ≡ M i j → old ≡ pivoted M r c i j
across_value M r c i j old across d d' e z o = elim (still_across M r c i j d d' (sym e ∙ z)) as (λ _. old ≡ pivoted M r c i j) [ still a b ↦ o ∙ sym a ]

pub across_fits : (M : ℕ → ℕ → Number) (r c i j : ℕ) (across : Number) → i ≢ r → j ≢ c → across ≡ M r j → across ≡ whole 0 → fits (M i j) ≡ true → fits_under M r c i j ≡ true
across_fits M r c i j across d d' e z o = elim (still_across M r c i j d d' (sym e ∙ z)) as (λ _. fits_under M r c i j ≡ true) [ still a b ↦ b o ]

pub down_value : (M : ℕ → ℕ → Number) (r c i j : ℕ) (x : Number) → i ≢ r → x ≡ M i c → x ≡ whole 0 → M i j ≡ pivoted M r c i j
down_value M r c i j x d e z = elim (still_down M r c i j d (sym e ∙ z)) as (λ _. M i j ≡ pivoted M r c i j) [ still a b ↦ sym a ]

pub down_fits : (M : ℕ → ℕ → Number) (r c i j : ℕ) (x : Number) → i ≢ r → x ≡ M i c → x ≡ whole 0 → fits (M i j) ≡ true → fits_under M r c i j ≡ true
down_fits M r c i j x d e z o = elim (still_down M r c i j d (sym e ∙ z)) as (λ _. fits_under M r c i j ≡ true) [ still a b ↦ b o ]

-- ---- places of a list of rows
pub far : (i j a b w : ℕ) → j < w → b < w → IsOther i j a b → a * w + b ≡ i * w + j → ⊥
far i j a b w l m d e =
    let q : a ≡ i = sym (div-mul-add a w b m) ∙ ap (λ z. z / w) e ∙ div-mul-add i w j l in
    go d q (ap (λ z. z * w) q)
  where
    go : IsOther i j a b → a ≡ i → a * w ≡ i * w → ⊥
    go (row d) q f = d q
    go (column d) q f = d (omega (arith, e, f))

-- the new number of a cell depends on four cells
pivoted_same : (M N : ℕ → ℕ → Number) (r c i j : ℕ) → M r c ≡ N r c → M i c ≡ N i c → M r j ≡ N r j → M i j ≡ N i j → pivoted M r c i j ≡ pivoted N r c i j
pivoted_same M N r c i j e f g h = rw (e, f, g, h) refl

fits_same : (M N : ℕ → ℕ → Number) (r c i j : ℕ) → M r c ≡ N r c → M i c ≡ N i c → M r j ≡ N r j → M i j ≡ N i j → fits_under M r c i j ≡ fits_under N r c i j
fits_same M N r c i j e f g h = rw (e, f, g, h) refl

-- a row while it is written: the columns before j but c are new, all else is old
pub record IsWritten (M N : ℕ → ℕ → Number) (h w r c i j : ℕ) : Type 0 where
  pub new : (b : ℕ) → b < j → b < w → b ≢ c → N i b ≡ pivoted M r c i b
  pub old : (b : ℕ) → b < w → (j ≤ b) ⊎ (b ≡ c) → N i b ≡ M i b
  pub others : (a b : ℕ) → a < h → b < w → a ≢ i → N a b ≡ M a b

pub row_r : (M N : ℕ → ℕ → Number) (h w r c i j b : ℕ) → IsWritten M N h w r c i j → r < h → b < w → (j ≤ b) ⊎ (b ≡ c) → N r b ≡ M r b
row_r M N h w r c i j b s l m o = elim (same_or r i) as (λ _. N r b ≡ M r b) [
  | inl e ↦ subst (λ z. N z b ≡ M z b) (sym e) (s.old b m o)
  | inr d ↦ s.others r b l m d
]

pub next_new : (M N : ℕ → ℕ → Number) (h w r c i j b : ℕ) → IsWritten M N h w r c i j → r < h → c < w → b < w → (j ≤ b) ⊎ (b ≡ c) →
    (pivoted N r c i b ≡ pivoted M r c i b) × (fits_under N r c i b ≡ fits_under M r c i b)
next_new M N h w r c i j b s lr lc m o =
    let e : N r c ≡ M r c = row_r M N h w r c i j c s lr lc (inr refl) in
    let f : N i c ≡ M i c = s.old c lc (inr refl) in
    let g : N r b ≡ M r b = row_r M N h w r c i j b s lr m o in
    let n : N i b ≡ M i b = s.old b m o in
    (pivoted_same N M r c i b e f g n, fits_same N M r c i b e f g n)

-- the rows before i but r are new, all else is old
pub record IsUpTo (M N : ℕ → ℕ → Number) (h w r c i : ℕ) : Type 0 where
  pub new : (a b : ℕ) → a < i → a < h → b < w → a ≢ r → N a b ≡ pivoted M r c a b
  pub old : (a b : ℕ) → a < h → b < w → (i ≤ a) ⊎ (a ≡ r) → N a b ≡ M a b
