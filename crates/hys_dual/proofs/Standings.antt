-- Where each variable stands, row by row and column by column.
use Rattle.std.proofs.Common.{◌≡◌, ◌≢◌, ℕ, ◌+◌, ◌<◌, ◌⊎◌, inl, inr, sym, ◌∙◌, ap, ap₂, subst, arith, List, Bool, if◌then◌else◌, slice_index_or}
use Rattle.hys_simplex.specs.Tableau.{Tableau, IsPlaced}
use Rattle.hys_number.specs.Number.{Number}
use Rattle.hys_relax.specs.Node.{Boxes}
use Rattle.hys_relax.specs.LinearProgram.{LinearProgram}
use Rattle.hys_simplex.specs.Status.{lower, upper, end_or, is_raised_above, end_value}
use Rattle.hys_dual.specs.declared.end.End.{End}
use Rattle.hys_dual.specs.declared.stand.Stand.{Stand}
use Rattle.hys_dual.specs.declared.stand.Stand.TheVariants.{Basic, Outside}
use Rattle.hys_dual.specs.Standing.{StandsAt, stand_at, AllStand, end_in, ends_of}
use Rattle.hys_dual.proofs.Listing.{listed_at}

below_or_at : (k i : ℕ) → k < i + 1 → (k < i) ⊎ (k ≡ i)
below_or_at k i l = grind arith

-- the rows below i have put their variables
abbrev pub RowsStand : Tableau → ℕ → List Stand → Type 0
RowsStand T i xs = (k : ℕ) → k < i → stand_at xs (T.basic k) ≡ Basic k

-- the columns below j too
abbrev pub ColumnsStand : Tableau → ℕ → List Stand → Type 0
ColumnsStand T j xs = (k : ℕ) → k < j → stand_at xs (T.outside k) ≡ Outside k

pub rows_next : (T : Tableau) (n m i u : ℕ) (xs ys : List Stand) → IsPlaced n m T → i < m → u ≡ T.basic i → stand_at ys u ≡ Basic i → ((v : ℕ) → v ≢ u → stand_at ys v ≡ stand_at xs v) →
    RowsStand T i xs → RowsStand T (i + 1) ys
rows_next T n m i u xs ys p l e there others h k lk = elim (below_or_at k i lk) as (λ _. stand_at ys (T.basic k) ≡ Basic k) [
  | inl q ↦ others (T.basic k) (λ f. absurd (omega (arith, q, p.basic_once k i (omega (arith, l, q)) (omega (arith, l)) (f ∙ e)))) ∙ h k q
  | inr q ↦ subst (λ z. stand_at ys (T.basic z) ≡ Basic z) (sym q) (subst (λ z. stand_at ys z ≡ Basic i) e there)
]

pub columns_next : (T : Tableau) (n m j u : ℕ) (xs ys : List Stand) → IsPlaced n m T → j < n → u ≡ T.outside j → stand_at ys u ≡ Outside j → ((v : ℕ) → v ≢ u → stand_at ys v ≡ stand_at xs v) →
    ColumnsStand T j xs → ColumnsStand T (j + 1) ys
columns_next T n m j u xs ys p l e there others h k lk = elim (below_or_at k j lk) as (λ _. stand_at ys (T.outside k) ≡ Outside k) [
  | inl q ↦ others (T.outside k) (λ f. absurd (omega (arith, q, p.once k j (omega (arith, l, q)) l (f ∙ e)))) ∙ h k q
  | inr q ↦ subst (λ z. stand_at ys (T.outside z) ≡ Outside z) (sym q) (subst (λ z. stand_at ys z ≡ Outside j) e there)
]

-- a column leaves the rows' variables
pub rows_stay : (T : Tableau) (n m j u : ℕ) (xs ys : List Stand) → IsPlaced n m T → j < n → u ≡ T.outside j → ((v : ℕ) → v ≢ u → stand_at ys v ≡ stand_at xs v) → RowsStand T m xs → RowsStand T m ys
rows_stay T n m j u xs ys p l e others h k lk = others (T.basic k) (λ f. p.apart k j (omega (arith, lk)) l (f ∙ e)) ∙ h k lk

pub all_stand : (T : Tableau) (n m j : ℕ) (xs : List Stand) → IsPlaced n m T → T.columns ≡ n → T.rows ≡ m → j ≡ n → RowsStand T m xs → ColumnsStand T j xs → AllStand T xs
all_stand T n m j xs p w t e rows columns u l = elim (p.somewhere u (omega (arith, l, w, t))) as (λ _. StandsAt T u (stand_at xs u)) [
  | inl q ↦ subst (StandsAt T u) (sym (ap (stand_at xs) (sym q.2) ∙ rows q.0 q.1)) (omega (arith, q.1, t), q.2)
  | inr q ↦ subst (StandsAt T u) (sym (ap (stand_at xs) (sym q.2) ∙ columns q.0 (omega (arith, q.1, e)))) (omega (arith, q.1, w), q.2)
]

-- ---- ends
pub end_made : (P : LinearProgram) (B : Boxes) (T : Tableau) (j u : ℕ) (above : Bool) (x : Number) → above ≡ is_raised_above P T j → u ≡ T.outside j →
    x ≡ (if above then end_or (upper P B u) (lower P B u) else lower P B u) → record { above = above; value = x } ≡ end_in P B T j
end_made P B T j u above x e f g = ap₂ (λ b y. record { above = b; value = y }) e (g ∙ ap₂ (λ b w. if b then end_or (upper P B w) (lower P B w) else lower P B w) e f)

pub end_value_read : (P : LinearProgram) (B : Boxes) (T : Tableau) (es : List End) (j : ℕ) (d : End) → es ≡ ends_of P B T → j < T.columns → (slice_index_or es j d).value ≡ end_value P B T j
end_value_read P B T es j d e l = ap (λ xs. (slice_index_or xs j d).value) e ∙ ap (λ z. z.value) (listed_at T.columns (end_in P B T) j d l)
