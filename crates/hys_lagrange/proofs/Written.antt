-- The boxes of a node, written from the last fixing to the first.
use Rattle.std.proofs.Common.{◌≡◌, ℕ, zero, suc, ◌<◌, ◌⊎◌, inl, inr, sym, ◌∙◌, ap, arith, cond, List, [], ◌∷◌, length, drop, get_or, slice_set}
use Rattle.std.proofs.Math.Seq.{drop-cons}
use Rattle.std.proofs.lemmas.List.{drop_all, get_or-set_same, get_or-set_other}
use Rattle.hys_number.specs.Ops.{whole}
use Rattle.hys_number.proofs.Bools.{eq_true, eq_false}
use Rattle.hys_lin.specs.Bits.{bit}
use Rattle.hys_lin.specs.Ranges.{box_at}
use Rattle.hys_lin.specs.declared.form.Interval.{Interval}
use Rattle.hys_lin.specs.declared.problem.Problem.{Problem}
use Rattle.hys_relax.specs.Node.{box_under, only}
use Rattle.hys_relax.specs.declared.fixing.Fixing.{Fixing}
use Rattle.hys_lagrange.specs.Fixed.{AreWithin}

-- the fixings from the place i on are written
abbrev pub IsWrittenFrom : Problem → List Fixing → List Interval → Type 0
IsWrittenFrom p fs bs = (j : ℕ) → box_at bs j ≡ box_under fs (box_at p.boxes j) j

pub none_written : (p : Problem) (fs : List Fixing) (bs : List Interval) → bs ≡ p.boxes → IsWrittenFrom p (drop (length fs) fs) bs
none_written p fs bs e j = ap (λ xs. box_at xs j) e ∙ ap (λ gs. box_under gs (box_at p.boxes j) j) (sym (drop_all (length fs) fs (omega arith)))

pub fixing_there : (n : ℕ) (fs : List Fixing) (i : ℕ) (d : Fixing) → AreWithin n fs → i < length fs → (get_or fs i d).column < n
fixing_there n [] i d h l = absurd (omega arith)
fixing_there n (f ∷ fs) zero d h l = h.0
fixing_there n (f ∷ fs) (suc i) d h l = fixing_there n fs i d h.1 (omega arith)

same_place : (i j : ℕ) → (i ≡ j) ⊎ (¬ (i ≡ j))
same_place i j = grind arith

pub one_written : (p : Problem) (fs : List Fixing) (i : ℕ) (f d : Fixing) (bs : List Interval) (b : Interval) → i < length fs → f ≡ get_or fs i d → f.column < length bs → b ≡ only (bit f.one) →
    IsWrittenFrom p (drop (suc i) fs) bs → IsWrittenFrom p (drop i fs) (slice_set bs f.column b)
one_written p fs i f d bs b l e lc eb h j = elim (same_place j f.column) as (λ _. box_at (slice_set bs f.column b) j ≡ box_under (drop i fs) (box_at p.boxes j) j) [
  | inl q ↦ ap (box_at (slice_set bs f.column b)) q ∙ get_or-set_same bs f.column b (record { low = whole 0; high = whole 0 }) lc ∙ eb
      ∙ sym (ap (λ gs. box_under gs (box_at p.boxes j) j) here ∙ ap (λ t. cond t (only (bit f.one)) (box_under (drop (suc i) fs) (box_at p.boxes j) j)) (eq_true f.column j (sym q)))
  | inr q ↦ get_or-set_other bs f.column j b (record { low = whole 0; high = whole 0 }) q ∙ h j
      ∙ sym (ap (λ gs. box_under gs (box_at p.boxes j) j) here ∙ ap (λ t. cond t (only (bit f.one)) (box_under (drop (suc i) fs) (box_at p.boxes j) j)) (eq_false f.column j (λ z. q (sym z))))
]
  where
    here : drop i fs ≡ f ∷ drop (suc i) fs
    here = drop-cons fs i d l ∙ ap (λ z. z ∷ drop (suc i) fs) (sym e)
