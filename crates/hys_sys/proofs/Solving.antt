use Rattle.std.proofs.Common.{◌≡◌, ℕ, ◌+◌, ◌<◌, ◌↔◌, ◌⊎◌, inl, inr, List, [], ◌∷◌, ◌++◌, length, drop, get_or, Bool, Result, Ok, Err, Some, None, refl, sym, ◌∙◌, ap, subst, add-one}
use Rattle.std.proofs.Math.Seq.{drop-cons}
use Rattle.std.specs.List.{AllByRecursion}
use Rattle.hys_number.specs.Number.{Number}
use Rattle.hys_lin.specs.Sums.{at, Holds, HoldAll}
use Rattle.hys_lin.specs.declared.form.Row.{Row}
use Rattle.hys_lin.specs.declared.lost.Lost.{Lost}
use Rattle.hys_sys.specs.Solution.{Passes, LostAt, loss}

-- where rows lose an operation: no row, the first, or a later one
pub lost_nowhere : (v : List Number) (l : Lost) → LostAt [] v l → ⊥
lost_nowhere v l s = go s.before s.split
  where
    go : (bs : List Row) → [] ≡ bs ++ s.row ∷ s.after → ⊥
    go [] e = absurd (cc)
    go (b ∷ bs) e = absurd (cc)

pub lost_head : (v : List Number) (l : Lost) (r : Row) (rs : List Row) → loss v r ≡ Some l → LostAt (r ∷ rs) v l
lost_head v l r rs e = record { before = []; row = r; after = rs; split = refl; pass = tt; lost = e }

pub lost_tail : (v : List Number) (l : Lost) (r : Row) (rs : List Row) → Passes v r → LostAt rs v l → LostAt (r ∷ rs) v l
lost_tail v l r rs p s = record { before = r ∷ s.before; row = s.row; after = s.after; split = ap (λ (xs : List Row). r ∷ xs) s.split; pass = (p, s.pass); lost = s.lost }

pub lost_where : (v : List Number) (l : Lost) (r : Row) (rs : List Row) → LostAt (r ∷ rs) v l → (loss v r ≡ Some l) ⊎ (Passes v r × LostAt rs v l)
lost_where v l r rs s = go s.before s.split s.pass
  where
    go : (bs : List Row) → r ∷ rs ≡ bs ++ s.row ∷ s.after → AllByRecursion (Passes v) bs → (loss v r ≡ Some l) ⊎ (Passes v r × LostAt rs v l)
    go [] e p = let i : r ≡ s.row = cc in inl (ap (loss v) i ∙ s.lost)
    go (b ∷ bs) e p = let i : b ≡ r = cc in let j : rs ≡ bs ++ s.row ∷ s.after = cc in
        inr (subst (Passes v) i p.0, record { before = bs; row = s.row; after = s.after; split = j; pass = p.1; lost = s.lost })

-- one row more is behind
pub lost_on : (v : List Number) (rows ds : List Row) (r : Row) (rs : List Row) → ds ≡ r ∷ rs → Passes v r → ((l : Lost) → LostAt rows v l ↔ LostAt ds v l) → (l : Lost) → LostAt rows v l ↔ LostAt rs v l
lost_on v rows ds r rs e p h l = (there, back)
  where
    there : LostAt rows v l → LostAt rs v l
    there s = elim (lost_where v l r rs (subst (λ (xs : List Row). LostAt xs v l) e ((h l).0 s)))
        [ inl i ↦ absurd (let j : None ≡ Some l = sym p.fits ∙ i in cc) | inr q ↦ q.1 ]

    back : LostAt rs v l → LostAt rows v l
    back s = (h l).1 (subst (λ (xs : List Row). LostAt xs v l) (sym e) (lost_tail v l r rs p s))

pub hold_on : (v : List Number) (rows ds : List Row) (r : Row) (rs : List Row) → ds ≡ r ∷ rs → Holds (at v) r → HoldAll (at v) rows ↔ HoldAll (at v) ds → HoldAll (at v) rows ↔ HoldAll (at v) rs
hold_on v rows ds r rs e p h = (λ k. (subst (HoldAll (at v)) e (h.0 k)).1, λ k. h.1 (subst (HoldAll (at v)) (sym e) (p, k)))

pub drop_row : (rs : List Row) (i : ℕ) (r : Row) → i < length rs → r ≡ get_or rs i r → drop i rs ≡ r ∷ drop (i + 1) rs
drop_row rs i r h e = rw (add-one, drop-cons rs i r h, ← e) refl

-- what a result says of the rows where the first of those still to be tried is lost, doesn't hold, or is none
pub lost_shown : (v : List Number) (rows ds : List Row) (r : Row) (rs : List Row) (k : Lost) (a : Result Bool Lost) → ds ≡ r ∷ rs → Some k ≡ loss v r → a ≡ Err k →
    ((l : Lost) → LostAt rows v l ↔ LostAt ds v l) → (l : Lost) → (a ≡ Err l) ↔ LostAt rows v l
lost_shown v rows ds r rs k a e i j h l = (there, back)
  where
    there : a ≡ Err l → LostAt rows v l
    there n = let m : k ≡ l = cc in (h l).1 (subst (λ (xs : List Row). LostAt xs v l) (sym e) (lost_head v l r rs (sym i ∙ ap Some m)))

    back : LostAt rows v l → a ≡ Err l
    back s = elim (lost_where v l r rs (subst (λ (xs : List Row). LostAt xs v l) e ((h l).0 s)))
        [ inl n ↦ (let m : Some k ≡ Some l = i ∙ n in cc) | inr q ↦ absurd (let m : Some k ≡ None = i ∙ q.0.fits in cc) ]

pub lost_refused : (v : List Number) (rows ds : List Row) (r : Row) (rs : List Row) (b : Bool) → ds ≡ r ∷ rs → None ≡ loss v r → ¬ (Holds (at v) r) →
    ((l : Lost) → LostAt rows v l ↔ LostAt ds v l) → (l : Lost) → (◌≡◌ {A = Result Bool Lost} (Ok b) (Err l)) ↔ LostAt rows v l
lost_refused v rows ds r rs b e i j h l = (λ n. absurd (cc), back)
  where
    back : LostAt rows v l → ◌≡◌ {A = Result Bool Lost} (Ok b) (Err l)
    back s = elim (lost_where v l r rs (subst (λ (xs : List Row). LostAt xs v l) e ((h l).0 s)))
        [ inl n ↦ absurd (let m : None ≡ Some l = i ∙ n in cc) | inr q ↦ absurd (j q.0.holds) ]

pub lost_ended : (v : List Number) (rows ds : List Row) (b : Bool) → ds ≡ [] →
    ((l : Lost) → LostAt rows v l ↔ LostAt ds v l) → (l : Lost) → (◌≡◌ {A = Result Bool Lost} (Ok b) (Err l)) ↔ LostAt rows v l
lost_ended v rows ds b e h l = (λ n. absurd (cc), λ s. absurd (lost_nowhere v l (subst (λ (xs : List Row). LostAt xs v l) e ((h l).0 s))))

pub lost_same : (v : List Number) (rows rows' : List Row) (a b : Bool) → rows ≡ rows' → ((l : Lost) → (◌≡◌ {A = Result Bool Lost} (Ok a) (Err l)) ↔ LostAt rows v l) → (l : Lost) → (◌≡◌ {A = Result Bool Lost} (Ok b) (Err l)) ↔ LostAt rows' v l
lost_same v rows rows' a b e h l = (λ n. absurd (cc), λ s. absurd (let m : ◌≡◌ {A = Result Bool Lost} (Ok a) (Err l) = (h l).1 (subst (λ (xs : List Row). LostAt xs v l) (sym e) s) in cc))

pub lost_passed : (v : List Number) (rows rows' : List Row) (k : Lost) (a : Result Bool Lost) → rows ≡ rows' → a ≡ Err k → ((l : Lost) → (◌≡◌ {A = Result Bool Lost} (Err k) (Err l)) ↔ LostAt rows v l) → (l : Lost) → (a ≡ Err l) ↔ LostAt rows' v l
lost_passed v rows rows' k a e i h l = (λ n. subst (λ (xs : List Row). LostAt xs v l) e ((h l).0 (sym i ∙ n)), λ s. i ∙ (h l).1 (subst (λ (xs : List Row). LostAt xs v l) (sym e) s))
