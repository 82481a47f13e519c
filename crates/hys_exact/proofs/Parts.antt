-- What parts that mean the items say together.
use Rattle.std.proofs.Common.{◌≡◌, ◌↔◌, ℕ, zero, suc, ◌+◌, ◌<◌, List, [], ◌∷◌, ◌++◌, Bool, true, false, cond, length, get_or, map, refl, ◌∙◌, ap, ap₂, arith, inl, inr, length-append, IsTrue}
use Rattle.hys_number.specs.Number.{Number}
use Rattle.hys_lin.specs.declared.form.Affine.{Affine}
use Rattle.hys_lin.specs.declared.form.Interval.{Interval}
use Rattle.hys_lin.specs.declared.form.Row.{Row}
use Rattle.hys_lin.specs.Bits.{IsBit, bit}
use Rattle.hys_lin.specs.Sums.{Assignment, HoldAll, value}
use Rattle.hys_prog.specs.declared.program.Name.{Name}
use Rattle.hys_prog.specs.declared.program.ProgItem.{ProgItem}
use Rattle.hys_prog.specs.Programs.{EachItem, definitions, is_named}
use Rattle.hys_prog.specs.Steps.{CaseOf}
use Rattle.hys_prog.specs.Stops.{number_of, number_in}
use Rattle.hys_prog.specs.Walk.{IsFirstAt}
use Rattle.hys_logic.specs.Rows.{Agrees, BitsFrom}
use Rattle.hys_exact.specs.Parts.{Part, Means, AreParts, AreInside, AreSame, HasBits, IsMet, by_columns, is_after, rows_of, count_of, fresh_of, forms_of}
use Rattle.hys_exact.specs.Built.{form_for}

-- ---- lists
pub hold_append : (v : Assignment) (xs ys : List Row) → HoldAll v (xs ++ ys) ↔ (HoldAll v xs × HoldAll v ys)
hold_append v [] ys = (λ h. (tt, h), λ h. h.1)
hold_append v (r ∷ rs) ys =
    let e : HoldAll v (rs ++ ys) ↔ (HoldAll v rs × HoldAll v ys) = hold_append v rs ys in
    (λ h. let k : HoldAll v rs × HoldAll v ys = e.0 h.1 in ((h.0, k.0), k.1), λ h. (h.0.0, e.1 (h.0.1, h.1)))

pub agrees_append : (v : Assignment) (k n : ℕ) (xs ys : List Bool) → length xs ≡ n → Agrees v k (xs ++ ys) ↔ (Agrees v k xs × Agrees v (k + n) ys)
agrees_append v k n [] ys e = let s : k + n ≡ k = omega arith in (λ h. (tt, rw s h), λ h. rw s at h.1)
agrees_append v k zero (b ∷ bs) ys e = absurd (omega arith)
agrees_append v k (suc n) (b ∷ bs) ys e =
    let r : Agrees v (suc k) (bs ++ ys) ↔ (Agrees v (suc k) bs × Agrees v (suc k + n) ys) = agrees_append v (suc k) n bs ys (omega arith) in
    let s : k + suc n ≡ suc k + n = omega arith in
    rw s (λ h. let e : Agrees v (suc k) bs × Agrees v (suc k + n) ys = r.0 h.1 in ((h.0, e.0), e.1), λ h. (h.0.0, r.1 (h.0.1, h.1)))

pub agrees_get : (v : Assignment) (k : ℕ) (bs : List Bool) (i : ℕ) → Agrees v k bs → i < length bs → (d : Number) → v (k + i) ≡ get_or (map bit bs) i d
agrees_get v k [] i a l d = absurd (omega arith)
agrees_get v k (b ∷ bs) zero a l d = let s : k + 0 ≡ k = omega arith in rw s a.0
agrees_get v k (b ∷ bs) (suc i) a l d = let s : k + suc i ≡ suc k + i = omega arith in rw s (agrees_get v (suc k) bs i a.1 (omega arith) d)

pub agrees_from : (v : Assignment) (k : ℕ) (bs : List Bool) (d : Number) → ((i : ℕ) → i < length bs → v (k + i) ≡ get_or (map bit bs) i d) → Agrees v k bs
agrees_from v k [] d h = tt
agrees_from v k (b ∷ bs) d h =
    let s : k + 0 ≡ k = omega arith in
    (rw s at (h 0 (omega arith)), agrees_from v (suc k) bs d (λ i l. let s : k + suc i ≡ suc k + i = omega arith in rw s at (h (suc i) (omega arith))))

pub bit_is : (b : Bool) → IsBit (bit b)
bit_is true = inr refl
bit_is false = inl refl

-- the bits of truths
pub bits_at : (bs : List Bool) (i : ℕ) (d : Number) → i < length bs → IsBit (get_or (map bit bs) i d)
bits_at [] i d l = absurd (omega arith)
bits_at (b ∷ bs) zero d l = bit_is b
bits_at (b ∷ bs) (suc i) d l = bits_at bs i d (omega arith)

-- ---- fresh columns
pub fresh_long : (names : List Name) (boxes : List Interval) (columns : List ℕ) (k : ℕ) (ts : List ProgItem) (qs : List Part) (w : Assignment) → AreParts names boxes columns k ts qs → length (fresh_of qs w) ≡ count_of qs
fresh_long names boxes columns k [] [] w a = refl
fresh_long names boxes columns k [] (q ∷ qs) w a = absurd a
fresh_long names boxes columns k (t ∷ ts) [] w a = absurd a
fresh_long names boxes columns k (t ∷ ts) (q ∷ qs) w a = length-append (q.fresh w) (fresh_of qs w) ∙ ap₂ (λ (m n : ℕ). m + n) (a.0.long w) (fresh_long names boxes columns (k + q.count) ts qs w a.1)

pub fresh_same : (names : List Name) (boxes : List Interval) (columns : List ℕ) (k : ℕ) (ts : List ProgItem) (qs : List Part) (v w : Assignment) → AreParts names boxes columns k ts qs → AreSame names v w → fresh_of qs v ≡ fresh_of qs w
fresh_same names boxes columns k [] [] v w a h = refl
fresh_same names boxes columns k [] (q ∷ qs) v w a h = absurd a
fresh_same names boxes columns k (t ∷ ts) [] v w a h = absurd a
fresh_same names boxes columns k (t ∷ ts) (q ∷ qs) v w a h = ap₂ (λ (xs ys : List Bool). xs ++ ys) (a.0.same v w h) (fresh_same names boxes columns (k + q.count) ts qs v w a.1 h)

-- ---- rows
-- where the rows hold, an item has its case as soon as what it mentions is in its interval
pub parts_cases : (names : List Name) (boxes : List Interval) (columns : List ℕ) (k : ℕ) (ts : List ProgItem) (qs : List Part) (v : Assignment) → AreParts names boxes columns k ts qs → HasBits names (by_columns columns v) → BitsFrom v k (count_of qs) → HoldAll v (rows_of qs) →
    EachItem (λ t. AreInside boxes (by_columns columns v) t.body → CaseOf (by_columns columns v) t) ts
parts_cases names boxes columns k [] [] v a b f h = tt
parts_cases names boxes columns k [] (q ∷ qs) v a b f h = absurd a
parts_cases names boxes columns k (t ∷ ts) [] v a b f h = absurd a
parts_cases names boxes columns k (t ∷ ts) (q ∷ qs) v a b f h =
    let s : HoldAll v q.rows × HoldAll v (rows_of qs) = (hold_append v q.rows (rows_of qs)).0 h in (
      λ i. ((a.0.means v b (λ c l m. f c l (omega arith)) i).0 s.0).0.case,
      parts_cases names boxes columns (k + q.count) ts qs v a.1 b (λ c l m. f c (omega arith) (omega arith)) s.1,
    )

-- with what is mentioned in its interval the rows hold exactly where each item is met and the fresh columns have their
-- truths
pub parts_hold : (names : List Name) (boxes : List Interval) (columns : List ℕ) (k : ℕ) (ts : List ProgItem) (qs : List Part) (v : Assignment) → AreParts names boxes columns k ts qs → HasBits names (by_columns columns v) → BitsFrom v k (count_of qs) →
    EachItem (λ t. AreInside boxes (by_columns columns v) t.body) ts →
    HoldAll v (rows_of qs) ↔ (EachItem (IsMet (by_columns columns v)) ts × Agrees v k (fresh_of qs (by_columns columns v)))
parts_hold names boxes columns k [] [] v a b f i = (λ h. (tt, tt), λ h. tt)
parts_hold names boxes columns k [] (q ∷ qs) v a b f i = absurd a
parts_hold names boxes columns k (t ∷ ts) [] v a b f i = absurd a
parts_hold names boxes columns k (t ∷ ts) (q ∷ qs) v a b f i =
    let w : Assignment = by_columns columns v in
    let here : HoldAll v q.rows ↔ (IsMet w t × Agrees v k (q.fresh w)) = a.0.means v b (λ c l m. f c l (omega arith)) i.0 in
    let rest : HoldAll v (rows_of qs) ↔ (EachItem (IsMet w) ts × Agrees v (k + q.count) (fresh_of qs w)) = parts_hold names boxes columns (k + q.count) ts qs v a.1 b (λ c l m. f c (omega arith) (omega arith)) i.1 in
    let cut : HoldAll v (q.rows ++ rows_of qs) ↔ (HoldAll v q.rows × HoldAll v (rows_of qs)) = hold_append v q.rows (rows_of qs) in
    let bits : Agrees v k (q.fresh w ++ fresh_of qs w) ↔ (Agrees v k (q.fresh w) × Agrees v (k + q.count) (fresh_of qs w)) = agrees_append v k q.count (q.fresh w) (fresh_of qs w) (a.0.long w) in (
      λ h.
          let c : HoldAll v q.rows × HoldAll v (rows_of qs) = cut.0 h in
          let x : IsMet w t × Agrees v k (q.fresh w) = here.0 c.0 in
          let y : EachItem (IsMet w) ts × Agrees v (k + q.count) (fresh_of qs w) = rest.0 c.1 in
          ((x.0, y.0), bits.1 (x.1, y.1)),
      λ h.
          let z : Agrees v k (q.fresh w) × Agrees v (k + q.count) (fresh_of qs w) = bits.0 h.1 in
          cut.1 (here.1 (h.0.0, z.0), rest.1 (h.0.1, z.1)),
    )

-- ---- forms
-- the form of a next value or an output has the number that the items give
pub forms_give : (names : List Name) (boxes : List Interval) (columns : List ℕ) (k : ℕ) (ts : List ProgItem) (qs : List Part) (v : Assignment) (n : ℕ) → AreParts names boxes columns k ts qs → HasBits names (by_columns columns v) → Agrees v k (fresh_of qs (by_columns columns v)) →
    EachItem (λ t. is_named n t.name ≡ true → IsTrue (is_after t.body)) ts → 0 < definitions n ts → value (form_for ts (forms_of qs) n) v ≡ number_in (by_columns columns v) n ts
forms_give names boxes columns k [] qs v n a b f i d = absurd (omega arith)
forms_give names boxes columns k (t ∷ ts) [] v n a b f i d = absurd a
forms_give names boxes columns k (t ∷ ts) (q ∷ qs) v n a b f i d =
    let w : Assignment = by_columns columns v in
    let bits : Agrees v k (q.fresh w) × Agrees v (k + q.count) (fresh_of qs w) = (agrees_append v k q.count (q.fresh w) (fresh_of qs w) (a.0.long w)).0 f in
    go (is_named n t.name) refl bits.0 d (λ l. forms_give names boxes columns (k + q.count) ts qs v n a.1 b bits.1 i.1 l)
  where
    go : (c : Bool) → is_named n t.name ≡ c → Agrees v k (q.fresh (by_columns columns v)) → 0 < cond c 1 0 + definitions n ts → (0 < definitions n ts → value (form_for ts (forms_of qs) n) v ≡ number_in (by_columns columns v) n ts) →
        value (cond c q.form (form_for ts (forms_of qs) n)) v ≡ cond c (number_of (by_columns columns v) t.body) (number_in (by_columns columns v) n ts)
    go true e g d r = a.0.gives v (i.0 e) b g
    go false e g d r = r (omega arith)

-- ---- one more item
pub parts_push : (names : List Name) (boxes : List Interval) (columns : List ℕ) (k : ℕ) (ts : List ProgItem) (qs : List Part) (t : ProgItem) (q : Part) → AreParts names boxes columns k ts qs → Means names boxes columns (k + count_of qs) t q → AreParts names boxes columns k (ts ++ t ∷ []) (qs ++ q ∷ [])
parts_push names boxes columns k [] [] t q a m = let s : k + 0 ≡ k = omega arith in (rw s at m, tt)
parts_push names boxes columns k [] (r ∷ qs) t q a m = absurd a
parts_push names boxes columns k (u ∷ ts) [] t q a m = absurd a
parts_push names boxes columns k (u ∷ ts) (r ∷ qs) t q a m =
    let s : k + (r.count + count_of qs) ≡ k + r.count + count_of qs = omega arith in
    (a.0, parts_push names boxes columns (k + r.count) ts qs t q a.1 (rw s at m))

-- ---- forms by the places of items
pub forms_long : (names : List Name) (boxes : List Interval) (columns : List ℕ) (k : ℕ) (ts : List ProgItem) (qs : List Part) → AreParts names boxes columns k ts qs → length (forms_of qs) ≡ length ts
forms_long names boxes columns k [] [] a = refl
forms_long names boxes columns k [] (q ∷ qs) a = absurd a
forms_long names boxes columns k (t ∷ ts) [] a = absurd a
forms_long names boxes columns k (t ∷ ts) (q ∷ qs) a = ap suc (forms_long names boxes columns (k + q.count) ts qs a.1)

-- the form of a name is that at the place of the first item that defines it
pub form_found : (ts : List ProgItem) (fs : List Affine) (n k : ℕ) (d : Affine) → length fs ≡ length ts → IsFirstAt ts k n → form_for ts fs n ≡ get_or fs k d
form_found [] fs n k d e f = absurd f
form_found (t ∷ ts) [] n k d e f = absurd (omega arith)
form_found (t ∷ ts) (g ∷ fs) n zero d e f = rw f refl
form_found (t ∷ ts) (g ∷ fs) n (suc k) d e f = rw (f.0) (form_found ts fs n k d (omega arith) f.1)
