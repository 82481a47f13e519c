-- From the first number of the intervals that doesn't fit to the fault that shows it.
use Rattle.std.proofs.Common.{◌≡◌, ℕ, zero, suc, ◌<◌, List, [], ◌∷◌, ◌++◌, Some, Bool, true, false, cond, length, get_or, refl, sym, ◌∙◌, ap, subst, arith, inr, ◌⊎◌, inl, Result, Ok, Err}
use Rattle.std.specs.List.{AllByRecursion}
use Rattle.hys_number.specs.Number.{Number}
use Rattle.hys_number.specs.Ops.{fits}
use Rattle.hys_lin.specs.declared.form.Interval.{Interval}
use Rattle.hys_lin.specs.declared.lost.Lost.{Lost}
use Rattle.hys_lin.specs.Operations.{outcome}
use Rattle.hys_lex.specs.declared.token.Token.{Token}
use Rattle.hys_ast.specs.declared.place.Place.{Place}
use Rattle.hys_ast.specs.Tree.{Item, Source}
use Rattle.hys_meaning.specs.Unfolded.{unfolded}
use Rattle.hys_prog.specs.declared.program.ProgItem.{ProgItem}
use Rattle.hys_prog.specs.declared.program.Program.{Program}
use Rattle.hys_prog.specs.declared.program.Order.{Order}
use Rattle.hys_prog.specs.Orders.{IsOrder}
use Rattle.hys_prog.specs.Places.{ItemAt}
use Rattle.hys_prog.proofs.Defined.{at_item}
use Rattle.hys_bound.specs.Ranges.{Placed, all_at, asked_at, place_in, with_interval, numbers_here, numbers_along, declared, range_numbers, first_unfit}
use Rattle.hys_bound.specs.Answers.{Judged}
use Rattle.hys_bound.specs.declared.fault.BoundFault.{BoundFault}
use Rattle.hys_bound.specs.declared.fault.BoundFault.TheVariants.{Range}
use Rattle.hys_type.specs.Translation.{Setting, OneByOne, setting, IsItemOf}
use Rattle.hys_compile.specs.declared.fault.SourceFault.{SourceFault}
use Rattle.hys_compile.specs.Faults.{range_fault}
use Rattle.hys_compile.specs.Sources.{StandsAt, IsProgramOf, AreRangeNumbers}
use Rattle.hys_compile.specs.Text.{IsOrdered, IsRanged, IsCause, IsRefusal, interval}
use Rattle.hys_compile.proofs.OneList.{same_numbers}

-- ---- the numbers of a source
pub same_ranges : (tree : Source) (xs ys : List Placed) → AreRangeNumbers tree xs → AreRangeNumbers tree ys → xs ≡ ys
same_ranges tree xs ys a b =
    a.same
    ∙ same_numbers a.translation.tolerance b.translation.tolerance (unfolded tree) a.program b.program a.order b.order a.translation.translation b.translation.translation a.ordered b.ordered
    ∙ sym b.same

pub one_place : (is : List Item) (k : ℕ) (p q : Place) → StandsAt is k p → StandsAt is k q → p ≡ q
one_place [] k p q a b = absurd a
one_place (i ∷ is) zero p q a b = sym a ∙ b
one_place (i ∷ is) (suc k) p q a b = one_place is k p q a b

-- ---- each number is one of an item
pub all_joined : {A : Type 0} (P : A → Type 0) (xs ys : List A) → AllByRecursion P xs → AllByRecursion P ys → AllByRecursion P (xs ++ ys)
all_joined P [] ys h k = k
all_joined P (x ∷ xs) ys h k = (h.0, all_joined P xs ys h.1 k)

unfoldable pub Within : ℕ → Placed → Type 0
Within n c = c.item < n

pub all_within : (n k : ℕ) (os : List Lost) → k < n → AllByRecursion (Within n) (all_at k os)
unfolding Within
all_within n k [] h = tt
all_within n k (o ∷ os) h = (h, all_within n k os h)

within_or_none : (boxes : List Interval) (ts : List ProgItem) (k : ℕ) → (k < length ts) ⊎ (asked_at boxes ts k ≡ [])
within_or_none boxes [] k = inr refl
within_or_none boxes (t ∷ ts) zero = inl (omega arith)
within_or_none boxes (t ∷ ts) (suc k) = go (within_or_none boxes ts k)
  where
    go : (k < length ts) ⊎ (asked_at boxes ts k ≡ []) → (suc k < length (t ∷ ts)) ⊎ (asked_at boxes ts k ≡ [])
    go (inl b) = inl (omega arith)
    go (inr e) = inr e

here_within : (boxes : List Interval) (ts : List ProgItem) (k : ℕ) → AllByRecursion (Within (length ts)) (all_at k (asked_at boxes ts k))
here_within boxes ts k = go (within_or_none boxes ts k)
  where
    go : (k < length ts) ⊎ (asked_at boxes ts k ≡ []) → AllByRecursion (Within (length ts)) (all_at k (asked_at boxes ts k))
    go (inl b) = all_within (length ts) k (asked_at boxes ts k) b
    go (inr e) = subst (λ (os : List Lost). AllByRecursion (Within (length ts)) (all_at k os)) (sym e) tt

along_within : (ts : List ProgItem) (ns : List ℕ) (boxes : List Interval) → AllByRecursion (Within (length ts)) (numbers_along ts ns boxes)
along_within ts [] boxes = tt
along_within ts (n ∷ ns) boxes =
    all_joined (Within (length ts)) (numbers_here ts n boxes) (numbers_along ts ns (with_interval ts n boxes)) (here_within boxes ts (place_in ts n)) (along_within ts ns (with_interval ts n boxes))

pub first_of_all : (P : Placed → Type 0) (cs : List Placed) (c : Placed) → AllByRecursion P cs → first_unfit cs ≡ Some c → P c
first_of_all P [] c h e = absurd (cc)
first_of_all P (x ∷ cs) c h e = go (fits (outcome x.what)) e (first_of_all P cs c h.1)
  where
    go : (b : Bool) → cond b (first_unfit cs) (Some x) ≡ Some c → (first_unfit cs ≡ Some c → P c) → P c
    go true e f = f e
    go false e f = let s : x ≡ c = cc in subst P s h.0

-- ---- items of a translation stand where those of the source do
pub stands_at : (c : Setting) (is : List Item) (ts : List ProgItem) (k : ℕ) (p : Place) → OneByOne (IsItemOf c) is ts → ItemAt ts k (λ t. t.place ≡ p) → StandsAt is k p
stands_at c [] [] k p h a = absurd a
stands_at c [] (t ∷ ts) k p h a = absurd h
stands_at c (i ∷ is) [] k p h a = absurd h
stands_at c (i ∷ is) (t ∷ ts) zero p h a = sym h.0.place ∙ a
stands_at c (i ∷ is) (t ∷ ts) (suc k) p h a = stands_at c is ts k p h.1 a

pub item_at : (ts : List ProgItem) (k : ℕ) (t : ProgItem) (place : Place) → k < length ts → t ≡ get_or ts k t → place ≡ t.place → ItemAt ts k (λ t. t.place ≡ place)
item_at ts k t place b e p = at_item (λ t. t.place ≡ place) ts k t (sym p) b e

-- ---- the answers of intervals
pub ranged : (text : List ℕ) (tokens : List Token) (tree : Source) (p : Program) (o : Order) (X : Type 0) (r : Result X BoundFault) (x : X) → r ≡ Ok x → IsOrdered text tokens tree → IsProgramOf tree p → IsOrder p o → Judged (range_numbers p o) r → IsRanged text tokens tree
ranged text tokens tree p o X r x e h i q j = record {
  ordered = h;
  numbers = range_numbers p o;
  ranges = record { program = p; order = o; translation = i; ordered = q; same = refl };
  fit = subst (λ (y : Result X BoundFault). Judged (range_numbers p o) y) e j;
}

lost_here : (os : List Placed) (X : Type 0) (r : Result X BoundFault) (fault : BoundFault) (k : ℕ) (l : Lost) → r ≡ Err fault → fault ≡ Range k l → Judged os r → first_unfit os ≡ Some (record { item = k; what = l })
lost_here os X r fault k l e q j = subst (λ (y : Result X BoundFault). Judged os y) (e ∙ ap Err q) j

pub lost_within : (p : Program) (o : Order) (X : Type 0) (r : Result X BoundFault) (fault : BoundFault) (k : ℕ) (l : Lost) (ts : List ProgItem) → r ≡ Err fault → fault ≡ Range k l → Judged (range_numbers p o) r → ts ≡ p.items → k < length ts
unfolding Within
lost_within p o X r fault k l ts e q j i =
    let b : k < length p.items = first_of_all (Within (length p.items)) (range_numbers p o) (record { item = k; what = l }) (along_within p.items o.names (declared p.names)) (lost_here (range_numbers p o) X r fault k l e q j) in
    subst (λ (us : List ProgItem). k < length us) (sym i) b

pub by_interval : (text : List ℕ) (tokens : List Token) (tree : Source) (p : Program) (o : Order) (X : Type 0) (r : Result X BoundFault) (fault : BoundFault) (k : ℕ) (l : Lost) (ts : List ProgItem) (place : Place) (f : SourceFault) →
    r ≡ Err fault → fault ≡ Range k l → Judged (range_numbers p o) r → ts ≡ p.items → ItemAt ts k (λ t. t.place ≡ place) → f ≡ range_fault place l → IsOrdered text tokens tree → IsProgramOf tree p → IsOrder p o → (tolerance : Number) → IsRefusal tolerance text f
by_interval text tokens tree p o X r fault k l ts place f e q j i a s h t d tolerance =
    let stands = stands_at (setting t.tolerance (unfolded tree)) (unfolded tree).items p.items k place t.translation.items (subst (λ (us : List ProgItem). ItemAt us k (λ t. t.place ≡ place)) i a) in
    inr (subst (IsCause tolerance text) (sym s) (interval tokens tree (range_numbers p o) (record { item = k; what = l }) place h
    (record { program = p; order = o; translation = t; ordered = d; same = refl }) (lost_here (range_numbers p o) X r fault k l e q j) stands))
