-- One step of a stacked problem: what its rows, boxes and branch columns say of the numbers of the step.
use Rattle.std.proofs.Common.{◌≡◌, ◌↔◌, ℕ, zero, suc, ◌+◌, ◌<◌, ◌≤◌, List, [], ◌∷◌, ◌++◌, length, map, take, drop, Bool, true, false, cond, ◌&&◌, ◌||◌, refl, sym, ◌∙◌, ap, ap₂, subst, arith}
use Rattle.std.specs.Prelude.{nat_eq}
use Rattle.std.specs.List.{AllByRecursion, list_any}
use Rattle.hys_number.specs.Number.{Number}
use Rattle.hys_number.specs.Ops.{◌+ₙ◌, ◌*ₙ◌, whole, neg}
use Rattle.hys_number.proofs.Ring.{by_ring, v, k, minus, ◌⊕◌, ◌⊗◌}
use Rattle.hys_lin.specs.Bits.{IsBit}
use Rattle.hys_lin.specs.Sums.{Assignment, at, sum_of, value, compared, Holds, HoldAll, EachColumn, Within}
use Rattle.hys_lin.specs.declared.form.Term.{Term}
use Rattle.hys_lin.specs.declared.form.Affine.{Affine}
use Rattle.hys_lin.specs.declared.form.Row.{Row}
use Rattle.hys_lin.specs.declared.form.Interval.{Interval}
use Rattle.hys_relax.proofs.Dense.{same_column, own_column}
use Rattle.hys_sys.specs.declared.system.Column.{Column}
use Rattle.hys_stack.specs.Stacking.{moved, opposite, moved_row, equation, equations, is_bool, is_branch_role, branch_columns}

-- ---- numbers in lists
pub at_front : (xs ys : List Number) (i : ℕ) → i < length xs → at (xs ++ ys) i ≡ at xs i
at_front [] ys i l = absurd (omega arith)
at_front (x ∷ xs) ys zero l = refl
at_front (x ∷ xs) ys (suc i) l = at_front xs ys i (omega arith)

pub at_behind : (xs ys : List Number) (i n : ℕ) → n ≡ length xs + i → at (xs ++ ys) n ≡ at ys i
at_behind [] ys i n e = let q : n ≡ i = omega arith in ap (at ys) q
at_behind (x ∷ xs) ys i zero e = absurd (omega arith)
at_behind (x ∷ xs) ys i (suc n) e = at_behind xs ys i n (omega arith)

-- ---- sums
pub sum_same : (ts : List Term) (f g : Assignment) → EachColumn (λ c. f c ≡ g c) ts → sum_of ts f ≡ sum_of ts g
sum_same [] f g h = refl
sum_same (t ∷ ts) f g h = ap₂ (λ a b. t.factor *ₙ a +ₙ b) h.0 (sum_same ts f g h.1)

pub each_same : (P Q : ℕ → Type 0) (ts : List Term) → ((c : ℕ) → P c → Q c) → EachColumn P ts → EachColumn Q ts
each_same P Q [] f h = tt
each_same P Q (t ∷ ts) f h = (f t.column h.0, each_same P Q ts f h.1)

pub sum_moved : (n : ℕ) (ts : List Term) (f : Assignment) → sum_of (moved n ts) f ≡ sum_of ts (λ c. f (n + c))
sum_moved n [] f = refl
sum_moved n (t ∷ ts) f = ap (λ z. t.factor *ₙ f (n + t.column) +ₙ z) (sum_moved n ts f)

pub sum_behind : (ts us : List Term) (f : Assignment) → sum_of (ts ++ us) f ≡ sum_of ts f +ₙ sum_of us f
sum_behind [] us f = by_ring (sum_of us f ∷ []) (v 0) (k 0 ⊕ v 0) refl
sum_behind (t ∷ ts) us f = ap (λ z. t.factor *ₙ f t.column +ₙ z) (sum_behind ts us f)
    ∙ by_ring ((t.factor *ₙ f t.column) ∷ sum_of ts f ∷ sum_of us f ∷ []) (v 0 ⊕ (v 1 ⊕ v 2)) (v 0 ⊕ v 1 ⊕ v 2) refl

pub sum_opposite : (ts : List Term) (f : Assignment) → sum_of (opposite ts) f ≡ neg (sum_of ts f)
sum_opposite [] f = by_ring [] (k 0) (minus (k 0)) refl
sum_opposite (t ∷ ts) f = ap (λ z. neg t.factor *ₙ f t.column +ₙ z) (sum_opposite ts f)
    ∙ by_ring (t.factor ∷ f t.column ∷ sum_of ts f ∷ []) (minus (v 0) ⊗ v 1 ⊕ minus (v 2)) (minus (v 0 ⊗ v 1 ⊕ v 2)) refl

pub value_same : (F : Affine) (f g : Assignment) → EachColumn (λ c. f c ≡ g c) F.terms → value F f ≡ value F g
unfolding value
value_same F f g h = ap (λ z. z +ₙ F.constant) (sum_same F.terms f g h)

-- ---- rows
pub holds_moved : (n : ℕ) (r : Row) (f : Assignment) → Holds f (moved_row n r) ↔ Holds (λ c. f (n + c)) r
unfolding Holds
holds_moved n r f = (subst (λ z. compared r.eq z r.bound) (sum_moved n r.terms f), subst (λ z. compared r.eq z r.bound) (sym (sum_moved n r.terms f)))

pub hold_moved : (n : ℕ) (rs : List Row) (f : Assignment) → HoldAll f (map (moved_row n) rs) ↔ HoldAll (λ c. f (n + c)) rs
hold_moved n [] f = (λ h. tt, λ h. tt)
hold_moved n (r ∷ rs) f = (λ h. ((holds_moved n r f).0 h.0, (hold_moved n rs f).0 h.1), λ h. ((holds_moved n r f).1 h.0, (hold_moved n rs f).1 h.1))

pub holds_same : (r : Row) (f g : Assignment) → EachColumn (λ c. f c ≡ g c) r.terms → Holds f r → Holds g r
unfolding Holds
holds_same r f g h = subst (λ z. compared r.eq z r.bound) (sum_same r.terms f g h)

pub hold_behind : (rs ss : List Row) (f : Assignment) → HoldAll f (rs ++ ss) ↔ HoldAll f rs × HoldAll f ss
hold_behind [] ss f = (λ h. (tt, h), λ h. h.1)
hold_behind (r ∷ rs) ss f = (λ h. ((h.0, ((hold_behind rs ss f).0 h.1).0), ((hold_behind rs ss f).0 h.1).1), λ h. (h.0.0, (hold_behind rs ss f).1 (h.0.1, h.1)))

-- ---- equations
shifted : (s x c : Number) → (neg s +ₙ (whole 1 *ₙ x +ₙ whole 0) ≡ c) ↔ (s +ₙ c ≡ x)
shifted s x c = (
  λ e. ap (λ z. s +ₙ z) (sym e) ∙ by_ring (s ∷ x ∷ []) (v 0 ⊕ (minus (v 0) ⊕ (k 1 ⊗ v 1 ⊕ k 0))) (v 1) refl,
  λ e. ap (λ z. neg s +ₙ (whole 1 *ₙ z +ₙ whole 0)) (sym e) ∙ by_ring (s ∷ c ∷ []) (minus (v 0) ⊕ (k 1 ⊗ (v 0 ⊕ v 1) ⊕ k 0)) (v 1) refl,
)

equation_sum : (m n : ℕ) (F : Affine) (f : Assignment) → sum_of (equation m n F).terms f ≡ neg (sum_of F.terms (λ c. f (m + c))) +ₙ (whole 1 *ₙ f n +ₙ whole 0)
equation_sum m n F f =
    sum_behind (moved m (opposite F.terms)) (record { column = n; factor = whole 1 } ∷ []) f
    ∙ ap (λ z. z +ₙ (whole 1 *ₙ f n +ₙ whole 0)) (sum_moved m (opposite F.terms) f ∙ sum_opposite F.terms (λ c. f (m + c)))

pub equation_is : (m n : ℕ) (F : Affine) (f : Assignment) → Holds f (equation m n F) ↔ (value F (λ c. f (m + c)) ≡ f n)
unfolding Holds value
equation_is m n F f = (
  λ h. (shifted (sum_of F.terms (λ c. f (m + c))) (f n) F.constant).0 (sym (equation_sum m n F f) ∙ h),
  λ h. equation_sum m n F f ∙ (shifted (sum_of F.terms (λ c. f (m + c))) (f n) F.constant).1 h,
)

equations_next : (m n : ℕ) (F : Affine) (fs : List Affine) (f : Assignment) (a : Number) (next : List Number) → f n ≡ a →
    (HoldAll f (equations m (suc n) fs) ↔ (map (λ G. value G (λ c. f (m + c))) fs ≡ take (length fs) next)) →
    HoldAll f (equation m n F ∷ equations m (suc n) fs) ↔ ((value F (λ c. f (m + c)) ∷ map (λ G. value G (λ c. f (m + c))) fs) ≡ (a ∷ take (length fs) next))
equations_next m n F fs f a next here rest = (
  λ e. ap₂ (λ (x : Number) (xs : List Number). x ∷ xs) ((equation_is m n F f).0 e.0 ∙ here) (rest.0 e.1),
  λ e. let x : value F (λ c. f (m + c)) ≡ a = cc in let xs : map (λ G. value G (λ c. f (m + c))) fs ≡ take (length fs) next = cc in
      ((equation_is m n F f).1 (x ∙ sym here), rest.1 xs),
)

-- the next states are the numbers that the forms have
pub equations_are : (m n : ℕ) (fs : List Affine) (f : Assignment) (next : List Number) → ((i : ℕ) → f (n + i) ≡ at next i) → length fs ≤ length next →
    HoldAll f (equations m n fs) ↔ (map (λ F. value F (λ c. f (m + c))) fs ≡ take (length fs) next)
equations_are m n [] f next h l = (λ e. refl, λ e. tt)
equations_are m n (F ∷ fs) f [] h l = absurd (omega (arith, l))
equations_are m n (F ∷ fs) f (a ∷ next) h l = equations_next m n F fs f a next (let q : n ≡ n + 0 = omega arith in ap f q ∙ h 0)
    (equations_are m (suc n) fs f next (λ i. let q : suc n + i ≡ n + suc i = omega arith in ap f q ∙ h (suc i)) (omega (arith, l)))

-- ---- boxes
-- each number is in the box at its place, and there are as many
abbrev pub InEach : List Interval → List Number → Type 0
InEach [] [] = Unit {0}
InEach [] (a ∷ as') = ⊥
InEach (i ∷ is) [] = ⊥
InEach (i ∷ is) (a ∷ as') = Within i a × InEach is as'

pub in_each_long : (is : List Interval) (xs : List Number) → InEach is xs → length xs ≡ length is
in_each_long [] [] h = refl
in_each_long [] (a ∷ as') h = absurd h
in_each_long (i ∷ is) [] h = absurd h
in_each_long (i ∷ is) (a ∷ as') h = ap suc (in_each_long is as' h.1)

pub in_each_split : (is js : List Interval) (xs : List Number) → InEach (is ++ js) xs → InEach is (take (length is) xs) × InEach js (drop (length is) xs)
in_each_split [] js xs h = (tt, h)
in_each_split (i ∷ is) js [] h = absurd h
in_each_split (i ∷ is) js (a ∷ as') h = ((h.0, (in_each_split is js as' h.1).0), (in_each_split is js as' h.1).1)

pub in_each_join : (is js : List Interval) (xs ys : List Number) → InEach is xs → InEach js ys → InEach (is ++ js) (xs ++ ys)
in_each_join [] js [] ys h m = m
in_each_join [] js (a ∷ as') ys h m = absurd h
in_each_join (i ∷ is) js [] ys h m = absurd h
in_each_join (i ∷ is) js (a ∷ as') ys h m = (h.0, in_each_join is js as' ys h.1 m)

-- ---- branch columns
abbrev pub is_branching : Column → Bool
is_branching c = is_bool c.kind && is_branch_role c.role

abbrev pub BitWhere : Bool → Number → Type 0
BitWhere true a = IsBit a
BitWhere false a = Unit {0}

-- 0 or 1 at each branch column
abbrev pub AreBits : List Column → List Number → Type 0
AreBits [] xs = Unit {0}
AreBits (c ∷ cs) [] = Unit {0}
AreBits (c ∷ cs) (a ∷ as') = BitWhere (is_branching c) a × AreBits cs as'

pub bits_are : (n : ℕ) (cs : List Column) (xs : List Number) (f : Assignment) → length xs ≡ length cs → ((i : ℕ) → i < length xs → f (n + i) ≡ at xs i) →
    AllByRecursion (λ c. IsBit (f c)) (branch_columns n cs) ↔ AreBits cs xs
bits_are n [] xs f l h = (λ e. tt, λ e. tt)
bits_are n (c ∷ cs) [] f l h = absurd (omega arith)
bits_are n (c ∷ cs) (a ∷ as') f l h = go (is_branching c)
    (bits_are (suc n) cs as' f (omega (arith, l)) (λ i m. let q : suc n + i ≡ n + suc i = omega arith in ap f q ∙ h (suc i) (omega (arith, m))))
  where
    here : f n ≡ a
    here = let q : n ≡ n + 0 = omega arith in ap f q ∙ h 0 (omega arith)

    go : (b : Bool) → (AllByRecursion (λ d. IsBit (f d)) (branch_columns (suc n) cs) ↔ AreBits cs as') →
        AllByRecursion (λ d. IsBit (f d)) (cond b (n ∷ branch_columns (suc n) cs) (branch_columns (suc n) cs)) ↔ (BitWhere b a × AreBits cs as')
    go true rest = (λ e. (subst IsBit here e.0, rest.0 e.1), λ e. (subst IsBit (sym here) e.0, rest.1 e.1))
    go false rest = (λ e. (tt, rest.0 e), λ e. rest.1 e.1)

pub all_behind : (P : ℕ → Type 0) (xs ys : List ℕ) → AllByRecursion P (xs ++ ys) ↔ AllByRecursion P xs × AllByRecursion P ys
all_behind P [] ys = (λ h. (tt, h), λ h. h.1)
all_behind P (x ∷ xs) ys = (λ h. ((h.0, ((all_behind P xs ys).0 h.1).0), ((all_behind P xs ys).0 h.1).1), λ h. (h.0.0, (all_behind P xs ys).1 (h.0.1, h.1)))

-- what holds of each member holds of the whole list, and the other way round
pub of_members : (P : ℕ → Type 0) (cs : List ℕ) → ((c : ℕ) → list_any (nat_eq c) cs ≡ true → P c) → AllByRecursion P cs
of_members P [] h = tt
of_members P (c ∷ cs) h = (h c (rw (own_column c) refl), of_members P cs (λ d e. h d (later d e)))
  where
    later : (d : ℕ) → list_any (nat_eq d) cs ≡ true → list_any (nat_eq d) (c ∷ cs) ≡ true
    later d e = go (nat_eq d c)
      where
        go : (b : Bool) → (b || list_any (nat_eq d) cs) ≡ true
        go true = refl
        go false = e

pub at_member : (P : ℕ → Type 0) (cs : List ℕ) (c : ℕ) → AllByRecursion P cs → list_any (nat_eq c) cs ≡ true → P c
at_member P [] c h e = absurd (let n : false ≡ true = e in cc)
at_member P (d ∷ cs) c h e = go (nat_eq c d) refl e (at_member P cs c h.1)
  where
    go : (t : Bool) → nat_eq c d ≡ t → (t || list_any (nat_eq c) cs) ≡ true → (list_any (nat_eq c) cs ≡ true → P c) → P c
    go true q f rest = subst P (sym (same_column c d q)) h.0
    go false q f rest = rest f
