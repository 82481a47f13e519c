-- What the rows of a body mean.
use Rattle.std.proofs.Common.{◌≡◌, ◌↔◌, ℕ, List, [], ◌∷◌, ◌++◌, Option, Some, None, Bool, true, false, cond, refl, sym, ◌∙◌, ap, subst, arith, inl, inr, ◌⊎◌}
use Rattle.hys_number.specs.Number.{Number}
use Rattle.hys_number.specs.Ops.{◌+ₙ◌, neg, whole, ◌≤ₙ◌, ◌<ₙ◌}
use Rattle.hys_number.proofs.Order.{le_total, lt_irrefl, lt_of_lt-le}
use Rattle.hys_number.proofs.Laws.{whole-ratio}
use Rattle.hys_number.proofs.Scale.{overs, common2, common2_of}
use Rattle.hys_lin.specs.declared.form.Affine.{Affine}
use Rattle.hys_lin.specs.declared.form.Interval.{Interval}
use Rattle.hys_lin.specs.declared.form.Row.{Row}
use Rattle.hys_lin.specs.declared.form.Term.{Term}
use Rattle.hys_lin.specs.Bits.{bit, IsBit}
use Rattle.hys_lin.specs.Ranges.{box_at}
use Rattle.hys_lin.specs.Stated.{Stated, HoldStated, AreRows}
use Rattle.hys_lin.specs.Sums.{Assignment, sum_of, value, EachColumn, HoldAll, Within}
use Rattle.hys_lin.proofs.Stated.{rows_hold}
use Rattle.hys_formula.specs.declared.formula.Formula.{Formula}
use Rattle.hys_formula.specs.Formulas.{FormulaTree, tree_of, truth, EachName}
use Rattle.hys_prog.specs.declared.program.Body.{Body}
use Rattle.hys_prog.specs.declared.program.Body.TheVariants.{Guard, Choice, Logic, Linear, NextBool, NextReal, OutBool, OutReal, MustHold, MustMost, MustZero}
use Rattle.hys_prog.specs.declared.program.Name.{Name}
use Rattle.hys_prog.specs.Programs.{NameAt, IsBooleanVariable, BodyOver, FormulaOver, Named}
use Rattle.hys_prog.specs.Orders.{HasTerm}
use Rattle.hys_prog.specs.Steps.{Case, OfName, GapAt, DemandOf}
use Rattle.hys_bound.specs.Ranges.{range}
use Rattle.hys_bound.proofs.Holding.{form_within}
use Rattle.hys_logic.specs.declared.usage.Use.{Use}
use Rattle.hys_logic.specs.declared.usage.Use.TheVariants.{Read, Define, Require}
use Rattle.hys_logic.specs.Literals.{column_in}
use Rattle.hys_logic.specs.Rows.{Agrees, BitsFrom}
use Rattle.hys_logic.specs.Tables.{is_short}
use Rattle.hys_logic.specs.Uses.{fresh_if, fresh_by, fresh_count, literal_by, HasBit, IsSolved}
use Rattle.hys_logic.proofs.Terms.{own_value, own_sorted}
use Rattle.hys_logic.proofs.Truths.{name_more}
use Rattle.hys_logic.proofs.Used.{rows_solved, literal_solved}
use Rattle.hys_guard.specs.Bits.{chosen}
use Rattle.hys_guard.specs.Stated.{guard_stated, copy_stated}
use Rattle.hys_guard.proofs.Meaning.{guard_means, choice_means, copy_means}
use Rattle.hys_exact.specs.Parts.{by_columns, HasBits, AreInside}
use Rattle.hys_rows.specs.Items.{fresh_in}
use Rattle.hys_rows.specs.Moved.{moved}
use Rattle.hys_rows.specs.Parts.{at_most, at_least, literal_form, formula_stated, chosen_stated, body_stated, own_column, truths_in}
use Rattle.hys_rows.proofs.Adding.{define_count}
use Rattle.hys_rows.proofs.Moving.{moved_value}
use Rattle.hys_rows.proofs.Placing.{truth_boolean}

-- ---- lists of rows
hold_both : (v : Assignment) (xs ys : List Row) → HoldAll v (xs ++ ys) ↔ (HoldAll v xs × HoldAll v ys)
hold_both v [] ys = (λ h. (tt, h), λ h. h.1)
hold_both v (r ∷ rs) ys = let e : HoldAll v (rs ++ ys) ↔ (HoldAll v rs × HoldAll v ys) = hold_both v rs ys in (λ h. let k = e.0 h.1 in ((h.0, k.0), k.1), λ h. (h.0.0, e.1 (h.0.1, h.1)))

-- rows that are stated in two lists are rows of the one and rows of the other
pub record Halves (rs : List Row) (ss ts : List Stated) : Type 0 where
  pub front : List Row
  pub back : List Row
  pub both : rs ≡ front ++ back
  pub first : AreRows front ss
  pub second : AreRows back ts

pub halves : (rs : List Row) (ss ts : List Stated) → AreRows rs (ss ++ ts) → Halves rs ss ts
halves rs [] ts h = record { front = []; back = rs; both = refl; first = tt; second = h }
halves [] (s ∷ ss) ts h = absurd h
halves (r ∷ rs) (s ∷ ss) ts h =
    let q : Halves rs ss ts = halves rs ss ts h.1 in
    record { front = r ∷ q.front; back = q.back; both = ap (λ (xs : List Row). r ∷ xs) q.both; first = (h.0, q.first); second = q.second }

-- ---- numbers
most_is : (s c : Number) → (s ≤ₙ neg c) ↔ (s +ₙ c ≤ₙ whole 0)
most_is s c = elim (common2_of s c) [ common2 D h p1 n1 p2 n2 e1 e2 ↦ rw (e1, e2) (simp (overs, whole-ratio 0 D h) (omega arith)) ]

zero_is : (s c : Number) → ((s ≤ₙ neg c) × (neg s ≤ₙ c)) ↔ (s +ₙ c ≡ whole 0)
zero_is s c = elim (common2_of s c) [ common2 D h p1 n1 p2 n2 e1 e2 ↦ rw (e1, e2) (simp (overs, whole-ratio 0 D h) (omega arith)) ]

abbrev Guarded : Number → Number → Number → Type 0
Guarded e g d = ((g ≤ₙ whole 0) × (d ≡ whole 1)) ⊎ ((e ≤ₙ g) × (d ≡ whole 0))

abbrev Cased : Number → Number → Type 0
Cased g d = ((g ≤ₙ whole 0) × (d ≡ whole 1)) ⊎ ((whole 0 <ₙ g) × (d ≡ whole 0))

guard_case : (e g d : Number) → whole 0 <ₙ e → Guarded e g d ↔ (Cased g d × ((whole 0 <ₙ g) × (g <ₙ e) → ⊥))
guard_case e g d p = (there, λ h. back h.0 h.1)
  where
    there : Guarded e g d → Cased g d × ((whole 0 <ₙ g) × (g <ₙ e) → ⊥)
    there (inl h) = (inl h, λ k. lt_irrefl (whole 0) (lt_of_lt-le (whole 0) g (whole 0) k.0 h.0))
    there (inr h) = (inr (lt_of_lt-le (whole 0) e g p h.0, h.1), λ k. lt_irrefl g (lt_of_lt-le g e g k.1 h.0))

    above : (e ≤ₙ g) ⊎ (g <ₙ e) → whole 0 <ₙ g → ((whole 0 <ₙ g) × (g <ₙ e) → ⊥) → e ≤ₙ g
    above (inl l) z k = l
    above (inr l) z k = absurd (k (z, l))

    back : Cased g d → ((whole 0 <ₙ g) × (g <ₙ e) → ⊥) → Guarded e g d
    back (inl h) k = inl h
    back (inr h) k = inr (above (le_total e g) h.0 k, h.1)

-- ---- forms
each_has : (P : ℕ → Type 0) (ts : List Term) (c : ℕ) → EachColumn P ts → HasTerm c ts → P c
each_has P [] c h i = absurd i
each_has P (t ∷ ts) c h (inl e) = subst P e h.0
each_has P (t ∷ ts) c h (inr i) = each_has P ts c h.1 i

inside : (boxes : List Interval) (w : Assignment) (f : Affine) → EachColumn (λ n. Within (box_at boxes n) (w n)) f.terms → Within (range boxes f) (value f w)
inside boxes w f h = form_within boxes w f (λ c i. each_has (λ n. Within (box_at boxes n) (w n)) f.terms c h i)

moved_inside : (boxes : List Interval) (columns : List ℕ) (v : Assignment) (f : Affine) → EachColumn (λ n. Within (box_at boxes n) (by_columns columns v n)) f.terms → Within (range boxes f) (value (moved columns f) v)
moved_inside boxes columns v f h = rw (moved_value columns f v) (inside boxes (by_columns columns v) f h)

-- ---- formulas
name_bits : (names : List Name) (columns : List ℕ) (v : Assignment) (l : Formula) → FormulaOver names l → HasBits names (by_columns columns v) → EachName (λ m. IsBit (v (column_in columns m))) (tree_of l)
name_bits names columns v l o b = name_more (λ n. NameAt names n IsBooleanVariable) (λ m. IsBit (v (column_in columns m))) (tree_of l) (λ n q. b n q) o

formula_solved : (names : List Name) (u : Use) (columns : List ℕ) (k n : ℕ) (l : Formula) (rs : List Row) (v : Assignment) → AreRows rs (formula_stated u columns k l) → n ≡ fresh_count u (column_in columns) (tree_of l) → FormulaOver names l →
    HasBits names (by_columns columns v) → HasBit u v → BitsFrom v k n → HoldAll v rs ↔ IsSolved u columns k v (tree_of l)
formula_solved names u columns k n l rs v a e o b h f = rows_solved rs u columns k n (tree_of l) v a e (name_bits names columns v l o b) h f

pub literal_value : (names : List Name) (columns : List ℕ) (k : ℕ) (l : Formula) (v : Assignment) → FormulaOver names l → HasBits names (by_columns columns v) → Agrees v k (fresh_by Read (column_in columns) (tree_of l) (by_columns columns v)) →
    value (literal_form columns k l) v ≡ bit (truth (tree_of l) (by_columns columns v))
literal_value names columns k l v o b a = own_value (literal_by Read (column_in columns) k (tree_of l)) (literal_form columns k l) v refl refl
    ∙ literal_solved Read columns k (tree_of l) v (name_bits names columns v l o b) (a, tt)

define_if : (b : Bool) (z : ℕ) (f : FormulaTree) (w : Assignment) → fresh_if b (Define z) f w ≡ fresh_if b (Define 0) f w
define_if true z f w = refl
define_if false z f w = refl

define_truths : (z : ℕ) (p : ℕ → ℕ) (f : FormulaTree) (w : Assignment) → fresh_by (Define z) p f w ≡ fresh_by (Define 0) p f w
define_truths z p f w = define_if (is_short p f) z f w

chosen_is : (t : Bool) (a b : Number) → chosen t a b ≡ cond t a b
chosen_is true a b = refl
chosen_is false a b = refl

-- ---- bodies
-- the case of the body and its demand hold, and its guard number isn't in the gap
abbrev pub Met : Assignment → Option ℕ → Body → Type 0
Met w name b = OfName (λ n. Case w n b) name × (GapAt w b → ⊥) × DemandOf w b

of_any : (name : Option ℕ) → OfName (λ n. Unit {0}) name
of_any (Some n) = tt
of_any None = tt

-- the rows of the body hold where it is met and its fresh columns have their truths
abbrev pub BodyMeans : List Interval → List ℕ → ℕ → Option ℕ → Body → List Row → Assignment → Type 0
BodyMeans boxes columns k name b rows v =
    HoldAll v rows ↔ (Met (by_columns columns v) name b × Agrees v k (truths_in columns b (by_columns columns v)))

guard_body : (boxes : List Interval) (columns : List ℕ) (k n : ℕ) (f : Affine) (e : Number) (rows : List Row) (v : Assignment) → whole 0 <ₙ e → AreRows rows (guard_stated (moved columns f) (range boxes f) e (column_in columns n)) →
    IsBit (v (column_in columns n)) → EachColumn (λ m. Within (box_at boxes m) (by_columns columns v m)) f.terms → BodyMeans boxes columns k (Some n) (Guard f e) rows v
guard_body boxes columns k n f e rows v p a b i =
    let q : HoldAll v rows ↔ Guarded e (value (moved columns f) v) (v (column_in columns n)) = guard_means (moved columns f) (range boxes f) e (column_in columns n) rows a v (moved_inside boxes columns v f i) b in
    let r : HoldAll v rows ↔ Guarded e (value f (by_columns columns v)) (v (column_in columns n)) = rw (moved_value columns f v) at q in
    let s : Guarded e (value f (by_columns columns v)) (v (column_in columns n)) ↔ (Cased (value f (by_columns columns v)) (v (column_in columns n)) × ((whole 0 <ₙ value f (by_columns columns v)) × (value f (by_columns columns v) <ₙ e) → ⊥)) = guard_case e (value f (by_columns columns v)) (v (column_in columns n)) p in
    (λ h. let m = s.0 (r.0 h) in ((m.0, m.1, tt), tt), λ h. r.1 (s.1 (h.0.0, h.0.1)))

choice_body : (names : List Name) (boxes : List Interval) (columns : List ℕ) (k n : ℕ) (l : Formula) (f g : Affine) (rows : List Row) (v : Assignment) → FormulaOver names l →
    AreRows rows (formula_stated Read columns k l ++ chosen_stated boxes columns k (column_in columns n) l f g) → HasBits names (by_columns columns v) → BitsFrom v k (fresh_count Read (column_in columns) (tree_of l)) →
    AreInside boxes (by_columns columns v) (Choice l f g) → BodyMeans boxes columns k (Some n) (Choice l f g) rows v
choice_body names boxes columns k n l f g rows v o a b j i =
    let q : Halves rows (formula_stated Read columns k l) (chosen_stated boxes columns k (column_in columns n) l f g) = halves rows _ _ a in
    let w : Assignment = by_columns columns v in
    let s : HoldAll v q.front ↔ IsSolved Read columns k v (tree_of l) = formula_solved names Read columns k _ l q.front v q.first refl o b tt j in
    let c : Agrees v k (fresh_by Read (column_in columns) (tree_of l) (by_columns columns v)) → HoldAll v q.back ↔ (v (column_in columns n) ≡ cond (truth (tree_of l) (by_columns columns v)) (value f (by_columns columns v)) (value g (by_columns columns v))) =
    λ h. rw (moved_value columns f v, moved_value columns g v, chosen_is (truth (tree_of l) (by_columns columns v)) (value f (by_columns columns v)) (value g (by_columns columns v))) at
    (choice_means (literal_form columns k l) (moved columns f) (range boxes f) (moved columns g) (range boxes g) (column_in columns n) q.back (own_sorted (literal_by Read (column_in columns) k (tree_of l))).1 q.second v (truth (tree_of l) (by_columns columns v))
    (literal_value names columns k l v o b h) (moved_inside boxes columns v f i.0) (moved_inside boxes columns v g i.1)) in
    let both : HoldAll v rows ↔ (HoldAll v q.front × HoldAll v q.back) = subst (λ (rs : List Row). HoldAll v rs ↔ (HoldAll v q.front × HoldAll v q.back)) (sym q.both) (hold_both v q.front q.back) in (
      λ h.
          let p : HoldAll v q.front × HoldAll v q.back = both.0 h in
          let t : IsSolved Read columns k v (tree_of l) = s.0 p.0 in
          (((c t.0).0 p.1, λ x. x, tt), t.0),
      λ h. both.1 (s.1 (h.1, tt), (c h.1).1 h.0.0),
    )

logic_body : (names : List Name) (boxes : List Interval) (columns : List ℕ) (k n : ℕ) (l : Formula) (rows : List Row) (v : Assignment) → FormulaOver names l → AreRows rows (formula_stated (Define (column_in columns n)) columns k l) →
    HasBits names (by_columns columns v) → IsBit (v (column_in columns n)) → BitsFrom v k (fresh_count (Define 0) (column_in columns) (tree_of l)) → BodyMeans boxes columns k (Some n) (Logic l) rows v
logic_body names boxes columns k n l rows v o a b z j =
    let s : HoldAll v rows ↔ IsSolved (Define (column_in columns n)) columns k v (tree_of l) = formula_solved names (Define (column_in columns n)) columns k _ l rows v a (sym (define_count (column_in columns n) (column_in columns) (tree_of l))) o b z j in
    let e : fresh_by (Define (column_in columns n)) (column_in columns) (tree_of l) (by_columns columns v) ≡ fresh_by (Define 0) (column_in columns) (tree_of l) (by_columns columns v) = define_truths (column_in columns n) (column_in columns) (tree_of l) (by_columns columns v) in
    (λ h. let t = s.0 h in ((t.1, λ x. x, tt), subst (Agrees v k) e t.0), λ h. s.1 (subst (Agrees v k) (sym e) h.1, h.0.0))

copy_body : (boxes : List Interval) (columns : List ℕ) (k n : ℕ) (f : Affine) (rows : List Row) (v : Assignment) → AreRows rows (copy_stated (moved columns f) (column_in columns n)) → BodyMeans boxes columns k (Some n) (Linear f) rows v
copy_body boxes columns k n f rows v a =
    let q : HoldAll v rows ↔ (v (column_in columns n) ≡ value f (by_columns columns v)) = rw (moved_value columns f v) at (copy_means (moved columns f) (column_in columns n) rows a v) in
    (λ h. ((q.0 h, λ x. x, tt), tt), λ h. q.1 h.0.0)

-- the rows of a formula that is read tell its fresh columns alone
read_rows : (names : List Name) (columns : List ℕ) (k : ℕ) (l : Formula) (rows : List Row) (v : Assignment) → FormulaOver names l → AreRows rows (formula_stated Read columns k l) → HasBits names (by_columns columns v) → BitsFrom v k (fresh_count Read (column_in columns) (tree_of l)) →
    HoldAll v rows ↔ Agrees v k (fresh_by Read (column_in columns) (tree_of l) (by_columns columns v))
read_rows names columns k l rows v o a b j =
    let s : HoldAll v rows ↔ IsSolved Read columns k v (tree_of l) = formula_solved names Read columns k _ l rows v a refl o b tt j in
    (λ h. (s.0 h).0, λ h. s.1 (h, tt))

no_rows : (rows : List Row) (v : Assignment) → AreRows rows [] → HoldAll v rows
no_rows [] v a = tt
no_rows (r ∷ rs) v a = absurd a

most_body : (columns : List ℕ) (f : Affine) (rows : List Row) (v : Assignment) → AreRows rows (at_most (moved columns f) ∷ []) → HoldAll v rows ↔ (value f (by_columns columns v) ≤ₙ whole 0)
unfolding value
most_body columns f rows w a =
    let p : HoldAll w rows ↔ HoldStated w (at_most (moved columns f) ∷ []) = rows_hold rows _ w a in
    let q : (sum_of (moved columns f).terms w ≤ₙ neg f.constant) ↔ (sum_of (moved columns f).terms w +ₙ f.constant ≤ₙ whole 0) = most_is (sum_of (moved columns f).terms w) f.constant in
    let e : sum_of (moved columns f).terms w +ₙ f.constant ≡ sum_of f.terms (by_columns columns w) +ₙ f.constant = moved_value columns f w in
    (λ h. subst (λ (x : Number). x ≤ₙ whole 0) e (q.0 (p.0 h).0), λ h. p.1 (q.1 (subst (λ (x : Number). x ≤ₙ whole 0) (sym e) h), tt))

zero_body : (columns : List ℕ) (f : Affine) (rows : List Row) (v : Assignment) → AreRows rows (at_most (moved columns f) ∷ at_least (moved columns f) ∷ []) → HoldAll v rows ↔ (value f (by_columns columns v) ≡ whole 0)
unfolding value
zero_body columns f rows w a =
    let p : HoldAll w rows ↔ HoldStated w (at_most (moved columns f) ∷ at_least (moved columns f) ∷ []) = rows_hold rows _ w a in
    let q : ((sum_of (moved columns f).terms w ≤ₙ neg f.constant) × (neg (sum_of (moved columns f).terms w) ≤ₙ f.constant)) ↔ (sum_of (moved columns f).terms w +ₙ f.constant ≡ whole 0) = zero_is (sum_of (moved columns f).terms w) f.constant in
    let e : sum_of (moved columns f).terms w +ₙ f.constant ≡ sum_of f.terms (by_columns columns w) +ₙ f.constant = moved_value columns f w in
    (λ h. let g = p.0 h in sym e ∙ q.0 (g.0, g.1.0), λ h. let g = q.1 (e ∙ h) in p.1 (g.0, (g.1, tt)))

pub body_means : (names : List Name) (boxes : List Interval) (columns : List ℕ) (k : ℕ) (name : Option ℕ) (b : Body) (rows : List Row) (v : Assignment) → BodyOver names b → Named names name b →
    AreRows rows (body_stated boxes columns k (own_column columns name) b) → HasBits names (by_columns columns v) → BitsFrom v k (fresh_in columns b) → AreInside boxes (by_columns columns v) b → BodyMeans boxes columns k name b rows v
body_means names boxes columns k (Some n) (Guard f e) rows v o s a b j i = guard_body boxes columns k n f e rows v o.1 a (b n (truth_boolean names n s)) i
body_means names boxes columns k None (Guard f e) rows v o s a b j i = absurd (cc)
body_means names boxes columns k (Some n) (Choice l f g) rows v o s a b j i = choice_body names boxes columns k n l f g rows v o.0 a b j i
body_means names boxes columns k None (Choice l f g) rows v o s a b j i = absurd (cc)
body_means names boxes columns k (Some n) (Logic l) rows v o s a b j i = logic_body names boxes columns k n l rows v o a b (b n (truth_boolean names n s)) j
body_means names boxes columns k None (Logic l) rows v o s a b j i = absurd (cc)
body_means names boxes columns k (Some n) (Linear f) rows v o s a b j i = copy_body boxes columns k n f rows v a
body_means names boxes columns k None (Linear f) rows v o s a b j i = absurd (cc)
body_means names boxes columns k name (NextBool l) rows v o s a b j i = let q = read_rows names columns k l rows v o a b j in (λ h. ((of_any name, λ x. x, tt), q.0 h), λ h. q.1 h.1)
body_means names boxes columns k name (NextReal f) rows v o s a b j i = (λ h. ((of_any name, λ x. x, tt), tt), λ h. no_rows rows v a)
body_means names boxes columns k name (OutBool l) rows v o s a b j i = let q = read_rows names columns k l rows v o a b j in (λ h. ((of_any name, λ x. x, tt), q.0 h), λ h. q.1 h.1)
body_means names boxes columns k name (OutReal f) rows v o s a b j i = (λ h. ((of_any name, λ x. x, tt), tt), λ h. no_rows rows v a)
body_means names boxes columns k name (MustHold l) rows v o s a b j i =
    let q : HoldAll v rows ↔ IsSolved Require columns k v (tree_of l) = formula_solved names Require columns k _ l rows v a refl o b tt j in
    (λ h. let t = q.0 h in ((of_any name, λ x. x, t.1), t.0), λ h. q.1 (h.1, h.0.2))
body_means names boxes columns k name (MustMost f) rows v o s a b j i = let q = most_body columns f rows v a in (λ h. ((of_any name, λ x. x, q.0 h), tt), λ h. q.1 h.0.2)
body_means names boxes columns k name (MustZero f) rows v o s a b j i = let q = zero_body columns f rows v a in (λ h. ((of_any name, λ x. x, q.0 h), tt), λ h. q.1 h.0.2)
