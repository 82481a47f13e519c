-- The rows of a formula under a use: what they mean, how many they are, and which columns they name.
use Rattle.std.specs.Prelude.{◌≡◌, ℕ, ◌+◌, ◌*◌, ◌<◌, ◌≤◌, ◌↔◌, List, [], ◌∷◌, ◌++◌, length, Bool, true, false, Option, Some, None, ℤ, pos, negsuc}
use Rattle.std.proofs.Common.{refl, sym, ◌∙◌, ap, ap₂, arith, subst, length-append, append_assoc}
use Rattle.hys_number.specs.Number.{Number}
use Rattle.hys_number.specs.Ops.{◌+ₙ◌, ◌-ₙ◌, neg, ◌≤ₙ◌, whole, int}
use Rattle.hys_number.proofs.Laws.{whole-ratio}
use Rattle.hys_number.proofs.Field.{add_zero}
use Rattle.hys_number.proofs.Ring.{by_ring, k as num, ◌⊕◌, int-whole, int_minus}
use Rattle.hys_number.proofs.Scale.{overs, common5, common5_of}
use Rattle.hys_lin.specs.declared.form.Row.{Row}
use Rattle.hys_lin.specs.Bits.{bit, IsBit, is_one}
use Rattle.hys_lin.specs.Stated.{HoldStated, IsRow, AreRows}
use Rattle.hys_lin.specs.Sums.{Assignment, HoldAll}
use Rattle.hys_lin.proofs.Stated.{rows_hold}
use Rattle.hys_formula.specs.Formulas.{FormulaTree, constant, named, negated, joined, connectives, truth, EachName}
use Rattle.hys_logic.specs.declared.literal.Literal.{Literal}
use Rattle.hys_logic.specs.declared.literal.Literal.TheVariants.{Fixed, Column}
use Rattle.hys_logic.specs.declared.row.Sign.{Sign}
use Rattle.hys_logic.specs.declared.row.Sign.TheVariants.{Plus, Minus}
use Rattle.hys_logic.specs.declared.table.Setting.{Setting}
use Rattle.hys_logic.specs.declared.usage.Use.{Use}
use Rattle.hys_logic.specs.declared.usage.Use.TheVariants.{Read, Define, Require}
use Rattle.hys_logic.specs.Literals.{column_in, column_part, constant_part, number_of, literal_of, LiteralBelow}
use Rattle.hys_logic.specs.Rows.{signed, pair_by, Added, Agrees, BitsFrom, fresh_of, stated_of, PairBelow}
use Rattle.hys_logic.specs.Tables.{set_to, placed, names_among, are_few, is_short, names_of, columns_of, Each, table_of, IsAbsent, TargetBelow, AddsOver}
use Rattle.hys_logic.specs.Uses.{own_fresh, fresh_if, fresh_by, own_count, count_if, fresh_count, read_if, literal_under, literal_by, tied, target_of, stated_if, stated_by, extra_rows, UseBelow, AddsTied, AddsStated, IsFree, HasBit, Obeys, IsSolved}
use Rattle.hys_logic.proofs.Connectives.{signed-add, none_is}
use Rattle.hys_logic.proofs.TableMeans.{few_some, target_means, must_means, table_count, names_each, truth_same}
use Rattle.hys_logic.proofs.Truths.{bit_is, hold-append, stated_means, literal_is, literal_below, same_length, count, added_twice, length-fresh, name_more}

-- ---- two literals
moved_pair : (a c b d z : Number) → (a +ₙ b ≤ₙ z -ₙ c -ₙ d) ↔ (a +ₙ c +ₙ (b +ₙ d) ≤ₙ z)
moved_pair a c b d z = elim (common5_of a c b d z) [ common5 D h p1 n1 p2 n2 p3 n3 p4 n4 p5 n5 e1 e2 e3 e4 e5 ↦ rw (e1, e2, e3, e4, e5) (simp overs (omega arith)) ]

pair_at : (s t : Sign) (a b : Literal) (z : ℤ) (base : Number) (v : Assignment) (l m : Bool) → int z ≡ base → number_of a v ≡ bit l → number_of b v ≡ bit m →
    ((pair_by s a t b z).left v ≤ₙ (pair_by s a t b z).bound) ↔ (signed s (bit l) +ₙ signed t (bit m) ≤ₙ base)
pair_at s t a b z base v l m e f g =
    let y : ((pair_by s a t b z).left v ≤ₙ (pair_by s a t b z).bound) ↔ (signed s (column_part a v) +ₙ signed s (constant_part a) +ₙ (signed t (column_part b v) +ₙ signed t (constant_part b)) ≤ₙ int z) =
    moved_pair (signed s (column_part a v)) (signed s (constant_part a)) (signed t (column_part b v)) (signed t (constant_part b)) (int z) in
    let q : signed s (column_part a v) +ₙ signed s (constant_part a) +ₙ (signed t (column_part b v) +ₙ signed t (constant_part b)) ≡ signed s (bit l) +ₙ signed t (bit m) =
    ap₂ ◌+ₙ◌ (sym (signed-add s (column_part a v) (constant_part a)) ∙ ap (signed s) f) (sym (signed-add t (column_part b v) (constant_part b)) ∙ ap (signed t) g) in (
      λ d. subst (λ (n : Number). signed s (bit l) +ₙ signed t (bit m) ≤ₙ n) e (subst (λ (n : Number). n ≤ₙ int z) q (y.0 d)),
      λ d. y.1 (subst (λ (n : Number). n ≤ₙ int z) (sym q) (subst (λ (n : Number). signed s (bit l) +ₙ signed t (bit m) ≤ₙ n) (sym e) d)),
    )

same_bits : (a b : Bool) → ((bit a +ₙ neg (bit b) ≤ₙ whole 0) × (neg (bit a) +ₙ bit b ≤ₙ whole 0)) ↔ (bit a ≡ bit b)
same_bits true true = let h : 0 < 1 = omega arith in simp (overs, whole-ratio 0 1 h, whole-ratio 1 1 h) (omega arith)
same_bits true false = let h : 0 < 1 = omega arith in simp (overs, whole-ratio 0 1 h, whole-ratio 1 1 h) (omega arith)
same_bits false true = let h : 0 < 1 = omega arith in simp (overs, whole-ratio 0 1 h, whole-ratio 1 1 h) (omega arith)
same_bits false false = let h : 0 < 1 = omega arith in simp (overs, whole-ratio 0 1 h, whole-ratio 1 1 h) (omega arith)

one_bits : (a : Bool) → (neg (bit a) +ₙ whole 0 ≤ₙ neg (whole 1)) ↔ (a ≡ true)
one_bits true = (λ h. refl, λ h. let i : 0 < 1 = omega arith in simp (overs, whole-ratio 0 1 i, whole-ratio 1 1 i) (omega arith))
one_bits false = (λ h. absurd (no_one h), λ h. absurd (cc))
  where
    no_one : neg (whole 0) +ₙ whole 0 ≤ₙ neg (whole 1) → ⊥
    no_one = let i : 0 < 1 = omega arith in simp (overs, whole-ratio 0 1 i, whole-ratio 1 1 i) (omega arith)

-- ---- what the rows mean
-- where the literal is the truth, the rows that tie it hold where the use has what it wants
tied_means : (u : Use) (l : Literal) (v : Assignment) (t : Bool) → HasBit u v → number_of l v ≡ bit t → HoldStated v (tied u l) ↔ Obeys u v t
tied_means Read l v t h e = (λ p. tt, λ p. tt)
tied_means (Define d) l v t h e =
    let own : number_of (Column d false) v ≡ bit (is_one (v d)) = add_zero (v d) ∙ bit_is (v d) h in
    let z : int (pos 0) ≡ whole 0 = int-whole 0 in
    let up = pair_at Plus Minus (Column d false) l (pos 0) (whole 0) v (is_one (v d)) t z own e in
    let down = pair_at Minus Plus (Column d false) l (pos 0) (whole 0) v (is_one (v d)) t z own e in
    let q : ((bit (is_one (v d)) +ₙ neg (bit t) ≤ₙ whole 0) × (neg (bit (is_one (v d))) +ₙ bit t ≤ₙ whole 0)) ↔ (bit (is_one (v d)) ≡ bit t) = same_bits (is_one (v d)) t in
    (λ p. bit_is (v d) h ∙ q.0 (up.0 p.0, down.0 p.1.0), λ p. let y = q.1 (sym (bit_is (v d) h) ∙ p) in (up.1 y.0, (down.1 y.1, tt)))
tied_means Require l v t h e =
    let one = pair_at Minus Plus l (Fixed false) (negsuc 0) (neg (whole 1)) v t false int_minus e (none_is v) in
    (λ p. (one_bits t).0 (one.0 p.0), λ p. (one.1 ((one_bits t).1 p), tt))

short_means : (u : Use) (p : ℕ → ℕ) (k : ℕ) (f : FormulaTree) (v : Assignment) → EachName (λ n. IsBit (v (p n))) f → HasBit u v → BitsFrom v k (own_count u) →
    HoldStated v (table_of (target_of u k) p f) ↔ (Agrees v k (own_fresh u (truth f (λ n. v (p n)))) × Obeys u v (truth f (λ n. v (p n))))
short_means Read p k f v i h j =
    let q : HoldStated v (table_of (Some k) p f) ↔ (v k ≡ bit (truth f (λ n. v (p n)))) = target_means k p f v i (j k (omega arith) (omega arith)) in
    (λ g. ((q.0 g, tt), tt), λ g. q.1 g.0.0)
short_means (Define d) p k f v i h j = let q : HoldStated v (table_of (Some d) p f) ↔ (v d ≡ bit (truth f (λ n. v (p n)))) = target_means d p f v i h in (λ g. (tt, q.0 g), λ g. q.1 g.1)
short_means Require p k f v i h j = let q : HoldStated v (table_of None p f) ↔ (truth f (λ n. v (p n)) ≡ true) = must_means p f v i in (λ g. (tt, q.0 g), λ g. q.1 g.1)

long_means : (u : Use) (p : ℕ → ℕ) (k : ℕ) (f : FormulaTree) (v : Assignment) → EachName (λ n. IsBit (v (p n))) f → HasBit u v → BitsFrom v k (connectives f) →
    HoldStated v (stated_of p k f ++ tied u (literal_of p k f)) ↔ (Agrees v k (fresh_of f (λ n. v (p n))) × Obeys u v (truth f (λ n. v (p n))))
long_means u p k f v i h j =
    let both : HoldStated v (stated_of p k f ++ tied u (literal_of p k f)) ↔ (HoldStated v (stated_of p k f) × HoldStated v (tied u (literal_of p k f))) = hold-append v (stated_of p k f) (tied u (literal_of p k f)) in
    let q : HoldStated v (stated_of p k f) ↔ Agrees v k (fresh_of f (λ n. v (p n))) = stated_means f p k v i j in
    let tie : Agrees v k (fresh_of f (λ n. v (p n))) → HoldStated v (tied u (literal_of p k f)) ↔ Obeys u v (truth f (λ n. v (p n))) = λ a. tied_means u (literal_of p k f) v (truth f (λ n. v (p n))) h (literal_is f p k v i a) in
    (λ g. let a = q.0 (both.0 g).0 in (a, (tie a).0 (both.0 g).1), λ g. both.1 (q.1 g.0, (tie g.0).1 g.1))

means_if : (b : Bool) (u : Use) (p : ℕ → ℕ) (k : ℕ) (f : FormulaTree) (v : Assignment) → EachName (λ n. IsBit (v (p n))) f → HasBit u v → BitsFrom v k (count_if b u f) →
    HoldStated v (stated_if b u p k f) ↔ (Agrees v k (fresh_if b u f (λ n. v (p n))) × Obeys u v (truth f (λ n. v (p n))))
means_if true u p k f v i h j = short_means u p k f v i h j
means_if false u p k f v i h j = long_means u p k f v i h j

pub rows_solved : (rs : List Row) (u : Use) (cs : List ℕ) (k n : ℕ) (f : FormulaTree) (v : Assignment) → AreRows rs (stated_by u (column_in cs) k f) → n ≡ fresh_count u (column_in cs) f → EachName (λ m. IsBit (v (column_in cs m))) f → HasBit u v →
    BitsFrom v k n → HoldAll v rs ↔ IsSolved u cs k v f
rows_solved rs u cs k n f v a e i h j =
    let x : HoldAll v rs ↔ HoldStated v (stated_by u (column_in cs) k f) = rows_hold rs (stated_by u (column_in cs) k f) v a in
    let y : HoldStated v (stated_by u (column_in cs) k f) ↔ IsSolved u cs k v f = means_if (is_short (column_in cs) f) u (column_in cs) k f v i h (subst (BitsFrom v k) e j) in
    (λ p. y.0 (x.0 p), λ p. x.1 (y.1 p))

-- ---- the literal
read_is : (b : Bool) (p : ℕ → ℕ) (k : ℕ) (f : FormulaTree) (v : Assignment) → EachName (λ n. IsBit (v (p n))) f → Agrees v k (fresh_if b Read f (λ n. v (p n))) → number_of (read_if b p k f) v ≡ bit (truth f (λ n. v (p n)))
read_is true p k f v i a = add_zero (v k) ∙ a.0
read_is false p k f v i a = literal_is f p k v i a

pub literal_solved : (u : Use) (cs : List ℕ) (k : ℕ) (f : FormulaTree) (v : Assignment) → EachName (λ m. IsBit (v (column_in cs m))) f → IsSolved u cs k v f →
    number_of (literal_by u (column_in cs) k f) v ≡ bit (truth f (λ n. v (column_in cs n)))
literal_solved Read cs k f v i h = read_is (is_short (column_in cs) f) (column_in cs) k f v i h.0
literal_solved (Define d) cs k f v i h = add_zero (v d) ∙ h.1
literal_solved Require cs k f v i h = by_ring [] (num 0 ⊕ num 1) (num 1) refl ∙ ap bit (sym h.1)

under_below : (b : Bool) (u : Use) (cs : List ℕ) (k : ℕ) (f : FormulaTree) → EachName (λ n. column_in cs n < k) f → IsFree u cs k f → LiteralBelow (k + count_if b u f) (literal_under u (read_if b (column_in cs) k f))
under_below true Read cs k f h i = omega arith
under_below false Read cs k f h i = literal_below f (column_in cs) k h
under_below b (Define d) cs k f h i = let l : d < k = i.0 in omega arith
under_below b Require cs k f h i = tt

pub used_below : (u : Use) (cs : List ℕ) (k : ℕ) (f : FormulaTree) → EachName (λ n. column_in cs n < k) f → IsFree u cs k f → LiteralBelow (k + fresh_count u (column_in cs) f) (literal_by u (column_in cs) k f)
used_below u cs k f h i = under_below (is_short (column_in cs) f) u cs k f h i

-- ---- how many
tied_few : (u : Use) (l : Literal) → length (tied u l) ≤ extra_rows u
tied_few Read l = omega arith
tied_few (Define d) l = omega arith
tied_few Require l = omega arith

count_by : (b : Bool) (u : Use) (p : ℕ → ℕ) (k : ℕ) (f : FormulaTree) → (b ≡ true → is_short p f ≡ true) → length (stated_if b u p k f) ≤ 4 * connectives f + extra_rows u
count_by true u p k f e = let x : length (table_of (target_of u k) p f) ≤ 4 * connectives f = table_count (target_of u k) p f (e refl) in omega arith
count_by false u p k f e =
    let x : length (stated_of p k f) ≤ 4 * connectives f = count f p k in
    let y : length (tied u (literal_of p k f)) ≤ extra_rows u = tied_few u (literal_of p k f) in
    simp length-append (omega arith)

pub used_count : (u : Use) (cs : List ℕ) (k : ℕ) (f : FormulaTree) (rs : List Row) → AreRows rs (stated_by u (column_in cs) k f) → length rs ≤ 4 * connectives f + extra_rows u
used_count u cs k f rs a =
    let x : length rs ≡ length (stated_by u (column_in cs) k f) = same_length rs (stated_by u (column_in cs) k f) a in
    let y : length (stated_by u (column_in cs) k f) ≤ 4 * connectives f + extra_rows u = count_by (is_short (column_in cs) f) u (column_in cs) k f (λ e. e) in
    omega arith

-- ---- adding
pub pair_added : (old mid new : List Row) (r s : Row) (d : ℕ) (l : Literal) → mid ≡ old ++ (r ∷ []) → new ≡ mid ++ (s ∷ []) → IsRow r (pair_by Plus (Column d false) Minus l (pos 0)) → IsRow s (pair_by Minus (Column d false) Plus l (pos 0)) →
    PairBelow (Column d false) l r → PairBelow (Column d false) l s → AddsTied (Define d) l old new
pair_added old mid new r s d l e g h i x y = λ n a b. (
  r ∷ s ∷ [],
  g ∙ ap (λ rs. rs ++ (s ∷ [])) e ∙ append_assoc old (r ∷ []) (s ∷ []),
  (h, (i, tt)),
  (x n a b, (y n a b, tt)),
)

pub one_added : (old new : List Row) (r : Row) (l : Literal) → new ≡ old ++ (r ∷ []) → IsRow r (pair_by Minus l Plus (Fixed false) (negsuc 0)) → PairBelow l (Fixed false) r → AddsTied Require l old new
one_added old new r l e h x = λ n a b. (r ∷ [], e, (h, tt), (x n b tt, tt))

free_below : (u : Use) (cs : List ℕ) (k n : ℕ) (f : FormulaTree) → k ≤ n → IsFree u cs k f → UseBelow n u
free_below Read cs k n f l h = tt
free_below (Define d) cs k n f l h = let e : d < k = h.0 in omega arith
free_below Require cs k n f l h = tt

pub long_added : (u : Use) (cs : List ℕ) (k : ℕ) (f : FormulaTree) (l : Literal) (old mid new : List Row) → EachName (λ n. column_in cs n < k) f → IsFree u cs k f → is_short (column_in cs) f ≡ false → l ≡ literal_of (column_in cs) k f →
    Added old mid (stated_of (column_in cs) k f) (k + connectives f) → AddsTied u l mid new → AddsStated u cs k f old new
long_added u cs k f l old mid new i h e q a b =
    let m : UseBelow (k + connectives f) u = free_below u cs k (k + connectives f) f (omega arith) h in
    let c : Added mid new (tied u (literal_of (column_in cs) k f)) (k + connectives f) = (subst (λ x. AddsTied u x mid new) q b) (k + connectives f) m (literal_below f (column_in cs) k i) in
    subst (λ (x : Bool). Added old new (stated_if x u (column_in cs) k f) (k + count_if x u f)) (sym e) (added_twice old mid new _ _ (k + connectives f) (k + connectives f) (omega arith) a c)

target_below : (u : Use) (cs : List ℕ) (k : ℕ) (f : FormulaTree) → IsFree u cs k f → TargetBelow (k + own_count u) (target_of u k)
target_below Read cs k f h = omega arith
target_below (Define d) cs k f h = let e : d < k = h.0 in omega arith
target_below Require cs k f h = tt

pub short_added : (u : Use) (cs : List ℕ) (k : ℕ) (f : FormulaTree) (target : Option ℕ) (old new : List Row) → EachName (λ n. column_in cs n < k) f → IsFree u cs k f → is_short (column_in cs) f ≡ true → target ≡ target_of u k →
    AddsOver target (columns_of (names_of (column_in cs) f)) (table_of target (column_in cs) f) old new → AddsStated u cs k f old new
short_added u cs k f target old new i h e q a =
    let b : AddsOver (target_of u k) (columns_of (names_of (column_in cs) f)) (table_of (target_of u k) (column_in cs) f) old new = subst (λ x. AddsOver x (columns_of (names_of (column_in cs) f)) (table_of x (column_in cs) f) old new) q a in
    let below : Each (λ c. c < k + own_count u) (columns_of (names_of (column_in cs) f)) = names_each (λ c. c < k + own_count u) (column_in cs) f [] (name_more (λ n. column_in cs n < k) (λ n. column_in cs n < k + own_count u) f (λ n l. omega arith) i) tt in
    subst (λ (x : Bool). Added old new (stated_if x u (column_in cs) k f) (k + count_if x u f)) (sym e) (b.0, b.1, b.2, b.3 (k + own_count u) below (target_below u cs k f h))

-- the target is no column of the names
pub target_absent : (u : Use) (cs : List ℕ) (k : ℕ) (f : FormulaTree) → EachName (λ n. column_in cs n < k) f → IsFree u cs k f → IsAbsent (target_of u k) (columns_of (names_of (column_in cs) f))
target_absent Read cs k f i h = names_each (λ c. k ≡ c → ⊥) (column_in cs) f [] (name_more (λ n. column_in cs n < k) (λ n. k ≡ column_in cs n → ⊥) f (λ n l e. absurd (omega arith)) i) tt
target_absent (Define d) cs k f i h = names_each (λ c. d ≡ c → ⊥) (column_in cs) f [] h.1 tt
target_absent Require cs k f i h = tt

pub only_below : (cs : List ℕ) (k : ℕ) (f : FormulaTree) → EachName (λ n. (n < length cs) × (column_in cs n < k)) f → EachName (λ n. column_in cs n < k) f
only_below cs k f h = name_more (λ n. (n < length cs) × (column_in cs n < k)) (λ n. column_in cs n < k) f (λ n q. q.1) h

pub only_within : (cs : List ℕ) (k : ℕ) (f : FormulaTree) → EachName (λ n. (n < length cs) × (column_in cs n < k)) f → EachName (λ n. n < length cs) f
only_within cs k f h = name_more (λ n. (n < length cs) × (column_in cs n < k)) (λ n. n < length cs) f (λ n q. q.0) h

-- ---- the fresh truths
names_same : (p : ℕ → ℕ) (f : FormulaTree) (w x : Assignment) → EachName (λ n. w n ≡ x n) f → EachName (λ n. is_one (w n) ≡ is_one (x n)) f
names_same p f w x h = name_more (λ n. w n ≡ x n) (λ n. is_one (w n) ≡ is_one (x n)) f (λ n e. ap is_one e) h

fresh_same : (f : FormulaTree) (w x : Assignment) → EachName (λ n. is_one (w n) ≡ is_one (x n)) f → fresh_of f w ≡ fresh_of f x
fresh_same (constant b) w x h = refl
fresh_same (named n) w x h = refl
fresh_same (negated f) w x h = fresh_same f w x h
fresh_same (joined c f g) w x h =
    rw (fresh_same f w x h.0, fresh_same g w x h.1, truth_same f w x h.0, truth_same g w x h.1) refl

-- the fresh truths are those that the names' numbers give
pub fresh_names : (u : Use) (p : ℕ → ℕ) (f : FormulaTree) (w x : Assignment) → EachName (λ n. w n ≡ x n) f → fresh_by u p f w ≡ fresh_by u p f x
fresh_names u p f w x h = by_short (is_short p f)
  where
    by_short : (b : Bool) → fresh_if b u f w ≡ fresh_if b u f x
    by_short true = ap (own_fresh u) (truth_same f w x (names_same p f w x h))
    by_short false = fresh_same f w x (names_same p f w x h)

own_length : (u : Use) (t : Bool) → length (own_fresh u t) ≡ own_count u
own_length Read t = refl
own_length (Define d) t = refl
own_length Require t = refl

-- and as many as there are fresh columns
pub fresh_length : (u : Use) (p : ℕ → ℕ) (f : FormulaTree) (w : Assignment) → length (fresh_by u p f w) ≡ fresh_count u p f
fresh_length u p f w = by_short (is_short p f)
  where
    by_short : (b : Bool) → length (fresh_if b u f w) ≡ count_if b u f
    by_short true = own_length u (truth f w)
    by_short false = length-fresh f w

-- ---- the number of fresh columns
same_names : (p q : ℕ → ℕ) (f : FormulaTree) (ss : List Setting) → EachName (λ n. p n ≡ q n) f → names_among p f ss ≡ names_among q f ss
same_names p q (constant b) ss h = refl
same_names p q (named n) ss h = ap (λ c. placed (set_to c false) ss) h
same_names p q (negated f) ss h = same_names p q f ss h
same_names p q (joined c f g) ss h = same_names p q g (names_among p f ss) h.1 ∙ ap (names_among q g) (same_names p q f ss h.0)

pub same_count : (u : Use) (p q : ℕ → ℕ) (f : FormulaTree) → EachName (λ n. p n ≡ q n) f → fresh_count u p f ≡ fresh_count u q f
same_count u p q f h = ap (λ ss. count_if (are_few (length ss) (connectives f)) u f) (same_names p q f [] h)

few_fresh : (b : Bool) (u : Use) (n : ℕ) (f : FormulaTree) → b ≡ are_few n (connectives f) → count_if b u f ≤ connectives f
few_fresh true Read n f e = let l : 0 < connectives f = few_some n (connectives f) (sym e) in omega arith
few_fresh true (Define d) n f e = omega arith
few_fresh true Require n f e = omega arith
few_fresh false u n f e = omega arith

pub fresh_few : (u : Use) (p : ℕ → ℕ) (f : FormulaTree) → fresh_count u p f ≤ connectives f
fresh_few u p f = few_fresh (is_short p f) u (length (names_of p f)) f refl
