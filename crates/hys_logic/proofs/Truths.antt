-- The rows of a formula hold exactly where the fresh columns have their truths.
use Rattle.std.specs.Prelude.{◌≡◌, ℕ, zero, suc, ◌+◌, ◌*◌, ◌<◌, ◌≤◌, List, [], ◌∷◌, ◌++◌, length, ◌↔◌, Bool}
use Rattle.std.proofs.Common.{refl, sym, ◌∙◌, ap, arith, subst, ⊎_elim, length-append, append_assoc}
use Rattle.hys_number.specs.Number.{Number, make}
use Rattle.hys_number.specs.Gcd.{gcd}
use Rattle.hys_number.specs.Ops.{◌+ₙ◌, whole}
use Rattle.hys_number.proofs.Field.{add_zero}
use Rattle.hys_number.proofs.Ring.{by_ring, v as var, k as num, ◌⊕◌}
use Rattle.hys_lin.specs.declared.form.Row.{Row}
use Rattle.hys_lin.specs.Sums.{Assignment, HoldAll}
use Rattle.hys_formula.specs.declared.formula.Connective.{Connective}
use Rattle.hys_formula.specs.declared.formula.Connective.TheVariants.{And, Or, Iff, Then, From}
use Rattle.hys_lin.specs.Bits.{bit, IsBit, is_one}
use Rattle.hys_formula.specs.Formulas.{FormulaTree, constant, named, negated, joined, truth, connect, connectives, EachName}
use Rattle.hys_logic.specs.declared.literal.Literal.{Literal}
use Rattle.hys_logic.specs.declared.literal.Literal.TheVariants.{Fixed, Column}
use Rattle.hys_logic.specs.Literals.{number_of, literal_of, opposite, LiteralBelow}
use Rattle.hys_lin.specs.Stated.{Stated, HoldStated, AreRows, EachBelow}
use Rattle.hys_lin.proofs.Lists.{each_more}
use Rattle.hys_lin.proofs.Stated.{rows_hold, are-append, below-append}
use Rattle.hys_logic.specs.Rows.{connective_stated, stated_of, fresh_of, Agrees, BitsFrom, Added}
use Rattle.hys_logic.proofs.Connectives.{connective_means, opposite_is}

pub bit_is : (a : Number) → IsBit a → a ≡ bit (is_one a)
unfolding is_one whole make gcd
bit_is a = ⊎_elim (λ e. rw e refl) (λ e. rw e refl)

-- ---- lists
pub below_more : (m n : ℕ) (rs : List Row) → m ≤ n → EachBelow m rs → EachBelow n rs
below_more m n [] l h = tt
below_more m n (r ∷ rs) l h = (each_more (λ c. c < m) (λ c. c < n) r.terms (λ c p. omega arith) h.0, below_more m n rs l h.1)

pub hold-append : (v : Assignment) (xs ys : List Stated) → HoldStated v (xs ++ ys) ↔ (HoldStated v xs × HoldStated v ys)
hold-append v [] ys = (λ h. (tt, h), λ h. h.1)
hold-append v (r ∷ rs) ys = (λ h. let e : HoldStated v rs × HoldStated v ys = (hold-append v rs ys).0 h.1 in ((h.0, e.0), e.1), λ h. (h.0.0, (hold-append v rs ys).1 (h.0.1, h.1)))

agrees-append : (v : Assignment) (k n : ℕ) (xs ys : List Bool) → length xs ≡ n → Agrees v k (xs ++ ys) ↔ (Agrees v k xs × Agrees v (k + n) ys)
agrees-append v k n [] ys e = let s : k + n ≡ k = omega arith in (λ h. (tt, rw s h), λ h. rw s at h.1)
agrees-append v k zero (b ∷ bs) ys e = absurd (omega arith)
agrees-append v k (suc n) (b ∷ bs) ys e =
    let r : Agrees v (suc k) (bs ++ ys) ↔ (Agrees v (suc k) bs × Agrees v (suc k + n) ys) = agrees-append v (suc k) n bs ys (omega arith) in
    let s : k + suc n ≡ suc k + n = omega arith in
    rw s (λ h. let e : Agrees v (suc k) bs × Agrees v (suc k + n) ys = r.0 h.1 in ((h.0, e.0), e.1), λ h. (h.0.0, r.1 (h.0.1, h.1)))

pub length-fresh : (f : FormulaTree) (w : Assignment) → length (fresh_of f w) ≡ connectives f
length-fresh (constant b) w = refl
length-fresh (named n) w = refl
length-fresh (negated f) w = length-fresh f w
length-fresh (joined c f g) w = simp (length-append, length-fresh f w, length-fresh g w) (omega arith)

-- ---- the literal
bit_number : (b : Bool) → whole 0 +ₙ bit b ≡ bit b
bit_number b = by_ring (bit b ∷ []) (num 0 ⊕ var 0) (var 0) refl

-- where the fresh columns have their truths, the literal has the formula's
pub literal_is : (f : FormulaTree) (p : ℕ → ℕ) (k : ℕ) (v : Assignment) → EachName (λ n. IsBit (v (p n))) f → Agrees v k (fresh_of f (λ n. v (p n))) →
    number_of (literal_of p k f) v ≡ bit (truth f (λ n. v (p n)))
literal_is (constant b) p k v i h = bit_number b
literal_is (named n) p k v i h = add_zero (v (p n)) ∙ bit_is (v (p n)) i
literal_is (negated f) p k v i h = opposite_is (literal_of p k f) v (truth f (λ n. v (p n))) (literal_is f p k v i h)
literal_is (joined c f g) p k v i h =
    let w : Assignment = λ n. v (p n) in
    let t : Bool = connect c (truth f w) (truth g w) in
    let h1 : Agrees v k (fresh_of f w) × Agrees v (k + connectives f) (fresh_of g w ++ (t ∷ [])) = (agrees-append v k (connectives f) (fresh_of f w) _ (length-fresh f w)).0 h in
    let h2 : Agrees v (k + connectives f) (fresh_of g w) × Agrees v (k + connectives f + connectives g) (t ∷ []) = (agrees-append v (k + connectives f) (connectives g) (fresh_of g w) _ (length-fresh g w)).0 h1.1 in
    let s : k + connectives f + connectives g ≡ k + (connectives f + connectives g) = omega arith in
    add_zero (v (k + (connectives f + connectives g))) ∙ subst (λ d. v d ≡ bit t) s h2.1.0

-- the rows of a formula hold exactly where the fresh columns have their truths
pub stated_means : (f : FormulaTree) (p : ℕ → ℕ) (k : ℕ) (v : Assignment) → EachName (λ n. IsBit (v (p n))) f → BitsFrom v k (connectives f) →
    HoldStated v (stated_of p k f) ↔ Agrees v k (fresh_of f (λ n. v (p n)))
stated_means (constant b) p k v i j = (λ h. h, λ h. h)
stated_means (named n) p k v i j = (λ h. h, λ h. h)
stated_means (negated f) p k v i j = stated_means f p k v i j
stated_means (joined c f g) p k v i j =
    let w : Assignment = λ n. v (p n) in
    let t : Bool = connect c (truth f w) (truth g w) in
    let ef : HoldStated v (stated_of p k f) ↔ Agrees v k (fresh_of f w) = stated_means f p k v i.0 (λ d l m. j d l (omega arith)) in
    let eg : HoldStated v (stated_of p (k + connectives f) g) ↔ Agrees v (k + connectives f) (fresh_of g w) = stated_means g p (k + connectives f) v i.1 (λ d l m. j d (omega arith) (omega arith)) in
    let r : ℕ = k + (connectives f + connectives g) in
    let a : Literal = literal_of p k f in
    let b : Literal = literal_of p (k + connectives f) g in
    let s : k + connectives f + connectives g ≡ k + (connectives f + connectives g) = omega arith in
    let own : v (k + (connectives f + connectives g)) ≡ bit (is_one (v (k + (connectives f + connectives g)))) = bit_is (v (k + (connectives f + connectives g))) (j (k + (connectives f + connectives g)) (omega arith) (omega arith)) in
    let join : Agrees v k (fresh_of f w) → Agrees v (k + connectives f) (fresh_of g w) → HoldStated v (connective_stated c a b r) ↔ (v r ≡ bit t) =
    λ x y. connective_means c a b r v (truth f w) (truth g w) (is_one (v r)) (literal_is f p k v i.0 x) (literal_is g p (k + connectives f) v i.1 y) own in
    let a1 : Agrees v k (fresh_of f w ++ (fresh_of g w ++ (t ∷ []))) ↔ (Agrees v k (fresh_of f w) × Agrees v (k + connectives f) (fresh_of g w ++ (t ∷ []))) = agrees-append v k (connectives f) (fresh_of f w) _ (length-fresh f w) in
    let a2 : Agrees v (k + connectives f) (fresh_of g w ++ (t ∷ [])) ↔ (Agrees v (k + connectives f) (fresh_of g w) × Agrees v (k + (connectives f + connectives g)) (t ∷ [])) = rw s at (agrees-append v (k + connectives f) (connectives g) (fresh_of g w) (t ∷ []) (length-fresh g w)) in
    let h1 : HoldStated v (stated_of p k f ++ (stated_of p (k + connectives f) g ++ connective_stated c a b r)) ↔ (HoldStated v (stated_of p k f) × HoldStated v (stated_of p (k + connectives f) g ++ connective_stated c a b r)) = hold-append v (stated_of p k f) _ in
    let h2 : HoldStated v (stated_of p (k + connectives f) g ++ connective_stated c a b r) ↔ (HoldStated v (stated_of p (k + connectives f) g) × HoldStated v (connective_stated c a b r)) = hold-append v (stated_of p (k + connectives f) g) _ in (
      λ h.
          let hs : HoldStated v (stated_of p k f) × HoldStated v (stated_of p (k + connectives f) g ++ connective_stated c a b r) = h1.0 h in
          let ht : HoldStated v (stated_of p (k + connectives f) g) × HoldStated v (connective_stated c a b r) = h2.0 hs.1 in
          let x : Agrees v k (fresh_of f w) = ef.0 hs.0 in
          let y : Agrees v (k + connectives f) (fresh_of g w) = eg.0 ht.0 in
          a1.1 (x, a2.1 (y, ((join x y).0 ht.1, tt))),
      λ h.
          let xs : Agrees v k (fresh_of f w) × Agrees v (k + connectives f) (fresh_of g w ++ (t ∷ [])) = a1.0 h in
          let ys : Agrees v (k + connectives f) (fresh_of g w) × Agrees v (k + (connectives f + connectives g)) (t ∷ []) = a2.0 xs.1 in
          h1.1 (ef.1 xs.0, h2.1 (eg.1 ys.0, (join xs.0 ys.0).1 ys.1.0)),
    )

-- ---- columns and numbers of rows
pub literal_below : (f : FormulaTree) (p : ℕ → ℕ) (k : ℕ) → EachName (λ n. p n < k) f → LiteralBelow (k + connectives f) (literal_of p k f)
literal_below (constant b) p k h = tt
literal_below (named n) p k h = omega arith
literal_below (negated f) p k h = opposite_below (k + connectives f) (literal_of p k f) (literal_below f p k h)
  where
    opposite_below : (m : ℕ) (l : Literal) → LiteralBelow m l → LiteralBelow m (opposite l)
    opposite_below m (Fixed b) h = tt
    opposite_below m (Column c n) h = h
literal_below (joined c f g) p k h = omega arith

pub literal_more : (m n : ℕ) (l : Literal) → m ≤ n → LiteralBelow m l → LiteralBelow n l
literal_more m n (Fixed b) e h = tt
literal_more m n (Column c t) e h = omega arith

pub name_more : (P Q : ℕ → Type 0) (f : FormulaTree) → ((n : ℕ) → P n → Q n) → EachName P f → EachName Q f
name_more P Q (constant b) i h = tt
name_more P Q (named n) i h = i n h
name_more P Q (negated f) i h = name_more P Q f i h
name_more P Q (joined c f g) i h = (name_more P Q f i h.0, name_more P Q g i h.1)

pub same_length : (rs : List Row) (ss : List Stated) → AreRows rs ss → length rs ≡ length ss
same_length [] [] h = refl
same_length [] (s ∷ ss) h = absurd h
same_length (r ∷ rs) [] h = absurd h
same_length (r ∷ rs) (s ∷ ss) h = ap suc (same_length rs ss h.1)

four : (c : Connective) (a b : Literal) (r : ℕ) → length (connective_stated c a b r) ≤ 4
four And a b r = omega arith
four Or a b r = omega arith
four Iff a b r = omega arith
four Then a b r = omega arith
four From a b r = omega arith

pub count : (f : FormulaTree) (p : ℕ → ℕ) (k : ℕ) → length (stated_of p k f) ≤ 4 * connectives f
count (constant b) p k = omega arith
count (named n) p k = omega arith
count (negated f) p k = count f p k
count (joined c f g) p k =
    let x : length (stated_of p k f) ≤ 4 * connectives f = count f p k in
    let y : length (stated_of p (k + connectives f) g) ≤ 4 * connectives g = count g p (k + connectives f) in
    let z : length (connective_stated c (literal_of p k f) (literal_of p (k + connectives f) g) (k + (connectives f + connectives g))) ≤ 4 = four c (literal_of p k f) (literal_of p (k + connectives f) g) (k + (connectives f + connectives g)) in
    simp length-append (omega arith)

pub row_count : (f : FormulaTree) (p : ℕ → ℕ) (k : ℕ) (rs : List Row) → AreRows rs (stated_of p k f) → length rs ≤ 4 * connectives f
row_count f p k rs h =
    let x : length rs ≡ length (stated_of p k f) = same_length rs (stated_of p k f) h in
    let y : length (stated_of p k f) ≤ 4 * connectives f = count f p k in
    omega arith

-- ---- adding
pub added_none : (rs : List Row) (n : ℕ) → Added rs rs [] n
added_none rs n = ([], sym (nil rs), tt, tt)
  where
    nil : (xs : List Row) → xs ++ [] ≡ xs
    nil [] = refl
    nil (x ∷ xs) = ap (λ ys. x ∷ ys) (nil xs)

pub added_twice : (a b c : List Row) (ss ts : List Stated) (m n : ℕ) → m ≤ n → Added a b ss m → Added b c ts n → Added a c (ss ++ ts) n
added_twice a b c ss ts m n l h i = (
  h.0 ++ i.0,
  i.1 ∙ ap (λ xs. xs ++ i.0) h.1 ∙ append_assoc a h.0 i.0,
  are-append h.0 i.0 ss ts h.2 i.2,
  below-append n h.0 i.0 (below_more m n h.0 l h.3) i.3,
)

pub joined_added : (f g : FormulaTree) (c : Connective) (p : ℕ → ℕ) (k m n : ℕ) (a b : Literal) (w x y z : List Row) → m ≡ k + connectives f → n ≡ m + connectives g → a ≡ literal_of p k f → b ≡ literal_of p m g →
    Added w x (stated_of p k f) (k + connectives f) → Added x y (stated_of p m g) (m + connectives g) → Added y z (connective_stated c a b n) (n + 1) →
    Added w z (stated_of p k (joined c f g)) (k + connectives (joined c f g))
joined_added f g c p k m n a b w x y z e i q r h1 h2 h3 =
    let s : n ≡ k + (connectives f + connectives g) = omega arith in
    let t : k + (connectives f + connectives g) + 1 ≡ k + suc (connectives f + connectives g) = omega arith in
    let r2 : b ≡ literal_of p (k + connectives f) g = subst (λ (d : ℕ). b ≡ literal_of p d g) e r in
    let g2 : Added x y (stated_of p (k + connectives f) g) (k + connectives f + connectives g) = subst (λ (d : ℕ). Added x y (stated_of p d g) (d + connectives g)) e h2 in
    let g3 : Added y z (connective_stated c (literal_of p k f) (literal_of p (k + connectives f) g) n) (n + 1) =
    subst (λ (l : Literal). Added y z (connective_stated c (literal_of p k f) l n) (n + 1)) r2 (subst (λ (l : Literal). Added y z (connective_stated c l b n) (n + 1)) q h3) in
    let g4 : Added y z (connective_stated c (literal_of p k f) (literal_of p (k + connectives f) g) (k + (connectives f + connectives g))) (k + (connectives f + connectives g) + 1) =
    subst (λ (d : ℕ). Added y z (connective_stated c (literal_of p k f) (literal_of p (k + connectives f) g) d) (d + 1)) s g3 in
    let late : Added x z (stated_of p (k + connectives f) g ++ connective_stated c (literal_of p k f) (literal_of p (k + connectives f) g) (k + (connectives f + connectives g))) (k + (connectives f + connectives g) + 1) =
    added_twice x y z _ _ (k + connectives f + connectives g) (k + (connectives f + connectives g) + 1) (omega arith) g2 g4 in
    subst (λ (d : ℕ). Added w z (stated_of p k (joined c f g)) d) t
    (added_twice w x z _ _ (k + connectives f) (k + (connectives f + connectives g) + 1) (omega arith) h1 late)

pub made_rows : (rs old new : List Row) (ss : List Stated) (n : ℕ) → rs ≡ new → old ≡ [] → Added old new ss n → AreRows rs ss × EachBelow n rs
made_rows rs old new ss n e z h = rw (e, h.1, z) (h.2, h.3)

pub rows_mean : (rs : List Row) (f : FormulaTree) (p : ℕ → ℕ) (k : ℕ) (v : Assignment) → AreRows rs (stated_of p k f) → EachName (λ n. IsBit (v (p n))) f → BitsFrom v k (connectives f) →
    HoldAll v rs ↔ Agrees v k (fresh_of f (λ n. v (p n)))
rows_mean rs f p k v h i j =
    let x : HoldAll v rs ↔ HoldStated v (stated_of p k f) = rows_hold rs (stated_of p k f) v h in
    let y : HoldStated v (stated_of p k f) ↔ Agrees v k (fresh_of f (λ n. v (p n))) = stated_means f p k v i j in
    (λ a. y.0 (x.0 a), λ a. x.1 (y.1 a))
