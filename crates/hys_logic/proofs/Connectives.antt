-- What the rows of a connective say at truth values.
use Rattle.std.specs.Prelude.{◌≡◌, ℕ, ◌<◌, ◌↔◌, [], ◌∷◌, Bool, true, false, ◌&&◌, ◌||◌, not, ℤ, pos, negsuc}
use Rattle.std.proofs.Common.{refl, sym, ◌∙◌, ap, ap₂, arith, subst}
use Rattle.hys_number.specs.Number.{Number}
use Rattle.hys_number.specs.Ops.{◌+ₙ◌, ◌-ₙ◌, neg, ◌≤ₙ◌, whole, int}
use Rattle.hys_number.proofs.Laws.{whole-ratio}
use Rattle.hys_number.proofs.Field.{neg-add}
use Rattle.hys_number.proofs.Scale.{overs, common6, common6_of}
use Rattle.hys_number.proofs.Ring.{by_ring, v as x, k, minus, ◌⊕◌, ◌⊖◌}
use Rattle.hys_lin.specs.Sums.{Assignment}
use Rattle.hys_formula.specs.declared.formula.Connective.{Connective}
use Rattle.hys_formula.specs.declared.formula.Connective.TheVariants.{And, Or, Iff, Then, From}
use Rattle.hys_lin.specs.Bits.{bit}
use Rattle.hys_formula.specs.Formulas.{same, connect}
use Rattle.hys_logic.specs.declared.literal.Literal.{Literal}
use Rattle.hys_logic.specs.declared.literal.Literal.TheVariants.{Fixed, Column}
use Rattle.hys_logic.specs.declared.row.Sign.{Sign}
use Rattle.hys_logic.specs.declared.row.Sign.TheVariants.{Plus, Minus}
use Rattle.hys_logic.specs.Literals.{column_part, constant_part, number_of, opposite}
use Rattle.hys_logic.specs.Rows.{signed, row_by, connective_stated}
use Rattle.hys_lin.specs.Stated.{HoldStated}
use Rattle.hys_number.proofs.Ring.{int-whole, int_minus}

-- ---- truth values
abbrev BitRow : Sign → Bool → Sign → Bool → Sign → Bool → Number → Type 0
BitRow s a t b u r z = signed s (bit a) +ₙ signed t (bit b) +ₙ signed u (bit r) ≤ₙ z

bits_and : (a b r : Bool) → (BitRow Minus a Plus false Plus r (whole 0) × BitRow Minus b Plus false Plus r (whole 0) × BitRow Plus a Plus b Minus r (whole 1)) ↔ (bit r ≡ bit (a && b))
bits_and true true true = let h : 0 < 1 = omega arith in simp (overs, whole-ratio 0 1 h, whole-ratio 1 1 h) (omega arith)
bits_and true true false = let h : 0 < 1 = omega arith in simp (overs, whole-ratio 0 1 h, whole-ratio 1 1 h) (omega arith)
bits_and true false true = let h : 0 < 1 = omega arith in simp (overs, whole-ratio 0 1 h, whole-ratio 1 1 h) (omega arith)
bits_and true false false = let h : 0 < 1 = omega arith in simp (overs, whole-ratio 0 1 h, whole-ratio 1 1 h) (omega arith)
bits_and false true true = let h : 0 < 1 = omega arith in simp (overs, whole-ratio 0 1 h, whole-ratio 1 1 h) (omega arith)
bits_and false true false = let h : 0 < 1 = omega arith in simp (overs, whole-ratio 0 1 h, whole-ratio 1 1 h) (omega arith)
bits_and false false true = let h : 0 < 1 = omega arith in simp (overs, whole-ratio 0 1 h, whole-ratio 1 1 h) (omega arith)
bits_and false false false = let h : 0 < 1 = omega arith in simp (overs, whole-ratio 0 1 h, whole-ratio 1 1 h) (omega arith)

bits_or : (a b r : Bool) → (BitRow Plus a Plus false Minus r (whole 0) × BitRow Plus b Plus false Minus r (whole 0) × BitRow Minus a Minus b Plus r (whole 0)) ↔ (bit r ≡ bit (a || b))
bits_or true true true = let h : 0 < 1 = omega arith in simp (overs, whole-ratio 0 1 h, whole-ratio 1 1 h) (omega arith)
bits_or true true false = let h : 0 < 1 = omega arith in simp (overs, whole-ratio 0 1 h, whole-ratio 1 1 h) (omega arith)
bits_or true false true = let h : 0 < 1 = omega arith in simp (overs, whole-ratio 0 1 h, whole-ratio 1 1 h) (omega arith)
bits_or true false false = let h : 0 < 1 = omega arith in simp (overs, whole-ratio 0 1 h, whole-ratio 1 1 h) (omega arith)
bits_or false true true = let h : 0 < 1 = omega arith in simp (overs, whole-ratio 0 1 h, whole-ratio 1 1 h) (omega arith)
bits_or false true false = let h : 0 < 1 = omega arith in simp (overs, whole-ratio 0 1 h, whole-ratio 1 1 h) (omega arith)
bits_or false false true = let h : 0 < 1 = omega arith in simp (overs, whole-ratio 0 1 h, whole-ratio 1 1 h) (omega arith)
bits_or false false false = let h : 0 < 1 = omega arith in simp (overs, whole-ratio 0 1 h, whole-ratio 1 1 h) (omega arith)

bits_iff : (a b r : Bool) → (BitRow Plus a Minus b Plus r (whole 1) × BitRow Minus a Plus b Plus r (whole 1) × BitRow Minus a Minus b Minus r (neg (whole 1)) × BitRow Plus a Plus b Minus r (whole 1)) ↔ (bit r ≡ bit (same a b))
bits_iff true true true = let h : 0 < 1 = omega arith in simp (overs, whole-ratio 0 1 h, whole-ratio 1 1 h) (omega arith)
bits_iff true true false = let h : 0 < 1 = omega arith in simp (overs, whole-ratio 0 1 h, whole-ratio 1 1 h) (omega arith)
bits_iff true false true = let h : 0 < 1 = omega arith in simp (overs, whole-ratio 0 1 h, whole-ratio 1 1 h) (omega arith)
bits_iff true false false = let h : 0 < 1 = omega arith in simp (overs, whole-ratio 0 1 h, whole-ratio 1 1 h) (omega arith)
bits_iff false true true = let h : 0 < 1 = omega arith in simp (overs, whole-ratio 0 1 h, whole-ratio 1 1 h) (omega arith)
bits_iff false true false = let h : 0 < 1 = omega arith in simp (overs, whole-ratio 0 1 h, whole-ratio 1 1 h) (omega arith)
bits_iff false false true = let h : 0 < 1 = omega arith in simp (overs, whole-ratio 0 1 h, whole-ratio 1 1 h) (omega arith)
bits_iff false false false = let h : 0 < 1 = omega arith in simp (overs, whole-ratio 0 1 h, whole-ratio 1 1 h) (omega arith)

-- ---- rows at an assignment
pub signed-add : (s : Sign) (a b : Number) → signed s (a +ₙ b) ≡ signed s a +ₙ signed s b
signed-add Plus a b = refl
signed-add Minus a b = neg-add a b

moved : (a c b d r z : Number) → (a +ₙ b +ₙ r ≤ₙ z -ₙ c -ₙ d) ↔ (a +ₙ c +ₙ (b +ₙ d) +ₙ r ≤ₙ z)
moved a c b d r z = elim (common6_of a c b d r z) [ common6 D h p1 n1 p2 n2 p3 n3 p4 n4 p5 n5 p6 n6 e1 e2 e3 e4 e5 e6 ↦ rw (e1, e2, e3, e4, e5, e6) (simp overs (omega arith)) ]

row_at : (s t u : Sign) (a b : Literal) (r : ℕ) (z : ℤ) (base : Number) (v : Assignment) (l m w : Bool) → int z ≡ base → number_of a v ≡ bit l → number_of b v ≡ bit m → v r ≡ bit w →
    ((row_by s a t b u r z).left v ≤ₙ (row_by s a t b u r z).bound) ↔ BitRow s l t m u w base
row_at s t u a b r z base v l m w e f g h =
    let y : ((row_by s a t b u r z).left v ≤ₙ (row_by s a t b u r z).bound) ↔ (signed s (column_part a v) +ₙ signed s (constant_part a) +ₙ (signed t (column_part b v) +ₙ signed t (constant_part b)) +ₙ signed u (v r) ≤ₙ int z) =
    moved (signed s (column_part a v)) (signed s (constant_part a)) (signed t (column_part b v)) (signed t (constant_part b)) (signed u (v r)) (int z) in
    let q : signed s (column_part a v) +ₙ signed s (constant_part a) +ₙ (signed t (column_part b v) +ₙ signed t (constant_part b)) +ₙ signed u (v r) ≡ signed s (bit l) +ₙ signed t (bit m) +ₙ signed u (bit w) =
    ap₂ ◌+ₙ◌ (ap₂ ◌+ₙ◌ (sym (signed-add s (column_part a v) (constant_part a)) ∙ ap (signed s) f) (sym (signed-add t (column_part b v) (constant_part b)) ∙ ap (signed t) g)) (ap (signed u) h) in (
      λ d. subst (λ (n : Number). signed s (bit l) +ₙ signed t (bit m) +ₙ signed u (bit w) ≤ₙ n) e (subst (λ (n : Number). n ≤ₙ int z) q (y.0 d)),
      λ d. y.1 (subst (λ (n : Number). n ≤ₙ int z) (sym q) (subst (λ (n : Number). signed s (bit l) +ₙ signed t (bit m) +ₙ signed u (bit w) ≤ₙ n) (sym e) d)),
    )

pub none_is : (v : Assignment) → number_of (Fixed false) v ≡ bit false
none_is v = by_ring [] (k 0 ⊕ k 0) (k 0) refl

-- what the connective's rows mean, where its column has the truth value w
abbrev Means : Connective → Type 0
Means c = (a b : Literal) (r : ℕ) (v : Assignment) (l m w : Bool) → number_of a v ≡ bit l → number_of b v ≡ bit m → v r ≡ bit w → HoldStated v (connective_stated c a b r) ↔ (bit w ≡ bit (connect c l m))

and_means : Means And
and_means a b r v l m w f g h =
    let z : int (pos 0) ≡ whole 0 = int-whole 0 in
    let o : int (pos 1) ≡ whole 1 = int-whole 1 in
    let r1 = row_at Minus Plus Plus a (Fixed false) r (pos 0) (whole 0) v l false w z f (none_is v) h in
    let r2 = row_at Minus Plus Plus b (Fixed false) r (pos 0) (whole 0) v m false w z g (none_is v) h in
    let r3 = row_at Plus Plus Minus a b r (pos 1) (whole 1) v l m w o f g h in
    (λ d. (bits_and l m w).0 (r1.0 d.0, r2.0 d.1.0, r3.0 d.1.1.0), λ d. let y = (bits_and l m w).1 d in (r1.1 y.0, (r2.1 y.1, (r3.1 y.2, tt))))

or_means : Means Or
or_means a b r v l m w f g h =
    let z : int (pos 0) ≡ whole 0 = int-whole 0 in
    let r1 = row_at Plus Plus Minus a (Fixed false) r (pos 0) (whole 0) v l false w z f (none_is v) h in
    let r2 = row_at Plus Plus Minus b (Fixed false) r (pos 0) (whole 0) v m false w z g (none_is v) h in
    let r3 = row_at Minus Minus Plus a b r (pos 0) (whole 0) v l m w z f g h in
    (λ d. (bits_or l m w).0 (r1.0 d.0, r2.0 d.1.0, r3.0 d.1.1.0), λ d. let y = (bits_or l m w).1 d in (r1.1 y.0, (r2.1 y.1, (r3.1 y.2, tt))))

iff_means : Means Iff
iff_means a b r v l m w f g h =
    let o : int (pos 1) ≡ whole 1 = int-whole 1 in
    let r1 = row_at Plus Minus Plus a b r (pos 1) (whole 1) v l m w o f g h in
    let r2 = row_at Minus Plus Plus a b r (pos 1) (whole 1) v l m w o f g h in
    let r3 = row_at Minus Minus Minus a b r (negsuc 0) (neg (whole 1)) v l m w int_minus f g h in
    let r4 = row_at Plus Plus Minus a b r (pos 1) (whole 1) v l m w o f g h in
    (λ d. (bits_iff l m w).0 (r1.0 d.0, r2.0 d.1.0, r3.0 d.1.1.0, r4.0 d.1.1.1.0), λ d. let y = (bits_iff l m w).1 d in (r1.1 y.0, (r2.1 y.1, (r3.1 y.2, (r4.1 y.3, tt)))))

-- 1 less a literal
turned_number : (c : ℕ) (n : Bool) (v : Assignment) → number_of (opposite (Column c n)) v ≡ whole 1 -ₙ number_of (Column c n) v
turned_number c true v = by_ring (v c ∷ []) (x 0 ⊕ k 0) (k 1 ⊖ (minus (x 0) ⊕ k 1)) refl
turned_number c false v = by_ring (v c ∷ []) (minus (x 0) ⊕ k 1) (k 1 ⊖ (x 0 ⊕ k 0)) refl

bit-not : (b : Bool) → whole 1 -ₙ bit b ≡ bit (not b)
bit-not true = by_ring [] (k 1 ⊖ k 1) (k 0) refl
bit-not false = by_ring [] (k 1 ⊖ k 0) (k 1) refl

pub opposite_is : (l : Literal) (v : Assignment) (b : Bool) → number_of l v ≡ bit b → number_of (opposite l) v ≡ bit (not b)
opposite_is (Fixed c) v b e = by_ring (bit (not c) ∷ []) (k 0 ⊕ x 0) (x 0) refl ∙ sym (bit-not c) ∙ ap (λ n. whole 1 -ₙ n) (by_ring (bit c ∷ []) (x 0) (k 0 ⊕ x 0) refl ∙ e) ∙ bit-not b
opposite_is (Column c n) v b e = turned_number c n v ∙ ap (λ y. whole 1 -ₙ y) e ∙ bit-not b

connective_bits : (c : Connective) → Means c
connective_bits And = and_means
connective_bits Or = or_means
connective_bits Iff = iff_means
connective_bits Then = λ a b r v l m w f g h. or_means (opposite a) b r v (not l) m w (opposite_is a v l f) g h
connective_bits From = λ a b r v l m w f g h. or_means a (opposite b) r v l (not m) w f (opposite_is b v m g) h

pub connective_means : (c : Connective) (a b : Literal) (r : ℕ) (v : Assignment) (l m w : Bool) → number_of a v ≡ bit l → number_of b v ≡ bit m → v r ≡ bit w →
    HoldStated v (connective_stated c a b r) ↔ (v r ≡ bit (connect c l m))
connective_means c a b r v l m w f g h =
    let y : HoldStated v (connective_stated c a b r) ↔ (bit w ≡ bit (connect c l m)) = connective_bits c a b r v l m w f g h in
    (λ d. h ∙ y.0 d, λ d. y.1 (sym h ∙ d))
