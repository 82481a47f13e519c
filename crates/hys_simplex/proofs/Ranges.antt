-- The ranges of variables and the values of a status, given by functions, are those of the relations.
use Rattle.std.proofs.Common.{◌≡◌, ℕ, zero, suc, ◌+◌, ◌-◌, ◌<◌, ◌≤◌, inl, inr, refl, sym, ◌∙◌, ap, ap₂, subst, arith, Bool, true, false, if◌then◌else◌, ltb, Option, Some, None, ℤ, pos, negsuc, [], ◌∷◌}
use Rattle.hys_number.specs.Number.{Number}
use Rattle.hys_number.specs.Ops.{◌+ₙ◌, ◌*ₙ◌, ◌-ₙ◌, neg, ◌≤ₙ◌, ◌<ₙ◌, whole}
use Rattle.hys_number.proofs.Laws.{whole-ratio}
use Rattle.hys_number.proofs.Order.{le_refl', le_antisymm}
use Rattle.hys_number.proofs.Scale.{overs, common2, common2_of}
use Rattle.hys_number.proofs.Ring.{by_ring, v, k, minus, ◌⊗◌, ◌⊖◌}
use Rattle.hys_relax.specs.Node.{Boxes}
use Rattle.hys_relax.specs.LinearProgram.{LinearProgram}
use Rattle.hys_simplex.specs.Tableau.{Tableau, IsOf}
use Rattle.hys_simplex.specs.Status.{IsPositive, raised, first_sign, is_positive, is_raised_above, lower, upper, at_most, InRange, IsOff, under, over, end_or, end_value, basic_value, status_value, AllInside}
use Rattle.hys_simplex.specs.Rule.{IsMovable}
use Rattle.hys_simplex.proofs.Relations.{StandsAtEnds, CanMove, column, slack, IsSign, NearEnd, low_end, high_end, slack_end, IsOrdered, IsFeasible, SlackIn}
use Rattle.hys_simplex.proofs.Status.{zero_of, above_of, below_of}
use Rattle.hys_simplex.proofs.Lex.{lt_irrefl, positive_add, positive_not_null}
use Rattle.hys_simplex.proofs.Ruled.{cases}
use Rattle.hys_simplex.proofs.Paths.{values_outside, values_basic, values_solve}

-- ---- the test of being positive
not_both : (a : Number) → a <ₙ whole 0 → whole 0 <ₙ a → ⊥
not_both a = elim (common2_of a (whole 0)) [ common2 D h p1 n1 p2 n2 e1 e2 ↦ rw (e1, e2) (simp overs (omega arith)) ]

next_place : (n : ℕ) (a : ℕ → Number) → a 0 ≡ whole 0 → IsPositive n (λ t. a (suc t)) → IsPositive (suc n) a
next_place n a e h = let l : h.place < n = h.within in record {
  place = suc h.place;
  within = omega arith;
  before = before;
  above = h.above;
}
  where
    before : (j : ℕ) → j < suc h.place → a j ≡ whole 0
    before zero l = e
    before (suc j) l = h.before j (omega arith)

here_place : (n : ℕ) (a : ℕ → Number) → whole 0 <ₙ a 0 → IsPositive (suc n) a
here_place n a l = record { place = 0; within = omega arith; before = λ j m. absurd (omega arith); above = l }

pub test_yes : (n : ℕ) (a : ℕ → Number) → is_positive n a ≡ true → IsPositive n a
test_yes zero a h = absurd (cc)
test_yes (suc n) a h = go (test_yes n (λ t. a (suc t))) (a 0).num refl h
  where
    go : (is_positive n (λ t. a (suc t)) ≡ true → IsPositive n (λ t. a (suc t))) → (z : ℤ) → (a 0).num ≡ z → first_sign z (is_positive n (λ t. a (suc t))) ≡ true → IsPositive (suc n) a
    go f (pos zero) e g = next_place n a (zero_of (a 0) e) (f g)
    go f (pos (suc m)) e g = here_place n a (above_of (a 0) m e)
    go f (negsuc m) e g = absurd (cc)

shifted : (n : ℕ) (a : ℕ → Number) → a 0 ≡ whole 0 → IsPositive (suc n) a → IsPositive n (λ t. a (suc t))
shifted n a e h = go h.place refl h.within h.before h.above
  where
    go : (q : ℕ) → h.place ≡ q → q < suc n → ((j : ℕ) → j < q → a j ≡ whole 0) → whole 0 <ₙ a q → IsPositive n (λ t. a (suc t))
    go zero f l b m = absurd (lt_irrefl (whole 0) (subst (λ z. whole 0 <ₙ z) e m))
    go (suc q) f l b m = record { place = q; within = omega arith; before = λ j i. b (suc j) (omega arith); above = m }

never_below : (n : ℕ) (a : ℕ → Number) → a 0 <ₙ whole 0 → IsPositive (suc n) a → ⊥
never_below n a l h = go h.place h.before h.above
  where
    go : (q : ℕ) → ((j : ℕ) → j < q → a j ≡ whole 0) → whole 0 <ₙ a q → ⊥
    go zero b m = not_both (a 0) l m
    go (suc q) b m = lt_irrefl (whole 0) (subst (λ z. z <ₙ whole 0) (b 0 (omega arith)) l)

pub test_is : (n : ℕ) (a : ℕ → Number) → IsPositive n a → is_positive n a ≡ true
test_is zero a h = absurd (let l : h.place < 0 = h.within in omega arith)
test_is (suc n) a h = go (test_is n (λ t. a (suc t))) (a 0).num refl
  where
    go : (IsPositive n (λ t. a (suc t)) → is_positive n (λ t. a (suc t)) ≡ true) → (z : ℤ) → (a 0).num ≡ z → first_sign z (is_positive n (λ t. a (suc t))) ≡ true
    go f (pos zero) e = f (shifted n a (zero_of (a 0) e) h)
    go f (pos (suc m)) e = refl
    go f (negsuc m) e = absurd (never_below n a (below_of (a 0) m e) h)

pub both_not : (N : ℕ) (a : ℕ → Number) → IsPositive N a → IsPositive N (λ t. neg (a t)) → ⊥
both_not N a h g = positive_not_null N (λ t. a t +ₙ neg (a t)) (positive_add N a (λ t. neg (a t)) h g) (λ t l. by_ring (a t ∷ []) (v 0 ⊖ v 0) (k 0) refl)

pub test_down : (n : ℕ) (a : ℕ → Number) → IsPositive n (λ t. neg (a t)) → is_positive n a ≡ false
test_down n a h = go (is_positive n a) refl
  where
    go : (b : Bool) → is_positive n a ≡ b → b ≡ false
    go true e = absurd (both_not n a (test_yes n a e) h)
    go false e = refl

-- ---- the ranges
pub lower_column : (P : LinearProgram) (B : Boxes) (u : ℕ) → u < P.columns → lower P B u ≡ (B u).low
lower_column P B u l = let e : ltb u P.columns ≡ true = grind arith in rw e refl

pub upper_column : (P : LinearProgram) (B : Boxes) (u : ℕ) → u < P.columns → upper P B u ≡ Some (B u).high
upper_column P B u l = let e : ltb u P.columns ≡ true = grind arith in rw e refl

pub lower_slack : (P : LinearProgram) (B : Boxes) (i : ℕ) → lower P B (P.columns + i) ≡ whole 0
lower_slack P B i = let e : ltb (P.columns + i) P.columns ≡ false = grind arith in rw e refl

pub upper_slack : (P : LinearProgram) (B : Boxes) (i : ℕ) → upper P B (P.columns + i) ≡ (if P.equation i then Some (whole 0) else None)
upper_slack P B i = let e : ltb (P.columns + i) P.columns ≡ false = grind arith in let q : P.columns + i - P.columns ≡ i = omega arith in
    ap (λ b. if b then Some (B (P.columns + i)).high else (if P.equation (P.columns + i - P.columns) then Some (whole 0) else None)) e
    ∙ ap (λ z. if P.equation z then Some (whole 0) else None) q

pub some_same : {a b : Number} → Some a ≡ Some b → a ≡ b
some_same e = ap (λ o. elim o [ Some x ↦ x | None ↦ whole 0 ]) e

none_some : {X : Type 0} {a : X} → ◌≡◌ {A = Option X} None (Some a) → ⊥
none_some e = absurd (cc)

-- ---- the values outside
slack_end_zero : (P : LinearProgram) (B : Boxes) (T : Tableau) (j i : ℕ) → T.outside j ≡ P.columns + i → end_value P B T j ≡ whole 0
slack_end_zero P B T j i e = go (is_raised_above P T j) (P.equation i) refl
  where
    up_is : (q : Bool) → P.equation i ≡ q → end_or (upper P B (T.outside j)) (lower P B (T.outside j)) ≡ whole 0
    up_is q f = ap₂ end_or (ap (upper P B) e ∙ upper_slack P B i ∙ ap (λ b. if b then Some (whole 0) else None) f) (ap (lower P B) e ∙ lower_slack P B i) ∙ both q
      where
        both : (q : Bool) → end_or (if q then Some (whole 0) else None) (whole 0) ≡ whole 0
        both true = refl
        both false = refl

    go : (b q : Bool) → P.equation i ≡ q → (if b then end_or (upper P B (T.outside j)) (lower P B (T.outside j)) else lower P B (T.outside j)) ≡ whole 0
    go true q f = up_is q f
    go false q f = ap (lower P B) e ∙ lower_slack P B i

pub stands : (P : LinearProgram) (B : Boxes) (T : Tableau) → IsOf P T → StandsAtEnds P B T (status_value P B T)
stands P B T o = record {
  solves = values_solve P T o (end_value P B T);
  slacks = λ j i lj li e. subst (λ z. status_value P B T z ≡ whole 0) e (values_outside P T o (end_value P B T) j lj ∙ slack_end_zero P B T j i e);
  high = λ j lj lu h. values_outside P T o (end_value P B T) j lj
      ∙ ap (λ b. if b then end_or (upper P B (T.outside j)) (lower P B (T.outside j)) else lower P B (T.outside j)) (test_is (suc P.columns) (raised P T j) h)
      ∙ ap (λ z. end_or z (lower P B (T.outside j))) (upper_column P B (T.outside j) lu);
  low = λ j lj lu h. values_outside P T o (end_value P B T) j lj
      ∙ ap (λ b. if b then end_or (upper P B (T.outside j)) (lower P B (T.outside j)) else lower P B (T.outside j)) (test_down (suc P.columns) (raised P T j) h)
      ∙ lower_column P B (T.outside j) lu;
}

pub basic_is : (P : LinearProgram) (B : Boxes) (T : Tableau) → IsOf P T → (i : ℕ) → i ≤ P.rows → status_value P B T (T.basic i) ≡ basic_value P B T i
basic_is P B T o i l = values_basic P T o (end_value P B T) i l

-- ---- off the range
pub off_sign : (P : LinearProgram) (B : Boxes) (u : ℕ) (x side near : Number) → IsOff P B u x side near → IsSign side
off_sign P B u x side near (under e f l) = inl e
off_sign P B u x side near (over e f l) = inr e

pub off_above : (P : LinearProgram) (B : Boxes) (u : ℕ) (x side near : Number) → IsOff P B u x side near → whole 0 <ₙ side *ₙ (near -ₙ x)
off_above P B u x side near (under e f l) = subst (λ z. whole 0 <ₙ z *ₙ (near -ₙ x)) (sym e) (subst (λ z. whole 0 <ₙ z) (by_ring (near ∷ x ∷ []) (v 0 ⊖ v 1) (k 1 ⊗ (v 0 ⊖ v 1)) refl) (less x near l))
  where
    less : (a b : Number) → a <ₙ b → whole 0 <ₙ b -ₙ a
    less a b = elim (common2_of a b) [ common2 D h p1 n1 p2 n2 e1 e2 ↦ rw (e1, e2) (simp (overs, whole-ratio 0 D h) (omega arith)) ]
off_above P B u x side near (over e f l) = subst (λ z. whole 0 <ₙ z *ₙ (near -ₙ x)) (sym e) (subst (λ z. whole 0 <ₙ z) (by_ring (near ∷ x ∷ []) (v 1 ⊖ v 0) (minus (k 1) ⊗ (v 0 ⊖ v 1)) refl) (less near x l))
  where
    less : (a b : Number) → a <ₙ b → whole 0 <ₙ b -ₙ a
    less a b = elim (common2_of a b) [ common2 D h p1 n1 p2 n2 e1 e2 ↦ rw (e1, e2) (simp (overs, whole-ratio 0 D h) (omega arith)) ]

pub off_near : (P : LinearProgram) (B : Boxes) (T : Tableau) → IsOf P T → (r : ℕ) (x side near : Number) → r < P.rows → IsOff P B (T.basic r) x side near → NearEnd P B T r side near
off_near P B T o r x side near lr h = elim (cases (T.basic r) P.columns P.rows (o.placed.basic_in r lr)) as (λ _. NearEnd P B T r side near) [
  | inl l ↦ of_column l h
  | inr z ↦ slack_end z.0 z.1 z.2 (one z.0 z.2 h) (of_slack z.0 z.2 h)
]
  where
    of_column : T.basic r < P.columns → IsOff P B (T.basic r) x side near → NearEnd P B T r side near
    of_column l (under e f m) = low_end l e (f ∙ lower_column P B (T.basic r) l)
    of_column l (over e f m) = high_end l e (some_same (sym f ∙ upper_column P B (T.basic r) l))

    upper_at : (i : ℕ) → T.basic r ≡ P.columns + i → upper P B (T.basic r) ≡ (if P.equation i then Some (whole 0) else None)
    upper_at i e = ap (upper P B) e ∙ upper_slack P B i

    one : (i : ℕ) → T.basic r ≡ P.columns + i → IsOff P B (T.basic r) x side near → P.equation i ≡ false → side ≡ whole 1
    one i q (under e f m) n = e
    one i q (over e f m) n = absurd (none_some (sym (upper_at i q ∙ ap (λ b. if b then Some (whole 0) else None) n) ∙ f))

    of_slack : (i : ℕ) → T.basic r ≡ P.columns + i → IsOff P B (T.basic r) x side near → near ≡ whole 0
    of_slack i q (under e f m) = f ∙ ap (lower P B) q ∙ lower_slack P B i
    of_slack i q (over e f m) = go (P.equation i) refl
      where
        go : (b : Bool) → P.equation i ≡ b → near ≡ whole 0
        go true n = some_same (sym f ∙ upper_at i q ∙ ap (λ b. if b then Some (whole 0) else None) n)
        go false n = absurd (none_some (sym (upper_at i q ∙ ap (λ b. if b then Some (whole 0) else None) n) ∙ f))

-- ---- what can move
pub movable : (P : LinearProgram) (B : Boxes) (T : Tableau) (j : ℕ) → CanMove P B T j → IsMovable P B (T.outside j)
movable P B T j (column l m) e = lt_irrefl (B (T.outside j)).low (subst (λ z. (B (T.outside j)).low <ₙ z) (some_same (sym (upper_column P B (T.outside j) l) ∙ e ∙ ap Some (lower_column P B (T.outside j) l))) m)
movable P B T j (slack i l q f) e = none_some (sym (ap (upper P B) q ∙ upper_slack P B i ∙ ap (λ b. if b then Some (whole 0) else None) f) ∙ e)

-- no range is empty
pub range_ordered : (P : LinearProgram) (B : Boxes) → IsOrdered P.columns B → (u : ℕ) → u < P.columns + P.rows → at_most (lower P B u) (upper P B u)
range_ordered P B b u l = elim (cases u P.columns P.rows l) as (λ _. at_most (lower P B u) (upper P B u)) [
  | inl m ↦ subst (at_most (lower P B u)) (sym (upper_column P B u m)) (subst (λ z. z ≤ₙ (B u).high) (sym (lower_column P B u m)) (b u m))
  | inr z ↦ subst (at_most (lower P B u)) (sym (ap (upper P B) z.2 ∙ upper_slack P B z.0)) (subst (λ y. at_most y (if P.equation z.0 then Some (whole 0) else None)) (sym (ap (lower P B) z.2 ∙ lower_slack P B z.0)) (zeros (P.equation z.0)))
]
  where
    zeros : (q : Bool) → at_most (whole 0) (if q then Some (whole 0) else None)
    zeros true = le_refl' (whole 0)
    zeros false = tt

-- ---- all inside
pub end_in_range : (P : LinearProgram) (B : Boxes) (T : Tableau) → IsOf P T → IsOrdered P.columns B → (j : ℕ) → j < P.columns → InRange P B (T.outside j) (end_value P B T j)
end_in_range P B T o b j lj = go (is_raised_above P T j)
  where
    ordered : at_most (lower P B (T.outside j)) (upper P B (T.outside j))
    ordered = range_ordered P B b (T.outside j) (o.placed.outside_in j lj)

    upper_end : (low : Number) (high : Option Number) → at_most low high → (low ≤ₙ end_or high low) × at_most (end_or high low) high
    upper_end low None h = (le_refl' low, tt)
    upper_end low (Some x) h = (h, le_refl' x)

    go : (q : Bool) → InRange P B (T.outside j) (if q then end_or (upper P B (T.outside j)) (lower P B (T.outside j)) else lower P B (T.outside j))
    go true = let w : (lower P B (T.outside j) ≤ₙ end_or (upper P B (T.outside j)) (lower P B (T.outside j))) × at_most (end_or (upper P B (T.outside j)) (lower P B (T.outside j))) (upper P B (T.outside j)) = upper_end (lower P B (T.outside j)) (upper P B (T.outside j)) ordered in
        record { low = w.0; high = w.1 }
    go false = record { low = le_refl' (lower P B (T.outside j)); high = ordered }

pub range_of_all : (P : LinearProgram) (B : Boxes) (T : Tableau) → IsOf P T → IsOrdered P.columns B → AllInside P B T → (u : ℕ) → u < P.columns + P.rows → InRange P B u (status_value P B T u)
range_of_all P B T o b h u l = elim (o.placed.somewhere u l) as (λ _. InRange P B u (status_value P B T u)) [
  | inl x ↦ subst (λ z. InRange P B z (status_value P B T z)) x.2 (subst (InRange P B (T.basic x.0)) (sym (basic_is P B T o x.0 (omega (arith, x.1)))) (h x.0 x.1))
  | inr x ↦ subst (λ z. InRange P B z (status_value P B T z)) x.2 (subst (InRange P B (T.outside x.0)) (sym (values_outside P T o (end_value P B T) x.0 x.1)) (end_in_range P B T o b x.0 x.1))
]

pub feasible : (P : LinearProgram) (B : Boxes) (w : ℕ → Number) → ((u : ℕ) → u < P.columns + P.rows → InRange P B u (w u)) → IsFeasible P B w
feasible P B w h = (
  λ j l. record {
    low = subst (λ z. z ≤ₙ w j) (lower_column P B j l) (h j (omega arith)).low;
    high = subst (at_most (w j)) (upper_column P B j l) (h j (omega arith)).high;
  },
  λ i l. go i (P.equation i) refl (subst (λ z. z ≤ₙ w (P.columns + i)) (lower_slack P B i) (h (P.columns + i) (omega arith)).low) (subst (at_most (w (P.columns + i))) (upper_slack P B i) (h (P.columns + i) (omega arith)).high),
)
  where
    go : (i : ℕ) (q : Bool) → P.equation i ≡ q → whole 0 ≤ₙ w (P.columns + i) → at_most (w (P.columns + i)) (if P.equation i then Some (whole 0) else None) → SlackIn (P.equation i) (w (P.columns + i))
    go i true e low high = subst (λ z. SlackIn z (w (P.columns + i))) (sym e) (le_antisymm (w (P.columns + i)) (whole 0) (subst (λ b. at_most (w (P.columns + i)) (if b then Some (whole 0) else None)) e high) low)
    go i false e low high = subst (λ z. SlackIn z (w (P.columns + i))) (sym e) low
