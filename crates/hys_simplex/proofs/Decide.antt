-- Tests of the rule at numbers, so that worked paths are checked by computation.
use Rattle.std.proofs.Common.{◌≡◌, ℕ, zero, suc, ◌<◌, ◌⊎◌, inl, inr, refl, sym, ◌∙◌, ap, subst, arith, Bool, true, false, ◌&&◌, ◌||◌, not, ltb, Option, Some, None, ℤ, pos, negsuc}
use Rattle.hys_number.specs.Number.{Number}
use Rattle.hys_number.specs.Ops.{◌*ₙ◌, ◌-ₙ◌, neg, ◌≤ₙ◌, ◌<ₙ◌, whole}
use Rattle.hys_number.proofs.Laws.{whole-ratio}
use Rattle.hys_number.proofs.Order.{le_total, le_antisymm}
use Rattle.hys_number.proofs.Scale.{overs, common2, common2_of}
use Rattle.hys_relax.specs.Node.{Boxes}
use Rattle.hys_relax.specs.LinearProgram.{LinearProgram}
use Rattle.hys_simplex.specs.Tableau.{Tableau}
use Rattle.hys_simplex.specs.Status.{Rises, is_positive, lower, upper, at_most, InRange, IsOff, under, over, basic_value}
use Rattle.hys_simplex.specs.Rule.{raised_sign, MayEnter, ratio, IsRuled}
use Rattle.hys_simplex.proofs.Status.{zero_of, above_of, below_of}
use Rattle.hys_simplex.proofs.Ranges.{test_is}

-- ---- numbers
abbrev pub above_zero : ℤ → Bool
above_zero (pos zero) = false
above_zero (pos (suc n)) = true
above_zero (negsuc n) = false

abbrev pub lt_test : Number → Number → Bool
lt_test a b = above_zero (b -ₙ a).num

abbrev pub le_test : Number → Number → Bool
le_test a b = not (lt_test b a)

difference : (a b : Number) → whole 0 <ₙ b -ₙ a → a <ₙ b
difference a b = elim (common2_of a b) [ common2 D h p1 n1 p2 n2 e1 e2 ↦ rw (e1, e2) (simp (overs, whole-ratio 0 D h) (omega arith)) ]

difference' : (a b : Number) → a <ₙ b → whole 0 <ₙ b -ₙ a
difference' a b = elim (common2_of a b) [ common2 D h p1 n1 p2 n2 e1 e2 ↦ rw (e1, e2) (simp (overs, whole-ratio 0 D h) (omega arith)) ]

pub lt_yes : (a b : Number) → lt_test a b ≡ true → a <ₙ b
lt_yes a b h = difference a b (go (b -ₙ a) (b -ₙ a).num refl h)
  where
    go : (c : Number) (z : ℤ) → c.num ≡ z → above_zero z ≡ true → whole 0 <ₙ c
    go c (pos zero) e f = absurd (cc)
    go c (pos (suc n)) e f = above_of c n e
    go c (negsuc n) e f = absurd (cc)

pub lt_is : (a b : Number) → a <ₙ b → lt_test a b ≡ true
lt_is a b h = go (b -ₙ a) (b -ₙ a).num refl (difference' a b h)
  where
    irrefl : (x y : Number) → x <ₙ y → y <ₙ x → ⊥
    irrefl x y = elim (common2_of x y) [ common2 D h p1 n1 p2 n2 e1 e2 ↦ rw (e1, e2) (simp overs (omega arith)) ]

    go : (c : Number) (z : ℤ) → c.num ≡ z → whole 0 <ₙ c → above_zero z ≡ true
    go c (pos zero) e f = absurd (irrefl (whole 0) (whole 0) (subst (λ x. whole 0 <ₙ x) (zero_of c e) f) (subst (λ x. whole 0 <ₙ x) (zero_of c e) f))
    go c (pos (suc n)) e f = refl
    go c (negsuc n) e f = absurd (irrefl (whole 0) c f (below_of c n e))

false_not_true : {b : Bool} → b ≡ false → b ≡ true → ⊥
false_not_true e f = absurd (let q : false ≡ true = sym e ∙ f in cc)

not_true : (b : Bool) → not b ≡ true → b ≡ false
not_true true h = absurd (cc)
not_true false h = refl

pub le_yes : (a b : Number) → le_test a b ≡ true → a ≤ₙ b
le_yes a b h = elim (le_total a b) as (λ _. a ≤ₙ b) [ inl l ↦ l | inr l ↦ absurd (false_not_true (not_true (lt_test b a) h) (lt_is b a l)) ]

both_true : (a b : Bool) → a && b ≡ true → (a ≡ true) × (b ≡ true)
both_true true b h = (refl, h)
both_true false b h = absurd (cc)

-- ---- ranges
abbrev pub at_most_test : Number → Option Number → Bool
at_most_test x None = true
at_most_test x (Some h) = le_test x h

abbrev pub range_test : LinearProgram → Boxes → ℕ → Number → Bool
range_test P B u x = le_test (lower P B u) x && at_most_test x (upper P B u)

pub range_yes : (P : LinearProgram) (B : Boxes) (u : ℕ) (x : Number) → range_test P B u x ≡ true → InRange P B u x
range_yes P B u x h = let w : (le_test (lower P B u) x ≡ true) × (at_most_test x (upper P B u) ≡ true) = both_true (le_test (lower P B u) x) (at_most_test x (upper P B u)) h in
    record { low = le_yes (lower P B u) x w.0; high = go (upper P B u) w.1 }
  where
    go : (o : Option Number) → at_most_test x o ≡ true → at_most x o
    go None e = tt
    go (Some y) e = le_yes x y e

-- what is in its range isn't off it
pub inside_not_off : (P : LinearProgram) (B : Boxes) (u : ℕ) (x side near : Number) → InRange P B u x → IsOff P B u x side near → ⊥
inside_not_off P B u x side near h (under e f l) = not_both x near l (subst (λ z. z ≤ₙ x) (sym f) h.low)
  where
    not_both : (a b : Number) → a <ₙ b → b ≤ₙ a → ⊥
    not_both a b = elim (common2_of a b) [ common2 D h p1 n1 p2 n2 e1 e2 ↦ rw (e1, e2) (simp overs (omega arith)) ]
inside_not_off P B u x side near h (over e f l) = not_both near x l (subst (at_most x) f h.high)
  where
    not_both : (a b : Number) → a <ₙ b → b ≤ₙ a → ⊥
    not_both a b = elim (common2_of a b) [ common2 D h p1 n1 p2 n2 e1 e2 ↦ rw (e1, e2) (simp overs (omega arith)) ]

-- ---- tests of all places below a number
abbrev pub all_to : ℕ → (ℕ → Bool) → Bool
all_to zero f = true
all_to (suc n) f = all_to n f && f n

pub all_yes : (n : ℕ) (f : ℕ → Bool) → all_to n f ≡ true → (i : ℕ) → i < n → f i ≡ true
all_yes zero f h i l = absurd (omega arith)
all_yes (suc n) f h i l = elim (split i n l) as (λ _. f i ≡ true) [
  | inl m ↦ all_yes n f (both_true (all_to n f) (f n) h).0 i m
  | inr m ↦ ap f m ∙ (both_true (all_to n f) (f n) h).1
]
  where
    split : (i n : ℕ) → i < suc n → (i < n) ⊎ (i ≡ n)
    split i n l = grind arith

abbrev pub inside_to : LinearProgram → Boxes → Tableau → ℕ → Bool
inside_to P B T n = all_to n (λ i. range_test P B (T.basic i) (basic_value P B T i))

pub inside_yes : (P : LinearProgram) (B : Boxes) (T : Tableau) (n : ℕ) → inside_to P B T n ≡ true → (i : ℕ) → i < n → InRange P B (T.basic i) (basic_value P B T i)
inside_yes P B T n h i l = range_yes P B (T.basic i) (basic_value P B T i) (all_yes n (λ i. range_test P B (T.basic i) (basic_value P B T i)) h i l)

-- ---- columns
abbrev pub same_test : Number → Number → Bool
same_test a b = not (lt_test a b) && not (lt_test b a)

abbrev pub fixed_test : Option Number → Number → Bool
fixed_test None low = false
fixed_test (Some high) low = same_test high low

-- the column can't enter: its range is one number, or it doesn't move the row's value towards its range
abbrev pub stuck_test : LinearProgram → Boxes → Tableau → ℕ → Number → ℕ → Bool
stuck_test P B T r side j = fixed_test (upper P B (T.outside j)) (lower P B (T.outside j)) || not (lt_test (whole 0) (side *ₙ raised_sign P T j *ₙ T.cell r j))

abbrev pub least_test : LinearProgram → Boxes → Tableau → ℕ → Number → ℕ → ℕ → Bool
least_test P B T r side c j = stuck_test P B T r side j || not (is_positive (suc P.columns) (λ t. ratio P T r side c t -ₙ ratio P T r side j t))

either_true : (a b : Bool) → a || b ≡ true → (a ≡ true) ⊎ (b ≡ true)
either_true true b h = inl refl
either_true false b h = inr h

same_yes : (a b : Number) → same_test a b ≡ true → a ≡ b
same_yes a b h = let w : (not (lt_test a b) ≡ true) × (not (lt_test b a) ≡ true) = both_true (not (lt_test a b)) (not (lt_test b a)) h in
    le_antisymm a b (le_yes a b w.1) (le_yes b a w.0)

fixed_yes : (o : Option Number) (low : Number) → fixed_test o low ≡ true → o ≡ Some low
fixed_yes None low h = absurd (cc)
fixed_yes (Some high) low h = ap Some (same_yes high low h)

pub stuck_yes : (P : LinearProgram) (B : Boxes) (T : Tableau) (r : ℕ) (side : Number) (j : ℕ) → stuck_test P B T r side j ≡ true → MayEnter P B T r side j → ⊥
stuck_yes P B T r side j h m = elim (either_true (fixed_test (upper P B (T.outside j)) (lower P B (T.outside j))) (not (lt_test (whole 0) (side *ₙ raised_sign P T j *ₙ T.cell r j))) h) as (λ _. ⊥) [
  | inl e ↦ m.movable (fixed_yes (upper P B (T.outside j)) (lower P B (T.outside j)) e)
  | inr e ↦ false_not_true (not_true (lt_test (whole 0) (side *ₙ raised_sign P T j *ₙ T.cell r j)) e) (lt_is (whole 0) (side *ₙ raised_sign P T j *ₙ T.cell r j) m.toward)
]

-- ---- the rule
-- the row is off its range on the side
pub data Side : Type 0 where
  beneath : Side
  beyond : Side

abbrev pub sign : Side → Number
sign beneath = whole 1
sign beyond = neg (whole 1)

abbrev pub end_of : Side → LinearProgram → Boxes → ℕ → Option Number
end_of beneath P B u = Some (lower P B u)
end_of beyond P B u = upper P B u

abbrev pub off_test : Side → Option Number → Number → Bool
off_test s None x = false
off_test beneath (Some near) x = lt_test x near
off_test beyond (Some near) x = lt_test near x

abbrev pub rule_test : LinearProgram → Boxes → Tableau → Side → ℕ → ℕ → Bool
rule_test P B T s r c =
    ltb r P.rows && (inside_to P B T r && (off_test s (end_of s P B (T.basic r)) (basic_value P B T r) && (ltb c P.columns
    && (not (fixed_test (upper P B (T.outside c)) (lower P B (T.outside c))) && (lt_test (whole 0) (sign s *ₙ raised_sign P T c *ₙ T.cell r c)
    && all_to P.columns (λ j. least_test P B T r (sign s) c j))))))

record Off (P : LinearProgram) (B : Boxes) (u : ℕ) (x side : Number) : Type 0 where
  pub near : Number
  pub off : IsOff P B u x side near

off_yes : (s : Side) (P : LinearProgram) (B : Boxes) (u : ℕ) (x : Number) → off_test s (end_of s P B u) x ≡ true → Off P B u x (sign s)
off_yes beneath P B u x h = record { near = lower P B u; off = under refl refl (lt_yes x (lower P B u) h) }
off_yes beyond P B u x h = go (upper P B u) refl h
  where
    go : (o : Option Number) → upper P B u ≡ o → off_test beyond o x ≡ true → Off P B u x (neg (whole 1))
    go None e f = absurd (cc)
    go (Some near) e f = record { near = near; off = over refl e (lt_yes near x f) }

fixed_is : (o : Option Number) (low : Number) → o ≡ Some low → fixed_test o low ≡ true
fixed_is None low e = absurd (cc)
fixed_is (Some high) low e = let g : high ≡ low = ap (λ o. elim o [ Some x ↦ x | None ↦ low ]) e in
    subst (λ z. same_test z low ≡ true) (sym g) (rw (irrefl low) refl)
  where
    irrefl : (a : Number) → lt_test a a ≡ false
    irrefl a = go (lt_test a a) refl
      where
        not_itself : (x : Number) → x <ₙ x → ⊥
        not_itself x = elim (common2_of x x) [ common2 D h p1 n1 p2 n2 e1 e2 ↦ rw (e1) (simp overs (omega arith)) ]

        go : (b : Bool) → lt_test a a ≡ b → b ≡ false
        go true e = absurd (not_itself a (lt_yes a a e))
        go false e = refl

pub rule_yes : (P : LinearProgram) (B : Boxes) (T : Tableau) (s : Side) (r c : ℕ) → rule_test P B T s r c ≡ true → IsRuled P B T r c
rule_yes P B T s r c h =
    let a : (ltb r P.rows ≡ true) × _ = both_true (ltb r P.rows) _ h in
    let b : (inside_to P B T r ≡ true) × _ = both_true (inside_to P B T r) _ a.1 in
    let d : (off_test s (end_of s P B (T.basic r)) (basic_value P B T r) ≡ true) × _ = both_true (off_test s (end_of s P B (T.basic r)) (basic_value P B T r)) _ b.1 in
    let e : (ltb c P.columns ≡ true) × _ = both_true (ltb c P.columns) _ d.1 in
    let f : (not (fixed_test (upper P B (T.outside c)) (lower P B (T.outside c))) ≡ true) × _ = both_true (not (fixed_test (upper P B (T.outside c)) (lower P B (T.outside c)))) _ e.1 in
    let g : (lt_test (whole 0) (sign s *ₙ raised_sign P T c *ₙ T.cell r c) ≡ true) × (all_to P.columns (λ j. least_test P B T r (sign s) c j) ≡ true) =
    both_true (lt_test (whole 0) (sign s *ₙ raised_sign P T c *ₙ T.cell r c)) (all_to P.columns (λ j. least_test P B T r (sign s) c j)) f.1 in
    let o : Off P B (T.basic r) (basic_value P B T r) (sign s) = off_yes s P B (T.basic r) (basic_value P B T r) d.0 in
    record {
      side = sign s;
      near = o.near;
      leaving = record { row = below r P.rows a.0; before = inside_yes P B T r b.0; off = o.off };
      entering = record {
        column = below c P.columns e.0;
        enters = record {
          movable = λ q. false_not_true (not_true (fixed_test (upper P B (T.outside c)) (lower P B (T.outside c))) f.0) (fixed_is (upper P B (T.outside c)) (lower P B (T.outside c)) q);
          toward = lt_yes (whole 0) (sign s *ₙ raised_sign P T c *ₙ T.cell r c) g.0;
        };
        least = λ j l m q. least j m q (all_yes P.columns (λ j. least_test P B T r (sign s) c j) g.1 j l);
      };
    }
  where
    below : (x n : ℕ) → ltb x n ≡ true → x < n
    below x n e = grind arith

    least : (j : ℕ) → MayEnter P B T r (sign s) j → Rises (suc P.columns) (ratio P T r (sign s) j) (ratio P T r (sign s) c) → least_test P B T r (sign s) c j ≡ true → ⊥
    least j m q t = elim (either_true (stuck_test P B T r (sign s) j) (not (is_positive (suc P.columns) (λ t. ratio P T r (sign s) c t -ₙ ratio P T r (sign s) j t))) t) as (λ _. ⊥) [
      | inl u ↦ stuck_yes P B T r (sign s) j u m
      | inr u ↦ false_not_true (not_true (is_positive (suc P.columns) (λ t. ratio P T r (sign s) c t -ₙ ratio P T r (sign s) j t)) u) (test_is (suc P.columns) (λ t. ratio P T r (sign s) c t -ₙ ratio P T r (sign s) j t) q)
    ]
