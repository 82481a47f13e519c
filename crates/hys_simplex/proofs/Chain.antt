-- No status comes twice.
use Rattle.std.proofs.Common.{◌≡◌, ℕ, zero, suc, ◌+◌, ◌*◌, ◌-◌, ◌<◌, ◌≤◌, ◌⊎◌, inl, inr, refl, sym, ◌∙◌, ap, subst, arith, [], ◌∷◌, true, false, if◌then◌else◌, ltb}
use Rattle.hys_number.specs.Number.{Number}
use Rattle.hys_number.specs.Ops.{neg, ◌+ₙ◌}
use Rattle.hys_relax.specs.LinearProgram.{LinearProgram}
use Rattle.hys_relax.specs.Node.{Boxes}
use Rattle.hys_simplex.specs.Tableau.{Tableau, Solves, IsOf}
use Rattle.hys_simplex.specs.Status.{IsPositive, IsNull, Rises, place_var, raised}
use Rattle.hys_simplex.proofs.Relations.{StandsAtEnds, SameEnds, raised_cost}
use Rattle.hys_simplex.proofs.Lex.{RaisedSign, raised_sign, positive_not_null, positive_add, rises_trans, rises_irrefl, down, nothing, up}
use Rattle.hys_simplex.proofs.Edges.{determined}
use Rattle.hys_simplex.proofs.Rising.{place_in, raised_not_null}
use Rattle.hys_simplex.proofs.Ruled.{cases}
use Rattle.hys_simplex.proofs.Measure.{steps_below, pack, power, pack_below, pack_same}
use Rattle.hys_number.proofs.Ring.{by_ring, v, k, ◌⊖◌}

-- two statuses that are the same have the same point
pub same_point : (P : LinearProgram) (B : Boxes) (T T' : Tableau) (w w' : ℕ → Number) → IsOf P T → IsOf P T' → StandsAtEnds P B T w → StandsAtEnds P B T' w' → SameEnds P T T' →
    (u : ℕ) → u ≤ P.columns + P.rows → w u ≡ w' u
same_point P B T T' w w' o o' s s' h = determined P T o w w' (λ i l. s.solves i (rw o.tall l) ∙ sym ((o.keeps w').0 ((o'.keeps w').1 s'.solves) i (rw o.tall l))) (λ j l. at j l (find j l))
  where
    -- where the variable stands in the other
    find : (j : ℕ) → j < P.columns → (j' : ℕ) × (j' < P.columns) × (T'.outside j' ≡ T.outside j)
    find j l = elim (o'.placed.somewhere (T.outside j) (o.placed.outside_in j l)) as (λ _. (j' : ℕ) × (j' < P.columns) × (T'.outside j' ≡ T.outside j)) [
      | inl x ↦ absurd (o.placed.apart x.0 j (omega (arith, x.1)) l (h.basics x.0 x.1 ∙ x.2))
      | inr x ↦ x
    ]

    at : (j : ℕ) → j < P.columns → ((j' : ℕ) × (j' < P.columns) × (T'.outside j' ≡ T.outside j)) → w (T.outside j) ≡ w' (T.outside j)
    at j l x = elim (cases (T.outside j) P.columns P.rows (o.placed.outside_in j l)) as (λ _. w (T.outside j) ≡ w' (T.outside j)) [
      | inr z ↦ ap w z.2 ∙ s.slacks j z.0 l z.1 z.2 ∙ sym (ap w' z.2 ∙ s'.slacks x.0 z.0 x.1 z.1 (x.2 ∙ z.2))
      | inl m ↦ elim (raised_sign (suc P.columns) (raised P T j)) as (λ _. w (T.outside j) ≡ w' (T.outside j)) [
        | nothing n ↦ absurd (raised_not_null P T o w s.solves j l n)
        | up a ↦ s.high j l m a ∙ sym (subst (λ z. w' z ≡ (B z).high) x.2 (s'.high x.0 x.1 (rw x.2 m) ((h.ends j x.0 l x.1 m (sym x.2)).0 a)))
        | down a ↦ s.low j l m a ∙ sym (subst (λ z. w' z ≡ (B z).low) x.2 (s'.low x.0 x.1 (rw x.2 m) (below x.0 x.1 (λ b. both (suc P.columns) (raised P T j) ((h.ends j x.0 l x.1 m (sym x.2)).1 b) a))))
      ]
    ]
      where
        both : (N : ℕ) (a : ℕ → Number) → IsPositive N a → IsPositive N (λ t. neg (a t)) → ⊥
        both N a h g = positive_not_null N (λ t. a t +ₙ neg (a t)) (positive_add N a (λ t. neg (a t)) h g) (λ t l. by_ring (a t ∷ []) (v 0 ⊖ v 0) (k 0) refl)

        below : (j' : ℕ) → j' < P.columns → (IsPositive (suc P.columns) (raised P T' j') → ⊥) → IsPositive (suc P.columns) (λ t. neg (raised P T' j' t))
        below j' l' not = elim (raised_sign (suc P.columns) (raised P T' j')) as (λ _. IsPositive (suc P.columns) (λ t. neg (raised P T' j' t))) [
          | down a ↦ a
          | nothing n ↦ absurd (raised_not_null P T' o' w' s'.solves j' l' n)
          | up a ↦ absurd (not a)
        ]

-- ---- the statuses of one call
pub record IsChain (P : LinearProgram) (B : Boxes) (n : ℕ) (T : ℕ → Tableau) (w : ℕ → ℕ → Number) : Type 0 where
  pub of : (i : ℕ) → i ≤ n → IsOf P (T i)
  pub status : (i : ℕ) → i ≤ n → StandsAtEnds P B (T i) (w i)
  pub rises : (i : ℕ) → i < n → Rises (suc P.columns) (raised_cost P (w i)) (raised_cost P (w (suc i)))

pub chain_rises : (P : LinearProgram) (B : Boxes) (n : ℕ) (T : ℕ → Tableau) (w : ℕ → ℕ → Number) → IsChain P B n T w → (i j : ℕ) → i < j → j ≤ n → Rises (suc P.columns) (raised_cost P (w i)) (raised_cost P (w j))
chain_rises P B n T w h i zero l m = absurd (omega arith)
chain_rises P B n T w h i (suc j) l m = elim (split i j l) as (λ _. Rises (suc P.columns) (raised_cost P (w i)) (raised_cost P (w (suc j)))) [
  | inl q ↦ rises_trans (suc P.columns) (raised_cost P (w i)) (raised_cost P (w j)) (raised_cost P (w (suc j))) (chain_rises P B n T w h i j q (omega arith)) (h.rises j (omega arith))
  | inr q ↦ subst (λ z. Rises (suc P.columns) (raised_cost P (w z)) (raised_cost P (w (suc j)))) (sym q) (h.rises j (omega arith))
]
  where
    split : (i j : ℕ) → i < suc j → (i < j) ⊎ (i ≡ j)
    split i j l = grind arith

-- no status comes twice
pub never_twice : (P : LinearProgram) (B : Boxes) (n : ℕ) (T : ℕ → Tableau) (w : ℕ → ℕ → Number) → IsChain P B n T w → (i j : ℕ) → i < j → j ≤ n → SameEnds P (T i) (T j) → ⊥
never_twice P B n T w h i j l m s = rises_irrefl (suc P.columns) (raised_cost P (w i)) (raised_cost P (w j))
    (λ t q. same_point P B (T i) (T j) (w i) (w j) (h.of i (omega arith)) (h.of j m) (h.status i (omega arith)) (h.status j m) s (place_var P t) (place_in P t q))
    (chain_rises P B n T w h i j l m)

-- ---- a status as a number: the basic variables, and the variable and the end of each column
abbrev bit : {N : ℕ} {a : ℕ → Number} → RaisedSign N a → ℕ
bit (down h) = 0
bit (nothing h) = 0
bit (up h) = 1

abbrev entry : LinearProgram → Tableau → ℕ → ℕ
entry P T x = if ltb x P.rows then T.basic x else 2 * T.outside (x - P.rows) + bit (raised_sign (suc P.columns) (raised P T (x - P.rows)))

abbrev pub base : LinearProgram → ℕ
base P = 2 * (P.columns + P.rows) + 2

abbrev pub code : LinearProgram → Tableau → ℕ
code P T = pack (base P) (P.rows + P.columns) (entry P T)

bit_le : {N : ℕ} {a : ℕ → Number} → (s : RaisedSign N a) → bit s ≤ 1
bit_le (down h) = omega arith
bit_le (nothing h) = omega arith
bit_le (up h) = omega arith

entry_left : (P : LinearProgram) (T : Tableau) (x : ℕ) → x < P.rows → entry P T x ≡ T.basic x
entry_left P T x l = let e : ltb x P.rows ≡ true = grind arith in rw e refl

entry_right : (P : LinearProgram) (T : Tableau) (j : ℕ) → entry P T (P.rows + j) ≡ 2 * T.outside j + bit (raised_sign (suc P.columns) (raised P T j))
entry_right P T j = let e : ltb (P.rows + j) P.rows ≡ false = grind arith in let q : P.rows + j - P.rows ≡ j = omega arith in
    ap (λ b. if b then T.basic (P.rows + j) else 2 * T.outside (P.rows + j - P.rows) + bit (raised_sign (suc P.columns) (raised P T (P.rows + j - P.rows)))) e
    ∙ ap (λ z. 2 * T.outside z + bit (raised_sign (suc P.columns) (raised P T z))) q

entry_below : (P : LinearProgram) (T : Tableau) → IsOf P T → (x : ℕ) → x < P.rows + P.columns → entry P T x < base P
entry_below P T o x l = elim (split x P.rows) as (λ _. entry P T x < base P) [
  | inl m ↦ omega (arith, entry_left P T x m, o.placed.basic_in x m)
  | inr m ↦ let q : P.rows + (x - P.rows) ≡ x = omega arith in
      omega (
        arith,
        subst (λ z. entry P T z ≡ 2 * T.outside (x - P.rows) + bit (raised_sign (suc P.columns) (raised P T (x - P.rows)))) q (entry_right P T (x - P.rows)),
        o.placed.outside_in (x - P.rows) (omega arith),
        bit_le (raised_sign (suc P.columns) (raised P T (x - P.rows))),
      )
]
  where
    split : (x m : ℕ) → (x < m) ⊎ (m ≤ x)
    split x m = grind arith

bit_up : {N : ℕ} {a b : ℕ → Number} → (s : RaisedSign N a) (t : RaisedSign N b) → bit s ≡ bit t → (IsPositive N a → IsPositive N (λ t. neg (a t)) → ⊥) → (IsNull N a → ⊥) → IsPositive N a → IsPositive N b
bit_up (down h) t e both some p = absurd (both p h)
bit_up (nothing h) t e both some p = absurd (some h)
bit_up (up h) (down g) e both some p = absurd (omega (arith, e))
bit_up (up h) (nothing g) e both some p = absurd (omega (arith, e))
bit_up (up h) (up g) e both some p = g

two_parts : (a b x y : ℕ) → x ≤ 1 → y ≤ 1 → 2 * a + x ≡ 2 * b + y → (a ≡ b) × (x ≡ y)
two_parts a b x y l m e = (omega arith, omega arith)

both_not : (N : ℕ) (a : ℕ → Number) → IsPositive N a → IsPositive N (λ t. neg (a t)) → ⊥
both_not N a h g = positive_not_null N (λ t. a t +ₙ neg (a t)) (positive_add N a (λ t. neg (a t)) h g) (λ t l. by_ring (a t ∷ []) (v 0 ⊖ v 0) (k 0) refl)

pub same_code : (P : LinearProgram) (T T' : Tableau) (w w' : ℕ → Number) → IsOf P T → IsOf P T' → Solves T w → Solves T' w' → code P T ≡ code P T' → SameEnds P T T'
same_code P T T' w w' o o' s s' e = record {
  basics = λ i l. sym (entry_left P T i l) ∙ same i (omega arith) ∙ entry_left P T' i l;
  ends = λ j j' l l' m q. let q' : j' ≡ j = o'.placed.once j' j l' l (sym q ∙ (column j l).0) in (
    λ p. subst (λ z. IsPositive (suc P.columns) (raised P T' z)) (sym q') (bit_up (sg T j) (sg T' j) (column j l).1 (both_not (suc P.columns) (raised P T j)) (raised_not_null P T o w s j l) p),
    λ p. bit_up (sg T' j) (sg T j) (sym (column j l).1) (both_not (suc P.columns) (raised P T' j)) (raised_not_null P T' o' w' s' j l) (subst (λ z. IsPositive (suc P.columns) (raised P T' z)) q' p),
  );
}
  where
    sg : (T : Tableau) (j : ℕ) → RaisedSign (suc P.columns) (raised P T j)
    sg T j = raised_sign (suc P.columns) (raised P T j)

    same : (i : ℕ) → i < P.rows + P.columns → entry P T i ≡ entry P T' i
    same = pack_same (base P) (P.rows + P.columns) (entry P T) (entry P T') (entry_below P T o) (entry_below P T' o') e

    column : (j : ℕ) → j < P.columns → (T.outside j ≡ T'.outside j) × (bit (sg T j) ≡ bit (sg T' j))
    column j l = two_parts (T.outside j) (T'.outside j) (bit (sg T j)) (bit (sg T' j)) (bit_le (sg T j)) (bit_le (sg T' j)) (sym (entry_right P T j) ∙ same (P.rows + j) (omega arith) ∙ entry_right P T' j)

-- so the pivots of one call are fewer than the codes
pub chain_ends : (P : LinearProgram) (B : Boxes) (n : ℕ) (T : ℕ → Tableau) (w : ℕ → ℕ → Number) → IsChain P B n T w → n < power (base P) (P.rows + P.columns)
chain_ends P B n T w h = steps_below (power (base P) (P.rows + P.columns)) n (λ i. code P (T i))
    (λ i l. pack_below (base P) (P.rows + P.columns) (entry P (T i)) (entry_below P (T i) (h.of i l)))
    (λ i j l m e. never_twice P B n T w h i j l m (same_code P (T i) (T j) (w i) (w j) (h.of i (omega arith)) (h.of j m) (h.status i (omega arith)).solves (h.status j m).solves e))
