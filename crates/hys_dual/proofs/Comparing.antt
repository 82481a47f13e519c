-- Which column may enter, and which of two has the lesser raised ratio.
use Rattle.std.proofs.Common.{◌≡◌, ℕ, suc, ◌+◌, ◌<◌, ◌≤◌, ◌⊎◌, inl, inr, ◌↔◌, refl, sym, ◌∙◌, ap, ap₂, subst, arith, Bool, true, false, IsTrue, List, [], ◌∷◌, Option, Some, None, Less, Equal, Greater, slice_index_or}
use Rattle.std.specs.Ordering.{MatchOrdering}
use Rattle.std.specs.declared.cmp.Ordering.{Ordering}
use Rattle.hys_number.specs.Number.{Number}
use Rattle.hys_number.specs.Ops.{◌*ₙ◌, ◌/ₙ◌, ◌<ₙ◌, neg, whole}
use Rattle.hys_number.proofs.Field.{parts, parts_of, ratios}
use Rattle.hys_number.proofs.Laws.{whole-ratio}
use Rattle.hys_number.proofs.Ring.{by_ring, v, k, minus, ◌⊗◌}
use Rattle.hys_number.proofs.Scale.{overs, common2, common2_of}
use Rattle.hys_relax.specs.Node.{Boxes}
use Rattle.hys_relax.specs.LinearProgram.{LinearProgram}
use Rattle.hys_simplex.specs.Tableau.{Tableau}
use Rattle.hys_simplex.specs.Status.{is_raised_above, raised}
use Rattle.hys_simplex.specs.Rule.{IsMovable, MayEnter, ratio, raised_sign}
use Rattle.hys_simplex.proofs.Lex.{rises_trans, rises_irrefl, above_not_zero}
use Rattle.hys_simplex.proofs.Shows.{first_place}
use Rattle.hys_dual.specs.declared.end.End.{End}
use Rattle.hys_dual.specs.Standing.{end_in, ends_of}
use Rattle.hys_dual.specs.Ranging.{side_of}
use Rattle.hys_dual.specs.Enter.{IsLess, IsBestBelow, IsPicked}
use Rattle.hys_dual.proofs.Listing.{listed_at}
use Rattle.hys_dual.proofs.Judging.{clash}

-- ---- the direction
turns : (a : Number) → a <ₙ whole 0 → whole 0 <ₙ neg a
turns a = elim (parts_of a) [ parts p n d h e ↦ rw (e) (simp (ratios, whole-ratio 0 d h) (omega arith)) ]

turns_back : (a : Number) → whole 0 <ₙ neg a → a <ₙ whole 0
turns_back a = elim (parts_of a) [ parts p n d h e ↦ rw (e) (simp (ratios, whole-ratio 0 d h) (omega arith)) ]

pub toward_same : (u a : Bool) (x : Number) (t : Bool) → (u ≡ a) → (IsTrue t ↔ (whole 0 <ₙ x)) → IsTrue t ↔ (whole 0 <ₙ side_of u *ₙ side_of a *ₙ x)
toward_same true true x t e h = subst (λ z. IsTrue t ↔ (whole 0 <ₙ z)) (by_ring (x ∷ []) (v 0) (k 1 ⊗ k 1 ⊗ v 0) refl) h
toward_same false false x t e h = subst (λ z. IsTrue t ↔ (whole 0 <ₙ z)) (by_ring (x ∷ []) (v 0) (minus (k 1) ⊗ minus (k 1) ⊗ v 0) refl) h
toward_same true false x t e h = absurd (cc)
toward_same false true x t e h = absurd (cc)

pub toward_other : (u a : Bool) (x : Number) (t : Bool) → (u ≡ a → ⊥) → (IsTrue t ↔ (x <ₙ whole 0)) → IsTrue t ↔ (whole 0 <ₙ side_of u *ₙ side_of a *ₙ x)
toward_other true true x t e h = absurd (e refl)
toward_other false false x t e h = absurd (e refl)
toward_other true false x t e h = subst (λ z. IsTrue t ↔ (whole 0 <ₙ z)) (by_ring (x ∷ []) (minus (v 0)) (k 1 ⊗ minus (k 1) ⊗ v 0) refl) (λ q. turns x (h.0 q), λ q. h.1 (turns_back x q))
toward_other false true x t e h = subst (λ z. IsTrue t ↔ (whole 0 <ₙ z)) (by_ring (x ∷ []) (minus (v 0)) (minus (k 1) ⊗ k 1 ⊗ v 0) refl) (λ q. turns x (h.0 q), λ q. h.1 (turns_back x q))

-- ---- the columns that may enter
pub end_above : (P : LinearProgram) (B : Boxes) (T : Tableau) (es : List End) (j : ℕ) (d : End) → es ≡ ends_of P B T → j < T.columns → (slice_index_or es j d).above ≡ is_raised_above P T j
end_above P B T es j d e l = ap (λ xs. (slice_index_or xs j d).above) e ∙ ap (λ z. z.above) (listed_at T.columns (end_in P B T) j d l)

pub enters_where : (P : LinearProgram) (B : Boxes) (T : Tableau) (r j u : ℕ) (under above t m : Bool) (y : Number) → above ≡ is_raised_above P T j → y ≡ T.cell r j → u ≡ T.outside j →
    (IsTrue t ↔ (whole 0 <ₙ side_of under *ₙ side_of above *ₙ y)) → t ≡ true → (IsTrue m ↔ IsMovable P B u) → IsTrue m ↔ MayEnter P B T r (side_of under) j
enters_where P B T r j u under above t m y ea ey eu h f g = (
  λ q. record { movable = subst (IsMovable P B) eu (g.0 q); toward = subst (λ z. whole 0 <ₙ z) (ap₂ (λ b z. side_of under *ₙ side_of b *ₙ z) ea ey) (h.0 f) },
  λ q. g.1 (subst (IsMovable P B) (sym eu) q.movable),
)

pub enters_not : (P : LinearProgram) (B : Boxes) (T : Tableau) (r j : ℕ) (under above t : Bool) (y : Number) → above ≡ is_raised_above P T j → y ≡ T.cell r j →
    (IsTrue t ↔ (whole 0 <ₙ side_of under *ₙ side_of above *ₙ y)) → t ≡ false → IsTrue t ↔ MayEnter P B T r (side_of under) j
enters_not P B T r j under above t y ea ey h f = (
  λ q. absurd (clash t q f),
  λ q. h.1 (subst (λ z. whole 0 <ₙ z) (sym (ap₂ (λ b z. side_of under *ₙ side_of b *ₙ z) ea ey)) q.toward),
)

pub enter_cell : (P : LinearProgram) (B : Boxes) (T : Tableau) (r j : ℕ) (side : Number) → MayEnter P B T r side j → ¬ (T.cell r j ≡ whole 0)
enter_cell P B T r j side m e = above_not_zero (side *ₙ raised_sign P T j *ₙ T.cell r j) m.toward
    (ap (λ z. side *ₙ raised_sign P T j *ₙ z) e ∙ by_ring (side ∷ raised_sign P T j ∷ []) (v 0 ⊗ v 1 ⊗ k 0) (k 0) refl)

-- ---- ratios in one place
once : (q : Number) → whole 1 *ₙ q ≡ q
once q = by_ring (q ∷ []) (k 1 ⊗ v 0) (v 0) refl

less_once : (q s : Number) → q <ₙ s → whole 1 *ₙ q <ₙ whole 1 *ₙ s
less_once q s l = subst (λ z. z <ₙ whole 1 *ₙ s) (sym (once q)) (subst (λ z. q <ₙ z) (sym (once s)) l)

turned_less' : (q s : Number) → s <ₙ q → neg q <ₙ neg s
turned_less' q s = elim (common2_of q s) [ common2 D h p1 n1 p2 n2 e1 e2 ↦ rw (e1, e2) (simp overs (omega arith)) ]

turned : (q : Number) → neg (whole 1) *ₙ q ≡ neg q
turned q = by_ring (q ∷ []) (minus (k 1) ⊗ v 0) (minus (v 0)) refl

turned_less : (q s : Number) → s <ₙ q → neg (whole 1) *ₙ q <ₙ neg (whole 1) *ₙ s
turned_less q s l = subst (λ z. z <ₙ neg (whole 1) *ₙ s) (sym (turned q)) (subst (λ z. neg q <ₙ z) (sym (turned s)) (turned_less' q s l))

cmp_up : (o : Ordering) (q s : Number) → MatchOrdering o (q <ₙ s) (q ≡ s) (s <ₙ q) → MatchOrdering o (whole 1 *ₙ q <ₙ whole 1 *ₙ s) (whole 1 *ₙ q ≡ whole 1 *ₙ s) (whole 1 *ₙ s <ₙ whole 1 *ₙ q)
cmp_up Less q s h = less_once q s h
cmp_up Equal q s h = ap (λ z. whole 1 *ₙ z) h
cmp_up Greater q s h = less_once s q h

cmp_down : (o : Ordering) (q s : Number) → MatchOrdering o (s <ₙ q) (s ≡ q) (q <ₙ s) →
    MatchOrdering o (neg (whole 1) *ₙ q <ₙ neg (whole 1) *ₙ s) (neg (whole 1) *ₙ q ≡ neg (whole 1) *ₙ s) (neg (whole 1) *ₙ s <ₙ neg (whole 1) *ₙ q)
cmp_down Less q s h = turned_less q s h
cmp_down Equal q s h = ap (λ z. neg (whole 1) *ₙ z) (sym h)
cmp_down Greater q s h = turned_less s q h

pub ratios_up : (P : LinearProgram) (T : Tableau) (r i j t : ℕ) (o : Ordering) (under : Bool) (a b c d : Number) → under ≡ true → a ≡ raised P T i t → c ≡ raised P T j t → b ≡ T.cell r i → d ≡ T.cell r j →
    MatchOrdering o (a /ₙ b <ₙ c /ₙ d) (a /ₙ b ≡ c /ₙ d) (c /ₙ d <ₙ a /ₙ b) →
    MatchOrdering o (ratio P T r (side_of under) i t <ₙ ratio P T r (side_of under) j t) (ratio P T r (side_of under) i t ≡ ratio P T r (side_of under) j t) (ratio P T r (side_of under) j t <ₙ ratio P T r (side_of under) i t)
ratios_up P T r i j t o under a b c d e ea ec eb ed h = rw (e, ← ea, ← ec, ← eb, ← ed) (cmp_up o (a /ₙ b) (c /ₙ d) h)

pub ratios_down : (P : LinearProgram) (T : Tableau) (r i j t : ℕ) (o : Ordering) (under : Bool) (a b c d : Number) → under ≡ false → a ≡ raised P T i t → c ≡ raised P T j t → b ≡ T.cell r i → d ≡ T.cell r j →
    MatchOrdering o (c /ₙ d <ₙ a /ₙ b) (c /ₙ d ≡ a /ₙ b) (a /ₙ b <ₙ c /ₙ d) →
    MatchOrdering o (ratio P T r (side_of under) i t <ₙ ratio P T r (side_of under) j t) (ratio P T r (side_of under) i t ≡ ratio P T r (side_of under) j t) (ratio P T r (side_of under) j t <ₙ ratio P T r (side_of under) i t)
ratios_down P T r i j t o under a b c d e ea ec eb ed h = rw (e, ← ea, ← ec, ← eb, ← ed) (cmp_down o (a /ₙ b) (c /ₙ d) h)

-- ---- raised ratios
abbrev pub AreAlikeBelow : LinearProgram → Tableau → ℕ → Number → ℕ → ℕ → ℕ → Type 0
AreAlikeBelow P T r side i j n = (t : ℕ) → t < n → ratio P T r side i t ≡ ratio P T r side j t

pub less_at : (P : LinearProgram) (T : Tableau) (r : ℕ) (side : Number) (i j t : ℕ) → t < P.columns + 1 → AreAlikeBelow P T r side i j t → ratio P T r side i t <ₙ ratio P T r side j t → IsTrue true ↔ IsLess P T r side i j
less_at P T r side i j t l h m = (λ _. first_place (suc P.columns) t (ratio P T r side i) (ratio P T r side j) (omega (arith, l)) h m, λ _. refl)

pub more_at : (P : LinearProgram) (T : Tableau) (r : ℕ) (side : Number) (i j t : ℕ) → t < P.columns + 1 → AreAlikeBelow P T r side i j t → ratio P T r side j t <ₙ ratio P T r side i t → IsTrue false ↔ IsLess P T r side i j
more_at P T r side i j t l h m = (
  λ e. absurd (cc),
  λ q. absurd (rises_irrefl (suc P.columns) (ratio P T r side i) (ratio P T r side i) (λ t l. refl)
      (rises_trans (suc P.columns) (ratio P T r side i) (ratio P T r side j) (ratio P T r side i) q
      (first_place (suc P.columns) t (ratio P T r side j) (ratio P T r side i) (omega (arith, l)) (λ s n. sym (h s n)) m))),
)

pub alike_at : (P : LinearProgram) (T : Tableau) (r : ℕ) (side : Number) (i j n : ℕ) → P.columns + 1 ≤ n → AreAlikeBelow P T r side i j n → IsTrue false ↔ IsLess P T r side i j
alike_at P T r side i j n l h = (λ e. absurd (cc), λ q. absurd (rises_irrefl (suc P.columns) (ratio P T r side i) (ratio P T r side j) (λ t m. h t (omega (arith, l, m))) q))

below_or_at : (q t : ℕ) → q < t + 1 → (q < t) ⊎ (q ≡ t)
below_or_at q t l = grind arith

pub alike_next : (P : LinearProgram) (T : Tableau) (r : ℕ) (side : Number) (i j n : ℕ) → ratio P T r side i n ≡ ratio P T r side j n → AreAlikeBelow P T r side i j n → AreAlikeBelow P T r side i j (n + 1)
alike_next P T r side i j n e h t l = elim (below_or_at t n l) as (λ _. ratio P T r side i t ≡ ratio P T r side j t) [
  | inl q ↦ h t q
  | inr q ↦ subst (λ z. ratio P T r side i z ≡ ratio P T r side j z) (sym q) e
]

-- ---- the best so far
pub best_keeps : (P : LinearProgram) (B : Boxes) (T : Tableau) (r : ℕ) (side : Number) (n : ℕ) (best : Option ℕ) → ¬ (MayEnter P B T r side n) → IsBestBelow P B T r side n best → IsBestBelow P B T r side (n + 1) best
best_keeps P B T r side n None d h = λ j l m. elim (below_or_at j n l) as (λ _. ⊥) [ inl q ↦ h j q m | inr q ↦ d (subst (MayEnter P B T r side) q m) ]
best_keeps P B T r side n (Some c) d h = (
  omega (arith, h.0),
  h.1,
  λ j l m. elim (below_or_at j n l) as (λ _. ¬ (IsLess P T r side j c)) [ inl q ↦ h.2 j q m | inr q ↦ absurd (d (subst (MayEnter P B T r side) q m)) ],
)

pub best_first : (P : LinearProgram) (B : Boxes) (T : Tableau) (r : ℕ) (side : Number) (n : ℕ) → MayEnter P B T r side n → IsBestBelow P B T r side n None → IsBestBelow P B T r side (n + 1) (Some n)
best_first P B T r side n m h = (
  omega arith,
  m,
  λ j l q. elim (below_or_at j n l) as (λ _. ¬ (IsLess P T r side j n)) [
    | inl a ↦ absurd (h j a q)
    | inr a ↦ λ less. rises_irrefl (suc P.columns) (ratio P T r side j) (ratio P T r side n) (λ t _. ap (λ z. ratio P T r side z t) a) less
  ],
)

pub best_new : (P : LinearProgram) (B : Boxes) (T : Tableau) (r : ℕ) (side : Number) (n c : ℕ) → MayEnter P B T r side n → IsLess P T r side n c → IsBestBelow P B T r side n (Some c) → IsBestBelow P B T r side (n + 1) (Some n)
best_new P B T r side n c m s h = (
  omega arith,
  m,
  λ j l q. elim (below_or_at j n l) as (λ _. ¬ (IsLess P T r side j n)) [
    | inl a ↦ λ less. h.2 j a q (rises_trans (suc P.columns) (ratio P T r side j) (ratio P T r side n) (ratio P T r side c) less s)
    | inr a ↦ λ less. rises_irrefl (suc P.columns) (ratio P T r side j) (ratio P T r side n) (λ t _. ap (λ z. ratio P T r side z t) a) less
  ],
)

pub best_stays : (P : LinearProgram) (B : Boxes) (T : Tableau) (r : ℕ) (side : Number) (n c : ℕ) → ¬ (IsLess P T r side n c) → IsBestBelow P B T r side n (Some c) → IsBestBelow P B T r side (n + 1) (Some c)
best_stays P B T r side n c d h = (
  omega (arith, h.0),
  h.1,
  λ j l q. elim (below_or_at j n l) as (λ _. ¬ (IsLess P T r side j c)) [ inl a ↦ h.2 j a q | inr a ↦ λ less. d (subst (λ z. IsLess P T r side z c) a less) ],
)

pub picked : (P : LinearProgram) (B : Boxes) (T : Tableau) (r : ℕ) (side : Number) (n : ℕ) (best : Option ℕ) → n ≡ P.columns → IsBestBelow P B T r side n best → IsPicked P B T r side best
picked P B T r side n None e h = λ j l. h j (rw e l)
picked P B T r side n (Some c) e h = record { column = rw (← e) h.0; enters = h.1; least = λ j l m. h.2 j (rw e l) m }
