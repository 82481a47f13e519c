-- Lists of settings: one put in its place, what they give a column, their terms and their sum.
use Rattle.std.specs.Prelude.{◌≡◌, ℕ, suc, ◌<◌, ◌≤◌, ◌⊎◌, List, [], ◌∷◌, ◌++◌, length, Bool}
use Rattle.std.proofs.Common.{refl, ap, ap₂, arith, ⊎_elim, inl, inr}
use Rattle.std.proofs.lemmas.Bool.Decides.{eqb_tells, leb_tells}
use Rattle.hys_number.specs.Ops.{◌+ₙ◌}
use Rattle.hys_number.proofs.Ring.{by_ring, v as var, k as num, ◌⊕◌}
use Rattle.hys_lin.specs.Sums.{Assignment, sum_of, AreTerms, EachColumn}
use Rattle.hys_logic.specs.declared.table.Setting.{Setting}
use Rattle.hys_logic.specs.Rows.{signed}
use Rattle.hys_logic.specs.Tables.{set_to, placed, columns_of, Each, Rising, sign_by, settings_sum, settings_terms}
use Rattle.hys_logic.proofs.Terms.{signed_zero, signed-one}

-- ---- a setting at its place
pub placed_same : (s t : Setting) (ts : List Setting) → s.column ≡ t.column → placed s (t ∷ ts) ≡ t ∷ ts
placed_same s t ts e = ⊎_elim (λ h. rw (h.0) refl) (λ h. absurd (h.1 e)) (eqb_tells s.column t.column)

pub placed_before : (s t : Setting) (ts : List Setting) → s.column < t.column → placed s (t ∷ ts) ≡ s ∷ t ∷ ts
placed_before s t ts l = ⊎_elim (λ h. absurd (omega arith)) (λ h. ⊎_elim (λ i. rw (h.0, i.0) refl) (λ i. absurd (omega arith)) (leb_tells (suc s.column) t.column)) (eqb_tells s.column t.column)

pub placed_behind : (s t : Setting) (ts : List Setting) → t.column < s.column → placed s (t ∷ ts) ≡ t ∷ placed s ts
placed_behind s t ts l = ⊎_elim (λ h. absurd (omega arith)) (λ h. ⊎_elim (λ i. absurd (omega arith)) (λ i. rw (h.0, i.0) refl) (leb_tells (suc s.column) t.column)) (eqb_tells s.column t.column)

-- the three cases of a column beside another
pub sides : (a b : ℕ) → ((a ≡ b) ⊎ (a < b)) ⊎ (b < a)
sides a b = ⊎_elim (λ h. inl (inl h.1)) (λ h. ⊎_elim (λ i. inl (inr (omega arith))) (λ i. inr (omega arith)) (leb_tells (suc a) b)) (eqb_tells a b)

pub by_side : (P : Type 0) (a b : ℕ) → (a ≡ b → P) → (a < b → P) → (b < a → P) → P
by_side P a b f g h = ⊎_elim (λ x. ⊎_elim f g x) h (sides a b)

pub each_placed : (P : ℕ → Type 0) (s : Setting) (ss : List Setting) → P s.column → Each P (columns_of ss) → Each P (columns_of (placed s ss))
each_placed P s [] p h = (p, tt)
each_placed P s (t ∷ ts) p h =
    by_side (Each P (columns_of (placed s (t ∷ ts)))) s.column t.column
    (λ e. rw (placed_same s t ts e) h) (λ l. rw (placed_before s t ts l) (p, h)) (λ l. rw (placed_behind s t ts l) (h.0, each_placed P s ts p h.1))

pub each_weak : (P Q : ℕ → Type 0) (cs : List ℕ) → ((c : ℕ) → P c → Q c) → Each P cs → Each Q cs
each_weak P Q [] f h = tt
each_weak P Q (c ∷ cs) f h = (f c h.0, each_weak P Q cs f h.1)

pub rising_placed : (s : Setting) (ss : List Setting) → Rising (columns_of ss) → Rising (columns_of (placed s ss))
rising_placed s [] h = (tt, tt)
rising_placed s (t ∷ ts) h =
    by_side (Rising (columns_of (placed s (t ∷ ts)))) s.column t.column
    (λ e. rw (placed_same s t ts e) h)
    (λ l. rw (placed_before s t ts l) ((l, each_weak (λ d. t.column < d) (λ d. s.column < d) (columns_of ts) (λ d q. omega arith) h.0), h))
    (λ l. rw (placed_behind s t ts l) (each_placed (λ d. t.column < d) s ts l h.0, rising_placed s ts h.1))

pub length_placed : (s : Setting) (ss : List Setting) → length ss ≤ length (placed s ss)
length_placed s [] = omega arith
length_placed s (t ∷ ts) =
    by_side (length (t ∷ ts) ≤ length (placed s (t ∷ ts))) s.column t.column
    (λ e. rw (placed_same s t ts e) (omega arith)) (λ l. rw (placed_before s t ts l) (omega arith)) (λ l. rw (placed_behind s t ts l) (let h : length ts ≤ length (placed s ts) = length_placed s ts in omega arith))

-- ---- columns
pub pushed_columns : (made rest : List Setting) (s : Setting) (b : Bool) → columns_of ((made ++ (set_to s.column b ∷ [])) ++ rest) ≡ columns_of (made ++ (s ∷ rest))
pushed_columns [] rest s b = refl
pushed_columns (t ∷ ts) rest s b = ap (λ cs. t.column ∷ cs) (pushed_columns ts rest s b)

pub nil_right : (ss : List Setting) → ss ++ [] ≡ ss
nil_right [] = refl
nil_right (s ∷ ss) = ap (λ ts. s ∷ ts) (nil_right ss)

-- ---- terms and sum
pub terms_sum : (ss : List Setting) (w : Assignment) → sum_of (settings_terms ss) w ≡ settings_sum ss w
terms_sum [] w = refl
terms_sum (s ∷ ss) w = ap₂ ◌+ₙ◌ (signed-one (sign_by s.one) (w s.column)) (terms_sum ss w)

pub terms_each : (P : ℕ → Type 0) (ss : List Setting) → Each P (columns_of ss) → EachColumn P (settings_terms ss)
terms_each P [] h = tt
terms_each P (s ∷ ss) h = (h.0, terms_each P ss h.1)

pub terms_rise : (ss : List Setting) → Rising (columns_of ss) → AreTerms (settings_terms ss)
terms_rise [] h = tt
terms_rise (s ∷ ss) h = (signed_zero (sign_by s.one) 1 (omega arith), terms_each (λ c. s.column < c) ss h.0, terms_rise ss h.1)

-- a setting of another column adds its own number
pub placed_sum : (s : Setting) (ss : List Setting) (w : Assignment) → Each (λ c. s.column ≡ c → ⊥) (columns_of ss) → settings_sum (placed s ss) w ≡ settings_sum ss w +ₙ signed (sign_by s.one) (w s.column)
placed_sum s [] w h = by_ring (signed (sign_by s.one) (w s.column) ∷ []) (var 0 ⊕ num 0) (num 0 ⊕ var 0) refl
placed_sum s (t ∷ ts) w h =
    by_side (settings_sum (placed s (t ∷ ts)) w ≡ settings_sum (t ∷ ts) w +ₙ signed (sign_by s.one) (w s.column)) s.column t.column
    (λ e. absurd (h.0 e))
    (λ l. rw (placed_before s t ts l) (by_ring (signed (sign_by s.one) (w s.column) ∷ settings_sum (t ∷ ts) w ∷ []) (var 0 ⊕ var 1) (var 1 ⊕ var 0) refl))
    (λ l. rw (placed_behind s t ts l, placed_sum s ts w h.1)
    (by_ring (signed (sign_by t.one) (w t.column) ∷ settings_sum ts w ∷ signed (sign_by s.one) (w s.column) ∷ []) (var 0 ⊕ (var 1 ⊕ var 2)) (var 0 ⊕ var 1 ⊕ var 2) refl))
