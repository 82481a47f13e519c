-- A truth table's rows hold exactly where the target is the formula's truth, and with no target where the formula is true.
use Rattle.std.specs.Prelude.{◌≡◌, ℕ, zero, suc, ◌*◌, ◌^◌, ◌<◌, ◌≤◌, ◌⊎◌, ◌↔◌, List, [], ◌∷◌, ◌++◌, length, Bool, true, false, not, ◌&&◌, Option, Some, None, pos, ◌-ℤ◌, if◌then◌else◌, ◌==◌, ltb, leb}
use Rattle.std.proofs.Common.{refl, sym, ◌∙◌, ap, ap₂, arith, subst, ⊎_elim, length-append, append_assoc, inl, inr}
use Rattle.std.proofs.Math.Nat.{pow-suc}
use Rattle.std.proofs.lemmas.Bool.Decides.{eqb_tells, leb_tells}
use borrow.Author.Differences.{ints}
use Rattle.hys_number.specs.Number.{Number}
use Rattle.hys_number.specs.Ops.{◌+ₙ◌, ◌-ₙ◌, neg, ◌≤ₙ◌, whole, int}
use Rattle.hys_number.proofs.Laws.{whole-ratio}
use Rattle.hys_number.proofs.Ring.{by_ring, v as var, k as num, minus, ◌⊕◌, ◌⊖◌, int-ratio}
use Rattle.hys_number.proofs.Scale.{overs}
use Rattle.hys_lin.specs.Bits.{bit, IsBit, is_one}
use Rattle.hys_lin.specs.Stated.{Stated, HoldStated}
use Rattle.hys_lin.specs.Sums.{Assignment}
use Rattle.hys_formula.specs.Formulas.{FormulaTree, constant, named, negated, joined, connectives, truth, connect, EachName}
use Rattle.hys_logic.specs.declared.table.Setting.{Setting}
use Rattle.hys_logic.specs.Rows.{signed}
use Rattle.hys_logic.specs.Tables.{set_to, placed, setting_in, columns_of, Each, Rising, names_among, names_of, are_few, truth_by, sign_by, settings_sum, ones, bound_by, setting_stated, table_from, rows_at, table_of}
use Rattle.hys_logic.proofs.Settings.{placed_same, placed_before, placed_behind, by_side, nil_right, each_placed, rising_placed}
use Rattle.hys_logic.proofs.Tabled.{one_bit}
use Rattle.hys_logic.proofs.Truths.{bit_is, hold-append}

-- ---- every choice of settings
abbrev pub with_bits : List Setting → List Bool → List Setting
with_bits [] bs = []
with_bits (s ∷ ss) [] = []
with_bits (s ∷ ss) (b ∷ bs) = set_to s.column b ∷ with_bits ss bs

by_first : (P : List Bool → Type 0) (n : ℕ) → ((bs : List Bool) → length bs ≡ n → P (false ∷ bs)) → ((bs : List Bool) → length bs ≡ n → P (true ∷ bs)) → (bs : List Bool) → length bs ≡ suc n → P bs
by_first P n f g [] e = absurd (omega arith)
by_first P n f g (false ∷ bs) e = f bs (omega arith)
by_first P n f g (true ∷ bs) e = g bs (omega arith)

pub every_setting : (rows : List Setting → List Stated) (made rest : List Setting) (v : Assignment) →
    HoldStated v (table_from rows made rest) ↔ ((bs : List Bool) → length bs ≡ length rest → HoldStated v (rows (made ++ with_bits rest bs)))
every_setting rows made [] v = (λ h bs e. subst (λ ss. HoldStated v (rows ss)) (sym (nil_right made)) h, λ h. subst (λ ss. HoldStated v (rows ss)) (nil_right made) (h [] refl))
every_setting rows made (s ∷ ss) v =
    let zeros : HoldStated v (table_from rows (made ++ (set_to s.column false ∷ [])) ss) ↔ ((bs : List Bool) → length bs ≡ length ss → HoldStated v (rows ((made ++ (set_to s.column false ∷ [])) ++ with_bits ss bs))) =
    every_setting rows (made ++ (set_to s.column false ∷ [])) ss v in
    let ones : HoldStated v (table_from rows (made ++ (set_to s.column true ∷ [])) ss) ↔ ((bs : List Bool) → length bs ≡ length ss → HoldStated v (rows ((made ++ (set_to s.column true ∷ [])) ++ with_bits ss bs))) =
    every_setting rows (made ++ (set_to s.column true ∷ [])) ss v in
    let both : HoldStated v (table_from rows (made ++ (set_to s.column false ∷ [])) ss ++ table_from rows (made ++ (set_to s.column true ∷ [])) ss)
    ↔ (HoldStated v (table_from rows (made ++ (set_to s.column false ∷ [])) ss) × HoldStated v (table_from rows (made ++ (set_to s.column true ∷ [])) ss)) =
    hold-append v (table_from rows (made ++ (set_to s.column false ∷ [])) ss) (table_from rows (made ++ (set_to s.column true ∷ [])) ss) in (
      λ h. by_first (λ bs. HoldStated v (rows (made ++ with_bits (s ∷ ss) bs))) (length ss)
          (λ bs e. subst (λ us. HoldStated v (rows us)) (append_assoc made (set_to s.column false ∷ []) (with_bits ss bs)) (zeros.0 (both.0 h).0 bs e))
          (λ bs e. subst (λ us. HoldStated v (rows us)) (append_assoc made (set_to s.column true ∷ []) (with_bits ss bs)) (ones.0 (both.0 h).1 bs e)),
      λ h. both.1 (
        zeros.1 (λ bs e. subst (λ us. HoldStated v (rows us)) (sym (append_assoc made (set_to s.column false ∷ []) (with_bits ss bs))) (h (false ∷ bs) (ap suc e))),
        ones.1 (λ bs e. subst (λ us. HoldStated v (rows us)) (sym (append_assoc made (set_to s.column true ∷ []) (with_bits ss bs))) (h (true ∷ bs) (ap suc e))),
      ),
    )

-- ---- how many settings differ from an assignment
abbrev miss_by : Bool → Bool → ℕ → ℕ
miss_by true true n = n
miss_by true false n = suc n
miss_by false true n = suc n
miss_by false false n = n

abbrev pub miss : List Setting → Assignment → ℕ
miss [] v = 0
miss (s ∷ ss) v = miss_by s.one (is_one (v s.column)) (miss ss v)

whole_suc : (n : ℕ) → whole (suc n) ≡ whole 1 +ₙ whole n
whole_suc n = let h : 0 < 1 = omega arith in rw (whole-ratio (suc n) 1 h, whole-ratio 1 1 h, whole-ratio n 1 h) (simp (overs, h) (omega arith))

total_next : (a b : Bool) (s : Number) (m o : ℕ) → s +ₙ whole m ≡ whole o → signed (sign_by a) (bit b) +ₙ s +ₙ whole (miss_by a b m) ≡ whole (if a then suc o else o)
total_next true true s m o e = by_ring (s ∷ whole m ∷ []) (num 1 ⊕ var 0 ⊕ var 1) (num 1 ⊕ (var 0 ⊕ var 1)) refl ∙ ap (λ x. whole 1 +ₙ x) e ∙ sym (whole_suc o)
total_next true false s m o e =
    ap (λ x. whole 0 +ₙ s +ₙ x) (whole_suc m) ∙ by_ring (s ∷ whole m ∷ []) (num 0 ⊕ var 0 ⊕ (num 1 ⊕ var 1)) (num 1 ⊕ (var 0 ⊕ var 1)) refl ∙ ap (λ x. whole 1 +ₙ x) e ∙ sym (whole_suc o)
total_next false true s m o e = ap (λ x. neg (whole 1) +ₙ s +ₙ x) (whole_suc m) ∙ by_ring (s ∷ whole m ∷ []) (minus (num 1) ⊕ var 0 ⊕ (num 1 ⊕ var 1)) (var 0 ⊕ var 1) refl ∙ e
total_next false false s m o e = by_ring (s ∷ whole m ∷ []) (minus (num 0) ⊕ var 0 ⊕ var 1) (var 0 ⊕ var 1) refl ∙ e

pub total : (ss : List Setting) (v : Assignment) → Each (λ c. IsBit (v c)) (columns_of ss) → settings_sum ss v +ₙ whole (miss ss v) ≡ whole (ones ss)
total [] v h = by_ring [] (num 0 ⊕ num 0) (num 0) refl
total (s ∷ ss) v h =
    subst (λ (x : Number). signed (sign_by s.one) x +ₙ settings_sum ss v +ₙ whole (miss (s ∷ ss) v) ≡ whole (ones (s ∷ ss))) (sym (bit_is (v s.column) h.0))
    (total_next s.one (is_one (v s.column)) (settings_sum ss v) (miss ss v) (ones ss) (total ss v h.1))

-- ---- one row
rest_of : (s : Number) (m o : ℕ) → s +ₙ whole m ≡ whole o → s ≡ whole o -ₙ whole m
rest_of s m o e = by_ring (s ∷ whole m ∷ []) (var 0) ((var 0 ⊕ var 1) ⊖ var 1) refl ∙ ap (λ x. x -ₙ whole m) e

below_ones : (m o : ℕ) → (whole o -ₙ whole m ≤ₙ int (pos o -ℤ pos 1)) ↔ (0 < m)
below_ones m o = let h : 0 < 1 = omega arith in rw (int-ratio (pos o -ℤ pos 1), whole-ratio o 1 h, whole-ratio m 1 h) (simp (overs, h) (omega (arith, ints)))

with_target : (t w : Bool) (m o : ℕ) → (whole o -ₙ whole m +ₙ signed (sign_by (not t)) (bit w) ≤ₙ int (bound_by t o)) ↔ (m ≡ 0 → w ≡ t)
with_target true true m o = (λ h e. refl, λ h. let i : 0 < 1 = omega arith in rw (int-ratio (pos o -ℤ pos 1), whole-ratio o 1 i, whole-ratio m 1 i, whole-ratio 1 1 i) (simp (overs, i) (omega (arith, ints))))
with_target true false m o =
    let e : whole o -ₙ whole m +ₙ neg (whole 0) ≡ whole o -ₙ whole m = by_ring (whole o ∷ whole m ∷ []) ((var 0 ⊖ var 1) ⊕ minus (num 0)) (var 0 ⊖ var 1) refl in
    (λ h z. absurd (let l : 0 < m = (below_ones m o).0 (rw e at h) in omega arith), λ h. rw e ((below_ones m o).1 (positive m h)))
  where
    positive : (n : ℕ) → (n ≡ 0 → false ≡ true) → 0 < n
    positive zero h = let e : false ≡ true = h refl in absurd (cc)
    positive (suc n) h = omega arith
with_target false true m o =
    let q : (whole o -ₙ whole m +ₙ whole 1 ≤ₙ int (pos o)) ↔ (0 < m) = let i : 0 < 1 = omega arith in rw (int-ratio (pos o), whole-ratio o 1 i, whole-ratio m 1 i, whole-ratio 1 1 i) (simp (overs, i) (omega (arith, ints))) in
    (λ h z. absurd (let l : 0 < m = q.0 h in omega arith), λ h. q.1 (positive m h))
  where
    positive : (n : ℕ) → (n ≡ 0 → true ≡ false) → 0 < n
    positive zero h = let e : true ≡ false = h refl in absurd (cc)
    positive (suc n) h = omega arith
with_target false false m o = (λ h e. refl, λ h. let i : 0 < 1 = omega arith in rw (int-ratio (pos o), whole-ratio o 1 i, whole-ratio m 1 i, whole-ratio 0 1 i) (simp (overs, i) (omega (arith, ints))))

-- where no setting differs the target has the truth
pub target_row : (r : ℕ) (t : Bool) (ss : List Setting) (v : Assignment) → Each (λ c. IsBit (v c)) (columns_of ss) → IsBit (v r) → HoldStated v (setting_stated (Some r) t ss) ↔ (miss ss v ≡ 0 → is_one (v r) ≡ t)
target_row r t ss v h i =
    let e : settings_sum ss v ≡ whole (ones ss) -ₙ whole (miss ss v) = rest_of (settings_sum ss v) (miss ss v) (ones ss) (total ss v h) in
    let q : (whole (ones ss) -ₙ whole (miss ss v) +ₙ signed (sign_by (not t)) (bit (is_one (v r))) ≤ₙ int (bound_by t (ones ss))) ↔ (miss ss v ≡ 0 → is_one (v r) ≡ t) = with_target t (is_one (v r)) (miss ss v) (ones ss) in
    let same : settings_sum ss v +ₙ signed (sign_by (not t)) (v r) ≡ whole (ones ss) -ₙ whole (miss ss v) +ₙ signed (sign_by (not t)) (bit (is_one (v r))) = ap₂ (λ x y. x +ₙ signed (sign_by (not t)) y) e (bit_is (v r) i) in
    (λ p. q.0 (subst (λ (x : Number). x ≤ₙ int (bound_by t (ones ss))) same p.0), λ p. (subst (λ (x : Number). x ≤ₙ int (bound_by t (ones ss))) (sym same) (q.1 p), tt))

-- without a target the formula is true there
pub must_row : (t : Bool) (ss : List Setting) (v : Assignment) → Each (λ c. IsBit (v c)) (columns_of ss) → HoldStated v (setting_stated None t ss) ↔ (miss ss v ≡ 0 → t ≡ true)
must_row true ss v h = (λ p e. refl, λ p. tt)
must_row false ss v h =
    let e : settings_sum ss v ≡ whole (ones ss) -ₙ whole (miss ss v) = rest_of (settings_sum ss v) (miss ss v) (ones ss) (total ss v h) in
    let q : (whole (ones ss) -ₙ whole (miss ss v) ≤ₙ int (pos (ones ss) -ℤ pos 1)) ↔ (0 < miss ss v) = below_ones (miss ss v) (ones ss) in
    (λ p z. absurd (let l : 0 < miss ss v = q.0 (subst (λ (x : Number). x ≤ₙ int (pos (ones ss) -ℤ pos 1)) e p.0) in omega arith), λ p. (subst (λ (x : Number). x ≤ₙ int (pos (ones ss) -ℤ pos 1)) (sym e) (q.1 (positive (miss ss v) p)), tt))
  where
    positive : (n : ℕ) → (n ≡ 0 → false ≡ true) → 0 < n
    positive zero h = let e : false ≡ true = h refl in absurd (cc)
    positive (suc n) h = omega arith

-- ---- the settings of an assignment
abbrev bits_at : List Setting → Assignment → List Bool
bits_at [] v = []
bits_at (s ∷ ss) v = is_one (v s.column) ∷ bits_at ss v

bits_length : (ss : List Setting) (v : Assignment) → length (bits_at ss v) ≡ length ss
bits_length [] v = refl
bits_length (s ∷ ss) v = ap suc (bits_length ss v)

no_miss : (b : Bool) (n : ℕ) → miss_by b b n ≡ n
no_miss true n = refl
no_miss false n = refl

hit : (ss : List Setting) (v : Assignment) → miss (with_bits ss (bits_at ss v)) v ≡ 0
hit [] v = refl
hit (s ∷ ss) v = no_miss (is_one (v s.column)) (miss (with_bits ss (bits_at ss v)) v) ∙ hit ss v

missed : (a b : Bool) (n : ℕ) → miss_by a b n ≡ 0 → (a ≡ b) × (n ≡ 0)
missed true true n e = (refl, e)
missed true false n e = absurd (omega arith)
missed false true n e = absurd (omega arith)
missed false false n e = (refl, e)

abbrev Has : ℕ → List Setting → Type 0
Has c [] = ⊥
Has c (s ∷ ss) = (s.column ≡ c) ⊎ Has c ss

told : (ss : List Setting) (bs : List Bool) (v : Assignment) (c : ℕ) → length bs ≡ length ss → miss (with_bits ss bs) v ≡ 0 → Has c ss → setting_in (with_bits ss bs) c ≡ is_one (v c)
told [] bs v c l e h = absurd h
told (s ∷ ss) [] v c l e h = absurd (omega arith)
told (s ∷ ss) (b ∷ bs) v c l e h =
    let m : (b ≡ is_one (v s.column)) × (miss (with_bits ss bs) v ≡ 0) = missed b (is_one (v s.column)) (miss (with_bits ss bs) v) e in
    ⊎_elim
    (λ (q : (s.column == c ≡ true) × (s.column ≡ c)). rw (q.0) (m.0 ∙ ap (λ d. is_one (v d)) q.1))
    (λ (q : (s.column == c ≡ false) × (s.column ≡ c → ⊥)). rw (q.0) (told ss bs v c (omega arith) m.1 (⊎_elim (λ i. absurd (q.1 i)) (λ i. i) h)))
    (eqb_tells s.column c)

-- ---- names
has_own : (s : Setting) (ss : List Setting) → Has s.column (placed s ss)
has_own s [] = inl refl
has_own s (t ∷ ts) =
    by_side (Has s.column (placed s (t ∷ ts))) s.column t.column
    (λ e. rw (placed_same s t ts e) (inl (sym e))) (λ l. rw (placed_before s t ts l) (inl refl)) (λ l. rw (placed_behind s t ts l) (inr (has_own s ts)))

has_placed : (s : Setting) (ss : List Setting) (c : ℕ) → Has c ss → Has c (placed s ss)
has_placed s [] c h = absurd h
has_placed s (t ∷ ts) c h =
    by_side (Has c (placed s (t ∷ ts))) s.column t.column
    (λ e. rw (placed_same s t ts e) h) (λ l. rw (placed_before s t ts l) (inr h)) (λ l. rw (placed_behind s t ts l) (⊎_elim (λ e. inl e) (λ i. inr (has_placed s ts c i)) h))

has_names : (p : ℕ → ℕ) (f : FormulaTree) (ss : List Setting) (c : ℕ) → Has c ss → Has c (names_among p f ss)
has_names p (constant b) ss c h = h
has_names p (named n) ss c h = has_placed (set_to (p n) false) ss c h
has_names p (negated f) ss c h = has_names p f ss c h
has_names p (joined k f g) ss c h = has_names p g (names_among p f ss) c (has_names p f ss c h)

name_weak : (P Q : ℕ → Type 0) (f : FormulaTree) → ((n : ℕ) → P n → Q n) → EachName P f → EachName Q f
name_weak P Q (constant b) i h = tt
name_weak P Q (named n) i h = i n h
name_weak P Q (negated f) i h = name_weak P Q f i h
name_weak P Q (joined c f g) i h = (name_weak P Q f i h.0, name_weak P Q g i h.1)

names_had : (p : ℕ → ℕ) (f : FormulaTree) (ss : List Setting) → EachName (λ n. Has (p n) (names_among p f ss)) f
names_had p (constant b) ss = tt
names_had p (named n) ss = has_own (set_to (p n) false) ss
names_had p (negated f) ss = names_had p f ss
names_had p (joined c f g) ss =
    (name_weak (λ n. Has (p n) (names_among p f ss)) (λ n. Has (p n) (names_among p g (names_among p f ss))) f (λ n h. has_names p g (names_among p f ss) (p n) h) (names_had p f ss), names_had p g (names_among p f ss))

pub names_each : (P : ℕ → Type 0) (p : ℕ → ℕ) (f : FormulaTree) (ss : List Setting) → EachName (λ n. P (p n)) f → Each P (columns_of ss) → Each P (columns_of (names_among p f ss))
names_each P p (constant b) ss h i = i
names_each P p (named n) ss h i = each_placed P (set_to (p n) false) ss h i
names_each P p (negated f) ss h i = names_each P p f ss h i
names_each P p (joined c f g) ss h i = names_each P p g (names_among p f ss) h.1 (names_each P p f ss h.0 i)

pub names_rise : (p : ℕ → ℕ) (f : FormulaTree) (ss : List Setting) → Rising (columns_of ss) → Rising (columns_of (names_among p f ss))
names_rise p (constant b) ss h = h
names_rise p (named n) ss h = rising_placed (set_to (p n) false) ss h
names_rise p (negated f) ss h = names_rise p f ss h
names_rise p (joined c f g) ss h = names_rise p g (names_among p f ss) (names_rise p f ss h)

bits_each : (P : ℕ → Type 0) (ss : List Setting) (bs : List Bool) → Each P (columns_of ss) → Each P (columns_of (with_bits ss bs))
bits_each P [] bs h = tt
bits_each P (s ∷ ss) [] h = tt
bits_each P (s ∷ ss) (b ∷ bs) h = (h.0, bits_each P ss bs h.1)

-- ---- the table
pub truth_same : (f : FormulaTree) (w x : Assignment) → EachName (λ n. is_one (w n) ≡ is_one (x n)) f → truth f w ≡ truth f x
truth_same (constant b) w x h = refl
truth_same (named n) w x h = h
truth_same (negated f) w x h = ap not (truth_same f w x h)
truth_same (joined c f g) w x h = ap₂ (connect c) (truth_same f w x h.0) (truth_same g w x h.1)

hit_truth : (p : ℕ → ℕ) (f : FormulaTree) (bs : List Bool) (v : Assignment) → length bs ≡ length (names_of p f) → miss (with_bits (names_of p f) bs) v ≡ 0 → truth_by p f (with_bits (names_of p f) bs) ≡ truth f (λ n. v (p n))
hit_truth p f bs v l e =
    truth_same f (λ n. bit (setting_in (with_bits (names_of p f) bs) (p n))) (λ n. v (p n))
    (name_weak (λ n. Has (p n) (names_of p f)) (λ n. is_one (bit (setting_in (with_bits (names_of p f) bs) (p n))) ≡ is_one (v (p n))) f
    (λ n h. one_bit (setting_in (with_bits (names_of p f) bs) (p n)) ∙ told (names_of p f) bs v (p n) l e h) (names_had p f []))

pub target_means : (r : ℕ) (p : ℕ → ℕ) (f : FormulaTree) (v : Assignment) → EachName (λ n. IsBit (v (p n))) f → IsBit (v r) → HoldStated v (table_of (Some r) p f) ↔ (v r ≡ bit (truth f (λ n. v (p n))))
target_means r p f v h i =
    let every : HoldStated v (table_of (Some r) p f) ↔ ((bs : List Bool) → length bs ≡ length (names_of p f) → HoldStated v (rows_at (Some r) p f (with_bits (names_of p f) bs))) = every_setting (rows_at (Some r) p f) [] (names_of p f) v in
    let bits : Each (λ c. IsBit (v c)) (columns_of (names_of p f)) = names_each (λ c. IsBit (v c)) p f [] h tt in
    let row = λ (bs : List Bool). target_row r (truth_by p f (with_bits (names_of p f) bs)) (with_bits (names_of p f) bs) v (bits_each (λ c. IsBit (v c)) (names_of p f) bs bits) i in
    let own : List Bool = bits_at (names_of p f) v in (
      λ g. bit_is (v r) i ∙ ap bit ((row own).0 (every.0 g own (bits_length (names_of p f) v)) (hit (names_of p f) v) ∙ hit_truth p f own v (bits_length (names_of p f) v) (hit (names_of p f) v)),
      λ e. every.1 (λ bs l. (row bs).1 (λ z. ap is_one e ∙ one_bit (truth f (λ n. v (p n))) ∙ sym (hit_truth p f bs v l z))),
    )

pub must_means : (p : ℕ → ℕ) (f : FormulaTree) (v : Assignment) → EachName (λ n. IsBit (v (p n))) f → HoldStated v (table_of None p f) ↔ (truth f (λ n. v (p n)) ≡ true)
must_means p f v h =
    let every : HoldStated v (table_of None p f) ↔ ((bs : List Bool) → length bs ≡ length (names_of p f) → HoldStated v (rows_at None p f (with_bits (names_of p f) bs))) = every_setting (rows_at None p f) [] (names_of p f) v in
    let bits : Each (λ c. IsBit (v c)) (columns_of (names_of p f)) = names_each (λ c. IsBit (v c)) p f [] h tt in
    let row = λ (bs : List Bool). must_row (truth_by p f (with_bits (names_of p f) bs)) (with_bits (names_of p f) bs) v (bits_each (λ c. IsBit (v c)) (names_of p f) bs bits) in
    let own : List Bool = bits_at (names_of p f) v in (
      λ g. sym (hit_truth p f own v (bits_length (names_of p f) v) (hit (names_of p f) v)) ∙ (row own).0 (every.0 g own (bits_length (names_of p f) v)) (hit (names_of p f) v),
      λ e. every.1 (λ bs l. (row bs).1 (λ z. hit_truth p f bs v l z ∙ e)),
    )

-- ---- how many rows
one_at_most : (target : Option ℕ) (t : Bool) (ss : List Setting) → length (setting_stated target t ss) ≤ 1
one_at_most (Some r) t ss = omega arith
one_at_most None true ss = omega arith
one_at_most None false ss = omega arith

table_size : (target : Option ℕ) (p : ℕ → ℕ) (f : FormulaTree) (made rest : List Setting) → length (table_from (rows_at target p f) made rest) ≤ 2 ^ length rest
table_size target p f made [] = one_at_most target (truth_by p f made) made
table_size target p f made (s ∷ ss) =
    let x : length (table_from (rows_at target p f) (made ++ (set_to s.column false ∷ [])) ss) ≤ 2 ^ length ss = table_size target p f (made ++ (set_to s.column false ∷ [])) ss in
    let y : length (table_from (rows_at target p f) (made ++ (set_to s.column true ∷ [])) ss) ≤ 2 ^ length ss = table_size target p f (made ++ (set_to s.column true ∷ [])) ss in
    simp (length-append, pow-suc) (omega arith)

few_tells : (n k : ℕ) → are_few n k ≡ true → 2 ^ n ≤ 4 * k
few_tells n k e = ⊎_elim (λ (h : (leb (2 ^ n) (4 * k) ≡ true) × (2 ^ n ≤ 4 * k)). h.1) (λ h. absurd (last (ltb 0 k) (leb n 4) (leb (2 ^ n) (4 * k)) e h.0)) (leb_tells (2 ^ n) (4 * k))
  where
    last : (a b c : Bool) → (a && (b && c)) ≡ true → c ≡ false → ⊥
    last a b true e f = cc
    last true true false e f = cc
    last true false false e f = cc
    last false b false e f = cc

pub few_some : (n k : ℕ) → are_few n k ≡ true → 0 < k
few_some n k e = ⊎_elim (λ (h : (ltb 0 k ≡ true) × (0 < k)). h.1) (λ h. absurd (first (ltb 0 k) (leb n 4 && leb (2 ^ n) (4 * k)) e h.0)) (leb_tells 1 k)
  where
    first : (a b : Bool) → (a && b) ≡ true → a ≡ false → ⊥
    first true b e f = cc
    first false b e f = cc

pub table_count : (target : Option ℕ) (p : ℕ → ℕ) (f : FormulaTree) → are_few (length (names_of p f)) (connectives f) ≡ true → length (table_of target p f) ≤ 4 * connectives f
table_count target p f e =
    let x : length (table_of target p f) ≤ 2 ^ length (names_of p f) = table_size target p f [] (names_of p f) in
    let y : 2 ^ length (names_of p f) ≤ 4 * connectives f = few_tells (length (names_of p f)) (connectives f) e in
    omega arith
