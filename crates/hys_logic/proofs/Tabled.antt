-- What helpers of truth tables add: names collected, and the rows of settings.
use Rattle.std.specs.Prelude.{◌≡◌, ℕ, ◌<◌, ◌≤◌, ◌⊎◌, List, [], ◌∷◌, ◌++◌, length, Bool, true, false, not, Option, Some, None, ℤ}
use Rattle.std.proofs.Common.{refl, sym, ◌∙◌, ap, arith, subst, ⊎_elim, append_assoc, inr}
use Rattle.hys_number.specs.Number.{make}
use Rattle.hys_number.specs.Gcd.{gcd}
use Rattle.hys_number.specs.Ops.{whole, int}
use Rattle.hys_lin.specs.declared.form.Row.{Row}
use Rattle.hys_lin.specs.Bits.{bit, is_one}
use Rattle.hys_lin.proofs.Stated.{are-append, below-append}
use Rattle.hys_formula.specs.declared.formula.Connective.{Connective}
use Rattle.hys_formula.specs.Formulas.{FormulaTree, constant, named, negated, joined}
use Rattle.hys_logic.specs.declared.table.Setting.{Setting}
use Rattle.hys_logic.specs.Tables.{set_to, placed, columns_of, Each, Rising, names_among, ones, bound_by, setting_stated, rows_at, AddsOver, AddsTable, IsSettingsRow, Collects}
use Rattle.hys_logic.proofs.Settings.{length_placed, each_placed, rising_placed, terms_sum, terms_each, terms_rise, placed_sum, pushed_columns, nil_right}

pub one_bit : (b : Bool) → is_one (bit b) ≡ b
unfolding is_one whole make gcd
one_bit true = refl
one_bit false = refl

-- ---- names
pub names_longer : (p : ℕ → ℕ) (f : FormulaTree) (ss : List Setting) → length ss ≤ length (names_among p f ss)
names_longer p (constant b) ss = omega arith
names_longer p (named n) ss = length_placed (set_to (p n) false) ss
names_longer p (negated f) ss = names_longer p f ss
names_longer p (joined c f g) ss =
    let x : length ss ≤ length (names_among p f ss) = names_longer p f ss in
    let y : length (names_among p f ss) ≤ length (names_among p g (names_among p f ss)) = names_longer p g (names_among p f ss) in
    omega arith

pub collect_stop : (p : ℕ → ℕ) (f : FormulaTree) (ss : List Setting) → 4 < length ss → Collects p f ss ss
collect_stop p f ss l = let x : length ss ≤ length (names_among p f ss) = names_longer p f ss in inr (l, omega arith)

more_stay : (p : ℕ → ℕ) (f : FormulaTree) (ys zs : List Setting) → 4 < length ys → Collects p f ys zs → 4 < length zs
more_stay p f ys zs l h = ⊎_elim (λ (e : zs ≡ names_among p f ys). let more : length ys ≤ length (names_among p f ys) = names_longer p f ys in rw e (omega arith)) (λ m. m.0) h

pub collect_join : (p : ℕ → ℕ) (c : Connective) (f g : FormulaTree) (xs ys zs : List Setting) → Collects p f xs ys → Collects p g ys zs → Collects p (joined c f g) xs zs
collect_join p c f g xs ys zs h i =
    ⊎_elim
    (λ e. subst (λ (us : List Setting). (zs ≡ names_among p g us) ⊎ ((4 < length zs) × (4 < length (names_among p g us)))) e i)
    (λ (l : (4 < length ys) × (4 < length (names_among p f xs))).
    let long : length (names_among p f xs) ≤ length (names_among p g (names_among p f xs)) = names_longer p g (names_among p f xs) in
    let a : 4 < length (names_among p f xs) = l.1 in
    inr (more_stay p g ys zs l.0 i, omega arith))
    h

-- ---- the row of a choice of settings
pub row_with : (r : ℕ) (t : Bool) (ss all : List Setting) (row : Row) (z : ℤ) (old new : List Row) → Rising (columns_of ss) → Each (λ c. r ≡ c → ⊥) (columns_of ss) → all ≡ placed (set_to r (not t)) ss →
    z ≡ bound_by t (ones ss) → IsSettingsRow all z row → new ≡ old ++ (row ∷ []) → AddsOver (Some r) (columns_of ss) (setting_stated (Some r) t ss) old new
row_with r t ss all row z old new rise away e b is n = (
  row ∷ [],
  n,
  (
    record {
      terms = rw (is.0, e) (terms_rise (placed (set_to r (not t)) ss) (rising_placed (set_to r (not t)) ss rise));
      sums = λ v. rw (is.0, e) (terms_sum (placed (set_to r (not t)) ss) v ∙ placed_sum (set_to r (not t)) ss v away);
      bounds = is.1 ∙ ap int b;
      at_most = is.2;
    },
    tt,
  ),
  λ m h l. (rw (is.0, e) (terms_each (λ c. c < m) (placed (set_to r (not t)) ss) (each_placed (λ c. c < m) (set_to r (not t)) ss l h)), tt),
)

pub row_without : (ss : List Setting) (row : Row) (z : ℤ) (old new : List Row) → Rising (columns_of ss) → z ≡ bound_by true (ones ss) → IsSettingsRow ss z row → new ≡ old ++ (row ∷ []) →
    AddsOver None (columns_of ss) (setting_stated None false ss) old new
row_without ss row z old new rise b is n = (
  row ∷ [],
  n,
  (record { terms = rw (is.0) (terms_rise ss rise); sums = λ v. rw (is.0) (terms_sum ss v); bounds = is.1 ∙ ap int b; at_most = is.2 }, tt),
  λ m h l. (rw (is.0) (terms_each (λ c. c < m) ss h), tt),
)

pub no_row : (ss : List Setting) (old : List Row) → AddsOver None (columns_of ss) (setting_stated None true ss) old old
no_row ss old = ([], sym (nil old), tt, λ m h l. tt)
  where
    nil : (xs : List Row) → xs ++ [] ≡ xs
    nil [] = refl
    nil (x ∷ xs) = ap (λ ys. x ∷ ys) (nil xs)

-- ---- the rows of all settings
pub last_made : (target : Option ℕ) (p : ℕ → ℕ) (f : FormulaTree) (made rest : List Setting) (old new : List Row) → length rest ≡ 0 → AddsOver target (columns_of made) (rows_at target p f made) old new →
    AddsTable target p f made rest old new
last_made target p f made [] old new e h = (h.0, h.1, h.2, λ n l m. h.3 n (subst (λ (ss : List Setting). Each (λ c. c < n) (columns_of ss)) (nil_right made) l) m)
last_made target p f made (s ∷ ss) old new e h = absurd (omega arith)

pub halves : (target : Option ℕ) (p : ℕ → ℕ) (f : FormulaTree) (made rest later : List Setting) (s : Setting) (old mid new : List Row) → rest ≡ s ∷ later →
    AddsTable target p f (made ++ (set_to s.column false ∷ [])) later old mid → AddsTable target p f (made ++ (set_to s.column true ∷ [])) later mid new → AddsTable target p f made rest old new
halves target p f made rest later s old mid new e h i =
    rw e (
      h.0 ++ i.0,
      i.1 ∙ ap (λ xs. xs ++ i.0) h.1 ∙ append_assoc old h.0 i.0,
      are-append h.0 i.0 _ _ h.2 i.2,
      λ n l m. below-append n h.0 i.0
          (h.3 n (subst (Each (λ c. c < n)) (sym (pushed_columns made later s false)) l) m)
          (i.3 n (subst (Each (λ c. c < n)) (sym (pushed_columns made later s true)) l) m),
    )
