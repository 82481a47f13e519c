-- The sample keeps what every system keeps.
use Rattle.std.proofs.Common.{◌≡◌, ℕ, ◌+◌, ◌*◌, ◌≤◌, List, [], ◌∷◌, false, true, nat_eq, get_or, refl, ap, arith, All}
use Rattle.std.proofs.lemmas.List.Elements.{All-cons, All-nil}
use Rattle.hys_number.specs.Gcd.{gcd}
use Rattle.hys_number.specs.Number.{Number, make}
use Rattle.hys_number.specs.Ops.{whole, neg, ◌≤ₙ◌}
use Rattle.hys_lin.specs.Over.{AreTermsOver}
use Rattle.hys_lin.specs.declared.form.Affine.{Affine}
use Rattle.hys_lin.specs.declared.form.Row.{Row}
use Rattle.hys_sys.specs.System.{IsSystem, IsBox, rank}
use Rattle.hys_sys.specs.declared.system.Column.{Column}
use Rattle.hys_sys.specs.declared.system.Output.{Output}
use Rattle.hys_stack.specs.Sample.{x_column, s_column, u_column, a_column, fresh_column, next_x, next_s, sample_output, sample_row, sample_system}

-- ---- numbers
one_not_zero : ¬ (whole 1 ≡ whole 0)
unfolding whole make gcd
one_not_zero e = let f = ap (λ (x : Number). x.num) e in absurd (cc)

two_not_zero : ¬ (whole 2 ≡ whole 0)
unfolding whole make gcd
two_not_zero e = let f = ap (λ (x : Number). x.num) e in absurd (cc)

minus_two_not_zero : ¬ (neg (whole 2) ≡ whole 0)
unfolding whole neg make gcd
minus_two_not_zero e = let f = ap (λ (x : Number). x.num) e in absurd (cc)

minus_five_not_zero : ¬ (neg (whole 5) ≡ whole 0)
unfolding whole neg make gcd
minus_five_not_zero e = let f = ap (λ (x : Number). x.num) e in absurd (cc)

zero_ten : whole 0 ≤ₙ whole 10
unfolding whole make gcd ◌≤ₙ◌
zero_ten = omega arith

minus_one : neg (whole 1) ≤ₙ whole 1
unfolding whole neg make gcd ◌≤ₙ◌
minus_one = omega arith

-- ---- names, told by their first two bytes
abbrev front : List ℕ → ℕ
front w = get_or w 0 0 * 256 + get_or w 1 0

apart : (a b : List ℕ) → nat_eq (front a) (front b) ≡ false → nat_eq (front b) (front b) ≡ true → ¬ (a ≡ b)
apart a b f t e = let g : nat_eq (front a) (front b) ≡ nat_eq (front b) (front b) = ap (λ (z : List ℕ). nat_eq (front z) (front b)) e in absurd (cc)

-- ---- columns
last : (P : Column → Type 0) → P fresh_column → All P (fresh_column ∷ [])
last P f = All-cons P fresh_column [] f (All-nil P)

last_two : (P : Column → Type 0) → P a_column → P fresh_column → All P (a_column ∷ fresh_column ∷ [])
last_two P a f = All-cons P a_column (fresh_column ∷ []) a (last P f)

last_three : (P : Column → Type 0) → P u_column → P a_column → P fresh_column → All P (u_column ∷ a_column ∷ fresh_column ∷ [])
last_three P u a f = All-cons P u_column (a_column ∷ fresh_column ∷ []) u (last_two P a f)

last_four : (P : Column → Type 0) → P s_column → P u_column → P a_column → P fresh_column → All P (s_column ∷ u_column ∷ a_column ∷ fresh_column ∷ [])
last_four P s u a f = All-cons P s_column (u_column ∷ a_column ∷ fresh_column ∷ []) s (last_three P u a f)

pub is_system : IsSystem sample_system
is_system = record {
  order = (
    last_four (λ d. rank x_column.role ≤ rank d.role) (omega arith) (omega arith) (omega arith) (omega arith),
    (
      last_three (λ d. rank s_column.role ≤ rank d.role) (omega arith) (omega arith) (omega arith),
      (
        last_two (λ d. rank u_column.role ≤ rank d.role) (omega arith) (omega arith),
        (
          last (λ d. rank a_column.role ≤ rank d.role) (omega arith),
          (All-nil (λ (d : Column). rank fresh_column.role ≤ rank d.role), tt),
        ),
      ),
    ),
  );
  boxes = All-cons (λ (c : Column). IsBox c.kind c.bounds) x_column (s_column ∷ u_column ∷ a_column ∷ fresh_column ∷ []) zero_ten
      (last_four (λ c. IsBox c.kind c.bounds) (refl, refl) minus_one (refl, refl) (refl, refl));
  differ = (
    (apart _ _ refl refl, (apart _ _ refl refl, (apart _ _ refl refl, (apart _ _ refl refl, (apart _ _ refl refl, tt))))),
    (
      (apart _ _ refl refl, (apart _ _ refl refl, (apart _ _ refl refl, (apart _ _ refl refl, tt)))),
      (
        (apart _ _ refl refl, (apart _ _ refl refl, (apart _ _ refl refl, tt))),
        (
          (apart _ _ refl refl, (apart _ _ refl refl, tt)),
          ((apart _ _ refl refl, tt), (tt, tt)),
        ),
      ),
    ),
  );
  each = refl;
  next = All-cons (λ (f : Affine). AreTermsOver 5 f.terms) next_x (next_s ∷ [])
      (record { rise = (one_not_zero, (omega arith, (omega arith, tt)), (one_not_zero, (omega arith, tt), (minus_two_not_zero, tt, tt))); below = (omega arith, (omega arith, (omega arith, tt))) })
      (All-cons (λ (f : Affine). AreTermsOver 5 f.terms) next_s []
      (record { rise = (one_not_zero, tt, tt); below = (omega arith, tt) })
      (All-nil (λ (f : Affine). AreTermsOver 5 f.terms)));
  outputs = All-cons (λ (o : Output). AreTermsOver 5 o.form.terms) sample_output []
      (record { rise = (two_not_zero, (omega arith, tt), (one_not_zero, tt, tt)); below = (omega arith, (omega arith, tt)) })
      (All-nil (λ (o : Output). AreTermsOver 5 o.form.terms));
  rows = All-cons (λ (r : Row). AreTermsOver 5 r.terms) sample_row []
      (record { rise = (one_not_zero, (omega arith, tt), (minus_five_not_zero, tt, tt)); below = (omega arith, (omega arith, tt)) })
      (All-nil (λ (r : Row). AreTermsOver 5 r.terms));
  no_equation = All-cons (λ (r : Row). r.eq ≡ false) sample_row [] refl (All-nil (λ (r : Row). r.eq ≡ false));
  labelled = refl;
  few_columns = omega arith;
  few_rows = omega arith;
}
