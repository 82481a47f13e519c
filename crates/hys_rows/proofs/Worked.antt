-- The laws of fresh columns, and the worked examples.
use Rattle.std.proofs.Common.{◌≡◌, ℕ, zero, suc, ◌<◌, ◌≤◌, List, [], ◌∷◌, true, false, refl, ap, arith, pos, negsuc, inl, inr, ◌⊎◌}
use Rattle.hys_number.specs.Gcd.{gcd}
use Rattle.hys_number.specs.Number.{Number, make}
use Rattle.hys_number.specs.Ops.{whole, ◌+ₙ◌, ◌*ₙ◌, ◌-ₙ◌, neg, fits}
use Rattle.hys_number.proofs.Field.{neg-mul}
use Rattle.hys_number.proofs.Ring.{by_ring, v as var, k as num, minus as negative, ◌⊕◌}
use Rattle.hys_lin.specs.Ranges.{end_of}
use Rattle.hys_ast.specs.declared.source.Kind.TheVariants.{Real, Bool as Truth}
use Rattle.hys_prog.specs.declared.program.Role.TheVariants.{State, Aux}
use Rattle.hys_lin.specs.Stated.{AreRows}
use Rattle.hys_formula.specs.declared.formula.Formula.{Formula}
use Rattle.hys_formula.specs.Formulas.{tree_of}
use Rattle.hys_prog.specs.declared.program.Body.{Body}
use Rattle.hys_prog.specs.declared.program.Body.TheVariants.{Guard, Choice, Logic, Linear, NextBool, NextReal, OutBool, OutReal, MustHold, MustMost, MustZero}
use Rattle.hys_prog.specs.declared.program.Name.{Name}
use Rattle.hys_prog.specs.Guarded.{guarded, d_first, d_item, difference}
use Rattle.hys_prog.specs.Programs.{NameAt, IsVariable, IsBooleanVariable, Has, BodyOver, FormulaOver}
use Rattle.hys_prog.proofs.Guards.{is_program}
use Rattle.hys_bound.specs.Ranges.{intervals}
use Rattle.hys_logic.specs.declared.usage.Use.{Use}
use Rattle.hys_logic.specs.declared.usage.Use.TheVariants.{Read, Define, Require}
use Rattle.hys_logic.specs.Literals.{column_in}
use Rattle.hys_logic.specs.Uses.{fresh_count}
use Rattle.hys_logic.proofs.Truths.{name_more}
use Rattle.hys_logic.proofs.Used.{same_count}
use Rattle.hys_exact.specs.Example.{guard_system}
use Rattle.hys_rows.specs.Items.{fresh_in, AreAlike, Fits}
use Rattle.hys_rows.specs.Moved.{moved}
use Rattle.hys_rows.specs.Numbers.{numbers_of}
use Rattle.hys_rows.specs.Parts.{stated_in}
use Rattle.hys_rows.specs.Example.{before, behind, places, guard_operations}

formula_count : (names : List Name) (u : Use) (columns others : List ℕ) (l : Formula) → FormulaOver names l → AreAlike names columns others → fresh_count u (column_in columns) (tree_of l) ≡ fresh_count u (column_in others) (tree_of l)
formula_count names u columns others l o h = same_count u (column_in columns) (column_in others) (tree_of l) (name_more (λ n. NameAt names n IsBooleanVariable) (λ n. column_in columns n ≡ column_in others n) (tree_of l) (λ n q. h n q) o)

pub counts_alike : (names : List Name) (columns others : List ℕ) (b : Body) → BodyOver names b → AreAlike names columns others → fresh_in columns b ≡ fresh_in others b
counts_alike names columns others (Guard f e) o h = refl
counts_alike names columns others (Choice l f g) o h = formula_count names Read columns others l o.0 h
counts_alike names columns others (Logic l) o h = formula_count names (Define 0) columns others l o h
counts_alike names columns others (Linear f) o h = refl
counts_alike names columns others (NextBool l) o h = formula_count names Read columns others l o h
counts_alike names columns others (NextReal f) o h = refl
counts_alike names columns others (OutBool l) o h = formula_count names Read columns others l o h
counts_alike names columns others (OutReal f) o h = refl
counts_alike names columns others (MustHold l) o h = formula_count names Require columns others l o h
counts_alike names columns others (MustMost f) o h = refl
counts_alike names columns others (MustZero f) o h = refl

-- ---- examples
pub moved_sorted : moved places before ≡ behind
moved_sorted = refl

pub numbers_asked : numbers_of (intervals guarded d_first) (0 ∷ 1 ∷ []) 2 d_item.body ≡ guard_operations
unfolding fits whole make gcd ◌+ₙ◌ ◌*ₙ◌ neg
numbers_asked = refl

columns_differ : (n m : ℕ) → NameAt guarded.names n IsVariable → NameAt guarded.names m IsVariable → column_in (0 ∷ 1 ∷ []) n ≡ column_in (0 ∷ 1 ∷ []) m → n ≡ m
columns_differ zero zero h k e = refl
columns_differ zero (suc zero) h k e = absurd (omega arith)
columns_differ zero (suc (suc m)) h k e = absurd k
columns_differ (suc zero) zero h k e = absurd (omega arith)
columns_differ (suc zero) (suc zero) h k e = refl
columns_differ (suc zero) (suc (suc m)) h k e = absurd k
columns_differ (suc (suc n)) m h k e = absurd h

boolean_before : (n : ℕ) → NameAt guarded.names n IsBooleanVariable → column_in (0 ∷ 1 ∷ []) n < 2
boolean_before zero h = omega arith
boolean_before (suc zero) h = omega arith
boolean_before (suc (suc n)) h = absurd h

no_real : (n : ℕ) → NameAt guarded.names n (Has Aux Real) → 2 ≤ column_in (0 ∷ 1 ∷ []) n
no_real zero h = absurd (let e : State ≡ Aux = h.0 in cc)
no_real (suc zero) h = absurd (let e : Truth ≡ Real = h.1 in cc)
no_real (suc (suc n)) h = absurd h

not_mentioned : (◌≡◌ {A = ℕ} 0 1) ⊎ ⊥ → ⊥
not_mentioned (inl e) = absurd (omega arith)
not_mentioned (inr e) = e

pub guard_fits : Fits guarded.names (intervals guarded d_first) (0 ∷ 1 ∷ []) 2 d_item
guard_fits = record {
  placed = record { long = refl; differ = columns_differ; booleans = boolean_before; reals = no_real };
  item = record { body = is_program.bodies.0; named = is_program.named.0; apart = not_mentioned };
  long = refl;
}

high_is : end_of true difference (intervals guarded d_first) ≡ whole 5
unfolding whole make gcd ◌+ₙ◌ ◌*ₙ◌ neg
high_is = refl

fall_is : end_of false difference (intervals guarded d_first) -ₙ make (pos 1) 1000 ≡ make (negsuc 5000) 1000
unfolding whole make gcd ◌+ₙ◌ ◌*ₙ◌ neg
fall_is = refl

top_is : whole 0 ≡ whole 5 -ₙ whole 5
unfolding whole make gcd ◌+ₙ◌ ◌*ₙ◌ neg
top_is = refl

rest_is : make (pos 4999) 1000 ≡ whole 5 -ₙ make (pos 1) 1000
unfolding whole make gcd ◌+ₙ◌ ◌*ₙ◌ neg
rest_is = refl

minus_one : make (negsuc 0) 1 ≡ neg (whole 1)
unfolding whole make gcd neg
minus_one = refl

no_five : whole 5 ≡ whole 0 → ⊥
unfolding whole make gcd
no_five e = let q : pos 5 ≡ pos 0 = ap (λ (a : Number). a.num) e in absurd (cc)

no_one : whole 1 ≡ whole 0 → ⊥
unfolding whole make gcd
no_one e = let q : pos 1 ≡ pos 0 = ap (λ (a : Number). a.num) e in absurd (cc)

no_minus : make (negsuc 0) 1 ≡ whole 0 → ⊥
unfolding whole make gcd
no_minus e = let q : negsuc 0 ≡ pos 0 = ap (λ (a : Number). a.num) e in absurd (cc)

no_fall : make (negsuc 5000) 1000 ≡ whole 0 → ⊥
unfolding whole make gcd
no_fall e = let q : negsuc 5000 ≡ pos 0 = ap (λ (a : Number). a.num) e in absurd (cc)

first_sum : (a b : Number) → make (negsuc 0) 1 *ₙ a +ₙ (whole 5 *ₙ b +ₙ whole 0) ≡ make (negsuc 0) 1 *ₙ a +ₙ whole 0 +ₙ whole 5 *ₙ b
first_sum a b = by_ring ((make (negsuc 0) 1 *ₙ a) ∷ (whole 5 *ₙ b) ∷ []) (var 0 ⊕ (var 1 ⊕ num 0)) (var 0 ⊕ num 0 ⊕ var 1) refl

second_sum : (a b c : Number) → whole 1 *ₙ a +ₙ (c *ₙ b +ₙ whole 0) ≡ neg (make (negsuc 0) 1 *ₙ a +ₙ whole 0) +ₙ c *ₙ b
second_sum a b c = rw (minus_one, neg-mul (whole 1) a) (by_ring ((whole 1 *ₙ a) ∷ (c *ₙ b) ∷ []) (var 0 ⊕ (var 1 ⊕ num 0)) (negative (negative (var 0) ⊕ num 0) ⊕ var 1) refl)

pub guard_rows : AreRows guard_system.rows (stated_in (intervals guarded d_first) (0 ∷ 1 ∷ []) 2 d_item)
guard_rows =
    let above : 0 < 1 = omega arith in (
      record { terms = (no_minus, (above, tt), (no_five, tt, tt)); sums = λ v. rw high_is (first_sum (v 0) (v 1)); bounds = rw high_is top_is; at_most = refl },
      (
        record { terms = (no_one, (above, tt), (no_fall, tt, tt)); sums = λ v. rw fall_is (second_sum (v 0) (v 1) (make (negsuc 5000) 1000)); bounds = rest_is; at_most = refl },
        tt,
      ),
    )
