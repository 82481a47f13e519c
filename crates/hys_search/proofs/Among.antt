-- Columns by their places in a list.
use Rattle.std.proofs.Common.{◌≡◌, ℕ, zero, suc, ◌<◌, Bool, true, false, List, [], ◌∷◌, length, get_or, refl, sym, ap, subst, arith, ◌||◌}
use Rattle.std.specs.Prelude.{nat_eq}
use Rattle.hys_relax.proofs.Dense.{own_column, same_column}
use Rattle.hys_lin.specs.Bits.{IsBit}
use Rattle.hys_lin.specs.Sums.{Within}
use Rattle.hys_lin.specs.declared.form.Point.{Point}
use Rattle.hys_lin.specs.declared.problem.Problem.{Problem}
use Rattle.hys_relax.specs.Node.{unit_box}
use Rattle.hys_search.specs.Branching.{AreBits, AreUnits, EachBit, EachUnit, column_of, is_among}

or_second : (a b : Bool) → b ≡ true → (a || b) ≡ true
or_second true b e = refl
or_second false b e = e

pub among_at : (cs : List ℕ) (i : ℕ) → i < length cs → is_among cs (get_or cs i 0) ≡ true
among_at [] i l = absurd (omega arith)
among_at (c ∷ cs) zero l = ap (λ b. b || is_among cs c) (own_column c)
among_at (c ∷ cs) (suc i) l = or_second (nat_eq (get_or cs i 0) c) (is_among cs (get_or cs i 0)) (among_at cs i (omega arith))

pub units_among : (cs ds : List ℕ) (x : Point) → ((c : ℕ) → is_among cs c ≡ true → is_among ds c ≡ true) → ((c : ℕ) → is_among ds c ≡ true → Within unit_box (column_of x c)) → EachUnit cs x
units_among [] ds x m h = tt
units_among (c ∷ cs) ds x m h = (h c (m c (among_at (c ∷ cs) 0 (omega arith))), units_among cs ds x (λ d e. m d (or_second (nat_eq d c) (is_among cs d) e)) h)

pub units_each : (P : Problem) (x : Point) → AreUnits P x → EachUnit P.branch x
units_each P x h = units_among P.branch P.branch x (λ c e. e) h

pub bits_among : (cs : List ℕ) (x : Point) → EachBit cs x → (c : ℕ) → is_among cs c ≡ true → IsBit (column_of x c)
bits_among [] x h c e = absurd (let n : false ≡ true = e in cc)
bits_among (d ∷ cs) x h c e = go (nat_eq c d) refl e (bits_among cs x h.1 c)
  where
    go : (b : Bool) → nat_eq c d ≡ b → (b || is_among cs c) ≡ true → (is_among cs c ≡ true → IsBit (column_of x c)) → IsBit (column_of x c)
    go true q t rest = subst (λ z. IsBit (column_of x z)) (sym (same_column c d q)) h.0
    go false q t rest = rest t

pub bits_each : (P : Problem) (x : Point) → EachBit P.branch x → AreBits P x
bits_each P x h = bits_among P.branch x h
