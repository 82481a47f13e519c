-- What a placing keeps: columns below their number, Boolean names in front, one column for one name.
use Rattle.std.proofs.Common.{◌≡◌, ℕ, ◌+◌, ◌<◌, List, Bool, true, false, ◌&&◌, not, length, get_or, sym, ◌∙◌, ap, arith, subst, inl, inr, replicate}
use Rattle.std.proofs.lemmas.List.{length-replicate}
use Rattle.hys_ast.specs.declared.source.Kind.{Kind}
use Rattle.hys_ast.specs.declared.source.Kind.TheVariants as source
use Rattle.hys_lin.specs.declared.form.Interval.{Interval}
use Rattle.hys_prog.specs.declared.program.Name.{Name}
use Rattle.hys_prog.specs.declared.program.Program.{Program}
use Rattle.hys_prog.specs.Programs.{NameAt, IsVariable, IsBooleanVariable}
use Rattle.hys_prog.specs.Steps.{is_auxiliary}
use Rattle.hys_prog.proofs.Members.{at_in}
use Rattle.hys_prog.proofs.Names.{name_map, name_both, name_never}
use Rattle.hys_logic.specs.Literals.{column_in}
use Rattle.hys_exact.specs.Columns.{IsPlacing, columns_of, front, behind, is_boolean, is_real_auxiliary}
use Rattle.hys_exact.proofs.Places.{Placed, spread, spread_at, length-spread, place_below}
use Rattle.hys_exact.proofs.Names.{HasPlace, has_place, each_is}
use Rattle.hys_exact.proofs.Columns.{name_column, columns_spread, fresh_columns, fresh_count}

pub placing_placed : (p : Program) (fresh : ℕ) (columns : List ℕ) → IsPlacing p fresh columns → Placed (front p) (behind p) fresh (column_in columns)
placing_placed p fresh columns a = record { before = a.before; after = a.after }

pub columns_length : (p : Program) (boxes : List Interval) (n : ℕ) → length (columns_of p boxes n) ≡ length (front p) + (n + length (behind p))
columns_length p boxes n = ap length (columns_spread p boxes n) ∙ length-spread (front p) (behind p) (name_column p boxes) (fresh_columns n) ∙ ap (λ (m : ℕ). length (front p) + (m + length (behind p))) (fresh_count n)

pub placing_below : (p : Program) (fresh : ℕ) (columns : List ℕ) (n : ℕ) → IsPlacing p fresh columns → NameAt p.names n IsVariable → column_in columns n < length (front p) + (fresh + length (behind p))
placing_below p fresh columns n a h = place_below (front p) (behind p) fresh (column_in columns) (placing_placed p fresh columns a) n (has_place p n h)

-- the columns of Boolean names stand before the fresh ones
pub boolean_below : (p : Program) (fresh : ℕ) (columns : List ℕ) (n : ℕ) → IsPlacing p fresh columns → NameAt p.names n IsBooleanVariable → column_in columns n < length (front p)
boolean_below p fresh columns n a h = go (has_place p n (name_map IsBooleanVariable IsVariable p.names n (λ x k. k.0) h))
  where
    no_boolean : (c : Bool) (d : Kind) → d ≡ source.Bool → (c && not (is_boolean d)) ≡ true → ⊥
    no_boolean c source.Real e f = absurd (cc)
    no_boolean true source.Bool e f = absurd (cc)
    no_boolean false source.Bool e f = absurd (cc)

    go : HasPlace p n → column_in columns n < length (front p)
    go (inl i) =
        let k : (j : ℕ) × (j < length (front p)) × (get_or (front p) j 0 ≡ n) = at_in (front p) n i in
        let c : column_in columns n ≡ k.0 = subst (λ (m : ℕ). column_in columns m ≡ k.0) k.2 (a.before k.0 k.1) in
        let l : k.0 < length (front p) = k.1 in
        omega arith
    go (inr i) = absurd (name_never (λ (x : Name). IsBooleanVariable x × (is_real_auxiliary x ≡ true)) p.names n (λ x k. no_boolean (is_auxiliary x.role) x.kind k.0.1 k.1)
        (name_both IsBooleanVariable (λ (x : Name). is_real_auxiliary x ≡ true) p.names n h (each_is is_real_auxiliary p.names n i)))

-- names with one column are one name
pub placing_differ : (p : Program) (fresh : ℕ) (columns : List ℕ) (n m : ℕ) → IsPlacing p fresh columns → NameAt p.names n IsVariable → NameAt p.names m IsVariable → column_in columns n ≡ column_in columns m → n ≡ m
placing_differ p fresh columns n m a h k e =
    let own : (i : ℕ) → NameAt p.names i IsVariable → get_or (spread (front p) (behind p) (λ j. j) (replicate fresh 0)) (column_in columns i) 0 ≡ i =
    λ i v. spread_at (front p) (behind p) fresh (column_in columns) (placing_placed p fresh columns a) (λ j. j) (replicate fresh 0) 0 (length-replicate fresh 0) i (has_place p i v) in
    sym (own n h) ∙ ap (λ c. get_or (spread (front p) (behind p) (λ j. j) (replicate fresh 0)) c 0) e ∙ own m k
