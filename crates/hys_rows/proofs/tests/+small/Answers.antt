use Rattle.std.proofs.Common.{◌≡◌, ◌<◌, sym, subst, refl, length, ℕ, IfSome}
use Rattle.hys_formula.specs.Formulas.{FormulaTree, tree_of, negated, EachName}
use Rattle.hys_logic.specs.Literals.{column_in}
use Rattle.hys_rows.proofs.tests.+small.Goals as goal

abbrev Named : (m : ℕ) (p : ℕ → ℕ) (k : ℕ) → FormulaTree → Type 0
Named m p k f = EachName (λ n. (n < m) × (p n < k)) f

pub returns-in-Not-clause-names : goal.returns-in-Not-clause-names
returns-in-Not-clause-names t c =
    let e : tree_of c.args.formula.now ≡ negated (tree_of c.deref.result.now) = rw (c.in-Not.is, c.deref.ensures) refl in
    subst (λ (f : FormulaTree). IfSome c.small.result (λ _. Named (length c.args.columns.now) (column_in c.args.columns.now) 10 f)) (sym e) c.small.ensures.names

pub returns-in-Some-Some-clause-names : goal.returns-in-Some-Some-clause-names
returns-in-Some-Some-clause-names t c =
    rw (c.in-Join.is, ← c.deref-in-Join.ensures, ← c.deref-in-Join-2.ensures) (c.in-Some-Some.ensures.names, c.in-Some-Some.ensures'.names)

abbrev Apart : ℕ → (ℕ → ℕ) → FormulaTree → Type 0
Apart d p f = EachName (λ n. d ≡ p n → ⊥) f

pub returns-in-Not-clause-apart : goal.returns-in-Not-clause-apart
returns-in-Not-clause-apart t c =
    let e : tree_of c.args.formula.now ≡ negated (tree_of c.deref.result.now) = rw (c.in-Not.is, c.deref.ensures) refl in
    subst (λ (f : FormulaTree). IfSome c.small.result (λ _. Apart 9 (column_in c.args.columns.now) f)) (sym e) c.small.ensures.apart

pub returns-in-Some-Some-clause-apart : goal.returns-in-Some-Some-clause-apart
returns-in-Some-Some-clause-apart t c =
    rw (c.in-Join.is, ← c.deref-in-Join.ensures, ← c.deref-in-Join-2.ensures) (c.in-Some-Some.ensures.apart, c.in-Some-Some.ensures'.apart)
