use Rattle.std.proofs.Common.{◌≡◌, ◌<◌, ◌+◌, ap, sym, arith, subst, refl, length, ℕ}
use Rattle.hys_formula.specs.Formulas.{FormulaTree, tree_of, nodes, negated, joined, connectives, EachName}
use Rattle.hys_logic.specs.Literals.{column_in, literal_of, LiteralBelow}
use Rattle.hys_logic.specs.Rows.{Added, stated_of}
use Rattle.hys_logic.proofs.Truths.{name_more, literal_below, literal_more, joined_added}
use Rattle.hys_logic.proofs.formula.+add_rows.Goals as goal

abbrev Named : (m : ℕ) (p : ℕ → ℕ) (k : ℕ) → FormulaTree → Type 0
Named m p k f = EachName (λ n. (n < m) × (p n < k)) f

below : (m : ℕ) (p : ℕ → ℕ) (k : ℕ) (f : FormulaTree) → Named m p k f → LiteralBelow (k + connectives f) (literal_of p k f)
below m p k f h = literal_below f p k (name_more (λ n. (n < m) × (p n < k)) (λ n. p n < k) f (λ n q. q.1) h)

pub add_rows-requires : goal.add_rows-requires
add_rows-requires t c =
    let e : tree_of c.args.formula.now ≡ negated (tree_of c.deref.result.now) = rw (c.in-Not.is, c.deref.ensures) refl in
    let d : nodes (tree_of c.args.formula.now) ≡ t = c.decreases in
    let l : nodes (tree_of c.deref.result.now) < t = omega (arith, ap nodes e, d) in
    (l, (subst (Named (length c.args.columns.now) (column_in c.args.columns.now) c.args.next) e c.requires.names, omega (arith, ap connectives e, c.requires.room)))

pub add_rows-requires-in-Join : goal.add_rows-requires-in-Join
add_rows-requires-in-Join t c =
    let e : tree_of c.args.formula.now ≡ joined c.in-Join.connective (tree_of c.deref-in-Join.result.now) (tree_of c.in-Join.right.value) = rw (c.in-Join.is, c.deref-in-Join.ensures) refl in
    let d : nodes (tree_of c.args.formula.now) ≡ t = c.decreases in
    let l : nodes (tree_of c.deref-in-Join.result.now) < t = omega (arith, ap nodes e, d) in
    let n : Named (length c.args.columns.now) (column_in c.args.columns.now) c.args.next (joined c.in-Join.connective (tree_of c.deref-in-Join.result.now) (tree_of c.in-Join.right.value)) =
    subst (Named (length c.args.columns.now) (column_in c.args.columns.now) c.args.next) e c.requires.names in
    (l, (n.0, omega (arith, ap connectives e, c.requires.room)))

pub add_rows-requires-in-Join-2 : goal.add_rows-requires-in-Join-2
add_rows-requires-in-Join-2 t c =
    let e : tree_of c.args.formula.now ≡ joined c.in-Join.connective (tree_of c.deref-in-Join.result.now) (tree_of c.deref-in-Join-2.result.now) = rw (c.in-Join.is, c.deref-in-Join.ensures, c.deref-in-Join-2.ensures) refl in
    let d : nodes (tree_of c.args.formula.now) ≡ t = c.decreases in
    let l : nodes (tree_of c.deref-in-Join-2.result.now) < t = omega (arith, ap nodes e, d) in
    let n : Named (length c.args.columns.now) (column_in c.args.columns.now) c.args.next (joined c.in-Join.connective (tree_of c.deref-in-Join.result.now) (tree_of c.deref-in-Join-2.result.now)) =
    subst (Named (length c.args.columns.now) (column_in c.args.columns.now) c.args.next) e c.requires.names in
    let m : c.in_ok-first-in-Join.first.next ≡ c.args.next + connectives (tree_of c.deref-in-Join.result.now) = c.in_ok-first-in-Join.ensures.next in (
      l,
      (
        name_more (λ i. (i < length c.args.columns.now) × (column_in c.args.columns.now i < c.args.next)) (λ i. (i < length c.args.columns.now) × (column_in c.args.columns.now i < c.in_ok-first-in-Join.first.next)) (tree_of c.deref-in-Join-2.result.now)
            (λ i q. (q.0, omega arith)) n.1,
        omega (arith, ap connectives e, c.requires.room),
      ),
    )

pub add_connective-requires-clause-left : goal.add_connective-requires-clause-left
add_connective-requires-clause-left t c =
    let e : tree_of c.args.formula.now ≡ joined c.in-Join.connective (tree_of c.deref-in-Join.result.now) (tree_of c.deref-in-Join-2.result.now) = rw (c.in-Join.is, c.deref-in-Join.ensures, c.deref-in-Join-2.ensures) refl in
    let n : Named (length c.args.columns.now) (column_in c.args.columns.now) c.args.next (joined c.in-Join.connective (tree_of c.deref-in-Join.result.now) (tree_of c.deref-in-Join-2.result.now)) =
    subst (Named (length c.args.columns.now) (column_in c.args.columns.now) c.args.next) e c.requires.names in
    let m : c.in_ok-first-in-Join.first.next ≡ c.args.next + connectives (tree_of c.deref-in-Join.result.now) = c.in_ok-first-in-Join.ensures.next in
    let o : c.in_ok-second-in-Join.second.next ≡ c.in_ok-first-in-Join.first.next + connectives (tree_of c.deref-in-Join-2.result.now) = c.in_ok-second-in-Join.ensures.next in
    rw (c.in_ok-first-in-Join.ensures.literal)
    (literal_more (c.args.next + connectives (tree_of c.deref-in-Join.result.now)) c.in_ok-second-in-Join.second.next (literal_of (column_in c.args.columns.now) c.args.next (tree_of c.deref-in-Join.result.now)) (omega arith)
    (below (length c.args.columns.now) (column_in c.args.columns.now) c.args.next (tree_of c.deref-in-Join.result.now) n.0))

pub add_connective-requires-clause-right : goal.add_connective-requires-clause-right
add_connective-requires-clause-right t c =
    let e : tree_of c.args.formula.now ≡ joined c.in-Join.connective (tree_of c.deref-in-Join.result.now) (tree_of c.deref-in-Join-2.result.now) = rw (c.in-Join.is, c.deref-in-Join.ensures, c.deref-in-Join-2.ensures) refl in
    let n : Named (length c.args.columns.now) (column_in c.args.columns.now) c.args.next (joined c.in-Join.connective (tree_of c.deref-in-Join.result.now) (tree_of c.deref-in-Join-2.result.now)) =
    subst (Named (length c.args.columns.now) (column_in c.args.columns.now) c.args.next) e c.requires.names in
    let m : c.in_ok-first-in-Join.first.next ≡ c.args.next + connectives (tree_of c.deref-in-Join.result.now) = c.in_ok-first-in-Join.ensures.next in
    let o : c.in_ok-second-in-Join.second.next ≡ c.in_ok-first-in-Join.first.next + connectives (tree_of c.deref-in-Join-2.result.now) = c.in_ok-second-in-Join.ensures.next in
    let n2 : Named (length c.args.columns.now) (column_in c.args.columns.now) c.in_ok-first-in-Join.first.next (tree_of c.deref-in-Join-2.result.now) =
    name_more (λ i. (i < length c.args.columns.now) × (column_in c.args.columns.now i < c.args.next)) (λ i. (i < length c.args.columns.now) × (column_in c.args.columns.now i < c.in_ok-first-in-Join.first.next)) (tree_of c.deref-in-Join-2.result.now) (λ i q. (q.0, omega arith)) n.1 in
    rw (c.in_ok-second-in-Join.ensures.literal)
    (literal_more (c.in_ok-first-in-Join.first.next + connectives (tree_of c.deref-in-Join-2.result.now)) c.in_ok-second-in-Join.second.next (literal_of (column_in c.args.columns.now) c.in_ok-first-in-Join.first.next (tree_of c.deref-in-Join-2.result.now)) (omega arith)
    (below (length c.args.columns.now) (column_in c.args.columns.now) c.in_ok-first-in-Join.first.next (tree_of c.deref-in-Join-2.result.now) n2))

pub returns-in_ok-add_connective-in-Join-clause-added : goal.returns-in_ok-add_connective-in-Join-clause-added
returns-in_ok-add_connective-in-Join-clause-added t c =
    let e : tree_of c.args.formula.now ≡ joined c.in-Join.connective (tree_of c.deref-in-Join.result.now) (tree_of c.deref-in-Join-2.result.now) = rw (c.in-Join.is, c.deref-in-Join.ensures, c.deref-in-Join-2.ensures) refl in
    subst (λ (f : FormulaTree). Added c.args.rows.now.items c.add_connective.new.rows.items (stated_of (column_in c.args.columns.now) c.args.next f) (c.args.next + connectives f)) (sym e)
    (joined_added (tree_of c.deref-in-Join.result.now) (tree_of c.deref-in-Join-2.result.now) c.in-Join.connective (column_in c.args.columns.now) c.args.next c.in_ok-first-in-Join.first.next c.in_ok-second-in-Join.second.next
    c.in_ok-first-in-Join.first.literal c.in_ok-second-in-Join.second.literal c.args.rows.now.items c.add_rows-in-Join.new.rows.items c.add_rows-in-Join-2.new.rows.items c.add_connective.new.rows.items
    c.in_ok-first-in-Join.ensures.next c.in_ok-second-in-Join.ensures.next c.in_ok-first-in-Join.ensures.literal c.in_ok-second-in-Join.ensures.literal
    c.in_ok-first-in-Join.ensures.added c.in_ok-second-in-Join.ensures.added c.in_ok-add_connective-in-Join.ensures)
