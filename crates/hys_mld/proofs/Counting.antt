-- How many fresh columns items have.
use Rattle.std.proofs.Common.{◌≡◌, ℕ, zero, suc, ◌+◌, ◌<◌, ◌≤◌, List, [], ◌∷◌, ◌++◌, length, get_or, drop, refl, sym, ap, ap₂, subst, arith}
use Rattle.hys_formula.specs.Formulas.{tree_of}
use Rattle.hys_prog.specs.declared.program.Body.{Body}
use Rattle.hys_prog.specs.declared.program.Body.TheVariants.{Guard, Choice, Logic, Linear, NextBool, NextReal, OutBool, OutReal, MustHold, MustMost, MustZero}
use Rattle.hys_prog.specs.declared.program.Name.{Name}
use Rattle.hys_prog.specs.declared.program.ProgItem.{ProgItem}
use Rattle.hys_prog.specs.Programs.{BodyOver, EachItem, body_connectives, items_weight}
use Rattle.hys_prog.proofs.Walking.{drop_here}
use Rattle.hys_logic.specs.declared.usage.Use.TheVariants.{Read, Define, Require}
use Rattle.hys_logic.specs.Literals.{column_in}
use Rattle.hys_logic.proofs.Used.{fresh_few}
use Rattle.hys_rows.specs.Items.{fresh_in, AreAlike}
use Rattle.hys_rows.proofs.Worked.{counts_alike}
use Rattle.hys_mld.specs.Fresh.{fresh_of_items}

-- ---- few
pub fresh_in_few : (columns : List ℕ) (b : Body) → fresh_in columns b ≤ body_connectives b
fresh_in_few columns (Guard f e) = omega arith
fresh_in_few columns (Choice l a b) = fresh_few Read (column_in columns) (tree_of l)
fresh_in_few columns (Logic l) = fresh_few (Define 0) (column_in columns) (tree_of l)
fresh_in_few columns (Linear f) = omega arith
fresh_in_few columns (NextBool l) = fresh_few Read (column_in columns) (tree_of l)
fresh_in_few columns (NextReal f) = omega arith
fresh_in_few columns (OutBool l) = fresh_few Read (column_in columns) (tree_of l)
fresh_in_few columns (OutReal f) = omega arith
fresh_in_few columns (MustHold l) = fresh_few Require (column_in columns) (tree_of l)
fresh_in_few columns (MustMost f) = omega arith
fresh_in_few columns (MustZero f) = omega arith

pub fresh_few_items : (columns : List ℕ) (ts : List ProgItem) → fresh_of_items columns ts ≤ items_weight ts
fresh_few_items columns [] = omega arith
fresh_few_items columns (t ∷ ts) =
    let a : fresh_in columns t.body ≤ body_connectives t.body = fresh_in_few columns t.body in
    let b : fresh_of_items columns ts ≤ items_weight ts = fresh_few_items columns ts in
    omega arith

-- ---- the same
pub fresh_items_same : (names : List Name) (cs ds : List ℕ) (ts : List ProgItem) → AreAlike names cs ds → EachItem (λ t. BodyOver names t.body) ts → fresh_of_items cs ts ≡ fresh_of_items ds ts
fresh_items_same names cs ds [] s h = refl
fresh_items_same names cs ds (t ∷ ts) s h = ap₂ (λ a b. a + b) (counts_alike names cs ds t.body h.0 s) (fresh_items_same names cs ds ts s h.1)

-- ---- one item more
pub fresh_here : (columns : List ℕ) (ts : List ProgItem) (i : ℕ) (t : ProgItem) → i < length ts → t ≡ get_or ts i t → fresh_of_items columns (drop i ts) ≡ fresh_in columns t.body + fresh_of_items columns (drop (suc i) ts)
fresh_here columns ts i t b e = ap (λ (xs : List ProgItem). fresh_of_items columns xs) (drop_here ts i t b e)

pub weight_here : (ts : List ProgItem) (i : ℕ) (t : ProgItem) → i < length ts → t ≡ get_or ts i t → body_connectives t.body + items_weight (drop (suc i) ts) ≤ items_weight (drop i ts)
weight_here ts i t b e = rw (drop_here ts i t b e) (omega arith)

pub weight_below : (ts : List ProgItem) (i : ℕ) (t : ProgItem) → i < length ts → t ≡ get_or ts i t → body_connectives t.body ≤ items_weight ts
weight_below [] i t b e = absurd (omega arith)
weight_below (x ∷ ts) zero t b e = subst (λ (y : ProgItem). body_connectives y.body ≤ items_weight (x ∷ ts)) (sym e) (omega arith)
weight_below (x ∷ ts) (suc i) t b e = let r : body_connectives t.body ≤ items_weight ts = weight_below ts i t (omega arith) e in omega arith

pub fresh_before : (columns : List ℕ) (ts : List ProgItem) (t : ProgItem) → fresh_of_items columns (ts ++ t ∷ []) ≡ fresh_of_items columns ts + fresh_in columns t.body
fresh_before columns [] t = omega arith
fresh_before columns (x ∷ ts) t = let r : fresh_of_items columns (ts ++ t ∷ []) ≡ fresh_of_items columns ts + fresh_in columns t.body = fresh_before columns ts t in omega arith
