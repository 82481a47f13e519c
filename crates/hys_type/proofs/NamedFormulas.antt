-- The formula of an expression whose guards have names is the one that is built of the expression.
use Rattle.std.proofs.Common.{◌≡◌, ℕ, ◌+◌, ◌<◌, List, [], ◌∷◌, ◌++◌, Bool, true, false, cond, length, sym, ◌∙◌, refl, ap, ap₂, subst, arith}
use Rattle.std.proofs.lemmas.List.{length-append}
use Rattle.hys_ast.specs.Tree.{Tree}
use Rattle.hys_ast.specs.Tree as tree
use Rattle.hys_meaning.specs.Names.{Name, look}
use Rattle.hys_meaning.specs.Unfolded.{Naming, guard_name, is_inequality, unchanged, paired, guarded, guarded_if, named}
use Rattle.hys_formula.specs.Formulas.{FormulaTree}
use Rattle.hys_formula.specs.Formulas as formulas
use Rattle.hys_type.specs.Nodes.{sort}
use Rattle.hys_type.specs.Built.{comparisons, built}
use Rattle.hys_type.specs.Translation.{formula, name_formula, signed_by, joined_by, connective_of}
use Rattle.hys_type.proofs.Numbering.{WellSorted, real_plain, both_unchanged, sorted_numbered, inequality_operands}

-- each name of the expression has the same formula among these names and those
abbrev pub SameFormulas : List Name → List Name → Tree → Type 0
SameFormulas ns ms (tree.Number text p) = Unit {0}
SameFormulas ns ms (tree.Name n p) = name_formula ms n (look ms n) ≡ name_formula ns n (look ns n)
SameFormulas ns ms (tree.Truth b p) = Unit {0}
SameFormulas ns ms (tree.Cast n p) = Unit {0}
SameFormulas ns ms (tree.Unary op a p) = SameFormulas ns ms a
SameFormulas ns ms (tree.Binary op a b p) = SameFormulas ns ms a × SameFormulas ns ms b

-- the guards with some numbers from k on stand at the places from j on
abbrev pub StandFrom : List Name → ℕ → ℕ → ℕ → Type 0
StandFrom ms k j count = (i : ℕ) → i < count → name_formula ms (guard_name (k + i)) (look ms (guard_name (k + i))) ≡ formulas.named (j + i)

pub first_stands : (ms : List Name) (k j count : ℕ) → 0 < count → StandFrom ms k j count → name_formula ms (guard_name k) (look ms (guard_name k)) ≡ formulas.named j
first_stands ms k j count l h = subst (λ (i : ℕ). name_formula ms (guard_name i) (look ms (guard_name i)) ≡ formulas.named j) (none k) (h 0 l ∙ ap formulas.named (none j))
  where
    none : (n : ℕ) → n + 0 ≡ n
    none n = omega arith

pub fewer_stand : (ms : List Name) (k j m n count : ℕ) → count ≡ m + n → StandFrom ms k j count → StandFrom ms k j m
fewer_stand ms k j m n count e h i l = h i (less i m n count e l)
  where
    less : (i m n c : ℕ) → c ≡ m + n → i < m → i < c
    less i m n c e l = omega (arith, e, l)

pub later_stand : (ms : List Name) (k j m n count q : ℕ) → count ≡ m + n → q ≡ k + m → StandFrom ms k j count → StandFrom ms q (j + m) n
later_stand ms k j m n count q e f h i l =
    subst (λ (x : ℕ). name_formula ms (guard_name x) (look ms (guard_name x)) ≡ formulas.named ((j + m) + i)) (shifted k m i q f) (h (m + i) (less i m n count e l) ∙ ap formulas.named (behind j m i))
  where
    less : (i m n c : ℕ) → c ≡ m + n → i < n → m + i < c
    less i m n c e l = omega (arith, e, l)

    shifted : (k m i q : ℕ) → q ≡ k + m → k + (m + i) ≡ q + i
    shifted k m i q f = omega (arith, f)

    behind : (j m i : ℕ) → j + (m + i) ≡ (j + m) + i
    behind j m i = omega arith

pub formula_built : (ns ms : List Name) (k j : ℕ) (e : Tree) → WellSorted ns e → SameFormulas ns ms e → StandFrom ms k j (length (comparisons e)) → formula ms (named k e).part ≡ built ns j e
formula_built ns ms k j (tree.Number text p) w s h = refl
formula_built ns ms k j (tree.Name n p) w s h = s
formula_built ns ms k j (tree.Truth b p) w s h = refl
formula_built ns ms k j (tree.Cast n p) w s h = refl
formula_built ns ms k j (tree.Unary op a p) w s h = ap (signed_by op) (formula_built ns ms k j a w.0 s h)
formula_built ns ms k j (tree.Binary op a b p) w s h = go (is_inequality op) refl (formula_built ns ms k j a w.0.0 s.0) (formula_built ns ms (named k a).next (j + length (comparisons a)) b w.0.1 s.1)
  where
    f : Tree → Tree → Tree
    f a b = tree.Binary op a b p

    whole : (t : Bool) → is_inequality op ≡ t → named k (tree.Binary op a b p) ≡ guarded_if t p (paired f (named k a) (named (named k a).next b))
    whole t e = ap (λ (t : Bool). guarded_if t p (paired f (named k a) (named (named k a).next b))) e

    kept : (t : Bool) → is_inequality op ≡ t → built ns j (tree.Binary op a b p) ≡ cond t (formulas.named j) (joined_by (connective_of op) (built ns j a) (built ns (j + length (comparisons a)) b))
    kept t e = ap (λ (t : Bool). cond t (formulas.named j) (joined_by (connective_of op) (built ns j a) (built ns (j + length (comparisons a)) b))) e

    found : (t : Bool) → is_inequality op ≡ t → comparisons (tree.Binary op a b p) ≡ cond t (tree.Binary op a b p ∷ []) (comparisons a ++ comparisons b)
    found t e = ap (λ (t : Bool). cond t (tree.Binary op a b p ∷ []) (comparisons a ++ comparisons b)) e

    go : (t : Bool) → is_inequality op ≡ t → (StandFrom ms k j (length (comparisons a)) → formula ms (named k a).part ≡ built ns j a) →
        (StandFrom ms (named k a).next (j + length (comparisons a)) (length (comparisons b)) → formula ms (named (named k a).next b).part ≡ built ns (j + length (comparisons a)) b) →
        formula ms (named k (tree.Binary op a b p)).part ≡ built ns j (tree.Binary op a b p)
    go true e x y =
        let r = inequality_operands op (sort ns a) (sort ns b) e w.1 in
        let u : named k (tree.Binary op a b p) ≡ guarded p (unchanged k (f a b)) = whole true e ∙ ap (guarded p) (both_unchanged f k a b (named k a) (named (named k a).next b) (real_plain ns k a w.0.0 r.0).same (real_plain ns (named k a).next b w.0.1 r.1).same) in
        ap (λ (v : Naming Tree). formula ms v.part) u ∙ first_stands ms k j 1 (omega arith) (subst (λ (cs : List Tree). StandFrom ms k j (length cs)) (found true e) h) ∙ sym (kept true e)
    go false e x y =
        let l : length (comparisons (tree.Binary op a b p)) ≡ length (comparisons a) + length (comparisons b) = ap length (found false e) ∙ length-append (comparisons a) (comparisons b) in
        let n : (named k a).next ≡ k + length (comparisons a) = (sorted_numbered ns k a w.0.0).next in
        ap (λ (v : Naming Tree). formula ms v.part) (whole false e)
        ∙ ap₂ (joined_by (connective_of op)) (x (fewer_stand ms k j (length (comparisons a)) (length (comparisons b)) (length (comparisons (tree.Binary op a b p))) l h))
        (y (later_stand ms k j (length (comparisons a)) (length (comparisons b)) (length (comparisons (tree.Binary op a b p))) (named k a).next l n h))
        ∙ sym (kept false e)
