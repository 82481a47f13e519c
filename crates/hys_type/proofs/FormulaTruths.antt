-- The truth of a formula by places is that of the expression that it stands for.
use Rattle.std.proofs.Common.{◌≡◌, ℕ, List, Option, Some, None, Bool, true, false, not, cond, refl, sym, ◌∙◌, ap, ap₂}
use Rattle.std.specs.Prelude.{IsTrue}
use Rattle.hys_lin.specs.Bits.{is_one}
use Rattle.hys_lin.specs.Sums.{Assignment as PlaceAssignment}
use Rattle.hys_ast.specs.declared.tree.UnaryOp.{UnaryOp}
use Rattle.hys_ast.specs.declared.tree.UnaryOp.TheVariants as unary
use Rattle.hys_ast.specs.declared.tree.BinaryOp.{BinaryOp}
use Rattle.hys_ast.specs.declared.tree.BinaryOp.TheVariants as binary
use Rattle.hys_ast.specs.Tree.{Tree}
use Rattle.hys_ast.specs.Tree as tree
use Rattle.hys_meaning.specs.Values.{Assignment, truth, flipped, joined}
use Rattle.hys_meaning.specs.Names.{Name, look, is_parameter}
use Rattle.hys_meaning.specs.Typed.{IsFormula, may_stand, is_bool, is_negation, is_connective}
use Rattle.hys_formula.specs.declared.formula.Formula.{Formula}
use Rattle.hys_formula.specs.Formulas.{FormulaTree, constant, named, tree_of, same}
use Rattle.hys_formula.specs.Formulas.{truth as formula_truth}
use Rattle.hys_type.specs.Translation.{place_in, formula, name_formula, signed_by, joined_by, connective_of, IsFormulaOf}
use Rattle.hys_type.proofs.Agree.{Agree, at_place}
use Rattle.hys_type.proofs.FormSums.{HasParameters, parameter_value}

name_truth : (ns : List Name) (w : Assignment) (v : PlaceAssignment) → Agree 0 ns w v → HasParameters w ns → (n : List ℕ) (o : Option Name) → look ns n ≡ o → IsTrue (may_stand is_bool o) → formula_truth (name_formula ns n o) v ≡ is_one (w n)
name_truth ns w v a g n None h t = absurd (cc)
name_truth ns w v a g n (Some m) h t = go (is_parameter m.section) refl
  where
    go : (b : Bool) → is_parameter m.section ≡ b → formula_truth (cond b (constant (is_one m.value)) (named (place_in ns n))) v ≡ is_one (w n)
    go true e = ap is_one (sym (parameter_value ns w n m g h e))
    go false e = ap is_one (at_place ns w v n m a h)

signed_truth : (op : UnaryOp) (f : FormulaTree) (v : PlaceAssignment) → IsTrue (is_negation op) → formula_truth (signed_by op f) v ≡ flipped op (formula_truth f v)
signed_truth unary.Not f v h = refl
signed_truth unary.Neg f v h = absurd (cc)
signed_truth unary.Plus f v h = absurd (cc)

joined_truth : (op : BinaryOp) (f g : FormulaTree) (v : PlaceAssignment) → IsTrue (is_connective op) → formula_truth (joined_by (connective_of op) f g) v ≡ joined op (formula_truth f v) (formula_truth g v)
joined_truth binary.Add f g v h = absurd (cc)
joined_truth binary.Sub f g v h = absurd (cc)
joined_truth binary.Mul f g v h = absurd (cc)
joined_truth binary.Div f g v h = absurd (cc)
joined_truth binary.And f g v h = refl
joined_truth binary.Or f g v h = refl
joined_truth binary.Iff f g v h = both (formula_truth f v) (formula_truth g v)
  where
    both : (a b : Bool) → same a b ≡ cond a b (not b)
    both true b = refl
    both false b = refl
joined_truth binary.Then f g v h = refl
joined_truth binary.From f g v h = refl
joined_truth binary.Most f g v h = absurd (cc)
joined_truth binary.Least f g v h = absurd (cc)
joined_truth binary.Equal f g v h = absurd (cc)

pub formula_holds : (ns : List Name) (w : Assignment) (v : PlaceAssignment) → Agree 0 ns w v → HasParameters w ns → (e : Tree) → IsFormula ns e → formula_truth (formula ns e) v ≡ truth w e
formula_holds ns w v a g (tree.Number text p) h = absurd h
formula_holds ns w v a g (tree.Name n p) h = name_truth ns w v a g n (look ns n) refl h
formula_holds ns w v a g (tree.Truth b p) h = refl
formula_holds ns w v a g (tree.Cast n p) h = absurd h
formula_holds ns w v a g (tree.Unary op x p) h = signed_truth op (formula ns x) v h.0 ∙ ap (flipped op) (formula_holds ns w v a g x h.1)
formula_holds ns w v a g (tree.Binary op x y p) h =
    joined_truth op (formula ns x) (formula ns y) v h.0 ∙ ap₂ (joined op) (formula_holds ns w v a g x h.1) (formula_holds ns w v a g y h.2)

pub truth_places : (ns : List Name) (w : Assignment) (v : PlaceAssignment) → Agree 0 ns w v → HasParameters w ns → (e : Tree) (l : Formula) → IsFormula ns e → IsFormulaOf ns e l → formula_truth (tree_of l) v ≡ truth w e
truth_places ns w v a g e l h f = ap (λ t. formula_truth t v) f ∙ formula_holds ns w v a g e h
