-- Expressions whose names are all declared mean the same over more names.
use Rattle.std.proofs.Common.{◌≡◌, ℕ, List, [], ◌∷◌, ◌++◌, Option, Some, None, Bool, true, false, cond, refl, sym, ◌∙◌, ap, ap₂}
use Rattle.std.specs.Prelude.{IsTrue}
use Rattle.hys_ast.specs.declared.place.Place.{Place}
use Rattle.hys_ast.specs.declared.tree.BinaryOp.TheVariants as binary
use Rattle.hys_ast.specs.Tree.{Tree}
use Rattle.hys_ast.specs.Tree as tree
use Rattle.hys_meaning.specs.Values.{signed}
use Rattle.hys_meaning.specs.Names.{Name, look, is_parameter}
use Rattle.hys_meaning.specs.Forms.{Form, form, combined, looked_up, guard_form, guard_between}
use Rattle.hys_formula.specs.Formulas.{FormulaTree, constant, named}
use Rattle.hys_lin.specs.Bits.{is_one}
use Rattle.hys_type.specs.Nodes.{is_declared, may_stand, may_be_cast, name_checks, sort, operator_checks, node_checks}
use Rattle.hys_type.specs.Sorts.{takes_unary}
use Rattle.hys_type.specs.Faults.{Check, check, first_fault}
use Rattle.hys_type.specs.Translation.{difference_form, name_formula, place_in}
use Rattle.hys_type.specs.declared.fault.TypeFault.TheVariants as fault
use Rattle.hys_type.proofs.Wholes.{front_passes, back_passes, passed}
use Rattle.hys_type.proofs.Fronts.{look_front, place_front}
use Rattle.hys_type.proofs.NamedFormulas.{SameFormulas}

-- each name of the expression is declared
abbrev pub Finds : List Name → Tree → Type 0
Finds ns (tree.Number text p) = Unit {0}
Finds ns (tree.Name n p) = IsTrue (is_declared (look ns n))
Finds ns (tree.Truth b p) = Unit {0}
Finds ns (tree.Cast n p) = IsTrue (is_declared (look ns n))
Finds ns (tree.Unary op a p) = Finds ns a
Finds ns (tree.Binary op a b p) = Finds ns a × Finds ns b

name_found : (ns : List Name) (may : Option Name → Bool) (n : List ℕ) (p : Place) → None ≡ first_fault (name_checks may (look ns n) p) → IsTrue (is_declared (look ns n))
name_found ns may n p h = passed (check (is_declared (look ns n)) (fault.Unknown p)) (check (may (look ns n)) (fault.Kind p) ∷ []) h

pub finds : (ns : List Name) (e : Tree) → None ≡ first_fault (node_checks ns e) → Finds ns e
finds ns (tree.Number text p) h = tt
finds ns (tree.Name n p) h = name_found ns may_stand n p h
finds ns (tree.Truth b p) h = tt
finds ns (tree.Cast n p) h = name_found ns may_be_cast n p h
finds ns (tree.Unary op a p) h = finds ns a (front_passes (node_checks ns a) (check (takes_unary op (sort ns a)) (fault.Kind p) ∷ []) h)
finds ns (tree.Binary op a b p) h =
    let cs : List Check = operator_checks ns op (sort ns a) (sort ns b) (form ns a) (form ns b) p in
    (finds ns a (front_passes (node_checks ns a) (node_checks ns b ++ cs) h), finds ns b (front_passes (node_checks ns b) cs (back_passes (node_checks ns a) (node_checks ns b ++ cs) h)))

-- ---- names
pub found_front : (ns ms : List Name) (n : List ℕ) → IsTrue (is_declared (look ns n)) → look (ns ++ ms) n ≡ look ns n
found_front ns ms n h = go (look ns n) refl h
  where
    go : (o : Option Name) → look ns n ≡ o → is_declared o ≡ true → look (ns ++ ms) n ≡ o
    go None e h = absurd (cc)
    go (Some m) e h = look_front ns ms n m e

pub same_place : (ns ms : List Name) (n : List ℕ) → IsTrue (is_declared (look ns n)) → place_in (ns ++ ms) n ≡ place_in ns n
same_place ns ms n h = go (look ns n) refl h
  where
    go : (o : Option Name) → look ns n ≡ o → is_declared o ≡ true → place_in (ns ++ ms) n ≡ place_in ns n
    go None e h = absurd (cc)
    go (Some m) e h = place_front ns ms n m e

at_place : (n : List ℕ) (j : ℕ) (o : Option Name) → FormulaTree
at_place n j (Some m) = cond (is_parameter m.section) (constant (is_one m.value)) (named j)
at_place n j None = constant false

placed : (ns : List Name) (n : List ℕ) (o : Option Name) → name_formula ns n o ≡ at_place n (place_in ns n) o
unfolding at_place
placed ns n (Some m) = refl
placed ns n None = refl

same_formula : (ns ms : List Name) (n : List ℕ) → IsTrue (is_declared (look ns n)) → name_formula (ns ++ ms) n (look (ns ++ ms) n) ≡ name_formula ns n (look ns n)
same_formula ns ms n h =
    placed (ns ++ ms) n (look (ns ++ ms) n) ∙ ap₂ (at_place n) (same_place ns ms n h) (found_front ns ms n h) ∙ sym (placed ns n (look ns n))

-- ---- expressions
pub same_formulas : (ns ms : List Name) (e : Tree) → Finds ns e → SameFormulas ns (ns ++ ms) e
same_formulas ns ms (tree.Number text p) h = tt
same_formulas ns ms (tree.Name n p) h = same_formula ns ms n h
same_formulas ns ms (tree.Truth b p) h = tt
same_formulas ns ms (tree.Cast n p) h = tt
same_formulas ns ms (tree.Unary op a p) h = same_formulas ns ms a h
same_formulas ns ms (tree.Binary op a b p) h = (same_formulas ns ms a h.0, same_formulas ns ms b h.1)

pub wider_form : (ns ms : List Name) (e : Tree) → Finds ns e → form (ns ++ ms) e ≡ form ns e
wider_form ns ms (tree.Number text p) h = refl
wider_form ns ms (tree.Name n p) h = ap (looked_up n) (found_front ns ms n h)
wider_form ns ms (tree.Truth b p) h = refl
wider_form ns ms (tree.Cast n p) h = ap (looked_up n) (found_front ns ms n h)
wider_form ns ms (tree.Unary op a p) h = ap (λ (f : Form). record { factor = λ n. signed op (f.factor n); constant = signed op f.constant }) (wider_form ns ms a h)
wider_form ns ms (tree.Binary op a b p) h = ap₂ (combined op) (wider_form ns ms a h.0) (wider_form ns ms b h.1)

pub wider_guard : (ns ms : List Name) (e : Tree) → Finds ns e → guard_form (ns ++ ms) e ≡ guard_form ns e
wider_guard ns ms (tree.Number text p) h = refl
wider_guard ns ms (tree.Name n p) h = refl
wider_guard ns ms (tree.Truth b p) h = refl
wider_guard ns ms (tree.Cast n p) h = refl
wider_guard ns ms (tree.Unary op a p) h = refl
wider_guard ns ms (tree.Binary op a b p) h = ap₂ (guard_between op) (wider_form ns ms a h.0) (wider_form ns ms b h.1)

pub wider_difference : (ns ms : List Name) (a b : Tree) → Finds ns a → Finds ns b → difference_form (ns ++ ms) a b ≡ difference_form ns a b
wider_difference ns ms a b h k = ap₂ (combined binary.Sub) (wider_form ns ms a h) (wider_form ns ms b k)
