-- What is built of the expressions of items: terms, formulas, and the guards that get a name.
use Rattle.std.specs.Prelude.{◌≡◌, ℕ, suc, ◌+◌, List, [], ◌∷◌, ◌++◌, Option, Some, None, true, false, cond, length}
use Rattle.hys_number.specs.Number.{Number}
use Rattle.hys_lin.specs.declared.form.Affine.{Affine}
use Rattle.hys_lin.specs.declared.form.Term.{Term}
use Rattle.hys_lin.specs.Scaled.{kept}
use Rattle.hys_ast.specs.declared.place.Place.{Place}
use Rattle.hys_ast.specs.declared.source.Kind.{Kind}
use Rattle.hys_ast.specs.declared.source.Kind.TheVariants as kind
use Rattle.hys_ast.specs.declared.tree.BinaryOp.TheVariants as binary
use Rattle.hys_ast.specs.Tree.{Tree}
use Rattle.hys_ast.specs.Tree as tree
use Rattle.hys_meaning.specs.Names.{Name, look}
use Rattle.hys_meaning.specs.Forms.{form, guard_form}
use Rattle.hys_meaning.specs.Bodies as said
use Rattle.hys_meaning.specs.Steps.{tolerance_of}
use Rattle.hys_meaning.specs.Typed.{is_comparison}
use Rattle.hys_meaning.specs.Unfolded.{is_inequality}
use Rattle.hys_formula.specs.declared.formula.Formula.{Formula}
use Rattle.hys_formula.specs.Formulas.{FormulaTree, constant, named, tree_of}
use Rattle.hys_prog.specs.declared.program.Body.{Body}
use Rattle.hys_prog.specs.declared.program.Body.TheVariants as means
use Rattle.hys_type.specs.Constants.{known_values}
use Rattle.hys_type.specs.Checks.{has_top}
use Rattle.hys_type.specs.Declarations.{place_of}
use Rattle.hys_type.specs.Translation.{Setting, IsFormOf, OneByOne, else_form, difference_form, name_formula, signed_by, joined_by, connective_of}
use Rattle.hys_type.specs.declared.constant.Known.{Known}
use Rattle.hys_type.specs.declared.dense.Dense.{Dense}
use Rattle.hys_type.specs.declared.built.Guard.{Guard}

-- ---- forms
-- the factors that aren't 0, from a column on
abbrev pub sparse_from : ℕ → List Number → List Term
sparse_from k [] = []
sparse_from k (x ∷ xs) = kept k x ++ sparse_from (suc k) xs

abbrev pub sparse : Dense → Affine
sparse d = record { terms = sparse_from 0 d.factors; constant = d.constant }

-- ---- guards
-- the unnamed guards of a formula in the order of their names
abbrev pub comparisons : Tree → List Tree
comparisons (tree.Number text p) = []
comparisons (tree.Name n p) = []
comparisons (tree.Truth b p) = []
comparisons (tree.Cast n p) = []
comparisons (tree.Unary op a p) = comparisons a
comparisons (tree.Binary op a b p) =
    cond (is_inequality op) (tree.Binary op a b p ∷ []) (comparisons a ++ comparisons b)

-- the formula of a name alone
abbrev pub own_formula : List Name → List ℕ → FormulaTree
own_formula ns n = name_formula ns n (look ns n)

-- the formula of an expression whose first unnamed guard is the name at a place
abbrev pub built : List Name → ℕ → Tree → FormulaTree
built ns k (tree.Number text p) = constant false
built ns k (tree.Name n p) = name_formula ns n (look ns n)
built ns k (tree.Truth b p) = constant b
built ns k (tree.Cast n p) = constant false
built ns k (tree.Unary op a p) = signed_by op (built ns k a)
built ns k (tree.Binary op a b p) =
    cond (is_inequality op) (named k)
    (joined_by (connective_of op) (built ns k a) (built ns (k + length (comparisons a)) b))

abbrev pub IsGuardOf : List Name → Tree → Guard → Type 0
IsGuardOf ns e g = (g.place ≡ place_of e) × IsFormOf ns (guard_form ns e) g.number

-- the guards of some comparisons follow those before
pub record AreFollowed (ns : List Name) (before : List Guard) (es : List Tree) (after : List Guard) : Type 0 where
  pub more : List Guard
  pub same : after ≡ before ++ more
  pub guards : OneByOne (IsGuardOf ns) es more

-- ---- bodies
-- the unnamed guards of a MUST item: the comparison at its top is none
abbrev pub demand_comparisons : Tree → List Tree
demand_comparisons e = cond (has_top is_comparison e) [] (comparisons e)

abbrev pub output_comparisons : Option Kind → Tree → List Tree
output_comparisons (Some kind.Bool) e = comparisons e
output_comparisons (Some kind.Real) e = []
output_comparisons None e = []

-- the unnamed guards of what an item says, whose left name has the kind
abbrev pub body_comparisons : Option Kind → said.Body → List Tree
body_comparisons k (said.Guard e t) = []
body_comparisons k (said.Choice e h o) = comparisons e
body_comparisons k (said.Logic e) = comparisons e
body_comparisons k (said.Linear e) = []
body_comparisons k (said.NextBool e) = comparisons e
body_comparisons k (said.NextReal e) = []
body_comparisons k (said.Output e) = output_comparisons k e
body_comparisons k (said.Must e) = demand_comparisons e
body_comparisons k said.Nothing = []

abbrev pub setting_of : List Name → List Known → Number → Setting
setting_of ns ks tolerance = record { names = ns; values = known_values ks; tolerance = tolerance }

-- the body that is built of what an item says, where the first unnamed guard is the name at a place
pub data IsBuilt (c : Setting) (j : ℕ) (k : Option Kind) (s : said.Body) (b : Body) : Type 0 where
  guard : {e : Tree} {t : Option Tree} {f : Affine} {eps : Number} → s ≡ said.Guard e t → b ≡ means.Guard f eps →
      IsFormOf c.names (guard_form c.names e) f → eps ≡ tolerance_of c.tolerance c.values t → IsBuilt c j k s b
  choice : {e h : Tree} {o : Option Tree} {l : Formula} {f g : Affine} →
      s ≡ said.Choice e h o → b ≡ means.Choice l f g →
      tree_of l ≡ built c.names j e → IsFormOf c.names (form c.names h) f → IsFormOf c.names (else_form c.names o) g →
      IsBuilt c j k s b
  logic : {e : Tree} {l : Formula} → s ≡ said.Logic e → b ≡ means.Logic l → tree_of l ≡ built c.names j e →
      IsBuilt c j k s b
  linear : {e : Tree} {f : Affine} → s ≡ said.Linear e → b ≡ means.Linear f → IsFormOf c.names (form c.names e) f →
      IsBuilt c j k s b
  next_bool : {e : Tree} {l : Formula} → s ≡ said.NextBool e → b ≡ means.NextBool l → tree_of l ≡ built c.names j e →
      IsBuilt c j k s b
  next_real : {e : Tree} {f : Affine} → s ≡ said.NextReal e → b ≡ means.NextReal f →
      IsFormOf c.names (form c.names e) f → IsBuilt c j k s b
  out_bool : {e : Tree} {l : Formula} → k ≡ Some kind.Bool → s ≡ said.Output e → b ≡ means.OutBool l →
      tree_of l ≡ built c.names j e → IsBuilt c j k s b
  out_real : {e : Tree} {f : Affine} → k ≡ Some kind.Real → s ≡ said.Output e → b ≡ means.OutReal f →
      IsFormOf c.names (form c.names e) f → IsBuilt c j k s b
  must_hold : {e : Tree} {l : Formula} → has_top is_comparison e ≡ false → s ≡ said.Must e → b ≡ means.MustHold l →
      tree_of l ≡ built c.names j e → IsBuilt c j k s b
  must_most : {e : Tree} {f : Affine} → has_top is_inequality e ≡ true → s ≡ said.Must e → b ≡ means.MustMost f →
      IsFormOf c.names (guard_form c.names e) f → IsBuilt c j k s b
  must_zero : {x y : Tree} {p : Place} {f : Affine} → s ≡ said.Must (tree.Binary binary.Equal x y p) →
      b ≡ means.MustZero f → IsFormOf c.names (difference_form c.names x y) f → IsBuilt c j k s b
