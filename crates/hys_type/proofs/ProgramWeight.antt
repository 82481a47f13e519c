-- A translation weighs what its source weighs.
use Rattle.std.proofs.Common.{◌≡◌, ℕ, ◌+◌, List, [], ◌∷◌, ◌++◌, Option, Some, None, Bool, true, false, cond, refl, sym, ◌∙◌, ap, ap₂, subst, arith}
use Rattle.std.specs.Prelude.{IsTrue}
use Rattle.std.specs.List.{AllByRecursion, sum_by}
use Rattle.std.proofs.Math.Path.{subst₂}
use Rattle.std.proofs.lemmas.List.Sums.{sum_by-cons}
use Rattle.hys_lin.specs.Bits.{is_one}
use Rattle.hys_ast.specs.declared.source.Section.{Section}
use Rattle.hys_ast.specs.declared.source.Section.TheVariants as section
use Rattle.hys_ast.specs.declared.tree.UnaryOp.{UnaryOp}
use Rattle.hys_ast.specs.declared.tree.UnaryOp.TheVariants as unary
use Rattle.hys_ast.specs.declared.tree.BinaryOp.{BinaryOp}
use Rattle.hys_ast.specs.declared.tree.BinaryOp.TheVariants as binary
use Rattle.hys_ast.specs.Tree.{Tree, Shape, Item}
use Rattle.hys_ast.specs.Tree as tree
use Rattle.hys_ast.specs.Nodes.{shape_expressions, if_any}
use Rattle.hys_meaning.specs.Names.{Name, look, is_parameter}
use Rattle.hys_meaning.specs.Forms.{Form, form, Folds}
use Rattle.hys_meaning.specs.Bodies.{body, body_in}
use Rattle.hys_meaning.specs.Bodies as said
use Rattle.hys_meaning.specs.Typed.{IsReal, IsFormula, IsComparison, RightTyped, ItemTyped, left, only_parameters, is_connective, is_negation, is_demand}
use Rattle.hys_meaning.specs.Unfolded.{is_inequality}
use Rattle.hys_meaning.specs.Weight.{connectives, item_weight}
use Rattle.hys_formula.specs.declared.formula.Formula.{Formula}
use Rattle.hys_formula.specs.Formulas.{FormulaTree, constant, named, tree_of}
use Rattle.hys_formula.specs.Formulas.{connectives as formula_connectives}
use Rattle.hys_prog.specs.declared.program.Body.{Body}
use Rattle.hys_prog.specs.declared.program.Body.TheVariants as means
use Rattle.hys_prog.specs.declared.program.ProgItem.{ProgItem}
use Rattle.hys_prog.specs.Programs.{body_connectives, items_weight, is_must}
use Rattle.hys_type.specs.Translation.{Setting, OneByOne, IsBodyOf, IsItemOf, IsFormulaOf, guard, choice, logic, linear, next_bool, next_real, out_bool, out_real, must_hold, must_most, must_zero, kind_of, left_kind, place_in, formula, name_formula, signed_by, joined_by, connective_of}
use Rattle.hys_type.proofs.SameBodies.{the_formula, the_inequality, the_difference, bool_output, real_output}
use Rattle.hys_type.proofs.ProgramBodies.{must_is}

-- ---- expressions
folds_none : (op : BinaryOp) (f g : Form) → Folds op f g → is_connective op ≡ false
folds_none binary.Add f g h = refl
folds_none binary.Sub f g h = refl
folds_none binary.Mul f g h = refl
folds_none binary.Div f g h = refl
folds_none binary.And f g h = absurd h
folds_none binary.Or f g h = absurd h
folds_none binary.Iff f g h = absurd h
folds_none binary.Then f g h = absurd h
folds_none binary.From f g h = absurd h
folds_none binary.Most f g h = refl
folds_none binary.Least f g h = refl
folds_none binary.Equal f g h = refl

node_weight : (op : BinaryOp) (m n : ℕ) → is_connective op ≡ false → m ≡ 0 → n ≡ 0 → cond (is_connective op) 1 0 + (m + n) ≡ 0
node_weight op m n h e f = ap (λ b. cond b 1 0 + (m + n)) h ∙ omega (arith, e, f)

real_weight : (ns : List Name) (e : Tree) → IsReal ns e → connectives e ≡ 0
real_weight ns (tree.Number text p) r = refl
real_weight ns (tree.Name n p) r = refl
real_weight ns (tree.Truth b p) r = refl
real_weight ns (tree.Cast n p) r = refl
real_weight ns (tree.Unary op a p) r = real_weight ns a r.1
real_weight ns (tree.Binary op a b p) r = node_weight op (connectives a) (connectives b) (folds_none op (form ns a) (form ns b) r.2) (real_weight ns a r.0) (real_weight ns b r.1)

inequality_none : (op : BinaryOp) → IsTrue (is_inequality op) → is_connective op ≡ false
inequality_none binary.Add h = refl
inequality_none binary.Sub h = refl
inequality_none binary.Mul h = refl
inequality_none binary.Div h = refl
inequality_none binary.And h = absurd (cc)
inequality_none binary.Or h = absurd (cc)
inequality_none binary.Iff h = absurd (cc)
inequality_none binary.Then h = absurd (cc)
inequality_none binary.From h = absurd (cc)
inequality_none binary.Most h = refl
inequality_none binary.Least h = refl
inequality_none binary.Equal h = refl

guard_weight : (ns : List Name) (e : Tree) → IsComparison is_inequality ns e → connectives e ≡ 0
guard_weight ns (tree.Number text p) r = refl
guard_weight ns (tree.Name n p) r = refl
guard_weight ns (tree.Truth b p) r = refl
guard_weight ns (tree.Cast n p) r = refl
guard_weight ns (tree.Unary op a p) r = absurd r
guard_weight ns (tree.Binary op a b p) r = node_weight op (connectives a) (connectives b) (inequality_none op r.0) (real_weight ns a r.1) (real_weight ns b r.2)

name_weight : (ns : List Name) (n : List ℕ) (o : Option Name) → formula_connectives (name_formula ns n o) ≡ 0
name_weight ns n None = refl
name_weight ns n (Some m) = go (is_parameter m.section)
  where
    go : (b : Bool) → formula_connectives (cond b (constant (is_one m.value)) (named (place_in ns n))) ≡ 0
    go true = refl
    go false = refl

signed_weight : (op : UnaryOp) (f : FormulaTree) → IsTrue (is_negation op) → formula_connectives (signed_by op f) ≡ formula_connectives f
signed_weight unary.Not f h = refl
signed_weight unary.Neg f h = absurd (cc)
signed_weight unary.Plus f h = absurd (cc)

joined_weight : (op : BinaryOp) (f g : FormulaTree) → IsTrue (is_connective op) → formula_connectives (joined_by (connective_of op) f g) ≡ cond (is_connective op) 1 0 + (formula_connectives f + formula_connectives g)
joined_weight binary.Add f g h = absurd (cc)
joined_weight binary.Sub f g h = absurd (cc)
joined_weight binary.Mul f g h = absurd (cc)
joined_weight binary.Div f g h = absurd (cc)
joined_weight binary.And f g h = omega arith
joined_weight binary.Or f g h = omega arith
joined_weight binary.Iff f g h = omega arith
joined_weight binary.Then f g h = omega arith
joined_weight binary.From f g h = omega arith
joined_weight binary.Most f g h = absurd (cc)
joined_weight binary.Least f g h = absurd (cc)
joined_weight binary.Equal f g h = absurd (cc)

formula_weight : (ns : List Name) (e : Tree) → IsFormula ns e → connectives e ≡ formula_connectives (formula ns e)
formula_weight ns (tree.Number text p) r = absurd r
formula_weight ns (tree.Name n p) r = sym (name_weight ns n (look ns n))
formula_weight ns (tree.Truth b p) r = refl
formula_weight ns (tree.Cast n p) r = absurd r
formula_weight ns (tree.Unary op a p) r = formula_weight ns a r.1 ∙ sym (signed_weight op (formula ns a) r.0)
formula_weight ns (tree.Binary op a b p) r =
    ap₂ (λ (m n : ℕ). cond (is_connective op) 1 0 + (m + n)) (formula_weight ns a r.1) (formula_weight ns b r.2) ∙ sym (joined_weight op (formula ns a) (formula ns b) r.0)

tree_weight : (ns : List Name) (e : Tree) (l : Formula) → IsFormula ns e → IsFormulaOf ns e l → connectives e ≡ formula_connectives (tree_of l)
tree_weight ns e l r i = formula_weight ns e r ∙ sym (ap formula_connectives i)

-- ---- bodies
abbrev said_expressions : said.Body → List Tree
said_expressions (said.Guard e (Some t)) = e ∷ t ∷ []
said_expressions (said.Guard e None) = e ∷ []
said_expressions (said.Choice a b c) = (a ∷ b ∷ []) ++ if_any c
said_expressions (said.Logic e) = e ∷ []
said_expressions (said.Linear e) = e ∷ []
said_expressions (said.NextBool e) = e ∷ []
said_expressions (said.NextReal e) = e ∷ []
said_expressions (said.Output e) = e ∷ []
said_expressions (said.Must e) = e ∷ []
said_expressions said.Nothing = []

same_expressions : (ns : List Name) (o : Option Name) (s : Section) (r : Shape) → RightTyped ns o (body_in s r) → shape_expressions r ≡ said_expressions (body_in s r)
same_expressions ns o section.State r t = absurd t
same_expressions ns o section.Input r t = absurd t
same_expressions ns o section.Output r t = absurd t
same_expressions ns o section.Parameter r t = absurd t
same_expressions ns o section.Aux r t = absurd t
same_expressions ns o section.Ad (tree.Plain e) t = refl
same_expressions ns o section.Ad (tree.Wide e y) t = refl
same_expressions ns o section.Ad (tree.Choice e y z) t = absurd t
same_expressions ns o section.Da (tree.Plain e) t = absurd t
same_expressions ns o section.Da (tree.Wide e y) t = absurd t
same_expressions ns o section.Da (tree.Choice e y z) t = refl
same_expressions ns o section.Logic (tree.Plain e) t = refl
same_expressions ns o section.Logic (tree.Wide e y) t = absurd t
same_expressions ns o section.Logic (tree.Choice e y z) t = absurd t
same_expressions ns o section.Linear (tree.Plain e) t = refl
same_expressions ns o section.Linear (tree.Wide e y) t = absurd t
same_expressions ns o section.Linear (tree.Choice e y z) t = absurd t
same_expressions ns o section.Automata (tree.Plain e) t = refl
same_expressions ns o section.Automata (tree.Wide e y) t = absurd t
same_expressions ns o section.Automata (tree.Choice e y z) t = absurd t
same_expressions ns o section.Continuous (tree.Plain e) t = refl
same_expressions ns o section.Continuous (tree.Wide e y) t = absurd t
same_expressions ns o section.Continuous (tree.Choice e y z) t = absurd t
same_expressions ns o section.OutputItem (tree.Plain e) t = refl
same_expressions ns o section.OutputItem (tree.Wide e y) t = absurd t
same_expressions ns o section.OutputItem (tree.Choice e y z) t = absurd t
same_expressions ns o section.Must (tree.Plain e) t = refl
same_expressions ns o section.Must (tree.Wide e y) t = absurd t
same_expressions ns o section.Must (tree.Choice e y z) t = absurd t

sum_one : (f : Tree → ℕ) (a : Tree) → sum_by f (a ∷ []) ≡ f a
sum_one f a = sum_by-cons f a [] ∙ omega arith

sum_two : (f : Tree → ℕ) (a b : Tree) → sum_by f (a ∷ b ∷ []) ≡ f a + f b
sum_two f a b = sum_by-cons f a (b ∷ []) ∙ ap (λ n. f a + n) (sum_one f b)

sum_three : (f : Tree → ℕ) (a b c : Tree) → sum_by f (a ∷ b ∷ c ∷ []) ≡ f a + (f b + f c)
sum_three f a b c = sum_by-cons f a (b ∷ c ∷ []) ∙ ap (λ n. f a + n) (sum_two f b c)

module _ (c : Setting) (o : Option Name) where
  abbrev Weighs : said.Body → Body → Type 0
  Weighs s b = RightTyped c.names o s → sum_by connectives (said_expressions s) ≡ body_connectives b

  weighs_as : (s s' : said.Body) (b b' : Body) → s ≡ s' → b ≡ b' → Weighs s' b' → Weighs s b
  weighs_as s s' b b' i j m = subst₂ Weighs (sym i) (sym j) m

  guard_weighs : (e : Tree) (t : Option Tree) → RightTyped c.names o (said.Guard e t) → sum_by connectives (said_expressions (said.Guard e t)) ≡ 0
  guard_weighs e (Some t) r = sum_two connectives e t ∙ omega (arith, guard_weight c.names e r.0, real_weight (only_parameters c.names) t r.1.0)
  guard_weighs e None r = sum_one connectives e ∙ guard_weight c.names e r.0

  choice_weighs : (e h : Tree) (y : Option Tree) (l : Formula) → RightTyped c.names o (said.Choice e h y) → IsFormulaOf c.names e l → sum_by connectives (said_expressions (said.Choice e h y)) ≡ formula_connectives (tree_of l)
  choice_weighs e h (Some y) l r i = sum_three connectives e h y ∙ omega (arith, tree_weight c.names e l r.0 i, real_weight c.names h r.1, real_weight c.names y r.2)
  choice_weighs e h None l r i = sum_two connectives e h ∙ omega (arith, tree_weight c.names e l r.0 i, real_weight c.names h r.1)

  formula_weighs : (e : Tree) (l : Formula) → IsFormula c.names e → IsFormulaOf c.names e l → sum_by connectives (e ∷ []) ≡ formula_connectives (tree_of l)
  formula_weighs e l r i = sum_one connectives e ∙ tree_weight c.names e l r i

  real_weighs : (e : Tree) → IsReal c.names e → sum_by connectives (e ∷ []) ≡ 0
  real_weighs e r = sum_one connectives e ∙ real_weight c.names e r

  pub body_weighs : (s : said.Body) (b : Body) → IsBodyOf c (kind_of o) s b → Weighs s b
  body_weighs s b (guard {e = y} {t = t} {f = f} {eps = eps} i j q z) = weighs_as s (said.Guard y t) b (means.Guard f eps) i j (guard_weighs y t)
  body_weighs s b (choice {e = y} {h = t} {o = x} {l = l} {f = f} {g = g} i j q z w) = weighs_as s (said.Choice y t x) b (means.Choice l f g) i j (λ r. choice_weighs y t x l r q)
  body_weighs s b (logic {e = y} {l = l} i j z) = weighs_as s (said.Logic y) b (means.Logic l) i j (λ r. formula_weighs y l r z)
  body_weighs s b (linear {e = y} {f = f} i j z) = weighs_as s (said.Linear y) b (means.Linear f) i j (λ r. real_weighs y r)
  body_weighs s b (next_bool {e = y} {l = l} i j z) = weighs_as s (said.NextBool y) b (means.NextBool l) i j (λ r. formula_weighs y l r z)
  body_weighs s b (next_real {e = y} {f = f} i j z) = weighs_as s (said.NextReal y) b (means.NextReal f) i j (λ r. real_weighs y r)
  body_weighs s b (out_bool {e = y} {l = l} k i j z) = weighs_as s (said.Output y) b (means.OutBool l) i j (λ r. formula_weighs y l (bool_output c.names o c.values y k r).0 z)
  body_weighs s b (out_real {e = y} {f = f} k i j z) = weighs_as s (said.Output y) b (means.OutReal f) i j (λ r. real_weighs y (real_output c.names o c.values y k r).0)
  body_weighs s b (must_hold {e = y} {l = l} k i j z) = weighs_as s (said.Must y) b (means.MustHold l) i j (λ r. formula_weighs y l (the_formula c.names y k r) z)
  body_weighs s b (must_most {e = y} {f = f} k i j z) = weighs_as s (said.Must y) b (means.MustMost f) i j (λ r. sum_one connectives y ∙ guard_weight c.names y (the_inequality c.names y k r))
  body_weighs s b (must_zero {x = y} {y = w} {p = p} {f = f} i j z) = weighs_as s (said.Must (tree.Binary binary.Equal y w p)) b (means.MustZero f) i j (λ r.
      let d = the_difference c.names y w p r in
      sum_one connectives (tree.Binary binary.Equal y w p) ∙ node_weight binary.Equal (connectives y) (connectives w) refl (real_weight c.names y d.0) (real_weight c.names w d.1))

-- ---- items
pub left_kind_is : (ns : List Name) (n : Option (List ℕ)) → left_kind ns n ≡ kind_of (left ns n)
left_kind_is ns (Some n) = refl
left_kind_is ns None = refl

one_item : (c : Setting) (i : Item) (t : ProgItem) → IsItemOf c i t → ItemTyped c.names i → item_weight i ≡ body_connectives t.body + cond (is_must t.body) 1 0
one_item c i t h r =
    let m : is_must t.body ≡ is_demand i.section = must_is c (left_kind c.names i.name) (left c.names i.name) i.section i.shape t.body r.1 h.body in
    let w : sum_by connectives (shape_expressions i.shape) ≡ body_connectives t.body =
    ap (sum_by connectives) (same_expressions c.names (left c.names i.name) i.section i.shape r.1) ∙ body_weighs c (left c.names i.name) (body i) t.body (subst (λ k. IsBodyOf c k (body i) t.body) (left_kind_is c.names i.name) h.body) r.1 in
    ap₂ (λ (b : Bool) (n : ℕ). cond b 1 0 + n) (sym m) w ∙ omega arith

pub items_weigh : (c : Setting) (xs : List Item) (ts : List ProgItem) → OneByOne (IsItemOf c) xs ts → AllByRecursion (ItemTyped c.names) xs → sum_by item_weight xs ≡ items_weight ts
items_weigh c [] [] h r = refl
items_weigh c [] (t ∷ ts) h r = absurd h
items_weigh c (i ∷ xs) [] h r = absurd h
items_weigh c (i ∷ xs) (t ∷ ts) h r = sum_by-cons item_weight i xs ∙ ap₂ (λ (m n : ℕ). m + n) (one_item c i t h.0 r.0) (items_weigh c xs ts h.1 r.1)
