-- The program that a source is translated to: its names in their order, and for each item one with the same meaning,
-- in which real expressions are affine forms and Boolean parameters are constants.
use Rattle.std.specs.Prelude.{◌≡◌, ℕ, suc, List, [], ◌∷◌, Option, Some, None, true, false, cond, IsTrue, length}
use Rattle.std.specs.Str.{bytes_eq}
use Rattle.hys_number.specs.Number.{Number}
use Rattle.hys_number.specs.Ops.{whole}
use Rattle.hys_lin.specs.declared.form.Affine.{Affine}
use Rattle.hys_lin.specs.declared.form.Term.{Term}
use Rattle.hys_lin.specs.Scaled.{coefficient}
use Rattle.hys_lin.specs.Over.{AreTermsOver}
use Rattle.hys_lin.specs.Bits.{is_one}
use Rattle.hys_ast.specs.declared.place.Place.{Place}
use Rattle.hys_ast.specs.declared.source.Section.{Section}
use Rattle.hys_ast.specs.declared.source.Section.TheVariants as section
use Rattle.hys_ast.specs.declared.source.Kind.{Kind}
use Rattle.hys_ast.specs.declared.source.Kind.TheVariants as kind
use Rattle.hys_ast.specs.declared.tree.BinaryOp.{BinaryOp}
use Rattle.hys_ast.specs.declared.tree.BinaryOp.TheVariants as binary
use Rattle.hys_ast.specs.declared.tree.UnaryOp.{UnaryOp}
use Rattle.hys_ast.specs.declared.tree.UnaryOp.TheVariants as unary
use Rattle.hys_ast.specs.Tree.{Tree, Decl, Item, Source}
use Rattle.hys_ast.specs.Tree as tree
use Rattle.hys_meaning.specs.Values.{Assignment}
use Rattle.hys_meaning.specs.Names.{Name, names, name_of, parameters, look, is_parameter}
use Rattle.hys_meaning.specs.Forms.{Form, form, guard_form, number_form, combined}
use Rattle.hys_meaning.specs.Bodies.{body}
use Rattle.hys_meaning.specs.Bodies as said
use Rattle.hys_meaning.specs.Typed.{is_comparison}
use Rattle.hys_meaning.specs.Steps.{tolerance_of, is_given}
use Rattle.hys_meaning.specs.Unfolded.{unfolded, is_inequality}
use Rattle.hys_meaning.specs.Weight.{named_weight}
use Rattle.hys_formula.specs.declared.formula.Formula.{Formula}
use Rattle.hys_formula.specs.declared.formula.Connective.{Connective}
use Rattle.hys_formula.specs.declared.formula.Connective.TheVariants as connective
use Rattle.hys_formula.specs.Formulas.{FormulaTree, constant, named, negated, joined, tree_of}
use Rattle.hys_prog.specs.declared.program.Role.{Role}
use Rattle.hys_prog.specs.declared.program.Role.TheVariants as role
use Rattle.hys_prog.specs.declared.program.Body.{Body}
use Rattle.hys_prog.specs.declared.program.Body.TheVariants as means
use Rattle.hys_prog.specs.declared.program.Name.{Name as ProgName}
use Rattle.hys_prog.specs.declared.program.ProgItem.{ProgItem}
use Rattle.hys_prog.specs.declared.program.Program.{Program}
use Rattle.hys_type.specs.Checks.{has_top}
use Rattle.hys_type.specs.Declarations.{usual_box}

-- ---- names
-- the place of the first declared name with the text; their number where none has it
abbrev pub place_in : List Name → List ℕ → ℕ
place_in [] n = 0
place_in (m ∷ ms) n = cond (bytes_eq m.text n) 0 (suc (place_in ms n))

abbrev pub place_if : List Name → Option (List ℕ) → Option ℕ
place_if ns (Some n) = Some (place_in ns n)
place_if ns None = None

-- the role of a name that is declared in the section; no name is declared in a section of items
abbrev pub role_in : Section → Role
role_in section.State = role.State
role_in section.Input = role.Input
role_in section.Output = role.Output
role_in section.Parameter = role.Parameter
role_in section.Aux = role.Aux
role_in section.Ad = role.Aux
role_in section.Da = role.Aux
role_in section.Logic = role.Aux
role_in section.Linear = role.Aux
role_in section.Automata = role.Aux
role_in section.Continuous = role.Aux
role_in section.OutputItem = role.Aux
role_in section.Must = role.Aux

-- The name of a declaration, by the values of the parameters. A name that is neither state nor input has the usual box
-- of its kind, and one that is no parameter has the value 0.
pub record IsNameOf (w : Assignment) (d : Decl) (k : ProgName) : Type 0 where
  pub text : k.text ≡ d.name
  pub role : k.role ≡ role_in d.section
  pub kind : k.kind ≡ d.kind
  pub place : k.place ≡ d.place
  pub low : IsTrue (is_given d.section) → k.bounds.low ≡ (name_of w d).low
  pub high : IsTrue (is_given d.section) → k.bounds.high ≡ (name_of w d).high
  pub usual : is_given d.section ≡ false → k.bounds ≡ usual_box d.kind
  pub value : IsTrue (is_parameter d.section) → k.value ≡ w d.name
  pub no_value : is_parameter d.section ≡ false → k.value ≡ whole 0

-- one by one, in order
abbrev pub OneByOne : {A B : Type 0} → (A → B → Type 0) → List A → List B → Type 0
OneByOne P [] [] = Unit {0}
OneByOne P [] (b ∷ bs) = ⊥
OneByOne P (a ∷ xs) [] = ⊥
OneByOne P (a ∷ xs) (b ∷ bs) = P a b × OneByOne P xs bs

-- ---- forms
-- at the place of each name, from k on, the terms have the factor that the form has for the name
abbrev pub HaveFactors : ℕ → List Name → Form → List Term → Type 0
HaveFactors k [] g ts = Unit {0}
HaveFactors k (n ∷ ns) g ts = (coefficient ts k ≡ g.factor n.text) × HaveFactors (suc k) ns g ts

pub record IsFormOf (ns : List Name) (g : Form) (f : Affine) : Type 0 where
  pub terms : AreTermsOver (length ns) f.terms
  pub factors : HaveFactors 0 ns g f.terms
  pub constant : f.constant ≡ g.constant

-- the form of a choice without ELSE is 0
abbrev pub else_form : List Name → Option Tree → Form
else_form ns (Some e) = form ns e
else_form ns None = number_form (whole 0)

-- the form of a difference that a comparison by `==` demands to be 0
abbrev pub difference_form : List Name → Tree → Tree → Form
difference_form ns a b = combined binary.Sub (form ns a) (form ns b)

-- ---- formulas
-- the connective of an operator; the operators of numbers have none
abbrev pub connective_of : BinaryOp → Option Connective
connective_of binary.Add = None
connective_of binary.Sub = None
connective_of binary.Mul = None
connective_of binary.Div = None
connective_of binary.And = Some connective.And
connective_of binary.Or = Some connective.Or
connective_of binary.Iff = Some connective.Iff
connective_of binary.Then = Some connective.Then
connective_of binary.From = Some connective.From
connective_of binary.Most = None
connective_of binary.Least = None
connective_of binary.Equal = None

abbrev pub joined_by : Option Connective → FormulaTree → FormulaTree → FormulaTree
joined_by (Some c) f g = joined c f g
joined_by None f g = constant false

abbrev pub signed_by : UnaryOp → FormulaTree → FormulaTree
signed_by unary.Not f = negated f
signed_by unary.Neg f = constant false
signed_by unary.Plus f = constant false

-- a parameter is a constant, and any other name stands at its place
abbrev pub name_formula : List Name → List ℕ → Option Name → FormulaTree
name_formula ns n (Some m) = cond (is_parameter m.section) (constant (is_one m.value)) (named (place_in ns n))
name_formula ns n None = constant false

-- the formula of an expression of Boolean kind in which each guard has a name
abbrev pub formula : List Name → Tree → FormulaTree
formula ns (tree.Number text p) = constant false
formula ns (tree.Name n p) = name_formula ns n (look ns n)
formula ns (tree.Truth b p) = constant b
formula ns (tree.Cast n p) = constant false
formula ns (tree.Unary op a p) = signed_by op (formula ns a)
formula ns (tree.Binary op a b p) = joined_by (connective_of op) (formula ns a) (formula ns b)

abbrev pub IsFormulaOf : List Name → Tree → Formula → Type 0
IsFormulaOf ns e l = tree_of l ≡ formula ns e

-- ---- bodies
abbrev pub kind_of : Option Name → Option Kind
kind_of (Some n) = Some n.kind
kind_of None = None

-- the kind of the left name
abbrev pub left_kind : List Name → Option (List ℕ) → Option Kind
left_kind ns (Some n) = kind_of (look ns n)
left_kind ns None = None

-- What an item of a source says, and the body that means it: `names` are those of the source, `values` the values of
-- its parameters, and `tolerance` is that of each guard without one of its own.
pub record Setting : Type 0 where
  pub names : List Name
  pub values : Assignment
  pub tolerance : Number

pub data IsBodyOf (c : Setting) (k : Option Kind) (s : said.Body) (b : Body) : Type 0 where
  guard : {e : Tree} {t : Option Tree} {f : Affine} {eps : Number} → s ≡ said.Guard e t → b ≡ means.Guard f eps →
      IsFormOf c.names (guard_form c.names e) f → eps ≡ tolerance_of c.tolerance c.values t → IsBodyOf c k s b
  choice : {e h : Tree} {o : Option Tree} {l : Formula} {f g : Affine} →
      s ≡ said.Choice e h o → b ≡ means.Choice l f g →
      IsFormulaOf c.names e l → IsFormOf c.names (form c.names h) f → IsFormOf c.names (else_form c.names o) g →
      IsBodyOf c k s b
  logic : {e : Tree} {l : Formula} → s ≡ said.Logic e → b ≡ means.Logic l → IsFormulaOf c.names e l → IsBodyOf c k s b
  linear : {e : Tree} {f : Affine} → s ≡ said.Linear e → b ≡ means.Linear f → IsFormOf c.names (form c.names e) f →
      IsBodyOf c k s b
  next_bool : {e : Tree} {l : Formula} → s ≡ said.NextBool e → b ≡ means.NextBool l → IsFormulaOf c.names e l →
      IsBodyOf c k s b
  next_real : {e : Tree} {f : Affine} → s ≡ said.NextReal e → b ≡ means.NextReal f →
      IsFormOf c.names (form c.names e) f → IsBodyOf c k s b
  out_bool : {e : Tree} {l : Formula} → k ≡ Some kind.Bool → s ≡ said.Output e → b ≡ means.OutBool l →
      IsFormulaOf c.names e l → IsBodyOf c k s b
  out_real : {e : Tree} {f : Affine} → k ≡ Some kind.Real → s ≡ said.Output e → b ≡ means.OutReal f →
      IsFormOf c.names (form c.names e) f → IsBodyOf c k s b
  must_hold : {e : Tree} {l : Formula} → has_top is_comparison e ≡ false → s ≡ said.Must e → b ≡ means.MustHold l →
      IsFormulaOf c.names e l → IsBodyOf c k s b
  must_most : {e : Tree} {f : Affine} → has_top is_inequality e ≡ true → s ≡ said.Must e → b ≡ means.MustMost f →
      IsFormOf c.names (guard_form c.names e) f → IsBodyOf c k s b
  must_zero : {x y : Tree} {p : Place} {f : Affine} → s ≡ said.Must (tree.Binary binary.Equal x y p) →
      b ≡ means.MustZero f → IsFormOf c.names (difference_form c.names x y) f → IsBodyOf c k s b

pub record IsItemOf (c : Setting) (i : Item) (t : ProgItem) : Type 0 where
  pub name : t.name ≡ place_if c.names i.name
  pub place : t.place ≡ i.place
  pub body : IsBodyOf c (left_kind c.names i.name) (body i) t.body

-- ---- programs
abbrev pub setting : Number → Source → Setting
setting tolerance s = record { names = names s; values = parameters s.decls; tolerance = tolerance }

-- the program of a source in which each guard has a name
pub record IsNamedTranslation (tolerance : Number) (s : Source) (p : Program) : Type 0 where
  pub system : p.system ≡ s.system
  pub names : OneByOne (IsNameOf (parameters s.decls)) s.decls p.names
  pub items : OneByOne (IsItemOf (setting tolerance s)) s.items p.items
  pub weight : p.weight ≡ named_weight s

-- the program of a source: that of its unfolded one
abbrev pub IsTranslation : Number → Source → Program → Type 0
IsTranslation tolerance s p = IsNamedTranslation tolerance (unfolded s) p
