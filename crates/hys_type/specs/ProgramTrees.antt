-- A program without pointers: in place of its formulas stand their trees. Programs with the same tree differ in nothing
-- but where their formulas lie in memory.
use Rattle.std.specs.Prelude.{ℕ, List, Option, map}
use Rattle.hys_number.specs.Number.{Number}
use Rattle.hys_lin.specs.declared.form.Affine.{Affine}
use Rattle.hys_ast.specs.declared.place.Place.{Place}
use Rattle.hys_formula.specs.Formulas.{FormulaTree, tree_of}
use Rattle.hys_prog.specs.declared.program.Body.{Body}
use Rattle.hys_prog.specs.declared.program.Body.TheVariants as means
use Rattle.hys_prog.specs.declared.program.Name.{Name}
use Rattle.hys_prog.specs.declared.program.ProgItem.{ProgItem}
use Rattle.hys_prog.specs.declared.program.Program.{Program}

pub data BodyTree : Type 0 where
  Guard : Affine → Number → BodyTree
  Choice : FormulaTree → Affine → Affine → BodyTree
  Logic : FormulaTree → BodyTree
  Linear : Affine → BodyTree
  NextBool : FormulaTree → BodyTree
  NextReal : Affine → BodyTree
  OutBool : FormulaTree → BodyTree
  OutReal : Affine → BodyTree
  MustHold : FormulaTree → BodyTree
  MustMost : Affine → BodyTree
  MustZero : Affine → BodyTree

abbrev pub body_tree : Body → BodyTree
body_tree (means.Guard f e) = Guard f e
body_tree (means.Choice l f g) = Choice (tree_of l) f g
body_tree (means.Logic l) = Logic (tree_of l)
body_tree (means.Linear f) = Linear f
body_tree (means.NextBool l) = NextBool (tree_of l)
body_tree (means.NextReal f) = NextReal f
body_tree (means.OutBool l) = OutBool (tree_of l)
body_tree (means.OutReal f) = OutReal f
body_tree (means.MustHold l) = MustHold (tree_of l)
body_tree (means.MustMost f) = MustMost f
body_tree (means.MustZero f) = MustZero f

pub record ItemTree : Type 0 where
  pub name : Option ℕ
  pub place : Place
  pub body : BodyTree

abbrev pub item_tree : ProgItem → ItemTree
item_tree t = record { name = t.name; place = t.place; body = body_tree t.body }

pub record ProgramTree : Type 0 where
  pub system : List ℕ
  pub names : List Name
  pub items : List ItemTree
  pub weight : ℕ

abbrev pub program_tree : Program → ProgramTree
program_tree p =
    record { system = p.system; names = p.names; items = map item_tree p.items; weight = p.weight }
