-- The number that an item says under an assignment, in a source and in its program: of a guard its guard number, of a
-- choice the chosen value, of a formula 1 or 0, and of a demanded comparison the number that has to be at most 0, or 0.
use Rattle.std.specs.Prelude.{◌≡◌, List, Option, Some, None, cond}
use Rattle.hys_number.specs.Number.{Number}
use Rattle.hys_number.specs.Ops.{◌-ₙ◌, whole}
use Rattle.hys_lin.specs.Bits.{bit}
use Rattle.hys_lin.specs.Sums.{Assignment as PlaceAssignment, value as form_value}
use Rattle.hys_ast.specs.declared.place.Place.{Place}
use Rattle.hys_ast.specs.declared.tree.BinaryOp.{BinaryOp}
use Rattle.hys_ast.specs.declared.tree.BinaryOp.TheVariants as binary
use Rattle.hys_ast.specs.Tree.{Tree, Item}
use Rattle.hys_ast.specs.Tree as tree
use Rattle.hys_meaning.specs.Values.{Assignment, value, truth, guard_number}
use Rattle.hys_meaning.specs.Names.{Name}
use Rattle.hys_meaning.specs.Bodies.{body}
use Rattle.hys_meaning.specs.Bodies as said
use Rattle.hys_meaning.specs.Typed.{left}
use Rattle.hys_meaning.specs.Steps.{else_value, tolerance_of, output_value}
use Rattle.hys_formula.specs.Formulas.{tree_of}
use Rattle.hys_formula.specs.Formulas.{truth as formula_truth}
use Rattle.hys_prog.specs.declared.program.Body.{Body}
use Rattle.hys_prog.specs.declared.program.Body.TheVariants as means
use Rattle.hys_prog.specs.declared.program.ProgItem.{ProgItem}

-- ---- in a source
abbrev pub compared : Assignment → BinaryOp → Tree → Tree → Place → Number
compared w binary.Add a b p = bit (truth w (tree.Binary binary.Add a b p))
compared w binary.Sub a b p = bit (truth w (tree.Binary binary.Sub a b p))
compared w binary.Mul a b p = bit (truth w (tree.Binary binary.Mul a b p))
compared w binary.Div a b p = bit (truth w (tree.Binary binary.Div a b p))
compared w binary.And a b p = bit (truth w (tree.Binary binary.And a b p))
compared w binary.Or a b p = bit (truth w (tree.Binary binary.Or a b p))
compared w binary.Iff a b p = bit (truth w (tree.Binary binary.Iff a b p))
compared w binary.Then a b p = bit (truth w (tree.Binary binary.Then a b p))
compared w binary.From a b p = bit (truth w (tree.Binary binary.From a b p))
compared w binary.Most a b p = value w a -ₙ value w b
compared w binary.Least a b p = value w b -ₙ value w a
compared w binary.Equal a b p = value w a -ₙ value w b

abbrev pub demanded : Assignment → Tree → Number
demanded w (tree.Number text p) = bit (truth w (tree.Number text p))
demanded w (tree.Name n p) = bit (truth w (tree.Name n p))
demanded w (tree.Truth b p) = bit (truth w (tree.Truth b p))
demanded w (tree.Cast n p) = bit (truth w (tree.Cast n p))
demanded w (tree.Unary op a p) = bit (truth w (tree.Unary op a p))
demanded w (tree.Binary op a b p) = compared w op a b p

-- beside a left name
abbrev pub said_value : Assignment → Option Name → said.Body → Number
said_value w n (said.Guard e t) = guard_number w e
said_value w n (said.Choice e h o) = cond (truth w e) (value w h) (else_value w o)
said_value w n (said.Logic e) = bit (truth w e)
said_value w n (said.Linear e) = value w e
said_value w n (said.NextBool e) = bit (truth w e)
said_value w n (said.NextReal e) = value w e
said_value w n (said.Output e) = output_value n w e
said_value w n (said.Must e) = demanded w e
said_value w n said.Nothing = whole 0

-- guards alone have a tolerance
abbrev pub said_tolerance : Number → Assignment → said.Body → Option Number
said_tolerance tolerance w (said.Guard e t) = Some (tolerance_of tolerance w t)
said_tolerance tolerance w (said.Choice e h o) = None
said_tolerance tolerance w (said.Logic e) = None
said_tolerance tolerance w (said.Linear e) = None
said_tolerance tolerance w (said.NextBool e) = None
said_tolerance tolerance w (said.NextReal e) = None
said_tolerance tolerance w (said.Output e) = None
said_tolerance tolerance w (said.Must e) = None
said_tolerance tolerance w said.Nothing = None

-- ---- in a program
abbrev pub body_value : PlaceAssignment → Body → Number
body_value v (means.Guard f e) = form_value f v
body_value v (means.Choice l f g) = cond (formula_truth (tree_of l) v) (form_value f v) (form_value g v)
body_value v (means.Logic l) = bit (formula_truth (tree_of l) v)
body_value v (means.Linear f) = form_value f v
body_value v (means.NextBool l) = bit (formula_truth (tree_of l) v)
body_value v (means.NextReal f) = form_value f v
body_value v (means.OutBool l) = bit (formula_truth (tree_of l) v)
body_value v (means.OutReal f) = form_value f v
body_value v (means.MustHold l) = bit (formula_truth (tree_of l) v)
body_value v (means.MustMost f) = form_value f v
body_value v (means.MustZero f) = form_value f v

abbrev pub body_tolerance : Body → Option Number
body_tolerance (means.Guard f e) = Some e
body_tolerance (means.Choice l f g) = None
body_tolerance (means.Logic l) = None
body_tolerance (means.Linear f) = None
body_tolerance (means.NextBool l) = None
body_tolerance (means.NextReal f) = None
body_tolerance (means.OutBool l) = None
body_tolerance (means.OutReal f) = None
body_tolerance (means.MustHold l) = None
body_tolerance (means.MustMost f) = None
body_tolerance (means.MustZero f) = None

-- ---- in both
-- an item of a source with these names, and one of its program, under an assignment by texts and one by places
pub record SayTheSame
    (ns : List Name) (standard : Number) (w : Assignment) (v : PlaceAssignment) (i : Item) (t : ProgItem) : Type 0 where
  pub value : said_value w (left ns i.name) (body i) ≡ body_value v t.body
  pub tolerance : said_tolerance standard w (body i) ≡ body_tolerance t.body
