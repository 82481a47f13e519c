-- Bodies that are built.
use Rattle.std.proofs.Common.{◌≡◌, ℕ, List, [], ◌∷◌, Option, Some, None, true, false, refl, sym, subst, Result, Ok, Err, IfOk}
use Rattle.hys_number.specs.Number.{Number}
use Rattle.hys_number.specs.Ops.{whole}
use Rattle.hys_lin.specs.declared.form.Affine.{Affine}
use Rattle.hys_ast.specs.declared.place.Place.{Place}
use Rattle.hys_ast.specs.declared.source.Kind.{Kind}
use Rattle.hys_ast.specs.declared.source.Kind.TheVariants as kind
use Rattle.hys_ast.specs.declared.tree.BinaryOp.TheVariants as binary
use Rattle.hys_ast.specs.Tree.{Tree}
use Rattle.hys_ast.specs.Tree as tree
use Rattle.hys_meaning.specs.Values.{value}
use Rattle.hys_meaning.specs.Names.{Name}
use Rattle.hys_meaning.specs.Forms.{form, guard_form, number_form}
use Rattle.hys_meaning.specs.Bodies as said
use Rattle.hys_meaning.specs.Typed.{is_comparison}
use Rattle.hys_meaning.specs.Unfolded.{is_inequality}
use Rattle.hys_formula.specs.declared.formula.Formula.{Formula}
use Rattle.hys_formula.specs.Formulas.{tree_of}
use Rattle.hys_prog.specs.declared.program.Body.{Body}
use Rattle.hys_prog.specs.declared.program.Body.TheVariants as means
use Rattle.hys_type.specs.declared.fault.TypeFault.{TypeFault}
use Rattle.hys_type.specs.Checks.{has_top}
use Rattle.hys_type.specs.Constants.{known_values}
use Rattle.hys_type.specs.Translation.{Setting, HaveFactors, IsFormOf, else_form, difference_form}
use Rattle.hys_type.specs.Built.{built, IsBuilt, AreFollowed, setting_of, guard, choice, logic, linear, next_bool, next_real, out_bool, out_real, must_hold, must_most, must_zero}
use Rattle.hys_type.specs.declared.built.Guard.{Guard}
use Rattle.hys_type.specs.declared.constant.Known.{Known}
use Rattle.hys_type.proofs.Guards.{none_followed}

pub guard_built : (c : Setting) (j : ℕ) (k : Option Kind) (e : Tree) (f : Affine) → IsFormOf c.names (guard_form c.names e) f → IsBuilt c j k (said.Guard e None) (means.Guard f c.tolerance)
guard_built c j k e f h = guard refl refl h refl

pub wide_built : (ns : List Name) (ks : List Known) (a : Number) (j : ℕ) (k : Option Kind) (e t : Tree) (f : Affine) (eps : Number) → IsFormOf ns (guard_form ns e) f → eps ≡ value (known_values ks) t → IsBuilt (setting_of ns ks a) j k (said.Guard e (Some t)) (means.Guard f eps)
wide_built ns ks a j k e t f eps h w = guard refl refl h w

pub choice_built : (c : Setting) (j : ℕ) (k : Option Kind) (e h : Tree) (o : Option Tree) (l : Formula) (f g : Affine) → tree_of l ≡ built c.names j e → IsFormOf c.names (form c.names h) f → IsFormOf c.names (else_form c.names o) g →
    IsBuilt c j k (said.Choice e h o) (means.Choice l f g)
choice_built c j k e h o l f g x y z = choice refl refl x y z

pub logic_built : (c : Setting) (j : ℕ) (k : Option Kind) (e : Tree) (l : Formula) → tree_of l ≡ built c.names j e → IsBuilt c j k (said.Logic e) (means.Logic l)
logic_built c j k e l h = logic refl refl h

pub linear_built : (c : Setting) (j : ℕ) (k : Option Kind) (e : Tree) (f : Affine) → IsFormOf c.names (form c.names e) f → IsBuilt c j k (said.Linear e) (means.Linear f)
linear_built c j k e f h = linear refl refl h

pub next_bool_built : (c : Setting) (j : ℕ) (k : Option Kind) (e : Tree) (l : Formula) → tree_of l ≡ built c.names j e → IsBuilt c j k (said.NextBool e) (means.NextBool l)
next_bool_built c j k e l h = next_bool refl refl h

pub next_real_built : (c : Setting) (j : ℕ) (k : Option Kind) (e : Tree) (f : Affine) → IsFormOf c.names (form c.names e) f → IsBuilt c j k (said.NextReal e) (means.NextReal f)
next_real_built c j k e f h = next_real refl refl h

pub out_bool_built : (c : Setting) (j : ℕ) (e : Tree) (l : Formula) → tree_of l ≡ built c.names j e → IsBuilt c j (Some kind.Bool) (said.Output e) (means.OutBool l)
out_bool_built c j e l h = out_bool refl refl refl h

pub out_real_built : (c : Setting) (j : ℕ) (e : Tree) (f : Affine) → IsFormOf c.names (form c.names e) f → IsBuilt c j (Some kind.Real) (said.Output e) (means.OutReal f)
out_real_built c j e f h = out_real refl refl refl h

pub must_hold_built : (c : Setting) (j : ℕ) (k : Option Kind) (e : Tree) (l : Formula) → has_top is_comparison e ≡ false → tree_of l ≡ built c.names j e → IsBuilt c j k (said.Must e) (means.MustHold l)
must_hold_built c j k e l t h = must_hold t refl refl h

pub must_most_built : (c : Setting) (j : ℕ) (k : Option Kind) (e : Tree) (f : Affine) → has_top is_inequality e ≡ true → IsFormOf c.names (guard_form c.names e) f → IsBuilt c j k (said.Must e) (means.MustMost f)
must_most_built c j k e f t h = must_most t refl refl h

pub must_zero_built : (c : Setting) (j : ℕ) (k : Option Kind) (x y : Tree) (p : Place) (f : Affine) → IsFormOf c.names (difference_form c.names x y) f → IsBuilt c j k (said.Must (tree.Binary binary.Equal x y p)) (means.MustZero f)
must_zero_built c j k x y p f h = must_zero refl refl h

-- ---- no guards
pub no_guards : (ns : List Name) (gs : List Guard) (es : List Tree) → es ≡ [] → AreFollowed ns gs es gs
no_guards ns gs es h = subst (λ (xs : List Tree). AreFollowed ns gs xs gs) (sym h) (none_followed ns gs)

zero_factors : (k : ℕ) (ns : List Name) → HaveFactors k ns (number_form (whole 0)) []
zero_factors k [] = tt
zero_factors k (n ∷ ns) = (refl, zero_factors _ ns)

pub no_else : (ns : List Name) → IsFormOf ns (number_form (whole 0)) (record { terms = []; constant = whole 0 })
no_else ns = record { terms = record { rise = tt; below = tt }; factors = zero_factors 0 ns; constant = refl }

-- what holds for all places holds for one
pub ok_at : (r : Result Body TypeFault) (P : ℕ → Body → Type 0) (j : ℕ) → IfOk r (λ b. (i : ℕ) → P i b) → IfOk r (λ b. P j b)
ok_at (Ok b) P j h = h j
ok_at (Err f) P j h = tt
