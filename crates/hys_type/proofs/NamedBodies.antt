-- What is built of an item is the body of the item in which each guard has its name.
use Rattle.std.proofs.Common.{◌≡◌, ℕ, List, [], ◌∷◌, ◌++◌, Option, Some, None, Bool, true, cond, length, refl, sym, ◌∙◌, ap, subst}
use Rattle.hys_number.specs.Number.{Number}
use Rattle.hys_lin.specs.declared.form.Affine.{Affine}
use Rattle.hys_ast.specs.declared.place.Place.{Place}
use Rattle.hys_ast.specs.declared.source.Section.{Section}
use Rattle.hys_ast.specs.declared.source.Section.TheVariants as section
use Rattle.hys_ast.specs.declared.source.Kind.{Kind}
use Rattle.hys_ast.specs.declared.source.Kind.TheVariants as kind
use Rattle.hys_ast.specs.declared.tree.BinaryOp.{BinaryOp}
use Rattle.hys_ast.specs.declared.tree.BinaryOp.TheVariants as binary
use Rattle.hys_ast.specs.Tree.{Tree, Shape}
use Rattle.hys_ast.specs.Tree as tree
use Rattle.hys_meaning.specs.Values.{Assignment}
use Rattle.hys_meaning.specs.Names.{Name}
use Rattle.hys_meaning.specs.Forms.{form, guard_form}
use Rattle.hys_meaning.specs.Bodies.{body_in}
use Rattle.hys_meaning.specs.Bodies as said
use Rattle.hys_meaning.specs.Typed.{is_comparison}
use Rattle.hys_meaning.specs.Unfolded.{Naming, is_inequality, named, named_below, named_maybe, named_shape}
use Rattle.hys_formula.specs.declared.formula.Formula.{Formula}
use Rattle.hys_formula.specs.Formulas.{tree_of}
use Rattle.hys_prog.specs.declared.program.Body.{Body}
use Rattle.hys_type.specs.Built.{IsBuilt, built, comparisons, body_comparisons, output_comparisons}
use Rattle.hys_type.specs.Built as made
use Rattle.hys_type.specs.Checks.{scoped, expression, of_kind, has_top, demanded, tolerance_checks, output_checks, right_checks}
use Rattle.hys_type.specs.Declarations.{is_of_kind, if_some, place_of}
use Rattle.hys_type.specs.Faults.{check, first_fault}
use Rattle.hys_type.specs.Nodes.{sort, node_checks}
use Rattle.hys_type.specs.Translation.{Setting, IsBodyOf, IsFormOf, IsFormulaOf, guard, choice, logic, linear, next_bool, next_real, out_bool, out_real, must_hold, must_most, must_zero, else_form, difference_form, kind_of}
use Rattle.hys_type.specs.declared.constant.Known.{Known}
use Rattle.hys_type.specs.declared.fault.TypeFault.TheVariants as fault
use Rattle.hys_type.proofs.Linear.{outside}
use Rattle.hys_type.proofs.Wholes.{front_passes, back_passes}
use Rattle.hys_type.proofs.Numbering.{real_sort, real_plain}
use Rattle.hys_type.proofs.ItemNumbers.{fine, top_compares, top_unchanged, other_below}
use Rattle.hys_type.proofs.Fronts.{AreNew, form_wider, guard_outside, difference_outside, else_outside}
use Rattle.hys_type.proofs.NamedFormulas.{StandFrom, formula_built}
use Rattle.hys_type.proofs.FoundNames.{Finds, finds, same_formulas, wider_form, wider_guard, wider_difference}

-- ---- bodies in which each guard has a name
abbrev pub renamed : ℕ → said.Body → said.Body
renamed k (said.Guard e t) = said.Guard (named_below k e).part t
renamed k (said.Choice a b o) = said.Choice (named k a).part (named (named k a).next b).part (named_maybe (named (named k a).next b).next o).part
renamed k (said.Logic e) = said.Logic (named k e).part
renamed k (said.Linear e) = said.Linear (named k e).part
renamed k (said.NextBool e) = said.NextBool (named k e).part
renamed k (said.NextReal e) = said.NextReal (named k e).part
renamed k (said.Output e) = said.Output (named k e).part
renamed k (said.Must e) = said.Must (named_below k e).part
renamed k said.Nothing = said.Nothing

pub body_renamed : (k : ℕ) (s : Section) (r : Shape) → body_in s (named_shape s k r).part ≡ renamed k (body_in s r)
body_renamed k section.State (tree.Plain e) = refl
body_renamed k section.State (tree.Wide e t) = refl
body_renamed k section.State (tree.Choice a b o) = refl
body_renamed k section.Input (tree.Plain e) = refl
body_renamed k section.Input (tree.Wide e t) = refl
body_renamed k section.Input (tree.Choice a b o) = refl
body_renamed k section.Output (tree.Plain e) = refl
body_renamed k section.Output (tree.Wide e t) = refl
body_renamed k section.Output (tree.Choice a b o) = refl
body_renamed k section.Parameter (tree.Plain e) = refl
body_renamed k section.Parameter (tree.Wide e t) = refl
body_renamed k section.Parameter (tree.Choice a b o) = refl
body_renamed k section.Aux (tree.Plain e) = refl
body_renamed k section.Aux (tree.Wide e t) = refl
body_renamed k section.Aux (tree.Choice a b o) = refl
body_renamed k section.Ad (tree.Plain e) = refl
body_renamed k section.Ad (tree.Wide e t) = refl
body_renamed k section.Ad (tree.Choice a b o) = refl
body_renamed k section.Da (tree.Plain e) = refl
body_renamed k section.Da (tree.Wide e t) = refl
body_renamed k section.Da (tree.Choice a b o) = refl
body_renamed k section.Logic (tree.Plain e) = refl
body_renamed k section.Logic (tree.Wide e t) = refl
body_renamed k section.Logic (tree.Choice a b o) = refl
body_renamed k section.Linear (tree.Plain e) = refl
body_renamed k section.Linear (tree.Wide e t) = refl
body_renamed k section.Linear (tree.Choice a b o) = refl
body_renamed k section.Automata (tree.Plain e) = refl
body_renamed k section.Automata (tree.Wide e t) = refl
body_renamed k section.Automata (tree.Choice a b o) = refl
body_renamed k section.Continuous (tree.Plain e) = refl
body_renamed k section.Continuous (tree.Wide e t) = refl
body_renamed k section.Continuous (tree.Choice a b o) = refl
body_renamed k section.OutputItem (tree.Plain e) = refl
body_renamed k section.OutputItem (tree.Wide e t) = refl
body_renamed k section.OutputItem (tree.Choice a b o) = refl
body_renamed k section.Must (tree.Plain e) = refl
body_renamed k section.Must (tree.Wide e t) = refl
body_renamed k section.Must (tree.Choice a b o) = refl

top_kept : (test : BinaryOp → Bool) (k : ℕ) (e : Tree) → has_top test (named_below k e).part ≡ has_top test e
top_kept test k (tree.Number text p) = refl
top_kept test k (tree.Name n p) = refl
top_kept test k (tree.Truth b p) = refl
top_kept test k (tree.Cast n p) = refl
top_kept test k (tree.Unary op a p) = refl
top_kept test k (tree.Binary op a b p) = refl

pub nodes_pass : (ns : List Name) (wanted : Tree → Bool) (e : Tree) → None ≡ first_fault (expression ns wanted e) → Finds ns e
nodes_pass ns wanted e h = finds ns e (front_passes (node_checks ns e) (check (wanted e) (fault.Kind (place_of e)) ∷ []) h)

output_kind : (ns : List Name) (o : Option Name) (q : Kind) (e : Tree) → kind_of o ≡ Some q → None ≡ first_fault (output_checks ns o e) → None ≡ first_fault (of_kind q ns e)
output_kind ns None q e g h = absurd (cc)
output_kind ns (Some n) q e g h = subst (λ (x : Kind). None ≡ first_fault (of_kind x ns e)) (the_kind n.kind q g) h
  where
    the_kind : (x y : Kind) → Some x ≡ Some y → x ≡ y
    the_kind x y g = cc

module _ (ns ms : List Name) (new : AreNew ns ms) where
  real_named : (k : ℕ) (e : Tree) (f : Affine) → None ≡ first_fault (of_kind kind.Real ns e) → IsFormOf ns (form ns e) f → IsFormOf (ns ++ ms) (form (ns ++ ms) (named k e).part) f
  real_named k e f h i =
      let g = fine ns (λ e. is_of_kind kind.Real (sort ns e)) e h in
      let same = (real_plain ns k e g.0 (real_sort (sort ns e) g.1)).same in
      form_wider ns ms (form ns e) (form (ns ++ ms) (named k e).part) f (outside ns e) new (ap (λ (u : Naming Tree). form (ns ++ ms) u.part) same ∙ wider_form ns ms e (nodes_pass ns (λ e. is_of_kind kind.Real (sort ns e)) e h)) i

  else_named : (k : ℕ) (o : Option Tree) (f : Affine) → None ≡ first_fault (if_some (of_kind kind.Real ns) o) → IsFormOf ns (else_form ns o) f → IsFormOf (ns ++ ms) (else_form (ns ++ ms) (named_maybe k o).part) f
  else_named k (Some e) f h i = real_named k e f h i
  else_named k None f h i = form_wider ns ms (else_form ns None) (else_form (ns ++ ms) None) f (else_outside ns None) new refl i

  formula_named : (wanted : Tree → Bool) (k j : ℕ) (e : Tree) (l : Formula) → None ≡ first_fault (expression ns wanted e) → StandFrom (ns ++ ms) k j (length (comparisons e)) → tree_of l ≡ built ns j e → IsFormulaOf (ns ++ ms) (named k e).part l
  formula_named wanted k j e l h s i = i ∙ sym (formula_built ns (ns ++ ms) k j e (fine ns wanted e h).0 (same_formulas ns ms e (nodes_pass ns wanted e h)) s)

  bool_named : (k j : ℕ) (e : Tree) (l : Formula) → None ≡ first_fault (of_kind kind.Bool ns e) → StandFrom (ns ++ ms) k j (length (comparisons e)) → tree_of l ≡ built ns j e → IsFormulaOf (ns ++ ms) (named k e).part l
  bool_named k j e l h s i = formula_named (λ e. is_of_kind kind.Bool (sort ns e)) k j e l h s i

  guard_named : (wanted : Tree → Bool) (k : ℕ) (e : Tree) (f : Affine) → has_top is_inequality e ≡ true → None ≡ first_fault (expression ns wanted e) → IsFormOf ns (guard_form ns e) f → IsFormOf (ns ++ ms) (guard_form (ns ++ ms) (named_below k e).part) f
  guard_named wanted k e f t h i =
      let same = top_unchanged ns k e (fine ns wanted e h).0 (top_compares e t) in
      form_wider ns ms (guard_form ns e) (guard_form (ns ++ ms) (named_below k e).part) f (guard_outside ns e) new (ap (λ (u : Naming Tree). guard_form (ns ++ ms) u.part) same ∙ wider_guard ns ms e (nodes_pass ns wanted e h)) i

  difference_named : (x y : Tree) (p : Place) (f : Affine) → None ≡ first_fault (expression ns (demanded ns) (tree.Binary binary.Equal x y p)) → IsFormOf ns (difference_form ns x y) f → IsFormOf (ns ++ ms) (difference_form (ns ++ ms) x y) f
  difference_named x y p f h i =
      let g = nodes_pass ns (demanded ns) (tree.Binary binary.Equal x y p) h in
      form_wider ns ms (difference_form ns x y) (difference_form (ns ++ ms) x y) f (difference_outside ns x y) new (wider_difference ns ms x y g.0 g.1) i

-- ---- bodies
abbrev pub over : List Name → Assignment → Number → Setting
over ns w eps = record { names = ns; values = w; tolerance = eps }

module _ (ns ms : List Name) (new : AreNew ns ms) (ks : List Known) (w : Assignment) (eps : Number) (o : Option Name) (p : Place) (k j : ℕ) where
  Passes : said.Body → Type 0
  Passes s = None ≡ first_fault (right_checks (scoped ns ks) o p s)

  Stands : said.Body → Type 0
  Stands s = StandFrom (ns ++ ms) k j (length (body_comparisons (kind_of o) s))

  pub body_named : (s : said.Body) (b : Body) → None ≡ first_fault (right_checks (scoped ns ks) o p s) → StandFrom (ns ++ ms) k j (length (body_comparisons (kind_of o) s)) →
      IsBuilt (over ns w eps) j (kind_of o) s b → IsBodyOf (over (ns ++ ms) w eps) (kind_of o) (renamed k s) b
  unfolding Passes Stands
  body_named s b h t (made.guard {e = e} {t = y} {f = f} i d q z) =
      let c = subst Passes i h in
      let x = front_passes (expression ns (has_top is_inequality) e) (if_some (tolerance_checks ks p) y) c in
      guard (ap (renamed k) i) d (guard_named ns ms new (has_top is_inequality) k e f (fine ns (has_top is_inequality) e x).1 x q) z
  body_named s b h t (made.choice {e = e} {h = y} {o = z} {l = l} {f = f} {g = g} i d q u v) =
      let c = subst Passes i h in
      let first = of_kind kind.Bool ns e in
      let hit = of_kind kind.Real ns y in
      let other = if_some (of_kind kind.Real ns) z in
      let rest = back_passes first (hit ++ other) c in
      choice (ap (renamed k) i) d (bool_named ns ms new k j e l (front_passes first (hit ++ other) c) (subst Stands i t) q) (real_named ns ms new (named k e).next y f (front_passes hit other rest) u)
      (else_named ns ms new (named (named k e).next y).next z g (back_passes hit other rest) v)
  body_named s b h t (made.logic {e = e} {l = l} i d q) = logic (ap (renamed k) i) d (bool_named ns ms new k j e l (subst Passes i h) (subst Stands i t) q)
  body_named s b h t (made.linear {e = e} {f = f} i d q) = linear (ap (renamed k) i) d (real_named ns ms new k e f (subst Passes i h) q)
  body_named s b h t (made.next_bool {e = e} {l = l} i d q) = next_bool (ap (renamed k) i) d (bool_named ns ms new k j e l (subst Passes i h) (subst Stands i t) q)
  body_named s b h t (made.next_real {e = e} {f = f} i d q) = next_real (ap (renamed k) i) d (real_named ns ms new k e f (subst Passes i h) q)
  body_named s b h t (made.out_bool {e = e} {l = l} g i d q) =
      out_bool g (ap (renamed k) i) d (bool_named ns ms new k j e l (output_kind ns o kind.Bool e g (subst Passes i h)) (subst (λ (x : Option Kind). StandFrom (ns ++ ms) k j (length (output_comparisons x e))) g (subst Stands i t)) q)
  body_named s b h t (made.out_real {e = e} {f = f} g i d q) = out_real g (ap (renamed k) i) d (real_named ns ms new k e f (output_kind ns o kind.Real e g (subst Passes i h)) q)
  body_named s b h t (made.must_hold {e = e} {l = l} g i d q) =
      must_hold (top_kept is_comparison k e ∙ g) (ap (renamed k) i) d
      (subst (λ (u : Naming Tree). IsFormulaOf (ns ++ ms) u.part l) (other_below k e g)
      (formula_named ns ms new (demanded ns) k j e l (subst Passes i h) (subst (λ (x : Bool). StandFrom (ns ++ ms) k j (length (cond x [] (comparisons e)))) g (subst Stands i t)) q))
  body_named s b h t (made.must_most {e = e} {f = f} g i d q) = must_most (top_kept is_inequality k e ∙ g) (ap (renamed k) i) d (guard_named ns ms new (demanded ns) k e f g (subst Passes i h) q)
  body_named s b h t (made.must_zero {x = x} {y = y} {p = z} {f = f} i d q) =
      let c = subst Passes i h in
      must_zero (ap (renamed k) i ∙ ap (λ (u : Naming Tree). said.Must u.part) (top_unchanged ns k (tree.Binary binary.Equal x y z) (fine ns (demanded ns) (tree.Binary binary.Equal x y z) c).0 refl)) d
      (difference_named ns ms new x y z f c q)
