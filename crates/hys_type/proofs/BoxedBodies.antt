-- The boxes of names don't matter to what is built.
use Rattle.std.proofs.Common.{◌≡◌, ℕ, suc, ◌+◌, List, [], ◌∷◌, Option, Some, None, cond, map, length, refl, ◌∙◌, ap, ap₂, subst}
use Rattle.std.specs.Str.{bytes_eq}
use Rattle.std.proofs.lemmas.List.{length-map}
use Rattle.hys_number.specs.Number.{Number}
use Rattle.hys_lin.specs.declared.form.Affine.{Affine}
use Rattle.hys_lin.specs.declared.form.Term.{Term}
use Rattle.hys_lin.specs.Over.{AreTermsOver}
use Rattle.hys_lin.specs.Bits.{is_one}
use Rattle.hys_ast.specs.declared.source.Kind.{Kind}
use Rattle.hys_ast.specs.declared.tree.BinaryOp.TheVariants as binary
use Rattle.hys_ast.specs.Tree.{Tree}
use Rattle.hys_ast.specs.Tree as tree
use Rattle.hys_meaning.specs.Values.{Assignment}
use Rattle.hys_meaning.specs.Names.{Name, look, is_parameter}
use Rattle.hys_meaning.specs.Forms.{Form, combined, guard_form, guard_between}
use Rattle.hys_meaning.specs.Bodies as said
use Rattle.hys_meaning.specs.Unfolded.{is_inequality}
use Rattle.hys_formula.specs.Formulas.{constant, named}
use Rattle.hys_prog.specs.declared.program.Body.{Body}
use Rattle.hys_type.specs.Built.{IsBuilt, built, comparisons, guard, choice, logic, linear, next_bool, next_real, out_bool, out_real, must_hold, must_most, must_zero}
use Rattle.hys_type.specs.Translation.{HaveFactors, IsFormOf, else_form, difference_form, name_formula, signed_by, joined_by, connective_of, place_in}
use Rattle.hys_type.proofs.Unboxed.{unboxed, unboxed_one, same_look, same_form}
use Rattle.hys_type.proofs.NamedBodies.{over}

-- ---- forms
factors_boxed : (k : ℕ) (ns : List Name) (g : Form) (ts : List Term) → HaveFactors k (map unboxed ns) g ts → HaveFactors k ns g ts
factors_boxed k [] g ts h = tt
factors_boxed k (n ∷ ns) g ts h = (h.0, factors_boxed (suc k) ns g ts h.1)

form_boxed : (ns : List Name) (g h : Form) (f : Affine) → g ≡ h → IsFormOf (map unboxed ns) g f → IsFormOf ns h f
form_boxed ns g h f e i = subst (λ (x : Form). IsFormOf ns x f) e (record {
  terms = subst (λ (n : ℕ). AreTermsOver n f.terms) (length-map ns unboxed) i.terms;
  factors = factors_boxed 0 ns g f.terms i.factors;
  constant = i.constant;
})

same_guard : (ns : List Name) (e : Tree) → guard_form (map unboxed ns) e ≡ guard_form ns e
same_guard ns (tree.Number text p) = refl
same_guard ns (tree.Name n p) = refl
same_guard ns (tree.Truth b p) = refl
same_guard ns (tree.Cast n p) = refl
same_guard ns (tree.Unary op a p) = refl
same_guard ns (tree.Binary op a b p) = ap₂ (guard_between op) (same_form ns a) (same_form ns b)

pub guard_boxed : (ns : List Name) (e : Tree) (f : Affine) → IsFormOf (map unboxed ns) (guard_form (map unboxed ns) e) f → IsFormOf ns (guard_form ns e) f
guard_boxed ns e f i = form_boxed ns (guard_form (map unboxed ns) e) (guard_form ns e) f (same_guard ns e) i

same_else : (ns : List Name) (o : Option Tree) → else_form (map unboxed ns) o ≡ else_form ns o
same_else ns (Some e) = same_form ns e
same_else ns None = refl

same_difference : (ns : List Name) (a b : Tree) → difference_form (map unboxed ns) a b ≡ difference_form ns a b
same_difference ns a b = ap₂ (combined binary.Sub) (same_form ns a) (same_form ns b)

-- ---- formulas
pub place_boxed : (ns : List Name) (n : List ℕ) → place_in (map unboxed ns) n ≡ place_in ns n
place_boxed [] n = refl
place_boxed (m ∷ ns) n = ap (λ (k : ℕ). cond (bytes_eq m.text n) 0 (suc k)) (place_boxed ns n)

name_boxed : (ns : List Name) (n : List ℕ) → name_formula (map unboxed ns) n (look (map unboxed ns) n) ≡ name_formula ns n (look ns n)
name_boxed ns n = ap (name_formula (map unboxed ns) n) (same_look ns n) ∙ go (look ns n)
  where
    go : (o : Option Name) → name_formula (map unboxed ns) n (unboxed_one o) ≡ name_formula ns n o
    go None = refl
    go (Some m) = ap (λ (k : ℕ). cond (is_parameter m.section) (constant (is_one m.value)) (named k)) (place_boxed ns n)

built_boxed : (ns : List Name) (k : ℕ) (e : Tree) → built (map unboxed ns) k e ≡ built ns k e
built_boxed ns k (tree.Number text p) = refl
built_boxed ns k (tree.Name n p) = name_boxed ns n
built_boxed ns k (tree.Truth b p) = refl
built_boxed ns k (tree.Cast n p) = refl
built_boxed ns k (tree.Unary op a p) = ap (signed_by op) (built_boxed ns k a)
built_boxed ns k (tree.Binary op a b p) = ap₂ (λ x y. cond (is_inequality op) (named k) (joined_by (connective_of op) x y)) (built_boxed ns k a) (built_boxed ns (k + length (comparisons a)) b)

-- ---- bodies
pub body_boxed : (ns : List Name) (w : Assignment) (eps : Number) (j : ℕ) (k : Option Kind) (s : said.Body) (b : Body) → IsBuilt (over (map unboxed ns) w eps) j k s b → IsBuilt (over ns w eps) j k s b
body_boxed ns w eps j k s b (guard {e = e} {f = f} i d q z) = guard i d (form_boxed ns _ _ f (same_guard ns e) q) z
body_boxed ns w eps j k s b (choice {e = e} {h = y} {o = o} {f = f} {g = g} i d q u v) =
    choice i d (q ∙ built_boxed ns j e) (form_boxed ns _ _ f (same_form ns y) u) (form_boxed ns _ _ g (same_else ns o) v)
body_boxed ns w eps j k s b (logic {e = e} i d q) = logic i d (q ∙ built_boxed ns j e)
body_boxed ns w eps j k s b (linear {e = e} {f = f} i d q) = linear i d (form_boxed ns _ _ f (same_form ns e) q)
body_boxed ns w eps j k s b (next_bool {e = e} i d q) = next_bool i d (q ∙ built_boxed ns j e)
body_boxed ns w eps j k s b (next_real {e = e} {f = f} i d q) = next_real i d (form_boxed ns _ _ f (same_form ns e) q)
body_boxed ns w eps j k s b (out_bool {e = e} g i d q) = out_bool g i d (q ∙ built_boxed ns j e)
body_boxed ns w eps j k s b (out_real {e = e} {f = f} g i d q) = out_real g i d (form_boxed ns _ _ f (same_form ns e) q)
body_boxed ns w eps j k s b (must_hold {e = e} g i d q) = must_hold g i d (q ∙ built_boxed ns j e)
body_boxed ns w eps j k s b (must_most {e = e} {f = f} g i d q) = must_most g i d (form_boxed ns _ _ f (same_guard ns e) q)
body_boxed ns w eps j k s b (must_zero {x = x} {y = y} {f = f} i d q) = must_zero i d (form_boxed ns _ _ f (same_difference ns x y) q)
