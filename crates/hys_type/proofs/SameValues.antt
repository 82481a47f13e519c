-- An item of a program has by places the number that the item of the source has by texts.
use Rattle.std.proofs.Common.{◌≡◌, ℕ, List, [], ◌∷◌, Option, Some, None, true, false, cond, refl, sym, ◌∙◌, ap, ap₂, subst}
use Rattle.std.specs.List.{AllByRecursion}
use Rattle.std.proofs.Math.Path.{subst₂}
use Rattle.hys_number.specs.Number.{Number}
use Rattle.hys_base.specs.Differ.{Differ}
use Rattle.hys_lin.specs.Bits.{bit}
use Rattle.hys_lin.specs.Sums.{Assignment as PlaceAssignment}
use Rattle.hys_ast.specs.declared.source.Kind.{Kind}
use Rattle.hys_ast.specs.declared.tree.BinaryOp.{BinaryOp}
use Rattle.hys_ast.specs.declared.tree.BinaryOp.TheVariants as binary
use Rattle.hys_ast.specs.Tree.{Tree, Item, Source}
use Rattle.hys_ast.specs.Tree as tree
use Rattle.hys_meaning.specs.Values.{Assignment, value, truth, guard_number}
use Rattle.hys_meaning.specs.Names.{Name, names, parameters}
use Rattle.hys_meaning.specs.Bodies.{body}
use Rattle.hys_meaning.specs.Bodies as said
use Rattle.hys_meaning.specs.Typed.{RightTyped, ItemTyped, left, is_comparison}
use Rattle.hys_meaning.specs.Unfolded.{unfolded, is_inequality}
use Rattle.hys_meaning.specs.Steps.{else_value}
use Rattle.hys_formula.specs.Formulas.{tree_of}
use Rattle.hys_formula.specs.Formulas.{truth as formula_truth}
use Rattle.hys_prog.specs.declared.program.Body.{Body}
use Rattle.hys_prog.specs.declared.program.Body.TheVariants as means
use Rattle.hys_prog.specs.declared.program.ProgItem.{ProgItem}
use Rattle.hys_prog.specs.declared.program.Program.{Program}
use Rattle.hys_type.specs.Checks.{has_top}
use Rattle.hys_type.specs.ItemValues.{demanded, compared, said_value, said_tolerance, body_value, body_tolerance, SayTheSame}
use Rattle.hys_type.specs.SameMeaning.{Translates, HasParameters, ValuesByPlaces, ValuesByTexts}
use Rattle.hys_type.specs.Translation.{Setting, setting, OneByOne, IsBodyOf, guard, choice, logic, linear, next_bool, next_real, out_bool, out_real, must_hold, must_most, must_zero, IsItemOf, left_kind, kind_of}
use Rattle.hys_type.specs.Views.{by_places, by_texts}
use Rattle.hys_type.proofs.Tops.{no_comparison_at, inequality_at}
use Rattle.hys_type.proofs.Agree.{Agree, texts_of, agree_places, agree_texts}
use Rattle.hys_type.proofs.SameBodies.{real_places, guard_places, difference_places, else_places, formula_places, same_tolerance, the_formula, the_inequality, the_difference, bool_output, real_output}
use Rattle.hys_type.proofs.SameSteps.{names_differ, own_values}

-- ---- demands
demanded_formula : (w : Assignment) (e : Tree) → has_top is_comparison e ≡ false → demanded w e ≡ bit (truth w e)
demanded_formula w (tree.Number text p) h = refl
demanded_formula w (tree.Name n p) h = refl
demanded_formula w (tree.Truth b p) h = refl
demanded_formula w (tree.Cast n p) h = refl
demanded_formula w (tree.Unary op a p) h = refl
demanded_formula w (tree.Binary op a b p) h =
    no_comparison_at (λ (o : BinaryOp). compared w o a b p ≡ bit (truth w (tree.Binary o a b p))) refl refl refl refl refl refl refl refl refl op h

demanded_guard : (w : Assignment) (e : Tree) → has_top is_inequality e ≡ true → demanded w e ≡ guard_number w e
demanded_guard w (tree.Number text p) h = absurd (cc)
demanded_guard w (tree.Name n p) h = absurd (cc)
demanded_guard w (tree.Truth b p) h = absurd (cc)
demanded_guard w (tree.Cast n p) h = absurd (cc)
demanded_guard w (tree.Unary op a p) h = absurd (cc)
demanded_guard w (tree.Binary op a b p) h =
    inequality_at (λ (o : BinaryOp). compared w o a b p ≡ guard_number w (tree.Binary o a b p)) refl refl op h

-- ---- bodies
module _ (c : Setting) (w : Assignment) (v : PlaceAssignment) (a : Agree 0 c.names w v) (d : Differ (texts_of c.names)) (g : HasParameters w c.names) (u : HasParameters c.values c.names) where
  abbrev SameValue : Option Name → said.Body → Body → Type 0
  SameValue o s b = RightTyped c.names o s → (said_value w o s ≡ body_value v b) × (said_tolerance c.tolerance w s ≡ body_tolerance b)

  value_as : (o : Option Name) (s s' : said.Body) (b b' : Body) → s ≡ s' → b ≡ b' → SameValue o s' b' → SameValue o s b
  value_as o s s' b b' e h m = subst₂ (SameValue o) (sym e) (sym h) m

  same_value : (o : Option Name) (s : said.Body) (b : Body) → IsBodyOf c (kind_of o) s b → SameValue o s b
  same_value o s b (guard {e} {t} {f} {eps} i j h q) = value_as o s (said.Guard e t) b (means.Guard f eps) i j (λ r.
      (guard_places c w v a d g u e f r.0 h, ap (λ (x : Number). Some x) (same_tolerance c.names c.tolerance w c.values t g u r.1 ∙ sym q)))
  same_value o s b (choice {e = e} {h = x} {o = y} {l = l} {f = f} {g = q} i j h m n) = value_as o s (said.Choice e x y) b (means.Choice l f q) i j (λ r. (
    ap (λ t. cond t (value w x) (else_value w y)) (formula_places c w v a d g u e l r.0 h)
        ∙ ap₂ (cond (formula_truth (tree_of l) v)) (real_places c w v a d g u x f r.1 m) (else_places c w v a d g u y q r.2 n),
    refl,
  ))
  same_value o s b (logic {e} {l} i j h) = value_as o s (said.Logic e) b (means.Logic l) i j (λ r. (ap bit (formula_places c w v a d g u e l r h), refl))
  same_value o s b (linear {e} {f} i j h) = value_as o s (said.Linear e) b (means.Linear f) i j (λ r. (real_places c w v a d g u e f r h, refl))
  same_value o s b (next_bool {e} {l} i j h) = value_as o s (said.NextBool e) b (means.NextBool l) i j (λ r. (ap bit (formula_places c w v a d g u e l r h), refl))
  same_value o s b (next_real {e} {f} i j h) = value_as o s (said.NextReal e) b (means.NextReal f) i j (λ r. (real_places c w v a d g u e f r h, refl))
  same_value o s b (out_bool {e} {l} k i j h) = value_as o s (said.Output e) b (means.OutBool l) i j (λ r.
      let t = bool_output c.names o w e k r in (t.1 ∙ ap bit (formula_places c w v a d g u e l t.0 h), refl))
  same_value o s b (out_real {e} {f} k i j h) = value_as o s (said.Output e) b (means.OutReal f) i j (λ r.
      let t = real_output c.names o w e k r in (t.1 ∙ real_places c w v a d g u e f t.0 h, refl))
  same_value o s b (must_hold {e} {l} z i j h) = value_as o s (said.Must e) b (means.MustHold l) i j (λ r.
      (demanded_formula w e z ∙ ap bit (formula_places c w v a d g u e l (the_formula c.names e z r) h), refl))
  same_value o s b (must_most {e} {f} z i j h) = value_as o s (said.Must e) b (means.MustMost f) i j (λ r.
      (demanded_guard w e z ∙ guard_places c w v a d g u e f (the_inequality c.names e z r) h, refl))
  same_value o s b (must_zero {x} {y} {p} {f} i j h) = value_as o s (said.Must (tree.Binary binary.Equal x y p)) b (means.MustZero f) i j (λ r.
      let q = the_difference c.names x y p r in (difference_places c w v a d g u x y f q.0 q.1 h, refl))

  -- ---- items
  left_is : (n : Option (List ℕ)) → left_kind c.names n ≡ kind_of (left c.names n)
  left_is None = refl
  left_is (Some n) = refl

  one_item : (i : Item) (t : ProgItem) → IsItemOf c i t → ItemTyped c.names i → SayTheSame c.names c.tolerance w v i t
  one_item i t h r =
      let q = same_value (left c.names i.name) (body i) t.body (subst (λ (k : Option Kind). IsBodyOf c k (body i) t.body) (left_is i.name) h.body) r.1 in
      record { value = q.0; tolerance = q.1 }

  all_items : (is : List Item) (ts : List ProgItem) → OneByOne (IsItemOf c) is ts → AllByRecursion (ItemTyped c.names) is → OneByOne (SayTheSame c.names c.tolerance w v) is ts
  all_items [] [] h r = tt
  all_items [] (t ∷ ts) h r = absurd h
  all_items (i ∷ is) [] h r = absurd h
  all_items (i ∷ is) (t ∷ ts) h r = (one_item i t h.0 r.0, all_items is ts h.1 r.1)

-- ---- translations
pub values_by_places : (tolerance : Number) (s : Source) (p : Program) → Translates tolerance s p → ValuesByPlaces tolerance (unfolded s) p
values_by_places tolerance s p h w g =
    let r : Source = unfolded s in
    all_items (setting tolerance r) w (by_places (names r) w) (agree_places (names r) w) (names_differ r h.once) g (own_values (parameters r.decls) r.decls) r.items p.items h.translation.items h.typed.items

pub values_by_texts : (tolerance : Number) (s : Source) (p : Program) → Translates tolerance s p → ValuesByTexts tolerance (unfolded s) p
values_by_texts tolerance s p h v g =
    let r : Source = unfolded s in
    all_items (setting tolerance r) (by_texts (names r) v) v (agree_texts (names r) v (names_differ r h.once)) (names_differ r h.once) g (own_values (parameters r.decls) r.decls) r.items p.items h.translation.items h.typed.items
