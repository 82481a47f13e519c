-- The body of a program's item says by places what the item of the source says by texts.
use Rattle.std.proofs.Common.{◌≡◌, ℕ, List, [], ◌∷◌, Option, Some, None, Bool, true, false, ◌⊎◌, inl, inr, ◌↔◌, cond, refl, sym, ◌∙◌, ap, ap₂, subst, arith}
use Rattle.std.specs.Prelude.{IsTrue, filter}
use Rattle.std.specs.List.{AllByRecursion}
use Rattle.std.proofs.Math.Path.{subst₂}
use Rattle.hys_number.specs.Number.{Number}
use Rattle.hys_number.specs.Ops.{◌-ₙ◌, ◌≤ₙ◌, ◌<ₙ◌, whole}
use Rattle.hys_number.proofs.Laws.{whole-ratio}
use Rattle.hys_number.proofs.Scale.{overs, common2, common2_of}
use Rattle.hys_base.specs.Differ.{Differ}
use Rattle.hys_lin.specs.Bits.{bit}
use Rattle.hys_lin.specs.declared.form.Affine.{Affine}
use Rattle.hys_lin.specs.Sums.{Assignment as PlaceAssignment, value as form_value}
use Rattle.hys_ast.specs.declared.place.Place.{Place}
use Rattle.hys_ast.specs.declared.source.Kind.{Kind}
use Rattle.hys_ast.specs.declared.source.Kind.TheVariants as kind
use Rattle.hys_ast.specs.declared.tree.BinaryOp.{BinaryOp}
use Rattle.hys_ast.specs.declared.tree.BinaryOp.TheVariants as binary
use Rattle.hys_ast.specs.Tree.{Tree}
use Rattle.hys_ast.specs.Tree as tree
use Rattle.hys_meaning.specs.Values.{Assignment, value, truth, given, guard_number, signed, computed}
use Rattle.hys_meaning.specs.Names.{Name, look, is_parameter}
use Rattle.hys_meaning.specs.Forms.{form, guard_form}
use Rattle.hys_meaning.specs.Bodies as said
use Rattle.hys_meaning.specs.Typed.{IsReal, IsFormula, IsComparison, IsMaybe, IsTolerance, IsOfName, IsOfKind, RightTyped, only_parameters, may_stand, is_comparison, is_connective, is_real, is_bool}
use Rattle.hys_meaning.specs.Unfolded.{is_inequality}
use Rattle.hys_meaning.specs.Steps.{else_value, tolerance_of, output_value, Holds, Compares}
use Rattle.hys_meaning.specs.Steps as source
use Rattle.hys_formula.specs.declared.formula.Formula.{Formula}
use Rattle.hys_formula.specs.Formulas.{tree_of}
use Rattle.hys_formula.specs.Formulas.{truth as formula_truth}
use Rattle.hys_prog.specs.declared.program.Body.{Body}
use Rattle.hys_prog.specs.declared.program.Body.TheVariants as means
use Rattle.hys_prog.specs.Steps as program
use Rattle.hys_type.specs.Checks.{has_top}
use Rattle.hys_type.specs.Translation.{Setting, IsFormOf, IsFormulaOf, IsBodyOf, guard, choice, logic, linear, next_bool, next_real, out_bool, out_real, must_hold, must_most, must_zero, else_form, difference_form, kind_of}
use Rattle.hys_type.proofs.Tops.{no_comparison_at, inequality_at}
use Rattle.hys_type.proofs.Agree.{Agree, texts_of, found_name}
use Rattle.hys_type.proofs.FormSums.{HasParameters, real_number, guard_value, difference_value, constant_number}
use Rattle.hys_type.proofs.FormPlaces.{value_places}
use Rattle.hys_type.proofs.FormulaTruths.{truth_places}

-- ---- relations between equal numbers
pub both : (P : Number → Number → Type 0) {x y a b : Number} → x ≡ y → a ≡ b → P x a ↔ P y b
both P p q = (subst₂ P p q, subst₂ P (sym p) (sym q))

most_zero : (a b : Number) → (a ≤ₙ b) ↔ (a -ₙ b ≤ₙ whole 0)
most_zero a b = elim (common2_of a b) [ common2 D h p1 n1 p2 n2 e1 e2 ↦ rw (e1, e2) (simp (overs, whole-ratio 0 D h) (omega arith)) ]

same_zero : (a b : Number) → (a ≡ b) ↔ (a -ₙ b ≡ whole 0)
same_zero a b = elim (common2_of a b) [ common2 D h p1 n1 p2 n2 e1 e2 ↦ rw (e1, e2) (simp (overs, whole-ratio 0 D h) (omega arith)) ]

-- ---- constants
same_constant : (ns : List Name) (w u : Assignment) → AllByRecursion (λ n. w n.text ≡ u n.text) ns → (e : Tree) → IsReal ns e → value w e ≡ value u e
same_constant ns w u h (tree.Number text p) r = refl
same_constant ns w u h (tree.Name n p) r = go (look ns n) refl r
  where
    go : (o : Option Name) → look ns n ≡ o → IsTrue (may_stand is_real o) → w n ≡ u n
    go None e t = absurd (cc)
    go (Some m) e t = let f = found_name (λ n. w n.text ≡ u n.text) ns n m h e in ap w (sym f.1) ∙ f.0 ∙ ap u f.1
same_constant ns w u h (tree.Truth b p) r = absurd r
same_constant ns w u h (tree.Cast n p) r = go (look ns n) refl r
  where
    go : (o : Option Name) → look ns n ≡ o → IsTrue (may_stand is_bool o) → w n ≡ u n
    go None e t = absurd (cc)
    go (Some m) e t = let f = found_name (λ n. w n.text ≡ u n.text) ns n m h e in ap w (sym f.1) ∙ f.0 ∙ ap u f.1
same_constant ns w u h (tree.Unary op a p) r = ap (signed op) (same_constant ns w u h a r.1)
same_constant ns w u h (tree.Binary op a b p) r = ap₂ (computed op) (same_constant ns w u h a r.0) (same_constant ns w u h b r.1)

same_parameters : (ns : List Name) (w u : Assignment) → HasParameters w ns → HasParameters u ns → AllByRecursion (λ n. w n.text ≡ u n.text) (only_parameters ns)
same_parameters [] w u g h = tt
same_parameters (n ∷ ns) w u g h = go (is_parameter n.section) g.0 h.0 (same_parameters ns w u g.1 h.1)
  where
    go : (b : Bool) → (IsTrue b → w n.text ≡ n.value) → (IsTrue b → u n.text ≡ n.value) → AllByRecursion (λ n. w n.text ≡ u n.text) (only_parameters ns) →
        AllByRecursion (λ n. w n.text ≡ u n.text) (cond b (n ∷ filter (λ n. is_parameter n.section) ns) (filter (λ n. is_parameter n.section) ns))
    go true p q rest = (p refl ∙ sym (q refl), rest)
    go false p q rest = rest

pub same_tolerance : (ns : List Name) (tolerance : Number) (w u : Assignment) (t : Option Tree) → HasParameters w ns → HasParameters u ns → IsMaybe (IsTolerance ns) t → tolerance_of tolerance w t ≡ tolerance_of tolerance u t
same_tolerance ns tolerance w u (Some e) g h r = same_constant (only_parameters ns) w u (same_parameters ns w u g h) e r.0
same_tolerance ns tolerance w u None g h r = refl

-- ---- what stands at the top of a MUST item
itself : {A : Type 0} → A ↔ A
itself = (λ x. x, λ x. x)

holds_formula : (w : Assignment) (e : Tree) → has_top is_comparison e ≡ false → Holds w e ↔ IsTrue (truth w e)
holds_formula w (tree.Number text p) h = (λ x. x, λ x. x)
holds_formula w (tree.Name n p) h = (λ x. x, λ x. x)
holds_formula w (tree.Truth b p) h = (λ x. x, λ x. x)
holds_formula w (tree.Cast n p) h = (λ x. x, λ x. x)
holds_formula w (tree.Unary op a p) h = (λ x. x, λ x. x)
holds_formula w (tree.Binary op a b p) h =
    no_comparison_at (λ (o : BinaryOp). Holds w (tree.Binary o a b p) ↔ IsTrue (truth w (tree.Binary o a b p))) itself itself itself itself itself itself itself itself itself op h

holds_most : (w : Assignment) (e : Tree) → has_top is_inequality e ≡ true → Holds w e ↔ (guard_number w e ≤ₙ whole 0)
holds_most w (tree.Number text p) h = absurd (cc)
holds_most w (tree.Name n p) h = absurd (cc)
holds_most w (tree.Truth b p) h = absurd (cc)
holds_most w (tree.Cast n p) h = absurd (cc)
holds_most w (tree.Unary op a p) h = absurd (cc)
holds_most w (tree.Binary op a b p) h =
    inequality_at (λ (o : BinaryOp). Holds w (tree.Binary o a b p) ↔ (guard_number w (tree.Binary o a b p) ≤ₙ whole 0))
    (most_zero (value w a) (value w b)) (most_zero (value w b) (value w a)) op h

-- a formula is no comparison
no_comparison : (op : BinaryOp) → IsTrue (is_connective op) → IsTrue (is_comparison op) → ⊥
no_comparison binary.Add c h = absurd (cc)
no_comparison binary.Sub c h = absurd (cc)
no_comparison binary.Mul c h = absurd (cc)
no_comparison binary.Div c h = absurd (cc)
no_comparison binary.And c h = absurd (cc)
no_comparison binary.Or c h = absurd (cc)
no_comparison binary.Iff c h = absurd (cc)
no_comparison binary.Then c h = absurd (cc)
no_comparison binary.From c h = absurd (cc)
no_comparison binary.Most c h = absurd (cc)
no_comparison binary.Least c h = absurd (cc)
no_comparison binary.Equal c h = absurd (cc)

inequality_compares : (op : BinaryOp) → IsTrue (is_inequality op) → IsTrue (is_comparison op)
inequality_compares binary.Add h = absurd (cc)
inequality_compares binary.Sub h = absurd (cc)
inequality_compares binary.Mul h = absurd (cc)
inequality_compares binary.Div h = absurd (cc)
inequality_compares binary.And h = absurd (cc)
inequality_compares binary.Or h = absurd (cc)
inequality_compares binary.Iff h = absurd (cc)
inequality_compares binary.Then h = absurd (cc)
inequality_compares binary.From h = absurd (cc)
inequality_compares binary.Most h = refl
inequality_compares binary.Least h = refl
inequality_compares binary.Equal h = absurd (cc)

pub the_formula : (ns : List Name) (e : Tree) → has_top is_comparison e ≡ false → IsFormula ns e ⊎ IsComparison is_comparison ns e → IsFormula ns e
the_formula ns e t (inl h) = h
the_formula ns (tree.Number text p) t (inr h) = absurd h
the_formula ns (tree.Name n p) t (inr h) = absurd h
the_formula ns (tree.Truth b p) t (inr h) = absurd h
the_formula ns (tree.Cast n p) t (inr h) = absurd h
the_formula ns (tree.Unary op a p) t (inr h) = absurd h
the_formula ns (tree.Binary op a b p) t (inr h) = absurd (never (sym t ∙ h.0))
  where
    never : false ≡ true → ⊥
    never e = absurd (cc)

pub the_inequality : (ns : List Name) (e : Tree) → has_top is_inequality e ≡ true → IsFormula ns e ⊎ IsComparison is_comparison ns e → IsComparison is_inequality ns e
the_inequality ns (tree.Number text p) t h = absurd (cc)
the_inequality ns (tree.Name n p) t h = absurd (cc)
the_inequality ns (tree.Truth b p) t h = absurd (cc)
the_inequality ns (tree.Cast n p) t h = absurd (cc)
the_inequality ns (tree.Unary op a p) t h = absurd (cc)
the_inequality ns (tree.Binary op a b p) t (inl h) = absurd (no_comparison op h.0 (inequality_compares op t))
the_inequality ns (tree.Binary op a b p) t (inr h) = (t, h.1, h.2)

pub the_difference : (ns : List Name) (x y : Tree) (p : Place) → IsFormula ns (tree.Binary binary.Equal x y p) ⊎ IsComparison is_comparison ns (tree.Binary binary.Equal x y p) → IsReal ns x × IsReal ns y
the_difference ns x y p (inl h) = absurd (no_comparison binary.Equal h.0 refl)
the_difference ns x y p (inr h) = (h.1, h.2)

-- ---- the kind of an output
pub some_kind : (k l : Kind) → Some k ≡ Some l → k ≡ l
some_kind k l e = ap (λ o. elim o as (λ o. Kind) [ Some x ↦ x | None ↦ k ]) e

pub bool_output : (ns : List Name) (o : Option Name) (w : Assignment) (e : Tree) → kind_of o ≡ Some kind.Bool → IsOfName ns o e → IsFormula ns e × (output_value o w e ≡ bit (truth w e))
bool_output ns None w e h t = absurd t
bool_output ns (Some m) w e h t = let s : m.kind ≡ kind.Bool = some_kind m.kind kind.Bool h in (subst (λ k. IsOfKind k ns e) s t, ap (λ k. given k w e) s)

pub real_output : (ns : List Name) (o : Option Name) (w : Assignment) (e : Tree) → kind_of o ≡ Some kind.Real → IsOfName ns o e → IsReal ns e × (output_value o w e ≡ value w e)
real_output ns None w e h t = absurd t
real_output ns (Some m) w e h t = let s : m.kind ≡ kind.Real = some_kind m.kind kind.Real h in (subst (λ k. IsOfKind k ns e) s t, ap (λ k. given k w e) s)

-- ---- bodies
module _ (c : Setting) (w : Assignment) (v : PlaceAssignment) (a : Agree 0 c.names w v) (d : Differ (texts_of c.names)) (g : HasParameters w c.names) (u : HasParameters c.values c.names) where
  pub real_places : (e : Tree) (f : Affine) → IsReal c.names e → IsFormOf c.names (form c.names e) f → value w e ≡ form_value f v
  real_places e f r h = real_number c.names w d g e r ∙ sym (value_places c.names (form c.names e) f w v h a)

  pub guard_places : (e : Tree) (f : Affine) → IsComparison is_inequality c.names e → IsFormOf c.names (guard_form c.names e) f → guard_number w e ≡ form_value f v
  guard_places e f r h = guard_value c.names w d g e r ∙ sym (value_places c.names (guard_form c.names e) f w v h a)

  pub difference_places : (x y : Tree) (f : Affine) → IsReal c.names x → IsReal c.names y → IsFormOf c.names (difference_form c.names x y) f → value w x -ₙ value w y ≡ form_value f v
  difference_places x y f r s h = difference_value c.names w d g x y r s ∙ sym (value_places c.names (difference_form c.names x y) f w v h a)

  pub else_places : (o : Option Tree) (f : Affine) → IsMaybe (IsReal c.names) o → IsFormOf c.names (else_form c.names o) f → else_value w o ≡ form_value f v
  else_places (Some e) f r h = real_places e f r h
  else_places None f r h = constant_number c.names (whole 0) w ∙ sym (value_places c.names (else_form c.names None) f w v h a)

  pub formula_places : (e : Tree) (l : Formula) → IsFormula c.names e → IsFormulaOf c.names e l → truth w e ≡ formula_truth (tree_of l) v
  formula_places e l r h = sym (truth_places c.names w v a g e l r h)

  -- ---- demands and gaps
  abbrev SameDemand : Option Name → said.Body → Body → Type 0
  SameDemand o s b = RightTyped c.names o s → (source.DemandOf w s ↔ program.DemandOf v b) × (source.GapAt c.tolerance w s ↔ program.GapAt v b)

  nothing_said : (Unit {0} ↔ Unit {0}) × (⊥ ↔ ⊥)
  nothing_said = ((λ x. x, λ x. x), (λ x. x, λ x. x))

  said_as : (o : Option Name) (s s' : said.Body) (b b' : Body) → s ≡ s' → b ≡ b' → SameDemand o s' b' → SameDemand o s b
  said_as o s s' b b' e h m = subst₂ (SameDemand o) (sym e) (sym h) m

  pub same_demand : (o : Option Name) (k : Option Kind) (s : said.Body) (b : Body) → IsBodyOf c k s b → SameDemand o s b
  same_demand o k s b (guard {e} {t} {f} {eps} i j h q) = said_as o s (said.Guard e t) b (means.Guard f eps) i j (λ r.
      ((λ x. x, λ x. x), both (λ (x y : Number). (whole 0 <ₙ x) × (x <ₙ y)) (guard_places e f r.0 h) (same_tolerance c.names c.tolerance w c.values t g u r.1 ∙ sym q)))
  same_demand o k s b (choice {e = e} {h = x} {o = y} {l = l} {f = f} {g = q} i j h m n) = said_as o s (said.Choice e x y) b (means.Choice l f q) i j (λ r. nothing_said)
  same_demand o k s b (logic {e} {l} i j h) = said_as o s (said.Logic e) b (means.Logic l) i j (λ r. nothing_said)
  same_demand o k s b (linear {e} {f} i j h) = said_as o s (said.Linear e) b (means.Linear f) i j (λ r. nothing_said)
  same_demand o k s b (next_bool {e} {l} i j h) = said_as o s (said.NextBool e) b (means.NextBool l) i j (λ r. nothing_said)
  same_demand o k s b (next_real {e} {f} i j h) = said_as o s (said.NextReal e) b (means.NextReal f) i j (λ r. nothing_said)
  same_demand o k s b (out_bool {e} {l} z i j h) = said_as o s (said.Output e) b (means.OutBool l) i j (λ r. nothing_said)
  same_demand o k s b (out_real {e} {f} z i j h) = said_as o s (said.Output e) b (means.OutReal f) i j (λ r. nothing_said)
  same_demand o k s b (must_hold {e} {l} z i j h) = said_as o s (said.Must e) b (means.MustHold l) i j (λ r.
      let t = formula_places e l (the_formula c.names e z r) h in
      ((λ x. sym t ∙ (holds_formula w e z).0 x, λ x. (holds_formula w e z).1 (t ∙ x)), (λ x. x, λ x. x)))
  same_demand o k s b (must_most {e} {f} z i j h) = said_as o s (said.Must e) b (means.MustMost f) i j (λ r.
      let t = guard_places e f (the_inequality c.names e z r) h in
      ((λ x. subst (λ y. y ≤ₙ whole 0) t ((holds_most w e z).0 x), λ x. (holds_most w e z).1 (subst (λ y. y ≤ₙ whole 0) (sym t) x)), (λ x. x, λ x. x)))
  same_demand o k s b (must_zero {x} {y} {p} {f} i j h) = said_as o s (said.Must (tree.Binary binary.Equal x y p)) b (means.MustZero f) i j (λ r.
      let q = the_difference c.names x y p r in
      let t = difference_places x y f q.0 q.1 h in
      ((λ z. sym t ∙ (same_zero (value w x) (value w y)).0 z, λ z. (same_zero (value w x) (value w y)).1 (t ∙ z)), (λ x. x, λ x. x)))

  -- ---- cases and next values
  abbrev SameCase : List ℕ → ℕ → Assignment → PlaceAssignment → said.Body → Body → Type 0
  SameCase n m w' v' s b = RightTyped c.names (look c.names n) s → (source.Case w n s ↔ program.Case v m b) × (source.Next c.names w w' n s ↔ program.Next v v' m b)

  free : Unit {0} ↔ Unit {0}
  free = (λ x. x, λ x. x)

  case_as : (n : List ℕ) (m : ℕ) (w' : Assignment) (v' : PlaceAssignment) (s s' : said.Body) (b b' : Body) → s ≡ s' → b ≡ b' → SameCase n m w' v' s' b' → SameCase n m w' v' s b
  case_as n m w' v' s s' b b' e h t = subst₂ (SameCase n m w' v') (sym e) (sym h) t

  pub same_case : (n : List ℕ) (m : ℕ) (w' : Assignment) (v' : PlaceAssignment) (s : said.Body) (b : Body) → v m ≡ w n → v' m ≡ w' n → IsBodyOf c (kind_of (look c.names n)) s b → SameCase n m w' v' s b
  same_case n m w' v' s b x x' (guard {e} {t} {f} {eps} i j h q) = case_as n m w' v' s (said.Guard e t) b (means.Guard f eps) i j (λ r.
      (both (λ (y z : Number). ((z ≤ₙ whole 0) × (y ≡ whole 1)) ⊎ ((whole 0 <ₙ z) × (y ≡ whole 0))) (sym x) (guard_places e f r.0 h), free))
  same_case n m w' v' s b x x' (choice {e = e} {h = y} {o = z} {l = l} {f = f} {g = q} i j h o p) = case_as n m w' v' s (said.Choice e y z) b (means.Choice l f q) i j (λ r.
      (both (λ (y z : Number). y ≡ z) (sym x) (ap (λ t. cond t (value w y) (else_value w z)) (formula_places e l r.0 h) ∙ ap₂ (cond (formula_truth (tree_of l) v)) (real_places y f r.1 o) (else_places z q r.2 p)), free))
  same_case n m w' v' s b x x' (logic {e} {l} i j h) = case_as n m w' v' s (said.Logic e) b (means.Logic l) i j (λ r. (both (λ (y z : Number). y ≡ z) (sym x) (ap bit (formula_places e l r h)), free))
  same_case n m w' v' s b x x' (linear {e} {f} i j h) = case_as n m w' v' s (said.Linear e) b (means.Linear f) i j (λ r. (both (λ (y z : Number). y ≡ z) (sym x) (real_places e f r h), free))
  same_case n m w' v' s b x x' (next_bool {e} {l} i j h) = case_as n m w' v' s (said.NextBool e) b (means.NextBool l) i j (λ r. (free, both (λ (y z : Number). y ≡ z) (sym x') (ap bit (formula_places e l r h))))
  same_case n m w' v' s b x x' (next_real {e} {f} i j h) = case_as n m w' v' s (said.NextReal e) b (means.NextReal f) i j (λ r. (free, both (λ (y z : Number). y ≡ z) (sym x') (real_places e f r h)))
  same_case n m w' v' s b x x' (out_bool {e} {l} k i j h) = case_as n m w' v' s (said.Output e) b (means.OutBool l) i j (λ r.
      let t = bool_output c.names (look c.names n) w e k r in (free, both (λ (y z : Number). y ≡ z) (sym x') (t.1 ∙ ap bit (formula_places e l t.0 h))))
  same_case n m w' v' s b x x' (out_real {e} {f} k i j h) = case_as n m w' v' s (said.Output e) b (means.OutReal f) i j (λ r.
      let t = real_output c.names (look c.names n) w e k r in (free, both (λ (y z : Number). y ≡ z) (sym x') (t.1 ∙ real_places e f t.0 h)))
  same_case n m w' v' s b x x' (must_hold {e} {l} z i j h) = case_as n m w' v' s (said.Must e) b (means.MustHold l) i j (λ r. (free, free))
  same_case n m w' v' s b x x' (must_most {e} {f} z i j h) = case_as n m w' v' s (said.Must e) b (means.MustMost f) i j (λ r. (free, free))
  same_case n m w' v' s b x x' (must_zero {x = y} {y = z} {p = p} {f = f} i j h) = case_as n m w' v' s (said.Must (tree.Binary binary.Equal y z p)) b (means.MustZero f) i j (λ r. (free, free))
