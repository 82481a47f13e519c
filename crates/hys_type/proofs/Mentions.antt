-- What a definition mentions, by texts and by places.
use Rattle.std.proofs.Common.{◌≡◌, ℕ, suc, ◌+◌, ◌<◌, List, [], ◌∷◌, Option, Some, None, Bool, true, false, ◌||◌, ◌⊎◌, inl, inr, ◌↔◌, cond, refl, sym, ◌∙◌, ap, subst, arith}
use Rattle.std.specs.Prelude.{IsTrue, nat_eq}
use Rattle.std.specs.Str.{bytes_eq}
use Rattle.std.proofs.Math.Path.{subst₂}
use Rattle.hys_number.specs.Ops.{whole}
use Rattle.hys_lin.specs.Bits.{is_one}
use Rattle.hys_lin.specs.declared.form.Term.{Term}
use Rattle.hys_lin.specs.declared.form.Affine.{Affine}
use Rattle.hys_lin.specs.Sums.{AreTerms, EachColumn}
use Rattle.hys_lin.specs.Scaled.{coefficient}
use Rattle.hys_ast.specs.declared.source.Kind.{Kind}
use Rattle.hys_ast.specs.declared.tree.UnaryOp.{UnaryOp}
use Rattle.hys_ast.specs.declared.tree.UnaryOp.TheVariants as unary
use Rattle.hys_ast.specs.declared.tree.BinaryOp.{BinaryOp}
use Rattle.hys_ast.specs.declared.tree.BinaryOp.TheVariants as binary
use Rattle.hys_ast.specs.Tree.{Tree}
use Rattle.hys_ast.specs.Tree as tree
use Rattle.hys_meaning.specs.Names.{Name, look, is_parameter}
use Rattle.hys_meaning.specs.Forms.{Form, form}
use Rattle.hys_meaning.specs.Bodies as said
use Rattle.hys_meaning.specs.Typed.{IsFormula, RightTyped, may_stand, is_bool, is_negation, is_connective}
use Rattle.hys_meaning.specs.Circular.{stands, HasFactor, InMaybe}
use Rattle.hys_meaning.specs.Circular as source
use Rattle.hys_formula.specs.declared.formula.Formula.{Formula}
use Rattle.hys_formula.specs.Formulas.{FormulaTree, constant, named, tree_of}
use Rattle.hys_prog.specs.declared.program.Body.{Body}
use Rattle.hys_prog.specs.declared.program.Body.TheVariants as means
use Rattle.hys_prog.specs.Orders.{Stands, HasTerm}
use Rattle.hys_prog.specs.Orders as program
use Rattle.hys_type.specs.Translation.{Setting, HaveFactors, IsFormOf, IsFormulaOf, IsBodyOf, guard, choice, logic, linear, next_bool, next_real, out_bool, out_real, must_hold, must_most, must_zero, place_in, else_form, formula, name_formula, signed_by, joined_by, connective_of}
use Rattle.hys_type.proofs.KnownValues.{same_text, own_text}
use Rattle.hys_type.proofs.Agree.{some_name}
use Rattle.hys_type.proofs.FormPlaces.{same_column, own_column, other_column}
use Rattle.hys_type.proofs.ProgramItems.{place_injective}

-- ---- factors
factor_from : (j : ℕ) (ns : List Name) (g : Form) (ts : List Term) (n : List ℕ) (m : Name) (i : ℕ) → HaveFactors j ns g ts → look ns n ≡ Some m → i ≡ j + place_in ns n → coefficient ts i ≡ g.factor n
factor_from j [] g ts n m i h l e = absurd (cc)
factor_from j (x ∷ ns) g ts n m i h l e = go (bytes_eq x.text n) refl l e (factor_from (suc j) ns g ts n m i h.1)
  where
    go : (b : Bool) → bytes_eq x.text n ≡ b → cond b (Some x) (look ns n) ≡ Some m → i ≡ j + cond b 0 (suc (place_in ns n)) → (look ns n ≡ Some m → i ≡ suc j + place_in ns n → coefficient ts i ≡ g.factor n) → coefficient ts i ≡ g.factor n
    go true s l e f = let q : i ≡ j = omega (arith, e) in ap (coefficient ts) q ∙ h.0 ∙ ap g.factor (same_text x.text n s)
    go false s l e f = f l (omega (arith, e))

later_column : (c j : ℕ) (ts : List Term) → EachColumn (λ d. c < d) ts → HasTerm j ts → c < j
later_column c j [] h t = absurd t
later_column c j (t ∷ ts) h (inl e) = omega (arith, e, h.0)
later_column c j (t ∷ ts) h (inr r) = later_column c j ts h.1 r

term_counts : (ts : List Term) (j : ℕ) → AreTerms ts → HasTerm j ts → ¬ (coefficient ts j ≡ whole 0)
term_counts [] j r h e = absurd h
term_counts (t ∷ ts) j r (inl s) e = r.0 (sym (ap (λ b. cond b t.factor (coefficient ts j)) (ap (λ c. nat_eq c j) s ∙ own_column j)) ∙ e)
term_counts (t ∷ ts) j r (inr h) e =
    let l : t.column < j = later_column t.column j ts r.1 h in
    term_counts ts j r.2 h (sym (ap (λ b. cond b t.factor (coefficient ts j)) (other_column t.column j (λ s. absurd (omega (arith, s, l))))) ∙ e)

counts_term : (ts : List Term) (j : ℕ) → ¬ (coefficient ts j ≡ whole 0) → HasTerm j ts
counts_term [] j h = absurd (h refl)
counts_term (t ∷ ts) j h = go (nat_eq t.column j) refl h (counts_term ts j)
  where
    go : (b : Bool) → nat_eq t.column j ≡ b → ¬ (cond b t.factor (coefficient ts j) ≡ whole 0) → (¬ (coefficient ts j ≡ whole 0) → HasTerm j ts) → HasTerm j (t ∷ ts)
    go true e h f = inl (same_column t.column j e)
    go false e h f = inr (f h)

form_mentions : (ns : List Name) (g : Form) (f : Affine) (n : List ℕ) (m : Name) → look ns n ≡ Some m → IsFormOf ns g f → HasFactor n g ↔ HasTerm (place_in ns n) f.terms
form_mentions ns g f n m l h =
    let e : coefficient f.terms (place_in ns n) ≡ g.factor n = factor_from 0 ns g f.terms n m (place_in ns n) h.factors l (omega arith) in
    (λ q. counts_term f.terms (place_in ns n) (λ z. q (sym e ∙ z)), λ q z. term_counts f.terms (place_in ns n) h.terms.rise q (e ∙ z))

-- ---- formulas
or_either : (a b : Bool) → IsTrue (a || b) → IsTrue a ⊎ IsTrue b
or_either true b h = inl h
or_either false b h = inr h

either_or : (a b : Bool) → IsTrue a ⊎ IsTrue b → IsTrue (a || b)
either_or true b h = refl
either_or false b (inl h) = absurd (cc)
either_or false b (inr h) = h

one_there : {A B C D : Type 0} → A ↔ C → B ↔ D → A ⊎ B → C ⊎ D
one_there f g (inl h) = inl (f.0 h)
one_there f g (inr h) = inr (g.0 h)

one_of : {A B C D : Type 0} → A ↔ C → B ↔ D → (A ⊎ B) ↔ (C ⊎ D)
one_of f g = (one_there f g, one_there (f.1, f.0) (g.1, g.0))

or_both : {A B : Type 0} (b c : Bool) → IsTrue b ↔ A → IsTrue c ↔ B → IsTrue (b || c) ↔ (A ⊎ B)
or_both b c f g = (λ x. (one_of f g).0 (or_either b c x), λ x. either_or b c ((one_of f g).1 x))

joined_stands : (j : ℕ) (op : BinaryOp) (f g : FormulaTree) → IsTrue (is_connective op) → Stands j (joined_by (connective_of op) f g) ≡ (Stands j f ⊎ Stands j g)
joined_stands j binary.Add f g h = absurd (cc)
joined_stands j binary.Sub f g h = absurd (cc)
joined_stands j binary.Mul f g h = absurd (cc)
joined_stands j binary.Div f g h = absurd (cc)
joined_stands j binary.And f g h = refl
joined_stands j binary.Or f g h = refl
joined_stands j binary.Iff f g h = refl
joined_stands j binary.Then f g h = refl
joined_stands j binary.From f g h = refl
joined_stands j binary.Most f g h = absurd (cc)
joined_stands j binary.Least f g h = absurd (cc)
joined_stands j binary.Equal f g h = absurd (cc)

signed_stands : (j : ℕ) (op : UnaryOp) (f : FormulaTree) → IsTrue (is_negation op) → Stands j (signed_by op f) ≡ Stands j f
signed_stands j unary.Not f h = refl
signed_stands j unary.Neg f h = absurd (cc)
signed_stands j unary.Plus f h = absurd (cc)

-- a type on either side of an equation
as_left : {A B C : Type 0} → B ≡ C → A ↔ C → A ↔ B
as_left {A} e h = subst (λ X. A ↔ X) (sym e) h

name_stands : (ns : List Name) (n : List ℕ) (m : Name) → look ns n ≡ Some m → is_parameter m.section ≡ false → (q : List ℕ) (o : Option Name) → look ns q ≡ o → IsTrue (may_stand is_bool o) → IsTrue (bytes_eq n q) ↔ Stands (place_in ns n) (name_formula ns q o)
name_stands ns n m l a q None e t = absurd (cc)
name_stands ns n m l a q (Some z) e t = go (is_parameter z.section) refl
  where
    clash : is_parameter z.section ≡ true → n ≡ q → ⊥
    clash p s = never (sym a ∙ ap (λ (y : Name). is_parameter y.section) (some_name m z (sym l ∙ ap (look ns) s ∙ e)) ∙ p)
      where
        never : false ≡ true → ⊥
        never e = absurd (cc)

    go : (b : Bool) → is_parameter z.section ≡ b → IsTrue (bytes_eq n q) ↔ Stands (place_in ns n) (cond b (constant (is_one z.value)) (named (place_in ns q)))
    go true p = (λ h. clash p (same_text n q h), λ h. absurd h)
    go false p = (
      λ h. ap (place_in ns) (sym (same_text n q h)),
      λ h. ap (bytes_eq n) (place_injective ns q n z m e l h) ∙ own_text n,
    )

formula_mentions : (ns : List Name) (n : List ℕ) (m : Name) → look ns n ≡ Some m → is_parameter m.section ≡ false → (e : Tree) → IsFormula ns e → IsTrue (stands n e) ↔ Stands (place_in ns n) (formula ns e)
formula_mentions ns n m l a (tree.Number text p) r = absurd r
formula_mentions ns n m l a (tree.Name q p) r = name_stands ns n m l a q (look ns q) refl r
formula_mentions ns n m l a (tree.Truth b p) r = (λ h. absurd (cc), λ h. absurd h)
formula_mentions ns n m l a (tree.Cast q p) r = absurd r
formula_mentions ns n m l a (tree.Unary op x p) r = as_left (signed_stands (place_in ns n) op (formula ns x) r.0) (formula_mentions ns n m l a x r.1)
formula_mentions ns n m l a (tree.Binary op x y p) r = as_left (joined_stands (place_in ns n) op (formula ns x) (formula ns y) r.0)
    (or_both (stands n x) (stands n y) (formula_mentions ns n m l a x r.1) (formula_mentions ns n m l a y r.2))

tree_mentions : (ns : List Name) (n : List ℕ) (m : Name) → look ns n ≡ Some m → is_parameter m.section ≡ false → (e : Tree) (t : Formula) → IsFormula ns e → IsFormulaOf ns e t → IsTrue (stands n e) ↔ Stands (place_in ns n) (tree_of t)
tree_mentions ns n m l a e t r i = as_left (ap (Stands (place_in ns n)) i) (formula_mentions ns n m l a e r)

-- ---- bodies
module _ (c : Setting) (n : List ℕ) (m : Name) (l : look c.names n ≡ Some m) (a : is_parameter m.section ≡ false) where
  else_mentions : (o : Option Tree) (f : Affine) → IsFormOf c.names (else_form c.names o) f → InMaybe (λ e. HasFactor n (form c.names e)) o ↔ HasTerm (place_in c.names n) f.terms
  else_mentions (Some e) f h = form_mentions c.names (form c.names e) f n m l h
  else_mentions None f h = (λ z. absurd z, λ z. (form_mentions c.names (else_form c.names None) f n m l h).1 z refl)

  abbrev SameMentions : Option Name → said.Body → Body → Type 0
  SameMentions o s b = RightTyped c.names o s → source.MentionedIn c.names n s ↔ program.MentionedIn (place_in c.names n) b

  mentions_as : (o : Option Name) (s s' : said.Body) (b b' : Body) → s ≡ s' → b ≡ b' → SameMentions o s' b' → SameMentions o s b
  mentions_as o s s' b b' i j h = subst₂ (SameMentions o) (sym i) (sym j) h

  none : ⊥ ↔ ⊥
  none = (λ x. x, λ x. x)

  pub body_mentions : (o : Option Name) (k : Option Kind) (s : said.Body) (b : Body) → IsBodyOf c k s b → SameMentions o s b
  body_mentions o k s b (guard {e = y} {t = t} {f = f} {eps = eps} i j q z) = mentions_as o s (said.Guard y t) b (means.Guard f eps) i j (λ r. form_mentions c.names _ f n m l q)
  body_mentions o k s b (choice {e = y} {h = t} {o = x} {l = w} {f = f} {g = g} i j q z u) = mentions_as o s (said.Choice y t x) b (means.Choice w f g) i j (λ r.
      one_of (tree_mentions c.names n m l a y w r.0 q) (one_of (form_mentions c.names (form c.names t) f n m l z) (else_mentions x g u)))
  body_mentions o k s b (logic {e = y} {l = w} i j z) = mentions_as o s (said.Logic y) b (means.Logic w) i j (λ r. tree_mentions c.names n m l a y w r z)
  body_mentions o k s b (linear {e = y} {f = f} i j z) = mentions_as o s (said.Linear y) b (means.Linear f) i j (λ r. form_mentions c.names _ f n m l z)
  body_mentions o k s b (next_bool {e = y} {l = w} i j z) = mentions_as o s (said.NextBool y) b (means.NextBool w) i j (λ r. none)
  body_mentions o k s b (next_real {e = y} {f = f} i j z) = mentions_as o s (said.NextReal y) b (means.NextReal f) i j (λ r. none)
  body_mentions o k s b (out_bool {e = y} {l = w} x i j z) = mentions_as o s (said.Output y) b (means.OutBool w) i j (λ r. none)
  body_mentions o k s b (out_real {e = y} {f = f} x i j z) = mentions_as o s (said.Output y) b (means.OutReal f) i j (λ r. none)
  body_mentions o k s b (must_hold {e = y} {l = w} x i j z) = mentions_as o s (said.Must y) b (means.MustHold w) i j (λ r. none)
  body_mentions o k s b (must_most {e = y} {f = f} x i j z) = mentions_as o s (said.Must y) b (means.MustMost f) i j (λ r. none)
  body_mentions o k s b (must_zero {x = y} {y = w} {p = p} {f = f} i j z) = mentions_as o s (said.Must (tree.Binary binary.Equal y w p)) b (means.MustZero f) i j (λ r. none)
