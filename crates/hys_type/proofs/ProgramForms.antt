-- The forms and formulas of a program name states, inputs and auxiliaries.
use Rattle.std.proofs.Common.{◌≡◌, ℕ, zero, suc, ◌+◌, ◌<◌, List, [], ◌∷◌, Option, Some, None, Bool, true, false, ◌&&◌, not, map, cond, length, refl, sym, ◌∙◌, ap, ap₂, subst, arith}
use Rattle.std.specs.Prelude.{IsTrue}
use Rattle.std.specs.Str.{bytes_eq}
use Rattle.std.specs.List.{AllByRecursion}
use Rattle.hys_number.specs.Number.{Number}
use Rattle.hys_number.specs.Ops.{◌+ₙ◌, ◌*ₙ◌, ◌-ₙ◌, ◌/ₙ◌, neg, inverse, whole}
use Rattle.hys_number.proofs.Ring.{by_ring, v, k, minus, ◌⊕◌, ◌⊗◌, ◌⊖◌}
use Rattle.hys_base.specs.Differ.{Apart, Differ}
use Rattle.hys_lin.specs.declared.form.Term.{Term}
use Rattle.hys_lin.specs.declared.form.Affine.{Affine}
use Rattle.hys_lin.specs.Sums.{AreTerms, EachColumn}
use Rattle.hys_lin.specs.Bits.{is_one}
use Rattle.hys_lin.specs.Scaled.{coefficient}
use Rattle.hys_ast.specs.declared.source.Section.{Section}
use Rattle.hys_ast.specs.declared.source.Section.TheVariants as section
use Rattle.hys_ast.specs.declared.source.Kind.{Kind}
use Rattle.hys_ast.specs.declared.source.Kind.TheVariants as kind
use Rattle.hys_ast.specs.declared.tree.UnaryOp.{UnaryOp}
use Rattle.hys_ast.specs.declared.tree.UnaryOp.TheVariants as unary
use Rattle.hys_ast.specs.declared.tree.BinaryOp.{BinaryOp}
use Rattle.hys_ast.specs.declared.tree.BinaryOp.TheVariants as binary
use Rattle.hys_ast.specs.Tree.{Tree, Decl}
use Rattle.hys_ast.specs.Tree as tree
use Rattle.hys_meaning.specs.Values.{Assignment, signed}
use Rattle.hys_meaning.specs.Names.{Name, name_of, look, is_parameter, is_output}
use Rattle.hys_meaning.specs.Forms.{Form, form, combined, looked_up, parameter_or, guard_form, guard_between}
use Rattle.hys_meaning.specs.Typed.{IsReal, IsFormula, IsComparison, IsMaybe, may_stand, is_real, is_bool}
use Rattle.hys_meaning.specs.Unfolded.{is_inequality}
use Rattle.hys_formula.specs.declared.formula.Formula.{Formula}
use Rattle.hys_formula.specs.Formulas.{EachName, FormulaTree, constant, named}
use Rattle.hys_prog.specs.declared.program.Name.{Name as ProgName}
use Rattle.hys_prog.specs.Programs.{NameAt, IsVariable, IsBooleanVariable, FormOver, FormulaOver, has_column}
use Rattle.hys_type.specs.Translation.{place_in, role_in, IsNameOf, OneByOne, HaveFactors, IsFormOf, IsFormulaOf, else_form, difference_form, formula, name_formula, signed_by, joined_by, connective_of}
use Rattle.hys_prog.proofs.Names.{name_map}
use Rattle.hys_type.proofs.KnownValues.{same_text, own_text, other_text}
use Rattle.hys_type.proofs.Agree.{texts_of, some_name}
use Rattle.hys_type.proofs.FormPlaces.{own_column, other_column}

-- ---- a declared name
-- a name of the program with the role and the kind of a declared one
pub record Stands (m : Name) (x : ProgName) : Type 0 where
  pub role : x.role ≡ role_in m.section
  pub kind : x.kind ≡ m.kind

pub stands_at : (u : Assignment) (ds : List Decl) (xs : List ProgName) → OneByOne (IsNameOf u) ds xs → (n : List ℕ) (m : Name) → look (map (name_of u) ds) n ≡ Some m → NameAt xs (place_in (map (name_of u) ds) n) (Stands m)
stands_at u [] xs h n m e = absurd (cc)
stands_at u (d ∷ ds) [] h n m e = absurd h
stands_at u (d ∷ ds) (x ∷ xs) h n m e = go (bytes_eq d.name n) e (stands_at u ds xs h.1 n m)
  where
    go : (b : Bool) → cond b (Some (name_of u d)) (look (map (name_of u) ds) n) ≡ Some m → (look (map (name_of u) ds) n ≡ Some m → NameAt xs (place_in (map (name_of u) ds) n) (Stands m)) →
        NameAt (x ∷ xs) (cond b 0 (suc (place_in (map (name_of u) ds) n))) (Stands m)
    go true e f = subst (λ m. Stands m x) (some_name (name_of u d) m e) (record { role = h.0.role; kind = h.0.kind })
    go false e f = f e

look_later : (x : Name) (ns : List Name) (ms : List Name) → Apart x.text (texts_of ms) → AllByRecursion (λ n. look ns n.text ≡ Some n) ms → AllByRecursion (λ n. look (x ∷ ns) n.text ≡ Some n) ms
look_later x ns [] a h = tt
look_later x ns (m ∷ ms) a h = (ap (λ b. cond b (Some x) (look ns m.text)) (other_text x.text m.text (λ e. a.0 (sym e))) ∙ h.0, look_later x ns ms a.1 h.1)

-- each declared name is the one that is found by its text
pub look_own : (ns : List Name) → Differ (texts_of ns) → AllByRecursion (λ n. look ns n.text ≡ Some n) ns
look_own [] h = tt
look_own (x ∷ ns) h = (ap (λ b. cond b (Some x) (look ns x.text)) (own_text x.text), look_later x ns ns h.0 (look_own ns h.1))

-- ---- names that stand in no form
-- a parameter is a constant, and an output stands nowhere
abbrev pub is_variable : Section → Bool
is_variable s = not (is_parameter s) && not (is_output s)

column_of : (s : Section) → IsTrue (is_variable s) → has_column (role_in s) ≡ true
column_of section.State h = refl
column_of section.Input h = refl
column_of section.Output h = absurd (cc)
column_of section.Parameter h = absurd (cc)
column_of section.Aux h = refl
column_of section.Ad h = refl
column_of section.Da h = refl
column_of section.Logic h = refl
column_of section.Linear h = refl
column_of section.Automata h = refl
column_of section.Continuous h = refl
column_of section.OutputItem h = refl
column_of section.Must h = refl

module _ (ns : List Name) (n : List ℕ) (m : Name) (found : look ns n ≡ Some m) (blank : is_variable m.section ≡ false) where
  no_name : (test : Kind → Bool) (q : List ℕ) (o : Option Name) → look ns q ≡ o → IsTrue (may_stand test o) → (looked_up q o).factor n ≡ whole 0
  no_name test q None e t = absurd (cc)
  no_name test q (Some y) e t = go (is_parameter y.section) refl (bytes_eq q n) refl
    where
      same : q ≡ n → Some y ≡ Some m
      same s = sym e ∙ ap (look ns) s ∙ found

      clash : is_parameter y.section ≡ false → y ≡ m → ⊥
      clash p s = never (is_parameter m.section) (is_output m.section) (test m.kind) (ap (λ (z : Name). is_parameter z.section) (sym s) ∙ p) (subst (λ (z : Name). IsTrue (test z.kind && not (is_output z.section))) s t) blank
        where
          never : (a b c : Bool) → a ≡ false → c && not b ≡ true → not a && not b ≡ false → ⊥
          never true b c h i j = absurd (cc)
          never false true true h i j = absurd (cc)
          never false true false h i j = absurd (cc)
          never false false c h i j = absurd (cc)

      go : (b : Bool) → is_parameter y.section ≡ b → (c : Bool) → bytes_eq q n ≡ c → (parameter_or q y.value b).factor n ≡ whole 0
      go true p c i = refl
      go false p true i = absurd (clash p (some_name y m (same (same_text q n i))))
      go false p false i = ap (λ b. cond b (whole 1) (whole 0)) i

  signed_zero : (op : UnaryOp) (a : Number) → a ≡ whole 0 → signed op a ≡ whole 0
  signed_zero unary.Not a h = refl
  signed_zero unary.Neg a h = ap neg h ∙ by_ring [] (minus (k 0)) (k 0) refl
  signed_zero unary.Plus a h = h

  combined_zero : (op : BinaryOp) (f g : Form) → f.factor n ≡ whole 0 → g.factor n ≡ whole 0 → (combined op f g).factor n ≡ whole 0
  combined_zero binary.Add f g h i = ap₂ (λ a b. a +ₙ b) h i ∙ by_ring [] (k 0 ⊕ k 0) (k 0) refl
  combined_zero binary.Sub f g h i = ap₂ (λ a b. a -ₙ b) h i ∙ by_ring [] (k 0 ⊖ k 0) (k 0) refl
  combined_zero binary.Mul f g h i = ap₂ (λ a b. a *ₙ g.constant +ₙ f.constant *ₙ b) h i ∙ by_ring (f.constant ∷ g.constant ∷ []) (k 0 ⊗ v 1 ⊕ v 0 ⊗ k 0) (k 0) refl
  combined_zero binary.Div f g h i = ap (λ a. a /ₙ g.constant) h ∙ by_ring (inverse g.constant ∷ []) (k 0 ⊗ v 0) (k 0) refl
  combined_zero binary.And f g h i = refl
  combined_zero binary.Or f g h i = refl
  combined_zero binary.Iff f g h i = refl
  combined_zero binary.Then f g h i = refl
  combined_zero binary.From f g h i = refl
  combined_zero binary.Most f g h i = refl
  combined_zero binary.Least f g h i = refl
  combined_zero binary.Equal f g h i = refl

  pub no_factor : (e : Tree) → IsReal ns e → (form ns e).factor n ≡ whole 0
  no_factor (tree.Number text p) r = refl
  no_factor (tree.Name q p) r = no_name is_real q (look ns q) refl r
  no_factor (tree.Truth b p) r = refl
  no_factor (tree.Cast q p) r = no_name is_bool q (look ns q) refl r
  no_factor (tree.Unary op a p) r = signed_zero op ((form ns a).factor n) (no_factor a r.1)
  no_factor (tree.Binary op a b p) r = combined_zero op (form ns a) (form ns b) (no_factor a r.0) (no_factor b r.1)

  between_zero : (op : BinaryOp) (f g : Form) → f.factor n ≡ whole 0 → g.factor n ≡ whole 0 → (guard_between op f g).factor n ≡ whole 0
  between_zero binary.Most f g h i = combined_zero binary.Sub f g h i
  between_zero binary.Least f g h i = combined_zero binary.Sub g f i h
  between_zero binary.Add f g h i = refl
  between_zero binary.Sub f g h i = refl
  between_zero binary.Mul f g h i = refl
  between_zero binary.Div f g h i = refl
  between_zero binary.And f g h i = refl
  between_zero binary.Or f g h i = refl
  between_zero binary.Iff f g h i = refl
  between_zero binary.Then f g h i = refl
  between_zero binary.From f g h i = refl
  between_zero binary.Equal f g h i = refl

  pub no_guard_factor : (e : Tree) → IsComparison is_inequality ns e → (guard_form ns e).factor n ≡ whole 0
  no_guard_factor (tree.Number text p) r = refl
  no_guard_factor (tree.Name q p) r = refl
  no_guard_factor (tree.Truth b p) r = refl
  no_guard_factor (tree.Cast q p) r = refl
  no_guard_factor (tree.Unary op a p) r = refl
  no_guard_factor (tree.Binary op a b p) r = between_zero op (form ns a) (form ns b) (no_factor a r.1) (no_factor b r.2)

  pub no_difference_factor : (a b : Tree) → IsReal ns a → IsReal ns b → (difference_form ns a b).factor n ≡ whole 0
  no_difference_factor a b r s = combined_zero binary.Sub (form ns a) (form ns b) (no_factor a r) (no_factor b s)

  pub no_else_factor : (o : Option Tree) → IsMaybe (IsReal ns) o → (else_form ns o).factor n ≡ whole 0
  no_else_factor (Some e) r = no_factor e r
  no_else_factor None r = refl

-- ---- forms
-- the form has factors of variables alone
abbrev pub OnlyVariables : List Name → Form → Type 0
OnlyVariables ns g = (n : List ℕ) (m : Name) → look ns n ≡ Some m → is_variable m.section ≡ false → g.factor n ≡ whole 0

at_column : (u : Assignment) (j : ℕ) (ds : List Decl) (xs : List ProgName) (g : Form) (ts : List Term) → OneByOne (IsNameOf u) ds xs → HaveFactors j (map (name_of u) ds) g ts →
    AllByRecursion (λ n. is_variable n.section ≡ false → g.factor n.text ≡ whole 0) (map (name_of u) ds) → (i c : ℕ) → c ≡ j + i → i < length (map (name_of u) ds) → ¬ (coefficient ts c ≡ whole 0) → NameAt xs i IsVariable
at_column u j [] xs g ts h f q i c e l z = absurd (omega (arith, l))
at_column u j (d ∷ ds) [] g ts h f q i c e l z = absurd h
at_column u j (d ∷ ds) (x ∷ xs) g ts h f q zero c e l z = go (is_variable d.section) refl
  where
    go : (b : Bool) → is_variable d.section ≡ b → IsVariable x
    go true t = ap has_column h.0.role ∙ column_of d.section t
    go false t = absurd (z (subst (λ c. coefficient ts c ≡ whole 0) (omega (arith, e)) (f.0 ∙ q.0 t)))
at_column u j (d ∷ ds) (x ∷ xs) g ts h f q (suc i) c e l z = at_column u (suc j) ds xs g ts h.1 f.1 q.1 i c (omega (arith, e)) (omega (arith, l)) z

own_factor : (ts : List Term) → AreTerms ts → EachColumn (λ c. ¬ (coefficient ts c ≡ whole 0)) ts
own_factor [] r = tt
own_factor (t ∷ ts) r = (
  λ e. r.0 (sym (ap (λ b. cond b t.factor (coefficient ts t.column)) (own_column t.column)) ∙ e),
  later ts (own_factor ts r.2) r.1,
)
  where
    later : (ss : List Term) → EachColumn (λ c. ¬ (coefficient ts c ≡ whole 0)) ss → EachColumn (λ c. t.column < c) ss → EachColumn (λ c. ¬ (coefficient (t ∷ ts) c ≡ whole 0)) ss
    later [] h l = tt
    later (s ∷ ss) h l = (λ e. h.0 (sym (ap (λ b. cond b t.factor (coefficient ts s.column)) (other_column t.column s.column (λ q. absurd (omega (arith, q, l.0))))) ∙ e), later ss h.1 l.1)

each_both : (P Q R : ℕ → Type 0) → ((c : ℕ) → P c → Q c → R c) → (ts : List Term) → EachColumn P ts → EachColumn Q ts → EachColumn R ts
each_both P Q R f [] p q = tt
each_both P Q R f (t ∷ ts) p q = (f t.column p.0 q.0, each_both P Q R f ts p.1 q.1)

only_declared : (g : Form) (ns : List Name) (ms : List Name) → OnlyVariables ns g → AllByRecursion (λ n. look ns n.text ≡ Some n) ms → AllByRecursion (λ n. is_variable n.section ≡ false → g.factor n.text ≡ whole 0) ms
only_declared g ns [] o h = tt
only_declared g ns (m ∷ ms) o h = (λ b. o m.text m h.0 b, only_declared g ns ms o h.1)

pub form_over : (u : Assignment) (ds : List Decl) (xs : List ProgName) (g : Form) (f : Affine) → Differ (texts_of (map (name_of u) ds)) → OneByOne (IsNameOf u) ds xs → OnlyVariables (map (name_of u) ds) g → IsFormOf (map (name_of u) ds) g f → FormOver xs f
form_over u ds xs g f a h o i = (
  i.terms.rise,
  each_both (λ c. c < length (map (name_of u) ds)) (λ c. ¬ (coefficient f.terms c ≡ whole 0)) (λ c. NameAt xs c IsVariable)
      (λ c l z. at_column u 0 ds xs g f.terms h i.factors (only_declared g (map (name_of u) ds) (map (name_of u) ds) o (look_own (map (name_of u) ds) a)) c c (omega arith) l z)
      f.terms i.terms.below (own_factor f.terms i.terms.rise),
)

-- ---- formulas
boolean_at : (u : Assignment) (ds : List Decl) (xs : List ProgName) → OneByOne (IsNameOf u) ds xs → (n : List ℕ) (o : Option Name) → look (map (name_of u) ds) n ≡ o → IsTrue (may_stand is_bool o) →
    EachName (λ k. NameAt xs k IsBooleanVariable) (name_formula (map (name_of u) ds) n o)
boolean_at u ds xs h n None e t = absurd (cc)
boolean_at u ds xs h n (Some m) e t = go (is_parameter m.section) refl
  where
    bool_kind : (k : Kind) (b : Bool) → is_bool k && b ≡ true → k ≡ kind.Bool
    bool_kind kind.Real b h = absurd (cc)
    bool_kind kind.Bool b h = refl

    variable : (a b c : Bool) → a ≡ false → c && not b ≡ true → not a && not b ≡ true
    variable true b c h i = absurd (cc)
    variable false true true h i = absurd (cc)
    variable false true false h i = absurd (cc)
    variable false false c h i = refl

    go : (b : Bool) → is_parameter m.section ≡ b → EachName (λ k. NameAt xs k IsBooleanVariable) (cond b (constant (is_one m.value)) (named (place_in (map (name_of u) ds) n)))
    go true p = tt
    go false p = name_map (Stands m) IsBooleanVariable xs (place_in (map (name_of u) ds) n)
        (λ x s. (ap has_column s.role ∙ column_of m.section (variable (is_parameter m.section) (is_output m.section) (is_bool m.kind) p t), s.kind ∙ bool_kind m.kind (not (is_output m.section)) t))
        (stands_at u ds xs h n m e)

signed_names : (P : ℕ → Type 0) (op : UnaryOp) (f : FormulaTree) → EachName P f → EachName P (signed_by op f)
signed_names P unary.Not f h = h
signed_names P unary.Neg f h = tt
signed_names P unary.Plus f h = tt

joined_names : (P : ℕ → Type 0) (op : BinaryOp) (f g : FormulaTree) → EachName P f → EachName P g → EachName P (joined_by (connective_of op) f g)
joined_names P binary.Add f g h i = tt
joined_names P binary.Sub f g h i = tt
joined_names P binary.Mul f g h i = tt
joined_names P binary.Div f g h i = tt
joined_names P binary.And f g h i = (h, i)
joined_names P binary.Or f g h i = (h, i)
joined_names P binary.Iff f g h i = (h, i)
joined_names P binary.Then f g h i = (h, i)
joined_names P binary.From f g h i = (h, i)
joined_names P binary.Most f g h i = tt
joined_names P binary.Least f g h i = tt
joined_names P binary.Equal f g h i = tt

formula_names : (u : Assignment) (ds : List Decl) (xs : List ProgName) → OneByOne (IsNameOf u) ds xs → (e : Tree) → IsFormula (map (name_of u) ds) e → EachName (λ k. NameAt xs k IsBooleanVariable) (formula (map (name_of u) ds) e)
formula_names u ds xs h (tree.Number text p) r = absurd r
formula_names u ds xs h (tree.Name n p) r = boolean_at u ds xs h n (look (map (name_of u) ds) n) refl r
formula_names u ds xs h (tree.Truth b p) r = tt
formula_names u ds xs h (tree.Cast n p) r = absurd r
formula_names u ds xs h (tree.Unary op a p) r = signed_names (λ k. NameAt xs k IsBooleanVariable) op (formula (map (name_of u) ds) a) (formula_names u ds xs h a r.1)
formula_names u ds xs h (tree.Binary op a b p) r =
    joined_names (λ k. NameAt xs k IsBooleanVariable) op (formula (map (name_of u) ds) a) (formula (map (name_of u) ds) b) (formula_names u ds xs h a r.1) (formula_names u ds xs h b r.2)

pub formula_over : (u : Assignment) (ds : List Decl) (xs : List ProgName) (e : Tree) (l : Formula) → OneByOne (IsNameOf u) ds xs → IsFormula (map (name_of u) ds) e → IsFormulaOf (map (name_of u) ds) e l → FormulaOver xs l
formula_over u ds xs e l h r i = subst (EachName (λ k. NameAt xs k IsBooleanVariable)) (sym i) (formula_names u ds xs h e r)
