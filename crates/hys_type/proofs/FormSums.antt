-- The number of a real expression is the sum of its form over the declared names.
use Rattle.std.proofs.Common.{◌≡◌, ℕ, List, [], ◌∷◌, Option, Some, None, Bool, true, false, ◌⊎◌, inl, inr, cond, refl, sym, ◌∙◌, ap, ap₂, subst}
use Rattle.std.specs.Prelude.{IsTrue}
use Rattle.std.specs.Str.{bytes_eq}
use Rattle.std.specs.List.{AllByRecursion}
use Rattle.hys_number.specs.Number.{Number}
use Rattle.hys_number.specs.Ops.{◌+ₙ◌, ◌*ₙ◌, ◌-ₙ◌, ◌/ₙ◌, neg, inverse, whole}
use Rattle.hys_number.proofs.Ring.{by_ring, v, k, minus, ◌⊕◌, ◌⊗◌, ◌⊖◌}
use Rattle.hys_base.specs.Differ.{Apart, Differ}
use Rattle.hys_ast.specs.declared.tree.UnaryOp.{UnaryOp}
use Rattle.hys_ast.specs.declared.tree.UnaryOp.TheVariants as unary
use Rattle.hys_ast.specs.declared.tree.BinaryOp.{BinaryOp}
use Rattle.hys_ast.specs.declared.tree.BinaryOp.TheVariants as binary
use Rattle.hys_ast.specs.declared.source.Kind.{Kind}
use Rattle.hys_ast.specs.Tree.{Tree}
use Rattle.hys_ast.specs.Tree as tree
use Rattle.hys_meaning.specs.Values.{Assignment, value, signed, computed, guard_of, guard_number, literal}
use Rattle.hys_meaning.specs.Names.{Name, look, is_parameter}
use Rattle.hys_meaning.specs.Forms.{Form, IsConstant, number_form, unit_form, looked_up, parameter_or, combined, form, Folds, guard_form, guard_between}
use Rattle.hys_meaning.specs.Typed.{IsReal, IsComparison, may_stand, is_sign, is_real, is_bool}
use Rattle.hys_meaning.specs.Unfolded.{is_inequality}
use Rattle.hys_type.specs.Translation.{difference_form}
use Rattle.hys_type.proofs.KnownValues.{same_text, own_text, other_text}
use Rattle.hys_type.proofs.Agree.{texts_of, found_name}

-- ---- the sum of factor times number over the declared names
abbrev pub form_sum : List Name → (List ℕ → Number) → Assignment → Number
form_sum [] f w = whole 0
form_sum (n ∷ ns) f w = f n.text *ₙ w n.text +ₙ form_sum ns f w

abbrev pub form_number : List Name → Form → Assignment → Number
form_number ns g w = form_sum ns g.factor w +ₙ g.constant

sum_none : (ns : List Name) (f : List ℕ → Number) (w : Assignment) → ((n : List ℕ) → f n ≡ whole 0) → form_sum ns f w ≡ whole 0
sum_none [] f w h = refl
sum_none (n ∷ ns) f w h = ap₂ (λ x y. x *ₙ w n.text +ₙ y) (h n.text) (sum_none ns f w h) ∙ by_ring (w n.text ∷ []) (k 0 ⊗ v 0 ⊕ k 0) (k 0) refl

sum_plus : (ns : List Name) (f g : List ℕ → Number) (w : Assignment) → form_sum ns (λ n. f n +ₙ g n) w ≡ form_sum ns f w +ₙ form_sum ns g w
sum_plus [] f g w = by_ring [] (k 0) (k 0 ⊕ k 0) refl
sum_plus (n ∷ ns) f g w =
    ap (λ y. (f n.text +ₙ g n.text) *ₙ w n.text +ₙ y) (sum_plus ns f g w)
    ∙ by_ring (f n.text ∷ g n.text ∷ w n.text ∷ form_sum ns f w ∷ form_sum ns g w ∷ []) ((v 0 ⊕ v 1) ⊗ v 2 ⊕ (v 3 ⊕ v 4)) ((v 0 ⊗ v 2 ⊕ v 3) ⊕ (v 1 ⊗ v 2 ⊕ v 4)) refl

sum_minus : (ns : List Name) (f g : List ℕ → Number) (w : Assignment) → form_sum ns (λ n. f n -ₙ g n) w ≡ form_sum ns f w -ₙ form_sum ns g w
sum_minus [] f g w = by_ring [] (k 0) (k 0 ⊖ k 0) refl
sum_minus (n ∷ ns) f g w =
    ap (λ y. (f n.text -ₙ g n.text) *ₙ w n.text +ₙ y) (sum_minus ns f g w)
    ∙ by_ring (f n.text ∷ g n.text ∷ w n.text ∷ form_sum ns f w ∷ form_sum ns g w ∷ []) ((v 0 ⊖ v 1) ⊗ v 2 ⊕ (v 3 ⊖ v 4)) ((v 0 ⊗ v 2 ⊕ v 3) ⊖ (v 1 ⊗ v 2 ⊕ v 4)) refl

sum_neg : (ns : List Name) (f : List ℕ → Number) (w : Assignment) → form_sum ns (λ n. neg (f n)) w ≡ neg (form_sum ns f w)
sum_neg [] f w = by_ring [] (k 0) (minus (k 0)) refl
sum_neg (n ∷ ns) f w =
    ap (λ y. neg (f n.text) *ₙ w n.text +ₙ y) (sum_neg ns f w)
    ∙ by_ring (f n.text ∷ w n.text ∷ form_sum ns f w ∷ []) (minus (v 0) ⊗ v 1 ⊕ minus (v 2)) (minus (v 0 ⊗ v 1 ⊕ v 2)) refl

sum_times : (ns : List Name) (f : List ℕ → Number) (c : Number) (w : Assignment) → form_sum ns (λ n. f n *ₙ c) w ≡ form_sum ns f w *ₙ c
sum_times [] f c w = by_ring (c ∷ []) (k 0) (k 0 ⊗ v 0) refl
sum_times (n ∷ ns) f c w =
    ap (λ y. (f n.text *ₙ c) *ₙ w n.text +ₙ y) (sum_times ns f c w)
    ∙ by_ring (f n.text ∷ c ∷ w n.text ∷ form_sum ns f w ∷ []) ((v 0 ⊗ v 1) ⊗ v 2 ⊕ v 3 ⊗ v 1) ((v 0 ⊗ v 2 ⊕ v 3) ⊗ v 1) refl

sum_product : (ns : List Name) (f g : List ℕ → Number) (c d : Number) (w : Assignment) → form_sum ns (λ n. f n *ₙ d +ₙ c *ₙ g n) w ≡ form_sum ns f w *ₙ d +ₙ c *ₙ form_sum ns g w
sum_product [] f g c d w = by_ring (c ∷ d ∷ []) (k 0) (k 0 ⊗ v 1 ⊕ v 0 ⊗ k 0) refl
sum_product (n ∷ ns) f g c d w =
    ap (λ y. (f n.text *ₙ d +ₙ c *ₙ g n.text) *ₙ w n.text +ₙ y) (sum_product ns f g c d w)
    ∙ by_ring (f n.text ∷ g n.text ∷ c ∷ d ∷ w n.text ∷ form_sum ns f w ∷ form_sum ns g w ∷ [])
    ((v 0 ⊗ v 3 ⊕ v 2 ⊗ v 1) ⊗ v 4 ⊕ (v 5 ⊗ v 3 ⊕ v 2 ⊗ v 6)) ((v 0 ⊗ v 4 ⊕ v 5) ⊗ v 3 ⊕ v 2 ⊗ (v 1 ⊗ v 4 ⊕ v 6)) refl

-- ---- a name alone
sum_apart : (ns : List Name) (n : List ℕ) (w : Assignment) → Apart n (texts_of ns) → form_sum ns (unit_form n).factor w ≡ whole 0
sum_apart [] n w a = refl
sum_apart (m ∷ ns) n w a =
    ap₂ (λ b y. cond b (whole 1) (whole 0) *ₙ w m.text +ₙ y) (other_text n m.text (λ e. a.0 (sym e))) (sum_apart ns n w a.1) ∙ by_ring (w m.text ∷ []) (k 0 ⊗ v 0 ⊕ k 0) (k 0) refl

sum_unit : (ns : List Name) (n : List ℕ) (m : Name) (w : Assignment) → Differ (texts_of ns) → look ns n ≡ Some m → form_sum ns (unit_form n).factor w ≡ w n
sum_unit [] n m w d h = absurd (cc)
sum_unit (x ∷ ns) n m w d h = go (bytes_eq x.text n) refl h (sum_unit ns n m w d.1)
  where
    go : (b : Bool) → bytes_eq x.text n ≡ b → cond b (Some x) (look ns n) ≡ Some m → (look ns n ≡ Some m → form_sum ns (unit_form n).factor w ≡ w n) →
        cond (bytes_eq n x.text) (whole 1) (whole 0) *ₙ w x.text +ₙ form_sum ns (unit_form n).factor w ≡ w n
    go true i h f =
        let s : x.text ≡ n = same_text x.text n i in
        ap₂ (λ b y. cond b (whole 1) (whole 0) *ₙ w x.text +ₙ y) (ap (bytes_eq n) s ∙ own_text n) (sum_apart ns n w (subst (λ t. Apart t (texts_of ns)) s d.0))
        ∙ by_ring (w x.text ∷ []) (k 1 ⊗ v 0 ⊕ k 0) (v 0) refl ∙ ap w s
    go false i h f =
        let o : bytes_eq n x.text ≡ false = other_text n x.text (λ e. not_false (sym i ∙ ap (λ t. bytes_eq t n) (sym e) ∙ own_text n)) in
        ap₂ (λ b y. cond b (whole 1) (whole 0) *ₙ w x.text +ₙ y) o (f h) ∙ by_ring (w x.text ∷ w n ∷ []) (k 0 ⊗ v 0 ⊕ v 1) (v 1) refl
      where
        not_false : false ≡ true → ⊥
        not_false e = absurd (cc)

-- ---- an assignment that gives each parameter its value
abbrev pub HasParameters : Assignment → List Name → Type 0
HasParameters w ns = AllByRecursion (λ n. IsTrue (is_parameter n.section) → w n.text ≡ n.value) ns

pub constant_number : (ns : List Name) (a : Number) (w : Assignment) → a ≡ form_number ns (number_form a) w
constant_number ns a w = sym (ap (λ y. y +ₙ a) (sum_none ns (λ n. whole 0) w (λ n. refl)) ∙ by_ring (a ∷ []) (k 0 ⊕ v 0) (v 0) refl)

pub parameter_value : (ns : List Name) (w : Assignment) (n : List ℕ) (m : Name) → HasParameters w ns → look ns n ≡ Some m → IsTrue (is_parameter m.section) → w n ≡ m.value
parameter_value ns w n m g h p = let f = found_name (λ n. IsTrue (is_parameter n.section) → w n.text ≡ n.value) ns n m g h in ap w (sym f.1) ∙ f.0 p

name_number : (ns : List Name) (w : Assignment) → Differ (texts_of ns) → HasParameters w ns → (n : List ℕ) (test : Kind → Bool) (o : Option Name) → look ns n ≡ o → IsTrue (may_stand test o) → w n ≡ form_number ns (looked_up n o) w
name_number ns w d g n test None h t = absurd (cc)
name_number ns w d g n test (Some m) h t = go (is_parameter m.section) refl
  where
    go : (b : Bool) → is_parameter m.section ≡ b → w n ≡ form_number ns (parameter_or n m.value b) w
    go true e = parameter_value ns w n m g h e ∙ constant_number ns m.value w
    go false e = sym (ap (λ y. y +ₙ whole 0) (sum_unit ns n m w d h) ∙ by_ring (w n ∷ []) (v 0 ⊕ k 0) (v 0) refl)

-- ---- operators
product_number : (F G c d : Number) → (F ≡ whole 0) ⊎ (G ≡ whole 0) → (F +ₙ c) *ₙ (G +ₙ d) ≡ (F *ₙ d +ₙ c *ₙ G) +ₙ c *ₙ d
product_number F G c d (inl e) = ap (λ x. (x +ₙ c) *ₙ (G +ₙ d)) e ∙ by_ring (G ∷ c ∷ d ∷ []) ((k 0 ⊕ v 1) ⊗ (v 0 ⊕ v 2)) ((k 0 ⊗ v 2 ⊕ v 1 ⊗ v 0) ⊕ v 1 ⊗ v 2) refl ∙ sym (ap (λ x. (x *ₙ d +ₙ c *ₙ G) +ₙ c *ₙ d) e)
product_number F G c d (inr e) = ap (λ x. (F +ₙ c) *ₙ (x +ₙ d)) e ∙ by_ring (F ∷ c ∷ d ∷ []) ((v 0 ⊕ v 1) ⊗ (k 0 ⊕ v 2)) ((v 0 ⊗ v 2 ⊕ v 1 ⊗ k 0) ⊕ v 1 ⊗ v 2) refl ∙ sym (ap (λ x. (F *ₙ d +ₙ c *ₙ x) +ₙ c *ₙ d) e)

no_sum : (ns : List Name) (f : Form) (w : Assignment) → IsConstant f → form_sum ns f.factor w ≡ whole 0
no_sum ns f w h = sum_none ns f.factor w h

combined_number : (ns : List Name) (w : Assignment) (op : BinaryOp) (f g : Form) → Folds op f g → computed op (form_number ns f w) (form_number ns g w) ≡ form_number ns (combined op f g) w
combined_number ns w binary.Add f g h =
    by_ring (form_sum ns f.factor w ∷ f.constant ∷ form_sum ns g.factor w ∷ g.constant ∷ []) ((v 0 ⊕ v 1) ⊕ (v 2 ⊕ v 3)) ((v 0 ⊕ v 2) ⊕ (v 1 ⊕ v 3)) refl
    ∙ sym (ap (λ y. y +ₙ (f.constant +ₙ g.constant)) (sum_plus ns f.factor g.factor w))
combined_number ns w binary.Sub f g h =
    by_ring (form_sum ns f.factor w ∷ f.constant ∷ form_sum ns g.factor w ∷ g.constant ∷ []) ((v 0 ⊕ v 1) ⊖ (v 2 ⊕ v 3)) ((v 0 ⊖ v 2) ⊕ (v 1 ⊖ v 3)) refl
    ∙ sym (ap (λ y. y +ₙ (f.constant -ₙ g.constant)) (sum_minus ns f.factor g.factor w))
combined_number ns w binary.Mul f g (inl c) =
    product_number (form_sum ns f.factor w) (form_sum ns g.factor w) f.constant g.constant (inl (no_sum ns f w c))
    ∙ sym (ap (λ y. y +ₙ f.constant *ₙ g.constant) (sum_product ns f.factor g.factor f.constant g.constant w))
combined_number ns w binary.Mul f g (inr c) =
    product_number (form_sum ns f.factor w) (form_sum ns g.factor w) f.constant g.constant (inr (no_sum ns g w c))
    ∙ sym (ap (λ y. y +ₙ f.constant *ₙ g.constant) (sum_product ns f.factor g.factor f.constant g.constant w))
combined_number ns w binary.Div f g h =
    ap (λ y. (form_sum ns f.factor w +ₙ f.constant) *ₙ inverse y) (ap (λ y. y +ₙ g.constant) (no_sum ns g w h.0) ∙ by_ring (g.constant ∷ []) (k 0 ⊕ v 0) (v 0) refl)
    ∙ by_ring (form_sum ns f.factor w ∷ f.constant ∷ inverse g.constant ∷ []) ((v 0 ⊕ v 1) ⊗ v 2) (v 0 ⊗ v 2 ⊕ v 1 ⊗ v 2) refl
    ∙ sym (ap (λ y. y +ₙ f.constant /ₙ g.constant) (sum_times ns f.factor (inverse g.constant) w))
combined_number ns w binary.And f g h = absurd h
combined_number ns w binary.Or f g h = absurd h
combined_number ns w binary.Iff f g h = absurd h
combined_number ns w binary.Then f g h = absurd h
combined_number ns w binary.From f g h = absurd h
combined_number ns w binary.Most f g h = absurd h
combined_number ns w binary.Least f g h = absurd h
combined_number ns w binary.Equal f g h = absurd h

signed_number : (ns : List Name) (w : Assignment) (op : UnaryOp) (f : Form) → IsTrue (is_sign op) → signed op (form_number ns f w) ≡ form_sum ns (λ n. signed op (f.factor n)) w +ₙ signed op f.constant
signed_number ns w unary.Not f h = absurd (cc)
signed_number ns w unary.Neg f h = by_ring (form_sum ns f.factor w ∷ f.constant ∷ []) (minus (v 0 ⊕ v 1)) (minus (v 0) ⊕ minus (v 1)) refl ∙ sym (ap (λ y. y +ₙ neg f.constant) (sum_neg ns f.factor w))
signed_number ns w unary.Plus f h = refl

-- ---- real expressions
pub real_number : (ns : List Name) (w : Assignment) → Differ (texts_of ns) → HasParameters w ns → (e : Tree) → IsReal ns e → value w e ≡ form_number ns (form ns e) w
real_number ns w d g (tree.Number text p) r = constant_number ns (literal text) w
real_number ns w d g (tree.Name n p) r = name_number ns w d g n is_real (look ns n) refl r
real_number ns w d g (tree.Truth b p) r = absurd r
real_number ns w d g (tree.Cast n p) r = name_number ns w d g n is_bool (look ns n) refl r
real_number ns w d g (tree.Unary op a p) r = ap (signed op) (real_number ns w d g a r.1) ∙ signed_number ns w op (form ns a) r.0
real_number ns w d g (tree.Binary op a b p) r = ap₂ (computed op) (real_number ns w d g a r.0) (real_number ns w d g b r.1) ∙ combined_number ns w op (form ns a) (form ns b) r.2

-- ---- guard numbers
between_number : (ns : List Name) (w : Assignment) (op : BinaryOp) (f g : Form) → IsTrue (is_inequality op) → guard_of op (form_number ns f w) (form_number ns g w) ≡ form_number ns (guard_between op f g) w
between_number ns w binary.Add f g h = absurd (cc)
between_number ns w binary.Sub f g h = absurd (cc)
between_number ns w binary.Mul f g h = absurd (cc)
between_number ns w binary.Div f g h = absurd (cc)
between_number ns w binary.And f g h = absurd (cc)
between_number ns w binary.Or f g h = absurd (cc)
between_number ns w binary.Iff f g h = absurd (cc)
between_number ns w binary.Then f g h = absurd (cc)
between_number ns w binary.From f g h = absurd (cc)
between_number ns w binary.Most f g h = combined_number ns w binary.Sub f g tt
between_number ns w binary.Least f g h = combined_number ns w binary.Sub g f tt
between_number ns w binary.Equal f g h = absurd (cc)

pub guard_value : (ns : List Name) (w : Assignment) → Differ (texts_of ns) → HasParameters w ns → (e : Tree) → IsComparison is_inequality ns e → guard_number w e ≡ form_number ns (guard_form ns e) w
guard_value ns w d g (tree.Number text p) r = absurd r
guard_value ns w d g (tree.Name n p) r = absurd r
guard_value ns w d g (tree.Truth b p) r = absurd r
guard_value ns w d g (tree.Cast n p) r = absurd r
guard_value ns w d g (tree.Unary op a p) r = absurd r
guard_value ns w d g (tree.Binary op a b p) r = ap₂ (guard_of op) (real_number ns w d g a r.1) (real_number ns w d g b r.2) ∙ between_number ns w op (form ns a) (form ns b) r.0

pub difference_value : (ns : List Name) (w : Assignment) → Differ (texts_of ns) → HasParameters w ns → (a b : Tree) → IsReal ns a → IsReal ns b → value w a -ₙ value w b ≡ form_number ns (difference_form ns a b) w
difference_value ns w d g a b r s = ap₂ (λ x y. x -ₙ y) (real_number ns w d g a r) (real_number ns w d g b s) ∙ combined_number ns w binary.Sub (form ns a) (form ns b) tt
