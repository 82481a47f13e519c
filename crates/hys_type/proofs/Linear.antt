-- What may stand between two real expressions, by tests and as said.
use Rattle.std.proofs.Common.{◌≡◌, ℕ, List, [], ◌∷◌, Option, Some, None, Bool, true, false, ◌⊎◌, inl, inr, ◌&&◌, not, cond, refl, sym, ◌∙◌, ap, ap₂, ◌≢◌}
use Rattle.std.specs.Prelude.{IsTrue}
use Rattle.std.specs.Str.{bytes_eq}
use Rattle.std.specs.List.{AllByRecursion, list_all}
use Rattle.hys_number.specs.Number.{Number, make}
use Rattle.hys_number.specs.Gcd.{gcd}
use Rattle.hys_number.specs.Ops.{◌+ₙ◌, ◌*ₙ◌, ◌-ₙ◌, ◌/ₙ◌, neg, inverse, whole}
use Rattle.hys_number.proofs.Ring.{by_ring, v, k, minus, ◌⊕◌, ◌⊗◌, ◌⊖◌}
use Rattle.hys_ast.specs.declared.place.Place.{Place}
use Rattle.hys_ast.specs.declared.tree.UnaryOp.{UnaryOp}
use Rattle.hys_ast.specs.declared.tree.UnaryOp.TheVariants as unary
use Rattle.hys_ast.specs.declared.tree.BinaryOp.{BinaryOp}
use Rattle.hys_ast.specs.declared.tree.BinaryOp.TheVariants as binary
use Rattle.hys_ast.specs.Tree.{Tree}
use Rattle.hys_ast.specs.Tree as tree
use Rattle.hys_meaning.specs.Values.{signed}
use Rattle.hys_meaning.specs.Names.{Name, look, is_parameter}
use Rattle.hys_meaning.specs.Forms.{Form, IsConstant, looked_up, parameter_or, combined, form, Folds}
use Rattle.hys_meaning.specs.Folding.{is_zero, is_constant}
use Rattle.hys_type.specs.Nodes.{linear_checks}
use Rattle.hys_type.proofs.KnownValues.{same_text}
use Rattle.hys_type.proofs.Agree.{found_name}
use Rattle.hys_type.proofs.Operators.{zero_is}
use Rattle.hys_type.proofs.Passing.{Pass}

-- ---- a name that isn't declared has no factor
pub signed_zero : (op : UnaryOp) (a : Number) → a ≡ whole 0 → signed op a ≡ whole 0
signed_zero unary.Not a h = refl
signed_zero unary.Neg a h = ap neg h ∙ by_ring [] (minus (k 0)) (k 0) refl
signed_zero unary.Plus a h = h

pub combined_zero : (n : List ℕ) (op : BinaryOp) (f g : Form) → f.factor n ≡ whole 0 → g.factor n ≡ whole 0 → (combined op f g).factor n ≡ whole 0
combined_zero n binary.Add f g h i = ap₂ (λ a b. a +ₙ b) h i ∙ by_ring [] (k 0 ⊕ k 0) (k 0) refl
combined_zero n binary.Sub f g h i = ap₂ (λ a b. a -ₙ b) h i ∙ by_ring [] (k 0 ⊖ k 0) (k 0) refl
combined_zero n binary.Mul f g h i = ap₂ (λ a b. a *ₙ g.constant +ₙ f.constant *ₙ b) h i ∙ by_ring (f.constant ∷ g.constant ∷ []) (k 0 ⊗ v 1 ⊕ v 0 ⊗ k 0) (k 0) refl
combined_zero n binary.Div f g h i = ap (λ a. a /ₙ g.constant) h ∙ by_ring (inverse g.constant ∷ []) (k 0 ⊗ v 0) (k 0) refl
combined_zero n binary.And f g h i = refl
combined_zero n binary.Or f g h i = refl
combined_zero n binary.Iff f g h i = refl
combined_zero n binary.Then f g h i = refl
combined_zero n binary.From f g h i = refl
combined_zero n binary.Most f g h i = refl
combined_zero n binary.Least f g h i = refl
combined_zero n binary.Equal f g h i = refl

abbrev pub Outside : List Name → Form → Type 0
Outside ns f = (n : List ℕ) → look ns n ≡ None → f.factor n ≡ whole 0

name_outside : (ns : List Name) (m : List ℕ) → Outside ns (looked_up m (look ns m))
name_outside ns m n h = go (look ns m) refl
  where
    go : (o : Option Name) → look ns m ≡ o → (looked_up m o).factor n ≡ whole 0
    go None e = refl
    go (Some y) e = by (is_parameter y.section) (bytes_eq m n) refl
      where
        by : (b c : Bool) → bytes_eq m n ≡ c → (parameter_or m y.value b).factor n ≡ whole 0
        by true c i = refl
        by false true i = let s : look ns m ≡ None = ap (look ns) (same_text m n i) ∙ h in absurd (cc)
        by false false i = ap (λ b. cond b (whole 1) (whole 0)) i

pub outside : (ns : List Name) (e : Tree) → Outside ns (form ns e)
outside ns (tree.Number text p) n h = refl
outside ns (tree.Name m p) n h = name_outside ns m n h
outside ns (tree.Truth b p) n h = refl
outside ns (tree.Cast m p) n h = name_outside ns m n h
outside ns (tree.Unary op a p) n h = signed_zero op ((form ns a).factor n) (outside ns a n h)
outside ns (tree.Binary op a b p) n h = combined_zero n op (form ns a) (form ns b) (outside ns a n h) (outside ns b n h)

-- ---- a form is constant where no declared name has a factor
each_zero : (ns ms : List Name) (f : Form) → list_all (λ (n : Name). is_zero (f.factor n.text)) ms ≡ true → AllByRecursion (λ (n : Name). f.factor n.text ≡ whole 0) ms
each_zero ns [] f h = tt
each_zero ns (m ∷ ms) f h = go (is_zero (f.factor m.text)) refl h (each_zero ns ms f)
  where
    go : (b : Bool) → is_zero (f.factor m.text) ≡ b → b && list_all (λ (n : Name). is_zero (f.factor n.text)) ms ≡ true →
        (list_all (λ (n : Name). is_zero (f.factor n.text)) ms ≡ true → AllByRecursion (λ (n : Name). f.factor n.text ≡ whole 0) ms) → AllByRecursion (λ (n : Name). f.factor n.text ≡ whole 0) (m ∷ ms)
    go true e h r = (zero_is (f.factor m.text) e, r h)
    go false e h r = absurd (cc)

pub constant_is : (ns : List Name) (f : Form) → Outside ns f → is_constant ns f ≡ true → IsConstant f
constant_is ns f o h n = go (look ns n) refl
  where
    go : (m : Option Name) → look ns n ≡ m → f.factor n ≡ whole 0
    go None e = o n e
    go (Some m) e = let g = found_name (λ (n : Name). f.factor n.text ≡ whole 0) ns n m (each_zero ns ns f h) e in sym (ap f.factor g.1) ∙ g.0

pub zero_test : is_zero (whole 0) ≡ true
unfolding is_zero whole make gcd
zero_test = refl

pub is_constant_of : (ns : List Name) (f : Form) → IsConstant f → is_constant ns f ≡ true
is_constant_of [] f h = refl
is_constant_of (n ∷ ns) f h = ap₂ (λ (a b : Bool). a && b) (ap is_zero (h n.text) ∙ zero_test) (is_constant_of ns f h)

pub not_zero : (a : Number) → IsTrue (not (is_zero a)) → a ≢ whole 0
not_zero a h e = let t : is_zero a ≡ true = ap is_zero e ∙ zero_test in never (sym (ap not t) ∙ h)
  where
    never : false ≡ true → ⊥
    never e = absurd (cc)

pub is_not_zero : (a : Number) → a ≢ whole 0 → IsTrue (not (is_zero a))
is_not_zero a h = go (is_zero a) refl
  where
    go : (b : Bool) → is_zero a ≡ b → not b ≡ true
    go true e = absurd (h (zero_is a e))
    go false e = refl

-- ---- between two forms
-- the operators between two numbers
abbrev pub is_arithmetic : BinaryOp → Bool
is_arithmetic binary.Add = true
is_arithmetic binary.Sub = true
is_arithmetic binary.Mul = true
is_arithmetic binary.Div = true
is_arithmetic binary.And = false
is_arithmetic binary.Or = false
is_arithmetic binary.Iff = false
is_arithmetic binary.Then = false
is_arithmetic binary.From = false
is_arithmetic binary.Most = false
is_arithmetic binary.Least = false
is_arithmetic binary.Equal = false

pub linear_folds : (ns : List Name) (op : BinaryOp) (f g : Form) (p : Place) → IsTrue (is_arithmetic op) → Outside ns f → Outside ns g → Pass (linear_checks ns op f g p) → Folds op f g
linear_folds ns binary.Add f g p t o i h = tt
linear_folds ns binary.Sub f g p t o i h = tt
linear_folds ns binary.Mul f g p t o i h = go (is_constant ns f) refl h.0
  where
    go : (b : Bool) → is_constant ns f ≡ b → cond b true (is_constant ns g) ≡ true → IsConstant f ⊎ IsConstant g
    go true e h = inl (constant_is ns f o e)
    go false e h = inr (constant_is ns g i h)
linear_folds ns binary.Div f g p t o i h = (constant_is ns g i h.0, not_zero g.constant h.1.0)
linear_folds ns binary.And f g p t o i h = absurd (cc)
linear_folds ns binary.Or f g p t o i h = absurd (cc)
linear_folds ns binary.Iff f g p t o i h = absurd (cc)
linear_folds ns binary.Then f g p t o i h = absurd (cc)
linear_folds ns binary.From f g p t o i h = absurd (cc)
linear_folds ns binary.Most f g p t o i h = absurd (cc)
linear_folds ns binary.Least f g p t o i h = absurd (cc)
linear_folds ns binary.Equal f g p t o i h = absurd (cc)

pub folds_linear : (ns : List Name) (op : BinaryOp) (f g : Form) (p : Place) → Folds op f g → Pass (linear_checks ns op f g p)
folds_linear ns binary.Add f g p h = tt
folds_linear ns binary.Sub f g p h = tt
folds_linear ns binary.Mul f g p (inl h) = (ap (λ (b : Bool). cond b true (is_constant ns g)) (is_constant_of ns f h), tt)
folds_linear ns binary.Mul f g p (inr h) = (go (is_constant ns f), tt)
  where
    go : (b : Bool) → cond b true (is_constant ns g) ≡ true
    go true = refl
    go false = is_constant_of ns g h
folds_linear ns binary.Div f g p h = (is_constant_of ns g h.0, (is_not_zero g.constant h.1, tt))
folds_linear ns binary.And f g p h = absurd h
folds_linear ns binary.Or f g p h = absurd h
folds_linear ns binary.Iff f g p h = absurd h
folds_linear ns binary.Then f g p h = absurd h
folds_linear ns binary.From f g p h = absurd h
folds_linear ns binary.Most f g p h = absurd h
folds_linear ns binary.Least f g p h = absurd h
folds_linear ns binary.Equal f g p h = absurd h
