-- The checks of a constant expression pass exactly where it is of a kind over the parameters, and its numbers fit.
use Rattle.std.proofs.Common.{◌≡◌, ℕ, List, [], ◌∷◌, ◌++◌, Option, Some, None, Bool, true, false, ◌&&◌, not, refl, sym, ◌∙◌, ap, ap₂, subst, subst₂, ◌⊎◌, inl, inr}
use Rattle.std.specs.Prelude.{IsTrue}
use Rattle.hys_number.specs.Number.{Number, make}
use Rattle.hys_number.specs.Gcd.{gcd}
use Rattle.hys_number.specs.Ops.{◌+ₙ◌, ◌*ₙ◌, ◌-ₙ◌, ◌/ₙ◌, inverse, whole, fits}
use Rattle.hys_number.proofs.Ring.{by_ring, v, k, ◌⊕◌, ◌⊗◌, ◌⊖◌}
use Rattle.hys_lin.specs.declared.lost.Lost.{Lost}
use Rattle.hys_lin.specs.Operations.{outcome, plus, minus as difference, times}
use Rattle.hys_ast.specs.declared.place.Place.{Place}
use Rattle.hys_ast.specs.declared.source.Section.{Section}
use Rattle.hys_ast.specs.declared.source.Section.TheVariants as section
use Rattle.hys_ast.specs.declared.source.Kind.{Kind}
use Rattle.hys_ast.specs.declared.source.Kind.TheVariants as kind
use Rattle.hys_ast.specs.declared.tree.UnaryOp.{UnaryOp}
use Rattle.hys_ast.specs.declared.tree.UnaryOp.TheVariants as unary
use Rattle.hys_ast.specs.declared.tree.BinaryOp.{BinaryOp}
use Rattle.hys_ast.specs.declared.tree.BinaryOp.TheVariants as binary
use Rattle.hys_ast.specs.Tree.{Tree}
use Rattle.hys_ast.specs.Tree as tree
use Rattle.hys_meaning.specs.Values.{value, signed, computed}
use Rattle.hys_meaning.specs.Names.{Name, look, is_parameter, is_output}
use Rattle.hys_meaning.specs.Forms.{Form, IsConstant, looked_up, parameter_or, combined, form, Folds}
use Rattle.hys_meaning.specs.Folding.{all_at, is_constant, each, over, multiplied, folding, numbers_of}
use Rattle.hys_meaning.specs.Typed.{IsReal, IsFormula, may_stand, is_connective}
use Rattle.hys_meaning.specs.Typed as typed
use Rattle.hys_type.specs.Sorts.{Sort, Real, Bool', Neither, sort_of_kind, sort_of_unary, is_real, is_bool, takes_unary}
use Rattle.hys_type.specs.Faults.{Check, in_range}
use Rattle.hys_type.specs.Constants.{find_known, known_value, known_values, number_or_zero, has_number, is_bool_kind, sort_of_known, known_sort, may_be_cast, takes_constants, divisor_checks, operation, operator_checks, name_checks, constant_checks}
use Rattle.hys_type.specs.Constants as constants
use Rattle.hys_type.specs.declared.constant.Known.{Known}
use Rattle.hys_type.specs.Written.{KnownAs, AreKnown, AreAmong}
use Rattle.hys_type.proofs.Passing.{all_join, all_front, all_behind, Pass, pass_join, pass_front, pass_behind, Fit}
use Rattle.hys_type.proofs.Linear.{signed_zero, combined_zero, is_arithmetic, is_constant_of, not_zero, is_not_zero}
use Rattle.hys_type.proofs.NodeRules.{both_real, both_bool}

-- ---- kinds of constants
abbrev pub IsConstantOf : Sort → List Name → Tree → Type 0
IsConstantOf Real ps e = IsReal ps e
IsConstantOf Bool' ps e = IsFormula ps e
IsConstantOf Neither ps e = ⊥

pub record ConstantKept (ks : List Known) (ps ns : List Name) (e : Tree) : Type 0 where
  pub part : IsConstantOf (known_sort ks e) ps e
  pub numbers : Fit (numbers_of ns e)

abbrev pub ConstantFine : List Known → Tree → Sort → Type 0
ConstantFine ks e t = Pass (constant_checks ks e) × (known_sort ks e ≡ t)

-- ---- numbers of constants
zero_fits : IsTrue (fits (whole 0))
unfolding fits whole make gcd
zero_fits = refl

fits_as : (a : Number) → a ≡ whole 0 → IsTrue (fits a)
fits_as a e = ap fits e ∙ zero_fits

each_fit : (o : Number → Number → Lost) (ns : List Name) (f g : List ℕ → Number) (a b : Number) (p : Place) → ((n : List ℕ) → IsTrue (fits (outcome (o (f n) (g n))))) → IsTrue (fits (outcome (o a b))) → Fit (all_at p (each o ns f g a b))
each_fit o [] f g a b p h i = (i, tt)
each_fit o (n ∷ ns) f g a b p h i = (h n.text, each_fit o ns f g a b p h i)

each_last : (o : Number → Number → Lost) (ns : List Name) (f g : List ℕ → Number) (a b : Number) (p : Place) → Fit (all_at p (each o ns f g a b)) → IsTrue (fits (outcome (o a b)))
each_last o [] f g a b p h = h.0
each_last o (n ∷ ns) f g a b p h = each_last o ns f g a b p h.1

by_constant : (ns : List Name) (f g : Form) → IsConstant f → multiplied (is_constant ns f) ns f g ≡ each times ns (λ n. f.constant) g.factor f.constant g.constant
by_constant ns f g c = ap (λ b. multiplied b ns f g) (is_constant_of ns f c)

folding_fit : (ns : List Name) (op : BinaryOp) (f g : Form) (p : Place) → IsTrue (is_arithmetic op) → IsConstant f → IsConstant g → Pass (in_range p (operation op f.constant g.constant)) → Fit (all_at p (folding ns op f g))
folding_fit ns binary.Add f g p t c d h = each_fit plus ns f.factor g.factor f.constant g.constant p (λ n. fits_as _ (ap₂ (λ a b. a +ₙ b) (c n) (d n) ∙ by_ring [] (k 0 ⊕ k 0) (k 0) refl)) h.0
folding_fit ns binary.Sub f g p t c d h = each_fit difference ns f.factor g.factor f.constant g.constant p (λ n. fits_as _ (ap₂ (λ a b. a -ₙ b) (c n) (d n) ∙ by_ring [] (k 0 ⊖ k 0) (k 0) refl)) h.0
folding_fit ns binary.Mul f g p t c d h =
    subst (λ os. Fit (all_at p os)) (sym (by_constant ns f g c))
    (each_fit times ns (λ n. f.constant) g.factor f.constant g.constant p (λ n. fits_as _ (ap (λ b. f.constant *ₙ b) (d n) ∙ by_ring (f.constant ∷ []) (v 0 ⊗ k 0) (k 0) refl)) h.0)
folding_fit ns binary.Div f g p t c d h = each_fit over ns f.factor (λ n. g.constant) f.constant g.constant p (λ n. fits_as _ (ap (λ a. a /ₙ g.constant) (c n) ∙ by_ring (inverse g.constant ∷ []) (k 0 ⊗ v 0) (k 0) refl)) h.0
folding_fit ns binary.And f g p t c d h = absurd (cc)
folding_fit ns binary.Or f g p t c d h = absurd (cc)
folding_fit ns binary.Iff f g p t c d h = absurd (cc)
folding_fit ns binary.Then f g p t c d h = absurd (cc)
folding_fit ns binary.From f g p t c d h = absurd (cc)
folding_fit ns binary.Most f g p t c d h = absurd (cc)
folding_fit ns binary.Least f g p t c d h = absurd (cc)
folding_fit ns binary.Equal f g p t c d h = absurd (cc)

fit_operation : (ns : List Name) (op : BinaryOp) (f g : Form) (p : Place) → IsTrue (is_arithmetic op) → IsConstant f → Fit (all_at p (folding ns op f g)) → Pass (in_range p (operation op f.constant g.constant))
fit_operation ns binary.Add f g p t c h = (each_last plus ns f.factor g.factor f.constant g.constant p h, tt)
fit_operation ns binary.Sub f g p t c h = (each_last difference ns f.factor g.factor f.constant g.constant p h, tt)
fit_operation ns binary.Mul f g p t c h = (each_last times ns (λ n. f.constant) g.factor f.constant g.constant p (subst (λ os. Fit (all_at p os)) (by_constant ns f g c) h), tt)
fit_operation ns binary.Div f g p t c h = (each_last over ns f.factor (λ n. g.constant) f.constant g.constant p h, tt)
fit_operation ns binary.And f g p t c h = absurd (cc)
fit_operation ns binary.Or f g p t c h = absurd (cc)
fit_operation ns binary.Iff f g p t c h = absurd (cc)
fit_operation ns binary.Then f g p t c h = absurd (cc)
fit_operation ns binary.From f g p t c h = absurd (cc)
fit_operation ns binary.Most f g p t c h = absurd (cc)
fit_operation ns binary.Least f g p t c h = absurd (cc)
fit_operation ns binary.Equal f g p t c h = absurd (cc)

-- ---- what may stand between constants
divisor_folds : (op : BinaryOp) (f g : Form) (p : Place) → IsTrue (is_arithmetic op) → IsConstant f → IsConstant g → Pass (divisor_checks op g.constant p) → Folds op f g
divisor_folds binary.Add f g p t c d h = tt
divisor_folds binary.Sub f g p t c d h = tt
divisor_folds binary.Mul f g p t c d h = inl c
divisor_folds binary.Div f g p t c d h = (d, not_zero g.constant h.0)
divisor_folds binary.And f g p t c d h = absurd (cc)
divisor_folds binary.Or f g p t c d h = absurd (cc)
divisor_folds binary.Iff f g p t c d h = absurd (cc)
divisor_folds binary.Then f g p t c d h = absurd (cc)
divisor_folds binary.From f g p t c d h = absurd (cc)
divisor_folds binary.Most f g p t c d h = absurd (cc)
divisor_folds binary.Least f g p t c d h = absurd (cc)
divisor_folds binary.Equal f g p t c d h = absurd (cc)

folds_divisor : (op : BinaryOp) (f g : Form) (p : Place) → Folds op f g → Pass (divisor_checks op g.constant p)
folds_divisor binary.Add f g p h = tt
folds_divisor binary.Sub f g p h = tt
folds_divisor binary.Mul f g p h = tt
folds_divisor binary.Div f g p h = (is_not_zero g.constant h.1, tt)
folds_divisor binary.And f g p h = absurd h
folds_divisor binary.Or f g p h = absurd h
folds_divisor binary.Iff f g p h = absurd h
folds_divisor binary.Then f g p h = absurd h
folds_divisor binary.From f g p h = absurd h
folds_divisor binary.Most f g p h = absurd h
folds_divisor binary.Least f g p h = absurd h
folds_divisor binary.Equal f g p h = absurd h

computed_constant : (op : BinaryOp) (f g : Form) → computed op f.constant g.constant ≡ (combined op f g).constant
computed_constant binary.Add f g = refl
computed_constant binary.Sub f g = refl
computed_constant binary.Mul f g = refl
computed_constant binary.Div f g = refl
computed_constant binary.And f g = refl
computed_constant binary.Or f g = refl
computed_constant binary.Iff f g = refl
computed_constant binary.Then f g = refl
computed_constant binary.From f g = refl
computed_constant binary.Most f g = refl
computed_constant binary.Least f g = refl
computed_constant binary.Equal f g = refl

-- ---- names
found_constant : (x : Option Known) (o : Option Name) (n : List ℕ) (test : Kind → Bool) → KnownAs x o → IsTrue (may_stand test o) → IsConstant (looked_up n o) × (known_value x ≡ (looked_up n o).constant)
found_constant x None n test h i = absurd (cc)
found_constant None (Some m) n test h i = absurd h
found_constant (Some x) (Some m) n test h i = go (is_parameter m.section) h.3
  where
    go : (b : Bool) → b ≡ true → IsConstant (parameter_or n m.value b) × (number_or_zero x.value ≡ (parameter_or n m.value b).constant)
    go true e = (λ q. refl, h.2)
    go false e = absurd (cc)

same_looked : (ps ns : List Name) → AreAmong ps ns → (n : List ℕ) (test : Kind → Bool) → IsTrue (may_stand test (look ps n)) → looked_up n (look ns n) ≡ looked_up n (look ps n)
same_looked ps ns among n test i = go (look ps n) refl i
  where
    go : (o : Option Name) → look ps n ≡ o → IsTrue (may_stand test o) → looked_up n (look ns n) ≡ looked_up n o
    go None e i = absurd (cc)
    go (Some m) e i = ap (looked_up n) (among n m e)

no_output : (m : Name) → is_parameter m.section ≡ true → is_output m.section ≡ false
no_output m h = go m.section h
  where
    go : (s : Section) → is_parameter s ≡ true → is_output s ≡ false
    go section.State h = refl
    go section.Input h = refl
    go section.Output h = absurd (cc)
    go section.Parameter h = refl
    go section.Aux h = refl
    go section.Ad h = refl
    go section.Da h = refl
    go section.Logic h = refl
    go section.Linear h = refl
    go section.Automata h = refl
    go section.Continuous h = refl
    go section.OutputItem h = refl
    go section.Must h = refl

standing : (x : Option Known) (o : Option Name) (p : Place) → KnownAs x o → Pass (name_checks constants.may_stand x p) → ((sort_of_known x ≡ Real) × IsTrue (may_stand typed.is_real o)) ⊎ ((sort_of_known x ≡ Bool') × IsTrue (may_stand typed.is_bool o))
standing None o p h c = let i = c.0 in absurd (cc)
standing (Some x) None p h c = let i = c.1.0 in absurd (cc)
standing (Some x) (Some m) p h c = go x.kind m.kind (is_output m.section) h.0 (no_output m h.3)
  where
    go : (a b : Kind) (t : Bool) → a ≡ b → t ≡ false → ((sort_of_kind a ≡ Real) × (typed.is_real b && not t ≡ true)) ⊎ ((sort_of_kind a ≡ Bool') × (typed.is_bool b && not t ≡ true))
    go kind.Real kind.Real false e f = inl (refl, refl)
    go kind.Bool kind.Bool false e f = inr (refl, refl)
    go kind.Real kind.Bool t e f = absurd (cc)
    go kind.Bool kind.Real t e f = absurd (cc)
    go a b true e f = absurd (cc)

cast_stands : (x : Option Known) (o : Option Name) (p : Place) → KnownAs x o → Pass (name_checks may_be_cast x p) → IsTrue (may_stand typed.is_bool o)
cast_stands None o p h c = let i = c.0 in absurd (cc)
cast_stands (Some x) None p h c = go (has_number x.value) h c.1.0
  where
    go : (t : Bool) → t ≡ false → t && is_bool_kind x.kind ≡ true → false ≡ true
    go true e f = absurd (cc)
    go false e f = absurd (cc)
cast_stands (Some x) (Some m) p h c = go x.kind m.kind (is_output m.section) (has_number x.value) h.0 (no_output m h.3) c.1.0
  where
    go : (a b : Kind) (t s : Bool) → a ≡ b → t ≡ false → s && is_bool_kind a ≡ true → typed.is_bool b && not t ≡ true
    go kind.Bool kind.Bool false s e f g = refl
    go kind.Real kind.Real t true e f g = absurd (cc)
    go kind.Real kind.Real t false e f g = absurd (cc)
    go kind.Real kind.Bool t s e f g = absurd (cc)
    go kind.Bool kind.Real t s e f g = absurd (cc)
    go a b true s e f g = absurd (cc)

real_stands : (x : Option Known) (o : Option Name) (p : Place) → KnownAs x o → IsTrue (may_stand typed.is_real o) → Pass (name_checks constants.may_stand x p) × (sort_of_known x ≡ Real)
real_stands x None p h i = absurd (cc)
real_stands None (Some m) p h i = absurd h
real_stands (Some x) (Some m) p h i = ((refl, (h.1, tt)), go x.kind m.kind (is_output m.section) h.0 i)
  where
    go : (a b : Kind) (t : Bool) → a ≡ b → typed.is_real b && not t ≡ true → sort_of_kind a ≡ Real
    go kind.Real b t e f = refl
    go kind.Bool kind.Bool t e f = absurd (cc)
    go kind.Bool kind.Real t e f = absurd (cc)

formula_stands : (x : Option Known) (o : Option Name) (p : Place) → KnownAs x o → IsTrue (may_stand typed.is_bool o) → Pass (name_checks constants.may_stand x p) × (sort_of_known x ≡ Bool')
formula_stands x None p h i = absurd (cc)
formula_stands None (Some m) p h i = absurd h
formula_stands (Some x) (Some m) p h i = ((refl, (h.1, tt)), go x.kind m.kind (is_output m.section) h.0 i)
  where
    go : (a b : Kind) (t : Bool) → a ≡ b → typed.is_bool b && not t ≡ true → sort_of_kind a ≡ Bool'
    go kind.Bool b t e f = refl
    go kind.Real kind.Real t e f = absurd (cc)
    go kind.Real kind.Bool t e f = absurd (cc)

stands_cast : (x : Option Known) (o : Option Name) (p : Place) → KnownAs x o → IsTrue (may_stand typed.is_bool o) → Pass (name_checks may_be_cast x p)
stands_cast x None p h i = absurd (cc)
stands_cast None (Some m) p h i = absurd h
stands_cast (Some x) (Some m) p h i = (refl, (go x.kind m.kind (is_output m.section) (has_number x.value) h.0 h.1 i, tt))
  where
    go : (a b : Kind) (t s : Bool) → a ≡ b → s ≡ true → typed.is_bool b && not t ≡ true → s && is_bool_kind a ≡ true
    go kind.Bool b t true e f g = refl
    go kind.Bool b t false e f g = absurd (cc)
    go kind.Real kind.Real t s e f g = absurd (cc)
    go kind.Real kind.Bool t s e f g = absurd (cc)

module _ (ks : List Known) (ps ns : List Name) (known : AreKnown ks ps) (among : AreAmong ps ns) where
  -- ---- forms of constants
  pub constant_form : (e : Tree) → IsReal ps e → IsConstant (form ps e) × (value (known_values ks) e ≡ (form ps e).constant)
  constant_form (tree.Number text p) r = (λ n. refl, refl)
  constant_form (tree.Name n p) r = found_constant (find_known ks n) (look ps n) n typed.is_real (known n) r
  constant_form (tree.Truth b p) r = absurd r
  constant_form (tree.Cast n p) r = found_constant (find_known ks n) (look ps n) n typed.is_bool (known n) r
  constant_form (tree.Unary op a p) r = let f = constant_form a r.1 in (λ n. signed_zero op ((form ps a).factor n) (f.0 n), ap (signed op) f.1)
  constant_form (tree.Binary op a b p) r =
      let f = constant_form a r.0 in
      let g = constant_form b r.1 in
      (λ n. combined_zero n op (form ps a) (form ps b) (f.0 n) (g.0 n), ap₂ (computed op) f.1 g.1 ∙ computed_constant op (form ps a) (form ps b))

  pub form_among : (e : Tree) → IsReal ps e → form ns e ≡ form ps e
  form_among (tree.Number text p) r = refl
  form_among (tree.Name n p) r = same_looked ps ns among n typed.is_real r
  form_among (tree.Truth b p) r = refl
  form_among (tree.Cast n p) r = same_looked ps ns among n typed.is_bool r
  form_among (tree.Unary op a p) r = ap (λ (f : Form). record { factor = λ n. signed op (f.factor n); constant = signed op f.constant }) (form_among a r.1)
  form_among (tree.Binary op a b p) r = ap₂ (combined op) (form_among a r.0) (form_among b r.1)

  -- ---- from the checks
  unary_part : (op : UnaryOp) (a : Tree) (p : Place) (t : Sort) → takes_unary op t ≡ true → IsConstantOf t ps a → IsConstantOf (sort_of_unary op) ps (tree.Unary op a p)
  unary_part unary.Not a p Bool' h i = (refl, i)
  unary_part unary.Not a p Real h i = absurd (cc)
  unary_part unary.Not a p Neither h i = absurd (cc)
  unary_part unary.Neg a p Real h i = (refl, i)
  unary_part unary.Neg a p Bool' h i = absurd (cc)
  unary_part unary.Neg a p Neither h i = absurd (cc)
  unary_part unary.Plus a p Real h i = (refl, i)
  unary_part unary.Plus a p Bool' h i = absurd (cc)
  unary_part unary.Plus a p Neither h i = absurd (cc)

  arithmetic_kept : (op : BinaryOp) (a b : Tree) (p : Place) → IsTrue (is_arithmetic op) → is_real (known_sort ks a) && is_real (known_sort ks b) ≡ true → ConstantKept ks ps ns a → ConstantKept ks ps ns b →
      Pass (divisor_checks op (value (known_values ks) b) p) → Pass (in_range p (operation op (value (known_values ks) a) (value (known_values ks) b))) → IsReal ps (tree.Binary op a b p) × Fit (all_at p (folding ns op (form ns a) (form ns b)))
  arithmetic_kept op a b p t h l r d o =
      let e = both_real (known_sort ks a) (known_sort ks b) h in
      let i : IsReal ps a = subst (λ s. IsConstantOf s ps a) e.0 l.part in
      let j : IsReal ps b = subst (λ s. IsConstantOf s ps b) e.1 r.part in
      let f = constant_form a i in
      let g = constant_form b j in (
        (i, j, divisor_folds op (form ps a) (form ps b) p t f.0 g.0 (subst (λ y. Pass (divisor_checks op y p)) g.1 d)),
        subst₂ (λ (x y : Form). Fit (all_at p (folding ns op x y))) (sym (form_among a i)) (sym (form_among b j))
            (folding_fit ns op (form ps a) (form ps b) p t f.0 g.0 (subst₂ (λ x y. Pass (in_range p (operation op x y))) f.1 g.1 o)),
      )

  formula_kept : (op : BinaryOp) (a b : Tree) (p : Place) → IsTrue (is_connective op) → is_bool (known_sort ks a) && is_bool (known_sort ks b) ≡ true → ConstantKept ks ps ns a → ConstantKept ks ps ns b → IsFormula ps (tree.Binary op a b p)
  formula_kept op a b p t h l r =
      let e = both_bool (known_sort ks a) (known_sort ks b) h in
      (t, subst (λ s. IsConstantOf s ps a) e.0 l.part, subst (λ s. IsConstantOf s ps b) e.1 r.part)

  numbers_of_both : (op : BinaryOp) (a b : Tree) (p : Place) → ConstantKept ks ps ns a → ConstantKept ks ps ns b → Fit (all_at p (folding ns op (form ns a) (form ns b))) → Fit (numbers_of ns (tree.Binary op a b p))
  numbers_of_both op a b p l r h = all_join _ (numbers_of ns a) (numbers_of ns b ++ all_at p (folding ns op (form ns a) (form ns b))) l.numbers (all_join _ (numbers_of ns b) (all_at p (folding ns op (form ns a) (form ns b))) r.numbers h)

  abbrev ranged : BinaryOp → Tree → Tree → Place → List Check
  ranged op a b p = in_range p (operation op (value (known_values ks) a) (value (known_values ks) b))

  binary_kept : (op : BinaryOp) (a b : Tree) (p : Place) → ConstantKept ks ps ns a → ConstantKept ks ps ns b → Pass (operator_checks op (known_sort ks a) (known_sort ks b) (value (known_values ks) a) (value (known_values ks) b) p) → ConstantKept ks ps ns (tree.Binary op a b p)
  binary_kept binary.Add a b p l r c =
      let u = arithmetic_kept binary.Add a b p refl c.0 l r (pass_front (divisor_checks binary.Add (value (known_values ks) b) p) (ranged binary.Add a b p) c.1) (pass_behind (divisor_checks binary.Add (value (known_values ks) b) p) (ranged binary.Add a b p) c.1) in
      record { part = u.0; numbers = numbers_of_both binary.Add a b p l r u.1 }
  binary_kept binary.Sub a b p l r c =
      let u = arithmetic_kept binary.Sub a b p refl c.0 l r (pass_front (divisor_checks binary.Sub (value (known_values ks) b) p) (ranged binary.Sub a b p) c.1) (pass_behind (divisor_checks binary.Sub (value (known_values ks) b) p) (ranged binary.Sub a b p) c.1) in
      record { part = u.0; numbers = numbers_of_both binary.Sub a b p l r u.1 }
  binary_kept binary.Mul a b p l r c =
      let u = arithmetic_kept binary.Mul a b p refl c.0 l r (pass_front (divisor_checks binary.Mul (value (known_values ks) b) p) (ranged binary.Mul a b p) c.1) (pass_behind (divisor_checks binary.Mul (value (known_values ks) b) p) (ranged binary.Mul a b p) c.1) in
      record { part = u.0; numbers = numbers_of_both binary.Mul a b p l r u.1 }
  binary_kept binary.Div a b p l r c =
      let u = arithmetic_kept binary.Div a b p refl c.0 l r (pass_front (divisor_checks binary.Div (value (known_values ks) b) p) (ranged binary.Div a b p) c.1) (pass_behind (divisor_checks binary.Div (value (known_values ks) b) p) (ranged binary.Div a b p) c.1) in
      record { part = u.0; numbers = numbers_of_both binary.Div a b p l r u.1 }
  binary_kept binary.And a b p l r c = record { part = formula_kept binary.And a b p refl c.0 l r; numbers = numbers_of_both binary.And a b p l r tt }
  binary_kept binary.Or a b p l r c = record { part = formula_kept binary.Or a b p refl c.0 l r; numbers = numbers_of_both binary.Or a b p l r tt }
  binary_kept binary.Iff a b p l r c = record { part = formula_kept binary.Iff a b p refl c.0 l r; numbers = numbers_of_both binary.Iff a b p l r tt }
  binary_kept binary.Then a b p l r c = record { part = formula_kept binary.Then a b p refl c.0 l r; numbers = numbers_of_both binary.Then a b p l r tt }
  binary_kept binary.From a b p l r c = record { part = formula_kept binary.From a b p refl c.0 l r; numbers = numbers_of_both binary.From a b p l r tt }
  binary_kept binary.Most a b p l r c = let h = c.0 in absurd (cc)
  binary_kept binary.Least a b p l r c = let h = c.0 in absurd (cc)
  binary_kept binary.Equal a b p l r c = let h = c.0 in absurd (cc)

  pub constant_kept : (e : Tree) → Pass (constant_checks ks e) → ConstantKept ks ps ns e
  constant_kept (tree.Number text p) c = record { part = tt; numbers = (c.0, tt) }
  constant_kept (tree.Name n p) c = go (standing (find_known ks n) (look ps n) p (known n) c)
    where
      go : ((sort_of_known (find_known ks n) ≡ Real) × IsTrue (may_stand typed.is_real (look ps n))) ⊎ ((sort_of_known (find_known ks n) ≡ Bool') × IsTrue (may_stand typed.is_bool (look ps n))) → ConstantKept ks ps ns (tree.Name n p)
      go (inl h) = record { part = subst (λ t. IsConstantOf t ps (tree.Name n p)) (sym h.0) h.1; numbers = tt }
      go (inr h) = record { part = subst (λ t. IsConstantOf t ps (tree.Name n p)) (sym h.0) h.1; numbers = tt }
  constant_kept (tree.Truth b p) c = record { part = tt; numbers = tt }
  constant_kept (tree.Cast n p) c = record { part = cast_stands (find_known ks n) (look ps n) p (known n) c; numbers = tt }
  constant_kept (tree.Unary op a p) c =
      let l = constant_kept a (pass_front (constant_checks ks a) _ c) in
      record { part = unary_part op a p (known_sort ks a) (pass_behind (constant_checks ks a) _ c).0 l.part; numbers = l.numbers }
  constant_kept (tree.Binary op a b p) c =
      let d = pass_behind (constant_checks ks a) _ c in
      binary_kept op a b p (constant_kept a (pass_front (constant_checks ks a) _ c)) (constant_kept b (pass_front (constant_checks ks b) _ d)) (pass_behind (constant_checks ks b) _ d)

  -- ---- to the checks
  unary_fine : (op : UnaryOp) (a : Tree) (p : Place) (t : Sort) → IsConstantOf t ps (tree.Unary op a p) → ((u : Sort) → IsConstantOf u ps a → ConstantFine ks a u) → ConstantFine ks (tree.Unary op a p) t
  unary_fine unary.Not a p Real i f = let h = i.0 in absurd (cc)
  unary_fine unary.Not a p Bool' i f = let g = f Bool' i.1 in (pass_join (constant_checks ks a) _ g.0 (ap (takes_unary unary.Not) g.1, tt), refl)
  unary_fine unary.Not a p Neither i f = absurd i
  unary_fine unary.Neg a p Real i f = let g = f Real i.1 in (pass_join (constant_checks ks a) _ g.0 (ap (takes_unary unary.Neg) g.1, tt), refl)
  unary_fine unary.Neg a p Bool' i f = let h = i.0 in absurd (cc)
  unary_fine unary.Neg a p Neither i f = absurd i
  unary_fine unary.Plus a p Real i f = let g = f Real i.1 in (pass_join (constant_checks ks a) _ g.0 (ap (takes_unary unary.Plus) g.1, tt), refl)
  unary_fine unary.Plus a p Bool' i f = let h = i.0 in absurd (cc)
  unary_fine unary.Plus a p Neither i f = absurd i

  at_operator : (op : BinaryOp) (a b : Tree) (p : Place) (t : Sort) → takes_constants op t t ≡ true → ConstantFine ks a t → ConstantFine ks b t →
      Pass (divisor_checks op (value (known_values ks) b) p) → Pass (in_range p (operation op (value (known_values ks) a) (value (known_values ks) b))) → Pass (constant_checks ks (tree.Binary op a b p))
  at_operator op a b p t h f g d o =
      pass_join (constant_checks ks a) _ f.0
      (pass_join (constant_checks ks b) _ g.0 (ap₂ (takes_constants op) f.1 g.1 ∙ h, pass_join (divisor_checks op (value (known_values ks) b) p) (in_range p (operation op (value (known_values ks) a) (value (known_values ks) b))) d o))

  arithmetic_fine : (op : BinaryOp) (a b : Tree) (p : Place) → IsTrue (is_arithmetic op) → takes_constants op Real Real ≡ true → IsReal ps (tree.Binary op a b p) → Fit (all_at p (folding ns op (form ns a) (form ns b))) →
      ConstantFine ks a Real → ConstantFine ks b Real → Pass (constant_checks ks (tree.Binary op a b p))
  arithmetic_fine op a b p t h r n l g =
      let x = constant_form a r.0 in
      let y = constant_form b r.1 in
      at_operator op a b p Real h l g (subst (λ z. Pass (divisor_checks op z p)) (sym y.1) (folds_divisor op (form ps a) (form ps b) p r.2))
      (subst₂ (λ z u. Pass (in_range p (operation op z u))) (sym x.1) (sym y.1)
      (fit_operation ns op (form ps a) (form ps b) p t x.0 (subst₂ (λ (z u : Form). Fit (all_at p (folding ns op z u))) (form_among a r.0) (form_among b r.1) n)))

  abbrev IsFine : Tree → Type 0
  IsFine e = (t : Sort) → IsConstantOf t ps e → Fit (numbers_of ns e) → ConstantFine ks e t

  binary_fine : (op : BinaryOp) (a b : Tree) (p : Place) (t : Sort) → IsConstantOf t ps (tree.Binary op a b p) → Fit (numbers_of ns a) → Fit (numbers_of ns b) → Fit (all_at p (folding ns op (form ns a) (form ns b))) → IsFine a → IsFine b → ConstantFine ks (tree.Binary op a b p) t
  binary_fine binary.Add a b p Real i m n q f g = (arithmetic_fine binary.Add a b p refl refl i q (f Real i.0 m) (g Real i.1 n), refl)
  binary_fine binary.Add a b p Bool' i m n q f g = let h = i.0 in absurd (cc)
  binary_fine binary.Add a b p Neither i m n q f g = absurd i
  binary_fine binary.Sub a b p Real i m n q f g = (arithmetic_fine binary.Sub a b p refl refl i q (f Real i.0 m) (g Real i.1 n), refl)
  binary_fine binary.Sub a b p Bool' i m n q f g = let h = i.0 in absurd (cc)
  binary_fine binary.Sub a b p Neither i m n q f g = absurd i
  binary_fine binary.Mul a b p Real i m n q f g = (arithmetic_fine binary.Mul a b p refl refl i q (f Real i.0 m) (g Real i.1 n), refl)
  binary_fine binary.Mul a b p Bool' i m n q f g = let h = i.0 in absurd (cc)
  binary_fine binary.Mul a b p Neither i m n q f g = absurd i
  binary_fine binary.Div a b p Real i m n q f g = (arithmetic_fine binary.Div a b p refl refl i q (f Real i.0 m) (g Real i.1 n), refl)
  binary_fine binary.Div a b p Bool' i m n q f g = let h = i.0 in absurd (cc)
  binary_fine binary.Div a b p Neither i m n q f g = absurd i
  binary_fine binary.And a b p Real i m n q f g = absurd i.2
  binary_fine binary.And a b p Bool' i m n q f g = (at_operator binary.And a b p Bool' refl (f Bool' i.1 m) (g Bool' i.2 n) tt tt, refl)
  binary_fine binary.And a b p Neither i m n q f g = absurd i
  binary_fine binary.Or a b p Real i m n q f g = absurd i.2
  binary_fine binary.Or a b p Bool' i m n q f g = (at_operator binary.Or a b p Bool' refl (f Bool' i.1 m) (g Bool' i.2 n) tt tt, refl)
  binary_fine binary.Or a b p Neither i m n q f g = absurd i
  binary_fine binary.Iff a b p Real i m n q f g = absurd i.2
  binary_fine binary.Iff a b p Bool' i m n q f g = (at_operator binary.Iff a b p Bool' refl (f Bool' i.1 m) (g Bool' i.2 n) tt tt, refl)
  binary_fine binary.Iff a b p Neither i m n q f g = absurd i
  binary_fine binary.Then a b p Real i m n q f g = absurd i.2
  binary_fine binary.Then a b p Bool' i m n q f g = (at_operator binary.Then a b p Bool' refl (f Bool' i.1 m) (g Bool' i.2 n) tt tt, refl)
  binary_fine binary.Then a b p Neither i m n q f g = absurd i
  binary_fine binary.From a b p Real i m n q f g = absurd i.2
  binary_fine binary.From a b p Bool' i m n q f g = (at_operator binary.From a b p Bool' refl (f Bool' i.1 m) (g Bool' i.2 n) tt tt, refl)
  binary_fine binary.From a b p Neither i m n q f g = absurd i
  binary_fine binary.Most a b p Real i m n q f g = absurd i.2
  binary_fine binary.Most a b p Bool' i m n q f g = let h = i.0 in absurd (cc)
  binary_fine binary.Most a b p Neither i m n q f g = absurd i
  binary_fine binary.Least a b p Real i m n q f g = absurd i.2
  binary_fine binary.Least a b p Bool' i m n q f g = let h = i.0 in absurd (cc)
  binary_fine binary.Least a b p Neither i m n q f g = absurd i
  binary_fine binary.Equal a b p Real i m n q f g = absurd i.2
  binary_fine binary.Equal a b p Bool' i m n q f g = let h = i.0 in absurd (cc)
  binary_fine binary.Equal a b p Neither i m n q f g = absurd i

  pub constant_fine : (e : Tree) → IsFine e
  constant_fine (tree.Number text p) Real i n = ((n.0, tt), refl)
  constant_fine (tree.Number text p) Bool' i n = absurd i
  constant_fine (tree.Number text p) Neither i n = absurd i
  constant_fine (tree.Name m p) Real i n = real_stands (find_known ks m) (look ps m) p (known m) i
  constant_fine (tree.Name m p) Bool' i n = formula_stands (find_known ks m) (look ps m) p (known m) i
  constant_fine (tree.Name m p) Neither i n = absurd i
  constant_fine (tree.Truth b p) Real i n = absurd i
  constant_fine (tree.Truth b p) Bool' i n = (tt, refl)
  constant_fine (tree.Truth b p) Neither i n = absurd i
  constant_fine (tree.Cast m p) Real i n = (stands_cast (find_known ks m) (look ps m) p (known m) i, refl)
  constant_fine (tree.Cast m p) Bool' i n = absurd i
  constant_fine (tree.Cast m p) Neither i n = absurd i
  constant_fine (tree.Unary op a p) t i n = unary_fine op a p t i (λ u j. constant_fine a u j n)
  constant_fine (tree.Binary op a b p) t i n =
      let os = all_at p (folding ns op (form ns a) (form ns b)) in
      let q = all_behind _ (numbers_of ns a) (numbers_of ns b ++ os) n in
      binary_fine op a b p t i (all_front _ (numbers_of ns a) (numbers_of ns b ++ os) n) (all_front _ (numbers_of ns b) os q) (all_behind _ (numbers_of ns b) os q) (constant_fine a) (constant_fine b)
