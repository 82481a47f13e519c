-- The checks of an expression pass exactly where it has a kind once its guards have names, each of its guards compares
-- two real expressions, and its numbers fit.
use Rattle.std.proofs.Common.{◌≡◌, ℕ, List, ◌++◌, Option, Some, None, Bool, true, false, ◌&&◌, not, refl, sym, ◌∙◌, ap, ap₂, subst, subst₂, ◌⊎◌, inl, inr}
use Rattle.std.specs.Prelude.{IsTrue}
use Rattle.hys_lin.specs.declared.lost.Lost.{Lost}
use Rattle.hys_ast.specs.declared.place.Place.{Place}
use Rattle.hys_ast.specs.declared.tree.UnaryOp.{UnaryOp}
use Rattle.hys_ast.specs.declared.tree.UnaryOp.TheVariants as unary
use Rattle.hys_ast.specs.declared.tree.BinaryOp.{BinaryOp}
use Rattle.hys_ast.specs.declared.tree.BinaryOp.TheVariants as binary
use Rattle.hys_ast.specs.declared.source.Section.{Section}
use Rattle.hys_ast.specs.declared.source.Section.TheVariants as section
use Rattle.hys_ast.specs.declared.source.Kind.{Kind}
use Rattle.hys_ast.specs.declared.source.Kind.TheVariants as kind
use Rattle.hys_ast.specs.Tree.{Tree}
use Rattle.hys_ast.specs.Tree as tree
use Rattle.hys_meaning.specs.Values.{signed}
use Rattle.hys_meaning.specs.Names.{Name, look, is_output, is_auxiliary}
use Rattle.hys_meaning.specs.Forms.{Form, combined, form, Folds, looked_up}
use Rattle.hys_meaning.specs.Folding.{all_at, folding, numbers_of}
use Rattle.hys_meaning.specs.Unfolded.{Guard, guard_name, named, is_inequality}
use Rattle.hys_meaning.specs.Typed.{IsReal, IsFormula, IsComparison, may_stand, suits, is_sign, is_negation, is_connective}
use Rattle.hys_meaning.specs.Typed as typed
use Rattle.hys_type.specs.Sorts.{Sort, Real, Bool', Neither, sort_of_kind, sort_of_unary, is_real, is_bool, takes_unary}
use Rattle.hys_type.specs.Constants.{is_bool_kind}
use Rattle.hys_type.specs.Faults.{in_range}
use Rattle.hys_type.specs.Nodes.{name_checks, may_be_cast, sort_of_name, sort, takes_binary, linear_checks, operator_checks, node_checks}
use Rattle.hys_type.specs.Nodes as nodes
use Rattle.hys_type.specs.Written.{NamesNoGuard, SameNames, AreNamed, Compare}
use Rattle.hys_type.proofs.Passing.{all_join, all_front, all_behind, Pass, pass_join, pass_front, pass_behind, Fit, range_fit, fit_range}
use Rattle.hys_type.proofs.Linear.{outside, is_arithmetic, linear_folds, folds_linear}

-- ---- kinds of expressions
abbrev pub is_equality : BinaryOp → Bool
is_equality binary.Add = false
is_equality binary.Sub = false
is_equality binary.Mul = false
is_equality binary.Div = false
is_equality binary.And = false
is_equality binary.Or = false
is_equality binary.Iff = false
is_equality binary.Then = false
is_equality binary.From = false
is_equality binary.Most = false
is_equality binary.Least = false
is_equality binary.Equal = true

abbrev pub IsSorted : Sort → List Name → Tree → Type 0
IsSorted Real ms e = IsReal ms e
IsSorted Bool' ms e = IsFormula ms e
IsSorted Neither ms e = IsComparison is_equality ms e

-- what the checks of an expression say of the guards and of the rest
pub record Kept (ns ms : List Name) (k : ℕ) (e : Tree) : Type 0 where
  pub guards : Compare ms (named k e).guards
  pub part : IsSorted (sort ns e) ms (named k e).part
  pub numbers : Fit (numbers_of ns e)

-- ---- names
guard_not_real : (o : Option Name) → IsTrue (suits section.Ad o) → IsTrue (may_stand typed.is_real o) → ⊥
guard_not_real None h r = absurd (cc)
guard_not_real (Some m) h r = go (is_auxiliary m.section) m.kind (is_output m.section) h r
  where
    go : (a : Bool) (k : Kind) (b : Bool) → a && typed.is_bool k ≡ true → typed.is_real k && not b ≡ true → ⊥
    go true kind.Real b h r = absurd (cc)
    go false kind.Real b h r = absurd (cc)
    go a kind.Bool b h r = absurd (cc)

guard_formula : (o : Option Name) → IsTrue (suits section.Ad o) → IsTrue (may_stand typed.is_bool o)
guard_formula None h = absurd (cc)
guard_formula (Some m) h = go m.section m.kind h
  where
    go : (s : Section) (k : Kind) → is_auxiliary s && typed.is_bool k ≡ true → typed.is_bool k && not (is_output s) ≡ true
    go section.State k h = absurd (cc)
    go section.Input k h = absurd (cc)
    go section.Output k h = absurd (cc)
    go section.Parameter k h = absurd (cc)
    go section.Aux kind.Bool h = refl
    go section.Aux kind.Real h = absurd (cc)
    go section.Ad k h = absurd (cc)
    go section.Da k h = absurd (cc)
    go section.Logic k h = absurd (cc)
    go section.Linear k h = absurd (cc)
    go section.Automata k h = absurd (cc)
    go section.Continuous k h = absurd (cc)
    go section.OutputItem k h = absurd (cc)
    go section.Must k h = absurd (cc)

real_name : (o : Option Name) (p : Place) → IsTrue (may_stand typed.is_real o) → Pass (name_checks nodes.may_stand o p) × (sort_of_name o ≡ Real)
real_name None p h = absurd (cc)
real_name (Some m) p h = go m.kind (is_output m.section) h
  where
    go : (k : Kind) (b : Bool) → typed.is_real k && not b ≡ true → ((true ≡ true) × ((not b ≡ true) × Unit {0})) × (sort_of_name (Some (record { text = m.text; section = m.section; kind = k; low = m.low; high = m.high; value = m.value })) ≡ Real)
    go kind.Real true h = absurd (cc)
    go kind.Real false h = ((refl, (refl, tt)), refl)
    go kind.Bool b h = absurd (cc)

formula_name : (o : Option Name) (p : Place) → IsTrue (may_stand typed.is_bool o) → Pass (name_checks nodes.may_stand o p) × (sort_of_name o ≡ Bool')
formula_name None p h = absurd (cc)
formula_name (Some m) p h = go m.kind (is_output m.section) h
  where
    go : (k : Kind) (b : Bool) → typed.is_bool k && not b ≡ true → ((true ≡ true) × ((not b ≡ true) × Unit {0})) × (sort_of_name (Some (record { text = m.text; section = m.section; kind = k; low = m.low; high = m.high; value = m.value })) ≡ Bool')
    go kind.Bool true h = absurd (cc)
    go kind.Bool false h = ((refl, (refl, tt)), refl)
    go kind.Real b h = absurd (cc)

cast_name : (o : Option Name) (p : Place) → IsTrue (may_stand typed.is_bool o) → Pass (name_checks may_be_cast o p)
cast_name None p h = absurd (cc)
cast_name (Some m) p h = (refl, (go m.kind (is_output m.section) h, tt))
  where
    go : (k : Kind) (b : Bool) → typed.is_bool k && not b ≡ true → not b && is_bool_kind k ≡ true
    go kind.Bool true h = absurd (cc)
    go kind.Bool false h = refl
    go kind.Real b h = absurd (cc)

name_sorted : (o : Option Name) (p : Place) → Pass (name_checks nodes.may_stand o p) → ((sort_of_name o ≡ Real) × IsTrue (may_stand typed.is_real o)) ⊎ ((sort_of_name o ≡ Bool') × IsTrue (may_stand typed.is_bool o))
name_sorted None p h = let i = h.0 in absurd (cc)
name_sorted (Some m) p h = go m.kind (is_output m.section) h.1.0
  where
    go : (k : Kind) (b : Bool) → not b ≡ true → ((sort_of_kind k ≡ Real) × (typed.is_real k && not b ≡ true)) ⊎ ((sort_of_kind k ≡ Bool') × (typed.is_bool k && not b ≡ true))
    go kind.Real b h = inl (refl, h)
    go kind.Bool b h = inr (refl, h)

cast_real : (o : Option Name) (p : Place) → Pass (name_checks may_be_cast o p) → IsTrue (may_stand typed.is_bool o)
cast_real None p h = let i = h.0 in absurd (cc)
cast_real (Some m) p h = go m.kind (is_output m.section) h.1.0
  where
    go : (k : Kind) (b : Bool) → not b && is_bool_kind k ≡ true → typed.is_bool k && not b ≡ true
    go kind.Bool true h = absurd (cc)
    go kind.Bool false h = refl
    go kind.Real true h = absurd (cc)
    go kind.Real false h = absurd (cc)

-- ---- sorts
pub real_sort : (s : Sort) → is_real s ≡ true → s ≡ Real
real_sort Real h = refl
real_sort Bool' h = absurd (cc)
real_sort Neither h = absurd (cc)

pub bool_sort : (s : Sort) → is_bool s ≡ true → s ≡ Bool'
bool_sort Bool' h = refl
bool_sort Real h = absurd (cc)
bool_sort Neither h = absurd (cc)

pub both_real : (s t : Sort) → is_real s && is_real t ≡ true → (s ≡ Real) × (t ≡ Real)
both_real Real t h = (refl, real_sort t h)
both_real Bool' t h = absurd (cc)
both_real Neither t h = absurd (cc)

pub both_bool : (s t : Sort) → is_bool s && is_bool t ≡ true → (s ≡ Bool') × (t ≡ Bool')
both_bool Bool' t h = (refl, bool_sort t h)
both_bool Real t h = absurd (cc)
both_bool Neither t h = absurd (cc)

-- ---- forms
-- a real expression has the same form once its guards have names
pub real_same : (ns ms : List Name) → SameNames ns ms → (k : ℕ) (e : Tree) → NamesNoGuard e → AreNamed ms (named k e).guards → IsReal ms (named k e).part → form ms (named k e).part ≡ form ns e
real_same ns ms s k (tree.Number text p) w q r = refl
real_same ns ms s k (tree.Name n p) w q r = ap (looked_up n) (s n w)
real_same ns ms s k (tree.Truth b p) w q r = absurd r
real_same ns ms s k (tree.Cast n p) w q r = ap (looked_up n) (s n w)
real_same ns ms s k (tree.Unary op a p) w q r = ap (λ (f : Form). record { factor = λ n. signed op (f.factor n); constant = signed op f.constant }) (real_same ns ms s k a w q r.1)
real_same ns ms s k (tree.Binary op a b p) w q r = by op q r (real_same ns ms s k a w.0) (real_same ns ms s (named k a).next b w.1)
  where
    pair : (op : BinaryOp) → AreNamed ms ((named k a).guards ++ (named (named k a).next b).guards) → IsReal ms (tree.Binary op (named k a).part (named (named k a).next b).part p) →
        (AreNamed ms (named k a).guards → IsReal ms (named k a).part → form ms (named k a).part ≡ form ns a) →
        (AreNamed ms (named (named k a).next b).guards → IsReal ms (named (named k a).next b).part → form ms (named (named k a).next b).part ≡ form ns b) →
        combined op (form ms (named k a).part) (form ms (named (named k a).next b).part) ≡ combined op (form ns a) (form ns b)
    pair op q r f g = ap₂ (combined op) (f (all_front _ (named k a).guards _ q) r.0) (g (all_behind _ (named k a).guards _ q) r.1)

    by : (op : BinaryOp) → AreNamed ms (named k (tree.Binary op a b p)).guards → IsReal ms (named k (tree.Binary op a b p)).part →
        (AreNamed ms (named k a).guards → IsReal ms (named k a).part → form ms (named k a).part ≡ form ns a) →
        (AreNamed ms (named (named k a).next b).guards → IsReal ms (named (named k a).next b).part → form ms (named (named k a).next b).part ≡ form ns b) →
        form ms (named k (tree.Binary op a b p)).part ≡ form ns (tree.Binary op a b p)
    by binary.Add q r f g = pair binary.Add q r f g
    by binary.Sub q r f g = pair binary.Sub q r f g
    by binary.Mul q r f g = pair binary.Mul q r f g
    by binary.Div q r f g = pair binary.Div q r f g
    by binary.And q r f g = pair binary.And q r f g
    by binary.Or q r f g = pair binary.Or q r f g
    by binary.Iff q r f g = pair binary.Iff q r f g
    by binary.Then q r f g = pair binary.Then q r f g
    by binary.From q r f g = pair binary.From q r f g
    by binary.Most q r f g = absurd (guard_not_real (look ms (guard_name (named (named k a).next b).next)) (all_behind _ ((named k a).guards ++ (named (named k a).next b).guards) _ q).0 r)
    by binary.Least q r f g = absurd (guard_not_real (look ms (guard_name (named (named k a).next b).next)) (all_behind _ ((named k a).guards ++ (named (named k a).next b).guards) _ q).0 r)
    by binary.Equal q r f g = pair binary.Equal q r f g

-- ---- from the checks
signed_part : (ms : List Name) (op : UnaryOp) (a : Tree) (p : Place) (t : Sort) → takes_unary op t ≡ true → IsSorted t ms a → IsSorted (sort_of_unary op) ms (tree.Unary op a p)
signed_part ms unary.Not a p Bool' h i = (refl, i)
signed_part ms unary.Not a p Real h i = absurd (cc)
signed_part ms unary.Not a p Neither h i = absurd (cc)
signed_part ms unary.Neg a p Real h i = (refl, i)
signed_part ms unary.Neg a p Bool' h i = absurd (cc)
signed_part ms unary.Neg a p Neither h i = absurd (cc)
signed_part ms unary.Plus a p Real h i = (refl, i)
signed_part ms unary.Plus a p Bool' h i = absurd (cc)
signed_part ms unary.Plus a p Neither h i = absurd (cc)

-- two operands, of which the second was named from where the first ends
module _ (ns ms : List Name) (same : SameNames ns ms) (k : ℕ) (a b : Tree) (p : Place) (w : NamesNoGuard a) (x : NamesNoGuard b) where
  abbrev first : List Guard
  first = (named k a).guards

  abbrev later : ℕ
  later = (named k a).next

  abbrev second : List Guard
  second = (named later b).guards

  arithmetic_part : (op : BinaryOp) → IsTrue (is_arithmetic op) → AreNamed ms (first ++ second) → IsSorted (sort ns a) ms (named k a).part → IsSorted (sort ns b) ms (named later b).part →
      is_real (sort ns a) && is_real (sort ns b) ≡ true → Pass (linear_checks ns op (form ns a) (form ns b) p) → IsReal ms (tree.Binary op (named k a).part (named later b).part p)
  arithmetic_part op y q i j h l =
      let e = both_real (sort ns a) (sort ns b) h in
      let c : IsReal ms (named k a).part = subst (λ t. IsSorted t ms (named k a).part) e.0 i in
      let d : IsReal ms (named later b).part = subst (λ t. IsSorted t ms (named later b).part) e.1 j in (
        c,
        d,
        subst₂ (λ (f g : Form). Folds op f g) (sym (real_same ns ms same k a w (all_front _ first second q) c)) (sym (real_same ns ms same later b x (all_behind _ first second q) d))
            (linear_folds ns op (form ns a) (form ns b) p y (outside ns a) (outside ns b) l),
      )

  formula_part : (op : BinaryOp) → IsTrue (is_connective op) → IsSorted (sort ns a) ms (named k a).part → IsSorted (sort ns b) ms (named later b).part → is_bool (sort ns a) && is_bool (sort ns b) ≡ true →
      IsFormula ms (tree.Binary op (named k a).part (named later b).part p)
  formula_part op y i j h =
      let e = both_bool (sort ns a) (sort ns b) h in
      (y, subst (λ t. IsSorted t ms (named k a).part) e.0 i, subst (λ t. IsSorted t ms (named later b).part) e.1 j)

  pub compared_part : (test : BinaryOp → Bool) (op : BinaryOp) → IsTrue (test op) → IsSorted (sort ns a) ms (named k a).part → IsSorted (sort ns b) ms (named later b).part → is_real (sort ns a) && is_real (sort ns b) ≡ true →
      IsComparison test ms (tree.Binary op (named k a).part (named later b).part p)
  compared_part test op y i j h =
      let e = both_real (sort ns a) (sort ns b) h in
      (y, subst (λ t. IsSorted t ms (named k a).part) e.0 i, subst (λ t. IsSorted t ms (named later b).part) e.1 j)

  -- what the checks at the operator say, and the numbers
  pub operator_of : (op : BinaryOp) → Pass (node_checks ns (tree.Binary op a b p)) → Pass (operator_checks ns op (sort ns a) (sort ns b) (form ns a) (form ns b) p)
  operator_of op c = pass_behind (node_checks ns b) _ (pass_behind (node_checks ns a) _ c)

  pub numbers_join : (op : BinaryOp) → Kept ns ms k a → Kept ns ms later b → Pass (operator_checks ns op (sort ns a) (sort ns b) (form ns a) (form ns b) p) → Fit (numbers_of ns (tree.Binary op a b p))
  numbers_join op l r c =
      let os : List Lost = folding ns op (form ns a) (form ns b) in
      all_join _ (numbers_of ns a) (numbers_of ns b ++ all_at p os) l.numbers (all_join _ (numbers_of ns b) (all_at p os) r.numbers (range_fit p os (pass_behind (linear_checks ns op (form ns a) (form ns b) p) (in_range p os) c.1)))

  joined : (op : BinaryOp) → AreNamed ms (named k (tree.Binary op a b p)).guards → Pass (node_checks ns (tree.Binary op a b p)) →
      (AreNamed ms first → Pass (node_checks ns a) → Kept ns ms k a) → (AreNamed ms second → Pass (node_checks ns b) → Kept ns ms later b) → Kept ns ms k (tree.Binary op a b p)
  joined binary.Add q c f g =
      let t : AreNamed ms (first ++ second) = q in
      let l = f (all_front _ first second t) (pass_front (node_checks ns a) _ c) in
      let r = g (all_behind _ first second t) (pass_front (node_checks ns b) _ (pass_behind (node_checks ns a) _ c)) in
      let o = operator_of binary.Add c in
      record { guards = all_join _ first second l.guards r.guards; part = arithmetic_part binary.Add refl t l.part r.part o.0 (pass_front (linear_checks ns binary.Add (form ns a) (form ns b) p) _ o.1); numbers = numbers_join binary.Add l r o }
  joined binary.Sub q c f g =
      let t : AreNamed ms (first ++ second) = q in
      let l = f (all_front _ first second t) (pass_front (node_checks ns a) _ c) in
      let r = g (all_behind _ first second t) (pass_front (node_checks ns b) _ (pass_behind (node_checks ns a) _ c)) in
      let o = operator_of binary.Sub c in
      record { guards = all_join _ first second l.guards r.guards; part = arithmetic_part binary.Sub refl t l.part r.part o.0 (pass_front (linear_checks ns binary.Sub (form ns a) (form ns b) p) _ o.1); numbers = numbers_join binary.Sub l r o }
  joined binary.Mul q c f g =
      let t : AreNamed ms (first ++ second) = q in
      let l = f (all_front _ first second t) (pass_front (node_checks ns a) _ c) in
      let r = g (all_behind _ first second t) (pass_front (node_checks ns b) _ (pass_behind (node_checks ns a) _ c)) in
      let o = operator_of binary.Mul c in
      record { guards = all_join _ first second l.guards r.guards; part = arithmetic_part binary.Mul refl t l.part r.part o.0 (pass_front (linear_checks ns binary.Mul (form ns a) (form ns b) p) _ o.1); numbers = numbers_join binary.Mul l r o }
  joined binary.Div q c f g =
      let t : AreNamed ms (first ++ second) = q in
      let l = f (all_front _ first second t) (pass_front (node_checks ns a) _ c) in
      let r = g (all_behind _ first second t) (pass_front (node_checks ns b) _ (pass_behind (node_checks ns a) _ c)) in
      let o = operator_of binary.Div c in
      record { guards = all_join _ first second l.guards r.guards; part = arithmetic_part binary.Div refl t l.part r.part o.0 (pass_front (linear_checks ns binary.Div (form ns a) (form ns b) p) _ o.1); numbers = numbers_join binary.Div l r o }
  joined binary.And q c f g =
      let t : AreNamed ms (first ++ second) = q in
      let l = f (all_front _ first second t) (pass_front (node_checks ns a) _ c) in
      let r = g (all_behind _ first second t) (pass_front (node_checks ns b) _ (pass_behind (node_checks ns a) _ c)) in
      let o = operator_of binary.And c in
      record { guards = all_join _ first second l.guards r.guards; part = formula_part binary.And refl l.part r.part o.0; numbers = numbers_join binary.And l r o }
  joined binary.Or q c f g =
      let t : AreNamed ms (first ++ second) = q in
      let l = f (all_front _ first second t) (pass_front (node_checks ns a) _ c) in
      let r = g (all_behind _ first second t) (pass_front (node_checks ns b) _ (pass_behind (node_checks ns a) _ c)) in
      let o = operator_of binary.Or c in
      record { guards = all_join _ first second l.guards r.guards; part = formula_part binary.Or refl l.part r.part o.0; numbers = numbers_join binary.Or l r o }
  joined binary.Iff q c f g =
      let t : AreNamed ms (first ++ second) = q in
      let l = f (all_front _ first second t) (pass_front (node_checks ns a) _ c) in
      let r = g (all_behind _ first second t) (pass_front (node_checks ns b) _ (pass_behind (node_checks ns a) _ c)) in
      let o = operator_of binary.Iff c in
      record { guards = all_join _ first second l.guards r.guards; part = formula_part binary.Iff refl l.part r.part o.0; numbers = numbers_join binary.Iff l r o }
  joined binary.Then q c f g =
      let t : AreNamed ms (first ++ second) = q in
      let l = f (all_front _ first second t) (pass_front (node_checks ns a) _ c) in
      let r = g (all_behind _ first second t) (pass_front (node_checks ns b) _ (pass_behind (node_checks ns a) _ c)) in
      let o = operator_of binary.Then c in
      record { guards = all_join _ first second l.guards r.guards; part = formula_part binary.Then refl l.part r.part o.0; numbers = numbers_join binary.Then l r o }
  joined binary.From q c f g =
      let t : AreNamed ms (first ++ second) = q in
      let l = f (all_front _ first second t) (pass_front (node_checks ns a) _ c) in
      let r = g (all_behind _ first second t) (pass_front (node_checks ns b) _ (pass_behind (node_checks ns a) _ c)) in
      let o = operator_of binary.From c in
      record { guards = all_join _ first second l.guards r.guards; part = formula_part binary.From refl l.part r.part o.0; numbers = numbers_join binary.From l r o }
  joined binary.Most q c f g =
      let t : AreNamed ms (first ++ second) = all_front _ (first ++ second) _ q in
      let l = f (all_front _ first second t) (pass_front (node_checks ns a) _ c) in
      let r = g (all_behind _ first second t) (pass_front (node_checks ns b) _ (pass_behind (node_checks ns a) _ c)) in
      let o = operator_of binary.Most c in
      record { guards = all_join _ (first ++ second) _ (all_join _ first second l.guards r.guards) (compared_part is_inequality binary.Most refl l.part r.part o.0, tt); part = guard_formula (look ms (guard_name (named later b).next)) (all_behind _ (first ++ second) _ q).0; numbers = numbers_join binary.Most l r o }
  joined binary.Least q c f g =
      let t : AreNamed ms (first ++ second) = all_front _ (first ++ second) _ q in
      let l = f (all_front _ first second t) (pass_front (node_checks ns a) _ c) in
      let r = g (all_behind _ first second t) (pass_front (node_checks ns b) _ (pass_behind (node_checks ns a) _ c)) in
      let o = operator_of binary.Least c in
      record { guards = all_join _ (first ++ second) _ (all_join _ first second l.guards r.guards) (compared_part is_inequality binary.Least refl l.part r.part o.0, tt); part = guard_formula (look ms (guard_name (named later b).next)) (all_behind _ (first ++ second) _ q).0; numbers = numbers_join binary.Least l r o }
  joined binary.Equal q c f g =
      let t : AreNamed ms (first ++ second) = q in
      let l = f (all_front _ first second t) (pass_front (node_checks ns a) _ c) in
      let r = g (all_behind _ first second t) (pass_front (node_checks ns b) _ (pass_behind (node_checks ns a) _ c)) in
      let o = operator_of binary.Equal c in
      record { guards = all_join _ first second l.guards r.guards; part = compared_part is_equality binary.Equal refl l.part r.part o.0; numbers = numbers_join binary.Equal l r o }

pub kept : (ns ms : List Name) → SameNames ns ms → (k : ℕ) (e : Tree) → NamesNoGuard e → AreNamed ms (named k e).guards → Pass (node_checks ns e) → Kept ns ms k e
kept ns ms s k (tree.Number text p) w q c = record { guards = tt; part = tt; numbers = (c.0, tt) }
kept ns ms s k (tree.Name n p) w q c = go (name_sorted (look ns n) p c)
  where
    go : ((sort_of_name (look ns n) ≡ Real) × IsTrue (may_stand typed.is_real (look ns n))) ⊎ ((sort_of_name (look ns n) ≡ Bool') × IsTrue (may_stand typed.is_bool (look ns n))) → Kept ns ms k (tree.Name n p)
    go (inl h) = record { guards = tt; part = subst (λ t. IsSorted t ms (tree.Name n p)) (sym h.0) (subst (λ (o : Option Name). IsTrue (may_stand typed.is_real o)) (sym (s n w)) h.1); numbers = tt }
    go (inr h) = record { guards = tt; part = subst (λ t. IsSorted t ms (tree.Name n p)) (sym h.0) (subst (λ (o : Option Name). IsTrue (may_stand typed.is_bool o)) (sym (s n w)) h.1); numbers = tt }
kept ns ms s k (tree.Truth b p) w q c = record { guards = tt; part = tt; numbers = tt }
kept ns ms s k (tree.Cast n p) w q c = record { guards = tt; part = subst (λ (o : Option Name). IsTrue (may_stand typed.is_bool o)) (sym (s n w)) (cast_real (look ns n) p c); numbers = tt }
kept ns ms s k (tree.Unary op a p) w q c =
    let l = kept ns ms s k a w q (pass_front (node_checks ns a) _ c) in
    record { guards = l.guards; part = signed_part ms op (named k a).part p (sort ns a) (pass_behind (node_checks ns a) _ c).0 l.part; numbers = l.numbers }
kept ns ms s k (tree.Binary op a b p) w q c = joined ns ms s k a b p w.0 w.1 op q c (kept ns ms s k a w.0) (kept ns ms s (named k a).next b w.1)

-- ---- to the checks
-- the checks pass, and the expression is of the kind
abbrev pub Fine : List Name → Tree → Sort → Type 0
Fine ns e t = Pass (node_checks ns e) × (sort ns e ≡ t)

signed_fine : (ns : List Name) (op : UnaryOp) (a : Tree) (p : Place) (t : Sort) → Fine ns a t → takes_unary op t ≡ true → Pass (node_checks ns (tree.Unary op a p))
signed_fine ns op a p t f h = pass_join (node_checks ns a) _ f.0 (ap (takes_unary op) f.1 ∙ h, tt)

module _ (ns ms : List Name) (same : SameNames ns ms) (k : ℕ) (a b : Tree) (p : Place) (w : NamesNoGuard a) (x : NamesNoGuard b) where
  abbrev before : List Guard
  before = (named k a).guards

  abbrev next : ℕ
  next = (named k a).next

  abbrev after : List Guard
  after = (named next b).guards

  both_fine : (op : BinaryOp) (t u : Sort) → Fine ns a t → Fine ns b u → takes_binary op t u ≡ true → Pass (linear_checks ns op (form ns a) (form ns b) p) → Fit (numbers_of ns (tree.Binary op a b p)) → Pass (node_checks ns (tree.Binary op a b p))
  both_fine op t u f g h l n =
      let os : List Lost = folding ns op (form ns a) (form ns b) in
      let z : Fit (all_at p os) = all_behind _ (numbers_of ns b) (all_at p os) (all_behind _ (numbers_of ns a) (numbers_of ns b ++ all_at p os) n) in
      pass_join (node_checks ns a) _ f.0
      (pass_join (node_checks ns b) _ g.0 (ap₂ (takes_binary op) f.1 g.1 ∙ h, pass_join (linear_checks ns op (form ns a) (form ns b) p) (in_range p os) l (fit_range p os z)))

  linear_of : (op : BinaryOp) → AreNamed ms (before ++ after) → IsReal ms (tree.Binary op (named k a).part (named next b).part p) → Pass (linear_checks ns op (form ns a) (form ns b) p)
  linear_of op q r =
      folds_linear ns op (form ns a) (form ns b) p
      (subst₂ (λ (f g : Form). Folds op f g) (real_same ns ms same k a w (all_front _ before after q) r.0) (real_same ns ms same next b x (all_behind _ before after q) r.1) r.2)

  -- what is known of an operand
  abbrev Left : Type 0
  Left = AreNamed ms before → Compare ms before → (t : Sort) → IsSorted t ms (named k a).part → Fit (numbers_of ns a) → Fine ns a t

  abbrev Right : Type 0
  Right = AreNamed ms after → Compare ms after → (t : Sort) → IsSorted t ms (named next b).part → Fit (numbers_of ns b) → Fine ns b t

  pub operands : (op : BinaryOp) (t : Sort) → takes_binary op t t ≡ true → Pass (linear_checks ns op (form ns a) (form ns b) p) → AreNamed ms (before ++ after) → Compare ms (before ++ after) →
      IsSorted t ms (named k a).part → IsSorted t ms (named next b).part → Fit (numbers_of ns (tree.Binary op a b p)) → Left → Right → Pass (node_checks ns (tree.Binary op a b p))
  operands op t h l q c i j n f g =
      let os : List Lost = folding ns op (form ns a) (form ns b) in
      let y : Fit (numbers_of ns b ++ all_at p os) = all_behind _ (numbers_of ns a) (numbers_of ns b ++ all_at p os) n in
      both_fine op t t (f (all_front _ before after q) (all_front _ before after c) t i (all_front _ (numbers_of ns a) (numbers_of ns b ++ all_at p os) n))
      (g (all_behind _ before after q) (all_behind _ before after c) t j (all_front _ (numbers_of ns b) (all_at p os) y)) h l n

  fine_binary : (op : BinaryOp) → AreNamed ms (named k (tree.Binary op a b p)).guards → Compare ms (named k (tree.Binary op a b p)).guards → (t : Sort) → IsSorted t ms (named k (tree.Binary op a b p)).part →
      Fit (numbers_of ns (tree.Binary op a b p)) → Left → Right → Fine ns (tree.Binary op a b p) t
  fine_binary binary.Add q c Real i n f g = (operands binary.Add Real refl (linear_of binary.Add q i) q c i.0 i.1 n f g, refl)
  fine_binary binary.Add q c Bool' i n f g = let h = i.0 in absurd (cc)
  fine_binary binary.Add q c Neither i n f g = let h = i.0 in absurd (cc)
  fine_binary binary.Sub q c Real i n f g = (operands binary.Sub Real refl (linear_of binary.Sub q i) q c i.0 i.1 n f g, refl)
  fine_binary binary.Sub q c Bool' i n f g = let h = i.0 in absurd (cc)
  fine_binary binary.Sub q c Neither i n f g = let h = i.0 in absurd (cc)
  fine_binary binary.Mul q c Real i n f g = (operands binary.Mul Real refl (linear_of binary.Mul q i) q c i.0 i.1 n f g, refl)
  fine_binary binary.Mul q c Bool' i n f g = let h = i.0 in absurd (cc)
  fine_binary binary.Mul q c Neither i n f g = let h = i.0 in absurd (cc)
  fine_binary binary.Div q c Real i n f g = (operands binary.Div Real refl (linear_of binary.Div q i) q c i.0 i.1 n f g, refl)
  fine_binary binary.Div q c Bool' i n f g = let h = i.0 in absurd (cc)
  fine_binary binary.Div q c Neither i n f g = let h = i.0 in absurd (cc)
  fine_binary binary.And q c Real i n f g = absurd i.2
  fine_binary binary.And q c Bool' i n f g = (operands binary.And Bool' refl tt q c i.1 i.2 n f g, refl)
  fine_binary binary.And q c Neither i n f g = let h = i.0 in absurd (cc)
  fine_binary binary.Or q c Real i n f g = absurd i.2
  fine_binary binary.Or q c Bool' i n f g = (operands binary.Or Bool' refl tt q c i.1 i.2 n f g, refl)
  fine_binary binary.Or q c Neither i n f g = let h = i.0 in absurd (cc)
  fine_binary binary.Iff q c Real i n f g = absurd i.2
  fine_binary binary.Iff q c Bool' i n f g = (operands binary.Iff Bool' refl tt q c i.1 i.2 n f g, refl)
  fine_binary binary.Iff q c Neither i n f g = let h = i.0 in absurd (cc)
  fine_binary binary.Then q c Real i n f g = absurd i.2
  fine_binary binary.Then q c Bool' i n f g = (operands binary.Then Bool' refl tt q c i.1 i.2 n f g, refl)
  fine_binary binary.Then q c Neither i n f g = let h = i.0 in absurd (cc)
  fine_binary binary.From q c Real i n f g = absurd i.2
  fine_binary binary.From q c Bool' i n f g = (operands binary.From Bool' refl tt q c i.1 i.2 n f g, refl)
  fine_binary binary.From q c Neither i n f g = let h = i.0 in absurd (cc)
  fine_binary binary.Most q c Real i n f g = absurd (guard_not_real (look ms (guard_name (named next b).next)) (all_behind _ (before ++ after) _ q).0 i)
  fine_binary binary.Most q c Bool' i n f g = let e : IsComparison is_inequality ms (tree.Binary binary.Most (named k a).part (named next b).part p) = (all_behind _ (before ++ after) _ c).0 in (operands binary.Most Real refl tt (all_front _ (before ++ after) _ q) (all_front _ (before ++ after) _ c) e.1 e.2 n f g, refl)
  fine_binary binary.Most q c Neither i n f g = absurd i
  fine_binary binary.Least q c Real i n f g = absurd (guard_not_real (look ms (guard_name (named next b).next)) (all_behind _ (before ++ after) _ q).0 i)
  fine_binary binary.Least q c Bool' i n f g = let e : IsComparison is_inequality ms (tree.Binary binary.Least (named k a).part (named next b).part p) = (all_behind _ (before ++ after) _ c).0 in (operands binary.Least Real refl tt (all_front _ (before ++ after) _ q) (all_front _ (before ++ after) _ c) e.1 e.2 n f g, refl)
  fine_binary binary.Least q c Neither i n f g = absurd i
  fine_binary binary.Equal q c Real i n f g = absurd i.2
  fine_binary binary.Equal q c Bool' i n f g = let h = i.0 in absurd (cc)
  fine_binary binary.Equal q c Neither i n f g = (operands binary.Equal Real refl tt q c i.1 i.2 n f g, refl)

fine_unary : (ns ms : List Name) (op : UnaryOp) (a c : Tree) (p : Place) (t : Sort) → IsSorted t ms (tree.Unary op c p) → ((u : Sort) → IsSorted u ms c → Fine ns a u) → Fine ns (tree.Unary op a p) t
fine_unary ns ms unary.Not a c p Real i f = let h = i.0 in absurd (cc)
fine_unary ns ms unary.Not a c p Bool' i f = (signed_fine ns unary.Not a p Bool' (f Bool' i.1) refl, refl)
fine_unary ns ms unary.Not a c p Neither i f = absurd i
fine_unary ns ms unary.Neg a c p Real i f = (signed_fine ns unary.Neg a p Real (f Real i.1) refl, refl)
fine_unary ns ms unary.Neg a c p Bool' i f = let h = i.0 in absurd (cc)
fine_unary ns ms unary.Neg a c p Neither i f = absurd i
fine_unary ns ms unary.Plus a c p Real i f = (signed_fine ns unary.Plus a p Real (f Real i.1) refl, refl)
fine_unary ns ms unary.Plus a c p Bool' i f = let h = i.0 in absurd (cc)
fine_unary ns ms unary.Plus a c p Neither i f = absurd i

pub fine : (ns ms : List Name) → SameNames ns ms → (k : ℕ) (e : Tree) → NamesNoGuard e → AreNamed ms (named k e).guards → Compare ms (named k e).guards → (t : Sort) → IsSorted t ms (named k e).part → Fit (numbers_of ns e) → Fine ns e t
fine ns ms s k (tree.Number text p) w q c Real i n = ((n.0, tt), refl)
fine ns ms s k (tree.Number text p) w q c Bool' i n = absurd i
fine ns ms s k (tree.Number text p) w q c Neither i n = absurd i
fine ns ms s k (tree.Name m p) w q c Real i n = real_name (look ns m) p (subst (λ (o : Option Name). IsTrue (may_stand typed.is_real o)) (s m w) i)
fine ns ms s k (tree.Name m p) w q c Bool' i n = formula_name (look ns m) p (subst (λ (o : Option Name). IsTrue (may_stand typed.is_bool o)) (s m w) i)
fine ns ms s k (tree.Name m p) w q c Neither i n = absurd i
fine ns ms s k (tree.Truth b p) w q c Real i n = absurd i
fine ns ms s k (tree.Truth b p) w q c Bool' i n = (tt, refl)
fine ns ms s k (tree.Truth b p) w q c Neither i n = absurd i
fine ns ms s k (tree.Cast m p) w q c Real i n = (cast_name (look ns m) p (subst (λ (o : Option Name). IsTrue (may_stand typed.is_bool o)) (s m w) i), refl)
fine ns ms s k (tree.Cast m p) w q c Bool' i n = absurd i
fine ns ms s k (tree.Cast m p) w q c Neither i n = absurd i
fine ns ms s k (tree.Unary op a p) w q c t i n = fine_unary ns ms op a (named k a).part p t i (λ u j. fine ns ms s k a w q c u j n)
fine ns ms s k (tree.Binary op a b p) w q c t i n = fine_binary ns ms s k a b p w.0 w.1 op q c t i n (fine ns ms s k a w.0) (fine ns ms s (named k a).next b w.1)
