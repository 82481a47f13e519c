-- The checks of an expression in its place pass exactly where it is what its place wants.
use Rattle.std.proofs.Common.{◌≡◌, ℕ, List, [], ◌∷◌, ◌++◌, Bool, true, false, ◌&&◌, cond, refl, sym, ◌∙◌, ap, subst, ◌⊎◌, inl, inr, ◌↔◌}
use Rattle.std.specs.Prelude.{IsTrue}
use Rattle.hys_ast.specs.declared.place.Place.{Place}
use Rattle.hys_ast.specs.declared.source.Kind.{Kind}
use Rattle.hys_ast.specs.declared.source.Kind.TheVariants as kind
use Rattle.hys_ast.specs.declared.tree.BinaryOp.{BinaryOp}
use Rattle.hys_ast.specs.declared.tree.BinaryOp.TheVariants as binary
use Rattle.hys_ast.specs.Tree.{Tree}
use Rattle.hys_ast.specs.Tree as tree
use Rattle.hys_meaning.specs.Names.{Name}
use Rattle.hys_meaning.specs.Forms.{form}
use Rattle.hys_meaning.specs.Folding.{numbers_of}
use Rattle.hys_meaning.specs.Unfolded.{named, named_below, is_inequality}
use Rattle.hys_meaning.specs.Typed.{IsFormula, IsOfKind, IsComparison, is_comparison}
use Rattle.hys_type.specs.Sorts.{Sort, Real, Bool', is_real, is_bool}
use Rattle.hys_type.specs.Faults.{check}
use Rattle.hys_type.specs.Constants.{known_sort, constant_checks}
use Rattle.hys_type.specs.Declarations.{constant_of_kind, is_of_kind, place_of}
use Rattle.hys_type.specs.Nodes.{sort, node_checks, takes_binary, linear_checks}
use Rattle.hys_type.specs.Checks.{of_kind, expression, has_top, demanded}
use Rattle.hys_type.specs.Written.{NamesNoGuard, SameNames, AreNamed, Compare, AreKnown, AreAmong}
use Rattle.hys_type.specs.declared.constant.Known.{Known}
use Rattle.hys_type.specs.declared.fault.TypeFault.TheVariants as fault
use Rattle.hys_type.proofs.Passing.{all_join, all_front, all_behind, Pass, pass_join, pass_front, pass_behind, Fit}
use Rattle.hys_type.proofs.NodeRules.{IsSorted, real_sort, bool_sort, kept, fine, compared_part, operator_of, numbers_join, operands}
use Rattle.hys_type.proofs.ConstantRules.{IsConstantOf, constant_kept, constant_fine}

-- ---- constants
abbrev kind_sort : Kind → Sort
kind_sort kind.Real = Real
kind_sort kind.Bool = Bool'

wanted_sort : (k : Kind) (s : Sort) → is_of_kind k s ≡ true → s ≡ kind_sort k
wanted_sort kind.Real s h = real_sort s h
wanted_sort kind.Bool s h = bool_sort s h

own_sort : (k : Kind) → is_of_kind k (kind_sort k) ≡ true
own_sort kind.Real = refl
own_sort kind.Bool = refl

constant_as : (k : Kind) (ps : List Name) (e : Tree) → IsConstantOf (kind_sort k) ps e → IsOfKind k ps e
constant_as kind.Real ps e h = h
constant_as kind.Bool ps e h = h

as_constant : (k : Kind) (ps : List Name) (e : Tree) → IsOfKind k ps e → IsConstantOf (kind_sort k) ps e
as_constant kind.Real ps e h = h
as_constant kind.Bool ps e h = h

pub constant_rule : (ks : List Known) (ps ns : List Name) → AreKnown ks ps → AreAmong ps ns → (k : Kind) (e : Tree) → Pass (constant_of_kind k ks e) ↔ (IsOfKind k ps e × Fit (numbers_of ns e))
constant_rule ks ps ns h a k e = (there, back)
  where
    there : Pass (constant_of_kind k ks e) → IsOfKind k ps e × Fit (numbers_of ns e)
    there c =
        let r = constant_kept ks ps ns h a e (pass_front (constant_checks ks e) _ c) in
        let s = wanted_sort k (known_sort ks e) (pass_behind (constant_checks ks e) _ c).0 in
        (constant_as k ps e (subst (λ t. IsConstantOf t ps e) s r.part), r.numbers)

    back : IsOfKind k ps e × Fit (numbers_of ns e) → Pass (constant_of_kind k ks e)
    back p = let f = constant_fine ks ps ns h a e (kind_sort k) (as_constant k ps e p.0) p.1 in pass_join (constant_checks ks e) _ f.0 (ap (is_of_kind k) f.1 ∙ own_sort k, tt)

-- ---- kinds
sorted_as : (k : Kind) (ps : List Name) (e : Tree) → IsSorted (kind_sort k) ps e → IsOfKind k ps e
sorted_as kind.Real ps e h = h
sorted_as kind.Bool ps e h = h

as_sorted : (k : Kind) (ps : List Name) (e : Tree) → IsOfKind k ps e → IsSorted (kind_sort k) ps e
as_sorted kind.Real ps e h = h
as_sorted kind.Bool ps e h = h

pub kind_rule : (ns ms : List Name) → SameNames ns ms → (n : ℕ) (e : Tree) → NamesNoGuard e → AreNamed ms (named n e).guards → (k : Kind) →
    Pass (of_kind k ns e) ↔ (Compare ms (named n e).guards × IsOfKind k ms (named n e).part × Fit (numbers_of ns e))
kind_rule ns ms h n e w q k = (there, back)
  where
    there : Pass (of_kind k ns e) → Compare ms (named n e).guards × IsOfKind k ms (named n e).part × Fit (numbers_of ns e)
    there c =
        let r = kept ns ms h n e w q (pass_front (node_checks ns e) _ c) in
        let s = wanted_sort k (sort ns e) (pass_behind (node_checks ns e) _ c).0 in
        (r.guards, sorted_as k ms (named n e).part (subst (λ t. IsSorted t ms (named n e).part) s r.part), r.numbers)

    back : Compare ms (named n e).guards × IsOfKind k ms (named n e).part × Fit (numbers_of ns e) → Pass (of_kind k ns e)
    back p = let f = fine ns ms h n e w q p.0 (kind_sort k) (as_sorted k ms (named n e).part p.1) p.2 in pass_join (node_checks ns e) _ f.0 (ap (is_of_kind k) f.1 ∙ own_sort k, tt)

-- ---- a comparison at the top
module _ (ns ms : List Name) (h : SameNames ns ms) (n : ℕ) (a b : Tree) (p : Place) (w : NamesNoGuard a) (x : NamesNoGuard b) (q : AreNamed ms ((named n a).guards ++ (named (named n a).next b).guards)) where
  compared_kept : (test : BinaryOp → Bool) (op : BinaryOp) → IsTrue (test op) → takes_binary op (sort ns a) (sort ns b) ≡ (is_real (sort ns a) && is_real (sort ns b)) → Pass (node_checks ns (tree.Binary op a b p)) →
      Compare ms (named_below n (tree.Binary op a b p)).guards × IsComparison test ms (named_below n (tree.Binary op a b p)).part × Fit (numbers_of ns (tree.Binary op a b p))
  compared_kept test op y z c =
      let l = kept ns ms h n a w (all_front _ (named n a).guards (named (named n a).next b).guards q) (pass_front (node_checks ns a) _ c) in
      let r = kept ns ms h (named n a).next b x (all_behind _ (named n a).guards (named (named n a).next b).guards q) (pass_front (node_checks ns b) _ (pass_behind (node_checks ns a) _ c)) in
      let o = operator_of ns ms h n a b p w x op c in
      (all_join _ (named n a).guards (named (named n a).next b).guards l.guards r.guards, compared_part ns ms h n a b p w x test op y l.part r.part (sym z ∙ o.0), numbers_join ns ms h n a b p w x op l r o)

  compared_fine : (test : BinaryOp → Bool) (op : BinaryOp) → takes_binary op Real Real ≡ true → Pass (linear_checks ns op (form ns a) (form ns b) p) →
      Compare ms (named_below n (tree.Binary op a b p)).guards × IsComparison test ms (named_below n (tree.Binary op a b p)).part × Fit (numbers_of ns (tree.Binary op a b p)) → Pass (node_checks ns (tree.Binary op a b p))
  compared_fine test op y l t = operands ns ms h n a b p w x op Real y l q t.0 t.1.1 t.1.2 t.2 (fine ns ms h n a w) (fine ns ms h (named n a).next b x)

  guard_there : (op : BinaryOp) → Pass (expression ns (has_top is_inequality) (tree.Binary op a b p)) →
      Compare ms (named_below n (tree.Binary op a b p)).guards × IsComparison is_inequality ms (named_below n (tree.Binary op a b p)).part × Fit (numbers_of ns (tree.Binary op a b p))
  guard_there binary.Add c = let f = (pass_behind (node_checks ns (tree.Binary binary.Add a b p)) _ c).0 in absurd (cc)
  guard_there binary.Sub c = let f = (pass_behind (node_checks ns (tree.Binary binary.Sub a b p)) _ c).0 in absurd (cc)
  guard_there binary.Mul c = let f = (pass_behind (node_checks ns (tree.Binary binary.Mul a b p)) _ c).0 in absurd (cc)
  guard_there binary.Div c = let f = (pass_behind (node_checks ns (tree.Binary binary.Div a b p)) _ c).0 in absurd (cc)
  guard_there binary.And c = let f = (pass_behind (node_checks ns (tree.Binary binary.And a b p)) _ c).0 in absurd (cc)
  guard_there binary.Or c = let f = (pass_behind (node_checks ns (tree.Binary binary.Or a b p)) _ c).0 in absurd (cc)
  guard_there binary.Iff c = let f = (pass_behind (node_checks ns (tree.Binary binary.Iff a b p)) _ c).0 in absurd (cc)
  guard_there binary.Then c = let f = (pass_behind (node_checks ns (tree.Binary binary.Then a b p)) _ c).0 in absurd (cc)
  guard_there binary.From c = let f = (pass_behind (node_checks ns (tree.Binary binary.From a b p)) _ c).0 in absurd (cc)
  guard_there binary.Most c = compared_kept is_inequality binary.Most refl refl (pass_front (node_checks ns (tree.Binary binary.Most a b p)) _ c)
  guard_there binary.Least c = compared_kept is_inequality binary.Least refl refl (pass_front (node_checks ns (tree.Binary binary.Least a b p)) _ c)
  guard_there binary.Equal c = let f = (pass_behind (node_checks ns (tree.Binary binary.Equal a b p)) _ c).0 in absurd (cc)

  guard_back : (op : BinaryOp) → Compare ms (named_below n (tree.Binary op a b p)).guards × IsComparison is_inequality ms (named_below n (tree.Binary op a b p)).part × Fit (numbers_of ns (tree.Binary op a b p)) →
      Pass (expression ns (has_top is_inequality) (tree.Binary op a b p))
  guard_back binary.Add t = let f = t.1.0 in absurd (cc)
  guard_back binary.Sub t = let f = t.1.0 in absurd (cc)
  guard_back binary.Mul t = let f = t.1.0 in absurd (cc)
  guard_back binary.Div t = let f = t.1.0 in absurd (cc)
  guard_back binary.And t = let f = t.1.0 in absurd (cc)
  guard_back binary.Or t = let f = t.1.0 in absurd (cc)
  guard_back binary.Iff t = let f = t.1.0 in absurd (cc)
  guard_back binary.Then t = let f = t.1.0 in absurd (cc)
  guard_back binary.From t = let f = t.1.0 in absurd (cc)
  guard_back binary.Most t = pass_join (node_checks ns (tree.Binary binary.Most a b p)) _ (compared_fine is_inequality binary.Most refl tt t) (refl, tt)
  guard_back binary.Least t = pass_join (node_checks ns (tree.Binary binary.Least a b p)) _ (compared_fine is_inequality binary.Least refl tt t) (refl, tt)
  guard_back binary.Equal t = let f = t.1.0 in absurd (cc)

wanted_top : (ns : List Name) (test : Tree → Bool) (e : Tree) → Pass (expression ns test e) → test e ≡ true
wanted_top ns test e c = (pass_behind (node_checks ns e) (check (test e) (fault.Kind (place_of e)) ∷ []) c).0

pub guard_rule : (ns ms : List Name) → SameNames ns ms → (n : ℕ) (e : Tree) → NamesNoGuard e → AreNamed ms (named_below n e).guards →
    Pass (expression ns (has_top is_inequality) e) ↔ (Compare ms (named_below n e).guards × IsComparison is_inequality ms (named_below n e).part × Fit (numbers_of ns e))
guard_rule ns ms h n (tree.Number text p) w q = (λ c. let f : false ≡ true = wanted_top ns (has_top is_inequality) (tree.Number text p) c in absurd (cc), λ t. absurd t.1)
guard_rule ns ms h n (tree.Name m p) w q = (λ c. let f : false ≡ true = wanted_top ns (has_top is_inequality) (tree.Name m p) c in absurd (cc), λ t. absurd t.1)
guard_rule ns ms h n (tree.Truth b p) w q = (λ c. let f : false ≡ true = wanted_top ns (has_top is_inequality) (tree.Truth b p) c in absurd (cc), λ t. absurd t.1)
guard_rule ns ms h n (tree.Cast m p) w q = (λ c. let f : false ≡ true = wanted_top ns (has_top is_inequality) (tree.Cast m p) c in absurd (cc), λ t. absurd t.1)
guard_rule ns ms h n (tree.Unary op a p) w q = (λ c. let f : false ≡ true = wanted_top ns (has_top is_inequality) (tree.Unary op a p) c in absurd (cc), λ t. absurd t.1)
guard_rule ns ms h n (tree.Binary op a b p) w q = (guard_there ns ms h n a b p w.0 w.1 q op, guard_back ns ms h n a b p w.0 w.1 q op)

-- ---- what may be demanded
never : false ≡ true → ⊥
never e = absurd (cc)

abbrev pub IsDemanded : List Name → Tree → Type 0
IsDemanded ms e = IsFormula ms e ⊎ IsComparison is_comparison ms e

formula_there : (ns ms : List Name) → SameNames ns ms → (n : ℕ) (e : Tree) → NamesNoGuard e → AreNamed ms (named n e).guards → has_top is_comparison e ≡ false → Pass (expression ns (demanded ns) e) →
    Compare ms (named n e).guards × IsDemanded ms (named n e).part × Fit (numbers_of ns e)
formula_there ns ms h n e w q y c =
    let r = kept ns ms h n e w q (pass_front (node_checks ns e) _ c) in
    let s : is_bool (sort ns e) ≡ true = sym (ap (λ b. cond b true (is_bool (sort ns e))) y) ∙ wanted_top ns (demanded ns) e c in
    (r.guards, inl (subst (λ t. IsSorted t ms (named n e).part) (bool_sort (sort ns e) s) r.part), r.numbers)

formula_back : (ns ms : List Name) → SameNames ns ms → (n : ℕ) (e : Tree) → NamesNoGuard e → AreNamed ms (named n e).guards → has_top is_comparison e ≡ false → ¬ (IsComparison is_comparison ms (named n e).part) →
    Compare ms (named n e).guards × IsDemanded ms (named n e).part × Fit (numbers_of ns e) → Pass (expression ns (demanded ns) e)
formula_back ns ms h n e w q y z t = go t.1
  where
    go : IsDemanded ms (named n e).part → Pass (expression ns (demanded ns) e)
    go (inr k) = absurd (z k)
    go (inl k) =
        let f = fine ns ms h n e w q t.0 Bool' k t.2 in
        pass_join (node_checks ns e) _ f.0 (ap (λ b. cond b true (is_bool (sort ns e))) y ∙ ap is_bool f.1, tt)

module _ (ns ms : List Name) (h : SameNames ns ms) (n : ℕ) (a b : Tree) (p : Place) (w : NamesNoGuard a) (x : NamesNoGuard b) (q : AreNamed ms ((named n a).guards ++ (named (named n a).next b).guards)) where
  demand_there : (op : BinaryOp) → Pass (expression ns (demanded ns) (tree.Binary op a b p)) →
      Compare ms (named_below n (tree.Binary op a b p)).guards × IsDemanded ms (named_below n (tree.Binary op a b p)).part × Fit (numbers_of ns (tree.Binary op a b p))
  demand_there binary.Add c = formula_there ns ms h n (tree.Binary binary.Add a b p) (w, x) q refl c
  demand_there binary.Sub c = formula_there ns ms h n (tree.Binary binary.Sub a b p) (w, x) q refl c
  demand_there binary.Mul c = formula_there ns ms h n (tree.Binary binary.Mul a b p) (w, x) q refl c
  demand_there binary.Div c = formula_there ns ms h n (tree.Binary binary.Div a b p) (w, x) q refl c
  demand_there binary.And c = formula_there ns ms h n (tree.Binary binary.And a b p) (w, x) q refl c
  demand_there binary.Or c = formula_there ns ms h n (tree.Binary binary.Or a b p) (w, x) q refl c
  demand_there binary.Iff c = formula_there ns ms h n (tree.Binary binary.Iff a b p) (w, x) q refl c
  demand_there binary.Then c = formula_there ns ms h n (tree.Binary binary.Then a b p) (w, x) q refl c
  demand_there binary.From c = formula_there ns ms h n (tree.Binary binary.From a b p) (w, x) q refl c
  demand_there binary.Most c = let r = compared_kept ns ms h n a b p w x q is_comparison binary.Most refl refl (pass_front (node_checks ns (tree.Binary binary.Most a b p)) _ c) in (r.0, inr r.1, r.2)
  demand_there binary.Least c = let r = compared_kept ns ms h n a b p w x q is_comparison binary.Least refl refl (pass_front (node_checks ns (tree.Binary binary.Least a b p)) _ c) in (r.0, inr r.1, r.2)
  demand_there binary.Equal c = let r = compared_kept ns ms h n a b p w x q is_comparison binary.Equal refl refl (pass_front (node_checks ns (tree.Binary binary.Equal a b p)) _ c) in (r.0, inr r.1, r.2)

  demand_back : (op : BinaryOp) → Compare ms (named_below n (tree.Binary op a b p)).guards × IsDemanded ms (named_below n (tree.Binary op a b p)).part × Fit (numbers_of ns (tree.Binary op a b p)) →
      Pass (expression ns (demanded ns) (tree.Binary op a b p))
  demand_back binary.Add t = formula_back ns ms h n (tree.Binary binary.Add a b p) (w, x) q refl (λ k. never k.0) t
  demand_back binary.Sub t = formula_back ns ms h n (tree.Binary binary.Sub a b p) (w, x) q refl (λ k. never k.0) t
  demand_back binary.Mul t = formula_back ns ms h n (tree.Binary binary.Mul a b p) (w, x) q refl (λ k. never k.0) t
  demand_back binary.Div t = formula_back ns ms h n (tree.Binary binary.Div a b p) (w, x) q refl (λ k. never k.0) t
  demand_back binary.And t = formula_back ns ms h n (tree.Binary binary.And a b p) (w, x) q refl (λ k. never k.0) t
  demand_back binary.Or t = formula_back ns ms h n (tree.Binary binary.Or a b p) (w, x) q refl (λ k. never k.0) t
  demand_back binary.Iff t = formula_back ns ms h n (tree.Binary binary.Iff a b p) (w, x) q refl (λ k. never k.0) t
  demand_back binary.Then t = formula_back ns ms h n (tree.Binary binary.Then a b p) (w, x) q refl (λ k. never k.0) t
  demand_back binary.From t = formula_back ns ms h n (tree.Binary binary.From a b p) (w, x) q refl (λ k. never k.0) t
  demand_back binary.Most (c, inl k, f) = let i : false ≡ true = k.0 in absurd (cc)
  demand_back binary.Most (c, inr k, f) = pass_join (node_checks ns (tree.Binary binary.Most a b p)) _ (compared_fine ns ms h n a b p w x q is_comparison binary.Most refl tt (c, k, f)) (refl, tt)
  demand_back binary.Least (c, inl k, f) = let i : false ≡ true = k.0 in absurd (cc)
  demand_back binary.Least (c, inr k, f) = pass_join (node_checks ns (tree.Binary binary.Least a b p)) _ (compared_fine ns ms h n a b p w x q is_comparison binary.Least refl tt (c, k, f)) (refl, tt)
  demand_back binary.Equal (c, inl k, f) = let i : false ≡ true = k.0 in absurd (cc)
  demand_back binary.Equal (c, inr k, f) = pass_join (node_checks ns (tree.Binary binary.Equal a b p)) _ (compared_fine ns ms h n a b p w x q is_comparison binary.Equal refl tt (c, k, f)) (refl, tt)

pub demand_rule : (ns ms : List Name) → SameNames ns ms → (n : ℕ) (e : Tree) → NamesNoGuard e → AreNamed ms (named_below n e).guards →
    Pass (expression ns (demanded ns) e) ↔ (Compare ms (named_below n e).guards × IsDemanded ms (named_below n e).part × Fit (numbers_of ns e))
demand_rule ns ms h n (tree.Number text p) w q = (formula_there ns ms h n (tree.Number text p) w q refl, formula_back ns ms h n (tree.Number text p) w q refl (λ k. absurd k))
demand_rule ns ms h n (tree.Name m p) w q = (formula_there ns ms h n (tree.Name m p) w q refl, formula_back ns ms h n (tree.Name m p) w q refl (λ k. absurd k))
demand_rule ns ms h n (tree.Truth b p) w q = (formula_there ns ms h n (tree.Truth b p) w q refl, formula_back ns ms h n (tree.Truth b p) w q refl (λ k. absurd k))
demand_rule ns ms h n (tree.Cast m p) w q = (formula_there ns ms h n (tree.Cast m p) w q refl, formula_back ns ms h n (tree.Cast m p) w q refl (λ k. absurd k))
demand_rule ns ms h n (tree.Unary op a p) w q = (formula_there ns ms h n (tree.Unary op a p) w q refl, formula_back ns ms h n (tree.Unary op a p) w q refl (λ k. absurd k))
demand_rule ns ms h n (tree.Binary op a b p) w q = (demand_there ns ms h n a b p w.0 w.1 q op, demand_back ns ms h n a b p w.0 w.1 q op)
