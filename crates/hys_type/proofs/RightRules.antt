-- The checks of the right side of an item pass exactly where it suits its section and its numbers fit.
use Rattle.std.proofs.Common.{◌≡◌, ℕ, List, [], ◌∷◌, ◌++◌, Option, Some, None, Bool, true, false, refl, sym, ◌∙◌, ap, ap₂, subst, ◌↔◌, ◌⊎◌}
use Rattle.std.specs.Prelude.{IsTrue}
use Rattle.std.specs.List.{AllByRecursion}
use Rattle.std.specs.Ordering.{is_lt}
use Rattle.std.specs.declared.cmp.Ordering.{Ordering}
use Rattle.std.specs.declared.cmp.Ordering.TheVariants.{Less, Equal, Greater}
use Rattle.hys_number.specs.Number.{Number}
use Rattle.hys_number.specs.Ops.{whole, ◌<ₙ◌}
use Rattle.hys_frac.specs.Compare.{number_cmp}
use Rattle.hys_frac.proofs.Comparisons.{is_lt-cmp}
use Rattle.hys_ast.specs.declared.place.Place.{Place}
use Rattle.hys_ast.specs.declared.source.Section.{Section}
use Rattle.hys_ast.specs.declared.source.Section.TheVariants as section
use Rattle.hys_ast.specs.declared.source.Kind.{Kind}
use Rattle.hys_ast.specs.declared.source.Kind.TheVariants as kind
use Rattle.hys_ast.specs.Tree.{Tree, Shape}
use Rattle.hys_ast.specs.Tree as tree
use Rattle.hys_ast.specs.Nodes.{if_any, shape_expressions}
use Rattle.hys_meaning.specs.Values.{value, signed, computed}
use Rattle.hys_meaning.specs.Names.{Name, look}
use Rattle.hys_meaning.specs.Bodies.{body_in}
use Rattle.hys_meaning.specs.Unfolded.{named, named_below, named_shape, named_maybe, is_inequality}
use Rattle.hys_meaning.specs.Typed.{IsReal, IsMaybe, IsComparison, IsFormula, IsTolerance, RightTyped, LeftTyped, only_parameters, settled, value_or_zero, suits, may_stand}
use Rattle.hys_meaning.specs.Typed as typed
use Rattle.hys_type.specs.Constants.{find_known, known_value, known_values}
use Rattle.hys_type.specs.Declarations.{if_some, constant_of_kind}
use Rattle.hys_type.specs.Checks.{scoped, of_kind, expression, has_top, demanded, is_less, tolerance_checks, output_checks, left_name, right_checks}
use Rattle.hys_type.specs.Written.{NamesNoGuard, AreNamed, Compare, KnownAs, HasRight, GoTogether}
use Rattle.hys_type.specs.declared.constant.Known.{Known}
use Rattle.hys_type.proofs.Passing.{all_join, all_front, all_behind, Pass, pass_join, pass_front, pass_behind}
use Rattle.hys_type.proofs.PlaceRules.{constant_rule, kind_rule, guard_rule, demand_rule}
use Rattle.hys_type.proofs.ValueRules.{FitOf, fit_of_join, fit_of_split, fit_one, one_fit}

never : {A : Type 0} → false ≡ true → A
never e = absurd (cc)

less_is : (o : Ordering) → is_less o ≡ is_lt o
less_is Less = refl
less_is Equal = refl
less_is Greater = refl

less_there : (a b : Number) → is_less (number_cmp a b) ≡ true → a <ₙ b
less_there a b h = (is_lt-cmp a b).0 (sym (less_is (number_cmp a b)) ∙ h)

less_back : (a b : Number) → a <ₙ b → is_less (number_cmp a b) ≡ true
less_back a b h = less_is (number_cmp a b) ∙ (is_lt-cmp a b).1 h

module _ (ns ms : List Name) (ks : List Known) (g : GoTogether ns ms ks) where
  -- ---- tolerances
  name_value : (x : Option Known) (o l : Option Name) (test : Kind → Bool) → KnownAs x o → IsTrue (may_stand test o) → ((m : Name) → o ≡ Some m → l ≡ Some m) → known_value x ≡ value_or_zero l
  name_value x None l test h i f = absurd (cc)
  name_value None (Some m) l test h i f = absurd h
  name_value (Some x) (Some m) l test h i f = h.2 ∙ ap value_or_zero (sym (f m refl))

  same_value : (e : Tree) → IsReal (only_parameters ns) e → value (known_values ks) e ≡ value (settled ms) e
  same_value (tree.Number text p) r = refl
  same_value (tree.Name n p) r = name_value (find_known ks n) (look (only_parameters ns) n) (look ms n) typed.is_real (g.known n) r (λ m e. g.still n m e)
  same_value (tree.Truth b p) r = refl
  same_value (tree.Cast n p) r = name_value (find_known ks n) (look (only_parameters ns) n) (look ms n) typed.is_bool (g.known n) r (λ m e. g.still n m e)
  same_value (tree.Unary op a p) r = ap (signed op) (same_value a r.1)
  same_value (tree.Binary op a b p) r = ap₂ (computed op) (same_value a r.0) (same_value b r.1)

  tolerance_rule : (p : Place) (e : Tree) → Pass (tolerance_checks ks p e) ↔ (IsTolerance ms e × FitOf ns (e ∷ []))
  tolerance_rule p e = (there, back)
    where
      there : Pass (tolerance_checks ks p e) → IsTolerance ms e × FitOf ns (e ∷ [])
      there c =
          let r = (constant_rule ks (only_parameters ns) ns g.known g.among kind.Real e).0 (pass_front (constant_of_kind kind.Real ks e) _ c) in
          let l = (pass_behind (constant_of_kind kind.Real ks e) _ c).0 in
          ((subst (λ qs. IsReal qs e) (sym g.parameters) r.0, subst (λ a. whole 0 <ₙ a) (same_value e r.0) (less_there (whole 0) (value (known_values ks) e) l)), fit_one ns e r.1)

      back : IsTolerance ms e × FitOf ns (e ∷ []) → Pass (tolerance_checks ks p e)
      back t =
          let r : IsReal (only_parameters ns) e = subst (λ qs. IsReal qs e) g.parameters t.0.0 in
          pass_join (constant_of_kind kind.Real ks e) _ ((constant_rule ks (only_parameters ns) ns g.known g.among kind.Real e).1 (r, one_fit ns e t.1))
          (less_back (whole 0) (value (known_values ks) e) (subst (λ a. whole 0 <ₙ a) (sym (same_value e r)) t.0.1), tt)

  -- ---- one expression
  plain_rule : (kd : Kind) (k : ℕ) (e : Tree) → NamesNoGuard e → AreNamed ms (named k e).guards → Pass (of_kind kd ns e) ↔ (Compare ms (named k e).guards × typed.IsOfKind kd ms (named k e).part × FitOf ns (e ∷ []))
  plain_rule kd k e w q = (
    λ c. let r = (kind_rule ns ms g.same k e w q kd).0 c in (r.0, r.1, fit_one ns e r.2),
    λ t. (kind_rule ns ms g.same k e w q kd).1 (t.0, t.1, one_fit ns e t.2),
  )

  maybe_rule : (k : ℕ) (o : Option Tree) → AllByRecursion NamesNoGuard (if_any o) → AreNamed ms (named_maybe k o).guards → Pass (if_some (of_kind kind.Real ns) o) ↔ (Compare ms (named_maybe k o).guards × IsMaybe (IsReal ms) (named_maybe k o).part × FitOf ns (if_any o))
  maybe_rule k (Some e) w q = plain_rule kind.Real k e w.0 q
  maybe_rule k None w q = (λ c. (tt, tt, tt), λ t. tt)

  choice_rule : (k : ℕ) (a b : Tree) (o : Option Tree) → AllByRecursion NamesNoGuard (a ∷ b ∷ if_any o) →
      AreNamed ms ((named k a).guards ++ ((named (named k a).next b).guards ++ (named_maybe (named (named k a).next b).next o).guards)) →
      Pass (of_kind kind.Bool ns a ++ (of_kind kind.Real ns b ++ if_some (of_kind kind.Real ns) o)) ↔
      (Compare ms ((named k a).guards ++ ((named (named k a).next b).guards ++ (named_maybe (named (named k a).next b).next o).guards)) ×
      (IsFormula ms (named k a).part × IsReal ms (named (named k a).next b).part × IsMaybe (IsReal ms) (named_maybe (named (named k a).next b).next o).part) × FitOf ns (a ∷ b ∷ if_any o))
  choice_rule k a b o w q = (there, back)
    where
      ra : Pass (of_kind kind.Bool ns a) ↔ (Compare ms (named k a).guards × IsFormula ms (named k a).part × FitOf ns (a ∷ []))
      ra = plain_rule kind.Bool k a w.0 (all_front _ (named k a).guards ((named (named k a).next b).guards ++ (named_maybe (named (named k a).next b).next o).guards) q)

      rb : Pass (of_kind kind.Real ns b) ↔ (Compare ms (named (named k a).next b).guards × IsReal ms (named (named k a).next b).part × FitOf ns (b ∷ []))
      rb = plain_rule kind.Real (named k a).next b w.1.0 (all_front _ (named (named k a).next b).guards (named_maybe (named (named k a).next b).next o).guards (all_behind _ (named k a).guards ((named (named k a).next b).guards ++ (named_maybe (named (named k a).next b).next o).guards) q))

      ro : Pass (if_some (of_kind kind.Real ns) o) ↔ (Compare ms (named_maybe (named (named k a).next b).next o).guards × IsMaybe (IsReal ms) (named_maybe (named (named k a).next b).next o).part × FitOf ns (if_any o))
      ro = maybe_rule (named (named k a).next b).next o w.1.1 (all_behind _ (named (named k a).next b).guards (named_maybe (named (named k a).next b).next o).guards (all_behind _ (named k a).guards ((named (named k a).next b).guards ++ (named_maybe (named (named k a).next b).next o).guards) q))

      there : Pass (of_kind kind.Bool ns a ++ (of_kind kind.Real ns b ++ if_some (of_kind kind.Real ns) o)) →
          Compare ms ((named k a).guards ++ ((named (named k a).next b).guards ++ (named_maybe (named (named k a).next b).next o).guards)) × (IsFormula ms (named k a).part × IsReal ms (named (named k a).next b).part × IsMaybe (IsReal ms) (named_maybe (named (named k a).next b).next o).part) × FitOf ns (a ∷ b ∷ if_any o)
      there c =
          let d = pass_behind (of_kind kind.Bool ns a) (of_kind kind.Real ns b ++ if_some (of_kind kind.Real ns) o) c in
          let x = ra.0 (pass_front (of_kind kind.Bool ns a) (of_kind kind.Real ns b ++ if_some (of_kind kind.Real ns) o) c) in
          let y = rb.0 (pass_front (of_kind kind.Real ns b) (if_some (of_kind kind.Real ns) o) d) in
          let z = ro.0 (pass_behind (of_kind kind.Real ns b) (if_some (of_kind kind.Real ns) o) d) in
          (all_join _ (named k a).guards ((named (named k a).next b).guards ++ (named_maybe (named (named k a).next b).next o).guards) x.0 (all_join _ (named (named k a).next b).guards (named_maybe (named (named k a).next b).next o).guards y.0 z.0), (x.1, y.1, z.1), fit_of_join ns (a ∷ []) (b ∷ if_any o) x.2 (fit_of_join ns (b ∷ []) (if_any o) y.2 z.2))

      back : Compare ms ((named k a).guards ++ ((named (named k a).next b).guards ++ (named_maybe (named (named k a).next b).next o).guards)) × (IsFormula ms (named k a).part × IsReal ms (named (named k a).next b).part × IsMaybe (IsReal ms) (named_maybe (named (named k a).next b).next o).part) × FitOf ns (a ∷ b ∷ if_any o) →
          Pass (of_kind kind.Bool ns a ++ (of_kind kind.Real ns b ++ if_some (of_kind kind.Real ns) o))
      back t =
          let f = fit_of_split ns (a ∷ []) (b ∷ if_any o) t.2 in
          let h = fit_of_split ns (b ∷ []) (if_any o) f.1 in
          let d = all_behind _ (named k a).guards ((named (named k a).next b).guards ++ (named_maybe (named (named k a).next b).next o).guards) t.0 in
          pass_join (of_kind kind.Bool ns a) _ (ra.1 (all_front _ (named k a).guards ((named (named k a).next b).guards ++ (named_maybe (named (named k a).next b).next o).guards) t.0, t.1.0, f.0))
          (pass_join (of_kind kind.Real ns b) _ (rb.1 (all_front _ (named (named k a).next b).guards (named_maybe (named (named k a).next b).next o).guards d, t.1.1, h.0)) (ro.1 (all_behind _ (named (named k a).next b).guards (named_maybe (named (named k a).next b).next o).guards d, t.1.2, h.1)))

  -- ---- guards
  alone_rule : (k : ℕ) (e : Tree) → NamesNoGuard e → AreNamed ms (named_below k e).guards → Pass (expression ns (has_top is_inequality) e ++ []) ↔
      (Compare ms (named_below k e).guards × (IsComparison is_inequality ms (named_below k e).part × Unit {0}) × FitOf ns (e ∷ []))
  alone_rule k e w q = (
    λ c. let r = (guard_rule ns ms g.same k e w q).0 (pass_front (expression ns (has_top is_inequality) e) [] c) in (r.0, (r.1, tt), fit_one ns e r.2),
    λ t. pass_join (expression ns (has_top is_inequality) e) [] ((guard_rule ns ms g.same k e w q).1 (t.0, t.1.0, one_fit ns e t.2)) tt,
  )

  wide_rule : (k : ℕ) (p : Place) (e t : Tree) → NamesNoGuard e → AreNamed ms (named_below k e).guards → Pass (expression ns (has_top is_inequality) e ++ tolerance_checks ks p t) ↔
      (Compare ms (named_below k e).guards × (IsComparison is_inequality ms (named_below k e).part × IsTolerance ms t) × FitOf ns (e ∷ t ∷ []))
  wide_rule k p e t w q = (
    λ c. let r = (guard_rule ns ms g.same k e w q).0 (pass_front (expression ns (has_top is_inequality) e) (tolerance_checks ks p t) c) in
        let u = (tolerance_rule p t).0 (pass_behind (expression ns (has_top is_inequality) e) (tolerance_checks ks p t) c) in
        (r.0, (r.1, u.0), fit_of_join ns (e ∷ []) (t ∷ []) (fit_one ns e r.2) u.1),
    λ v. let f = fit_of_split ns (e ∷ []) (t ∷ []) v.2 in
        pass_join (expression ns (has_top is_inequality) e) (tolerance_checks ks p t) ((guard_rule ns ms g.same k e w q).1 (v.0, v.1.0, one_fit ns e f.0)) ((tolerance_rule p t).1 (v.1.1, f.1)),
  )

  must_rule : (k : ℕ) (e : Tree) → NamesNoGuard e → AreNamed ms (named_below k e).guards → Pass (expression ns (demanded ns) e) ↔
      (Compare ms (named_below k e).guards × (IsFormula ms (named_below k e).part ⊎ IsComparison typed.is_comparison ms (named_below k e).part) × FitOf ns (e ∷ []))
  must_rule k e w q = (
    λ c. let r = (demand_rule ns ms g.same k e w q).0 c in (r.0, r.1, fit_one ns e r.2),
    λ t. (demand_rule ns ms g.same k e w q).1 (t.0, t.1, one_fit ns e t.2),
  )

  -- ---- right sides
  abbrev pub RightRule : Section → Shape → Option (List ℕ) → Place → ℕ → Type 0
  RightRule s r m p k =
      Pass (right_checks (scoped ns ks) (left_name ns m) p (body_in s r)) ↔
      (Compare ms (named_shape s k r).guards × RightTyped ms (left_name ns m) (body_in s (named_shape s k r).part) × FitOf ns (shape_expressions r))

  output_rule : (e : Tree) (m : Option (List ℕ)) (p : Place) (k : ℕ) → NamesNoGuard e → LeftTyped section.OutputItem ns m → AreNamed ms (named k e).guards → RightRule section.OutputItem (tree.Plain e) m p k
  output_rule e None p k w l q = never l
  output_rule e (Some n) p k w l q = go (look ns n) l
    where
      go : (o : Option Name) → IsTrue (suits section.OutputItem o) → Pass (output_checks ns o e) ↔ (Compare ms (named k e).guards × typed.IsOfName ms o (named k e).part × FitOf ns (e ∷ []))
      go None h = never h
      go (Some x) h = plain_rule x.kind k e w q

  pub right_rule : (s : Section) (r : Shape) (m : Option (List ℕ)) (p : Place) (k : ℕ) → HasRight (body_in s r) → AllByRecursion NamesNoGuard (shape_expressions r) → LeftTyped s ns m → AreNamed ms (named_shape s k r).guards → RightRule s r m p k
  right_rule section.State r m p k h w l q = absurd h
  right_rule section.Input r m p k h w l q = absurd h
  right_rule section.Output r m p k h w l q = absurd h
  right_rule section.Parameter r m p k h w l q = absurd h
  right_rule section.Aux r m p k h w l q = absurd h
  right_rule section.Ad (tree.Plain e) m p k h w l q = alone_rule k e w.0 q
  right_rule section.Ad (tree.Wide e t) m p k h w l q = wide_rule k p e t w.0 q
  right_rule section.Ad (tree.Choice a b o) m p k h w l q = absurd h
  right_rule section.Da (tree.Plain e) m p k h w l q = absurd h
  right_rule section.Da (tree.Wide e t) m p k h w l q = absurd h
  right_rule section.Da (tree.Choice a b o) m p k h w l q = choice_rule k a b o w q
  right_rule section.Logic (tree.Plain e) m p k h w l q = plain_rule kind.Bool k e w.0 q
  right_rule section.Logic (tree.Wide e t) m p k h w l q = absurd h
  right_rule section.Logic (tree.Choice a b o) m p k h w l q = absurd h
  right_rule section.Linear (tree.Plain e) m p k h w l q = plain_rule kind.Real k e w.0 q
  right_rule section.Linear (tree.Wide e t) m p k h w l q = absurd h
  right_rule section.Linear (tree.Choice a b o) m p k h w l q = absurd h
  right_rule section.Automata (tree.Plain e) m p k h w l q = plain_rule kind.Bool k e w.0 q
  right_rule section.Automata (tree.Wide e t) m p k h w l q = absurd h
  right_rule section.Automata (tree.Choice a b o) m p k h w l q = absurd h
  right_rule section.Continuous (tree.Plain e) m p k h w l q = plain_rule kind.Real k e w.0 q
  right_rule section.Continuous (tree.Wide e t) m p k h w l q = absurd h
  right_rule section.Continuous (tree.Choice a b o) m p k h w l q = absurd h
  right_rule section.OutputItem (tree.Plain e) m p k h w l q = output_rule e m p k w.0 l q
  right_rule section.OutputItem (tree.Wide e t) m p k h w l q = absurd h
  right_rule section.OutputItem (tree.Choice a b o) m p k h w l q = absurd h
  right_rule section.Must (tree.Plain e) m p k h w l q = must_rule k e w.0 q
  right_rule section.Must (tree.Wide e t) m p k h w l q = absurd h
  right_rule section.Must (tree.Choice a b o) m p k h w l q = absurd h
