-- The checks of items pass exactly where each is typed once its guards have names, none defines a name twice, and the
-- numbers fit.
use Rattle.std.proofs.Common.{◌≡◌, ℕ, List, [], ◌∷◌, ◌++◌, Option, Some, None, Bool, true, false, not, map, flat_map, refl, sym, ◌∙◌, ap, subst, ◌↔◌}
use Rattle.std.specs.Prelude.{IsTrue}
use Rattle.std.specs.List.{AllByRecursion, list_any}
use Rattle.hys_ast.specs.declared.source.Section.{Section}
use Rattle.hys_ast.specs.declared.source.Section.TheVariants as section
use Rattle.hys_ast.specs.Tree.{Item}
use Rattle.hys_ast.specs.Nodes.{shape_expressions, items_expressions}
use Rattle.hys_meaning.specs.Names.{Name, look}
use Rattle.hys_meaning.specs.Bodies.{body, body_in}
use Rattle.hys_meaning.specs.Unfolded.{Guard, Naming, guard_item, named_shape, named_item, named_items, behind}
use Rattle.hys_meaning.specs.Typed.{suits, defines, is_demand, LeftTyped, RightTyped, ItemTyped, left}
use Rattle.hys_type.specs.Nodes.{is_declared}
use Rattle.hys_type.specs.Declarations.{if_some}
use Rattle.hys_type.specs.Walks.{walk}
use Rattle.hys_type.specs.Checks.{scoped, left_checks, left_name, right_checks, item_checks}
use Rattle.hys_type.specs.Written.{IsNoGuard, AreNamed, Compare, GoTogether, IsReadItem, IsFirst, NeverTwice}
use Rattle.hys_type.specs.declared.constant.Known.{Known}
use Rattle.hys_type.proofs.Passing.{all_join, all_front, all_behind, Pass, pass_join, pass_front, pass_behind, EachPasses, walk_passes, passes_walk}
use Rattle.hys_type.proofs.ValueRules.{FitOf, fit_of_join, fit_of_split}
use Rattle.hys_type.proofs.RightRules.{right_rule}

never : {A : Type 0} → false ≡ true → A
never e = absurd (cc)

-- ---- left names
suits_none : (s : Section) → suits s None ≡ false
suits_none section.State = refl
suits_none section.Input = refl
suits_none section.Output = refl
suits_none section.Parameter = refl
suits_none section.Aux = refl
suits_none section.Ad = refl
suits_none section.Da = refl
suits_none section.Logic = refl
suits_none section.Linear = refl
suits_none section.Automata = refl
suits_none section.Continuous = refl
suits_none section.OutputItem = refl
suits_none section.Must = refl

suits_declared : (s : Section) (o : Option Name) → suits s o ≡ true → is_declared o ≡ true
suits_declared s (Some n) h = refl
suits_declared s None h = never (sym (suits_none s) ∙ h)

is_not : (b : Bool) → not b ≡ true → b ≡ false
is_not false h = refl
is_not true h = never h

left_rule : (ns : List Name) (before : List Item) (i : Item) (m : Option (List ℕ)) → (m ≡ None → IsTrue (is_demand i.section)) → Pass (if_some (left_checks ns before i) m) ↔ (LeftTyped i.section ns m × IsFirst before m)
left_rule ns before i None d = (λ c. (d refl, tt), λ t. tt)
left_rule ns before i (Some n) d = (
  λ c. (c.1.0, is_not (list_any (λ (j : Item). defines n j.name) before) c.1.1.0),
  λ t. (suits_declared i.section (look ns n) t.0, (t.0, (ap not t.1, tt))),
)

-- ---- guards
guards_typed : (ms : List Name) (gs : List Guard) → AreNamed ms gs → Compare ms gs → AllByRecursion (ItemTyped ms) (map guard_item gs)
guards_typed ms [] q c = tt
guards_typed ms (g ∷ gs) q c = ((q.0, (c.0, tt)), guards_typed ms gs q.1 c.1)

typed_guards : (ms : List Name) (gs : List Guard) → AllByRecursion (ItemTyped ms) (map guard_item gs) → Compare ms gs
typed_guards ms [] h = tt
typed_guards ms (g ∷ gs) h = (h.0.1.0, typed_guards ms gs h.1)

module _ (ns ms : List Name) (ks : List Known) (g : GoTogether ns ms ks) where
  abbrev AreWords : Option (List ℕ) → Type 0
  AreWords m = (n : List ℕ) → m ≡ Some n → IsNoGuard n

  left_same : (m : Option (List ℕ)) → AreWords m → left ms m ≡ left_name ns m
  left_same None f = refl
  left_same (Some n) f = g.same n (f n refl)

  left_there : (s : Section) (m : Option (List ℕ)) → AreWords m → LeftTyped s ns m → LeftTyped s ms m
  left_there s None f h = h
  left_there s (Some n) f h = ap (suits s) (g.same n (f n refl)) ∙ h

  left_back : (s : Section) (m : Option (List ℕ)) → AreWords m → LeftTyped s ms m → LeftTyped s ns m
  left_back s None f h = h
  left_back s (Some n) f h = sym (ap (suits s) (g.same n (f n refl))) ∙ h

  item_rule : (before : List Item) (i : Item) (k : ℕ) → IsReadItem i → AreNamed ms (named_item k i).guards → Pass (item_checks (scoped ns ks) before i) ↔
      (IsFirst before i.name × AllByRecursion (ItemTyped ms) (behind (named_item k i)) × FitOf ns (shape_expressions i.shape))
  item_rule before i k r q = (there, back)
    where
      there : Pass (item_checks (scoped ns ks) before i) → IsFirst before i.name × AllByRecursion (ItemTyped ms) (behind (named_item k i)) × FitOf ns (shape_expressions i.shape)
      there c =
          let l = (left_rule ns before i i.name r.demands).0 (pass_front (if_some (left_checks ns before i) i.name) (right_checks (scoped ns ks) (left_name ns i.name) i.place (body i)) c) in
          let d = pass_behind (if_some (left_checks ns before i) i.name) (right_checks (scoped ns ks) (left_name ns i.name) i.place (body i)) c in
          let t = (right_rule ns ms ks g i.section i.shape i.name i.place k r.right r.names l.0 q).0 d in (
            l.1,
            all_join _ (map guard_item (named_shape i.section k i.shape).guards) ((named_item k i).part ∷ []) (guards_typed ms (named_shape i.section k i.shape).guards q t.0)
                ((left_there i.section i.name r.left l.0, subst (λ o. RightTyped ms o (body_in i.section (named_shape i.section k i.shape).part)) (sym (left_same i.name r.left)) t.1), tt),
            t.2,
          )

      back : IsFirst before i.name × AllByRecursion (ItemTyped ms) (behind (named_item k i)) × FitOf ns (shape_expressions i.shape) → Pass (item_checks (scoped ns ks) before i)
      back t =
          let c = typed_guards ms (named_shape i.section k i.shape).guards (all_front _ (map guard_item (named_shape i.section k i.shape).guards) ((named_item k i).part ∷ []) t.1) in
          let h = (all_behind (ItemTyped ms) (map guard_item (named_shape i.section k i.shape).guards) ((named_item k i).part ∷ []) t.1).0 in
          let l = left_back i.section i.name r.left h.0 in
          pass_join (if_some (left_checks ns before i) i.name) (right_checks (scoped ns ks) (left_name ns i.name) i.place (body i)) ((left_rule ns before i i.name r.demands).1 (l, t.0))
          ((right_rule ns ms ks g i.section i.shape i.name i.place k r.right r.names l q).1 (c, subst (λ o. RightTyped ms o (body_in i.section (named_shape i.section k i.shape).part)) (left_same i.name r.left) h.1, t.2))

  abbrev ItemsRule : List Item → List Item → ℕ → Type 0
  ItemsRule before is k = EachPasses (item_checks (scoped ns ks)) before is ↔
      (NeverTwice before is × AllByRecursion (ItemTyped ms) (flat_map behind (named_items k is)) × FitOf ns (items_expressions is))

  items_step : (before : List Item) (i : Item) (is : List Item) (k : ℕ) →
      Pass (item_checks (scoped ns ks) before i) ↔ (IsFirst before i.name × AllByRecursion (ItemTyped ms) (behind (named_item k i)) × FitOf ns (shape_expressions i.shape)) →
      ItemsRule (before ++ i ∷ []) is (named_item k i).next → ItemsRule before (i ∷ is) k
  items_step before i is k one more = (there, back)
    where
      there : EachPasses (item_checks (scoped ns ks)) before (i ∷ is) → NeverTwice before (i ∷ is) × AllByRecursion (ItemTyped ms) (flat_map behind (named_items k (i ∷ is))) × FitOf ns (items_expressions (i ∷ is))
      there c = let a = one.0 c.0 in let b = more.0 c.1 in
          ((a.0, b.0), all_join _ (behind (named_item k i)) (flat_map behind (named_items (named_item k i).next is)) a.1 b.1, fit_of_join ns (shape_expressions i.shape) (items_expressions is) a.2 b.2)

      back : NeverTwice before (i ∷ is) × AllByRecursion (ItemTyped ms) (flat_map behind (named_items k (i ∷ is))) × FitOf ns (items_expressions (i ∷ is)) → EachPasses (item_checks (scoped ns ks)) before (i ∷ is)
      back t =
          let f = fit_of_split ns (shape_expressions i.shape) (items_expressions is) t.2 in (
            one.1 (t.0.0, all_front _ (behind (named_item k i)) (flat_map behind (named_items (named_item k i).next is)) t.1, f.0),
            more.1 (t.0.1, all_behind _ (behind (named_item k i)) (flat_map behind (named_items (named_item k i).next is)) t.1, f.1),
          )

  items_walk : (before is : List Item) (k : ℕ) → AllByRecursion IsReadItem is → AreNamed ms (flat_map (λ (u : Naming Item). u.guards) (named_items k is)) → ItemsRule before is k
  items_walk before [] k r q = (λ c. (tt, tt, tt), λ t. tt)
  items_walk before (i ∷ is) k r q =
      items_step before i is k
      (item_rule before i k r.0 (all_front _ (named_item k i).guards (flat_map (λ (u : Naming Item). u.guards) (named_items (named_item k i).next is)) q))
      (items_walk (before ++ i ∷ []) is (named_item k i).next r.1 (all_behind _ (named_item k i).guards (flat_map (λ (u : Naming Item). u.guards) (named_items (named_item k i).next is)) q))

  pub items_rule : (is : List Item) (k : ℕ) → AllByRecursion IsReadItem is → AreNamed ms (flat_map (λ (u : Naming Item). u.guards) (named_items k is)) → Pass (walk (item_checks (scoped ns ks)) [] is) ↔
      (NeverTwice [] is × AllByRecursion (ItemTyped ms) (flat_map behind (named_items k is)) × FitOf ns (items_expressions is))
  items_rule is k r q = (
    λ c. (items_walk [] is k r q).0 (walk_passes (item_checks (scoped ns ks)) [] is c),
    λ t. passes_walk (item_checks (scoped ns ks)) [] is ((items_walk [] is k r q).1 t),
  )
