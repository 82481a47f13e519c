-- A source keeps its rules where its unfolded one keeps the rules of typing.
use Rattle.std.proofs.Common.{◌≡◌, ℕ, ◌+◌, ◌<◌, ◌≤◌, ◌^◌, List, [], ◌∷◌, ◌++◌, Option, Some, None, Bool, true, false, ◌||◌, ◌&&◌, map, flat_map, length, refl, sym, ◌∙◌, ap, subst, arith, append_assoc}
use Rattle.std.specs.Prelude.{IsTrue}
use Rattle.std.specs.List.{AllByRecursion, list_any}
use Rattle.hys_ast.specs.declared.source.Section.{Section}
use Rattle.hys_ast.specs.declared.source.Section.TheVariants as section
use Rattle.hys_ast.specs.Tree.{Decl, Item, Source}
use Rattle.hys_meaning.specs.Values.{Assignment}
use Rattle.hys_meaning.specs.Names.{Name, name_of, names, parameters, look, is_state, is_output, is_auxiliary}
use Rattle.hys_meaning.specs.Unfolded.{Guard, guard_item, guard_decl, guards, unfolded, named_item, named_items, behind}
use Rattle.hys_meaning.specs.Typed.{ValuesTyped, BoxTyped, IsBox, has_box, defines, is_defined, suits, LeftTyped, ItemTyped, only_parameters}
use Rattle.hys_meaning.specs.Typed as typed
use Rattle.hys_type.specs.Declarations.{known}
use Rattle.hys_type.specs.Rules.{KeepsTyping}
use Rattle.hys_type.specs.Written.{IsReadDecl, IsReadItem, IsFirst, NeverTwice, GoTogether}
use Rattle.hys_type.specs.DeclarationKeeping.{KeepDeclarations, IsReadSource, KeepsItsRules}
use Rattle.hys_type.proofs.KnownValues.{own_text}
use Rattle.hys_type.proofs.Agree.{found_name}
use Rattle.hys_type.proofs.Passing.{all_front, all_behind}
use Rattle.hys_type.specs.declared.constant.Known.{Known}
use Rattle.hys_type.proofs.SourceRules.{values_more, same_parameters, go_together}
use Rattle.hys_type.proofs.GuardCounts.{items_counted, guards_differ, differ_more}
use Rattle.hys_type.proofs.TypingRules.{times_defined, one_if, counts, counts_join, same_times, boxes_as}

values_front : (w : Assignment) (bs : List Name) (ds : List Decl) (gs : List Guard) → ValuesTyped w bs (ds ++ map guard_decl gs) → ValuesTyped w bs ds
values_front w bs [] gs h = tt
values_front w bs (d ∷ ds) gs h = (h.0, values_front w (bs ++ name_of w d ∷ []) ds gs h.1)

-- ---- counts
none_times : (n : List ℕ) (is : List Item) → list_any (λ (i : Item). defines n i.name) is ≡ false → times_defined n is ≡ 0
none_times n [] h = refl
none_times n (i ∷ is) h = counts n i is ∙ go (defines n i.name) h (none_times n is)
  where
    go : (b : Bool) → b || list_any (λ (i : Item). defines n i.name) is ≡ false → (list_any (λ (i : Item). defines n i.name) is ≡ false → times_defined n is ≡ 0) → one_if b + times_defined n is ≡ 0
    go true e f = absurd (cc)
    go false e f = omega (arith, f e)

any_of_times : (n : List ℕ) (is : List Item) → times_defined n is ≡ 1 → list_any (λ (i : Item). defines n i.name) is ≡ true
any_of_times n is h = go (list_any (λ (i : Item). defines n i.name) is) refl
  where
    go : (b : Bool) → list_any (λ (i : Item). defines n i.name) is ≡ b → b ≡ true
    go true e = refl
    go false e = absurd (omega (arith, h, none_times n is e))

times_none : (n : List ℕ) (is : List Item) → times_defined n is ≡ 0 → list_any (λ (i : Item). defines n i.name) is ≡ false
times_none n [] h = refl
times_none n (i ∷ is) h = go (defines n i.name) (sym (counts n i is) ∙ h) (times_none n is)
  where
    go : (b : Bool) → one_if b + times_defined n is ≡ 0 → (times_defined n is ≡ 0 → list_any (λ (i : Item). defines n i.name) is ≡ false) → b || list_any (λ (i : Item). defines n i.name) is ≡ false
    go true e f = absurd (omega (arith, e))
    go false e f = f (omega (arith, e))

abbrev OnceAs : List Item → Option (List ℕ) → Type 0
OnceAs all m = (n : List ℕ) → m ≡ Some n → times_defined n all ≡ 1

first_as : (all before rest : List Item) (i : Item) (m : Option (List ℕ)) → i.name ≡ m → all ≡ before ++ i ∷ rest → OnceAs all m → IsFirst before m
first_as all before rest i None q e h = tt
first_as all before rest i (Some n) q e h =
    let o : one_if (defines n i.name) ≡ 1 = ap one_if (ap (defines n) q ∙ own_text n) in
    times_none n before (omega (arith, h n refl, ap (times_defined n) e, counts_join n before (i ∷ rest), counts n i rest, o))

never_twice : (all before is : List Item) → all ≡ before ++ is → AllByRecursion (λ (i : Item). OnceAs all i.name) is → NeverTwice before is
never_twice all before [] e h = tt
never_twice all before (i ∷ is) e h = (first_as all before is i i.name refl e h.0, never_twice all (before ++ i ∷ []) is (e ∙ sym (append_assoc before (i ∷ []) is)) h.1)

-- ---- left names
last_true : (a b c : Bool) → c ≡ true → a || b || c ≡ true
last_true true b c h = refl
last_true false true c h = refl
last_true false false c h = h

mid_true : (a b c : Bool) → b ≡ true → a || b || c ≡ true
mid_true true b c h = refl
mid_true false true c h = refl
mid_true false false c h = absurd (cc)

head_true : (a b c : Bool) → a ≡ true → a || b || c ≡ true
head_true true b c h = refl
head_true false b c h = absurd (cc)

front_true : (a b : Bool) → a && b ≡ true → a ≡ true
front_true true b h = refl
front_true false b h = absurd (cc)

suits_defined : (s : Section) (m : Name) → suits s (Some m) ≡ true → is_defined m.section ≡ true
suits_defined section.State m h = absurd (cc)
suits_defined section.Input m h = absurd (cc)
suits_defined section.Output m h = absurd (cc)
suits_defined section.Parameter m h = absurd (cc)
suits_defined section.Aux m h = absurd (cc)
suits_defined section.Ad m h = last_true (is_state m.section) (is_output m.section) (is_auxiliary m.section) (front_true (is_auxiliary m.section) (typed.is_bool m.kind) h)
suits_defined section.Da m h = last_true (is_state m.section) (is_output m.section) (is_auxiliary m.section) (front_true (is_auxiliary m.section) (typed.is_real m.kind) h)
suits_defined section.Logic m h = last_true (is_state m.section) (is_output m.section) (is_auxiliary m.section) (front_true (is_auxiliary m.section) (typed.is_bool m.kind) h)
suits_defined section.Linear m h = last_true (is_state m.section) (is_output m.section) (is_auxiliary m.section) (front_true (is_auxiliary m.section) (typed.is_real m.kind) h)
suits_defined section.Automata m h = head_true (is_state m.section) (is_output m.section) (is_auxiliary m.section) (front_true (is_state m.section) (typed.is_bool m.kind) h)
suits_defined section.Continuous m h = head_true (is_state m.section) (is_output m.section) (is_auxiliary m.section) (front_true (is_state m.section) (typed.is_real m.kind) h)
suits_defined section.OutputItem m h = mid_true (is_state m.section) (is_output m.section) (is_auxiliary m.section) (front_true (is_output m.section) true h)
suits_defined section.Must m h = absurd (cc)

no_suit : (s : Section) → suits s None ≡ false
no_suit section.State = refl
no_suit section.Input = refl
no_suit section.Output = refl
no_suit section.Parameter = refl
no_suit section.Aux = refl
no_suit section.Ad = refl
no_suit section.Da = refl
no_suit section.Logic = refl
no_suit section.Linear = refl
no_suit section.Automata = refl
no_suit section.Continuous = refl
no_suit section.OutputItem = refl
no_suit section.Must = refl

abbrev NameOnce : List Item → Name → Type 0
NameOnce all m = is_defined m.section ≡ true → times_defined m.text all ≡ 1

names_once : (w : Assignment) (all : List Item) (ds : List Decl) → AllByRecursion (λ (d : Decl). IsTrue (is_defined d.section) → times_defined d.name all ≡ 1) ds → AllByRecursion (NameOnce all) (map (name_of w) ds)
names_once w all [] h = tt
names_once w all (d ∷ ds) h = (h.0, names_once w all ds h.1)

left_once : (ns ms : List Name) (all : List Item) (s : Section) (m : Option (List ℕ)) → ((n : List ℕ) → m ≡ Some n → look ms n ≡ look ns n) → AllByRecursion (NameOnce all) ns → LeftTyped s ms m → OnceAs all m
left_once ns ms all s None f h l n e = absurd (cc)
left_once ns ms all s (Some q) f h l n e = go (look ns q) refl (sym (ap (suits s) (f q refl)) ∙ l)
  where
    go : (o : Option Name) → look ns q ≡ o → suits s o ≡ true → times_defined n all ≡ 1
    go None i t = absurd (never (sym (no_suit s) ∙ t))
      where
        never : false ≡ true → ⊥
        never e = absurd (cc)
    go (Some m) i t = let g = found_name (NameOnce all) ns q m h i in ap (λ (x : List ℕ). times_defined x all) (ap (λ o. elim o as (λ o. List ℕ) [ Some y ↦ y | None ↦ n ]) (sym e) ∙ sym g.1) ∙ g.0 (suits_defined s m t)

items_once : (ns ms : List Name) (ks : List Known) (g : GoTogether ns ms ks) (all : List Item) (k : ℕ) (is : List Item) → AllByRecursion IsReadItem is → AllByRecursion (NameOnce all) ns → AllByRecursion (ItemTyped ms) (flat_map behind (named_items k is)) →
    AllByRecursion (λ (i : Item). OnceAs all i.name) is
items_once ns ms ks g all k [] r h t = tt
items_once ns ms ks g all k (i ∷ is) r h t =
    let u = all_front (ItemTyped ms) (behind (named_item k i)) (flat_map behind (named_items (named_item k i).next is)) t in
    let v = (all_behind (ItemTyped ms) (map guard_item (named_item k i).guards) ((named_item k i).part ∷ []) u).0 in
    (left_once ns ms all i.section i.name (λ n e. g.same n (r.0.left n e)) h v.0, items_once ns ms ks g all (named_item k i).next is r.1 h (all_behind (ItemTyped ms) (behind (named_item k i)) (flat_map behind (named_items (named_item k i).next is)) t))

written_once : (is : List Item) (ds : List Decl) → AllByRecursion IsReadDecl ds → AllByRecursion (λ (d : Decl). IsTrue (is_defined d.section) → times_defined d.name (flat_map behind (named_items 1 is)) ≡ 1) ds → AllByRecursion (λ (d : Decl). IsTrue (is_defined d.section) → times_defined d.name is ≡ 1) ds
written_once is [] r h = tt
written_once is (d ∷ ds) r h = (λ e. sym (same_times d.name 1 is r.0.0) ∙ h.0 e, written_once is ds r.1 h.1)

all_defined : (is : List Item) (ds : List Decl) → AllByRecursion (λ (d : Decl). IsTrue (is_defined d.section) → times_defined d.name is ≡ 1) ds → AllByRecursion (λ (d : Decl). IsTrue (is_defined d.section) → IsTrue (list_any (λ (i : Item). defines d.name i.name) is)) ds
all_defined is [] h = tt
all_defined is (d ∷ ds) h = (λ e. any_of_times d.name is (h.0 e), all_defined is ds h.1)

module _ (s : Source) (r : IsReadSource s) (b : 1 + length (guards s) < 2 ^ 64) (few : length s.decls ≤ 200) (k : KeepsTyping (unfolded s)) where
  once_written : AllByRecursion (λ (d : Decl). IsTrue (is_defined d.section) → times_defined d.name s.items ≡ 1) s.decls
  once_written = written_once s.items s.decls r.decls (all_front _ s.decls (map guard_decl (guards s)) k.defined)

  declared_kept : (same : only_parameters (names (unfolded s)) ≡ only_parameters (names s)) → KeepDeclarations s.decls
  declared_kept same = record {
    once = let c = items_counted 1 s.items in sym (differ_more s.decls (guards s) r.decls (guards_differ 1 c.0 (guards s) b c.1)) ∙ k.declared;
    few = few;
    values = all_front _ s.decls (map guard_decl (guards s)) k.values;
    values_typed = values_front (parameters s.decls) [] s.decls (guards s) (subst (λ (w : Assignment). ValuesTyped w [] (s.decls ++ map guard_decl (guards s))) (values_more s) k.typed.values);
    boxes_typed = boxes_as (names (unfolded s)) (names s) s.decls (sym same) (all_front _ s.decls (map guard_decl (guards s)) k.typed.boxes);
    bounded = all_front _ s.decls (map guard_decl (guards s)) (subst (λ (w : Assignment). AllByRecursion (λ (d : Decl). IsTrue (has_box d) → IsBox w d.low d.high) (s.decls ++ map guard_decl (guards s))) (values_more s) k.bounded);
  }

  pub rules_kept : KeepsItsRules s
  rules_kept =
      let d : KeepDeclarations s.decls = declared_kept (same_parameters s) in
      let g : GoTogether (names s) (names (unfolded s)) (known s.decls s.decls) = go_together s r.decls d in
      record {
        declarations = d;
        typed = k.typed.items;
        once = never_twice s.items [] s.items refl (items_once (names s) (names (unfolded s)) (known s.decls s.decls) g s.items 1 s.items r.items (names_once (parameters s.decls) s.items s.decls once_written) k.typed.items);
        defined = all_defined s.items s.decls once_written;
      }
