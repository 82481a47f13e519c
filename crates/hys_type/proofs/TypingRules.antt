-- The unfolded source of one that keeps its rules keeps the rules of typing.
use Rattle.std.proofs.Common.{◌≡◌, ℕ, suc, ◌+◌, ◌<◌, ◌^◌, List, [], ◌∷◌, ◌++◌, Option, Some, None, Bool, true, false, ◌||◌, cond, map, flat_map, length, count_by, refl, sym, ◌∙◌, ap, ap₂, subst, arith}
use Rattle.std.specs.Prelude.{IsTrue}
use Rattle.std.specs.List.{AllByRecursion, list_any}
use Rattle.std.proofs.lemmas.List.Sums.{sum_by-cons}
use Rattle.hys_ast.specs.Tree.{Decl, Item, Source}
use Rattle.hys_meaning.specs.Values.{Assignment}
use Rattle.hys_meaning.specs.Names.{Name, name_of, names, parameters, is_parameter}
use Rattle.hys_meaning.specs.Unfolded.{Guard, guard_name, guard_item, guard_decl, guards, unfolded, named_item, named_items, behind}
use Rattle.hys_meaning.specs.Typed.{ValuesTyped, BoxTyped, IsBox, has_box, has_value, defines, is_defined, only_parameters, IsMaybe, IsReal}
use Rattle.hys_type.specs.Declarations.{known}
use Rattle.hys_type.specs.Rules.{KeepsTyping}
use Rattle.hys_type.specs.Written.{IsNoGuard, IsReadDecl, IsReadItem, IsFirst, NeverTwice, GoTogether}
use Rattle.hys_type.specs.DeclarationKeeping.{KeepDeclarations, IsReadSource, KeepsItsRules}
use Rattle.hys_type.proofs.KnownValues.{own_text, other_text, same_text}
use Rattle.hys_type.proofs.Passing.{all_join}
use Rattle.hys_type.proofs.SourceRules.{values_more, go_together}
use Rattle.hys_type.proofs.GuardCounts.{Counted, all_guards, items_counted, other_guard, guards_differ, differ_more}

-- ---- how often a name is defined
abbrev pub times_defined : List ℕ → List Item → ℕ
times_defined n is = count_by (λ (i : Item). defines n i.name) is

abbrev pub one_if : Bool → ℕ
one_if b = cond b 1 0

abbrev found_times : Bool → Bool → ℕ
found_times b a = cond b 0 (one_if a)

pub counts : (n : List ℕ) (i : Item) (is : List Item) → times_defined n (i ∷ is) ≡ cond (defines n i.name) 1 0 + times_defined n is
counts n i is = sum_by-cons (λ (y : Item). cond (defines n y.name) 1 0) i is

pub counts_join : (n : List ℕ) (xs ys : List Item) → times_defined n (xs ++ ys) ≡ times_defined n xs + times_defined n ys
counts_join n [] ys = omega arith
counts_join n (x ∷ xs) ys = omega (arith, counts n x (xs ++ ys), counts n x xs, counts_join n xs ys)

guards_apart : (n : List ℕ) (gs : List Guard) → IsNoGuard n → times_defined n (map guard_item gs) ≡ 0
guards_apart n [] h = refl
guards_apart n (g ∷ gs) h = counts n (guard_item g) (map guard_item gs) ∙ ap₂ (λ (b : Bool) (m : ℕ). cond b 1 0 + m) (other_text n (guard_name g.number) (h g.number)) (guards_apart n gs h)

-- a declared name is defined as often as in the source as written
pub same_times : (n : List ℕ) (k : ℕ) (is : List Item) → IsNoGuard n → times_defined n (flat_map behind (named_items k is)) ≡ times_defined n is
same_times n k [] h = refl
same_times n k (i ∷ is) h =
    omega (
      arith,
      counts_join n (behind (named_item k i)) (flat_map behind (named_items (named_item k i).next is)),
      counts_join n (map guard_item (named_item k i).guards) ((named_item k i).part ∷ []),
      guards_apart n (named_item k i).guards h,
      counts n (named_item k i).part [],
      counts n i is,
      same_times n (named_item k i).next is h,
    )

-- the name of a guard is defined as often as guards have it
no_left : (k : ℕ) (m : Option (List ℕ)) → ((n : List ℕ) → m ≡ Some n → IsNoGuard n) → defines (guard_name k) m ≡ false
no_left k None f = refl
no_left k (Some n) f = other_text (guard_name k) n (λ e. f n refl k (sym e))

guard_items_join : (n : List ℕ) (xs ys : List Guard) → times_defined n (map guard_item (xs ++ ys)) ≡ times_defined n (map guard_item xs) + times_defined n (map guard_item ys)
guard_items_join n [] ys = omega arith
guard_items_join n (x ∷ xs) ys = omega (arith, counts n (guard_item x) (map guard_item (xs ++ ys)), counts n (guard_item x) (map guard_item xs), guard_items_join n xs ys)

guard_times : (j k : ℕ) (is : List Item) → AllByRecursion IsReadItem is → times_defined (guard_name j) (flat_map behind (named_items k is)) ≡ times_defined (guard_name j) (map guard_item (all_guards k is))
guard_times j k [] r = refl
guard_times j k (i ∷ is) r =
    let z : one_if (defines (guard_name j) i.name) ≡ 0 = ap one_if (no_left j i.name r.0.left) in
    omega (
      arith,
      z,
      counts_join (guard_name j) (behind (named_item k i)) (flat_map behind (named_items (named_item k i).next is)),
      counts_join (guard_name j) (map guard_item (named_item k i).guards) ((named_item k i).part ∷ []),
      counts (guard_name j) (named_item k i).part [],
      guard_items_join (guard_name j) (named_item k i).guards (all_guards (named_item k i).next is),
      guard_times j (named_item k i).next is r.1,
    )

none_counted : (n k m : ℕ) (gs : List Guard) → n < k → k + length gs < 2 ^ 64 → Counted k gs m → times_defined (guard_name n) (map guard_item gs) ≡ 0
none_counted n k m [] l b h = refl
none_counted n k m (g ∷ gs) l b h =
    counts (guard_name n) (guard_item g) (map guard_item gs)
    ∙ ap₂ (λ (x : Bool) (y : ℕ). cond x 1 0 + y) (other_guard n g.number (omega (arith, l, b)) (omega (arith, b, h.0)) (λ e. omega (arith, l, e, h.0))) (none_counted n (suc k) m gs (omega (arith, l)) (omega (arith, b)) h.1)

later_once : (k m : ℕ) (g : Guard) (gs hs : List Guard) → g.number < k → k + length hs < 2 ^ 64 → Counted k hs m → AllByRecursion (λ (h : Guard). times_defined (guard_name h.number) (map guard_item gs) ≡ 1) hs →
    AllByRecursion (λ (h : Guard). times_defined (guard_name h.number) (map guard_item (g ∷ gs)) ≡ 1) hs
later_once k m g gs [] l b c h = tt
later_once k m g gs (x ∷ hs) l b c h = (
  counts (guard_name x.number) (guard_item g) (map guard_item gs)
      ∙ ap₂ (λ (t : Bool) (y : ℕ). cond t 1 0 + y) (other_guard x.number g.number (omega (arith, b, c.0)) (omega (arith, l, b)) (λ e. omega (arith, l, e, c.0))) h.0,
  later_once (suc k) m g gs hs (omega (arith, l)) (omega (arith, b)) c.1 h.1,
)

each_once : (k m : ℕ) (gs : List Guard) → k + length gs < 2 ^ 64 → Counted k gs m → AllByRecursion (λ (h : Guard). times_defined (guard_name h.number) (map guard_item gs) ≡ 1) gs
each_once k m [] b c = tt
each_once k m (g ∷ gs) b c = (
  counts (guard_name g.number) (guard_item g) (map guard_item gs)
      ∙ ap₂ (λ (t : Bool) (y : ℕ). cond t 1 0 + y) (own_text (guard_name g.number)) (none_counted g.number (suc k) m gs (omega (arith, c.0)) (omega (arith, b)) c.1),
  later_once (suc k) m g gs gs (omega (arith, c.0)) (omega (arith, b)) c.1 (each_once (suc k) m gs (omega (arith, b)) c.1),
)

-- ---- a name that is defined, and never twice
any_join : (n : List ℕ) (xs ys : List Item) → list_any (λ (i : Item). defines n i.name) (xs ++ ys) ≡ list_any (λ (i : Item). defines n i.name) xs || list_any (λ (i : Item). defines n i.name) ys
any_join n [] ys = refl
any_join n (x ∷ xs) ys = go (defines n x.name) (any_join n xs ys)
  where
    go : (b : Bool) → list_any (λ (i : Item). defines n i.name) (xs ++ ys) ≡ list_any (λ (i : Item). defines n i.name) xs || list_any (λ (i : Item). defines n i.name) ys →
        b || list_any (λ (i : Item). defines n i.name) (xs ++ ys) ≡ (b || list_any (λ (i : Item). defines n i.name) xs) || list_any (λ (i : Item). defines n i.name) ys
    go true h = refl
    go false h = h

first_of_name : (n : List ℕ) (before : List Item) (m : Option (List ℕ)) → defines n m ≡ true → IsFirst before m → list_any (λ (i : Item). defines n i.name) before ≡ false
first_of_name n before None e h = absurd (cc)
first_of_name n before (Some q) e h = ap (λ t. list_any (λ (i : Item). defines t i.name) before) (same_text n q e) ∙ h

times_as : (n : List ℕ) (before is : List Item) → NeverTwice before is →
    times_defined n is ≡ found_times (list_any (λ (i : Item). defines n i.name) before) (list_any (λ (i : Item). defines n i.name) is)
times_as n before [] h = go (list_any (λ (i : Item). defines n i.name) before)
  where
    go : (b : Bool) → 0 ≡ found_times b false
    go true = refl
    go false = refl
times_as n before (i ∷ is) h = counts n i is ∙ go (defines n i.name) refl (list_any (λ (i : Item). defines n i.name) before) refl (times_as n (before ++ i ∷ []) is h.1 ∙ ap (λ b. found_times b (list_any (λ (i : Item). defines n i.name) is)) (any_join n before (i ∷ [])))
  where
    go : (d : Bool) → defines n i.name ≡ d → (b : Bool) → list_any (λ (i : Item). defines n i.name) before ≡ b → times_defined n is ≡ found_times (b || (d || false)) (list_any (λ (i : Item). defines n i.name) is) →
        one_if d + times_defined n is ≡ found_times b (d || list_any (λ (i : Item). defines n i.name) is)
    go true e true f t = let s : list_any (λ (i : Item). defines n i.name) before ≡ false = first_of_name n before i.name e h.0 in absurd (cc)
    go true e false f t = omega (arith, t)
    go false e true f t = omega (arith, t)
    go false e false f t = omega (arith, t)

pub defined_once : (n : List ℕ) (is : List Item) → NeverTwice [] is → list_any (λ (i : Item). defines n i.name) is ≡ true → times_defined n is ≡ 1
defined_once n is h e = times_as n [] is h ∙ ap one_if e

-- ---- declarations with those of guards behind them
values_join : (w : Assignment) (bs : List Name) (ds : List Decl) (gs : List Guard) → ValuesTyped w bs ds → ValuesTyped w bs (ds ++ map guard_decl gs)
values_join w bs [] [] h = tt
values_join w bs [] (g ∷ gs) h = (tt, values_join w (bs ++ name_of w (guard_decl g) ∷ []) [] gs tt)
values_join w bs (d ∷ ds) gs h = (h.0, values_join w (bs ++ name_of w d ∷ []) ds gs h.1)

never : {A : Type 0} → false ≡ true → A
never e = absurd (cc)

guard_values : (gs : List Guard) → AllByRecursion (λ (d : Decl). IsTrue (is_parameter d.section) → IsTrue (has_value d.value)) (map guard_decl gs)
guard_values [] = tt
guard_values (g ∷ gs) = (λ e. never e, guard_values gs)

guard_boxes : (ns : List Name) (gs : List Guard) → AllByRecursion (BoxTyped ns) (map guard_decl gs)
guard_boxes ns [] = tt
guard_boxes ns (g ∷ gs) = ((tt, tt), guard_boxes ns gs)

guard_bounds : (w : Assignment) (gs : List Guard) → AllByRecursion (λ (d : Decl). IsTrue (has_box d) → IsBox w d.low d.high) (map guard_decl gs)
guard_bounds w [] = tt
guard_bounds w (g ∷ gs) = (λ e. never e, guard_bounds w gs)

pub boxes_as : (ns ms : List Name) (ds : List Decl) → only_parameters ms ≡ only_parameters ns → AllByRecursion (BoxTyped ns) ds → AllByRecursion (BoxTyped ms) ds
boxes_as ns ms [] e h = tt
boxes_as ns ms (d ∷ ds) e h = (subst (λ qs. IsMaybe (IsReal qs) d.low × IsMaybe (IsReal qs) d.high) (sym e) h.0, boxes_as ns ms ds e h.1)

abbrev OnceIn : List Item → Decl → Type 0
OnceIn is d = IsTrue (is_defined d.section) → times_defined d.name is ≡ 1

decls_once : (is : List Item) (ds : List Decl) → AllByRecursion IsReadDecl ds → NeverTwice [] is → AllByRecursion (λ (d : Decl). IsTrue (is_defined d.section) → IsTrue (list_any (λ (i : Item). defines d.name i.name) is)) ds →
    AllByRecursion (OnceIn (flat_map behind (named_items 1 is))) ds
decls_once is [] r n h = tt
decls_once is (d ∷ ds) r n h = (λ e. same_times d.name 1 is r.0.0 ∙ defined_once d.name is n (h.0 e), decls_once is ds r.1 n h.1)

guards_once : (is : List Item) (gs : List Guard) → AllByRecursion IsReadItem is → AllByRecursion (λ (h : Guard). times_defined (guard_name h.number) (map guard_item (all_guards 1 is)) ≡ 1) gs → AllByRecursion (OnceIn (flat_map behind (named_items 1 is))) (map guard_decl gs)
guards_once is [] r h = tt
guards_once is (g ∷ gs) r h = (λ e. guard_times g.number 1 is r ∙ h.0, guards_once is gs r h.1)

pub typing_kept : (s : Source) → IsReadSource s → 1 + length (guards s) < 2 ^ 64 → KeepsItsRules s → KeepsTyping (unfolded s)
typing_kept s r b k =
    let d : KeepDeclarations s.decls = k.declarations in
    let c = items_counted 1 s.items in
    let g : GoTogether (names s) (names (unfolded s)) (known s.decls s.decls) = go_together s r.decls d in
    record {
      declared = differ_more s.decls (guards s) r.decls (guards_differ 1 c.0 (guards s) b c.1) ∙ d.once;
      values = all_join _ s.decls (map guard_decl (guards s)) d.values (guard_values (guards s));
      typed = record {
        values = subst (λ (w : Assignment). ValuesTyped w [] (s.decls ++ map guard_decl (guards s))) (sym (values_more s)) (values_join (parameters s.decls) [] s.decls (guards s) d.values_typed);
        boxes = all_join _ s.decls (map guard_decl (guards s)) (boxes_as (names s) (names (unfolded s)) s.decls g.parameters d.boxes_typed) (guard_boxes (names (unfolded s)) (guards s));
        items = k.typed;
      };
      bounded = subst (λ (w : Assignment). AllByRecursion (λ (d : Decl). IsTrue (has_box d) → IsBox w d.low d.high) (s.decls ++ map guard_decl (guards s))) (sym (values_more s))
          (all_join _ s.decls (map guard_decl (guards s)) d.bounded (guard_bounds (parameters s.decls) (guards s)));
      defined = all_join _ s.decls (map guard_decl (guards s)) (decls_once s.items s.decls r.decls k.once k.defined) (guards_once s.items (guards s) r.items (each_once 1 c.0 (guards s) b c.1));
    }
