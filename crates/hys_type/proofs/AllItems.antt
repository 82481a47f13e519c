-- The items of a program are those of the source in which each guard has its name.
use Rattle.std.proofs.Common.{◌≡◌, ℕ, suc, ◌+◌, ◌<◌, ◌^◌, List, [], ◌∷◌, ◌++◌, Option, None, map, flat_map, length, refl, sym, ◌∙◌, ap, ap₂, append_assoc, append-nil, subst, subst₂, arith}
use Rattle.std.proofs.lemmas.List.{length-append, length-map}
use Rattle.std.specs.List.{AllByRecursion}
use Rattle.hys_number.specs.Number.{Number}
use Rattle.hys_ast.specs.declared.source.Kind.{Kind}
use Rattle.hys_ast.specs.Tree.{Tree, Decl, Item, Source}
use Rattle.hys_meaning.specs.Values.{Assignment}
use Rattle.hys_meaning.specs.Names.{Name, name_of, names, parameters}
use Rattle.hys_meaning.specs.Bodies as said
use Rattle.hys_meaning.specs.Unfolded.{Guard, guard_decl, guard_item, guards, unfolded, named_item, named_items, behind}
use Rattle.hys_prog.specs.declared.program.Name.{Name as ProgName}
use Rattle.hys_prog.specs.declared.program.ProgItem.{ProgItem}
use Rattle.hys_type.specs.Added.{Lists, lists, own_item, AreAdded, none, one}
use Rattle.hys_type.specs.Built.{IsBuilt, IsGuardOf, body_comparisons, setting_of}
use Rattle.hys_type.specs.Checks.{scoped, scope_by, item_checks, missing_checks, checks}
use Rattle.hys_type.specs.Constants.{known_values}
use Rattle.hys_type.specs.Declarations.{known, name_checks, value_checks, box_checks}
use Rattle.hys_type.specs.Declaring.{IsDeclaration}
use Rattle.hys_type.specs.Made.{declared, program_name, AreNamesOf}
use Rattle.hys_type.specs.Operands.{seen}
use Rattle.hys_type.specs.Faults.{Check, first_fault}
use Rattle.hys_type.specs.Guarding.{items_of_guards}
use Rattle.hys_type.specs.Translation.{IsNameOf, Setting, IsItemOf, OneByOne, left_kind, setting}
use Rattle.hys_type.specs.Walks.{walk}
use Rattle.hys_type.specs.declared.constant.Known.{Known}
use Rattle.hys_type.specs.declared.scope.Declared.{Declared}
use Rattle.hys_type.proofs.Guards.{one_by_one, as_long}
use Rattle.hys_type.proofs.AllNames.{guards_from, many_names}
use Rattle.hys_type.proofs.ItemNumbers.{AreNumbered, item_numbered}
use Rattle.hys_type.proofs.Numbering.{numbered}
use Rattle.hys_type.proofs.KnownValues.{values_known}
use Rattle.hys_type.proofs.Unboxed.{unboxed}
use Rattle.hys_type.proofs.Fronts.{AreNew}
use Rattle.hys_type.proofs.NamedFormulas.{StandFrom, fewer_stand, later_stand}
use Rattle.hys_type.proofs.NamedBodies.{over}
use Rattle.hys_type.proofs.NamedItems.{boxed_kind, item_named}
use Rattle.hys_type.proofs.GuardItems.{item_finds, guards_named}
use Rattle.hys_type.proofs.GuardCounts.{items_counted}
use Rattle.hys_type.proofs.GuardPlaces.{names_behind, all_stand, all_new}
use Rattle.hys_type.proofs.WordNames.{no_guards}
use Rattle.hys_type.proofs.SourceRules.{names_more, values_more}
use Rattle.hys_type.proofs.Wholes.{front_passes, back_passes, names_differ, seen_scope}

many_numbered : (k : ℕ) (cs : List Tree) → length (numbered k cs) ≡ length cs
many_numbered k [] = refl
many_numbered k (c ∷ cs) = ap suc (many_numbered (suc k) cs)

-- ---- item by item
pub record AreMade (c : Setting) (k : ℕ) (is : List Item) (before after : List ProgItem) : Type 0 where
  pub more : List ProgItem
  pub same : after ≡ before ++ more
  pub items : OneByOne (IsItemOf c) (flat_map behind (named_items k is)) more

module _ (ns ms : List Name) (new : AreNew ns ms) (ks : List Known) (w : Assignment) (eps : Number) where
  pub items_added : (bs is : List Item) (k : ℕ) (before after : Lists) → None ≡ first_fault (walk (item_checks (scoped ns ks)) bs is) → StandFrom (ns ++ ms) k (length before.names) (length (guards_from k is)) →
      AreAdded (over (map unboxed ns) w eps) is before after → AreMade (over (ns ++ ms) w eps) k is before.items after.items
  items_added bs [] k before after h s (none {l = m}) = record { more = []; same = sym (append-nil before.items); items = tt }
  items_added bs (i ∷ is) k before after h s (one {l = m} a r) =
      let rest : AreMade (over (ns ++ ms) w eps) next is m.items after.items = items_added (bs ++ i ∷ []) is next m after (back_passes own_checks (walk (item_checks (scoped ns ks)) (bs ++ i ∷ []) is) h)
      (subst (λ (j : ℕ). StandFrom (ns ++ ms) next j (length (guards_from next is))) (sym long) (later_stand (ns ++ ms) k (length before.names) (length cs) (length (guards_from next is)) (length (guards_from k (i ∷ is))) next parted u.next s)) r in
      record {
        more = own ++ rest.more;
        same = rest.same ∙ ap (λ (xs : List ProgItem). xs ++ rest.more) a.items ∙ append_assoc before.items own rest.more;
        items = one_by_one (IsItemOf (over (ns ++ ms) w eps)) (behind (named_item k i)) (flat_map behind (named_items next is)) own rest.more all rest.items;
      }
    where
      own_checks : List Check
      own_checks = item_checks (scoped ns ks) bs i

      pass : None ≡ first_fault (item_checks (scoped ns ks) bs i)
      pass = front_passes own_checks (walk (item_checks (scoped ns ks)) (bs ++ i ∷ []) is) h

      cs : List Tree
      cs = body_comparisons (left_kind ns i.name) (said.body i)

      next : ℕ
      next = (named_item k i).next

      own : List ProgItem
      own = items_of_guards (length before.names) eps a.guards ++ own_item (map unboxed ns) i a.body ∷ []

      u : AreNumbered k cs (named_item k i)
      u = item_numbered ns ks bs i (over (map unboxed ns) w eps) (length before.names) k a.body pass (subst (λ (q : Option Kind). IsBuilt (over (map unboxed ns) w eps) (length before.names) q (said.body i) a.body) (boxed_kind ns i.name) a.built)

      compared : OneByOne (IsGuardOf (map unboxed ns)) cs a.guards
      compared = subst (λ (q : Option Kind). OneByOne (IsGuardOf (map unboxed ns)) (body_comparisons q (said.body i)) a.guards) (boxed_kind ns i.name) a.compared

      parted : length (guards_from k (i ∷ is)) ≡ length cs + length (guards_from next is)
      parted = length-append (named_item k i).guards (guards_from next is) ∙ ap (λ (n : ℕ). n + length (guards_from next is)) (ap length u.guards ∙ many_numbered k cs)

      long : length m.names ≡ length before.names + length cs
      long = ap length a.names ∙ length-append before.names _ ∙ ap (λ (n : ℕ). length before.names + n) (many_names _ a.guards ∙ as_long (IsGuardOf (map unboxed ns)) cs a.guards compared)

      first : StandFrom (ns ++ ms) k (length before.names) (length cs)
      first = fewer_stand (ns ++ ms) k (length before.names) (length cs) (length (guards_from next is)) (length (guards_from k (i ∷ is))) parted s

      named_guards : OneByOne (IsItemOf (over (ns ++ ms) w eps)) (map guard_item (named_item k i).guards) (items_of_guards (length before.names) eps a.guards)
      named_guards = subst (λ (gs : List Guard). OneByOne (IsItemOf (over (ns ++ ms) w eps)) (map guard_item gs) (items_of_guards (length before.names) eps a.guards)) (sym u.guards)
          (guards_named ns ms w eps k (length before.names) cs a.guards new (item_finds ns ks bs i pass) compared first)

      all : OneByOne (IsItemOf (over (ns ++ ms) w eps)) (behind (named_item k i)) own
      all = one_by_one (IsItemOf (over (ns ++ ms) w eps)) (map guard_item (named_item k i).guards) ((named_item k i).part ∷ []) (items_of_guards (length before.names) eps a.guards) (own_item (map unboxed ns) i a.body ∷ [])
          named_guards (item_named ns ms ks w eps bs i a.body k (length before.names) new pass first a.built, tt)

-- ---- the items of a source that passes its checks
items_pass : (ds : List Decl) (is : List Item) → None ≡ first_fault (checks (record { system = []; decls = ds; items = is })) → None ≡ first_fault (walk (item_checks (scope_by ds)) [] is)
items_pass ds is h =
    let names = walk name_checks [] ds in
    let values = walk (value_checks ds) [] ds in
    let boxes = walk (λ before d. box_checks (known ds ds) d) [] ds in
    let items = walk (item_checks (scope_by ds)) [] is in
    let missing = walk (λ before d. missing_checks is d) [] ds in
    front_passes items missing (back_passes boxes (items ++ missing) (back_passes values (boxes ++ (items ++ missing)) (back_passes names (values ++ (boxes ++ (items ++ missing))) h)))

pub whole_made : (s : Source) (ks : List Known) (scope : List Declared) (eps : Number) (ms ns : List ProgName) (ts : List ProgItem) → None ≡ first_fault (checks s) → AllByRecursion IsDeclaration s.decls → 1 + length (guards s) < 2 ^ 64 →
    ks ≡ known s.decls s.decls → ms ≡ map (program_name ks) s.decls → scope ≡ map (declared ks) s.decls → AreAdded (setting_of (map seen scope) ks eps) s.items (lists ms []) (lists ns ts) →
    OneByOne (IsItemOf (setting eps (unfolded s))) (unfolded s).items ts
whole_made s ks scope eps ms ns ts h d b k m o a =
    let w : Assignment = parameters s.decls in
    let gs : List Name = names_behind w (guards s) in
    let apart = names_differ s.decls (front_passes (walk name_checks [] s.decls) _ h) in
    let own = no_guards w s.decls d in
    let values : known_values ks ≡ w = ap known_values k ∙ values_known s.decls apart in
    let seen_names : map seen scope ≡ map unboxed (names s) = ap (map seen) o ∙ seen_scope w ks s.decls values in
    let added : AreAdded (over (map unboxed (names s)) w eps) s.items (lists ms []) (lists ns ts) =
    subst₂ (λ (xs : List Name) (v : Assignment). AreAdded (over xs v eps) s.items (lists ms []) (lists ns ts)) seen_names values a in
    let many : length ms ≡ length (names s) = ap length m ∙ length-map s.decls (program_name ks) ∙ sym (length-map s.decls (name_of w)) in
    let c = items_counted 1 s.items in
    let stand : StandFrom (names s ++ gs) 1 (length ms) (length (guards s)) =
    subst (λ (j : ℕ). StandFrom (names s ++ gs) 1 j (length (guards s))) (sym many) (all_stand w (names s) 1 c.0 (guards s) own b c.1) in
    let made : AreMade (over (names s ++ gs) w eps) 1 s.items [] ts =
    items_added (names s) gs (all_new w (names s) (guards s) own) (known s.decls s.decls) w eps [] s.items 1 (lists ms []) (lists ns ts) (items_pass s.decls s.items h) stand added in
    subst₂ (λ (c : Setting) (xs : List ProgItem). OneByOne (IsItemOf c) (unfolded s).items xs) (ap₂ (λ (xs : List Name) (v : Assignment). over xs v eps) (sym (names_more s)) (sym (values_more s))) (sym made.same) made.items

-- a list in memory is short, so the numbers of its guards differ
pub few_guards : (s : Source) (ns : List ProgName) → AreNamesOf (unfolded s) ns → length ns < 2 ^ 63 → 1 + length (guards s) < 2 ^ 64
few_guards s ns h b =
    enough (length s.decls) (length (guards s)) (length ns)
    (as_long (IsNameOf (parameters (unfolded s).decls)) (unfolded s).decls ns h ∙ length-append s.decls (map guard_decl (guards s)) ∙ ap (λ (n : ℕ). length s.decls + n) (length-map (guards s) guard_decl)) b
  where
    enough : (d g n : ℕ) → n ≡ d + g → n < 2 ^ 63 → 1 + g < 2 ^ 64
    enough d g n e b = omega (arith, e, b)
