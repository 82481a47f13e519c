-- What is added for items, one behind another.
use Rattle.std.proofs.Common.{◌≡◌, ℕ, ◌+◌, ◌-◌, ◌<◌, ◌≤◌, List, [], ◌∷◌, ◌++◌, Option, map, drop, length, get_or, sym, ◌∙◌, ap, append_assoc, subst, arith}
use Rattle.std.proofs.lemmas.List.{append-nil, length-append, length-map, drop_all}
use Rattle.hys_number.specs.Number.{Number}
use Rattle.hys_ast.specs.Tree as tree
use Rattle.hys_ast.specs.declared.source.Item.{Item}
use Rattle.hys_ast.specs.Seen.{item_of}
use Rattle.hys_meaning.specs.Names.{Name}
use Rattle.hys_meaning.specs.Bodies as said
use Rattle.hys_prog.specs.declared.program.Body.{Body}
use Rattle.hys_prog.specs.declared.program.Name.{Name as ProgName}
use Rattle.hys_prog.specs.declared.program.ProgItem.{ProgItem}
use Rattle.hys_type.specs.Added.{Lists, lists, own_item, IsAdded, AreAdded, none, one}
use Rattle.hys_type.specs.Begins.{Begins}
use Rattle.hys_type.specs.Built.{IsBuilt, AreFollowed, body_comparisons, setting_of}
use Rattle.hys_type.specs.Guarding.{names_of_guards, items_of_guards}
use Rattle.hys_type.specs.Operands.{seen}
use Rattle.hys_type.specs.Translation.{Setting, left_kind, place_if}
use Rattle.hys_type.specs.declared.built.Guard.{Guard}
use Rattle.hys_type.specs.declared.constant.Known.{Known}
use Rattle.hys_type.specs.declared.scope.Declared.{Declared}
use Rattle.hys_type.proofs.Walks.{drop_here}

-- what is built of an item, and what was put behind the names and items before
pub item_added : (scope : List Declared) (ks : List Known) (eps : Number) (i : tree.Item) (xs ys : List ProgName) (us vs ws : List ProgItem) (hs gs : List Guard) (b : Body) (t : ProgItem) (first : ℕ) →
    first ≡ length xs → hs ≡ [] →
    AreFollowed (map seen scope) hs (body_comparisons (left_kind (map seen scope) i.name) (said.body i)) gs →
    IsBuilt (setting_of (map seen scope) ks eps) (first + length hs) (left_kind (map seen scope) i.name) (said.body i) b →
    ys ≡ xs ++ names_of_guards (length xs - length scope + 1) gs → vs ≡ us ++ items_of_guards (length xs) eps gs → ws ≡ vs ++ t ∷ [] → t ≡ own_item (map seen scope) i b →
    IsAdded (setting_of (map seen scope) ks eps) i (lists xs us) (lists ys ws)
item_added scope ks eps i xs ys us vs ws hs gs b t first z e h k n m w o =
    let ns : List Name = map seen scope in
    let f : gs ≡ h.more = h.same ∙ ap (λ (ls : List Guard). ls ++ h.more) e in
    record {
      guards = h.more;
      body = b;
      compared = h.guards;
      built = subst (λ (j : ℕ). IsBuilt (setting_of ns ks eps) j (left_kind ns i.name) (said.body i) b) (whole_length (length xs) (length hs) first z (ap length e)) k;
      names = n ∙ ap (λ (d : ℕ). xs ++ names_of_guards (length xs - d + 1) gs) (sym (length-map scope seen)) ∙ ap (λ (ls : List Guard). xs ++ names_of_guards (length xs - length ns + 1) ls) f;
      items = w ∙ ap (λ (zs : List ProgItem). zs ++ t ∷ []) m ∙ append_assoc us (items_of_guards (length xs) eps gs) (t ∷ [])
          ∙ ap (λ (ls : List Guard). us ++ (items_of_guards (length xs) eps ls ++ t ∷ [])) f ∙ ap (λ (x : ProgItem). us ++ (items_of_guards (length xs) eps h.more ++ x ∷ [])) o;
    }
  where
    whole_length : (m n k : ℕ) → k ≡ m → n ≡ 0 → k + n ≡ m
    whole_length m n k z e = omega (arith, z, e)

-- ---- the loop
-- what is still to be added from here on is added to what was there at first
abbrev pub AddsFrom : Setting → List Item → ℕ → Lists → Lists → Type 0
AddsFrom c is k first now = (after : Lists) → AreAdded c (map item_of (drop k is)) now after → AreAdded c (map item_of is) first after

pub added_here : (c : Setting) (is : List Item) (k : ℕ) (i : Item) (first now next : Lists) → k < length is → i ≡ get_or is k i → IsAdded c (item_of i) now next → AddsFrom c is k first now → AddsFrom c is (k + 1) first next
added_here c is k i first now next h e a w after r = w after (subst (λ (js : List Item). AreAdded c (map item_of js) now after) (sym (drop_here is k i h e)) (one a r))

pub added_end : (c : Setting) (is : List Item) (k : ℕ) (first now : Lists) → length is ≤ k → AddsFrom c is k first now → AreAdded c (map item_of is) first now
added_end c is k first now h w = w now (subst (λ (js : List Item). AreAdded c (map item_of js) now now) (sym (drop_all k is h)) none)

pub still_enough : (c : Setting) (i : tree.Item) (before after : Lists) (d : ℕ) → IsAdded c i before after → d ≤ length before.names → d ≤ length after.names
still_enough c i before after d a h =
    more (length before.names) (length (names_of_guards (length before.names - length c.names + 1) a.guards)) (length after.names) (ap length a.names ∙ length-append before.names (names_of_guards (length before.names - length c.names + 1) a.guards)) h
  where
    more : (m n k : ℕ) → k ≡ m + n → d ≤ m → d ≤ k
    more m n k e h = omega (arith, e, h)

-- ---- what begins
pub names_begin : (c : Setting) (items : List tree.Item) (before after : Lists) → AreAdded c items before after → Begins before.names after.names
names_begin c items before after a = go a
  where
    go : {js : List tree.Item} {k m : Lists} → AreAdded c js k m → Begins k.names m.names
    go (none {l}) = record { more = []; same = sym (append-nil l.names) }
    go (one {i} {is} {k} {l} {m} a r) = let p : Begins l.names m.names = go r in
        let gs : List ProgName = names_of_guards (length k.names - length c.names + 1) a.guards in
        record { more = gs ++ p.more; same = p.same ∙ ap (λ (xs : List ProgName). xs ++ p.more) a.names ∙ append_assoc k.names gs p.more }

-- ---- the item itself
pub left_item : (ns : List Name) (i : tree.Item) (b : Body) (k : Option ℕ) → k ≡ place_if ns i.name → record { name = k; place = i.place; body = b } ≡ own_item ns i b
left_item ns i b k e = ap (λ (x : Option ℕ). named_by x) e
  where
    named_by : Option ℕ → ProgItem
    named_by x = record { name = x; place = i.place; body = b }
