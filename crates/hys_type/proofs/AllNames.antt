-- The names of a program are those of all declarations, the unnamed guards' among them.
use Rattle.std.proofs.Common.{◌≡◌, ℕ, suc, ◌+◌, ◌-◌, ◌≤◌, List, [], ◌∷◌, ◌++◌, None, map, flat_map, length, refl, sym, ◌∙◌, ap, append_assoc, append-nil, subst, subst₂, arith}
use Rattle.std.proofs.lemmas.List.{length-append, length-map}
use Rattle.hys_number.specs.Number.{Number}
use Rattle.hys_number.specs.Ops.{whole}
use Rattle.hys_ast.specs.Tree.{Tree, Decl, Item}
use Rattle.hys_meaning.specs.Values.{Assignment}
use Rattle.hys_meaning.specs.Names.{Name, parameters, valued, with_value, is_parameter}
use Rattle.hys_meaning.specs.Bodies as said
use Rattle.hys_meaning.specs.Unfolded.{Guard, Naming, guard_decl, named_item, named_items}
use Rattle.hys_prog.specs.declared.program.Name.{Name as ProgName}
use Rattle.hys_type.specs.Added.{Lists, lists, AreAdded, none, one}
use Rattle.hys_type.specs.Built.{IsGuardOf, body_comparisons, setting_of}
use Rattle.hys_type.specs.Checks.{scoped, scope_by, item_checks, missing_checks, checks_by}
use Rattle.hys_type.specs.Declarations.{known, name_checks, value_checks, box_checks}
use Rattle.hys_type.specs.Made.{declared, program_name}
use Rattle.hys_type.specs.Operands.{seen}
use Rattle.hys_type.specs.declared.scope.Declared.{Declared}
use Rattle.hys_prog.specs.declared.program.ProgItem.{ProgItem}
use Rattle.hys_type.proofs.DeclaredNames.{each_name}
use Rattle.hys_type.specs.Faults.{Check, first_fault}
use Rattle.hys_type.specs.Guarding.{names_of_guards}
use Rattle.hys_type.specs.Translation.{Setting, IsNameOf, OneByOne, left_kind}
use Rattle.hys_type.specs.Walks.{walk}
use Rattle.hys_type.specs.declared.built.Guard.{Guard as Built}
use Rattle.hys_type.specs.declared.constant.Known.{Known}
use Rattle.hys_type.proofs.Guards.{one_by_one, as_long}
use Rattle.hys_type.proofs.ItemNumbers.{AreNumbered, item_numbered}
use Rattle.hys_type.proofs.Numbering.{numbered}
use Rattle.hys_type.proofs.Wholes.{front_passes, back_passes, names_differ, same_items}

-- ---- values
-- the declaration of a guard gives no parameter a value
no_values : (w : Assignment) (gs : List Guard) → valued w (map guard_decl gs) ≡ w
no_values w [] = refl
no_values w (g ∷ gs) = no_values w gs

valued_both : (w : Assignment) (ds es : List Decl) → valued w (ds ++ es) ≡ valued (valued w ds) es
valued_both w [] es = refl
valued_both w (d ∷ ds) es = valued_both (with_value (is_parameter d.section) d.kind d.name d.value w) ds es

pub same_parameters : (ds : List Decl) (gs : List Guard) → parameters (ds ++ map guard_decl gs) ≡ parameters ds
same_parameters ds gs = valued_both (λ n. whole 0) ds (map guard_decl gs) ∙ no_values (parameters ds) gs

-- ---- the names of guards
guards_named : (ns : List Name) (w : Assignment) (k : ℕ) (cs : List Tree) (gs : List Built) → OneByOne (IsGuardOf ns) cs gs → OneByOne (IsNameOf w) (map guard_decl (numbered k cs)) (names_of_guards k gs)
guards_named ns w k [] [] h = tt
guards_named ns w k [] (g ∷ gs) h = absurd h
guards_named ns w k (c ∷ cs) [] h = absurd h
guards_named ns w k (c ∷ cs) (g ∷ gs) h = (
  record { text = refl; role = refl; kind = refl; place = h.0.0; low = λ q. absurd (cc); high = λ q. absurd (cc); usual = λ q. refl; value = λ q. absurd (cc); no_value = λ q. refl },
  guards_named ns w (suc k) cs gs h.1,
)

pub many_names : (k : ℕ) (gs : List Built) → length (names_of_guards k gs) ≡ length gs
many_names k [] = refl
many_names k (g ∷ gs) = ap suc (many_names (suc k) gs)

map_both : {A B : Type 0} (f : A → B) (xs ys : List A) → map f (xs ++ ys) ≡ map f xs ++ map f ys
map_both f [] ys = refl
map_both f (x ∷ xs) ys = ap (λ zs. f x ∷ zs) (map_both f xs ys)

-- ---- item by item
-- the guards of items whose first one has the number
abbrev pub guards_from : ℕ → List Item → List Guard
guards_from k is = flat_map (λ (u : Naming Item). u.guards) (named_items k is)

pub record AreNamed (w : Assignment) (k : ℕ) (is : List Item) (before after : List ProgName) : Type 0 where
  pub more : List ProgName
  pub same : after ≡ before ++ more
  pub names : OneByOne (IsNameOf w) (map guard_decl (guards_from k is)) more

first_number : (n d k : ℕ) → d ≤ n → k + d ≡ n + 1 → n - d + 1 ≡ k
first_number n d k h e = omega (arith, h, e)

names_added : (w : Assignment) (c : Setting) (ks : List Known) (bs is : List Item) (k : ℕ) (before after : Lists) → None ≡ first_fault (walk (item_checks (scoped c.names ks)) bs is) → length c.names ≤ length before.names → k + length c.names ≡ length before.names + 1 →
    AreAdded c is before after → AreNamed w k is before.names after.names
names_added w c ks bs [] k before after h l e (none {l = m}) = record { more = []; same = sym (append-nil before.names); names = tt }
names_added w c ks bs (i ∷ is) k before after h l e (one {l = m} a r) =
    let rest : AreNamed w (named_item k i).next is m.names after.names = names_added w c ks (bs ++ i ∷ []) is (named_item k i).next m after (back_passes checks (walk (item_checks (scoped c.names ks)) (bs ++ i ∷ []) is) h)
    (enough (length before.names) (length m.names) (length c.names) (length cs) l long)
    (number (length before.names) (length m.names) (length c.names) (length cs) k (named_item k i).next e long u.next) r in
    record {
      more = own ++ rest.more;
      same = rest.same ∙ ap (λ (xs : List ProgName). xs ++ rest.more) added ∙ append_assoc before.names own rest.more;
      names = subst (λ (ds : List Decl). OneByOne (IsNameOf w) ds (own ++ rest.more)) (sym (ap (map guard_decl) (ap (λ (gs : List Guard). gs ++ guards_from (named_item k i).next is) u.guards) ∙ map_both guard_decl (numbered k cs) (guards_from (named_item k i).next is)))
          (one_by_one (IsNameOf w) (map guard_decl (numbered k cs)) (map guard_decl (guards_from (named_item k i).next is)) own rest.more (guards_named c.names w k cs a.guards a.compared) rest.names);
    }
  where
    checks : List Check
    checks = item_checks (scoped c.names ks) bs i

    cs : List Tree
    cs = body_comparisons (left_kind c.names i.name) (said.body i)

    own : List ProgName
    own = names_of_guards k a.guards

    u : AreNumbered k cs (named_item k i)
    u = item_numbered c.names ks bs i c (length before.names) k a.body (front_passes checks (walk (item_checks (scoped c.names ks)) (bs ++ i ∷ []) is) h) a.built

    added : m.names ≡ before.names ++ own
    added = a.names ∙ ap (λ (j : ℕ). before.names ++ names_of_guards j a.guards) (first_number (length before.names) (length c.names) k l e)

    long : length m.names ≡ length before.names + length cs
    long = ap length added ∙ length-append before.names own ∙ ap (λ (n : ℕ). length before.names + n) (many_names k a.guards ∙ as_long (IsGuardOf c.names) cs a.guards a.compared)

    enough : (n m d g : ℕ) → d ≤ n → m ≡ n + g → d ≤ m
    enough n m d g h e = omega (arith, h, e)

    number : (n m d g k j : ℕ) → k + d ≡ n + 1 → m ≡ n + g → j ≡ k + g → j + d ≡ m + 1
    number n m d g k j e f q = omega (arith, e, f, q)

-- the declared names first, and behind them those of the guards
pub all_named : (w : Assignment) (c : Setting) (ks : List Known) (ds : List Decl) (is : List Item) (before after : Lists) → None ≡ first_fault (walk (item_checks (scoped c.names ks)) [] is) → length before.names ≡ length c.names →
    OneByOne (IsNameOf (parameters ds)) ds before.names → AreAdded c is before after →
    OneByOne (IsNameOf (parameters (ds ++ map guard_decl (guards_from 1 is)))) (ds ++ map guard_decl (guards_from 1 is)) after.names
all_named w c ks ds is before after h l d a =
    let g : AreNamed (parameters ds) 1 is before.names after.names = names_added (parameters ds) c ks [] is 1 before after h (enough (length c.names) (length before.names) l) (first (length c.names) (length before.names) l) a in
    let es : List Decl = map guard_decl (guards_from 1 is) in
    subst₂ (λ (v : Assignment) (xs : List ProgName). OneByOne (IsNameOf v) (ds ++ es) xs) (sym (same_parameters ds (guards_from 1 is))) (sym g.same)
    (one_by_one (IsNameOf (parameters ds)) ds es before.names g.more d g.names)
  where
    enough : (m n : ℕ) → n ≡ m → m ≤ n
    enough m n e = omega (arith, e)

    first : (m n : ℕ) → n ≡ m → 1 + m ≡ n + 1
    first m n e = omega (arith, e)

-- the names that are made of a source that passes its checks
pub whole_named : (ds : List Decl) (is : List Item) (ks : List Known) (scope : List Declared) (eps : Number) (ms ns : List ProgName) (ts us : List ProgItem) → None ≡ first_fault (checks_by ds is) → ks ≡ known ds ds → ms ≡ map (program_name ks) ds → scope ≡ map (declared ks) ds →
    AreAdded (setting_of (map seen scope) ks eps) is (lists ms us) (lists ns ts) → OneByOne (IsNameOf (parameters (ds ++ map guard_decl (guards_from 1 is)))) (ds ++ map guard_decl (guards_from 1 is)) ns
whole_named ds is ks scope eps ms ns ts us h k m o a =
    let names = walk name_checks [] ds in
    let values = walk (value_checks ds) [] ds in
    let boxes = walk (λ before d. box_checks (known ds ds) d) [] ds in
    let items = walk (item_checks (scope_by ds)) [] is in
    let missing = walk (λ before d. missing_checks is d) [] ds in
    let apart = names_differ ds (front_passes names (values ++ (boxes ++ (items ++ missing))) h) in
    let pass = front_passes items missing (back_passes boxes (items ++ missing) (back_passes values (boxes ++ (items ++ missing)) (back_passes names (values ++ (boxes ++ (items ++ missing))) h))) in
    all_named (parameters ds) (setting_of (map seen scope) ks eps) ks ds is (lists ms us) (lists ns ts) (pass ∙ ap first_fault (sym (same_items ds is ks (map seen scope) apart k (ap (map seen) o))))
    (ap length m ∙ length-map ds (program_name ks) ∙ sym (length-map scope seen ∙ ap length o ∙ length-map ds (declared ks)))
    (subst (λ (xs : List ProgName). OneByOne (IsNameOf (parameters ds)) ds xs) (sym (m ∙ ap (λ (ls : List Known). map (program_name ls) ds) k)) (each_name ds ds apart)) a
