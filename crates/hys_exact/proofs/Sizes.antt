-- How many columns and rows a built system has.
use Rattle.std.proofs.Common.{◌≡◌, ℕ, suc, ◌+◌, ◌*◌, ◌<◌, ◌≤◌, List, [], ◌∷◌, ◌++◌, Option, Some, None, Bool, true, false, cond, not, ◌&&◌, ◌||◌, length, refl, sym, ap, arith, inl, inr, length-append, eq-eqb}
use Rattle.std.specs.List.{AllByRecursion}
use Rattle.hys_ast.specs.declared.source.Kind.{Kind}
use Rattle.hys_ast.specs.declared.source.Kind.TheVariants as source
use Rattle.hys_prog.specs.declared.program.Role.{Role}
use Rattle.hys_prog.specs.declared.program.Role.TheVariants.{State, Input, Output, Parameter, Aux}
use Rattle.hys_prog.specs.declared.program.Name.{Name}
use Rattle.hys_prog.specs.declared.program.Body.{Body}
use Rattle.hys_prog.specs.declared.program.Body.TheVariants.{Guard, Choice, Logic, Linear, NextBool, NextReal, OutBool, OutReal, MustHold, MustMost, MustZero}
use Rattle.hys_prog.specs.declared.program.ProgItem.{ProgItem}
use Rattle.hys_prog.specs.declared.program.Program.{Program}
use Rattle.hys_prog.specs.Programs.{IsProgram, EachItem, Named, Suits, has_column, names_weight, items_weight, body_connectives, definitions, is_named, is_must}
use Rattle.hys_prog.specs.Steps.{places, places_from, is_state, is_input, is_auxiliary}
use Rattle.hys_prog.specs.Orders.{IsIn}
use Rattle.hys_prog.proofs.Members.{all_of}
use Rattle.hys_prog.proofs.Names.{name_map, place_of, aux_named}
use Rattle.hys_exact.specs.Columns.{of_each, own_place, is_boolean, is_boolean_auxiliary, is_real_auxiliary, front, behind}
use Rattle.hys_exact.specs.Parts.{Part, is_after, rows_of, count_of}
use Rattle.hys_exact.specs.Sound.{AreSound, body_weight}

-- ---- columns
names_count : (k : ℕ) (xs : List Name) → names_weight xs ≡ length (places_from k is_state xs) + length (places_from k is_input xs) + length (of_each is_boolean_auxiliary own_place k xs) + length (of_each is_real_auxiliary own_place k xs)
names_count k [] = refl
names_count k (x ∷ xs) = go x.role x.kind (places_from (suc k) is_state xs) (places_from (suc k) is_input xs) (of_each is_boolean_auxiliary own_place (suc k) xs) (of_each is_real_auxiliary own_place (suc k) xs) (names_weight xs) (names_count (suc k) xs)
  where
    go : (r : Role) (d : Kind) (as' bs cs ds : List ℕ) (n : ℕ) → n ≡ length as' + length bs + length cs + length ds →
        cond (has_column r) 1 0 + n ≡ length (cond (is_state r) (k ∷ as') as') + length (cond (is_input r) (k ∷ bs) bs) + length (cond (is_auxiliary r && is_boolean d) (k ∷ cs) cs) + length (cond (is_auxiliary r && not (is_boolean d)) (k ∷ ds) ds)
    go State d as' bs cs ds n e = omega arith
    go Input d as' bs cs ds n e = omega arith
    go Output d as' bs cs ds n e = omega arith
    go Parameter d as' bs cs ds n e = omega arith
    go Aux source.Bool as' bs cs ds n e = omega arith
    go Aux source.Real as' bs cs ds n e = omega arith

pub columns_count : (p : Program) → length (front p) + length (behind p) ≡ names_weight p.names
columns_count p =
    let e : length (front p) ≡ length (places is_state p ++ places is_input p) + length (of_each is_boolean_auxiliary own_place 0 p.names) = length-append (places is_state p ++ places is_input p) (of_each is_boolean_auxiliary own_place 0 p.names) in
    let f : length (places is_state p ++ places is_input p) ≡ length (places is_state p) + length (places is_input p) = length-append (places is_state p) (places is_input p) in
    let n : names_weight p.names ≡ length (places is_state p) + length (places is_input p) + length (of_each is_boolean_auxiliary own_place 0 p.names) + length (behind p) = names_count 0 p.names in
    omega arith

pub few_fresh : (columns : ℕ) (ts : List ProgItem) (qs : List Part) → AreSound columns ts qs → count_of qs ≤ items_weight ts
few_fresh columns [] [] s = omega arith
few_fresh columns [] (q ∷ qs) s = absurd s
few_fresh columns (t ∷ ts) [] s = absurd s
few_fresh columns (t ∷ ts) (q ∷ qs) s = let h : q.count ≤ body_connectives t.body = s.0.few_fresh in let r : count_of qs ≤ items_weight ts = few_fresh columns ts qs s.1 in omega arith

-- ---- rows
bodies_weight : List ProgItem → ℕ
bodies_weight [] = 0
bodies_weight (t ∷ ts) = body_weight t.body + bodies_weight ts

few_by_bodies : (columns : ℕ) (ts : List ProgItem) (qs : List Part) → AreSound columns ts qs → length (rows_of qs) ≤ 5 * bodies_weight ts
unfolding bodies_weight
few_by_bodies columns [] [] s = omega arith
few_by_bodies columns [] (q ∷ qs) s = absurd s
few_by_bodies columns (t ∷ ts) [] s = absurd s
few_by_bodies columns (t ∷ ts) (q ∷ qs) s =
    let h : length q.rows ≤ 5 * body_weight t.body = s.0.few_rows in
    let r : length (rows_of qs) ≤ 5 * bodies_weight ts = few_by_bodies columns ts qs s.1 in
    let e : length (q.rows ++ rows_of qs) ≡ length q.rows + length (rows_of qs) = length-append q.rows (rows_of qs) in
    omega arith

-- the items that define auxiliaries
auxiliary_items : List ProgItem → ℕ
auxiliary_items [] = 0
auxiliary_items (t ∷ ts) = cond (is_after t.body || is_must t.body) 0 1 + auxiliary_items ts

bodies_below : (ts : List ProgItem) → bodies_weight ts ≤ items_weight ts + auxiliary_items ts
unfolding bodies_weight auxiliary_items
bodies_below [] = omega arith
bodies_below (t ∷ ts) = go (body_connectives t.body) (is_after t.body) (is_must t.body) (bodies_weight ts) (items_weight ts) (auxiliary_items ts) (bodies_below ts)
  where
    go : (c : ℕ) (a m : Bool) (x y z : ℕ) → x ≤ y + z → c + cond a 0 1 + x ≤ c + cond m 1 0 + y + (cond (a || m) 0 1 + z)
    go c true m x y z h = omega arith
    go c false true x y z h = omega arith
    go c false false x y z h = omega arith

-- how many names of the list the item defines
hits : List ℕ → Option ℕ → ℕ
hits [] o = 0
hits (n ∷ ns) o = cond (is_named n o) 1 0 + hits ns o

all_definitions : List ℕ → List ProgItem → ℕ
all_definitions [] ts = 0
all_definitions (n ∷ ns) ts = definitions n ts + all_definitions ns ts

definitions_more : (ns : List ℕ) (t : ProgItem) (ts : List ProgItem) → all_definitions ns (t ∷ ts) ≡ hits ns t.name + all_definitions ns ts
unfolding hits all_definitions
definitions_more [] t ts = refl
definitions_more (n ∷ ns) t ts = let r : all_definitions ns (t ∷ ts) ≡ hits ns t.name + all_definitions ns ts = definitions_more ns t ts in omega arith

definitions_once : (ns : List ℕ) (ts : List ProgItem) → AllByRecursion (λ n. definitions n ts ≡ 1) ns → all_definitions ns ts ≡ length ns
unfolding all_definitions
definitions_once [] ts h = refl
definitions_once (n ∷ ns) ts h = let d : definitions n ts ≡ 1 = h.0 in let r : all_definitions ns ts ≡ length ns = definitions_once ns ts h.1 in omega arith

hit : (ns : List ℕ) (n : ℕ) → IsIn n ns → 0 < hits ns (Some n)
unfolding hits
hit [] n i = absurd i
hit (m ∷ ns) n (inl e) = rw (eq-eqb n m (sym e)) (omega arith)
hit (m ∷ ns) n (inr i) = let r : 0 < hits ns (Some n) = hit ns n i in omega arith

body_auxiliary : (b : Body) (x : Name) → Suits b x → is_after b ≡ false → is_auxiliary x.role ≡ true
body_auxiliary (Guard f e) x s a = ap is_auxiliary s.0
body_auxiliary (Choice l f g) x s a = ap is_auxiliary s.0
body_auxiliary (Logic l) x s a = ap is_auxiliary s.0
body_auxiliary (Linear f) x s a = ap is_auxiliary s.0
body_auxiliary (NextBool l) x s a = absurd (cc)
body_auxiliary (NextReal f) x s a = absurd (cc)
body_auxiliary (OutBool l) x s a = absurd (cc)
body_auxiliary (OutReal f) x s a = absurd (cc)
body_auxiliary (MustHold l) x s a = absurd s
body_auxiliary (MustMost f) x s a = absurd s
body_auxiliary (MustZero f) x s a = absurd s

item_hits : (p : Program) (o : Option ℕ) (b : Body) → Named p.names o b → is_after b ≡ false → is_must b ≡ false → 0 < hits (places is_auxiliary p) o
item_hits p None b s a m = absurd (cc)
item_hits p (Some n) b s a m = hit (places is_auxiliary p) n (place_of is_auxiliary 0 n n p.names (omega arith) (name_map (Suits b) (λ x. is_auxiliary x.role ≡ true) p.names n (λ x h. body_auxiliary b x h a) s))

items_hit : (p : Program) (ts : List ProgItem) → EachItem (λ t. Named p.names t.name t.body) ts → auxiliary_items ts ≤ all_definitions (places is_auxiliary p) ts
unfolding auxiliary_items
items_hit p [] s = omega arith
items_hit p (t ∷ ts) s = go (is_after t.body) (is_must t.body) refl refl (items_hit p ts s.1) (definitions_more (places is_auxiliary p) t ts)
  where
    go : (a m : Bool) → is_after t.body ≡ a → is_must t.body ≡ m → auxiliary_items ts ≤ all_definitions (places is_auxiliary p) ts → all_definitions (places is_auxiliary p) (t ∷ ts) ≡ hits (places is_auxiliary p) t.name + all_definitions (places is_auxiliary p) ts →
        cond (a || m) 0 1 + auxiliary_items ts ≤ all_definitions (places is_auxiliary p) (t ∷ ts)
    go true m e f h d = omega arith
    go false true e f h d = omega arith
    go false false e f h d = let k : 0 < hits (places is_auxiliary p) t.name = item_hits p t.name t.body s.0 e f in omega arith

places_few : (k : ℕ) (xs : List Name) → length (places_from k is_auxiliary xs) ≤ names_weight xs
places_few k [] = omega arith
places_few k (x ∷ xs) = go x.role (places_from (suc k) is_auxiliary xs) (names_weight xs) (places_few (suc k) xs)
  where
    go : (r : Role) (ns : List ℕ) (n : ℕ) → length ns ≤ n → length (cond (is_auxiliary r) (k ∷ ns) ns) ≤ cond (has_column r) 1 0 + n
    go State ns n h = omega arith
    go Input ns n h = omega arith
    go Output ns n h = omega arith
    go Parameter ns n h = omega arith
    go Aux ns n h = omega arith

pub few_rows : (p : Program) (columns : ℕ) (qs : List Part) → IsProgram p → AreSound columns p.items qs → length (rows_of qs) ≤ 5 * p.weight
few_rows p columns qs g s =
    let a : length (rows_of qs) ≤ 5 * bodies_weight p.items = few_by_bodies columns p.items qs s in
    let b : bodies_weight p.items ≤ items_weight p.items + auxiliary_items p.items = bodies_below p.items in
    let c : auxiliary_items p.items ≤ all_definitions (places is_auxiliary p) p.items = items_hit p p.items g.named in
    let d : all_definitions (places is_auxiliary p) p.items ≡ length (places is_auxiliary p) =
    definitions_once (places is_auxiliary p) p.items (all_of (λ n. definitions n p.items ≡ 1) (places is_auxiliary p) (λ n i. g.once n (aux_named p n i))) in
    let e : length (places is_auxiliary p) ≤ names_weight p.names = places_few 0 p.names in
    let w : p.weight ≡ names_weight p.names + items_weight p.items = g.weight in
    omega arith
