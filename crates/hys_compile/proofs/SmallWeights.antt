-- An accepted source has a weight of at most 4,200: its names add at most 200, and each connective, unnamed guard and
-- demand takes a node of its own.
use Rattle.std.proofs.Common.{◌≡◌, ℕ, suc, ◌+◌, ◌≤◌, List, [], ◌∷◌, ◌++◌, Option, Some, None, Bool, true, false, cond, map, length, arith, length-append}
use Rattle.std.specs.List.{count_by, sum_by}
use Rattle.std.proofs.lemmas.List.{length-map}
use Rattle.std.proofs.lemmas.List.Sums.{sum_by-cons, count_by-le-length}
use Rattle.hys_ast.specs.declared.place.Place.{Place}
use Rattle.hys_ast.specs.declared.source.Section.{Section}
use Rattle.hys_ast.specs.Nodes.{nodes, total, if_any, shape_expressions, decls_expressions, items_expressions, expressions}
use Rattle.hys_ast.specs.Tree.{Tree, Decl, Shape, Item, Source}
use Rattle.hys_ast.specs.Tree as tree
use Rattle.hys_meaning.specs.Accepted.{Accepted}
use Rattle.hys_meaning.specs.Typed.{is_connective, is_demand}
use Rattle.hys_meaning.specs.Unfolded.{Naming, guard_decl, is_inequality, keeps_top, paired, guarded_if, named, named_below, named_top, named_maybe, named_shape, named_item, guards, unfolded}
use Rattle.hys_meaning.specs.Weight.{connectives, has_column, item_weight, weight}
use Rattle.hys_type.proofs.GuardCounts.{all_guards}
use Rattle.hys_type.proofs.UnfoldedWeight.{items_weigh}

-- ---- expressions
total_both : (xs ys : List Tree) → total (xs ++ ys) ≡ total xs + total ys
total_both [] ys = omega arith
total_both (x ∷ xs) ys = omega (arith, total_both xs ys)

one_each : (t : Bool) → cond t 1 0 ≤ 1
one_each true = omega arith
one_each false = omega arith

-- at most one guard more
guarded_one : (t : Bool) (p : Place) (u : Naming Tree) → length (guarded_if t p u).guards ≤ suc (length u.guards)
guarded_one true p u = omega (arith, length-append u.guards (record { number = u.next; comparison = u.part; place = p } ∷ []))
guarded_one false p u = omega arith

linear_guarded : (g x y n : ℕ) → g ≤ suc x → suc (suc (x + y)) ≤ suc n → suc (g + y) ≤ suc n
linear_guarded g x y n h k = omega (arith, h, k)

linear_both : (g a b t c d m n : ℕ) → g ≡ a + b → suc (a + c) ≤ m → suc (b + d) ≤ n → t ≤ 1 → suc (suc (g + (t + (c + d)))) ≤ suc (m + n)
linear_both g a b t c d m n e h k i = omega (arith, e, h, k, i)

-- the guards and the connectives of an expression leave a node for a demand
named_small : (k : ℕ) (e : Tree) → suc (length (named k e).guards + connectives e) ≤ nodes e
named_small k (tree.Number text p) = omega arith
named_small k (tree.Name n p) = omega arith
named_small k (tree.Truth b p) = omega arith
named_small k (tree.Cast n p) = omega arith
named_small k (tree.Unary op a p) = let h = named_small k a in omega (arith, h)
named_small k (tree.Binary op a b p) =
    let u = named k a in
    let v = named u.next b in
    linear_guarded (length (named k (tree.Binary op a b p)).guards) (length (u.guards ++ v.guards)) (connectives (tree.Binary op a b p)) (nodes a + nodes b)
    (guarded_one (is_inequality op) p (paired (λ (a b : Tree). tree.Binary op a b p) u v))
    (linear_both (length (u.guards ++ v.guards)) (length u.guards) (length v.guards) (cond (is_connective op) 1 0) (connectives a) (connectives b) (nodes a) (nodes b)
    (length-append u.guards v.guards) (named_small k a) (named_small u.next b) (one_each (is_connective op)))

below_small : (k : ℕ) (e : Tree) → suc (length (named_below k e).guards + connectives e) ≤ nodes e
below_small k (tree.Number text p) = omega arith
below_small k (tree.Name n p) = omega arith
below_small k (tree.Truth b p) = omega arith
below_small k (tree.Cast n p) = omega arith
below_small k (tree.Unary op a p) = let h = named_small k a in omega (arith, h)
below_small k (tree.Binary op a b p) =
    let u = named k a in
    let v = named u.next b in
    fewer (length (u.guards ++ v.guards) + connectives (tree.Binary op a b p)) (nodes (tree.Binary op a b p))
    (linear_both (length (u.guards ++ v.guards)) (length u.guards) (length v.guards) (cond (is_connective op) 1 0) (connectives a) (connectives b) (nodes a) (nodes b)
    (length-append u.guards v.guards) (named_small k a) (named_small u.next b) (one_each (is_connective op)))
  where
    fewer : (m n : ℕ) → suc (suc m) ≤ n → suc m ≤ n
    fewer m n h = omega (arith, h)

top_small : (t : Bool) (k : ℕ) (e : Tree) → suc (length (named_top t k e).guards + connectives e) ≤ nodes e
top_small true k e = below_small k e
top_small false k e = named_small k e

maybe_small : (k : ℕ) (o : Option Tree) → length (named_maybe k o).guards + sum_by connectives (if_any o) ≤ total (if_any o)
maybe_small k None = omega arith
maybe_small k (Some e) = linear (length (named k e).guards) (connectives e) (sum_by connectives (e ∷ [])) (nodes e) (sum_by-cons connectives e []) (named_small k e)
  where
    linear : (g c x n : ℕ) → x ≡ c + 0 → suc (g + c) ≤ n → g + x ≤ n + 0
    linear g c x n e h = omega (arith, e, h)

-- ---- items
shape_small : (s : Section) (k : ℕ) (r : Shape) → suc (length (named_shape s k r).guards + sum_by connectives (shape_expressions r)) ≤ total (shape_expressions r)
shape_small s k (tree.Plain e) = linear (length (named_top (keeps_top s) k e).guards) (connectives e) (sum_by connectives (e ∷ [])) (nodes e) (sum_by-cons connectives e []) (top_small (keeps_top s) k e)
  where
    linear : (g c x n : ℕ) → x ≡ c + 0 → suc (g + c) ≤ n → suc (g + x) ≤ n + 0
    linear g c x n e h = omega (arith, e, h)
shape_small s k (tree.Wide e t) =
    linear (length (named_top (keeps_top s) k e).guards) (connectives e) (length (named 1 t).guards) (connectives t) (sum_by connectives (e ∷ t ∷ [])) (sum_by connectives (t ∷ [])) (nodes e) (nodes t)
    (sum_by-cons connectives e (t ∷ [])) (sum_by-cons connectives t []) (top_small (keeps_top s) k e) (named_small 1 t)
  where
    linear : (g c f d x y m n : ℕ) → x ≡ c + y → y ≡ d + 0 → suc (g + c) ≤ m → suc (f + d) ≤ n → suc (g + x) ≤ m + (n + 0)
    linear g c f d x y m n e i h k = omega (arith, e, i, h, k)
shape_small s k (tree.Choice a b o) =
    let u = named k a in
    let v = named u.next b in
    let w = named_maybe v.next o in
    linear (length u.guards) (connectives a) (length v.guards) (connectives b) (length w.guards) (sum_by connectives (if_any o))
    (length (v.guards ++ w.guards)) (length (u.guards ++ (v.guards ++ w.guards))) (sum_by connectives (b ∷ if_any o)) (sum_by connectives (a ∷ b ∷ if_any o)) (nodes a) (nodes b) (total (if_any o))
    (length-append v.guards w.guards) (length-append u.guards (v.guards ++ w.guards)) (sum_by-cons connectives b (if_any o)) (sum_by-cons connectives a (b ∷ if_any o))
    (named_small k a) (named_small u.next b) (maybe_small v.next o)
  where
    linear : (f c g d h e x y z t l m n : ℕ) → x ≡ g + h → y ≡ f + x → z ≡ d + e → t ≡ c + z → suc (f + c) ≤ l → suc (g + d) ≤ m → h + e ≤ n → suc (y + t) ≤ l + (m + n)
    linear f c g d h e x y z t l m n p q r s i j k = omega (arith, p, q, r, s, i, j, k)

items_small : (k : ℕ) (is : List Item) → length (all_guards k is) + sum_by item_weight is ≤ total (items_expressions is)
items_small k [] = omega arith
items_small k (i ∷ is) =
    let u = named_item k i in
    linear (length u.guards) (sum_by connectives (shape_expressions i.shape)) (cond (is_demand i.section) 1 0) (length (all_guards u.next is)) (sum_by item_weight is)
    (length (u.guards ++ all_guards u.next is)) (sum_by item_weight (i ∷ is)) (total (shape_expressions i.shape)) (total (items_expressions is)) (total (items_expressions (i ∷ is)))
    (length-append u.guards (all_guards u.next is)) (sum_by-cons item_weight i is) (total_both (shape_expressions i.shape) (items_expressions is))
    (one_each (is_demand i.section)) (shape_small i.section k i.shape) (items_small u.next is)
  where
    linear : (g c t h w x y m n z : ℕ) → x ≡ g + h → y ≡ (t + c) + w → z ≡ m + n → t ≤ 1 → suc (g + c) ≤ m → h + w ≤ n → x + y ≤ z
    linear g c t h w x y m n z p q r i j k = omega (arith, p, q, r, i, j, k)

-- ---- sources
columns_small : (s : Source) → count_by (λ (d : Decl). has_column d.section) (unfolded s).decls ≤ length s.decls + length (guards s)
columns_small s =
    linear (count_by (λ (d : Decl). has_column d.section) (unfolded s).decls) (length (unfolded s).decls) (length s.decls) (length (map guard_decl (guards s))) (length (guards s))
    (count_by-le-length (λ (d : Decl). has_column d.section) (unfolded s).decls) (length-append s.decls (map guard_decl (guards s))) (length-map (guards s) guard_decl)
  where
    linear : (c l d m g : ℕ) → c ≤ l → l ≡ d + m → m ≡ g → c ≤ d + g
    linear c l d m g h i j = omega (arith, h, i, j)

pub small_weight : (s : Source) → Accepted s → weight s ≤ 4200
small_weight s a =
    linear (count_by (λ (d : Decl). has_column d.section) (unfolded s).decls) (sum_by item_weight (unfolded s).items) (length s.decls) (length (guards s)) (sum_by item_weight s.items)
    (total (decls_expressions s.decls)) (total (items_expressions s.items)) (total (expressions s))
    (columns_small s) (items_weigh 1 s.items) (items_small 1 s.items) (total_both (decls_expressions s.decls) (items_expressions s.items)) a.limits.names a.limits.nodes
  where
    linear : (c w d g v m n t : ℕ) → c ≤ d + g → w ≡ v → g + v ≤ n → t ≡ m + n → d ≤ 200 → t ≤ 4000 → c + w ≤ 4200
    linear c w d g v m n t h e i p j k = omega (arith, h, e, i, p, j, k)
