-- A source has at most as many unnamed guards as nodes.
use Rattle.std.proofs.Common.{◌≡◌, ℕ, suc, ◌+◌, ◌<◌, ◌≤◌, ◌^◌, List, [], ◌∷◌, ◌++◌, Option, Some, None, Bool, true, false, length, arith, length-append}
use Rattle.hys_ast.specs.declared.place.Place.{Place}
use Rattle.hys_ast.specs.declared.source.Section.{Section}
use Rattle.hys_ast.specs.Nodes.{nodes, total, if_any, shape_expressions, decls_expressions, items_expressions, expressions}
use Rattle.hys_ast.specs.Tree.{Tree, Shape, Item, Source}
use Rattle.hys_ast.specs.Tree as tree
use Rattle.hys_meaning.specs.Unfolded.{Guard, Naming, is_inequality, keeps_top, paired, guarded_if, named, named_below, named_top, named_maybe, named_shape, named_item, guards}
use Rattle.hys_type.proofs.GuardCounts.{all_guards}

total_append : (xs ys : List Tree) → total (xs ++ ys) ≡ total xs + total ys
total_append [] ys = omega arith
total_append (x ∷ xs) ys = omega (arith, total_append xs ys)

both_few : (xs ys : List Guard) (m n : ℕ) → length xs ≤ m → length ys ≤ n → length (xs ++ ys) ≤ m + n
both_few xs ys m n h k = omega (arith, length-append xs ys)

guarded_few : (t : Bool) (p : Place) (u : Naming Tree) (n : ℕ) → length u.guards ≤ n → length (guarded_if t p u).guards ≤ suc n
guarded_few true p u n h = omega (arith, length-append u.guards (record { number = u.next; comparison = u.part; place = p } ∷ []))
guarded_few false p u n h = omega arith

named_few : (k : ℕ) (e : Tree) → length (named k e).guards ≤ nodes e
named_few k (tree.Number text p) = omega arith
named_few k (tree.Name n p) = omega arith
named_few k (tree.Truth b p) = omega arith
named_few k (tree.Cast n p) = omega arith
named_few k (tree.Unary op a p) = let h = named_few k a in omega arith
named_few k (tree.Binary op a b p) =
    guarded_few (is_inequality op) p (paired (λ (a b : Tree). tree.Binary op a b p) (named k a) (named (named k a).next b)) (nodes a + nodes b)
    (both_few (named k a).guards (named (named k a).next b).guards (nodes a) (nodes b) (named_few k a) (named_few (named k a).next b))

below_few : (k : ℕ) (e : Tree) → length (named_below k e).guards ≤ nodes e
below_few k (tree.Number text p) = omega arith
below_few k (tree.Name n p) = omega arith
below_few k (tree.Truth b p) = omega arith
below_few k (tree.Cast n p) = omega arith
below_few k (tree.Unary op a p) = let h = named_few k a in omega arith
below_few k (tree.Binary op a b p) =
    let h = both_few (named k a).guards (named (named k a).next b).guards (nodes a) (nodes b) (named_few k a) (named_few (named k a).next b) in
    omega arith

top_few : (t : Bool) (k : ℕ) (e : Tree) → length (named_top t k e).guards ≤ nodes e
top_few true k e = below_few k e
top_few false k e = named_few k e

maybe_few : (k : ℕ) (o : Option Tree) → length (named_maybe k o).guards ≤ total (if_any o)
maybe_few k (Some e) = let h = named_few k e in omega arith
maybe_few k None = omega arith

shape_few : (s : Section) (k : ℕ) (r : Shape) → length (named_shape s k r).guards ≤ total (shape_expressions r)
shape_few s k (tree.Plain e) = let h = top_few (keeps_top s) k e in omega arith
shape_few s k (tree.Wide e t) = let h = top_few (keeps_top s) k e in omega arith
shape_few s k (tree.Choice a b c) =
    let n = (named k a).next in
    let m = (named n b).next in
    let h = both_few (named n b).guards (named_maybe m c).guards (nodes b) (total (if_any c)) (named_few n b) (maybe_few m c) in
    let i = both_few (named k a).guards ((named n b).guards ++ (named_maybe m c).guards) (nodes a) (nodes b + total (if_any c)) (named_few k a) h in
    omega arith

items_few : (k : ℕ) (is : List Item) → length (all_guards k is) ≤ total (items_expressions is)
items_few k [] = omega arith
items_few k (i ∷ is) =
    let n = (named_item k i).next in
    let h = both_few (named_item k i).guards (all_guards n is) (total (shape_expressions i.shape)) (total (items_expressions is)) (shape_few i.section k i.shape) (items_few n is) in
    let t = total_append (shape_expressions i.shape) (items_expressions is) in
    omega (arith, t, h)

pub few_guards : (s : Source) → total (expressions s) ≤ 4000 → 1 + length (guards s) < 2 ^ 64
few_guards s h =
    let g = items_few 1 s.items in
    let t = total_append (decls_expressions s.decls) (items_expressions s.items) in
    omega (arith, t, g, h)
