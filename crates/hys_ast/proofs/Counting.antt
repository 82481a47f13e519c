-- Counting expressions one after the other.
use Rattle.std.proofs.Common.{◌≡◌, ℕ, ◌+◌, ◌-◌, ◌^◌, ◌<◌, min, max, List, [], ◌∷◌, ◌++◌, length, take, get_or, map, sym, ap, subst, ◌∙◌, arith, append_assoc}
use Rattle.std.proofs.lemmas.List.{append-nil, take_more, map_push}
use Rattle.hys_ast.specs.declared.count.NodeCount.{NodeCount}
use Rattle.hys_ast.specs.declared.source.Decl.{Decl as Coded}
use Rattle.hys_ast.specs.declared.source.Item.{Item as Listed}
use Rattle.hys_ast.specs.Seen.{decl_of, item_of}
use Rattle.hys_ast.specs.Tree.{Tree, Decl, Item}
use Rattle.hys_ast.specs.Nodes.{nodes, decl_expressions, shape_expressions, decls_expressions, items_expressions, total, largest, capped, IsCountOf}

total-append : (xs ys : List Tree) → total (xs ++ ys) ≡ total xs + total ys
total-append [] ys = omega arith
total-append (x ∷ xs) ys = omega (arith, total-append xs ys)

largest-append : (xs ys : List Tree) → largest (xs ++ ys) ≡ max (largest xs) (largest ys)
largest-append [] ys = omega arith
largest-append (x ∷ xs) ys = omega (arith, largest-append xs ys)

pub one_more : (es : List Tree) (e : Tree) (c d : NodeCount) (n : ℕ) → n ≡ capped (nodes e) → d.total ≡ min (c.total + n) (2 ^ 32 - 1) → d.largest ≡ max c.largest n → IsCountOf es c → IsCountOf (es ++ e ∷ []) d
one_more es e c d n m t l count = record {
  total_is = omega (arith, m, t, count.total_is, total-append es (e ∷ []));
  largest_is = omega (arith, m, l, count.largest_is, largest-append es (e ∷ []));
}

pub none_more : (es : List Tree) (c : NodeCount) → IsCountOf es c → IsCountOf (es ++ []) c
none_more es c count = let P : List Tree → Type 0 = λ x. IsCountOf x c in subst P (sym (append-nil es)) count

pub grouped : (xs ys zs : List Tree) (c : NodeCount) → IsCountOf ((xs ++ ys) ++ zs) c → IsCountOf (xs ++ (ys ++ zs)) c
grouped xs ys zs c count = let P : List Tree → Type 0 = λ x. IsCountOf x c in subst P (append_assoc xs ys zs) count

decls-append : (ds : List Decl) (d : Decl) → decls_expressions (ds ++ d ∷ []) ≡ decls_expressions ds ++ decl_expressions d
decls-append [] d = append-nil (decl_expressions d)
decls-append (x ∷ ds) d = ap (λ (y : List Tree). decl_expressions x ++ y) (decls-append ds d) ∙ sym (append_assoc (decl_expressions x) (decls_expressions ds) (decl_expressions d))

items-append : (is : List Item) (i : Item) → items_expressions (is ++ i ∷ []) ≡ items_expressions is ++ shape_expressions i.shape
items-append [] i = append-nil (shape_expressions i.shape)
items-append (x ∷ is) i = ap (λ (y : List Tree). shape_expressions x.shape ++ y) (items-append is i) ∙ sym (append_assoc (shape_expressions x.shape) (items_expressions is) (shape_expressions i.shape))

-- what a loop has counted behind es
pub further : (es before here after : List Tree) (c : NodeCount) → after ≡ before ++ here → IsCountOf ((es ++ before) ++ here) c → IsCountOf (es ++ after) c
further es before here after c e count = let P : List Tree → Type 0 = λ x. IsCountOf (es ++ x) c in subst P (sym e) (grouped es before here c count)

pub next_decl : {X : Type 0} (view : X → Decl) (xs : List X) (i : ℕ) (d : X) → i < length xs → decls_expressions (map view (take (i + 1) xs)) ≡ decls_expressions (map view (take i xs)) ++ decl_expressions (view (get_or xs i d))
next_decl view xs i d less = ap (λ ys. decls_expressions (map view ys)) (take_more xs i d less) ∙ ap decls_expressions (map_push view (take i xs) (get_or xs i d)) ∙ decls-append (map view (take i xs)) (view (get_or xs i d))

pub next_item : {X : Type 0} (view : X → Item) (xs : List X) (i : ℕ) (d : X) → i < length xs → items_expressions (map view (take (i + 1) xs)) ≡ items_expressions (map view (take i xs)) ++ shape_expressions (view (get_or xs i d)).shape
next_item view xs i d less = ap (λ ys. items_expressions (map view ys)) (take_more xs i d less) ∙ ap items_expressions (map_push view (take i xs) (get_or xs i d)) ∙ items-append (map view (take i xs)) (view (get_or xs i d))

pub nothing : (c : NodeCount) → c.total ≡ 0 → c.largest ≡ 0 → IsCountOf [] c
nothing c t l = record { total_is = omega (arith, t); largest_is = omega (arith, l) }

pub of_both : (ds es : List Coded) (is js : List Listed) (c : NodeCount) → ds ≡ es → is ≡ js → IsCountOf (decls_expressions (map decl_of ds) ++ items_expressions (map item_of is)) c → IsCountOf (decls_expressions (map decl_of es) ++ items_expressions (map item_of js)) c
of_both ds es is js c e f count =
    let P : List Coded → Type 0 = λ x. IsCountOf (decls_expressions (map decl_of x) ++ items_expressions (map item_of is)) c in
    let Q : List Listed → Type 0 = λ x. IsCountOf (decls_expressions (map decl_of es) ++ items_expressions (map item_of x)) c in
    subst Q f (subst P e count)

pub decl_here : (xs : List Coded) (i : ℕ) (d : Coded) → i < length xs → d ≡ get_or xs i d → decls_expressions (map decl_of (take (i + 1) xs)) ≡ decls_expressions (map decl_of (take i xs)) ++ decl_expressions (decl_of d)
decl_here xs i d less e = next_decl decl_of xs i d less ∙ ap (λ (x : Coded). decls_expressions (map decl_of (take i xs)) ++ decl_expressions (decl_of x)) (sym e)

pub item_here : (xs : List Listed) (i : ℕ) (d : Listed) → i < length xs → d ≡ get_or xs i d → items_expressions (map item_of (take (i + 1) xs)) ≡ items_expressions (map item_of (take i xs)) ++ shape_expressions (item_of d).shape
item_here xs i d less e = next_item item_of xs i d less ∙ ap (λ (x : Listed). items_expressions (map item_of (take i xs)) ++ shape_expressions (item_of x).shape) (sym e)
