-- The unnamed guards of a source are numbered one after the other, so their names differ.
use Rattle.std.proofs.Common.{◌≡◌, ℕ, suc, ◌+◌, ◌<◌, ◌^◌, List, [], ◌∷◌, ◌++◌, Option, Some, None, Bool, true, false, ◌||◌, ◌&&◌, not, map, flat_map, drop, length, refl, sym, ap, ap₂, subst, arith}
use Rattle.std.specs.Str.{bytes_eq}
use Rattle.std.specs.List.{AllByRecursion, list_any}
use Rattle.std.proofs.lemmas.Fmt.{decimal_injective}
use Rattle.hys_ast.specs.declared.place.Place.{Place}
use Rattle.hys_ast.specs.declared.source.Section.{Section}
use Rattle.hys_ast.specs.Tree.{Tree, Decl, Shape, Item}
use Rattle.hys_ast.specs.Tree as tree
use Rattle.hys_meaning.specs.Unfolded.{Guard, Naming, guard_name, guard_decl, is_inequality, keeps_top, paired, guarded_if, named, named_below, named_top, named_maybe, named_shape, named_item, named_items}
use Rattle.hys_meaning.specs.Typed.{differ}
use Rattle.hys_type.specs.Written.{IsNoGuard, IsReadDecl}
use Rattle.hys_type.proofs.KnownValues.{other_text, declared_texts}

-- the numbers go from the first up to the second
abbrev pub Counted : ℕ → List Guard → ℕ → Type 0
Counted k [] m = k ≡ m
Counted k (g ∷ gs) m = (g.number ≡ k) × Counted (suc k) gs m

counted_join : (k m n : ℕ) (xs ys : List Guard) → Counted k xs m → Counted m ys n → Counted k (xs ++ ys) n
counted_join k m n [] ys h i = subst (λ j. Counted j ys n) (sym h) i
counted_join k m n (x ∷ xs) ys h i = (h.0, counted_join (suc k) m n xs ys h.1 i)

guarded_counted : (k : ℕ) (t : Bool) (p : Place) (u : Naming Tree) → Counted k u.guards u.next → Counted k (guarded_if t p u).guards (guarded_if t p u).next
guarded_counted k true p u h = counted_join k u.next (suc u.next) u.guards _ h (refl, refl)
guarded_counted k false p u h = h

named_counted : (k : ℕ) (e : Tree) → Counted k (named k e).guards (named k e).next
named_counted k (tree.Number text p) = refl
named_counted k (tree.Name n p) = refl
named_counted k (tree.Truth b p) = refl
named_counted k (tree.Cast n p) = refl
named_counted k (tree.Unary op a p) = named_counted k a
named_counted k (tree.Binary op a b p) =
    guarded_counted k (is_inequality op) p (paired (λ (a b : Tree). tree.Binary op a b p) (named k a) (named (named k a).next b))
    (counted_join k (named k a).next (named (named k a).next b).next (named k a).guards (named (named k a).next b).guards (named_counted k a) (named_counted (named k a).next b))

below_counted : (k : ℕ) (e : Tree) → Counted k (named_below k e).guards (named_below k e).next
below_counted k (tree.Number text p) = refl
below_counted k (tree.Name n p) = refl
below_counted k (tree.Truth b p) = refl
below_counted k (tree.Cast n p) = refl
below_counted k (tree.Unary op a p) = named_counted k a
below_counted k (tree.Binary op a b p) = counted_join k (named k a).next (named (named k a).next b).next (named k a).guards (named (named k a).next b).guards (named_counted k a) (named_counted (named k a).next b)

top_counted : (t : Bool) (k : ℕ) (e : Tree) → Counted k (named_top t k e).guards (named_top t k e).next
top_counted true k e = below_counted k e
top_counted false k e = named_counted k e

maybe_counted : (k : ℕ) (o : Option Tree) → Counted k (named_maybe k o).guards (named_maybe k o).next
maybe_counted k (Some e) = named_counted k e
maybe_counted k None = refl

shape_counted : (s : Section) (k : ℕ) (r : Shape) → Counted k (named_shape s k r).guards (named_shape s k r).next
shape_counted s k (tree.Plain e) = top_counted (keeps_top s) k e
shape_counted s k (tree.Wide e t) = top_counted (keeps_top s) k e
shape_counted s k (tree.Choice a b c) =
    counted_join k (named k a).next (named_maybe (named (named k a).next b).next c).next (named k a).guards ((named (named k a).next b).guards ++ (named_maybe (named (named k a).next b).next c).guards) (named_counted k a)
    (counted_join (named k a).next (named (named k a).next b).next (named_maybe (named (named k a).next b).next c).next (named (named k a).next b).guards (named_maybe (named (named k a).next b).next c).guards (named_counted (named k a).next b) (maybe_counted (named (named k a).next b).next c))

abbrev pub all_guards : ℕ → List Item → List Guard
all_guards k is = flat_map (λ (u : Naming Item). u.guards) (named_items k is)

pub items_counted : (k : ℕ) (is : List Item) → (m : ℕ) × Counted k (all_guards k is) m
items_counted k [] = (k, refl)
items_counted k (i ∷ is) =
    let r = items_counted (named_item k i).next is in
    (r.0, counted_join k (named_item k i).next r.0 (named_item k i).guards (all_guards (named_item k i).next is) (shape_counted i.section k i.shape) r.1)

-- ---- names of guards
pub other_guard : (m n : ℕ) → m < 2 ^ 64 → n < 2 ^ 64 → ¬ (m ≡ n) → bytes_eq (guard_name m) (guard_name n) ≡ false
other_guard m n p q d = other_text (guard_name m) (guard_name n) (λ e. d (decimal_injective m n p q (ap (drop 1) e)))

new_guard : (n k m : ℕ) (gs : List Guard) → n < k → k + length gs < 2 ^ 64 → Counted k gs m → list_any (bytes_eq (guard_name n)) (declared_texts (map guard_decl gs)) ≡ false
new_guard n k m [] l b h = refl
new_guard n k m (g ∷ gs) l b h =
    ap₂ (λ (x y : Bool). x || y) (other_guard n g.number (omega (arith, l, b)) (omega (arith, b, h.0)) (λ e. omega (arith, l, e, h.0))) (new_guard n (suc k) m gs (omega (arith, l)) (omega (arith, b)) h.1)

pub guards_differ : (k m : ℕ) (gs : List Guard) → k + length gs < 2 ^ 64 → Counted k gs m → differ (declared_texts (map guard_decl gs)) ≡ true
guards_differ k m [] b h = refl
guards_differ k m (g ∷ gs) b h =
    ap₂ (λ (x y : Bool). not x && y)
    (new_guard g.number (suc k) m gs (omega (arith, h.0)) (omega (arith, b)) h.1) (guards_differ (suc k) m gs (omega (arith, b)) h.1)

no_guard_any : (n : List ℕ) (gs : List Guard) → IsNoGuard n → list_any (bytes_eq n) (declared_texts (map guard_decl gs)) ≡ false
no_guard_any n [] h = refl
no_guard_any n (g ∷ gs) h = ap₂ (λ (x y : Bool). x || y) (other_text n (guard_name g.number) (h g.number)) (no_guard_any n gs h)

any_join : (n : List ℕ) (xs ys : List Decl) → list_any (bytes_eq n) (declared_texts ys) ≡ false → list_any (bytes_eq n) (declared_texts (xs ++ ys)) ≡ list_any (bytes_eq n) (declared_texts xs)
any_join n [] ys h = h
any_join n (x ∷ xs) ys h = ap (λ (b : Bool). bytes_eq n x.name || b) (any_join n xs ys h)

pub differ_more : (ds : List Decl) (gs : List Guard) → AllByRecursion IsReadDecl ds → differ (declared_texts (map guard_decl gs)) ≡ true → differ (declared_texts (ds ++ map guard_decl gs)) ≡ differ (declared_texts ds)
differ_more [] gs r h = h
differ_more (d ∷ ds) gs r h = ap₂ (λ (x y : Bool). not x && y) (any_join d.name ds (map guard_decl gs) (no_guard_any d.name gs r.0.0)) (differ_more ds gs r.1 h)
