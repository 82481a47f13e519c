-- The items of a source weigh what those of its unfolded one weigh: a comparison goes with its connectives from an item
-- to its guard.
use Rattle.std.proofs.Common.{◌≡◌, ℕ, ◌+◌, List, [], ◌∷◌, ◌++◌, Option, Some, None, Bool, true, false, map, flat_map, cond, refl, sym, ◌∙◌, ap, ap₂, arith}
use Rattle.std.specs.List.{AllByRecursion, sum_by}
use Rattle.std.proofs.lemmas.List.Sums.{sum_by-cons, sum_by-append}
use Rattle.hys_ast.specs.declared.place.Place.{Place}
use Rattle.hys_ast.specs.declared.source.Section.{Section}
use Rattle.hys_ast.specs.declared.tree.BinaryOp.{BinaryOp}
use Rattle.hys_ast.specs.Tree.{Tree, Shape, Item, Source}
use Rattle.hys_ast.specs.Tree as tree
use Rattle.hys_ast.specs.Nodes.{shape_expressions, if_any}
use Rattle.hys_meaning.specs.Typed.{is_connective, is_demand}
use Rattle.hys_meaning.specs.Names.{parameters}
use Rattle.hys_meaning.specs.Unfolded.{Guard, Naming, guard_item, is_inequality, keeps_top, paired, guarded_if, named, named_below, named_top, named_maybe, choice_parts, applied, named_shape, named_item, named_items, behind, unfolded}
use Rattle.hys_meaning.specs.Weight.{connectives, item_weight, weight}
use Rattle.hys_prog.specs.declared.program.Name.{Name as ProgName}
use Rattle.hys_prog.specs.Programs.{names_weight}
use Rattle.hys_type.specs.Declaring.{IsDeclaration}
use Rattle.hys_type.specs.Made.{AreNamesOf}
use Rattle.hys_type.proofs.ProgramNames.{columns_declared}
use Rattle.hys_type.proofs.SameCircles.{unfolded_declared}

abbrev guard_connectives : List Guard → ℕ
guard_connectives gs = sum_by (λ (g : Guard). connectives g.comparison) gs

both_guards : (xs ys : List Guard) → guard_connectives (xs ++ ys) ≡ guard_connectives xs + guard_connectives ys
both_guards xs ys = sum_by-append (λ (g : Guard). connectives g.comparison) xs ys

one_guard : (g : Guard) → guard_connectives (g ∷ []) ≡ connectives g.comparison
one_guard g = sum_by-cons (λ (g : Guard). connectives g.comparison) g [] ∙ omega arith

-- ---- expressions
-- what a part and its guards have together
abbrev Weighs : Naming Tree → ℕ → Type 0
Weighs u n = guard_connectives u.guards + connectives u.part ≡ n

pair_weighs : (op : BinaryOp) (p : Place) (u v : Naming Tree) (m n : ℕ) → Weighs u m → Weighs v n → Weighs (paired (λ (a b : Tree). tree.Binary op a b p) u v) (cond (is_connective op) 1 0 + (m + n))
pair_weighs op p u v m n h k = linear (guard_connectives u.guards) (connectives u.part) (guard_connectives v.guards) (connectives v.part) (guard_connectives (u.guards ++ v.guards)) (cond (is_connective op) 1 0) m n (both_guards u.guards v.guards) h k
  where
    linear : (a b c d e t m n : ℕ) → e ≡ a + c → a + b ≡ m → c + d ≡ n → e + (t + (b + d)) ≡ t + (m + n)
    linear a b c d e t m n g h k = omega (arith, g, h, k)

guard_weighs : (t : Bool) (p : Place) (u : Naming Tree) (n : ℕ) → Weighs u n → Weighs (guarded_if t p u) n
guard_weighs false p u n h = h
guard_weighs true p u n h = ap (λ (m : ℕ). m + 0) (both_guards u.guards (g ∷ []) ∙ ap (λ (m : ℕ). guard_connectives u.guards + m) (one_guard g) ∙ h) ∙ none n
  where
    g : Guard
    g = record { number = u.next; comparison = u.part; place = p }

    none : (n : ℕ) → n + 0 ≡ n
    none n = omega arith

named_weighs : (k : ℕ) (e : Tree) → Weighs (named k e) (connectives e)
named_weighs k (tree.Number text p) = refl
named_weighs k (tree.Name n p) = refl
named_weighs k (tree.Truth b p) = refl
named_weighs k (tree.Cast n p) = refl
named_weighs k (tree.Unary op a p) = named_weighs k a
named_weighs k (tree.Binary op a b p) =
    guard_weighs (is_inequality op) p (paired (λ (a b : Tree). tree.Binary op a b p) (named k a) (named (named k a).next b)) (connectives (tree.Binary op a b p))
    (pair_weighs op p (named k a) (named (named k a).next b) (connectives a) (connectives b) (named_weighs k a) (named_weighs (named k a).next b))

below_weighs : (k : ℕ) (e : Tree) → Weighs (named_below k e) (connectives e)
below_weighs k (tree.Number text p) = refl
below_weighs k (tree.Name n p) = refl
below_weighs k (tree.Truth b p) = refl
below_weighs k (tree.Cast n p) = refl
below_weighs k (tree.Unary op a p) = named_weighs k a
below_weighs k (tree.Binary op a b p) = pair_weighs op p (named k a) (named (named k a).next b) (connectives a) (connectives b) (named_weighs k a) (named_weighs (named k a).next b)

top_weighs : (t : Bool) (k : ℕ) (e : Tree) → Weighs (named_top t k e) (connectives e)
top_weighs true k e = below_weighs k e
top_weighs false k e = named_weighs k e

-- ---- right sides
abbrev shape_connectives : Shape → ℕ
shape_connectives r = sum_by connectives (shape_expressions r)

abbrev ShapeWeighs : Naming Shape → ℕ → Type 0
ShapeWeighs u n = guard_connectives u.guards + shape_connectives u.part ≡ n

sum_one : (a : Tree) → sum_by connectives (a ∷ []) ≡ connectives a
sum_one a = sum_by-cons connectives a [] ∙ omega arith

sum_two : (a : Tree) (es : List Tree) → sum_by connectives (a ∷ es) ≡ connectives a + sum_by connectives es
sum_two a es = sum_by-cons connectives a es

maybe_weighs : (k : ℕ) (o : Option Tree) → guard_connectives (named_maybe k o).guards + sum_by connectives (if_any (named_maybe k o).part) ≡ sum_by connectives (if_any o)
maybe_weighs k None = refl
maybe_weighs k (Some e) = ap (λ (n : ℕ). guard_connectives (named k e).guards + n) (sum_one (named k e).part) ∙ named_weighs k e ∙ sym (sum_one e)

choice_sum : (a b : Tree) (o : Option Tree) → shape_connectives (tree.Choice a b o) ≡ connectives a + (connectives b + sum_by connectives (if_any o))
choice_sum a b o = sum_two a (b ∷ if_any o) ∙ ap (λ (n : ℕ). connectives a + n) (sum_two b (if_any o))

choice_weighs : (u v : Naming Tree) (w : Naming (Option Tree)) (l m n : ℕ) → Weighs u l → Weighs v m → guard_connectives w.guards + sum_by connectives (if_any w.part) ≡ n → ShapeWeighs (applied u (choice_parts v w)) (l + (m + n))
choice_weighs u v w l m n h i j =
    linear (guard_connectives u.guards) (connectives u.part) (guard_connectives v.guards) (connectives v.part) (guard_connectives w.guards) (sum_by connectives (if_any w.part)) (guard_connectives (v.guards ++ w.guards)) (guard_connectives (u.guards ++ (v.guards ++ w.guards))) (shape_connectives (tree.Choice u.part v.part w.part)) l m n
    (both_guards v.guards w.guards) (both_guards u.guards (v.guards ++ w.guards)) (choice_sum u.part v.part w.part) h i j
  where
    linear : (a b c d e f x y z l m n : ℕ) → x ≡ c + e → y ≡ a + x → z ≡ b + (d + f) → a + b ≡ l → c + d ≡ m → e + f ≡ n → y + z ≡ l + (m + n)
    linear a b c d e f x y z l m n p q r h i j = omega (arith, p, q, r, h, i, j)

shape_weighs : (s : Section) (k : ℕ) (r : Shape) → ShapeWeighs (named_shape s k r) (shape_connectives r)
shape_weighs s k (tree.Plain e) =
    let u = named_top (keeps_top s) k e in
    ap (λ (n : ℕ). guard_connectives u.guards + n) (sum_one u.part) ∙ top_weighs (keeps_top s) k e ∙ sym (sum_one e)
shape_weighs s k (tree.Wide e t) =
    let u = named_top (keeps_top s) k e in
    linear (guard_connectives u.guards) (connectives u.part) (connectives e) (sum_by connectives (t ∷ [])) (shape_connectives (tree.Wide u.part t)) (shape_connectives (tree.Wide e t)) (top_weighs (keeps_top s) k e) (sum_two u.part (t ∷ [])) (sum_two e (t ∷ []))
  where
    linear : (a b n t x y : ℕ) → a + b ≡ n → x ≡ b + t → y ≡ n + t → a + x ≡ y
    linear a b n t x y h i j = omega (arith, h, i, j)
shape_weighs s k (tree.Choice a b o) =
    let u = named k a in
    let v = named u.next b in
    choice_weighs u v (named_maybe v.next o) (connectives a) (connectives b) (sum_by connectives (if_any o)) (named_weighs k a) (named_weighs u.next b) (maybe_weighs v.next o) ∙ sym (choice_sum a b o)

-- ---- items
guard_weight : (g : Guard) → item_weight (guard_item g) ≡ connectives g.comparison
guard_weight g = no_demand (sum_by connectives (g.comparison ∷ [])) ∙ sum_one g.comparison
  where
    no_demand : (n : ℕ) → 0 + n ≡ n
    no_demand n = omega arith

guards_weigh : (gs : List Guard) → sum_by item_weight (map guard_item gs) ≡ guard_connectives gs
guards_weigh [] = refl
guards_weigh (g ∷ gs) =
    sum_by-cons item_weight (guard_item g) (map guard_item gs) ∙ ap₂ (λ (m n : ℕ). m + n) (guard_weight g) (guards_weigh gs)
    ∙ sym (sum_by-cons (λ (g : Guard). connectives g.comparison) g gs)

item_weighs : (k : ℕ) (i : Item) → sum_by item_weight (behind (named_item k i)) ≡ item_weight i
item_weighs k i =
    let u = named_item k i in
    linear (guard_connectives u.guards) (shape_connectives u.part.shape) (shape_connectives i.shape) (cond (is_demand i.section) 1 0) (sum_by item_weight (map guard_item u.guards)) (sum_by item_weight (u.part ∷ [])) (sum_by item_weight (behind u))
    (shape_weighs i.section k i.shape) (guards_weigh u.guards) (sum_by-cons item_weight u.part []) (sum_by-append item_weight (map guard_item u.guards) (u.part ∷ []))
  where
    linear : (a b n t x y z : ℕ) → a + b ≡ n → x ≡ a → y ≡ (t + b) + 0 → z ≡ x + y → z ≡ t + n
    linear a b n t x y z h i j k = omega (arith, h, i, j, k)

pub items_weigh : (k : ℕ) (is : List Item) → sum_by item_weight (flat_map behind (named_items k is)) ≡ sum_by item_weight is
items_weigh k [] = refl
items_weigh k (i ∷ is) =
    let u = named_item k i in
    sum_by-append item_weight (behind u) (flat_map behind (named_items u.next is)) ∙ ap₂ (λ (m n : ℕ). m + n) (item_weighs k i) (items_weigh u.next is)
    ∙ sym (sum_by-cons item_weight i is)

-- ---- sources
pub source_weighs : (s : Source) (ns : List ProgName) (n : ℕ) → AllByRecursion IsDeclaration s.decls → AreNamesOf (unfolded s) ns → n ≡ names_weight ns + sum_by item_weight s.items → n ≡ weight s
source_weighs s ns n d h e =
    e ∙ ap₂ (λ (a b : ℕ). a + b) (sym (columns_declared (parameters (unfolded s).decls) (unfolded s).decls ns h (unfolded_declared s d))) (sym (items_weigh 1 s.items))
