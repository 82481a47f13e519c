-- A source without unnamed guards is its own unfolded source.
use Rattle.std.proofs.Common.{◌≡◌, ℕ, List, [], ◌∷◌, ◌++◌, Option, Some, None, Bool, true, false, map, flat_map, refl, sym, ◌∙◌, ap, ap₂, append-nil}
use Rattle.hys_ast.specs.declared.place.Place.{Place}
use Rattle.hys_ast.specs.declared.tree.BinaryOp.{BinaryOp}
use Rattle.hys_ast.specs.declared.source.Section.{Section}
use Rattle.hys_ast.specs.Tree.{Tree, Shape, Item, Source}
use Rattle.hys_ast.specs.Tree as tree
use Rattle.hys_meaning.specs.Unfolded.{Guard, Naming, is_inequality, keeps_top, unchanged, mapped, paired, applied, choice_parts, guarded_if, named, named_below, named_top, named_maybe, named_choice, named_shape, named_item, named_items, guard_item, guard_decl, guards, behind, unfolded}

front_empty : {A : Type 0} (xs ys : List A) → xs ++ ys ≡ [] → xs ≡ []
front_empty [] ys e = refl
front_empty (x ∷ xs) ys e = absurd (cc)

back_empty : {A : Type 0} (xs ys : List A) → xs ++ ys ≡ [] → ys ≡ []
back_empty [] ys e = e
back_empty (x ∷ xs) ys e = absurd (cc)

both_unchanged : {A B C : Type 0} (f : A → B → C) (k : ℕ) (a : A) (b : B) (u : Naming A) (v : Naming B) → u ≡ unchanged k a → v ≡ unchanged u.next b → paired f u v ≡ unchanged k (f a b)
both_unchanged f k a b u v e d = ap₂ (λ (s : Naming _) (t : Naming _). paired f s t) e (d ∙ ap (λ (s : Naming _). unchanged s.next b) e)

pub unnamed : (k : ℕ) (e : Tree) → (named k e).guards ≡ [] → named k e ≡ unchanged k e
unnamed k (tree.Number text p) h = refl
unnamed k (tree.Name n p) h = refl
unnamed k (tree.Truth b p) h = refl
unnamed k (tree.Cast n p) h = refl
unnamed k (tree.Unary op a p) h = ap (λ (u : Naming Tree). mapped (λ (a : Tree). tree.Unary op a p) u) (unnamed k a h)
unnamed k (tree.Binary op a b p) h = by (is_inequality op) h (λ l. unnamed k a l) (λ l. unnamed (named k a).next b l)
  where
    by : (t : Bool) → (guarded_if t p (paired (λ (a b : Tree). tree.Binary op a b p) (named k a) (named (named k a).next b))).guards ≡ [] →
        ((named k a).guards ≡ [] → named k a ≡ unchanged k a) → ((named (named k a).next b).guards ≡ [] → named (named k a).next b ≡ unchanged (named k a).next b) →
        guarded_if t p (paired (λ (a b : Tree). tree.Binary op a b p) (named k a) (named (named k a).next b)) ≡ unchanged k (tree.Binary op a b p)
    by true l f g = let c = back_empty ((named k a).guards ++ (named (named k a).next b).guards) _ l in absurd (cc)
    by false l f g = both_unchanged (λ (a b : Tree). tree.Binary op a b p) k a b (named k a) (named (named k a).next b) (f (front_empty _ _ l)) (g (back_empty (named k a).guards _ l))

below : (k : ℕ) (e : Tree) → (named_below k e).guards ≡ [] → named_below k e ≡ unchanged k e
below k (tree.Number text p) h = refl
below k (tree.Name n p) h = refl
below k (tree.Truth b p) h = refl
below k (tree.Cast n p) h = refl
below k (tree.Unary op a p) h = ap (λ (u : Naming Tree). mapped (λ (a : Tree). tree.Unary op a p) u) (unnamed k a h)
below k (tree.Binary op a b p) h =
    both_unchanged (λ (a b : Tree). tree.Binary op a b p) k a b (named k a) (named (named k a).next b)
    (unnamed k a (front_empty _ _ h)) (unnamed (named k a).next b (back_empty (named k a).guards _ h))

top : (t : Bool) (k : ℕ) (e : Tree) → (named_top t k e).guards ≡ [] → named_top t k e ≡ unchanged k e
top true k e h = below k e h
top false k e h = unnamed k e h

maybe : (k : ℕ) (e : Option Tree) → (named_maybe k e).guards ≡ [] → named_maybe k e ≡ unchanged k e
maybe k (Some e) h = ap (λ (u : Naming Tree). mapped (λ (e : Tree). Some e) u) (unnamed k e h)
maybe k None h = refl

choice : (k : ℕ) (a b : Tree) (c : Option Tree) → (named_choice k a b c).guards ≡ [] → named_choice k a b c ≡ unchanged k (tree.Choice a b c)
choice k a b c h =
    let u = named k a in
    let v = named u.next b in
    let w = named_maybe v.next c in
    let l = back_empty u.guards (v.guards ++ w.guards) h in
    let first = unnamed k a (front_empty u.guards (v.guards ++ w.guards) h) in
    let rest = both_unchanged {C = Tree → Shape} (λ (b : Tree) (c : Option Tree) (a : Tree). tree.Choice a b c) u.next b c v w (unnamed u.next b (front_empty v.guards w.guards l)) (maybe v.next c (back_empty v.guards w.guards l)) in
    ap₂ (λ (s : Naming Tree) (t : Naming (Tree → Shape)). applied s t) first (rest ∙ ap (λ (s : Naming Tree). unchanged s.next (λ (a : Tree). tree.Choice a b c)) first)

shape : (s : Section) (k : ℕ) (r : Shape) → (named_shape s k r).guards ≡ [] → named_shape s k r ≡ unchanged k r
shape s k (tree.Plain e) h = ap (λ (u : Naming Tree). mapped tree.Plain u) (top (keeps_top s) k e h)
shape s k (tree.Wide e t) h = ap (λ (u : Naming Tree). mapped (λ (e : Tree). tree.Wide e t) u) (top (keeps_top s) k e h)
shape s k (tree.Choice a b c) h = choice k a b c h

item : (k : ℕ) (i : Item) → (named_item k i).guards ≡ [] → named_item k i ≡ unchanged k i
item k i h = ap (λ (u : Naming Shape). mapped (λ (r : Shape). record { section = i.section; name = i.name; place = i.place; shape = r }) u) (shape i.section k i.shape h)

items : (k : ℕ) (is : List Item) → flat_map (λ (u : Naming Item). u.guards) (named_items k is) ≡ [] → flat_map behind (named_items k is) ≡ is
items k [] h = refl
items k (i ∷ is) h =
    let first = item k i (front_empty (named_item k i).guards _ h) in
    ap₂ (λ (s : List Item) (t : List Item). s ++ t) (ap behind first) (items (named_item k i).next is (back_empty (named_item k i).guards _ h))

-- a source without unnamed guards
pub same : (s : Source) → guards s ≡ [] → unfolded s ≡ s
same s h = ap₂ (λ ds is. record { system = s.system; decls = ds; items = is }) (ap (λ gs. s.decls ++ map guard_decl gs) h ∙ append-nil s.decls) (items 1 s.items h)
