-- The unnamed guards of an item that passes its checks are the comparisons of its body, numbered one after the other.
use Rattle.std.proofs.Common.{◌≡◌, ℕ, ◌+◌, List, [], ◌∷◌, ◌++◌, Option, Some, None, Bool, true, false, cond, length, refl, sym, ◌∙◌, ap, ap₂, append-nil, arith}
use Rattle.hys_ast.specs.declared.place.Place.{Place}
use Rattle.hys_ast.specs.declared.source.Section.{Section}
use Rattle.hys_ast.specs.declared.source.Section.TheVariants as section
use Rattle.hys_ast.specs.declared.source.Kind.{Kind}
use Rattle.hys_ast.specs.declared.source.Kind.TheVariants as kind
use Rattle.hys_ast.specs.declared.tree.BinaryOp.{BinaryOp}
use Rattle.hys_ast.specs.declared.tree.BinaryOp.TheVariants as binary
use Rattle.hys_ast.specs.Tree.{Tree, Shape, Item}
use Rattle.hys_ast.specs.Tree as tree
use Rattle.hys_meaning.specs.Names.{Name, look}
use Rattle.hys_meaning.specs.Bodies.{body_in}
use Rattle.hys_meaning.specs.Bodies as said
use Rattle.hys_meaning.specs.Typed.{is_comparison}
use Rattle.hys_meaning.specs.Unfolded.{Guard, Naming, is_inequality, unchanged, mapped, paired, applied, choice_parts, guarded_if, named, named_below, named_maybe, named_shape, named_item}
use Rattle.hys_prog.specs.declared.program.Body.{Body}
use Rattle.hys_type.specs.Sorts.{Sort, Real}
use Rattle.hys_type.specs.Nodes.{sort, takes_binary, node_checks}
use Rattle.hys_type.specs.Faults.{Check, check, first_fault}
use Rattle.hys_type.specs.Declarations.{place_of, is_of_kind, if_some}
use Rattle.hys_type.specs.Checks.{scoped, expression, of_kind, has_top, demanded, tolerance_checks, output_checks, left_checks, left_name, right_checks, item_checks}
use Rattle.hys_type.specs.Built.{IsBuilt, comparisons, body_comparisons, demand_comparisons, output_comparisons, guard, choice, logic, linear, next_bool, next_real, out_bool, out_real, must_hold, must_most, must_zero}
use Rattle.hys_type.specs.Translation.{Setting, left_kind, kind_of}
use Rattle.hys_type.specs.declared.constant.Known.{Known}
use Rattle.hys_type.specs.declared.fault.TypeFault.TheVariants as fault
use Rattle.hys_type.proofs.Wholes.{front_passes, back_passes, passed}
use Rattle.hys_type.proofs.Numbering.{WellSorted, well_sorted, real_sort, both_real, both_unchanged, real_plain, numbered, sorted_numbered, none_numbered}

-- the guards of a part are these comparisons, numbered from one on
pub record AreNumbered {A : Type 0} (k : ℕ) (cs : List Tree) (u : Naming A) : Type 0 where
  pub guards : u.guards ≡ numbered k cs
  pub next : u.next ≡ k + length cs

within : {A B : Type 0} (f : A → B) (k : ℕ) (cs : List Tree) (u : Naming A) → AreNumbered k cs u → AreNumbered k cs (mapped f u)
within f k cs u h = record { guards = h.guards; next = h.next }

no_numbers : {A : Type 0} (k : ℕ) (a : A) (u : Naming A) → u ≡ unchanged k a → AreNumbered k [] u
no_numbers k a u e = record { guards = ap (λ (n : Naming _). n.guards) e; next = ap (λ (n : Naming _). n.next) e ∙ none_numbered k }

formula_named : (ns : List Name) (k : ℕ) (e : Tree) → WellSorted ns e → AreNumbered k (comparisons e) (named k e)
formula_named ns k e w = let h = sorted_numbered ns k e w in record { guards = h.guards; next = h.next }

real_named : (ns : List Name) (k : ℕ) (e : Tree) → WellSorted ns e → sort ns e ≡ Real → AreNumbered k [] (named k e)
real_named ns k e w s = no_numbers k e (named k e) (real_plain ns k e w s).same

-- ---- checks
pub fine : (ns : List Name) (wanted : Tree → Bool) (e : Tree) → None ≡ first_fault (expression ns wanted e) → WellSorted ns e × (wanted e ≡ true)
fine ns wanted e h =
    let c : Check = check (wanted e) (fault.Kind (place_of e)) in
    (well_sorted ns e (front_passes (node_checks ns e) (c ∷ []) h), passed c [] (back_passes (node_checks ns e) (c ∷ []) h))

bool_fine : (ns : List Name) (k : ℕ) (e : Tree) → None ≡ first_fault (of_kind kind.Bool ns e) → AreNumbered k (comparisons e) (named k e)
bool_fine ns k e h = formula_named ns k e (fine ns (λ e. is_of_kind kind.Bool (sort ns e)) e h).0

real_fine : (ns : List Name) (k : ℕ) (e : Tree) → None ≡ first_fault (of_kind kind.Real ns e) → AreNumbered k [] (named k e)
real_fine ns k e h = let w = fine ns (λ e. is_of_kind kind.Real (sort ns e)) e h in real_named ns k e w.0 (real_sort (sort ns e) w.1)

-- ---- the top
comparison_operands : (op : BinaryOp) (s t : Sort) → is_comparison op ≡ true → takes_binary op s t ≡ true → (s ≡ Real) × (t ≡ Real)
comparison_operands binary.Add s t e h = absurd (cc)
comparison_operands binary.Sub s t e h = absurd (cc)
comparison_operands binary.Mul s t e h = absurd (cc)
comparison_operands binary.Div s t e h = absurd (cc)
comparison_operands binary.And s t e h = absurd (cc)
comparison_operands binary.Or s t e h = absurd (cc)
comparison_operands binary.Iff s t e h = absurd (cc)
comparison_operands binary.Then s t e h = absurd (cc)
comparison_operands binary.From s t e h = absurd (cc)
comparison_operands binary.Most s t e h = both_real s t h
comparison_operands binary.Least s t e h = both_real s t h
comparison_operands binary.Equal s t e h = both_real s t h

inequality_compares : (op : BinaryOp) → is_inequality op ≡ true → is_comparison op ≡ true
inequality_compares binary.Add e = absurd (cc)
inequality_compares binary.Sub e = absurd (cc)
inequality_compares binary.Mul e = absurd (cc)
inequality_compares binary.Div e = absurd (cc)
inequality_compares binary.And e = absurd (cc)
inequality_compares binary.Or e = absurd (cc)
inequality_compares binary.Iff e = absurd (cc)
inequality_compares binary.Then e = absurd (cc)
inequality_compares binary.From e = absurd (cc)
inequality_compares binary.Most e = refl
inequality_compares binary.Least e = refl
inequality_compares binary.Equal e = absurd (cc)

no_inequality : (op : BinaryOp) → is_comparison op ≡ false → is_inequality op ≡ false
no_inequality op e = go (is_inequality op) refl
  where
    go : (t : Bool) → is_inequality op ≡ t → t ≡ false
    go true h = let c = inequality_compares op h in absurd (cc)
    go false h = refl

pub top_compares : (e : Tree) → has_top is_inequality e ≡ true → has_top is_comparison e ≡ true
top_compares (tree.Number text p) h = absurd (cc)
top_compares (tree.Name n p) h = absurd (cc)
top_compares (tree.Truth b p) h = absurd (cc)
top_compares (tree.Cast n p) h = absurd (cc)
top_compares (tree.Unary op a p) h = absurd (cc)
top_compares (tree.Binary op a b p) h = inequality_compares op h

-- a comparison at the top has no guard below it
pub top_unchanged : (ns : List Name) (k : ℕ) (e : Tree) → WellSorted ns e → has_top is_comparison e ≡ true → named_below k e ≡ unchanged k e
top_unchanged ns k (tree.Number text p) w h = absurd (cc)
top_unchanged ns k (tree.Name n p) w h = absurd (cc)
top_unchanged ns k (tree.Truth b p) w h = absurd (cc)
top_unchanged ns k (tree.Cast n p) w h = absurd (cc)
top_unchanged ns k (tree.Unary op a p) w h = absurd (cc)
top_unchanged ns k (tree.Binary op a b p) w h =
    let r = comparison_operands op (sort ns a) (sort ns b) h w.1 in
    let f : Tree → Tree → Tree = λ a b. tree.Binary op a b p in
    both_unchanged f k a b (named k a) (named (named k a).next b) (real_plain ns k a w.0.0 r.0).same (real_plain ns (named k a).next b w.0.1 r.1).same

top_named : (ns : List Name) (k : ℕ) (e : Tree) → WellSorted ns e → has_top is_comparison e ≡ true → AreNumbered k [] (named_below k e)
top_named ns k e w h = no_numbers k e (named_below k e) (top_unchanged ns k e w h)

-- below any other top the guards are the same
pub other_below : (k : ℕ) (e : Tree) → has_top is_comparison e ≡ false → named k e ≡ named_below k e
other_below k (tree.Number text p) h = refl
other_below k (tree.Name n p) h = refl
other_below k (tree.Truth b p) h = refl
other_below k (tree.Cast n p) h = refl
other_below k (tree.Unary op a p) h = refl
other_below k (tree.Binary op a b p) h = ap (λ (t : Bool). guarded_if t p (paired (λ (a b : Tree). tree.Binary op a b p) (named k a) (named (named k a).next b))) (no_inequality op h)

demand_named : (ns : List Name) (k : ℕ) (e : Tree) → WellSorted ns e → AreNumbered k (demand_comparisons e) (named_below k e)
demand_named ns k e w = go (has_top is_comparison e) refl
  where
    go : (t : Bool) → has_top is_comparison e ≡ t → AreNumbered k (cond t [] (comparisons e)) (named_below k e)
    go true h = top_named ns k e w h
    go false h =
        let g = formula_named ns k e w in
        let s = other_below k e h in
        record { guards = ap (λ (n : Naming Tree). n.guards) (sym s) ∙ g.guards; next = ap (λ (n : Naming Tree). n.next) (sym s) ∙ g.next }

-- ---- choices
maybe_fine : (ns : List Name) (k : ℕ) (o : Option Tree) → None ≡ first_fault (if_some (of_kind kind.Real ns) o) → AreNumbered k [] (named_maybe k o)
maybe_fine ns k (Some e) h = within (λ (e : Tree). Some e) k [] (named k e) (real_fine ns k e h)
maybe_fine ns k None h = no_numbers k None (named_maybe k None) refl

choice_named : (k : ℕ) (cs : List Tree) (u v : Naming Tree) (w : Naming (Option Tree)) → AreNumbered k cs u → AreNumbered u.next [] v → AreNumbered v.next [] w → AreNumbered k cs (applied u (choice_parts v w))
choice_named k cs u v w h f g = record {
  guards = ap₂ (λ (xs ys : List Guard). xs ++ ys) h.guards (ap₂ (λ (xs ys : List Guard). xs ++ ys) f.guards g.guards) ∙ append-nil (numbered k cs);
  next = last k (length cs) u.next v.next w.next h.next f.next g.next;
}
  where
    last : (k m i j l : ℕ) → i ≡ k + m → j ≡ i + 0 → l ≡ j + 0 → l ≡ k + m
    last k m i j l e f g = omega (arith, e, f, g)

-- ---- what can't be built
nothing_built : (c : Setting) (j : ℕ) (k : Option Kind) (b : Body) → IsBuilt c j k said.Nothing b → ⊥
nothing_built c j k b (guard e d f g) = absurd (cc)
nothing_built c j k b (choice e d f g h) = absurd (cc)
nothing_built c j k b (logic e d f) = absurd (cc)
nothing_built c j k b (linear e d f) = absurd (cc)
nothing_built c j k b (next_bool e d f) = absurd (cc)
nothing_built c j k b (next_real e d f) = absurd (cc)
nothing_built c j k b (out_bool q e d f) = absurd (cc)
nothing_built c j k b (out_real q e d f) = absurd (cc)
nothing_built c j k b (must_hold q e d f) = absurd (cc)
nothing_built c j k b (must_most q e d f) = absurd (cc)
nothing_built c j k b (must_zero e d f) = absurd (cc)

no_output : (c : Setting) (j : ℕ) (e : Tree) (b : Body) → IsBuilt c j None (said.Output e) b → ⊥
no_output c j e b (guard s d f g) = absurd (cc)
no_output c j e b (choice s d f g h) = absurd (cc)
no_output c j e b (logic s d f) = absurd (cc)
no_output c j e b (linear s d f) = absurd (cc)
no_output c j e b (next_bool s d f) = absurd (cc)
no_output c j e b (next_real s d f) = absurd (cc)
no_output c j e b (out_bool q s d f) = absurd (cc)
no_output c j e b (out_real q s d f) = absurd (cc)
no_output c j e b (must_hold q s d f) = absurd (cc)
no_output c j e b (must_most q s d f) = absurd (cc)
no_output c j e b (must_zero s d f) = absurd (cc)

output_named : (ns : List Name) (c : Setting) (j k : ℕ) (o : Option Name) (e : Tree) (b : Body) → None ≡ first_fault (output_checks ns o e) → IsBuilt c j (kind_of o) (said.Output e) b → AreNumbered k (output_comparisons (kind_of o) e) (named k e)
output_named ns c j k None e b h w = absurd (no_output c j e b w)
output_named ns c j k (Some n) e b h w = go n.kind h
  where
    go : (q : Kind) → None ≡ first_fault (of_kind q ns e) → AreNumbered k (output_comparisons (Some q) e) (named k e)
    go kind.Bool h = bool_fine ns k e h
    go kind.Real h = real_fine ns k e h

-- ---- items
right_numbered : (ns : List Name) (ks : List Known) (n : Option (List ℕ)) (p : Place) (c : Setting) (j k : ℕ) (s : Section) (r : Shape) (b : Body) → None ≡ first_fault (right_checks (scoped ns ks) (left_name ns n) p (body_in s r)) →
    IsBuilt c j (left_kind ns n) (body_in s r) b → AreNumbered k (body_comparisons (left_kind ns n) (body_in s r)) (named_shape s k r)
right_numbered ns ks n p c j k section.State r b h w = absurd (nothing_built c j (left_kind ns n) b w)
right_numbered ns ks n p c j k section.Input r b h w = absurd (nothing_built c j (left_kind ns n) b w)
right_numbered ns ks n p c j k section.Output r b h w = absurd (nothing_built c j (left_kind ns n) b w)
right_numbered ns ks n p c j k section.Parameter r b h w = absurd (nothing_built c j (left_kind ns n) b w)
right_numbered ns ks n p c j k section.Aux r b h w = absurd (nothing_built c j (left_kind ns n) b w)
right_numbered ns ks n p c j k section.Ad (tree.Plain e) b h w =
    let g = fine ns (has_top is_inequality) e (front_passes (expression ns (has_top is_inequality) e) [] h) in
    within tree.Plain k [] (named_below k e) (top_named ns k e g.0 (top_compares e g.1))
right_numbered ns ks n p c j k section.Ad (tree.Wide e t) b h w =
    let g = fine ns (has_top is_inequality) e (front_passes (expression ns (has_top is_inequality) e) (tolerance_checks ks p t) h) in
    within (λ e. tree.Wide e t) k [] (named_below k e) (top_named ns k e g.0 (top_compares e g.1))
right_numbered ns ks n p c j k section.Ad (tree.Choice x y o) b h w = absurd (nothing_built c j (left_kind ns n) b w)
right_numbered ns ks n p c j k section.Da (tree.Plain e) b h w = absurd (nothing_built c j (left_kind ns n) b w)
right_numbered ns ks n p c j k section.Da (tree.Wide e t) b h w = absurd (nothing_built c j (left_kind ns n) b w)
right_numbered ns ks n p c j k section.Da (tree.Choice x y o) b h w =
    let hit = of_kind kind.Real ns y in
    let other = if_some (of_kind kind.Real ns) o in
    let rest = back_passes (of_kind kind.Bool ns x) (hit ++ other) h in
    let i = (named k x).next in
    choice_named k (comparisons x) (named k x) (named i y) (named_maybe (named i y).next o) (bool_fine ns k x (front_passes (of_kind kind.Bool ns x) (hit ++ other) h)) (real_fine ns i y (front_passes hit other rest))
    (maybe_fine ns (named i y).next o (back_passes hit other rest))
right_numbered ns ks n p c j k section.Logic (tree.Plain e) b h w = within tree.Plain k (comparisons e) (named k e) (bool_fine ns k e h)
right_numbered ns ks n p c j k section.Logic (tree.Wide e t) b h w = absurd (nothing_built c j (left_kind ns n) b w)
right_numbered ns ks n p c j k section.Logic (tree.Choice x y o) b h w = absurd (nothing_built c j (left_kind ns n) b w)
right_numbered ns ks n p c j k section.Linear (tree.Plain e) b h w = within tree.Plain k [] (named k e) (real_fine ns k e h)
right_numbered ns ks n p c j k section.Linear (tree.Wide e t) b h w = absurd (nothing_built c j (left_kind ns n) b w)
right_numbered ns ks n p c j k section.Linear (tree.Choice x y o) b h w = absurd (nothing_built c j (left_kind ns n) b w)
right_numbered ns ks n p c j k section.Automata (tree.Plain e) b h w = within tree.Plain k (comparisons e) (named k e) (bool_fine ns k e h)
right_numbered ns ks n p c j k section.Automata (tree.Wide e t) b h w = absurd (nothing_built c j (left_kind ns n) b w)
right_numbered ns ks n p c j k section.Automata (tree.Choice x y o) b h w = absurd (nothing_built c j (left_kind ns n) b w)
right_numbered ns ks n p c j k section.Continuous (tree.Plain e) b h w = within tree.Plain k [] (named k e) (real_fine ns k e h)
right_numbered ns ks n p c j k section.Continuous (tree.Wide e t) b h w = absurd (nothing_built c j (left_kind ns n) b w)
right_numbered ns ks n p c j k section.Continuous (tree.Choice x y o) b h w = absurd (nothing_built c j (left_kind ns n) b w)
right_numbered ns ks (Some m) p c j k section.OutputItem (tree.Plain e) b h w = within tree.Plain k (output_comparisons (kind_of (look ns m)) e) (named k e) (output_named ns c j k (look ns m) e b h w)
right_numbered ns ks None p c j k section.OutputItem (tree.Plain e) b h w = absurd (no_output c j e b w)
right_numbered ns ks n p c j k section.OutputItem (tree.Wide e t) b h w = absurd (nothing_built c j (left_kind ns n) b w)
right_numbered ns ks n p c j k section.OutputItem (tree.Choice x y o) b h w = absurd (nothing_built c j (left_kind ns n) b w)
right_numbered ns ks n p c j k section.Must (tree.Plain e) b h w = within tree.Plain k (demand_comparisons e) (named_below k e) (demand_named ns k e (fine ns (demanded ns) e h).0)
right_numbered ns ks n p c j k section.Must (tree.Wide e t) b h w = absurd (nothing_built c j (left_kind ns n) b w)
right_numbered ns ks n p c j k section.Must (tree.Choice x y o) b h w = absurd (nothing_built c j (left_kind ns n) b w)

pub item_numbered : (ns : List Name) (ks : List Known) (before : List Item) (i : Item) (c : Setting) (j k : ℕ) (b : Body) → None ≡ first_fault (item_checks (scoped ns ks) before i) → IsBuilt c j (left_kind ns i.name) (said.body i) b →
    AreNumbered k (body_comparisons (left_kind ns i.name) (said.body i)) (named_item k i)
item_numbered ns ks before i c j k b h w =
    let right = right_checks (scoped ns ks) (left_name ns i.name) i.place (said.body i) in
    let left = if_some (left_checks ns before i) i.name in
    within (λ (r : Shape). record { section = i.section; name = i.name; place = i.place; shape = r }) k (body_comparisons (left_kind ns i.name) (said.body i)) (named_shape i.section k i.shape)
    (right_numbered ns ks i.name i.place c j k i.section i.shape b (back_passes left right h) w)
