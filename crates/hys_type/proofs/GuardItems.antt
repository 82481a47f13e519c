-- The item of an unnamed guard is that of its comparison.
use Rattle.std.proofs.Common.{◌≡◌, ℕ, suc, ◌+◌, List, [], ◌∷◌, ◌++◌, Option, Some, None, Bool, true, false, cond, map, length, refl, sym, ap, subst, arith}
use Rattle.std.specs.List.{AllByRecursion}
use Rattle.hys_number.specs.Number.{Number}
use Rattle.hys_lin.specs.Bits.{is_one}
use Rattle.hys_ast.specs.declared.place.Place.{Place}
use Rattle.hys_ast.specs.declared.source.Kind.{Kind}
use Rattle.hys_ast.specs.declared.source.Kind.TheVariants as kind
use Rattle.hys_ast.specs.Tree.{Tree, Item}
use Rattle.hys_ast.specs.Tree as tree
use Rattle.hys_meaning.specs.Values.{Assignment}
use Rattle.hys_meaning.specs.Names.{Name, look, is_parameter}
use Rattle.hys_meaning.specs.Forms.{guard_form}
use Rattle.hys_meaning.specs.Bodies as said
use Rattle.hys_meaning.specs.Typed.{is_comparison}
use Rattle.hys_meaning.specs.Unfolded.{guard_item, guard_name, is_inequality}
use Rattle.hys_formula.specs.Formulas as formulas
use Rattle.hys_type.specs.Built.{IsGuardOf, comparisons, body_comparisons, output_comparisons}
use Rattle.hys_type.specs.Checks.{scoped, of_kind, has_top, demanded, left_checks, left_name, right_checks, item_checks}
use Rattle.hys_type.specs.Declarations.{place_of, is_of_kind, if_some}
use Rattle.hys_type.specs.Faults.{first_fault}
use Rattle.hys_type.specs.Nodes.{sort}
use Rattle.hys_type.specs.Guarding.{item_of_guard, items_of_guards}
use Rattle.hys_type.specs.Translation.{IsItemOf, OneByOne, guard, place_in, name_formula, kind_of, left_kind}
use Rattle.hys_type.specs.declared.built.Guard.{Guard}
use Rattle.hys_type.specs.declared.constant.Known.{Known}
use Rattle.hys_type.proofs.Wholes.{front_passes, back_passes}
use Rattle.hys_type.proofs.Numbering.{numbered}
use Rattle.hys_type.proofs.Unboxed.{unboxed}
use Rattle.hys_type.proofs.Fronts.{AreNew, form_wider, guard_outside}
use Rattle.hys_type.proofs.FoundNames.{Finds, wider_guard}
use Rattle.hys_type.proofs.NamedFormulas.{StandFrom, first_stands, later_stand}
use Rattle.hys_type.proofs.NamedBodies.{over, nodes_pass}
use Rattle.hys_type.proofs.NamedItems.{named_kind}
use Rattle.hys_type.proofs.BoxedBodies.{guard_boxed}

both_find : (ns : List Name) (xs ys : List Tree) → AllByRecursion (Finds ns) xs → AllByRecursion (Finds ns) ys → AllByRecursion (Finds ns) (xs ++ ys)
both_find ns [] ys h k = k
both_find ns (x ∷ xs) ys h k = (h.0, both_find ns xs ys h.1 k)

-- the names of the unnamed guards of an expression are declared with its own
pub comparisons_find : (ns : List Name) (e : Tree) → Finds ns e → AllByRecursion (Finds ns) (comparisons e)
comparisons_find ns (tree.Number text p) h = tt
comparisons_find ns (tree.Name n p) h = tt
comparisons_find ns (tree.Truth b p) h = tt
comparisons_find ns (tree.Cast n p) h = tt
comparisons_find ns (tree.Unary op a p) h = comparisons_find ns a h
comparisons_find ns (tree.Binary op a b p) h = go (is_inequality op) (both_find ns (comparisons a) (comparisons b) (comparisons_find ns a h.0) (comparisons_find ns b h.1))
  where
    go : (t : Bool) → AllByRecursion (Finds ns) (comparisons a ++ comparisons b) → AllByRecursion (Finds ns) (cond t (tree.Binary op a b p ∷ []) (comparisons a ++ comparisons b))
    go true r = (h, tt)
    go false r = r

pub guard_item_named : (ns ms : List Name) (w : Assignment) (eps : Number) (k j : ℕ) (c : Tree) (g : Guard) → AreNew ns ms → Finds ns c → place_in (ns ++ ms) (guard_name k) ≡ j → IsGuardOf (map unboxed ns) c g →
    IsItemOf (over (ns ++ ms) w eps) (guard_item (record { number = k; comparison = c; place = place_of c })) (item_of_guard j eps g)
guard_item_named ns ms w eps k j c g new f e h = record {
  name = ap (λ (i : ℕ). Some i) (sym e);
  place = h.0;
  body = guard refl refl (form_wider ns ms (guard_form ns c) (guard_form (ns ++ ms) c) g.number (guard_outside ns c) new (wider_guard ns ms c f) (guard_boxed ns c g.number h.1)) refl;
}

-- ---- the guards of one item
body_finds : (ns : List Name) (ks : List Known) (o : Option Name) (p : Place) (s : said.Body) → None ≡ first_fault (right_checks (scoped ns ks) o p s) → AllByRecursion (Finds ns) (body_comparisons (kind_of o) s)
body_finds ns ks o p (said.Guard e t) h = tt
body_finds ns ks o p (said.Choice a b c) h = comparisons_find ns a (nodes_pass ns (λ e. is_of_kind kind.Bool (sort ns e)) a (front_passes (of_kind kind.Bool ns a) (of_kind kind.Real ns b ++ if_some (of_kind kind.Real ns) c) h))
body_finds ns ks o p (said.Logic e) h = comparisons_find ns e (nodes_pass ns (λ e. is_of_kind kind.Bool (sort ns e)) e h)
body_finds ns ks o p (said.Linear e) h = tt
body_finds ns ks o p (said.NextBool e) h = comparisons_find ns e (nodes_pass ns (λ e. is_of_kind kind.Bool (sort ns e)) e h)
body_finds ns ks o p (said.NextReal e) h = tt
body_finds ns ks None p (said.Output e) h = tt
body_finds ns ks (Some n) p (said.Output e) h = go n.kind h
  where
    go : (q : Kind) → None ≡ first_fault (of_kind q ns e) → AllByRecursion (Finds ns) (output_comparisons (Some q) e)
    go kind.Bool h = comparisons_find ns e (nodes_pass ns (λ e. is_of_kind kind.Bool (sort ns e)) e h)
    go kind.Real h = tt
body_finds ns ks o p (said.Must e) h = go (has_top is_comparison e) (comparisons_find ns e (nodes_pass ns (demanded ns) e h))
  where
    go : (t : Bool) → AllByRecursion (Finds ns) (comparisons e) → AllByRecursion (Finds ns) (cond t [] (comparisons e))
    go true r = tt
    go false r = r
body_finds ns ks o p said.Nothing h = tt

pub item_finds : (ns : List Name) (ks : List Known) (before : List Item) (i : Item) → None ≡ first_fault (item_checks (scoped ns ks) before i) → AllByRecursion (Finds ns) (body_comparisons (left_kind ns i.name) (said.body i))
item_finds ns ks before i h =
    subst (λ (q : Option Kind). AllByRecursion (Finds ns) (body_comparisons q (said.body i))) (sym (named_kind ns i.name))
    (body_finds ns ks (left_name ns i.name) i.place (said.body i) (back_passes (if_some (left_checks ns before i) i.name) (right_checks (scoped ns ks) (left_name ns i.name) i.place (said.body i)) h))

-- a name that stands for itself has its place
own_place : (ns : List Name) (n : List ℕ) (j : ℕ) → name_formula ns n (look ns n) ≡ formulas.named j → place_in ns n ≡ j
own_place ns n j h = go (look ns n) h
  where
    by_section : (b c : Bool) → cond b (formulas.constant c) (formulas.named (place_in ns n)) ≡ formulas.named j → place_in ns n ≡ j
    by_section true c e = absurd (cc)
    by_section false c e = cc

    go : (o : Option Name) → name_formula ns n o ≡ formulas.named j → place_in ns n ≡ j
    go None e = absurd (cc)
    go (Some m) e = by_section (is_parameter m.section) (is_one m.value) e

pub guards_named : (ns ms : List Name) (w : Assignment) (eps : Number) (k j : ℕ) (cs : List Tree) (gs : List Guard) → AreNew ns ms → AllByRecursion (Finds ns) cs → OneByOne (IsGuardOf (map unboxed ns)) cs gs → StandFrom (ns ++ ms) k j (length cs) →
    OneByOne (IsItemOf (over (ns ++ ms) w eps)) (map guard_item (numbered k cs)) (items_of_guards j eps gs)
guards_named ns ms w eps k j [] [] new f h s = tt
guards_named ns ms w eps k j [] (g ∷ gs) new f h s = absurd h
guards_named ns ms w eps k j (c ∷ cs) [] new f h s = absurd h
guards_named ns ms w eps k j (c ∷ cs) (g ∷ gs) new f h s = (
  guard_item_named ns ms w eps k j c g new f.0 (own_place (ns ++ ms) (guard_name k) j (first_stands (ns ++ ms) k j (length (c ∷ cs)) (omega arith) s)) h.0,
  guards_named ns ms w eps (suc k) (suc j) cs gs new f.1 h.1 (subst (λ (i : ℕ). StandFrom (ns ++ ms) (suc k) i (length cs)) (one_more j) (later_stand (ns ++ ms) k j 1 (length cs) (length (c ∷ cs)) (suc k) (parted (length cs)) (one_on k) s)),
)
  where
    one_more : (j : ℕ) → j + 1 ≡ suc j
    one_more j = omega arith

    parted : (n : ℕ) → suc n ≡ 1 + n
    parted n = omega arith

    one_on : (k : ℕ) → suc k ≡ k + 1
    one_on k = omega arith
