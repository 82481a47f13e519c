-- The item that is made of an item of a source is that of the item in which each guard has its name.
use Rattle.std.proofs.Common.{◌≡◌, ℕ, List, [], ◌∷◌, ◌++◌, Option, Some, None, not, map, length, refl, sym, ◌∙◌, ap, subst, subst₂}
use Rattle.std.specs.Prelude.{IsTrue}
use Rattle.std.specs.List.{list_any}
use Rattle.hys_number.specs.Number.{Number}
use Rattle.hys_ast.specs.declared.source.Kind.{Kind}
use Rattle.hys_ast.specs.Tree.{Item}
use Rattle.hys_meaning.specs.Values.{Assignment}
use Rattle.hys_meaning.specs.Names.{Name, look}
use Rattle.hys_meaning.specs.Bodies as said
use Rattle.hys_meaning.specs.Typed.{suits, defines}
use Rattle.hys_meaning.specs.Unfolded.{named_item}
use Rattle.hys_prog.specs.declared.program.Body.{Body}
use Rattle.hys_type.specs.Added.{own_item}
use Rattle.hys_type.specs.Built.{IsBuilt, body_comparisons}
use Rattle.hys_type.specs.Checks.{scoped, left_checks, left_name, right_checks, item_checks}
use Rattle.hys_type.specs.Declarations.{if_some}
use Rattle.hys_type.specs.Faults.{check, first_fault}
use Rattle.hys_type.specs.Nodes.{is_declared}
use Rattle.hys_type.specs.Translation.{IsItemOf, IsBodyOf, left_kind, kind_of, place_if}
use Rattle.hys_type.specs.declared.constant.Known.{Known}
use Rattle.hys_type.specs.declared.fault.TypeFault.TheVariants as fault
use Rattle.hys_type.proofs.Wholes.{front_passes, back_passes, passed}
use Rattle.hys_type.proofs.Unboxed.{unboxed, unboxed_one, same_look}
use Rattle.hys_type.proofs.Fronts.{AreNew}
use Rattle.hys_type.proofs.FoundNames.{found_front, same_place}
use Rattle.hys_type.proofs.NamedFormulas.{StandFrom}
use Rattle.hys_type.proofs.NamedBodies.{over, renamed, body_renamed, body_named}
use Rattle.hys_type.proofs.BoxedBodies.{place_boxed, body_boxed}

-- ---- left names
abbrev LeftFound : List Name → Option (List ℕ) → Type 0
LeftFound ns (Some n) = IsTrue (is_declared (look ns n))
LeftFound ns None = Unit {0}

left_found : (ns : List Name) (before : List Item) (i : Item) (o : Option (List ℕ)) → None ≡ first_fault (if_some (left_checks ns before i) o) → LeftFound ns o
left_found ns before i None h = tt
left_found ns before i (Some n) h =
    passed (check (is_declared (look ns n)) (fault.Unknown i.place)) (check (suits i.section (look ns n)) (fault.WrongSection i.place) ∷ check (not (list_any (λ j. defines n j.name) before)) (fault.DefinedTwice i.place) ∷ []) h

left_place : (ns ms : List Name) (o : Option (List ℕ)) → LeftFound ns o → place_if (map unboxed ns) o ≡ place_if (ns ++ ms) o
left_place ns ms None h = refl
left_place ns ms (Some n) h = ap (λ (k : ℕ). Some k) (place_boxed ns n ∙ sym (same_place ns ms n h))

pub named_kind : (ns : List Name) (o : Option (List ℕ)) → left_kind ns o ≡ kind_of (left_name ns o)
named_kind ns None = refl
named_kind ns (Some n) = refl

wider_kind : (ns ms : List Name) (o : Option (List ℕ)) → LeftFound ns o → left_kind (ns ++ ms) o ≡ left_kind ns o
wider_kind ns ms None h = refl
wider_kind ns ms (Some n) h = ap kind_of (found_front ns ms n h)

pub boxed_kind : (ns : List Name) (o : Option (List ℕ)) → left_kind (map unboxed ns) o ≡ left_kind ns o
boxed_kind ns None = refl
boxed_kind ns (Some n) = ap kind_of (same_look ns n) ∙ same (look ns n)
  where
    same : (o : Option Name) → kind_of (unboxed_one o) ≡ kind_of o
    same (Some m) = refl
    same None = refl

-- ---- items
pub item_named : (ns ms : List Name) (ks : List Known) (w : Assignment) (eps : Number) (before : List Item) (i : Item) (b : Body) (k j : ℕ) → AreNew ns ms → None ≡ first_fault (item_checks (scoped ns ks) before i) →
    StandFrom (ns ++ ms) k j (length (body_comparisons (left_kind ns i.name) (said.body i))) → IsBuilt (over (map unboxed ns) w eps) j (left_kind (map unboxed ns) i.name) (said.body i) b →
    IsItemOf (over (ns ++ ms) w eps) (named_item k i).part (own_item (map unboxed ns) i b)
item_named ns ms ks w eps before i b k j new h s t =
    let left = if_some (left_checks ns before i) i.name in
    let right = right_checks (scoped ns ks) (left_name ns i.name) i.place (said.body i) in
    let found : LeftFound ns i.name = left_found ns before i i.name (front_passes left right h) in
    let kind : left_kind ns i.name ≡ kind_of (left_name ns i.name) = named_kind ns i.name in
    let built : IsBuilt (over ns w eps) j (kind_of (left_name ns i.name)) (said.body i) b =
    subst (λ (q : Option Kind). IsBuilt (over ns w eps) j q (said.body i) b) (boxed_kind ns i.name ∙ kind) (body_boxed ns w eps j (left_kind (map unboxed ns) i.name) (said.body i) b t) in
    let whole : IsBodyOf (over (ns ++ ms) w eps) (kind_of (left_name ns i.name)) (renamed k (said.body i)) b =
    body_named ns ms new ks w eps (left_name ns i.name) i.place k j (said.body i) b (back_passes left right h) (subst (λ (q : Option Kind). StandFrom (ns ++ ms) k j (length (body_comparisons q (said.body i)))) kind s) built in
    record {
      name = left_place ns ms i.name found;
      place = refl;
      body = subst₂ (λ (q : Option Kind) (x : said.Body). IsBodyOf (over (ns ++ ms) w eps) q x b) (sym (wider_kind ns ms i.name found ∙ kind)) (sym (body_renamed k i.section i.shape)) whole;
    }
