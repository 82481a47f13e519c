-- The next state of a legal step of an accepted source has 0 or 1 in its Boolean states: one item defines each, and it is
-- one whose next value is a formula's truth.
use Rattle.std.proofs.Common.{◌≡◌, ℕ, ◌+◌, List, [], ◌∷◌, Option, Some, None, Bool, true, false, ◌&&◌, cond, map, refl, sym, ◌∙◌, ap, subst, arith, inl, inr}
use Rattle.std.proofs.lemmas.List.Sums.{sum_by-cons}
use Rattle.std.specs.Prelude.{IsTrue}
use Rattle.std.specs.List.{AllByRecursion, count_by, filter}
use Rattle.hys_lin.specs.Bits.{bit, IsBit}
use Rattle.hys_ast.specs.declared.source.Section.{Section}
use Rattle.hys_ast.specs.declared.source.Section.TheVariants as section
use Rattle.hys_ast.specs.declared.source.Kind.{Kind}
use Rattle.hys_ast.specs.declared.source.Kind.TheVariants as kind
use Rattle.hys_ast.specs.Tree.{Tree, Shape, Decl, Item, Source}
use Rattle.hys_ast.specs.Tree as tree
use Rattle.hys_meaning.specs.Values.{Assignment, truth}
use Rattle.hys_meaning.specs.Names.{Name, names, name_of, parameters, look, is_state, is_output, is_auxiliary}
use Rattle.hys_meaning.specs.Bodies.{body, body_in, plain_body, NextBool}
use Rattle.hys_meaning.specs.Steps.{Next, NextOf, OfLeft}
use Rattle.hys_meaning.specs.Typed.{ItemTyped, LeftTyped, RightTyped, left, suits, defines, is_defined, any_kind, is_bool, is_real}
use Rattle.hys_meaning.specs.Unfolded.{unfolded}
use Rattle.hys_exact.specs.Automata.{kind_of}
use Rattle.hys_sys.specs.Solution.{IsOfKind}
use Rattle.hys_type.proofs.KnownValues.{same_text}
use Rattle.hys_type.proofs.ProgramForms.{look_own}
use Rattle.hys_type.proofs.SameSteps.{names_differ}
use Rattle.hys_compile.specs.Automaton.{boxed_of}
use Rattle.hys_stack.specs.Trajectories.{AreOfKinds}
use Rattle.hys_best.specs.Laws.{SourcesKeepKinds}

-- ---- the section of an item that defines a Boolean state
only_states : (s : Section) → is_state s ≡ true → s ≡ section.State
only_states section.State h = refl
only_states section.Input h = absurd (cc)
only_states section.Output h = absurd (cc)
only_states section.Parameter h = absurd (cc)
only_states section.Aux h = absurd (cc)
only_states section.Ad h = absurd (cc)
only_states section.Da h = absurd (cc)
only_states section.Logic h = absurd (cc)
only_states section.Linear h = absurd (cc)
only_states section.Automata h = absurd (cc)
only_states section.Continuous h = absurd (cc)
only_states section.OutputItem h = absurd (cc)
only_states section.Must h = absurd (cc)

-- no other part has the section of a state, and no real name is Boolean
no_part : (part : Section → Bool) (test : Kind → Bool) (n : Name) → n.section ≡ section.State → part section.State ≡ false → (part n.section && test n.kind) ≡ true → ⊥
no_part part test n p f h = let g : (false && test n.kind) ≡ true = subst (λ b. (b && test n.kind) ≡ true) (ap part p ∙ f) h in absurd (cc)

no_kind : (n : Name) → n.section ≡ section.State → n.kind ≡ kind.Bool → (is_state n.section && is_real n.kind) ≡ true → ⊥
no_kind n p k h =
    let g : (is_state section.State && is_real kind.Bool) ≡ true = subst (λ s. (is_state s && is_real kind.Bool) ≡ true) p (subst (λ q. (is_state n.section && is_real q) ≡ true) k h) in
    let z : false ≡ true = g in absurd (cc)

only_automata : (s : Section) (n : Name) → n.section ≡ section.State → n.kind ≡ kind.Bool → suits s (Some n) ≡ true → s ≡ section.Automata
only_automata section.State n p k h = absurd (cc)
only_automata section.Input n p k h = absurd (cc)
only_automata section.Output n p k h = absurd (cc)
only_automata section.Parameter n p k h = absurd (cc)
only_automata section.Aux n p k h = absurd (cc)
only_automata section.Ad n p k h = absurd (no_part is_auxiliary is_bool n p refl h)
only_automata section.Da n p k h = absurd (no_part is_auxiliary is_real n p refl h)
only_automata section.Logic n p k h = absurd (no_part is_auxiliary is_bool n p refl h)
only_automata section.Linear n p k h = absurd (no_part is_auxiliary is_real n p refl h)
only_automata section.Automata n p k h = refl
only_automata section.Continuous n p k h = absurd (no_kind n p k h)
only_automata section.OutputItem n p k h = absurd (no_part is_output any_kind n p refl h)
only_automata section.Must n p k h = absurd (cc)

-- ---- its next value
abbrev states_of : Assignment → List Decl → List Name
states_of u ds = filter (λ (n : Name). is_state n.section) (map (name_of u) ds)

a_bit : (b : Bool) → IsBit (bit b)
a_bit true = inr refl
a_bit false = inl refl

module _ (ns : List Name) (w after : Assignment) where
  of_formula : (n : Name) (r : Shape) → RightTyped ns (Some n) (plain_body NextBool r) → Next ns w after n.text (plain_body NextBool r) → IsBit (after n.text)
  of_formula n (tree.Plain e) t h = subst IsBit (sym h) (a_bit (truth w e))
  of_formula n (tree.Wide e u) t h = absurd t
  of_formula n (tree.Choice a b c) t h = absurd t

  by_item : (n : Name) → n.section ≡ section.State → n.kind ≡ kind.Bool → look ns n.text ≡ Some n → (i : Item) → ItemTyped ns i → NextOf ns w after i → defines n.text i.name ≡ true → IsBit (after n.text)
  by_item n p k l i t h d = go i.name t h d
    where
      go : (o : Option (List ℕ)) → LeftTyped i.section ns o × RightTyped ns (left ns o) (body i) → OfLeft (λ m. Next ns w after m (body i)) o → defines n.text o ≡ true → IsBit (after n.text)
      go None t h d = absurd (cc)
      go (Some m) t h d =
          let e : n.text ≡ m = same_text n.text m d in
          let f : look ns m ≡ Some n = ap (look ns) (sym e) ∙ l in
          let s : i.section ≡ section.Automata = only_automata i.section n p k (subst (λ o. suits i.section o ≡ true) f t.0) in
          of_formula n i.shape
          (subst (λ q. RightTyped ns (Some n) (body_in q i.shape)) s (subst (λ o. RightTyped ns o (body i)) f t.1))
          (subst (λ q. Next ns w after n.text (body_in q i.shape)) s (subst (λ m. Next ns w after m (body i)) (sym e) h))

  -- one item defines it
  by_items : (n : Name) → n.section ≡ section.State → n.kind ≡ kind.Bool → look ns n.text ≡ Some n → (is : List Item) → AllByRecursion (ItemTyped ns) is → AllByRecursion (NextOf ns w after) is →
      count_by (λ (i : Item). defines n.text i.name) is ≡ 1 → IsBit (after n.text)
  by_items n p k l [] t h c = absurd (let z : 0 ≡ 1 = c in omega (arith, z))
  by_items n p k l (i ∷ is) t h c = go (defines n.text i.name) refl (sym (sum_by-cons (λ (j : Item). cond (defines n.text j.name) 1 0) i is) ∙ c) (by_items n p k l is t.1 h.1)
    where
      go : (b : Bool) → defines n.text i.name ≡ b → cond b 1 0 + count_by (λ (j : Item). defines n.text j.name) is ≡ 1 → (count_by (λ (j : Item). defines n.text j.name) is ≡ 1 → IsBit (after n.text)) → IsBit (after n.text)
      go true d c f = by_item n p k l i t.0 h.0 d
      go false d c f = f (omega (arith, c))

  -- ---- the next state
  of_kind : (n : Name) → n.section ≡ section.State → look ns n.text ≡ Some n → (is : List Item) → AllByRecursion (ItemTyped ns) is → AllByRecursion (NextOf ns w after) is →
      (IsTrue (is_defined n.section) → count_by (λ (i : Item). defines n.text i.name) is ≡ 1) → (q : Kind) → n.kind ≡ q → IsOfKind (kind_of q) (after n.text)
  of_kind n p l is t h c kind.Real k = tt
  of_kind n p l is t h c kind.Bool k = by_items n p k l is t h (c (subst (λ s. is_defined s ≡ true) (sym p) refl))

  of_kinds : (is : List Item) → AllByRecursion (ItemTyped ns) is → AllByRecursion (NextOf ns w after) is → (u : Assignment) (ds : List Decl) → AllByRecursion (λ n. look ns n.text ≡ Some n) (map (name_of u) ds) →
      AllByRecursion (λ d. IsTrue (is_defined d.section) → count_by (λ i. defines d.name i.name) is ≡ 1) ds →
      AreOfKinds (map boxed_of (states_of u ds)) (map after (map (λ (n : Name). n.text) (states_of u ds)))
  of_kinds is t h u [] l c = tt
  of_kinds is t h u (d ∷ ds) l c = go (is_state d.section) refl (of_kinds is t h u ds l.1 c.1)
    where
      go : (b : Bool) → is_state d.section ≡ b → AreOfKinds (map boxed_of (states_of u ds)) (map after (map (λ (n : Name). n.text) (states_of u ds))) →
          AreOfKinds (map boxed_of (cond b (name_of u d ∷ states_of u ds) (states_of u ds))) (map after (map (λ (n : Name). n.text) (cond b (name_of u d ∷ states_of u ds) (states_of u ds))))
      go true e f = (of_kind (name_of u d) (only_states d.section e) l.0 is t h c.0 d.kind refl, f)
      go false e f = f

-- ---- sources
pub keeps_kinds : SourcesKeepKinds
keeps_kinds tolerance s a x u w x' y h = subst (AreOfKinds (map boxed_of (filter (λ (n : Name). is_state n.section) (names (unfolded s))))) h.step.end
    (of_kinds (names (unfolded s)) w h.step.after (unfolded s).items a.rules.typed.items h.step.next (parameters (unfolded s).decls) (unfolded s).decls
    (look_own (names (unfolded s)) (names_differ (unfolded s) a.rules.declared)) a.rules.defined)
