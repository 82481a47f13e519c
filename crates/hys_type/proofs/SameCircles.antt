-- The circular lists of a translation are those of its source.
use Rattle.std.proofs.Common.{◌≡◌, ℕ, List, [], ◌∷◌, Option, Some, None, Bool, true, false, ◌||◌, ◌&&◌, not, ◌⊎◌, inl, inr, ◌↔◌, map, refl, sym, ◌∙◌, ap, ap₂, subst, arith}
use Rattle.std.specs.Prelude.{IsTrue}
use Rattle.std.specs.Str.{bytes_eq}
use Rattle.std.specs.List.{AllByRecursion, list_any}
use Rattle.hys_number.specs.Number.{Number}
use Rattle.hys_base.specs.Differ.{Apart, Differ}
use Rattle.hys_ast.specs.declared.source.Section.{Section}
use Rattle.hys_ast.specs.declared.source.Section.TheVariants as section
use Rattle.hys_ast.specs.Tree.{Decl, Item, Source}
use Rattle.hys_meaning.specs.Names.{Name, names, name_of, parameters, look, is_parameter, is_auxiliary}
use Rattle.hys_meaning.specs.Bodies.{body}
use Rattle.hys_meaning.specs.Typed.{differ, DeclaredOnce, Typed, ItemTyped, left, defines, is_left, any_kind}
use Rattle.hys_meaning.specs.Unfolded.{Guard, guards, guard_decl, unfolded}
use Rattle.hys_meaning.specs.Circular.{IsAuxiliary}
use Rattle.hys_meaning.specs.Circular as source
use Rattle.hys_prog.specs.declared.program.ProgItem.{ProgItem}
use Rattle.hys_prog.specs.declared.program.Program.{Program}
use Rattle.hys_prog.specs.Programs.{is_named}
use Rattle.hys_prog.specs.Steps.{places_from}
use Rattle.hys_prog.specs.Steps as steps
use Rattle.hys_prog.specs.Orders.{IsIn, IsNone, AreDifferent}
use Rattle.hys_prog.specs.Orders as program
use Rattle.hys_type.specs.Translation.{place_in, role_in, OneByOne, setting, IsItemOf, IsNamedTranslation, left_kind}
use Rattle.hys_type.specs.Declaring.{declares, IsDeclaration}
use Rattle.hys_prog.proofs.Names.{name_map, at_place, place_of, named_some}
use Rattle.hys_type.proofs.KnownValues.{other_text, differ_texts}
use Rattle.hys_type.proofs.Agree.{placed}
use Rattle.hys_type.proofs.FormPlaces.{same_column}
use Rattle.hys_type.proofs.SameSteps.{names_differ}
use Rattle.hys_type.proofs.ProgramForms.{Stands, stands_at, look_own}
use Rattle.hys_type.proofs.ProgramItems.{all_append, place_injective, same_definition, Found, at_decl}
use Rattle.hys_type.proofs.Mentions.{body_mentions}

-- ---- auxiliaries
-- the declared auxiliary with a text
record IsAux (ns : List Name) (n : List ℕ) : Type 0 where
  name : Name
  found : look ns n ≡ Some name
  auxiliary : is_auxiliary name.section ≡ true

aux_found : (ns : List Name) (n : List ℕ) → IsAuxiliary ns n → IsAux ns n
aux_found ns n h = go (look ns n) refl h
  where
    first : (a : Bool) → a && true ≡ true → a ≡ true
    first true h = refl
    first false h = h

    go : (o : Option Name) → look ns n ≡ o → IsTrue (is_left is_auxiliary any_kind o) → IsAux ns n
    go None e h = absurd (cc)
    go (Some m) e h = record { name = m; found = e; auxiliary = first (is_auxiliary m.section) h }

no_parameter : (s : Section) → is_auxiliary s ≡ true → is_parameter s ≡ false
no_parameter section.State h = absurd (cc)
no_parameter section.Input h = absurd (cc)
no_parameter section.Output h = absurd (cc)
no_parameter section.Parameter h = absurd (cc)
no_parameter section.Aux h = refl
no_parameter section.Ad h = absurd (cc)
no_parameter section.Da h = absurd (cc)
no_parameter section.Logic h = absurd (cc)
no_parameter section.Linear h = absurd (cc)
no_parameter section.Automata h = absurd (cc)
no_parameter section.Continuous h = absurd (cc)
no_parameter section.OutputItem h = absurd (cc)
no_parameter section.Must h = absurd (cc)

aux_role : (s : Section) → is_auxiliary s ≡ true → steps.is_auxiliary (role_in s) ≡ true
aux_role section.State h = absurd (cc)
aux_role section.Input h = absurd (cc)
aux_role section.Output h = absurd (cc)
aux_role section.Parameter h = absurd (cc)
aux_role section.Aux h = refl
aux_role section.Ad h = absurd (cc)
aux_role section.Da h = absurd (cc)
aux_role section.Logic h = absurd (cc)
aux_role section.Linear h = absurd (cc)
aux_role section.Automata h = absurd (cc)
aux_role section.Continuous h = absurd (cc)
aux_role section.OutputItem h = absurd (cc)
aux_role section.Must h = absurd (cc)

role_aux : (s : Section) → IsTrue (declares s) → steps.is_auxiliary (role_in s) ≡ true → is_auxiliary s ≡ true
role_aux section.State d h = absurd (cc)
role_aux section.Input d h = absurd (cc)
role_aux section.Output d h = absurd (cc)
role_aux section.Parameter d h = absurd (cc)
role_aux section.Aux d h = refl
role_aux section.Ad d h = absurd (cc)
role_aux section.Da d h = absurd (cc)
role_aux section.Logic d h = absurd (cc)
role_aux section.Linear d h = absurd (cc)
role_aux section.Automata d h = absurd (cc)
role_aux section.Continuous d h = absurd (cc)
role_aux section.OutputItem d h = absurd (cc)
role_aux section.Must d h = absurd (cc)

-- ---- items
named_is : (j : ℕ) (o : Option ℕ) → IsTrue (is_named j o) ↔ (o ≡ Some j)
named_is j None = (λ h. absurd (cc), λ h. absurd (cc))
named_is j (Some m) = (λ h. ap (λ k. Some k) (same_column m j h), named_some j (Some m))

some_item : (R : Item → ProgItem → Type 0) (T P : Item → Type 0) (Q : ProgItem → Type 0) → ((i : Item) (t : ProgItem) → R i t → T i → P i ↔ Q t) → (xs : List Item) (ts : List ProgItem) → OneByOne R xs ts → AllByRecursion T xs →
    source.SomeItem P xs ↔ program.SomeItem Q ts
some_item R T P Q f [] [] h r = (λ x. x, λ x. x)
some_item R T P Q f [] (t ∷ ts) h r = absurd h
some_item R T P Q f (i ∷ xs) [] h r = absurd h
some_item R T P Q f (i ∷ xs) (t ∷ ts) h r = (there (f i t h.0 r.0) (some_item R T P Q f xs ts h.1 r.1), back (f i t h.0 r.0) (some_item R T P Q f xs ts h.1 r.1))
  where
    there : P i ↔ Q t → source.SomeItem P xs ↔ program.SomeItem Q ts → P i ⊎ source.SomeItem P xs → Q t ⊎ program.SomeItem Q ts
    there e g (inl x) = inl (e.0 x)
    there e g (inr x) = inr (g.0 x)

    back : P i ↔ Q t → source.SomeItem P xs ↔ program.SomeItem Q ts → Q t ⊎ program.SomeItem Q ts → P i ⊎ source.SomeItem P xs
    back e g (inl x) = inl (e.1 x)
    back e g (inr x) = inr (g.1 x)

-- ---- lists
module _ (tolerance : Number) (s : Source) (p : Program) (h : IsNamedTranslation tolerance s p) (once : DeclaredOnce s) (typed : Typed s) where
  aux_in : (n : List ℕ) → IsAux (names s) n → IsIn (place_in (names s) n) (steps.places steps.is_auxiliary p)
  aux_in n a = place_of steps.is_auxiliary 0 (place_in (names s) n) (place_in (names s) n) p.names (omega arith)
      (name_map (Stands a.name) (λ x. steps.is_auxiliary x.role ≡ true) p.names (place_in (names s) n) (λ x t. ap steps.is_auxiliary t.role ∙ aux_role a.name.section a.auxiliary)
      (stands_at (parameters s.decls) s.decls p.names h.names n a.name a.found))

  item_leads : (n m : List ℕ) → IsAux (names s) n → IsAux (names s) m → (i : Item) (t : ProgItem) → IsItemOf (setting tolerance s) i t → ItemTyped (names s) i →
      (IsTrue (defines n i.name) × source.MentionedIn (names s) m (body i)) ↔ ((t.name ≡ Some (place_in (names s) n)) × program.MentionedIn (place_in (names s) m) t.body)
  item_leads n m a b i t q r =
      let d : is_named (place_in (names s) n) t.name ≡ defines n i.name = same_definition (setting tolerance s) (place_in (names s) n) n a.name refl a.found i t q r in
      let e : source.MentionedIn (names s) m (body i) ↔ program.MentionedIn (place_in (names s) m) t.body =
      body_mentions (setting tolerance s) m b.name b.found (no_parameter b.name.section b.auxiliary) (left (names s) i.name) (left_kind (names s) i.name) (body i) t.body q.body r.1 in
      (λ x. ((named_is (place_in (names s) n) t.name).0 (d ∙ x.0), e.0 x.1), λ x. (sym d ∙ (named_is (place_in (names s) n) t.name).1 x.0, e.1 x.1))

  leads_same : (n m : List ℕ) → IsAux (names s) n → IsAux (names s) m → source.Leads s n m ↔ program.Leads p (place_in (names s) n) (place_in (names s) m)
  leads_same n m a b = some_item (IsItemOf (setting tolerance s)) (ItemTyped (names s)) (λ i. IsTrue (defines n i.name) × source.MentionedIn (names s) m (body i))
      (λ t. (t.name ≡ Some (place_in (names s) n)) × program.MentionedIn (place_in (names s) m) t.body) (item_leads n m a b) s.items p.items h.items typed.items

  leads_to_same : (first : List ℕ) → IsAux (names s) first → (ns : List (List ℕ)) → AllByRecursion (IsAux (names s)) ns → source.LeadsTo s first ns ↔ program.LeadsTo p (place_in (names s) first) (map (place_in (names s)) ns)
  leads_to_same first f [] a = (λ x. tt, λ x. tt)
  leads_to_same first f (n ∷ []) a = leads_same n first a.0 f
  leads_to_same first f (n ∷ m ∷ ns) a =
      let e : source.Leads s n m ↔ program.Leads p (place_in (names s) n) (place_in (names s) m) = leads_same n m a.0 a.1.0 in
      let g : source.LeadsTo s first (m ∷ ns) ↔ program.LeadsTo p (place_in (names s) first) (map (place_in (names s)) (m ∷ ns)) = leads_to_same first f (m ∷ ns) a.1 in
      (λ x. (e.0 x.0, g.0 x.1), λ x. (e.1 x.0, g.1 x.1))

  all_in : (ns : List (List ℕ)) → AllByRecursion (IsAux (names s)) ns → AllByRecursion (λ m. IsIn m (steps.places steps.is_auxiliary p)) (map (place_in (names s)) ns)
  all_in [] a = tt
  all_in (n ∷ ns) a = (aux_in n a.0, all_in ns a.1)

  none_of : (n : List ℕ) (ns : List (List ℕ)) → IsAux (names s) n → AllByRecursion (IsAux (names s)) ns → Apart n ns → IsNone (place_in (names s) n) (map (place_in (names s)) ns)
  none_of n [] f a d = tt
  none_of n (m ∷ ns) f a d = (λ e. d.0 (place_injective (names s) m n a.0.name f.name a.0.found f.found e), none_of n ns f a.1 d.1)

  different : (ns : List (List ℕ)) → AllByRecursion (IsAux (names s)) ns → Differ ns → AreDifferent (map (place_in (names s)) ns)
  different [] a d = tt
  different (n ∷ ns) a d = (none_of n ns a.0 a.1 d.0, different ns a.1 d.1)

  no_text : (n : List ℕ) (ns : List (List ℕ)) → IsNone (place_in (names s) n) (map (place_in (names s)) ns) → list_any (bytes_eq n) ns ≡ false
  no_text n [] d = refl
  no_text n (m ∷ ns) d = ap₂ (λ (a b : Bool). a || b) (other_text n m (λ e. d.0 (ap (place_in (names s)) (sym e)))) (no_text n ns d.1)

  differ_again : (ns : List (List ℕ)) → AreDifferent (map (place_in (names s)) ns) → differ ns ≡ true
  differ_again [] d = refl
  differ_again (n ∷ ns) d = ap₂ (λ (a b : Bool). not a && b) (no_text n ns d.0) (differ_again ns d.1)

  all_found : (ns : List (List ℕ)) → AllByRecursion (IsAuxiliary (names s)) ns → AllByRecursion (IsAux (names s)) ns
  all_found [] a = tt
  all_found (n ∷ ns) a = (aux_found (names s) n a.0, all_found ns a.1)

  all_left : (ns : List (List ℕ)) → AllByRecursion (IsAux (names s)) ns → AllByRecursion (IsAuxiliary (names s)) ns
  all_left [] a = tt
  all_left (n ∷ ns) a = (ap (is_left is_auxiliary any_kind) a.0.found ∙ ap (λ b. b && true) a.0.auxiliary, all_left ns a.1)

  pub circle_places : (ns : List (List ℕ)) → source.Circular s ns → program.Circular p (map (place_in (names s)) ns)
  circle_places [] c = absurd c
  circle_places (n ∷ ns) c =
      let a : AllByRecursion (IsAux (names s)) (n ∷ ns) = all_found (n ∷ ns) c.0 in
      (all_in (n ∷ ns) a, different (n ∷ ns) a (differ_texts (n ∷ ns) c.1), (leads_to_same n a.0 (n ∷ ns) a).0 c.2)

  circle_again : (ns : List (List ℕ)) → AllByRecursion (IsAux (names s)) ns → program.Circular p (map (place_in (names s)) ns) → source.Circular s ns
  circle_again [] a c = absurd c
  circle_again (n ∷ ns) a c = (all_left (n ∷ ns) a, differ_again (n ∷ ns) c.1, (leads_to_same n a.0 (n ∷ ns) a).1 c.2)

  -- the texts of places of auxiliaries
  aux_text : AllByRecursion (λ d. IsTrue (declares d.section)) s.decls → (j : ℕ) → IsIn j (steps.places steps.is_auxiliary p) → (n : List ℕ) × (place_in (names s) n ≡ j) × IsAux (names s) n
  aux_text d j q =
      let e = at_place steps.is_auxiliary 0 j p.names q in
      let f : Found (parameters s.decls) (names s) (λ d. IsTrue (declares d.section)) (λ x. steps.is_auxiliary x.role ≡ true) j =
      at_decl (parameters s.decls) (names s) (λ d. IsTrue (declares d.section)) (λ x. steps.is_auxiliary x.role ≡ true) 0 s.decls p.names h.names d (placed (names s) (names_differ s once)) (look_own (names s) (names_differ s once)) e.0 j e.1 e.2 in (
        f.decl.name,
        f.place,
        record {
          name = name_of (parameters s.decls) f.decl;
          found = f.found;
          auxiliary = role_aux f.decl.section f.ruled (ap steps.is_auxiliary (sym f.is.role) ∙ f.has);
        },
      )

  aux_texts : AllByRecursion (λ d. IsTrue (declares d.section)) s.decls → (js : List ℕ) → AllByRecursion (λ j. IsIn j (steps.places steps.is_auxiliary p)) js →
      (ns : List (List ℕ)) × (map (place_in (names s)) ns ≡ js) × AllByRecursion (IsAux (names s)) ns
  aux_texts d [] q = ([], refl, tt)
  aux_texts d (j ∷ js) q =
      let f = aux_text d j q.0 in let g = aux_texts d js q.1 in
      (f.0 ∷ g.0, ap₂ (λ x xs. x ∷ xs) f.1 g.1, (f.2, g.2))

  are_auxiliaries : (js : List ℕ) → program.Circular p js → AllByRecursion (λ j. IsIn j (steps.places steps.is_auxiliary p)) js
  are_auxiliaries [] c = tt
  are_auxiliaries (j ∷ js) c = c.0

  pub circle_texts : AllByRecursion (λ d. IsTrue (declares d.section)) s.decls → (js : List ℕ) → program.Circular p js → (ns : List (List ℕ)) × (map (place_in (names s)) ns ≡ js) × source.Circular s ns
  circle_texts d js c =
      let f = aux_texts d js (are_auxiliaries js c) in
      (f.0, f.1, circle_again f.0 f.2 (subst (program.Circular p) (sym f.1) c))

-- ---- unnamed guards
guards_declared : (gs : List Guard) → AllByRecursion (λ d. IsTrue (declares d.section)) (map guard_decl gs)
guards_declared [] = tt
guards_declared (g ∷ gs) = (refl, guards_declared gs)

all_declared : (ds : List Decl) → AllByRecursion IsDeclaration ds → AllByRecursion (λ d. IsTrue (declares d.section)) ds
all_declared [] h = tt
all_declared (d ∷ ds) h = (h.0.0, all_declared ds h.1)

pub unfolded_declared : (s : Source) → AllByRecursion IsDeclaration s.decls → AllByRecursion (λ d. IsTrue (declares d.section)) (unfolded s).decls
unfolded_declared s h = all_append (λ d. IsTrue (declares d.section)) s.decls (map guard_decl (guards s)) (all_declared s.decls h) (guards_declared (guards s))
