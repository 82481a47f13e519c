-- A step of a source by texts is a step of its program by places, and the other way round.
use Rattle.std.proofs.Common.{◌≡◌, ℕ, suc, List, [], ◌∷◌, Option, Some, None, Bool, true, false, ◌||◌, ◌↔◌, map, cond, refl, sym, ◌∙◌, ap, ap₂, subst}
use Rattle.std.specs.Prelude.{IsTrue, filter}
use Rattle.std.specs.List.{AllByRecursion}
use Rattle.std.proofs.Math.Path.{subst₂}
use Rattle.hys_number.specs.Number.{Number}
use Rattle.hys_number.specs.Ops.{◌≤ₙ◌}
use Rattle.hys_base.specs.Differ.{Differ}
use Rattle.hys_lin.specs.Bits.{IsBit}
use Rattle.hys_lin.specs.Sums.{Assignment as PlaceAssignment}
use Rattle.hys_ast.specs.declared.source.Section.{Section}
use Rattle.hys_ast.specs.declared.source.Section.TheVariants as section
use Rattle.hys_ast.specs.declared.source.Kind.{Kind}
use Rattle.hys_ast.specs.declared.source.Kind.TheVariants as kind
use Rattle.hys_ast.specs.Tree.{Decl, Item, Source}
use Rattle.hys_meaning.specs.Values.{Assignment}
use Rattle.hys_meaning.specs.Names.{Name, names, name_of, parameters, look, texts, is_state, is_input, is_output, is_parameter}
use Rattle.hys_meaning.specs.Bodies.{body}
use Rattle.hys_meaning.specs.Typed.{DeclaredOnce, Typed, ItemTyped, LeftTyped, RightTyped, left, suits}
use Rattle.hys_meaning.specs.Steps.{is_given}
use Rattle.hys_meaning.specs.Steps as source
use Rattle.hys_prog.specs.declared.program.Role.{Role}
use Rattle.hys_prog.specs.declared.program.Name.{Name as ProgName}
use Rattle.hys_prog.specs.declared.program.ProgItem.{ProgItem}
use Rattle.hys_prog.specs.declared.program.Program.{Program}
use Rattle.hys_prog.specs.Programs.{EachItem}
use Rattle.hys_prog.specs.Steps.{places_from, EachNameFrom}
use Rattle.hys_prog.specs.Steps as program
use Rattle.hys_type.specs.Translation.{place_in, place_if, role_in, IsNameOf, OneByOne, Setting, setting, IsBodyOf, IsItemOf, IsNamedTranslation, left_kind, kind_of}
use Rattle.hys_type.specs.Views.{by_places, by_texts}
use Rattle.hys_type.proofs.KnownValues.{declared_texts, differ_texts}
use Rattle.hys_type.proofs.Agree.{Agree, texts_of, at_place, agree_places, agree_texts}
use Rattle.hys_type.proofs.FormSums.{HasParameters}
use Rattle.hys_type.proofs.SameBodies.{same_demand, same_case}

-- ---- roles
pub state_role : (s : Section) → program.is_state (role_in s) ≡ is_state s
state_role section.State = refl
state_role section.Input = refl
state_role section.Output = refl
state_role section.Parameter = refl
state_role section.Aux = refl
state_role section.Ad = refl
state_role section.Da = refl
state_role section.Logic = refl
state_role section.Linear = refl
state_role section.Automata = refl
state_role section.Continuous = refl
state_role section.OutputItem = refl
state_role section.Must = refl

pub input_role : (s : Section) → program.is_input (role_in s) ≡ is_input s
input_role section.State = refl
input_role section.Input = refl
input_role section.Output = refl
input_role section.Parameter = refl
input_role section.Aux = refl
input_role section.Ad = refl
input_role section.Da = refl
input_role section.Logic = refl
input_role section.Linear = refl
input_role section.Automata = refl
input_role section.Continuous = refl
input_role section.OutputItem = refl
input_role section.Must = refl

pub output_role : (s : Section) → program.is_output (role_in s) ≡ is_output s
output_role section.State = refl
output_role section.Input = refl
output_role section.Output = refl
output_role section.Parameter = refl
output_role section.Aux = refl
output_role section.Ad = refl
output_role section.Da = refl
output_role section.Logic = refl
output_role section.Linear = refl
output_role section.Automata = refl
output_role section.Continuous = refl
output_role section.OutputItem = refl
output_role section.Must = refl

parameter_role : (s : Section) → program.is_parameter (role_in s) ≡ is_parameter s
parameter_role section.State = refl
parameter_role section.Input = refl
parameter_role section.Output = refl
parameter_role section.Parameter = refl
parameter_role section.Aux = refl
parameter_role section.Ad = refl
parameter_role section.Da = refl
parameter_role section.Logic = refl
parameter_role section.Linear = refl
parameter_role section.Automata = refl
parameter_role section.Continuous = refl
parameter_role section.OutputItem = refl
parameter_role section.Must = refl

given_role : (s : Section) → program.is_given (role_in s) ≡ is_given s
given_role s = ap₂ (λ (a b : Bool). a || b) (state_role s) (input_role s)

-- ---- items
pub left_declared : (s : Section) → IsTrue (suits s None) → ⊥
left_declared section.State h = absurd (cc)
left_declared section.Input h = absurd (cc)
left_declared section.Output h = absurd (cc)
left_declared section.Parameter h = absurd (cc)
left_declared section.Aux h = absurd (cc)
left_declared section.Ad h = absurd (cc)
left_declared section.Da h = absurd (cc)
left_declared section.Logic h = absurd (cc)
left_declared section.Linear h = absurd (cc)
left_declared section.Automata h = absurd (cc)
left_declared section.Continuous h = absurd (cc)
left_declared section.OutputItem h = absurd (cc)
left_declared section.Must h = absurd (cc)

item_case : (c : Setting) (w w' : Assignment) (v v' : PlaceAssignment) → Agree 0 c.names w v → Agree 0 c.names w' v' → Differ (texts_of c.names) → HasParameters w c.names → HasParameters c.values c.names →
    (i : Item) (t : ProgItem) → IsItemOf c i t → ItemTyped c.names i → (source.CaseOf w i ↔ program.CaseOf v t) × (source.NextOf c.names w w' i ↔ program.NextOf v v' t)
item_case c w w' v v' a a' d g u i t h r = go i.name t.name h.name r.0 r.1 h.body
  where
    named : (n : List ℕ) (m : ℕ) (o : Option Name) → look c.names n ≡ o → IsTrue (suits i.section o) → m ≡ place_in c.names n → RightTyped c.names (look c.names n) (body i) → IsBodyOf c (kind_of (look c.names n)) (body i) t.body →
        (source.Case w n (body i) ↔ program.Case v m t.body) × (source.Next c.names w w' n (body i) ↔ program.Next v v' m t.body)
    named n m None e l p r b = absurd (left_declared i.section l)
    named n m (Some x) e l p r b = same_case c w v a d g u n m w' v' (body i) t.body (ap v p ∙ at_place c.names w v n x a e) (ap v' p ∙ at_place c.names w' v' n x a' e) b r

    go : (o : Option (List ℕ)) (q : Option ℕ) → q ≡ place_if c.names o → LeftTyped i.section c.names o → RightTyped c.names (left c.names o) (body i) → IsBodyOf c (left_kind c.names o) (body i) t.body →
        (source.OfLeft (λ n. source.Case w n (body i)) o ↔ program.OfName (λ m. program.Case v m t.body) q) × (source.OfLeft (λ n. source.Next c.names w w' n (body i)) o ↔ program.OfName (λ m. program.Next v v' m t.body) q)
    go None q p l r b = subst (λ q. (Unit {0} ↔ program.OfName (λ m. program.Case v m t.body) q) × (Unit {0} ↔ program.OfName (λ m. program.Next v v' m t.body) q)) (sym p) ((λ x. x, λ x. x), (λ x. x, λ x. x))
    go (Some n) q p l r b = subst (λ q. (source.Case w n (body i) ↔ program.OfName (λ m. program.Case v m t.body) q) × (source.Next c.names w w' n (body i) ↔ program.OfName (λ m. program.Next v v' m t.body) q)) (sym p)
        (named n (place_in c.names n) (look c.names n) refl l refl r b)

item_demand : (c : Setting) (w : Assignment) (v : PlaceAssignment) → Agree 0 c.names w v → Differ (texts_of c.names) → HasParameters w c.names → HasParameters c.values c.names →
    (i : Item) (t : ProgItem) → IsItemOf c i t → ItemTyped c.names i → (source.Demand w i ↔ program.Demand v t) × (source.InGap c.tolerance w i ↔ program.InGap v t)
item_demand c w v a d g u i t h r = same_demand c w v a d g u (left c.names i.name) (left_kind c.names i.name) (body i) t.body h.body r.1

not_both : {A B : Type 0} → A ↔ B → (¬ A) ↔ (¬ B)
not_both e = (λ f x. f (e.1 x), λ f x. f (e.0 x))

each_item : (R : Item → ProgItem → Type 0) (T P : Item → Type 0) (Q : ProgItem → Type 0) → ((i : Item) (t : ProgItem) → R i t → T i → P i ↔ Q t) →
    (xs : List Item) (ts : List ProgItem) → OneByOne R xs ts → AllByRecursion T xs → AllByRecursion P xs ↔ EachItem Q ts
each_item R T P Q f [] [] h r = (λ x. tt, λ x. tt)
each_item R T P Q f [] (t ∷ ts) h r = absurd h
each_item R T P Q f (i ∷ xs) [] h r = absurd h
each_item R T P Q f (i ∷ xs) (t ∷ ts) h r =
    let e = f i t h.0 r.0 in let rest = each_item R T P Q f xs ts h.1 r.1 in
    (λ x. (e.0 x.0, rest.0 x.1), λ x. (e.1 x.0, rest.1 x.1))

-- ---- names
each_name : (u w : Assignment) (v : PlaceAssignment) (P : Name → Type 0) (Q : ℕ → ProgName → Type 0) → ((k : ℕ) (d : Decl) (x : ProgName) → IsNameOf u d x → v k ≡ w d.name → P (name_of u d) ↔ Q k x) →
    (k : ℕ) (ds : List Decl) (xs : List ProgName) → OneByOne (IsNameOf u) ds xs → Agree k (map (name_of u) ds) w v → AllByRecursion P (map (name_of u) ds) ↔ EachNameFrom k Q xs
each_name u w v P Q f k [] [] h a = (λ x. tt, λ x. tt)
each_name u w v P Q f k [] (x ∷ xs) h a = absurd h
each_name u w v P Q f k (d ∷ ds) [] h a = absurd h
each_name u w v P Q f k (d ∷ ds) (x ∷ xs) h a =
    let e = f k d x h.0 a.0 in let rest = each_name u w v P Q f (suc k) ds xs h.1 a.1 in
    (λ y. (e.0 y.0, rest.0 y.1), λ y. (e.1 y.0, rest.1 y.1))

one_parameter : (u w : Assignment) (v : PlaceAssignment) (k : ℕ) (d : Decl) (x : ProgName) → IsNameOf u d x → v k ≡ w d.name →
    (IsTrue (is_parameter d.section) → w d.name ≡ u d.name) ↔ (IsTrue (program.is_parameter x.role) → v k ≡ x.value)
one_parameter u w v k d x h e =
    let r : program.is_parameter x.role ≡ is_parameter d.section = ap program.is_parameter h.role ∙ parameter_role d.section in
    (λ f t. let s : IsTrue (is_parameter d.section) = sym r ∙ t in e ∙ f s ∙ sym (h.value s), λ f t. sym e ∙ f (r ∙ t) ∙ h.value t)

one_kind : (k : Kind) (a : Number) → (k ≡ kind.Bool → IsBit a) ↔ program.IsOfKind k a
one_kind kind.Real a = (λ f. tt, λ t e. absurd (cc))
one_kind kind.Bool a = (λ f. f refl, λ t e. t)

one_box : (u w : Assignment) (v : PlaceAssignment) (k : ℕ) (d : Decl) (x : ProgName) → IsNameOf u d x → v k ≡ w d.name →
    (IsTrue (is_given d.section) → source.InBox w (name_of u d)) ↔ (IsTrue (program.is_given x.role) → program.InBox x (v k))
one_box u w v k d x h e = (λ f t. let s : IsTrue (is_given d.section) = sym r ∙ t in there s (f s), λ f t. back t (f (r ∙ t)))
  where
    r : program.is_given x.role ≡ is_given d.section
    r = ap program.is_given h.role ∙ given_role d.section

    there : IsTrue (is_given d.section) → source.InBox w (name_of u d) → program.InBox x (v k)
    there s b = (
      record { low = subst₂ (λ (m n : Number). m ≤ₙ n) (sym (h.low s)) (sym e) b.0; high = subst₂ (λ (m n : Number). m ≤ₙ n) (sym e) (sym (h.high s)) b.1 },
      subst₂ program.IsOfKind (sym h.kind) (sym e) ((one_kind d.kind (w d.name)).0 b.2),
    )

    back : IsTrue (is_given d.section) → program.InBox x (v k) → source.InBox w (name_of u d)
    back s b = (
      subst₂ (λ (m n : Number). m ≤ₙ n) (h.low s) e b.0.low,
      subst₂ (λ (m n : Number). m ≤ₙ n) e (h.high s) b.0.high,
      (one_kind d.kind (w d.name)).1 (subst₂ program.IsOfKind h.kind e b.1),
    )

same_part : (u w : Assignment) (v : PlaceAssignment) (part : Section → Bool) (role : Role → Bool) → ((s : Section) → role (role_in s) ≡ part s) →
    (k : ℕ) (ds : List Decl) (xs : List ProgName) → OneByOne (IsNameOf u) ds xs → Agree k (map (name_of u) ds) w v → map v (places_from k role xs) ≡ map w (texts part (map (name_of u) ds))
same_part u w v part role f k [] [] h a = refl
same_part u w v part role f k [] (x ∷ xs) h a = absurd h
same_part u w v part role f k (d ∷ ds) [] h a = absurd h
same_part u w v part role f k (d ∷ ds) (x ∷ xs) h a =
    ap (λ b. map v (cond b (k ∷ places_from (suc k) role xs) (places_from (suc k) role xs))) (ap role h.0.role ∙ f d.section)
    ∙ go (part d.section) (same_part u w v part role f (suc k) ds xs h.1 a.1)
  where
    go : (b : Bool) → map v (places_from (suc k) role xs) ≡ map w (texts part (map (name_of u) ds)) →
        map v (cond b (k ∷ places_from (suc k) role xs) (places_from (suc k) role xs))
        ≡ map w (map (λ (n : Name). n.text) (cond b (name_of u d ∷ filter (λ (n : Name). part n.section) (map (name_of u) ds)) (filter (λ (n : Name). part n.section) (map (name_of u) ds))))
    go true e = ap₂ (λ y ys. y ∷ ys) a.0 e
    go false e = e

pub own_values : (u : Assignment) (ds : List Decl) → HasParameters u (map (name_of u) ds)
own_values u [] = tt
own_values u (d ∷ ds) = (λ t. refl, own_values u ds)

same_texts : (u : Assignment) (ds : List Decl) → texts_of (map (name_of u) ds) ≡ declared_texts ds
same_texts u [] = refl
same_texts u (d ∷ ds) = ap (λ ts. d.name ∷ ts) (same_texts u ds)

pub names_differ : (s : Source) → DeclaredOnce s → Differ (texts_of (names s))
names_differ s d = subst Differ (sym (same_texts (parameters s.decls) s.decls)) (differ_texts (declared_texts s.decls) d)

-- ---- steps
module _ (tolerance : Number) (s : Source) (p : Program) (h : IsNamedTranslation tolerance s p) (once : DeclaredOnce s) (typed : Typed s) where
  parameters_same : (w : Assignment) (v : PlaceAssignment) → Agree 0 (names s) w v →
      HasParameters w (names s) ↔ EachNameFrom 0 (λ n k. IsTrue (program.is_parameter k.role) → v n ≡ k.value) p.names
  parameters_same w v a = each_name (parameters s.decls) w v (λ n. IsTrue (is_parameter n.section) → w n.text ≡ n.value) (λ n k. IsTrue (program.is_parameter k.role) → v n ≡ k.value)
      (one_parameter (parameters s.decls) w v) 0 s.decls p.names h.names a

  boxes_same : (w : Assignment) (v : PlaceAssignment) → Agree 0 (names s) w v →
      AllByRecursion (λ n. IsTrue (is_given n.section) → source.InBox w n) (names s) ↔ EachNameFrom 0 (λ n k. IsTrue (program.is_given k.role) → program.InBox k (v n)) p.names
  boxes_same w v a = each_name (parameters s.decls) w v (λ n. IsTrue (is_given n.section) → source.InBox w n) (λ n k. IsTrue (program.is_given k.role) → program.InBox k (v n))
      (one_box (parameters s.decls) w v) 0 s.decls p.names h.names a

  part_same : (w : Assignment) (v : PlaceAssignment) (part : Section → Bool) (role : Role → Bool) → ((s : Section) → role (role_in s) ≡ part s) → Agree 0 (names s) w v →
      map v (program.places role p) ≡ map w (texts part (names s))
  part_same w v part role f a = same_part (parameters s.decls) w v part role f 0 s.decls p.names h.names a

  cases_same : (w : Assignment) (v : PlaceAssignment) → Agree 0 (names s) w v → HasParameters w (names s) → AllByRecursion (source.CaseOf w) s.items ↔ EachItem (program.CaseOf v) p.items
  cases_same w v a g = each_item (IsItemOf (setting tolerance s)) (ItemTyped (names s)) (source.CaseOf w) (program.CaseOf v)
      (λ i t q r. (item_case (setting tolerance s) w w v v a a (names_differ s once) g (own_values (parameters s.decls) s.decls) i t q r).0) s.items p.items h.items typed.items

  next_same : (w w' : Assignment) (v v' : PlaceAssignment) → Agree 0 (names s) w v → Agree 0 (names s) w' v' → HasParameters w (names s) →
      AllByRecursion (source.NextOf (names s) w w') s.items ↔ EachItem (program.NextOf v v') p.items
  next_same w w' v v' a a' g = each_item (IsItemOf (setting tolerance s)) (ItemTyped (names s)) (source.NextOf (names s) w w') (program.NextOf v v')
      (λ i t q r. (item_case (setting tolerance s) w w' v v' a a' (names_differ s once) g (own_values (parameters s.decls) s.decls) i t q r).1) s.items p.items h.items typed.items

  demands_same : (w : Assignment) (v : PlaceAssignment) → Agree 0 (names s) w v → HasParameters w (names s) → AllByRecursion (source.Demand w) s.items ↔ EachItem (program.Demand v) p.items
  demands_same w v a g = each_item (IsItemOf (setting tolerance s)) (ItemTyped (names s)) (source.Demand w) (program.Demand v)
      (λ i t q r. (item_demand (setting tolerance s) w v a (names_differ s once) g (own_values (parameters s.decls) s.decls) i t q r).0) s.items p.items h.items typed.items

  gaps_same : (w : Assignment) (v : PlaceAssignment) → Agree 0 (names s) w v → HasParameters w (names s) →
      AllByRecursion (λ i. ¬ (source.InGap tolerance w i)) s.items ↔ EachItem (λ t. ¬ (program.InGap v t)) p.items
  gaps_same w v a g = each_item (IsItemOf (setting tolerance s)) (ItemTyped (names s)) (λ i. ¬ (source.InGap tolerance w i)) (λ t. ¬ (program.InGap v t))
      (λ i t q r. not_both (item_demand (setting tolerance s) w v a (names_differ s once) g (own_values (parameters s.decls) s.decls) i t q r).1) s.items p.items h.items typed.items

  step_there : (w : Assignment) (v : PlaceAssignment) (x y x' z : List Number) → Agree 0 (names s) w v → source.Step s x y w x' z → program.Step p x y v x' z
  step_there w v x y x' z a t =
      let b : Agree 0 (names s) t.after (by_places (names s) t.after) = agree_places (names s) t.after in
      record {
        parameters = (parameters_same w v a).0 t.parameters;
        states = part_same w v is_state program.is_state state_role a ∙ t.states;
        inputs = part_same w v is_input program.is_input input_role a ∙ t.inputs;
        cases = (cases_same w v a t.parameters).0 t.cases;
        after = by_places (names s) t.after;
        next = (next_same w t.after v (by_places (names s) t.after) a b t.parameters).0 t.next;
        end = part_same t.after (by_places (names s) t.after) is_state program.is_state state_role b ∙ t.end;
        outputs = part_same t.after (by_places (names s) t.after) is_output program.is_output output_role b ∙ t.outputs;
      }

  step_back : (w : Assignment) (v : PlaceAssignment) (x y x' z : List Number) → Agree 0 (names s) w v → program.Step p x y v x' z → source.Step s x y w x' z
  step_back w v x y x' z a t =
      let b : Agree 0 (names s) (by_texts (names s) t.after) t.after = agree_texts (names s) t.after (names_differ s once) in
      let g : HasParameters w (names s) = (parameters_same w v a).1 t.parameters in
      record {
        parameters = g;
        states = sym (part_same w v is_state program.is_state state_role a) ∙ t.states;
        inputs = sym (part_same w v is_input program.is_input input_role a) ∙ t.inputs;
        cases = (cases_same w v a g).1 t.cases;
        after = by_texts (names s) t.after;
        next = (next_same w (by_texts (names s) t.after) v t.after a b g).1 t.next;
        end = sym (part_same (by_texts (names s) t.after) t.after is_state program.is_state state_role b) ∙ t.end;
        outputs = sym (part_same (by_texts (names s) t.after) t.after is_output program.is_output output_role b) ∙ t.outputs;
      }

  legal_there : (w : Assignment) (v : PlaceAssignment) (x y x' z : List Number) → Agree 0 (names s) w v → source.Legal tolerance s x y w x' z → program.Legal p x y v x' z
  legal_there w v x y x' z a t = record {
    step = step_there w v x y x' z a t.step;
    boxes = (boxes_same w v a).0 t.boxes;
    demands = (demands_same w v a t.step.parameters).0 t.demands;
    no_gap = (gaps_same w v a t.step.parameters).0 t.no_gap;
  }

  legal_back : (w : Assignment) (v : PlaceAssignment) (x y x' z : List Number) → Agree 0 (names s) w v → program.Legal p x y v x' z → source.Legal tolerance s x y w x' z
  legal_back w v x y x' z a t =
      let q : source.Step s x y w x' z = step_back w v x y x' z a t.step in
      record {
        step = q;
        boxes = (boxes_same w v a).1 t.boxes;
        demands = (demands_same w v a q.parameters).1 t.demands;
        no_gap = (gaps_same w v a q.parameters).1 t.no_gap;
      }

  -- ---- with the numbers by places, and by texts
  pub step_places : (w : Assignment) (x y x' z : List Number) → source.Step s x y w x' z ↔ program.Step p x y (by_places (names s) w) x' z
  step_places w x y x' z =
      let a : Agree 0 (names s) w (by_places (names s) w) = agree_places (names s) w in
      (step_there w (by_places (names s) w) x y x' z a, step_back w (by_places (names s) w) x y x' z a)

  pub step_texts : (v : PlaceAssignment) (x y x' z : List Number) → program.Step p x y v x' z ↔ source.Step s x y (by_texts (names s) v) x' z
  step_texts v x y x' z =
      let a : Agree 0 (names s) (by_texts (names s) v) v = agree_texts (names s) v (names_differ s once) in
      (step_back (by_texts (names s) v) v x y x' z a, step_there (by_texts (names s) v) v x y x' z a)

  pub legal_places : (w : Assignment) (x y x' z : List Number) → source.Legal tolerance s x y w x' z ↔ program.Legal p x y (by_places (names s) w) x' z
  legal_places w x y x' z =
      let a : Agree 0 (names s) w (by_places (names s) w) = agree_places (names s) w in
      (legal_there w (by_places (names s) w) x y x' z a, legal_back w (by_places (names s) w) x y x' z a)

  pub legal_texts : (v : PlaceAssignment) (x y x' z : List Number) → program.Legal p x y v x' z ↔ source.Legal tolerance s x y (by_texts (names s) v) x' z
  legal_texts v x y x' z =
      let a : Agree 0 (names s) (by_texts (names s) v) v = agree_texts (names s) v (names_differ s once) in
      (legal_back (by_texts (names s) v) v x y x' z a, legal_there (by_texts (names s) v) v x y x' z a)
