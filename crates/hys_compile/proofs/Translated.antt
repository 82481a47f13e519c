-- A system that is exact for a translation is exact for its source.
use Rattle.std.proofs.Common.{◌≡◌, ℕ, List, [], ◌∷◌, Bool, true, false, map, cond, ◌↔◌, IsTrue, refl, sym, ◌∙◌, ap, ap₂, subst}
use Rattle.std.specs.Prelude.{filter}
use Rattle.std.specs.List.{AllByRecursion}
use Rattle.hys_number.specs.Number.{Number}
use Rattle.hys_lin.specs.declared.form.Interval.{Interval}
use Rattle.hys_lin.specs.Sums.{at}
use Rattle.hys_ast.specs.declared.source.Section.{Section}
use Rattle.hys_ast.specs.declared.source.Section.TheVariants as section
use Rattle.hys_ast.specs.declared.source.Kind.{Kind}
use Rattle.hys_ast.specs.Tree.{Decl, Source}
use Rattle.hys_meaning.specs.Values.{Assignment}
use Rattle.hys_meaning.specs.Names.{Name, name_of, names, parameters, is_state, is_input, is_output, is_auxiliary}
use Rattle.hys_meaning.specs.Steps.{Legal, is_given}
use Rattle.hys_meaning.specs.Unfolded.{unfolded}
use Rattle.hys_prog.specs.declared.program.Role.{Role}
use Rattle.hys_prog.specs.declared.program.Name.{Name as ProgName}
use Rattle.hys_prog.specs.declared.program.Program.{Program}
use Rattle.hys_prog.specs.Steps as program
use Rattle.hys_type.specs.Declaring.{declares}
use Rattle.hys_type.specs.Rules.{KeepsTyping}
use Rattle.hys_type.specs.Translation.{role_in, OneByOne, IsNameOf, IsNamedTranslation, IsTranslation}
use Rattle.hys_type.proofs.SameSteps.{state_role, input_role, output_role, legal_places}
use Rattle.hys_exact.specs.Automata as exact
use Rattle.hys_sys.specs.declared.system.System.{System}
use Rattle.hys_sys.specs.Exact.{Automaton, Boxed, Variable, Exact}
use Rattle.hys_sys.proofs.Carrying.{exact_for}
use Rattle.hys_compile.specs.Automaton.{boxed_of, variable_of, automaton_of, IsExactFor}

-- ---- the names of a part
-- the declared names of a part are the names with its role, with what the one and the other list show of them
kept : (w : Assignment) (X : Type 0) (part : Section → Bool) (role : Role → Bool) (f : ProgName → X) (g : Name → X) → ((d : Decl) (x : ProgName) → IsNameOf w d x → IsTrue (part d.section) → f x ≡ g (name_of w d)) →
    (ds : List Decl) (xs : List ProgName) → AllByRecursion (λ (d : Decl). role (role_in d.section) ≡ part d.section) ds → OneByOne (IsNameOf w) ds xs →
    map f (filter (λ (x : ProgName). role x.role) xs) ≡ map g (filter (λ (n : Name). part n.section) (map (name_of w) ds))
kept w X part role f g same [] [] r h = refl
kept w X part role f g same [] (x ∷ xs) r h = absurd h
kept w X part role f g same (d ∷ ds) [] r h = absurd h
kept w X part role f g same (d ∷ ds) (x ∷ xs) r h =
    ap (λ (b : Bool). map f (cond b (x ∷ filter (λ (x : ProgName). role x.role) xs) (filter (λ (x : ProgName). role x.role) xs))) (ap role h.0.role ∙ r.0)
    ∙ go (part d.section) (same d x h.0) (kept w X part role f g same ds xs r.1 h.1)
  where
    go : (b : Bool) → (b ≡ true → f x ≡ g (name_of w d)) → map f (filter (λ (x : ProgName). role x.role) xs) ≡ map g (filter (λ (n : Name). part n.section) (map (name_of w) ds)) →
        map f (cond b (x ∷ filter (λ (x : ProgName). role x.role) xs) (filter (λ (x : ProgName). role x.role) xs))
        ≡ map g (cond b (name_of w d ∷ filter (λ (n : Name). part n.section) (map (name_of w) ds)) (filter (λ (n : Name). part n.section) (map (name_of w) ds)))
    go true e i = ap₂ (λ y ys. y ∷ ys) (e refl) i
    go false e i = i

each_section : (P : Section → Type 0) → ((s : Section) → P s) → (ds : List Decl) → AllByRecursion (λ (d : Decl). P d.section) ds
each_section P f [] = tt
each_section P f (d ∷ ds) = (f d.section, each_section P f ds)

aux_role : (s : Section) → IsTrue (declares s) → program.is_auxiliary (role_in s) ≡ is_auxiliary s
aux_role section.State h = refl
aux_role section.Input h = refl
aux_role section.Output h = refl
aux_role section.Parameter h = refl
aux_role section.Aux h = refl
aux_role section.Ad h = absurd (cc)
aux_role section.Da h = absurd (cc)
aux_role section.Logic h = absurd (cc)
aux_role section.Linear h = absurd (cc)
aux_role section.Automata h = absurd (cc)
aux_role section.Continuous h = absurd (cc)
aux_role section.OutputItem h = absurd (cc)
aux_role section.Must h = absurd (cc)

each_aux : (ds : List Decl) → AllByRecursion (λ (d : Decl). IsTrue (declares d.section)) ds → AllByRecursion (λ (d : Decl). program.is_auxiliary (role_in d.section) ≡ is_auxiliary d.section) ds
each_aux [] h = tt
each_aux (d ∷ ds) h = (aux_role d.section h.0, each_aux ds h.1)

state_given : (s : Section) → IsTrue (is_state s) → IsTrue (is_given s)
state_given section.State h = refl
state_given section.Input h = absurd (cc)
state_given section.Output h = absurd (cc)
state_given section.Parameter h = absurd (cc)
state_given section.Aux h = absurd (cc)
state_given section.Ad h = absurd (cc)
state_given section.Da h = absurd (cc)
state_given section.Logic h = absurd (cc)
state_given section.Linear h = absurd (cc)
state_given section.Automata h = absurd (cc)
state_given section.Continuous h = absurd (cc)
state_given section.OutputItem h = absurd (cc)
state_given section.Must h = absurd (cc)

input_given : (s : Section) → IsTrue (is_input s) → IsTrue (is_given s)
input_given section.State h = refl
input_given section.Input h = refl
input_given section.Output h = absurd (cc)
input_given section.Parameter h = absurd (cc)
input_given section.Aux h = absurd (cc)
input_given section.Ad h = absurd (cc)
input_given section.Da h = absurd (cc)
input_given section.Logic h = absurd (cc)
input_given section.Linear h = absurd (cc)
input_given section.Automata h = absurd (cc)
input_given section.Continuous h = absurd (cc)
input_given section.OutputItem h = absurd (cc)
input_given section.Must h = absurd (cc)

box_is : (i : Interval) (low high : Number) → i.low ≡ low → i.high ≡ high → i ≡ record { low = low; high = high }
box_is i low high a b = ap₂ (λ (l h : Number). record { low = l; high = h }) a b

same_box : (w : Assignment) (d : Decl) (x : ProgName) → IsNameOf w d x → IsTrue (is_given d.section) → exact.boxed_of x ≡ boxed_of (name_of w d)
same_box w d x h g =
    ap (λ (n : List ℕ). record { name = n; kind = exact.kind_of x.kind; box = x.bounds }) h.text
    ∙ ap (λ (k : Kind). record { name = d.name; kind = exact.kind_of k; box = x.bounds }) h.kind
    ∙ ap (λ (i : Interval). record { name = d.name; kind = exact.kind_of d.kind; box = i }) (box_is x.bounds (name_of w d).low (name_of w d).high (h.low g) (h.high g))

same_variable : (w : Assignment) (d : Decl) (x : ProgName) → IsNameOf w d x → exact.variable_of x ≡ variable_of (name_of w d)
same_variable w d x h =
    ap (λ (n : List ℕ). record { name = n; kind = exact.kind_of x.kind }) h.text
    ∙ ap (λ (k : Kind). record { name = d.name; kind = exact.kind_of k }) h.kind

-- ---- the automaton
module _ (tolerance : Number) (s : Source) (p : Program) (h : IsNamedTranslation tolerance s p) (declared : AllByRecursion (λ (d : Decl). IsTrue (declares d.section)) s.decls) where
  states_same : map exact.boxed_of (exact.named program.is_state p) ≡ map boxed_of (filter (λ (n : Name). is_state n.section) (names s))
  states_same = kept (parameters s.decls) Boxed is_state program.is_state exact.boxed_of boxed_of (λ d x i t. same_box (parameters s.decls) d x i (state_given d.section t)) s.decls p.names
      (each_section (λ t. program.is_state (role_in t) ≡ is_state t) state_role s.decls) h.names

  inputs_same : map exact.boxed_of (exact.named program.is_input p) ≡ map boxed_of (filter (λ (n : Name). is_input n.section) (names s))
  inputs_same = kept (parameters s.decls) Boxed is_input program.is_input exact.boxed_of boxed_of (λ d x i t. same_box (parameters s.decls) d x i (input_given d.section t)) s.decls p.names
      (each_section (λ t. program.is_input (role_in t) ≡ is_input t) input_role s.decls) h.names

  auxiliaries_same : map exact.variable_of (exact.named program.is_auxiliary p) ≡ map variable_of (filter (λ (n : Name). is_auxiliary n.section) (names s))
  auxiliaries_same = kept (parameters s.decls) Variable is_auxiliary program.is_auxiliary exact.variable_of variable_of (λ d x i t. same_variable (parameters s.decls) d x i) s.decls p.names (each_aux s.decls declared) h.names

  outputs_same : map exact.variable_of (exact.named program.is_output p) ≡ map variable_of (filter (λ (n : Name). is_output n.section) (names s))
  outputs_same = kept (parameters s.decls) Variable is_output program.is_output exact.variable_of variable_of (λ d x i t. same_variable (parameters s.decls) d x i) s.decls p.names
      (each_section (λ t. program.is_output (role_in t) ≡ is_output t) output_role s.decls) h.names

  automata_same : exact.automaton_of p ≡ automaton_of s
  automata_same =
      ap (λ (n : List ℕ). record {
        name = n;
        states = map exact.boxed_of (exact.named program.is_state p);
        inputs = map exact.boxed_of (exact.named program.is_input p);
        auxiliaries = map exact.variable_of (exact.named program.is_auxiliary p);
        outputs = map exact.variable_of (exact.named program.is_output p);
      }) h.system
      ∙ ap₂ (λ (a b : List Boxed). record {
        name = s.system;
        states = a;
        inputs = b;
        auxiliaries = map exact.variable_of (exact.named program.is_auxiliary p);
        outputs = map exact.variable_of (exact.named program.is_output p);
      }) states_same inputs_same
      ∙ ap₂ (λ (a b : List Variable). record {
        name = s.system;
        states = map boxed_of (filter (λ (n : Name). is_state n.section) (names s));
        inputs = map boxed_of (filter (λ (n : Name). is_input n.section) (names s));
        auxiliaries = a;
        outputs = b;
      }) auxiliaries_same outputs_same

-- ---- the steps
texts_same : (w v : Assignment) (ds : List Decl) (xs : List ProgName) → OneByOne (IsNameOf v) ds xs → map (λ (x : ProgName). w x.text) xs ≡ map (λ (n : Name). w n.text) (map (name_of v) ds)
texts_same w v [] [] h = refl
texts_same w v [] (x ∷ xs) h = absurd h
texts_same w v (d ∷ ds) [] h = absurd h
texts_same w v (d ∷ ds) (x ∷ xs) h = ap₂ (λ y ys. y ∷ ys) (ap w h.0.text) (texts_same w v ds xs h.1)

both_ways : {A B : Type 0} → A ↔ B → B ↔ A
both_ways e = (e.1, e.0)

steps_same : (tolerance : Number) (s : Source) (p : Program) → IsNamedTranslation tolerance s p → KeepsTyping s → (x u : List Number) (w : Assignment) (x' y : List Number) → exact.LegalSteps p x u w x' y ↔ Legal tolerance s x u w x' y
steps_same tolerance s p h k x u w x' y =
    subst (λ ns. program.Legal p x u (at ns) x' y ↔ Legal tolerance s x u w x' y) (sym (texts_same w (parameters s.decls) s.decls p.names h.names))
    (both_ways (legal_places tolerance s p h k.declared k.typed w x u x' y))

-- ---- exactness
pub exact_source : (tolerance : Number) (tree : Source) (p : Program) (S : System) → IsTranslation tolerance tree p → KeepsTyping (unfolded tree) → AllByRecursion (λ (d : Decl). IsTrue (declares d.section)) (unfolded tree).decls →
    Exact (exact.automaton_of p) (exact.LegalSteps p) S → IsExactFor tolerance tree S
exact_source tolerance tree p S t k d e =
    subst (λ (A : Automaton). Exact A (Legal tolerance (unfolded tree)) S) (automata_same tolerance (unfolded tree) p t d)
    (exact_for (exact.LegalSteps p) (Legal tolerance (unfolded tree)) (steps_same tolerance (unfolded tree) p t k) (exact.automaton_of p) S e)
