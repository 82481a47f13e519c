-- The bodies of a program mention variables alone, and suit the names that they define.
use Rattle.std.proofs.Common.{◌≡◌, List, [], ◌∷◌, Option, Some, None, Bool, true, false, ◌&&◌, map, refl, sym, ◌∙◌, ap, subst}
use Rattle.std.specs.Prelude.{IsTrue}
use Rattle.std.specs.List.{AllByRecursion}
use Rattle.std.proofs.Math.Path.{subst₂}
use Rattle.hys_number.specs.Number.{Number}
use Rattle.hys_number.specs.Ops.{◌<ₙ◌, whole}
use Rattle.hys_base.specs.Differ.{Differ}
use Rattle.hys_ast.specs.declared.source.Section.{Section}
use Rattle.hys_ast.specs.declared.source.Section.TheVariants as section
use Rattle.hys_ast.specs.declared.source.Kind.{Kind}
use Rattle.hys_ast.specs.declared.source.Kind.TheVariants as kind
use Rattle.hys_ast.specs.declared.tree.BinaryOp.TheVariants as binary
use Rattle.hys_ast.specs.Tree.{Tree, Decl, Shape}
use Rattle.hys_ast.specs.Tree as tree
use Rattle.hys_meaning.specs.Values.{Assignment}
use Rattle.hys_meaning.specs.Names.{Name, name_of, look, is_state, is_output, is_auxiliary}
use Rattle.hys_meaning.specs.Bodies.{body_in}
use Rattle.hys_meaning.specs.Bodies as said
use Rattle.hys_meaning.specs.Typed.{IsMaybe, IsTolerance, RightTyped, suits, settled, value_or_zero, is_demand, is_real, is_bool}
use Rattle.hys_meaning.specs.Steps.{tolerance_of}
use Rattle.hys_prog.specs.declared.program.Role.{Role}
use Rattle.hys_prog.specs.declared.program.Role.TheVariants as role
use Rattle.hys_prog.specs.declared.program.Body.{Body}
use Rattle.hys_prog.specs.declared.program.Body.TheVariants as means
use Rattle.hys_prog.specs.declared.program.Name.{Name as ProgName}
use Rattle.hys_prog.specs.Programs.{BodyOver, Suits, is_must}
use Rattle.hys_type.specs.Translation.{Setting, IsNameOf, OneByOne, IsBodyOf, guard, choice, logic, linear, next_bool, next_real, out_bool, out_real, must_hold, must_most, must_zero, role_in, kind_of}
use Rattle.hys_type.proofs.Agree.{texts_of}
use Rattle.hys_type.proofs.FormSums.{HasParameters}
use Rattle.hys_type.proofs.SameBodies.{same_tolerance, the_formula, the_inequality, the_difference, bool_output, real_output, some_kind}
use Rattle.hys_type.proofs.ProgramForms.{Stands, look_own, no_factor, no_guard_factor, no_difference_factor, no_else_factor, form_over, formula_over}

-- ---- tolerances
settled_values : (ns ms : List Name) → AllByRecursion (λ n. look ns n.text ≡ Some n) ms → HasParameters (settled ns) ms
settled_values ns [] h = tt
settled_values ns (m ∷ ms) h = (λ p. ap value_or_zero h.0, settled_values ns ms h.1)

positive_tolerance : (ns : List Name) (tolerance : Number) (u : Assignment) (t : Option Tree) → Differ (texts_of ns) → HasParameters u ns → whole 0 <ₙ tolerance → IsMaybe (IsTolerance ns) t → whole 0 <ₙ tolerance_of tolerance u t
positive_tolerance ns tolerance u None a g l r = l
positive_tolerance ns tolerance u (Some e) a g l r = subst (λ (x : Number). whole 0 <ₙ x) (same_tolerance ns tolerance (settled ns) u (Some e) (settled_values ns ns (look_own ns a)) g r) r.1

-- ---- bodies over names
abbrev pub scope : Number → Assignment → List Decl → Setting
scope tolerance u ds = record { names = map (name_of u) ds; values = u; tolerance = tolerance }

module _ (tolerance : Number) (u : Assignment) (ds : List Decl) (xs : List ProgName) (h : OneByOne (IsNameOf u) ds xs) (a : Differ (texts_of (map (name_of u) ds))) (g : HasParameters u (map (name_of u) ds)) (l : whole 0 <ₙ tolerance) where
  abbrev Over : Option Name → said.Body → Body → Type 0
  Over o s b = RightTyped (map (name_of u) ds) o s → BodyOver xs b

  over_as : (o : Option Name) (s s' : said.Body) (b b' : Body) → s ≡ s' → b ≡ b' → Over o s' b' → Over o s b
  over_as o s s' b b' e i m = subst₂ (Over o) (sym e) (sym i) m

  pub body_over : (o : Option Name) (s : said.Body) (b : Body) → IsBodyOf (scope tolerance u ds) (kind_of o) s b → Over o s b
  body_over o s b (guard {e} {t} {f} {eps} i j q z) = over_as o s (said.Guard e t) b (means.Guard f eps) i j (λ r.
      (form_over u ds xs _ f a h (λ n m y k. no_guard_factor (map (name_of u) ds) n m y k e r.0) q, subst (λ (x : Number). whole 0 <ₙ x) (sym z) (positive_tolerance (map (name_of u) ds) tolerance u t a g l r.1)))
  body_over o s b (choice {e = e} {h = x} {o = y} {l = w} {f = f} {g = q} i j z n p) = over_as o s (said.Choice e x y) b (means.Choice w f q) i j (λ r.
      (formula_over u ds xs e w h r.0 z, form_over u ds xs _ f a h (λ n m y k. no_factor (map (name_of u) ds) n m y k x r.1) n, form_over u ds xs _ q a h (λ n m z k. no_else_factor (map (name_of u) ds) n m z k y r.2) p))
  body_over o s b (logic {e = e} {l = w} i j z) = over_as o s (said.Logic e) b (means.Logic w) i j (λ r. formula_over u ds xs e w h r z)
  body_over o s b (linear {e} {f} i j z) = over_as o s (said.Linear e) b (means.Linear f) i j (λ r. form_over u ds xs _ f a h (λ n m y k. no_factor (map (name_of u) ds) n m y k e r) z)
  body_over o s b (next_bool {e = e} {l = w} i j z) = over_as o s (said.NextBool e) b (means.NextBool w) i j (λ r. formula_over u ds xs e w h r z)
  body_over o s b (next_real {e} {f} i j z) = over_as o s (said.NextReal e) b (means.NextReal f) i j (λ r. form_over u ds xs _ f a h (λ n m y k. no_factor (map (name_of u) ds) n m y k e r) z)
  body_over o s b (out_bool {e = e} {l = w} y i j z) = over_as o s (said.Output e) b (means.OutBool w) i j (λ r. formula_over u ds xs e w h (bool_output (map (name_of u) ds) o u e y r).0 z)
  body_over o s b (out_real {e} {f} y i j z) = over_as o s (said.Output e) b (means.OutReal f) i j (λ r. form_over u ds xs _ f a h (λ n m q k. no_factor (map (name_of u) ds) n m q k e (real_output (map (name_of u) ds) o u e y r).0) z)
  body_over o s b (must_hold {e = e} {l = w} y i j z) = over_as o s (said.Must e) b (means.MustHold w) i j (λ r. formula_over u ds xs e w h (the_formula (map (name_of u) ds) e y r) z)
  body_over o s b (must_most {e} {f} y i j z) = over_as o s (said.Must e) b (means.MustMost f) i j (λ r. form_over u ds xs _ f a h (λ n m q k. no_guard_factor (map (name_of u) ds) n m q k e (the_inequality (map (name_of u) ds) e y r)) z)
  body_over o s b (must_zero {x} {y} {p} {f} i j z) = over_as o s (said.Must (tree.Binary binary.Equal x y p)) b (means.MustZero f) i j (λ r.
      let d = the_difference (map (name_of u) ds) x y p r in form_over u ds xs _ f a h (λ n m q k. no_difference_factor (map (name_of u) ds) n m q k x y d.0 d.1) z)

-- ---- items that demand
abbrev is_demanding : said.Body → Bool
is_demanding (said.Guard e t) = false
is_demanding (said.Choice a b c) = false
is_demanding (said.Logic e) = false
is_demanding (said.Linear e) = false
is_demanding (said.NextBool e) = false
is_demanding (said.NextReal e) = false
is_demanding (said.Output e) = false
is_demanding (said.Must e) = true
is_demanding said.Nothing = false

same_must : (c : Setting) (k : Option Kind) (s : said.Body) (b : Body) → IsBodyOf c k s b → is_must b ≡ is_demanding s
same_must c k s b (guard i j q z) = ap is_must j ∙ sym (ap is_demanding i)
same_must c k s b (choice i j q z y) = ap is_must j ∙ sym (ap is_demanding i)
same_must c k s b (logic i j z) = ap is_must j ∙ sym (ap is_demanding i)
same_must c k s b (linear i j z) = ap is_must j ∙ sym (ap is_demanding i)
same_must c k s b (next_bool i j z) = ap is_must j ∙ sym (ap is_demanding i)
same_must c k s b (next_real i j z) = ap is_must j ∙ sym (ap is_demanding i)
same_must c k s b (out_bool y i j z) = ap is_must j ∙ sym (ap is_demanding i)
same_must c k s b (out_real y i j z) = ap is_must j ∙ sym (ap is_demanding i)
same_must c k s b (must_hold y i j z) = ap is_must j ∙ sym (ap is_demanding i)
same_must c k s b (must_most y i j z) = ap is_must j ∙ sym (ap is_demanding i)
same_must c k s b (must_zero i j z) = ap is_must j ∙ sym (ap is_demanding i)

demanding_in : (ns : List Name) (o : Option Name) (s : Section) (r : Shape) → RightTyped ns o (body_in s r) → is_demanding (body_in s r) ≡ is_demand s
demanding_in ns o section.State r t = absurd t
demanding_in ns o section.Input r t = absurd t
demanding_in ns o section.Output r t = absurd t
demanding_in ns o section.Parameter r t = absurd t
demanding_in ns o section.Aux r t = absurd t
demanding_in ns o section.Ad (tree.Plain e) t = refl
demanding_in ns o section.Ad (tree.Wide e y) t = refl
demanding_in ns o section.Ad (tree.Choice e y z) t = absurd t
demanding_in ns o section.Da (tree.Plain e) t = absurd t
demanding_in ns o section.Da (tree.Wide e y) t = absurd t
demanding_in ns o section.Da (tree.Choice e y z) t = refl
demanding_in ns o section.Logic (tree.Plain e) t = refl
demanding_in ns o section.Logic (tree.Wide e y) t = absurd t
demanding_in ns o section.Logic (tree.Choice e y z) t = absurd t
demanding_in ns o section.Linear (tree.Plain e) t = refl
demanding_in ns o section.Linear (tree.Wide e y) t = absurd t
demanding_in ns o section.Linear (tree.Choice e y z) t = absurd t
demanding_in ns o section.Automata (tree.Plain e) t = refl
demanding_in ns o section.Automata (tree.Wide e y) t = absurd t
demanding_in ns o section.Automata (tree.Choice e y z) t = absurd t
demanding_in ns o section.Continuous (tree.Plain e) t = refl
demanding_in ns o section.Continuous (tree.Wide e y) t = absurd t
demanding_in ns o section.Continuous (tree.Choice e y z) t = absurd t
demanding_in ns o section.OutputItem (tree.Plain e) t = refl
demanding_in ns o section.OutputItem (tree.Wide e y) t = absurd t
demanding_in ns o section.OutputItem (tree.Choice e y z) t = absurd t
demanding_in ns o section.Must (tree.Plain e) t = refl
demanding_in ns o section.Must (tree.Wide e y) t = absurd t
demanding_in ns o section.Must (tree.Choice e y z) t = absurd t

pub must_is : (c : Setting) (k : Option Kind) (o : Option Name) (s : Section) (r : Shape) (b : Body) → RightTyped c.names o (body_in s r) → IsBodyOf c k (body_in s r) b → is_must b ≡ is_demand s
must_is c k o s r b t i = same_must c k (body_in s r) b i ∙ demanding_in c.names o s r t

-- ---- items that define a name
abbrev IsDefined : (Section → Bool) → (Kind → Bool) → Name → Type 0
IsDefined part test m = (part m.section ≡ true) × (test m.kind ≡ true)

abbrev Fits : said.Body → Name → Type 0
Fits (said.Guard e t) m = IsDefined is_auxiliary is_bool m
Fits (said.Choice a b c) m = IsDefined is_auxiliary is_real m
Fits (said.Logic e) m = IsDefined is_auxiliary is_bool m
Fits (said.Linear e) m = IsDefined is_auxiliary is_real m
Fits (said.NextBool e) m = IsDefined is_state is_bool m
Fits (said.NextReal e) m = IsDefined is_state is_real m
Fits (said.Output e) m = is_output m.section ≡ true
Fits (said.Must e) m = ⊥
Fits said.Nothing m = ⊥

first_true : (a b : Bool) → a && b ≡ true → a ≡ true
first_true true b h = refl
first_true false b h = h

second_true : (a b : Bool) → a && b ≡ true → b ≡ true
second_true true b h = h
second_true false b h = absurd (cc)

fits_in : (ns : List Name) (o : Option Name) (s : Section) (r : Shape) (m : Name) → IsTrue (suits s (Some m)) → RightTyped ns o (body_in s r) → Fits (body_in s r) m
fits_in ns o section.State r m h t = absurd t
fits_in ns o section.Input r m h t = absurd t
fits_in ns o section.Output r m h t = absurd t
fits_in ns o section.Parameter r m h t = absurd t
fits_in ns o section.Aux r m h t = absurd t
fits_in ns o section.Ad (tree.Plain e) m h t = (first_true (is_auxiliary m.section) (is_bool m.kind) h, second_true (is_auxiliary m.section) (is_bool m.kind) h)
fits_in ns o section.Ad (tree.Wide e y) m h t = (first_true (is_auxiliary m.section) (is_bool m.kind) h, second_true (is_auxiliary m.section) (is_bool m.kind) h)
fits_in ns o section.Ad (tree.Choice e y z) m h t = absurd t
fits_in ns o section.Da (tree.Plain e) m h t = absurd t
fits_in ns o section.Da (tree.Wide e y) m h t = absurd t
fits_in ns o section.Da (tree.Choice e y z) m h t = (first_true (is_auxiliary m.section) (is_real m.kind) h, second_true (is_auxiliary m.section) (is_real m.kind) h)
fits_in ns o section.Logic (tree.Plain e) m h t = (first_true (is_auxiliary m.section) (is_bool m.kind) h, second_true (is_auxiliary m.section) (is_bool m.kind) h)
fits_in ns o section.Logic (tree.Wide e y) m h t = absurd t
fits_in ns o section.Logic (tree.Choice e y z) m h t = absurd t
fits_in ns o section.Linear (tree.Plain e) m h t = (first_true (is_auxiliary m.section) (is_real m.kind) h, second_true (is_auxiliary m.section) (is_real m.kind) h)
fits_in ns o section.Linear (tree.Wide e y) m h t = absurd t
fits_in ns o section.Linear (tree.Choice e y z) m h t = absurd t
fits_in ns o section.Automata (tree.Plain e) m h t = (first_true (is_state m.section) (is_bool m.kind) h, second_true (is_state m.section) (is_bool m.kind) h)
fits_in ns o section.Automata (tree.Wide e y) m h t = absurd t
fits_in ns o section.Automata (tree.Choice e y z) m h t = absurd t
fits_in ns o section.Continuous (tree.Plain e) m h t = (first_true (is_state m.section) (is_real m.kind) h, second_true (is_state m.section) (is_real m.kind) h)
fits_in ns o section.Continuous (tree.Wide e y) m h t = absurd t
fits_in ns o section.Continuous (tree.Choice e y z) m h t = absurd t
fits_in ns o section.OutputItem (tree.Plain e) m h t = first_true (is_output m.section) true h
fits_in ns o section.OutputItem (tree.Wide e y) m h t = absurd t
fits_in ns o section.OutputItem (tree.Choice e y z) m h t = absurd t
fits_in ns o section.Must r m h t = absurd (cc)

aux_is : (s : Section) → is_auxiliary s ≡ true → role_in s ≡ role.Aux
aux_is section.State h = absurd (cc)
aux_is section.Input h = absurd (cc)
aux_is section.Output h = absurd (cc)
aux_is section.Parameter h = absurd (cc)
aux_is section.Aux h = refl
aux_is section.Ad h = absurd (cc)
aux_is section.Da h = absurd (cc)
aux_is section.Logic h = absurd (cc)
aux_is section.Linear h = absurd (cc)
aux_is section.Automata h = absurd (cc)
aux_is section.Continuous h = absurd (cc)
aux_is section.OutputItem h = absurd (cc)
aux_is section.Must h = absurd (cc)

state_is : (s : Section) → is_state s ≡ true → role_in s ≡ role.State
state_is section.State h = refl
state_is section.Input h = absurd (cc)
state_is section.Output h = absurd (cc)
state_is section.Parameter h = absurd (cc)
state_is section.Aux h = absurd (cc)
state_is section.Ad h = absurd (cc)
state_is section.Da h = absurd (cc)
state_is section.Logic h = absurd (cc)
state_is section.Linear h = absurd (cc)
state_is section.Automata h = absurd (cc)
state_is section.Continuous h = absurd (cc)
state_is section.OutputItem h = absurd (cc)
state_is section.Must h = absurd (cc)

output_is : (s : Section) → is_output s ≡ true → role_in s ≡ role.Output
output_is section.State h = absurd (cc)
output_is section.Input h = absurd (cc)
output_is section.Output h = refl
output_is section.Parameter h = absurd (cc)
output_is section.Aux h = absurd (cc)
output_is section.Ad h = absurd (cc)
output_is section.Da h = absurd (cc)
output_is section.Logic h = absurd (cc)
output_is section.Linear h = absurd (cc)
output_is section.Automata h = absurd (cc)
output_is section.Continuous h = absurd (cc)
output_is section.OutputItem h = absurd (cc)
output_is section.Must h = absurd (cc)

bool_is : (k : Kind) → is_bool k ≡ true → k ≡ kind.Bool
bool_is kind.Real h = absurd (cc)
bool_is kind.Bool h = refl

real_is : (k : Kind) → is_real k ≡ true → k ≡ kind.Real
real_is kind.Real h = refl
real_is kind.Bool h = absurd (cc)

module _ (c : Setting) (m : Name) (x : ProgName) (e : Stands m x) where
  has_bool : (part : Section → Bool) (r : Role) → ((s : Section) → part s ≡ true → role_in s ≡ r) → IsDefined part is_bool m → (x.role ≡ r) × (x.kind ≡ kind.Bool)
  has_bool part r f d = (e.role ∙ f m.section d.0, e.kind ∙ bool_is m.kind d.1)

  has_real : (part : Section → Bool) (r : Role) → ((s : Section) → part s ≡ true → role_in s ≡ r) → IsDefined part is_real m → (x.role ≡ r) × (x.kind ≡ kind.Real)
  has_real part r f d = (e.role ∙ f m.section d.0, e.kind ∙ real_is m.kind d.1)

  suits_as : (s s' : said.Body) (b b' : Body) → s ≡ s' → b ≡ b' → (Fits s' m → Suits b' x) → Fits s m → Suits b x
  suits_as s s' b b' i j f = subst₂ (λ s b. Fits s m → Suits b x) (sym i) (sym j) f

  pub body_suits : (s : said.Body) (b : Body) → IsBodyOf c (Some m.kind) s b → Fits s m → Suits b x
  body_suits s b (guard {e = y} {t = t} {f = f} {eps = eps} i j q z) = suits_as s (said.Guard y t) b (means.Guard f eps) i j (has_bool is_auxiliary role.Aux aux_is)
  body_suits s b (choice {e = y} {h = t} {o = o} {l = l} {f = f} {g = g} i j q z w) = suits_as s (said.Choice y t o) b (means.Choice l f g) i j (has_real is_auxiliary role.Aux aux_is)
  body_suits s b (logic {e = y} {l = l} i j z) = suits_as s (said.Logic y) b (means.Logic l) i j (has_bool is_auxiliary role.Aux aux_is)
  body_suits s b (linear {e = y} {f = f} i j z) = suits_as s (said.Linear y) b (means.Linear f) i j (has_real is_auxiliary role.Aux aux_is)
  body_suits s b (next_bool {e = y} {l = l} i j z) = suits_as s (said.NextBool y) b (means.NextBool l) i j (has_bool is_state role.State state_is)
  body_suits s b (next_real {e = y} {f = f} i j z) = suits_as s (said.NextReal y) b (means.NextReal f) i j (has_real is_state role.State state_is)
  body_suits s b (out_bool {e = y} {l = l} k i j z) = suits_as s (said.Output y) b (means.OutBool l) i j (λ t. (e.role ∙ output_is m.section t, e.kind ∙ some_kind m.kind kind.Bool k))
  body_suits s b (out_real {e = y} {f = f} k i j z) = suits_as s (said.Output y) b (means.OutReal f) i j (λ t. (e.role ∙ output_is m.section t, e.kind ∙ some_kind m.kind kind.Real k))
  body_suits s b (must_hold {e = y} {l = l} k i j z) = suits_as s (said.Must y) b (means.MustHold l) i j (λ t. t)
  body_suits s b (must_most {e = y} {f = f} k i j z) = suits_as s (said.Must y) b (means.MustMost f) i j (λ t. t)
  body_suits s b (must_zero {x = y} {y = w} {p = p} {f = f} i j z) = suits_as s (said.Must (tree.Binary binary.Equal y w p)) b (means.MustZero f) i j (λ t. t)

pub item_suits : (c : Setting) (o : Option Name) (m : Name) (x : ProgName) (s : Section) (r : Shape) (b : Body) → Stands m x → IsTrue (suits s (Some m)) → RightTyped c.names o (body_in s r) → IsBodyOf c (Some m.kind) (body_in s r) b → Suits b x
item_suits c o m x s r b e t q i = body_suits c m x e (body_in s r) b i (fits_in c.names o s r m t q)
