-- The names of the program of a source that keeps the rules.
use Rattle.std.proofs.Common.{◌≡◌, ℕ, ◌+◌, List, [], ◌∷◌, Option, Some, None, Bool, true, false, ◌||◌, ◌&&◌, inl, inr, map, cond, refl, sym, ◌∙◌, ap, ap₂, subst}
use Rattle.std.specs.Prelude.{IsTrue, All}
use Rattle.std.specs.List.{AllByRecursion, count_by}
use Rattle.std.proofs.Math.Path.{subst₂}
use Rattle.std.proofs.lemmas.List.Elements.{All-from_recursion}
use Rattle.std.proofs.lemmas.List.Sums.{sum_by-cons}
use Rattle.hys_number.specs.Number.{Number}
use Rattle.hys_number.specs.Ops.{◌≤ₙ◌, whole}
use Rattle.hys_base.specs.Differ.{Apart, Differ}
use Rattle.hys_lin.specs.Bits.{bit, IsBit}
use Rattle.hys_lin.specs.declared.form.Interval.{Interval}
use Rattle.hys_ast.specs.declared.source.Section.{Section}
use Rattle.hys_ast.specs.declared.source.Section.TheVariants as section
use Rattle.hys_ast.specs.declared.source.Kind.{Kind}
use Rattle.hys_ast.specs.declared.source.Kind.TheVariants as kind
use Rattle.hys_ast.specs.Tree.{Tree, Decl}
use Rattle.hys_meaning.specs.Values.{Assignment, truth, given}
use Rattle.hys_meaning.specs.Names.{is_parameter, is_state, is_input, with_value, valued, parameters, end_of}
use Rattle.hys_meaning.specs.Typed.{has_value, has_box, is_real, IsBox}
use Rattle.hys_meaning.specs.Weight.{has_column}
use Rattle.hys_prog.specs.declared.program.Name.{Name as ProgName}
use Rattle.hys_prog.specs.Programs.{KeepsRole, IsBoxOf, IsValueOf, IsNameText, text_of, names_weight}
use Rattle.hys_prog.specs.Programs as program
use Rattle.hys_type.specs.Translation.{role_in, IsNameOf, OneByOne}
use Rattle.hys_type.specs.Declaring.{declares}
use Rattle.hys_type.proofs.KnownValues.{declared_texts, own_text, other_text}

-- ---- values of Boolean parameters
bit_is : (b : Bool) → IsBit (bit b)
bit_is true = inr refl
bit_is false = inl refl

kept_value : (n : List ℕ) (ds : List Decl) (w : Assignment) → Apart n (declared_texts ds) → valued w ds n ≡ w n
kept_value n [] w a = refl
kept_value n (d ∷ ds) w a = kept_value n ds (with_value (is_parameter d.section) d.kind d.name d.value w) a.1 ∙ go (is_parameter d.section) d.value
  where
    go : (b : Bool) (o : Option Tree) → with_value b d.kind d.name o w n ≡ w n
    go true (Some e) = ap (λ b. cond b (given d.kind w e) (w n)) (other_text d.name n a.0)
    go true None = refl
    go false o = refl

-- a Boolean parameter is 0 or 1
abbrev HasBit : Assignment → Decl → Type 0
HasBit w d = IsTrue (is_parameter d.section) → d.kind ≡ kind.Bool → IsBit (w d.name)

bits_from : (w : Assignment) (ds : List Decl) → Differ (declared_texts ds) → AllByRecursion (λ d. IsTrue (is_parameter d.section) → IsTrue (has_value d.value)) ds → AllByRecursion (HasBit (valued w ds)) ds
bits_from w [] a h = tt
bits_from w (d ∷ ds) a h = (
  λ p k. subst IsBit (sym (kept_value d.name ds (with_value (is_parameter d.section) d.kind d.name d.value w) a.0)) (go (is_parameter d.section) d.kind d.value p k (h.0 p)),
  bits_from (with_value (is_parameter d.section) d.kind d.name d.value w) ds a.1 h.1,
)
  where
    go : (b : Bool) (k : Kind) (o : Option Tree) → IsTrue b → k ≡ kind.Bool → IsTrue (has_value o) → IsBit (with_value b k d.name o w d.name)
    go true kind.Bool (Some e) p q r = subst (λ b. IsBit (cond b (bit (truth w e)) (w d.name))) (sym (own_text d.name)) (bit_is (truth w e))
    go true kind.Real (Some e) p q r = absurd (cc)
    go true k None p q r = absurd (cc)
    go false k o p q r = absurd (cc)

-- ---- what a name keeps of its role
box_keeps : (u : Assignment) (k : Kind) (low high : Option Tree) (i : Interval) → (IsTrue (is_real k) → IsBox u low high) → i.low ≡ end_of k (whole 0) u low → i.high ≡ end_of k (whole 1) u high → IsBoxOf k i
box_keeps u kind.Bool low high i h l m = (l, m)
box_keeps u kind.Real (Some x) (Some y) i h l m = subst₂ (λ (a b : Number). a ≤ₙ b) (sym l) (sym m) (h refl)
box_keeps u kind.Real (Some x) None i h l m = absurd (h refl)
box_keeps u kind.Real None high i h l m = absurd (h refl)

value_keeps : (k : Kind) (a : Number) → (k ≡ kind.Bool → IsBit a) → IsValueOf k a
value_keeps kind.Real a h = tt
value_keeps kind.Bool a h = h refl

-- what the rules say of a declaration
pub record Ruled (u : Assignment) (d : Decl) : Type 0 where
  pub bounded : IsTrue (has_box d) → IsBox u d.low d.high
  pub bit : HasBit u d
  pub declares : IsTrue (declares d.section)
  pub spelled : IsNameText d.name

keeps_in : (u : Assignment) (d : Decl) (x : ProgName) → IsNameOf u d x → (s : Section) → d.section ≡ s → (IsTrue ((is_state s || is_input s) && is_real d.kind) → IsBox u d.low d.high) → (IsTrue (is_parameter s) → d.kind ≡ kind.Bool → IsBit (u d.name)) → KeepsRole (role_in s) x
keeps_in u d x h section.State e b v = subst (λ k. IsBoxOf k x.bounds) (sym h.kind) (box_keeps u d.kind d.low d.high x.bounds b (h.low (ap (λ s. is_state s || is_input s) e)) (h.high (ap (λ s. is_state s || is_input s) e)))
keeps_in u d x h section.Input e b v = subst (λ k. IsBoxOf k x.bounds) (sym h.kind) (box_keeps u d.kind d.low d.high x.bounds b (h.low (ap (λ s. is_state s || is_input s) e)) (h.high (ap (λ s. is_state s || is_input s) e)))
keeps_in u d x h section.Output e b v = tt
keeps_in u d x h section.Parameter e b v = subst₂ IsValueOf (sym h.kind) (sym (h.value (ap is_parameter e))) (value_keeps d.kind (u d.name) (v refl))
keeps_in u d x h section.Aux e b v = tt
keeps_in u d x h section.Ad e b v = tt
keeps_in u d x h section.Da e b v = tt
keeps_in u d x h section.Logic e b v = tt
keeps_in u d x h section.Linear e b v = tt
keeps_in u d x h section.Automata e b v = tt
keeps_in u d x h section.Continuous e b v = tt
keeps_in u d x h section.OutputItem e b v = tt
keeps_in u d x h section.Must e b v = tt

keeps_role : (u : Assignment) (d : Decl) (x : ProgName) → IsNameOf u d x → Ruled u d → KeepsRole x.role x
keeps_role u d x h r = subst (λ s. KeepsRole s x) (sym h.role) (keeps_in u d x h d.section refl r.bounded r.bit)

-- ---- lists of names
abbrev OneName : Assignment → (Decl → Type 0) → (ProgName → Type 0) → Type 0
OneName u R P = (d : Decl) (x : ProgName) → IsNameOf u d x → R d → P x

each_program_name : (u : Assignment) (R : Decl → Type 0) (P : ProgName → Type 0) → OneName u R P → (ds : List Decl) (xs : List ProgName) → OneByOne (IsNameOf u) ds xs → AllByRecursion R ds → AllByRecursion P xs
each_program_name u R P f [] [] h r = tt
each_program_name u R P f [] (x ∷ xs) h r = absurd h
each_program_name u R P f (d ∷ ds) [] h r = absurd h
each_program_name u R P f (d ∷ ds) (x ∷ xs) h r = (f d x h.0 r.0, each_program_name u R P f ds xs h.1 r.1)

pub roles_kept : (u : Assignment) (ds : List Decl) (xs : List ProgName) → OneByOne (IsNameOf u) ds xs → AllByRecursion (Ruled u) ds → All (λ x. KeepsRole x.role x) xs
roles_kept u ds xs h r = All-from_recursion (λ (x : ProgName). KeepsRole x.role x) xs (each_program_name u (Ruled u) (λ x. KeepsRole x.role x) (keeps_role u) ds xs h r)

pub names_spelled : (u : Assignment) (ds : List Decl) (xs : List ProgName) → OneByOne (IsNameOf u) ds xs → AllByRecursion (Ruled u) ds → All (λ x. IsNameText x.text) xs
names_spelled u ds xs h r = All-from_recursion (λ (x : ProgName). IsNameText x.text) xs (each_program_name u (Ruled u) (λ x. IsNameText x.text) (λ d x i q. subst IsNameText (sym i.text) q.spelled) ds xs h r)

program_texts : (u : Assignment) (ds : List Decl) (xs : List ProgName) → OneByOne (IsNameOf u) ds xs → map text_of xs ≡ declared_texts ds
program_texts u [] [] h = refl
program_texts u [] (x ∷ xs) h = absurd h
program_texts u (d ∷ ds) [] h = absurd h
program_texts u (d ∷ ds) (x ∷ xs) h = ap₂ (λ t ts. t ∷ ts) h.0.text (program_texts u ds xs h.1)

pub texts_differ : (u : Assignment) (ds : List Decl) (xs : List ProgName) → OneByOne (IsNameOf u) ds xs → Differ (declared_texts ds) → Differ (map text_of xs)
texts_differ u ds xs h a = subst Differ (sym (program_texts u ds xs h)) a

-- ---- weight
column_role : (s : Section) → IsTrue (declares s) → program.has_column (role_in s) ≡ has_column s
column_role section.State h = refl
column_role section.Input h = refl
column_role section.Output h = refl
column_role section.Parameter h = refl
column_role section.Aux h = refl
column_role section.Ad h = absurd (cc)
column_role section.Da h = absurd (cc)
column_role section.Logic h = absurd (cc)
column_role section.Linear h = absurd (cc)
column_role section.Automata h = absurd (cc)
column_role section.Continuous h = absurd (cc)
column_role section.OutputItem h = absurd (cc)
column_role section.Must h = absurd (cc)

pub columns_declared : (u : Assignment) (ds : List Decl) (xs : List ProgName) → OneByOne (IsNameOf u) ds xs → AllByRecursion (λ d. IsTrue (declares d.section)) ds → count_by (λ d. has_column d.section) ds ≡ names_weight xs
columns_declared u [] [] h r = refl
columns_declared u [] (x ∷ xs) h r = absurd h
columns_declared u (d ∷ ds) [] h r = absurd h
columns_declared u (d ∷ ds) (x ∷ xs) h r =
    sum_by-cons (λ (y : Decl). cond (has_column y.section) 1 0) d ds
    ∙ ap₂ (λ (b : Bool) (n : ℕ). cond b 1 0 + n) (sym (ap program.has_column h.0.role ∙ column_role d.section r.0)) (columns_declared u ds xs h.1 r.1)

all_declare : (u : Assignment) (ds : List Decl) → AllByRecursion (Ruled u) ds → AllByRecursion (λ d. IsTrue (declares d.section)) ds
all_declare u [] r = tt
all_declare u (d ∷ ds) r = (r.0.declares, all_declare u ds r.1)

pub columns_weigh : (u : Assignment) (ds : List Decl) (xs : List ProgName) → OneByOne (IsNameOf u) ds xs → AllByRecursion (Ruled u) ds → count_by (λ d. has_column d.section) ds ≡ names_weight xs
columns_weigh u ds xs h r = columns_declared u ds xs h (all_declare u ds r)

-- ---- what the rules say of each declaration
pub all_ruled : (u : Assignment) (ds : List Decl) → AllByRecursion (λ d. IsTrue (has_box d) → IsBox u d.low d.high) ds → AllByRecursion (HasBit u) ds → AllByRecursion (λ d. IsTrue (declares d.section) × IsNameText d.name) ds → AllByRecursion (Ruled u) ds
all_ruled u [] b v n = tt
all_ruled u (d ∷ ds) b v n = (record { bounded = b.0; bit = v.0; declares = n.0.0; spelled = n.0.1 }, all_ruled u ds b.1 v.1 n.1)

pub parameter_bits : (ds : List Decl) → Differ (declared_texts ds) → AllByRecursion (λ d. IsTrue (is_parameter d.section) → IsTrue (has_value d.value)) ds → AllByRecursion (HasBit (parameters ds)) ds
parameter_bits ds a h = bits_from (λ n. whole 0) ds a h
