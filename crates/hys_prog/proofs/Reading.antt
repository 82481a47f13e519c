-- What a body reads: assignments that agree there give the same number and the same checks.
use Rattle.std.proofs.Common.{◌≡◌, ℕ, zero, suc, List, [], ◌∷◌, ◌++◌, Option, Some, None, Bool, true, false, cond, refl, ◌∙◌, ap, ap₂, subst, inl, inr, not}
use Rattle.hys_number.specs.Number.{Number}
use Rattle.hys_number.specs.Ops.{◌+ₙ◌, ◌*ₙ◌, whole}
use Rattle.hys_lin.specs.declared.form.Term.{Term}
use Rattle.hys_lin.specs.declared.form.Affine.{Affine}
use Rattle.hys_lin.specs.declared.lost.Lost.{Lost}
use Rattle.hys_lin.specs.Bits.{bit, is_one}
use Rattle.hys_lin.specs.Sums.{Assignment, sum_of, value, EachColumn}
use Rattle.hys_lin.specs.Operations.{summing, times, plus}
use Rattle.hys_formula.specs.Formulas.{FormulaTree, constant, named, negated, joined, tree_of, truth, connect, EachName}
use Rattle.hys_prog.specs.declared.program.Role.{Role}
use Rattle.hys_prog.specs.declared.program.Role.TheVariants.{State, Output}
use Rattle.hys_prog.specs.declared.program.Name.{Name}
use Rattle.hys_prog.specs.declared.program.Body.{Body}
use Rattle.hys_prog.specs.declared.program.Body.TheVariants.{Guard, Choice, Logic, Linear, NextBool, NextReal, OutBool, OutReal, MustHold, MustMost, MustZero}
use Rattle.hys_prog.specs.declared.program.ProgItem.{ProgItem}
use Rattle.hys_prog.specs.declared.stop.Stop.TheVariants.{Must}
use Rattle.hys_prog.specs.Programs.{EachItem, NameAt, BodyOver, Named, Suits, IsVariable, IsBooleanVariable, is_named, is_must}
use Rattle.hys_prog.specs.Steps.{is_auxiliary}
use Rattle.hys_prog.specs.Orders.{Stands, HasTerm, MentionedIn, SomeItem}
use Rattle.hys_prog.specs.Stops.{Check, at_most, equals, fitting, form_fits, no_gap, one, number_of, body_checks, number_in, numbers_in, checks_of, checks_along, demands_from}
use Rattle.hys_prog.proofs.Defined.{some_named}

-- each name that the body reads has the property
abbrev pub Reads : (ℕ → Type 0) → Body → Type 0
Reads P (Guard f e) = EachColumn P f.terms
Reads P (Choice l a b) = EachName P (tree_of l) × EachColumn P a.terms × EachColumn P b.terms
Reads P (Logic l) = EachName P (tree_of l)
Reads P (Linear f) = EachColumn P f.terms
Reads P (NextBool l) = EachName P (tree_of l)
Reads P (NextReal f) = EachColumn P f.terms
Reads P (OutBool l) = EachName P (tree_of l)
Reads P (OutReal f) = EachColumn P f.terms
Reads P (MustHold l) = EachName P (tree_of l)
Reads P (MustMost f) = EachColumn P f.terms
Reads P (MustZero f) = EachColumn P f.terms

-- ---- assignments that agree
abbrev pub Same : Assignment → Assignment → ℕ → Type 0
Same v w n = v n ≡ w n

same_sum : (v w : Assignment) (ts : List Term) → EachColumn (Same v w) ts → sum_of ts v ≡ sum_of ts w
same_sum v w [] h = refl
same_sum v w (t ∷ ts) h = ap₂ (λ (a b : Number). t.factor *ₙ a +ₙ b) h.0 (same_sum v w ts h.1)

pub same_value : (v w : Assignment) (f : Affine) → EachColumn (Same v w) f.terms → value f v ≡ value f w
unfolding value
same_value v w f h = ap (λ (a : Number). a +ₙ f.constant) (same_sum v w f.terms h)

same_summing : (v w : Assignment) (start : Number) (ts : List Term) → EachColumn (Same v w) ts → summing start ts (λ (t : Term). v t.column) ≡ summing start ts (λ (t : Term). w t.column)
same_summing v w start [] h = refl
same_summing v w start (t ∷ ts) h =
    ap (λ (os : List Lost). times t.factor (v t.column) ∷ plus start (t.factor *ₙ v t.column) ∷ os) (same_summing v w (start +ₙ t.factor *ₙ v t.column) ts h.1)
    ∙ ap (λ (a : Number). times t.factor a ∷ plus start (t.factor *ₙ a) ∷ summing (start +ₙ t.factor *ₙ a) ts (λ (t : Term). w t.column)) h.0

pub same_truth : (v w : Assignment) (f : FormulaTree) → EachName (Same v w) f → truth f v ≡ truth f w
same_truth v w (constant b) h = refl
same_truth v w (named n) h = ap is_one h
same_truth v w (negated f) h = ap not (same_truth v w f h)
same_truth v w (joined c f g) h = ap₂ (connect c) (same_truth v w f h.0) (same_truth v w g h.1)

same_fits : (v w : Assignment) (k : ℕ) (f : Affine) → EachColumn (Same v w) f.terms → form_fits v k f ≡ form_fits w k f
same_fits v w k f h = ap (fitting k) (same_summing v w f.constant f.terms h)

chosen : (P : ℕ → Type 0) (c : Bool) (a b : Affine) → EachColumn P a.terms → EachColumn P b.terms → EachColumn P (cond c a b).terms
chosen P true a b h k = h
chosen P false a b h k = k

pub same_number_of : (v w : Assignment) (b : Body) → Reads (Same v w) b → number_of v b ≡ number_of w b
same_number_of v w (Guard f e) h = ap (λ (a : Number). bit (at_most a (whole 0))) (same_value v w f h)
same_number_of v w (Choice l a b) h =
    same_value v w (cond (truth (tree_of l) v) a b) (chosen (Same v w) (truth (tree_of l) v) a b h.1 h.2)
    ∙ ap (λ (c : Bool). value (cond c a b) w) (same_truth v w (tree_of l) h.0)
same_number_of v w (Logic l) h = ap bit (same_truth v w (tree_of l) h)
same_number_of v w (Linear f) h = same_value v w f h
same_number_of v w (NextBool l) h = ap bit (same_truth v w (tree_of l) h)
same_number_of v w (NextReal f) h = same_value v w f h
same_number_of v w (OutBool l) h = ap bit (same_truth v w (tree_of l) h)
same_number_of v w (OutReal f) h = same_value v w f h
same_number_of v w (MustHold l) h = ap bit (same_truth v w (tree_of l) h)
same_number_of v w (MustMost f) h = same_value v w f h
same_number_of v w (MustZero f) h = same_value v w f h

pub same_checks : (v w : Assignment) (k : ℕ) (b : Body) → Reads (Same v w) b → body_checks v k b ≡ body_checks w k b
same_checks v w k (Guard f e) h = ap₂ (λ (cs : List Check) (a : Number). cs ++ no_gap k e a) (same_fits v w k f h) (same_value v w f h)
same_checks v w k (Choice l a b) h =
    same_fits v w k (cond (truth (tree_of l) v) a b) (chosen (Same v w) (truth (tree_of l) v) a b h.1 h.2)
    ∙ ap (λ (c : Bool). form_fits w k (cond c a b)) (same_truth v w (tree_of l) h.0)
same_checks v w k (Logic l) h = refl
same_checks v w k (Linear f) h = same_fits v w k f h
same_checks v w k (NextBool l) h = refl
same_checks v w k (NextReal f) h = same_fits v w k f h
same_checks v w k (OutBool l) h = refl
same_checks v w k (OutReal f) h = same_fits v w k f h
same_checks v w k (MustHold l) h = ap (λ (c : Bool). one c (Must k)) (same_truth v w (tree_of l) h)
same_checks v w k (MustMost f) h = ap₂ (λ (cs : List Check) (a : Number). cs ++ one (at_most a (whole 0)) (Must k)) (same_fits v w k f h) (same_value v w f h)
same_checks v w k (MustZero f) h = ap₂ (λ (cs : List Check) (a : Number). cs ++ one (equals a (whole 0)) (Must k)) (same_fits v w k f h) (same_value v w f h)

-- ---- of the definition of one name
abbrev pub ReadsFor : (ℕ → Type 0) → ℕ → List ProgItem → Type 0
ReadsFor P n ts = EachItem (λ t. t.name ≡ Some n → Reads P t.body) ts

pub same_number_in : (v w : Assignment) (n : ℕ) (ts : List ProgItem) → ReadsFor (Same v w) n ts → number_in v n ts ≡ number_in w n ts
same_number_in v w n [] h = refl
same_number_in v w n (t ∷ ts) h = go (is_named n t.name) refl (same_number_in v w n ts h.1)
  where
    go : (b : Bool) → is_named n t.name ≡ b → number_in v n ts ≡ number_in w n ts → cond b (number_of v t.body) (number_in v n ts) ≡ cond b (number_of w t.body) (number_in w n ts)
    go true e r = same_number_of v w t.body (h.0 (some_named n t.name e))
    go false e r = r

pub same_checks_of : (v w : Assignment) (n k : ℕ) (ts : List ProgItem) → ReadsFor (Same v w) n ts → checks_of v n k ts ≡ checks_of w n k ts
same_checks_of v w n k [] h = refl
same_checks_of v w n k (t ∷ ts) h = go (is_named n t.name) refl (same_checks_of v w n (suc k) ts h.1)
  where
    go : (b : Bool) → is_named n t.name ≡ b → checks_of v n (suc k) ts ≡ checks_of w n (suc k) ts → cond b (body_checks v k t.body) (checks_of v n (suc k) ts) ≡ cond b (body_checks w k t.body) (checks_of w n (suc k) ts)
    go true e r = same_checks v w k t.body (h.0 (some_named n t.name e))
    go false e r = r

-- ---- of all definitions
abbrev pub AllRead : (ℕ → Type 0) → List ProgItem → Type 0
AllRead P ts = EachItem (λ t. Reads P t.body) ts

pub reads_for : (P : ℕ → Type 0) (n : ℕ) (ts : List ProgItem) → AllRead P ts → ReadsFor P n ts
reads_for P n [] h = tt
reads_for P n (t ∷ ts) h = (λ e. h.0, reads_for P n ts h.1)

pub same_along : (v w : Assignment) (ts : List ProgItem) (ns : List ℕ) → AllRead (Same v w) ts → checks_along v ts ns ≡ checks_along w ts ns
same_along v w ts [] h = refl
same_along v w ts (n ∷ ns) h = ap₂ (λ (xs ys : List Check). xs ++ ys) (same_checks_of v w n 0 ts (reads_for (Same v w) n ts h)) (same_along v w ts ns h)

pub same_numbers : (v w : Assignment) (ts : List ProgItem) (ns : List ℕ) → AllRead (Same v w) ts → numbers_in v ts ns ≡ numbers_in w ts ns
same_numbers v w ts [] h = refl
same_numbers v w ts (n ∷ ns) h = ap₂ (λ (a : Number) (xs : List Number). a ∷ xs) (same_number_in v w n ts (reads_for (Same v w) n ts h)) (same_numbers v w ts ns h)

pub same_demands : (v w : Assignment) (k : ℕ) (ts : List ProgItem) → AllRead (Same v w) ts → demands_from k v ts ≡ demands_from k w ts
same_demands v w k [] h = refl
same_demands v w k (t ∷ ts) h = ap₂ (λ (xs ys : List Check). cond (is_must t.body) xs [] ++ ys) (same_checks v w k t.body h.0) (same_demands v w (suc k) ts h.1)

-- ---- what is read
column_some : (P : ℕ → Type 0) (names : List Name) (ts : List Term) → EachColumn (λ n. NameAt names n IsVariable) ts → ((m : ℕ) → NameAt names m IsVariable → HasTerm m ts → P m) → EachColumn P ts
column_some P names [] h f = tt
column_some P names (t ∷ ts) h f = (f t.column h.0 (inl refl), column_some P names ts h.1 (λ m a i. f m a (inr i)))

variable : (xs : List Name) (n : ℕ) → NameAt xs n IsBooleanVariable → NameAt xs n IsVariable
variable [] n h = absurd h
variable (x ∷ xs) zero h = h.0
variable (x ∷ xs) (suc n) h = variable xs n h

name_some : (P : ℕ → Type 0) (names : List Name) (f : FormulaTree) → EachName (λ n. NameAt names n IsBooleanVariable) f → ((m : ℕ) → NameAt names m IsVariable → Stands m f → P m) → EachName P f
name_some P names (constant b) h f = tt
name_some P names (named n) h f = f n (variable names n h) refl
name_some P names (negated g) h f = name_some P names g h f
name_some P names (joined c g k) h f = (name_some P names g h.0 (λ m a i. f m a (inl i)), name_some P names k h.1 (λ m a i. f m a (inr i)))

pub reads_all : (P : ℕ → Type 0) (names : List Name) (b : Body) → BodyOver names b → ((m : ℕ) → NameAt names m IsVariable → P m) → Reads P b
reads_all P names (Guard g e) h f = column_some P names g.terms h.0.1 (λ m a i. f m a)
reads_all P names (Choice l a b) h f = (name_some P names (tree_of l) h.0 (λ m a i. f m a), column_some P names a.terms h.1.1 (λ m a i. f m a), column_some P names b.terms h.2.1 (λ m a i. f m a))
reads_all P names (Logic l) h f = name_some P names (tree_of l) h (λ m a i. f m a)
reads_all P names (Linear g) h f = column_some P names g.terms h.1 (λ m a i. f m a)
reads_all P names (NextBool l) h f = name_some P names (tree_of l) h (λ m a i. f m a)
reads_all P names (NextReal g) h f = column_some P names g.terms h.1 (λ m a i. f m a)
reads_all P names (OutBool l) h f = name_some P names (tree_of l) h (λ m a i. f m a)
reads_all P names (OutReal g) h f = column_some P names g.terms h.1 (λ m a i. f m a)
reads_all P names (MustHold l) h f = name_some P names (tree_of l) h (λ m a i. f m a)
reads_all P names (MustMost g) h f = column_some P names g.terms h.1 (λ m a i. f m a)
reads_all P names (MustZero g) h f = column_some P names g.terms h.1 (λ m a i. f m a)

pub all_read : (P : ℕ → Type 0) (names : List Name) (ts : List ProgItem) → EachItem (λ t. BodyOver names t.body) ts → ((m : ℕ) → NameAt names m IsVariable → P m) → AllRead P ts
all_read P names [] h f = tt
all_read P names (t ∷ ts) h f = (reads_all P names t.body h.0 f, all_read P names ts h.1 f)

-- the body defines an auxiliary
abbrev pub IsAuxBody : Body → Type 0
IsAuxBody b = (x : Name) × Suits b x × (is_auxiliary x.role ≡ true)

clash_role : (r s : Role) → r ≡ s → is_auxiliary s ≡ false → is_auxiliary r ≡ true → ⊥
clash_role r s e f g = let q = rw e at g in absurd (cc)

reads_some : (P : ℕ → Type 0) (names : List Name) (b : Body) → BodyOver names b → IsAuxBody b → ((m : ℕ) → NameAt names m IsVariable → MentionedIn m b → P m) → Reads P b
reads_some P names (Guard g e) h s f = column_some P names g.terms h.0.1 f
reads_some P names (Choice l a b) h s f = (name_some P names (tree_of l) h.0 (λ m v i. f m v (inl i)), column_some P names a.terms h.1.1 (λ m v i. f m v (inr (inl i))), column_some P names b.terms h.2.1 (λ m v i. f m v (inr (inr i))))
reads_some P names (Logic l) h s f = name_some P names (tree_of l) h f
reads_some P names (Linear g) h s f = column_some P names g.terms h.1 f
reads_some P names (NextBool l) h s f = absurd (clash_role s.0.role State s.1.0 refl s.2)
reads_some P names (NextReal g) h s f = absurd (clash_role s.0.role State s.1.0 refl s.2)
reads_some P names (OutBool l) h s f = absurd (clash_role s.0.role Output s.1.0 refl s.2)
reads_some P names (OutReal g) h s f = absurd (clash_role s.0.role Output s.1.0 refl s.2)
reads_some P names (MustHold l) h s f = absurd (s.1)
reads_some P names (MustMost g) h s f = absurd (s.1)
reads_some P names (MustZero g) h s f = absurd (s.1)

pub aux_suits : (xs : List Name) (n : ℕ) (b : Body) → NameAt xs n (Suits b) → NameAt xs n (λ x. is_auxiliary x.role ≡ true) → IsAuxBody b
aux_suits [] n b h a = absurd h
aux_suits (x ∷ xs) zero b h a = (x, h, a)
aux_suits (x ∷ xs) (suc n) b h a = aux_suits xs n b h a

pub named_suits : (names : List Name) (n : ℕ) (o : Option ℕ) (b : Body) → o ≡ Some n → Named names o b → NameAt names n (Suits b)
named_suits names n None b e h = absurd (cc)
named_suits names n (Some m) b e h = let q : m ≡ n = cc in subst (λ (i : ℕ). NameAt names i (Suits b)) q h

pub each_reads : (P : ℕ → Type 0) (names : List Name) (n : ℕ) (ts : List ProgItem) → EachItem (λ t. BodyOver names t.body) ts → EachItem (λ t. Named names t.name t.body) ts → NameAt names n (λ x. is_auxiliary x.role ≡ true) →
    ((m : ℕ) → NameAt names m IsVariable → SomeItem (λ t. (t.name ≡ Some n) × MentionedIn m t.body) ts → P m) → ReadsFor P n ts
each_reads P names n [] h k a f = tt
each_reads P names n (t ∷ ts) h k a f = (λ e. reads_some P names t.body h.0 (aux_suits names n t.body (named_suits names n t.name t.body e k.0) a) (λ m v i. f m v (inl (e, i))), each_reads P names n ts h.1 k.1 a (λ m v i. f m v (inr i)))
