-- What every program keeps.
use Rattle.std.specs.Prelude.{◌≡◌, ℕ, zero, suc, ◌+◌, List, [], ◌∷◌, Bool, true, false, Option, Some, None, All, cond, length, map, ◌++◌, ◌⊎◌, codes}
use Rattle.std.proofs.Common.{eqb}
use Rattle.std.specs.Fmt.{decimal}
use Rattle.hys_number.specs.Number.{Number}
use Rattle.hys_number.specs.Ops.{◌<ₙ◌, whole}
use Rattle.hys_base.specs.Differ.{Differ}
use Rattle.hys_lin.specs.declared.form.Affine.{Affine}
use Rattle.hys_lin.specs.declared.form.Interval.{Interval}
use Rattle.hys_lin.specs.Bits.{IsBit}
use Rattle.hys_lin.specs.Sums.{AreTerms, EachColumn, IsInterval}
use Rattle.hys_lex.specs.declared.token.TokenKind.TheVariants.{Name as Word}
use Rattle.hys_lex.specs.Pieces.{IsTokenText, IsShort}
use Rattle.hys_ast.specs.declared.source.Kind.{Kind}
use Rattle.hys_ast.specs.declared.source.Kind.TheVariants.{Real, Bool as Truth}
use Rattle.hys_prog.specs.declared.program.Role.{Role}
use Rattle.hys_prog.specs.declared.program.Role.TheVariants.{State, Input, Output, Parameter, Aux}
use Rattle.hys_prog.specs.declared.program.Name.{Name}
use Rattle.hys_prog.specs.declared.program.Body.{Body}
use Rattle.hys_prog.specs.declared.program.Body.TheVariants.{Guard, Choice, Logic, Linear, NextBool, NextReal, OutBool, OutReal, MustHold, MustMost, MustZero}
use Rattle.hys_prog.specs.declared.program.ProgItem.{ProgItem}
use Rattle.hys_prog.specs.declared.program.Program.{Program}
use Rattle.hys_formula.specs.declared.formula.Formula.{Formula}
use Rattle.hys_formula.specs.Formulas.{tree_of, EachName, connectives}

-- ---- names
-- there is a name at the place, and it has the property
abbrev pub NameAt : List Name → ℕ → (Name → Type 0) → Type 0
NameAt [] n P = ⊥
NameAt (x ∷ xs) zero P = P x
NameAt (x ∷ xs) (suc n) P = NameAt xs n P

-- a state, an input or an auxiliary, which has a column
abbrev pub has_column : Role → Bool
has_column State = true
has_column Input = true
has_column Output = false
has_column Parameter = false
has_column Aux = true

-- an auxiliary, a state or an output, which an item defines
abbrev pub is_defined : Role → Bool
is_defined State = true
is_defined Input = false
is_defined Output = true
is_defined Parameter = false
is_defined Aux = true

abbrev pub IsVariable : Name → Type 0
IsVariable x = has_column x.role ≡ true

abbrev pub IsBooleanVariable : Name → Type 0
IsBooleanVariable x = (has_column x.role ≡ true) × (x.kind ≡ Truth)

abbrev pub Has : Role → Kind → Name → Type 0
Has r k x = (x.role ≡ r) × (x.kind ≡ k)

-- the body defines such a name
abbrev pub Suits : Body → Name → Type 0
Suits (Guard f e) x = Has Aux Truth x
Suits (Choice l a b) x = Has Aux Real x
Suits (Logic l) x = Has Aux Truth x
Suits (Linear f) x = Has Aux Real x
Suits (NextBool l) x = Has State Truth x
Suits (NextReal f) x = Has State Real x
Suits (OutBool l) x = Has Output Truth x
Suits (OutReal f) x = Has Output Real x
Suits (MustHold l) x = ⊥
Suits (MustMost f) x = ⊥
Suits (MustZero f) x = ⊥

-- the body demands something and defines no name
abbrev pub is_must : Body → Bool
is_must (Guard f e) = false
is_must (Choice l a b) = false
is_must (Logic l) = false
is_must (Linear f) = false
is_must (NextBool l) = false
is_must (NextReal f) = false
is_must (OutBool l) = false
is_must (OutReal f) = false
is_must (MustHold l) = true
is_must (MustMost f) = true
is_must (MustZero f) = true

-- ---- what a body mentions
abbrev pub FormOver : List Name → Affine → Type 0
FormOver names f = AreTerms f.terms × EachColumn (λ n. NameAt names n IsVariable) f.terms

abbrev pub FormulaOver : List Name → Formula → Type 0
FormulaOver names l = EachName (λ n. NameAt names n IsBooleanVariable) (tree_of l)

-- forms name states, inputs and auxiliaries, formulas Boolean ones of these; a tolerance is above 0
abbrev pub BodyOver : List Name → Body → Type 0
BodyOver names (Guard f e) = FormOver names f × (whole 0 <ₙ e)
BodyOver names (Choice l a b) = FormulaOver names l × FormOver names a × FormOver names b
BodyOver names (Logic l) = FormulaOver names l
BodyOver names (Linear f) = FormOver names f
BodyOver names (NextBool l) = FormulaOver names l
BodyOver names (NextReal f) = FormOver names f
BodyOver names (OutBool l) = FormulaOver names l
BodyOver names (OutReal f) = FormOver names f
BodyOver names (MustHold l) = FormulaOver names l
BodyOver names (MustMost f) = FormOver names f
BodyOver names (MustZero f) = FormOver names f

-- ---- items
-- an item that demands has no name, and another defines one that its body suits
abbrev pub Named : List Name → Option ℕ → Body → Type 0
Named names None b = is_must b ≡ true
Named names (Some n) b = NameAt names n (Suits b)

abbrev pub EachItem : (ProgItem → Type 0) → List ProgItem → Type 0
EachItem P [] = Unit {0}
EachItem P (t ∷ ts) = P t × EachItem P ts

abbrev pub is_named : ℕ → Option ℕ → Bool
is_named n None = false
is_named n (Some m) = eqb m n

-- the number of items that define the name
abbrev pub definitions : ℕ → List ProgItem → ℕ
definitions n [] = 0
definitions n (t ∷ ts) = cond (is_named n t.name) 1 0 + definitions n ts

-- ---- weight
abbrev pub body_connectives : Body → ℕ
body_connectives (Guard f e) = 0
body_connectives (Choice l a b) = connectives (tree_of l)
body_connectives (Logic l) = connectives (tree_of l)
body_connectives (Linear f) = 0
body_connectives (NextBool l) = connectives (tree_of l)
body_connectives (NextReal f) = 0
body_connectives (OutBool l) = connectives (tree_of l)
body_connectives (OutReal f) = 0
body_connectives (MustHold l) = connectives (tree_of l)
body_connectives (MustMost f) = 0
body_connectives (MustZero f) = 0

abbrev pub names_weight : List Name → ℕ
names_weight [] = 0
names_weight (x ∷ xs) = cond (has_column x.role) 1 0 + names_weight xs

abbrev pub items_weight : List ProgItem → ℕ
items_weight [] = 0
items_weight (t ∷ ts) = body_connectives t.body + cond (is_must t.body) 1 0 + items_weight ts

-- ---- texts
abbrev pub text_of : Name → List ℕ
text_of x = x.text

-- the text is a name of the language: a word of at most 64 bytes, and no keyword
abbrev pub IsWord : List ℕ → Type 0
IsWord text = IsTokenText Word text × IsShort Word (length text)

-- the text of a guard that has no name in the source: `@` and its number
pub record IsGuardText (text : List ℕ) : Type 0 where
  pub number : ℕ
  pub text_is : text ≡ codes "@" ++ decimal number

-- so no name of a program begins with `#`, as the names of fresh columns do
abbrev pub IsNameText : List ℕ → Type 0
IsNameText text = IsWord text ⊎ IsGuardText text

-- ---- boxes and values
-- a state's or an input's box: low is at most high, and that of a Boolean one is 0 to 1
abbrev pub IsBoxOf : Kind → Interval → Type 0
IsBoxOf Real i = IsInterval i
IsBoxOf Truth i = (i.low ≡ whole 0) × (i.high ≡ whole 1)

-- a Boolean parameter is 0 or 1
abbrev pub IsValueOf : Kind → Number → Type 0
IsValueOf Real a = Unit {0}
IsValueOf Truth a = IsBit a

-- what a name of the role keeps of its box and its value
abbrev pub KeepsRole : Role → Name → Type 0
KeepsRole State x = IsBoxOf x.kind x.bounds
KeepsRole Input x = IsBoxOf x.kind x.bounds
KeepsRole Output x = Unit {0}
KeepsRole Parameter x = IsValueOf x.kind x.value
KeepsRole Aux x = Unit {0}

-- what every program keeps
pub record IsProgram (p : Program) : Type 0 where
  pub roles : All (λ x. KeepsRole x.role x) p.names
  pub bodies : EachItem (λ t. BodyOver p.names t.body) p.items
  pub named : EachItem (λ t. Named p.names t.name t.body) p.items
  pub once : (n : ℕ) → NameAt p.names n (λ x. is_defined x.role ≡ true) → definitions n p.items ≡ 1
  pub texts : Differ (map text_of p.names)
  pub spelled : All (λ x. IsNameText x.text) p.names
  pub weight : p.weight ≡ names_weight p.names + items_weight p.items
