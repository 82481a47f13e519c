-- What a definition mentions, orders of definition, and lists of definitions that lead back to their first.
use Rattle.std.specs.Prelude.{◌≡◌, ℕ, List, [], ◌∷◌, Some, ◌⊎◌}
use Rattle.std.specs.List.{AllByRecursion}
use Rattle.hys_lin.specs.declared.form.Term.{Term}
use Rattle.hys_formula.specs.Formulas.{FormulaTree, constant, named, negated, joined, tree_of}
use Rattle.hys_prog.specs.declared.program.Body.{Body}
use Rattle.hys_prog.specs.declared.program.Body.TheVariants.{Guard, Choice, Logic, Linear, NextBool, NextReal, OutBool, OutReal, MustHold, MustMost, MustZero}
use Rattle.hys_prog.specs.declared.program.ProgItem.{ProgItem}
use Rattle.hys_prog.specs.declared.program.Program.{Program}
use Rattle.hys_prog.specs.declared.program.Order.{Order}
use Rattle.hys_prog.specs.Steps.{places, is_auxiliary}

-- ---- mentions
-- the name stands in the formula
abbrev pub Stands : ℕ → FormulaTree → Type 0
Stands n (constant b) = ⊥
Stands n (named m) = m ≡ n
Stands n (negated f) = Stands n f
Stands n (joined c f g) = Stands n f ⊎ Stands n g

-- the name has a term in the form; no term's factor is 0
abbrev pub HasTerm : ℕ → List Term → Type 0
HasTerm n [] = ⊥
HasTerm n (t ∷ ts) = (t.column ≡ n) ⊎ HasTerm n ts

-- the definition of an auxiliary mentions the name: it stands in the formula or the condition, or has a factor in
-- the guard number or in an affine form
abbrev pub MentionedIn : ℕ → Body → Type 0
MentionedIn n (Guard f e) = HasTerm n f.terms
MentionedIn n (Choice l a b) = Stands n (tree_of l) ⊎ (HasTerm n a.terms ⊎ HasTerm n b.terms)
MentionedIn n (Logic l) = Stands n (tree_of l)
MentionedIn n (Linear f) = HasTerm n f.terms
MentionedIn n (NextBool l) = ⊥
MentionedIn n (NextReal f) = ⊥
MentionedIn n (OutBool l) = ⊥
MentionedIn n (OutReal f) = ⊥
MentionedIn n (MustHold l) = ⊥
MentionedIn n (MustMost f) = ⊥
MentionedIn n (MustZero f) = ⊥

-- the property holds of an item of the list
abbrev pub SomeItem : (ProgItem → Type 0) → List ProgItem → Type 0
SomeItem P [] = ⊥
SomeItem P (t ∷ ts) = P t ⊎ SomeItem P ts

-- the item that defines the one name mentions the other
abbrev pub Leads : Program → ℕ → ℕ → Type 0
Leads p n m = SomeItem (λ t. (t.name ≡ Some n) × MentionedIn m t.body) p.items

-- ---- circular lists
-- the name is none of the list
abbrev pub IsNone : ℕ → List ℕ → Type 0
IsNone n [] = Unit {0}
IsNone n (m ∷ ms) = ¬ (m ≡ n) × IsNone n ms

abbrev pub AreDifferent : List ℕ → Type 0
AreDifferent [] = Unit {0}
AreDifferent (n ∷ ns) = IsNone n ns × AreDifferent ns

-- the name is one of the list
abbrev pub IsIn : ℕ → List ℕ → Type 0
IsIn n [] = ⊥
IsIn n (m ∷ ms) = (m ≡ n) ⊎ IsIn n ms

-- each name mentions the next, and the last mentions the name that is given
abbrev pub LeadsTo : Program → ℕ → List ℕ → Type 0
LeadsTo p first [] = Unit {0}
LeadsTo p first (n ∷ []) = Leads p n first
LeadsTo p first (n ∷ m ∷ ns) = Leads p n m × LeadsTo p first (m ∷ ns)

-- each name is an auxiliary
abbrev pub AreAuxiliaries : Program → List ℕ → Type 0
AreAuxiliaries p ns = AllByRecursion (λ m. IsIn m (places is_auxiliary p)) ns

-- different auxiliaries, of which each is mentioned in the definition of the one before it, and the first in that
-- of the last
abbrev pub Circular : Program → List ℕ → Type 0
Circular p [] = ⊥
Circular p (n ∷ ns) = AreAuxiliaries p (n ∷ ns) × AreDifferent (n ∷ ns) × LeadsTo p n (n ∷ ns)

-- ---- orders of definition
-- the name isn't taken, and each auxiliary that its definition mentions is
abbrev pub IsReady : Program → List ℕ → ℕ → Type 0
IsReady p taken n = IsNone n taken × AllByRecursion (λ m. Leads p n m → IsIn m taken) (places is_auxiliary p)

-- the name is the first of the list that has the property
abbrev pub IsFirst : (ℕ → Type 0) → ℕ → List ℕ → Type 0
IsFirst P n [] = ⊥
IsFirst P n (m ∷ ms) = (P m × (m ≡ n)) ⊎ (¬ (P m) × IsFirst P n ms)

-- each name is the first declared auxiliary that is ready when those before it are taken, and in the end all are
abbrev pub IsOrderAfter : Program → List ℕ → List ℕ → Type 0
IsOrderAfter p taken [] = AllByRecursion (λ n. IsIn n taken) (places is_auxiliary p)
IsOrderAfter p taken (n ∷ ns) = IsFirst (IsReady p taken) n (places is_auxiliary p) × IsOrderAfter p (n ∷ taken) ns

-- the auxiliaries in the order of their definition: again and again the first declared one whose mentioned
-- auxiliaries are all taken
abbrev pub IsOrder : Program → Order → Type 0
IsOrder p o = IsOrderAfter p [] o.names
