-- What a definition mentions, and lists of definitions that lead back to their first.
use Rattle.std.specs.Prelude.{ℕ, List, [], ◌∷◌, Option, Some, None, Bool, false, ◌||◌, ◌⊎◌, ◌≢◌, IsTrue}
use Rattle.std.specs.Str.{bytes_eq}
use Rattle.std.specs.List.{AllByRecursion}
use Rattle.hys_number.specs.Ops.{whole}
use Rattle.hys_ast.specs.Tree.{Tree, Item, Source}
use Rattle.hys_ast.specs.Tree as tree
use Rattle.hys_meaning.specs.Names.{Name, names, look, is_auxiliary}
use Rattle.hys_meaning.specs.Forms.{Form, form, guard_form}
use Rattle.hys_meaning.specs.Bodies.{Body}
use Rattle.hys_meaning.specs.Bodies as body
use Rattle.hys_meaning.specs.Typed.{differ, any_kind, is_left, defines}

-- the name stands in the expression
abbrev pub stands : List ℕ → Tree → Bool
stands n (tree.Number text p) = false
stands n (tree.Name m p) = bytes_eq n m
stands n (tree.Truth b p) = false
stands n (tree.Cast m p) = bytes_eq n m
stands n (tree.Unary op a p) = stands n a
stands n (tree.Binary op a b p) = stands n a || stands n b

-- the name has a factor in the form: one whose factors cancel has none
abbrev pub HasFactor : List ℕ → Form → Type 0
HasFactor n f = f.factor n ≢ whole 0

abbrev pub InMaybe : (Tree → Type 0) → Option Tree → Type 0
InMaybe P (Some e) = P e
InMaybe P None = ⊥

-- the right side mentions the name: the name stands in the formula or the condition, or has a
-- factor in the guard number or in an affine form; a tolerance mentions none
abbrev pub MentionedIn : List Name → List ℕ → Body → Type 0
MentionedIn ns n (body.Guard e t) = HasFactor n (guard_form ns e)
MentionedIn ns n (body.Choice a b c) = IsTrue (stands n a) ⊎ (HasFactor n (form ns b) ⊎ InMaybe (λ e. HasFactor n (form ns e)) c)
MentionedIn ns n (body.Logic e) = IsTrue (stands n e)
MentionedIn ns n (body.Linear e) = HasFactor n (form ns e)
MentionedIn ns n (body.NextBool e) = ⊥
MentionedIn ns n (body.NextReal e) = ⊥
MentionedIn ns n (body.Output e) = ⊥
MentionedIn ns n (body.Must e) = ⊥
MentionedIn ns n body.Nothing = ⊥

-- the property holds of an item of the list
abbrev pub SomeItem : (Item → Type 0) → List Item → Type 0
SomeItem P [] = ⊥
SomeItem P (i ∷ is) = P i ⊎ SomeItem P is

-- an item of the source defines the one name and mentions the other
abbrev pub Leads : Source → List ℕ → List ℕ → Type 0
Leads s n m = SomeItem (λ i. IsTrue (defines n i.name) × MentionedIn (names s) m (body.body i)) s.items

-- each name mentions the next, and the last mentions the name that is given
abbrev pub LeadsTo : Source → List ℕ → List (List ℕ) → Type 0
LeadsTo s first [] = Unit {0}
LeadsTo s first (n ∷ []) = Leads s n first
LeadsTo s first (n ∷ m ∷ ns) = Leads s n m × LeadsTo s first (m ∷ ns)

abbrev pub IsAuxiliary : List Name → List ℕ → Type 0
IsAuxiliary ns n = IsTrue (is_left is_auxiliary any_kind (look ns n))

-- different AUX names, of which each is mentioned in the definition of the one before it, and the
-- first in that of the last
abbrev pub Circular : Source → List (List ℕ) → Type 0
Circular s [] = ⊥
Circular s (n ∷ ns) = AllByRecursion (IsAuxiliary (names s)) (n ∷ ns) × IsTrue (differ (n ∷ ns)) × LeadsTo s n (n ∷ ns)
