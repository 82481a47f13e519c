-- What an answer says of its own tree: nothing here knows the nodes that it came from.
use Rattle.std.specs.Prelude.{◌≡◌, ℕ, ◌+◌, ◌<◌, ◌≤◌, Bool, true, false, List, [], ◌∷◌, length, get_or, take, Option, Some, None, ◌⊎◌}
use Rattle.hys_number.specs.Number.{Number}
use Rattle.hys_lin.specs.declared.problem.Problem.{Problem}
use Rattle.hys_relax.specs.Bound.{AreMultipliers}
use Rattle.hys_relax.specs.declared.fixing.Fixing.{Fixing}
use Rattle.hys_relax.specs.declared.range.RangeAt.{RangeAt}
use Rattle.hys_tree.specs.Certificate.{preorder}
use Rattle.hys_tree.specs.Certificate.{Certificate as Tree}
use Rattle.hys_tree.specs.declared.answer.Answer.{Answer}
use Rattle.hys_tree.specs.declared.answer.Best.{Best}
use Rattle.hys_tree.specs.declared.answer.Claim.{Claim}
use Rattle.hys_tree.specs.declared.answer.Claim.TheVariants.{Least, NoneExists, AtLeast}
use Rattle.hys_tree.specs.declared.answer.Why.{Why}
use Rattle.hys_tree.specs.declared.answer.Why.TheVariants.{Spent, Range}
use Rattle.hys_tree.specs.declared.tree.TreePlace.{TreePlace}
use Rattle.hys_tree.specs.declared.tree.TreePlace.TheVariants.{Inner, Cost, Never}
use Rattle.hys_search.specs.Branching.{AllFixed, IsUnfit, IsJustified, bound_at}
use Rattle.hys_search.specs.Standings.{IsSettledBy, Beats}
use Rattle.hys_search.specs.Places.{walk, visit}

-- ---- at a place, under the fixings of its path
-- the branch column of an inner place has its cause
abbrev pub HasCause : Problem → List Fixing → TreePlace → Type 0
HasCause p fs (Inner c) = IsJustified p fs c
HasCause p fs (Cost m k) = Unit {0}
HasCause p fs (Never m k) = Unit {0}

-- the multipliers of a leaf are written as such: their rows rise and none is 0
abbrev pub HasRising : TreePlace → Type 0
HasRising (Inner c) = Unit {0}
HasRising (Cost m k) = AreMultipliers m.pairs
HasRising (Never m k) = AreMultipliers m.pairs

-- a Cost leaf with this bound
abbrev pub IsCostOf : Problem → Number → List Fixing → TreePlace → Type 0
IsCostOf p z fs (Inner c) = ⊥
IsCostOf p z fs (Cost m k) = bound_at p (take k fs) m ≡ z
IsCostOf p z fs (Never m k) = ⊥

-- a Cost leaf whose bound is below the best cost, or where there is no best
abbrev pub IsOpen : Problem → Option Best → List Fixing → TreePlace → Type 0
IsOpen p b fs (Inner c) = ⊥
IsOpen p b fs (Cost m k) = Beats b (bound_at p (take k fs) m)
IsOpen p b fs (Never m k) = ⊥

-- no open Cost leaf
abbrev pub IsShut : Problem → Option Best → List Fixing → TreePlace → Type 0
IsShut p b fs (Inner c) = Unit {0}
IsShut p b fs (Cost m k) = IsSettledBy b (bound_at p (take k fs) m)
IsShut p b fs (Never m k) = Unit {0}

-- every branch column is fixed, and a number doesn't fit
abbrev pub IsStranded : Problem → List Fixing → RangeAt → Type 0
IsStranded p fs r = AllFixed p fs × IsUnfit p fs r

-- where it is a Cost leaf it isn't open, or a number doesn't fit and every branch column is fixed
abbrev pub IsSettled : Problem → Option Best → List Fixing → TreePlace → Type 0
IsSettled p b fs t = IsShut p b fs t ⊎ ((r : RangeAt) × IsStranded p fs r)

-- a settled Cost leaf
abbrev pub IsSettledCost : Problem → Option Best → List Fixing → TreePlace → Type 0
IsSettledCost p b fs (Inner c) = ⊥
IsSettledCost p b fs (Cost m k) = IsSettled p b fs (Cost m k)
IsSettledCost p b fs (Never m k) = ⊥

-- ---- counts of places
abbrev pub is_inner_or_never : TreePlace → Bool
is_inner_or_never (Inner c) = true
is_inner_or_never (Cost m k) = false
is_inner_or_never (Never m k) = true

abbrev pub one_if : Bool → ℕ
one_if true = 1
one_if false = 0

abbrev pub count : List TreePlace → ℕ
count [] = 0
count (t ∷ ts) = one_if (is_inner_or_never t) + count ts

abbrev pub marked : List Bool → ℕ
marked [] = 0
marked (b ∷ bs) = one_if b + marked bs

-- marks at settled Cost leaves, so many that with the inner and Never places they reach a number: so that number is at
-- most that of the inner, Never and settled places
pub record Reaches (p : Problem) (b : Option Best) (t : Tree) (places : List TreePlace) (n : ℕ) : Type 0 where
  pub marks : List Bool
  pub as_many : length marks ≡ length (walk [] t)
  pub settled : (i : ℕ) → i < length marks → get_or marks i false ≡ true →
      IsSettledCost p b (visit t i).fixings (visit t i).place
  pub enough : n ≤ count places + marked marks

-- ---- claims
-- the best that a claim shows
abbrev pub best_of : Claim → Option Best
best_of (Least b) = Some b
best_of NoneExists = None
best_of (AtLeast z best why) = best

-- some Cost leaf is open
abbrev pub SomeOpen : Problem → Option Best → Tree → Type 0
SomeOpen p best t = (i : ℕ) × (i < length (walk [] t)) × IsOpen p best (visit t i).fixings (visit t i).place

-- every Cost leaf is settled
abbrev pub AllSettled : Problem → Option Best → Tree → Type 0
AllSettled p best t = (i : ℕ) → i < length (walk [] t) → IsSettled p best (visit t i).fixings (visit t i).place

-- the leaf at place i is the first open one, and it is stranded at this number
pub record IsFirstOpen (p : Problem) (best : Option Best) (t : Tree) (i : ℕ) (r : RangeAt) : Type 0 where
  pub there : i < length (walk [] t)
  pub is_open : IsOpen p best (visit t i).fixings (visit t i).place
  pub stranded : IsStranded p (visit t i).fixings r
  pub first : (j : ℕ) → j < i → IsShut p best (visit t j).fixings (visit t j).place

-- as many nodes were expanded as were allowed, and a Cost leaf is open; or every Cost leaf is settled, and the first
-- open one is shown with the number that doesn't fit there
abbrev pub WhyShown : Problem → ℕ → ℕ → Option Best → Tree → Why → Type 0
WhyShown p nodes expanded best t (Spent n) = (n ≡ nodes) × (n ≡ expanded) × SomeOpen p best t
WhyShown p nodes expanded best t (Range i r) = AllSettled p best t × IsFirstOpen p best t i r

-- under a lower bound some Cost leaf has it, and the cause is shown
abbrev pub EndShown : Problem → ℕ → ℕ → Tree → Claim → Type 0
EndShown p nodes expanded t (Least b) = Unit {0}
EndShown p nodes expanded t NoneExists = Unit {0}
EndShown p nodes expanded t (AtLeast z best why) =
    ((i : ℕ) × (i < length (walk [] t)) × IsCostOf p z (visit t i).fixings (visit t i).place)
    × WhyShown p nodes expanded best t why

pub record IsAnswered (p : Problem) (nodes : ℕ) (a : Answer) : Type 0 where
  pub tree : Tree
  pub preordered : preorder tree ≡ a.tree.places
  pub causes : (i : ℕ) → i < length (walk [] tree) → HasCause p (visit tree i).fixings (visit tree i).place
  pub rising : (i : ℕ) → i < length (walk [] tree) → HasRising (visit tree i).place
  pub within : a.expanded ≤ nodes
  pub fewest : count a.tree.places ≤ a.expanded
  pub most : Reaches p (best_of a.claim) tree a.tree.places a.expanded
  pub ended : EndShown p nodes a.expanded tree a.claim

-- the nodes weren't spent
abbrev pub IsNotSpentWhy : Why → Type 0
IsNotSpentWhy (Spent n) = ⊥
IsNotSpentWhy (Range i r) = Unit {0}

abbrev pub IsNotSpent : Claim → Type 0
IsNotSpent (Least b) = Unit {0}
IsNotSpent NoneExists = Unit {0}
IsNotSpent (AtLeast z best why) = IsNotSpentWhy why
