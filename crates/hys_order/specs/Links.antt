-- Names with the lists of names that they lead to, of which some are taken.
use Rattle.std.specs.Prelude.{◌≡◌, ℕ, suc, ◌<◌, ◌≤◌, MatchOption, Option, List, [], ◌∷◌, Bool, true, false, length, ◌↔◌, ◌++◌, take, drop}
use Rattle.std.proofs.Common.{get_or, set}
use Rattle.std.specs.List.{AllByRecursion}
use Rattle.hys_prog.specs.Steps.{places, is_auxiliary}
use Rattle.hys_prog.specs.Orders.{IsIn, IsFirst, AreDifferent, Leads}
use Rattle.hys_prog.specs.declared.program.Program.{Program}

abbrev pub link : List (List ℕ) → ℕ → List ℕ
link links n = get_or links n []

-- one of the names, which isn't taken
abbrev pub Untaken : List Bool → ℕ → Type 0
Untaken taken n = get_or taken n true ≡ false

-- the number of the names that aren't taken
abbrev pub unset : List Bool → ℕ
unset [] = 0
unset (true ∷ bs) = unset bs
unset (false ∷ bs) = suc (unset bs)

-- the names at the first places of the list are taken
abbrev pub Passed : List Bool → List ℕ → ℕ → Type 0
Passed taken ms count = (k : ℕ) → k < count → get_or taken (get_or ms k 0) true ≡ true

-- each name is one of so many
abbrev pub Below : ℕ → List ℕ → Type 0
Below count ms = (k : ℕ) → k < length ms → get_or ms k 0 < count

-- the name isn't taken, and all that it leads to are
pub record Ready (taken : List Bool) (links : List (List ℕ)) (n : ℕ) : Type 0 where
  pub free : Untaken taken n
  pub passed : Passed taken (link links n) (length (link links n))

-- the name is the first of the list that is ready
abbrev pub IsFirstReady : List (List ℕ) → List ℕ → List Bool → ℕ → Type 0
IsFirstReady links names taken n = IsFirst (Ready taken links) n names

-- the names are the first ready ones of the list, one after the other, with what is taken in the end
abbrev pub Taking : List (List ℕ) → List ℕ → List Bool → List ℕ → List Bool → Type 0
Taking links names taken [] end = taken ≡ end
Taking links names taken (n ∷ ns) end = IsFirstReady links names taken n × Taking links names (set taken n true) ns end

-- none of the names is ready
abbrev pub IsStuck : List (List ℕ) → List ℕ → List Bool → Type 0
IsStuck links names taken = (k : ℕ) → k < length names → ¬ (Ready taken links (get_or names k 0))

-- the first ready name of the list, or none where none is ready
abbrev pub SelectsReady : List (List ℕ) → List ℕ → List Bool → Option ℕ → Type 0
SelectsReady links names taken selected = MatchOption selected (IsStuck links names taken) (IsFirstReady links names taken)

-- the list is that long, and that many of its names, from the first on, are taken
abbrev pub IsCursor : List Bool → List ℕ → ℕ → Type 0
IsCursor taken ms place = (place ≤ length ms) × Passed taken ms place

-- of each name that many that it leads to are taken
abbrev pub AreCursors : List Bool → List (List ℕ) → List ℕ → Type 0
AreCursors taken links cursors = (n : ℕ) → n < length links → IsCursor taken (link links n) (get_or cursors n 0)

-- each name leads to names among those that the lists are of
abbrev pub AreLinks : List (List ℕ) → Type 0
AreLinks links = (n : ℕ) → Below (length links) (link links n)

-- ---- rounds
abbrev pub head_or : ℕ → List ℕ → ℕ
head_or first [] = first
head_or first (n ∷ ns) = n

-- each name leads to the next, and the last to the one that is given
abbrev pub Chain : List (List ℕ) → ℕ → List ℕ → Type 0
Chain links first [] = Unit {0}
Chain links first (n ∷ ns) = IsIn (head_or first ns) (link links n) × Chain links first ns

-- different names that aren't taken, of which each leads to the next and the last to the first
pub record Round (taken : List Bool) (links : List (List ℕ)) (first : ℕ) (ns : List ℕ) : Type 0 where
  pub free : AllByRecursion (Untaken taken) ns
  pub different : AreDifferent ns
  pub chain : Chain links first ns

-- a round that isn't empty and leads back to its first name
abbrev pub IsRound : List Bool → List (List ℕ) → List ℕ → Type 0
IsRound taken links [] = ⊥
IsRound taken links (n ∷ ns) = Round taken links n (n ∷ ns)

-- the names from the place of the least on, and then those before it
pub record IsTurned (names turned : List ℕ) : Type 0 where
  pub place : ℕ
  pub within : place < length names
  pub turned_is : turned ≡ drop place names ++ take place names
  pub least : (k : ℕ) → k < length names → get_or names place 0 ≤ get_or names k 0

-- ---- a program's
-- the lists lead from each auxiliary to what its definition mentions
pub record AreLinksOf (p : Program) (links : List (List ℕ)) : Type 0 where
  pub count : length links ≡ length p.names
  pub below : AreLinks links
  pub leads : (n m : ℕ) → IsIn n (places is_auxiliary p) → Leads p n m ↔ IsIn m (link links n)
