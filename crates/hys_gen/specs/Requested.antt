-- The request for a plan of a chain of tanks, as a text that is fixed by their number.
use Rattle.std.specs.Prelude.{ℕ, nat_le, List, [], ◌∷◌, ◌++◌, codes, if◌then◌else◌}
use Rattle.std.specs.Fmt.{decimal}

-- the numbers from 2 to 20, in the byte order of their texts
unfoldable pub further_tanks : List ℕ
further_tanks = 10 ∷ 11 ∷ 12 ∷ 13 ∷ 14 ∷ 15 ∷ 16 ∷ 17 ∷ 18 ∷ 19 ∷ 2 ∷ 20 ∷ 3 ∷ 4 ∷ 5 ∷ 6 ∷ 7 ∷ 8 ∷ 9 ∷ []

-- the member for the start of the tank i, behind another one, where there are k tanks
abbrev pub further_start : ℕ → ℕ → List ℕ
further_start k i = if nat_le i k then codes ",\"h" ++ (decimal i ++ codes "\":\"50\"") else []

unfoldable pub further_starts : ℕ → List ℕ → List ℕ
further_starts k [] = []
further_starts k (i ∷ is) = further_start k i ++ further_starts k is

-- The request for k tanks: two steps, each tank from a level of 50, and the level of the last one at the end as the
-- cost. Members stand in the byte order of their keys.
unfoldable pub request_text : ℕ → List ℕ
request_text k =
    codes "{\"final\":{\"h" ++ (decimal k
    ++ (codes "\":\"1\"},\"horizon\":2,\"nodes\":64,\"pick\":\"bound\",\"start\":{\"h1\":\"50\""
    ++ (further_starts k further_tanks ++ codes "}}\n")))
