-- The keywords and the signs, each known by its place in its list.
use Rattle.std.specs.Prelude.{◌≡◌, ℕ, ◌<◌, List, [], ◌∷◌, length, map, slice_index_or, codes}
use denote.Ref.{Bor}

unfoldable pub keywords : List (List ℕ)
keywords =
    codes "SYSTEM" ∷ codes "INTERFACE" ∷ codes "IMPLEMENTATION" ∷ codes "STATE" ∷ codes "INPUT" ∷ codes "OUTPUT"
    ∷ codes "PARAMETER" ∷ codes "AUX" ∷ codes "AD" ∷ codes "DA" ∷ codes "LOGIC" ∷ codes "LINEAR" ∷ codes "AUTOMATA"
    ∷ codes "CONTINUOUS" ∷ codes "MUST" ∷ codes "REAL" ∷ codes "BOOL" ∷ codes "IF" ∷ codes "THEN" ∷ codes "ELSE"
    ∷ codes "TRUE" ∷ codes "true" ∷ codes "FALSE" ∷ codes "false" ∷ []

unfoldable pub signs : List (List ℕ)
signs =
    codes "{" ∷ codes "}" ∷ codes "(" ∷ codes ")" ∷ codes "[" ∷ codes "]" ∷ codes "," ∷ codes ";" ∷ codes "=" ∷ codes "<="
    ∷ codes ">=" ∷ codes "==" ∷ codes "+" ∷ codes "-" ∷ codes "*" ∷ codes "/" ∷ codes "~" ∷ codes "!" ∷ codes "&"
    ∷ codes "&&" ∷ codes "|" ∷ codes "||" ∷ codes "->" ∷ codes "<-" ∷ codes "<->" ∷ []

-- the bytes stand at place k of the list
abbrev pub IsAt : List (List ℕ) → ℕ → List ℕ → Type 0
IsAt words k bytes = (k < length words) × (slice_index_or words k [] ≡ bytes)

-- the bytes stand at no place of the list
abbrev pub IsNowhere : List (List ℕ) → List ℕ → Type 0
IsNowhere words bytes = (k : ℕ) → IsAt words k bytes → ⊥

-- the words that are borrowed
abbrev pub lent : List (Bor (List ℕ)) → List (List ℕ)
lent words = map (λ w. w.now) words
