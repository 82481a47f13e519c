-- Lists of texts, as of names, with no text twice.
use Rattle.std.specs.Prelude.{◌≡◌, ℕ, List, [], ◌∷◌}

-- the text is none of the list
abbrev pub Apart : List ℕ → List (List ℕ) → Type 0
Apart text [] = Unit {0}
Apart text (other ∷ others) = ¬ (other ≡ text) × Apart text others

-- the texts differ
abbrev pub Differ : List (List ℕ) → Type 0
Differ [] = Unit {0}
Differ (text ∷ texts) = Apart text texts × Differ texts
