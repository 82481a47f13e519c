-- Declared names and the set of their texts.
use Rattle.std.specs.Prelude.{◌≡◌, ℕ, List, true, map, String, string_bytes}
use Rattle.std.specs.Global.{Global}
use Rattle.hys_meaning.specs.Typed.{differ}
use Rattle.hys_type.specs.declared.scope.Declared.{Declared}

abbrev pub texts : List Declared → List (List ℕ)
texts ds = map (λ d. d.text) ds

-- the texts of the names in their order, no two of which are one
pub record AreTexts (ds : List Declared) (ks : List (String Global)) : Type 0 where
  pub same : map string_bytes ks ≡ texts ds
  pub once : differ (texts ds) ≡ true
