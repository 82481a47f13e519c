-- Sources at the limits and above them.
use Rattle.std.specs.Prelude.{ℕ, zero, suc, [], codes, replicate}
use Rattle.hys_ast.specs.declared.source.Section.TheVariants as section
use Rattle.hys_ast.specs.Tree.{Tree, Source}
use Rattle.hys_examples.specs.Trees.{number, minus, bool, item}

-- n signs before a number
unfoldable pub signs : ℕ → Tree
signs zero = number (codes "1")
signs (suc n) = minus (signs n)

-- k items, each of n signs before a number
abbrev pub signed : ℕ → ℕ → Source
signed k n = record { system = codes "l"; decls = []; items = replicate k (item section.Linear (codes "z") (signs n)) }

-- n names
abbrev pub named : ℕ → Source
named n = record { system = codes "n"; decls = replicate n (bool section.Input (codes "a")); items = [] }
